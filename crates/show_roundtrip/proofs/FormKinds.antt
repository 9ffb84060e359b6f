-- The kinds of references and of forms, by the kinds of names.

use Rattle.std.proofs.Common.{◌≡◌, ◌∙◌, ℕ, Bool, true, false, List, [], ◌∷◌, ◌++◌, length, Some, None, Ok, Err, refl, ap, ap₂}
use Rattle.std.specs.Prelude.{if◌then◌else◌, is_some, nat_le, ◌||◌, ◌&&◌}
use Rattle.std.specs.Str.{bytes_eq}
use Rattle.mltl_base.specs.declared.interval.Interval.{Interval}
use Rattle.mltl_base.specs.declared.limits.TheConstants.{MAX_BOUND, MAX_SIGNALS}
use Rattle.mltl_base.specs.declared.operators.ArithOp.{ArithOp}
use Rattle.mltl_base.specs.declared.operators.BetweenOp.{BetweenOp}
use Rattle.mltl_base.specs.declared.operators.CompareOp.{CompareOp}
use Rattle.mltl_base.specs.declared.operators.LogicOp.{LogicOp}
use Rattle.c2po_types.specs.Tables.{Table, entry_of, is_named}
use Rattle.c2po_types.specs.declared.kind.Kind.{Kind}
use Rattle.c2po_types.specs.declared.kind.Meaning.{Meaning}
use Rattle.c2po_types.specs.declared.kind.Meaning.TheVariants.{Value}
use Rattle.c2po_types.specs.declared.declarations.Declarations.{Declarations}
use Rattle.c2po_types.specs.declared.fault.TypeFault.TheVariants as fault
use Rattle.c2po_types.specs.Checking.{Checked, ◌>>=◌}
use Rattle.c2po_types.specs.Kinds.{whole, truth, known_value}
use Rattle.c2po_types.specs.Scopes.{outside}
use Rattle.c2po_types.specs.Expressions.{kind_of, two, of_one, of_two, within_bounds}
use Rattle.c2po_types.specs.Items.{new, with_value, formula_kind, contract_kind}
use Rattle.obs_show.specs.Lines.{Reference, always, named, number, Form, minus, arith as computes, compare, negation, logic, between, input, define}
use Rattle.c2po_types.proofs.SignalLaws.{signal_last}
use Rattle.std.proofs.lemmas.Slice.Eq.{bytes_eq-Decides}
use Rattle.show_roundtrip.specs.Said.{reference_shape, form_shape}
use Rattle.show_roundtrip.proofs.Fresh.{with_is}
use Rattle.show_roundtrip.proofs.Passing.{KindPasses}

-- ---- tables of names

-- a later table, in which names keep their meanings
abbrev pub HasLater : Table Meaning → Table Meaning → Type 0
HasLater names later = (x : List ℕ) (m : Meaning) → entry_of x names ≡ Some m → entry_of x later ≡ Some m

pub push_later : (names : Table Meaning) (x : List ℕ) (m : Meaning) → HasLater names (names ++ (x, m) ∷ [])
push_later [] x m y k h = absurd (cc)
push_later (e ∷ names) x m y k h = go (push_later names x m y k) (bytes_eq y e.0) h
  where
    go : (entry_of y names ≡ Some k → entry_of y (names ++ (x, m) ∷ []) ≡ Some k) → (b : Bool) → (if b then Some e.1 else entry_of y names) ≡ Some k
        → (if b then Some e.1 else entry_of y (names ++ (x, m) ∷ [])) ≡ Some k
    go ih true g = g
    go ih false g = ih g

-- the one more name stands for what was put, where it is new
pub pushed_entry : (names : Table Meaning) (x : List ℕ) (m : Meaning) → is_named x names ≡ false → entry_of x (names ++ (x, m) ∷ []) ≡ Some m
pushed_entry [] x m h = ap (λ (b : Bool). if b then Some m else None) ((bytes_eq-Decides x x).1 refl)
pushed_entry (e ∷ names) x m h = go (pushed_entry names x m) (bytes_eq x e.0) h
  where
    go : (is_named x names ≡ false → entry_of x (names ++ (x, m) ∷ []) ≡ Some m) → (b : Bool) → is_some (if b then Some e.1 else entry_of x names) ≡ false
        → (if b then Some e.1 else entry_of x (names ++ (x, m) ∷ [])) ≡ Some m
    go ih true g = absurd (cc)
    go ih false g = ih g

-- a name is in a table with one more entry where it is in the table, or is that entry's
pub pushed_named : (names : Table Meaning) (x y : List ℕ) (m : Meaning) → is_named y (names ++ (x, m) ∷ []) ≡ (is_named y names || bytes_eq y x)
pushed_named [] x y m = go (bytes_eq y x)
  where
    go : (b : Bool) → is_some (if b then Some m else None) ≡ b
    go true = refl
    go false = refl
pushed_named (e ∷ names) x y m = go (pushed_named names x y m) (bytes_eq y e.0)
  where
    go : is_named y (names ++ (x, m) ∷ []) ≡ (is_named y names || bytes_eq y x) → (b : Bool)
        → is_some (if b then Some e.1 else entry_of y (names ++ (x, m) ∷ [])) ≡ (is_some (if b then Some e.1 else entry_of y names) || bytes_eq y x)
    go ih true = refl
    go ih false = ih

-- ---- references and forms

-- a reference has a kind where names have their meanings
abbrev pub HasKindIn : Table Meaning → Reference → Kind → Type 0
HasKindIn names always k = k ≡ truth
HasKindIn names (named x) k = entry_of x names ≡ Some (Value k)
HasKindIn names (number z) k = k ≡ whole

pub kind_later : (names later : Table Meaning) (x : Reference) (k : Kind) → HasLater names later → HasKindIn names x k → HasKindIn later x k
kind_later names later (named x) k g h = g x (Value k) h
kind_later names later _ k g h = h

reference_kind : (n : ℕ) (x : Reference) (d : Declarations) (k : Kind) → HasKindIn d.names x k → kind_of (reference_shape n x) (outside d) ≡ Ok k
reference_kind n (named x) d k h = ap (known_value n) h
reference_kind n _ d k h = rw h refl

two_kinds : (n : ℕ) (x y : Reference) (d : Declarations) (k : Kind) → HasKindIn d.names x k → HasKindIn d.names y k
    → two (kind_of (reference_shape n x) (outside d)) (kind_of (reference_shape n y) (outside d)) ≡ Ok (k, k)
two_kinds n x y d k h g = ap₂ two (reference_kind n x d k h) (reference_kind n y d k g)

-- a form has a kind, on whatever line it stands
abbrev pub FormHasKind : Declarations → Form → Kind → Type 0
FormHasKind d f k = (n : ℕ) → kind_of (form_shape n f) (outside d) ≡ Ok k

pub minus_kind : (x : Reference) (d : Declarations) → HasKindIn d.names x whole → FormHasKind d (minus x) whole
minus_kind x d h n = ap (λ (m : Checked Kind). m >>= of_one n whole whole) (reference_kind n x d whole h)

pub arith_kind : (op : ArithOp) (x y : Reference) (d : Declarations) → HasKindIn d.names x whole → HasKindIn d.names y whole → FormHasKind d (computes op x y) whole
arith_kind op x y d h g n = ap (λ (m : Checked (Kind × Kind)). m >>= of_two n whole whole) (two_kinds n x y d whole h g)

pub compare_kind : (op : CompareOp) (x y : Reference) (d : Declarations) → HasKindIn d.names x whole → HasKindIn d.names y whole → FormHasKind d (compare op x y) truth
compare_kind op x y d h g n = ap (λ (m : Checked (Kind × Kind)). m >>= of_two n whole truth) (two_kinds n x y d whole h g)

pub negation_kind : (x : Reference) (d : Declarations) → HasKindIn d.names x truth → FormHasKind d (negation x) truth
negation_kind x d h n = ap (λ (m : Checked Kind). m >>= of_one n truth truth) (reference_kind n x d truth h)

pub logic_kind : (op : LogicOp) (x y : Reference) (d : Declarations) → HasKindIn d.names x truth → HasKindIn d.names y truth → FormHasKind d (logic op x y) truth
logic_kind op x y d h g n = ap (λ (m : Checked (Kind × Kind)). m >>= of_two n truth truth) (two_kinds n x y d truth h g)

pub between_kind : (op : BetweenOp) (i : Interval) (x y : Reference) (d : Declarations) → (nat_le i.lo i.hi && nat_le i.hi MAX_BOUND) ≡ true → HasKindIn d.names x truth → HasKindIn d.names y truth
    → FormHasKind d (between op i x y) truth
between_kind op i x y d window h g n =
    ap (λ (m : Checked (Kind × Kind)). m >>= λ ks. within_bounds n i.lo i.hi (of_two n truth truth ks)) (two_kinds n x y d truth h g)
    ∙ ap (λ (b : Bool). let m : Checked Kind = if b then Ok truth else Err (fault.Bounds n) in m) window

-- ---- lines

pub input_passes : (n : ℕ) (x : List ℕ) (b : Bool) (d : Declarations) → is_named x d.names ≡ false → nat_le MAX_SIGNALS (length d.signals) ≡ false → KindPasses n (input x b) d (signal_last b x d)
input_passes n x b d free few =
    with_is n x b d
    ∙ ap₂ (λ (named full : Bool). (let m : Checked Declarations = if named then Err (fault.Twice n) else if full then Err (fault.Signals n) else Ok (signal_last b x d) in m) >>= λ c. Ok c) free few

pub define_passes : (n : ℕ) (x : List ℕ) (f : Form) (d : Declarations) (k : Kind) → is_named x d.names ≡ false → FormHasKind d f k → KindPasses n (define x f) d (with_value x k d)
define_passes n x f d k free kind = (
  k,
  ap (λ (m : Checked Kind). m >>= λ j. new n x d.names (Ok j)) (kind n) ∙ ap (λ (b : Bool). let m : Checked Kind = if b then Err (fault.Twice n) else Ok k in m) free,
  refl,
)

pub formula_passes : (n : ℕ) (x : Reference) (d : Declarations) → HasKindIn d.names x truth → formula_kind n (reference_shape n x) d ≡ Ok truth
formula_passes n x d h = ap (λ (m : Checked Kind). m >>= of_one n truth truth) (reference_kind n x d truth h)

pub contract_passes : (n : ℕ) (x y : Reference) (d : Declarations) → HasKindIn d.names x truth → HasKindIn d.names y truth → contract_kind n (reference_shape n x) (reference_shape n y) d ≡ Ok truth
contract_passes n x y d h g = ap (λ (m : Checked (Kind × Kind)). m >>= of_two n truth truth) (two_kinds n x y d truth h g)
