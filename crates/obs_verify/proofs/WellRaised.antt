-- A well-formed program of version 1 whose columns are read in one way stays so with the signals that it reads.
use Rattle.std.proofs.Common.{◌≡◌, ℕ, ◌+◌, ◌<◌, ◌≤◌, ◌==◌, zero, suc, Bool, true, false, Option, Some, None, List, [], ◌∷◌, ◌++◌, All, length, take, slice_index_or, refl, ap, sym, ◌∙◌, arith, subst, inl, inr, eq-eqb, append_assoc}
use Rattle.std.specs.Prelude.{◌&&◌, ◌||◌, not, decimal, if◌then◌else◌, ⊤}
use Rattle.std.specs.List.{cons_option, filter_map, list_any, range_with_len}
use Rattle.std.specs.Str.{bytes_eq}
use Rattle.std.proofs.lemmas.Bool.{leb-true, lt-ltb, ltb-true, and_from, or_right}
use Rattle.std.proofs.lemmas.Bool.Decides.{eqb_tells}
use Rattle.std.proofs.lemmas.Fmt.{decimal_injective}
use Rattle.std.proofs.lemmas.List.{append-nil, get_or-take, get_or_default, length-take}
use Rattle.std.proofs.lemmas.List.Elements.{filter_map-append}
use Rattle.std.proofs.lemmas.List.Folds.{list_any-append, list_any_none}
use Rattle.std.proofs.lemmas.Slice.Eq.{bytes_eq-Decides}
use Rattle.mltl_base.specs.declared.operators.BzOp.{BzOp}
use Rattle.mltl_base.specs.declared.operators.BzOp.TheVariants.{Column, IsTrue, Const, Neg, Add, Sub, Mul, Div, Rem, Eq, Lt, Le}
use Rattle.mltl_base.specs.declared.program.Program.{Program}
use Rattle.mltl_base.specs.declared.program.StoredSignal.{StoredSignal}
use Rattle.mltl_base.specs.Programs.{output_names, outputs}
use Rattle.obs_verify.specs.Kept.{IsKept}
use Rattle.obs_verify.specs.SignalNumbers.{signals_read}
use Rattle.obs_verify.specs.Reading.{ReadsWithin}
use Rattle.obs_verify.specs.Upgrade.{clashes, column_name, first_clash, raised, signal_read, reads, signal_in, signal_of, signals_below, up}
use Rattle.obs_verify.specs.WellFormed.{IsWellFormed, bz_fault, first_in, has_kind, has_operands, is_column_of, signal_fault}
use Rattle.obs_verify.proofs.ExpressionLaws.{bz_range}
use Rattle.obs_verify.proofs.RuleLaws.{and_left, or_none, unless_true}
use Rattle.obs_verify.proofs.SignalLaws.{any-push, unless_both}
use Rattle.obs_verify.proofs.SoundLaws.{each}
use Rattle.obs_verify.proofs.UpgradeLaws.{at_column, reads_column, reads_none, reads_truth, signals_at}
use Rattle.obs_verify.proofs.WellBound.{both_none, from_each}

-- ---- columns that are read in one way

pub IsOneWay : List StoredSignal → Type 0
IsOneWay signals = (c : ℕ) → has_kind signals c true ≡ true → has_kind signals c false ≡ true → ⊥

kind_push : (signals : List StoredSignal) (s : StoredSignal) (c : ℕ) (t : Bool) → has_kind (signals ++ s ∷ []) c t ≡ (has_kind signals c t || ((s.column == c) && (if t then s.truth else not s.truth)))
kind_push signals s c t = any-push (λ (signal : StoredSignal). (signal.column == c) && (if t then signal.truth else not signal.truth)) signals s

left_true : (a b : Bool) → (a || b) ≡ true → b ≡ false → a ≡ true
left_true true b h k = refl
left_true false b h k = cc

and_none : (b : Bool) → (b && false) ≡ false
and_none true = refl
and_none false = refl

one_way_push : (signals : List StoredSignal) (s : StoredSignal) → IsOneWay signals → has_kind signals s.column (not s.truth) ≡ false → IsOneWay (signals ++ s ∷ [])
unfolding IsOneWay
one_way_push signals s one fits c h k = elim (eqb_tells s.column c) [
  | inl p ↦ here s.truth refl p.1
  | inr p ↦ one c
      (left_true _ _ (sym (kind_push signals s c true) ∙ h) (ap (λ b. b && s.truth) p.0))
      (left_true _ _ (sym (kind_push signals s c false) ∙ k) (ap (λ b. b && not s.truth) p.0))
]
  where
    other : (b : Bool) → s.truth ≡ b → s.column ≡ c → has_kind signals c (not b) ≡ false
    other b is at = ap (λ n. has_kind signals n (not b)) (sym at) ∙ ap (λ u. has_kind signals s.column (not u)) (sym is) ∙ fits

    here : (b : Bool) → s.truth ≡ b → s.column ≡ c → ⊥
    here true is at =
        let first : has_kind signals c false ≡ true = left_true _ _ (sym (kind_push signals s c false) ∙ k) (ap (λ b. (s.column == c) && not b) is ∙ and_none (s.column == c)) in
        let none : has_kind signals c false ≡ false = other true is at in
        cc
    here false is at =
        let first : has_kind signals c true ≡ true = left_true _ _ (sym (kind_push signals s c true) ∙ h) (ap (λ b. (s.column == c) && b) is ∙ and_none (s.column == c)) in
        let none : has_kind signals c true ≡ false = other false is at in
        cc

-- one instruction more that doesn't clash
op_one_way : (earlier : List BzOp) (op : BzOp) → IsOneWay (reads earlier) → clashes earlier op ≡ false → IsOneWay (reads (earlier ++ op ∷ []))
op_one_way earlier (Column c) one fits = subst IsOneWay (sym (reads_column earlier c)) (one_way_push (reads earlier) (signal_in c false) one fits)
op_one_way earlier (IsTrue c) one fits = subst IsOneWay (sym (reads_truth earlier c)) (one_way_push (reads earlier) (signal_in c true) one fits)
op_one_way earlier (Const n) one fits = subst IsOneWay (sym ((reads_none (Const n) (λ c e. cc) (λ c e. cc)).same earlier)) one
op_one_way earlier (Neg a) one fits = subst IsOneWay (sym ((reads_none (Neg a) (λ c e. cc) (λ c e. cc)).same earlier)) one
op_one_way earlier (Add a b) one fits = subst IsOneWay (sym ((reads_none (Add a b) (λ c e. cc) (λ c e. cc)).same earlier)) one
op_one_way earlier (Sub a b) one fits = subst IsOneWay (sym ((reads_none (Sub a b) (λ c e. cc) (λ c e. cc)).same earlier)) one
op_one_way earlier (Mul a b) one fits = subst IsOneWay (sym ((reads_none (Mul a b) (λ c e. cc) (λ c e. cc)).same earlier)) one
op_one_way earlier (Div a b) one fits = subst IsOneWay (sym ((reads_none (Div a b) (λ c e. cc) (λ c e. cc)).same earlier)) one
op_one_way earlier (Rem a b) one fits = subst IsOneWay (sym ((reads_none (Rem a b) (λ c e. cc) (λ c e. cc)).same earlier)) one
op_one_way earlier (Eq a b) one fits = subst IsOneWay (sym ((reads_none (Eq a b) (λ c e. cc) (λ c e. cc)).same earlier)) one
op_one_way earlier (Lt a b) one fits = subst IsOneWay (sym ((reads_none (Lt a b) (λ c e. cc) (λ c e. cc)).same earlier)) one
op_one_way earlier (Le a b) one fits = subst IsOneWay (sym ((reads_none (Le a b) (λ c e. cc) (λ c e. cc)).same earlier)) one

no_clash : (b : Bool) (n : ℕ) (o : Option ℕ) → (if b then Some n else o) ≡ None → (b ≡ false) × (o ≡ None)
no_clash true n o h = absurd (cc)
no_clash false n o h = (refl, h)

rest_one_way : (earlier ops : List BzOp) → IsOneWay (reads earlier) → first_clash earlier ops ≡ None → IsOneWay (reads (earlier ++ ops))
unfolding first_clash
rest_one_way earlier [] one none = subst (λ (os : List BzOp). IsOneWay (reads os)) (sym (append-nil earlier)) one
rest_one_way earlier (op ∷ ops) one none =
    let p = no_clash (clashes earlier op) (length earlier) (first_clash (earlier ++ op ∷ []) ops) none in
    subst (λ (os : List BzOp). IsOneWay (reads os)) (append_assoc earlier (op ∷ []) ops) (rest_one_way (earlier ++ op ∷ []) ops (op_one_way earlier op one p.0) p.1)

all_one_way : (ops : List BzOp) → first_clash [] ops ≡ None → IsOneWay (reads ops)
unfolding IsOneWay
all_one_way ops none = rest_one_way [] ops (λ c h k. cc) none

-- ---- the signals that are read

-- signals from column a on and below top, rising, each named by its column
Listed : ℕ → ℕ → List StoredSignal → Type 0
Listed a top [] = ⊤
Listed a top (s ∷ ss) = (a ≤ s.column) × (s.column < top) × (s.name ≡ column_name s.column) × Listed (s.column + 1) top ss

listed_later : (a b top : ℕ) (ss : List StoredSignal) → a ≤ b → Listed b top ss → Listed a top ss
unfolding Listed
listed_later a b top [] h l = tt
listed_later a b top (s ∷ ss) h l = (omega arith, l.1, l.2, l.3)

listed_front : (a top : ℕ) (w t : Bool) (ss : List StoredSignal) → a < top → Listed (a + 1) top ss → Listed a top (signals_at w t a ++ ss)
unfolding Listed signals_at
listed_front a top w true ss h l = (omega arith, h, refl, l)
listed_front a top true false ss h l = (omega arith, h, refl, l)
listed_front a top false false ss h l = listed_later a (a + 1) top ss (omega arith) l

split : (signals : List StoredSignal) (a n : ℕ) → filter_map (signal_of signals) (range_with_len a (suc n)) ≡ signals_at (has_kind signals a false) (has_kind signals a true) a ++ filter_map (signal_of signals) (range_with_len (a + 1) n)
split signals a n = filter_map-append (signal_of signals) (a ∷ []) (range_with_len (a + 1) n) ∙ ap (λ ss. ss ++ filter_map (signal_of signals) (range_with_len (a + 1) n)) (at_column signals a)

listed : (signals : List StoredSignal) (a n top : ℕ) → a + n ≡ top → Listed a top (filter_map (signal_of signals) (range_with_len a n))
unfolding Listed
listed signals a zero top e = tt
listed signals a (suc n) top e =
    subst (Listed a top) (sym (split signals a n))
    (listed_front a top (has_kind signals a false) (has_kind signals a true) (filter_map (signal_of signals) (range_with_len (a + 1) n)) (omega arith) (listed signals (a + 1) n top (omega arith)))

record IsListed (a top : ℕ) (s : StoredSignal) : Type 0 where
  from : a ≤ s.column
  below : s.column < top
  named : s.name ≡ column_name s.column

listed_at : (a top : ℕ) (ss : List StoredSignal) (i : ℕ) (d : StoredSignal) → Listed a top ss → i < length ss → IsListed a top (slice_index_or ss i d)
unfolding Listed
listed_at a top [] i d l inside = absurd (omega arith)
listed_at a top (s ∷ ss) zero d l inside = record { from = l.0; below = l.1; named = l.2 }
listed_at a top (s ∷ ss) (suc i) d l inside = let r = listed_at (s.column + 1) top ss i d l.3 (omega arith) in record { from = omega (arith, l.0, r.from); below = r.below; named = r.named }

rising : (a top : ℕ) (ss : List StoredSignal) (j i : ℕ) (d : StoredSignal) → Listed a top ss → j < i → i < length ss → (slice_index_or ss j d).column < (slice_index_or ss i d).column
unfolding Listed
rising a top (s ∷ ss) zero (suc i) d l before inside = let r = listed_at (s.column + 1) top ss i d l.3 (omega arith) in omega (arith, r.from)
rising a top (s ∷ ss) (suc j) (suc i) d l before inside = rising (s.column + 1) top ss j i d l.3 (omega arith) (omega arith)
rising a top _ j _ d l before inside = absurd (omega arith)

few_listed : (a top : ℕ) (ss : List StoredSignal) → a ≤ top → Listed a top ss → a + length ss ≤ top
unfolding Listed
few_listed a top [] h l = omega arith
few_listed a top (s ∷ ss) h l = let below : s.column < top = l.1 in omega (arith, few_listed (s.column + 1) top ss (omega arith) l.3, l.0)

-- columns and names apart
apart : (a b : ℕ) → a < b → (a == b) ≡ false
apart a b h = elim (eqb_tells a b) [ inl p ↦ absurd (let e = p.1 in omega arith) | inr p ↦ p.0 ]

named_apart : (a b : ℕ) (x y : List ℕ) → a < b → b < 65537 → x ≡ column_name b → y ≡ column_name a → bytes_eq x y ≡ false
named_apart a b x y h small is is' = go (bytes_eq x y) refl
  where
    same : x ≡ y → ⊥
    same e =
        let names : column_name b ≡ column_name a = sym is ∙ e ∙ is' in
        let digits : decimal b ≡ decimal a = cc in
        let equal : b ≡ a = decimal_injective b a (omega arith) (omega arith) digits in
        omega arith

    go : (t : Bool) → bytes_eq x y ≡ t → bytes_eq x y ≡ false
    go true e = absurd (same ((bytes_eq-Decides x y).0 e))
    go false e = e

signals_new : (program : Program) → program.width ≤ 65536 → first_in (signal_fault (raised program)) 0 (signals_below program.width (reads program.bz)) ≡ None
signals_new program narrow = from_each (signal_fault (raised program)) (signals_below program.width (reads program.bz)) (λ i d inside.
    let ss : List StoredSignal = signals_below program.width (reads program.bz) in
    let s : StoredSignal = slice_index_or ss i d in
    let l = listed (reads program.bz) 0 program.width program.width (omega arith) in
    let here = listed_at 0 program.width ss i d l inside in
    let column = list_any_none (λ (before : StoredSignal). before.column == s.column) (take i ss) (λ k e below.
    let earlier : k < i = omega (arith, length-take i ss) in
    ap (λ (before : StoredSignal). before.column == s.column) (get_or-take i ss k e earlier ∙ get_or_default ss k e d (omega arith)) ∙ apart _ _ (rising 0 program.width ss k i d l earlier inside)) in
    let name = list_any_none (λ (before : StoredSignal). bytes_eq s.name before.name) (take i ss) (λ k e below.
    let earlier : k < i = omega (arith, length-take i ss) in
    let there = listed_at 0 program.width ss k d l (omega arith) in
    ap (λ (before : StoredSignal). bytes_eq s.name before.name) (get_or-take i ss k e earlier ∙ get_or_default ss k e d (omega arith))
    ∙ named_apart _ _ _ _ (rising 0 program.width ss k i d l earlier inside) (omega (arith, here.below)) here.named there.named) in
    unless_both _ _ _ (and_from _ _ (lt-ltb _ _ here.below) (ap not column)) (ap not name))

-- ---- columns that are read have their signal

any_front : {X : Type 0} (p : X → Bool) (xs ys : List X) → list_any p xs ≡ true → list_any p (xs ++ ys) ≡ true
any_front p xs ys h = list_any-append p xs ys ∙ ap (λ b. b || list_any p ys) h

any_rest : {X : Type 0} (p : X → Bool) (xs ys : List X) → list_any p ys ≡ true → list_any p (xs ++ ys) ≡ true
any_rest p xs ys h = list_any-append p xs ys ∙ or_right _ _ h

one_false : (signals : List StoredSignal) (c : ℕ) (b : Bool) → IsOneWay signals → has_kind signals c false ≡ true → has_kind signals c true ≡ b → has_kind signals c true ≡ false
unfolding IsOneWay
one_false signals c true one h e = absurd (one c e h)
one_false signals c false one h e = e

-- the signal of a column that is read in one way has its kind
kind_at : (signals : List StoredSignal) (c : ℕ) (t : Bool) → IsOneWay signals → has_kind signals c t ≡ true → has_kind (signals_at (has_kind signals c false) (has_kind signals c true) c) c t ≡ true
unfolding signals_at
kind_at signals c true one h = ap (λ b. has_kind (signals_at (has_kind signals c false) b c) c true) h ∙ rw (eq-eqb c c refl) refl
kind_at signals c false one h =
    ap (λ b. has_kind (signals_at b (has_kind signals c true) c) c false) h ∙ ap (λ b. has_kind (signals_at true b c) c false) (one_false signals c (has_kind signals c true) one h refl)
    ∙ rw (eq-eqb c c refl) refl

kind_below : (signals : List StoredSignal) (c : ℕ) (t : Bool) (a n : ℕ) → a ≤ c → c < a + n → IsOneWay signals → has_kind signals c t ≡ true → has_kind (filter_map (signal_of signals) (range_with_len a n)) c t ≡ true
kind_below signals c t a zero low high one h = absurd (omega arith)
kind_below signals c t a (suc n) low high one h =
    let test : StoredSignal → Bool = λ s. (s.column == c) && (if t then s.truth else not s.truth) in
    subst (λ (ss : List StoredSignal). has_kind ss c t ≡ true) (sym (split signals a n))
    (elim (eqb_tells a c) [
      | inl p ↦ any_front test _ _ (subst (λ (m : ℕ). has_kind (signals_at (has_kind signals m false) (has_kind signals m true) m) c t ≡ true) (sym p.1) (kind_at signals c t one h))
      | inr p ↦ any_rest test _ _ (let ne = p.1 in kind_below signals c t (a + 1) n (omega arith) (omega arith) one h)
    ])

-- an instruction reads its own column
own_kind : (c : ℕ) (t : Bool) (ss : List StoredSignal) → has_kind (signal_in c t ∷ ss) c t ≡ true
own_kind c true ss = rw (eq-eqb c c refl) refl
own_kind c false ss = rw (eq-eqb c c refl) refl

cons_rest : (o : Option StoredSignal) (ss : List StoredSignal) (c : ℕ) (t : Bool) → has_kind ss c t ≡ true → has_kind (cons_option o ss) c t ≡ true
cons_rest None ss c t h = h
cons_rest (Some s) ss c t h = or_right _ _ h

read_there : (ops : List BzOp) (i c : ℕ) (t : Bool) (d op : BzOp) → i < length ops → slice_index_or ops i d ≡ op → signal_read op ≡ Some (signal_in c t) → has_kind (reads ops) c t ≡ true
read_there [] i c t d op inside is reads_it = absurd (omega arith)
read_there (o ∷ ops) zero c t d op inside is reads_it =
    subst (λ (x : Option StoredSignal). has_kind (cons_option x (filter_map signal_read ops)) c t ≡ true) (sym (ap signal_read is ∙ reads_it)) (own_kind c t (filter_map signal_read ops))
read_there (o ∷ ops) (suc i) c t d op inside is reads_it = cons_rest (signal_read o) (filter_map signal_read ops) c t (read_there ops i c t d op (omega arith) is reads_it)

column_raised : (program : Program) (c : ℕ) (t : Bool) → IsOneWay (reads program.bz) → has_kind (reads program.bz) c t ≡ true → is_column_of program c t ≡ true → is_column_of (raised program) c t ≡ true
column_raised program c t one there h =
    let inside : c < program.width = ltb-true c program.width (and_left _ _ h) in
    and_from _ _ (and_left _ _ h) (kind_below (reads program.bz) c t 0 program.width (omega arith) (omega arith) one there)

operands_raised : (program : Program) (i : ℕ) (d op : BzOp) → IsOneWay (reads program.bz) → i < length program.bz → slice_index_or program.bz i d ≡ op → has_operands program i op ≡ true → has_operands (raised program) i op ≡ true
operands_raised program i d (Column c) one inside is h = column_raised program c false one (read_there program.bz i c false d (Column c) inside is refl) h
operands_raised program i d (IsTrue c) one inside is h = column_raised program c true one (read_there program.bz i c true d (IsTrue c) inside is refl) h
operands_raised program i d _ one inside is h = h

bz_raised : (program : Program) → IsOneWay (reads program.bz) → first_in (bz_fault program) 0 program.bz ≡ None → first_in (bz_fault (raised program)) 0 program.bz ≡ None
bz_raised program one none = from_each (bz_fault (raised program)) program.bz (λ i d inside.
    let op : BzOp = slice_index_or program.bz i d in
    let was = or_none _ _ (each (bz_fault program) program.bz none i d inside) in
    bz_range (raised program) i op _ (operands_raised program i d op one inside refl (unless_true _ _ was.0)) refl ∙ was.1)

-- ---- the program

pub well_raised : (program : Program) → first_clash [] program.bz ≡ None → IsWellFormed program → IsWellFormed (raised program)
well_raised program one good =
    let h1 = or_none _ _ good in
    let h2 = or_none _ _ h1.1 in
    let h3 = or_none _ _ h2.1 in
    let narrow : program.width ≤ 65536 = leb-true _ _ (unless_true _ _ h1.0) in
    both_none _ _ h1.0 (both_none _ _ (signals_new program narrow) (both_none _ _ (bz_raised program (all_one_way program.bz one) h3.0) h3.1))

-- what a checked program keeps
pub kept_raised : (program : Program) (bests worsts : List ℕ) (before signal_numbers : List (Option ℕ)) → first_clash [] program.bz ≡ None → IsKept program bests worsts before
    → signal_numbers ≡ signals_read (raised program) → IsKept (raised program) bests worsts signal_numbers
kept_raised program bests worsts before signal_numbers one kept read = record {
  layout = record {
    ft_sizes = kept.layout.ft_sizes;
    pt_sizes = kept.layout.pt_sizes;
    few_bz = kept.layout.few_bz;
    few_ft = kept.layout.few_ft;
    few_pt = kept.layout.few_pt;
    few_outs = kept.layout.few_outs;
    few_signals =
        let narrow : program.width ≤ 65536 = leb-true _ _ (unless_true _ _ (or_none _ _ kept.well_formed).0) in
        omega (arith, few_listed 0 program.width (signals_below program.width (reads program.bz)) (omega arith) (listed (reads program.bz) 0 program.width program.width (omega arith)));
    version = inr refl;
  };
  well_formed = well_raised program one kept.well_formed;
  best = kept.best;
  worst = kept.worst;
  in_time = kept.in_time;
  read_by = read;
}

-- instructions of a well-formed program read columns of its rows
op_within : (program : Program) (i : ℕ) (op : BzOp) → has_operands program i op ≡ true → ReadsWithin program.width op
op_within program i (Column c) h = ltb-true c program.width (and_left _ _ h)
op_within program i (IsTrue c) h = ltb-true c program.width (and_left _ _ h)
op_within program i _ h = tt

pub all_within : (program : Program) → IsWellFormed program → All (ReadsWithin program.width) program.bz
all_within program good i d inside =
    let h1 = or_none _ _ good in
    let h2 = or_none _ _ h1.1 in
    let h3 = or_none _ _ h2.1 in
    op_within program i (slice_index_or program.bz i d) (unless_true _ _ (or_none _ _ (each (bz_fault program) program.bz h3.0 i d inside)).0)

-- so do its stored signals
pub signals_within : (program : Program) → IsWellFormed program → All (λ signal. signal.column < program.width) program.signals
signals_within program good i d inside =
    let h1 = or_none _ _ good in
    let h2 = or_none _ _ h1.1 in
    ltb-true _ _ (and_left _ _ (and_left _ _ (unless_true _ _ (each (signal_fault program) program.signals h2.0 i d inside))))

-- signals and versions have no part in what a program tells
pub outputs_raised : (program : Program) → outputs (up program) ≡ outputs program
outputs_raised program = go (program.version == 2)
  where
    go : (b : Bool) → outputs (if b then program else raised program) ≡ outputs program
    go true = refl
    go false = refl

pub names_raised : (program : Program) → output_names (up program) ≡ output_names program
names_raised program = go (program.version == 2)
  where
    go : (b : Bool) → output_names (if b then program else raised program) ≡ output_names program
    go true = refl
    go false = refl
