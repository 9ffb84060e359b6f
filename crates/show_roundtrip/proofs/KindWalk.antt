-- Going through the lines of a part's instructions with the kinds of names alone.

use Rattle.std.proofs.Common.{◌≡◌, ◌∙◌, ℕ, ◌+◌, ◌<◌, ◌≤◌, Bool, true, false, cond, List, [], ◌∷◌, ◌++◌, length, take, Option, Some, None, refl, ap, ap₂, sym, subst, arith, append_assoc, append-nil, nat_lt}
use Rattle.std.specs.Prelude.{slice_get, option_map, count_by, ◌||◌}
use Rattle.std.specs.Str.{bytes_eq}
use Rattle.std.proofs.Math.Seq.{take-append_seam}
use Rattle.std.proofs.lemmas.List.{length-append}
use Rattle.std.proofs.lemmas.List.Sums.{sum_by-append, sum_by-cons}
use Rattle.std.proofs.lemmas.Bool.Decides.{nat_tests}
use Rattle.std.proofs.lemmas.Slice.Eq.{bytes_eq-Decides}
use Rattle.mltl_base.specs.declared.program.Program.{Program}
use Rattle.c2po_types.specs.Tables.{Table, is_named}
use Rattle.c2po_types.specs.declared.kind.Kind.{Kind}
use Rattle.c2po_types.specs.declared.kind.Meaning.{Meaning}
use Rattle.c2po_types.specs.declared.kind.Meaning.TheVariants.{Value}
use Rattle.c2po_types.specs.declared.declarations.Declarations.{Declarations}
use Rattle.c2po_types.specs.Items.{with_value}
use Rattle.obs_verify.specs.Layout.{HasLayout}
use Rattle.obs_show.specs.Lines.{Reference, named, Form, Line, define}
use Rattle.obs_show.specs.Naming.{operations, defined_name}
use Rattle.obs_show.proofs.FreeLaws.{defined_differ}
use Rattle.std.proofs.lemmas.Bool.{ltb-true, ltb-false}
use Rattle.show_roundtrip.proofs.Walk.{get_seam, lines_from, put, put_is}
use Rattle.show_roundtrip.proofs.Passing.{KindsPass}
use Rattle.show_roundtrip.proofs.FormKinds.{HasLater, push_later, pushed_entry, pushed_named, HasKindIn, kind_later, FormHasKind, define_passes}

-- no defined name from a number on is declared yet
abbrev pub AreFree : Program → ℕ → Table Meaning → Type 0
AreFree program count names = (k : ℕ) → count ≤ k → k < operations program → is_named (defined_name program k) names ≡ false

-- what the first instructions of a part are called has the kinds that they give
abbrev pub KnowsKinds : (ℕ → Reference) → (ℕ → Kind) → ℕ → Table Meaning → Type 0
KnowsKinds called gives i names = (j : ℕ) → j < i → HasKindIn names (called j) (gives j)

-- what stays known as more names are declared
abbrev pub Stays : (Table Meaning → Type 0) → Type 0
Stays J = (names later : Table Meaning) → HasLater names later → J names → J later

pub kinds_stay : (called : ℕ → Reference) (gives : ℕ → Kind) (i : ℕ) → Stays (KnowsKinds called gives i)
kinds_stay called gives i names later g h j below = kind_later names later (called j) (gives j) g (h j below)

-- what is known after the lines of the first instructions of a part
pub record KindsKnown (program : Program) (called : ℕ → Reference) (gives : ℕ → Kind) (J : Table Meaning → Type 0) (i count : ℕ) (names : Table Meaning) : Type 0 where
  pub base : J names
  pub free : AreFree program count names
  pub kinds : KnowsKinds called gives i names

-- an instruction without a line has its kind by what it is called; one with a line has a form of that kind, and a name that counts
abbrev pub HasRightKind : Declarations → Option Form → Bool → List ℕ → Reference → Kind → Type 0
HasRightKind d None counts name x k = (counts ≡ false) × HasKindIn d.names x k
HasRightKind d (Some f) counts name x k = (counts ≡ true) × (x ≡ named name) × FormHasKind d f k

kinds_push : (called : ℕ → Reference) (gives : ℕ → Kind) (i : ℕ) (names : Table Meaning) → KnowsKinds called gives i names → HasKindIn names (called i) (gives i) → KnowsKinds called gives (i + 1) names
kinds_push called gives i names h k j below = go (nat_lt j i) refl
  where
    go : (b : Bool) → nat_lt j i ≡ b → HasKindIn names (called j) (gives j)
    go true e = h j (ltb-true j i e)
    go false e =
        let past : i ≤ j = ltb-false j i e in
        let same : i ≡ j = omega arith in
        subst (λ (m : ℕ). HasKindIn names (called m) (gives m)) same k

apart : (x y : List ℕ) → (y ≡ x → ⊥) → bytes_eq x y ≡ false
apart x y h = go (bytes_eq x y) refl
  where
    go : (b : Bool) → bytes_eq x y ≡ b → b ≡ false
    go true e = absurd (h (sym ((bytes_eq-Decides x y).0 e)))
    go false e = refl

free_push : (program : Program) (count : ℕ) (names : Table Meaning) (m : Meaning) → HasLayout program → AreFree program count names → AreFree program (count + 1) (names ++ (defined_name program count, m) ∷ [])
free_push program count names m layout free k from below =
    pushed_named names (defined_name program count) (defined_name program k) m
    ∙ ap₂ (λ (a b : Bool). a || b) (free k (omega arith) below) (apart (defined_name program k) (defined_name program count) (defined_differ program layout count k (omega arith) below))

step : (program : Program) (called : ℕ → Reference) (gives : ℕ → Kind) (J : Table Meaning → Type 0) (i count n : ℕ) (name : List ℕ) (o : Option Form) (counts : Bool) (ls : List Line) (d : Declarations)
    → HasLayout program → Stays J → name ≡ defined_name program count → count + cond counts 1 0 ≤ operations program → HasRightKind d o counts name (called i) (gives i)
    → KindsKnown program called gives J i count d.names
    → ((m : ℕ) (later : Declarations) → KindsKnown program called gives J (i + 1) (count + cond counts 1 0) later.names → KindsPass m ls later)
    → KindsPass n (put name o ls) d
unfolding KindsPass
step program called gives J i count n name None true ls d layout stays is few h known go = let e : true ≡ false = h.0 in absurd (cc)
step program called gives J i count n name None false ls d layout stays is few h known go =
    let same : count ≡ count + 0 = omega arith in
    go n d (record { base = known.base; free = subst (λ (c : ℕ). AreFree program c d.names) same known.free; kinds = kinds_push called gives i d.names known.kinds h.1 })
step program called gives J i count n name (Some f) false ls d layout stays is few h known go = let e : false ≡ true = h.0 in absurd (cc)
step program called gives J i count n name (Some f) true ls d layout stays is few h known go =
    let later : Declarations = with_value name (gives i) d in
    let longer : HasLater d.names later.names = push_later d.names name (Value (gives i)) in
    let free : is_named name d.names ≡ false = ap (λ (x : List ℕ). is_named x d.names) is ∙ known.free count (omega arith) (omega arith) in
    let here : HasKindIn later.names (called i) (gives i) = subst (λ (x : Reference). HasKindIn later.names x (gives i)) (sym h.1) (pushed_entry d.names name (Value (gives i)) free) in
    let next : KindsKnown program called gives J (i + 1) (count + 1) later.names = record {
      base = stays d.names later.names longer known.base;
      free = subst (λ (x : List ℕ). AreFree program (count + 1) (d.names ++ (x, Value (gives i)) ∷ [])) (sym is) (free_push program count d.names (Value (gives i)) layout known.free);
      kinds = kinds_push called gives i later.names (kinds_stay called gives i d.names later.names longer known.kinds) here;
    } in
    (later, define_passes n name f d (gives i) free h.2, go (n + 1) later next)

-- a part: its instructions, their names by their numbers among all defined names, and their right kinds
module _
    {X : Type 0} (program : Program) (name : ℕ → List ℕ) (form : X → Option Form) (counts : X → Bool) (called : ℕ → Reference) (gives : ℕ → Kind) (J : Table Meaning → Type 0)
    (all : List X) (from : ℕ) (layout : HasLayout program) (stays : Stays J)
    (are_named : (i : ℕ) → name i ≡ defined_name program (from + count_by counts (take i all)))
    (few : from + count_by counts all ≤ operations program)
    (right : (i : ℕ) (x : X) (d : Declarations) → slice_get all i ≡ Some x → J d.names → KnowsKinds called gives i d.names → HasRightKind d (form x) (counts x) (name i) (called i) (gives i))
  where
    pub walk_part : (front back : List X) (i n : ℕ) (more : List Line) (d : Declarations) → all ≡ front ++ back → length front ≡ i
        → KindsKnown program called gives J i (from + count_by counts front) d.names
        → ((m : ℕ) (later : Declarations) → KindsKnown program called gives J (length all) (from + count_by counts all) later.names → KindsPass m more later)
        → KindsPass n (lines_from (λ j x. option_map (define (name j)) (form x)) i back ++ more) d
    walk_part front [] i n more d is len known go =
        let whole : front ≡ all = sym (is ∙ append-nil front) in
        go n d (subst (λ (xs : List X). KindsKnown program called gives J (length xs) (from + count_by counts xs) d.names) whole (subst (λ (k : ℕ). KindsKnown program called gives J k (from + count_by counts front) d.names) (sym len) known))
    walk_part front (x ∷ back) i n more d is len known go =
        let one : ℕ = cond (counts x) 1 0 in
        let at : slice_get all i ≡ Some x = ap (λ (xs : List X). slice_get xs i) is ∙ ap (λ (k : ℕ). slice_get (front ++ x ∷ back) k) (sym len) ∙ get_seam front x back in
        let cut : take i all ≡ front = ap (λ (xs : List X). take i xs) is ∙ ap (λ (k : ℕ). take k (front ++ x ∷ back)) (sym len) ∙ take-append_seam front (x ∷ back) in
        let is_called : name i ≡ defined_name program (from + count_by counts front) = are_named i ∙ ap (λ (xs : List X). defined_name program (from + count_by counts xs)) cut in
        let counted : count_by counts all ≡ count_by counts front + (one + count_by counts back) =
        ap (λ (xs : List X). count_by counts xs) is ∙ sum_by-append (λ y. cond (counts y) 1 0) front (x ∷ back) ∙ ap (λ (k : ℕ). count_by counts front + k) (sum_by-cons (λ y. cond (counts y) 1 0) x back) in
        let more_counted : from + count_by counts front + one ≡ from + count_by counts (front ++ x ∷ []) = omega (arith, sum_by-append (λ y. cond (counts y) 1 0) front (x ∷ []), sum_by-cons (λ y. cond (counts y) 1 0) x []) in
        let rest : List Line = lines_from (λ j y. option_map (define (name j)) (form y)) (i + 1) back in
        subst (λ (ls : List Line). KindsPass n ls d) (sym (put_is (name i) (form x) rest more))
        (step program called gives J i (from + count_by counts front) n (name i) (form x) (counts x) (rest ++ more) d layout stays is_called (omega (arith, counted)) (right i x d at known.base known.kinds) known
        (λ m later k. walk_part (front ++ x ∷ []) back (i + 1) m more later (is ∙ sym (append_assoc front (x ∷ []) back)) (omega (arith, length-append front (x ∷ [])))
        (subst (λ (c : ℕ). KindsKnown program called gives J (i + 1) c later.names) more_counted k) go))
