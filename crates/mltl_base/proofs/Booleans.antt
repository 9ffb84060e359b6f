-- The instructions of the Booleanizer unfold to the expressions of the outputs, and each atom is loaded.

use Rattle.std.specs.Prelude.{⊤}
use Rattle.std.proofs.Common.{◌≡◌, Bool, true, false, if◌then◌else◌, Some, List, [], ◌∷◌, ◌++◌, map, fold, slice_index_or, refl, sym, ap, ap₂, ◌∙◌, append_assoc, append-nil}
use Rattle.std.proofs.lemmas.Option.{get_or_from_slice_get, slice_get-map}
use Rattle.mltl_base.specs.Atoms.{Term, column, constant, negative, plus, minus, times, quotient, remainder, Atom, is_true, equal, less, at_most, different, greater, at_least}
use Rattle.mltl_base.specs.Formula.{Core, ctrue, catom, cnot, cand, cuntil, csince, IsCoreAtom}
use Rattle.mltl_base.specs.Programs.{Expression, whole, truth, term_at, atom_of, expression_of, expressions_after, expressions}
use Rattle.mltl_base.specs.Subformulas.{same_expression, listed, place_of, add_new, add_terms, add_operands, add_expressions, instruction_of, bz_instruction}
use Rattle.mltl_base.proofs.Sameness.{same_expression_sound, same_expression_self}
use Rattle.mltl_base.proofs.Listing.{added_has, added_keeps, place_append, place_get}
use Rattle.mltl_base.proofs.Unfolding.{HasExpression, Deep, Each}

-- the comparison of a formula that is one is a comparison that instructions have
abbrev pub HasCoreAtom : Core → Type 0
HasCoreAtom (catom a) = IsCoreAtom a
HasCoreAtom _ = ⊤

-- the operands of an expression are listed
abbrev pub HasBoth : List Expression → Term → Term → Type 0
HasBoth es a b = HasExpression es (whole a) × HasExpression es (whole b)

abbrev pub HasTerms : List Expression → Term → Type 0
HasTerms es (column c) = ⊤
HasTerms es (constant n) = ⊤
HasTerms es (negative a) = HasExpression es (whole a)
HasTerms es (plus a b) = HasBoth es a b
HasTerms es (minus a b) = HasBoth es a b
HasTerms es (times a b) = HasBoth es a b
HasTerms es (quotient a b) = HasBoth es a b
HasTerms es (remainder a b) = HasBoth es a b

abbrev pub HasSides : List Expression → Atom → Type 0
HasSides es (is_true c) = ⊤
HasSides es (equal a b) = HasBoth es a b
HasSides es (less a b) = HasBoth es a b
HasSides es (at_most a b) = HasBoth es a b
HasSides es _ = ⊥

abbrev pub HasParts : List Expression → Expression → Type 0
HasParts es (whole a) = HasTerms es a
HasParts es (truth a) = HasSides es a

abbrev pub IsWholeAfter : List Expression → List Expression → Type 0
IsWholeAfter before [] = ⊤
IsWholeAfter before (e ∷ es) = HasParts before e × IsWholeAfter (before ++ e ∷ []) es

whole_append : (before ps qs : List Expression) → IsWholeAfter before ps → IsWholeAfter (before ++ ps) qs → IsWholeAfter before (ps ++ qs)
whole_append before [] qs h g = rw append-nil at g
whole_append before (p ∷ ps) qs h g = (h.0, whole_append (before ++ p ∷ []) ps qs h.1 (rw (append_assoc before (p ∷ []) ps) g))

whole_new : (e : Expression) (es : List Expression) → IsWholeAfter [] es → HasParts es e → IsWholeAfter [] (add_new same_expression e es)
whole_new e es h g = go (listed same_expression e es)
  where
    go : (b : Bool) → IsWholeAfter [] (if b then es else es ++ e ∷ [])
    go true = h
    go false = whole_append [] es (e ∷ []) h (g, tt)

keeps_new : (e d : Expression) (es : List Expression) → HasExpression es d → HasExpression (add_new same_expression e es) d
keeps_new e d es h = added_keeps same_expression same_expression_sound same_expression_self e d es h

has_new : (e : Expression) (es : List Expression) → HasExpression (add_new same_expression e es) e
has_new e es = added_has same_expression same_expression_sound same_expression_self e es

terms_keep : (a : Term) (d : Expression) (es : List Expression) → HasExpression es d → HasExpression (add_terms a es) d
unfolding add_terms
terms_keep (column c) d es h = keeps_new (whole (column c)) d es h
terms_keep (constant n) d es h = keeps_new (whole (constant n)) d es h
terms_keep (negative a) d es h = keeps_new (whole (negative a)) d _ (terms_keep a d es h)
terms_keep (plus a b) d es h = keeps_new (whole (plus a b)) d _ (terms_keep b d _ (terms_keep a d es h))
terms_keep (minus a b) d es h = keeps_new (whole (minus a b)) d _ (terms_keep b d _ (terms_keep a d es h))
terms_keep (times a b) d es h = keeps_new (whole (times a b)) d _ (terms_keep b d _ (terms_keep a d es h))
terms_keep (quotient a b) d es h = keeps_new (whole (quotient a b)) d _ (terms_keep b d _ (terms_keep a d es h))
terms_keep (remainder a b) d es h = keeps_new (whole (remainder a b)) d _ (terms_keep b d _ (terms_keep a d es h))

terms_have : (a : Term) (es : List Expression) → HasExpression (add_terms a es) (whole a)
unfolding add_terms
terms_have (column c) es = has_new (whole (column c)) es
terms_have (constant n) es = has_new (whole (constant n)) es
terms_have (negative a) es = has_new (whole (negative a)) _
terms_have (plus a b) es = has_new (whole (plus a b)) _
terms_have (minus a b) es = has_new (whole (minus a b)) _
terms_have (times a b) es = has_new (whole (times a b)) _
terms_have (quotient a b) es = has_new (whole (quotient a b)) _
terms_have (remainder a b) es = has_new (whole (remainder a b)) _

-- both operands are listed once the second was added after the first
both_have : (a b : Term) (es : List Expression) → HasBoth (add_terms b (add_terms a es)) a b
both_have a b es = (terms_keep b (whole a) (add_terms a es) (terms_have a es), terms_have b (add_terms a es))

terms_whole : (a : Term) (es : List Expression) → IsWholeAfter [] es → IsWholeAfter [] (add_terms a es)
unfolding add_terms
terms_whole (column c) es h = whole_new (whole (column c)) es h tt
terms_whole (constant n) es h = whole_new (whole (constant n)) es h tt
terms_whole (negative a) es h = whole_new (whole (negative a)) _ (terms_whole a es h) (terms_have a es)
terms_whole (plus a b) es h = whole_new (whole (plus a b)) _ (terms_whole b _ (terms_whole a es h)) (both_have a b es)
terms_whole (minus a b) es h = whole_new (whole (minus a b)) _ (terms_whole b _ (terms_whole a es h)) (both_have a b es)
terms_whole (times a b) es h = whole_new (whole (times a b)) _ (terms_whole b _ (terms_whole a es h)) (both_have a b es)
terms_whole (quotient a b) es h = whole_new (whole (quotient a b)) _ (terms_whole b _ (terms_whole a es h)) (both_have a b es)
terms_whole (remainder a b) es h = whole_new (whole (remainder a b)) _ (terms_whole b _ (terms_whole a es h)) (both_have a b es)

operands_keep : (a : Atom) (d : Expression) (es : List Expression) → HasExpression es d → HasExpression (add_operands a es) d
operands_keep (is_true c) d es h = h
operands_keep (equal a b) d es h = terms_keep b d _ (terms_keep a d es h)
operands_keep (less a b) d es h = terms_keep b d _ (terms_keep a d es h)
operands_keep (at_most a b) d es h = terms_keep b d _ (terms_keep a d es h)
operands_keep (different a b) d es h = terms_keep b d _ (terms_keep a d es h)
operands_keep (greater a b) d es h = terms_keep b d _ (terms_keep a d es h)
operands_keep (at_least a b) d es h = terms_keep b d _ (terms_keep a d es h)

operands_whole : (a : Atom) (es : List Expression) → IsCoreAtom a → IsWholeAfter [] es → IsWholeAfter [] (add_operands a es) × HasSides (add_operands a es) a
operands_whole (is_true c) es k h = (h, tt)
operands_whole (equal a b) es k h = (terms_whole b _ (terms_whole a es h), both_have a b es)
operands_whole (less a b) es k h = (terms_whole b _ (terms_whole a es h), both_have a b es)
operands_whole (at_most a b) es k h = (terms_whole b _ (terms_whole a es h), both_have a b es)
operands_whole _ es k h = absurd k

pub expressions_keep : (p : Core) (d : Expression) (es : List Expression) → HasExpression es d → HasExpression (add_expressions p es) d
unfolding add_expressions
expressions_keep ctrue d es h = h
expressions_keep (catom a) d es h = keeps_new (truth a) d _ (operands_keep a d es h)
expressions_keep (cnot p) d es h = expressions_keep p d es h
expressions_keep (cand p q) d es h = expressions_keep q d _ (expressions_keep p d es h)
expressions_keep (cuntil i p q) d es h = expressions_keep q d _ (expressions_keep p d es h)
expressions_keep (csince i p q) d es h = expressions_keep q d _ (expressions_keep p d es h)

pub expressions_whole : (p : Core) (es : List Expression) → Deep HasCoreAtom p → IsWholeAfter [] es → IsWholeAfter [] (add_expressions p es)
unfolding add_expressions
expressions_whole ctrue es d h = h
expressions_whole (catom a) es d h = let w = operands_whole a es d h in whole_new (truth a) _ w.0 w.1
expressions_whole (cnot p) es d h = expressions_whole p es d.1 h
expressions_whole (cand p q) es d h = expressions_whole q _ d.2 (expressions_whole p es d.1 h)
expressions_whole (cuntil i p q) es d h = expressions_whole q _ d.2 (expressions_whole p es d.1 h)
expressions_whole (csince i p q) es d h = expressions_whole q _ d.2 (expressions_whole p es d.1 h)

-- the atoms of a formula are listed
abbrev pub HasAtom : List Expression → Core → Type 0
HasAtom es (catom a) = HasExpression es (truth a)
HasAtom es _ = ⊤

-- a list of expressions is what its instructions unfold to
term_at_place : (a : Term) (before rest : List Expression) → HasExpression before (whole a) → term_at before (instruction_of (before ++ rest) a) ≡ a
term_at_place a before rest h =
    rw (
      place_append same_expression same_expression_sound same_expression_self (whole a) before rest h,
      place_get same_expression same_expression_sound same_expression_self (whole a) before h,
    ) refl

expression_unfolds : (before rest : List Expression) (e : Expression) → HasParts before e → expression_of before (bz_instruction (before ++ rest) e) ≡ e
expression_unfolds before rest (whole (negative a)) h = ap (λ x. whole (negative x)) (term_at_place a before rest h)
expression_unfolds before rest (whole (plus a b)) h = ap₂ (λ x y. whole (plus x y)) (term_at_place a before rest h.0) (term_at_place b before rest h.1)
expression_unfolds before rest (whole (minus a b)) h = ap₂ (λ x y. whole (minus x y)) (term_at_place a before rest h.0) (term_at_place b before rest h.1)
expression_unfolds before rest (whole (times a b)) h = ap₂ (λ x y. whole (times x y)) (term_at_place a before rest h.0) (term_at_place b before rest h.1)
expression_unfolds before rest (whole (quotient a b)) h = ap₂ (λ x y. whole (quotient x y)) (term_at_place a before rest h.0) (term_at_place b before rest h.1)
expression_unfolds before rest (whole (remainder a b)) h = ap₂ (λ x y. whole (remainder x y)) (term_at_place a before rest h.0) (term_at_place b before rest h.1)
expression_unfolds before rest (truth (equal a b)) h = ap₂ (λ x y. truth (equal x y)) (term_at_place a before rest h.0) (term_at_place b before rest h.1)
expression_unfolds before rest (truth (less a b)) h = ap₂ (λ x y. truth (less x y)) (term_at_place a before rest h.0) (term_at_place b before rest h.1)
expression_unfolds before rest (truth (at_most a b)) h = ap₂ (λ x y. truth (at_most x y)) (term_at_place a before rest h.0) (term_at_place b before rest h.1)
expression_unfolds before rest (truth (different a b)) h = absurd h
expression_unfolds before rest (truth (greater a b)) h = absurd h
expression_unfolds before rest (truth (at_least a b)) h = absurd h
expression_unfolds before rest _ h = refl

bz_after : (all before es : List Expression) → all ≡ before ++ es → IsWholeAfter before es → expressions_after before (map (bz_instruction all) es) ≡ before ++ es
unfolding expressions_after
bz_after all before [] q h = sym (append-nil before)
bz_after all before (e ∷ es) q h =
    let here : expression_of before (bz_instruction all e) ≡ e = rw q (expression_unfolds before (e ∷ es) e h.0) in
    let next : before ++ e ∷ es ≡ (before ++ e ∷ []) ++ es = sym (append_assoc before (e ∷ []) es) in
    ap (λ (c : Expression). expressions_after (before ++ c ∷ []) (map (bz_instruction all) es)) here
    ∙ (bz_after all (before ++ e ∷ []) es (q ∙ next) h.1 ∙ sym next)

pub bz_unfolds : (es : List Expression) → IsWholeAfter [] es → expressions (map (bz_instruction es) es) ≡ es
bz_unfolds es h = bz_after es [] es refl h

-- so the atom of a listed truth is loaded
pub atom_at_place : (es : List Expression) (a : Atom) → HasExpression es (truth a) →
    slice_index_or (map (λ e. atom_of (Some e)) es) (place_of same_expression (truth a) es) (is_true 0) ≡ a
atom_at_place es a h =
    get_or_from_slice_get (map (λ e. atom_of (Some e)) es) (place_of same_expression (truth a) es) a (is_true 0)
    (rw (slice_get-map (λ e. atom_of (Some e)) es (place_of same_expression (truth a) es), place_get same_expression same_expression_sound same_expression_self (truth a) es h) refl)

-- over several formulas
pub fold_whole : (cs : List Core) (es : List Expression) → Each (Deep HasCoreAtom) cs → IsWholeAfter [] es → IsWholeAfter [] (fold (λ ds p. add_expressions p ds) es cs)
fold_whole [] es d h = h
fold_whole (c ∷ cs) es d h = fold_whole cs (add_expressions c es) d.1 (expressions_whole c es d.0 h)

pub fold_keeps : (cs : List Core) (e : Expression) (es : List Expression) → HasExpression es e → HasExpression (fold (λ ds p. add_expressions p ds) es cs) e
fold_keeps [] e es h = h
fold_keeps (c ∷ cs) e es h = fold_keeps cs e (add_expressions c es) (expressions_keep c e es h)

abbrev pub Keeps : List Expression → List Expression → Type 0
Keeps es ds = (e : Expression) → HasExpression es e → HasExpression ds e

atoms_stay : (es ds : List Expression) (p : Core) → Keeps es ds → Deep (HasAtom es) p → Deep (HasAtom ds) p
atoms_stay es ds ctrue k h = tt
atoms_stay es ds (catom a) k h = k (truth a) h
atoms_stay es ds (cnot p) k h = (tt, atoms_stay es ds p k h.1)
atoms_stay es ds (cand p q) k h = (tt, atoms_stay es ds p k h.1, atoms_stay es ds q k h.2)
atoms_stay es ds (cuntil i p q) k h = (tt, atoms_stay es ds p k h.1, atoms_stay es ds q k h.2)
atoms_stay es ds (csince i p q) k h = (tt, atoms_stay es ds p k h.1, atoms_stay es ds q k h.2)

pub expressions_have : (p : Core) (es : List Expression) → Deep (HasAtom (add_expressions p es)) p
unfolding add_expressions
expressions_have ctrue es = tt
expressions_have (catom a) es = has_new (truth a) (add_operands a es)
expressions_have (cnot p) es = (tt, expressions_have p es)
expressions_have (cand p q) es = (tt, atoms_stay _ _ p (λ e h. expressions_keep q e _ h) (expressions_have p es), expressions_have q _)
expressions_have (cuntil i p q) es = (tt, atoms_stay _ _ p (λ e h. expressions_keep q e _ h) (expressions_have p es), expressions_have q _)
expressions_have (csince i p q) es = (tt, atoms_stay _ _ p (λ e h. expressions_keep q e _ h) (expressions_have p es), expressions_have q _)

pub fold_have : (cs : List Core) (es : List Expression) → Each (Deep (HasAtom (fold (λ ds p. add_expressions p ds) es cs))) cs
fold_have [] es = tt
fold_have (c ∷ cs) es =
    (atoms_stay (add_expressions c es) (fold (λ ds p. add_expressions p ds) (add_expressions c es) cs) c (λ e h. fold_keeps cs e (add_expressions c es) h) (expressions_have c es), fold_have cs (add_expressions c es))
