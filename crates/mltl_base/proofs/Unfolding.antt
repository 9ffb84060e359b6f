-- The instructions of a specification unfold to its subformulas and expressions.

use Rattle.std.specs.Prelude.{⊤}
use Rattle.std.proofs.Common.{◌≡◌, suc, Bool, true, false, if◌then◌else◌, List, [], ◌∷◌, ◌++◌, map, fold, All, slice_index_or, refl, sym, ap, ap₂, ◌∙◌, append_assoc, append-nil, arith}
use Rattle.std.proofs.lemmas.Option.{get_or_from_slice_get}
use Rattle.mltl_base.specs.Atoms.{Atom, is_true}
use Rattle.mltl_base.specs.Formula.{Core, ctrue, catom, cnot, cand, cuntil, csince}
use Rattle.mltl_base.specs.Programs.{Expression, truth, core_at, op_formula, past_formula_of, formulas_after, past_formulas_after, formulas, past_formulas}
use Rattle.mltl_base.specs.Subformulas.{same_expression, same, listed, place_of, add_new, add_subformulas, ft_instruction, pt_instruction}
use Rattle.mltl_base.proofs.Sameness.{same_sound, same_self}
use Rattle.mltl_base.proofs.Listing.{added_has, added_keeps, place_append, place_get}

-- the formula, and the expression, is listed
abbrev pub Has : List Core → Core → Type 0
Has ps p = listed same p ps ≡ true

abbrev pub HasExpression : List Expression → Expression → Type 0
HasExpression es e = listed same_expression e es ≡ true

-- each member of a list has P
abbrev pub Each : {X : Type 0} → (X → Type 0) → List X → Type 0
Each P [] = ⊤
Each P (x ∷ xs) = P x × Each P xs

pub each_from_all : {X : Type 0} (P : X → Type 0) (xs : List X) → All P xs → Each P xs
each_from_all P [] h = tt
each_from_all P (x ∷ xs) h = (h 0 x (omega arith), each_from_all P xs (λ k d l. h (suc k) d (omega arith)))

-- the operands of a formula are listed, those of an atom too
abbrev pub HasOperands : List Core → Core → Type 0
HasOperands ps ctrue = ⊤
HasOperands ps (catom a) = ⊤
HasOperands ps (cnot p) = Has ps p
HasOperands ps (cand p q) = Has ps p × Has ps q
HasOperands ps (cuntil i p q) = Has ps p × Has ps q
HasOperands ps (csince i p q) = Has ps p × Has ps q

-- each formula of the second list has its operands before it
abbrev pub IsClosedAfter : List Core → List Core → Type 0
IsClosedAfter before [] = ⊤
IsClosedAfter before (p ∷ ps) = HasOperands before p × IsClosedAfter (before ++ p ∷ []) ps

closed_append : (before ps qs : List Core) → IsClosedAfter before ps → IsClosedAfter (before ++ ps) qs → IsClosedAfter before (ps ++ qs)
closed_append before [] qs h g = rw append-nil at g
closed_append before (p ∷ ps) qs h g = (h.0, closed_append (before ++ p ∷ []) ps qs h.1 (rw (append_assoc before (p ∷ []) ps) g))

closed_new : (p : Core) (ps : List Core) → IsClosedAfter [] ps → HasOperands ps p → IsClosedAfter [] (add_new same p ps)
closed_new p ps h g = go (listed same p ps)
  where
    go : (b : Bool) → IsClosedAfter [] (if b then ps else ps ++ p ∷ [])
    go true = h
    go false = closed_append [] ps (p ∷ []) h (g, tt)

pub keeps_new : (p q : Core) (ps : List Core) → Has ps q → Has (add_new same p ps) q
keeps_new p q ps h = added_keeps same same_sound same_self p q ps h

pub has_new : (p : Core) (ps : List Core) → Has (add_new same p ps) p
has_new p ps = added_has same same_sound same_self p ps

pub adding_keeps : (p q : Core) (ps : List Core) → Has ps q → Has (add_subformulas p ps) q
unfolding add_subformulas
adding_keeps ctrue q ps h = keeps_new ctrue q ps h
adding_keeps (catom a) q ps h = keeps_new (catom a) q ps h
adding_keeps (cnot p) q ps h = keeps_new (cnot p) q _ (adding_keeps p q ps h)
adding_keeps (cand p r) q ps h = keeps_new (cand p r) q _ (adding_keeps r q _ (adding_keeps p q ps h))
adding_keeps (cuntil i p r) q ps h = keeps_new (cuntil i p r) q _ (adding_keeps r q _ (adding_keeps p q ps h))
adding_keeps (csince i p r) q ps h = keeps_new (csince i p r) q _ (adding_keeps r q _ (adding_keeps p q ps h))

pub adding_has : (p : Core) (ps : List Core) → Has (add_subformulas p ps) p
unfolding add_subformulas
adding_has ctrue ps = has_new ctrue ps
adding_has (catom a) ps = has_new (catom a) ps
adding_has (cnot p) ps = has_new (cnot p) _
adding_has (cand p r) ps = has_new (cand p r) _
adding_has (cuntil i p r) ps = has_new (cuntil i p r) _
adding_has (csince i p r) ps = has_new (csince i p r) _

pub adding_closed : (p : Core) (ps : List Core) → IsClosedAfter [] ps → IsClosedAfter [] (add_subformulas p ps)
unfolding add_subformulas
adding_closed ctrue ps h = closed_new ctrue ps h tt
adding_closed (catom a) ps h = closed_new (catom a) ps h tt
adding_closed (cnot p) ps h = closed_new (cnot p) _ (adding_closed p ps h) (adding_has p ps)
adding_closed (cand p r) ps h =
    closed_new (cand p r) _ (adding_closed r _ (adding_closed p ps h)) (adding_keeps r p _ (adding_has p ps), adding_has r _)
adding_closed (cuntil i p r) ps h =
    closed_new (cuntil i p r) _ (adding_closed r _ (adding_closed p ps h)) (adding_keeps r p _ (adding_has p ps), adding_has r _)
adding_closed (csince i p r) ps h =
    closed_new (csince i p r) _ (adding_closed r _ (adding_closed p ps h)) (adding_keeps r p _ (adding_has p ps), adding_has r _)

-- a listed formula stands at its place, also in a longer list
pub core_at_place : (p : Core) (before rest : List Core) → Has before p → core_at before (place_of same p (before ++ rest)) ≡ p
core_at_place p before rest h =
    rw (place_append same same_sound same_self p before rest h)
    (get_or_from_slice_get before (place_of same p before) p ctrue (place_get same same_sound same_self p before h))

-- an instruction of the future, and of the past, unfolds to its formula: not of the other tense, and its atom is loaded
abbrev pub IsFtHead : List Atom → List Expression → Core → Type 0
IsFtHead loaded es (catom a) = slice_index_or loaded (place_of same_expression (truth a) es) (is_true 0) ≡ a
IsFtHead loaded es (csince i p q) = ⊥
IsFtHead loaded es _ = ⊤

abbrev pub IsPtHead : List Atom → List Expression → Core → Type 0
IsPtHead loaded es (catom a) = slice_index_or loaded (place_of same_expression (truth a) es) (is_true 0) ≡ a
IsPtHead loaded es (cuntil i p q) = ⊥
IsPtHead loaded es _ = ⊤

ft_unfolds : (loaded : List Atom) (es : List Expression) (before rest : List Core) (p : Core) → HasOperands before p → IsFtHead loaded es p →
    op_formula loaded before (ft_instruction es (before ++ rest) p) ≡ p
ft_unfolds loaded es before rest ctrue h g = refl
ft_unfolds loaded es before rest (catom a) h g = ap catom g
ft_unfolds loaded es before rest (cnot p) h g = ap cnot (core_at_place p before rest h)
ft_unfolds loaded es before rest (cand p q) h g = ap₂ cand (core_at_place p before rest h.0) (core_at_place q before rest h.1)
ft_unfolds loaded es before rest (cuntil i p q) h g = ap₂ (cuntil i) (core_at_place p before rest h.0) (core_at_place q before rest h.1)
ft_unfolds loaded es before rest (csince i p q) h g = absurd g

pt_unfolds : (loaded : List Atom) (es : List Expression) (before rest : List Core) (p : Core) → HasOperands before p → IsPtHead loaded es p →
    past_formula_of loaded before (pt_instruction es (before ++ rest) p) ≡ p
pt_unfolds loaded es before rest ctrue h g = refl
pt_unfolds loaded es before rest (catom a) h g = ap catom g
pt_unfolds loaded es before rest (cnot p) h g = ap cnot (core_at_place p before rest h)
pt_unfolds loaded es before rest (cand p q) h g = ap₂ cand (core_at_place p before rest h.0) (core_at_place q before rest h.1)
pt_unfolds loaded es before rest (csince i p q) h g = ap₂ (csince i) (core_at_place p before rest h.0) (core_at_place q before rest h.1)
pt_unfolds loaded es before rest (cuntil i p q) h g = absurd g

ft_after : (loaded : List Atom) (es : List Expression) (all before ps : List Core) → all ≡ before ++ ps → IsClosedAfter before ps → Each (IsFtHead loaded es) ps →
    formulas_after loaded before (map (ft_instruction es all) ps) ≡ before ++ ps
unfolding formulas_after
ft_after loaded es all before [] e h g = sym (append-nil before)
ft_after loaded es all before (p ∷ ps) e h g =
    let here : op_formula loaded before (ft_instruction es all p) ≡ p = rw e (ft_unfolds loaded es before (p ∷ ps) p h.0 g.0) in
    let next : before ++ p ∷ ps ≡ (before ++ p ∷ []) ++ ps = sym (append_assoc before (p ∷ []) ps) in
    ap (λ (c : Core). formulas_after loaded (before ++ c ∷ []) (map (ft_instruction es all) ps)) here
    ∙ (ft_after loaded es all (before ++ p ∷ []) ps (e ∙ next) h.1 g.1 ∙ sym next)

pt_after : (loaded : List Atom) (es : List Expression) (all before ps : List Core) → all ≡ before ++ ps → IsClosedAfter before ps → Each (IsPtHead loaded es) ps →
    past_formulas_after loaded before (map (pt_instruction es all) ps) ≡ before ++ ps
unfolding past_formulas_after
pt_after loaded es all before [] e h g = sym (append-nil before)
pt_after loaded es all before (p ∷ ps) e h g =
    let here : past_formula_of loaded before (pt_instruction es all p) ≡ p = rw e (pt_unfolds loaded es before (p ∷ ps) p h.0 g.0) in
    let next : before ++ p ∷ ps ≡ (before ++ p ∷ []) ++ ps = sym (append_assoc before (p ∷ []) ps) in
    ap (λ (c : Core). past_formulas_after loaded (before ++ c ∷ []) (map (pt_instruction es all) ps)) here
    ∙ (pt_after loaded es all (before ++ p ∷ []) ps (e ∙ next) h.1 g.1 ∙ sym next)

-- a closed list of formulas is what its instructions unfold to
pub ft_formulas : (loaded : List Atom) (es : List Expression) (ps : List Core) → IsClosedAfter [] ps → Each (IsFtHead loaded es) ps → formulas loaded (map (ft_instruction es ps) ps) ≡ ps
ft_formulas loaded es ps h g = ft_after loaded es ps [] ps refl h g

pub pt_formulas : (loaded : List Atom) (es : List Expression) (ps : List Core) → IsClosedAfter [] ps → Each (IsPtHead loaded es) ps → past_formulas loaded (map (pt_instruction es ps) ps) ≡ ps
pt_formulas loaded es ps h g = pt_after loaded es ps [] ps refl h g

-- what holds of a formula and of all its subformulas
abbrev pub Deep : (Core → Type 0) → Core → Type 0
Deep H ctrue = H ctrue
Deep H (catom a) = H (catom a)
Deep H (cnot p) = H (cnot p) × Deep H p
Deep H (cand p q) = H (cand p q) × Deep H p × Deep H q
Deep H (cuntil i p q) = H (cuntil i p q) × Deep H p × Deep H q
Deep H (csince i p q) = H (csince i p q) × Deep H p × Deep H q

pub all_push : {X : Type 0} (H : X → Type 0) (xs : List X) (x : X) → Each H xs → H x → Each H (xs ++ x ∷ [])
all_push H [] x h g = (g, h)
all_push H (y ∷ xs) x h g = (h.0, all_push H xs x h.1 g)

all_new : (H : Core → Type 0) (p : Core) (ps : List Core) → Each H ps → H p → Each H (add_new same p ps)
all_new H p ps h g = go (listed same p ps)
  where
    go : (b : Bool) → Each H (if b then ps else ps ++ p ∷ [])
    go true = h
    go false = all_push H ps p h g

pub adding_all : (H : Core → Type 0) (p : Core) (ps : List Core) → Deep H p → Each H ps → Each H (add_subformulas p ps)
unfolding add_subformulas
adding_all H ctrue ps d h = all_new H ctrue ps h d
adding_all H (catom a) ps d h = all_new H (catom a) ps h d
adding_all H (cnot p) ps d h = all_new H (cnot p) _ (adding_all H p ps d.1 h) d.0
adding_all H (cand p q) ps d h = all_new H (cand p q) _ (adding_all H q _ d.2 (adding_all H p ps d.1 h)) d.0
adding_all H (cuntil i p q) ps d h = all_new H (cuntil i p q) _ (adding_all H q _ d.2 (adding_all H p ps d.1 h)) d.0
adding_all H (csince i p q) ps d h = all_new H (csince i p q) _ (adding_all H q _ d.2 (adding_all H p ps d.1 h)) d.0

-- over several formulas
pub fold_closed : (cs ps : List Core) → IsClosedAfter [] ps → IsClosedAfter [] (fold (λ qs p. add_subformulas p qs) ps cs)
fold_closed [] ps h = h
fold_closed (c ∷ cs) ps h = fold_closed cs (add_subformulas c ps) (adding_closed c ps h)

pub fold_all : (H : Core → Type 0) (cs ps : List Core) → Each (Deep H) cs → Each H ps → Each H (fold (λ qs p. add_subformulas p qs) ps cs)
fold_all H [] ps d h = h
fold_all H (c ∷ cs) ps d h = fold_all H cs (add_subformulas c ps) d.1 (adding_all H c ps d.0 h)

pub fold_keeps : (cs ps : List Core) (p : Core) → Has ps p → Has (fold (λ qs p. add_subformulas p qs) ps cs) p
fold_keeps [] ps p h = h
fold_keeps (c ∷ cs) ps p h = fold_keeps cs (add_subformulas c ps) p (adding_keeps c p ps h)

pub fold_has : (cs ps : List Core) → Each (Has (fold (λ qs p. add_subformulas p qs) ps cs)) cs
fold_has [] ps = tt
fold_has (c ∷ cs) ps = (fold_keeps cs (add_subformulas c ps) c (adding_has c ps), fold_has cs (add_subformulas c ps))
