-- The core formulas, and the expressions, among all trees that a walk completes.

use Rattle.std.proofs.Common.{◌≡◌, Bool, true, false, not, ◌||◌, if◌then◌else◌, List, [], ◌∷◌, ◌++◌, fold, filter, map, refl, sym, ap, ap₂, ◌∙◌, append-nil}
use Rattle.std.proofs.lemmas.List.{map-append}
use Rattle.std.proofs.lemmas.List.Elements.{filter-append}
use Rattle.mltl_base.specs.Atoms.{Term, column, constant, negative, plus, minus, times, quotient, remainder, Atom, is_true, equal, less, at_most, different, greater, at_least}
use Rattle.mltl_base.specs.Formula.{Core, ctrue, catom, cnot, cand, cuntil, csince}
use Rattle.mltl_base.specs.Programs.{Expression, whole, truth}
use Rattle.mltl_base.specs.Subformulas.{same_expression, same, listed, add_new, add_subformulas, add_terms, add_atom, add_expressions}
use Rattle.core_graph.specs.Trees.{LabelTree, same_tree, add_tree, completed, is_core_tree}
use Rattle.core_graph.specs.Images.{of_term, of_atom, of_expression, of_core}
use Rattle.core_graph.proofs.Sameness.{same_expression_image, same_core_image, not_same}

module _ {X : Type 0} (alike : X → X → Bool) (image : X → LabelTree) (part : LabelTree → Bool) (fits : (x y : X) → same_tree (image x) (image y) ≡ alike x y) (within : (x : X) → part (image x) ≡ true) where
  listed_image : (x : X) (ys : List X) → listed same_tree (image x) (map image ys) ≡ listed alike x ys
  unfolding listed
  listed_image x [] = refl
  listed_image x (y ∷ ys) = ap₂ ◌||◌ (fits x y) (listed_image x ys)

  listed_filtered : (x : X) (t : LabelTree) (ts : List LabelTree) (k : Bool) → part t ≡ k → listed same_tree (image x) ts ≡ listed same_tree (image x) (filter part ts) →
      (same_tree (image x) t || listed same_tree (image x) ts) ≡ listed same_tree (image x) (if k then t ∷ filter part ts else filter part ts)
  unfolding listed
  listed_filtered x t ts true e h = ap (λ b. same_tree (image x) t || b) h
  listed_filtered x t ts false e h = ap₂ ◌||◌ (not_same part (image x) t (within x) e) h

  listed_part : (x : X) (ts : List LabelTree) → listed same_tree (image x) ts ≡ listed same_tree (image x) (filter part ts)
  unfolding listed
  listed_part x [] = refl
  listed_part x (t ∷ ts) = listed_filtered x t ts (part t) refl (listed_part x ts)

  -- what is listed among the trees of the part is so among all trees
  pub listed_both : (x : X) (ts : List LabelTree) (ys : List X) → filter part ts ≡ map image ys → listed same_tree (image x) ts ≡ listed alike x ys
  listed_both x ts ys h = listed_part x ts ∙ (ap (listed same_tree (image x)) h ∙ listed_image x ys)

  -- a tree of the part
  pub part_added : (x : X) (ts : List LabelTree) (ys : List X) → filter part ts ≡ map image ys → filter part (add_new same_tree (image x) ts) ≡ map image (add_new alike x ys)
  part_added x ts ys h =
      ap (λ b. filter part (if b then ts else ts ++ image x ∷ [])) (listed_both x ts ys h) ∙ go (listed alike x ys)
    where
      alone : filter part (image x ∷ []) ≡ image x ∷ []
      alone = ap (λ b. if b then image x ∷ [] else []) (within x)

      go : (b : Bool) → filter part (if b then ts else ts ++ image x ∷ []) ≡ map image (if b then ys else ys ++ x ∷ [])
      go true = h
      go false = filter-append part ts (image x ∷ []) ∙ (ap₂ ◌++◌ h alone ∙ sym (map-append image ys (x ∷ [])))

-- a tree of another part
pub other_added : (part : LabelTree → Bool) (t : LabelTree) (ts : List LabelTree) → part t ≡ false → filter part (add_new same_tree t ts) ≡ filter part ts
other_added part t ts e = go (listed same_tree t ts)
  where
    alone : filter part (t ∷ []) ≡ []
    alone = ap (λ b. if b then t ∷ [] else []) e

    go : (b : Bool) → filter part (if b then ts else ts ++ t ∷ []) ≡ filter part ts
    go true = refl
    go false = filter-append part ts (t ∷ []) ∙ (ap (λ us. filter part ts ++ us) alone ∙ append-nil (filter part ts))

-- core formulas
pub core_within : (p : Core) → is_core_tree (of_core p) ≡ true
core_within ctrue = refl
core_within _ = refl

term_outside : (a : Term) (ts : List LabelTree) → filter is_core_tree (add_tree (of_term a) ts) ≡ filter is_core_tree ts
unfolding add_tree
term_outside (column c) ts = other_added is_core_tree (of_term (column c)) ts refl
term_outside (constant n) ts = other_added is_core_tree (of_term (constant n)) ts refl
term_outside (negative a) ts = other_added is_core_tree (of_term (negative a)) _ refl ∙ term_outside a ts
term_outside (plus a b) ts = other_added is_core_tree (of_term (plus a b)) _ refl ∙ (term_outside b _ ∙ term_outside a ts)
term_outside (minus a b) ts = other_added is_core_tree (of_term (minus a b)) _ refl ∙ (term_outside b _ ∙ term_outside a ts)
term_outside (times a b) ts = other_added is_core_tree (of_term (times a b)) _ refl ∙ (term_outside b _ ∙ term_outside a ts)
term_outside (quotient a b) ts = other_added is_core_tree (of_term (quotient a b)) _ refl ∙ (term_outside b _ ∙ term_outside a ts)
term_outside (remainder a b) ts = other_added is_core_tree (of_term (remainder a b)) _ refl ∙ (term_outside b _ ∙ term_outside a ts)

atom_outside : (a : Atom) (ts : List LabelTree) → filter is_core_tree (add_tree (of_atom a) ts) ≡ filter is_core_tree ts
unfolding add_tree
atom_outside (is_true c) ts = other_added is_core_tree (of_atom (is_true c)) ts refl
atom_outside (equal a b) ts = other_added is_core_tree (of_atom (equal a b)) _ refl ∙ (term_outside b _ ∙ term_outside a ts)
atom_outside (less a b) ts = other_added is_core_tree (of_atom (less a b)) _ refl ∙ (term_outside b _ ∙ term_outside a ts)
atom_outside (at_most a b) ts = other_added is_core_tree (of_atom (at_most a b)) _ refl ∙ (term_outside b _ ∙ term_outside a ts)
atom_outside (different a b) ts = other_added is_core_tree (of_atom (different a b)) _ refl ∙ (term_outside b _ ∙ term_outside a ts)
atom_outside (greater a b) ts = other_added is_core_tree (of_atom (greater a b)) _ refl ∙ (term_outside b _ ∙ term_outside a ts)
atom_outside (at_least a b) ts = other_added is_core_tree (of_atom (at_least a b)) _ refl ∙ (term_outside b _ ∙ term_outside a ts)

core_new : (p : Core) (ts : List LabelTree) (ps : List Core) → filter is_core_tree ts ≡ map of_core ps → filter is_core_tree (add_new same_tree (of_core p) ts) ≡ map of_core (add_new same p ps)
core_new = part_added same of_core is_core_tree same_core_image core_within

core_added : (p : Core) (ts : List LabelTree) (ps : List Core) → filter is_core_tree ts ≡ map of_core ps → filter is_core_tree (add_tree (of_core p) ts) ≡ map of_core (add_subformulas p ps)
unfolding add_tree add_subformulas
core_added ctrue ts ps h = core_new ctrue ts ps h
core_added (catom a) ts ps h = core_new (catom a) _ ps (atom_outside a ts ∙ h)
core_added (cnot p) ts ps h = core_new (cnot p) _ _ (core_added p ts ps h)
core_added (cand p q) ts ps h = core_new (cand p q) _ _ (core_added q _ _ (core_added p ts ps h))
core_added (cuntil i p q) ts ps h = core_new (cuntil i p q) _ _ (core_added q _ _ (core_added p ts ps h))
core_added (csince i p q) ts ps h = core_new (csince i p q) _ _ (core_added q _ _ (core_added p ts ps h))

cores_added : (cs : List Core) (ts : List LabelTree) (ps : List Core) → filter is_core_tree ts ≡ map of_core ps →
    filter is_core_tree (fold (λ us t. add_tree t us) ts (map of_core cs)) ≡ map of_core (fold (λ qs p. add_subformulas p qs) ps cs)
cores_added [] ts ps h = h
cores_added (c ∷ cs) ts ps h = cores_added cs (add_tree (of_core c) ts) (add_subformulas c ps) (core_added c ts ps h)

pub cores_completed : (cs : List Core) → filter is_core_tree (completed (map of_core cs)) ≡ map of_core (fold (λ qs p. add_subformulas p qs) [] cs)
cores_completed cs = cores_added cs [] [] refl

-- expressions
abbrev pub is_expression_tree : LabelTree → Bool
is_expression_tree t = not (is_core_tree t)

term_within : (a : Term) → is_expression_tree (of_term a) ≡ true
term_within (column c) = refl
term_within _ = refl

atom_within : (a : Atom) → is_expression_tree (of_atom a) ≡ true
atom_within (is_true c) = refl
atom_within _ = refl

pub expression_within : (e : Expression) → is_expression_tree (of_expression e) ≡ true
expression_within (whole a) = term_within a
expression_within (truth a) = atom_within a

expression_new : (e : Expression) (ts : List LabelTree) (es : List Expression) → filter is_expression_tree ts ≡ map of_expression es →
    filter is_expression_tree (add_new same_tree (of_expression e) ts) ≡ map of_expression (add_new same_expression e es)
expression_new = part_added same_expression of_expression is_expression_tree same_expression_image expression_within

term_added : (a : Term) (ts : List LabelTree) (es : List Expression) → filter is_expression_tree ts ≡ map of_expression es → filter is_expression_tree (add_tree (of_term a) ts) ≡ map of_expression (add_terms a es)
unfolding add_tree add_terms
term_added (column c) ts es h = expression_new (whole (column c)) ts es h
term_added (constant n) ts es h = expression_new (whole (constant n)) ts es h
term_added (negative a) ts es h = expression_new (whole (negative a)) _ _ (term_added a ts es h)
term_added (plus a b) ts es h = expression_new (whole (plus a b)) _ _ (term_added b _ _ (term_added a ts es h))
term_added (minus a b) ts es h = expression_new (whole (minus a b)) _ _ (term_added b _ _ (term_added a ts es h))
term_added (times a b) ts es h = expression_new (whole (times a b)) _ _ (term_added b _ _ (term_added a ts es h))
term_added (quotient a b) ts es h = expression_new (whole (quotient a b)) _ _ (term_added b _ _ (term_added a ts es h))
term_added (remainder a b) ts es h = expression_new (whole (remainder a b)) _ _ (term_added b _ _ (term_added a ts es h))

atom_added : (a : Atom) (ts : List LabelTree) (es : List Expression) → filter is_expression_tree ts ≡ map of_expression es → filter is_expression_tree (add_tree (of_atom a) ts) ≡ map of_expression (add_atom a es)
unfolding add_tree
atom_added (is_true c) ts es h = expression_new (truth (is_true c)) ts es h
atom_added (equal a b) ts es h = expression_new (truth (equal a b)) _ _ (term_added b _ _ (term_added a ts es h))
atom_added (less a b) ts es h = expression_new (truth (less a b)) _ _ (term_added b _ _ (term_added a ts es h))
atom_added (at_most a b) ts es h = expression_new (truth (at_most a b)) _ _ (term_added b _ _ (term_added a ts es h))
atom_added (different a b) ts es h = expression_new (truth (different a b)) _ _ (term_added b _ _ (term_added a ts es h))
atom_added (greater a b) ts es h = expression_new (truth (greater a b)) _ _ (term_added b _ _ (term_added a ts es h))
atom_added (at_least a b) ts es h = expression_new (truth (at_least a b)) _ _ (term_added b _ _ (term_added a ts es h))

inner_added : (p : Core) (ts : List LabelTree) (es : List Expression) → filter is_expression_tree ts ≡ map of_expression es → filter is_expression_tree (add_tree (of_core p) ts) ≡ map of_expression (add_expressions p es)
unfolding add_tree add_expressions
inner_added ctrue ts es h = other_added is_expression_tree (of_core ctrue) ts refl ∙ h
inner_added (catom a) ts es h = other_added is_expression_tree (of_core (catom a)) _ refl ∙ atom_added a ts es h
inner_added (cnot p) ts es h = other_added is_expression_tree (of_core (cnot p)) _ refl ∙ inner_added p ts es h
inner_added (cand p q) ts es h = other_added is_expression_tree (of_core (cand p q)) _ refl ∙ inner_added q _ _ (inner_added p ts es h)
inner_added (cuntil i p q) ts es h = other_added is_expression_tree (of_core (cuntil i p q)) _ refl ∙ inner_added q _ _ (inner_added p ts es h)
inner_added (csince i p q) ts es h = other_added is_expression_tree (of_core (csince i p q)) _ refl ∙ inner_added q _ _ (inner_added p ts es h)

all_added : (cs : List Core) (ts : List LabelTree) (es : List Expression) → filter is_expression_tree ts ≡ map of_expression es →
    filter is_expression_tree (fold (λ us t. add_tree t us) ts (map of_core cs)) ≡ map of_expression (fold (λ ds p. add_expressions p ds) es cs)
all_added [] ts es h = h
all_added (c ∷ cs) ts es h = all_added cs (add_tree (of_core c) ts) (add_expressions c es) (inner_added c ts es h)

pub expressions_completed : (cs : List Core) → filter is_expression_tree (completed (map of_core cs)) ≡ map of_expression (fold (λ ds p. add_expressions p ds) [] cs)
expressions_completed cs = all_added cs [] [] refl
