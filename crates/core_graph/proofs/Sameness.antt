-- The tests of sameness tell what is one, and images of expressions and core formulas are one where these are.

use Rattle.std.proofs.Common.{◌≡◌, ◌==◌, ℕ, Bool, true, false, ◌&&◌, if◌then◌else◌, nat_lt, refl, sym, ap, ap₂, ◌∙◌}
use Rattle.std.proofs.lemmas.Bool.{and_parts, eqb-true, eq-eqb, true≢false, and_from}
use Rattle.std.proofs.lemmas.Bool.Decides.{Decides-int_eq}
use Rattle.mltl_base.specs.declared.interval.Interval.{Interval}
use Rattle.mltl_base.specs.Atoms.{Term, column, constant, negative, plus, minus, times, quotient, remainder, Atom, is_true, equal, less, at_most, different, greater, at_least}
use Rattle.mltl_base.specs.Formula.{Core, ctrue, catom, cnot, cand, cuntil, csince}
use Rattle.mltl_base.specs.Programs.{Expression, whole, truth}
use Rattle.mltl_base.specs.Subformulas.{same_interval, same_term, same_atom, same_expression, same}
use Rattle.mltl_base.proofs.Sameness.{same_interval_sound}
use Rattle.core_graph.specs.Trees.{Sign, negative_sign, plus_sign, minus_sign, times_sign, quotient_sign, remainder_sign, equal_sign, less_sign, at_most_sign, different_sign, greater_sign, at_least_sign, true_sign, load_sign, not_sign, and_sign, sign_number, Label, sign, in_column, truth_in, number, until_in, since_in, same_label, root, LabelTree, leaf, one, two, same_tree}
use Rattle.core_graph.specs.Images.{of_term, of_atom, of_expression, of_core}

abbrev sign_at : ℕ → Sign
sign_at n =
    if n == 0 then negative_sign else if n == 1 then plus_sign else if n == 2 then minus_sign else if n == 3 then times_sign
    else if n == 4 then quotient_sign else if n == 5 then remainder_sign else if n == 6 then equal_sign else if n == 7 then less_sign
    else if n == 8 then at_most_sign else if n == 9 then different_sign else if n == 10 then greater_sign else if n == 11 then at_least_sign
    else if n == 12 then true_sign else if n == 13 then load_sign else if n == 14 then not_sign else and_sign

sign_back : (s : Sign) → sign_at (sign_number s) ≡ s
sign_back negative_sign = refl
sign_back plus_sign = refl
sign_back minus_sign = refl
sign_back times_sign = refl
sign_back quotient_sign = refl
sign_back remainder_sign = refl
sign_back equal_sign = refl
sign_back less_sign = refl
sign_back at_most_sign = refl
sign_back different_sign = refl
sign_back greater_sign = refl
sign_back at_least_sign = refl
sign_back true_sign = refl
sign_back load_sign = refl
sign_back not_sign = refl
sign_back and_sign = refl

same_label_sound : (l m : Label) → same_label l m ≡ true → l ≡ m
same_label_sound (sign s) (sign t) e = ap sign (sym (sign_back s) ∙ (ap sign_at (eqb-true (sign_number s) (sign_number t) e) ∙ sign_back t))
same_label_sound (in_column c) (in_column d) e = ap in_column (eqb-true c d e)
same_label_sound (truth_in c) (truth_in d) e = ap truth_in (eqb-true c d e)
same_label_sound (number n) (number m) e = ap number ((Decides-int_eq n m).0 e)
same_label_sound (until_in i) (until_in j) e = ap until_in (same_interval_sound i j e)
same_label_sound (since_in i) (since_in j) e = ap since_in (same_interval_sound i j e)
same_label_sound _ _ e = cc

same_interval_self : (i : Interval) → same_interval i i ≡ true
same_interval_self i = and_from _ _ (eq-eqb i.lo i.lo refl) (eq-eqb i.hi i.hi refl)

same_label_self : (l : Label) → same_label l l ≡ true
same_label_self (sign s) = eq-eqb (sign_number s) (sign_number s) refl
same_label_self (in_column c) = eq-eqb c c refl
same_label_self (truth_in c) = eq-eqb c c refl
same_label_self (number n) = (Decides-int_eq n n).1 refl
same_label_self (until_in i) = same_interval_self i
same_label_self (since_in i) = same_interval_self i

pub same_tree_sound : (t u : LabelTree) → same_tree t u ≡ true → t ≡ u
unfolding same_tree
same_tree_sound (leaf l) (leaf m) e = ap leaf (same_label_sound l m e)
same_tree_sound (one l t) (one m u) e =
    let p = and_parts (same_label l m) (same_tree t u) e in
    ap₂ one (same_label_sound l m p.0) (same_tree_sound t u p.1)
same_tree_sound (two l t u) (two m v w) e =
    let p = and_parts (same_label l m) (same_tree t v && same_tree u w) e in
    let q = and_parts (same_tree t v) (same_tree u w) p.1 in
    let a : l ≡ m = same_label_sound l m p.0 in
    let b : t ≡ v = same_tree_sound t v q.0 in
    let d : u ≡ w = same_tree_sound u w q.1 in
    λ k. two (a k) (b k) (d k)
same_tree_sound _ _ e = cc

pub same_tree_self : (t : LabelTree) → same_tree t t ≡ true
unfolding same_tree
same_tree_self (leaf l) = same_label_self l
same_tree_self (one l t) = and_from _ _ (same_label_self l) (same_tree_self t)
same_tree_self (two l t u) = and_from _ _ (same_label_self l) (and_from _ _ (same_tree_self t) (same_tree_self u))

pub same_term_image : (a b : Term) → same_tree (of_term a) (of_term b) ≡ same_term a b
unfolding same_tree same_term
same_term_image (column c) (column d) = refl
same_term_image (constant n) (constant m) = refl
same_term_image (negative a) (negative b) = same_term_image a b
same_term_image (plus a b) (plus c d) = ap₂ ◌&&◌ (same_term_image a c) (same_term_image b d)
same_term_image (minus a b) (minus c d) = ap₂ ◌&&◌ (same_term_image a c) (same_term_image b d)
same_term_image (times a b) (times c d) = ap₂ ◌&&◌ (same_term_image a c) (same_term_image b d)
same_term_image (quotient a b) (quotient c d) = ap₂ ◌&&◌ (same_term_image a c) (same_term_image b d)
same_term_image (remainder a b) (remainder c d) = ap₂ ◌&&◌ (same_term_image a c) (same_term_image b d)
same_term_image _ _ = refl

pub same_atom_image : (a b : Atom) → same_tree (of_atom a) (of_atom b) ≡ same_atom a b
unfolding same_tree same_atom
same_atom_image (is_true c) (is_true d) = refl
same_atom_image (equal a b) (equal c d) = ap₂ ◌&&◌ (same_term_image a c) (same_term_image b d)
same_atom_image (less a b) (less c d) = ap₂ ◌&&◌ (same_term_image a c) (same_term_image b d)
same_atom_image (at_most a b) (at_most c d) = ap₂ ◌&&◌ (same_term_image a c) (same_term_image b d)
same_atom_image (different a b) (different c d) = ap₂ ◌&&◌ (same_term_image a c) (same_term_image b d)
same_atom_image (greater a b) (greater c d) = ap₂ ◌&&◌ (same_term_image a c) (same_term_image b d)
same_atom_image (at_least a b) (at_least c d) = ap₂ ◌&&◌ (same_term_image a c) (same_term_image b d)
same_atom_image _ _ = refl

-- a whole number is no atom
abbrev is_whole_label : Label → Bool
is_whole_label (in_column c) = true
is_whole_label (number n) = true
is_whole_label (sign s) = nat_lt (sign_number s) 6
is_whole_label _ = false

whole_term : (a : Term) → is_whole_label (root (of_term a)) ≡ true
whole_term (column c) = refl
whole_term _ = refl

no_whole_atom : (a : Atom) → is_whole_label (root (of_atom a)) ≡ false
no_whole_atom (is_true c) = refl
no_whole_atom _ = refl

pub not_same : (f : LabelTree → Bool) (t u : LabelTree) → f t ≡ true → f u ≡ false → same_tree t u ≡ false
not_same f t u e n = go (same_tree t u) refl
  where
    go : (b : Bool) → same_tree t u ≡ b → b ≡ false
    go false h = refl
    go true h = absurd (true≢false (sym e ∙ (ap f (same_tree_sound t u h) ∙ n)))

pub not_same_back : (f : LabelTree → Bool) (t u : LabelTree) → f t ≡ false → f u ≡ true → same_tree t u ≡ false
not_same_back f t u n e = go (same_tree t u) refl
  where
    go : (b : Bool) → same_tree t u ≡ b → b ≡ false
    go false h = refl
    go true h = absurd (true≢false (sym e ∙ (ap f (sym (same_tree_sound t u h)) ∙ n)))

apart : (a : Term) (b : Atom) → same_tree (of_term a) (of_atom b) ≡ false
apart a b = not_same (λ t. is_whole_label (root t)) (of_term a) (of_atom b) (whole_term a) (no_whole_atom b)

apart_back : (b : Atom) (a : Term) → same_tree (of_atom b) (of_term a) ≡ false
apart_back b a = not_same_back (λ t. is_whole_label (root t)) (of_atom b) (of_term a) (no_whole_atom b) (whole_term a)

pub same_expression_image : (d e : Expression) → same_tree (of_expression d) (of_expression e) ≡ same_expression d e
unfolding same_expression
same_expression_image (whole a) (whole b) = same_term_image a b
same_expression_image (truth a) (truth b) = same_atom_image a b
same_expression_image (whole a) (truth b) = apart a b
same_expression_image (truth a) (whole b) = apart_back a b

pub same_core_image : (p q : Core) → same_tree (of_core p) (of_core q) ≡ same p q
unfolding same_tree same
same_core_image ctrue ctrue = refl
same_core_image (catom a) (catom b) = same_atom_image a b
same_core_image (cnot p) (cnot q) = same_core_image p q
same_core_image (cand p q) (cand r s) = ap₂ ◌&&◌ (same_core_image p r) (same_core_image q s)
same_core_image (cuntil i p q) (cuntil j r s) = ap (λ b. same_interval i j && b) (ap₂ ◌&&◌ (same_core_image p r) (same_core_image q s))
same_core_image (csince i p q) (csince j r s) = ap (λ b. same_interval i j && b) (ap₂ ◌&&◌ (same_core_image p r) (same_core_image q s))
same_core_image _ _ = refl
