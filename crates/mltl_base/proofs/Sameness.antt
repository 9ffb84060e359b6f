-- The tests of sameness tell what is one, and a list without repeats finds it at its place.

use Rattle.std.proofs.Common.{◌≡◌, ◌==◌, Bool, true, ◌&&◌, Decides, refl, sym, ap, ap₂, ◌∙◌}
use Rattle.std.proofs.lemmas.Bool.{and_parts, eqb-true, eq-eqb}
use Rattle.std.proofs.lemmas.Bool.Decides.{Decides-int_eq}
use Rattle.mltl_base.specs.declared.interval.Interval.{Interval}
use Rattle.mltl_base.specs.Atoms.{Term, column, constant, negative, plus, minus, times, quotient, remainder, Atom, is_true, equal, less, at_most, different, greater, at_least}
use Rattle.mltl_base.specs.Formula.{Core, ctrue, catom, cnot, cand, cuntil, csince}
use Rattle.mltl_base.specs.Programs.{Expression, whole, truth}
use Rattle.mltl_base.specs.Subformulas.{same_interval, same_term, same_atom, same_expression, same}

two : {A B C : Type 0} (f : A → B → C) (x y : Bool) (a c : A) (b d : B) → (x ≡ true → a ≡ c) → (y ≡ true → b ≡ d) → (x && y) ≡ true → f a b ≡ f c d
two f x y a c b d g h e = let p = and_parts x y e in ap₂ f (g p.0) (h p.1)

pub same_interval_sound : (i j : Interval) → same_interval i j ≡ true → i ≡ j
same_interval_sound i j e =
    let p = and_parts (i.lo == j.lo) (i.hi == j.hi) e in
    let l : i.lo ≡ j.lo = eqb-true i.lo j.lo p.0 in
    let h : i.hi ≡ j.hi = eqb-true i.hi j.hi p.1 in
    λ k. record { lo = l k; hi = h k }

pub same_term_sound : (a b : Term) → same_term a b ≡ true → a ≡ b
unfolding same_term
same_term_sound (column c) (column d) e = ap column (eqb-true c d e)
same_term_sound (constant n) (constant m) e = ap constant ((Decides-int_eq n m).0 e)
same_term_sound (negative a) (negative b) e = ap negative (same_term_sound a b e)
same_term_sound (plus a b) (plus c d) e = two plus (same_term a c) (same_term b d) a c b d (same_term_sound a c) (same_term_sound b d) e
same_term_sound (minus a b) (minus c d) e = two minus (same_term a c) (same_term b d) a c b d (same_term_sound a c) (same_term_sound b d) e
same_term_sound (times a b) (times c d) e = two times (same_term a c) (same_term b d) a c b d (same_term_sound a c) (same_term_sound b d) e
same_term_sound (quotient a b) (quotient c d) e = two quotient (same_term a c) (same_term b d) a c b d (same_term_sound a c) (same_term_sound b d) e
same_term_sound (remainder a b) (remainder c d) e = two remainder (same_term a c) (same_term b d) a c b d (same_term_sound a c) (same_term_sound b d) e
same_term_sound _ _ e = cc

both : (x y : Bool) → x ≡ true → y ≡ true → (x && y) ≡ true
both x y e f = rw (e, f) refl

pub same_term_self : (a : Term) → same_term a a ≡ true
unfolding same_term
same_term_self (column c) = eq-eqb c c refl
same_term_self (constant n) = (Decides-int_eq n n).1 refl
same_term_self (negative a) = same_term_self a
same_term_self (plus a b) = both _ _ (same_term_self a) (same_term_self b)
same_term_self (minus a b) = both _ _ (same_term_self a) (same_term_self b)
same_term_self (times a b) = both _ _ (same_term_self a) (same_term_self b)
same_term_self (quotient a b) = both _ _ (same_term_self a) (same_term_self b)
same_term_self (remainder a b) = both _ _ (same_term_self a) (same_term_self b)

pub same_atom_sound : (a b : Atom) → same_atom a b ≡ true → a ≡ b
unfolding same_atom
same_atom_sound (is_true c) (is_true d) e = ap is_true (eqb-true c d e)
same_atom_sound (equal a b) (equal c d) e = two equal (same_term a c) (same_term b d) a c b d (same_term_sound a c) (same_term_sound b d) e
same_atom_sound (less a b) (less c d) e = two less (same_term a c) (same_term b d) a c b d (same_term_sound a c) (same_term_sound b d) e
same_atom_sound (at_most a b) (at_most c d) e = two at_most (same_term a c) (same_term b d) a c b d (same_term_sound a c) (same_term_sound b d) e
same_atom_sound (different a b) (different c d) e = two different (same_term a c) (same_term b d) a c b d (same_term_sound a c) (same_term_sound b d) e
same_atom_sound (greater a b) (greater c d) e = two greater (same_term a c) (same_term b d) a c b d (same_term_sound a c) (same_term_sound b d) e
same_atom_sound (at_least a b) (at_least c d) e = two at_least (same_term a c) (same_term b d) a c b d (same_term_sound a c) (same_term_sound b d) e
same_atom_sound _ _ e = cc

pub same_atom_self : (a : Atom) → same_atom a a ≡ true
unfolding same_atom
same_atom_self (is_true c) = eq-eqb c c refl
same_atom_self (equal a b) = both _ _ (same_term_self a) (same_term_self b)
same_atom_self (less a b) = both _ _ (same_term_self a) (same_term_self b)
same_atom_self (at_most a b) = both _ _ (same_term_self a) (same_term_self b)
same_atom_self (different a b) = both _ _ (same_term_self a) (same_term_self b)
same_atom_self (greater a b) = both _ _ (same_term_self a) (same_term_self b)
same_atom_self (at_least a b) = both _ _ (same_term_self a) (same_term_self b)

pub same_expression_sound : (d e : Expression) → same_expression d e ≡ true → d ≡ e
unfolding same_expression
same_expression_sound (whole a) (whole b) h = ap whole (same_term_sound a b h)
same_expression_sound (truth a) (truth b) h = ap truth (same_atom_sound a b h)
same_expression_sound _ _ h = cc

pub same_expression_self : (e : Expression) → same_expression e e ≡ true
unfolding same_expression
same_expression_self (whole a) = same_term_self a
same_expression_self (truth a) = same_atom_self a

same_parts : (f : Interval → Core → Core → Core) (i j : Interval) (p q r s : Core) → (same p r ≡ true → p ≡ r) → (same q s ≡ true → q ≡ s) →
    (same_interval i j && (same p r && same q s)) ≡ true → f i p q ≡ f j r s
same_parts f i j p q r s g h e =
    let u = and_parts (same_interval i j) (same p r && same q s) e in
    two (λ (k : Interval) (w : Core × Core). f k w.0 w.1) (same_interval i j) (same p r && same q s) i j (p, q) (r, s) (same_interval_sound i j)
    (two (λ (a b : Core). (a, b)) (same p r) (same q s) p r q s g h) e

pub same_sound : (p q : Core) → same p q ≡ true → p ≡ q
unfolding same
same_sound ctrue ctrue e = refl
same_sound (catom a) (catom b) e = ap catom (same_atom_sound a b e)
same_sound (cnot p) (cnot q) e = ap cnot (same_sound p q e)
same_sound (cand p q) (cand r s) e = two cand (same p r) (same q s) p r q s (same_sound p r) (same_sound q s) e
same_sound (cuntil i p q) (cuntil j r s) e = same_parts cuntil i j p q r s (same_sound p r) (same_sound q s) e
same_sound (csince i p q) (csince j r s) e = same_parts csince i j p q r s (same_sound p r) (same_sound q s) e
same_sound _ _ e = cc

same_interval_self : (i : Interval) → same_interval i i ≡ true
same_interval_self i = both _ _ (eq-eqb i.lo i.lo refl) (eq-eqb i.hi i.hi refl)

pub same_self : (p : Core) → same p p ≡ true
unfolding same
same_self ctrue = refl
same_self (catom a) = same_atom_self a
same_self (cnot p) = same_self p
same_self (cand p q) = both _ _ (same_self p) (same_self q)
same_self (cuntil i p q) = both _ _ (same_interval_self i) (both _ _ (same_self p) (same_self q))
same_self (csince i p q) = both _ _ (same_interval_self i) (both _ _ (same_self p) (same_self q))

pub same_decides : (p q : Core) → Decides (same p q) (p ≡ q)
same_decides p q = (same_sound p q, λ e. ap (same p) (sym e) ∙ same_self p)

pub same_expression_decides : (d e : Expression) → Decides (same_expression d e) (d ≡ e)
same_expression_decides d e = (same_expression_sound d e, λ q. ap (same_expression d) (sym q) ∙ same_expression_self d)
