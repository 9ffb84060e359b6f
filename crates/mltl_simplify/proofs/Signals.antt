-- A simplified formula reads the signals of its formula, each by its kind, and is simplified alike over all columns.

use Rattle.std.proofs.Common.{◌≡◌, ℕ, ◌+◌, Bool, true, false, not, ◌||◌, Option, Some, None, List, [], ◌∷◌, map, All, refl, ap, ap₂, sym, ◌∙◌, nat_le}
use Rattle.std.specs.Prelude.{if◌then◌else◌, neg_ℤ, ◌+ℤ◌, ◌-ℤ◌, ◌*ℤ◌, int_div, int_rem, int_lt, int_le}
use Rattle.std.specs.Ordering.{int_eq}
use Rattle.std.proofs.lemmas.Bool.{or_parts}
use Rattle.std.proofs.lemmas.List.Elements.{All-map, All-weaker}
use Rattle.mltl_base.specs.declared.interval.Interval.{Interval}
use Rattle.mltl_base.specs.declared.limits.TheConstants.{MAX_BOUND}
use Rattle.mltl_base.specs.Atoms.{Term, column, constant, negative, plus, minus, times, quotient, remainder, Atom, is_true, equal, less, at_most, different, greater, at_least, value, holds, term_over, atom_over}
use Rattle.mltl_base.specs.Formula.{Formula, truth, falsity, atom, negation, conjunction, disjunction, implication, equivalence, finally, globally, until, release, once, historically, since, formula_over}
use Rattle.mltl_base.specs.Kinds.{AtomReadsKinds, ReadsKinds, ReadsSignals}
use Rattle.mltl_base.specs.Reports.{Output, formula, contract}
use Rattle.mltl_base.specs.Subformulas.{Asked}
use Rattle.c2po_ast.specs.Outputs.{asked_over, output_over}
use Rattle.mltl_simplify.specs.Outputs.{simple_asked, simple_output, simple_outputs}
use Rattle.mltl_simplify.specs.Simplify.{both, either, equals, has_signal, if_joined, implies, summed_interval, of_truth, reads_signal, simp, simple_and, simple_atom, simple_equals, simple_finally, simple_globally, simple_historically, simple_implies, simple_not, simple_once, simple_or, as_truth, unless_false, unless_truth}
use Rattle.mltl_simplify.proofs.Ending.{kept_by}
use Rattle.mltl_simplify.proofs.Forms.{simp_each_atom}

-- ---- kinds

module _ (kinds : List Bool) where
  abbrev Reads : Formula → Type 0
  Reads p = ReadsKinds kinds p

  pub simp_kinds : (p : Formula) → Reads p → Reads (simp p)
  simp_kinds = simp_each_atom (AtomReadsKinds kinds)

  pub simple_kinds : (outs : List Asked) → All (ReadsSignals kinds) outs → All (ReadsSignals kinds) (simple_outputs outs)
  simple_kinds outs h = All-map (ReadsSignals kinds) simple_asked outs (All-weaker (ReadsSignals kinds) (λ a. ReadsSignals kinds (simple_asked a)) (λ a k. kept_by Reads simp_kinds a.output k) outs h)

-- ---- columns

module _ (columns : List ℕ) where
  abbrev over : Formula → Formula
  over p = formula_over columns p

  -- expressions and atoms without signals stay
  term_reads : (a : Term) → reads_signal (term_over columns a) ≡ reads_signal a
  unfolding reads_signal term_over
  term_reads (column s) = refl
  term_reads (constant n) = refl
  term_reads (negative a) = term_reads a
  term_reads (plus a b) = ap₂ (λ x y. x || y) (term_reads a) (term_reads b)
  term_reads (minus a b) = ap₂ (λ x y. x || y) (term_reads a) (term_reads b)
  term_reads (times a b) = ap₂ (λ x y. x || y) (term_reads a) (term_reads b)
  term_reads (quotient a b) = ap₂ (λ x y. x || y) (term_reads a) (term_reads b)
  term_reads (remainder a b) = ap₂ (λ x y. x || y) (term_reads a) (term_reads b)

  term_value : (a : Term) → reads_signal a ≡ false → value (term_over columns a) [] ≡ value a []
  unfolding reads_signal term_over value
  term_value (column s) h = absurd (cc)
  term_value (constant n) h = refl
  term_value (negative a) h = ap neg_ℤ (term_value a h)
  term_value (plus a b) h = let n = or_parts (reads_signal a) (reads_signal b) h in ap₂ (λ x y. x +ℤ y) (term_value a n.0) (term_value b n.1)
  term_value (minus a b) h = let n = or_parts (reads_signal a) (reads_signal b) h in ap₂ (λ x y. x -ℤ y) (term_value a n.0) (term_value b n.1)
  term_value (times a b) h = let n = or_parts (reads_signal a) (reads_signal b) h in ap₂ (λ x y. x *ℤ y) (term_value a n.0) (term_value b n.1)
  term_value (quotient a b) h = let n = or_parts (reads_signal a) (reads_signal b) h in ap₂ int_div (term_value a n.0) (term_value b n.1)
  term_value (remainder a b) h = let n = or_parts (reads_signal a) (reads_signal b) h in ap₂ int_rem (term_value a n.0) (term_value b n.1)

  atom_reads : (a : Atom) → has_signal (atom_over columns a) ≡ has_signal a
  unfolding has_signal atom_over
  atom_reads (is_true s) = refl
  atom_reads _ = ap₂ (λ x y. x || y) (term_reads _) (term_reads _)

  atom_holds : (a : Atom) → has_signal a ≡ false → holds (atom_over columns a) [] ≡ holds a []
  unfolding has_signal atom_over holds
  atom_holds (is_true s) h = absurd (cc)
  atom_holds (equal a b) h = let n = or_parts (reads_signal a) (reads_signal b) h in ap₂ int_eq (term_value a n.0) (term_value b n.1)
  atom_holds (less a b) h = let n = or_parts (reads_signal a) (reads_signal b) h in ap₂ int_lt (term_value a n.0) (term_value b n.1)
  atom_holds (at_most a b) h = let n = or_parts (reads_signal a) (reads_signal b) h in ap₂ int_le (term_value a n.0) (term_value b n.1)
  atom_holds (different a b) h = let n = or_parts (reads_signal a) (reads_signal b) h in ap₂ (λ x y. not (int_eq x y)) (term_value a n.0) (term_value b n.1)
  atom_holds (greater a b) h = let n = or_parts (reads_signal a) (reads_signal b) h in ap₂ (λ x y. int_lt y x) (term_value a n.0) (term_value b n.1)
  atom_holds (at_least a b) h = let n = or_parts (reads_signal a) (reads_signal b) h in ap₂ (λ x y. int_le y x) (term_value a n.0) (term_value b n.1)

  truth_over : (v : Bool) → over (of_truth v) ≡ of_truth v
  unfolding formula_over
  truth_over true = refl
  truth_over false = refl

  simple_atom_over : (a : Atom) → over (simple_atom a) ≡ simple_atom (atom_over columns a)
  unfolding formula_over
  simple_atom_over a = by_test (has_signal a) (has_signal (atom_over columns a)) (atom_reads a) (atom_holds a)
    where
      by_test : (b c : Bool) → c ≡ b → (b ≡ false → holds (atom_over columns a) [] ≡ holds a []) →
          over (if b then atom a else of_truth (holds a [])) ≡ (if c then atom (atom_over columns a) else of_truth (holds (atom_over columns a) []))
      by_test true true h k = refl
      by_test true false h k = absurd (cc)
      by_test false true h k = absurd (cc)
      by_test false false h k = truth_over (holds a []) ∙ ap of_truth (sym (k refl))

  truth_of_over : (x : Formula) → as_truth (over x) ≡ as_truth x
  unfolding as_truth formula_over
  truth_of_over truth = refl
  truth_of_over _ = refl

  not_over : (x : Formula) → over (simple_not x) ≡ simple_not (over x)
  unfolding simple_not formula_over
  not_over truth = refl
  not_over _ = refl

  and_over : (x y : Formula) → over (simple_and x y) ≡ simple_and (over x) (over y)
  unfolding formula_over
  and_over x y = go (as_truth x) (as_truth y) ∙ sym (ap₂ (λ u w. both u w (over x) (over y)) (truth_of_over x) (truth_of_over y))
    where
      go : (u w : Option Bool) → over (both u w x y) ≡ both u w (over x) (over y)
      go (Some false) w = refl
      go (Some true) w = refl
      go None (Some false) = refl
      go None (Some true) = refl
      go None None = refl

  or_over : (x y : Formula) → over (simple_or x y) ≡ simple_or (over x) (over y)
  unfolding formula_over
  or_over x y = go (as_truth x) (as_truth y) ∙ sym (ap₂ (λ u w. either u w (over x) (over y)) (truth_of_over x) (truth_of_over y))
    where
      go : (u w : Option Bool) → over (either u w x y) ≡ either u w (over x) (over y)
      go (Some true) w = refl
      go (Some false) w = refl
      go None (Some true) = refl
      go None (Some false) = refl
      go None None = refl

  implies_over : (x y : Formula) → over (simple_implies x y) ≡ simple_implies (over x) (over y)
  unfolding formula_over
  implies_over x y = go (as_truth x) (as_truth y) ∙ sym (ap₂ (λ u w. implies u w (over x) (over y)) (truth_of_over x) (truth_of_over y))
    where
      go : (u w : Option Bool) → over (implies u w x y) ≡ implies u w (over x) (over y)
      go (Some false) w = refl
      go (Some true) w = refl
      go None (Some true) = refl
      go None (Some false) = not_over x
      go None None = refl

  equals_over : (x y : Formula) → over (simple_equals x y) ≡ simple_equals (over x) (over y)
  unfolding formula_over
  equals_over x y = go (as_truth x) (as_truth y) ∙ sym (ap₂ (λ u w. equals u w (over x) (over y)) (truth_of_over x) (truth_of_over y))
    where
      go : (u w : Option Bool) → over (equals u w x y) ≡ equals u w (over x) (over y)
      go (Some true) w = refl
      go (Some false) w = not_over y
      go None (Some true) = refl
      go None (Some false) = not_over x
      go None None = refl

  joined_over : (i j : Interval) (one two : Formula) → over (if_joined i j one two) ≡ if_joined i j (over one) (over two)
  joined_over i j one two = go (nat_le (i.hi + j.hi) MAX_BOUND)
    where
      go : (b : Bool) → over (if b then one else two) ≡ (if b then over one else over two)
      go true = refl
      go false = refl

  finally_over : (i : Interval) (x : Formula) → over (simple_finally i x) ≡ simple_finally i (over x)
  unfolding simple_finally formula_over
  finally_over i (finally j p) = joined_over i j (finally (summed_interval i j) p) (finally i (finally j p))
  finally_over i _ = refl

  globally_over : (i : Interval) (x : Formula) → over (simple_globally i x) ≡ simple_globally i (over x)
  unfolding simple_globally formula_over
  globally_over i (globally j p) = joined_over i j (globally (summed_interval i j) p) (globally i (globally j p))
  globally_over i _ = refl

  once_over : (i : Interval) (x : Formula) → over (simple_once i x) ≡ simple_once i (over x)
  unfolding simple_once formula_over
  once_over i (once j p) = joined_over i j (once (summed_interval i j) p) (once i (once j p))
  once_over i _ = refl

  historically_over : (i : Interval) (x : Formula) → over (simple_historically i x) ≡ simple_historically i (over x)
  unfolding simple_historically formula_over
  historically_over i (historically j p) = joined_over i j (historically (summed_interval i j) p) (historically i (historically j p))
  historically_over i _ = refl

  unless_truth_over : (u : Option Bool) (x : Formula) → over (unless_truth u x) ≡ unless_truth u (over x)
  unless_truth_over (Some v) x = truth_over v
  unless_truth_over None x = refl

  unless_false_over : (u : Option Bool) (x : Formula) → over (unless_false u x) ≡ unless_false u (over x)
  unfolding formula_over
  unless_false_over (Some false) x = refl
  unless_false_over _ x = refl

  -- a formula over columns is simplified as the formula is
  pub simp_over : (p : Formula) → formula_over columns (simp p) ≡ simp (formula_over columns p)
  unfolding simp formula_over
  simp_over (atom a) = simple_atom_over a
  simp_over (negation p) = not_over (simp p) ∙ ap simple_not (simp_over p)
  simp_over (conjunction p q) = and_over (simp p) (simp q) ∙ ap₂ simple_and (simp_over p) (simp_over q)
  simp_over (disjunction p q) = or_over (simp p) (simp q) ∙ ap₂ simple_or (simp_over p) (simp_over q)
  simp_over (implication p q) = implies_over (simp p) (simp q) ∙ ap₂ simple_implies (simp_over p) (simp_over q)
  simp_over (equivalence p q) = equals_over (simp p) (simp q) ∙ ap₂ simple_equals (simp_over p) (simp_over q)
  simp_over (finally i p) = finally_over i (simp p) ∙ ap (simple_finally i) (simp_over p)
  simp_over (globally i p) = globally_over i (simp p) ∙ ap (simple_globally i) (simp_over p)
  simp_over (until i p q) =
      unless_truth_over (as_truth (simp q)) (until i (simp p) (simp q))
      ∙ ap (λ u. unless_truth u (until i (over (simp p)) (over (simp q)))) (sym (truth_of_over (simp q)))
      ∙ ap₂ (λ x y. unless_truth (as_truth y) (until i x y)) (simp_over p) (simp_over q)
  simp_over (release i p q) =
      unless_truth_over (as_truth (simp q)) (release i (simp p) (simp q))
      ∙ ap (λ u. unless_truth u (release i (over (simp p)) (over (simp q)))) (sym (truth_of_over (simp q)))
      ∙ ap₂ (λ x y. unless_truth (as_truth y) (release i x y)) (simp_over p) (simp_over q)
  simp_over (once i p) = once_over i (simp p) ∙ ap (simple_once i) (simp_over p)
  simp_over (historically i p) = historically_over i (simp p) ∙ ap (simple_historically i) (simp_over p)
  simp_over (since i p q) =
      unless_false_over (as_truth (simp q)) (since i (simp p) (simp q))
      ∙ ap (λ u. unless_false u (since i (over (simp p)) (over (simp q)))) (sym (truth_of_over (simp q)))
      ∙ ap₂ (λ x y. unless_false (as_truth y) (since i x y)) (simp_over p) (simp_over q)
  simp_over _ = refl

  output_simple : (o : Output) → output_over columns (simple_output o) ≡ simple_output (output_over columns o)
  output_simple (formula p) = ap formula (simp_over p)
  output_simple (contract p q) = ap₂ contract (simp_over p) (simp_over q)

  -- so are outputs
  pub simple_over : (outs : List Asked) → map (asked_over columns) (simple_outputs outs) ≡ simple_outputs (map (asked_over columns) outs)
  simple_over [] = refl
  simple_over (a ∷ outs) = ap₂ (λ o os. record { engine = a.engine; name = a.name; output = o } ∷ os) (output_simple a.output) (simple_over outs)
