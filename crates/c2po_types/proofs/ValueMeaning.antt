-- What unfolded quantifiers mean.

use Rattle.std.proofs.Common.{◌≡◌, ℕ, ◌+◌, ◌≤◌, min, Bool, true, false, not, ◌&&◌, ◌||◌, List, [], ◌∷◌, map, length, cond, refl, sym, ap, ◌∙◌, arith}
use Rattle.std.proofs.Math.ListN.{get_or-map}
use Rattle.std.proofs.lemmas.List.{length-map}
use Rattle.std.proofs.lemmas.List.Sums.{sum_by-cons}
use Rattle.mltl_base.specs.declared.limits.TheConstants.{MAX_BOUND}
use Rattle.mltl_base.specs.declared.operators.CountOp.{CountOp}
use Rattle.mltl_base.specs.Atoms.{Row}
use Rattle.mltl_base.specs.Formula.{Formula, falsity}
use Rattle.mltl_base.specs.Meaning.{count, sat}
use Rattle.count_sets.specs.Counting as counting
use Rattle.count_sets.specs.Counting.{Counted, compares, truth_under, true_count}
use Rattle.count_sets.proofs.Thresholds.{counting_counts}
use Rattle.c2po_ast.specs.Nodes.{constant_formula}
use Rattle.c2po_types.specs.Values.{counted_formula, interval}

constant_means : (rows : List Row) (t : ℕ) (v : Bool) → sat rows (constant_formula v) t ≡ v
unfolding sat
constant_means rows t true = refl
constant_means rows t false = refl

-- a formula over bodies holds as the truths of the bodies say
holds_under : (c : Counted) (bodies : List Formula) (rows : List Row) (t : ℕ) →
    sat rows (counted_formula bodies c) t ≡ truth_under (map (λ p. sat rows p t) bodies) c
unfolding sat counted_formula truth_under
holds_under (counting.truth v) bodies rows t = constant_means rows t v
holds_under (counting.body i) bodies rows t = sym (get_or-map (λ p. sat rows p t) bodies i falsity)
holds_under (counting.both c d) bodies rows t =
    ap (λ x. x && sat rows (counted_formula bodies d) t) (holds_under c bodies rows t)
    ∙ ap (λ x. truth_under (map (λ p. sat rows p t) bodies) c && x) (holds_under d bodies rows t)
holds_under (counting.either c d) bodies rows t =
    ap (λ x. x || sat rows (counted_formula bodies d) t) (holds_under c bodies rows t)
    ∙ ap (λ x. truth_under (map (λ p. sat rows p t) bodies) c || x) (holds_under d bodies rows t)
holds_under (counting.negation c) bodies rows t = ap not (holds_under c bodies rows t)

-- the true ones among truths
true_of : (bodies : List Formula) (rows : List Row) (t : ℕ) → true_count (map (λ p. sat rows p t) bodies) ≡ count rows bodies t
true_of [] rows t = refl
true_of (p ∷ bodies) rows t =
    sum_by-cons (λ v. cond v 1 0) (sat rows p t) (map (λ q. sat rows q t) bodies)
    ∙ (ap (λ n. cond (sat rows p t) 1 0 + n) (true_of bodies rows t) ∙ sym (sum_by-cons (λ q. cond (sat rows q t) 1 0) p bodies))

pub counting_means : (op : CountOp) (m : ℕ) (bodies : List Formula) (rows : List Row) (t : ℕ) →
    sat rows (counted_formula bodies (counting.counting op (length bodies) m)) t ≡ compares op m (count rows bodies t)
counting_means op m bodies rows t =
    holds_under (counting.counting op (length bodies) m) bodies rows t
    ∙ (counting_counts op (length bodies) m (map (λ p. sat rows p t) bodies) (length-map bodies (λ p. sat rows p t))
    ∙ ap (compares op m) (true_of bodies rows t))

pub interval_stays : (a b : ℕ) → a ≤ b → b ≤ MAX_BOUND → interval a b ≡ record { lo = a; hi = b }
interval_stays a b up bound =
    let high : min b MAX_BOUND ≡ b = omega arith in
    let low : min a (min b MAX_BOUND) ≡ a = omega arith in
    ap (λ (x : ℕ). record { lo = x; hi = min b MAX_BOUND }) low ∙ ap (λ (x : ℕ). record { lo = a; hi = x }) high
