-- Simplified formulas: operands are simplified first, then the first rule that fits the operator is applied once.
-- A reader of the contracts needs this file.

use Rattle.std.specs.Prelude.{◌+◌, nat_le, Bool, true, false, ◌||◌, if◌then◌else◌, Option, Some, None, []}
use Rattle.mltl_base.specs.declared.interval.Interval.{Interval}
use Rattle.mltl_base.specs.declared.limits.TheConstants.{MAX_BOUND}
use Rattle.mltl_base.specs.Atoms.{Term, column, constant, negative, plus, minus, times, quotient, remainder, Atom}
use Rattle.mltl_base.specs.Atoms.{is_true, equal, less, at_most, different, greater, at_least, holds}
use Rattle.mltl_base.specs.Formula.{Formula, truth, falsity, atom, negation, conjunction, disjunction, implication}
use Rattle.mltl_base.specs.Formula.{equivalence, finally, globally, until, release, once, historically, since}

-- a Boolean as a formula
abbrev pub of_truth : Bool → Formula
of_truth true = truth
of_truth false = falsity

-- the Boolean that a formula is, if it is one
unfoldable pub as_truth : Formula → Option Bool
as_truth truth = Some true
as_truth falsity = Some false
as_truth _ = None

-- a signal occurs in the expression
unfoldable pub reads_signal : Term → Bool
reads_signal (column s) = true
reads_signal (constant n) = false
reads_signal (negative a) = reads_signal a
reads_signal (plus a b) = reads_signal a || reads_signal b
reads_signal (minus a b) = reads_signal a || reads_signal b
reads_signal (times a b) = reads_signal a || reads_signal b
reads_signal (quotient a b) = reads_signal a || reads_signal b
reads_signal (remainder a b) = reads_signal a || reads_signal b

-- a signal occurs in the atom
unfoldable pub has_signal : Atom → Bool
has_signal (is_true s) = true
has_signal (equal a b) = reads_signal a || reads_signal b
has_signal (less a b) = reads_signal a || reads_signal b
has_signal (at_most a b) = reads_signal a || reads_signal b
has_signal (different a b) = reads_signal a || reads_signal b
has_signal (greater a b) = reads_signal a || reads_signal b
has_signal (at_least a b) = reads_signal a || reads_signal b

-- the simplified atom: a comparison without signals is the Boolean that it has on every row
abbrev pub simple_atom : Atom → Formula
simple_atom a = if has_signal a then atom a else of_truth (holds a [])

-- not x: z if x is not z, the other Boolean if x is true or false
unfoldable pub simple_not : Formula → Formula
simple_not truth = falsity
simple_not falsity = truth
simple_not (negation z) = z
simple_not x = negation x

-- x and y, with the Booleans that they are, if any: false if one is false, the other if one is true
abbrev pub both : Option Bool → Option Bool → Formula → Formula → Formula
both (Some false) w x y = falsity
both (Some true) w x y = y
both None (Some false) x y = falsity
both None (Some true) x y = x
both None None x y = conjunction x y

-- x and y by that rule
abbrev pub simple_and : Formula → Formula → Formula
simple_and x y = both (as_truth x) (as_truth y) x y

-- x or y, with the Booleans that they are, if any: true if one is true, the other if one is false
abbrev pub either : Option Bool → Option Bool → Formula → Formula → Formula
either (Some true) w x y = truth
either (Some false) w x y = y
either None (Some true) x y = truth
either None (Some false) x y = x
either None None x y = disjunction x y

-- x or y by that rule
abbrev pub simple_or : Formula → Formula → Formula
simple_or x y = either (as_truth x) (as_truth y) x y

-- x implies y, with the Booleans that they are, if any: true if x is false or y is true, y if x is true, not x if y is false
abbrev pub implies : Option Bool → Option Bool → Formula → Formula → Formula
implies (Some false) w x y = truth
implies (Some true) w x y = y
implies None (Some true) x y = truth
implies None (Some false) x y = simple_not x
implies None None x y = implication x y

-- x implies y by that rule
abbrev pub simple_implies : Formula → Formula → Formula
simple_implies x y = implies (as_truth x) (as_truth y) x y

-- x equals y, with the Booleans that they are, if any: the other if one is true, not the other if one is false
abbrev pub equals : Option Bool → Option Bool → Formula → Formula → Formula
equals (Some true) w x y = y
equals (Some false) w x y = simple_not y
equals None (Some true) x y = x
equals None (Some false) x y = simple_not x
equals None None x y = equivalence x y

-- x equals y by that rule
abbrev pub simple_equals : Formula → Formula → Formula
simple_equals x y = equals (as_truth x) (as_truth y) x y

-- the interval that joins two nested intervals: its bounds are the sums of their bounds
abbrev pub summed_interval : Interval → Interval → Interval
summed_interval i j = record { lo = i.lo + j.lo; hi = i.hi + j.hi }

-- the first formula if the upper bound of the joined interval is within the limit, else the second
abbrev pub if_joined : Interval → Interval → Formula → Formula → Formula
if_joined i j one two = if nat_le (i.hi + j.hi) MAX_BOUND then one else two

-- finally x: the Boolean if x is true or false; two nested operators are joined
unfoldable pub simple_finally : Interval → Formula → Formula
simple_finally i truth = truth
simple_finally i falsity = falsity
simple_finally i (finally j z) = if_joined i j (finally (summed_interval i j) z) (finally i (finally j z))
simple_finally i x = finally i x

-- globally x: the Boolean if x is true or false; two nested operators are joined
unfoldable pub simple_globally : Interval → Formula → Formula
simple_globally i truth = truth
simple_globally i falsity = falsity
simple_globally i (globally j z) = if_joined i j (globally (summed_interval i j) z) (globally i (globally j z))
simple_globally i x = globally i x

-- once x: false if x is false; two nested operators are joined. Once of true isn't true at the first times
unfoldable pub simple_once : Interval → Formula → Formula
simple_once i falsity = falsity
simple_once i (once j z) = if_joined i j (once (summed_interval i j) z) (once i (once j z))
simple_once i x = once i x

-- historically x: true if x is true; two nested operators are joined. Historically of false isn't false at the first times
unfoldable pub simple_historically : Interval → Formula → Formula
simple_historically i truth = truth
simple_historically i (historically j z) =
    if_joined i j (historically (summed_interval i j) z) (historically i (historically j z))
simple_historically i x = historically i x

-- until or release: the Boolean if the right formula is true or false
abbrev pub unless_truth : Option Bool → Formula → Formula
unless_truth (Some v) whole = of_truth v
unless_truth None whole = whole

-- since: false if the right formula is false
abbrev pub unless_false : Option Bool → Formula → Formula
unless_false (Some false) whole = falsity
unless_false (Some true) whole = whole
unless_false None whole = whole

-- the simplified formula
unfoldable pub simp : Formula → Formula
simp truth = truth
simp falsity = falsity
simp (atom a) = simple_atom a
simp (negation p) = simple_not (simp p)
simp (conjunction p q) = simple_and (simp p) (simp q)
simp (disjunction p q) = simple_or (simp p) (simp q)
simp (implication p q) = simple_implies (simp p) (simp q)
simp (equivalence p q) = simple_equals (simp p) (simp q)
simp (finally i p) = simple_finally i (simp p)
simp (globally i p) = simple_globally i (simp p)
simp (until i p q) = unless_truth (as_truth (simp q)) (until i (simp p) (simp q))
simp (release i p q) = unless_truth (as_truth (simp q)) (release i (simp p) (simp q))
simp (once i p) = simple_once i (simp p)
simp (historically i p) = simple_historically i (simp p)
simp (since i p q) = unless_false (as_truth (simp q)) (since i (simp p) (simp q))
