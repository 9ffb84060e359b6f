-- Verdicts that hold whatever rows follow.
-- A reader of the contracts needs this file.

use Rattle.std.specs.Prelude.{ℕ, ◌+◌, ◌<◌, ◌≤◌, ◌≡◌, Bool, List, ◌++◌, length, ⊤}
use Rattle.mltl_base.specs.Atoms.{Row}
use Rattle.mltl_base.specs.Formula.{Formula, truth, falsity, atom, negation, conjunction, disjunction, implication}
use Rattle.mltl_base.specs.Formula.{equivalence, finally, globally, until, release, once, historically, since, wpd}
use Rattle.mltl_base.specs.Formula.{EachInterval}
use Rattle.mltl_base.specs.Meaning.{sat}

-- a list of verdicts begins a longer one
abbrev pub IsPrefix : {X : Type 0} → List X → List X → Type 0
IsPrefix {X} xs ys = (zs : List X) × (ys ≡ xs ++ zs)

-- each list of rows that begins with these, and is long enough to decide the formula at t, gives it the value v at t
abbrev pub Settled : List Row → Formula → ℕ → Bool → Type 0
Settled rows p t v = (more : List Row) → t + wpd p < length (rows ++ more) → sat (rows ++ more) p t ≡ v

-- each list of rows that begins with these, goes on with rows of the class (rows that fit a program, say), and is long
-- enough to decide the formula at t, gives it the value v at t
abbrev pub SettledAmong : (List Row → Type 0) → List Row → Formula → ℕ → Bool → Type 0
SettledAmong IsIn rows p t v =
    (more : List Row) → IsIn more → t + wpd p < length (rows ++ more) → sat (rows ++ more) p t ≡ v

-- each interval runs upward
abbrev pub IsOrdered : Formula → Type 0
IsOrdered p = EachInterval (λ i. i.lo ≤ i.hi) p

-- the formula has no operator of the future
abbrev pub IsPast : Formula → Type 0
IsPast truth = ⊤
IsPast falsity = ⊤
IsPast (atom a) = ⊤
IsPast (negation p) = IsPast p
IsPast (conjunction p q) = IsPast p × IsPast q
IsPast (disjunction p q) = IsPast p × IsPast q
IsPast (implication p q) = IsPast p × IsPast q
IsPast (equivalence p q) = IsPast p × IsPast q
IsPast (once i p) = IsPast p
IsPast (historically i p) = IsPast p
IsPast (since i p q) = IsPast p × IsPast q
IsPast _ = ⊥

-- the formula has no operator of the past
abbrev pub IsFuture : Formula → Type 0
IsFuture truth = ⊤
IsFuture falsity = ⊤
IsFuture (atom a) = ⊤
IsFuture (negation p) = IsFuture p
IsFuture (conjunction p q) = IsFuture p × IsFuture q
IsFuture (disjunction p q) = IsFuture p × IsFuture q
IsFuture (implication p q) = IsFuture p × IsFuture q
IsFuture (equivalence p q) = IsFuture p × IsFuture q
IsFuture (finally i p) = IsFuture p
IsFuture (globally i p) = IsFuture p
IsFuture (until i p q) = IsFuture p × IsFuture q
IsFuture (release i p q) = IsFuture p × IsFuture q
IsFuture _ = ⊥
