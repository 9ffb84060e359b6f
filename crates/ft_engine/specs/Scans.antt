-- The known values of an until's operands between two decisions.
use Rattle.std.specs.Prelude.{◌≡◌, ℕ, ◌+◌, ◌*◌, ◌-◌, ◌<◌, ◌≤◌, ◌⊎◌, max, true, false, List, Some, None, nat_lt}
use Rattle.std.specs.Prelude.{if◌then◌else◌}
use Rattle.mltl_base.specs.declared.limits.TheConstants.{TIME_END}
use Rattle.mltl_base.specs.declared.interval.Interval.{Interval}
use Rattle.mltl_base.specs.Verdicts.{Known, k_until}
use Rattle.scq_ring.specs.declared.Ring.{Ring}
use Rattle.scq_ring.specs.declared.Slot.{Slot}
use Rattle.scq_ring.specs.Runs.{frontier_of}
use Rattle.ft_engine.specs.declared.until.Reading.{Reading}
use Rattle.ft_engine.specs.declared.until.Turn.{Turn}
use Rattle.ft_engine.specs.declared.until.Turn.TheVariants.{Look, Decide, Stop}
use Rattle.ft_engine.specs.declared.until.Until.{Until}
use Rattle.ft_engine.specs.Decisions.{Decides, CanBeReadFrom, ShownBy, first_end, operand_runs}

-- From the lower end of the window of time t on, the right operand is false before `seen`, and the left one true before
-- `reads_at`.
pub record Scan (i : Interval) (p q : Known) (t reads_at seen : ℕ) : Type 0 where
  pub reach : t + i.lo ≤ reads_at
  pub order : reads_at ≤ seen
  pub left : (k : ℕ) → t + i.lo ≤ k → k < reads_at → p k ≡ Some true
  pub right : (k : ℕ) → t + i.lo ≤ k → k < seen → q k ≡ Some false

-- an until whose queue ends at time t can be taken on from its reading time
pub record CanScan (until : Until) (t reads_at : ℕ) : Type 0 where
  pub left : CanBeReadFrom until.left reads_at
  pub right : CanBeReadFrom until.right reads_at
  pub right_in_time : frontier_of until.right.ring.now ≤ TIME_END
  pub ordered : until.window.lo ≤ until.window.hi
  pub reach : t + until.window.lo ≤ reads_at
  pub in_time : reads_at ≤ TIME_END

-- the right operand is seen ahead of the reading time, but no further than it goes
pub record IsReadingOf (until : Until) (at : Reading) : Type 0 where
  pub order : at.reads_at ≤ at.seen
  pub in_time : at.seen ≤ TIME_END

-- an until whose queue ends at time t is to read its operands: the right one isn't seen past the window of that time
pub record IsToRead (until : Until) (t : ℕ) (at : Reading) : Type 0 where
  pub can_scan : CanScan until t at.reads_at
  pub reading : IsReadingOf until at
  pub within : at.seen ≤ t + until.window.hi

-- with a queue up to time t, as much is decided as the operand that ends first allows
abbrev pub HasEnough : Until → ℕ → Type 0
HasEnough until t = first_end until.left until.right ≤ t + until.window.hi

-- The next reading time of an until, with a queue up to time t: it moved on from the old one, at least to the end of an
-- operand, and not past the right one's end.
pub record IsNextRead (until : Until) (t reads_at reads_at' : ℕ) : Type 0 where
  pub reach : t + until.window.lo ≤ reads_at'
  pub onward : reads_at ≤ reads_at'
  pub ahead : first_end until.left until.right ≤ reads_at'
  pub in_time : reads_at' ≤ max reads_at (frontier_of until.right.ring.now)

-- The most steps of a row: three for each time of the right operand from the reading time on, one for each decided
-- time, and two.
abbrev pub row_steps : Until → ℕ → Ring → Ring → ℕ
row_steps until reads_at old new =
    3 * (max reads_at (frontier_of until.right.ring.now) - reads_at) + (frontier_of new - frontier_of old) + 2

-- The most steps of a row by the runs of the operands from the reading time on: two for each run of the left operand, four
-- for each run of the right one, and three.
abbrev pub steps_by_runs : Until → ℕ → ℕ
steps_by_runs until reads_at = 2 * operand_runs until.left reads_at + 4 * operand_runs until.right reads_at + 3

-- The most steps left in a row, with a queue up to time t: two for each run of the left operand from the reading time on and
-- four for each unseen run of the right one, two if `seen` is ahead, one if it covers the window of t, and two for the stop.
abbrev pub steps_left : Until → ℕ → ℕ → ℕ → ℕ
steps_left until t reads_at seen =
    2 * operand_runs until.left reads_at + 4 * operand_runs until.right seen
    + (if nat_lt reads_at seen then 2 else 0) + (if nat_lt (t + until.window.hi) seen then 1 else 0) + 2

-- the until is decided as far as it can be: at its reading time one operand is unknown, and up to there it is scanned
pub record DecidesUntil (i : Interval) (p q : Known) (ring : Ring) (own : List Slot) (start reads_at : ℕ) : Type 0 where
  pub decides : Decides (k_until i p q) ring own start
  pub scanned : Scan i p q (frontier_of ring) reads_at reads_at
  pub reached : (p reads_at ≡ None) ⊎ (q reads_at ≡ None)

-- an until that was scanned up to its reading time is decided from the old frontier on, over what its operands show
abbrev pub DecidesFrom : Until → Ring → ℕ → Ring → List Slot → ℕ → Type 0
DecidesFrom until old reads_at new slots reads_at' =
    (p q : Known) → ShownBy until.left p → ShownBy until.right q
    → Scan until.window p q (frontier_of old) reads_at reads_at
    → DecidesUntil until.window p q new slots (frontier_of old) reads_at'

-- the reading moves on, up to the end of the right operand
pub record MovesOn (at next : Reading) (end : ℕ) : Type 0 where
  pub onward : at.reads_at ≤ next.reads_at
  pub sees_on : at.seen ≤ next.seen
  pub order : next.reads_at ≤ next.seen
  pub in_time : next.seen ≤ max at.seen end

-- a turn makes progress: it reads on, or decides times from t on, or stops because an operand has ended
abbrev pub Leads : Until → ℕ → Reading → Turn → Type 0
Leads until t at (Look next) =
    MovesOn at next (frontier_of until.right.ring.now)
    × (t + until.window.lo ≤ next.reads_at) × (at.reads_at + at.seen < next.reads_at + next.seen)
Leads until t at (Decide upto value next) =
    MovesOn at next (frontier_of until.right.ring.now) × (t ≤ upto) × (upto + 1 + until.window.lo ≤ next.reads_at)
Leads until t at Stop =
    (first_end until.left until.right ≤ at.reads_at)
    × (at.seen ≤ t + until.window.hi)

-- the steps that a turn may take: two if it stops, else as many as the reading moves on, with `seen` counted twice
abbrev pub reads_of : Reading → Turn → ℕ
reads_of at (Look next) = (next.reads_at - at.reads_at) + 2 * (next.seen - at.seen)
reads_of at (Decide upto value next) = (next.reads_at - at.reads_at) + 2 * (next.seen - at.seen)
reads_of at Stop = 2

-- the most steps left after a turn; the write of a decision takes one
abbrev pub steps_after : Until → ℕ → Turn → ℕ
steps_after until t (Look next) = steps_left until t next.reads_at next.seen
steps_after until t (Decide upto value next) = 1 + steps_left until (upto + 1) next.reads_at next.seen
steps_after until t Stop = 0

-- a turn's finding about the until at time t is right
abbrev pub FindsOut : Interval → Known → Known → ℕ → ℕ → Turn → Type 0
FindsOut i p q t reads_at (Look next) = Scan i p q t next.reads_at next.seen
FindsOut i p q t reads_at (Decide upto value next) =
    ((x : ℕ) → t ≤ x → x ≤ upto → k_until i p q x ≡ Some value) × Scan i p q (upto + 1) next.reads_at next.seen
FindsOut i p q t reads_at Stop = (k_until i p q t ≡ None) × ((p reads_at ≡ None) ⊎ (q reads_at ≡ None))

-- a turn's finding is right over the known values of the operands, if the until was scanned up to the reading
abbrev pub TurnFinds : Until → ℕ → Reading → Turn → Type 0
TurnFinds until t at turn =
    (p q : Known) → ShownBy until.left p → ShownBy until.right q → Scan until.window p q t at.reads_at at.seen
    → FindsOut until.window p q t at.reads_at turn
