-- The propagation delays of ft instructions, the lengths of their queues, and the boxes of pt instructions.
-- Source: Kempa and others (2020) for delays and shared queues. That an instruction counts among its own siblings, and the
-- boxes of the past, are specific to this product.
-- A reader of the contracts needs this file.

use Rattle.std.specs.Prelude.{ℕ, ◌+◌, ◌-◌, ◌/◌, ◌≤◌, ◌<◌, ◌==◌, List, [], ◌∷◌, ◌++◌, min, max, map, sum, length}
use Rattle.std.specs.Prelude.{slice_index, slice_index_or, if◌then◌else◌, ⊤}
use Rattle.std.specs.List.{list_any, range_with_len}
use Rattle.mltl_base.specs.declared.interval.Engine.TheVariants.{Ft, Pt}
use Rattle.mltl_base.specs.declared.interval.Interval.{Interval}
use Rattle.mltl_base.specs.declared.operators.FtOp.{FtOp}
use Rattle.mltl_base.specs.declared.operators.FtOp.TheVariants.{True, Load, Not, And, Until}
use Rattle.mltl_base.specs.declared.operators.PtOp as pt
use Rattle.mltl_base.specs.declared.program.Out.{Out}
use Rattle.mltl_base.specs.declared.program.Out.TheVariants.{Formula, Contract}

-- the best-case propagation delay of an ft instruction, in rows, from the delays of the instructions before it
abbrev pub best_of : List ℕ → FtOp → ℕ
best_of bests True = 0
best_of bests (Load a) = 0
best_of bests (Not g) = slice_index bests g
best_of bests (And l r) = min (slice_index bests l) (slice_index bests r)
best_of bests (Until l r i) = min (slice_index bests l) (slice_index bests r) + i.lo

-- the worst-case propagation delay of an ft instruction, in rows, from the delays of the instructions before it
abbrev pub worst_of : List ℕ → FtOp → ℕ
worst_of worsts True = 0
worst_of worsts (Load a) = 0
worst_of worsts (Not g) = slice_index worsts g
worst_of worsts (And l r) = max (slice_index worsts l) (slice_index worsts r)
worst_of worsts (Until l r i) = max (slice_index worsts l) (slice_index worsts r) + i.hi

-- the numbers, followed by a number for each further instruction, computed from all numbers before it
unfoldable pub numbered_after : (List ℕ → FtOp → ℕ) → List ℕ → List FtOp → List ℕ
numbered_after number before [] = before
numbered_after number before (op ∷ ops) = numbered_after number (before ++ number before op ∷ []) ops

-- the best-case delays of all instructions, in order
abbrev pub best_delays : List FtOp → List ℕ
best_delays ops = numbered_after best_of [] ops

-- the worst-case delays of all instructions, in order
abbrev pub worst_delays : List FtOp → List ℕ
worst_delays ops = numbered_after worst_of [] ops

-- instruction i is the first with a worst-case delay above the limit
pub record IsFirstLate (limit : ℕ) (worsts : List ℕ) (i : ℕ) : Type 0 where
  pub exists : i < length worsts
  pub late : limit < slice_index worsts i
  pub earlier : (k : ℕ) → k < i → slice_index worsts k ≤ limit

-- the operands of an ft instruction
abbrev pub operands : FtOp → List ℕ
operands True = []
operands (Load a) = []
operands (Not g) = g ∷ []
operands (And l r) = l ∷ r ∷ []
operands (Until l r i) = l ∷ r ∷ []

-- the ft instructions that an output reports: a contract has both of its instructions as operands
abbrev pub reported : Out → List ℕ
reported (Formula Ft g name) = g ∷ []
reported (Contract Ft l r name) = l ∷ r ∷ []
reported (Formula Pt g name) = []
reported (Contract Pt l r name) = []

-- the readers of ft instructions, each by its operands: the instructions, then the outputs
abbrev pub readers : List FtOp → List Out → List (List ℕ)
readers ops outs = map operands ops ++ map reported outs

-- the greatest number of a list; 0 for the empty list
unfoldable pub greatest : List ℕ → ℕ
greatest [] = 0
greatest (x ∷ xs) = max x (greatest xs)

-- the greatest worst-case delay among the operands of a reader of g; 0 if it doesn't read g
abbrev pub delay_beside : List ℕ → ℕ → List ℕ → ℕ
delay_beside worsts g read = if list_any (λ h. h == g) read then greatest (map (slice_index worsts) read) else 0

-- the greatest worst-case delay among the operands of all readers of g
abbrev pub widest_beside : List ℕ → List (List ℕ) → ℕ → ℕ
widest_beside worsts reads g = greatest (map (delay_beside worsts g) reads)

-- the greatest worst-case delay among instruction g and all operands of all readers of g
abbrev pub widest : List ℕ → List (List ℕ) → ℕ → ℕ
widest worsts reads g = max (slice_index worsts g) (widest_beside worsts reads g)

-- the length of the queue of instruction g: its slots hold the verdicts that some reader may still need
abbrev pub queue_length : List FtOp → List Out → ℕ → ℕ
queue_length ops outs g = widest (worst_delays ops) (readers ops outs) g - slice_index (best_delays ops) g + 1

-- the lengths of all queues, in order
abbrev pub queue_lengths : List FtOp → List Out → List ℕ
queue_lengths ops outs = map (queue_length ops outs) (range_with_len 0 (length ops))

-- the most stretches of times, one box each, that a Since with this interval keeps of its past
abbrev pub boxes : Interval → ℕ
boxes i = i.hi / (i.hi - i.lo + 2) + 1

-- the boxes of a pt instruction
abbrev pub boxes_of : pt.PtOp → ℕ
boxes_of pt.TheVariants.True = 0
boxes_of (pt.TheVariants.Load a) = 0
boxes_of (pt.TheVariants.Not g) = 0
boxes_of (pt.TheVariants.And l r) = 0
boxes_of (pt.TheVariants.Since l r i) = boxes i

-- the boxes of all pt instructions, in order
abbrev pub box_counts : List pt.PtOp → List ℕ
box_counts ops = map boxes_of ops

-- the number of all slots of queues and all boxes
abbrev pub slot_count : List FtOp → List pt.PtOp → List Out → ℕ
slot_count ft pt outs = sum (queue_lengths ft outs) + sum (box_counts pt)

-- the times lie from `low` to `top`, each at least `gap` after the time before it
unfoldable pub AreApart : ℕ → ℕ → ℕ → List ℕ → Type 0
AreApart gap low top [] = ⊤
AreApart gap low top (t ∷ ts) = (low ≤ t) × (t ≤ top) × AreApart gap (t + gap) top ts

-- the operands of instruction i come before it
abbrev pub IsAfterOperands : ℕ → FtOp → Type 0
IsAfterOperands i True = ⊤
IsAfterOperands i (Load a) = ⊤
IsAfterOperands i (Not g) = g < i
IsAfterOperands i (And l r) = (l < i) × (r < i)
IsAfterOperands i (Until l r window) = (l < i) × (r < i)

-- the operands of each instruction come before it
abbrev pub AreInOrder : List FtOp → Type 0
AreInOrder ops = (i : ℕ) (op : FtOp) → i < length ops → IsAfterOperands i (slice_index_or ops i op)

-- the interval of an instruction, if it has one, runs upward and ends within the limit
abbrev pub HasBounds : ℕ → FtOp → Type 0
HasBounds limit True = ⊤
HasBounds limit (Load a) = ⊤
HasBounds limit (Not g) = ⊤
HasBounds limit (And l r) = ⊤
HasBounds limit (Until l r i) = (i.lo ≤ i.hi) × (i.hi ≤ limit)

-- the interval of a pt instruction, if it has one, runs upward and ends within the limit
abbrev pub HasPastBounds : ℕ → pt.PtOp → Type 0
HasPastBounds limit pt.TheVariants.True = ⊤
HasPastBounds limit (pt.TheVariants.Load a) = ⊤
HasPastBounds limit (pt.TheVariants.Not g) = ⊤
HasPastBounds limit (pt.TheVariants.And l r) = ⊤
HasPastBounds limit (pt.TheVariants.Since l r i) = (i.lo ≤ i.hi) × (i.hi ≤ limit)

-- the instructions that an output reads exist, among this many ft and pt instructions
abbrev pub NamesInstructions : ℕ → ℕ → Out → Type 0
NamesInstructions fts pts (Formula Ft g name) = g < fts
NamesInstructions fts pts (Contract Ft l r name) = (l < fts) × (r < fts)
NamesInstructions fts pts (Formula Pt g name) = g < pts
NamesInstructions fts pts (Contract Pt l r name) = (l < pts) × (r < pts)

-- the ft instructions that an output reports exist, among this many
abbrev pub ReportsInstructions : ℕ → Out → Type 0
ReportsInstructions fts (Formula Ft g name) = g < fts
ReportsInstructions fts (Contract Ft l r name) = (l < fts) × (r < fts)
ReportsInstructions fts (Formula Pt g name) = ⊤
ReportsInstructions fts (Contract Pt l r name) = ⊤
