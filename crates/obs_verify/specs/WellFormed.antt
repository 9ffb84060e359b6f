-- The first fault of an observer program, by eight rules in order. A program without a fault is well-formed.

use Rattle.std.specs.Prelude.{ℕ, ◌≡◌, ◌==◌, Bool, true, false, ◌&&◌, ◌||◌, not, if◌then◌else◌, nat_lt, nat_le, Option}
use Rattle.std.specs.Prelude.{Some, None, List, [], ◌∷◌, length, take, slice_get, slice_index, suc, ◌≢◌, Result, Ok}
use Rattle.std.specs.Prelude.{Err, MatchResult}
use Rattle.std.specs.List.{list_any}
use Rattle.std.specs.Str.{bytes_eq}
use Rattle.mltl_base.specs.declared.interval.Engine.TheVariants as engine
use Rattle.mltl_base.specs.declared.interval.Interval.{Interval}
use Rattle.mltl_base.specs.declared.interval.Part.{Part}
use Rattle.mltl_base.specs.declared.interval.Part.TheVariants.{Bz, Ft, Pt}
use Rattle.mltl_base.specs.declared.limits.TheConstants.{MAX_BOUND, MAX_DELAY, MAX_SIGNALS, MAX_SLOTS}
use Rattle.mltl_base.specs.declared.operators.BzOp as bz
use Rattle.mltl_base.specs.declared.operators.FtOp as ft
use Rattle.mltl_base.specs.declared.operators.PtOp as pt
use Rattle.mltl_base.specs.declared.program.Out as out
use Rattle.mltl_base.specs.declared.program.Program.{Program}
use Rattle.mltl_base.specs.declared.program.StoredSignal.{StoredSignal}
use Rattle.mltl_base.specs.Programs.{expressions, term_at}
use Rattle.mltl_base.specs.Queues.{worst_delays, queue_lengths, box_counts, slot_count}
use Rattle.mltl_base.specs.Ranges.{Ranged, divisor, wide, range}
use Rattle.obs_verify.specs.declared.fault.VerifyFault.{VerifyFault}
use Rattle.obs_verify.specs.declared.fault.VerifyFault.TheVariants.{Width, Signal, Operand, Interval as BadInterval}
use Rattle.obs_verify.specs.declared.fault.VerifyFault.TheVariants.{Divisor, Range, TooLate, Output, Size, TooManySlots}
use Rattle.obs_verify.specs.declared.fault.VerifyFault.TheVariants.{Memory}

-- the fault, or none if the test holds
abbrev pub unless : Bool → VerifyFault → Option VerifyFault
unless test fault = if test then None else Some fault

-- the first of two faults
abbrev pub earlier_of : Option VerifyFault → Option VerifyFault → Option VerifyFault
earlier_of (Some fault) other = Some fault
earlier_of None other = other

-- the first fault of members by a rule, if the first member has the number k
unfoldable pub first_in : {X : Type 0} → (ℕ → X → Option VerifyFault) → ℕ → List X → Option VerifyFault
first_in rule k [] = None
first_in rule k (x ∷ xs) = earlier_of (rule k x) (first_in rule (suc k) xs)

-- 1. The width is within its limit.
abbrev pub width_fault : Program → Option VerifyFault
width_fault program = unless (nat_le program.width MAX_SIGNALS) Width

-- 2. Stored signals have columns of a row, and no column or name twice.

-- true if the signal has a column of a row, and no earlier signal has its column or its name
abbrev pub is_new_signal : ℕ → List StoredSignal → StoredSignal → Bool
is_new_signal width earlier signal =
    (nat_lt signal.column width && not (list_any (λ before. before.column == signal.column) earlier))
    && not (list_any (λ before. bytes_eq signal.name before.name) earlier)

-- the fault of stored signal k
abbrev pub signal_fault : Program → ℕ → StoredSignal → Option VerifyFault
signal_fault program k signal = unless (is_new_signal program.width (take k program.signals) signal) (Signal k)

-- 3. Instructions of the Booleanizer read columns of their kind and integers of earlier instructions, divide by
-- numbers other than 0, and have values of 64 bits.

-- true if the instruction that is there is an integer
abbrev pub is_whole : Option bz.BzOp → Bool
is_whole None = false
is_whole (Some (bz.TheVariants.IsTrue c)) = false
is_whole (Some (bz.TheVariants.Eq a b)) = false
is_whole (Some (bz.TheVariants.Lt a b)) = false
is_whole (Some (bz.TheVariants.Le a b)) = false
is_whole (Some op) = true

-- true if the instruction that is there is a Boolean
abbrev pub is_truth : Option bz.BzOp → Bool
is_truth None = false
is_truth (Some (bz.TheVariants.IsTrue c)) = true
is_truth (Some (bz.TheVariants.Eq a b)) = true
is_truth (Some (bz.TheVariants.Lt a b)) = true
is_truth (Some (bz.TheVariants.Le a b)) = true
is_truth (Some op) = false

-- true if instruction a, before number i, is an integer
abbrev pub is_whole_before : Program → ℕ → ℕ → Bool
is_whole_before program i a = is_whole (slice_get (take i program.bz) a)

-- true if the column has a signal of this kind
abbrev pub has_kind : List StoredSignal → ℕ → Bool → Bool
has_kind signals c truth =
    list_any (λ signal. (signal.column == c) && (if truth then signal.truth else not signal.truth)) signals

-- true if the column is in a row, and in version 2 has a stored signal of this kind
abbrev pub is_column_of : Program → ℕ → Bool → Bool
is_column_of program c truth =
    nat_lt c program.width
    && ((program.version == 1) || has_kind program.signals c truth)

-- true if instruction i reads only columns of its kind and integers of earlier instructions
abbrev pub has_operands : Program → ℕ → bz.BzOp → Bool
has_operands program i (bz.TheVariants.Column c) = is_column_of program c false
has_operands program i (bz.TheVariants.IsTrue c) = is_column_of program c true
has_operands program i (bz.TheVariants.Const n) = true
has_operands program i (bz.TheVariants.Neg a) = is_whole_before program i a
has_operands program i (bz.TheVariants.Add a b) = is_whole_before program i a && is_whole_before program i b
has_operands program i (bz.TheVariants.Sub a b) = is_whole_before program i a && is_whole_before program i b
has_operands program i (bz.TheVariants.Mul a b) = is_whole_before program i a && is_whole_before program i b
has_operands program i (bz.TheVariants.Div a b) = is_whole_before program i a && is_whole_before program i b
has_operands program i (bz.TheVariants.Rem a b) = is_whole_before program i a && is_whole_before program i b
has_operands program i (bz.TheVariants.Eq a b) = is_whole_before program i a && is_whole_before program i b
has_operands program i (bz.TheVariants.Lt a b) = is_whole_before program i a && is_whole_before program i b
has_operands program i (bz.TheVariants.Le a b) = is_whole_before program i a && is_whole_before program i b

-- the fault of an instruction whose integer has no range
abbrev pub no_range_fault : ℕ → Ranged → Option VerifyFault
no_range_fault i (Ok range) = None
no_range_fault i (Err divisor) = Some (Divisor i)
no_range_fault i (Err wide) = Some (Range i)

-- the fault of instruction i of the Booleanizer
abbrev pub bz_fault : Program → ℕ → bz.BzOp → Option VerifyFault
bz_fault program i op =
    earlier_of (unless (has_operands program i op) (Operand Bz i))
    (no_range_fault i (range (term_at (expressions program.bz) i)))

-- 4. Instructions of the future-time engine load truths and read earlier instructions, over intervals within the limit;
-- none is too late.

-- true if the bounds of the interval are in order and within the limit
abbrev pub is_window : Interval → Bool
is_window i = nat_le i.lo i.hi && nat_le i.hi MAX_BOUND

-- true if instruction i of the future-time engine reads only a Boolean or earlier instructions
abbrev pub has_future_operands : Program → ℕ → ft.FtOp → Bool
has_future_operands program i ft.TheVariants.True = true
has_future_operands program i (ft.TheVariants.Load a) = is_truth (slice_get program.bz a)
has_future_operands program i (ft.TheVariants.Not g) = nat_lt g i
has_future_operands program i (ft.TheVariants.And l r) = nat_lt l i && nat_lt r i
has_future_operands program i (ft.TheVariants.Until l r window) = nat_lt l i && nat_lt r i

-- true if the interval of a future-time instruction, if any, is in order and within the limit
abbrev pub has_future_window : ft.FtOp → Bool
has_future_window ft.TheVariants.True = true
has_future_window (ft.TheVariants.Load a) = true
has_future_window (ft.TheVariants.Not g) = true
has_future_window (ft.TheVariants.And l r) = true
has_future_window (ft.TheVariants.Until l r window) = is_window window

-- the fault of instruction i of the future-time engine, by its operands or its interval
abbrev pub ft_fault : Program → ℕ → ft.FtOp → Option VerifyFault
ft_fault program i op =
    earlier_of (unless (has_future_operands program i op) (Operand Ft i))
    (unless (has_future_window op) (BadInterval Ft i))

-- the fault of instruction i whose worst-case delay is over the limit
abbrev pub late_fault : ℕ → ℕ → Option VerifyFault
late_fault i delay = unless (nat_le delay MAX_DELAY) (TooLate i)

-- 5. Instructions of the past-time engine follow the same rule.

-- true if instruction i of the past-time engine reads only a Boolean or earlier instructions
abbrev pub has_past_operands : Program → ℕ → pt.PtOp → Bool
has_past_operands program i pt.TheVariants.True = true
has_past_operands program i (pt.TheVariants.Load a) = is_truth (slice_get program.bz a)
has_past_operands program i (pt.TheVariants.Not g) = nat_lt g i
has_past_operands program i (pt.TheVariants.And l r) = nat_lt l i && nat_lt r i
has_past_operands program i (pt.TheVariants.Since l r window) = nat_lt l i && nat_lt r i

-- true if the interval of a past-time instruction, if any, is in order and within the limit
abbrev pub has_past_window : pt.PtOp → Bool
has_past_window pt.TheVariants.True = true
has_past_window (pt.TheVariants.Load a) = true
has_past_window (pt.TheVariants.Not g) = true
has_past_window (pt.TheVariants.And l r) = true
has_past_window (pt.TheVariants.Since l r window) = is_window window

-- the fault of instruction i of the past-time engine, by its operands or its interval
abbrev pub pt_fault : Program → ℕ → pt.PtOp → Option VerifyFault
pt_fault program i op =
    earlier_of (unless (has_past_operands program i op) (Operand Pt i)) (unless (has_past_window op) (BadInterval Pt i))

-- 6. Outputs report instructions of their engine.

-- true if the output reports instructions that its engine has
abbrev pub reports_within : ℕ → ℕ → out.Out → Bool
reports_within fts pts (out.TheVariants.Formula engine.Ft g name) = nat_lt g fts
reports_within fts pts (out.TheVariants.Formula engine.Pt g name) = nat_lt g pts
reports_within fts pts (out.TheVariants.Contract engine.Ft l r name) = nat_lt l fts && nat_lt r fts
reports_within fts pts (out.TheVariants.Contract engine.Pt l r name) = nat_lt l pts && nat_lt r pts

-- the fault of output k
abbrev pub output_fault : Program → ℕ → out.Out → Option VerifyFault
output_fault program k output = unless (reports_within (length program.ft) (length program.pt) output) (Output k)

-- 7. The slots and boxes that the instructions need are within their limit.
abbrev pub slots_fault : Program → Option VerifyFault
slots_fault program = unless (nat_le (slot_count program.ft program.pt program.outs) MAX_SLOTS) TooManySlots

-- 8. The stored sizes are the sizes that the instructions need.
abbrev pub size_fault : Part → List ℕ → ℕ → ℕ → Option VerifyFault
size_fault part needed i size = unless (size == slice_index needed i) (Size part i)

-- the first fault of a program
abbrev pub first_fault : Program → Option VerifyFault
first_fault program =
    earlier_of (width_fault program)
    (earlier_of (first_in (signal_fault program) 0 program.signals)
    (earlier_of (first_in (bz_fault program) 0 program.bz)
    (earlier_of (first_in (ft_fault program) 0 program.ft)
    (earlier_of (first_in late_fault 0 (worst_delays program.ft))
    (earlier_of (first_in (pt_fault program) 0 program.pt)
    (earlier_of (first_in (output_fault program) 0 program.outs)
    (earlier_of (slots_fault program)
    (earlier_of (first_in (size_fault Ft (queue_lengths program.ft program.outs)) 0 program.sizes.ft)
    (first_in (size_fault Pt (box_counts program.pt)) 0 program.sizes.pt)))))))))

-- the program has no fault
abbrev pub IsWellFormed : Program → Type 0
IsWellFormed program = first_fault program ≡ None

-- a result is a success if no fault was found, and else the fault, unless out of memory
abbrev pub IsAnswer : {T : Type 0} → Result T VerifyFault → Option VerifyFault → Type 0
IsAnswer result found = MatchResult result (λ _. found ≡ None) (λ fault. fault ≢ Memory → found ≡ Some fault)
