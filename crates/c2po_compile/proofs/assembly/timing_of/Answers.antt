-- The first late instruction is a late one.
use Rattle.std.proofs.Common.{ℕ, ◌<◌, Any, Err, List, ap, slice_index}
use Rattle.std.proofs.lemmas.List.{get_or_default}
use Rattle.mltl_base.specs.Queues.{IsFirstLate, worst_delays}
use Rattle.c2po_compile.proofs.assembly.timing_of.Goals as goal

late_from : (limit : ℕ) (worsts : List ℕ) (i : ℕ) → IsFirstLate limit worsts i → Any (λ rows. limit < rows) worsts
late_from limit worsts i first = (i, slice_index worsts i, first.exists, get_or_default worsts i (slice_index worsts i) 0 first.exists, first.late)

pub returns-in-Err-TooLate-clause-refused : goal.returns-in-Err-TooLate-clause-refused
returns-in-Err-TooLate-clause-refused c =
    late_from 16777216 (worst_delays c.args.graph.now.ft) c.in-Err-TooLate.field-0-0 (c.in-Err-TooLate.ensures.too_late c.in-Err-TooLate.field-0-0 (ap Err c.in-Err-TooLate.field-0-is))
