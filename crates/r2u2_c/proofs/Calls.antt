-- What the calls of C tell, from what their parts do.

use Rattle.std.specs.Prelude.{⊤, option_map, slice_get, slice_index, unwrap_or}
use Rattle.std.proofs.lemmas.Option.{slice_get-map, unwrap_or-slice_get}
use Rattle.std.proofs.Common.{◌≡◌, ◌<◌, ◌≤◌, ℕ, true, false, Option, Some, Result, Ok, Err, IfOk, IfErr, IsSomeAnd, Contains, List, [], ◌∷◌, ◌++◌, length, map, refl, sym, ap, subst, lit<, arith, ◌∙◌}
use Rattle.mltl_base.specs.declared.program.Program.{Program}
use Rattle.mltl_base.specs.declared.report.Style.{Style}
use Rattle.mltl_base.specs.Atoms.{Row}
use Rattle.mltl_base.specs.Programs.{output_names, outputs}
use Rattle.mltl_base.specs.Reports.{Output, delay}
use Rattle.r2u2_monitor.specs.declared.state.State.{State}
use Rattle.r2u2_monitor.specs.declared.row_fault.RowFault.{RowFault}
use Rattle.r2u2_monitor.specs.declared.row_fault.RowFault.TheVariants.{ReportsLeft, NotARow, TooManyRows}
use Rattle.r2u2_monitor.specs.Monitoring.{IsDrained, program_of, taken_by}
use Rattle.r2u2_monitor.specs.RowFaults.{IsRowCause}
use Rattle.r2u2_monitor.specs.Work.{row_work}
use Rattle.r2u2_monitor.specs.Bursts.{most_reports}
use Rattle.r2u2_c.specs.declared.codes.TheConstants.{DONE, NOT_OPEN, REPORTS_LEFT, NOT_A_ROW, TOO_MANY_ROWS, NO_REPORT}
use Rattle.r2u2_c.specs.declared.report.Told.{Told}
use Rattle.r2u2_c.specs.declared.row_why.RowWhy.{RowWhy}
use Rattle.r2u2_c.specs.Batches.{TellsEach}
use Rattle.r2u2_c.specs.Exports.{HoldsBack, IsHeldBack, TellsFirst, Reports, row_cause}
use Rattle.r2u2_c.specs.Queries.{MirrorsMonitor, open_delays}

-- the monitor after a box is the one that was open
pub is_open_as : (m box : State) (before : Option State) → before ≡ Some box → m ≡ box → before ≡ Some m
is_open_as m box before is same = is ∙ ap (λ (x : State). Some x) (sym same)

-- a report that the monitor told is told by the call
pub told_by_call : (style : Style) (read : Told) (m n : State) (before after : Option State) → before ≡ Some m → after ≡ Some n → TellsFirst style read m n → Reports style read before after
told_by_call style read m n before after is now t = subst (λ (o : Option State). Reports style read o after) (sym is) (subst (λ (o : Option State). Reports style read (Some m) o) (sym now) t)

-- where a report was told, the monitor wasn't drained
pub undrained : (m : State) (before : Option State) → before ≡ Some m → (IsDrained m → true ≡ false)
    → (0 ≡ NO_REPORT → IsSomeAnd before IsDrained) × (IsSomeAnd before IsDrained → 0 ≡ NO_REPORT)
undrained m before is gone = (
  (λ (wrong : 0 ≡ NO_REPORT). absurd (let e : 0 ≡ 8 = wrong in omega (arith, e))),
  (λ (d : IsSomeAnd before IsDrained). absurd (let wrong : true ≡ false = gone (subst (λ (o : Option State). IsSomeAnd o IsDrained) is d) in cc)),
)

-- what a call answers to a row, and what C reads
abbrev pub Answers : Result ⊤ RowFault → ℕ → RowWhy → RowWhy → Type 0
Answers taken code before after =
    IfOk taken (λ _. (code ≡ DONE) × (after ≡ before)) × IfErr taken (λ fault. (after ≡ row_cause fault) × (code ≡ after.why))

-- the code of a fault
pub fault_code : (fault : RowFault) (code : ℕ) (after : RowWhy) → after ≡ row_cause fault → code ≡ after.why → code ≡ (row_cause fault).why
fault_code fault code after is e = e ∙ ap (λ (why : RowWhy). why.why) is

-- a row that isn't taken
pub held_back : (taken : Result ⊤ RowFault) (code : ℕ) (row : Row) (m : State) (open_before : Option State) (before after : RowWhy) → open_before ≡ Some m
    → IfErr taken (λ fault. IsRowCause fault m row) → Answers taken code before after → NOT_OPEN < code → IsHeldBack code after row open_before
held_back (Ok t) code row m o before after is cause answers more = absurd (let done : code ≡ 0 = answers.0.0 in let big : 1 < code = more in omega (arith, done, big))
held_back (Err fault) code row m o before after is cause answers more = record { cause = fault; read_is = answers.1.0; code_is = answers.1.1; held = subst (HoldsBack fault row) (sym is) cause }

-- one that is: C reads what it read before
pub untold : (taken : Result ⊤ RowFault) (code : ℕ) (before after : RowWhy) → Answers taken code before after → code ≤ NOT_OPEN → after ≡ before
untold (Ok t) code before after answers few = answers.0.1
untold (Err ReportsLeft) code before after answers few = absurd (let left : code ≡ 5 = fault_code ReportsLeft code after answers.1.0 answers.1.1 in let low : code ≤ 1 = few in omega (arith, left, low))
untold (Err (NotARow column)) code before after answers few = absurd (let unfit : code ≡ 6 = fault_code (NotARow column) code after answers.1.0 answers.1.1 in let low : code ≤ 1 = few in omega (arith, unfit, low))
untold (Err TooManyRows) code before after answers few = absurd (let late : code ≡ 7 = fault_code TooManyRows code after answers.1.0 answers.1.1 in let low : code ≤ 1 = few in omega (arith, late, low))

-- the codes of rows
pub row_codes : (taken : Result ⊤ RowFault) (code : ℕ) (before after : RowWhy) → Answers taken code before after
    → Contains (DONE ∷ NOT_OPEN ∷ REPORTS_LEFT ∷ NOT_A_ROW ∷ TOO_MANY_ROWS ∷ []) code
row_codes (Ok t) code before after answers = (0, lit< tt, sym answers.0.0)
row_codes (Err ReportsLeft) code before after answers = (2, lit< tt, sym (fault_code ReportsLeft code after answers.1.0 answers.1.1))
row_codes (Err (NotARow column)) code before after answers = (3, lit< tt, sym (fault_code (NotARow column) code after answers.1.0 answers.1.1))
row_codes (Err TooManyRows) code before after answers = (4, lit< tt, sym (fault_code TooManyRows code after answers.1.0 answers.1.1))

-- the delay of an output, or 0 where there is none
pub delay_told : (m : State) (before : Option State) (k : ℕ) (found : Option ℕ) (told : ℕ) → before ≡ Some m
    → found ≡ option_map delay (slice_get (outputs (program_of m)) k) → told ≡ unwrap_or found 0 → told ≡ slice_index (open_delays before) k
delay_told m before k found told is finds tells =
    let outs : List Output = outputs (program_of m) in
    tells ∙ ap (λ (o : Option ℕ). unwrap_or o 0) (finds ∙ sym (slice_get-map delay outs k)) ∙ unwrap_or-slice_get (map delay outs) k 0
    ∙ ap (λ (o : Option State). slice_index (open_delays o) k) (sym is)

-- what may be read of a monitor stays where its program does, and the number of its rows
pub told_still : (m n : State) (before : Option State) (taken columns outs stored work most : ℕ) → before ≡ Some m → MirrorsMonitor before taken columns outs stored work most
    → program_of n ≡ program_of m → taken_by n ≡ taken_by m → MirrorsMonitor (Some n) taken columns outs stored work most
told_still m n before taken columns outs stored work most is told same as_many =
    let old : MirrorsMonitor (Some m) taken columns outs stored work most = subst (λ (o : Option State). MirrorsMonitor o taken columns outs stored work most) is told in
    record {
      rows = old.rows ∙ sym as_many;
      width = old.width ∙ ap (λ (p : Program). p.width) (sym same);
      outputs = old.outputs ∙ ap (λ (p : Program). length (output_names p)) (sym same);
      signals = old.signals ∙ ap (λ (p : Program). length p.signals) (sym same);
      steps = old.steps ∙ ap (λ (p : Program). row_work p) (sym same);
      reports = old.reports ∙ ap (λ (p : Program). most_reports p) (sym same);
    }

-- reports that were told one after another leave the program and the number of rows
pub kept_by_reports : (style : Style) (told : List Told) (m n : State) → TellsEach style told m n → (program_of n ≡ program_of m) × (taken_by n ≡ taken_by m)
kept_by_reports style [] m n same = (ap program_of same, ap taken_by same)
kept_by_reports style (read ∷ more) m n each =
    let next : State = each.0 in
    let moved = each.1.gives.moved in
    let rest = kept_by_reports style more next n each.2 in
    (rest.0 ∙ ap (λ running. running.checked) moved, rest.1 ∙ ap (λ running. running.taken) moved)

-- one more report after others
pub told_more : (style : Style) (told : List Told) (read : Told) (m n o : State) → TellsEach style told m n → TellsFirst style read n o → TellsEach style (told ++ read ∷ []) m o
told_more style [] read m n o same first = (o, subst (λ (before : State). TellsFirst style read before o) same first, refl)
told_more style (t ∷ more) read m n o each first = (each.0, each.1, told_more style more read each.0 n o each.2 first)
