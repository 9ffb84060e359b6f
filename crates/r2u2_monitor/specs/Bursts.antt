-- The most reports of one row, by the program alone. After n rows an output has at least n less its worst delay known words,
-- and at most n less the best delay of the formula that decides first: its own, or the assumption of its contract. So one
-- more row brings at most the difference of these two delays and one. Formulas of the past have no delay.

use Rattle.std.specs.Prelude.{ℕ, ◌+◌, ◌-◌, ◌≤◌, max, List, ◌∷◌, [], ◌++◌, length, sum_by}
use Rattle.mltl_base.specs.declared.interval.Engine.{Engine}
use Rattle.mltl_base.specs.declared.interval.Engine.TheVariants.{Ft, Pt}
use Rattle.mltl_base.specs.declared.program.Out.{Out}
use Rattle.mltl_base.specs.declared.program.Out.TheVariants.{Formula, Contract}
use Rattle.mltl_base.specs.declared.program.Program.{Program}
use Rattle.mltl_base.specs.declared.report.Style.{Style}
use Rattle.mltl_base.specs.Atoms.{Row}
use Rattle.mltl_base.specs.Formula.{Core, bpd, core_wpd}
use Rattle.mltl_base.specs.Programs.{formula_at}
use Rattle.r2u2_monitor.specs.declared.state.State.{State}
use Rattle.r2u2_monitor.specs.Monitoring.{Stands, open_in, program_of}

-- the most words that one row brings, if the first of two formulas decides a word at the earliest, and both decide it at the
-- latest
abbrev pub spread : Core → Core → ℕ
spread first second = max (core_wpd first) (core_wpd second) - bpd first + 1

-- the most words of an output over instructions of an engine that one row brings
abbrev pub most_over : Program → Engine → ℕ → ℕ → ℕ
most_over program Ft i j = spread (formula_at program Ft i) (formula_at program Ft j)
most_over program Pt i j = 1

-- the most words of an output that one row brings
abbrev pub most_of : Program → Out → ℕ
most_of program (Formula engine i name) = most_over program engine i i
most_of program (Contract engine i j name) = most_over program engine i j

-- the most reports that one row brings, of all outputs
abbrev pub most_reports : Program → ℕ
most_reports program = sum_by (most_of program) program.outs

-- after the row, at most as many reports are open as the program predicts
abbrev pub OpensFew : Row → State → State → Type 0
OpensFew row before after =
    (style : Style) (rows : List Row) → Stands before rows
    → length (open_in style after (rows ++ row ∷ [])) ≤ most_reports (program_of before)
