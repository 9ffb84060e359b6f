-- Reports as C reads them.

use Rattle.std.specs.Prelude.{ℕ, ◌==◌, if◌then◌else◌}
use Rattle.mltl_base.specs.declared.report.Report.{Report}
use Rattle.mltl_base.specs.declared.report.Style.{Style}
use Rattle.mltl_base.specs.declared.report.Style.TheVariants.{Each, Runs}
use Rattle.mltl_base.specs.declared.report.Word.{Word}
use Rattle.mltl_base.specs.declared.report.Word.TheVariants.{T, F, Inactive, Invalid, Verified}
use Rattle.r2u2_c.specs.declared.report.Told.{Told}

-- each word has a distinct number
abbrev pub word_number : Word → ℕ
word_number F = 0
word_number T = 1
word_number Inactive = 2
word_number Invalid = 3
word_number Verified = 4

-- a report as C reads it
abbrev pub shown : Report → Told
shown report = record { time = report.time; output = report.out; word = word_number report.word }

-- the style for a number: 0 for each time, and any other for runs
abbrev pub style_of : ℕ → Style
style_of n = if n == 0 then Each else Runs
