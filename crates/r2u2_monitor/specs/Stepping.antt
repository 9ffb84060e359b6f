-- Results of one call that takes a row and returns its reports.

use Rattle.std.specs.Prelude.{◌≡◌, ◌+◌, List, [], ◌∷◌, ◌++◌}
use Rattle.mltl_base.specs.declared.report.Report.{Report}
use Rattle.mltl_base.specs.declared.report.Style.{Style}
use Rattle.mltl_base.specs.Atoms.{Row}
use Rattle.mltl_base.specs.Programs.{outputs}
use Rattle.mltl_base.specs.Reports.{of_row}
use Rattle.r2u2_monitor.specs.declared.state.State.{State}
use Rattle.r2u2_monitor.specs.Monitoring.{Stands, last_of, open_in, program_of, read_of, taken_by}

-- these reports were returned, the first of the open reports, and the others are still open, after the same rows
pub record ReturnsMany (style : Style) (told : List Report) (before after : State) : Type 0 where
  pub first : (rows : List Row) → Stands before rows
      → open_in style before rows ≡ told ++ open_in style after rows
  pub stands : (rows : List Row) → Stands before rows → Stands after rows
  pub program : program_of after ≡ program_of before
  pub taken : taken_by after ≡ taken_by before
  pub last : last_of after ≡ last_of before
  pub read : read_of after ≡ read_of before

-- The monitor has taken one more row. These reports were returned, the first of the reports that it brings, and the others
-- are open.
pub record StepsOver (style : Style) (row : Row) (told : List Report) (before after : State) : Type 0 where
  pub brings : (rows : List Row) → Stands before rows
      → of_row style 0 (outputs (program_of before)) rows row ≡ told ++ open_in style after (rows ++ row ∷ [])
  pub stands : (rows : List Row) → Stands before rows → Stands after (rows ++ row ∷ [])
  pub program : program_of after ≡ program_of before
  pub taken : taken_by after ≡ taken_by before + 1
  pub last : last_of after ≡ row
