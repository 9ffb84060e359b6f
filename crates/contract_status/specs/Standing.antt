-- The engines and the outputs' next times after some rows.

use Rattle.std.specs.Prelude.{ℕ, ◌≡◌, Option, List, length, IfSome, IsNone}
use Rattle.mltl_base.specs.declared.program.Program.{Program}
use Rattle.mltl_base.specs.declared.report.Report.{Report}
use Rattle.mltl_base.specs.declared.report.Style.{Style}
use Rattle.mltl_base.specs.Atoms.{Row}
use Rattle.ft_engine.specs.declared.Ft.{Ft}
use Rattle.ft_engine.specs.Standing as future
use Rattle.pt_boxes.specs.declared.Pt.{Pt}
use Rattle.pt_boxes.specs.Standing as past
use Rattle.contract_status.specs.declared.engines.Engines.{Engines}
use Rattle.contract_status.specs.Open.{ArePlaced, GivesFirst, IsGiven}

-- both engines of the program have taken these n rows, and each output has its next time
pub record StandFor (program : Program) (rows : List Row) (n : ℕ) (ft : Ft) (pt : Pt)
    (next_times : List ℕ) : Type 0 where
  pub future : future.FtHasTaken program rows ft
  pub past : past.PtHasTaken program rows pt
  pub placed : ArePlaced program rows next_times
  pub count : length rows ≡ n

-- both engines at once have taken these rows, and each output has its next time
abbrev pub EnginesStandFor : Program → List Row → Engines → List ℕ → Type 0
EnginesStandFor program rows engines next_times =
    StandFor program rows engines.rows engines.ft.now engines.pt.now next_times

-- The first report that was open after n rows was returned, and the other reports are still open; if none was open, nothing
-- changed.
pub record GivesNext (style : Style) (program : Program) (n : ℕ) (ft : Ft) (pt : Pt) (result : Option Report)
    (before after : List ℕ) : Type 0 where
  pub first : (rows : List Row) → StandFor program rows n ft pt before
      → GivesFirst style program rows before after result
  pub placed : (rows : List Row) → StandFor program rows n ft pt before → ArePlaced program rows after
  pub none : IsNone result → after ≡ before
  pub given : IfSome result (λ report. IsGiven program n report before after)
