-- The output of a run with `--upgrade`, and with `--simplify`.

use Rattle.std.specs.Prelude.{◌≡◌, ◌≤◌, ℕ, Bool, true, Option, Ok, List, ⊤}
use Rattle.mltl_base.specs.declared.program.Program.{Program}
use Rattle.tool_io.specs.declared.host.Place.TheVariants.{Out}
use Rattle.tool_io.specs.Log.{Event, given}
use Rattle.c2po_compile.specs.Compiled.{compile_text}
use Rattle.c2po_compile.specs.Simplified.{compile_simplified, slots_in}
use Rattle.tool_words.specs.declared.status.Status.{Status}
use Rattle.tool_words.specs.declared.status.Status.TheVariants.{Done}
use Rattle.c2po_cli.specs.declared.make.Form.{Form}
use Rattle.c2po_cli.specs.declared.make.Product.TheVariants.{Compiled, Upgrade}
use Rattle.c2po_cli.specs.Asking.{Ask, make}
use Rattle.c2po_cli.specs.Images.{asked_header}
use Rattle.c2po_cli.specs.Made.{written_as}
use Rattle.c2po_cli.specs.Run.{file_in, seen}
use Rattle.c2po_cli.specs.Upgrading.{IsUpgraded}

-- with `--upgrade` a run that is done writes the program of its file in version 2
abbrev pub UpgradesProgram : Ask → Status → List Event → Type 0
UpgradesProgram (make asked) answer events =
    asked.product ≡ Upgrade → answer ≡ Done → IsUpgraded (file_in asked events) (given Out events)
UpgradesProgram other answer events = ⊤

-- The output is the program of a text and a header line in simplified form, or its table. It has no more slots and boxes
-- than the program in plain form.
pub record IsNoLarger (tabled : Bool) (text : List ℕ) (header : Option (List ℕ)) (written : List ℕ) : Type 0 where
  pub simple : Program
  pub plain : Program
  pub simple_is : compile_simplified text header ≡ Ok simple
  pub plain_is : compile_text text header ≡ Ok plain
  pub bytes : written ≡ written_as tabled simple
  pub slots : slots_in simple ≤ slots_in plain

-- a compilation with `--simplify` that is done writes a program that has no more slots and boxes than in plain form
abbrev pub NeedsNoMore : Ask → Status → List Event → Type 0
NeedsNoMore (make asked) answer events =
    (form : Form) → asked.product ≡ Compiled form → form.simplify ≡ true → answer ≡ Done
    → IsNoLarger form.table (file_in asked events) (asked_header asked.header (seen asked events).header)
    (given Out events)
NeedsNoMore other answer events = ⊤
