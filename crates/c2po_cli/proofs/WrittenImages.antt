-- What is written of a specification is a file of its image.

use Rattle.std.proofs.Common.{◌≡◌, ◌∙◌, ℕ, Bool, true, false, Option, None, Result, Ok, Err, List, Vec, IfOk, OnOk, length, sym, ap, subst}
use Rattle.std.specs.declared.alloc.Global.{Global}
use Rattle.mltl_base.specs.declared.program.Columns.{Columns}
use Rattle.mltl_base.specs.declared.program.Program.{Program}
use Rattle.c2po_ast.specs.ItemShape.{ItemShape}
use Rattle.c2po_types.specs.Signals.{signals_of}
use Rattle.c2po_types.specs.Outputs.{outputs_of}
use Rattle.obs_binary.specs.Layout.{IsEncodable, spelling}
use Rattle.c2po_compile.specs.Front.{items_in, first_refusal}
use Rattle.c2po_compile.specs.Image.{AreColumnsFor}
use Rattle.c2po_compile.specs.Compiled.{columns_by, outputs_in, signals_in}
use Rattle.c2po_compile.specs.ImageFiles.{IsFileOf}
use Rattle.tool_io.specs.Log.{Event}
use Rattle.tool_words.specs.declared.status.Status as status
use Rattle.c2po_cli.specs.declared.make.Form.{Form}
use Rattle.c2po_cli.specs.Asking.{Ask, make}
use Rattle.c2po_cli.specs.Images.{IsFileBy, WritesImage}
use Rattle.c2po_cli.specs.Made.{compile_as, written_as}
use Rattle.c2po_cli.specs.Run.{seen, CompilesImage, MakeOutcome, OutcomeOf}

-- by either form
file_by : (simplify : Bool) (text : List ℕ) (columns : Columns) (file : List ℕ) → IsFileOf text columns (compile_as simplify columns (signals_in text) (outputs_in text)) file → IsFileBy simplify text columns file
file_by false text columns file is = is
file_by true text columns file is = is

-- the bytes of a program that fits are a file of it
pub image_written : (form : Form) (header : Option (List ℕ)) (items : List ItemShape) (columns : Columns) (program : Program) (result : Result (Vec ℕ Global) status.Status)
    → columns_by (signals_of items) header ≡ Ok columns → AreColumnsFor (length (signals_of items)) columns → program ≡ compile_as form.simplify columns (signals_of items) (outputs_of items)
    → IfOk result (λ bytes. bytes.items ≡ written_as form.table program) → OnOk result (form.table ≡ false → IsEncodable program)
    → IfOk result (λ bytes. (text : List ℕ) → first_refusal text ≡ None → items ≡ items_in text → WritesImage form text header bytes.items)
image_written form header items columns program (Ok bytes) found serve made is fits = λ text none same untabled.
    let image = λ (is : List ItemShape). compile_as form.simplify columns (signals_of is) (outputs_of is) in
    let here : program ≡ compile_as form.simplify columns (signals_in text) (outputs_in text) = made ∙ ap image same in
    record {
      columns = columns;
      found = ap (λ is. columns_by (signals_of is) header) (sym same) ∙ found;
      is_image = file_by form.simplify text columns bytes.items (record {
        faultless = none;
        serve = subst (λ is. AreColumnsFor (length (signals_of is)) columns) same serve;
        fits = subst IsEncodable here (fits untabled);
        bytes = is ∙ ap (λ tabled. written_as tabled program) untabled ∙ ap spelling here;
      });
    }
image_written form header items columns program (Err answer) found serve made is fits = tt

-- so a whole run writes one
pub compiles_image : (asked : Ask) (answer : status.Status) (events : List Event) → OutcomeOf answer asked events → CompilesImage asked answer events
compiles_image (make asked) answer events outcome = λ done.
    let is = subst (λ s. MakeOutcome s asked (seen asked events)) done outcome in
    is.bytes.gives
compiles_image asked answer events outcome = tt
