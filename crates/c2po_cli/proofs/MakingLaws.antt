-- What a text gives, from the answers of the calls that compile it.

use Rattle.std.proofs.Common.{◌≡◌, ◌≢◌, ◌∙◌, ℕ, Bool, true, false, Option, Some, None, Result, Ok, Err, List, [], Vec, IfOk, refl, sym, ap}
use Rattle.std.specs.Prelude.{option_map}
use Rattle.std.specs.declared.alloc.Global.{Global}
use Rattle.mltl_base.specs.declared.program.Columns.{Columns}
use Rattle.mltl_base.specs.declared.program.Program.{Program}
use Rattle.mltl_base.specs.declared.signal.Signal.{Signal}
use Rattle.c2po_ast.specs.ItemShape.{ItemShape}
use Rattle.c2po_types.specs.Signals.{signals_of}
use Rattle.c2po_types.specs.Outputs.{outputs_of}
use Rattle.c2po_compile.specs.declared.fault.CompileFault.{CompileFault}
use Rattle.c2po_compile.specs.declared.fault.CompileFault.TheVariants as compile
use Rattle.c2po_compile.specs.Refusals.{header_refusal, unless_refused, IsFirstRefusal}
use Rattle.c2po_compile.specs.Front.{items_in, refusal_in, first_refusal}
use Rattle.c2po_compile.specs.Limits.{limit_refusal}
use Rattle.c2po_compile.specs.Image.{over_columns}
use Rattle.c2po_compile.specs.Compiled.{columns_by, compile_text}
use Rattle.c2po_compile.specs.Simplified.{simplify_over}
use Rattle.c2po_compile.proofs.CompiledLaws.{text_refused, header_answer, back_answers, back_refuses}
use Rattle.c2po_compile.proofs.SimpleLaws.{simple_compiled, simple_refused}
use Rattle.tool_words.specs.declared.status.Status.{Status}
use Rattle.tool_words.specs.declared.status.Status.TheVariants.{Memory}
use Rattle.c2po_cli.specs.declared.make.Form.{Form}
use Rattle.tool_words.specs.FirstLine.{begins_long}
use Rattle.tool_words.specs.Statuses.{compile_status}
use Rattle.c2po_cli.specs.Made.{compiled_bytes, compile_as, asked_program, text_bytes, written_as, unless_long, first_line, made_of_text}
use Rattle.c2po_cli.specs.Phases.{IsRefusal, RefusesAlone}

-- a text is refused alike in both forms
pub refused_by : (simplify : Bool) (text : List ℕ) (header : Option (List ℕ)) (fault : CompileFault) → compile_text text header ≡ Err fault → asked_program simplify text header ≡ Err fault
refused_by false text header fault h = h
refused_by true text header fault h = simple_refused text header fault h

-- and compiled in each
compiled_by : (simplify : Bool) (text : List ℕ) (header : Option (List ℕ)) (items : List ItemShape) (columns : Columns) (program : Program) → first_refusal text ≡ None → items ≡ items_in text
    → columns_by (signals_of items) header ≡ Ok columns → program ≡ compile_as simplify columns (signals_of items) (outputs_of items) → limit_refusal (over_columns columns (outputs_of items)) ≡ None
    → asked_program simplify text header ≡ Ok program
compiled_by false text header items columns program none same found made within = back_answers text header items columns (Ok program) none same found made within
compiled_by true text header items columns program none same found made within =
    simple_compiled text header columns program none
    (ap (λ is. columns_by (signals_of is) header) (sym same) ∙ found)
    (ap (λ is. limit_refusal (over_columns columns (outputs_of is))) (sym same) ∙ within)
    (made ∙ ap (λ is. simplify_over columns (signals_of is) (outputs_of is)) same)

-- the header doesn't name the signals of a specification
pub header_refuses : (form : Form) (text : List ℕ) (header : Option (List ℕ)) (items : List ItemShape) (fault : CompileFault) → first_refusal text ≡ None → items ≡ items_in text
    → (fault ≢ compile.Memory → refusal_in header_refusal (columns_by (signals_of items) header) ≡ Some fault) → compile_status fault ≢ Memory → text_bytes form text header ≡ Err (compile_status fault)
header_refuses form text header items fault none same refused some =
    ap (compiled_bytes form.table) (refused_by form.simplify text header fault (header_answer text header items fault none same (refused (λ memory. some (ap compile_status memory)))))

-- a limit is exceeded
pub limit_refuses : (form : Form) (text : List ℕ) (header : Option (List ℕ)) (items : List ItemShape) (columns : Columns) (fault : CompileFault) → first_refusal text ≡ None → items ≡ items_in text
    → columns_by (signals_of items) header ≡ Ok columns → IsFirstRefusal (limit_refusal (over_columns columns (outputs_of items))) fault → compile_status fault ≢ Memory → text_bytes form text header ≡ Err (compile_status fault)
limit_refuses form text header items columns fault none same found refused some =
    ap (compiled_bytes form.table) (refused_by form.simplify text header fault (back_refuses text header items columns (Err fault) none same found refused (λ memory. some (ap compile_status memory))))

-- each is a refusal
pub compile_refuses : (fault : CompileFault) → IsRefusal (compile_status fault)
compile_refuses compile.Memory = tt
compile_refuses fault = tt

-- without a header line neither tells of a header
pub alone_columns : (signals : List Signal) (header : Option (List ℕ)) (fault : CompileFault) → header ≡ None → (fault ≢ compile.Memory → refusal_in header_refusal (columns_by signals header) ≡ Some fault) → RefusesAlone (compile_status fault)
alone_columns signals header (compile.BadHeader why) is refused =
    absurd (let no : None ≡ Some (compile.BadHeader why) = sym (ap (λ h. refusal_in header_refusal (columns_by signals h)) is) ∙ refused (λ e. cc) in cc)
alone_columns signals header fault is refused = tt

pub alone_limit : (first : Option CompileFault) (fault : CompileFault) → IsFirstRefusal first fault → RefusesAlone (compile_status fault)
alone_limit first (compile.BadHeader why) is = absurd is
alone_limit first fault is = tt

-- its program is written
pub text_written : (form : Form) (header : Option (List ℕ)) (items : List ItemShape) (columns : Columns) (program : Program) (result : Result (Vec ℕ Global) Status)
    → columns_by (signals_of items) header ≡ Ok columns → program ≡ compile_as form.simplify columns (signals_of items) (outputs_of items) → limit_refusal (over_columns columns (outputs_of items)) ≡ None
    → IfOk result (λ bytes. bytes.items ≡ written_as form.table program)
    → IfOk result (λ bytes. (text : List ℕ) → first_refusal text ≡ None → items ≡ items_in text → text_bytes form text header ≡ Ok bytes.items)
text_written form header items columns program (Ok bytes) found made within is = λ text none same.
    ap (compiled_bytes form.table) (compiled_by form.simplify text header items columns program none same found made within) ∙ ap Ok (sym is)
text_written form header items columns program (Err answer) found made within is = tt

-- under a header a text without a fault gives what its first line gives
pub headed : (form : Form) (name text : List ℕ) (lines : List (List ℕ)) → first_refusal text ≡ None → made_of_text form (Some name) text lines ≡ unless_long (begins_long lines) (text_bytes form text (Some (first_line lines)))
headed form name text lines none = ap (λ r. unless_refused (option_map compile_status r) (unless_long (begins_long lines) (text_bytes form text (Some (first_line lines))))) none

-- a text that is refused gives no bytes, under a header too
pub refused_so : (form : Form) (header : Option (List ℕ)) (text : List ℕ) (fault : CompileFault) → IsFirstRefusal (first_refusal text) fault → compile_status fault ≢ Memory → made_of_text form header text [] ≡ Err (compile_status fault)
refused_so form None text fault is some = ap (compiled_bytes form.table) (refused_by form.simplify text None fault (text_refused text None fault is (λ memory. some (ap compile_status memory))))
refused_so form (Some name) text (compile.Refused line why) is some =
    ap (λ r. unless_refused (option_map compile_status r) (unless_long (begins_long []) (text_bytes form text (Some (first_line []))))) is
refused_so form (Some name) text (compile.BadHeader why) is some = absurd is
refused_so form (Some name) text compile.Memory is some = absurd (some refl)
