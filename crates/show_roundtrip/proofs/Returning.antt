-- A program that has the lists of a specification is the image of its own text.

use Rattle.std.proofs.Common.{◌≡◌, ◌∙◌, List, [], map, All, None, refl, ap, sym, subst}
use Rattle.std.specs.Result.{result_unwrap_or}
use Rattle.mltl_base.specs.declared.program.Columns.{Columns}
use Rattle.mltl_base.specs.declared.program.Program.{Program}
use Rattle.mltl_base.specs.declared.signal.Signal.{Signal}
use Rattle.mltl_base.specs.Subformulas.{Asked, IsTensed, HasListsOf, unfolded_outputs}
use Rattle.mltl_base.proofs.Returning.{lists_return}
use Rattle.c2po_ast.specs.Outputs.{asked_over}
use Rattle.obs_verify.specs.WellFormed.{IsWellFormed}
use Rattle.c2po_compile.specs.Images.{IsImageOf, stored_signals}
use Rattle.c2po_ast.specs.ItemShape.{ItemShape}
use Rattle.c2po_parse.specs.Specification.{spec_of}
use Rattle.c2po_types.specs.FirstFault.{first_fault}
use Rattle.c2po_types.specs.Signals.{signals_of}
use Rattle.c2po_types.specs.Outputs.{outputs_of}
use Rattle.c2po_compile.specs.Front.{items_in, first_refusal}
use Rattle.c2po_compile.specs.Compiled.{signals_in, outputs_in}
use Rattle.c2po_compile.specs.ImageFiles.{compile_over, stored_columns}
use Rattle.c2po_compile.proofs.ImageLaws.{image_is}
use Rattle.c2po_compile.proofs.TellingLaws.{no_fault}
use Rattle.obs_show.specs.Text.{shown_lines, text}
use Rattle.show_roundtrip.specs.Said.{HaveWords, line_items}
use Rattle.show_roundtrip.specs.Unfolded.{declared_by}
use Rattle.show_roundtrip.proofs.Items.{lines_tokens, lines_items}
use Rattle.show_roundtrip.proofs.Signals.{program_declares, stored_again}
use Rattle.show_roundtrip.proofs.Meaning.{program_asks}
use Rattle.c2po_compile.proofs.Tenses.{tensed_over}

-- the items that the text of a program says are those of its lines
pub items_said : (program : Program) → HaveWords (shown_lines program) → items_in (text program) ≡ line_items 1 (shown_lines program)
items_said program h =
    ap (λ r. result_unwrap_or (spec_of (result_unwrap_or r [])) []) (lines_tokens (shown_lines program) h)
    ∙ ap (λ r. result_unwrap_or r []) (lines_items (shown_lines program))

-- the text of a program is that of a specification whose image the program is
pub program_returns : (signals : List Signal) (columns : Columns) (outs : List Asked) (program : Program) → IsImageOf signals columns outs program → All IsTensed outs
    → IsWellFormed program → HaveWords (shown_lines program) → first_refusal (text program) ≡ None → compile_over (text program) (stored_columns program) ≡ program
program_returns signals columns outs program is tensed formed words none =
    let items : items_in (text program) ≡ line_items 1 (shown_lines program) = items_said program words in
    let faultless : first_fault (line_items 1 (shown_lines program)) ≡ None = ap first_fault (sym items) ∙ no_fault (text program) none in
    let asks : map (asked_over (map (λ signal. signal.column) program.signals)) (outputs_in (text program)) ≡ unfolded_outputs program =
    ap (λ (xs : List ItemShape). map (asked_over (map (λ signal. signal.column) program.signals)) (outputs_of xs)) items ∙ program_asks program formed is.version faultless in
    let declares : signals_in (text program) ≡ map declared_by program.signals = ap signals_of items ∙ program_declares program in
    let returned : HasListsOf (unfolded_outputs program) program = lists_return program (map (asked_over columns.of_signal) outs) is.lists (tensed_over columns.of_signal outs tensed) in
    let again : IsImageOf (signals_in (text program)) (stored_columns program) (outputs_in (text program)) program = record {
      version = is.version;
      width = refl;
      lists = subst (λ (xs : List Asked). HasListsOf xs program) (sym asks) returned;
      queues = is.queues;
      boxes = is.boxes;
      inputs = sym (ap (λ (ss : List Signal). stored_signals ss (map (λ signal. signal.column) program.signals)) declares ∙ stored_again program.signals);
    } in
    sym (image_is (stored_columns program) (signals_in (text program)) (outputs_in (text program)) program again)
