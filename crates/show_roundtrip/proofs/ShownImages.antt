-- The text of an image has no fault, where it is within the limits.

use Rattle.std.proofs.Common.{◌≡◌, ◌∙◌, ℕ, ◌≤◌, Bool, true, false, List, [], length, Option, Some, None, Ok, if◌then◌else◌, refl, ap, sym, subst, arith}
use Rattle.std.specs.Prelude.{nat_lt, option_map}
use Rattle.std.specs.Option.{option_or}
use Rattle.std.specs.Result.{result_unwrap_or}
use Rattle.std.proofs.lemmas.Bool.Decides.{nat_tests}
use Rattle.mltl_base.specs.declared.limits.TheConstants.{MAX_SHOWN_BYTES, MAX_SIGNALS, MAX_WEIGHT}
use Rattle.mltl_base.specs.declared.program.Columns.{Columns}
use Rattle.mltl_base.specs.declared.program.Program.{Program}
use Rattle.obs_verify.specs.Layout.{HasLayout}
use Rattle.obs_verify.specs.WellFormed.{IsWellFormed}
use Rattle.c2po_lexer.specs.declared.token.Token.{Token}
use Rattle.c2po_lexer.specs.Tokens.{tokens_of}
use Rattle.c2po_ast.specs.ItemShape.{ItemShape}
use Rattle.c2po_parse.specs.Specification.{spec_of}
use Rattle.c2po_types.specs.Items.{nothing}
use Rattle.c2po_types.specs.FirstFault.{first_fault}
use Rattle.c2po_compile.specs.Refusals.{token_refusal, tree_refusal, check_refusal}
use Rattle.c2po_compile.specs.Front.{tokens_in, items_in, refusal_in, first_refusal}
use Rattle.c2po_compile.specs.Image.{image}
use Rattle.c2po_compile.specs.ImageFiles.{compile_over}
use Rattle.c2po_compile.specs.Simplified.{compile_simplified_over}
use Rattle.obs_show.specs.declared.fault.ShowFault.{ShowFault}
use Rattle.obs_show.specs.declared.fault.ShowFault.TheVariants.{TooLong, Wide}
use Rattle.obs_show.specs.Limits.{show_fault}
use Rattle.obs_show.specs.Text.{shown_lines, text}
use Rattle.obs_show.specs.Weight.{program_weight}
use Rattle.std.proofs.lemmas.Bool.{ltb-false}
use Rattle.show_roundtrip.specs.Said.{HaveWords, lines_marks, line_items}
use Rattle.show_roundtrip.specs.Written.{tokens_by}
use Rattle.show_roundtrip.specs.Named.{HasOwnWords}
use Rattle.show_roundtrip.proofs.Items.{lines_tokens, lines_items}
use Rattle.show_roundtrip.proofs.Returning.{items_said}
use Rattle.show_roundtrip.proofs.Words.{program_words}
use Rattle.show_roundtrip.proofs.Images.{image_words, simple_words}
use Rattle.show_roundtrip.proofs.Passing.{KindsPass, LabelsPass, IsLight}
use Rattle.show_roundtrip.proofs.NoRefusal.{lines_pass}
use Rattle.show_roundtrip.proofs.LightValues.{values_pass}
use Rattle.show_roundtrip.proofs.RightKinds.{kinds_pass}
use Rattle.show_roundtrip.proofs.NewNames.{new_of_kinds}
use Rattle.show_roundtrip.proofs.LightImages.{plain_light, simple_light, few_signals, simple_few_signals}
use Rattle.show_roundtrip.proofs.ImageLabels.{labels_pass, simple_labels_pass}

-- the text of lines without a fault isn't refused
text_passes : (program : Program) → HaveWords (shown_lines program) → first_fault (line_items 1 (shown_lines program)) ≡ None → first_refusal (text program) ≡ None
text_passes program words faultless =
    let found : List Token = tokens_by 1 0 (lines_marks (shown_lines program)) in
    let items : List ItemShape = items_in (text program) in
    let lexed : tokens_of (text program) ≡ Ok found = lines_tokens (shown_lines program) words in
    let parsed : spec_of (tokens_in (text program)) ≡ Ok (line_items 1 (shown_lines program)) = ap (λ r. spec_of (result_unwrap_or r [])) lexed ∙ lines_items (shown_lines program) in
    ap (λ r. option_or (refusal_in token_refusal r) (option_or (refusal_in tree_refusal (spec_of (tokens_in (text program)))) (option_map check_refusal (first_fault items)))) lexed
    ∙ ap (λ r. option_or (refusal_in tree_refusal r) (option_map check_refusal (first_fault items))) parsed
    ∙ ap (λ (is : List ItemShape). option_map check_refusal (first_fault is)) (items_said program words)
    ∙ ap (option_map check_refusal) faultless

second_off : (long wide : Bool) → ◌≡◌ {A = Option ShowFault} (if long then Some TooLong else if wide then Some Wide else None) None → wide ≡ false
second_off true wide h = absurd (cc)
second_off false true h = absurd (cc)
second_off false false h = refl

within_weight : (program : Program) → show_fault program ≡ None → program_weight program ≤ MAX_WEIGHT
within_weight program h =
    ltb-false MAX_WEIGHT (program_weight program) (second_off (nat_lt MAX_SHOWN_BYTES (length (text program))) (nat_lt MAX_WEIGHT (program_weight program)) h)

-- the text of a program of version 2 with words of its own, few signals, light instructions, and labels that differ
program_passes : (program : Program) → HasLayout program → IsWellFormed program → program.version ≡ 2 → HasOwnWords program → length program.signals ≤ MAX_SIGNALS → IsLight program
    → LabelsPass 1 (shown_lines program) [] → first_refusal (text program) ≡ None
program_passes program few formed version words narrow light names =
    let kinds : KindsPass 1 (shown_lines program) nothing = kinds_pass program few formed version narrow in
    text_passes program (program_words program few formed version words)
    (lines_pass (shown_lines program) kinds names (values_pass program formed version (new_of_kinds (shown_lines program) kinds) light))

-- the text of an image isn't refused
pub image_passes : (source : List ℕ) (columns : Columns) (program : Program) → first_refusal source ≡ None → program ≡ compile_over source columns → HasLayout program → IsWellFormed program → show_fault program ≡ None
    → first_refusal (text program) ≡ None
unfolding image
image_passes source columns program none is few formed within =
    program_passes program few formed
    (ap (λ (p : Program). p.version) is)
    (subst HasOwnWords (sym is) (image_words source columns none))
    (subst (λ (p : Program). length p.signals ≤ MAX_SIGNALS) (sym is) (few_signals source columns none))
    (plain_light source columns program none is (within_weight program within))
    (labels_pass source columns program none is)

-- nor is that of a simplified one
pub simple_passes : (source : List ℕ) (columns : Columns) (program : Program) → first_refusal source ≡ None → program ≡ compile_simplified_over source columns → HasLayout program → IsWellFormed program → show_fault program ≡ None
    → first_refusal (text program) ≡ None
unfolding image
simple_passes source columns program none is few formed within =
    program_passes program few formed
    (ap (λ (p : Program). p.version) is)
    (subst HasOwnWords (sym is) (simple_words source columns none))
    (subst (λ (p : Program). length p.signals ≤ MAX_SIGNALS) (sym is) (simple_few_signals source columns none))
    (simple_light source columns program none is (within_weight program within))
    (simple_labels_pass source columns program none is)
