-- What the program of a text tells.

use Rattle.std.proofs.Common.{◌≡◌, ◌∙◌, ℕ, List, [], ◌∷◌, map, max, All, Option, Some, None, Result, Ok, Err, refl, sym, ap, ap₂}
use Rattle.std.specs.Prelude.{option_map}
use Rattle.std.specs.Option.{option_or}
use Rattle.mltl_base.specs.declared.program.Columns.{Columns}
use Rattle.mltl_base.specs.declared.program.Program.{Program}
use Rattle.mltl_base.specs.declared.report.Style.{Style}
use Rattle.mltl_base.specs.Atoms.{Row}
use Rattle.mltl_base.specs.Programs.{outputs, output_names}
use Rattle.mltl_base.specs.Reports.{Output, formula, contract, delay, reports}
use Rattle.mltl_base.specs.Subformulas.{Asked, IsTensed, core_output}
use Rattle.mltl_base.proofs.CoreMeaning.{core_delay}
use Rattle.c2po_lexer.specs.Tokens.{tokens_of}
use Rattle.c2po_parse.specs.Specification.{spec_of}
use Rattle.c2po_types.specs.declared.fault.TypeFault.{TypeFault}
use Rattle.mltl_base.specs.declared.signal.Signal.{Signal}
use Rattle.c2po_types.specs.FirstFault.{first_fault}
use Rattle.trace_columns.specs.declared.header_fault.HeaderFault.{HeaderFault}
use Rattle.c2po_types.proofs.Faultless.{faultless-tensed}
use Rattle.c2po_compile.proofs.Tenses.{image_unfolds, image_names, image_tells}
use Rattle.c2po_compile.specs.declared.fault.CompileFault.{CompileFault}
use Rattle.c2po_compile.specs.Refusals.{token_refusal, tree_refusal, check_refusal, unless_refused}
use Rattle.c2po_compile.specs.Front.{tokens_in, items_in, refusal_in, first_refusal}
use Rattle.c2po_compile.specs.Limits.{limit_refusal}
use Rattle.c2po_compile.specs.Image.{over_columns, plain_outputs, image}
use Rattle.c2po_compile.specs.Compiled.{signals_in, outputs_in, columns_by, compile_within_limits, compile_under_header, compile_text, IsImageUnder}
use Rattle.c2po_compile.proofs.ImageLaws.{image_of}

-- nothing first, and nothing then
pub second_none : (o p : Option CompileFault) → option_or o p ≡ None → p ≡ None
second_none (Some fault) p h = absurd (cc)
second_none None p h = h

pub map_none : (o : Option TypeFault) → option_map check_refusal o ≡ None → o ≡ None
map_none (Some fault) h = absurd (cc)
map_none None h = refl

-- a text that isn't refused has no fault
pub no_fault : (text : List ℕ) → first_refusal text ≡ None → first_fault (items_in text) ≡ None
no_fault text h = map_none (first_fault (items_in text))
    (second_none (refusal_in tree_refusal (spec_of (tokens_in text))) _ (second_none (refusal_in token_refusal (tokens_of text)) _ h))

-- so its outputs mix no tenses
pub tensed : (text : List ℕ) → first_refusal text ≡ None → All IsTensed (outputs_in text)
tensed text h = faultless-tensed (items_in text) (no_fault text h)

-- what was found in spite of refusals: there was none
pub not_refused : {T F : Type 0} (first : Option F) (found : Result T F) (value : T) → unless_refused first found ≡ Ok value → (first ≡ None) × (found ≡ Ok value)
not_refused None found value h = (refl, h)
not_refused (Some refusal) found value h = absurd (cc)

-- a program that a text and a header line stand for is the image over their columns
pub image_found : (text : List ℕ) (header : Option (List ℕ)) (columns : Columns) (p : Program) → compile_text text header ≡ Ok p
    → columns_by (signals_in text) header ≡ Ok columns → (first_refusal text ≡ None) × (p ≡ image columns (signals_in text) (outputs_in text))
unfolding compile_text
image_found text header columns p h k =
    let all = not_refused (first_refusal text) (compile_under_header (signals_in text) (outputs_in text) (columns_by (signals_in text) header)) p h in
    let over : compile_within_limits (signals_in text) (outputs_in text) columns ≡ Ok p = ap (compile_under_header (signals_in text) (outputs_in text)) (sym k) ∙ all.1 in
    let within = not_refused (limit_refusal (over_columns columns (outputs_in text))) (Ok (image columns (signals_in text) (outputs_in text))) p over in
    let is : p ≡ image columns (signals_in text) (outputs_in text) = (let e = within.1 in cc) in
    (all.0, is)

columns_found : (signals : List Signal) (outs : List Asked) (found : Result Columns HeaderFault) (p : Program) → compile_under_header signals outs found ≡ Ok p
    → (columns : Columns) × (found ≡ Ok columns)
columns_found signals outs (Ok columns) p h = (columns, refl)
columns_found signals outs (Err fault) p h = absurd (cc)

-- and it has such columns
pub image_under_header : (text : List ℕ) (header : Option (List ℕ)) (p : Program) → compile_text text header ≡ Ok p → IsImageUnder text header p
unfolding compile_text
image_under_header text header p h =
    let all = not_refused (first_refusal text) (compile_under_header (signals_in text) (outputs_in text) (columns_by (signals_in text) header)) p h in
    let found = columns_found (signals_in text) (outputs_in text) (columns_by (signals_in text) header) p all.1 in
    record { columns = found.0; found = found.1; is_image = (image_found text header found.0 p h found.1).1 }

pub text_reports : (style : Style) (text : List ℕ) (header : Option (List ℕ)) (columns : Columns) (p : Program) (rows : List Row)
    → compile_text text header ≡ Ok p → columns_by (signals_in text) header ≡ Ok columns
    → reports style (outputs p) rows ≡ reports style (plain_outputs columns (outputs_in text)) rows
text_reports style text header columns p rows h k =
    let q = image_found text header columns p h k in
    let signals = signals_in text in let outs = outputs_in text in
    ap (λ r. reports style (outputs r) rows) q.1
    ∙ image_tells style signals columns outs (image columns signals outs) rows (tensed text q.0) (image_of columns signals outs)

-- a core form has the delay of its formula
output_delay : (o : Output) → delay (core_output o) ≡ delay o
output_delay (formula p) = core_delay p
output_delay (contract p q) = ap₂ max (core_delay p) (core_delay q)

core_delays : (outs : List Asked) → map delay (map (λ (a : Asked). core_output a.output) outs) ≡ map delay (map (λ (a : Asked). a.output) outs)
core_delays [] = refl
core_delays (a ∷ outs) = ap₂ (λ n ns. n ∷ ns) (output_delay a.output) (core_delays outs)

pub text_delays : (text : List ℕ) (header : Option (List ℕ)) (columns : Columns) (p : Program)
    → compile_text text header ≡ Ok p → columns_by (signals_in text) header ≡ Ok columns
    → map delay (outputs p) ≡ map delay (plain_outputs columns (outputs_in text))
text_delays text header columns p h k =
    let q = image_found text header columns p h k in
    let signals = signals_in text in let outs = outputs_in text in
    ap (λ r. map delay (outputs r)) q.1
    ∙ ap (map delay) (image_unfolds signals columns outs (image columns signals outs) (tensed text q.0) (image_of columns signals outs))
    ∙ core_delays (over_columns columns outs)

pub text_names : (text : List ℕ) (header : Option (List ℕ)) (columns : Columns) (p : Program)
    → compile_text text header ≡ Ok p → columns_by (signals_in text) header ≡ Ok columns
    → output_names p ≡ map (λ a. a.name) (outputs_in text)
text_names text header columns p h k =
    let q = image_found text header columns p h k in
    let signals = signals_in text in let outs = outputs_in text in
    ap output_names q.1 ∙ image_names signals columns outs (image columns signals outs) (image_of columns signals outs)
