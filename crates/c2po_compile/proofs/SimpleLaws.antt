-- Programs in simplified form.

use Rattle.std.proofs.Common.{◌≡◌, ◌≢◌, ◌∙◌, ◌≤◌, ◌<◌, ◌^◌, ℕ, Bool, true, false, None, Some, List, Result, Ok, Err, All, refl, sym, ap, ap₂, subst, arith}
use Rattle.std.specs.Prelude.{◌&&◌, if◌then◌else◌, is_none, nat_le, Option}
use Rattle.std.proofs.lemmas.Bool.{and_parts, leb-true}
use Rattle.std.proofs.lemmas.List.Elements.{All-map}
use Rattle.mltl_base.specs.declared.program.Columns.{Columns}
use Rattle.mltl_base.specs.declared.program.Program.{Program}
use Rattle.mltl_base.specs.declared.signal.Signal.{Signal}
use Rattle.mltl_base.specs.Kinds.{ReadsSignals, kinds_of}
use Rattle.mltl_base.specs.Subformulas.{Asked}
use Rattle.c2po_ast.specs.declared.nodes.Expanded.{Expanded}
use Rattle.c2po_ast.specs.Outputs.{asked}
use Rattle.mltl_simplify.specs.Outputs.{simple_asked, simple_outputs}
use Rattle.mltl_simplify.proofs.Signals.{simple_kinds}
use Rattle.c2po_types.specs.Outputs.{HasPlainName}
use Rattle.c2po_compile.specs.declared.build_fault.BuildFault.{BuildFault}
use Rattle.c2po_compile.specs.declared.build_fault.BuildFault.TheVariants as build
use Rattle.c2po_compile.specs.BuildLimits.{IsReason, slots_needed}
use Rattle.obs_binary.specs.Names.{NamesFit}
use Rattle.trace_columns.specs.declared.header_fault.HeaderFault.{HeaderFault}
use Rattle.c2po_compile.specs.declared.fault.CompileFault.{CompileFault}
use Rattle.c2po_compile.specs.Compiled.{columns_by, compile_text, outputs_in, signals_in}
use Rattle.c2po_compile.specs.Front.{first_refusal}
use Rattle.c2po_compile.specs.Image.{image, over_columns}
use Rattle.c2po_compile.specs.Limits.{limit_refusal}
use Rattle.c2po_compile.specs.Simplified.{are_smaller, simplify_over, compile_simplified, simplified, slots_in, smaller_outputs}
use Rattle.c2po_compile.proofs.CompiledLaws.{compiled}
use Rattle.c2po_compile.proofs.LimitLaws.{first_exceeded, none_fits}
use Rattle.c2po_compile.proofs.TellingLaws.{image_found, image_under_header}

-- names stay
pub named_simple : (spec simple : Expanded) → asked simple ≡ simple_outputs (asked spec) → All HasPlainName (asked spec) → All HasPlainName (asked simple)
named_simple spec simple same h = subst (All HasPlainName) (sym same) (All-map HasPlainName simple_asked (asked spec) h)

-- and the same signals are read
pub kinds_simple : (signals : List Signal) (spec simple : Expanded) → asked simple ≡ simple_outputs (asked spec) → All (ReadsSignals (kinds_of signals)) (asked spec)
    → All (ReadsSignals (kinds_of signals)) (asked simple)
kinds_simple signals spec simple same h = subst (All (ReadsSignals (kinds_of signals))) (sym same) (simple_kinds (kinds_of signals) (asked spec) h)

-- the slots and boxes of an image are few
pub image_slots : (columns : Columns) (signals : List Signal) (outs : List Asked) (p : Program) → p ≡ image columns signals outs → limit_refusal (over_columns columns outs) ≡ None → slots_in p < 2 ^ 64
unfolding image
image_slots columns signals outs p is within =
    let same : slots_in p ≡ slots_needed (over_columns columns outs) = ap slots_in is in
    omega (arith, none_fits (over_columns columns outs) within)

-- ---- which form is taken

pub fits_either : (b : Bool) (p q : Program) → NamesFit p → NamesFit q → NamesFit (if b then p else q)
fits_either true p q h k = h
fits_either false p q h k = k

chosen_image : (columns : Columns) (signals : List Signal) (simple plain : List Asked) (b : Bool)
    → (if b then image columns signals simple else image columns signals plain) ≡ image columns signals (if b then simple else plain)
chosen_image columns signals simple plain true = refl
chosen_image columns signals simple plain false = refl

-- the smaller of the two, where both are within the limits
pub smaller_is : (columns : Columns) (signals : List Signal) (outs : List Asked) (simple plain : Program) → limit_refusal (over_columns columns (simple_outputs outs)) ≡ None
    → simple ≡ image columns signals (simple_outputs outs) → plain ≡ image columns signals outs
    → (if nat_le (slots_in simple) (slots_in plain) then simple else plain) ≡ simplify_over columns signals outs
unfolding image smaller_outputs
smaller_is columns signals outs simple plain within is was =
    ap₂ (λ p q. if nat_le (slots_in p) (slots_in q) then p else q) is was
    ∙ chosen_image columns signals (simple_outputs outs) outs (nat_le (slots_needed (over_columns columns (simple_outputs outs))) (slots_needed (over_columns columns outs)))
    ∙ ap (λ refusal. image columns signals (if is_none refusal && nat_le (slots_needed (over_columns columns (simple_outputs outs))) (slots_needed (over_columns columns outs)) then simple_outputs outs else outs)) (sym within)

-- else the plain one
plain_taken : (columns : Columns) (signals : List Signal) (outs : List Asked) (refusal : CompileFault) → limit_refusal (over_columns columns (simple_outputs outs)) ≡ Some refusal
    → image columns signals outs ≡ simplify_over columns signals outs
unfolding smaller_outputs
plain_taken columns signals outs refusal exceeded =
    ap (λ found. image columns signals (if is_none found && nat_le (slots_needed (over_columns columns (simple_outputs outs))) (slots_needed (over_columns columns outs)) then simple_outputs outs else outs)) (sym exceeded)

pub plain_is : (columns : Columns) (signals : List Signal) (outs : List Asked) (fault : BuildFault) (plain : Program) → IsReason (over_columns columns (simple_outputs outs)) fault
    → fault ≢ build.Memory → plain ≡ image columns signals outs → plain ≡ simplify_over columns signals outs
plain_is columns signals outs build.Memory plain why some is = absurd (some refl)
plain_is columns signals outs x plain why some is = is ∙ plain_taken columns signals outs _ (first_exceeded (over_columns columns (simple_outputs outs)) x why)

-- ---- of a text

refused_too : (signals : List Signal) (outs : List Asked) (columns : Result Columns HeaderFault) (fault : CompileFault) → simplified signals outs columns (Err fault) ≡ Err fault
refused_too signals outs (Ok columns) fault = refl
refused_too signals outs (Err why) fault = refl

-- what refuses the image refuses the simplified one
pub simple_refused : (text : List ℕ) (header : Option (List ℕ)) (fault : CompileFault) → compile_text text header ≡ Err fault → compile_simplified text header ≡ Err fault
unfolding compile_simplified
simple_refused text header fault h =
    ap (simplified (signals_in text) (outputs_in text) (columns_by (signals_in text) header)) h
    ∙ refused_too (signals_in text) (outputs_in text) (columns_by (signals_in text) header) fault

-- else it is compiled
pub simple_compiled : (text : List ℕ) (header : Option (List ℕ)) (columns : Columns) (p : Program) → first_refusal text ≡ None
    → columns_by (signals_in text) header ≡ Ok columns → limit_refusal (over_columns columns (outputs_in text)) ≡ None
    → p ≡ simplify_over columns (signals_in text) (outputs_in text) → compile_simplified text header ≡ Ok p
unfolding compile_simplified
simple_compiled text header columns p none h within is =
    ap₂ (simplified (signals_in text) (outputs_in text)) h (compiled text header columns (image columns (signals_in text) (outputs_in text)) none h within refl)
    ∙ ap Ok (sym is)

-- a text that is compiled so has no fault, and its program is the image of the smaller outputs
pub simple_found : (text : List ℕ) (header : Option (List ℕ)) (columns : Columns) (p : Program) → compile_simplified text header ≡ Ok p → columns_by (signals_in text) header ≡ Ok columns
    → (first_refusal text ≡ None) × (p ≡ simplify_over columns (signals_in text) (outputs_in text))
unfolding compile_simplified
simple_found text header columns p h k =
    go (compile_text text header) refl (ap (λ c. simplified (signals_in text) (outputs_in text) c (compile_text text header)) (sym k) ∙ h)
  where
    go : (found : Result Program CompileFault) → compile_text text header ≡ found → simplified (signals_in text) (outputs_in text) (Ok columns) found ≡ Ok p
        → (first_refusal text ≡ None) × (p ≡ simplify_over columns (signals_in text) (outputs_in text))
    go (Ok plain) is same = let e : p ≡ simplify_over columns (signals_in text) (outputs_in text) = cc in ((image_found text header columns plain is k).0, e)
    go (Err fault) is same = absurd (cc)

-- it is refused only where its image is
found_refused : (signals : List Signal) (outs : List Asked) (columns : Result Columns HeaderFault) (found : Result Program CompileFault) (fault : CompileFault) → simplified signals outs columns found ≡ Err fault → found ≡ Err fault
found_refused signals outs (Ok columns) (Ok plain) fault h = absurd (cc)
found_refused signals outs _ _ fault h = h

pub plain_refused : (text : List ℕ) (header : Option (List ℕ)) (fault : CompileFault) → compile_simplified text header ≡ Err fault → compile_text text header ≡ Err fault
unfolding compile_simplified
plain_refused text header fault h = found_refused (signals_in text) (outputs_in text) (columns_by (signals_in text) header) (compile_text text header) fault h

-- it has no more slots and boxes
image_no_more : (columns : Columns) (signals : List Signal) (outs : List Asked) → slots_in (simplify_over columns signals outs) ≤ slots_in (image columns signals outs)
unfolding image smaller_outputs
image_no_more columns signals outs =
    go (are_smaller (over_columns columns (simple_outputs outs)) (over_columns columns outs))
    (λ is. leb-true _ _ (and_parts (is_none (limit_refusal (over_columns columns (simple_outputs outs)))) (nat_le (slots_needed (over_columns columns (simple_outputs outs))) (slots_needed (over_columns columns outs))) is).1)
  where
    go : (b : Bool) → (b ≡ true → slots_needed (over_columns columns (simple_outputs outs)) ≤ slots_needed (over_columns columns outs))
        → slots_in (image columns signals (if b then simple_outputs outs else outs)) ≤ slots_in (image columns signals outs)
    go true less = less refl
    go false less = omega arith

pub simple_no_more : (text : List ℕ) (header : Option (List ℕ)) (simple plain : Program) → compile_simplified text header ≡ Ok simple → compile_text text header ≡ Ok plain → slots_in simple ≤ slots_in plain
simple_no_more text header simple plain is was =
    let under = image_under_header text header plain was in
    let has = simple_found text header under.columns simple is under.found in
    subst (λ p. slots_in p ≤ slots_in plain) (sym has.1)
    (subst (λ q. slots_in (simplify_over under.columns (signals_in text) (outputs_in text)) ≤ slots_in q) (sym under.is_image)
    (image_no_more under.columns (signals_in text) (outputs_in text)))
