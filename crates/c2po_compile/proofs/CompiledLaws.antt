-- The program that a text and a header line stand for, or the first refusal.

use Rattle.std.proofs.Common.{◌≡◌, ◌≢◌, ◌∙◌, ℕ, List, Option, Some, None, Result, Ok, Err, IfOk, OnOk, IfErr, refl, sym, ap, subst}
use Rattle.mltl_base.specs.declared.program.Columns.{Columns}
use Rattle.mltl_base.specs.declared.program.Program.{Program}
use Rattle.mltl_base.specs.Subformulas.{Asked}
use Rattle.mltl_base.specs.declared.signal.Signal.{Signal}
use Rattle.c2po_ast.specs.ItemShape.{ItemShape}
use Rattle.c2po_types.specs.Signals.{signals_of}
use Rattle.c2po_types.specs.Outputs.{outputs_of}
use Rattle.trace_columns.specs.declared.header_fault.HeaderFault.{HeaderFault}
use Rattle.c2po_compile.specs.declared.fault.CompileFault.{CompileFault}
use Rattle.c2po_compile.specs.declared.fault.CompileFault.TheVariants.{Refused, BadHeader, Memory}
use Rattle.c2po_compile.specs.Refusals.{header_refusal, unless_refused, IsFirstRefusal}
use Rattle.c2po_compile.specs.Front.{items_in, refusal_in, first_refusal}
use Rattle.c2po_compile.specs.Limits.{limit_refusal}
use Rattle.c2po_compile.specs.Image.{over_columns, image}
use Rattle.c2po_compile.specs.Compiled.{signals_in, outputs_in, columns_by, compile_within_limits, compile_under_header, compile_text}

refused_first : (first : Option CompileFault) (found : Result Program CompileFault) (fault : CompileFault) → fault ≢ Memory → IsFirstRefusal first fault
    → unless_refused first found ≡ Err fault
refused_first first found (Refused line why) some h = ap (λ o. unless_refused o found) h
refused_first first found (BadHeader why) some h = absurd h
refused_first first found Memory some h = absurd (some refl)

header_fault : (signals : List Signal) (outs : List Asked) (found : Result Columns HeaderFault) (fault : CompileFault)
    → refusal_in header_refusal found ≡ Some fault → compile_under_header signals outs found ≡ Err fault
header_fault signals outs (Ok columns) fault h = absurd (cc)
header_fault signals outs (Err why) fault h = let e : header_refusal why ≡ fault = cc in ap Err e

-- a text is refused first
pub text_refused : (text : List ℕ) (header : Option (List ℕ)) (fault : CompileFault) → IsFirstRefusal (first_refusal text) fault → fault ≢ Memory
    → compile_text text header ≡ Err fault
unfolding compile_text
text_refused text header fault h some =
    refused_first (first_refusal text) (compile_under_header (signals_in text) (outputs_in text) (columns_by (signals_in text) header)) fault some h

-- then a header
pub header_refused : (text : List ℕ) (header : Option (List ℕ)) (fault : CompileFault) → first_refusal text ≡ None
    → refusal_in header_refusal (columns_by (signals_in text) header) ≡ Some fault → compile_text text header ≡ Err fault
unfolding compile_text
header_refused text header fault none h =
    ap (λ o. unless_refused o (compile_under_header (signals_in text) (outputs_in text) (columns_by (signals_in text) header))) none
    ∙ header_fault (signals_in text) (outputs_in text) (columns_by (signals_in text) header) fault h

-- what a text and its columns stand for
over_found : (text : List ℕ) (header : Option (List ℕ)) (columns : Columns) → first_refusal text ≡ None → columns_by (signals_in text) header ≡ Ok columns
    → compile_text text header ≡ compile_within_limits (signals_in text) (outputs_in text) columns
unfolding compile_text
over_found text header columns none h =
    ap (λ o. unless_refused o (compile_under_header (signals_in text) (outputs_in text) (columns_by (signals_in text) header))) none
    ∙ ap (compile_under_header (signals_in text) (outputs_in text)) h

-- then a limit
pub limit_refused : (text : List ℕ) (header : Option (List ℕ)) (columns : Columns) (fault : CompileFault) → first_refusal text ≡ None
    → columns_by (signals_in text) header ≡ Ok columns → IsFirstRefusal (limit_refusal (over_columns columns (outputs_in text))) fault → fault ≢ Memory
    → compile_text text header ≡ Err fault
limit_refused text header columns fault none h k some = over_found text header columns none h
    ∙ refused_first (limit_refusal (over_columns columns (outputs_in text))) (Ok (image columns (signals_in text) (outputs_in text))) fault some k

-- and else it is compiled
pub compiled : (text : List ℕ) (header : Option (List ℕ)) (columns : Columns) (p : Program) → first_refusal text ≡ None
    → columns_by (signals_in text) header ≡ Ok columns → limit_refusal (over_columns columns (outputs_in text)) ≡ None
    → p ≡ image columns (signals_in text) (outputs_in text) → compile_text text header ≡ Ok p
compiled text header columns p none h within is = over_found text header columns none h
    ∙ ap (λ o. unless_refused o (Ok (image columns (signals_in text) (outputs_in text)))) within ∙ ap Ok (sym is)

-- an answer for columns and the items of a text
pub header_answer : (text : List ℕ) (header : Option (List ℕ)) (items : List ItemShape) (fault : CompileFault) → first_refusal text ≡ None
    → items ≡ items_in text → refusal_in header_refusal (columns_by (signals_of items) header) ≡ Some fault → compile_text text header ≡ Err fault
header_answer text header items fault none e h =
    header_refused text header fault none (ap (λ is. refusal_in header_refusal (columns_by (signals_of is) header)) (sym e) ∙ h)

pub back_answers : (text : List ℕ) (header : Option (List ℕ)) (items : List ItemShape) (columns : Columns) (answer : Result Program CompileFault)
    → first_refusal text ≡ None → items ≡ items_in text → columns_by (signals_of items) header ≡ Ok columns
    → IfOk answer (λ p. p ≡ image columns (signals_of items) (outputs_of items)) → OnOk answer (limit_refusal (over_columns columns (outputs_of items)) ≡ None)
    → IfOk answer (λ p. compile_text text header ≡ Ok p)
back_answers text header items columns (Ok p) none e h is within =
    compiled text header columns p none (ap (λ is. columns_by (signals_of is) header) (sym e) ∙ h)
    (ap (λ is. limit_refusal (over_columns columns (outputs_of is))) (sym e) ∙ within) (is ∙ ap (λ is. image columns (signals_of is) (outputs_of is)) e)
back_answers text header items columns (Err fault) none e h is within = tt

pub back_refuses : (text : List ℕ) (header : Option (List ℕ)) (items : List ItemShape) (columns : Columns) (answer : Result Program CompileFault)
    → first_refusal text ≡ None → items ≡ items_in text → columns_by (signals_of items) header ≡ Ok columns
    → IfErr answer (IsFirstRefusal (limit_refusal (over_columns columns (outputs_of items))))
    → IfErr answer (λ fault. fault ≢ Memory → compile_text text header ≡ Err fault)
back_refuses text header items columns (Ok p) none e h refused = tt
back_refuses text header items columns (Err fault) none e h refused =
    limit_refused text header columns fault none (ap (λ is. columns_by (signals_of is) header) (sym e) ∙ h)
    (subst (λ is. IsFirstRefusal (limit_refusal (over_columns columns (outputs_of is))) fault) e refused)
