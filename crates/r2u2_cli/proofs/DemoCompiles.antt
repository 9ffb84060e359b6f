-- The demo's text is compiled.

use Rattle.std.proofs.Common.{◌≡◌, ◌≢◌, ◌∙◌, ℕ, List, [], ◌∷◌, refl, sym, ap, ap₂, codes}
use Rattle.std.specs.Prelude.{true, false, None, Result, Ok, Err}
use Rattle.mltl_base.specs.declared.program.Columns.{Columns}
use Rattle.mltl_base.specs.declared.program.Program.{Program}
use Rattle.mltl_base.specs.declared.signal.Signal.{Signal}
use Rattle.c2po_lexer.specs.declared.token.Token.{Token}
use Rattle.c2po_lexer.specs.Tokens.{tokens_of}
use Rattle.c2po_ast.specs.ItemShape.{ItemShape}
use Rattle.c2po_parse.specs.Specification.{spec_of}
use Rattle.c2po_types.specs.FirstFault.{first_fault}
use Rattle.c2po_types.specs.Signals.{signals_of}
use Rattle.c2po_types.specs.Outputs.{outputs_of}
use Rattle.r2u2_monitor.specs.Header.{columns_in_order}
use Rattle.c2po_compile.specs.declared.fault.CompileFault.{CompileFault}
use Rattle.c2po_compile.specs.declared.fault.CompileFault.TheVariants.{Memory}
use Rattle.c2po_compile.specs.Compiled.{columns_by, compile_text, outputs_in, signals_in}
use Rattle.c2po_compile.specs.Front.{first_refusal, items_in}
use Rattle.c2po_compile.specs.Image.{image, over_columns}
use Rattle.c2po_compile.specs.Limits.{limit_refusal}
use Rattle.c2po_compile.proofs.CompiledLaws.{compiled}
use Rattle.r2u2_cli.specs.Text.{demo_outputs, demo_text}
use Rattle.r2u2_cli.proofs.DemoTokens.{demo_tokens, tokens_found}
use Rattle.r2u2_cli.proofs.DemoTrees.{demo_items, items_found}
use Rattle.r2u2_cli.proofs.DemoFaults.{faultless}
use Rattle.r2u2_cli.proofs.DemoOutputs.{outputs_found, within_limits}

not_refused_by : (text : List ℕ) (ts : List Token) (items : List ItemShape) → tokens_of text ≡ Ok ts → spec_of ts ≡ Ok items → first_fault items ≡ None → first_refusal text ≡ None
not_refused_by text ts items h e k = rw (h, e, k) refl

items_by : (text : List ℕ) (ts : List Token) (items : List ItemShape) → tokens_of text ≡ Ok ts → spec_of ts ≡ Ok items → items_in text ≡ items
items_by text ts items h e = rw (h, e) refl

not_refused : first_refusal demo_text ≡ None
not_refused = not_refused_by demo_text demo_tokens demo_items tokens_found items_found faultless

items_are : items_in demo_text ≡ demo_items
items_are = items_by demo_text demo_tokens demo_items tokens_found items_found

pub outputs_are : outputs_in demo_text ≡ demo_outputs
outputs_are = ap outputs_of items_are ∙ outputs_found

abbrev pub demo_signals : List Signal
demo_signals = record { name = codes "a"; truth = true } ∷ record { name = codes "b"; truth = true } ∷ record { name = codes "x"; truth = false } ∷ []

signals_found : signals_of demo_items ≡ demo_signals
signals_found = refl

signals_are : signals_in demo_text ≡ demo_signals
signals_are = ap signals_of items_are ∙ signals_found

abbrev pub demo_columns : Columns
demo_columns = columns_in_order 3

pub columns_are : columns_by (signals_in demo_text) None ≡ Ok demo_columns
columns_are = ap (λ signals. columns_by signals None) signals_are

abbrev pub demo_program : Program
demo_program = image demo_columns demo_signals demo_outputs

pub compiles : compile_text demo_text None ≡ Ok demo_program
compiles =
    compiled demo_text None demo_columns demo_program not_refused columns_are (ap (λ outs. limit_refusal (over_columns demo_columns outs)) outputs_are ∙ within_limits)
    (sym (ap₂ (image demo_columns) signals_are outputs_are))

both : (found : Result Program CompileFault) (p : Program) (fault : CompileFault) → found ≡ Ok p → found ≡ Err fault → ⊥
both found p fault h e = cc

-- no fault but want of memory
pub never_refused : (fault : CompileFault) → (fault ≢ Memory → compile_text demo_text None ≡ Err fault) → fault ≢ Memory → ⊥
never_refused fault h other = both (compile_text demo_text None) demo_program fault compiles (h other)
