-- Outputs keep their tense over columns, and an image tells what they tell.

use Rattle.std.proofs.Common.{◌≡◌, List, [], ◌∷◌, ℕ, All, map, refl, ap, ◌∙◌}
use Rattle.mltl_base.specs.declared.interval.Engine.{Engine}
use Rattle.mltl_base.specs.declared.interval.Engine.TheVariants.{Ft, Pt}
use Rattle.mltl_base.specs.declared.program.Columns.{Columns}
use Rattle.mltl_base.specs.declared.program.Program.{Program}
use Rattle.mltl_base.specs.declared.report.Style.{Style}
use Rattle.mltl_base.specs.Atoms.{Row}
use Rattle.mltl_base.specs.Formula.{Formula, truth, falsity, atom, negation, conjunction, disjunction, implication, equivalence, finally, globally, until, release, once, historically, since, formula_over}
use Rattle.mltl_base.specs.Programs.{outputs, output_names}
use Rattle.mltl_base.specs.Reports.{Output, formula, contract, reports}
use Rattle.mltl_base.specs.Settled.{IsFuture, IsPast}
use Rattle.mltl_base.specs.Subformulas.{Asked, IsOfTense, IsTensed, core_output, formulas_of}
use Rattle.mltl_base.proofs.Unfolding.{Each, each_from_all}
use Rattle.mltl_base.proofs.Graphs.{program_unfolds, program_names, program_tells}
use Rattle.c2po_ast.specs.Outputs.{asked_over, output_over}
use Rattle.mltl_base.proofs.Members.{all_from_each}
use Rattle.mltl_base.specs.declared.signal.Signal.{Signal}
use Rattle.c2po_compile.specs.Images.{IsImageOf}

future_over : (columns : List ℕ) (p : Formula) → IsFuture p → IsFuture (formula_over columns p)
unfolding formula_over
future_over columns (negation p) h = future_over columns p h
future_over columns (conjunction p q) h = (future_over columns p h.0, future_over columns q h.1)
future_over columns (disjunction p q) h = (future_over columns p h.0, future_over columns q h.1)
future_over columns (implication p q) h = (future_over columns p h.0, future_over columns q h.1)
future_over columns (equivalence p q) h = (future_over columns p h.0, future_over columns q h.1)
future_over columns (finally i p) h = future_over columns p h
future_over columns (globally i p) h = future_over columns p h
future_over columns (until i p q) h = (future_over columns p h.0, future_over columns q h.1)
future_over columns (release i p q) h = (future_over columns p h.0, future_over columns q h.1)
future_over columns (once i p) h = absurd h
future_over columns (historically i p) h = absurd h
future_over columns (since i p q) h = absurd h
future_over columns _ h = tt

past_over : (columns : List ℕ) (p : Formula) → IsPast p → IsPast (formula_over columns p)
unfolding formula_over
past_over columns truth h = tt
past_over columns falsity h = tt
past_over columns (atom a) h = tt
past_over columns (negation p) h = past_over columns p h
past_over columns (conjunction p q) h = (past_over columns p h.0, past_over columns q h.1)
past_over columns (disjunction p q) h = (past_over columns p h.0, past_over columns q h.1)
past_over columns (implication p q) h = (past_over columns p h.0, past_over columns q h.1)
past_over columns (equivalence p q) h = (past_over columns p h.0, past_over columns q h.1)
past_over columns (once i p) h = past_over columns p h
past_over columns (historically i p) h = past_over columns p h
past_over columns (since i p q) h = (past_over columns p h.0, past_over columns q h.1)
past_over columns _ h = absurd h

tense_over : (columns : List ℕ) (e : Engine) (p : Formula) → IsOfTense e p → IsOfTense e (formula_over columns p)
tense_over columns Ft p h = future_over columns p h
tense_over columns Pt p h = past_over columns p h

output_tense : (columns : List ℕ) (e : Engine) (o : Output) → Each (IsOfTense e) (formulas_of o) → Each (IsOfTense e) (formulas_of (output_over columns o))
output_tense columns e (formula p) h = (tense_over columns e p h.0, tt)
output_tense columns e (contract p q) h = (tense_over columns e p h.0, (tense_over columns e q h.1.0, tt))

each_tensed : (columns : List ℕ) (asks : List Asked) → Each IsTensed asks → Each IsTensed (map (asked_over columns) asks)
each_tensed columns [] h = tt
each_tensed columns (a ∷ asks) h =
    (all_from_each (IsOfTense a.engine) (formulas_of (output_over columns a.output)) (output_tense columns a.engine a.output (each_from_all (IsOfTense a.engine) (formulas_of a.output) h.0)), each_tensed columns asks h.1)

-- outputs over columns mix no tenses where the outputs don't
pub tensed_over : (columns : List ℕ) (asks : List Asked) → All IsTensed asks → All IsTensed (map (asked_over columns) asks)
tensed_over columns asks h = all_from_each IsTensed (map (asked_over columns) asks) (each_tensed columns asks (each_from_all IsTensed asks h))

pub image_unfolds : (signals : List Signal) (columns : Columns) (asks : List Asked) (program : Program) → All IsTensed asks → IsImageOf signals columns asks program →
    outputs program ≡ map (λ a. core_output a.output) (map (asked_over columns.of_signal) asks)
image_unfolds signals columns asks program t image = program_unfolds program (map (asked_over columns.of_signal) asks) image.lists (tensed_over columns.of_signal asks t)

named_over : (columns : List ℕ) (asks : List Asked) → map (λ a. a.name) (map (asked_over columns) asks) ≡ map (λ a. a.name) asks
named_over columns [] = refl
named_over columns (a ∷ asks) = ap (◌∷◌ a.name) (named_over columns asks)

pub image_names : (signals : List Signal) (columns : Columns) (asks : List Asked) (program : Program) → IsImageOf signals columns asks program → output_names program ≡ map (λ a. a.name) asks
image_names signals columns asks program image = program_names program (map (asked_over columns.of_signal) asks) image.lists ∙ named_over columns.of_signal asks

pub image_tells : (style : Style) (signals : List Signal) (columns : Columns) (asks : List Asked) (program : Program) (rows : List Row) → All IsTensed asks → IsImageOf signals columns asks program →
    reports style (outputs program) rows ≡ reports style (map (λ a. a.output) (map (asked_over columns.of_signal) asks)) rows
image_tells style signals columns asks program rows t image = program_tells style program (map (asked_over columns.of_signal) asks) rows image.lists (tensed_over columns.of_signal asks t)
