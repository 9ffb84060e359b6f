-- An image is within the limits of a specification: no instruction weighs more than the outputs together, and signals are
-- few.

use Rattle.std.proofs.Common.{◌≡◌, ◌∙◌, ℕ, ◌≤◌, zero, suc, List, [], ◌∷◌, length, map, All, Some, None, ap, sym, subst, arith}
use Rattle.std.specs.Prelude.{slice_get, slice_index_or}
use Rattle.std.specs.List.{sum_by}
use Rattle.std.proofs.lemmas.List.Sums.{sum_by-cons}
use Rattle.std.proofs.lemmas.Option.{same_Some}
use Rattle.mltl_base.specs.declared.interval.Engine.{Engine}
use Rattle.mltl_base.specs.declared.interval.Engine.TheVariants.{Ft, Pt}
use Rattle.mltl_base.specs.declared.limits.TheConstants.{MAX_SIGNALS, MAX_WEIGHT}
use Rattle.mltl_base.specs.declared.program.Columns.{Columns}
use Rattle.mltl_base.specs.declared.program.Program.{Program}
use Rattle.mltl_base.specs.declared.signal.Signal.{Signal}
use Rattle.mltl_base.specs.Atoms as atoms
use Rattle.mltl_base.specs.Atoms.{Term, Atom}
use Rattle.mltl_base.specs.Formula.{Core, ctrue, catom, cnot, cand, cuntil, csince, plain}
use Rattle.mltl_base.specs.Programs.{Expression, expressions, cores_of, formula_at}
use Rattle.mltl_base.specs.Reports.{Output, formula, contract}
use Rattle.mltl_base.specs.Subformulas.{Asked, IsTensed, HasListsOf, core_output, cores_of_output, all_cores, cores_for, bz_expressions}
use Rattle.mltl_base.proofs.Unfolding.{Deep, Each, fold_all}
use Rattle.mltl_base.proofs.Members.{each_append}
use Rattle.mltl_base.proofs.Picking.{cores_of_engine}
use Rattle.mltl_base.proofs.Graphs.{bz_list_unfolds, cores_listed, program_unfolds}
use Rattle.c2po_compile.specs.Images.{IsImageOf, stored_signals}
use Rattle.c2po_compile.proofs.Parts.{InTerm, InOperands, AtCore, fold_expressions_all}
use Rattle.c2po_compile.proofs.Cores.{each_then}
use Rattle.obs_show.specs.Weight.{term_weight, atom_weight, formula_weight, output_weight, program_weight}
use Rattle.obs_show.specs.Weighing.{expression_weight}
use Rattle.c2po_types.proofs.OwnNames as own
use Rattle.c2po_compile.specs.Front.{items_in, first_refusal}
use Rattle.c2po_compile.specs.Compiled.{signals_in, outputs_in}
use Rattle.c2po_compile.specs.Image.{image}
use Rattle.c2po_compile.specs.ImageFiles.{compile_over}
use Rattle.c2po_compile.specs.Simplified.{smaller_outputs, compile_simplified_over}
use Rattle.c2po_compile.proofs.ImageLaws.{image_of}
use Rattle.c2po_compile.proofs.TellingLaws.{no_fault, tensed}
use Rattle.show_roundtrip.proofs.Images.{smaller_tensed}
use Rattle.show_roundtrip.proofs.Passing.{IsLight}
use Rattle.c2po_compile.proofs.Tenses.{tensed_over}

-- ---- weights

-- a core formula, and an expression, weighs at most so much
abbrev IsLightCore : ℕ → Core → Type 0
IsLightCore most p = formula_weight (plain p) ≤ most

abbrev IsLightExpression : ℕ → Expression → Type 0
IsLightExpression most e = expression_weight e ≤ most

-- so do its subformulas
core_light : (most : ℕ) (p : Core) → IsLightCore most p → Deep (IsLightCore most) p
unfolding formula_weight plain
core_light most ctrue h = h
core_light most (catom a) h = h
core_light most (cnot p) h = (h, core_light most p (omega (arith, h)))
core_light most (cand p q) h = (h, core_light most p (omega (arith, h)), core_light most q (omega (arith, h)))
core_light most (cuntil i p q) h = (h, core_light most p (omega (arith, h)), core_light most q (omega (arith, h)))
core_light most (csince i p q) h = (h, core_light most p (omega (arith, h)), core_light most q (omega (arith, h)))

-- and its expressions
term_light : (most : ℕ) (a : Term) → term_weight a ≤ most → InTerm (IsLightExpression most) a
unfolding term_weight
term_light most (atoms.column c) h = h
term_light most (atoms.constant n) h = h
term_light most (atoms.negative a) h = (h, term_light most a (omega (arith, h)))
term_light most (atoms.plus a b) h = (h, term_light most a (omega (arith, h)), term_light most b (omega (arith, h)))
term_light most (atoms.minus a b) h = (h, term_light most a (omega (arith, h)), term_light most b (omega (arith, h)))
term_light most (atoms.times a b) h = (h, term_light most a (omega (arith, h)), term_light most b (omega (arith, h)))
term_light most (atoms.quotient a b) h = (h, term_light most a (omega (arith, h)), term_light most b (omega (arith, h)))
term_light most (atoms.remainder a b) h = (h, term_light most a (omega (arith, h)), term_light most b (omega (arith, h)))

operands_light : (most : ℕ) (a : Atom) → atom_weight a ≤ most → InOperands (IsLightExpression most) a
operands_light most (atoms.is_true c) h = tt
operands_light most _ h = (term_light most _ (omega (arith, h)), term_light most _ (omega (arith, h)))

expressions_light : (most : ℕ) (p : Core) → IsLightCore most p → Deep (AtCore (IsLightExpression most)) p
unfolding formula_weight plain
expressions_light most ctrue h = tt
expressions_light most (catom a) h = (h, operands_light most a h)
expressions_light most (cnot p) h = (tt, expressions_light most p (omega (arith, h)))
expressions_light most (cand p q) h = (tt, expressions_light most p (omega (arith, h)), expressions_light most q (omega (arith, h)))
expressions_light most (cuntil i p q) h = (tt, expressions_light most p (omega (arith, h)), expressions_light most q (omega (arith, h)))
expressions_light most (csince i p q) h = (tt, expressions_light most p (omega (arith, h)), expressions_light most q (omega (arith, h)))

-- the core formulas of outputs that weigh at most so much together
output_light : (most : ℕ) (o : Output) → output_weight (core_output o) ≤ most → Each (IsLightCore most) (cores_of_output o)
output_light most (formula p) h = (h, tt)
output_light most (contract p q) h = (omega (arith, h), (omega (arith, h), tt))

outputs_light : (most : ℕ) (outs : List Asked) → sum_by output_weight (map (λ a. core_output a.output) outs) ≤ most → Each (IsLightCore most) (all_cores outs)
outputs_light most [] h = tt
outputs_light most (a ∷ outs) h =
    let parts = sum_by-cons output_weight (core_output a.output) (map (λ a. core_output a.output) outs) in
    each_append (IsLightCore most) (cores_of_output a.output) (all_cores outs) (output_light most a.output (omega (arith, h, parts))) (outputs_light most outs (omega (arith, h, parts)))

-- a member of a list
each_at : {X : Type 0} (P : X → Type 0) (xs : List X) (i : ℕ) (d : X) → Each P xs → P d → P (slice_index_or xs i d)
each_at P [] i d h g = g
each_at P (x ∷ xs) zero d h g = h.0
each_at P (x ∷ xs) (suc i) d h g = each_at P xs i d h.1 g

each_get : {X : Type 0} (P : X → Type 0) (xs : List X) (i : ℕ) (x : X) → Each P xs → slice_get xs i ≡ Some x → P x
each_get P [] i x h e = absurd (cc)
each_get P (y ∷ xs) zero x h e = subst P (same_Some y x e) h.0
each_get P (y ∷ xs) (suc i) x h e = each_get P xs i x h.1 e

true_light : IsLightCore MAX_WEIGHT ctrue
unfolding formula_weight plain
true_light = omega arith

-- each formula of an engine
engine_light : (outs : List Asked) (program : Program) (engine : Engine) (i : ℕ) → HasListsOf outs program → All IsTensed outs → Each (IsLightCore MAX_WEIGHT) (all_cores outs)
    → formula_weight (plain (formula_at program engine i)) ≤ MAX_WEIGHT
engine_light outs program engine i has tense light =
    let cores : Each (Deep (IsLightCore MAX_WEIGHT)) (cores_for engine outs) =
    each_then (IsLightCore MAX_WEIGHT) (Deep (IsLightCore MAX_WEIGHT)) (core_light MAX_WEIGHT) (cores_for engine outs) (cores_of_engine (IsLightCore MAX_WEIGHT) engine outs light) in
    let listed = cores_listed program outs has.bz has.ft has.pt tense engine in
    each_at (IsLightCore MAX_WEIGHT) (cores_of program engine) i ctrue
    (subst (Each (IsLightCore MAX_WEIGHT)) (sym listed) (fold_all (IsLightCore MAX_WEIGHT) (cores_for engine outs) [] cores tt)) true_light

-- no instruction of an image weighs more than the image's outputs together
pub image_light : (outs : List Asked) (program : Program) → HasListsOf outs program → All IsTensed outs → program_weight program ≤ MAX_WEIGHT → IsLight program
image_light outs program has tense few =
    let light : Each (IsLightCore MAX_WEIGHT) (all_cores outs) =
    outputs_light MAX_WEIGHT outs (subst (λ (os : List Output). sum_by output_weight os ≤ MAX_WEIGHT) (program_unfolds program outs has tense) few) in
    let all : Each (IsLightExpression MAX_WEIGHT) (bz_expressions outs) =
    fold_expressions_all (IsLightExpression MAX_WEIGHT) (all_cores outs) []
    (each_then (IsLightCore MAX_WEIGHT) (Deep (AtCore (IsLightExpression MAX_WEIGHT))) (expressions_light MAX_WEIGHT) (all_cores outs) light) tt in
    let listed : expressions program.bz ≡ bz_expressions outs = ap expressions has.bz ∙ bz_list_unfolds outs in
    record {
      bz = λ i e at. each_get (IsLightExpression MAX_WEIGHT) (expressions program.bz) i e (subst (Each (IsLightExpression MAX_WEIGHT)) (sym listed) all) at;
      ft = λ i here. engine_light outs program Ft i has tense light;
      pt = λ i here. engine_light outs program Pt i has tense light;
      outputs = few;
    }

-- so of the image of a text, simplified or not
of_light : (signals : List Signal) (columns : Columns) (outs : List Asked) (program : Program) → IsImageOf signals columns outs program → All IsTensed outs → program_weight program ≤ MAX_WEIGHT → IsLight program
of_light signals columns outs program of tense few = image_light _ program of.lists (tensed_over columns.of_signal outs tense) few

pub plain_light : (source : List ℕ) (columns : Columns) (program : Program) → first_refusal source ≡ None → program ≡ compile_over source columns → program_weight program ≤ MAX_WEIGHT → IsLight program
plain_light source columns program h is few =
    let signals : List Signal = signals_in source in
    let outs : List Asked = outputs_in source in
    of_light signals columns outs program (subst (IsImageOf signals columns outs) (sym is) (image_of columns signals outs)) (tensed source h) few

pub simple_light : (source : List ℕ) (columns : Columns) (program : Program) → first_refusal source ≡ None → program ≡ compile_simplified_over source columns → program_weight program ≤ MAX_WEIGHT → IsLight program
simple_light source columns program h is few =
    let signals : List Signal = signals_in source in
    let outs : List Asked = smaller_outputs columns (outputs_in source) in
    of_light signals columns outs program (subst (IsImageOf signals columns outs) (sym is) (image_of columns signals outs)) (smaller_tensed columns (outputs_in source) (tensed source h)) few

-- ---- signals

no_more_stored : (signals : List Signal) (columns : List ℕ) → length (stored_signals signals columns) ≤ length signals
no_more_stored (s ∷ signals) (c ∷ columns) = omega (arith, no_more_stored signals columns)
no_more_stored _ _ = omega arith

few_stored : (source : List ℕ) (columns : Columns) → first_refusal source ≡ None → length (stored_signals (signals_in source) columns.of_signal) ≤ MAX_SIGNALS
few_stored source columns h =
    omega (arith, no_more_stored (signals_in source) columns.of_signal, own.few_signals (items_in source) (no_fault source h))

-- an image stores no more signals than a specification may declare
pub few_signals : (source : List ℕ) (columns : Columns) → first_refusal source ≡ None → length (compile_over source columns).signals ≤ MAX_SIGNALS
unfolding image
few_signals source columns h = few_stored source columns h

pub simple_few_signals : (source : List ℕ) (columns : Columns) → first_refusal source ≡ None → length (compile_simplified_over source columns).signals ≤ MAX_SIGNALS
unfolding image
simple_few_signals source columns h = few_stored source columns h
