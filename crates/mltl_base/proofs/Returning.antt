-- A program with the lists of a specification is the program of its own outputs, unfolded.

use Rattle.std.proofs.Common.{◌≡◌, if◌then◌else◌, List, [], ◌∷◌, ◌++◌, map, fold, All, slice_index_or, refl, sym, ap, ap₂, ◌∙◌, arith}
use Rattle.std.proofs.lemmas.List.Elements.{All-map, All-cons, All-nil}
use Rattle.mltl_base.specs.declared.interval.Engine.{Engine}
use Rattle.mltl_base.specs.declared.interval.Engine.TheVariants.{Ft, Pt}
use Rattle.mltl_base.specs.declared.program.Out.{Out}
use Rattle.mltl_base.specs.declared.program.Program.{Program}
use Rattle.mltl_base.specs.Formula.{Formula, Core, plain, core}
use Rattle.mltl_base.specs.Reports.{Output, formula, contract}
use Rattle.mltl_base.specs.Programs.{Expression, expressions, cores_of}
use Rattle.mltl_base.specs.Subformulas.{same, place_of, add_subformulas, add_expressions, Asked, cores_of_output, formulas_of, same_engine, all_cores, cores_for, subformulas, bz_expressions, bz_instruction, ft_instruction, pt_instruction, out_by, core_output, asked_of_program, unfolded_outputs, IsOfTense, IsTensed, HasListsOf}
use Rattle.mltl_base.proofs.CoreForms.{core_again}
use Rattle.mltl_base.proofs.Tenses.{core_stays_future, core_stays_past}
use Rattle.mltl_base.proofs.Unfolding.{Has, Each}
use Rattle.mltl_base.proofs.Graphs.{cores_listed, output_unfolds, bz_list_unfolds}
use Rattle.mltl_base.proofs.Picking.{all_listed}

-- an output of a specification, over the core forms of its formulas
abbrev pub core_asked : Asked → Asked
core_asked a = record { engine = a.engine; name = a.name; output = core_output a.output }

by_output : (program : Program) (ps : List Core) (a : Asked) → cores_of program a.engine ≡ ps → Each (Has ps) (cores_of_output a.output) →
    asked_of_program program (out_by ps a.engine a.name a.output) ≡ core_asked a
by_output program ps a q h = go a.output (output_unfolds program ps a.engine a.name a.output q h) refl
  where
    go : (o : Output) → Rattle.mltl_base.specs.Programs.output_of program (out_by ps a.engine a.name o) ≡ core_output a.output → o ≡ o →
        asked_of_program program (out_by ps a.engine a.name o) ≡ core_asked a
    go (formula p) e r = ap (λ (x : Output). let y : Asked = record { engine = a.engine; name = a.name; output = x } in y) e
    go (contract p s) e r = ap (λ (x : Output). let y : Asked = record { engine = a.engine; name = a.name; output = x } in y) e

by_outputs : (program : Program) (all outs : List Asked) → ((e : Engine) → cores_of program e ≡ subformulas e all) → Each (λ a. Each (Has (subformulas a.engine all)) (cores_of_output a.output)) outs →
    map (asked_of_program program) (map (λ a. out_by (subformulas a.engine all) a.engine a.name a.output) outs) ≡ map core_asked outs
by_outputs program all [] q h = refl
by_outputs program all (a ∷ outs) q h =
    ap₂ ◌∷◌ (by_output program (subformulas a.engine all) a (q a.engine) h.0) (by_outputs program all outs q h.1)

pub outputs_return : (program : Program) (outs : List Asked) → HasListsOf outs program → All IsTensed outs → unfolded_outputs program ≡ map core_asked outs
outputs_return program outs h t =
    rw h.reports (by_outputs program outs outs (cores_listed program outs h.bz h.ft h.pt t) (all_listed outs))

-- the lists of outputs over core forms are those of the outputs
again_output : (o : Output) → cores_of_output (core_output o) ≡ cores_of_output o
again_output (formula p) = ap (λ (c : Core). c ∷ []) (core_again p)
again_output (contract p q) = ap₂ (λ (c d : Core). c ∷ d ∷ []) (core_again p) (core_again q)

again_all : (outs : List Asked) → all_cores (map core_asked outs) ≡ all_cores outs
again_all [] = refl
again_all (a ∷ outs) = ap₂ ◌++◌ (again_output a.output) (again_all outs)

again_for : (e : Engine) (outs : List Asked) → cores_for e (map core_asked outs) ≡ cores_for e outs
again_for e [] = refl
again_for e (a ∷ outs) = ap₂ ◌++◌ (ap (λ (cs : List Core). if same_engine a.engine e then cs else []) (again_output a.output)) (again_for e outs)

pub same_subformulas : (e : Engine) (outs : List Asked) → subformulas e (map core_asked outs) ≡ subformulas e outs
same_subformulas e outs = ap (fold (λ ps p. add_subformulas p ps) []) (again_for e outs)

pub same_expressions : (outs : List Asked) → bz_expressions (map core_asked outs) ≡ bz_expressions outs
same_expressions outs = ap (fold (λ es p. add_expressions p es) []) (again_all outs)

again_by : (ps : List Core) (a : Asked) → out_by ps a.engine a.name (core_output a.output) ≡ out_by ps a.engine a.name a.output
again_by ps a = go a.output
  where
    go : (o : Output) → out_by ps a.engine a.name (core_output o) ≡ out_by ps a.engine a.name o
    go (formula p) = ap (λ (c : Core). let x : Out = Rattle.mltl_base.specs.declared.program.Out.TheVariants.Formula a.engine (place_of same c ps) a.name in x) (core_again p)
    go (contract p q) = ap₂ (λ (c d : Core). let x : Out = Rattle.mltl_base.specs.declared.program.Out.TheVariants.Contract a.engine (place_of same c ps) (place_of same d ps) a.name in x) (core_again p) (core_again q)

again_outs : (all outs : List Asked) →
    map (λ a. out_by (subformulas a.engine (map core_asked all)) a.engine a.name a.output) (map core_asked outs) ≡ map (λ a. out_by (subformulas a.engine all) a.engine a.name a.output) outs
again_outs all [] = refl
again_outs all (a ∷ outs) =
    ap₂ ◌∷◌ (ap (λ (ps : List Core). out_by ps a.engine a.name (core_output a.output)) (same_subformulas a.engine all) ∙ again_by (subformulas a.engine all) a)
    (again_outs all outs)

same_lists : (program : Program) (outs : List Asked) → HasListsOf outs program → HasListsOf (map core_asked outs) program
same_lists program outs h =
    record {
      bz = h.bz ∙ sym (ap (λ (es : List Expression). map (bz_instruction es) es) (same_expressions outs));
      ft = h.ft ∙ sym (ap₂ (λ (es : List Expression) (ps : List Core). map (ft_instruction es ps) ps) (same_expressions outs) (same_subformulas Ft outs));
      pt = h.pt ∙ sym (ap₂ (λ (es : List Expression) (ps : List Core). map (pt_instruction es ps) ps) (same_expressions outs) (same_subformulas Pt outs));
      reports = h.reports ∙ sym (again_outs outs outs);
    }

pub lists_return : (program : Program) (outs : List Asked) → HasListsOf outs program → All IsTensed outs → HasListsOf (unfolded_outputs program) program
lists_return program outs h t = rw (outputs_return program outs h t) (same_lists program outs h)

pub subformulas_return : (program : Program) (outs : List Asked) (e : Engine) → HasListsOf outs program → All IsTensed outs → subformulas e (unfolded_outputs program) ≡ cores_of program e
subformulas_return program outs e h t =
    ap (subformulas e) (outputs_return program outs h t) ∙ (same_subformulas e outs ∙ sym (cores_listed program outs h.bz h.ft h.pt t e))

pub expressions_return : (program : Program) (outs : List Asked) → HasListsOf outs program → All IsTensed outs → bz_expressions (unfolded_outputs program) ≡ expressions program.bz
expressions_return program outs h t =
    ap bz_expressions (outputs_return program outs h t) ∙ (same_expressions outs ∙ sym (ap expressions h.bz ∙ bz_list_unfolds outs))

-- and they are of one tense each
tense_stays : (e : Engine) (p : Formula) → IsOfTense e p → IsOfTense e (plain (core p))
tense_stays Ft p h = core_stays_future p h
tense_stays Pt p h = core_stays_past p h

tensed_stays : (a : Asked) → IsTensed a → IsTensed (core_asked a)
tensed_stays a h = go a.output h
  where
    go : (o : Output) → All (IsOfTense a.engine) (formulas_of o) → All (IsOfTense a.engine) (formulas_of (core_output o))
    go (formula p) h = All-cons (IsOfTense a.engine) (plain (core p)) [] (tense_stays a.engine p (h 0 p (omega arith))) (All-nil (IsOfTense a.engine))
    go (contract p q) h =
        All-cons (IsOfTense a.engine) (plain (core p)) (plain (core q) ∷ []) (tense_stays a.engine p (h 0 p (omega arith)))
        (All-cons (IsOfTense a.engine) (plain (core q)) [] (tense_stays a.engine q (h 1 q (omega arith))) (All-nil (IsOfTense a.engine)))

pub tensed_return : (program : Program) (outs : List Asked) → HasListsOf outs program → All IsTensed outs → All IsTensed (unfolded_outputs program)
tensed_return program outs h t =
    rw (outputs_return program outs h t) (All-map IsTensed core_asked outs (λ k a l. tensed_stays (slice_index_or outs k a) (t k a l)))
