-- The core formulas of the outputs of a specification: readable, with intervals in bounds, and listed.

use Rattle.std.proofs.Common.{◌≡◌, ℕ, suc, Bool, None, List, [], ◌∷◌, All, map, arith}
use Rattle.mltl_base.specs.declared.program.Program.{Program}
use Rattle.mltl_base.specs.Formula.{Formula, Core, core, formula_over}
use Rattle.mltl_base.specs.Reports.{Output, formula, contract}
use Rattle.mltl_base.specs.Subformulas.{Asked, cores_of_output, formulas_of, all_cores}
use Rattle.mltl_base.specs.Kinds.{ReadsKinds, ReadsSignals}
use Rattle.mltl_base.proofs.Unfolding.{Deep, Each, each_from_all}
use Rattle.mltl_base.proofs.Members.{each_append}
use Rattle.c2po_ast.specs.Faults.{HasRanges, formula_fault}
use Rattle.c2po_ast.specs.declared.nodes.PlainOut.{PlainOut}
use Rattle.c2po_ast.specs.declared.nodes.PlainOut.TheVariants as out
use Rattle.c2po_ast.specs.Nodes.{Tree, IsBounded}
use Rattle.c2po_ast.specs.Outputs.{asked_by, asked_over, output_over}
use Rattle.c2po_compile.proofs.Parts.{InAtom}
use Rattle.c2po_compile.proofs.Cores.{AtHead, core_deep}
use Rattle.c2po_compile.proofs.Reading.{IsReadable, AreOfKinds, formula_reads, atom_turns}
use Rattle.c2po_compile.proofs.Windows.{IsWindowed, AreWindowed, windowed_at}

-- what an instruction of either engine needs: a loaded atom that the program can read, and an interval in bounds
abbrev pub IsFit : Program → Core → Type 0
IsFit program p = AtHead (InAtom (IsReadable program)) IsBounded p

module _ (program : Program) (kinds : List Bool) (columns : List ℕ) (fits : AreOfKinds program kinds columns) where
  formula_fit : (p : Formula) → ReadsKinds kinds p → formula_fault p ≡ None → IsWindowed p → Deep (IsFit program) (core (formula_over columns p))
  formula_fit p k h w =
      core_deep (InAtom (IsReadable program)) IsBounded (atom_turns program IsBounded) (formula_over columns p) (formula_reads program kinds columns fits IsBounded p k h w)

  output_fit : (o : Output) → Each (ReadsKinds kinds) (formulas_of o) → Each (λ p. formula_fault p ≡ None) (formulas_of o) → Each IsWindowed (formulas_of o)
      → Each (Deep (IsFit program)) (cores_of_output (output_over columns o))
  output_fit (formula p) k h w = (formula_fit p k.0 h.0 w.0, tt)
  output_fit (contract p q) k h w = (formula_fit p k.0 h.0 w.0, (formula_fit q k.1.0 h.1.0 w.1.0, tt))

  pub cores_fit : (outs : List Asked) → All (ReadsSignals kinds) outs → All HasRanges outs → Each (λ a. Each IsWindowed (formulas_of a.output)) outs
      → Each (Deep (IsFit program)) (all_cores (map (asked_over columns) outs))
  cores_fit [] k h w = tt
  cores_fit (a ∷ outs) k h w =
      each_append (Deep (IsFit program)) (cores_of_output (output_over columns a.output)) (all_cores (map (asked_over columns) outs))
      (output_fit a.output (each_from_all (ReadsKinds kinds) (formulas_of a.output) (k 0 a (omega arith))) (each_from_all (λ p. formula_fault p ≡ None) (formulas_of a.output) (h 0 a (omega arith))) w.0)
      (cores_fit outs (λ i d l. k (suc i) d (omega arith)) (λ i d l. h (suc i) d (omega arith)) w.1)

pub asked_windowed : (ts : List Tree) (outs : List PlainOut) → AreWindowed ts → Each (λ a. Each IsWindowed (formulas_of a.output)) (map (asked_by ts) outs)
asked_windowed ts [] h = tt
asked_windowed ts (out.Formula engine n name ∷ outs) h = ((windowed_at ts n h, tt), asked_windowed ts outs h)
asked_windowed ts (out.Contract engine n m name ∷ outs) h = ((windowed_at ts n h, (windowed_at ts m h, tt)), asked_windowed ts outs h)
