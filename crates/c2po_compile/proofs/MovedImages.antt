-- An image whose signals are moved to other columns tells what the image over those columns tells.

use Rattle.std.proofs.Common.{◌≡◌, ◌∙◌, ◌<◌, ℕ, zero, suc, Bool, true, false, None, Some, List, [], ◌∷◌, length, map, All, slice_get, slice_index, refl, sym, ap, ap₂, arith, inl, inr, eq-eqb}
use Rattle.std.proofs.lemmas.Bool.Decides.{eqb_tells}
use Rattle.std.proofs.lemmas.List.{length-map}
use Rattle.std.proofs.lemmas.Option.{slice_get_within}
use Rattle.mltl_base.specs.declared.program.Columns.{Columns}
use Rattle.mltl_base.specs.declared.program.Program.{Program}
use Rattle.mltl_base.specs.declared.report.Style.{Style}
use Rattle.mltl_base.specs.declared.signal.Signal.{Signal}
use Rattle.mltl_base.specs.Atoms.{Row, Term, column, constant, negative, plus, minus, times, quotient, remainder, Atom, is_true, equal, less, at_most, different, greater, at_least, term_over, atom_over}
use Rattle.mltl_base.specs.Formula.{Formula, atom, negation, conjunction, disjunction, implication, equivalence, finally, globally, until, release, once, historically, since, Core, ctrue, cand, cuntil, csince, plain, neg, core, core_atom, formula_over}
use Rattle.mltl_base.specs.Kinds.{ReadsWholes, AtomReadsKinds, ReadsKinds, ReadsSignals, kinds_of}
use Rattle.mltl_base.specs.Programs.{outputs, output_names}
use Rattle.mltl_base.specs.Reports.{Output, formula, contract, reports}
use Rattle.mltl_base.specs.Subformulas.{Asked, IsTensed, core_output, formulas_of}
use Rattle.mltl_base.proofs.Unfolding.{Each, each_from_all}
use Rattle.c2po_ast.specs.Outputs.{asked_over, output_over}
use Rattle.obs_binary.specs.Layout as binary
use Rattle.obs_verify.specs.Bound.{AreDifferent, bound, bound_signals, moved}
use Rattle.obs_verify.specs.Layout.{HasLayout}
use Rattle.obs_verify.specs.WellFormed.{IsWellFormed}
use Rattle.obs_verify.proofs.MovedLaws.{over, atom_over as moved_atom}
use Rattle.obs_verify.proofs.BoundOutputs.{moved_core, moved_formula, moved_output, outputs_bound, plain_moved}
use Rattle.obs_verify.proofs.RunLaws.{runs_future, runs_past}
use Rattle.c2po_compile.specs.Images.{stored_signals}
use Rattle.c2po_compile.proofs.Tenses.{image_unfolds, image_names, image_tells}
use Rattle.set_expand.proofs.Signalling.{outputs-read}
use Rattle.c2po_compile.specs.Compiled.{outputs_in, signals_in}
use Rattle.c2po_compile.specs.Front.{items_in, first_refusal}
use Rattle.c2po_compile.specs.Image.{AreColumnsFor, image, plain_outputs}
use Rattle.c2po_compile.specs.ImageFiles.{CanMove, compile_over, compile_and_move}
use Rattle.c2po_compile.proofs.ImageLaws.{image_of}
use Rattle.c2po_compile.proofs.TellingLaws.{tensed}

-- ---- where the signals are

-- a signal's column is moved to its new one
moved_at : (signals : List Signal) (old new : List ℕ) (s : ℕ) → length old ≡ length signals → length new ≡ length signals → AreDifferent old → s < length signals
    → moved (stored_signals signals old) new (slice_index old s) ≡ slice_index new s
unfolding moved
moved_at (x ∷ signals) (c ∷ old) (d ∷ new) zero m n apart inside = rw (eq-eqb c c refl) refl
moved_at (x ∷ signals) (c ∷ old) (d ∷ new) (suc s) m n apart inside =
    elim (eqb_tells c (slice_index old s)) [
      | inl p ↦ absurd (apart 0 (suc s) (omega arith) (omega arith) p.1)
      | inr p ↦ rw p.0 (moved_at signals old new s (omega arith) (omega arith) (λ i j less within. apart (suc i) (suc j) (omega arith) (omega arith)) (omega arith))
    ]
moved_at _ _ _ s m n apart inside = absurd (omega arith)

-- the columns that are stored
pub stored_places : (signals : List Signal) (columns : List ℕ) → length columns ≡ length signals → map (λ signal. signal.column) (stored_signals signals columns) ≡ columns
stored_places [] [] same = refl
stored_places (s ∷ signals) (c ∷ columns) same = ap (λ cs. c ∷ cs) (stored_places signals columns (omega arith))
stored_places _ _ same = absurd (omega arith)

-- and names
pub stored_names : (signals : List Signal) (columns : List ℕ) → length columns ≡ length signals → map (λ signal. signal.name) (stored_signals signals columns) ≡ map (λ signal. signal.name) signals
stored_names [] [] same = refl
stored_names (s ∷ signals) (c ∷ columns) same = ap (λ ns. s.name ∷ ns) (stored_names signals columns (omega arith))
stored_names _ _ same = absurd (omega arith)

-- signals in new columns are those stored there
pub bound_stored : (signals : List Signal) (old new : List ℕ) → length old ≡ length signals → length new ≡ length signals → bound_signals (stored_signals signals old) new ≡ stored_signals signals new
unfolding bound_signals
bound_stored [] old new m n = refl
bound_stored (s ∷ signals) (c ∷ old) (d ∷ new) m n = ap (λ ss. record { name = s.name; truth = s.truth; column = d } ∷ ss) (bound_stored signals old new (omega arith) (omega arith))
bound_stored _ _ _ m n = absurd (omega arith)

-- ---- core forms over other columns

neg_moved : (g : ℕ → ℕ) (p : Core) → moved_core g (neg p) ≡ neg (moved_core g p)
unfolding neg moved_core
neg_moved g ctrue = refl
neg_moved g _ = refl

core_atom_moved : (g : ℕ → ℕ) (a : Atom) → moved_core g (core_atom a) ≡ core_atom (moved_atom g a)
unfolding moved_core moved_atom
core_atom_moved g (is_true c) = refl
core_atom_moved g _ = refl

-- the negation of what is moved
neg_of : (g : ℕ → ℕ) (p q : Core) → moved_core g p ≡ q → moved_core g (neg p) ≡ neg q
neg_of g p q h = neg_moved g p ∙ ap neg h

core_moved : (g : ℕ → ℕ) (p : Formula) → moved_core g (core p) ≡ core (moved_formula g p)
unfolding core moved_core moved_formula
core_moved g (atom a) = core_atom_moved g a
core_moved g (negation p) = neg_of g (core p) _ (core_moved g p)
core_moved g (conjunction p q) = ap₂ cand (core_moved g p) (core_moved g q)
core_moved g (disjunction p q) = neg_of g _ _ (ap₂ cand (neg_of g (core p) _ (core_moved g p)) (neg_of g (core q) _ (core_moved g q)))
core_moved g (implication p q) = neg_of g _ _ (ap₂ cand (core_moved g p) (neg_of g (core q) _ (core_moved g q)))
core_moved g (equivalence p q) =
    ap₂ cand
    (neg_of g _ _ (ap₂ cand (core_moved g p) (neg_of g (core q) _ (core_moved g q))))
    (neg_of g _ _ (ap₂ cand (core_moved g q) (neg_of g (core p) _ (core_moved g p))))
core_moved g (finally i p) = ap (cuntil i ctrue) (core_moved g p)
core_moved g (globally i p) = neg_of g _ _ (ap (cuntil i ctrue) (neg_of g (core p) _ (core_moved g p)))
core_moved g (until i p q) = ap₂ (cuntil i) (core_moved g p) (core_moved g q)
core_moved g (release i p q) = neg_of g _ _ (ap₂ (cuntil i) (neg_of g (core p) _ (core_moved g p)) (neg_of g (core q) _ (core_moved g q)))
core_moved g (once i p) = ap (csince i ctrue) (core_moved g p)
core_moved g (historically i p) = neg_of g _ _ (ap (csince i ctrue) (neg_of g (core p) _ (core_moved g p)))
core_moved g (since i p q) = ap₂ (csince i) (core_moved g p) (core_moved g q)
core_moved g _ = refl

-- ---- formulas of signals, over old columns and over new ones

module _ (g : ℕ → ℕ) (kinds : List Bool) (old new : List ℕ) (moves : (s : ℕ) (b : Bool) → slice_get kinds s ≡ Some b → g (slice_index old s) ≡ slice_index new s) where
  term_new : (a : Term) → ReadsWholes kinds a → over g (term_over old a) ≡ term_over new a
  unfolding over term_over
  term_new (column s) h = ap column (moves s false h)
  term_new (constant n) h = refl
  term_new (negative a) h = ap negative (term_new a h)
  term_new (plus a b) h = ap₂ plus (term_new a h.0) (term_new b h.1)
  term_new (minus a b) h = ap₂ minus (term_new a h.0) (term_new b h.1)
  term_new (times a b) h = ap₂ times (term_new a h.0) (term_new b h.1)
  term_new (quotient a b) h = ap₂ quotient (term_new a h.0) (term_new b h.1)
  term_new (remainder a b) h = ap₂ remainder (term_new a h.0) (term_new b h.1)

  atom_new : (a : Atom) → AtomReadsKinds kinds a → moved_atom g (atom_over old a) ≡ atom_over new a
  unfolding moved_atom atom_over
  atom_new (is_true s) h = ap is_true (moves s true h)
  atom_new (equal a b) h = ap₂ equal (term_new a h.0) (term_new b h.1)
  atom_new (less a b) h = ap₂ less (term_new a h.0) (term_new b h.1)
  atom_new (at_most a b) h = ap₂ at_most (term_new a h.0) (term_new b h.1)
  atom_new (different a b) h = ap₂ different (term_new a h.0) (term_new b h.1)
  atom_new (greater a b) h = ap₂ greater (term_new a h.0) (term_new b h.1)
  atom_new (at_least a b) h = ap₂ at_least (term_new a h.0) (term_new b h.1)

  formula_new : (p : Formula) → ReadsKinds kinds p → moved_formula g (formula_over old p) ≡ formula_over new p
  unfolding moved_formula formula_over
  formula_new (atom a) h = ap atom (atom_new a h)
  formula_new (negation p) h = ap negation (formula_new p h)
  formula_new (conjunction p q) h = ap₂ conjunction (formula_new p h.0) (formula_new q h.1)
  formula_new (disjunction p q) h = ap₂ disjunction (formula_new p h.0) (formula_new q h.1)
  formula_new (implication p q) h = ap₂ implication (formula_new p h.0) (formula_new q h.1)
  formula_new (equivalence p q) h = ap₂ equivalence (formula_new p h.0) (formula_new q h.1)
  formula_new (finally i p) h = ap (finally i) (formula_new p h)
  formula_new (globally i p) h = ap (globally i) (formula_new p h)
  formula_new (until i p q) h = ap₂ (until i) (formula_new p h.0) (formula_new q h.1)
  formula_new (release i p q) h = ap₂ (release i) (formula_new p h.0) (formula_new q h.1)
  formula_new (once i p) h = ap (once i) (formula_new p h)
  formula_new (historically i p) h = ap (historically i) (formula_new p h)
  formula_new (since i p q) h = ap₂ (since i) (formula_new p h.0) (formula_new q h.1)
  formula_new _ h = refl

  plain_new : (p : Formula) → ReadsKinds kinds p → moved_formula g (plain (core (formula_over old p))) ≡ plain (core (formula_over new p))
  plain_new p h =
      sym (plain_moved g (core (formula_over old p))) ∙ ap plain (core_moved g (formula_over old p))
      ∙ ap (λ (q : Formula). plain (core q)) (formula_new p h)

  output_new : (o : Output) → Each (ReadsKinds kinds) (formulas_of o) → moved_output g (core_output (output_over old o)) ≡ core_output (output_over new o)
  unfolding moved_output
  output_new (formula p) h = ap formula (plain_new p h.0)
  output_new (contract p q) h = ap₂ contract (plain_new p h.0) (plain_new q h.1.0)

  outputs_new : (outs : List Asked) → Each (ReadsSignals kinds) outs
      → map (moved_output g) (map (λ (a : Asked). core_output a.output) (map (asked_over old) outs)) ≡ map (λ (a : Asked). core_output a.output) (map (asked_over new) outs)
  outputs_new [] h = refl
  outputs_new (a ∷ outs) h = ap₂ (λ x xs. x ∷ xs) (output_new a.output (each_from_all (ReadsKinds kinds) (formulas_of a.output) h.0)) (outputs_new outs h.1)

-- ---- images

signal_moves : (signals : List Signal) (old new : List ℕ) → length old ≡ length signals → length new ≡ length signals → AreDifferent old → (s : ℕ) (b : Bool) → slice_get (kinds_of signals) s ≡ Some b
    → moved (stored_signals signals old) new (slice_index old s) ≡ slice_index new s
signal_moves signals old new m n apart s b is =
    let within : s < length (kinds_of signals) = slice_get_within (kinds_of signals) s b is in
    moved_at signals old new s m n apart (omega (arith, length-map signals (λ (x : Signal). x.truth)))

-- a program that is written has the layout that is verified
pub layout_of : (program : Program) → binary.IsWritable program → HasLayout program
layout_of program h = record {
  ft_sizes = h.ft_sizes;
  pt_sizes = h.pt_sizes;
  few_bz = h.bz;
  few_ft = h.ft;
  few_pt = h.pt;
  few_outs = h.outs;
  few_signals = h.signals;
  version = h.versioned;
}

-- an image whose signals are moved has the outputs of the image there
pub moved_image_outputs : (signals : List Signal) (outs : List Asked) (old new : Columns) → All IsTensed outs → All (ReadsSignals (kinds_of signals)) outs
    → AreColumnsFor (length signals) old → length new.of_signal ≡ length signals → HasLayout (image old signals outs) → IsWellFormed (image old signals outs)
    → outputs (bound (image old signals outs) new.width new.of_signal) ≡ outputs (image new signals outs)
unfolding image
moved_image_outputs signals outs old new tenses reads serve one_each layout well_formed =
    let g : ℕ → ℕ = moved (stored_signals signals old.of_signal) new.of_signal in
    outputs_bound (image old signals outs) new.width new.of_signal (runs_future (image old signals outs) layout well_formed) (runs_past (image old signals outs) layout well_formed)
    ∙ ap (map (moved_output g)) (image_unfolds signals old outs (image old signals outs) tenses (image_of old signals outs))
    ∙ outputs_new g (kinds_of signals) old.of_signal new.of_signal (signal_moves signals old.of_signal new.of_signal serve.one_each one_each serve.different) outs (each_from_all (ReadsSignals (kinds_of signals)) outs reads)
    ∙ sym (image_unfolds signals new outs (image new signals outs) tenses (image_of new signals outs))

pub moved_outputs : (text : List ℕ) (old new : Columns) → CanMove text old new → outputs (compile_and_move text old new) ≡ outputs (compile_over text new)
moved_outputs text old new h =
    moved_image_outputs (signals_in text) (outputs_in text) old new (tensed text h.faultless) (outputs-read (items_in text)) h.serve h.one_each h.layout h.well_formed

-- the image tells what the text's outputs tell over its columns
pub image_reports : (style : Style) (text : List ℕ) (columns : Columns) (rows : List Row) → first_refusal text ≡ None
    → reports style (outputs (compile_over text columns)) rows ≡ reports style (plain_outputs columns (outputs_in text)) rows
image_reports style text columns rows faultless =
    image_tells style (signals_in text) columns (outputs_in text) (compile_over text columns) rows (tensed text faultless) (image_of columns (signals_in text) (outputs_in text))

pub image_called : (text : List ℕ) (columns : Columns) → output_names (compile_over text columns) ≡ map (λ (a : Asked). a.name) (outputs_in text)
image_called text columns = image_names (signals_in text) columns (outputs_in text) (compile_over text columns) (image_of columns (signals_in text) (outputs_in text))

-- and so does an image whose signals are moved
pub moved_reports : (style : Style) (text : List ℕ) (old new : Columns) (rows : List Row) → CanMove text old new
    → reports style (outputs (compile_and_move text old new)) rows ≡ reports style (plain_outputs new (outputs_in text)) rows
moved_reports style text old new rows h =
    ap (λ (outs : List Output). reports style outs rows) (moved_outputs text old new h) ∙ image_reports style text new rows h.faultless

pub moved_called : (text : List ℕ) (old new : Columns) → output_names (compile_and_move text old new) ≡ map (λ (a : Asked). a.name) (outputs_in text)
moved_called text old new = image_called text old
