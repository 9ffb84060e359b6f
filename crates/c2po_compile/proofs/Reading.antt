-- Formulas without faults over signals of their kinds, once they stand over columns.

use Rattle.std.proofs.Common.{◌≡◌, ℕ, Bool, true, false, Some, None, List, slice_get, slice_index, refl, ap, ap₂, ◌∙◌}
use Rattle.std.specs.Prelude.{⊤}
use Rattle.mltl_base.specs.declared.interval.Interval.{Interval}
use Rattle.mltl_base.specs.declared.program.Program.{Program}
use Rattle.mltl_base.specs.Atoms.{Term, column, constant, negative, plus, minus, times, quotient, remainder, Atom, is_true, equal, less, at_most, different, greater, at_least, term_over, atom_over}
use Rattle.mltl_base.specs.Formula.{Formula, truth as always, falsity, atom, negation, conjunction, disjunction, implication, equivalence, finally, globally, until, release, once, historically, since, core_atom, formula_over}
use Rattle.mltl_base.specs.Programs.{Expression, whole, truth}
use Rattle.mltl_base.specs.Ranges.{range, negated, summed, lessened, multiplied, divided, left_over, over, over_both, over_divisor}
use Rattle.mltl_base.proofs.Unfolding.{Deep}
use Rattle.c2po_ast.specs.Faults.{why_none, or_later, term_fault, atom_fault, formula_fault}
use Rattle.obs_verify.specs.WellFormed.{is_column_of}
use Rattle.mltl_base.specs.Kinds.{ReadsWholes, AtomReadsKinds, ReadsKinds}
use Rattle.c2po_ast.proofs.NoFaults.{neither, over_none, both_none, divisor_none}
use Rattle.c2po_compile.proofs.Parts.{InTerm, InAtom}
use Rattle.c2po_compile.proofs.Cores.{Throughout, AtHead}

-- a program can compute an expression: its columns are of the kinds that it asks for, and a whole number has a range
abbrev pub ReadsColumn : Program → Term → Type 0
ReadsColumn program (column c) = is_column_of program c false ≡ true
ReadsColumn program _ = ⊤

abbrev pub ReadsTruth : Program → Atom → Type 0
ReadsTruth program (is_true c) = is_column_of program c true ≡ true
ReadsTruth program _ = ⊤

abbrev pub IsReadable : Program → Expression → Type 0
IsReadable program (whole a) = (term_fault a ≡ None) × ReadsColumn program a
IsReadable program (truth a) = ReadsTruth program a

-- the columns of signals are of the signals' kinds
pub record AreOfKinds (program : Program) (kinds : List Bool) (columns : List ℕ) : Type 0 where
  pub serves : (s : ℕ) (b : Bool) → slice_get kinds s ≡ Some b → is_column_of program (slice_index columns s) b ≡ true

-- columns don't change a range
pub range_over : (columns : List ℕ) (a : Term) → range (term_over columns a) ≡ range a
unfolding range term_over
range_over columns (column s) = refl
range_over columns (constant n) = refl
range_over columns (negative a) = ap (over negated) (range_over columns a)
range_over columns (plus a b) = ap₂ (over_both summed) (range_over columns a) (range_over columns b)
range_over columns (minus a b) = ap₂ (over_both lessened) (range_over columns a) (range_over columns b)
range_over columns (times a b) = ap₂ (over_both multiplied) (range_over columns a) (range_over columns b)
range_over columns (quotient a b) = ap₂ (over_divisor divided) (range_over columns a) (range_over columns b)
range_over columns (remainder a b) = ap₂ (over_divisor left_over) (range_over columns a) (range_over columns b)

fault_over : (columns : List ℕ) (a : Term) → term_fault a ≡ None → term_fault (term_over columns a) ≡ None
fault_over columns a h = ap why_none (range_over columns a) ∙ h

module _ (program : Program) (kinds : List Bool) (columns : List ℕ) (fits : AreOfKinds program kinds columns) where
  term_reads : (a : Term) → ReadsWholes kinds a → term_fault a ≡ None → InTerm (IsReadable program) (term_over columns a)
  unfolding range term_over
  term_reads (column s) k h = (refl, fits.serves s false k)
  term_reads (constant n) k h = (h, tt)
  term_reads (negative a) k h = ((fault_over columns (negative a) h, tt), term_reads a k (over_none negated (range a) h))
  term_reads (plus a b) k h =
      let both = both_none summed (range a) (range b) h in
      ((fault_over columns (plus a b) h, tt), term_reads a k.0 both.0, term_reads b k.1 both.1)
  term_reads (minus a b) k h =
      let both = both_none lessened (range a) (range b) h in
      ((fault_over columns (minus a b) h, tt), term_reads a k.0 both.0, term_reads b k.1 both.1)
  term_reads (times a b) k h =
      let both = both_none multiplied (range a) (range b) h in
      ((fault_over columns (times a b) h, tt), term_reads a k.0 both.0, term_reads b k.1 both.1)
  term_reads (quotient a b) k h =
      let both = divisor_none divided (range a) (range b) h in
      ((fault_over columns (quotient a b) h, tt), term_reads a k.0 both.0, term_reads b k.1 both.1)
  term_reads (remainder a b) k h =
      let both = divisor_none left_over (range a) (range b) h in
      ((fault_over columns (remainder a b) h, tt), term_reads a k.0 both.0, term_reads b k.1 both.1)

  both_read : (a b : Term) → ReadsWholes kinds a × ReadsWholes kinds b → or_later (term_fault a) (term_fault b) ≡ None
      → InTerm (IsReadable program) (term_over columns a) × InTerm (IsReadable program) (term_over columns b)
  both_read a b k h =
      let none = neither (term_fault a) (term_fault b) h in
      (term_reads a k.0 none.0, term_reads b k.1 none.1)

  atom_reads : (a : Atom) → AtomReadsKinds kinds a → atom_fault a ≡ None → InAtom (IsReadable program) (atom_over columns a)
  unfolding atom_over
  atom_reads (is_true s) k h = (fits.serves s true k, tt)
  atom_reads (equal a b) k h = (tt, both_read a b k h)
  atom_reads (less a b) k h = (tt, both_read a b k h)
  atom_reads (at_most a b) k h = (tt, both_read a b k h)
  atom_reads (different a b) k h = (tt, both_read a b k h)
  atom_reads (greater a b) k h = (tt, both_read a b k h)
  atom_reads (at_least a b) k h = (tt, both_read a b k h)

  -- a formula without a fault over signals of their kinds, with intervals that have B
  pub formula_reads : (B : Interval → Type 0) (p : Formula) → ReadsKinds kinds p → formula_fault p ≡ None → Throughout (λ a. ⊤) B p
      → Throughout (InAtom (IsReadable program)) B (formula_over columns p)
  unfolding formula_over formula_fault
  formula_reads B always k h w = tt
  formula_reads B falsity k h w = tt
  formula_reads B (atom a) k h w = atom_reads a k h
  formula_reads B (negation p) k h w = formula_reads B p k h w
  formula_reads B (conjunction p q) k h w =
      let none = neither (formula_fault p) (formula_fault q) h in
      (formula_reads B p k.0 none.0 w.0, formula_reads B q k.1 none.1 w.1)
  formula_reads B (disjunction p q) k h w =
      let none = neither (formula_fault p) (formula_fault q) h in
      (formula_reads B p k.0 none.0 w.0, formula_reads B q k.1 none.1 w.1)
  formula_reads B (implication p q) k h w =
      let none = neither (formula_fault p) (formula_fault q) h in
      (formula_reads B p k.0 none.0 w.0, formula_reads B q k.1 none.1 w.1)
  formula_reads B (equivalence p q) k h w =
      let none = neither (formula_fault p) (formula_fault q) h in
      (formula_reads B p k.0 none.0 w.0, formula_reads B q k.1 none.1 w.1)
  formula_reads B (finally i p) k h w = (w.0, formula_reads B p k h w.1)
  formula_reads B (globally i p) k h w = (w.0, formula_reads B p k h w.1)
  formula_reads B (until i p q) k h w =
      let none = neither (formula_fault p) (formula_fault q) h in
      (w.0, formula_reads B p k.0 none.0 w.1, formula_reads B q k.1 none.1 w.2)
  formula_reads B (release i p q) k h w =
      let none = neither (formula_fault p) (formula_fault q) h in
      (w.0, formula_reads B p k.0 none.0 w.1, formula_reads B q k.1 none.1 w.2)
  formula_reads B (once i p) k h w = (w.0, formula_reads B p k h w.1)
  formula_reads B (historically i p) k h w = (w.0, formula_reads B p k h w.1)
  formula_reads B (since i p q) k h w =
      let none = neither (formula_fault p) (formula_fault q) h in
      (w.0, formula_reads B p k.0 none.0 w.1, formula_reads B q k.1 none.1 w.2)

-- the core form of an atom is as readable
pub atom_turns : (program : Program) (B : Interval → Type 0) (a : Atom) → InAtom (IsReadable program) a → Deep (AtHead (InAtom (IsReadable program)) B) (core_atom a)
atom_turns program B (different a b) h = (tt, (tt, h.1))
atom_turns program B (greater a b) h = (tt, (h.1.1, h.1.0))
atom_turns program B (at_least a b) h = (tt, (h.1.1, h.1.0))
atom_turns program B _ h = h
