-- The rows of the demo fit its program, and its summary is that of the text.

use Rattle.std.proofs.Common.{◌≡◌, ◌∙◌, ℕ, ◌+◌, ◌<◌, ◌%◌, ◌⊎◌, inl, inr, Bool, true, false, List, [], ◌∷◌, ◌++◌, map, refl, ap, ap₂, sym, subst, arith, Result, Ok, None, All}
use Rattle.std.specs.Prelude.{ℤ, pos, ◌-ℤ◌, ◌==◌, nat_lt, FitsSigned}
use Rattle.std.specs.Int.{w32}
use Rattle.std.proofs.lemmas.Int.{ints}
use Rattle.std.proofs.lemmas.List.Elements.{All-cons, All-nil}
use Rattle.std.proofs.lemmas.List.FromFn.{map-range_with_len_more}
use Rattle.mltl_base.specs.declared.operators.BzOp.{BzOp}
use Rattle.mltl_base.specs.declared.operators.BzOp.TheVariants as bz
use Rattle.mltl_base.specs.declared.program.Program.{Program}
use Rattle.mltl_base.specs.declared.report.Style.TheVariants.{Each}
use Rattle.mltl_base.specs.Atoms.{atom_over, term_over}
use Rattle.mltl_base.specs.Formula.{core, formula_over, neg}
use Rattle.mltl_base.specs.Programs.{FitsRow, IsFit, outputs}
use Rattle.mltl_base.specs.Reports.{reports}
use Rattle.mltl_base.specs.Subformulas.{add_expressions, add_terms, listed as is_listed, place_of, same_atom, same_expression, same_term}
use Rattle.c2po_compile.specs.declared.fault.CompileFault.{CompileFault}
use Rattle.c2po_compile.specs.Compiled.{compile_text}
use Rattle.c2po_compile.specs.Image.{image}
use Rattle.c2po_compile.proofs.TellingLaws.{text_reports}
use Rattle.r2u2_cli.specs.DemoRow.{bit, demo_row, demo_value}
use Rattle.r2u2_cli.specs.Summary.{demo_rows, demo_summary, summary_entry, listed_out, summary_of}
use Rattle.r2u2_cli.specs.Text.{demo_outputs, demo_text}
use Rattle.r2u2_cli.proofs.DemoCompiles.{columns_are, compiles, demo_columns, demo_program, outputs_are}

pub next_row : (seed k : ℕ) → demo_rows seed (k + 1) ≡ demo_rows seed k ++ demo_row seed k ∷ []
next_row seed k = map-range_with_len_more (demo_row seed) 0 k k (omega arith)

same_program : (found : Result Program CompileFault) (p q : Program) → found ≡ Ok p → found ≡ Ok q → p ≡ q
same_program found p q h e = cc

pub program_is : (p : Program) → compile_text demo_text None ≡ Ok p → p ≡ demo_program
program_is p h = same_program (compile_text demo_text None) p demo_program h compiles

abbrev demo_bz : List BzOp
demo_bz = bz.IsTrue 0 ∷ bz.IsTrue 1 ∷ bz.Column 2 ∷ bz.Const (pos 0) ∷ bz.Lt 2 3 ∷ []

bz_found : demo_program.bz ≡ demo_bz
unfolding image core neg add_expressions add_terms is_listed place_of same_atom same_expression same_term formula_over atom_over term_over
bz_found = refl

width_found : demo_program.width ≡ 3
unfolding image
width_found = refl

bit_fits : (b : Bool) → (bit b ≡ pos 0) ⊎ (bit b ≡ pos 1)
bit_fits true = inr refl
bit_fits false = inl refl

number_fits : (v : ℕ) → v < 1000 → FitsSigned w32 (pos v -ℤ pos 500)
number_fits v low = omega (arith, ints)

value_low : (seed k : ℕ) → demo_value seed k < 1000
value_low seed k = omega arith

reads_fit : (row : List ℤ) → FitsRow row (bz.IsTrue 0) → FitsRow row (bz.IsTrue 1) → FitsRow row (bz.Column 2) → All (FitsRow row) demo_bz
reads_fit row a b x =
    let constant : FitsRow row (bz.Const (pos 0)) = tt in
    let compared : FitsRow row (bz.Lt 2 3) = tt in
    All-cons (FitsRow row) (bz.IsTrue 0) (bz.IsTrue 1 ∷ bz.Column 2 ∷ bz.Const (pos 0) ∷ bz.Lt 2 3 ∷ []) a
    (All-cons (FitsRow row) (bz.IsTrue 1) (bz.Column 2 ∷ bz.Const (pos 0) ∷ bz.Lt 2 3 ∷ []) b
    (All-cons (FitsRow row) (bz.Column 2) (bz.Const (pos 0) ∷ bz.Lt 2 3 ∷ []) x
    (All-cons (FitsRow row) (bz.Const (pos 0)) (bz.Lt 2 3 ∷ []) constant (All-cons (FitsRow row) (bz.Lt 2 3) [] compared (All-nil (FitsRow row))))))

fits_program : (p : Program) (seed k : ℕ) → p.width ≡ 3 → p.bz ≡ demo_bz → IsFit p (demo_row seed k)
fits_program p seed k width is = record {
  width = sym width;
  kinds = subst (All (FitsRow (demo_row seed k))) (sym is) (reads_fit (demo_row seed k) (bit_fits (demo_value seed k % 3 == 0)) (bit_fits (nat_lt (demo_value seed k % 5) 2)) (number_fits (demo_value seed k) (value_low seed k)));
}

pub row_fits : (p : Program) (seed k : ℕ) → compile_text demo_text None ≡ Ok p → IsFit p (demo_row seed k)
row_fits p seed k h = subst (λ (q : Program). IsFit q (demo_row seed k)) (sym (program_is p h)) (fits_program demo_program seed k width_found bz_found)

listed_found : map listed_out demo_program.outs ≡ map summary_entry demo_outputs
unfolding image
listed_found = refl

pub summary_is : (p : Program) (seed rows : ℕ) → compile_text demo_text None ≡ Ok p
    → summary_of rows (map listed_out p.outs) (reports Each (outputs p) (demo_rows seed rows)) ≡ demo_summary seed rows
unfolding demo_summary
summary_is p seed rows h =
    ap₂ (summary_of rows) (ap (λ (q : Program). map listed_out q.outs) (program_is p h) ∙ listed_found ∙ ap (map summary_entry) (sym outputs_are))
    (text_reports Each demo_text None demo_columns p (demo_rows seed rows) h columns_are)
