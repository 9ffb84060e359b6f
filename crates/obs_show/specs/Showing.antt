-- The names of instructions that the code keeps, and the text that it writes.

use Rattle.std.specs.Prelude.{◌≡◌, ℕ, ◌+◌, ◌<◌, Bool, Option, Some, None, List, [], length, take, count_by, slice_index}
use Rattle.mltl_base.specs.declared.interval.Part.{Part}
use Rattle.mltl_base.specs.declared.interval.Part.TheVariants.{Bz, Ft, Pt}
use Rattle.mltl_base.specs.declared.program.Program.{Program}
use Rattle.obs_show.specs.declared.instruction_names.Naming.{Naming as Kept}
use Rattle.obs_show.specs.Lines.{Reference, Form, Line}
use Rattle.obs_show.specs.Naming.{bz_operations, bz_reference, free_numbers, ft_operations, ft_reference}
use Rattle.obs_show.specs.Naming.{operations, pt_operations, pt_reference}
use Rattle.obs_show.specs.Text.{form_text, shown_line}

-- a list has these numbers at the places below its length
abbrev pub HasNumbers : ℕ → (ℕ → ℕ) → List ℕ → Type 0
HasNumbers long number counts = (length counts ≡ long) × ((i : ℕ) → i < long → slice_index counts i ≡ number i)

-- the counts are, for each instruction, the number of operations before it, plus `from`
abbrev pub AreBefore : {X : Type 0} → (X → Bool) → ℕ → List X → List ℕ → Type 0
AreBefore test from ops counts = HasNumbers (length ops) (λ i. from + count_by test (take i ops)) counts

-- the number of operations of a program before instruction i of a part
abbrev pub shown_place : Program → Part → ℕ → ℕ
shown_place program Bz i = bz_operations (take i program.bz)
shown_place program Ft i = bz_operations program.bz + ft_operations (take i program.ft)
shown_place program Pt i = bz_operations program.bz + ft_operations program.ft + pt_operations (take i program.pt)

-- the kept names are the names of all instructions of the program
pub record NamesAll (program : Program) (kept : Kept) : Type 0 where
  pub numbers : kept.numbers.items ≡ free_numbers program.signals (operations program)
  pub bz : HasNumbers (length program.bz) (shown_place program Bz) kept.bz.items
  pub ft : HasNumbers (length program.ft) (shown_place program Ft) kept.ft.items
  pub pt : HasNumbers (length program.pt) (shown_place program Pt) kept.pt.items

-- the reference to instruction i of a part
abbrev pub reference_at : Program → Part → ℕ → Reference
reference_at program Bz i = bz_reference program i
reference_at program Ft i = ft_reference program i
reference_at program Pt i = pt_reference program i

-- the text of a form, or nothing
abbrev pub written_form : Option Form → List ℕ
written_form None = []
written_form (Some form) = form_text form

-- the text of a line, or nothing
abbrev pub written_line : Option Line → List ℕ
written_line None = []
written_line (Some line) = shown_line line
