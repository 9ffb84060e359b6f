-- The instruction table of a program, as comma-separated values: a first line that names the columns, then a line for
-- each instruction.

use Rattle.std.specs.Prelude.{ℕ, List, [], ◌∷◌, ◌++◌, map, codes, decimal, slice_index}
use Rattle.std.specs.Fmt.{signed_decimal}
use Rattle.std.specs.List.{enumerate_from, flat_map}
use Rattle.csv.specs.Writing.{default_writer, row_text}
use Rattle.mltl_base.specs.declared.interval.Interval.{Interval}
use Rattle.mltl_base.specs.declared.operators.BzOp.{BzOp}
use Rattle.mltl_base.specs.declared.operators.BzOp.TheVariants as bz
use Rattle.mltl_base.specs.declared.operators.FtOp.{FtOp}
use Rattle.mltl_base.specs.declared.operators.FtOp.TheVariants as ft
use Rattle.mltl_base.specs.declared.operators.PtOp.{PtOp}
use Rattle.mltl_base.specs.declared.operators.PtOp.TheVariants as pt
use Rattle.mltl_base.specs.declared.program.Program.{Program}
use Rattle.mltl_base.specs.Queues.{best_delays, worst_delays}

-- a field, as its text
abbrev pub Field : Type 0
Field = List ℕ

-- a field that doesn't apply is empty
abbrev pub blank : Field
blank = []

-- the names of the columns
abbrev pub columns : List Field
columns =
    codes "engine" ∷ codes "number" ∷ codes "operation" ∷ codes "left" ∷ codes "right" ∷ codes "low" ∷ codes "high"
    ∷ codes "best" ∷ codes "worst" ∷ codes "size" ∷ []

-- the fields from operation to high of an instruction without operands: its name, and blanks
abbrev pub bare : Field → List Field
bare name = name ∷ blank ∷ blank ∷ blank ∷ blank ∷ []

-- the fields from operation to high of an instruction with one operand
abbrev pub unary_fields : Field → Field → List Field
unary_fields name left = name ∷ left ∷ blank ∷ blank ∷ blank ∷ []

-- the fields from operation to high of an instruction with two operands
abbrev pub binary_fields : Field → ℕ → ℕ → List Field
binary_fields name left right = name ∷ decimal left ∷ decimal right ∷ blank ∷ blank ∷ []

-- the fields from operation to high of an instruction with two operands and the bounds of an interval
abbrev pub temporal : Field → ℕ → ℕ → Interval → List Field
temporal name left right window = name ∷ decimal left ∷ decimal right ∷ decimal window.lo ∷ decimal window.hi ∷ []

-- the fields from operation to high of a Booleanizer instruction; a constant shows its value as its left operand
unfoldable pub bz_fields : BzOp → List Field
bz_fields (bz.Column c) = unary_fields (codes "column") (decimal c)
bz_fields (bz.IsTrue c) = unary_fields (codes "istrue") (decimal c)
bz_fields (bz.Const value) = unary_fields (codes "const") (signed_decimal value)
bz_fields (bz.Neg a) = unary_fields (codes "neg") (decimal a)
bz_fields (bz.Add a b) = binary_fields (codes "add") a b
bz_fields (bz.Sub a b) = binary_fields (codes "sub") a b
bz_fields (bz.Mul a b) = binary_fields (codes "mul") a b
bz_fields (bz.Div a b) = binary_fields (codes "div") a b
bz_fields (bz.Rem a b) = binary_fields (codes "rem") a b
bz_fields (bz.Eq a b) = binary_fields (codes "eq") a b
bz_fields (bz.Lt a b) = binary_fields (codes "lt") a b
bz_fields (bz.Le a b) = binary_fields (codes "le") a b

-- the fields from operation to high of a future-time instruction
unfoldable pub ft_fields : FtOp → List Field
ft_fields ft.True = bare (codes "true")
ft_fields (ft.Load a) = unary_fields (codes "load") (decimal a)
ft_fields (ft.Not g) = unary_fields (codes "not") (decimal g)
ft_fields (ft.And l r) = binary_fields (codes "and") l r
ft_fields (ft.Until l r window) = temporal (codes "until") l r window

-- the fields from operation to high of a past-time instruction
unfoldable pub pt_fields : PtOp → List Field
pt_fields pt.True = bare (codes "true")
pt_fields (pt.Load a) = unary_fields (codes "load") (decimal a)
pt_fields (pt.Not g) = unary_fields (codes "not") (decimal g)
pt_fields (pt.And l r) = binary_fields (codes "and") l r
pt_fields (pt.Since l r window) = temporal (codes "since") l r window

-- the best delay, the worst delay and the size of future-time instruction i
abbrev pub ft_figure_fields : Program → ℕ → List Field
ft_figure_fields program i =
    decimal (slice_index (best_delays program.ft) i) ∷ decimal (slice_index (worst_delays program.ft) i)
    ∷ decimal (slice_index program.sizes.ft i) ∷ []

-- the size of past-time instruction i, which has no delays: their fields are blank
abbrev pub pt_figure_fields : Program → ℕ → List Field
pt_figure_fields program i = blank ∷ blank ∷ decimal (slice_index program.sizes.pt i) ∷ []

-- the record of Booleanizer instruction i: its engine, its number, and the fields above
abbrev pub bz_record : ℕ → BzOp → List Field
bz_record i op = codes "bz" ∷ decimal i ∷ bz_fields op ++ (blank ∷ blank ∷ blank ∷ [])

-- the record of future-time instruction i: its engine, its number, and the fields above
abbrev pub ft_record : Program → ℕ → FtOp → List Field
ft_record program i op = codes "ft" ∷ decimal i ∷ ft_fields op ++ ft_figure_fields program i

-- the record of past-time instruction i: its engine, its number, and the fields above
abbrev pub pt_record : Program → ℕ → PtOp → List Field
pt_record program i op = codes "pt" ∷ decimal i ∷ pt_fields op ++ pt_figure_fields program i

-- the records of instructions in order, numbered from 0
abbrev pub numbered : {X : Type 0} → (ℕ → X → List Field) → List X → List (List Field)
numbered record_of ops = map (λ p. record_of p.0 p.1) (enumerate_from 0 ops)

-- the records of a program: first of the Booleanizer, then of future time, then of past time
abbrev pub records : Program → List (List Field)
records program = numbered bz_record program.bz
    ++ (numbered (ft_record program) program.ft ++ numbered (pt_record program) program.pt)

-- the lines of records, as csv writes them by default
abbrev pub csv_lines : List (List Field) → List ℕ
csv_lines rows = flat_map (row_text default_writer) rows

-- the table of a program
abbrev pub table : Program → List ℕ
table program = csv_lines (columns ∷ records program)
