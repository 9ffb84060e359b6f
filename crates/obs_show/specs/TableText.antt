-- The fields and lines that the code holds before they are written.

use Rattle.std.specs.Prelude.{◌≡◌, ℕ, false, Option, Some, None, List, [], ◌∷◌, ◌++◌, decimal}
use Rattle.std.specs.Fmt.{signed_decimal}
use Rattle.csv.specs.Writing.{default_writer, fields_written, has_written, writer_pending, writer_setup, writer_under}
use Rattle.obs_show.specs.declared.table_fields.Shown.{Shown}
use Rattle.obs_show.specs.declared.table_fields.Figures.{Figures}
use Rattle.obs_show.specs.declared.table_lines.Lines.{Lines}
use Rattle.obs_show.specs.Table.{Field}

-- the field of a number, or an empty field
abbrev pub field_of : {X : Type 0} → (X → Field) → Option X → Field
field_of text None = []
field_of text (Some n) = text n

-- the fields from operation to high
abbrev pub shown_fields : Shown → List Field
shown_fields shown =
    shown.name.now ∷ field_of signed_decimal shown.left ∷ field_of decimal shown.right ∷ field_of decimal shown.low
    ∷ field_of decimal shown.high ∷ []

-- the fields from best to size
abbrev pub figure_fields : Figures → List Field
figure_fields figures =
    field_of decimal figures.best ∷ field_of decimal figures.worst ∷ field_of decimal figures.size ∷ []

-- this text was written in csv's default form, to memory and to the buffer before it, and the next line begins
pub record HasText (lines : Lines) (text : List ℕ) : Type 0 where
  pub setup : writer_setup lines.writer ≡ default_writer
  pub fields : fields_written lines.writer ≡ 0
  pub blank : has_written lines.writer ≡ false
  pub written : (writer_under lines.writer).items ++ writer_pending lines.writer ≡ text
