-- The fields of files in memory: for each place the file's index, and the number of its bytes left.
use Rattle.std.specs.Prelude.{ℕ, ◌-◌, ◌<◌, ◌≤◌, Option, Some, None, List, [], length, drop, slice_index_or, ⊤}
use Rattle.std.specs.Option.{option_map}
use Rattle.tool_io.specs.declared.host.Place.{Place}
use Rattle.tool_io.specs.declared.mem_files.Cursor.{Cursor}
use Rattle.tool_io.specs.declared.mem_files.Cursors.{Cursors}
use Rattle.tool_io.specs.declared.mem_files.MemFiles.TheInside.{Inside}
use Rattle.tool_io.specs.Cursors.{cursor_at}
use Rattle.tool_io.specs.MemFiles.{NamedBytes, Reading, Readings, Stored}

-- the file at an index
abbrev pub file_at : List NamedBytes → ℕ → NamedBytes
file_at files i = slice_index_or files i (record { name = []; bytes = [] })

-- the reading of a cursor
abbrev pub cursor_reading : List NamedBytes → Cursor → Reading
cursor_reading files cursor =
    let file = file_at files cursor.file in record {
      name = file.name;
      left = drop (length file.bytes - cursor.left) file.bytes;
    }

-- the readings of all cursors
abbrev pub cursor_readings : List NamedBytes → Cursors → Readings
cursor_readings files cursors = record {
  spec = option_map (cursor_reading files) cursors.spec;
  header = option_map (cursor_reading files) cursors.header;
  program = option_map (cursor_reading files) cursors.program;
  trace = option_map (cursor_reading files) cursors.trace;
}

-- the files, and the reading of each place in them
abbrev pub stored_of : Inside → Stored
stored_of inside = record { files = inside.files.items; readings = cursor_readings inside.files.items inside.cursors }

-- a cursor names a file, and has no more bytes left than that file has
pub record IsWithin (files : List NamedBytes) (cursor : Cursor) : Type 0 where
  pub file : cursor.file < length files
  pub left : cursor.left ≤ length (file_at files cursor.file).bytes

-- the cursor, if there is one, names a file and has no more bytes left than that file has
abbrev pub FitsIn : List NamedBytes → Option Cursor → Type 0
FitsIn files None = ⊤
FitsIn files (Some cursor) = IsWithin files cursor

-- the cursor of each place that has one names a file, and has no more bytes left than that file has
abbrev pub IsStored : Inside → Type 0
IsStored inside = (place : Place) → FitsIn inside.files.items (cursor_at inside.cursors place)
