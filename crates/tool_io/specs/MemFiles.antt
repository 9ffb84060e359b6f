-- Files in memory, and the reading of each place in them.
use Rattle.std.specs.Prelude.{◌≢◌, ℕ, Bool, Option, Some, None, List, [], IfSome, find, drop}
use Rattle.std.specs.Option.{option_map, option_map_or}
use Rattle.std.specs.Str.{bytes_eq}
use Rattle.tool_io.specs.declared.host.Place.{Place}
use Rattle.tool_io.specs.declared.host.Place.TheVariants.{Spec, Header, Program, Trace, Out, Err}

-- a file
pub record NamedBytes : Type 0 where
  pub name : List ℕ
  pub bytes : List ℕ

-- the file that a place is attached to, and the bytes of it that are still to be read
pub record Reading : Type 0 where
  pub name : List ℕ
  pub left : List ℕ

-- the reading of each place that is read
pub record Readings : Type 0 where
  pub spec : Option Reading
  pub header : Option Reading
  pub program : Option Reading
  pub trace : Option Reading

-- files in memory, and the reading of each place in them
pub record Stored : Type 0 where
  pub files : List NamedBytes
  pub readings : Readings

-- no files, and nothing attached
abbrev pub no_files : Stored
no_files = record { files = []; readings = record { spec = None; header = None; program = None; trace = None } }

-- true if the file has this name
abbrev pub has_file_name : List ℕ → NamedBytes → Bool
has_file_name name file = bytes_eq file.name name

-- the bytes of the file of this name
abbrev pub file_of : Stored → List ℕ → Option (List ℕ)
file_of stored name = option_map (λ file. file.bytes) (find (has_file_name name) stored.files)

-- the reading of a place; Out and Err have none
abbrev pub reading_at : Readings → Place → Option Reading
reading_at readings Spec = readings.spec
reading_at readings Header = readings.header
reading_at readings Program = readings.program
reading_at readings Trace = readings.trace
reading_at readings Out = None
reading_at readings Err = None

-- the bytes that a place has still to read, if it is attached
abbrev pub left_of : Stored → Place → Option (List ℕ)
left_of stored place = option_map (λ reading. reading.left) (reading_at stored.readings place)

-- no place reads the file of this name
abbrev pub IsUnread : Stored → List ℕ → Type 0
IsUnread stored name = (place : Place) → IfSome (reading_at stored.readings place) (λ reading. reading.name ≢ name)

-- the readings after a place that is read was attached to, or moved in, a file
abbrev pub with_reading : Readings → Place → Reading → Readings
with_reading readings Spec reading = record readings { spec = Some reading }
with_reading readings Header reading = record readings { header = Some reading }
with_reading readings Program reading = record readings { program = Some reading }
with_reading readings Trace reading = record readings { trace = Some reading }
with_reading readings Out reading = readings
with_reading readings Err reading = readings

-- the files after a place got this reading
abbrev pub with_place : Stored → Place → Reading → Stored
with_place stored place reading = record stored { readings = with_reading stored.readings place reading }

-- the files after a place was attached to the file of this name, unchanged if there is none
abbrev pub with_file_at : Stored → Place → List ℕ → Stored
with_file_at stored place name =
    option_map_or (λ bytes. with_place stored place (record { name = name; left = bytes })) (file_of stored name) stored

-- the files after a place skipped this many bytes
abbrev pub skipped : Stored → Place → ℕ → Stored
skipped stored place count =
    option_map_or (λ reading. with_place stored place (record reading { left = drop count reading.left }))
    (reading_at stored.readings place) stored
