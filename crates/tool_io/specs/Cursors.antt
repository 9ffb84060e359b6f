-- The position of each place that is read, in files.
use Rattle.std.specs.Prelude.{Option, Some, None}
use Rattle.tool_io.specs.declared.host.Place.{Place}
use Rattle.tool_io.specs.declared.host.Place.TheVariants.{Spec, Header, Program, Trace, Out, Err}
use Rattle.tool_io.specs.declared.mem_files.Cursor.{Cursor}
use Rattle.tool_io.specs.declared.mem_files.Cursors.{Cursors}

-- no place is attached
abbrev pub no_cursors : Cursors
no_cursors = record { spec = None; header = None; program = None; trace = None }

-- the position of a place
abbrev pub cursor_at : Cursors → Place → Option Cursor
cursor_at cursors Spec = cursors.spec
cursor_at cursors Header = cursors.header
cursor_at cursors Program = cursors.program
cursor_at cursors Trace = cursors.trace
cursor_at cursors Out = None
cursor_at cursors Err = None

-- the cursors after a place that is read was moved
abbrev pub with_cursor : Cursors → Place → Cursor → Cursors
with_cursor cursors Spec cursor = record cursors { spec = Some cursor }
with_cursor cursors Header cursor = record cursors { header = Some cursor }
with_cursor cursors Program cursor = record cursors { program = Some cursor }
with_cursor cursors Trace cursor = record cursors { trace = Some cursor }
with_cursor cursors Out cursor = cursors
with_cursor cursors Err cursor = cursors
