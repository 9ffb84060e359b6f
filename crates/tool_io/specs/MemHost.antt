-- A host in memory: its state, and the failure, the answer and the effect of each call.
use Rattle.std.specs.Prelude.{◌≡◌, ◌==◌, ℕ, Bool, false, ◌&&◌, ◌||◌, not, if◌then◌else◌, min, Option, Some, None, List}
use Rattle.std.specs.Prelude.{[], ◌++◌, length, take, drop, unwrap_or}
use Rattle.std.specs.Option.{is_none, option_map_or}
use Rattle.std.specs.List.{list_any}
use Rattle.tool_io.specs.declared.host.Place.{Place}
use Rattle.tool_io.specs.declared.host.Place.TheVariants.{Out, Err}
use Rattle.tool_io.specs.declared.host.Attached as attached
use Rattle.tool_io.specs.declared.host.Got as got
use Rattle.tool_io.specs.declared.host.Put as put
use Rattle.tool_io.specs.declared.counts.Counts.{Counts}
use Rattle.tool_io.specs.declared.mem_host.Listed.{Listed}
use Rattle.tool_io.specs.Log.{Event, Attached, Missed, Took, Gave, same_place}
use Rattle.tool_io.specs.Counts.{count_at, counted_up, no_counts}
use Rattle.tool_io.specs.Tape.{Taped, new_tape, has_room, with_event}
use Rattle.tool_io.specs.MemFiles.{Stored, no_files, file_of, left_of, with_file_at, skipped}

-- the files and the reading of each place, the log with its room, the counts of calls and of faults, the calls that are to
-- fail, and the most bytes that a read gives, if there is such a limit
pub record Held : Type 0 where
  pub store : Stored
  pub tape : Taped
  pub calls : Counts
  pub faults : Counts
  pub listed : List Listed
  pub block : Option ℕ

-- a new host, with its room
abbrev pub new_host : ℕ → ℕ → Held
new_host events bytes =
    record {
      store = no_files;
      tape = new_tape events bytes;
      calls = no_counts;
      faults = no_counts;
      listed = [];
      block = None;
    }

-- the count of a place's faults, as the host shows it
abbrev pub faults_of : Held → Place → ℕ
faults_of host place = count_at host.faults place

-- the log, as the host shows it
abbrev pub log_of : Held → Option (List Event)
log_of host = Some host.tape.events

-- the bytes that a place has still to read, as the host shows them, if the place is attached
abbrev pub left_in : Held → Place → Option (List ℕ)
left_in host place = left_of host.store place

-- true if the next call of the place is listed to fail
abbrev pub is_listed : Held → Place → Bool
is_listed host place =
    list_any (λ entry. same_place entry.place place && (entry.call == count_at host.calls place)) host.listed

-- true if the place can't be attached to the name: a place that is read needs a file of that name
abbrev pub is_missing : Held → Place → List ℕ → Bool
is_missing host Out name = false
is_missing host Err name = false
is_missing host place name = is_none (file_of host.store name)

-- the host after a call that didn't fail was counted
abbrev pub noted : Held → Place → Held
noted host place = record host { calls = counted_up host.calls place }

-- the host after a call failed: the call and its fault are counted
abbrev pub failed : Held → Place → Held
failed host place = record host { calls = counted_up host.calls place; faults = counted_up host.faults place }

-- the host with one more event in its log
abbrev pub logged : Held → Event → Held
logged host event = record host { tape = with_event host.tape event }

-- the host with one more event in its log, if there is room for it
abbrev pub told_in_room : Held → Event → ℕ → Held
told_in_room host event count = if has_room host.tape count then logged host event else host

-- the host after a place was attached to a name
abbrev pub stands : Held → Place → List ℕ → Held
stands host Out name = host
stands host Err name = host
stands host place name = record host { store = with_file_at host.store place name }

-- ---- attach

-- true if the call is listed, or there is no room, or no file of that name
abbrev pub attach_fails : Held → Place → List ℕ → Bool
attach_fails host place name =
    is_listed host place || not (has_room host.tape (length name)) || is_missing host place name

-- the result of an attach: it failed, or the place is ready
abbrev pub attach_answer : Held → Place → List ℕ → attached.Attached
attach_answer host place name =
    if attach_fails host place name then attached.TheVariants.Failed else attached.TheVariants.Ready

-- the host after an attach: a failed attach logs Missed if there is room
abbrev pub after_attach : Held → Place → List ℕ → Held
after_attach host place name =
    if attach_fails host place name then told_in_room (failed host place) (Missed place name) (length name)
    else logged (stands (noted host place) place name) (Attached place name)

-- ---- read

-- the most bytes that a read into a slice of this length returns
abbrev pub at_most : Option ℕ → ℕ → ℕ
at_most block room = option_map_or (λ n. min room n) block room

-- the bytes that a read into a slice of this length returns
abbrev pub read_bytes : Held → Place → ℕ → List ℕ
read_bytes host place room = take (at_most host.block room) (unwrap_or (left_of host.store place) [])

-- true if the call is listed, or the place isn't attached, or there is no room
abbrev pub read_fails : Held → Place → ℕ → Bool
read_fails host place room =
    is_listed host place || is_none (left_of host.store place)
    || not (has_room host.tape (length (read_bytes host place room)))

-- the result of a read that returns this many bytes
abbrev pub gives : ℕ → got.Got
gives count = if count == 0 then got.TheVariants.End else got.TheVariants.Bytes count

-- the result of a read: it failed, or reached the end, or read this many bytes
abbrev pub read_answer : Held → Place → ℕ → got.Got
read_answer host place room =
    if read_fails host place room then got.TheVariants.Failed else gives (length (read_bytes host place room))

-- the host after a read: a failed read logs nothing
abbrev pub after_read : Held → Place → ℕ → Held
after_read host place room =
    if read_fails host place room then failed host place
    else logged (record (noted host place) { store = skipped host.store place (length (read_bytes host place room)) })
    (Took place (read_bytes host place room))

-- the slice after a read
abbrev pub read_into : Held → Place → List ℕ → List ℕ
read_into host place into =
    if read_fails host place (length into) then into
    else read_bytes host place (length into) ++ drop (length (read_bytes host place (length into))) into

-- the result of a read, the host and the slice after it follow from the files, the room and the listed calls
pub record Reads (answer : got.Got) (before now : Held) (place : Place) (slice filled : List ℕ) : Type 0 where
  pub answers : answer ≡ read_answer before place (length slice)
  pub after : now ≡ after_read before place (length slice)
  pub fills : filled ≡ read_into before place slice

-- ---- write

-- true if the call is listed, or there is no room
abbrev pub write_fails : Held → Place → List ℕ → Bool
write_fails host place piece = is_listed host place || not (has_room host.tape (length piece))

-- the result of a write: it failed, or the whole piece is taken
abbrev pub write_answer : Held → Place → List ℕ → put.Put
write_answer host place piece =
    if write_fails host place piece then put.TheVariants.Failed else put.TheVariants.Wrote (length piece)

-- the host after a write: a failed write logs nothing, another one takes the whole piece
abbrev pub after_write : Held → Place → List ℕ → Held
after_write host place piece =
    if write_fails host place piece then failed host place else logged (noted host place) (Gave place piece)
