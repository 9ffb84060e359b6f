-- Files by name, and what cursors read of them, as files come and cursors move.
use Rattle.std.proofs.Common.{◌≡◌, ◌≢◌, ℕ, ◌+◌, ◌-◌, ◌<◌, ◌≤◌, Bool, true, false, Option, Some, None, List, [], ◌∷◌, ◌++◌, length, set, IfSome, position, refl, sym, ap, ◌∙◌, inl, inr, arith, length-append, length-drop}
use Rattle.std.specs.Prelude.{find, nat_lt, cond, ⊤}
use Rattle.std.specs.List.{position_or_len}
use Rattle.std.specs.Option.{option_map, option_or, ForSome, is_some}
use Rattle.std.proofs.lemmas.Bool.{false_from_ne_true}
use Rattle.std.proofs.lemmas.Slice.Eq.{bytes_eq-Decides}
use Rattle.std.proofs.lemmas.List.{get_or_append_left, get_or-set_other, length-set, drop-drop}
use Rattle.std.proofs.lemmas.List.Folds.{find_at, find-set, find_past, find-append}
use Rattle.std.proofs.lemmas.List.Quantifiers.{position-Some}
use Rattle.std.proofs.lemmas.Option.{slice_get-get_or, slice_get_cases}
use Rattle.std.proofs.lemmas.Bool.Decides.{nat_tests}
use Rattle.tool_io.specs.declared.host.Place.{Place}
use Rattle.tool_io.specs.declared.host.Place.TheVariants.{Spec, Header, Program, Trace}
use Rattle.tool_io.specs.declared.mem_files.Cursor.{Cursor}
use Rattle.tool_io.specs.declared.mem_files.Cursors.{Cursors}
use Rattle.tool_io.specs.Cursors.{cursor_at, with_cursor}
use Rattle.tool_io.specs.MemFiles.{NamedBytes, Stored, has_file_name, file_of, reading_at, left_of, with_reading, with_file_at, skipped, IsUnread}
use Rattle.tool_io.specs.MemFilesInside.{file_at, cursor_reading, cursor_readings, IsWithin, FitsIn}

-- ---- files by name

pub name_of-named : (name : List ℕ) (file : NamedBytes) → has_file_name name file ≡ true → file.name ≡ name
name_of-named name file named = (bytes_eq-Decides file.name name).0 named

pub is_named-same : (name : List ℕ) (file : NamedBytes) → file.name ≡ name → has_file_name name file ≡ true
is_named-same name file same = (bytes_eq-Decides file.name name).1 same

pub is_named-other : (name other : List ℕ) (file : NamedBytes) → file.name ≡ name → other ≢ name → has_file_name other file ≡ false
is_named-other name other file same differs = false_from_ne_true (has_file_name other file) (λ named. differs (sym (name_of-named other file named) ∙ same))

-- the file of a name, from the place at which it was found
pub record Found (name : List ℕ) (files : List NamedBytes) (i : ℕ) : Type 0 where
  pub within : i < length files
  pub named : (file_at files i).name ≡ name
  pub first : i ≡ position_or_len (has_file_name name) files
  pub file : find (has_file_name name) files ≡ Some (file_at files i)

only : (b : Bool) (n i : ℕ) → cond b (Some n) None ≡ Some i → i ≡ n
only true n i at = cc
only false n i at = cc

never : (b : Bool) (n : ℕ) → cond b (Some n) None ≡ None → b ≡ false
never true n at = cc
never false n at = refl

pub found_at : (name : List ℕ) (files : List NamedBytes) (i : ℕ) → position (has_file_name name) files ≡ Some i → Found name files i
found_at name files i at =
    let parts = position-Some (has_file_name name) files i (record { name = []; bytes = [] }) at in
    let first : i ≡ position_or_len (has_file_name name) files = only _ _ _ at in
    record {
      within = parts.0;
      named = name_of-named name (file_at files i) parts.1;
      first = first;
      file = rw (find_at, ← first) (slice_get-get_or files i (record { name = []; bytes = [] }) parts.0);
    }

pub found_nowhere : (name : List ℕ) (files : List NamedBytes) → position (has_file_name name) files ≡ None → find (has_file_name name) files ≡ None
found_nowhere name files nowhere =
    let past : nat_lt (position_or_len (has_file_name name) files) (length files) ≡ false = never _ _ nowhere in
    rw find_at (elim (slice_get_cases files (position_or_len (has_file_name name) files)).1 [
      | inl within ↦ absurd (grind (arith, nat_tests, within.1))
      | inr beyond ↦ beyond.1
    ])

-- ---- cursors

pub reading_at-readings_of : (files : List NamedBytes) (cursors : Cursors) (place : Place) → reading_at (cursor_readings files cursors) place ≡ option_map (cursor_reading files) (cursor_at cursors place)
reading_at-readings_of files cursors Spec = refl
reading_at-readings_of files cursors _ = refl

pub readings_of-with_cursor : (files : List NamedBytes) (cursors : Cursors) (place : Place) (cursor : Cursor) → cursor_readings files (with_cursor cursors place cursor) ≡ with_reading (cursor_readings files cursors) place (cursor_reading files cursor)
readings_of-with_cursor files cursors Spec cursor = refl
readings_of-with_cursor files cursors _ cursor = refl

-- all cursors fit where they did, and the one that moved does
pub fits-with_cursor : (files : List NamedBytes) (cursors : Cursors) (cursor : Cursor) → ((place : Place) → FitsIn files (cursor_at cursors place)) → IsWithin files cursor
    → (place q : Place) → FitsIn files (cursor_at (with_cursor cursors place cursor) q)
fits-with_cursor files cursors cursor all within Spec Spec = within
fits-with_cursor files cursors cursor all within Header Header = within
fits-with_cursor files cursors cursor all within Program Program = within
fits-with_cursor files cursors cursor all within Trace Trace = within
fits-with_cursor files cursors cursor all within place q = all q

pub fits_at : (files : List NamedBytes) (cursors : Cursors) (place : Place) (cursor : Cursor) → cursor_at cursors place ≡ Some cursor → FitsIn files (cursor_at cursors place) → IsWithin files cursor
fits_at files cursors place cursor at fits = rw at at fits

-- a place has as many bytes left as its cursor says
pub left_is : (files : List NamedBytes) (cursors : Cursors) (stored : Stored) (place : Place) (cursor : Cursor) → record { files = files; readings = cursor_readings files cursors } ≡ stored
    → cursor_at cursors place ≡ Some cursor → left_of stored place ≡ Some (cursor_reading files cursor).left
left_is files cursors stored place cursor seen at = rw (← seen) (rw (reading_at-readings_of, at))

pub left_bound : (files : List NamedBytes) (cursors : Cursors) (stored : Stored) (place : Place) (cursor : Cursor) (count : ℕ) → record { files = files; readings = cursor_readings files cursors } ≡ stored
    → cursor_at cursors place ≡ Some cursor → IsWithin files cursor → ForSome (left_of stored place) (λ left. count ≤ length left) → count ≤ cursor.left
left_bound files cursors stored place cursor count seen at within bound =
    let few = bound (cursor_reading files cursor).left (left_is files cursors stored place cursor seen at) in
    omega (arith, within.left, rw length-drop at few)

pub skipped_is : (files : List NamedBytes) (cursors : Cursors) (stored : Stored) (place : Place) (cursor : Cursor) (count : ℕ) → record { files = files; readings = cursor_readings files cursors } ≡ stored
    → cursor_at cursors place ≡ Some cursor → IsWithin files cursor → count ≤ cursor.left
    → record { files = files; readings = cursor_readings files (with_cursor cursors place (record { file = cursor.file; left = cursor.left - count })) } ≡ skipped stored place count
skipped_is files cursors stored place cursor count seen at within few =
    let bytes : List ℕ = (file_at files cursor.file).bytes in
    let start : length bytes - (cursor.left - count) ≡ length bytes - cursor.left + count = omega (arith, within.left) in
    rw (← seen) (rw (readings_of-with_cursor, reading_at-readings_of, at, start, drop-drop))

-- ---- a place is attached

pub opened_is : (files : List NamedBytes) (cursors : Cursors) (stored : Stored) (place : Place) (name : List ℕ) (i : ℕ) → record { files = files; readings = cursor_readings files cursors } ≡ stored → Found name files i
    → record { files = files; readings = cursor_readings files (with_cursor cursors place (record { file = i; left = length (file_at files i).bytes })) } ≡ with_file_at stored place name
opened_is files cursors stored place name i seen found =
    let start : length (file_at files i).bytes - length (file_at files i).bytes ≡ 0 = omega arith in
    rw (← seen) (rw (found.file, readings_of-with_cursor, start, found.named))

pub opened_none : (files : List NamedBytes) (cursors : Cursors) (stored : Stored) (place : Place) (name : List ℕ) → record { files = files; readings = cursor_readings files cursors } ≡ stored → find (has_file_name name) files ≡ None
    → stored ≡ with_file_at stored place name
opened_none files cursors stored place name seen absent = rw (← seen) (rw absent)

pub file_found : (files : List NamedBytes) (cursors : Cursors) (stored : Stored) (name : List ℕ) (i : ℕ) → record { files = files; readings = cursor_readings files cursors } ≡ stored → Found name files i
    → is_some (file_of stored name) ≡ true
file_found files cursors stored name i seen found = rw (← seen) (rw found.file)

pub file_absent : (files : List NamedBytes) (cursors : Cursors) (stored : Stored) (name : List ℕ) → record { files = files; readings = cursor_readings files cursors } ≡ stored → find (has_file_name name) files ≡ None
    → is_some (file_of stored name) ≡ false
file_absent files cursors stored name seen absent = rw (← seen) (rw absent)

-- ---- a file is put

-- a cursor reads the same in both lists of files
abbrev pub Agrees : List NamedBytes → List NamedBytes → Option Cursor → Type 0
Agrees files more None = ⊤
Agrees files more (Some cursor) = (length files ≤ length more) × (file_at more cursor.file ≡ file_at files cursor.file)

fits-more : (files more : List NamedBytes) (cursor : Option Cursor) → Agrees files more cursor → FitsIn files cursor → FitsIn more cursor
fits-more files more None agrees fits = tt
fits-more files more (Some cursor) agrees fits = record { file = omega (arith, agrees.0, fits.file); left = rw agrees.1 fits.left }

reading-more : (files more : List NamedBytes) (cursor : Option Cursor) → Agrees files more cursor → option_map (cursor_reading more) cursor ≡ option_map (cursor_reading files) cursor
reading-more files more None agrees = refl
reading-more files more (Some cursor) agrees = rw agrees.1

pub readings-more : (files more : List NamedBytes) (cursors : Cursors) → ((place : Place) → Agrees files more (cursor_at cursors place)) → cursor_readings more cursors ≡ cursor_readings files cursors
readings-more files more cursors agree =
    let spec = reading-more files more cursors.spec (agree Spec) in
    let header = reading-more files more cursors.header (agree Header) in
    let program = reading-more files more cursors.program (agree Program) in
    let trace = reading-more files more cursors.trace (agree Trace) in
    cc

agrees-append : (files : List NamedBytes) (file : NamedBytes) (cursor : Option Cursor) → FitsIn files cursor → Agrees files (files ++ file ∷ []) cursor
agrees-append files file None fits = tt
agrees-append files file (Some cursor) fits = (rw length-append (omega arith), get_or_append_left files (file ∷ []) _ cursor.file fits.file)

agrees-set : (files : List NamedBytes) (i : ℕ) (file : NamedBytes) (name : List ℕ) (cursor : Option Cursor) → (file_at files i).name ≡ name
    → IfSome (option_map (cursor_reading files) cursor) (λ reading. reading.name ≢ name) → Agrees files (set files i file) cursor
agrees-set files i file name None named unread = tt
agrees-set files i file name (Some cursor) named unread =
    let elsewhere : cursor.file ≢ i = λ same. unread (ap (λ k. (file_at files k).name) same ∙ named) in
    (rw length-set (omega arith), get_or-set_other files i cursor.file file _ elsewhere)

-- what a list of files becomes where one is put, and stays for every other name
pub record Puts (name bytes : List ℕ) (files more : List NamedBytes) : Type 0 where
  pub holds : find (has_file_name name) more ≡ Some (record { name = name; bytes = bytes })
  pub others : (other : List ℕ) → other ≢ name → find (has_file_name other) more ≡ find (has_file_name other) files

pub puts-set : (name bytes : List ℕ) (files : List NamedBytes) (i : ℕ) → Found name files i → Puts name bytes files (set files i (record { name = name; bytes = bytes }))
puts-set name bytes files i found =
    let file : NamedBytes = record { name = name; bytes = bytes } in
    record {
      holds = find-set (has_file_name name) files i file found.first found.within (is_named-same name file refl);
      others = λ other differs. find_past (has_file_name other) files i file _ (is_named-other name other (file_at files i) found.named differs) (is_named-other name other file refl differs);
    }

option_or-none : (found : Option NamedBytes) → option_or found None ≡ found
option_or-none None = refl
option_or-none (Some file) = refl

pub puts-append : (name bytes : List ℕ) (files : List NamedBytes) → find (has_file_name name) files ≡ None → Puts name bytes files (files ++ record { name = name; bytes = bytes } ∷ [])
puts-append name bytes files absent =
    let file : NamedBytes = record { name = name; bytes = bytes } in
    let named : has_file_name name file ≡ true = is_named-same name file refl in
    record {
      holds = rw (find-append, absent, named);
      others = λ other differs. let not_named : has_file_name other file ≡ false = is_named-other name other file refl differs in rw (find-append, not_named) (option_or-none (find (has_file_name other) files));
    }

apart : (files : List NamedBytes) (cursors : Cursors) (stored : Stored) (name : List ℕ) → record { files = files; readings = cursor_readings files cursors } ≡ stored → IsUnread stored name
    → (place : Place) → IfSome (option_map (cursor_reading files) (cursor_at cursors place)) (λ reading. reading.name ≢ name)
apart files cursors stored name seen unread place = rw (sym (reading_at-readings_of files cursors place) ∙ ap (λ (s : Stored). reading_at s.readings place) seen) (unread place)

-- cursors agree where a file that none of them reads is set, and where a file is added
pub agree-set : (files : List NamedBytes) (cursors : Cursors) (stored : Stored) (name : List ℕ) (i : ℕ) (file : NamedBytes) → record { files = files; readings = cursor_readings files cursors } ≡ stored → IsUnread stored name
    → (file_at files i).name ≡ name → (place : Place) → Agrees files (set files i file) (cursor_at cursors place)
agree-set files cursors stored name i file seen unread named place = agrees-set files i file name (cursor_at cursors place) named (apart files cursors stored name seen unread place)

pub agree-append : (files : List NamedBytes) (cursors : Cursors) (file : NamedBytes) → ((place : Place) → FitsIn files (cursor_at cursors place)) → (place : Place) → Agrees files (files ++ file ∷ []) (cursor_at cursors place)
agree-append files cursors file fits place = agrees-append files file (cursor_at cursors place) (fits place)

pub fits-all : (files more : List NamedBytes) (cursors : Cursors) → ((place : Place) → Agrees files more (cursor_at cursors place)) → ((place : Place) → FitsIn files (cursor_at cursors place)) → (place : Place) → FitsIn more (cursor_at cursors place)
fits-all files more cursors agree fits place = fits-more files more (cursor_at cursors place) (agree place) (fits place)
