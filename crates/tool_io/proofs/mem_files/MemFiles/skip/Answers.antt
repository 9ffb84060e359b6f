use Rattle.std.proofs.Common.{◌≡◌, ◌≤◌, ◌-◌, sym, ◌∙◌, Some, arith}
use Rattle.tool_io.specs.declared.mem_files.Cursor.{Cursor}
use Rattle.tool_io.specs.Cursors.{cursor_at}
use Rattle.tool_io.specs.MemFilesInside.{IsWithin}
use Rattle.tool_io.proofs.MemFilesLemmas.{fits_at, left_bound, skipped_is, fits-with_cursor}
use Rattle.tool_io.proofs.mem_files.MemFiles.skip.Goals as goal

pub overflow_sub-left : goal.overflow_sub-left
overflow_sub-left c =
    let at : cursor_at c.self.inside.cursors c.args.place ≡ Some c.in-Some.cursor = sym c.at.ensures ∙ c.in-Some.is in
    let within = fits_at c.self.inside.files.items c.self.inside.cursors c.args.place c.in-Some.cursor at (c.self.invariant c.args.place) in
    left_bound _ c.self.inside.cursors _ c.args.place _ _ c.self.view_is at within c.requires

pub invariant_of-self : goal.invariant_of-self
invariant_of-self c = λ place.
    let at : cursor_at c.self.inside.cursors c.args.place ≡ Some c.in-Some.cursor = sym c.at.ensures ∙ c.in-Some.is in
    let within : IsWithin c.self.inside.files.items c.in-Some.cursor = fits_at c.self.inside.files.items c.self.inside.cursors c.args.place c.in-Some.cursor at (c.self.invariant c.args.place) in
    let moved : Cursor = record { file = c.in-Some.cursor.file; left = c.in-Some.cursor.left - c.args.count } in
    let still : IsWithin c.self.inside.files.items moved = record { file = within.file; left = omega (arith, within.left) } in
    rw c.set.ensures (fits-with_cursor c.self.inside.files.items c.self.inside.cursors moved c.self.invariant still c.args.place place)

pub returns-in-Some : goal.returns-in-Some
returns-in-Some c =
    let at : cursor_at c.self.inside.cursors c.args.place ≡ Some c.in-Some.cursor = sym c.at.ensures ∙ c.in-Some.is in
    let within : IsWithin c.self.inside.files.items c.in-Some.cursor = fits_at c.self.inside.files.items c.self.inside.cursors c.args.place c.in-Some.cursor at (c.self.invariant c.args.place) in
    let few : c.args.count ≤ c.in-Some.cursor.left = left_bound _ c.self.inside.cursors _ c.args.place _ _ c.self.view_is at within c.requires in
    rw c.set.ensures (skipped_is _ c.self.inside.cursors _ c.args.place _ c.args.count c.self.view_is at within few)
