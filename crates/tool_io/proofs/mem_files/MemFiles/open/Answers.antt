use Rattle.std.proofs.Common.{◌≡◌, sym, ◌∙◌, None, arith, length}
use Rattle.std.proofs.lemmas.List.{get_or_default}
use Rattle.std.specs.Prelude.{find}
use Rattle.tool_io.specs.declared.mem_files.Cursor.{Cursor}
use Rattle.tool_io.specs.MemFiles.{has_file_name}
use Rattle.tool_io.specs.MemFilesInside.{IsWithin, file_at}
use Rattle.tool_io.proofs.MemFilesLemmas.{Found, found_at, found_nowhere, opened_is, opened_none, file_found, file_absent, fits-with_cursor}
use Rattle.tool_io.proofs.mem_files.MemFiles.open.Goals as goal

absent : (c : goal.In_default) → find (has_file_name c.args.name.now) c.self.inside.files.items ≡ None
absent c = found_nowhere c.args.name.now c.self.inside.files.items (rw c.deref.ensures.value at (sym c.position_of.ensures ∙ c.in_default.is))

found : (c : goal.After-set) → Found c.args.name.now c.self.inside.files.items c.in-Some.file
found c = found_at c.args.name.now c.self.inside.files.items c.in-Some.file (rw c.deref.ensures.value at (sym c.position_of.ensures ∙ c.in-Some.is))

whole : (c : goal.After-set) → c.len-left.result ≡ length (file_at c.self.inside.files.items c.in-Some.file).bytes
whole c =
    let file : c.index.result.now ≡ file_at c.self.inside.files.items c.in-Some.file = c.index.ensures ∙ get_or_default c.self.inside.files.items c.in-Some.file _ _ (found c).within in
    rw (← file) c.len-left.ensures

pub returns-in_default-clause-found : goal.returns-in_default-clause-found
returns-in_default-clause-found c = sym (file_absent _ c.self.inside.cursors _ c.args.name.now c.self.view_is (absent c))

pub returns-in_default-clause-after : goal.returns-in_default-clause-after
returns-in_default-clause-after c = opened_none _ c.self.inside.cursors _ c.args.place c.args.name.now c.self.view_is (absent c)

pub invariant_of-self : goal.invariant_of-self
invariant_of-self c = λ place.
    let cursor : Cursor = record { file = c.in-Some.file; left = c.len-left.result } in
    let within : IsWithin c.self.inside.files.items cursor = record { file = (found c).within; left = omega (arith, whole c) } in
    rw c.set.ensures (fits-with_cursor c.self.inside.files.items c.self.inside.cursors cursor c.self.invariant within c.args.place place)

pub returns-clause-found : goal.returns-clause-found
returns-clause-found c = sym (file_found _ c.self.inside.cursors _ c.args.name.now c.in-Some.file c.self.view_is (found c))

pub returns-clause-after : goal.returns-clause-after
returns-clause-after c = rw (c.set.ensures, whole c) (opened_is _ c.self.inside.cursors _ c.args.place c.args.name.now c.in-Some.file c.self.view_is (found c))
