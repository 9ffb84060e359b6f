use Rattle.std.proofs.Common.{◌≡◌, [], ◌∷◌, ◌++◌, sym, ap, ◌∙◌, None, set}
use Rattle.std.specs.Prelude.{find}
use Rattle.tool_io.specs.declared.host.Place.{Place}
use Rattle.tool_io.specs.Cursors.{cursor_at}
use Rattle.tool_io.specs.MemFiles.{Stored, has_file_name, file_of}
use Rattle.tool_io.proofs.MemFilesLemmas.{Found, found_at, found_nowhere, Puts, puts-set, puts-append, Agrees, agree-set, agree-append, fits-all, readings-more}
use Rattle.tool_io.proofs.mem_files.MemFiles.put.Goals as goal

found : (c : goal.After-drop-index_mut-in-Some) → Found c.args.name.now c.self.inside.files.items c.in-Some.i
found c = found_at c.args.name.now c.self.inside.files.items c.in-Some.i (rw c.deref.ensures.value at (sym c.position_of.ensures ∙ c.in-Some.is))

set_puts : (c : goal.After-drop-index_mut-in-Some) → Puts c.args.name.now c.args.bytes.now c.self.inside.files.items (set c.self.inside.files.items c.in-Some.i c.in_ok-file.file)
set_puts c = rw c.in_ok-file.ensures (puts-set c.args.name.now c.args.bytes.now c.self.inside.files.items c.in-Some.i (found c))

set_agrees : (c : goal.After-drop-index_mut-in-Some) → (place : Place) → Agrees c.self.inside.files.items (set c.self.inside.files.items c.in-Some.i c.in_ok-file.file) (cursor_at c.self.inside.cursors place)
set_agrees c = agree-set c.self.inside.files.items c.self.inside.cursors c.args.self.now c.args.name.now c.in-Some.i c.in_ok-file.file c.self.view_is c.requires (found c).named

absent : (c : goal.In_ok-push-in-None) → find (has_file_name c.args.name.now) c.self.inside.files.items ≡ None
absent c = found_nowhere c.args.name.now c.self.inside.files.items (rw c.deref.ensures.value at (sym c.position_of.ensures ∙ c.in-None.is))

pushed : (c : goal.In_ok-push-in-None) → c.push.new.self.items ≡ c.self.inside.files.items ++ record { name = c.args.name.now; bytes = c.args.bytes.now } ∷ []
pushed c = rw c.in_ok-file.ensures at c.in_ok-push-in-None.ensures.items

push_puts : (c : goal.In_ok-push-in-None) → Puts c.args.name.now c.args.bytes.now c.self.inside.files.items c.push.new.self.items
push_puts c = rw (pushed c) (puts-append c.args.name.now c.args.bytes.now c.self.inside.files.items (absent c))

push_agrees : (c : goal.In_ok-push-in-None) → (place : Place) → Agrees c.self.inside.files.items c.push.new.self.items (cursor_at c.self.inside.cursors place)
push_agrees c = rw (pushed c) (agree-append c.self.inside.files.items c.self.inside.cursors _ c.self.invariant)

pub invariant_of-self : goal.invariant_of-self
invariant_of-self c = fits-all c.self.inside.files.items _ c.self.inside.cursors (set_agrees c) c.self.invariant

pub returns-in-Some-clause-holds : goal.returns-in-Some-clause-holds
returns-in-Some-clause-holds c = rw (set_puts c).holds

pub returns-in-Some-clause-others : goal.returns-in-Some-clause-others
returns-in-Some-clause-others c = λ other differs. rw ((set_puts c).others other differs) (ap (λ (s : Stored). file_of s other) c.self.view_is)

pub returns-in-Some-clause-readings : goal.returns-in-Some-clause-readings
returns-in-Some-clause-readings c = readings-more c.self.inside.files.items _ c.self.inside.cursors (set_agrees c) ∙ ap (λ (s : Stored). s.readings) c.self.view_is

pub returns-in_ok-push-in-None-clause-holds : goal.returns-in_ok-push-in-None-clause-holds
returns-in_ok-push-in-None-clause-holds c = rw (push_puts c).holds

pub returns-in_ok-push-in-None-clause-others : goal.returns-in_ok-push-in-None-clause-others
returns-in_ok-push-in-None-clause-others c = λ other differs. rw ((push_puts c).others other differs) (ap (λ (s : Stored). file_of s other) c.self.view_is)

pub returns-in_ok-push-in-None-clause-readings : goal.returns-in_ok-push-in-None-clause-readings
returns-in_ok-push-in-None-clause-readings c = readings-more c.self.inside.files.items _ c.self.inside.cursors (push_agrees c) ∙ ap (λ (s : Stored). s.readings) c.self.view_is
