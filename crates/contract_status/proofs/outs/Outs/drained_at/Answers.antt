use Rattle.std.proofs.Common.{◌≡◌, ◌∙◌, length}
use Rattle.contract_status.specs.declared.engines.Engines.{Engines}
use Rattle.contract_status.proofs.Looking.{looks_few}
use Rattle.contract_status.proofs.Moving.{none_found, taken_by}
use Rattle.contract_status.proofs.Placing.{readable}
use Rattle.contract_status.proofs.outs.Outs.drained_at.Goals as goal

pub next_open-open-requires-clause-readable : goal.next_open-open-requires-clause-readable
next_open-open-requires-clause-readable g c =
    let engines : Engines = record { ft = c.args.ft; pt = c.args.pt; rows = c.args.n } in
    let next_times : c.as_slice.result.now ≡ c.args.self.now = c.as_slice.ensures ∙ c.self.view_is in
    let stands = c.requires.stands in
    rw (c.program.ensures.program, next_times) (λ k output there.
    readable c.args.checked.now stands.0 engines c.args.self.now k output c.program.ensures.well_formed (taken_by c.args.checked.now stands.0 engines c.args.self.now stands.1) stands.1.placed there)

pub returns-clause-drained : goal.returns-clause-drained
returns-clause-drained g c = λ style rows stands.
    let engines : Engines = record { ft = c.args.ft; pt = c.args.pt; rows = c.args.n } in
    let next_times : c.as_slice.result.now ≡ c.args.self.now = c.as_slice.ensures ∙ c.self.view_is in
    let finds = rw (c.program.ensures.program, next_times) at c.next_open-open.ensures.finds in
    none_found style c.args.checked.now rows c.args.self.now c.next_open-open.result c.is_none.result c.is_none.ensures stands.placed
    (finds rows (taken_by c.args.checked.now rows engines c.args.self.now stands) stands.placed.known)

pub returns-clause-counted : goal.returns-clause-counted
returns-clause-counted g c =
    let next_times : c.as_slice.result.now ≡ c.args.self.now = c.as_slice.ensures ∙ c.self.view_is in
    looks_few (length c.args.self.now) c.args.cursor.out c.next_open-open.result c.args.steps.now c.next_open-open.new.steps (rw next_times at c.next_open-open.ensures.counted)

pub next_open-open-requires-clause-cursor : goal.next_open-open-requires-clause-cursor
next_open-open-requires-clause-cursor g c =
    let next_times : c.as_slice.result.now ≡ c.args.self.now = c.as_slice.ensures ∙ c.self.view_is in
    rw (c.program.ensures.program, next_times) (λ rows taken known. c.requires.cursor rows taken.future taken.past taken.count known)
