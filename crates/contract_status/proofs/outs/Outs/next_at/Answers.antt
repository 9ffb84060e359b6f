use Rattle.std.proofs.Common.{◌≡◌, ℕ, List, length, ap, ◌∙◌}
use Rattle.mltl_base.specs.Lending.{with_members}
use Rattle.mltl_base.proofs.FixedMembers.{with_members_is}
use Rattle.contract_status.proofs.outs.Outs.next_at.Goals as goal

pub tell_first-requires-clause-stands : goal.tell_first-requires-clause-stands
tell_first-requires-clause-stands g c =
    let next_times : c.as_mut_slice-times.result.now ≡ c.args.self.now = c.as_mut_slice-times.ensures.value ∙ c.self.view_is in
    rw next_times c.requires.stands

pub returns-clause-gives : goal.returns-clause-gives
returns-clause-gives g c =
    let times = c.self.inside.times in
    let new : List ℕ = c.tell_first.new.next_times in
    let next_times : c.as_mut_slice-times.result.now ≡ c.args.self.now = c.as_mut_slice-times.ensures.value ∙ c.self.view_is in
    let written : with_members times new ≡ new = with_members_is times new (c.tell_first.auto.next_times ∙ ap length c.as_mut_slice-times.ensures.value) in
    rw written (rw next_times at c.tell_first.ensures.gives)

pub returns-clause-cursor : goal.returns-clause-cursor
returns-clause-cursor g c = λ rows future past count.
    let times = c.self.inside.times in
    let new : List ℕ = c.tell_first.new.next_times in
    let written : with_members times new ≡ new = with_members_is times new (c.tell_first.auto.next_times ∙ ap length c.as_mut_slice-times.ensures.value) in
    rw written (c.tell_first.ensures.cursor rows (record { future = future; past = past; count = count }))

pub returns-clause-moves : goal.returns-clause-moves
returns-clause-moves g c =
    let next_times : c.as_mut_slice-times.result.now ≡ c.args.self.now = c.as_mut_slice-times.ensures.value ∙ c.self.view_is in
    rw next_times at c.tell_first.ensures.moves

pub returns-clause-keeps : goal.returns-clause-keeps
returns-clause-keeps g c =
    let next_times : c.as_mut_slice-times.result.now ≡ c.args.self.now = c.as_mut_slice-times.ensures.value ∙ c.self.view_is in
    rw next_times at c.tell_first.ensures.keeps
