use Rattle.std.proofs.Common.{refl}
use Rattle.set_expand.proofs.Stepping.{nothing-yet}
use Rattle.set_expand.proofs.items.Unfolded.new.Goals as goal

pub returns : goal.returns
returns c =
    nothing-yet (record { names = c.new.result; signals = 0; nodes = c.new-2.result; outs = c.new-3.result })
    c.new.ensures refl c.new-2.ensures c.new-3.ensures
