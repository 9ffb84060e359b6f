use Rattle.std.proofs.Common.{◌≡◌, subst, arith}
use Rattle.r2u2_cli.specs.Played.{Played}
use Rattle.r2u2_cli.proofs.demo.run.play.Goals as goal

pub returns : goal.returns
returns c =
    let end : c.loop-k.k ≡ c.args.rows = omega arith in
    record { after = subst (Played c.loop-k.tallies c.loop-k.monitor c.args.seed) end c.loop-k.invariant }
