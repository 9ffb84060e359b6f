use Rattle.r2u2_cli.specs.Played.{Played}
use Rattle.r2u2_cli.proofs.demo.run.play.Given as goal

abbrev pub invariant-loop-k : goal.invariant-loop-k
invariant-loop-k l = Played l.tallies l.monitor l.seed l.k
