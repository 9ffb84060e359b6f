use Rattle.obs_verify.proofs.SoundLaws.{bounded, bounded_past, in_order, reported}
use Rattle.obs_verify.proofs.rules.check_rules.Goals as goal

pub check_delays-requires-clause-in_order : goal.check_delays-requires-clause-in_order
check_delays-requires-clause-in_order c = in_order c.args.program.now c.in_ok-check_future.ensures

pub check_delays-requires-clause-bounded : goal.check_delays-requires-clause-bounded
check_delays-requires-clause-bounded c = bounded c.args.program.now c.in_ok-check_future.ensures

pub check_sizes-requires-clause-in_order : goal.check_sizes-requires-clause-in_order
check_sizes-requires-clause-in_order c = in_order c.args.program.now c.in_ok-check_future.ensures

pub check_sizes-requires-clause-bounded : goal.check_sizes-requires-clause-bounded
check_sizes-requires-clause-bounded c = bounded c.args.program.now c.in_ok-check_future.ensures

pub check_sizes-requires-clause-bounded_past : goal.check_sizes-requires-clause-bounded_past
check_sizes-requires-clause-bounded_past c = bounded_past c.args.program.now c.in_ok-check_past.ensures

pub check_sizes-requires-clause-reported : goal.check_sizes-requires-clause-reported
check_sizes-requires-clause-reported c = reported c.args.program.now c.in_ok-check_outputs.ensures
