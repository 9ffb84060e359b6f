use Rattle.std.proofs.Common.{◌≡◌, not, filter}
use Rattle.std.specs.List.{range_with_len}
use Rattle.obs_show.specs.Naming.{is_signal_name, numbered_name}
use Rattle.obs_show.proofs.names.free_numbers.Given as goal

abbrev pub invariant-loop-n : goal.invariant-loop-n
invariant-loop-n l = l.numbers.items ≡ filter (λ k. not (is_signal_name l.signals (numbered_name k))) (range_with_len 0 l.n)
