-- The words of the verdicts that the loop has passed.
use Rattle.std.proofs.Common.{◌≡◌, map, take}
use Rattle.mltl_base.specs.Reports.{word_of}
use Rattle.mltl_oracle.proofs.report.named_slice.Given as goal

abbrev pub invariant-loop-v : goal.invariant-loop-v
invariant-loop-v l = l.ws ≡ map word_of (take l.v-index l.vs)
