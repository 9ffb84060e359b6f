use Rattle.std.proofs.Common.{◌≡◌, drop, take}
use Rattle.r2u2_c.specs.Batches.{TellsEach}
use Rattle.r2u2_c.specs.Reports.{style_of}
use Rattle.r2u2_c.proofs.batches.fill.Given as goal

-- so many reports were told
abbrev pub invariant-loop-k : goal.invariant-loop-k
invariant-loop-k l = record {
  told : TellsEach (style_of l.runs) (take l.k l.reports) l.initial.monitor l.monitor;
  rest : drop l.k l.reports ≡ drop l.k l.initial.reports;
}
