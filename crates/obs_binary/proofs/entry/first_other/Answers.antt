use Rattle.std.proofs.Common.{◌∙◌, sym, arith}
use Rattle.obs_binary.proofs.Others.{first_other-same, first_other-here, first_other-end}
use Rattle.obs_binary.proofs.entry.first_other.Goals as goal

pub returns-then-bytes-i : goal.returns-then-bytes-i
returns-then-bytes-i c =
    sym (first_other-here c.args.offset c.loop-i.i c.args.musts.now c.args.bytes.now (omega arith) (omega arith) c.if-bytes-i.true) ∙ c.loop-i.invariant

pub loop-i-preserved : goal.loop-i-preserved
loop-i-preserved c =
    first_other-same c.args.offset c.loop-i.i c.args.musts.now c.args.bytes.now (omega arith) (omega arith) c.if-bytes-i.false ∙ c.loop-i.invariant

pub returns : goal.returns
returns c =
    sym (first_other-end c.args.offset c.loop-i.i c.args.musts.now c.args.bytes.now (omega arith)) ∙ c.loop-i.invariant
