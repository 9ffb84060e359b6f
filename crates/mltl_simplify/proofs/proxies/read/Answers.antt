use Rattle.std.proofs.Common.{◌<◌, length, arith}
use Rattle.mltl_simplify.proofs.Placing.{one_more}
use Rattle.mltl_simplify.proofs.proxies.read.Goals as goal

pub loop-i-preserved : goal.loop-i-preserved
loop-i-preserved c =
    let inside : c.loop-i.i < length c.args.nodes.now = omega arith in
    one_more c.args.nodes.now c.loop-i.simple c.place_of.new.simple c.loop-i.i c.loop-i.proxies.items c.push.new.self.items (record { place = c.in_ok-place.place; number = c.number_of-number.result })
    inside c.loop-i.invariant c.in_ok-place.ensures c.number_of-number.ensures c.in_ok-push.ensures.items
