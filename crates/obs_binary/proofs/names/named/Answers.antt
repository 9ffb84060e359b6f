use Rattle.std.proofs.Common.{◌≡◌, length, arith, refl, sym}
use Rattle.obs_binary.specs.Reading.{named}
use Rattle.obs_binary.proofs.Steps.{named-more, named-fails, named-over, named-done}
use Rattle.obs_binary.proofs.names.named.Goals as goal

pub returns-in_default : goal.returns-in_default
returns-in_default g c =
    let total = named g.H.Head.name_len g.H.Head.with_name g.H.Head.fault 0 c.args.heads.now c.args.names.now in
    let h = rw c.name_len.ensures at c.in_default.ensures in
    rw c.fault.ensures (named-fails g.H.Head.name_len g.H.Head.with_name g.H.Head.fault c.args.heads.now total c.loop-k.wholes.items c.loop-k.k c.loop-k.rest.now c.index-heads-k.result c.loop-k-test.true c.index-heads-k.is h c.loop-k.invariant.read)

pub loop-k-preserved : goal.loop-k-preserved
loop-k-preserved g c =
    let total = named g.H.Head.name_len g.H.Head.with_name g.H.Head.fault 0 c.args.heads.now c.args.names.now in
    let h = rw c.name_len.ensures at c.in-Some.ensures in
    record {
      read = rw (c.push_reserved.ensures.items, c.with_name.ensures, h.1, h.2) (named-more g.H.Head.name_len g.H.Head.with_name g.H.Head.fault c.args.heads.now total c.loop-k.wholes.items c.loop-k.k c.loop-k.rest.now c.index-heads-k.result c.loop-k-test.true c.index-heads-k.is h.0 c.loop-k.invariant.read);
      len = omega (arith, c.push_reserved.ensures.len, c.loop-k.invariant.len);
      room = rw (c.push_reserved.ensures.capacity, c.loop-k.invariant.room) refl;
      enough = rw c.push_reserved.ensures.capacity c.loop-k.invariant.enough;
    }

pub returns-then-not-is_empty : goal.returns-then-not-is_empty
returns-then-not-is_empty g c =
    let total = named g.H.Head.name_len g.H.Head.with_name g.H.Head.fault 0 c.args.heads.now c.args.names.now in
    let end : length c.args.heads.now ≡ c.loop-k.k = omega arith in
    rw (c.fault-then-not-is_empty.ensures, end) (named-over g.H.Head.name_len g.H.Head.with_name g.H.Head.fault c.args.heads.now total c.loop-k.wholes.items c.loop-k.k c.loop-k.rest.now end (sym c.if-not-is_empty.ensures) c.loop-k.invariant.read)

pub returns : goal.returns
returns g c =
    let total = named g.H.Head.name_len g.H.Head.with_name g.H.Head.fault 0 c.args.heads.now c.args.names.now in
    rw c.of.ensures (named-done g.H.Head.name_len g.H.Head.with_name g.H.Head.fault c.args.heads.now total c.loop-k.wholes.items c.loop-k.k c.loop-k.rest.now (omega arith) (sym c.if-not-is_empty.ensures) c.loop-k.invariant.read)
