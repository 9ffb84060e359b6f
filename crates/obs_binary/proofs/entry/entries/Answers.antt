use Rattle.std.proofs.Common.{length-append, arith, refl}
use Rattle.std.proofs.lemmas.Result.{err_from_is_err_and}
use Rattle.obs_binary.specs.Reading.{entry_at, each_at}
use Rattle.obs_binary.proofs.Steps.{each_at-more, each_at-fails, each_at-done}
use Rattle.obs_binary.proofs.entry.entries.Goals as goal

pub returns-in_err-entry-clause-read : goal.returns-in_err-entry-clause-read
returns-in_err-entry-clause-read g c =
    let read = entry_at g.X.Entry.LEN g.X.Entry.spelled g.X.Entry.content c.args.size in
    let p = err_from_is_err_and c.from_residual-in_err-entry.result c.from_residual-in_err-entry.ensures.1 in
    rw (p.1, p.2) (each_at-fails read c.args.count (each_at read c.args.count c.args.bytes.now) c.loop.found.items c.loop.counter c.loop.rest.now c.in_err-entry.field-0.0 c.loop-test.true c.in_err-entry.ensures.read c.loop.invariant.read)

pub loop-preserved : goal.loop-preserved
loop-preserved g c =
    let read = entry_at g.X.Entry.LEN g.X.Entry.spelled g.X.Entry.content c.args.size in
    record {
      read = rw c.push_reserved.ensures.items (each_at-more read c.args.count (each_at read c.args.count c.args.bytes.now) c.loop.found.items c.loop.counter c.loop.rest.now c.in_ok-entry.entry c.in_ok-entry.after.now c.loop-test.true c.in_ok-entry.ensures.read c.loop.invariant.read);
      count = rw c.push_reserved.ensures.items (simp length-append (omega (arith, c.loop.invariant.count)));
      len = omega (arith, c.push_reserved.ensures.len, c.loop.invariant.len);
      room = rw (c.push_reserved.ensures.capacity, c.loop.invariant.room) refl;
      enough = rw c.push_reserved.ensures.capacity c.loop.invariant.enough;
      left = omega (arith, c.in_ok-entry.ensures.left);
    }

pub returns-clause-read : goal.returns-clause-read
returns-clause-read g c =
    let read = entry_at g.X.Entry.LEN g.X.Entry.spelled g.X.Entry.content c.args.size in
    rw c.of.ensures (each_at-done read c.args.count (each_at read c.args.count c.args.bytes.now) c.loop.found.items c.loop.counter c.loop.rest.now c.loop-test.false c.loop.invariant.read)
