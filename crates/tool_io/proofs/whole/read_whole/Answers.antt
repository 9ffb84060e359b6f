-- Each read adds its piece to what was taken, and the last one meets the end.
use Rattle.std.proofs.Common.{◌≡◌, ◌++◌, take, false, arith, ◌∙◌}
use Rattle.std.proofs.lemmas.List.{length-take-le, length-append}
use Rattle.std.proofs.lemmas.Result.{err_from_is_err_and}
use Rattle.tool_io.proofs.WholeLaws.{Takes-more, Takes-end}
use Rattle.tool_io.proofs.whole.read_whole.Goals as goal

pub returns-then-limit-len-clause-log : goal.returns-then-limit-len-clause-log
returns-then-limit-len-clause-log g c =
    let was = c.loop-n.invariant in
    let got = c.in-Bytes.ensures in
    let more = Takes-more _ _ _ c.args.place c.loop-n.whole.items c.read.new.into c.in-Bytes.n false got.range.0 got.range.1 was.log got.log in
    record {
      events = more.events;
      appended = more.appended;
      holds = (_, more.holds, omega (arith, length-append c.loop-n.whole.items (take c.in-Bytes.n c.read.new.into), length-take-le c.in-Bytes.n c.read.new.into got.range.1));
    }

pub loop-n-preserved : goal.loop-n-preserved
loop-n-preserved g c =
    let was = c.loop-n.invariant in
    let got = c.in-Bytes.ensures in
    let pushed : c.extend_from_slice.new.self.items ≡ c.loop-n.whole.items ++ take c.in-Bytes.n c.read.new.into = c.in_ok-extend_from_slice-in-Bytes.ensures.items in
    let more = Takes-more _ _ _ c.args.place c.loop-n.whole.items c.read.new.into c.in-Bytes.n false got.range.0 got.range.1 was.log got.log in
    rw pushed
    record {
      in_limit = omega (arith, length-append c.loop-n.whole.items (take c.in-Bytes.n c.read.new.into), length-take-le c.in-Bytes.n c.read.new.into got.range.1);
      no_fault = λ place. got.cause place ∙ was.no_fault place;
      log = more;
      elsewhere = λ other differs. got.elsewhere other differs ∙ was.elsewhere other differs;
    }

pub returns-in_err-extend_from_slice-in-Bytes-clause-log :
    goal.returns-in_err-extend_from_slice-in-Bytes-clause-log
returns-in_err-extend_from_slice-in-Bytes-clause-log g c =
    let was = c.loop-n.invariant in
    let got = c.in-Bytes.ensures in
    let more = Takes-more _ _ _ c.args.place c.loop-n.whole.items c.read.new.into c.in-Bytes.n false got.range.0 got.range.1 was.log got.log in
    let fault = err_from_is_err_and c.from_residual.result c.from_residual.ensures.1 in
    rw (fault.1, fault.2)
    record {
      events = more.events;
      appended = more.appended;
      holds = (_, more.holds, omega (arith, length-append c.loop-n.whole.items (take c.in-Bytes.n c.read.new.into), length-take-le c.in-Bytes.n c.read.new.into got.range.1));
    }

pub returns-in-End-clause-log : goal.returns-in-End-clause-log
returns-in-End-clause-log g c =
    let more = Takes-end _ _ _ c.args.place c.loop-n.whole.items false c.loop-n.invariant.log c.in-End.ensures.log in
    record {
      events = more.events;
      appended = more.appended;
      holds = (more.holds, c.loop-n.invariant.in_limit);
    }
