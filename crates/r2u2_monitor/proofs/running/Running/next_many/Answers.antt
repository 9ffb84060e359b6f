use Rattle.std.proofs.Common.{◌≡◌, ◌<◌, ◌+◌, refl, ap, sym, subst, take, length, ◌∙◌, arith}
use Rattle.std.proofs.lemmas.List.{drop-set-lt, take_more_set}
use Rattle.std.proofs.lemmas.Grind.{drop_more_same}
use Rattle.r2u2_monitor.specs.declared.running.Running.{Running}
use Rattle.r2u2_monitor.specs.Running.{IsDrained, YieldsMany}
use Rattle.r2u2_monitor.proofs.Giving.{yields_more, yields_none}
use Rattle.r2u2_monitor.proofs.Telling.{drained_in_all}
use Rattle.r2u2_monitor.proofs.running.Running.next_many.Goals as goal

pub loop-k-init : goal.loop-k-init
loop-k-init g c = record { yields = yields_none c.args.style c.args.self.now; cursor = c.requires.cursor; rest = refl; counted = omega arith }

pub next-requires-clause-some : goal.next-requires-clause-some
next-requires-clause-some g c = (c.requires.some.0, c.loop-k.invariant.yields.stands c.requires.some.0 c.requires.some.1)

pub next-requires-clause-early : goal.next-requires-clause-early
next-requires-clause-early g c = omega (arith, c.requires.early, ap (λ (r : Running). r.taken) c.loop-k.invariant.yields.moved)

pub returns-in-None-clause-yields : goal.returns-in-None-clause-yields
returns-in-None-clause-yields g c =
    subst (YieldsMany c.args.style (take c.loop-k.k c.loop-k.reports) c.args.self.now) (sym (c.in-None.ensures.yields.none refl)) c.loop-k.invariant.yields

pub returns-in-None-clause-written : goal.returns-in-None-clause-written
returns-in-None-clause-written g c = record { within = omega arith; rest = c.loop-k.invariant.rest }

pub returns-in-None-clause-drained : goal.returns-in-None-clause-drained
returns-in-None-clause-drained g c = λ fewer.
    subst IsDrained (sym (c.in-None.ensures.yields.none refl)) (drained_in_all c.loop-k.self c.args.style c.in-None.ensures.yields.first)

pub returns-in-None-clause-counted : goal.returns-in-None-clause-counted
returns-in-None-clause-counted g c =
    let outs : length c.loop-k.self.checked.outs ≡ length c.args.self.now.checked.outs = ap (λ (r : Running). length r.checked.outs) c.loop-k.invariant.yields.moved in
    omega (arith, c.loop-k.invariant.counted, c.in-None.ensures.counted, outs)

pub loop-k-preserved : goal.loop-k-preserved
loop-k-preserved g c =
    let k = c.loop-k.k in
    let reports = c.loop-k.reports in
    let inside : k < length reports = omega (arith, c.loop-k-test.true, c.loop-k.auto.reports) in
    let outs : length c.loop-k.self.checked.outs ≡ length c.args.self.now.checked.outs = ap (λ (r : Running). length r.checked.outs) c.loop-k.invariant.yields.moved in
    record {
      yields = rw (take_more_set reports k c.in-Some.report inside)
          (yields_more c.args.style (take k reports) c.in-Some.report c.args.self.now c.loop-k.self c.next.new.self c.loop-k.invariant.yields c.in-Some.ensures.yields);
      cursor = c.in-Some.ensures.cursor;
      rest = drop-set-lt (k + 1) reports k c.in-Some.report (omega arith) ∙ drop_more_same reports c.args.reports.now k c.loop-k.invariant.rest;
      counted = omega (arith, c.loop-k.invariant.counted, c.in-Some.ensures.counted, outs);
    }
