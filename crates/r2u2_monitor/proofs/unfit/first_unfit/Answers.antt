use Rattle.std.proofs.Common.{◌≡◌, ◌<◌, arith, rules, refl, subst, sym, length, to_z, of_z, true, false}
use Rattle.std.specs.Int.{w64}
use Rattle.mltl_base.specs.Atoms.{in_column}
use Rattle.trace_feed.specs.declared.fields.Reading.{Reading}
use Rattle.trace_feed.specs.declared.fields.Reading.TheVariants.{Unread}
use Rattle.r2u2_monitor.specs.RowFaults.{CanHold}
use Rattle.r2u2_monitor.proofs.Fitting.{one_more_fits}
use Rattle.r2u2_monitor.proofs.unfit.first_unfit.Goals as goal

pub loop-c-preserved : goal.loop-c-preserved
loop-c-preserved g c = record {
  first = λ reading known.
      let inside : c.loop-c.c < length c.args.readings.now = omega (arith, c.requires.one_each, c.loop-c-test.true) in
      let number : to_z w64 (of_z w64 (in_column c.args.row.now c.loop-c.c)) ≡ in_column c.args.row.now c.loop-c.c = search rules in
      let held = rw number at c.if-not-can_hold.ensures in
      one_more_fits reading c.args.row.now c.loop-c.c (c.loop-c.invariant.first reading known)
      (subst (λ (way : Reading). CanHold way (in_column c.args.row.now c.loop-c.c)) (known c.loop-c.c Unread inside) (held.0 refl));
  counted = omega (arith, c.loop-c.invariant.counted, c.tick.ensures);
}

pub returns-then-not-can_hold-clause-first : goal.returns-then-not-can_hold-clause-first
returns-then-not-can_hold-clause-first g c = λ reading known.
    let inside : c.loop-c.c < length c.args.readings.now = omega (arith, c.requires.one_each, c.loop-c-test.true) in
    let number : to_z w64 (of_z w64 (in_column c.args.row.now c.loop-c.c)) ≡ in_column c.args.row.now c.loop-c.c = search rules in
    let held = rw number at c.if-not-can_hold.ensures in
    record {
      within = omega (arith, c.requires.wide, c.loop-c-test.true);
      unfit = λ fits. absurd (let wrong : false ≡ true = held.1 (subst (λ (way : Reading). CanHold way (in_column c.args.row.now c.loop-c.c)) (sym (known c.loop-c.c Unread inside)) fits) in cc);
      before = c.loop-c.invariant.first reading known;
    }
