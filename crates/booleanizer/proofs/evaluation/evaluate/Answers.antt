use Rattle.std.proofs.Common.{◌≡◌, get_or, arith, rules}
use Rattle.std.specs.Prelude.{FitsSigned}
use Rattle.std.specs.Int.{w64}
use Rattle.std.proofs.lemmas.Int.{to_z-of_z}
use Rattle.mltl_base.specs.declared.operators.BzOp.TheVariants.{Column}
use Rattle.booleanizer.proofs.Evaluating.{none-computed, own-default, can_at, can_apply, agree-at, computed-more}
use Rattle.mltl_base.specs.Programs.{expressions}
use Rattle.std.proofs.Common.{take, length}
use Rattle.booleanizer.proofs.evaluation.evaluate.Goals as goal

pub loop-i-init : goal.loop-i-init
loop-i-init g c = record { computed = none-computed c.args.row.now; counted = omega arith }

pub result_of-number-requires : goal.result_of-number-requires
result_of-number-requires g c =
    let ops = c.args.ops.now in
    let i = c.loop-i.i in
    let op = get_or ops i (Column 0) in
    let len : length c.loop-i.numbers ≡ length ops = omega (arith, c.requires.len) in
    can_apply c.args.row.now (expressions (take i ops)) c.loop-i.numbers (agree-at c.args.row.now ops c.loop-i.numbers i (omega arith) len c.loop-i.invariant.computed) op
    (can_at c.args.row.now ops i op c.requires.can c.loop-i-test.true (own-default ops i (Column 0) c.loop-i-test.true))

pub loop-i-preserved : goal.loop-i-preserved
loop-i-preserved g c =
    let ops = c.args.ops.now in
    let i = c.loop-i.i in
    let op = get_or ops i (Column 0) in
    let len : length c.loop-i.numbers ≡ length ops = omega (arith, c.requires.len) in
    let fits : FitsSigned w64 c.result_of-number.result = search rules in
    record {
      computed = rw (to_z-of_z w64 c.result_of-number.result fits) (computed-more c.args.row.now ops c.loop-i.numbers i op c.result_of-number.result c.loop-i-test.true len (own-default ops i (Column 0) c.loop-i-test.true) c.requires.can c.result_of-number.ensures c.loop-i.invariant.computed);
      counted = omega (arith, c.loop-i.invariant.counted, c.tick.ensures);
    }
