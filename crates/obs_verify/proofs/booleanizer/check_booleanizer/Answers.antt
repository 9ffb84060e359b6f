use Rattle.std.proofs.Common.{◌≡◌, ◌∙◌, ap, sym, None, ◌+◌, List, length, slice_index_or}
use Rattle.std.proofs.lemmas.Result.{err_from_is_err_and}
use Rattle.mltl_base.specs.declared.operators.BzOp.{BzOp}
use Rattle.mltl_base.specs.declared.operators.BzOp.TheVariants.{Column}
use Rattle.mltl_base.specs.Programs.{expressions, term_at}
use Rattle.mltl_base.specs.Ranges.{range}
use Rattle.obs_verify.specs.WellFormed.{first_in, bz_fault}
use Rattle.obs_verify.proofs.ExpressionLaws.{bz_rule, ranges_push}
use Rattle.obs_verify.proofs.RuleLaws.{first_all, first_here, first_more}
use Rattle.obs_verify.proofs.booleanizer.check_booleanizer.Goals as goal

pub returns-in_err-range : goal.returns-in_err-range
returns-in_err-range c =
    let p = err_from_is_err_and c.from_residual-in_err-range.result c.from_residual-in_err-range.ensures.1 in
    let items : List BzOp = c.as_slice-op-items.result.now in
    let here : length c.deref.result.now ≡ c.loop-op.op-index = c.deref.ensures.len ∙ c.loop-op.invariant.long in
    rw (p.1, p.2) (λ other. ap (first_in (bz_fault c.args.program.now) 0) (sym c.as_slice-op-items.ensures) ∙ sym c.loop-op.invariant.passed
    ∙ first_here (bz_fault c.args.program.now) items c.loop-op.op-index (Column 0) c.in_err-range.field-0.0 c.loop-op-test.true
    (bz_rule c.args.program.now (length c.deref.result.now) c.loop-op.op-index (slice_index_or items c.loop-op.op-index (Column 0)) _ here (c.in_err-range.ensures.answer other)))

pub loop-op-preserved : goal.loop-op-preserved
loop-op-preserved c =
    let items : List BzOp = c.as_slice-op-items.result.now in
    let here : length c.deref.result.now ≡ c.loop-op.op-index = c.deref.ensures.len ∙ c.loop-op.invariant.long in
    record {
      passed = sym (first_more (bz_fault c.args.program.now) items c.loop-op.op-index (Column 0) c.loop-op-test.true
          (bz_rule c.args.program.now (length c.deref.result.now) c.loop-op.op-index (slice_index_or items c.loop-op.op-index (Column 0)) None here c.in_ok-range.ensures.answer)) ∙ c.loop-op.invariant.passed;
      long = c.push_reserved.ensures.len ∙ ap (λ n. n + 1) c.loop-op.invariant.long;
      known = ranges_push c.args.program.now.bz c.loop-op.before.items c.push_reserved.new.self.items c.in_ok-range.range c.push_reserved.ensures.items c.loop-op.invariant.known
          (ap (λ ranges. range (term_at (expressions c.args.program.now.bz) (length ranges))) (sym c.deref.ensures.value) ∙ c.in_ok-range.ensures.range);
      enough = rw c.push_reserved.ensures.capacity c.loop-op.invariant.enough;
    }

pub returns : goal.returns
returns c = ap (first_in (bz_fault c.args.program.now) 0) (sym c.as_slice-op-items.ensures) ∙ sym c.loop-op.invariant.passed
    ∙ first_all (bz_fault c.args.program.now) c.as_slice-op-items.result.now c.loop-op.op-index c.loop-op-test.false
