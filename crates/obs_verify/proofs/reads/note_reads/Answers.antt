use Rattle.std.proofs.lemmas.Bool.{not-false, not-true}
use Rattle.std.proofs.Common.{◌∙◌, sym, refl, false, true, take, subst, List}
use Rattle.std.proofs.lemmas.List.{take_all, take_more}
use Rattle.mltl_base.specs.declared.operators.BzOp.{BzOp}
use Rattle.mltl_base.specs.declared.operators.BzOp.TheVariants.{Column}
use Rattle.obs_verify.specs.Kinds.{AreKinds}
use Rattle.obs_verify.specs.Upgrade.{reads}
use Rattle.obs_verify.proofs.UpgradeLaws.{clash_here, clash_more, clash_none}
use Rattle.obs_verify.proofs.reads.note_reads.Goals as goal

pub returns-then-not-note_read-clause-both : goal.returns-then-not-note_read-clause-both
returns-then-not-note_read-clause-both c =
    let i = c.loop-i.i in
    sym c.loop-i.invariant.passed ∙ clash_here c.args.ops.now i (Column 0) c.loop-i-test.true (not-false _ (sym (c.if-not-note_read.ensures.fits (take i c.args.ops.now) c.loop-i.invariant.kinds)))

pub loop-i-preserved : goal.loop-i-preserved
loop-i-preserved c =
    let i = c.loop-i.i in
    let earlier : List BzOp = take i c.args.ops.now in
    record {
      passed = sym (clash_more c.args.ops.now i (Column 0) c.loop-i-test.true (not-true _ (sym (c.if-not-note_read.ensures.fits earlier c.loop-i.invariant.kinds)))) ∙ c.loop-i.invariant.passed;
      kinds = subst (λ (ops : List BzOp). AreKinds (reads ops) c.note_read.new.kinds) (sym (take_more c.args.ops.now i (Column 0) c.loop-i-test.true))
          (c.if-not-note_read.ensures.noted earlier c.loop-i.invariant.kinds refl);
    }

pub returns-clause-one_way : goal.returns-clause-one_way
returns-clause-one_way c = sym c.loop-i.invariant.passed ∙ clash_none c.args.ops.now c.loop-i.i c.loop-i-test.false

pub returns-clause-kinds : goal.returns-clause-kinds
returns-clause-kinds c =
    subst (λ (ops : List BzOp). AreKinds (reads ops) c.loop-i.kinds) (take_all c.loop-i.i c.args.ops.now c.loop-i-test.false) c.loop-i.invariant.kinds
