use Rattle.std.proofs.Common.{[], ◌∷◌, ◌++◌, List, sym, subst, ap}
use Rattle.std.specs.Prelude.{not}
use Rattle.mltl_base.specs.declared.operators.BzOp.{BzOp}
use Rattle.mltl_base.specs.declared.program.StoredSignal.{StoredSignal}
use Rattle.obs_verify.specs.Kinds.{AreKinds}
use Rattle.obs_verify.specs.Upgrade.{reads}
use Rattle.obs_verify.proofs.UpgradeLaws.{reads_column, reads_none, reads_truth}
use Rattle.obs_verify.proofs.reads.note_read.Goals as goal

pub returns-in-Column-clause-noted : goal.returns-in-Column-clause-noted
returns-in-Column-clause-noted c = λ earlier known fits.
    subst (λ (op : BzOp). AreKinds (reads (earlier ++ op ∷ [])) c.note_column.new.kinds) (sym c.in-Column.is)
    (subst (λ (signals : List StoredSignal). AreKinds signals c.note_column.new.kinds) (sym (reads_column earlier c.in-Column.c)) (c.note_column.ensures.noted (reads earlier) known fits))

pub returns-in-IsTrue-clause-noted : goal.returns-in-IsTrue-clause-noted
returns-in-IsTrue-clause-noted c = λ earlier known fits.
    subst (λ (op : BzOp). AreKinds (reads (earlier ++ op ∷ [])) c.note_column-in-IsTrue.new.kinds) (sym c.in-IsTrue.is)
    (subst (λ (signals : List StoredSignal). AreKinds signals c.note_column-in-IsTrue.new.kinds) (sym (reads_truth earlier c.in-IsTrue.c)) (c.note_column-in-IsTrue.ensures.noted (reads earlier) known fits))

pub returns-in_default : goal.returns-in_default
returns-in_default c =
    let none = reads_none c.args.op.now c.in_default.not-Column c.in_default.not-IsTrue in
    record {
      fits = λ earlier known. sym (ap not (none.fits earlier));
      noted = λ earlier known fits. subst (λ (signals : List StoredSignal). AreKinds signals c.args.kinds.now) (sym (none.same earlier)) known;
    }
