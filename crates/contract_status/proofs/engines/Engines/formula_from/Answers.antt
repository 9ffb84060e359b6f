use Rattle.std.proofs.Common.{true, false, refl}
use Rattle.mltl_base.specs.Formula.{plain}
use Rattle.mltl_base.specs.Programs.{formula_at}
use Rattle.contract_status.specs.Stretches.{known_verdicts}
use Rattle.contract_status.proofs.Knowing.{formula_ends, formula_lasts, stretch_as}
use Rattle.contract_status.proofs.engines.Engines.formula_from.Goals as goal

pub returns-in-Run-default-true : goal.returns-in-Run-default-true
returns-in-Run-default-true c = record {
  shows = λ program rows taken.
      let run = c.in-Run-default-true in
      formula_lasts rows (plain (formula_at program c.args.engine c.args.i)) c.args.from run.last true
      (stretch_as (known_verdicts program rows c.args.engine c.args.i) c.args.from run.last run.last run.field-1 true refl run.field-1-test (run.ensures.shows program rows taken));
}

pub returns-in-Run-default-false : goal.returns-in-Run-default-false
returns-in-Run-default-false c = record {
  shows = λ program rows taken.
      let run = c.in-Run-default-false in
      formula_lasts rows (plain (formula_at program c.args.engine c.args.i)) c.args.from run.last false
      (stretch_as (known_verdicts program rows c.args.engine c.args.i) c.args.from run.last run.last run.field-1 false refl run.field-1-test (run.ensures.shows program rows taken));
}

pub returns-in-Nothing : goal.returns-in-Nothing
returns-in-Nothing c = record {
  shows = λ program rows taken. formula_ends rows (plain (formula_at program c.args.engine c.args.i)) c.args.from (c.in-Nothing.ensures.shows program rows taken);
}
