use Rattle.std.proofs.Common.{false, refl}
use Rattle.mltl_base.specs.Formula.{plain}
use Rattle.mltl_base.specs.Programs.{formula_at}
use Rattle.contract_status.specs.Stretches.{known_verdicts}
use Rattle.contract_status.proofs.Knowing.{contract_ends, contract_inactive, stretch_as}
use Rattle.contract_status.proofs.engines.Engines.contract_from.Goals as goal

pub returns-in-Run-default-false : goal.returns-in-Run-default-false
returns-in-Run-default-false c = record {
  shows = λ program rows taken reach.
      let engine = c.args.engine in let run = c.in-Run-default-false in
      contract_inactive rows (plain (formula_at program engine c.args.i)) (plain (formula_at program engine c.args.j)) c.args.from run.last reach
      (stretch_as (known_verdicts program rows engine c.args.i) c.args.from run.last run.last run.field-1 false refl run.field-1-test (run.ensures.shows program rows taken));
}

pub returns-in-Nothing : goal.returns-in-Nothing
returns-in-Nothing c = record {
  shows = λ program rows taken reach.
      contract_ends rows (plain (formula_at program c.args.engine c.args.i)) (plain (formula_at program c.args.engine c.args.j)) c.args.from (c.in-Nothing.ensures.shows program rows taken);
}
