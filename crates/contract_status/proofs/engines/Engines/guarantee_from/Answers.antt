use Rattle.std.proofs.Common.{true, false, min, refl}
use Rattle.mltl_base.specs.declared.report.Word.TheVariants.{Invalid, Verified}
use Rattle.mltl_base.specs.Formula.{plain}
use Rattle.mltl_base.specs.Programs.{formula_at}
use Rattle.contract_status.specs.Stretches.{contract_words, known_verdicts}
use Rattle.contract_status.proofs.Knowing.{contract_decided, contract_waits, stretch_as}
use Rattle.contract_status.proofs.engines.Engines.guarantee_from.Goals as goal

pub returns-in-Run-default-true : goal.returns-in-Run-default-true
returns-in-Run-default-true c = record {
  shows = λ program rows i taken reach first.
      let engine = c.args.engine in let from = c.args.from in let last = c.args.last in let run = c.in-Run-default-true in
      stretch_as (contract_words program rows engine i c.args.j) from (min last run.end) c.min.result Verified Verified c.min.ensures refl
      (contract_decided rows (plain (formula_at program engine i)) (plain (formula_at program engine c.args.j)) from last run.end true reach first
      (stretch_as (known_verdicts program rows engine c.args.j) from run.end run.end run.field-1 true refl run.field-1-test (run.ensures.shows program rows taken)));
}

pub returns-in-Run-default-false : goal.returns-in-Run-default-false
returns-in-Run-default-false c = record {
  shows = λ program rows i taken reach first.
      let engine = c.args.engine in let from = c.args.from in let last = c.args.last in let run = c.in-Run-default-false in
      stretch_as (contract_words program rows engine i c.args.j) from (min last run.end) c.min-in-Run-default-false.result Invalid Invalid c.min-in-Run-default-false.ensures refl
      (contract_decided rows (plain (formula_at program engine i)) (plain (formula_at program engine c.args.j)) from last run.end false reach first
      (stretch_as (known_verdicts program rows engine c.args.j) from run.end run.end run.field-1 false refl run.field-1-test (run.ensures.shows program rows taken)));
}

pub returns-in-Nothing : goal.returns-in-Nothing
returns-in-Nothing c = record {
  shows = λ program rows i taken reach first.
      contract_waits rows (plain (formula_at program c.args.engine i)) (plain (formula_at program c.args.engine c.args.j)) c.args.from c.args.last first (c.in-Nothing.ensures.shows program rows taken);
}
