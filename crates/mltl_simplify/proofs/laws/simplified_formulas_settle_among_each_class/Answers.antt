use Rattle.std.specs.Prelude.{◌≡◌, true, All}
use Rattle.mltl_base.specs.Programs.{IsFit}
use Rattle.mltl_simplify.proofs.Delays.{simp_among}
use Rattle.mltl_simplify.proofs.laws.simplified_formulas_settle_among_each_class.Goals as goal

pub returns-clause-tested : goal.returns-clause-tested
returns-clause-tested c = λ test. simp_among (λ more. test more ≡ true)

pub returns-clause-fit : goal.returns-clause-fit
returns-clause-fit c = λ program. simp_among (All (IsFit program))
