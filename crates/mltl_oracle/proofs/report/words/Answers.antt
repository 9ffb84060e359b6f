-- The words of an output are those of its formulas' verdicts.
use Rattle.mltl_oracle.proofs.Shaping.{ok_same}
use Rattle.mltl_oracle.proofs.Rows.{formula_words, contract_words}
use Rattle.mltl_oracle.proofs.report.words.Goals as goal

pub returns-in_ok-vs-in-Formula-clause-known : goal.returns-in_ok-vs-in-Formula-clause-known
returns-in_ok-vs-in-Formula-clause-known c = rw c.in-Formula.is (ok_same _ _ _ c.named.ensures.known (formula_words _ _ _ c.in_ok-vs-in-Formula.ensures.known))

pub returns-in_ok-qs-in-Contract-clause-known : goal.returns-in_ok-qs-in-Contract-clause-known
returns-in_ok-qs-in-Contract-clause-known c = rw c.in-Contract.is (ok_same _ _ _ c.statuses.ensures.known (contract_words _ _ _ _ _ c.in_ok-ps-in-Contract.ensures.known c.in_ok-qs-in-Contract.ensures.known))
