use Rattle.mltl_simplify.proofs.Forms.{simp_atoms, simp_bounded, simp_future, simp_ordered, simp_past}
use Rattle.mltl_simplify.proofs.Signals.{simp_kinds, simp_over}
use Rattle.mltl_simplify.proofs.laws.simplified_formulas_keep_their_form.Goals as goal

pub returns-clause-ordered : goal.returns-clause-ordered
returns-clause-ordered c = simp_ordered

pub returns-clause-bounded : goal.returns-clause-bounded
returns-clause-bounded c = simp_bounded

pub returns-clause-past : goal.returns-clause-past
returns-clause-past c = simp_past

pub returns-clause-future : goal.returns-clause-future
returns-clause-future c = simp_future

pub returns-clause-atoms : goal.returns-clause-atoms
returns-clause-atoms c = simp_atoms

pub returns-clause-kinds : goal.returns-clause-kinds
returns-clause-kinds c = simp_kinds

pub returns-clause-over : goal.returns-clause-over
returns-clause-over c = simp_over
