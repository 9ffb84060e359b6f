-- The verdicts of a tree are those of the operator at its top over those of its operands.
use Rattle.mltl_oracle.proofs.Shaping.{ok_same, atom_verdicts, not_verdicts, logic_verdicts, window_verdicts, between_verdicts}
use Rattle.mltl_oracle.proofs.verdict.+verdicts.Goals as goal

pub returns-in-Atom-clause-known : goal.returns-in-Atom-clause-known
returns-in-Atom-clause-known t c = rw c.in-Atom.is (ok_same _ _ _ c.truths.ensures.known (atom_verdicts _ _))

pub returns-in_ok-ps-in-Not-clause-known : goal.returns-in_ok-ps-in-Not-clause-known
returns-in_ok-ps-in-Not-clause-known t c = rw c.in-Not.is (ok_same _ _ _ c.front.ensures.known (not_verdicts _ _ _ _ c.in_ok-ps-in-Not.ensures.known c.deref.ensures))

pub returns-in_ok-qs-in-Logic-clause-known : goal.returns-in_ok-qs-in-Logic-clause-known
returns-in_ok-qs-in-Logic-clause-known t c = rw c.in-Logic.is (ok_same _ _ _ c.front-in-Logic.ensures.known (logic_verdicts _ _ _ _ _ _ _ _ c.in_ok-ps-in-Logic.ensures.known c.in_ok-qs-in-Logic.ensures.known c.deref-in-Logic.ensures c.deref-in-Logic-2.ensures))

pub returns-in_ok-ps-in-Window-clause-known : goal.returns-in_ok-ps-in-Window-clause-known
returns-in_ok-ps-in-Window-clause-known t c = rw c.in-Window.is (ok_same _ _ _ c.front-in-Window.ensures.known (window_verdicts _ _ _ _ _ _ c.in_ok-ps-in-Window.ensures.known c.deref-in-Window.ensures))

pub returns-in_ok-qs-in-Between-clause-known : goal.returns-in_ok-qs-in-Between-clause-known
returns-in_ok-qs-in-Between-clause-known t c = rw c.in-Between.is (ok_same _ _ _ c.front-in-Between.ensures.known (between_verdicts _ _ _ _ _ _ _ _ _ c.in_ok-ps-in-Between.ensures.known c.in_ok-qs-in-Between.ensures.known c.deref-in-Between.ensures c.deref-in-Between-2.ensures))
