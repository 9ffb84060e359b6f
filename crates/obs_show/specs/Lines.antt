-- A specification in its plainest form: signals, defined names of one operator each, and outputs.

use Rattle.std.specs.Prelude.{ℕ, ℤ, Bool, Option, List}
use Rattle.mltl_base.specs.declared.interval.Engine.{Engine}
use Rattle.mltl_base.specs.declared.interval.Interval.{Interval}
use Rattle.mltl_base.specs.declared.operators.ArithOp.{ArithOp}
use Rattle.mltl_base.specs.declared.operators.BetweenOp.{BetweenOp}
use Rattle.mltl_base.specs.declared.operators.CompareOp.{CompareOp}
use Rattle.mltl_base.specs.declared.operators.LogicOp.{LogicOp}

-- an operand: true, a signal's or a defined name, or a number
pub data Reference : Type 0 where
  always : Reference
  named : List ℕ → Reference
  number : ℤ → Reference

-- one operator over operands
pub data Form : Type 0 where
  minus : Reference → Form
  arith : ArithOp → Reference → Reference → Form
  compare : CompareOp → Reference → Reference → Form
  negation : Reference → Form
  logic : LogicOp → Reference → Reference → Form
  between : BetweenOp → Interval → Reference → Reference → Form

-- a line: a signal, Boolean or not; a defined name; an output of an engine with its label, if it has one
pub data Line : Type 0 where
  input : List ℕ → Bool → Line
  define : List ℕ → Form → Line
  formula : Engine → Option (List ℕ) → Reference → Line
  contract : Engine → Option (List ℕ) → Reference → Reference → Line
