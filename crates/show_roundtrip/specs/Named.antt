-- Programs whose names and constants can be written in a specification.

use Rattle.std.specs.Prelude.{◌≡◌, ◌⊎◌, ◌+◌, ℕ, List, [], ◌∷◌, decimal, ⊤}
use Rattle.mltl_base.specs.declared.operators.BzOp as bz
use Rattle.mltl_base.specs.declared.program.Out.{Out}
use Rattle.mltl_base.specs.declared.program.Program.{Program}
use Rattle.mltl_base.specs.declared.program.StoredSignal.{StoredSignal}
use Rattle.mltl_base.specs.Programs.{out_name}
use Rattle.show_roundtrip.specs.Written.{IsName, IsNumeral}

-- each stored signal has a name of the language
abbrev pub AreNamed : List StoredSignal → Type 0
AreNamed [] = ⊤
AreNamed (signal ∷ signals) = IsName signal.name × AreNamed signals

-- each output, counted from k on, has the text of its number or a name of the language as its name
abbrev pub AreLabelled : ℕ → List Out → Type 0
AreLabelled k [] = ⊤
AreLabelled k (out ∷ outs) = ((out_name out ≡ decimal k) ⊎ IsName (out_name out)) × AreLabelled (k + 1) outs

-- the constant, if the instruction is one, is a number of the language, so it isn't negative
abbrev pub HasNoNegative : bz.BzOp → Type 0
HasNoNegative (bz.TheVariants.Const n) = IsNumeral n
HasNoNegative op = ⊤

-- each constant among the instructions is a number of the language
abbrev pub HaveNoNegatives : List bz.BzOp → Type 0
HaveNoNegatives [] = ⊤
HaveNoNegatives (op ∷ ops) = HasNoNegative op × HaveNoNegatives ops

-- the program's signals and outputs have names that can be written, and its constants can be written
pub record HasOwnWords (program : Program) : Type 0 where
  pub signals : AreNamed program.signals
  pub outputs : AreLabelled 0 program.outs
  pub constants : HaveNoNegatives program.bz
