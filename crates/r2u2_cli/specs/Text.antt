-- The text of the demo, and its outputs.

use Rattle.std.specs.Prelude.{ℕ, List, [], ◌∷◌, ◌++◌, codes, pos}
use Rattle.mltl_base.specs.declared.interval.Engine.TheVariants.{Ft, Pt}
use Rattle.mltl_base.specs.Atoms.{is_true, column, constant, less}
use Rattle.mltl_base.specs.Formula.{Formula, atom, implication, finally, globally, once}
use Rattle.mltl_base.specs.Reports.{formula, contract}
use Rattle.mltl_base.specs.Subformulas.{Asked}

-- the text of the demo: its signals, a future formula, a formula over integers, a contract, and a past formula
abbrev pub demo_text : List ℕ
demo_text =
    codes "INPUT a, b: bool; x: int;\n"
    ++ codes "FTSPEC resp: a -> F[0,3] b; low: G[0,2] (x < 0); agc: a => F[0,1] b;\n"
    ++ codes "PTSPEC once: O[0,4] a;\n"

-- the formula a: the first signal is true
abbrev pub a : Formula
a = atom (is_true 0)

-- the formula b: the second signal is true
abbrev pub b : Formula
b = atom (is_true 1)

-- the outputs of the text, in its order
abbrev pub demo_outputs : List Asked
demo_outputs =
    record {
      engine = Ft;
      name = codes "resp";
      output = formula (implication a (finally (record { lo = 0; hi = 3 }) b));
    }
    ∷ record {
      engine = Ft;
      name = codes "low";
      output = formula (globally (record { lo = 0; hi = 2 }) (atom (less (column 2) (constant (pos 0)))));
    }
    ∷ record { engine = Ft; name = codes "agc"; output = contract a (finally (record { lo = 0; hi = 1 }) b) }
    ∷ record { engine = Pt; name = codes "once"; output = formula (once (record { lo = 0; hi = 4 }) a) } ∷ []
