-- What is stored of a signal.

use Rattle.std.proofs.Common.{ℕ, Bool, refl}
use Rattle.c2po_types.specs.declared.fact.Fact.{Fact}
use Rattle.c2po_types.specs.declared.values.Stored.{Stored}
use Rattle.c2po_types.specs.declared.unfolding.Unfolding.{Unfolding}
use Rattle.c2po_types.specs.Facts.{Tells}
use Rattle.c2po_types.specs.Summaries.{IsSummary}
use Rattle.c2po_types.specs.Environment.{signal_value}
use Rattle.c2po_types.specs.Holding.{Holds}
use Rattle.c2po_types.specs.Values.{Leaf, leaf, signal, tree_in}

-- a signal that is stored
pub signal_leaf : (u : Unfolding) (s : Stored) (f : Fact) (b : Bool) (n : ℕ) →
    ((l : Leaf) → IsSummary (record { weight = 1; fact = f }) (leaf l) → Holds u s (leaf l)) →
    Tells f (tree_in (signal_value b n)) → Holds u s (signal_value b n)
signal_leaf u s f b n h k = h (signal b n) (record { weight = refl; fact = k })
