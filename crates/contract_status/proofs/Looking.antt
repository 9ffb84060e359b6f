-- How many outputs a search looks at.

use Rattle.std.proofs.Common.{ℕ, ◌+◌, ◌-◌, ◌≤◌, Option, Some, None, arith}
use Rattle.contract_status.specs.declared.engines.Stretch.{Stretch}
use Rattle.contract_status.specs.Cursors.{LooksOnward}

-- it takes no more steps than there are outputs from its first one on, and one
pub looks_few : (outs first : ℕ) (found : Option (ℕ × Stretch)) (before after : ℕ) → LooksOnward outs first found before after → after ≤ before + (outs - first) + 1
looks_few outs first None before after looks = omega (arith, looks)
looks_few outs first (Some (k, stretch)) before after looks = omega (arith, looks)
