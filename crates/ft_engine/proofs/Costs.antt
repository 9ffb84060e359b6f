-- What a condition counts for, in the steps that are left of a row.
use Rattle.std.proofs.Common.{◌≡◌, ℕ, ◌<◌, ◌≤◌, arith, nat_lt, if◌then◌else◌}
use Rattle.std.proofs.lemmas.Bool.Decides.{nat_tests}

-- it counts where it holds
pub counts : (n a b : ℕ) → a < b → (if nat_lt a b then n else 0) ≡ n
counts n a b h = grind (arith, nat_tests)

pub counts_not : (n a b : ℕ) → b ≤ a → (if nat_lt a b then n else 0) ≡ 0
counts_not n a b h = grind (arith, nat_tests)

-- and at most so much
pub counts_most : (n a b : ℕ) → (if nat_lt a b then n else 0) ≤ n
counts_most n a b = grind (arith, nat_tests)

-- the nearer, the less
pub counts_less : (n a a' b : ℕ) → a ≤ a' → (if nat_lt a' b then n else 0) ≤ (if nat_lt a b then n else 0)
counts_less n a a' b h = grind (arith, nat_tests)
