-- Strong Kleene logic (Kleene 1938): a value is known to be true, known to be false, or unknown, which is `None`.
-- A reader of the contracts needs this file: verdicts that are known are Kleene values.

use Rattle.std.specs.Prelude.{ℕ, zero, suc, ◌+◌, ◌-◌, Bool, true, false, not, ◌&&◌, ◌||◌, Option, Some, None}

-- some i below n has f
unfoldable pub some_below : ℕ → (ℕ → Bool) → Bool
some_below zero f = false
some_below (suc n) f = some_below n f || f n

-- every i below n has f
unfoldable pub every_below : ℕ → (ℕ → Bool) → Bool
every_below zero f = true
every_below (suc n) f = every_below n f && f n

-- some i from lo on and below hi has f
abbrev pub some_in : ℕ → ℕ → (ℕ → Bool) → Bool
some_in lo hi f = some_below (hi - lo) (λ k. f (lo + k))

-- every i from lo on and below hi has f
abbrev pub every_in : ℕ → ℕ → (ℕ → Bool) → Bool
every_in lo hi f = every_below (hi - lo) (λ k. f (lo + k))

-- not: unknown stays unknown
unfoldable pub k_not : Option Bool → Option Bool
k_not None = None
k_not (Some v) = Some (not v)

-- and: false if one is false, else unknown if one is unknown
unfoldable pub k_and : Option Bool → Option Bool → Option Bool
k_and (Some true) y = y
k_and (Some false) y = Some false
k_and None (Some false) = Some false
k_and None (Some true) = None
k_and None None = None

-- or: not (not x and not y), so true if one is true, else unknown if one is unknown
unfoldable pub k_or : Option Bool → Option Bool → Option Bool
k_or x y = k_not (k_and (k_not x) (k_not y))

-- implies: not (x and not y)
abbrev pub k_implies : Option Bool → Option Bool → Option Bool
k_implies x y = k_not (k_and x (k_not y))

-- the known value of "some i below n has f": false if n is 0
unfoldable pub k_some_below : ℕ → (ℕ → Option Bool) → Option Bool
k_some_below zero f = Some false
k_some_below (suc n) f = k_or (k_some_below n f) (f n)

-- the known value of "every i below n has f": true if n is 0
unfoldable pub k_every_below : ℕ → (ℕ → Option Bool) → Option Bool
k_every_below zero f = Some true
k_every_below (suc n) f = k_and (k_every_below n f) (f n)

-- the known value of "some i from lo on and below hi has f"
abbrev pub k_some_in : ℕ → ℕ → (ℕ → Option Bool) → Option Bool
k_some_in lo hi f = k_some_below (hi - lo) (λ k. f (lo + k))

-- the known value of "every i from lo on and below hi has f"
abbrev pub k_every_in : ℕ → ℕ → (ℕ → Option Bool) → Option Bool
k_every_in lo hi f = k_every_below (hi - lo) (λ k. f (lo + k))
