-- How many times can be apart within a stretch.
use Rattle.std.proofs.Common.{ℕ, ◌+◌, ◌*◌, ◌≤◌, List, [], ◌∷◌, length, arith}
use Rattle.mltl_base.specs.Queues.{AreApart}

-- so many times after the first need so many gaps
pub spread : (gap low top t : ℕ) (ts : List ℕ) → AreApart gap low top (t ∷ ts) → low + gap * length ts ≤ top
unfolding AreApart
spread gap low top t [] h = omega (arith, h.0, h.1)
spread gap low top t (u ∷ ts) h =
    let rest : (t + gap) + gap * length ts ≤ top = spread gap (t + gap) top u ts h.2 in omega (arith, h.0, rest)
