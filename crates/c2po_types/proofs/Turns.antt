-- Steps one after another, where the first fault decides.
use Rattle.std.proofs.Common.{◌≡◌, ℕ, suc, ◌+◌, ◌≤◌, ◌<◌, List, [], ◌∷◌, map, length, drop, get_or, Ok, Err, refl, sym, ap, subst, ◌∙◌}
use Rattle.std.proofs.Math.ListN.{drop_of_length-le}
use Rattle.std.proofs.Math.Seq.{drop-cons}
use Rattle.std.proofs.Math.Numerals.{suc-eq-add-one}
use Rattle.c2po_types.specs.declared.fault.TypeFault.{TypeFault}
use Rattle.c2po_types.specs.declared.fault.TypeFault.TheVariants.{Memory}
use Rattle.c2po_types.specs.Checking.{Checked, ◌>>=◌, Fails, in_turn}

-- the front of what is left
pub drop-first : {X : Type 0} (xs : List X) (n : ℕ) (x : X) → n < length xs → x ≡ get_or xs n x → drop n xs ≡ x ∷ drop (n + 1) xs
drop-first xs n x less here = drop-cons xs n x less ∙ ap (λ y. y ∷ drop (suc n) xs) (sym here) ∙ ap (λ m. x ∷ drop m xs) (suc-eq-add-one n)

-- a fault of the first part is one of the whole
pub fails-bind : {X Y : Type 0} (fault : TypeFault) (m : Checked X) (f : X → Checked Y) → Fails fault m → Fails fault (m >>= f)
fails-bind Memory m f h = tt
fails-bind fault m f h = ap (λ r. r >>= f) h

-- steps on what a view shows
pub turn-map : {X Y S : Type 0} (step : Y → S → Checked S) (view : X → Y) (xs : List X) (s : S) → in_turn (λ x. step (view x)) xs s ≡ in_turn step (map view xs) s
turn-map step view [] s = refl
turn-map {S = S} step view (x ∷ xs) s = next (step (view x) s) (turn-map step view xs)
  where
    next : (r : Checked S) → ((t : S) → in_turn (λ x. step (view x)) xs t ≡ in_turn step (map view xs) t)
        → (r >>= in_turn (λ x. step (view x)) xs) ≡ (r >>= in_turn step (map view xs))
    next (Ok t) rest = rest t
    next (Err fault) rest = refl

module _ {X S : Type 0} (step : X → S → Checked S) (xs : List X) (n : ℕ) where
  -- nothing is left
  pub turn-end : (s : S) → length xs ≤ n → in_turn step (drop n xs) s ≡ Ok s
  turn-end s h = ap (λ rest. in_turn step rest s) (drop_of_length-le xs h)

  module _ (x : X) (s : S) (less : n < length xs) (here : x ≡ get_or xs n x) where
    -- one step
    pub turn-more : (more : S) → step x s ≡ Ok more → in_turn step (drop n xs) s ≡ in_turn step (drop (n + 1) xs) more
    turn-more more h = ap (λ rest. in_turn step rest s) (drop-first xs n x less here) ∙ ap (λ r. r >>= in_turn step (drop (n + 1) xs)) h

    -- a step with a fault
    pub turn-fails : (fault : TypeFault) → Fails fault (step x s) → Fails fault (in_turn step (drop n xs) s)
    turn-fails fault h = subst (λ rest. Fails fault (in_turn step rest s)) (sym (drop-first xs n x less here)) (fails-bind fault (step x s) (in_turn step (drop (n + 1) xs)) h)
