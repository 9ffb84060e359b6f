-- What is found by parts, where no part has a fault.
use Rattle.std.proofs.Common.{◌≡◌, Bool, true, false, Result, Ok, Err, refl, sym, subst, if◌then◌else◌}
use Rattle.std.proofs.Common.{ℕ, Option, Some, None}
use Rattle.std.specs.Result.{MatchResult, IsErrAnd}
use Rattle.mltl_base.specs.Ranges.{NoRange}
use Rattle.c2po_types.specs.Stepwise.{State, when_ranged}
use Rattle.c2po_types.specs.declared.fault.TypeFault.{TypeFault}
use Rattle.c2po_types.specs.Checking.{Checked, ◌>>=◌, Fails, fault_of}
use Rattle.c2po_types.proofs.Turns.{fails-bind}

pub ok-inj : {X : Type 0} (x y : X) → ◌≡◌ {A = Checked X} (Ok x) (Ok y) → x ≡ y
ok-inj x y h = cc

-- a check without a fault
pub is-ok : (m : Checked State) → fault_of m ≡ None → (t : State) × (m ≡ Ok t)
is-ok (Ok t) h = (t, refl)
is-ok (Err fault) h = absurd (cc)

pub bind-ok : {X Y : Type 0} (m : Checked X) (f : X → Checked Y) (y : Y) → (m >>= f) ≡ Ok y → (x : X) × (m ≡ Ok x) × (f x ≡ Ok y)
bind-ok (Ok x) f y h = (x, refl, h)
bind-ok (Err fault) f y h = absurd (cc)

pub unless-ok : {X : Type 0} (b : Bool) (fault : TypeFault) (m : Checked X) (x : X) → (if b then Err fault else m) ≡ Ok x → m ≡ Ok x
unless-ok true fault m x h = absurd (cc)
unless-ok false fault m x h = h

-- and a test that isn't passed
pub not-passed : {X : Type 0} (b : Bool) (fault : TypeFault) (m : Checked X) (x : X) → (if b then Err fault else m) ≡ Ok x → b ≡ false
not-passed true fault m x h = absurd (cc)
not-passed false fault m x h = refl

pub when-ok : {X : Type 0} (b : Bool) (fault : TypeFault) (m : Checked X) (x : X) → (if b then m else Err fault) ≡ Ok x → m ≡ Ok x
when-ok true fault m x h = h
when-ok false fault m x h = absurd (cc)

pub when_ranged-ok : (line : ℕ) (why : Option NoRange) (m : Checked State) (t : State) → when_ranged line why m ≡ Ok t → m ≡ Ok t
when_ranged-ok line None m t h = h
when_ranged-ok line (Some why) m t h = absurd (cc)

-- a fault of the second part is one of the whole, where the first has none
pub fails-second : {X Y Z : Type 0} (fault : TypeFault) (m : Checked X) (x : X) (n : Checked Y) (f : X → Y → Checked Z) → m ≡ Ok x → Fails fault n
    → Fails fault (m >>= λ x. n >>= f x)
fails-second fault m x n f h k = subst (λ r. Fails fault (r >>= λ y. n >>= f y)) (sym h) (fails-bind fault n (f x) k)

-- what is Ok after a call that puts one fault for another was Ok before it
pub ok_before : {X E F : Type 0} (found : Result X E) (now : Result X F) (P : E → F → Type 0) (x : X) → MatchResult found (λ y. now ≡ Ok y) (λ fault. IsErrAnd now (P fault)) → now ≡ Ok x → found ≡ Ok x
ok_before (Ok y) now P x same is = cc
ok_before (Err fault) now P x refused is = absurd (subst (λ r. IsErrAnd r (P fault)) is refused)
