-- Checks by their first fault: what is found where there is none, or else the fault.

use Rattle.std.proofs.Common.{◌≡◌, ℕ, Bool, true, false, List, [], ◌∷◌, ◌++◌, Option, Some, None, Ok, Err, refl, sym, ap, ◌∙◌, append_assoc, append-nil, if◌then◌else◌}
use Rattle.std.specs.Option.{option_or, option_map}
use Rattle.std.specs.Result.{result_unwrap_or}
use Rattle.mltl_base.specs.Ranges.{NoRange}
use Rattle.c2po_types.specs.declared.fault.TypeFault.{TypeFault}
use Rattle.c2po_types.specs.Checking.{Checked, fault_of, ◌>>=◌, in_turn}
use Rattle.c2po_types.specs.Declares.{after_others}
use Rattle.c2po_types.specs.FirstFault.{earliest, fault_if, fault_unless, range_fault}
use Rattle.c2po_types.specs.Stepwise.{State, when_ranged}

-- what a check with this first fault finds
abbrev pub found : {X : Type 0} → Option TypeFault → X → Checked X
found None x = Ok x
found (Some fault) x = Err fault

-- the first fault of what is found
pub fault-found : {X : Type 0} (o : Option TypeFault) (x : X) → fault_of (found o x) ≡ o
fault-found None x = refl
fault-found (Some fault) x = refl

-- a check is what it finds, or its fault
pub own-found : {X : Type 0} (m : Checked X) (x : X) → m ≡ found (fault_of m) (result_unwrap_or m x)
own-found (Ok y) x = refl
own-found (Err fault) x = refl

-- a test that must fail, before the rest
pub if-found : {X : Type 0} (b : Bool) (fault : TypeFault) (o : Option TypeFault) (x : X) (rest : Checked X) → rest ≡ found o x
    → (if b then Err fault else rest) ≡ found (option_or (fault_if b fault) o) x
if-found true fault o x rest h = refl
if-found false fault o x rest h = h

-- a test that must hold, before the rest
pub unless-found : {X : Type 0} (b : Bool) (fault : TypeFault) (o : Option TypeFault) (x : X) (rest : Checked X) → rest ≡ found o x
    → (if b then rest else Err fault) ≡ found (option_or (fault_unless b fault) o) x
unless-found true fault o x rest h = h
unless-found false fault o x rest h = refl

-- integers that must have ranges, before the rest
pub ranged-found : (line : ℕ) (why : Option NoRange) (o : Option TypeFault) (s : State) (rest : Checked State) → rest ≡ found o s
    → when_ranged line why rest ≡ found (option_or (option_map (range_fault line) why) o) s
ranged-found line None o s rest h = h
ranged-found line (Some why) o s rest h = refl

-- one check before another
pub then-found : {X Y : Type 0} (m : Checked X) (o : Option TypeFault) (x : X) (g : X → Checked Y) (p : Option TypeFault) (y : Y)
    → m ≡ found o x → g x ≡ found p y → (m >>= g) ≡ found (option_or o p) y
then-found m None x g p y h k = ap (λ r. r >>= g) h ∙ k
then-found m (Some fault) x g p y h k = ap (λ r. r >>= g) h

-- what is made of what is found
pub made-found : {X Y : Type 0} (m : Checked X) (o : Option TypeFault) (x : X) (g : X → Y) → m ≡ found o x → (m >>= λ z. Ok (g z)) ≡ found o (g x)
made-found m None x g h = ap (λ r. r >>= λ z. Ok (g z)) h
made-found m (Some fault) x g h = ap (λ r. r >>= λ z. Ok (g z)) h

-- faults after others
pub earliest-append : (os ps : List (Option TypeFault)) → earliest (os ++ ps) ≡ option_or (earliest os) (earliest ps)
earliest-append [] ps = refl
earliest-append (None ∷ os) ps = earliest-append os ps
earliest-append (Some fault ∷ os) ps = refl

-- steps one after another, each as what stands before it says
pub turns-found : {X S : Type 0} (step : X → S → Checked S) (view : List X → S) (faults : List X → X → List (Option TypeFault))
    → ((before : List X) (x : X) → step x (view before) ≡ found (earliest (faults before x)) (view (before ++ x ∷ [])))
    → (xs : List X) → in_turn step xs (view []) ≡ found (earliest (after_others faults xs)) (view xs)
turns-found step view faults h [] = refl
turns-found step view faults h (x ∷ xs) =
    then-found (step x (view [])) (earliest (faults [] x)) (view (x ∷ [])) (in_turn step xs) (earliest (after_others (λ before. faults (x ∷ before)) xs)) (view (x ∷ xs))
    (h [] x) (turns-found step (λ before. view (x ∷ before)) (λ before. faults (x ∷ before)) (λ before y. h (x ∷ before) y) xs)
    ∙ ap (λ o. found o (view (x ∷ xs))) (sym (earliest-append (faults [] x) (after_others (λ before. faults (x ∷ before)) xs)))

-- what the last member brings comes last
pub after-push : {X Y : Type 0} (f : List X → X → List Y) (xs : List X) (x : X) → after_others f (xs ++ x ∷ []) ≡ after_others f xs ++ f xs x
after-push f [] x = append-nil (f [] x)
after-push f (y ∷ xs) x =
    ap (λ rest. f [] y ++ rest) (after-push (λ before. f (y ∷ before)) xs x)
    ∙ sym (append_assoc (f [] y) (after_others (λ before. f (y ∷ before)) xs) (f (y ∷ xs) x))
