-- Kinds and names of signals.
use Rattle.std.proofs.Common.{◌≡◌, ℕ, Bool, true, false, List, [], ◌∷◌, ◌++◌, refl, ap, sym, ◌∙◌, ◌==◌, take, Option, Some, None}
use Rattle.std.specs.Prelude.{◌||◌, ◌&&◌, not}
use Rattle.std.specs.List.{list_any}
use Rattle.std.proofs.Math.Bool.{or-false, or_assoc}
use Rattle.mltl_base.specs.declared.program.StoredSignal.{StoredSignal}
use Rattle.mltl_base.specs.declared.program.Program.{Program}
use Rattle.obs_verify.specs.declared.fault.VerifyFault.{VerifyFault}
use Rattle.obs_verify.specs.declared.fault.VerifyFault.TheVariants.{Signal}
use Rattle.obs_verify.specs.WellFormed.{has_kind, unless, is_new_signal, signal_fault}

-- some signal stands in the column exactly where one of either kind does
pub either_kind : (signals : List StoredSignal) (c : ℕ) → (not (has_kind signals c false) && not (has_kind signals c true)) ≡ not (list_any (λ signal. signal.column == c) signals)
either_kind [] c = refl
either_kind (s ∷ signals) c = here (s.column == c) s.truth (has_kind signals c false) (has_kind signals c true) (list_any (λ signal. signal.column == c) signals) (either_kind signals c)
  where
    here : (at truth w t a : Bool) → (not w && not t) ≡ not a
        → (not ((at && not truth) || w) && not ((at && truth) || t)) ≡ not (at || a)
    here true true true t a e = refl
    here true true false t a e = refl
    here true false w t a e = refl
    here false true w t a e = e
    here false false w t a e = e

pub any-push : {X : Type 0} (p : X → Bool) (xs : List X) (x : X) → list_any p (xs ++ x ∷ []) ≡ (list_any p xs || p x)
any-push p [] x = or-false (p x)
any-push p (y ∷ xs) x = ap (λ b. p y || b) (any-push p xs x) ∙ sym (or_assoc (p y) (list_any p xs) (p x))

pub true_and : (a b : Bool) → a ≡ true → (a && b) ≡ b
true_and true b h = refl
true_and false b h = cc

-- a test of two parts
pub unless_left : (a b : Bool) (fault : VerifyFault) → a ≡ false → unless (a && b) fault ≡ Some fault
unless_left false b fault h = refl
unless_left true b fault h = absurd (cc)

pub unless_both : (a b : Bool) (fault : VerifyFault) → a ≡ true → b ≡ true → unless (a && b) fault ≡ None
unless_both true true fault h k = refl
unless_both _ _ fault h k = absurd (cc)

-- the rule of a signal, by what a pass keeps
pub signal_rule : (program : Program) (items : List StoredSignal) (n k : ℕ) (signal : StoredSignal) (found : Option VerifyFault) → items ≡ program.signals → n ≡ program.width
    → unless (is_new_signal n (take k items) signal) (Signal k) ≡ found → signal_fault program k signal ≡ found
signal_rule program items n k signal found same wide h =
    ap (λ w. unless (is_new_signal w (take k program.signals) signal) (Signal k)) (sym wide) ∙ ap (λ ss. unless (is_new_signal n (take k ss) signal) (Signal k)) (sym same) ∙ h
