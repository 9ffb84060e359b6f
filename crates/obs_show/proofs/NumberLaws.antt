-- The signal that an instruction reads, by its number.
use Rattle.std.proofs.Common.{◌≡◌, ℕ, zero, suc, Option, Some, None, List, [], ◌∷◌, map, slice_get, slice_index_or, refl, ap, sym, ◌∙◌, inl, inr}
use Rattle.std.proofs.lemmas.Bool.Decides.{eqb_tells}
use Rattle.mltl_base.specs.declared.operators.BzOp.{BzOp}
use Rattle.mltl_base.specs.declared.program.Program.{Program}
use Rattle.mltl_base.specs.declared.program.StoredSignal.{StoredSignal}
use Rattle.obs_verify.specs.SignalNumbers.{signal_in, signal_read, signals_read}
use Rattle.obs_verify.proofs.ReaderLaws.{none_less, not_none, nowhere, number_after, number_here, one_less, same_number}
use Rattle.obs_show.specs.Naming.{name_in}

-- the signal with the number that a column has is the one that the column is called by
pub name_of_number : (signals : List StoredSignal) (c k : ℕ) (d : StoredSignal) → signal_in signals c ≡ Some k → (slice_index_or signals k d).name ≡ name_in signals c
name_of_number [] c k d h = absurd (not_none k (sym h ∙ nowhere c))
name_of_number (s ∷ signals) c k d h = elim (eqb_tells s.column c) [
  | inl p ↦ let first : k ≡ 0 = same_number k 0 (sym h ∙ number_here s signals c p.1) in rw (first, p.0) refl
  | inr p ↦
      let less = one_less (signal_in signals c) k (sym (number_after s signals c p.1) ∙ h) in
      rw (less.2, p.0) (name_of_number signals c less.0 d less.1)
]

-- a column without a signal has no name
pub no_name : (signals : List StoredSignal) (c : ℕ) → signal_in signals c ≡ None → name_in signals c ≡ []
no_name [] c h = refl
no_name (s ∷ signals) c h = elim (eqb_tells s.column c) [
  | inl p ↦ absurd (not_none 0 (sym (number_here s signals c p.1) ∙ h))
  | inr p ↦ rw p.0 (no_name signals c (none_less (signal_in signals c) (sym (number_after s signals c p.1) ∙ h)))
]

mapped_at : {X Y : Type 0} (f : X → Y) (d : Y) (xs : List X) (i : ℕ) (x : X) → slice_get xs i ≡ Some x → slice_index_or (map f xs) i d ≡ f x
mapped_at f d [] i x h = absurd (cc)
mapped_at f d (y ∷ ys) zero x h = let same : y ≡ x = cc in ap f same
mapped_at f d (y ∷ ys) (suc i) x h = mapped_at f d ys i x h

-- the number that is kept for an instruction is that of the signal it reads
pub read_at : (program : Program) (i : ℕ) (op : BzOp) → slice_get program.bz i ≡ Some op → slice_index_or (signals_read program) i None ≡ signal_read program.signals op
read_at program i op h = mapped_at (signal_read program.signals) None program.bz i op h
