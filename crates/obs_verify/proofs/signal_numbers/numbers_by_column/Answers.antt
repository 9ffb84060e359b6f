use Rattle.std.proofs.Common.{rules, length-take-le, ◌≡◌, ◌<◌, ◌+◌, ◌∙◌, ◌++◌, ◌∷◌, [], true, false, ap, arith, refl, subst, sym, ℕ, Option, None, Some, List, length, slice_index_or, slice_set, take}
use Rattle.std.specs.Option.{is_some}
use Rattle.std.proofs.lemmas.List.{take_all, take_more, length-set, length-replicate, get_or-replicate, get_or_default}
use Rattle.mltl_base.specs.declared.program.StoredSignal.{StoredSignal}
use Rattle.obs_verify.specs.SignalNumbers.{signal_in}
use Rattle.obs_verify.proofs.ReaderLaws.{filled_free, filled_known, nowhere}
use Rattle.obs_verify.proofs.signal_numbers.numbers_by_column.Goals.{then-is_none, else-is_none}
use Rattle.obs_verify.proofs.signal_numbers.numbers_by_column.Goals as goal

free_of : (o : Option ℕ) → is_some o ≡ false → o ≡ None
free_of None h = refl
free_of (Some n) h = absurd (cc)

known_of : (o : Option ℕ) → is_some o ≡ true → (n : ℕ) × (o ≡ Some n)
known_of None h = absurd (cc)
known_of (Some n) h = (n, refl)

pub loop-k-init : goal.loop-k-init
loop-k-init c =
    let items = c.in_ok-numbers.ensures.items_if_clones_equal (λ y e. search rules) in
    record {
      long = ap length items ∙ length-replicate c.args.width None;
      told = λ n below. ap (λ ns. slice_index_or ns n None) items ∙ get_or-replicate c.args.width n None None below ∙ sym (nowhere n);
    }

pub loop-k-preserved : goal.loop-k-preserved
loop-k-preserved c =
    let signals : List StoredSignal = c.args.signals.now in
    let k : ℕ = c.loop-k.k in
    let s : StoredSignal = c.index-signals-k.result in
    let known : List StoredSignal = take k signals in
    let next : take (k + 1) signals ≡ known ++ s ∷ [] = take_more signals k s c.loop-k-test.true ∙ ap (λ x. known ++ x ∷ []) (sym c.index-signals-k.is) in
    let few : length known ≡ k = length-take-le k signals (omega (arith, c.loop-k-test.true)) in
    let within : s.column < c.args.width = subst (λ (x : StoredSignal). x.column < c.args.width) (sym c.index-signals-k.is) (c.requires.within k s c.loop-k-test.true) in
    let told : (n : ℕ) → n < length c.loop-k.numbers.items → slice_index_or c.loop-k.numbers.items n None ≡ signal_in known n = λ n below. c.loop-k.invariant.told n (omega (arith, c.loop-k.invariant.long)) in
    let here : c.index.result.now ≡ signal_in known s.column =
    c.index.ensures ∙ get_or_default c.loop-k.numbers.items s.column c.index.result.now None (omega (arith, within, c.loop-k.invariant.long)) ∙ c.loop-k.invariant.told s.column within in
    elim c.if-is_none.branch [
      | then-is_none w ↦ record {
        long = ap (λ v. length v.items) w.numbers-is ∙ length-set c.loop-k.numbers.items s.column (Some k) ∙ c.loop-k.invariant.long;
        told = λ n below. ap (λ v. slice_index_or v.items n None) w.numbers-is
            ∙ ap (λ m. slice_index_or (slice_set c.loop-k.numbers.items s.column (Some m)) n None) (sym few)
            ∙ filled_free c.loop-k.numbers.items known s n (omega (arith, within, c.loop-k.invariant.long)) (omega (arith, below, c.loop-k.invariant.long)) told
            (free_of (signal_in known s.column) (ap is_some (sym here) ∙ w.if-is_none.ensures))
            ∙ ap (λ ss. signal_in ss n) (sym next);
      }
      | else-is_none w ↦ record {
        long = ap (λ v. length v.items) w.numbers-is ∙ c.loop-k.invariant.long;
        told = λ n below. ap (λ v. slice_index_or v.items n None) w.numbers-is
            ∙ filled_known c.loop-k.numbers.items known s n (known_of (signal_in known s.column) (ap is_some (sym here) ∙ w.if-is_none.ensures)).0 (omega (arith, below, c.loop-k.invariant.long)) told
            (known_of (signal_in known s.column) (ap is_some (sym here) ∙ w.if-is_none.ensures)).1
            ∙ ap (λ ss. signal_in ss n) (sym next);
      }
    ]

pub returns-clause-told : goal.returns-clause-told
returns-clause-told c n below = c.loop-k.invariant.told n below ∙ ap (λ ss. signal_in ss n) (take_all c.loop-k.k c.args.signals.now c.loop-k-test.false)
