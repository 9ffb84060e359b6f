-- Names of signals as they are put into a set, and the numbers that are free beside them.
use Rattle.std.proofs.Common.{◌≡◌, ℕ, zero, suc, ◌+◌, ◌<◌, Bool, true, false, cond, List, [], ◌∷◌, ◌++◌, length, take, get_or, filter, refl, ap, sym, ◌∙◌, arith}
use Rattle.std.specs.Prelude.{◌||◌}
use Rattle.std.specs.List.{range_with_len}
use Rattle.std.specs.Str.{bytes_eq}
use Rattle.std.proofs.lemmas.List.{append-nil, take_more}
use Rattle.std.proofs.lemmas.List.Elements.{filter-append}
use Rattle.mltl_base.specs.declared.program.StoredSignal.{StoredSignal}
use Rattle.obs_verify.proofs.SignalLaws.{any-push}
use Rattle.obs_show.specs.Naming.{is_signal_name}

swapped : (a b : Bool) → (a || b) ≡ (b || a)
swapped true true = refl
swapped true false = refl
swapped false true = refl
swapped false false = refl

-- the names of signals, one more at a time
pub one_more_name : (signals : List StoredSignal) (i : ℕ) (d : StoredSignal) (name : List ℕ) → i < length signals
    → (bytes_eq name (get_or signals i d).name || is_signal_name (take i signals) name) ≡ is_signal_name (take (i + 1) signals) name
one_more_name signals i d name here =
    swapped (bytes_eq name (get_or signals i d).name) (is_signal_name (take i signals) name)
    ∙ sym (any-push (λ signal. bytes_eq name signal.name) (take i signals) (get_or signals i d))
    ∙ ap (λ ss. is_signal_name ss name) (sym (take_more signals i d here))

-- a range, one number more at its end
pub range_more : (from n : ℕ) → range_with_len from (n + 1) ≡ range_with_len from n ++ (from + n) ∷ []
range_more from zero = let e : from ≡ from + 0 = omega arith in ap (λ (k : ℕ). k ∷ []) e
range_more from (suc n) =
    let e : from + 1 + n ≡ from + suc n = omega arith in
    let next : suc n + 1 ≡ suc (n + 1) = omega arith in
    ap (range_with_len from) next
    ∙ ap (λ ks. from ∷ ks) (range_more (from + 1) n ∙ ap (λ (k : ℕ). range_with_len (from + 1) n ++ k ∷ []) e)

-- the numbers that pass a test, one number more
pub filter_more : (test : ℕ → Bool) (n : ℕ) → filter test (range_with_len 0 (n + 1)) ≡ filter test (range_with_len 0 n) ++ cond (test n) (n ∷ []) []
filter_more test n =
    let e : 0 + n ≡ n = omega arith in
    ap (filter test) (range_more 0 n ∙ ap (λ (k : ℕ). range_with_len 0 n ++ k ∷ []) e) ∙ filter-append test (range_with_len 0 n) (n ∷ [])

kept_number : (test : Bool) (n : ℕ) (ns ms : List ℕ) → test ≡ true → ms ≡ ns ++ cond test (n ∷ []) [] → ms ≡ ns ++ n ∷ []
kept_number true n ns ms h is = is
kept_number false n ns ms h is = absurd (cc)

left_number : (test : Bool) (n : ℕ) (ns ms : List ℕ) → test ≡ false → ms ≡ ns ++ cond test (n ∷ []) [] → ms ≡ ns
left_number true n ns ms h is = absurd (cc)
left_number false n ns ms h is = is ∙ append-nil ns

-- a number that passes the test is kept, and another isn't
pub filter_kept : (test : ℕ → Bool) (n : ℕ) → test n ≡ true → filter test (range_with_len 0 (n + 1)) ≡ filter test (range_with_len 0 n) ++ n ∷ []
filter_kept test n h = kept_number (test n) n _ _ h (filter_more test n)

pub filter_left : (test : ℕ → Bool) (n : ℕ) → test n ≡ false → filter test (range_with_len 0 (n + 1)) ≡ filter test (range_with_len 0 n)
filter_left test n h = left_number (test n) n _ _ h (filter_more test n)
