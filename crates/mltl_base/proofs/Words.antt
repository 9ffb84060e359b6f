-- The known words of an output: they stay, are settled and come in time, as verdicts do.

use Rattle.std.proofs.Common.{◌≡◌, ℕ, zero, suc, ◌+◌, ◌<◌, ◌≤◌, max, Bool, true, false, Option, Some, None, List, [], ◌∷◌, ◌++◌, length, map, slice_get, refl, sym, arith, length-append}
use Rattle.std.proofs.lemmas.List.{length-map, map-append}
use Rattle.std.proofs.lemmas.Option.{slice_get_within}
use Rattle.mltl_base.specs.declared.report.Word.{Word}
use Rattle.mltl_base.specs.Atoms.{Row}
use Rattle.mltl_base.specs.Formula.{Formula, wpd}
use Rattle.mltl_base.specs.Meaning.{sat}
use Rattle.mltl_base.specs.Verdicts.{verdicts, IsLongestKnown}
use Rattle.mltl_base.specs.Settled.{IsPrefix}
use Rattle.mltl_base.specs.Reports.{Output, formula, contract, word_of, status, known_status, words, status_of, meaning, delay, IsSettled}
use Rattle.mltl_base.proofs.Order.{Below, below_trans, Found}
use Rattle.mltl_base.proofs.Fronts.{front_fits, front_below, front_prefix, prefix_below, front_within, found_within}
use Rattle.mltl_base.proofs.Prefixes.{verdicts_begin}
use Rattle.mltl_base.proofs.Settling.{verdicts_right, verdicts_in_time}
use Rattle.mltl_base.proofs.Bounds.{verdicts_fit}
use Rattle.mltl_base.proofs.Unique.{front_longest}

below_status : (x y u v : Option Bool) → Below x u → Below y v → Below (status x y) (status u v)
below_status None y u v p q = tt
below_status (Some false) y u v p q = rw p refl
below_status (Some true) None u v p q = tt
below_status (Some true) (Some false) u v p q = rw (p, q) refl
below_status (Some true) (Some true) u v p q = rw (p, q) refl

status_truth : (v w : Bool) → status (Some v) (Some w) ≡ Some (status_of v w)
status_truth true true = refl
status_truth true false = refl
status_truth false w = refl

right_status : (x y : Option Bool) (v w : Bool) → Below x (Some v) → Below y (Some w) → Below (status x y) (Some (status_of v w))
right_status x y v w p q = rw (status_truth v w) at (below_status x y (Some v) (Some w) p q)

found_status : (x y : Option Bool) → Found x → Found y → Found (status x y)
found_status None y p q = absurd p
found_status (Some false) y p q = tt
found_status (Some true) None p q = absurd q
found_status (Some true) (Some false) p q = tt
found_status (Some true) (Some true) p q = tt

map_begins : (us vs : List Bool) → IsPrefix us vs → IsPrefix (map word_of us) (map word_of vs)
map_begins us vs p = (map word_of p.0, rw p.1 (map-append word_of us p.0))

pub words_begin : (rows more : List Row) (o : Output) → IsPrefix (words rows o) (words (rows ++ more) o)
unfolding words
words_begin rows more (formula p) = map_begins (verdicts rows p) (verdicts (rows ++ more) p) (verdicts_begin rows more p)
words_begin rows more (contract p q) =
    front_prefix _ _ (length rows) (length (rows ++ more))
    (λ t. below_status _ _ _ _ (prefix_below _ _ t (verdicts_begin rows more p)) (prefix_below _ _ t (verdicts_begin rows more q)))
    (omega (arith, length-append rows more))

pub word_stays : (rows more : List Row) (o : Output) (t : ℕ) (w : Word) → slice_get (words rows o) t ≡ Some w → slice_get (words (rows ++ more) o) t ≡ Some w
word_stays rows more o t w e = rw e at (prefix_below (words rows o) (words (rows ++ more) o) t (words_begin rows more o))

map_below : (vs : List Bool) (t : ℕ) (v : Bool) → Below (slice_get vs t) (Some v) → Below (slice_get (map word_of vs) t) (Some (word_of v))
map_below [] t v h = tt
map_below (x ∷ vs) zero v h = cc
map_below (x ∷ vs) (suc t) v h = map_below vs t v h

pub words_right : (rows : List Row) (o : Output) (t : ℕ) → Below (slice_get (words rows o) t) (Some (meaning rows o t))
unfolding words meaning
words_right rows (formula p) t = map_below (verdicts rows p) t (sat rows p t) (verdicts_right rows p t)
words_right rows (contract p q) t =
    below_trans _ _ _ (front_below (λ t. status (slice_get (verdicts rows p) t) (slice_get (verdicts rows q) t)) (length rows) t) (right_status _ _ _ _ (verdicts_right rows p t) (verdicts_right rows q t))

pub word_settled : (rows : List Row) (o : Output) (t : ℕ) (w : Word) → slice_get (words rows o) t ≡ Some w → IsSettled rows o t w
word_settled rows o t w e more l =
    let h : Below (Some w) (Some (meaning (rows ++ more) o t)) = rw (word_stays rows more o t w e) at (words_right (rows ++ more) o t) in
    cc

pub words_fit : (rows : List Row) (o : Output) → length (words rows o) ≤ length rows
unfolding words
words_fit rows (formula p) = simp length-map (verdicts_fit rows p)
words_fit rows (contract p q) = front_fits _ _

pub words_in_time : (rows : List Row) (o : Output) → length rows ≤ length (words rows o) + delay o
unfolding words
words_in_time rows (formula p) = simp length-map (verdicts_in_time rows p)
words_in_time rows (contract p q) =
    front_within _ _ (max (wpd p) (wpd q)) (λ t l. found_status _ _
    (found_within (verdicts rows p) t (let h = verdicts_in_time rows p in omega arith))
    (found_within (verdicts rows q) t (let h = verdicts_in_time rows q in omega arith)))

found_word : (x : Option Word) (w : Word) → Found x → Below x (Some w) → x ≡ Some w
found_word None w f h = absurd f
found_word (Some v) w f h = sym h

pub word_known : (rows : List Row) (o : Output) (t : ℕ) → t + delay o < length rows → slice_get (words rows o) t ≡ Some (meaning rows o t)
word_known rows o t l =
    let h : length rows ≤ length (words rows o) + delay o = words_in_time rows o in
    found_word (slice_get (words rows o) t) (meaning rows o t) (found_within (words rows o) t (omega arith)) (words_right rows o t)

pub word_within : (rows : List Row) (o : Output) (t : ℕ) (w : Word) → slice_get (words rows o) t ≡ Some w → t < length rows
word_within rows o t w e =
    let l : t < length (words rows o) = slice_get_within (words rows o) t w e in
    let h : length (words rows o) ≤ length rows = words_fit rows o in
    omega arith

pub contract_longest : (rows : List Row) (p q : Formula) → IsLongestKnown (known_status rows p q) (length rows) (words rows (contract p q))
unfolding words
contract_longest rows p q = front_longest (known_status rows p q) (length rows)
