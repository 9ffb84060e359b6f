-- The report that is open first tells settled words.

use Rattle.std.proofs.Common.{◌≡◌, ℕ, zero, suc, ◌+◌, ◌-◌, ◌<◌, ◌≤◌, ◌==◌, Bool, true, false, if◌then◌else◌, Some, List, [], ◌∷◌, ◌++◌, length, drop, replicate, slice_get, slice_index, refl, ap, sym, subst, ◌∙◌, arith, length-drop}
use Rattle.std.proofs.lemmas.Bool.{eq-eqb}
use Rattle.std.proofs.lemmas.List.{get_or-drop}
use Rattle.std.proofs.lemmas.Option.{get_or_from_slice_get, slice_get-get_or, slice_get_within}
use Rattle.mltl_base.specs.declared.report.Report.{Report}
use Rattle.mltl_base.specs.declared.report.Style.{Style}
use Rattle.mltl_base.specs.declared.report.Style.TheVariants.{Each, Runs}
use Rattle.mltl_base.specs.declared.report.Word.{Word}
use Rattle.mltl_base.specs.Atoms.{Row}
use Rattle.mltl_base.specs.Programs.{outputs}
use Rattle.mltl_base.specs.Reports.{IsRising, IsSettled, Output, goes_on, of_words, told, words}
use Rattle.mltl_base.proofs.Telling.{tells_words}
use Rattle.mltl_base.proofs.Words.{word_settled}
use Rattle.contract_status.specs.Open.{left_open}
use Rattle.r2u2_monitor.specs.declared.state.State.{State}
use Rattle.r2u2_monitor.specs.Monitoring.{open_in, places_of, program_of}

-- a report of output k tells its word of each time from t on, up to its own, of which these are the words
record IsHead (k t : ℕ) (ws : List Word) (report : Report) : Type 0 where
  out : report.out ≡ k
  upward : t ≤ report.time
  tells : (d : ℕ) → t + d ≤ report.time → slice_get ws d ≡ Some report.word

-- the words begin with as many of one word
begins_with : (n d : ℕ) (w : Word) (ws : List Word) → d < n → slice_get (replicate n w ++ ws) d ≡ Some w
begins_with zero d w ws within = absurd (omega (arith, within))
begins_with (suc n) zero w ws within = refl
begins_with (suc n) (suc d) w ws within = begins_with n d w ws (omega (arith, within))

-- each report of an output has its number
of_output : (style : Style) (k t : ℕ) (ws : List Word) (report : Report) (more : List Report) → of_words style k t ws ≡ report ∷ more → report.out ≡ k
unfolding of_words
of_output Each k t [] report more is = cc
of_output Runs k t [] report more is = cc
of_output Each k t (w ∷ ws) report more is = let first : record { out = k; time = t; word = w } ≡ report = cc in sym (ap (λ (r : Report). r.out) first)
of_output Runs k t (w ∷ ws) report more is = go (goes_on w ws) (of_output Runs k (suc t) ws report more) is
  where
    go : (b : Bool) → (of_words Runs k (suc t) ws ≡ report ∷ more → report.out ≡ k) → (if b then of_words Runs k (suc t) ws else record { out = k; time = t; word = w } ∷ of_words Runs k (suc t) ws) ≡ report ∷ more → report.out ≡ k
    go true later is = later is
    go false later is = let first : record { out = k; time = t; word = w } ≡ report = cc in sym (ap (λ (r : Report). r.out) first)

first_tells : (t : ℕ) (ws : List Word) (report : Report) (more : List Report) → told report.out t (report ∷ more) ≡ ws → IsRising report.out t (report ∷ more) → IsHead report.out t ws report
unfolding told IsRising
first_tells t ws report more tells rising =
    let here : (report.out == report.out) ≡ true = eq-eqb report.out report.out refl in
    let up : (t ≤ report.time) × IsRising report.out (suc report.time) more = rw here at rising in
    let words : replicate (suc report.time - t) report.word ++ told report.out (suc report.time) more ≡ ws = rw here at tells in
    record {
      out = refl;
      upward = up.0;
      tells = λ d within. subst (λ (xs : List Word). slice_get xs d ≡ Some report.word) words (begins_with (suc report.time - t) d report.word (told report.out (suc report.time) more) (omega (arith, within, up.0)));
    }

words_head : (style : Style) (k t : ℕ) (ws : List Word) (report : Report) (more : List Report) → of_words style k t ws ≡ report ∷ more → IsHead k t ws report
words_head style k t ws report more is =
    let here : report.out ≡ k = of_output style k t ws report more is in
    let all = tells_words style k t ws in
    let tells : told k t (report ∷ more) ≡ ws = subst (λ (rs : List Report). told k t rs ≡ ws) is all.tells in
    let rising : IsRising k t (report ∷ more) = subst (IsRising k t) is all.rising in
    subst (λ (n : ℕ). IsHead n t ws report) here
    (first_tells t ws report more (subst (λ (n : ℕ). told n t (report ∷ more) ≡ ws) (sym here) tells) (subst (λ (n : ℕ). IsRising n t (report ∷ more)) (sym here) rising))

-- the report that is open first is the first of an output, from that output's next time on
abbrev IsFirst : List Row → ℕ → List Output → List ℕ → Report → Type 0
IsFirst rows k outs next_times report = (j : ℕ) × (o : Output) × (slice_get outs j ≡ Some o) × IsHead (k + j) (slice_index next_times j) (drop (slice_index next_times j) (words rows o)) report

open_head : (style : Style) (rows : List Row) (k : ℕ) (outs : List Output) (next_times : List ℕ) (report : Report) (more : List Report) → left_open style rows k outs next_times ≡ report ∷ more → IsFirst rows k outs next_times report
unfolding left_open
open_head style rows k [] next_times report more is = absurd cc
open_head style rows k (o ∷ outs) [] report more is = absurd cc
open_head style rows k (o ∷ outs) (next_time ∷ next_times) report more is = go (of_words style k next_time (drop next_time (words rows o))) refl (open_head style rows (suc k) outs next_times report more) is
  where
    go : (reports : List Report) → of_words style k next_time (drop next_time (words rows o)) ≡ reports → (left_open style rows (suc k) outs next_times ≡ report ∷ more → IsFirst rows (suc k) outs next_times report) → reports ++ left_open style rows (suc k) outs next_times ≡ report ∷ more → IsFirst rows k (o ∷ outs) (next_time ∷ next_times) report
    go [] e later is =
        let rest = later is in
        let number : suc k + rest.0 ≡ k + suc rest.0 = omega arith in
        (suc rest.0, rest.1, rest.2, subst (λ (n : ℕ). IsHead n (slice_index next_times rest.0) (drop (slice_index next_times rest.0) (words rows rest.1)) report) number rest.3)
    go (r ∷ reports) e later is =
        let first : r ≡ report = cc in
        let number : k ≡ k + 0 = omega arith in
        (0, o, refl, subst (λ (n : ℕ). IsHead n next_time (drop next_time (words rows o)) report) number (words_head style k next_time (drop next_time (words rows o)) report reports (e ∙ ap (λ (x : Report). x ∷ reports) first)))

-- a member after an index
drop_at : (ws : List Word) (next_time d : ℕ) (w : Word) → slice_get (drop next_time ws) d ≡ Some w → slice_get ws (next_time + d) ≡ Some w
drop_at ws next_time d w there =
    let within : d < length (drop next_time ws) = slice_get_within (drop next_time ws) d w there in
    slice_get-get_or ws (next_time + d) w (omega (arith, within, length-drop next_time ws))
    ∙ ap Some (sym (get_or-drop next_time ws d w) ∙ get_or_from_slice_get (drop next_time ws) d w w there)

-- the first open report of all covers the times from its output's next time up to its own
pub first_covers : (style : Style) (monitor : State) (rows : List Row) (report : Report) (more : List Report) → open_in style monitor rows ≡ report ∷ more → slice_index (places_of monitor) report.out ≤ report.time
first_covers style monitor rows report more is =
    let next_times : List ℕ = places_of monitor in
    let first = open_head style rows 0 (outputs (program_of monitor)) next_times report more is in
    let number : first.0 ≡ report.out = omega (arith, first.3.out) in
    subst (λ (n : ℕ). slice_index next_times n ≤ report.time) number first.3.upward

-- and its word is settled at each of them
pub first_is_settled : (style : Style) (monitor : State) (rows : List Row) (report : Report) (more : List Report) (o : Output) (t : ℕ) → open_in style monitor rows ≡ report ∷ more → slice_get (outputs (program_of monitor)) report.out ≡ Some o
    → slice_index (places_of monitor) report.out ≤ t → t ≤ report.time → IsSettled rows o t report.word
first_is_settled style monitor rows report more o t is named from upto =
    let outs : List Output = outputs (program_of monitor) in
    let next_times : List ℕ = places_of monitor in
    let first = open_head style rows 0 outs next_times report more is in
    let number : first.0 ≡ report.out = omega (arith, first.3.out) in
    let next_time : ℕ = slice_index next_times first.0 in
    let here : next_time ≡ slice_index next_times report.out = ap (λ (n : ℕ). slice_index next_times n) number in
    let same : first.1 ≡ o = let there : slice_get outs first.0 ≡ Some o = ap (λ (n : ℕ). slice_get outs n) number ∙ named in let given : slice_get outs first.0 ≡ Some first.1 = first.2 in cc in
    let time : next_time + (t - next_time) ≡ t = omega (arith, here, from) in
    let there : slice_get (words rows first.1) (next_time + (t - next_time)) ≡ Some report.word = drop_at (words rows first.1) next_time (t - next_time) report.word (first.3.tells (t - next_time) (omega (arith, here, from, upto))) in
    word_settled rows o t report.word (subst (λ (x : Output). slice_get (words rows x) t ≡ Some report.word) same (ap (λ (n : ℕ). slice_get (words rows first.1) n) (sym time) ∙ there))
