-- What is open once the first report was given.

use Rattle.std.proofs.Common.{◌≡◌, ◌≢◌, ◌↔◌, ℕ, zero, suc, ◌+◌, ◌-◌, ◌<◌, ◌≤◌, ◌⊎◌, inl, inr, Bool, true, false, not, is_some, IsTrue, replicate, Option, Some, None, List, [], ◌∷◌, ◌++◌, length, map, drop, slice_get, slice_index, slice_index_or, slice_set, refl, sym, ap, subst, ◌∙◌, arith, add-one}
use Rattle.std.proofs.lemmas.Bool.{cases_eq}
use Rattle.std.proofs.lemmas.List.{drop_all, drop_more, drop-set-lt, get_or-set_other, get_or-set_same, length-map, length-set}
use Rattle.std.proofs.lemmas.List.Sums.{sum_by-set}
use Rattle.std.proofs.lemmas.Option.{get_or_from_slice_get, slice_get-map, slice_get_within}
use Rattle.mltl_base.specs.declared.program.Out.{Out}
use Rattle.mltl_base.specs.declared.program.Program.{Program}
use Rattle.mltl_base.specs.declared.report.Word.{Word}
use Rattle.mltl_base.specs.declared.report.Word.TheVariants.{T, F, Inactive, Invalid, Verified}
use Rattle.mltl_base.specs.declared.report.Style.{Style}
use Rattle.mltl_base.specs.declared.report.Style.TheVariants.{Each, Runs}
use Rattle.mltl_base.specs.Atoms.{Row}
use Rattle.mltl_base.specs.Programs.{output_of, outputs}
use Rattle.mltl_base.specs.Reports.{Output, words, same_word, goes_on, of_words}
use Rattle.mltl_base.proofs.Telling.{same_word_self}
use Rattle.mltl_base.proofs.Words.{words_fit}
use Rattle.contract_status.specs.declared.cursor.Cursor.{Cursor}
use Rattle.contract_status.specs.declared.engines.Engines.{Engines}
use Rattle.contract_status.specs.declared.engines.Stretch.{Stretch}
use Rattle.contract_status.specs.Open.{AreKnown, ArePlaced, known_counts, known_counts_of, left_open, open_of, times_left}
use Rattle.contract_status.specs.Standing.{StandFor}
use Rattle.contract_status.specs.Cursors.{IsCursor}
use Rattle.contract_status.specs.Stretches.{AreTold, Covers, FindsOpen, HaveTaken, IsFirstOpen, IsLongestStretch, known_words}
use Rattle.contract_status.proofs.Opening.{no_other, no_words}
use Rattle.contract_status.proofs.Stretching.{count_at, covers_one, lasts_in_rows, lasts_within, more_told, stretch_goes_on}

-- nothing is open at a next time past all words
nothing_past : (style : Style) (k next_time : ℕ) (ws : List Word) → length ws ≤ next_time → of_words style k next_time (drop next_time ws) ≡ []
nothing_past style k next_time ws past = ap (of_words style k next_time) (drop_all next_time ws past) ∙ no_words style k next_time

pub none_left : (style : Style) (rows : List Row) (n : ℕ) (outs : List Output) (next_times : List ℕ) → ((j : ℕ) → j < length outs → slice_index (known_counts rows outs) j ≤ slice_index next_times j) → left_open style rows n outs next_times ≡ []
unfolding left_open
none_left style rows n (o ∷ outs) (next_time ∷ next_times) told =
    rw (nothing_past style n next_time (words rows o) (told 0 (omega arith))) (none_left style rows (suc n) outs next_times (λ j below. told (suc j) (omega arith)))
none_left style rows n outs next_times told = refl

-- where nothing is open before output k, its reports come first
pub open_from : (style : Style) (rows : List Row) (n k m : ℕ) (outs : List Output) (next_times : List ℕ) (o : Output) → m ≡ n + k → slice_get outs k ≡ Some o → k < length next_times
    → ((j : ℕ) → j < k → slice_index (known_counts rows outs) j ≤ slice_index next_times j)
    → left_open style rows n outs next_times ≡ of_words style m (slice_index next_times k) (drop (slice_index next_times k) (words rows o)) ++ left_open style rows (suc m) (drop (suc k) outs) (drop (suc k) next_times)
unfolding left_open
open_from style rows n k m [] next_times o e there inside told = cc
open_from style rows n k m (x ∷ outs) [] o e there inside told = absurd (omega arith)
open_from style rows n zero m (x ∷ outs) (next_time ∷ next_times) o e there inside told =
    let first : x ≡ o = cc in
    let same : m ≡ n = omega arith in
    rw (first, same) refl
open_from style rows n (suc k) m (x ∷ outs) (next_time ∷ next_times) o e there inside told =
    rw (nothing_past style n next_time (words rows x) (told 0 (omega arith)))
    (open_from style rows (suc n) k m outs next_times o (omega arith) there (omega arith) (λ j below. told (suc j) (omega arith)))

-- the same of the next times with another one for output k
pub open_moved : (style : Style) (rows : List Row) (k p : ℕ) (outs : List Output) (next_times : List ℕ) (o : Output) → slice_get outs k ≡ Some o → k < length next_times
    → ((j : ℕ) → j < k → slice_index (known_counts rows outs) j ≤ slice_index next_times j)
    → left_open style rows 0 outs (slice_set next_times k p) ≡ of_words style k p (drop p (words rows o)) ++ left_open style rows (suc k) (drop (suc k) outs) (drop (suc k) next_times)
open_moved style rows k p outs next_times o there inside told =
    let moved : List ℕ = slice_set next_times k p in
    let here : slice_index moved k ≡ p = get_or-set_same next_times k p 0 inside in
    let after : drop (suc k) moved ≡ drop (suc k) next_times = drop-set-lt (suc k) next_times k p (omega arith) in
    rw (
      open_from style rows 0 k k outs moved o (omega arith) there (omega (arith, length-set next_times k p))
          (λ j below. let other : j ≢ k = omega arith in omega (arith, told j below, get_or-set_other next_times k j p 0 other)),
      here,
      after,
    ) refl

-- the first words at a next time: a report for each
each_first : (k p : ℕ) (ws : List Word) (w : Word) → slice_get ws p ≡ Some w → of_words Each k p (drop p ws) ≡ record { out = k; time = p; word = w } ∷ of_words Each k (p + 1) (drop (p + 1) ws)
unfolding of_words
each_first k p ws w there =
    let here : slice_index_or ws p w ≡ w = get_or_from_slice_get ws p w w there in
    rw (drop_more ws p w (slice_get_within ws p w there), here, add-one p) refl

-- whether the next word is the same
same_word_other : (v w : Word) → v ≢ w → same_word v w ≡ false
same_word_other T T differ = absurd (differ refl)
same_word_other F F differ = absurd (differ refl)
same_word_other Inactive Inactive differ = absurd (differ refl)
same_word_other Invalid Invalid differ = absurd (differ refl)
same_word_other Verified Verified differ = absurd (differ refl)
same_word_other v w differ = refl

goes_on_there : (w : Word) (ws : List Word) (i : ℕ) → slice_get ws i ≡ Some w → goes_on w (drop i ws) ≡ true
goes_on_there w [] i there = cc
goes_on_there w (v ∷ ws) zero there = let same : v ≡ w = cc in rw same (same_word_self w)
goes_on_there w (v ∷ ws) (suc i) there = goes_on_there w ws i there

goes_on_not : (w : Word) (ws : List Word) (i : ℕ) → slice_get ws i ≢ Some w → goes_on w (drop i ws) ≡ false
goes_on_not w [] zero differ = refl
goes_on_not w [] (suc i) differ = refl
goes_on_not w (v ∷ ws) zero differ = same_word_other w v (λ e. differ (ap Some (sym e)))
goes_on_not w (v ∷ ws) (suc i) differ = goes_on_not w ws i differ

-- a report for each longest stretch
run_ends : (k p : ℕ) (ws : List Word) (w : Word) → slice_get ws p ≡ Some w → slice_get ws (p + 1) ≢ Some w → of_words Runs k p (drop p ws) ≡ record { out = k; time = p; word = w } ∷ of_words Runs k (p + 1) (drop (p + 1) ws)
unfolding of_words
run_ends k p ws w there differ =
    let here : slice_index_or ws p w ≡ w = get_or_from_slice_get ws p w w there in
    rw (drop_more ws p w (slice_get_within ws p w there), here, goes_on_not w ws (p + 1) differ, add-one p) refl

run_goes_on : (k p : ℕ) (ws : List Word) (w : Word) → slice_get ws p ≡ Some w → slice_get ws (p + 1) ≡ Some w → of_words Runs k p (drop p ws) ≡ of_words Runs k (p + 1) (drop (p + 1) ws)
unfolding of_words
run_goes_on k p ws w there next =
    let here : slice_index_or ws p w ≡ w = get_or_from_slice_get ws p w w there in
    rw (drop_more ws p w (slice_get_within ws p w there), here, goes_on_there w ws (p + 1) next, add-one p) refl

run_first : (d k p last : ℕ) (ws : List Word) (w : Word) → last ≡ p + d → ((t : ℕ) → p ≤ t → t ≤ last → slice_get ws t ≡ Some w) → slice_get ws (last + 1) ≢ Some w
    → of_words Runs k p (drop p ws) ≡ record { out = k; time = last; word = w } ∷ of_words Runs k (last + 1) (drop (last + 1) ws)
run_first zero k p last ws w e alike differ =
    let same : p ≡ last = omega arith in
    rw same (run_ends k last ws w (alike last (omega arith) (omega arith)) differ)
run_first (suc d) k p last ws w e alike differ =
    run_goes_on k p ws w (alike p (omega arith) (omega arith)) (alike (p + 1) (omega arith) (omega arith))
    ∙ run_first d k (p + 1) last ws w (omega arith) (λ t low high. alike t (omega arith) high) differ

-- in each style, the first report covers what it is to cover
pub words_first : (style : Style) (k p last : ℕ) (ws : List Word) (w : Word) → Covers style ws p last w → of_words style k p (drop p ws) ≡ record { out = k; time = last; word = w } ∷ of_words style k (last + 1) (drop (last + 1) ws)
words_first Each k p last ws w h = rw h.ends (each_first k p ws w (h.lasts.alike p (omega arith) h.lasts.upward))
words_first Runs k p last ws w h = let up : p ≤ last = h.lasts.upward in run_first (last - p) k p last ws w (omega arith) h.lasts.alike h.ends

-- the first report is that of the first open output, whose next time moves on
among_outputs : (program : Program) (k : ℕ) (output : Out) → slice_get program.outs k ≡ Some output → slice_get (outputs program) k ≡ Some (output_of program output)
among_outputs program k output there = rw (slice_get-map (output_of program) program.outs k, there) refl

gives_first : (style : Style) (program : Program) (rows : List Row) (next_times : List ℕ) (k last : ℕ) (stretch : Stretch) (output : Out) → slice_get program.outs k ≡ Some output → k < length next_times → IsFirstOpen program rows next_times k stretch
    → Covers style (known_words program rows output) (slice_index next_times k) last stretch.word
    → open_of style program rows next_times ≡ record { out = k; time = last; word = stretch.word } ∷ open_of style program rows (slice_set next_times k (last + 1))
gives_first style program rows next_times k last stretch output named inside first covers =
    let o : Output = output_of program output in
    let there = among_outputs program k output named in
    open_from style rows 0 k k (outputs program) next_times o (omega arith) there inside first.told
    ∙ ap (λ reports. reports ++ left_open style rows (suc k) (drop (suc k) (outputs program)) (drop (suc k) next_times)) (words_first style k (slice_index next_times k) last (words rows o) stretch.word covers)
    ∙ ap (λ reports. record { out = k; time = last; word = stretch.word } ∷ reports) (sym (open_moved style rows k (last + 1) (outputs program) next_times o there inside first.told))

pub gives_none : (style : Style) (program : Program) (rows : List Row) (next_times : List ℕ) → ((j : ℕ) → j < length program.outs → slice_index (known_counts_of program rows) j ≤ slice_index next_times j) → open_of style program rows next_times ≡ []
gives_none style program rows next_times told =
    none_left style rows 0 (outputs program) next_times (λ j below. told j (omega (arith, length-map program.outs (output_of program))))

-- the next times stay within their bounds
pub placed_moved : (program : Program) (rows : List Row) (next_times : List ℕ) (k next : ℕ) (output : Out) → ArePlaced program rows next_times → slice_get program.outs k ≡ Some output → slice_index next_times k ≤ next → next ≤ length (known_words program rows output)
    → ArePlaced program rows (slice_set next_times k next)
placed_moved program rows next_times k next output placed there up within =
    let exists : k < length program.outs = slice_get_within program.outs k output there in
    let count : length next_times ≡ length program.outs = placed.count in
    let inside : k < length next_times = omega arith in
    let here : slice_index (slice_set next_times k next) k ≡ next = get_or-set_same next_times k next 0 inside in
    record {
      count = length-set next_times k next ∙ placed.count;
      known = λ j below. elim (cases_eq j k) [
        | inl e ↦ rw (e, here) (omega (arith, count_at program rows k output there))
        | inr other ↦ rw (get_or-set_other next_times k j next 0 other) (placed.known j below)
      ];
      recent = λ before row is j below. elim (cases_eq j k) [
        | inl e ↦ rw (e, here) (omega (arith, placed.recent before row is k exists))
        | inr other ↦ rw (get_or-set_other next_times k j next 0 other) (placed.recent before row is j below)
      ];
    }

-- fewer times are left
pub fewer_left : (n : ℕ) (next_times : List ℕ) (k next : ℕ) → k < length next_times → slice_index next_times k < next → next ≤ n → times_left n (slice_set next_times k next) < times_left n next_times
fewer_left n next_times k next inside up within = omega (arith, sum_by-set (λ next_time. n - next_time) next_times k next 0 inside)

-- the engines' part of the state
pub taken_by : (program : Program) (rows : List Row) (engines : Engines) (next_times : List ℕ) → StandFor program rows engines.rows engines.ft.now engines.pt.now next_times → HaveTaken program rows engines
taken_by program rows engines next_times stands = record { future = stands.future; past = stands.past; count = stands.count }

-- what holds once the report of an output up to this time was given
pub record IsTold (style : Style) (program : Program) (rows : List Row) (next_times : List ℕ) (k last : ℕ) (word : Word) : Type 0 where
  pub exists : k < length program.outs
  pub inside : k < length next_times
  pub upward : slice_index next_times k ≤ last
  pub early : last < length rows
  pub first : open_of style program rows next_times ≡ record { out = k; time = last; word = word } ∷ open_of style program rows (slice_set next_times k (last + 1))
  pub placed : ArePlaced program rows (slice_set next_times k (last + 1))

tells : (style : Style) (program : Program) (rows : List Row) (next_times : List ℕ) (k last : ℕ) (stretch : Stretch) → ArePlaced program rows next_times → (first : IsFirstOpen program rows next_times k stretch)
    → Covers style (known_words program rows first.output) (slice_index next_times k) last stretch.word → IsTold style program rows next_times k last stretch.word
tells style program rows next_times k last stretch placed first covers =
    let output : Out = first.output in
    let there : slice_get program.outs k ≡ Some output = first.there in
    let exists : k < length program.outs = slice_get_within program.outs k output there in
    let inside : k < length next_times = omega (arith, placed.count) in
    let up : slice_index next_times k ≤ last = covers.lasts.upward in
    let short : last < length (known_words program rows output) = lasts_within (known_words program rows output) (slice_index next_times k) last stretch.word covers.lasts in
    record {
      exists = exists;
      inside = inside;
      upward = up;
      early = lasts_in_rows program rows output (slice_index next_times k) last stretch.word covers.lasts;
      first = gives_first style program rows next_times k last stretch output there inside first covers;
      placed = placed_moved program rows next_times k (last + 1) output placed there (omega arith) (omega arith);
    }

-- the same where a call gave the first open output, and another one the last time that its report covers
pub told_by : (style : Style) (program : Program) (rows : List Row) (engines : Engines) (next_times : List ℕ) (k last : ℕ) (stretch : Stretch) → StandFor program rows engines.rows engines.ft.now engines.pt.now next_times
    → ((rows : List Row) → HaveTaken program rows engines → AreKnown program rows next_times → IsFirstOpen program rows next_times k stretch)
    → ((told : List Word) → IsLongestStretch told (slice_index next_times k) stretch.last stretch.word → Covers style told (slice_index next_times k) last stretch.word) → IsTold style program rows next_times k last stretch.word
told_by style program rows engines next_times k last stretch stands finds covers =
    let first = finds rows (taken_by program rows engines next_times stands) stands.placed.known in
    tells style program rows next_times k last stretch stands.placed first (covers (known_words program rows first.output) first.here)

-- where the word that was told is known at the next time too, the stretch goes on
pub record GoesOn (rows : List Row) (last : ℕ) (stretch : Stretch) : Type 0 where
  pub later : last < stretch.last
  pub early : last + 1 < length rows

pub goes_past : (style : Style) (program : Program) (rows : List Row) (engines : Engines) (next_times : List ℕ) (k last : ℕ) (stretch : Stretch) → StandFor program rows engines.rows engines.ft.now engines.pt.now next_times
    → ((rows : List Row) → HaveTaken program rows engines → AreKnown program rows next_times → IsFirstOpen program rows next_times k stretch)
    → ((told : List Word) → IsLongestStretch told (slice_index next_times k) stretch.last stretch.word → Covers style told (slice_index next_times k) last stretch.word)
    → (output : Out) → slice_get program.outs k ≡ Some output → slice_get (known_words program rows output) (last + 1) ≡ Some stretch.word → GoesOn rows last stretch
goes_past style program rows engines next_times k last stretch stands finds covers output there next =
    let first = finds rows (taken_by program rows engines next_times stands) stands.placed.known in
    let told : List Word = known_words program rows first.output in
    let same : output ≡ first.output = let named = first.there in cc in
    let goes_on : slice_get told (last + 1) ≡ Some stretch.word = subst (λ o. slice_get (known_words program rows o) (last + 1) ≡ Some stretch.word) same next in
    record {
      later = stretch_goes_on style told (slice_index next_times k) last stretch.last stretch.word (covers told first.here) first.here goes_on;
      early = omega (arith, slice_get_within told (last + 1) stretch.word goes_on, words_fit rows (output_of program first.output));
    }

-- two answers that are one have one stretch
stretch_in : Stretch → Option (ℕ × Stretch) → Stretch
stretch_in other None = other
stretch_in other (Some (k, stretch)) = stretch

pub same_stretch : (k j : ℕ) (found stretch : Stretch) → ◌≡◌ {A = Option (ℕ × Stretch)} (Some (k, found)) (Some (j, stretch)) → found ≡ stretch
unfolding stretch_in
same_stretch k j found stretch is = ap (stretch_in found) is

-- the search goes on at the output whose report was given, with what is left of its stretch
told_moved : (program : Program) (rows : List Row) (next_times : List ℕ) (k next : ℕ) → AreTold program rows next_times k → AreTold program rows (slice_set next_times k next) k
told_moved program rows next_times k next told j below =
    let other : j ≢ k = omega arith in rw (get_or-set_other next_times k j next 0 other) (told j below)

-- next times that are known after a report were known before it
pub known_before : (program : Program) (rows : List Row) (next_times : List ℕ) (k last : ℕ) → k < length next_times → slice_index next_times k ≤ last → AreKnown program rows (slice_set next_times k (last + 1)) → AreKnown program rows next_times
known_before program rows next_times k last inside up known j below = elim (cases_eq j k) [
  | inl e ↦ rw e (let moved = get_or-set_same next_times k (last + 1) 0 inside in omega (arith, known k (omega (arith, e)), moved))
  | inr other ↦ let same = get_or-set_other next_times k j (last + 1) 0 other in omega (arith, known j below, same)
]

-- the next times that are told at the next output, where the next time of this one is past all rows
told_past : (program : Program) (rows : List Row) (next_times : List ℕ) (k last : ℕ) (stretch : Stretch) → k < length next_times → IsFirstOpen program rows next_times k stretch → last + 1 ≡ length rows → AreTold program rows (slice_set next_times k (last + 1)) (k + 1)
told_past program rows next_times k last stretch inside first end =
    let moved : slice_index (slice_set next_times k (last + 1)) k ≡ last + 1 = get_or-set_same next_times k (last + 1) 0 inside in
    let fit : length (known_words program rows first.output) ≤ length rows = words_fit rows (output_of program first.output) in
    more_told program rows (slice_set next_times k (last + 1)) k first.output first.there (told_moved program rows next_times k (last + 1) first.told) (omega (arith, moved, fit, end))

pub cursor_after : (program : Program) (rows : List Row) (next_times : List ℕ) (k last : ℕ) (stretch : Stretch) (cursor : Cursor) → k < length next_times → slice_index next_times k ≤ last → IsFirstOpen program rows next_times k stretch
    → (cursor.out ≡ k) ⊎ ((cursor.out ≡ k + 1) × (last + 1 ≡ length rows)) → ((left : Stretch) → cursor.stretch ≡ Some left → (cursor.out ≡ k) × (left ≡ stretch) × (last < left.last)) → IsCursor program rows (slice_set next_times k (last + 1)) cursor
cursor_after program rows next_times k last stretch cursor inside up first here left =
    let told : AreTold program rows (slice_set next_times k (last + 1)) k = told_moved program rows next_times k (last + 1) first.told in
    let moved : slice_index (slice_set next_times k (last + 1)) k ≡ last + 1 = get_or-set_same next_times k (last + 1) 0 inside in
    record {
      told = elim here [ inl same ↦ rw same told | inr next ↦ rw next.0 (told_past program rows next_times k last stretch inside first next.1) ];
      kept = λ found is.
          let at : cursor.out ≡ k = (left found is).0 in
          let same : found ≡ stretch = (left found is).1 in
          let later : last < found.last = (left found is).2 in
          let ends : last < stretch.last = subst (λ (s : Stretch). last < s.last) same later in
          let rest : IsFirstOpen program rows (slice_set next_times k (last + 1)) k stretch = record {
            output = first.output;
            there = first.there;
            told = told;
            here = rw moved (record {
              lasts = record { upward = omega (arith, ends); alike = λ t low high. first.here.lasts.alike t (omega arith) high };
              ends = first.here.ends;
            });
          } in
          rw (at, same) rest;
    }

-- something is open exactly where the first open output is found
open_some : (program : Program) (rows : List Row) (next_times : List ℕ) (k : ℕ) (stretch : Stretch) → ArePlaced program rows next_times → IsFirstOpen program rows next_times k stretch → open_of Each program rows next_times ≢ []
open_some program rows next_times k stretch placed first none =
    let next_time : ℕ = slice_index next_times k in
    let covers = covers_one (known_words program rows first.output) next_time stretch.last stretch.word first.here in
    let told = tells Each program rows next_times k next_time stretch placed first covers in
    let some = told.first in
    cc

pub none_found : (style : Style) (program : Program) (rows : List Row) (next_times : List ℕ) (found : Option (ℕ × Stretch)) (none : Bool) → is_some found ≡ not none → ArePlaced program rows next_times → FindsOpen program rows next_times found
    → IsTrue none ↔ (open_of style program rows next_times ≡ [])
none_found style program rows next_times None true e placed finds = (λ h. gives_none style program rows next_times finds, λ h. refl)
none_found style program rows next_times None false e placed finds = cc
none_found style program rows next_times (Some found) true e placed finds = cc
none_found style program rows next_times (Some (k, stretch)) false e placed finds =
    (λ h. cc, λ none. absurd (open_some program rows next_times k stretch placed finds (no_other style Each rows 0 (outputs program) next_times none)))

-- before the first row no word is known
pub counts_at_start : (program : Program) → replicate (length program.outs) 0 ≡ known_counts_of program []
counts_at_start program = go program.outs
  where
    go : (outs : List Out) → replicate (length outs) 0 ≡ known_counts [] (map (output_of program) outs)
    go [] = refl
    go (output ∷ outs) =
        let none : length (words [] (output_of program output)) ≡ 0 = omega (arith, words_fit [] (output_of program output)) in
        rw none (ap (λ (ns : List ℕ). 0 ∷ ns) (go outs))
