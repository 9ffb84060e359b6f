-- The reports of one output: with a report for each time they are one for each known word, and those of one row with a
-- report for each stretch differ in their word where they are neighbours.

use Rattle.std.specs.Prelude.{⊤}
use Rattle.std.proofs.Common.{◌≡◌, ℕ, zero, suc, ◌+◌, ◌<◌, ◌==◌, Bool, true, false, if◌then◌else◌, Some, List, [], ◌∷◌, ◌++◌, length, map, drop, slice_get, refl, sym, ap, ap₂, ◌∙◌, arith, append_assoc, append-nil}
use Rattle.std.specs.List.{range_with_len}
use Rattle.std.proofs.lemmas.List.{drop_at}
use Rattle.std.proofs.lemmas.List.Elements.{filter-append}
use Rattle.std.proofs.lemmas.Bool.{eq-eqb, ne_eqb, false≢true}
use Rattle.mltl_base.specs.declared.report.Word.{Word}
use Rattle.mltl_base.specs.declared.report.Style.{Style}
use Rattle.mltl_base.specs.declared.report.Style.TheVariants.{Each, Runs}
use Rattle.mltl_base.specs.declared.report.Report.{Report}
use Rattle.mltl_base.specs.Atoms.{Row}
use Rattle.mltl_base.specs.Reports.{Output, words, same_word, goes_on, of_words, of_row, reports_after, reports, reports_of, AreDistinctBeside}
use Rattle.mltl_base.proofs.Words.{words_begin}
use Rattle.mltl_base.proofs.Telling.{same_word_true, same_word_self, new_length, new_parts, words_none}

-- a report of the output is kept, and one of another output goes away
kept : (k : ℕ) (r : Report) (rs : List Report) → r.out ≡ k → reports_of k (r ∷ rs) ≡ r ∷ reports_of k rs
kept k r rs e = rw (eq-eqb r.out k e) refl

gone : (k : ℕ) (r : Report) (rs : List Report) → (r.out ≡ k → ⊥) → reports_of k (r ∷ rs) ≡ reports_of k rs
gone k r rs n = rw (ne_eqb r.out k n) refl

own_words : (style : Style) (k t : ℕ) (ws : List Word) → reports_of k (of_words style k t ws) ≡ of_words style k t ws
unfolding of_words
own_words Each k t [] = refl
own_words Runs k t [] = refl
own_words Each k t (w ∷ ws) = kept k (record { out = k; time = t; word = w }) (of_words Each k (suc t) ws) refl ∙ ap (◌∷◌ (record { out = k; time = t; word = w })) (own_words Each k (suc t) ws)
own_words Runs k t (w ∷ ws) = go (goes_on w ws) (own_words Runs k (suc t) ws)
  where
    go : (b : Bool) → reports_of k (of_words Runs k (suc t) ws) ≡ of_words Runs k (suc t) ws →
        reports_of k (if b then of_words Runs k (suc t) ws else record { out = k; time = t; word = w } ∷ of_words Runs k (suc t) ws)
        ≡ (if b then of_words Runs k (suc t) ws else record { out = k; time = t; word = w } ∷ of_words Runs k (suc t) ws)
    go true h = h
    go false h = kept k (record { out = k; time = t; word = w }) (of_words Runs k (suc t) ws) refl ∙ ap (◌∷◌ (record { out = k; time = t; word = w })) h

other_words : (style : Style) (k j t : ℕ) (ws : List Word) → (j ≡ k → ⊥) → reports_of k (of_words style j t ws) ≡ []
unfolding of_words
other_words Each k j t [] n = refl
other_words Runs k j t [] n = refl
other_words Each k j t (w ∷ ws) n = gone k (record { out = j; time = t; word = w }) (of_words Each j (suc t) ws) n ∙ other_words Each k j (suc t) ws n
other_words Runs k j t (w ∷ ws) n = go (goes_on w ws) (other_words Runs k j (suc t) ws n)
  where
    go : (b : Bool) → reports_of k (of_words Runs j (suc t) ws) ≡ [] →
        reports_of k (if b then of_words Runs j (suc t) ws else record { out = j; time = t; word = w } ∷ of_words Runs j (suc t) ws) ≡ []
    go true h = h
    go false h = gone k (record { out = j; time = t; word = w }) (of_words Runs j (suc t) ws) n ∙ h

-- the new words of an output at a row
abbrev pub new_words : List Row → Row → Output → List Word
new_words rows r o = drop (length (words rows o)) (words (rows ++ r ∷ []) o)

row_before : (style : Style) (k j : ℕ) (outs : List Output) (rows : List Row) (r : Row) → k < j → reports_of k (of_row style j outs rows r) ≡ []
unfolding of_row
row_before style k j [] rows r l = refl
row_before style k j (o ∷ outs) rows r l =
    filter-append (λ (x : Report). x.out == k) (of_words style j (length (words rows o)) (new_words rows r o)) (of_row style (suc j) outs rows r)
    ∙ ap₂ ◌++◌ (other_words style k j (length (words rows o)) (new_words rows r o) (λ e. omega arith)) (row_before style k (suc j) outs rows r (omega arith))

-- the reports of an output at a row tell its new words
row_reports : (style : Style) (k j m : ℕ) (outs : List Output) (rows : List Row) (r : Row) (o : Output) → k ≡ j + m → slice_get outs m ≡ Some o →
    reports_of k (of_row style j outs rows r) ≡ of_words style k (length (words rows o)) (new_words rows r o)
unfolding of_row
row_reports style k j m [] rows r o e f = cc
row_reports style k j zero (x ∷ outs) rows r o e f =
    let p : j ≡ k = omega arith in
    let q : x ≡ o = cc in
    rw (p, q)
    (filter-append (λ (x : Report). x.out == k) (of_words style k (length (words rows o)) (new_words rows r o)) (of_row style (suc k) outs rows r)
    ∙ ap₂ ◌++◌ (own_words style k (length (words rows o)) (new_words rows r o)) (row_before style k (suc k) outs rows r (omega arith))
    ∙ append-nil (of_words style k (length (words rows o)) (new_words rows r o)))
row_reports style k j (suc m) (x ∷ outs) rows r o e f =
    filter-append (λ (x : Report). x.out == k) (of_words style j (length (words rows x)) (new_words rows r x)) (of_row style (suc j) outs rows r)
    ∙ ap₂ ◌++◌ (other_words style k j (length (words rows x)) (new_words rows r x) (λ q. omega arith)) (row_reports style k (suc j) m outs rows r o (omega arith) f)

pub reports_at_row : (style : Style) (k : ℕ) (outs : List Output) (rows : List Row) (r : Row) (o : Output) → slice_get outs k ≡ Some o →
    reports_of k (of_row style 0 outs rows r) ≡ of_words style k (length (words rows o)) (new_words rows r o)
reports_at_row style k outs rows r o f = row_reports style k 0 k outs rows r o (omega arith) f

-- with a report for each time: those of the known words, one after another
each_append : (k t : ℕ) (us vs : List Word) → of_words Each k t (us ++ vs) ≡ of_words Each k t us ++ of_words Each k (t + length us) vs
unfolding of_words
each_append k t [] vs = let e : t + 0 ≡ t = omega arith in rw e refl
each_append k t (u ∷ us) vs =
    let e : t + suc (length us) ≡ suc t + length us = omega arith in
    rw e (ap (◌∷◌ (record { out = k; time = t; word = u })) (each_append k (suc t) us vs))

each_after : (k : ℕ) (outs : List Output) (rows more : List Row) (o : Output) → slice_get outs k ≡ Some o →
    reports_of k (reports_after Each outs rows more) ≡ of_words Each k (length (words rows o)) (drop (length (words rows o)) (words (rows ++ more) o))
unfolding reports_after of_words
each_after k outs rows [] o f =
    rw append-nil (sym (ap (of_words Each k (length (words rows o))) (Rattle.std.proofs.lemmas.List.drop_all (length (words rows o)) (words rows o) (omega arith))))
each_after k outs rows (r ∷ more) o f =
    let old : List Word = words rows o in
    let next : List Word = words (rows ++ r ∷ []) o in
    let now : List Word = words ((rows ++ r ∷ []) ++ more) o in
    let starts : length old + length (drop (length old) next) ≡ length next = new_length old next (words_begin rows (r ∷ []) o) in
    rw (← append_assoc rows (r ∷ []) more)
    (filter-append (λ (x : Report). x.out == k) (of_row Each 0 outs rows r) (reports_after Each outs (rows ++ r ∷ []) more)
    ∙ ap₂ ◌++◌ (reports_at_row Each k outs rows r o f) (each_after k outs (rows ++ r ∷ []) more o f)
    ∙ ap (λ (n : ℕ). of_words Each k (length old) (drop (length old) next) ++ of_words Each k n (drop (length next) now)) (sym starts)
    ∙ sym (each_append k (length old) (drop (length old) next) (drop (length next) now))
    ∙ ap (of_words Each k (length old)) (new_parts old next now (words_begin rows (r ∷ []) o) (words_begin (rows ++ r ∷ []) more o)))

each_reports : (k : ℕ) (outs : List Output) (rows : List Row) (o : Output) → slice_get outs k ≡ Some o → reports_of k (reports Each outs rows) ≡ of_words Each k 0 (words rows o)
each_reports k outs rows o f = rw (words_none o) at (each_after k outs [] rows o f)

each_times : (k t : ℕ) (ws : List Word) → map (λ (r : Report). r.time) (of_words Each k t ws) ≡ range_with_len t (length ws)
unfolding of_words
each_times k t [] = refl
each_times k t (w ∷ ws) = let e : t + 1 ≡ suc t = omega arith in rw e (ap (◌∷◌ t) (each_times k (suc t) ws))

each_words : (k t : ℕ) (ws : List Word) → map (λ (r : Report). r.word) (of_words Each k t ws) ≡ ws
unfolding of_words
each_words k t [] = refl
each_words k t (w ∷ ws) = ap (◌∷◌ w) (each_words k (suc t) ws)

pub times_count_up : (k : ℕ) (outs : List Output) (rows : List Row) (o : Output) → slice_get outs k ≡ Some o →
    map (λ (r : Report). r.time) (reports_of k (reports Each outs rows)) ≡ range_with_len 0 (length (words rows o))
times_count_up k outs rows o f = ap (map (λ (r : Report). r.time)) (each_reports k outs rows o f) ∙ each_times k 0 (words rows o)

pub words_one_by_one : (k : ℕ) (outs : List Output) (rows : List Row) (o : Output) → slice_get outs k ≡ Some o →
    map (λ (r : Report). r.word) (reports_of k (reports Each outs rows)) ≡ words rows o
words_one_by_one k outs rows o f = ap (map (λ (r : Report). r.word)) (each_reports k outs rows o f) ∙ each_words k 0 (words rows o)

-- with a report for each stretch: neighbours differ
-- the first report, if there is one, has another word
abbrev pub StartsOtherwise : Word → List Report → Type 0
StartsOtherwise w [] = ⊤
StartsOtherwise w (r ∷ rs) = w ≡ r.word → ⊥

abbrev pub NeighboursDiffer : List Report → Type 0
NeighboursDiffer [] = ⊤
NeighboursDiffer (r ∷ rs) = StartsOtherwise r.word rs × NeighboursDiffer rs

starts_otherwise : (k t : ℕ) (w v : Word) (vs : List Word) → (w ≡ v → ⊥) → StartsOtherwise w (of_words Runs k t (v ∷ vs))
unfolding of_words
starts_otherwise k t w v [] n = n
starts_otherwise k t w v (u ∷ us) n = go (same_word v u) refl (starts_otherwise k (suc t) w u us)
  where
    go : (b : Bool) → same_word v u ≡ b → ((w ≡ u → ⊥) → StartsOtherwise w (of_words Runs k (suc t) (u ∷ us))) →
        StartsOtherwise w (if b then of_words Runs k (suc t) (u ∷ us) else record { out = k; time = t; word = v } ∷ of_words Runs k (suc t) (u ∷ us))
    go true e h = h (λ q. n (q ∙ sym (same_word_true v u e)))
    go false e h = n

runs_differ : (k t : ℕ) (ws : List Word) → NeighboursDiffer (of_words Runs k t ws)
unfolding of_words
runs_differ k t [] = tt
runs_differ k t (w ∷ []) = (tt, tt)
runs_differ k t (w ∷ v ∷ vs) = go (same_word w v) refl (runs_differ k (suc t) (v ∷ vs))
  where
    go : (b : Bool) → same_word w v ≡ b → NeighboursDiffer (of_words Runs k (suc t) (v ∷ vs)) →
        NeighboursDiffer (if b then of_words Runs k (suc t) (v ∷ vs) else record { out = k; time = t; word = w } ∷ of_words Runs k (suc t) (v ∷ vs))
    go true e h = h
    go false e h = (starts_otherwise k (suc t) w v vs (λ q. false≢true (sym e ∙ ap (same_word w) (sym q) ∙ same_word_self w)), h)

distinct_from : (rs : List Report) → NeighboursDiffer rs → AreDistinctBeside rs
distinct_from [] h i d l = absurd (omega arith)
distinct_from (r ∷ []) h i d l = absurd (omega arith)
distinct_from (r ∷ s ∷ rs) h zero d l = h.0
distinct_from (r ∷ s ∷ rs) h (suc i) d l = let q : suc i + 1 ≡ suc (i + 1) = omega arith in rw q (distinct_from (s ∷ rs) h.1 i d (omega arith))

pub row_runs_differ : (k : ℕ) (outs : List Output) (rows : List Row) (r : Row) (o : Output) → slice_get outs k ≡ Some o → AreDistinctBeside (reports_of k (of_row Runs 0 outs rows r))
row_runs_differ k outs rows r o f =
    rw (reports_at_row Runs k outs rows r o f) (distinct_from _ (runs_differ k (length (words rows o)) (new_words rows r o)))
