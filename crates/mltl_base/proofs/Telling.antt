-- The reports of an output tell its known words, each time once and in order.

use Rattle.std.proofs.Common.{◌≡◌, ℕ, zero, suc, ◌+◌, ◌-◌, ◌<◌, ◌≤◌, ◌==◌, Bool, true, false, if◌then◌else◌, MatchBool, Some, List, [], ◌∷◌, ◌++◌, length, drop, replicate, slice_get, refl, sym, ap, ◌∙◌, le_refl, arith, length-append, append_assoc, append-nil}
use Rattle.std.proofs.lemmas.List.{replicate_more, drop_at, nil_from_length, drop_all}
use Rattle.std.proofs.lemmas.Bool.{eq-eqb, ne_eqb}
use Rattle.mltl_base.specs.declared.report.Word.{Word}
use Rattle.mltl_base.specs.declared.report.Word.TheVariants.{T, F, Inactive, Invalid, Verified}
use Rattle.mltl_base.specs.declared.report.Style.{Style}
use Rattle.mltl_base.specs.declared.report.Style.TheVariants.{Each, Runs}
use Rattle.mltl_base.specs.declared.report.Report.{Report}
use Rattle.mltl_base.specs.Atoms.{Row}
use Rattle.mltl_base.specs.Settled.{IsPrefix}
use Rattle.mltl_base.specs.Reports.{Output, words, same_word, goes_on, of_words, of_row, reports_after, reports, told, IsRising}
use Rattle.mltl_base.proofs.Words.{words_begin, words_fit}

-- the time after the last report of output k, where the next time was t before
unfoldable pub place : ℕ → ℕ → List Report → ℕ
place k t [] = t
place k t (r ∷ rs) = if r.out == k then place k (suc r.time) rs else place k t rs

-- the reports tell these words of output k, from time s on and up to time e
pub record Tells (k s e : ℕ) (ws : List Word) (rs : List Report) : Type 0 where
  pub tells : told k s rs ≡ ws
  pub ends : place k s rs ≡ e
  pub rising : IsRising k s rs

pub told_append : (k t : ℕ) (xs ys : List Report) → told k t (xs ++ ys) ≡ told k t xs ++ told k (place k t xs) ys
unfolding told place
told_append k t [] ys = refl
told_append k t (r ∷ rs) ys = go (r.out == k) (told_append k (suc r.time) rs ys) (told_append k t rs ys)
  where
    go : (b : Bool) → told k (suc r.time) (rs ++ ys) ≡ told k (suc r.time) rs ++ told k (place k (suc r.time) rs) ys → told k t (rs ++ ys) ≡ told k t rs ++ told k (place k t rs) ys →
        (if b then replicate (suc r.time - t) r.word ++ told k (suc r.time) (rs ++ ys) else told k t (rs ++ ys))
        ≡ (if b then replicate (suc r.time - t) r.word ++ told k (suc r.time) rs else told k t rs) ++ told k (if b then place k (suc r.time) rs else place k t rs) ys
    go true p q = rw (p, append_assoc) refl
    go false p q = q

pub place_append : (k t : ℕ) (xs ys : List Report) → place k t (xs ++ ys) ≡ place k (place k t xs) ys
unfolding place
place_append k t [] ys = refl
place_append k t (r ∷ rs) ys = go (r.out == k) (place_append k (suc r.time) rs ys) (place_append k t rs ys)
  where
    go : (b : Bool) → place k (suc r.time) (rs ++ ys) ≡ place k (place k (suc r.time) rs) ys → place k t (rs ++ ys) ≡ place k (place k t rs) ys →
        (if b then place k (suc r.time) (rs ++ ys) else place k t (rs ++ ys)) ≡ place k (if b then place k (suc r.time) rs else place k t rs) ys
    go true p q = p
    go false p q = q

pub rising_append : (k t : ℕ) (xs ys : List Report) → IsRising k t xs → IsRising k (place k t xs) ys → IsRising k t (xs ++ ys)
unfolding IsRising place
rising_append k t [] ys h g = g
rising_append k t (r ∷ rs) ys h g = go (r.out == k) (rising_append k (suc r.time) rs ys) (rising_append k t rs ys) h g
  where
    go : (b : Bool) → (IsRising k (suc r.time) rs → IsRising k (place k (suc r.time) rs) ys → IsRising k (suc r.time) (rs ++ ys)) → (IsRising k t rs → IsRising k (place k t rs) ys → IsRising k t (rs ++ ys)) →
        MatchBool b ((t ≤ r.time) × IsRising k (suc r.time) rs) (IsRising k t rs) → IsRising k (if b then place k (suc r.time) rs else place k t rs) ys →
        MatchBool b ((t ≤ r.time) × IsRising k (suc r.time) (rs ++ ys)) (IsRising k t (rs ++ ys))
    go true p q h g = (h.0, p h.1 g)
    go false p q h g = q h g

pub tells_append : (k s e f : ℕ) (us vs : List Word) (xs ys : List Report) → Tells k s e us xs → Tells k e f vs ys → Tells k s f (us ++ vs) (xs ++ ys)
tells_append k s e f us vs xs ys h g =
    record {
      tells = rw (told_append k s xs ys, h.tells, h.ends, g.tells) refl;
      ends = rw (place_append k s xs ys, h.ends) g.ends;
      rising = rising_append k s xs ys h.rising (rw h.ends g.rising);
    }

pub tells_none : (k s : ℕ) → Tells k s s [] []
unfolding told place IsRising
tells_none k s = record { tells = refl; ends = refl; rising = tt }

-- one report
tells_one : (k s t : ℕ) (w : Word) (rs : List Report) (e : ℕ) (ws : List Word) → s ≤ t → Tells k (suc t) e ws rs → Tells k s e (replicate (suc t - s) w ++ ws) (record { out = k; time = t; word = w } ∷ rs)
unfolding told place IsRising
tells_one k s t w rs e ws l h =
    record {
      tells = rw (eq-eqb k k refl, h.tells) refl;
      ends = rw (eq-eqb k k refl) h.ends;
      rising = rw (eq-eqb k k refl) (l, h.rising);
    }

tells_other : (k s j t : ℕ) (w : Word) (rs : List Report) (e : ℕ) (ws : List Word) → (j ≡ k → ⊥) → Tells k s e ws rs → Tells k s e ws (record { out = j; time = t; word = w } ∷ rs)
unfolding told place IsRising
tells_other k s j t w rs e ws n h =
    record {
      tells = rw (ne_eqb j k n) h.tells;
      ends = rw (ne_eqb j k n) h.ends;
      rising = rw (ne_eqb j k n) h.rising;
    }

-- the reports of another output tell nothing
tells_nothing : (style : Style) (k s j t : ℕ) (ws : List Word) → (j ≡ k → ⊥) → Tells k s s [] (of_words style j t ws)
unfolding of_words
tells_nothing Each k s j t [] n = tells_none k s
tells_nothing Runs k s j t [] n = tells_none k s
tells_nothing Each k s j t (w ∷ ws) n = tells_other k s j t w (of_words Each j (suc t) ws) s [] n (tells_nothing Each k s j (suc t) ws n)
tells_nothing Runs k s j t (w ∷ ws) n = go (goes_on w ws) (tells_nothing Runs k s j (suc t) ws n)
  where
    go : (b : Bool) → Tells k s s [] (of_words Runs j (suc t) ws) →
        Tells k s s [] (if b then of_words Runs j (suc t) ws else record { out = j; time = t; word = w } ∷ of_words Runs j (suc t) ws)
    go true h = h
    go false h = tells_other k s j t w (of_words Runs j (suc t) ws) s [] n h

pub same_word_true : (v w : Word) → same_word v w ≡ true → v ≡ w
same_word_true T T e = refl
same_word_true F F e = refl
same_word_true Inactive Inactive e = refl
same_word_true Invalid Invalid e = refl
same_word_true Verified Verified e = refl
same_word_true T F e = cc
same_word_true T Inactive e = cc
same_word_true T Invalid e = cc
same_word_true T Verified e = cc
same_word_true F T e = cc
same_word_true F Inactive e = cc
same_word_true F Invalid e = cc
same_word_true F Verified e = cc
same_word_true Inactive T e = cc
same_word_true Inactive F e = cc
same_word_true Inactive Invalid e = cc
same_word_true Inactive Verified e = cc
same_word_true Invalid T e = cc
same_word_true Invalid F e = cc
same_word_true Invalid Inactive e = cc
same_word_true Invalid Verified e = cc
same_word_true Verified T e = cc
same_word_true Verified F e = cc
same_word_true Verified Inactive e = cc
same_word_true Verified Invalid e = cc

pub same_word_self : (w : Word) → same_word w w ≡ true
same_word_self T = refl
same_word_self _ = refl

tells_as : (k s e f : ℕ) (us vs : List Word) (rs : List Report) → e ≡ f → us ≡ vs → Tells k s e us rs → Tells k s f vs rs
tells_as k s e f us vs rs p q h = record { tells = h.tells ∙ q; ends = h.ends ∙ p; rising = h.rising }

run_more : (n m : ℕ) (w : Word) (ws : List Word) → m ≡ n + 1 → replicate m w ++ ws ≡ replicate n w ++ w ∷ ws
run_more n m w ws e = rw (e, ← replicate_more n w, append_assoc (replicate n w) (w ∷ []) ws) refl

-- each word by its own report
tells_each : (k t : ℕ) (ws : List Word) → Tells k t (t + length ws) ws (of_words Each k t ws)
unfolding of_words
tells_each k t [] = tells_as k t t (t + 0) [] [] [] (omega arith) refl (tells_none k t)
tells_each k t (w ∷ ws) =
    tells_as k t (suc t + length ws) (t + suc (length ws)) (replicate (suc t - t) w ++ ws) (w ∷ ws) _ (omega arith) (run_more 0 (suc t - t) w ws (omega arith))
    (tells_one k t t w (of_words Each k (suc t) ws) (suc t + length ws) ws (omega arith) (tells_each k (suc t) ws))

-- the words from s on are told together, where those before time t are all w
runs_go : (k s t : ℕ) (w v : Word) (vs : List Word) (b : Bool) → s ≤ t → (b ≡ true → w ≡ v) →
    Tells k s (suc t + suc (length vs)) (replicate (suc t - s) v ++ v ∷ vs) (of_words Runs k (suc t) (v ∷ vs)) →
    Tells k (suc t) (suc t + suc (length vs)) (replicate (suc t - suc t) v ++ v ∷ vs) (of_words Runs k (suc t) (v ∷ vs)) →
    Tells k s (t + suc (suc (length vs))) (replicate (t - s) w ++ w ∷ v ∷ vs) (if b then of_words Runs k (suc t) (v ∷ vs) else record { out = k; time = t; word = w } ∷ of_words Runs k (suc t) (v ∷ vs))
runs_go k s t w v vs true l e h g =
    tells_as k s (suc t + suc (length vs)) _ (replicate (suc t - s) v ++ v ∷ vs) _ _ (omega arith)
    (rw (e refl) (run_more (t - s) (suc t - s) v (v ∷ vs) (omega arith))) h
runs_go k s t w v vs false l e h g =
    tells_as k s (suc t + suc (length vs)) _ (replicate (suc t - s) w ++ (replicate (suc t - suc t) v ++ v ∷ vs)) _ _ (omega arith)
    (let z : suc t - suc t ≡ 0 = omega arith in rw z (run_more (t - s) (suc t - s) w (v ∷ vs) (omega arith)))
    (tells_one k s t w (of_words Runs k (suc t) (v ∷ vs)) (suc t + suc (length vs)) (replicate (suc t - suc t) v ++ v ∷ vs) l g)

tells_runs : (k s t : ℕ) (w : Word) (ws : List Word) → s ≤ t → Tells k s (t + suc (length ws)) (replicate (t - s) w ++ w ∷ ws) (of_words Runs k t (w ∷ ws))
unfolding of_words
tells_runs k s t w [] l =
    tells_as k s (suc t) (t + 1) (replicate (suc t - s) w ++ []) _ _ (omega arith) (run_more (t - s) (suc t - s) w [] (omega arith))
    (tells_one k s t w [] (suc t) [] l (tells_none k (suc t)))
tells_runs k s t w (v ∷ vs) l =
    runs_go k s t w v vs (same_word w v) l (same_word_true w v) (tells_runs k s (suc t) v vs (omega arith)) (tells_runs k (suc t) (suc t) v vs (omega arith))

-- the reports of new words tell them
pub tells_words : (style : Style) (k t : ℕ) (ws : List Word) → Tells k t (t + length ws) ws (of_words style k t ws)
unfolding of_words
tells_words Each k t ws = tells_each k t ws
tells_words Runs k t [] = tells_as k t t (t + 0) [] [] [] (omega arith) refl (tells_none k t)
tells_words Runs k t (w ∷ ws) =
    let z : t - t ≡ 0 = omega arith in
    tells_as k t (t + suc (length ws)) _ (replicate (t - t) w ++ w ∷ ws) _ _ refl (rw z refl) (tells_runs k t t w ws (omega arith))

-- the reports of a row
row_before : (style : Style) (k s j : ℕ) (outs : List Output) (rows : List Row) (r : Row) → k < j → Tells k s s [] (of_row style j outs rows r)
unfolding of_row
row_before style k s j [] rows r l = tells_none k s
row_before style k s j (o ∷ outs) rows r l =
    tells_append k s s s [] [] _ _
    (tells_nothing style k s j (length (words rows o)) (drop (length (words rows o)) (words (rows ++ r ∷ []) o)) (omega arith))
    (row_before style k s (suc j) outs rows r (omega arith))

pub new_length : {X : Type 0} (xs ys : List X) → IsPrefix xs ys → length xs + length (drop (length xs) ys) ≡ length ys
new_length xs ys p = rw (p.1, drop_at xs p.0 (length xs) refl, length-append xs p.0) refl

-- the new words of an output, and the row's reports of the outputs from it on
first_tells : (style : Style) (k : ℕ) (o : Output) (outs : List Output) (rows : List Row) (r : Row) →
    Tells k (length (words rows o)) (length (words (rows ++ r ∷ []) o)) (drop (length (words rows o)) (words (rows ++ r ∷ []) o)) (of_row style k (o ∷ outs) rows r)
unfolding of_row
first_tells style k o outs rows r =
    let old : List Word = words rows o in
    let now : List Word = words (rows ++ r ∷ []) o in
    let new : List Word = drop (length old) now in
    tells_as k (length old) (length old + length new) (length now) (new ++ []) new _ (new_length old now (words_begin rows (r ∷ []) o)) (append-nil new)
    (tells_append k (length old) (length old + length new) (length old + length new) new [] (of_words style k (length old) new) (of_row style (suc k) outs rows r)
    (tells_words style k (length old) new)
    (row_before style k (length old + length new) (suc k) outs rows r (omega arith)))

pub row_tells : (style : Style) (k j m : ℕ) (outs : List Output) (rows : List Row) (r : Row) (o : Output) → k ≡ j + m → slice_get outs m ≡ Some o →
    Tells k (length (words rows o)) (length (words (rows ++ r ∷ []) o)) (drop (length (words rows o)) (words (rows ++ r ∷ []) o)) (of_row style j outs rows r)
unfolding of_row
row_tells style k j m [] rows r o e f = cc
row_tells style k j zero (x ∷ outs) rows r o e f =
    let p : j ≡ k = omega arith in
    let q : x ≡ o = cc in
    rw (p, q) (first_tells style k o outs rows r)
row_tells style k j (suc m) (x ∷ outs) rows r o e f =
    let start : ℕ = length (words rows o) in
    tells_append k start start (length (words (rows ++ r ∷ []) o)) [] (drop start (words (rows ++ r ∷ []) o)) _ _
    (tells_nothing style k start j (length (words rows x)) (drop (length (words rows x)) (words (rows ++ r ∷ []) x)) (omega arith))
    (row_tells style k (suc j) m outs rows r o (omega arith) f)

-- the reports of further rows
pub new_parts : {X : Type 0} (xs ys zs : List X) → IsPrefix xs ys → IsPrefix ys zs → drop (length xs) ys ++ drop (length ys) zs ≡ drop (length xs) zs
new_parts xs ys zs p q =
    rw (q.1, drop_at ys q.0 (length ys) refl, p.1, append_assoc xs p.0 q.0, drop_at xs p.0 (length xs) refl, drop_at xs (p.0 ++ q.0) (length xs) refl) refl

pub reports_tell : (style : Style) (k : ℕ) (outs : List Output) (rows more : List Row) (o : Output) → slice_get outs k ≡ Some o →
    Tells k (length (words rows o)) (length (words (rows ++ more) o)) (drop (length (words rows o)) (words (rows ++ more) o)) (reports_after style outs rows more)
unfolding reports_after
reports_tell style k outs rows [] o f =
    let now : List Word = words rows o in
    rw append-nil (tells_as k (length now) (length now) (length now) [] (drop (length now) now) [] refl (sym (drop_all (length now) now (le_refl (length now)))) (tells_none k (length now)))
reports_tell style k outs rows (r ∷ more) o f =
    let old : List Word = words rows o in
    let next : List Word = words (rows ++ r ∷ []) o in
    let now : List Word = words ((rows ++ r ∷ []) ++ more) o in
    rw (← append_assoc rows (r ∷ []) more)
    (tells_as k (length old) (length now) (length now) (drop (length old) next ++ drop (length next) now) (drop (length old) now) _ refl
    (new_parts old next now (words_begin rows (r ∷ []) o) (words_begin (rows ++ r ∷ []) more o))
    (tells_append k (length old) (length next) (length now) (drop (length old) next) (drop (length next) now) (of_row style 0 outs rows r) (reports_after style outs (rows ++ r ∷ []) more)
    (row_tells style k 0 k outs rows r o (omega arith) f)
    (reports_tell style k outs (rows ++ r ∷ []) more o f)))

-- from the first row on
pub words_none : (o : Output) → words [] o ≡ []
words_none o = nil_from_length (words [] o) (let h = words_fit [] o in omega arith)

pub all_tell : (style : Style) (k : ℕ) (outs : List Output) (rows : List Row) (o : Output) → slice_get outs k ≡ Some o → Tells k 0 (length (words rows o)) (words rows o) (reports style outs rows)
all_tell style k outs rows o f = rw (words_none o) at (reports_tell style k outs [] rows o f)

pub told_words : (style : Style) (k : ℕ) (outs : List Output) (rows : List Row) (o : Output) → slice_get outs k ≡ Some o → told k 0 (reports style outs rows) ≡ words rows o
told_words style k outs rows o f = let h = all_tell style k outs rows o f in h.tells

pub reports_rise : (style : Style) (k : ℕ) (outs : List Output) (rows : List Row) (o : Output) → slice_get outs k ≡ Some o → IsRising k 0 (reports style outs rows)
reports_rise style k outs rows o f = let h = all_tell style k outs rows o f in h.rising

pub told_new_words : (style : Style) (k : ℕ) (outs : List Output) (rows : List Row) (r : Row) (o : Output) → slice_get outs k ≡ Some o →
    told k (length (words rows o)) (of_row style 0 outs rows r) ≡ drop (length (words rows o)) (words (rows ++ r ∷ []) o)
told_new_words style k outs rows r o f = let h = row_tells style k 0 k outs rows r o (omega arith) f in h.tells

pub row_rises : (style : Style) (k : ℕ) (outs : List Output) (rows : List Row) (r : Row) (o : Output) → slice_get outs k ≡ Some o →
    IsRising k (length (words rows o)) (of_row style 0 outs rows r)
row_rises style k outs rows r o f = let h = row_tells style k 0 k outs rows r o (omega arith) f in h.rising

-- the reports of more rows follow those of the rows
pub after_append : (style : Style) (outs : List Output) (rows more further : List Row) →
    reports_after style outs rows (more ++ further) ≡ reports_after style outs rows more ++ reports_after style outs (rows ++ more) further
unfolding reports_after
after_append style outs rows [] further = rw append-nil refl
after_append style outs rows (r ∷ more) further =
    rw (after_append style outs (rows ++ r ∷ []) more further, append_assoc rows (r ∷ []) more) (sym (append_assoc (of_row style 0 outs rows r) _ _))

pub reports_append : (style : Style) (outs : List Output) (rows more : List Row) → reports style outs (rows ++ more) ≡ reports style outs rows ++ reports_after style outs rows more
reports_append style outs rows more = after_append style outs [] rows more

pub reports_push : (style : Style) (outs : List Output) (rows : List Row) (r : Row) → reports style outs (rows ++ r ∷ []) ≡ reports style outs rows ++ of_row style 0 outs rows r
unfolding reports_after
reports_push style outs rows r = reports_append style outs rows (r ∷ []) ∙ ap (λ l. reports style outs rows ++ l) (append-nil (of_row style 0 outs rows r))
