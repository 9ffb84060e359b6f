-- Reports are told word by word, output by output and row by row.

use Rattle.std.proofs.Common.{◌≡◌, ℕ, suc, ◌+◌, ◌<◌, ◌≤◌, All, Bool, true, false, not, if◌then◌else◌, List, [], ◌∷◌, ◌++◌, map, take, drop, length, get_or, slice_get, refl, sym, ap, ap₂, ◌∙◌, arith, append_assoc, append-nil}
use Rattle.std.proofs.lemmas.List.{take_more, drop_more, drop_all, get_or_default}
use Rattle.mltl_base.specs.declared.report.Word.{Word}
use Rattle.mltl_base.specs.declared.report.Word.TheVariants.{T}
use Rattle.mltl_base.specs.declared.report.Style.{Style}
use Rattle.mltl_base.specs.declared.report.Style.TheVariants.{Each, Runs}
use Rattle.mltl_base.specs.declared.report.Report.{Report}
use Rattle.mltl_base.specs.Atoms.{Row}
use Rattle.mltl_base.specs.Reports.{Output, formula, contract, word_of, status, words, same_word, goes_on, of_words, of_row, reports_after, reports}
use Rattle.mltl_base.proofs.Telling.{reports_push}
use Rattle.mltl_oracle.specs.declared.formula.Output.{Output as Out}
use Rattle.mltl_oracle.specs.declared.formula.Formula.{Formula as Tree}
use Rattle.mltl_oracle.specs.Shapes.{as_formula, as_output}
use Rattle.mltl_base.specs.Verdicts.{verdicts, known_front}
use Rattle.mltl_oracle.specs.Telling.{is_told, of_outputs}
use Rattle.mltl_oracle.specs.Computing.{ComputesOutput}
use Rattle.mltl_oracle.proofs.Shaping.{computes_first}

-- what is still to be told, with what was told, is all that is due
pub record IsDue (told due rest : List Report) : Type 0 where
  pub whole : told ++ rest ≡ due

words_step : (style : Style) (k t : ℕ) (w : Word) (ws : List Word) → of_words style k t (w ∷ ws) ≡ (if is_told style w ws then record { out = k; time = t; word = w } ∷ of_words style k (suc t) ws else of_words style k (suc t) ws)
unfolding of_words
words_step Each k t w ws = refl
words_step Runs k t w ws = go (goes_on w ws)
  where
    go : (b : Bool) → (if b then of_words Runs k (suc t) ws else record { out = k; time = t; word = w } ∷ of_words Runs k (suc t) ws)
        ≡ (if not b then record { out = k; time = t; word = w } ∷ of_words Runs k (suc t) ws else of_words Runs k (suc t) ws)
    go true = refl
    go false = refl

words_at : (style : Style) (k t : ℕ) (ws : List Word) (w : Word) (b : Bool) → t < length ws → is_told style (get_or ws t w) (drop (suc t) ws) ≡ b →
    of_words style k t (drop t ws) ≡ (if b then record { out = k; time = t; word = get_or ws t w } ∷ of_words style k (suc t) (drop (suc t) ws) else of_words style k (suc t) (drop (suc t) ws))
words_at style k t ws w b l e =
    let s : t + 1 ≡ suc t = omega arith in
    ap (of_words style k t) (drop_more ws t w l ∙ ap (λ n. get_or ws t w ∷ drop n ws) s)
    ∙ (words_step style k t (get_or ws t w) (drop (suc t) ws)
    ∙ ap (λ (c : Bool). if c then record { out = k; time = t; word = get_or ws t w } ∷ of_words style k (suc t) (drop (suc t) ws) else of_words style k (suc t) (drop (suc t) ws)) e)

pub due_told : (style : Style) (k t : ℕ) (ws : List Word) (w : Word) (told now due : List Report) → t < length ws → true ≡ is_told style (get_or ws t w) (drop (suc t) ws) →
    now ≡ told ++ record { out = k; time = t; word = get_or ws t w } ∷ [] → IsDue told due (of_words style k t (drop t ws)) → IsDue now due (of_words style k (t + 1) (drop (t + 1) ws))
due_told style k t ws w told now due l e q h =
    let s : t + 1 ≡ suc t = omega arith in
    record {
      whole =
          rw (s, q) (append_assoc told (record { out = k; time = t; word = get_or ws t w } ∷ []) (of_words style k (suc t) (drop (suc t) ws))
          ∙ (ap (λ rest. told ++ rest) (sym (words_at style k t ws w true l (sym e))) ∙ h.whole));
    }

pub due_kept : (style : Style) (k t : ℕ) (ws : List Word) (w : Word) (told due : List Report) → t < length ws → false ≡ is_told style (get_or ws t w) (drop (suc t) ws) →
    IsDue told due (of_words style k t (drop t ws)) → IsDue told due (of_words style k (t + 1) (drop (t + 1) ws))
due_kept style k t ws w told due l e h =
    let s : t + 1 ≡ suc t = omega arith in
    record { whole = rw s (ap (λ rest. told ++ rest) (sym (words_at style k t ws w false l (sym e))) ∙ h.whole) }

pub due_end : (style : Style) (k t : ℕ) (ws : List Word) (told due : List Report) → length ws ≤ t → IsDue told due (of_words style k t (drop t ws)) → told ≡ due
unfolding of_words
due_end Each k t ws told due l h = sym (append-nil told) ∙ (ap (λ us. told ++ of_words Each k t us) (sym (drop_all t ws l)) ∙ h.whole)
due_end Runs k t ws told due l h = sym (append-nil told) ∙ (ap (λ us. told ++ of_words Runs k t us) (sym (drop_all t ws l)) ∙ h.whole)

-- output by output
outputs_at : (style : Style) (k : ℕ) (outs : List Out) (o : Out) (before now : List Row) → k < length outs → o ≡ get_or outs k o →
    of_outputs style k (map as_output (drop k outs)) before now
    ≡ of_words style k (length (words before (as_output o))) (drop (length (words before (as_output o))) (words now (as_output o))) ++ of_outputs style (suc k) (map as_output (drop (suc k) outs)) before now
unfolding of_outputs
outputs_at style k outs o before now l e =
    let s : k + 1 ≡ suc k = omega arith in
    ap (λ os. of_outputs style k (map as_output os) before now) (drop_more outs k o l ∙ (ap (λ n. get_or outs k o ∷ drop n outs) s ∙ ap (λ p. p ∷ drop (suc k) outs) (sym e)))

pub row_more : (style : Style) (k : ℕ) (outs : List Out) (o : Out) (before now : List Row) (old all : List Word) (m : ℕ) (told new due : List Report) → k < length outs → o ≡ get_or outs k o →
    old ≡ words before (as_output o) → all ≡ words now (as_output o) → m ≡ length old → new ≡ told ++ of_words style k m (drop m all) →
    IsDue told due (of_outputs style k (map as_output (drop k outs)) before now) → IsDue new due (of_outputs style (k + 1) (map as_output (drop (k + 1) outs)) before now)
row_more style k outs o before now old all m told new due l e f g n q h =
    let s : k + 1 ≡ suc k = omega arith in
    record {
      whole =
          rw (s, q, n, f, g) (append_assoc told _ _ ∙ (ap (λ rest. told ++ rest) (sym (outputs_at style k outs o before now l e)) ∙ h.whole));
    }

pub row_end : (style : Style) (k : ℕ) (outs : List Out) (before now : List Row) (told due : List Report) → length outs ≤ k → IsDue told due (of_outputs style k (map as_output (drop k outs)) before now) → told ≡ due
unfolding of_outputs
row_end style k outs before now told due l h =
    sym (append-nil told) ∙ (ap (λ os. told ++ of_outputs style k (map as_output os) before now) (sym (drop_all k outs l)) ∙ h.whole)

-- row by row
one_row : (style : Style) (k : ℕ) (outs : List Output) (rows : List Row) (r : Row) → of_outputs style k outs rows (rows ++ r ∷ []) ≡ of_row style k outs rows r
unfolding of_outputs of_row
one_row style k [] rows r = refl
one_row style k (o ∷ outs) rows r = ap (λ rest. of_words style k (length (words rows o)) (drop (length (words rows o)) (words (rows ++ r ∷ []) o)) ++ rest) (one_row style (suc k) outs rows r)

pub rows_more : (style : Style) (outs : List Output) (rows : List Row) (n : ℕ) (told new : List Report) → n < length rows → told ≡ reports style outs (take n rows) →
    new ≡ told ++ of_outputs style 0 outs (take n rows) (take (n + 1) rows) → new ≡ reports style outs (take (n + 1) rows)
rows_more style outs rows n told new l h q =
    let e : take (n + 1) rows ≡ take n rows ++ get_or rows n [] ∷ [] = take_more rows n [] l in
    q ∙ (ap₂ (λ (t : List Report) (now : List Row). t ++ of_outputs style 0 outs (take n rows) now) h e
    ∙ (ap (λ rest. reports style outs (take n rows) ++ rest) (one_row style 0 outs (take n rows) (get_or rows n []))
    ∙ (sym (reports_push style outs (take n rows) (get_or rows n [])) ∙ ap (reports style outs) (sym e))))

pub rows_none : (style : Style) (outs : List Output) (rows : List Row) → [] ≡ reports style outs (take 0 rows)
unfolding reports_after
rows_none style outs rows = refl

-- the next word
pub goes_next : (ws : List Word) (t : ℕ) (v n w : Word) (b : Bool) → t + 1 < length ws → v ≡ get_or ws t v → n ≡ get_or ws (t + 1) n → b ≡ same_word v n → b ≡ goes_on (get_or ws t w) (drop (suc t) ws)
goes_next ws t v n w b l e f g =
    let s : t + 1 ≡ suc t = omega arith in
    let d : get_or ws t w ≡ v = get_or_default ws t w v (omega arith) ∙ sym e in
    g ∙ (ap₂ same_word (sym d) f ∙ ap (goes_on (get_or ws t w)) (sym (drop_more ws (t + 1) n l) ∙ ap (λ m. drop m ws) s))

-- a word that is told, or goes on
pub due_step : (style : Style) (k t : ℕ) (ws : List Word) (w : Word) (told now due : List Report) (b : Bool) → t < length ws → w ≡ get_or ws t w → b ≡ is_told style (get_or ws t w) (drop (suc t) ws) →
    now ≡ (if b then told ++ record { out = k; time = t; word = w } ∷ [] else told) → IsDue told due (of_words style k t (drop t ws)) → IsDue now due (of_words style k (t + 1) (drop (t + 1) ws))
due_step style k t ws w told now due true l r e q h =
    due_told style k t ws w told now due l e (q ∙ ap (λ (v : Word). told ++ record { out = k; time = t; word = v } ∷ []) r) h
due_step style k t ws w told now due false l r e q h = rw q (due_kept style k t ws w told due l e h)

-- the words of an output, from the verdicts of its formulas
pub formula_words : (p : Tree) (rows : List Row) (vs : List Bool) → vs ≡ verdicts rows (as_formula p) → words rows (formula (as_formula p)) ≡ map word_of vs
unfolding words
formula_words p rows vs e = rw e refl

pub contract_words : (p q : Tree) (rows : List Row) (ps qs : List Bool) → ps ≡ verdicts rows (as_formula p) → qs ≡ verdicts rows (as_formula q) →
    words rows (contract (as_formula p) (as_formula q)) ≡ known_front (λ t. status (slice_get ps t) (slice_get qs t)) (length rows)
unfolding words
contract_words p q rows ps qs e f = rw (e, f) refl

pub goes_read : (ws : List Word) (t : ℕ) (w : Word) (b : Bool) → t + 1 < length ws → b ≡ same_word (get_or ws t T) (get_or ws (t + 1) T) → b ≡ goes_on (get_or ws t w) (drop (suc t) ws)
goes_read ws t w b l g =
    goes_next ws t (get_or ws t T) (get_or ws (t + 1) T) w b l
    (get_or_default ws t T (get_or ws t T) (omega arith)) (get_or_default ws (t + 1) T (get_or ws (t + 1) T) l) g

-- an output that can be computed on all rows can be on the first of them
pub output_first : (n : ℕ) (rows : List Row) (o : Output) → ComputesOutput rows o → ComputesOutput (take n rows) o
output_first n rows (formula p) h = computes_first n rows p h
output_first n rows (contract p q) h = (computes_first n rows p h.0, computes_first n rows q h.1)

pub outputs_first : (n : ℕ) (rows : List Row) (outs : List Out) → All (λ o. ComputesOutput rows (as_output o)) outs →
    All (λ o. ComputesOutput (take n rows) (as_output o) × ComputesOutput (take (n + 1) rows) (as_output o)) outs
outputs_first n rows outs h k d l =
    (output_first n rows (as_output (get_or outs k d)) (h k d l), output_first (n + 1) rows (as_output (get_or outs k d)) (h k d l))
