-- Which reports are open, of one output and of all.

use Rattle.std.proofs.Common.{◌≡◌, ◌↔◌, ℕ, suc, Bool, true, false, if◌then◌else◌, List, [], ◌∷◌, ◌++◌, length, drop, refl, ap, ◌∙◌}
use Rattle.mltl_base.specs.declared.report.Word.{Word}
use Rattle.mltl_base.specs.declared.report.Style.{Style}
use Rattle.mltl_base.specs.declared.report.Style.TheVariants.{Each, Runs}
use Rattle.mltl_base.specs.declared.report.Report.{Report}
use Rattle.mltl_base.specs.Atoms.{Row}
use Rattle.mltl_base.specs.Reports.{Output, words, goes_on, of_words, of_row}
use Rattle.contract_status.specs.Open.{known_counts, left_open}

-- words have a report in either style
each_none : (k t : ℕ) (ws : List Word) → of_words Each k t ws ≡ [] → ws ≡ []
unfolding of_words
each_none k t [] e = refl
each_none k t (w ∷ ws) e = cc

runs_none : (k t : ℕ) (ws : List Word) → of_words Runs k t ws ≡ [] → ws ≡ []
unfolding of_words
runs_none k t [] e = refl
runs_none k t (w ∷ []) e = cc
runs_none k t (w ∷ v ∷ ws) e = go (goes_on w (v ∷ ws)) (runs_none k (suc t) (v ∷ ws)) e
  where
    go : (b : Bool) → (of_words Runs k (suc t) (v ∷ ws) ≡ [] → v ∷ ws ≡ []) →
        (if b then of_words Runs k (suc t) (v ∷ ws) else record { out = k; time = t; word = w } ∷ of_words Runs k (suc t) (v ∷ ws)) ≡ [] → w ∷ v ∷ ws ≡ []
    go true h e = let none : v ∷ ws ≡ [] = h e in cc
    go false h e = cc

pub no_words : (style : Style) (k t : ℕ) → of_words style k t [] ≡ []
unfolding of_words
no_words Each k t = refl
no_words Runs k t = refl

pub none_open : (style : Style) (k t : ℕ) (ws : List Word) → of_words style k t ws ≡ [] → ws ≡ []
none_open Each k t ws e = each_none k t ws e
none_open Runs k t ws e = runs_none k t ws e

pub append_none : (xs ys : List Report) → xs ++ ys ≡ [] → (xs ≡ []) × (ys ≡ [])
append_none [] ys e = (refl, e)
append_none (x ∷ xs) ys e = cc

pub both_none : (xs ys : List Report) → xs ≡ [] → ys ≡ [] → xs ++ ys ≡ []
both_none xs ys p q = rw (p, q) refl

-- nothing is open in another style either
pub no_other : (style other : Style) (rows : List Row) (k : ℕ) (outs : List Output) (next_times : List ℕ) → left_open style rows k outs next_times ≡ [] → left_open other rows k outs next_times ≡ []
unfolding left_open
no_other style other rows k [] next_times e = refl
no_other style other rows k (o ∷ outs) [] e = refl
no_other style other rows k (o ∷ outs) (next_time ∷ next_times) e =
    let ws : List Word = drop next_time (words rows o) in
    let parts = append_none (of_words style k next_time ws) (left_open style rows (suc k) outs next_times) e in
    both_none (of_words other k next_time ws) (left_open other rows (suc k) outs next_times)
    (ap (of_words other k next_time) (none_open style k next_time ws parts.0) ∙ no_words other k next_time)
    (no_other style other rows (suc k) outs next_times parts.1)

pub same_end : (rows : List Row) (k : ℕ) (outs : List Output) (next_times : List ℕ) → (left_open Each rows k outs next_times ≡ []) ↔ (left_open Runs rows k outs next_times ≡ [])
same_end rows k outs next_times = (no_other Each Runs rows k outs next_times, no_other Runs Each rows k outs next_times)

-- the reports of a row are those that the numbers of words known before leave open
pub open_after_row : (style : Style) (k : ℕ) (outs : List Output) (rows : List Row) (row : Row) → left_open style (rows ++ row ∷ []) k outs (known_counts rows outs) ≡ of_row style k outs rows row
unfolding left_open of_row
open_after_row style k [] rows row = refl
open_after_row style k (o ∷ outs) rows row =
    ap (λ reports. of_words style k (length (words rows o)) (drop (length (words rows o)) (words (rows ++ row ∷ []) o)) ++ reports) (open_after_row style (suc k) outs rows row)
