-- Each report is one of an output.

use Rattle.std.proofs.Common.{ℕ, suc, ◌+◌, ◌<◌, ◌≤◌, Bool, true, false, if◌then◌else◌, List, [], ◌∷◌, ◌++◌, All, length, drop, arith}
use Rattle.std.proofs.lemmas.List.Elements.{All-append, All-cons, All-nil}
use Rattle.mltl_base.specs.declared.report.Word.{Word}
use Rattle.mltl_base.specs.declared.report.Style.{Style}
use Rattle.mltl_base.specs.declared.report.Style.TheVariants.{Each, Runs}
use Rattle.mltl_base.specs.declared.report.Report.{Report}
use Rattle.mltl_base.specs.Atoms.{Row}
use Rattle.mltl_base.specs.Reports.{Output, goes_on, of_row, of_words, reports, reports_after, words}

abbrev AreBelow : ℕ → List Report → Type 0
AreBelow n rs = All (λ (r : Report). r.out < n) rs

words_below : (style : Style) (n k t : ℕ) (ws : List Word) → k < n → AreBelow n (of_words style k t ws)
unfolding of_words
words_below Each n k t [] less = All-nil (λ (r : Report). r.out < n)
words_below Runs n k t [] less = All-nil (λ (r : Report). r.out < n)
words_below Each n k t (w ∷ ws) less = All-cons (λ (r : Report). r.out < n) _ _ less (words_below Each n k (suc t) ws less)
words_below Runs n k t (w ∷ ws) less = go (goes_on w ws) (words_below Runs n k (suc t) ws less)
  where
    go : (b : Bool) → AreBelow n (of_words Runs k (suc t) ws) → AreBelow n (if b then of_words Runs k (suc t) ws else record { out = k; time = t; word = w } ∷ of_words Runs k (suc t) ws)
    go true h = h
    go false h = All-cons (λ (r : Report). r.out < n) _ _ less h

row_below : (style : Style) (n k : ℕ) (outs : List Output) (rows : List Row) (r : Row) → k + length outs ≤ n → AreBelow n (of_row style k outs rows r)
unfolding of_row
row_below style n k [] rows r fits = All-nil (λ (r : Report). r.out < n)
row_below style n k (o ∷ outs) rows r fits =
    All-append (λ (r : Report). r.out < n) _ _
    (words_below style n k (length (words rows o)) (drop (length (words rows o)) (words (rows ++ r ∷ []) o)) (omega arith))
    (row_below style n (suc k) outs rows r (omega arith))

after_below : (style : Style) (outs : List Output) (rows more : List Row) → AreBelow (length outs) (reports_after style outs rows more)
unfolding reports_after
after_below style outs rows [] = All-nil (λ (r : Report). r.out < length outs)
after_below style outs rows (r ∷ more) =
    All-append (λ (r : Report). r.out < length outs) _ _ (row_below style (length outs) 0 outs rows r (omega arith)) (after_below style outs (rows ++ r ∷ []) more)

pub reports_below : (style : Style) (outs : List Output) (rows : List Row) → AreBelow (length outs) (reports style outs rows)
reports_below style outs rows = after_below style outs [] rows
