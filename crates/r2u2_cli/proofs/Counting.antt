-- Tallies count reports, one after another.

use Rattle.std.proofs.Common.{◌≡◌, ◌≢◌, ◌∙◌, ℕ, suc, ◌+◌, ◌<◌, ◌≤◌, ◌^◌, ◌==◌, Bool, true, false, ◌&&◌, cond, List, [], ◌∷◌, ◌++◌, length, get_or, refl, ap, ap₂, sym, subst, arith, append_assoc, length-set}
use Rattle.std.specs.Prelude.{Some, slice_get, slice_set, slice_index_or, MatchBool, if◌then◌else◌}
use Rattle.std.proofs.lemmas.Bool.{eq-eqb, eqb-false, eqb-true}
use Rattle.std.proofs.lemmas.List.{append-nil, get_or-set_same, get_or-set_other, length-map}
use Rattle.std.proofs.lemmas.List.Sums.{sum_by-append}
use Rattle.std.proofs.lemmas.Option.{slice_get-get_or}
use Rattle.mltl_base.specs.declared.program.Program.{Program}
use Rattle.mltl_base.specs.declared.report.Report.{Report}
use Rattle.mltl_base.specs.declared.report.Style.TheVariants.{Each}
use Rattle.mltl_base.specs.declared.report.Word.{Word}
use Rattle.mltl_base.specs.declared.report.Word.TheVariants.{T}
use Rattle.mltl_base.specs.Atoms.{Row}
use Rattle.mltl_base.specs.Formula.{truth}
use Rattle.mltl_base.specs.Programs.{output_of, outputs}
use Rattle.mltl_base.specs.Reports.{IsRising, Output, formula, reports, reports_after, same_word}
use Rattle.mltl_base.proofs.Telling.{reports_push, reports_rise}
use Rattle.r2u2_monitor.specs.declared.state.State.{State}
use Rattle.r2u2_monitor.specs.Monitoring.{IsDrained, Stands, TakesRow, open_in, program_of}
use Rattle.r2u2_cli.specs.declared.demo.tally.Tally.{Tally}
use Rattle.r2u2_cli.specs.Tallies.{AreCounted, AreTallies, tallied, count_of, none}

nil_plus : (n : ℕ) → 0 + n ≡ n
nil_plus n = omega arith

count_more : (k : ℕ) (w : Word) (r : Report) (told : List Report) → count_of k w (r ∷ told) ≡ cond (r.out == k && same_word r.word w) 1 0 + count_of k w told
count_more k w r told =
    sum_by-append (λ (x : Report). cond (x.out == k && same_word x.word w) 1 0) (r ∷ []) told
    ∙ ap (λ n. n + count_of k w told) (nil_plus (cond (r.out == k && same_word r.word w) 1 0))

counted_step : (own same : Bool) (t n time late : ℕ) (Later Now : Type 0) → (Later → suc time + n ≤ late) → (Now → t + n ≤ late)
    → MatchBool own ((t ≤ time) × Later) Now → t + (cond (own && same) 1 0 + n) ≤ late
counted_step true true t n time late Later Now f g m = let h : suc time + n ≤ late = f m.1 in omega (arith, h, m.0)
counted_step true false t n time late Later Now f g m = let h : suc time + n ≤ late = f m.1 in omega (arith, h, m.0)
counted_step false true t n time late Later Now f g m = let h : t + n ≤ late = g m in omega (arith, h)
counted_step false false t n time late Later Now f g m = let h : t + n ≤ late = g m in omega (arith, h)

-- reports of output k before one that is its own are no more than the time of that one
counted_before : (k t : ℕ) (w : Word) (told : List Report) (report : Report) (more : List Report) → IsRising k t (told ++ report ∷ more) → report.out ≡ k
    → t + count_of k w told ≤ report.time
unfolding IsRising
counted_before k t w [] report more rising own =
    let here : (report.out == k) ≡ true = eq-eqb report.out k own in
    let up : (t ≤ report.time) × IsRising k (suc report.time) more = rw here at rising in
    omega (arith, up.0)
counted_before k t w (r ∷ told) report more rising own =
    subst (λ n. t + n ≤ report.time) (sym (count_more k w r told))
    (counted_step (r.out == k) (same_word r.word w) t (count_of k w told) r.time report.time (IsRising k (suc r.time) (told ++ report ∷ more)) (IsRising k t (told ++ report ∷ more))
    (λ later. counted_before k (suc r.time) w told report more later own) (λ later. counted_before k t w told report more later own) rising)

pub room_for : (k : ℕ) (w : Word) (program : Program) (rows : List Row) (told : List Report) (report : Report) (more : List Report)
    → reports Each (outputs program) rows ≡ told ++ report ∷ more → report.out ≡ k → k < length program.outs → count_of k w told ≤ report.time
room_for k w program rows told report more all own within =
    let o : Output = get_or (outputs program) k (formula truth) in
    let there : slice_get (outputs program) k ≡ Some o = slice_get-get_or (outputs program) k (formula truth) (omega (arith, within, length-map program.outs (output_of program))) in
    let rises : IsRising k 0 (reports Each (outputs program) rows) = reports_rise Each k (outputs program) rows o there in
    let before : 0 + count_of k w told ≤ report.time = counted_before k 0 w told report more (subst (IsRising k 0) all rises) own in
    omega (arith, before)

plus_none : (n : ℕ) → n + 0 ≡ n
plus_none n = omega arith

none_counted : (w : Word) → tallied none w ≡ 0
none_counted T = refl
none_counted w = refl

-- one more report is counted in its output's tally
same_count : (k : ℕ) (w : Word) (told : List Report) (report : Report) → (report.out == k) ≡ true
    → count_of k w (told ++ report ∷ []) ≡ count_of k w told + (if same_word report.word w then 1 else 0)
same_count k w told report own =
    sum_by-append (λ (r : Report). cond (r.out == k && same_word r.word w) 1 0) told (report ∷ [])
    ∙ rw own (ap (λ n. count_of k w told + n) (nil_plus (if same_word report.word w then 1 else 0)))

other_count : (k : ℕ) (w : Word) (told : List Report) (report : Report) → (report.out == k) ≡ false → count_of k w (told ++ report ∷ []) ≡ count_of k w told
other_count k w told report other =
    sum_by-append (λ (r : Report). cond (r.out == k && same_word r.word w) 1 0) told (report ∷ [])
    ∙ rw other (plus_none (count_of k w told))

tally_at : (tallies : List Tally) (k : ℕ) (w : Word) (told : List Report) (report : Report) (tally : Tally) (own : Bool) → (report.out == k) ≡ own
    → (own ≡ true → k ≡ report.out) → (own ≡ false → k ≢ report.out)
    → AreTallies tallies told → report.out < length tallies → k < length tallies
    → ((v : Word) → tallied tally v ≡ tallied (slice_index_or tallies report.out none) v + (if same_word report.word v then 1 else 0))
    → tallied (slice_index_or (slice_set tallies report.out tally) k none) w ≡ count_of k w (told ++ report ∷ [])
tally_at tallies k w told report tally true is here there are within inside more =
    let e : k ≡ report.out = here refl in
    ap (λ n. tallied (slice_index_or (slice_set tallies report.out tally) n none) w) e
    ∙ ap (λ (t : Tally). tallied t w) (get_or-set_same tallies report.out tally none within)
    ∙ more w
    ∙ ap (λ n. tallied (slice_index_or tallies n none) w + (if same_word report.word w then 1 else 0)) (sym e)
    ∙ ap (λ n. n + (if same_word report.word w then 1 else 0)) (are.each k w inside)
    ∙ sym (same_count k w told report is)
tally_at tallies k w told report tally false is here there are within inside more =
    ap (λ (t : Tally). tallied t w) (get_or-set_other tallies report.out k tally none (there refl)) ∙ are.each k w inside ∙ sym (other_count k w told report is)

pub tallies_step : (tallies : List Tally) (told : List Report) (report : Report) (tally : Tally) → AreTallies tallies told → report.out < length tallies
    → ((w : Word) → tallied tally w ≡ tallied (slice_index_or tallies report.out none) w + (if same_word report.word w then 1 else 0))
    → AreTallies (slice_set tallies report.out tally) (told ++ report ∷ [])
tallies_step tallies told report tally are within more = record {
  each = λ k w inside. tally_at tallies k w told report tally (report.out == k) refl
      (λ same. sym (eqb-true report.out k same)) (λ differ e. eqb-false report.out k differ (sym e))
      are within (omega (arith, inside, length-set tallies report.out tally)) more;
}

-- nothing is told yet
pub tallies_none : (tallies : List Tally) → ((k : ℕ) → k < length tallies → slice_index_or tallies k none ≡ none) → AreTallies tallies []
tallies_none tallies all = record { each = λ k w inside. ap (λ (t : Tally). tallied t w) (all k inside) ∙ none_counted w }

-- of the reports of rows, those told so far and the next one
pub counted_step_of : (tallies : List Tally) (tally : Tally) (before after : State) (rows : List Row) (report : Report)
    → program_of after ≡ program_of before → open_in Each before rows ≡ report ∷ open_in Each after rows → report.out < length (program_of before).outs
    → ((w : Word) → tallied tally w ≡ tallied (slice_index_or tallies report.out none) w + (if same_word report.word w then 1 else 0))
    → AreCounted tallies before rows → AreCounted (slice_set tallies report.out tally) after rows
counted_step_of tallies tally before after rows report program first exists more was = record {
  told = was.told ++ report ∷ [];
  all = ap (λ (p : Program). reports Each (outputs p) rows) program ∙ was.all ∙ ap (λ rs. was.told ++ rs) first ∙ sym (append_assoc was.told (report ∷ []) (open_in Each after rows));
  counted = tallies_step tallies was.told report tally was.counted (omega (arith, exists, was.enough)) more;
  enough = length-set tallies report.out tally ∙ was.enough ∙ ap (λ (p : Program). length p.outs) (sym program);
}

-- a further row, where all reports of those before were told
pub counted_row : (tallies : List Tally) (before after : State) (rows : List Row) (row : Row) → IsDrained before → Stands before rows → TakesRow row before after
    → AreCounted tallies before rows → AreCounted tallies after (rows ++ row ∷ [])
counted_row tallies before after rows row drained stands takes was =
    let given : reports Each (outputs (program_of before)) rows ≡ was.told =
    was.all ∙ ap (λ rs. was.told ++ rs) (drained Each rows stands.taken) ∙ append-nil was.told in
    record {
      told = was.told;
      all = ap (λ (p : Program). reports Each (outputs p) (rows ++ row ∷ [])) takes.program ∙ reports_push Each (outputs (program_of before)) rows row
          ∙ ap₂ (λ xs ys. xs ++ ys) given (sym (takes.opens Each rows stands));
      counted = was.counted;
      enough = was.enough ∙ ap (λ (p : Program). length p.outs) (sym takes.program);
    }

-- and those of all rows, where a monitor has none to give
pub counted_all : (tallies : List Tally) (monitor : State) (rows : List Row) → IsDrained monitor → Stands monitor rows → AreCounted tallies monitor rows
    → AreTallies tallies (reports Each (outputs (program_of monitor)) rows)
counted_all tallies monitor rows drained stands was =
    let given : reports Each (outputs (program_of monitor)) rows ≡ was.told =
    was.all ∙ ap (λ rs. was.told ++ rs) (drained Each rows stands.taken) ∙ append-nil was.told in
    subst (AreTallies tallies) (sym given) was.counted

-- before the first row
pub counted_none : (tallies : List Tally) (monitor : State) → IsDrained monitor → Stands monitor [] → length tallies ≡ length (program_of monitor).outs
    → ((k : ℕ) → k < length tallies → slice_index_or tallies k none ≡ none) → AreCounted tallies monitor []
unfolding reports_after
counted_none tallies monitor drained stands enough all = record {
  told = [];
  all = sym (drained Each [] stands.taken);
  counted = tallies_none tallies all;
  enough = enough;
}

-- a tally has room for one more report
pub room_at : (tallies : List Tally) (before after : State) (rows : List Row) (report : Report) → AreCounted tallies before rows
    → open_in Each before rows ≡ report ∷ open_in Each after rows → report.out < length (program_of before).outs → report.time < 2 ^ 40
    → tallied (slice_index_or tallies report.out none) report.word < 2 ^ 63
room_at tallies before after rows report was first exists early =
    let all : reports Each (outputs (program_of before)) rows ≡ was.told ++ report ∷ open_in Each after rows = was.all ∙ ap (λ rs. was.told ++ rs) first in
    let room : count_of report.out report.word was.told ≤ report.time = room_for report.out report.word (program_of before) rows was.told report (open_in Each after rows) all refl exists in
    let here : tallied (slice_index_or tallies report.out none) report.word ≡ count_of report.out report.word was.told = was.counted.each report.out report.word (omega (arith, exists, was.enough)) in
    omega (arith, room, here, early)
