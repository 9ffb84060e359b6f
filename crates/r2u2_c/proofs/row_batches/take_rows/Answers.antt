use Rattle.std.proofs.Common.{◌≡◌, ℕ, ◌+◌, ◌-◌, ◌*◌, ◌<◌, ◌≤◌, min, true, false, List, [], ◌∷◌, ◌++◌, length, take, drop, inr, sym, ap, subst, arith, ◌∙◌}
use Rattle.std.proofs.lemmas.List.{drop-drop, length-drop, take_all}
use borrow.Rule.Slice.PartMut.{put_mid, put_same, same_len_mid}
use Rattle.mltl_base.specs.Atoms.{Row}
use Rattle.r2u2_monitor.specs.declared.state.State.{State}
use Rattle.r2u2_monitor.specs.Monitoring.{IsDrained}
use Rattle.r2u2_monitor.specs.RowFaults.{IsReady}
use Rattle.r2u2_c.specs.declared.report.Told.{Told}
use Rattle.r2u2_c.specs.Batches.{TakesEach, rows_in}
use Rattle.r2u2_c.specs.Reports.{style_of}
use Rattle.r2u2_c.proofs.RowBatches.{behind, drop_row, more_front, more_rest, numbers_next, rows_next, take_row, taken_more}
use Rattle.r2u2_c.proofs.row_batches.take_rows.Goals as goal

pub returns-in-Err-clause-takes : goal.returns-in-Err-clause-takes
returns-in-Err-clause-takes c =
    let size = c.args.size in
    let count = c.rows.batch.rows in
    let a = c.rows.batch.reports in
    let numbers = c.args.numbers.now in
    let xs = c.rows.reports in
    let kept = c.in-Err.ensures.same in
    let back : put_mid a (length xs - a) xs c.take_one.new.reports ≡ xs = ap (put_mid a (length xs - a) xs) kept.1 ∙ put_same a (length xs - a) xs in
    let row : c.split_at.result.0.now ≡ take size (drop (count * size) numbers) =
    c.split_at.ensures.front ∙ ap (λ (k : ℕ). take k c.rows.rest.now) c.min.ensures ∙ take_row size c.rows.rest.now ∙ ap (λ (l : Row). take size l) c.rows.invariant.left in
    record {
      each = subst (λ (n : State). TakesEach (style_of c.args.runs) (rows_in size count numbers) (take a (put_mid a (length xs - a) xs c.take_one.new.reports)) c.args.monitor.now n) (sym kept.0)
          (subst (λ (rs : List Told). TakesEach (style_of c.args.runs) (rows_in size count numbers) (take a rs) c.args.monitor.now c.rows.monitor) (sym back) c.rows.invariant.each);
      front = record { within = omega (arith, c.rows.invariant.within, c.rows.auto.reports); rest = ap (λ (rs : List Told). drop a rs) back ∙ c.rows.invariant.front };
      drained = λ some fewer. subst IsDrained (sym kept.0) (c.rows.invariant.drained some (omega (arith, fewer, c.rows.auto.reports)));
      ends = inr (inr (λ ready.
          let before : IsReady c.rows.monitor c.split_at.result.0.now = subst (λ (m : State). IsReady m c.split_at.result.0.now) kept.0 (subst (λ (r : Row). IsReady c.take_one.new.monitor r) (sym row) ready) in
          let wrong : false ≡ true = c.in-Err.ensures.ready.1 before in cc));
    }

pub rows-preserved : goal.rows-preserved
rows-preserved c =
    let style = style_of c.args.runs in
    let size = c.args.size in
    let count = c.rows.batch.rows in
    let a = c.rows.batch.reports in
    let n = c.in-Ok.told in
    let numbers = c.args.numbers.now in
    let xs = c.rows.reports in
    let ys = c.take_one.new.reports in
    let k = length xs - a in
    let within : a ≤ length xs = c.rows.invariant.within in
    let whole : put_mid a k xs ys ≡ take a xs ++ ys = behind a xs ys within in
    let row : c.split_at.result.0.now ≡ take size (drop (count * size) numbers) =
    c.split_at.ensures.front ∙ ap (λ (j : ℕ). take j c.rows.rest.now) c.min.ensures ∙ take_row size c.rows.rest.now ∙ ap (λ (l : Row). take size l) c.rows.invariant.left in
    let rows : rows_in size (count + 1) numbers ≡ rows_in size count numbers ++ c.split_at.result.0.now ∷ [] =
    rows_next size count numbers ∙ ap (λ (r : Row). rows_in size count numbers ++ r ∷ []) (sym row) in
    let told : take (a + n) (put_mid a k xs ys) ≡ take a xs ++ take n ys = ap (λ (rs : List Told). take (a + n) rs) whole ∙ more_front a n xs ys within in
    let left_over : take k (drop a xs) ≡ drop a xs = take_all k (drop a xs) (omega (arith, length-drop a xs)) in
    let length_left : length (take k (drop a xs)) ≡ k = ap (λ (rs : List Told). length rs) left_over ∙ length-drop a xs in
    let some : 0 < length c.rows.rest.now = grind (arith, c.is_empty.ensures, c.rows-test.true) in
    let least : c.min.result ≡ min size (length c.rows.rest.now) = c.min.ensures in
    let length_all : length (put_mid a k xs ys) ≡ length xs = same_len_mid a k xs ys c.take_one.auto.reports in
    record {
      each = subst (λ (r : List Row). TakesEach style r (take (a + n) (put_mid a k xs ys)) c.args.monitor.now c.take_one.new.monitor) (sym rows)
          (subst (λ (rs : List Told). TakesEach style (rows_in size count numbers ++ c.split_at.result.0.now ∷ []) rs c.args.monitor.now c.take_one.new.monitor) (sym told)
          (taken_more style (rows_in size count numbers) c.split_at.result.0.now (take a xs) (take n ys) c.args.monitor.now c.rows.monitor c.take_one.new.monitor c.rows.invariant.each c.in-Ok.ensures.takes));
      left = c.split_at.ensures.back ∙ ap (λ (j : ℕ). drop j c.rows.rest.now) c.min.ensures ∙ drop_row size c.rows.rest.now ∙ ap (λ (l : Row). drop size l) c.rows.invariant.left ∙ numbers_next size count numbers;
      some = c.rows.invariant.some;
      few = omega (arith, c.rows.invariant.few, c.split_at.ensures.back_len, least, c.rows.invariant.some, some);
      within = omega (arith, length_all, length_left, c.in-Ok.ensures.front.within, within);
      front = ap (λ (rs : List Told). drop (a + n) rs) whole ∙ more_rest a n xs ys within ∙ c.in-Ok.ensures.front.rest ∙ ap (λ (rs : List Told). drop n rs) left_over
          ∙ ap (λ (rs : List Told). drop n rs) c.rows.invariant.front ∙ drop-drop n a c.args.reports.now;
      drained = λ some fewer. c.in-Ok.ensures.drained (omega (arith, fewer, length_all, length_left, within));
      none = λ wrong. absurd (omega (arith, wrong));
    }
