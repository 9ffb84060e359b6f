use Rattle.std.specs.List.{range_with_len}
use Rattle.std.proofs.Common.{◌≡◌, ◌+◌, arith, ◌∙◌, ap, ◌++◌, ◌∷◌, []}
use Rattle.trace_columns.proofs.ColumnLaws.{range_push}
use Rattle.trace_columns.proofs.columns.in_order.Goals as goal

pub loop-column-preserved : goal.loop-column-preserved
loop-column-preserved c =
    let column = c.loop-column.column in
    let same : column ≡ 0 + column = omega arith in
    c.in_ok-push.ensures.pushed ∙ (ap (λ columns. columns ++ column ∷ []) c.loop-column.invariant
    ∙ (ap (λ k. range_with_len 0 column ++ k ∷ []) same ∙ range_push 0 column))
