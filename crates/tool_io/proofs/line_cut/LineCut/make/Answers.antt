-- A new buffer has its whole length and no row.
use Rattle.std.proofs.Common.{ℕ, ap, length, lit≤, ◌∙◌}
use Rattle.std.proofs.lemmas.List.{length-replicate}
use Rattle.tool_io.proofs.line_cut.LineCut.make.Goals as goal

pub invariant_of-result : goal.invariant_of-result
invariant_of-result c =
    let zero : ℕ = 0 in
    record {
      room = ap length c.in_ok-filled.ensures ∙ length-replicate 65536 zero;
      from = lit≤ tt;
      to = lit≤ tt;
      within = lit≤ tt;
      row = λ none. cc;
      kept = λ none. cc;
    }
