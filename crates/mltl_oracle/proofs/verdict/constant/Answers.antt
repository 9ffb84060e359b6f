-- One truth for each row.
use Rattle.std.proofs.Common.{◌≡◌, length, replicate, ap, sym, ◌∙◌, arith}
use Rattle.mltl_oracle.proofs.Shaping.{truth_replicated}
use Rattle.mltl_oracle.proofs.verdict.constant.Goals as goal

pub returns-clause-known : goal.returns-clause-known
returns-clause-known c =
    let e : c.loop.index ≡ length c.args.rows.now = omega arith in
    c.loop.invariant ∙ (ap (λ n. replicate n c.args.b) e ∙ sym (truth_replicated c.args.b c.args.rows.now))
