use Rattle.std.proofs.Common.{◌≡◌, ◌∙◌, ◌≤◌, ap, arith, length, lit<, true, false}
use Rattle.std.specs.Prelude.{decimal}
use Rattle.std.proofs.lemmas.Fmt.{length-decimal-le}
use Rattle.obs_verify.proofs.reads.signal_in.Goals as goal

pub unreachable-requires : goal.unreachable-requires
unreachable-requires c =
    let short : length (decimal c.args.column) ≤ 20 = length-decimal-le 20 c.args.column (lit< tt) (omega arith) (omega arith) in
    let long = ap length (c.as_bytes.ensures.value ∙ c.in_ok-text.ensures.ok) in
    let none : false ≡ true = c.in-None.ensures.fits.1 (omega arith, omega arith) in
    cc
