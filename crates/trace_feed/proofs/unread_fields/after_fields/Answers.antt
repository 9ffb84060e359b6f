use Rattle.std.proofs.Common.{◌≡◌, ◌+◌, ◌-◌, ◌∙◌, ℕ, List, arith, sym, ap, take, drop}
use Rattle.std.specs.Prelude.{count_by}
use Rattle.trace_feed.specs.Rows.{fields_of, is_comma}
use Rattle.trace_feed.proofs.PassedFields.{block_from, byte_from}
use Rattle.trace_feed.proofs.unread_fields.after_fields.Goals as goal

pub passing-preserved : goal.passing-preserved
passing-preserved c =
    let line : List ℕ = c.args.line.now in
    let at : ℕ = c.passing.at in
    let size : at + 64 - at ≡ 64 = omega arith in
    let here : c.from-here.result ≡ count_by is_comma (take 64 (drop at line)) = c.from-here.ensures ∙ c.commas_in.ensures ∙ ap (λ n. count_by is_comma (take n (drop at line))) size in
    record {
      within = omega arith;
      after =
          ap (λ n. drop (c.passing.left - n) (fields_of (drop (at + 64) line))) here
          ∙ sym (block_from line at 64 c.passing.left (omega (arith, here)))
          ∙ c.passing.invariant.after;
    }

pub bytes-preserved : goal.bytes-preserved
bytes-preserved c =
    let line : List ℕ = c.args.line.now in
    let at : ℕ = c.bytes.at in
    record {
      within = omega arith;
      after =
          ap (λ n. drop (c.bytes.left - n) (fields_of (drop (at + 1) line))) c.from-left.ensures
          ∙ sym (byte_from line at c.bytes.left (omega arith) (omega arith))
          ∙ c.bytes.invariant.after;
    }
