use Rattle.std.proofs.Common.{◌≡◌, ◌+◌, ◌-◌, ◌∙◌, ℕ, pos, ◌++◌, arith, sym, ap, subst, take, drop}
use Rattle.std.specs.Prelude.{◌≢◌, replicate, slice_index_or}
use Rattle.trace_feed.specs.Rows.{fields_from}
use Rattle.trace_feed.specs.declared.fields.Reading.TheVariants.{Unread}
use Rattle.trace_feed.proofs.unread_fields.pass_unread.Goals as goal

pub returns-clause-passes : goal.returns-clause-passes
returns-clause-passes c =
    let from : ℕ = c.args.spot.column in
    let count : ℕ = c.min-count.result in
    let many : count ≡ from + count - from = omega arith in
    record {
      onward = omega arith;
      left = omega (arith, c.min-count.ensures);
      within = c.after_fields.ensures.within;
      unread = λ k past below.
          let at : from + (k - from) ≡ k = omega arith in
          ap (λ j. slice_index_or c.args.readings.now j Unread) (sym at) ∙ c.unread_from.ensures.unread (k - from) (omega (arith, c.min-count.ensures));
      all = λ more.
          let longest : c.min-count.result ≡ c.unread_from.result = omega (arith, c.min-count.ensures) in
          subst (λ n. slice_index_or c.args.readings.now (from + n) Unread ≢ Unread) (sym longest)
          (c.unread_from.ensures.longest (omega (arith, longest)));
      after = c.after_fields.ensures.after ∙ ap (λ n. drop n (fields_from c.args.line.now c.args.spot.at)) many;
      zeros = c.clear.ensures.zeros ∙ ap (λ n. take from c.args.fields.now ++ replicate n (pos 0)) many;
    }
