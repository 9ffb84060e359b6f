use Rattle.std.proofs.Common.{◌≡◌, ◌+◌, ◌-◌, ◌∙◌, ◌<◌, ℕ, ℤ, List, arith, rules, sym, ap, take, drop, length, set}
use Rattle.std.specs.Prelude.{FitsSigned}
use Rattle.std.specs.Int.{w64}
use Rattle.std.specs.List.{before_first, position_or_len}
use Rattle.std.proofs.lemmas.Int.{to_z-of_z}
use Rattle.std.proofs.lemmas.List.{length-drop, length-set, take_more_set, take_all}
use Rattle.trace_feed.specs.Readings.{fields_meaning}
use Rattle.trace_feed.specs.Rows.{row, fields_from, fields_of, is_comma, reading_of, field_value}
use Rattle.trace_feed.specs.declared.fields.Reading.{Reading}
use Rattle.trace_feed.proofs.RowLaws.{onto, says_at_start, says_next, says_row, says_too_few, some_fields, told_fault}
use Rattle.trace_feed.proofs.rows.search_fields.Goals as goal

pub columns-init : goal.columns-init
columns-init c = record {
  within = omega arith;
  wide = c.requires.wide;
  told = says_at_start (reading_of c.args.ops.now) c.args.width c.args.line.now;
}

pub returns-then-line-at : goal.returns-then-line-at
returns-then-line-at c =
    let reading : ℕ → Reading = reading_of c.args.ops.now in
    let line : List ℕ = c.args.line.now in
    says_too_few reading c.columns.c c.args.width c.columns.at line (take c.columns.c c.columns.fields) (fields_meaning reading 0 c.args.width (fields_of line))
    (omega arith) (omega arith) c.columns.invariant.told

pub returns-in-Err : goal.returns-in-Err
returns-in-Err c =
    let reading : ℕ → Reading = reading_of c.args.ops.now in
    let line : List ℕ = c.args.line.now in
    let values : List ℤ = c.columns.fields in
    let at : ℕ = c.columns.c in
    let place : ℕ = c.columns.at in
    let rest : List ℕ = take (length line - place) (drop place line) in
    let whole : rest ≡ drop place line = take_all (length line - place) (drop place line) (omega (arith, length-drop place line)) in
    told_fault c.fault_at.result (take at values) values (fields_meaning reading at (c.args.width - at) (fields_of rest)) (fields_meaning reading 0 c.args.width (fields_of line))
    (λ others. c.fault_at.ensures reading others (ap (λ r. field_value r (before_first is_comma rest)) (sym c.reading_in.ensures) ∙ sym c.first_field-field.ensures.value ∙ c.in-Err.is))
    (ap (λ fs. onto (take at values) (fields_meaning reading at (c.args.width - at) fs)) (ap (λ (bytes : List ℕ). fields_of bytes) whole ∙ sym (some_fields line place (omega arith))) ∙ c.columns.invariant.told)

pub columns-preserved : goal.columns-preserved
columns-preserved c =
    let reading : ℕ → Reading = reading_of c.args.ops.now in
    let line : List ℕ = c.args.line.now in
    let values : List ℤ = c.columns.fields in
    let at : ℕ = c.columns.c in
    let place : ℕ = c.columns.at in
    let inside : at < c.args.width = omega arith in
    let rest : List ℕ = drop place line in
    let whole : take (length line - place) rest ≡ rest = take_all (length line - place) rest (omega (arith, length-drop place line)) in
    let wide : length (set values at c.in-Ok.value) ≡ length values = length-set values at c.in-Ok.value in
    let fits : FitsSigned w64 c.in-Ok.value = search rules in
    let size : ℕ = c.first_field-field.result.size in
    rw (to_z-of_z w64 c.in-Ok.value fits) (record {
      within = omega arith;
      wide = wide ∙ c.columns.invariant.wide;
      told =
          ap (λ ns. onto ns (fields_meaning reading (at + 1) (c.args.width - (at + 1)) (fields_from line (place + (size + 1))))) (take_more_set values at c.in-Ok.value (omega (arith, c.columns.invariant.wide, inside)))
          ∙ says_next reading at c.args.width place size line (take at values) c.in-Ok.value (fields_meaning reading 0 c.args.width (fields_of line))
          inside (omega arith) (c.first_field-field.ensures.size ∙ ap (λ (bytes : List ℕ). position_or_len is_comma bytes) whole)
          (ap (λ r. field_value r (before_first is_comma rest)) (sym c.reading_in.ensures) ∙ ap (λ (bytes : List ℕ). field_value c.reading_in.result (before_first is_comma bytes)) (sym whole) ∙ sym c.first_field-field.ensures.value ∙ c.in-Ok.is)
          c.columns.invariant.told;
    })

pub returns : goal.returns
returns c =
    let reading : ℕ → Reading = reading_of c.args.ops.now in
    says_row reading c.columns.c c.args.width c.columns.at c.args.line.now (take c.columns.c c.columns.fields) (fields_meaning reading 0 c.args.width (fields_of c.args.line.now))
    (omega arith) c.columns.invariant.told
    ∙ ap row (take_all c.columns.c c.columns.fields (omega (arith, c.columns.invariant.wide)))
