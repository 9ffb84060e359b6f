use Rattle.std.proofs.Common.{◌≡◌, ◌+◌, ◌-◌, ◌∙◌, ◌<◌, ℕ, ℤ, List, arith, rules, sym, ap, take, drop, length, set}
use Rattle.std.specs.Prelude.{FitsSigned, slice_index_or}
use Rattle.std.specs.Int.{w64}
use Rattle.std.specs.List.{before_first, position_or_len}
use Rattle.std.proofs.lemmas.Int.{to_z-of_z}
use Rattle.std.proofs.lemmas.List.{length-drop, length-set, take_more_set, take_all}
use Rattle.trace_feed.specs.Readings.{fields_meaning}
use Rattle.trace_feed.specs.Rows.{LineMeaning, row, fields_from, fields_of, is_comma, field_value}
use Rattle.trace_feed.specs.declared.fields.Reading.TheVariants.{Unread}
use Rattle.trace_feed.specs.declared.unread_fields.Spot.{Spot}
use Rattle.trace_feed.proofs.PassedFields.{says_over}
use Rattle.trace_feed.proofs.RowLaws.{onto, says_at_start, says_next, says_row, says_too_few, some_fields, told_fault}
use Rattle.trace_feed.proofs.rows.read_fields.Goals as goal

pub columns-init : goal.columns-init
columns-init c = record {
  column = omega arith;
  within = omega arith;
  wide = c.requires.wide;
  told = λ reading known. says_at_start reading c.args.width c.args.line.now;
}

pub returns-then-line-spot : goal.returns-then-line-spot
returns-then-line-spot c = λ reading known.
    let line : List ℕ = c.args.line.now in
    let spot : Spot = c.pass_unread-spot.result in
    let passes = c.pass_unread-spot.ensures.passes in
    let values : List ℤ = c.pass_unread-spot.new.fields in
    let meaning : LineMeaning = fields_meaning reading 0 c.args.width (fields_of line) in
    says_too_few reading spot.column c.args.width spot.at line (take spot.column values) meaning
    (omega (arith, passes.left, c.requires.one_each)) (omega arith)
    (says_over reading c.args.readings.now c.args.width line c.columns.fields values c.columns.spot spot meaning known c.requires.one_each passes (c.columns.invariant.told reading known))

pub returns-in-Err : goal.returns-in-Err
returns-in-Err c = λ reading known.
    let line : List ℕ = c.args.line.now in
    let spot : Spot = c.pass_unread-spot.result in
    let passes = c.pass_unread-spot.ensures.passes in
    let values : List ℤ = c.pass_unread-spot.new.fields in
    let at : ℕ = spot.column in
    let rest : List ℕ = take (length line - spot.at) (drop spot.at line) in
    let whole : rest ≡ drop spot.at line = take_all (length line - spot.at) (drop spot.at line) (omega (arith, length-drop spot.at line)) in
    let meaning : LineMeaning = fields_meaning reading 0 c.args.width (fields_of line) in
    let so_far = says_over reading c.args.readings.now c.args.width line c.columns.fields values c.columns.spot spot meaning known c.requires.one_each passes (c.columns.invariant.told reading known) in
    told_fault c.fault_at.result (take at values) values (fields_meaning reading at (c.args.width - at) (fields_of rest)) meaning
    (λ others. c.fault_at.ensures reading others (ap (λ r. field_value r (before_first is_comma rest)) (sym (known at _ passes.left)) ∙ sym c.first_field-field.ensures.value ∙ c.in-Err.is))
    (ap (λ fs. onto (take at values) (fields_meaning reading at (c.args.width - at) fs)) (ap (λ (bytes : List ℕ). fields_of bytes) whole ∙ sym (some_fields line spot.at (omega arith))) ∙ so_far)

pub columns-preserved : goal.columns-preserved
columns-preserved c =
    let line : List ℕ = c.args.line.now in
    let spot : Spot = c.pass_unread-spot.result in
    let passes = c.pass_unread-spot.ensures.passes in
    let values : List ℤ = c.pass_unread-spot.new.fields in
    let at : ℕ = spot.column in
    let inside : at < c.args.width = omega (arith, passes.left, c.requires.one_each) in
    let rest : List ℕ = drop spot.at line in
    let whole : take (length line - spot.at) rest ≡ rest = take_all (length line - spot.at) rest (omega (arith, length-drop spot.at line)) in
    let many : length values ≡ c.args.width = c.pass_unread-spot.ensures.wide ∙ c.requires.one_each in
    let wide : length (set values at c.in-Ok.value) ≡ length values = length-set values at c.in-Ok.value in
    let fits : FitsSigned w64 c.in-Ok.value = search rules in
    let size : ℕ = c.first_field-field.result.size in
    let next : spot.at + size + 1 ≡ spot.at + (size + 1) = omega arith in
    rw (to_z-of_z w64 c.in-Ok.value fits) (record {
      column = omega (arith, inside);
      within = omega arith;
      wide = wide ∙ many;
      told = λ reading known.
          let meaning : LineMeaning = fields_meaning reading 0 c.args.width (fields_of line) in
          let so_far = says_over reading c.args.readings.now c.args.width line c.columns.fields values c.columns.spot spot meaning known c.requires.one_each passes (c.columns.invariant.told reading known) in
          ap (λ k. onto (take (at + 1) (set values at c.in-Ok.value)) (fields_meaning reading (at + 1) (c.args.width - (at + 1)) (fields_from line k))) next
          ∙ ap (λ ns. onto ns (fields_meaning reading (at + 1) (c.args.width - (at + 1)) (fields_from line (spot.at + (size + 1))))) (take_more_set values at c.in-Ok.value (omega (arith, many, inside)))
          ∙ says_next reading at c.args.width spot.at size line (take at values) c.in-Ok.value meaning
          inside (omega arith) (c.first_field-field.ensures.size ∙ ap (λ (bytes : List ℕ). position_or_len is_comma bytes) whole)
          (ap (λ r. field_value r (before_first is_comma rest)) (sym (known at Unread passes.left)) ∙ ap (λ (bytes : List ℕ). field_value (slice_index_or c.args.readings.now at Unread) (before_first is_comma bytes)) (sym whole) ∙ sym c.first_field-field.ensures.value ∙ c.in-Ok.is)
          so_far;
    })

pub returns : goal.returns
returns c = λ reading known.
    let spot : Spot = c.columns.spot in
    says_row reading spot.column c.args.width spot.at c.args.line.now (take spot.column c.columns.fields) (fields_meaning reading 0 c.args.width (fields_of c.args.line.now))
    (omega arith) (c.columns.invariant.told reading known)
    ∙ ap row (take_all spot.column c.columns.fields (omega (arith, c.columns.invariant.wide)))
