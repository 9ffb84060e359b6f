use Rattle.std.proofs.Common.{◌∙◌, ◌+◌, Ok, ap, arith, refl, sym, drop, map, List, ℕ}
use Rattle.std.proofs.lemmas.Result.{err_from_is_err_and}
use Rattle.trace_columns.specs.Header.{column_of, columns_of, of_width}
use Rattle.trace_columns.proofs.ColumnLaws.{columns_end, columns_go_on, columns_stop, onto, onto_nil}
use Rattle.trace_columns.proofs.columns.find_columns.Goals as goal

pub loop-signal-init : goal.loop-signal-init
loop-signal-init g c = record {
  found = λ names known.
      ap (λ (columns : List ℕ). onto columns (columns_of names (map g.T.Named.name_of c.args.signals.now))) c.in_ok-of_signal.ensures.items ∙ onto_nil (columns_of names (map g.T.Named.name_of c.args.signals.now));
  len = c.in_ok-of_signal.ensures.len;
  room = c.in_ok-of_signal.ensures.room;
  enough = c.in_ok-of_signal.ensures.enough;
}

pub returns-in_err-find-clause-fault : goal.returns-in_err-find-clause-fault
returns-in_err-find-clause-fault g c =
    let p = err_from_is_err_and c.from_residual-in_err-find.result c.from_residual-in_err-find.ensures.1 in
    rw (p.1, p.2) (λ other names known.
    columns_stop g.T.Named.name_of names c.args.signals.now c.loop-signal.signal-index c.signal-item.result c.loop-signal.of_signal.items _ (columns_of names (map g.T.Named.name_of c.args.signals.now)) c.loop-signal-test.true
    (c.loop-signal.invariant.found names known) (ap (λ s. column_of names (g.T.Named.name_of s)) (sym c.signal-item.is) ∙ ap (column_of names) (sym c.name-name.ensures) ∙ sym (c.in_err-find.ensures names known)))

pub loop-signal-preserved : goal.loop-signal-preserved
loop-signal-preserved g c = record {
  found = λ names known.
      ap (λ columns. onto columns (columns_of names (map g.T.Named.name_of (drop (c.loop-signal.signal-index + 1) c.args.signals.now)))) c.push_reserved.ensures.items
      ∙ columns_go_on g.T.Named.name_of names c.args.signals.now c.loop-signal.signal-index c.signal-item.result c.loop-signal.of_signal.items c.in_ok-find.field-0 (columns_of names (map g.T.Named.name_of c.args.signals.now)) c.loop-signal-test.true
      (c.loop-signal.invariant.found names known) (ap (λ s. column_of names (g.T.Named.name_of s)) (sym c.signal-item.is) ∙ ap (column_of names) (sym c.name-name.ensures) ∙ sym (c.in_ok-find.ensures names known));
  len = omega (arith, c.push_reserved.ensures.len, c.loop-signal.invariant.len);
  room = rw (c.push_reserved.ensures.capacity, c.loop-signal.invariant.room) refl;
  enough = rw c.push_reserved.ensures.capacity c.loop-signal.invariant.enough;
}

pub returns-clause-columns : goal.returns-clause-columns
returns-clause-columns g c = λ names known.
    ap (of_width c.args.named.now.width) (columns_end g.T.Named.name_of names c.args.signals.now c.loop-signal.signal-index c.loop-signal.of_signal.items (columns_of names (map g.T.Named.name_of c.args.signals.now)) c.loop-signal-test.false
    (c.loop-signal.invariant.found names known))
    ∙ ap (λ columns. of_width c.args.named.now.width (Ok columns)) (sym c.of.ensures)
