use Rattle.std.proofs.Common.{◌∙◌, ap, sym, subst, length, map, List, ℕ}
use Rattle.std.proofs.lemmas.List.{length-map}
use Rattle.std.proofs.lemmas.Result.{IfOk-weaker}
use Rattle.mltl_base.specs.declared.program.StoredSignal.{StoredSignal}
use Rattle.trace_columns.specs.Header.{AreDifferentNames, names_of}
use Rattle.trace_columns.proofs.ColumnLaws.{width_below, width_different, width_found}
use Rattle.trace_columns.proofs.StoredLaws.{stored_names}
use Rattle.trace_columns.proofs.columns.header_of.Goals as goal

pub returns-clause-one_each : goal.returns-clause-one_each
returns-clause-one_each c =
    let names = names_of c.args.line.now in
    let signals : List (List ℕ) = map (λ (s : StoredSignal). s.name) c.as_slice.result.now in
    IfOk-weaker c.find_columns.result _ _ (λ columns found.
    (width_found names signals c.in_ok-named.named.width columns (found names c.in_ok-named.ensures.places)).size
    ∙ (length-map c.as_slice.result.now (λ (s : StoredSignal). s.name) ∙ ap length (c.as_slice.ensures ∙ ap (λ p. p.signals) c.program.ensures.program))) c.find_columns.ensures.columns

pub returns-clause-below : goal.returns-clause-below
returns-clause-below c =
    let names = names_of c.args.line.now in
    let signals : List (List ℕ) = map (λ (s : StoredSignal). s.name) c.as_slice.result.now in
    IfOk-weaker c.find_columns.result _ _ (λ columns found.
    width_below names signals c.in_ok-named.named.width columns c.in_ok-named.ensures.width (found names c.in_ok-named.ensures.places)) c.find_columns.ensures.columns

pub returns-clause-different : goal.returns-clause-different
returns-clause-different c =
    let names = names_of c.args.line.now in
    let signals : List (List ℕ) = map (λ (s : StoredSignal). s.name) c.as_slice.result.now in
    IfOk-weaker c.find_columns.result _ _ (λ columns found.
    width_different names signals c.in_ok-named.named.width columns (found names c.in_ok-named.ensures.places)
    (subst (λ (ss : List StoredSignal). AreDifferentNames (map (λ (s : StoredSignal). s.name) ss)) (sym (c.as_slice.ensures ∙ ap (λ p. p.signals) c.program.ensures.program))
    (stored_names c.args.checked.now c.program.ensures.well_formed))) c.find_columns.ensures.columns
