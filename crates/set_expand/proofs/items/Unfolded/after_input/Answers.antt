-- Signals are numbered in the order of declaration, after those before.
use Rattle.std.proofs.Common.{◌≡◌, ◌∙◌, ℕ, List, Bool, refl, ap, map, length, arith}
use Rattle.std.proofs.lemmas.List.{length-map}
use Rattle.mltl_base.specs.declared.signal.Signal.{Signal}
use Rattle.c2po_ast.specs.ItemShape.{input, type_shape}
use Rattle.c2po_types.specs.Outputs.{with_signals}
use Rattle.c2po_types.specs.Signals.{body_signals, is_bool}
use Rattle.set_expand.specs.declared.items.Unfolded.{Unfolded}
use Rattle.set_expand.specs.Names.{env_now}
use Rattle.set_expand.proofs.Growing.{more_same}
use Rattle.set_expand.proofs.Stepping.{stands-after}
use Rattle.set_expand.proofs.items.Unfolded.after_input.Goals as goal

pub returns : goal.returns
returns c = λ place told h.
    let u : Unfolded = c.args.self in
    let xs = c.args.signals.now in
    let t = type_shape c.args.tree.now in
    let body = input xs t in
    let named : List (List ℕ) → Bool → List Signal = λ ys b. map (λ (x : List ℕ). record { name = x; truth = b }) ys in
    let same : named c.as_slice.result.now c.is_bool-truth.result ≡ body_signals body =
    ap (λ ys. named ys c.is_bool-truth.result) c.as_slice.ensures ∙ ap (named xs) c.is_bool-truth.ensures in
    let env : env_now c.in_ok-names.names ≡ with_signals place.signals (body_signals body) place.values =
    c.in_ok-names.ensures.env
    ∙ (ap (λ ss. with_signals u.signals ss (env_now u.names)) same
    ∙ (ap (λ k. with_signals k (body_signals body) (env_now u.names)) h.numbered
    ∙ ap (with_signals place.signals (body_signals body)) h.values)) in
    stands-after u (record u { names = c.in_ok-names.names; signals = c.in_ok-names.signals }) body place told refl h env
    (omega (arith, c.in_ok-names.ensures.number, ap length c.as_slice.ensures, length-map {B = Signal} xs (λ (x : List ℕ). record { name = x; truth = is_bool t })))
    (c.in_ok-names.ensures.below h.below) (more_same u.names u.nodes) (c.in_ok-names.ensures.kept u.nodes h.kept) refl
