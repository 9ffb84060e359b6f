use Rattle.std.proofs.Common.{◌≡◌, ◌<◌, ◌^◌, ◌∙◌, List, [], None, map, length, ap, sym, subst, arith}
use Rattle.std.specs.Prelude.{All}
use Rattle.std.proofs.lemmas.List.{length-map}
use Rattle.mltl_base.specs.Kinds.{ReadsSignals, kinds_of}
use Rattle.mltl_base.specs.Meaning.{sat}
use Rattle.c2po_ast.specs.ItemShape.{ItemShape, item_shape, spec_shape}
use Rattle.c2po_ast.specs.declared.nodes.Plain.{Plain}
use Rattle.c2po_ast.specs.Faults.{HasRanges}
use Rattle.c2po_ast.specs.Nodes.{trees}
use Rattle.c2po_ast.specs.Outputs.{IsSound, asked, asked_by}
use Rattle.c2po_types.specs.FirstFault.{first_fault}
use Rattle.c2po_types.specs.Signals.{signals_of}
use Rattle.c2po_types.proofs.Faultless.{faultless-ranged}
use Rattle.c2po_types.proofs.Labelling.{plain_outputs}
use Rattle.c2po_types.proofs.ValueMeaning.{counting_means}
use Rattle.set_expand.specs.declared.items.Unfolded.{Unfolded}
use Rattle.set_expand.specs.Outputs.{HasPlainName, outputs_of}
use Rattle.set_expand.specs.Unfolded.{Leaves}
use Rattle.set_expand.proofs.Signalling.{outputs-read}
use Rattle.set_expand.proofs.Stepping.{all-asked, all-sound}
use Rattle.set_expand.proofs.expanding.expand.Goals as goal

-- the outputs over a list of nodes that is the same
made-asked : (u : Unfolded) (nodes : List Plain) (items all : List ItemShape) → Leaves u [] items → nodes ≡ u.nodes → items ≡ all
    → asked (record { nodes = nodes; outs = u.outs }) ≡ outputs_of all
made-asked u nodes items all h same is =
    ap (λ ns. map (asked_by (trees ns)) u.outs) same ∙ (all-asked u items h ∙ ap outputs_of is)

pub returns-clause-unfolds : goal.returns-clause-unfolds
returns-clause-unfolds c =
    made-asked c.in_ok-unfolded.unfolded c.into_list.result (map item_shape c.as_slice.result.now) (spec_shape c.args.spec.now) c.in_ok-unfolded.ensures
    c.into_list.ensures.nodes (ap (map item_shape) c.as_slice.ensures ∙ ap spec_shape c.tree.ensures.tree)

pub returns-clause-sound : goal.returns-clause-sound
returns-clause-sound c =
    let u = c.in_ok-unfolded.unfolded in
    let items : List ItemShape = map item_shape c.as_slice.result.now in
    let same : items ≡ spec_shape c.args.spec.now = ap (map item_shape) c.as_slice.ensures ∙ ap spec_shape c.tree.ensures.tree in
    let faultless : first_fault items ≡ None = ap first_fault same ∙ c.tree.ensures.faultless in
    let outs : length u.outs < 2 ^ 32 = omega (arith, c.len.ensures) in
    subst (λ (ns : List Plain). IsSound (record { nodes = ns; outs = u.outs }) (length (signals_of (spec_shape c.args.spec.now)))) (sym c.into_list.ensures.nodes)
    (subst (λ is. IsSound (record { nodes = u.nodes; outs = u.outs }) (length (signals_of is))) same
    (all-sound u items c.in_ok-unfolded.ensures faultless c.into_list.ensures.few outs))

pub returns-clause-ranged : goal.returns-clause-ranged
returns-clause-ranged c =
    let unfolds = made-asked c.in_ok-unfolded.unfolded c.into_list.result (map item_shape c.as_slice.result.now) (spec_shape c.args.spec.now)
    c.in_ok-unfolded.ensures c.into_list.ensures.nodes (ap (map item_shape) c.as_slice.ensures ∙ ap spec_shape c.tree.ensures.tree) in
    subst (All HasRanges) (sym unfolds) (faultless-ranged (spec_shape c.args.spec.now) c.tree.ensures.faultless)

pub returns-clause-kinds : goal.returns-clause-kinds
returns-clause-kinds c =
    let unfolds = made-asked c.in_ok-unfolded.unfolded c.into_list.result (map item_shape c.as_slice.result.now) (spec_shape c.args.spec.now)
    c.in_ok-unfolded.ensures c.into_list.ensures.nodes (ap (map item_shape) c.as_slice.ensures ∙ ap spec_shape c.tree.ensures.tree) in
    subst (All (ReadsSignals (kinds_of (signals_of (spec_shape c.args.spec.now))))) (sym unfolds) (outputs-read (spec_shape c.args.spec.now))

pub returns-clause-named : goal.returns-clause-named
returns-clause-named c =
    let u = c.in_ok-unfolded.unfolded in
    let unfolds = made-asked u c.into_list.result (map item_shape c.as_slice.result.now) (spec_shape c.args.spec.now)
    c.in_ok-unfolded.ensures c.into_list.ensures.nodes (ap (map item_shape) c.as_slice.ensures ∙ ap spec_shape c.tree.ensures.tree) in
    let count = ap length (sym unfolds) ∙ length-map u.outs (asked_by (trees c.into_list.result)) in
    let outs : length u.outs < 2 ^ 32 = omega (arith, c.len.ensures) in
    let few : length (outputs_of (spec_shape c.args.spec.now)) < 2 ^ 64 = omega (arith, count, outs) in
    subst (All HasPlainName) (sym unfolds) (plain_outputs (spec_shape c.args.spec.now) few c.tree.ensures.plain)

pub returns-in_err-unfolded-clause-counting : goal.returns-in_err-unfolded-clause-counting
returns-in_err-unfolded-clause-counting c = counting_means

pub returns-then-len-clause-counting : goal.returns-then-len-clause-counting
returns-then-len-clause-counting c = counting_means

pub returns-clause-counting : goal.returns-clause-counting
returns-clause-counting c = counting_means

pub returns-clause-counted : goal.returns-clause-counted
returns-clause-counted c = λ k asked at i p within op m bodies is rows t. ap (λ q. sat rows q t) is ∙ counting_means op m bodies rows t
