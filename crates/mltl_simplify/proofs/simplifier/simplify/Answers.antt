use Rattle.std.proofs.Common.{List, length, map, All, subst, sym, ap, ◌∙◌}
use Rattle.mltl_base.specs.Subformulas.{Asked}
use Rattle.c2po_ast.specs.declared.nodes.Plain.{Plain}
use Rattle.c2po_ast.specs.declared.nodes.PlainOut.{PlainOut}
use Rattle.c2po_ast.specs.Outputs.{asked}
use Rattle.mltl_simplify.specs.declared.proxies.Proxy.{Proxy}
use Rattle.mltl_simplify.specs.Nodes.{AreSimplified, ReadsNodes, out_over}
use Rattle.c2po_ast.specs.Faults.{HasRanges}
use Rattle.mltl_simplify.proofs.Ending.{outs_below, simple_asks, simple_ranged, simple_sound}
use Rattle.mltl_simplify.proofs.InPlace.{placed_sat, placed_settled, placed_wpd}
use Rattle.mltl_simplify.proofs.simplifier.simplify.Goals as goal

pub outs_of-requires : goal.outs_of-requires
outs_of-requires c =
    let older = c.args.spec.now.nodes in
    let simple = c.read.new.simple in
    let proxies = c.deref.result.now in
    let done : AreSimplified older (length older) simple proxies =
    subst (λ (ps : List Proxy). AreSimplified older (length older) simple ps) (sym c.deref.ensures.value)
    (subst (λ (ns : List Plain). AreSimplified ns (length ns) simple c.in_ok-proxies.proxies.items) c.as_slice.ensures c.in_ok-proxies.ensures) in
    subst (λ (os : List PlainOut). All (ReadsNodes (length proxies)) os) (sym c.as_slice-2.ensures) (outs_below older simple proxies done c.args.spec.now.outs c.requires.sound.1.outs)

pub returns-clause-outputs : goal.returns-clause-outputs
returns-clause-outputs c =
    let older = c.args.spec.now.nodes in
    let simple = c.read.new.simple in
    let proxies = c.deref.result.now in
    let done : AreSimplified older (length older) simple proxies =
    subst (λ (ps : List Proxy). AreSimplified older (length older) simple ps) (sym c.deref.ensures.value)
    (subst (λ (ns : List Plain). AreSimplified ns (length ns) simple c.in_ok-proxies.proxies.items) c.as_slice.ensures c.in_ok-proxies.ensures) in
    simple_asks older simple proxies done c.args.spec.now.outs (record { nodes = c.into_list.result; outs = c.in_ok-outs.outs }) c.into_list.ensures.nodes (c.in_ok-outs.ensures ∙ ap (map (out_over proxies)) c.as_slice-2.ensures) c.requires.sound.1.outs c.requires.ranged

pub returns-clause-sound : goal.returns-clause-sound
returns-clause-sound c = λ signals s.
    let older = c.args.spec.now.nodes in
    let simple = c.read.new.simple in
    let proxies = c.deref.result.now in
    let done : AreSimplified older (length older) simple proxies =
    subst (λ (ps : List Proxy). AreSimplified older (length older) simple ps) (sym c.deref.ensures.value)
    (subst (λ (ns : List Plain). AreSimplified ns (length ns) simple c.in_ok-proxies.proxies.items) c.as_slice.ensures c.in_ok-proxies.ensures) in
    simple_sound older simple proxies done c.args.spec.now.outs (record { nodes = c.into_list.result; outs = c.in_ok-outs.outs }) signals c.into_list.ensures.nodes (c.in_ok-outs.ensures ∙ ap (map (out_over proxies)) c.as_slice-2.ensures) c.into_list.ensures.few s c.requires.ranged

pub returns-clause-ranged : goal.returns-clause-ranged
returns-clause-ranged c =
    let older = c.args.spec.now.nodes in
    let simple = c.read.new.simple in
    let proxies = c.deref.result.now in
    let done : AreSimplified older (length older) simple proxies =
    subst (λ (ps : List Proxy). AreSimplified older (length older) simple ps) (sym c.deref.ensures.value)
    (subst (λ (ns : List Plain). AreSimplified ns (length ns) simple c.in_ok-proxies.proxies.items) c.as_slice.ensures c.in_ok-proxies.ensures) in
    subst (λ (xs : List Asked). All HasRanges xs) (sym (simple_asks older simple proxies done c.args.spec.now.outs (record { nodes = c.into_list.result; outs = c.in_ok-outs.outs }) c.into_list.ensures.nodes (c.in_ok-outs.ensures ∙ ap (map (out_over proxies)) c.as_slice-2.ensures) c.requires.sound.1.outs c.requires.ranged))
    (simple_ranged (asked c.args.spec.now) c.requires.ranged)

pub returns-clause-meaning : goal.returns-clause-meaning
returns-clause-meaning c =
    let older = c.args.spec.now.nodes in
    let simple = c.read.new.simple in
    let proxies = c.deref.result.now in
    let done : AreSimplified older (length older) simple proxies =
    subst (λ (ps : List Proxy). AreSimplified older (length older) simple ps) (sym c.deref.ensures.value)
    (subst (λ (ns : List Plain). AreSimplified ns (length ns) simple c.in_ok-proxies.proxies.items) c.as_slice.ensures c.in_ok-proxies.ensures) in
    placed_sat (asked c.args.spec.now) _
    (simple_asks older simple proxies done c.args.spec.now.outs (record { nodes = c.into_list.result; outs = c.in_ok-outs.outs }) c.into_list.ensures.nodes (c.in_ok-outs.ensures ∙ ap (map (out_over proxies)) c.as_slice-2.ensures) c.requires.sound.1.outs c.requires.ranged)

pub returns-clause-delay : goal.returns-clause-delay
returns-clause-delay c =
    let older = c.args.spec.now.nodes in
    let simple = c.read.new.simple in
    let proxies = c.deref.result.now in
    let done : AreSimplified older (length older) simple proxies =
    subst (λ (ps : List Proxy). AreSimplified older (length older) simple ps) (sym c.deref.ensures.value)
    (subst (λ (ns : List Plain). AreSimplified ns (length ns) simple c.in_ok-proxies.proxies.items) c.as_slice.ensures c.in_ok-proxies.ensures) in
    placed_wpd (asked c.args.spec.now) _
    (simple_asks older simple proxies done c.args.spec.now.outs (record { nodes = c.into_list.result; outs = c.in_ok-outs.outs }) c.into_list.ensures.nodes (c.in_ok-outs.ensures ∙ ap (map (out_over proxies)) c.as_slice-2.ensures) c.requires.sound.1.outs c.requires.ranged)

pub returns-clause-settled : goal.returns-clause-settled
returns-clause-settled c =
    let older = c.args.spec.now.nodes in
    let simple = c.read.new.simple in
    let proxies = c.deref.result.now in
    let done : AreSimplified older (length older) simple proxies =
    subst (λ (ps : List Proxy). AreSimplified older (length older) simple ps) (sym c.deref.ensures.value)
    (subst (λ (ns : List Plain). AreSimplified ns (length ns) simple c.in_ok-proxies.proxies.items) c.as_slice.ensures c.in_ok-proxies.ensures) in
    placed_settled (asked c.args.spec.now) _
    (simple_asks older simple proxies done c.args.spec.now.outs (record { nodes = c.into_list.result; outs = c.in_ok-outs.outs }) c.into_list.ensures.nodes (c.in_ok-outs.ensures ∙ ap (map (out_over proxies)) c.as_slice-2.ensures) c.requires.sound.1.outs c.requires.ranged)
