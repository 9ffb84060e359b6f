use Rattle.std.proofs.Common.{length, take, ap, refl, sym, subst, ◌≡◌, ◌∙◌, arith}
use Rattle.mltl_base.specs.declared.operators.WindowOp.{WindowOp}
use Rattle.c2po_ast.specs.declared.nodes.Plain.TheVariants.{Window}
use Rattle.c2po_ast.specs.Nodes.{formula, node_formula, tree_of, trees}
use Rattle.mltl_simplify.specs.Nodes.{simple_window}
use Rattle.mltl_simplify.proofs.Reading.{formed_found, formula_operand, found, has_place}
use Rattle.mltl_simplify.proofs.Putting.{window_put}
use Rattle.mltl_simplify.proofs.Heads.{false_not_true, window_far, window_joined, window_over_none, window_over_other, window_sum}
use Rattle.mltl_simplify.proofs.rules.stacked.Goals as goal
use Rattle.mltl_simplify.proofs.rules.stacked.Goals.{in_default-via-in-Window+else-is_same, in_default-via-in_default}

pub bounds-as_slice-a : goal.bounds-as_slice-a
bounds-as_slice-a c = omega (arith, has_place c.args.nodes.now c.args.a (formula c.requires.there.the) c.requires.there.has, ap length c.as_slice.ensures)

pub joined-requires-clause-inner : goal.joined-requires-clause-inner
joined-requires-clause-inner c =
    (formed_found c.args.nodes.now c.as_slice.result.now c.args.a (Window c.in-Window.inner c.in-Window.j c.in-Window.z) c.requires.formed
    (has_place c.args.nodes.now c.args.a (formula c.requires.there.the) c.requires.there.has) c.as_slice.ensures c.in-Window.is).0

pub returns-in-Some : goal.returns-in-Some
returns-in-Some c = λ p h k.
    let nodes = c.args.nodes.now in
    let ts = trees (take c.args.a nodes) in
    let z = c.in-Window.z in
    let j = c.in-Window.j in
    let same : c.in-Window.inner ≡ c.args.op = c.is_same.ensures.0 c.if-is_same.true in
    let form = formed_found nodes c.as_slice.result.now c.args.a (Window c.in-Window.inner j z) c.requires.formed (has_place nodes c.args.a (formula p) h) c.as_slice.ensures c.in-Window.is in
    let told : tree_of ts (Window c.args.op j z) ≡ formula p =
    subst (λ (o : WindowOp). tree_of ts (Window o j z) ≡ formula p) same (found nodes c.as_slice.result.now c.args.a (Window c.in-Window.inner j z) (formula p) c.as_slice.ensures c.in-Window.is h) in
    window_put c.push.result nodes c.push.new.self (simple_window c.args.op c.args.i p) c.push.ensures.place c.args.op c.in-Some.whole z (node_formula ts z) c.push.ensures.pushed
    (window_sum c.args.i j c.in-Some.whole c.requires.bounded form.0 (sym c.in-Some.is ∙ c.joined.ensures))
    (formula_operand nodes c.args.a z form.1)
    (window_joined ts c.args.op c.args.i j c.in-Some.whole z p told (sym c.in-Some.is ∙ c.joined.ensures))

pub returns-in-None : goal.returns-in-None
returns-in-None c = λ p h k.
    let nodes = c.args.nodes.now in
    let ts = trees (take c.args.a nodes) in
    let z = c.in-Window.z in
    let j = c.in-Window.j in
    let same : c.in-Window.inner ≡ c.args.op = c.is_same.ensures.0 c.if-is_same.true in
    let told : tree_of ts (Window c.args.op j z) ≡ formula p =
    subst (λ (o : WindowOp). tree_of ts (Window o j z) ≡ formula p) same (found nodes c.as_slice.result.now c.args.a (Window c.in-Window.inner j z) (formula p) c.as_slice.ensures c.in-Window.is h) in
    window_put c.push-in-None.result nodes c.push-in-None.new.self (simple_window c.args.op c.args.i p) c.push-in-None.ensures.place c.args.op c.args.i c.args.a p c.push-in-None.ensures.pushed c.requires.bounded h
    (window_far ts c.args.op c.args.i j z p told (sym c.in-None.is ∙ c.joined.ensures))

pub returns-in_default : goal.returns-in_default
returns-in_default c = λ p h k.
    let nodes = c.args.nodes.now in
    let ts = trees (take c.args.a nodes) in
    window_put c.push-in_default.result nodes c.push-in_default.new.self (simple_window c.args.op c.args.i p) c.push-in_default.ensures.place c.args.op c.args.i c.args.a p c.push-in_default.ensures.pushed c.requires.bounded h
    (elim c.in_default.branch [
      | in_default-via-in-Window+else-is_same w ↦
          window_over_other ts c.args.op w.in-Window.inner c.args.i w.in-Window.j w.in-Window.z p
          (found nodes c.as_slice.result.now c.args.a (Window w.in-Window.inner w.in-Window.j w.in-Window.z) (formula p) c.as_slice.ensures w.in-Window.is h) k
          (λ same. false_not_true w.is_same.result w.if-is_same.false (w.is_same.ensures.1 same))
      | in_default-via-in_default w ↦
          window_over_none ts c.args.op c.args.i _ p (found nodes c.as_slice.result.now c.args.a _ (formula p) c.as_slice.ensures refl h) k w.in_default.not-Window
    ])
