use Rattle.std.proofs.Common.{rules, take, subst, sym, refl, ◌<◌, ℤ, Option, Some, arith}
use Rattle.std.specs.Prelude.{FitsSigned}
use Rattle.std.specs.Int.{w64}
use Rattle.std.proofs.lemmas.Int.{to_z-of_z}
use Rattle.mltl_base.specs.Atoms.{constant, negative}
use Rattle.c2po_ast.specs.declared.nodes.Plain.TheVariants.{Number, Minus, Arith}
use Rattle.c2po_ast.specs.Nodes.{arithmetic, node_term, trees}
use Rattle.mltl_simplify.specs.Nodes.{IsNumbered, known_number}
use Rattle.mltl_simplify.specs.Numbers.{IsComputed, IsNegated}
use Rattle.mltl_simplify.proofs.Reading.{formed_here, head, number_below}
use Rattle.c2po_ast.proofs.Places.{node_there}
use Rattle.mltl_simplify.proofs.Numbering.{computed_known, constant_known, negated_known}
use Rattle.mltl_simplify.proofs.Placing.{known_operand, numbered_as, other_numbered}
use Rattle.mltl_simplify.proofs.proxies.number_of.Goals as goal

pub number_at-requires : goal.number_at-requires
number_at-requires c =
    let below : c.in-Minus.a < c.args.i = number_below c.args.nodes.now c.args.i c.in-Minus.a c.requires.next (formed_here c.args.nodes.now c.args.i (Minus c.in-Minus.a) c.requires.formed c.requires.next c.in-Minus.is) in
    omega (arith, c.requires.each)

pub number_at-requires-in-Arith : goal.number_at-requires-in-Arith
number_at-requires-in-Arith c =
    let below : c.in-Arith.a < c.args.i = number_below c.args.nodes.now c.args.i c.in-Arith.a c.requires.next (formed_here c.args.nodes.now c.args.i (Arith c.in-Arith.op c.in-Arith.a c.in-Arith.b) c.requires.formed c.requires.next c.in-Arith.is).0 in
    omega (arith, c.requires.each)

pub number_at-requires-in-Arith-2 : goal.number_at-requires-in-Arith-2
number_at-requires-in-Arith-2 c =
    let below : c.in-Arith.b < c.args.i = number_below c.args.nodes.now c.args.i c.in-Arith.b c.requires.next (formed_here c.args.nodes.now c.args.i (Arith c.in-Arith.op c.in-Arith.a c.in-Arith.b) c.requires.formed c.requires.next c.in-Arith.is).1 in
    omega (arith, c.requires.each)

pub returns-in-Number : goal.returns-in-Number
returns-in-Number c = λ tree h.
    let fits : FitsSigned w64 c.in-Number.number = search rules in
    subst (λ (m : ℤ). IsNumbered (Some m) tree) (sym (to_z-of_z w64 c.in-Number.number fits))
    (numbered_as (Some c.in-Number.number) (constant c.in-Number.number) tree (head c.args.nodes.now c.args.i (Number c.in-Number.number) tree (node_there c.args.nodes.now c.args.i (Number c.in-Number.number) c.requires.next c.in-Number.is) h) (constant_known c.in-Number.number))

pub returns-in-Minus : goal.returns-in-Minus
returns-in-Minus c = λ tree h.
    let a = node_term (trees (take c.args.i c.args.nodes.now)) c.in-Minus.a in
    numbered_as c.negated.result (negative a) tree (head c.args.nodes.now c.args.i (Minus c.in-Minus.a) tree (node_there c.args.nodes.now c.args.i (Minus c.in-Minus.a) c.requires.next c.in-Minus.is) h)
    (negated_known a (known_number c.args.proxies.now c.in-Minus.a) c.negated.result (known_operand c.args.nodes.now c.args.proxies.now c.args.i c.in-Minus.a c.requires.each c.requires.next c.requires.numbered (formed_here c.args.nodes.now c.args.i (Minus c.in-Minus.a) c.requires.formed c.requires.next c.in-Minus.is))
    (subst (λ (x : Option ℤ). IsNegated x c.negated.result) c.number_at.ensures c.negated.ensures))

pub returns-in-Arith : goal.returns-in-Arith
returns-in-Arith c = λ tree h.
    let a = node_term (trees (take c.args.i c.args.nodes.now)) c.in-Arith.a in
    let b = node_term (trees (take c.args.i c.args.nodes.now)) c.in-Arith.b in
    let op = c.in-Arith.op in
    numbered_as c.computed.result (arithmetic op a b) tree (head c.args.nodes.now c.args.i (Arith c.in-Arith.op c.in-Arith.a c.in-Arith.b) tree (node_there c.args.nodes.now c.args.i (Arith c.in-Arith.op c.in-Arith.a c.in-Arith.b) c.requires.next c.in-Arith.is) h)
    (computed_known op a b (known_number c.args.proxies.now c.in-Arith.a) (known_number c.args.proxies.now c.in-Arith.b) c.computed.result
    (known_operand c.args.nodes.now c.args.proxies.now c.args.i c.in-Arith.a c.requires.each c.requires.next c.requires.numbered (formed_here c.args.nodes.now c.args.i (Arith c.in-Arith.op c.in-Arith.a c.in-Arith.b) c.requires.formed c.requires.next c.in-Arith.is).0)
    (known_operand c.args.nodes.now c.args.proxies.now c.args.i c.in-Arith.b c.requires.each c.requires.next c.requires.numbered (formed_here c.args.nodes.now c.args.i (Arith c.in-Arith.op c.in-Arith.a c.in-Arith.b) c.requires.formed c.requires.next c.in-Arith.is).1)
    (subst (λ (x : Option ℤ). IsComputed op x (known_number c.args.proxies.now c.in-Arith.b) c.computed.result) c.number_at-in-Arith.ensures
    (subst (λ (y : Option ℤ). IsComputed op c.number_at-in-Arith.result y c.computed.result) c.number_at-in-Arith-2.ensures c.computed.ensures)))

pub returns-in_default : goal.returns-in_default
returns-in_default c = λ tree h.
    other_numbered (trees (take c.args.i c.args.nodes.now)) _ tree (head c.args.nodes.now c.args.i _ tree (node_there c.args.nodes.now c.args.i _ c.requires.next refl) h)
    c.in_default.not-Number c.in_default.not-Minus c.in_default.not-Arith
