use Rattle.std.proofs.Common.{◌∙◌, ap, sym, ◌&&◌, ◌+◌, drop}
use Rattle.c2po_types.specs.Kinds.{fit}
use Rattle.c2po_types.proofs.Operands.{fit-end, fit-step}
use Rattle.c2po_types.proofs.operand.fits.Goals as goal

pub returns-then-not-is_same : goal.returns-then-not-is_same
returns-then-not-is_same c =
    let i = c.loop-i.i in let rest = fit (drop (i + 1) c.args.fields.now) (drop (i + 1) c.args.operands.now) in
    ap (λ b. b && rest) (sym c.if-not-is_same.true ∙ c.is_same.ensures)
    ∙ sym (fit-step c.args.fields.now c.args.operands.now i c.value_at.result _ c.value_at.ensures c.loop-i-test.true) ∙ c.loop-i.invariant

pub loop-i-preserved : goal.loop-i-preserved
loop-i-preserved c =
    let i = c.loop-i.i in let rest = fit (drop (i + 1) c.args.fields.now) (drop (i + 1) c.args.operands.now) in
    ap (λ b. b && rest) (sym c.if-not-is_same.false ∙ c.is_same.ensures)
    ∙ sym (fit-step c.args.fields.now c.args.operands.now i c.value_at.result _ c.value_at.ensures c.loop-i-test.true) ∙ c.loop-i.invariant

pub returns : goal.returns
returns c = sym (fit-end c.args.fields.now c.args.operands.now c.loop-i.i c.loop-i-test.false) ∙ c.loop-i.invariant
