use Rattle.std.proofs.Common.{◌+◌, ap, subst, sym, ◌∙◌}
use Rattle.mltl_base.specs.declared.operators.PtOp.{PtOp}
use Rattle.pt_boxes.specs.Boxes.{kept}
use Rattle.pt_boxes.specs.Tables.{BoxesRepresent, op_truth}
use Rattle.pt_boxes.proofs.rows.step.Goals as goal

pub returns-in-Load-clause-told : goal.returns-in-Load-clause-told
returns-in-Load-clause-told g c = λ loaded table turn. record {
  told = subst (λ (op : PtOp). BoxesRepresent op table (c.args.now + 1) (kept c.args.boxes.now c.args.own.now)) (sym c.in-Load.is) tt;
  truth =
      turn.loads c.in-Load.k c.truth.result c.in-Load.is c.truth.ensures
      ∙ sym (turn.here ∙ ap (λ (op : PtOp). op_truth op loaded table c.args.now) c.in-Load.is);
}
