use Rattle.std.proofs.Common.{◌+◌, List, subst, sym}
use Rattle.pt_boxes.specs.declared.boxes.Span.{Span}
use Rattle.pt_boxes.specs.Boxes.{kept}
use Rattle.pt_boxes.specs.Spans.{SpansLieApart}
use Rattle.pt_boxes.proofs.Apart.{apart_without_ended, none_apart}
use Rattle.pt_boxes.proofs.since.age.Goals as goal

pub returns-then-left-clause-apart : goal.returns-then-left-clause-apart
returns-then-left-clause-apart c = λ i apart.
    subst (λ (xs : List Span). SpansLieApart i (c.args.now + 1) 0 xs) (sym c.let_ended_go.ensures.rest) (apart_without_ended i c.args.now (kept c.args.boxes.now c.args.spans.now) apart)

pub returns-else-left-clause-apart : goal.returns-else-left-clause-apart
returns-else-left-clause-apart c = λ i apart.
    subst (λ (xs : List Span). SpansLieApart i (c.args.now + 1) 0 xs) (sym (c.clear.ensures.none c.args.spans.now)) (none_apart i (c.args.now + 1))
