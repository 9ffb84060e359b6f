use Rattle.std.proofs.Common.{ℕ, ◌+◌, ◌≤◌, List, length, subst, sym, ap, ◌∙◌}
use Rattle.mltl_base.specs.Queues.{boxes as box_count}
use Rattle.pt_boxes.specs.declared.boxes.Span.{Span}
use Rattle.pt_boxes.specs.Boxes.{kept}
use Rattle.pt_boxes.specs.Spans.{SpansLieApart, stretch_at, with_stretch}
use Rattle.pt_boxes.proofs.Apart.{apart_with_stretch, few_apart}
use Rattle.pt_boxes.proofs.since.open.Goals as goal

pub add-requires-clause-room : goal.add-requires-clause-room
add-requires-clause-room c =
    let w = c.args.window in
    let old : List Span = kept c.args.boxes.now c.args.spans.now in
    let few : length (with_stretch (stretch_at w c.args.now) old) ≤ box_count w =
    few_apart w c.args.now _ c.requires.ordered c.few_boxes.ensures (apart_with_stretch w c.args.now old c.requires.ordered c.requires.kept.apart) in
    subst (λ (s : Span). length (with_stretch s old) ≤ length c.args.spans.now) (sym c.stretch_from.ensures)
    (subst (λ (k : ℕ). length (with_stretch (stretch_at w c.args.now) old) ≤ k) (sym c.requires.kept.room) few)

pub returns-then-right-clause-kept : goal.returns-then-right-clause-kept
returns-then-right-clause-kept c =
    let old : List Span = kept c.args.boxes.now c.args.spans.now in
    let opened = c.add.ensures.added ∙ ap (λ (s : Span). with_stretch s old) c.stretch_from.ensures in
    record {
      room = c.add.auto.spans ∙ c.requires.kept.room;
      belongs = c.add.ensures.belongs;
      apart = subst (λ (xs : List Span). SpansLieApart c.args.window (c.args.now + 1) 0 xs) (sym opened) (apart_with_stretch c.args.window c.args.now old c.requires.ordered c.requires.kept.apart);
    }
