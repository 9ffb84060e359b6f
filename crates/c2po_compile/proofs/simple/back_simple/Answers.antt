use Rattle.std.proofs.Common.{◌≡◌, ◌∙◌, None, List, ap, length, nat_le, subst, sym}
use Rattle.mltl_base.specs.Subformulas.{Asked}
use Rattle.mltl_simplify.specs.Outputs.{simple_outputs}
use Rattle.c2po_ast.specs.ItemShape.{spec_shape}
use Rattle.c2po_types.specs.Signals.{signals_of}
use Rattle.c2po_ast.specs.Outputs.{asked}
use Rattle.c2po_types.specs.Outputs.{outputs_of}
use Rattle.c2po_compile.specs.BuildLimits.{IsReason}
use Rattle.obs_binary.specs.Names.{NamesFit}
use Rattle.c2po_compile.specs.Limits.{limit_refusal}
use Rattle.c2po_compile.specs.Image.{image, over_columns}
use Rattle.c2po_compile.specs.Simplified.{slots_in}
use Rattle.c2po_compile.proofs.LimitLaws.{none_exceeded}
use Rattle.c2po_compile.proofs.SimpleLaws.{fits_either, image_slots, kinds_simple, named_simple, plain_is, smaller_is}
use Rattle.c2po_compile.proofs.simple.back_simple.Goals as goal

pub built-made-requires-clause-unfolded : goal.built-made-requires-clause-unfolded
built-made-requires-clause-unfolded c =
    let signals = signals_of (spec_shape c.args.spec.now) in
    let spec = c.in_ok-unfolded.unfolded in
    let simple = c.in_ok-simple.simple in
    let same = c.in_ok-simple.ensures.outputs in
    record {
      sound = c.in_ok-simple.ensures.sound (length signals) c.in_ok-unfolded.ensures.sound;
      ranged = c.in_ok-simple.ensures.ranged;
      kinds = kinds_simple signals spec simple same c.in_ok-unfolded.ensures.kinds;
      named = named_simple spec simple same c.in_ok-unfolded.ensures.named;
    }

pub smaller-requires-clause-simple : goal.smaller-requires-clause-simple
smaller-requires-clause-simple c =
    let outs = asked c.in_ok-simple.simple in
    image_slots c.args.columns.now (signals_of (spec_shape c.args.spec.now)) outs c.in-Ok.simple c.in-Ok.ensures.image
    (none_exceeded (over_columns c.args.columns.now outs) c.in-Ok.ensures.within)

pub smaller-requires-clause-plain : goal.smaller-requires-clause-plain
smaller-requires-clause-plain c =
    image_slots c.args.columns.now (signals_of (spec_shape c.args.spec.now)) (outputs_of (spec_shape c.args.spec.now)) c.in_ok-plain.plain c.in_ok-plain.ensures.image c.in_ok-plain.ensures.within

pub returns-in-Ok-clause-image : goal.returns-in-Ok-clause-image
returns-in-Ok-clause-image c =
    let columns = c.args.columns.now in
    let signals = signals_of (spec_shape c.args.spec.now) in
    let outs = outputs_of (spec_shape c.args.spec.now) in
    let same : asked c.in_ok-simple.simple ≡ simple_outputs outs = c.in_ok-simple.ensures.outputs ∙ ap simple_outputs c.in_ok-unfolded.ensures.unfolds in
    c.smaller.ensures
    ∙ smaller_is columns signals outs c.in-Ok.simple c.in_ok-plain.plain
    (subst (λ (xs : List Asked). limit_refusal (over_columns columns xs) ≡ None) same (none_exceeded (over_columns columns (asked c.in_ok-simple.simple)) c.in-Ok.ensures.within))
    (c.in-Ok.ensures.image ∙ ap (λ xs. image columns signals xs) same)
    c.in_ok-plain.ensures.image

pub returns-in-Ok-clause-names : goal.returns-in-Ok-clause-names
returns-in-Ok-clause-names c =
    subst NamesFit (sym c.smaller.ensures)
    (fits_either (nat_le (slots_in c.in-Ok.simple) (slots_in c.in_ok-plain.plain)) c.in-Ok.simple c.in_ok-plain.plain c.in-Ok.ensures.names c.in_ok-plain.ensures.names)

pub returns-in_default-clause-image : goal.returns-in_default-clause-image
returns-in_default-clause-image c =
    let columns = c.args.columns.now in
    let signals = signals_of (spec_shape c.args.spec.now) in
    let outs = outputs_of (spec_shape c.args.spec.now) in
    let same : asked c.in_ok-simple.simple ≡ simple_outputs outs = c.in_ok-simple.ensures.outputs ∙ ap simple_outputs c.in_ok-unfolded.ensures.unfolds in
    plain_is columns signals outs c.in-Err.fault c.in_ok-plain.plain
    (subst (λ (xs : List Asked). IsReason (over_columns columns xs) c.in-Err.fault) same c.in-Err.ensures.refused)
    c.in_default.not-Memory
    c.in_ok-plain.ensures.image
