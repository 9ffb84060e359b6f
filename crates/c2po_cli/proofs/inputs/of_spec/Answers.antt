use Rattle.std.proofs.Common.{None, [], option_map, refl, subst, sym}
use Rattle.std.proofs.lemmas.Result.{IfOk-weaker}
use Rattle.c2po_ast.specs.ItemShape.{spec_shape}
use Rattle.tool_io.proofs.LogLaws.{OnLog-none}
use Rattle.c2po_cli.specs.Made.{text_bytes}
use Rattle.c2po_cli.specs.Phases.{RefusesAlone, SpecLog}
use Rattle.c2po_cli.proofs.HeadLaws.{made_log, made_so}
use Rattle.c2po_cli.proofs.inputs.of_spec.Goals as goal

pub returns-in-None-clause-log : goal.returns-in-None-clause-log
returns-in-None-clause-log g c text none same =
    let made = c.compiled_bytes.ensures in
    OnLog-none _ _ (subst (λ h. SpecLog c.compiled_bytes.result c.args.form (option_map (λ name. name.now) h) text []) (sym c.in-None.is) (
      made_log (text_bytes c.args.form text None) c.compiled_bytes.result (made_so RefusesAlone c.args.form None (spec_shape c.args.spec.now) text c.compiled_bytes.result made.made made.refused (made.alone refl) none same),
      IfOk-weaker c.compiled_bytes.result _ _ (λ bytes image. image text none same) made.image,
    ))
