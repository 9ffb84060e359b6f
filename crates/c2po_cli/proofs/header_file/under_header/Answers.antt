use Rattle.tool_io.specs.declared.host.Place.TheVariants.{Header}
use Rattle.tool_io.proofs.LogLaws.{OnLog-map}
use Rattle.tool_words.proofs.PhaseLaws.{OnLog-attached}
use Rattle.c2po_cli.proofs.HeadLaws.{header_log}
use Rattle.c2po_cli.proofs.header_file.under_header.Goals as goal

pub returns-clause-log : goal.returns-clause-log
returns-clause-log g c text none same =
    OnLog-map _ _ _ (OnLog-attached _ _ _ Header c.args.name.now _ c.in_default.ensures.log (c.under_first_line.ensures.log text none same))
    (λ events has. header_log c.under_first_line.result c.args.form c.args.name.now text events has)
