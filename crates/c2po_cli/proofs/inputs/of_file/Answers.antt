use Rattle.std.proofs.Common.{[], subst, sym}
use Rattle.tool_io.proofs.LogLaws.{OnLog-none}
use Rattle.obs_binary.specs.Faults.{opened}
use Rattle.c2po_cli.specs.Asking.{make_of}
use Rattle.c2po_cli.specs.Made.{made_bytes, opened_as}
use Rattle.c2po_cli.specs.Phases.{FileMadeLog}
use Rattle.c2po_cli.proofs.HeadLaws.{program_made}
use Rattle.c2po_cli.proofs.inputs.of_file.Goals as goal

pub returns-in-Upgrade-clause-log : goal.returns-in-Upgrade-clause-log
returns-in-Upgrade-clause-log g c =
    let made = c.upgraded_bytes.ensures in
    OnLog-none _ _ (subst (λ product. FileMadeLog product c.upgraded_bytes.result (make_of c.args.asked.now).header c.args.bytes.now []) (sym c.in-Upgrade.is)
    (program_made (opened_as made_bytes (opened c.args.bytes.now)) c.upgraded_bytes.result made.made made.refused made.refuses, made.upgraded))
