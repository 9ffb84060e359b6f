use Rattle.c2po_cli.proofs.UpgradedFiles.{upgraded_written}
use Rattle.c2po_cli.proofs.upgrade.upgraded_bytes.Goals as goal

pub returns-clause-upgraded : goal.returns-clause-upgraded
returns-clause-upgraded c = upgraded_written c.args.bytes.now c.in_ok-checked.checked c.written.result c.in_ok-checked.ensures.raised c.in_ok-checked.ensures.version c.written.ensures.bytes c.written.ensures.fits
