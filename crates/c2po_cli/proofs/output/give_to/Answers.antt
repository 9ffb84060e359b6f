use Rattle.tool_io.specs.declared.host.Place.TheVariants.{Out}
use Rattle.tool_io.proofs.LogLaws.{OnLog-map}
use Rattle.tool_words.proofs.PhaseLaws.{OnLog-attached, OnLog-missed}
use Rattle.c2po_cli.proofs.MakeRuns.{put_missed, put_named}
use Rattle.c2po_cli.proofs.output.give_to.Goals as goal

pub returns-in-Failed-clause-log : goal.returns-in-Failed-clause-log
returns-in-Failed-clause-log g c =
    OnLog-map _ _ _ (OnLog-missed _ _ Out c.args.name.now c.in-Failed.ensures.log) (λ events has. put_missed c.args.name.now c.args.bytes.now events has)

pub returns-clause-log : goal.returns-clause-log
returns-clause-log g c =
    OnLog-map _ _ _ (OnLog-attached _ _ _ Out c.args.name.now _ c.in_default.ensures.log c.give.ensures.log)
    (λ events has. put_named c.give.result c.args.name.now c.args.bytes.now has.0 events has.1 has.2)
