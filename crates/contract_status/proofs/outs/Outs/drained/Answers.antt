use Rattle.contract_status.proofs.outs.Outs.drained.Goals as goal

pub drained_at-requires-clause-cursor : goal.drained_at-requires-clause-cursor
drained_at-requires-clause-cursor g c = λ rows future past count known. c.start.ensures c.args.checked.now rows c.args.self.now
