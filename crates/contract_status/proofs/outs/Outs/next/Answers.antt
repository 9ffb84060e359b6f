use Rattle.contract_status.proofs.outs.Outs.next.Goals as goal

pub next_at-requires-clause-cursor : goal.next_at-requires-clause-cursor
next_at-requires-clause-cursor g c = λ rows future past count known. c.start.ensures c.args.checked.now rows c.args.self.now
