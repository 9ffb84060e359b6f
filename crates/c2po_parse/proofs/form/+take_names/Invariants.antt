use Rattle.c2po_parse.proofs.form.+take_names.Given as goal

abbrev pub decreases-take_names : goal.decreases-take_names
decreases-take_names l = l.room
