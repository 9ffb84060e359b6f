use Rattle.c2po_parse.proofs.form.+take_type.Given as goal

abbrev pub decreases-take_type : goal.decreases-take_type
decreases-take_type l = l.room
