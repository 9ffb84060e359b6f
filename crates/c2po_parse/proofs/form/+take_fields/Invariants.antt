use Rattle.c2po_parse.proofs.form.+take_fields.Given as goal

abbrev pub decreases-take_fields : goal.decreases-take_fields
decreases-take_fields l = l.room
