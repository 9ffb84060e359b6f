use Rattle.mltl_base.proofs.list.+room_by.Given as goal

abbrev pub decreases-room_by : goal.decreases-room_by
decreases-room_by l = l.halvings
