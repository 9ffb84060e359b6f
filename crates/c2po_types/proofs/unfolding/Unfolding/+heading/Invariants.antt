use Rattle.c2po_types.proofs.unfolding.Unfolding.+heading.Given as goal

abbrev pub decreases-head : goal.decreases-head
decreases-head l = l.levels

abbrev pub decreases-part : goal.decreases-part
decreases-part l = l.levels
