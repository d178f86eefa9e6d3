use Rattle.decider.proofs.+walk_down.Given as goal

abbrev pub decreases-walk_down : goal.decreases-walk_down
decreases-walk_down l = l.m
