-- Each half of a part has an option less.
use Rattle.applier.proofs.+walk.Given as goal

abbrev pub decreases-walk : goal.decreases-walk
decreases-walk l = l.d
