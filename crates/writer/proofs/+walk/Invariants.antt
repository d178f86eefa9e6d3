-- Each half has an option less.
use Rattle.writer.proofs.+walk.Given as goal

abbrev pub decreases-walk : goal.decreases-walk
decreases-walk l = l.part.options
