-- Each half has an option less.
use Rattle.text_walk.proofs.+texts.Given as goal

abbrev pub decreases-texts : goal.decreases-texts
decreases-texts l = l.d
