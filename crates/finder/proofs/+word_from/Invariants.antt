use Rattle.finder.proofs.+word_from.Given as goal

abbrev pub decreases-word_from : goal.decreases-word_from
decreases-word_from l = l.m
