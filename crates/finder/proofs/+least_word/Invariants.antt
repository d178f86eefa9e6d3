use Rattle.finder.proofs.+least_word.Given as goal

abbrev pub decreases-least_word : goal.decreases-least_word
decreases-least_word l = l.m
