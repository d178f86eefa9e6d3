-- The number of options below the node falls.
use Rattle.filler.proofs.+fill_node.Given as goal

abbrev pub decreases-fill_node : goal.decreases-fill_node
decreases-fill_node l = l.m
