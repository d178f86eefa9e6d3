-- The bytes from i to j are none of them c, so the first c from j on is the first from i on.
use Rattle.std.proofs.Common.{◌≡◌}
use Rattle.job.specs.Cuts.{cut_at}
use Rattle.job.proofs.place_of.Given as goal

abbrev pub invariant-loop-j : goal.invariant-loop-j
invariant-loop-j l = cut_at l.c l.s l.i ≡ cut_at l.c l.s l.j
