-- After some digits, fewer than five, their value is below that power of ten, and the others go on from it.
use Rattle.std.proofs.Common.{drop, ◌^◌, ◌≡◌, ◌<◌}
use Rattle.theory_writing.specs.Join.{value_on}
use Rattle.job.proofs.number.Given as goal

abbrev pub invariant-loop-b : goal.invariant-loop-b
invariant-loop-b l = (l.v < 10 ^ l.b-index) × (value_on 0 l.l ≡ value_on l.v (drop l.b-index l.l))
