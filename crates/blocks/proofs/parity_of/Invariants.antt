-- p is the parity of the open nodes so far.
use Rattle.std.proofs.Common.{◌≡◌}
use Rattle.theory_reading.specs.Covered.{parity}
use Rattle.elements.specs.Abstraction.{opens_of}
use Rattle.blocks.proofs.parity_of.Given as goal

abbrev pub invariant-loop-e : goal.invariant-loop-e
invariant-loop-e l = l.p ≡ parity (opens_of l.fn.o l.e-index)
