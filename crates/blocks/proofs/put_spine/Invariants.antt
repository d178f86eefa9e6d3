-- What the open nodes that are left bring is what all of them bring.
use Rattle.std.proofs.Common.{◌≡◌, ◌+◌, ◌-◌}
use Rattle.theory_reading.specs.Spine.{spine_number}
use Rattle.elements.specs.Abstraction.{opens_of}
use Rattle.blocks.specs.Spine.{spine_at}
use Rattle.blocks.proofs.put_spine.Given as goal

abbrev pub invariant-loop-j : goal.invariant-loop-j
invariant-loop-j l =
    (spine_at l.t l.z (opens_of l.o (l.d - l.j)) (l.k + l.j) l.inner ≡ spine_at l.initial.t l.z (opens_of l.o l.d) l.k l.e)
    × (spine_number (opens_of l.o (l.d - l.j)) (l.k + l.j) l.inner ≡ spine_number (opens_of l.o l.d) l.k l.e)
