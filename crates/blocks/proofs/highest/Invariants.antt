-- Above k no number has a node.
use Rattle.std.proofs.Common.{◌≡◌, ◌≤◌, min}
use Rattle.blocks.specs.Spine.{highest_in}
use Rattle.blocks.proofs.highest.Given as goal

abbrev pub invariant-loop-k : goal.invariant-loop-k
invariant-loop-k l = (min l.fn.z l.f ≤ l.k) × (highest_in l.t l.f l.k ≡ highest_in l.t l.f l.fn.z)
