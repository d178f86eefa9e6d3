-- One round as the definition has it.
use Rattle.std.proofs.Common.{refl}
use Rattle.writer_numbers.specs.Hashing.{stir}
use Rattle.writer_numbers.proofs.stir.Goals as goal

pub returns : goal.returns
unfolding stir
returns c = rw c.from.ensures refl
