-- The table is that of the named operators, as computing both shows.
use Rattle.std.proofs.Common.{refl}
use Rattle.theory_reading.specs.Bytes.{text}
use Rattle.job.proofs.operators.Goals as goal

pub returns : goal.returns
unfolding text
returns c = refl
