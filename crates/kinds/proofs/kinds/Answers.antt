use Rattle.std.proofs.Common.{refl}
use Rattle.theory_reading.specs.Bytes.{kind_of}
use Rattle.kinds.specs.Kinds.{kinds_from}
use Rattle.kinds.proofs.kinds.Goals as goal

pub returns : goal.returns
unfolding kinds_from kind_of
returns c = refl
