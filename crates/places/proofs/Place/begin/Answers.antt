-- No node is open, whatever the entries are.
use Rattle.std.proofs.Common.{List, ap}
use Rattle.theory_reading.specs.Element as T
use Rattle.theory_reading.specs.Nodes as N
use Rattle.elements.specs.OpenLaws.{open_none}
use Rattle.places.proofs.Place.begin.Goals as goal

pub returns : goal.returns
returns c = ap (λ (l : List T.Open). T.place 0 T.start l N.temporary) (open_none _)
