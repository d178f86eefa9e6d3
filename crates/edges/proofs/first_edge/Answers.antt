-- The first child of the node, in the same table.
use Rattle.std.proofs.Common.{refl}
use Rattle.theory_combining.specs.EdgeCorrect.{first-child}
use Rattle.edges.proofs.first_edge.Goals as goal

pub returns : goal.returns
returns c =
    let a = c.args in
    λ t e. first-child t a.x.size a.i a.x.edge a.r e a.x.edge c.first_edge.result refl c.first_edge.ensures
