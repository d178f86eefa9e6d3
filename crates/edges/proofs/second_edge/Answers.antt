-- The second child of the node, in the same table.
use Rattle.std.proofs.Common.{refl}
use Rattle.theory_combining.specs.EdgeCorrect.{second-child}
use Rattle.edges.proofs.second_edge.Goals as goal

pub returns : goal.returns
returns c =
    let a = c.args in
    λ t e. second-child t a.x.size a.i a.x.edge a.r e a.x.edge c.second_edge.result refl c.second_edge.ensures
