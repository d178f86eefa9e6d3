-- The tests of `fixed` for one input, in their order.
use Rattle.std.proofs.Common.{refl, ◌∙◌, ◌∷◌, eq-eqb, ne_eqb}
use Rattle.theory_writing.specs.Run.{operate}
use Rattle.edges.specs.Abstraction.{edge_in}
use Rattle.theory_combining.specs.EdgeCorrect.{fixed-one}
use Rattle.edges.proofs.is_settled.Goals as goal

pub returns-then-y-eq0 : goal.returns-then-y-eq0
returns-then-y-eq0 c =
    let a = c.args in
    λ t. (rw (eq-eqb a.y.edge.number 0 c.if-y-eq0.true) refl)
    ∙ fixed-one (λ ds. operate a.op (a.a ∷ ds)) (edge_in a.y t)

pub returns-else-y-eq0 : goal.returns-else-y-eq0
returns-else-y-eq0 c =
    let a = c.args in
    λ t. (rw (ne_eqb a.y.edge.number 0 c.if-y-eq0.false, c.opens_second.ensures) refl)
    ∙ fixed-one (λ ds. operate a.op (a.a ∷ ds)) (edge_in a.y t)
