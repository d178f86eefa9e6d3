-- The tests of `fixed` for two inputs, in their order.
use Rattle.std.proofs.Common.{refl, sym, ◌∙◌, eq-eqb, ne_eqb}
use Rattle.theory_writing.specs.Run.{operate}
use Rattle.edges.specs.Abstraction.{edge_in}
use Rattle.theory_combining.specs.EdgeCorrect.{fixed-two}
use Rattle.edges.proofs.is_fixed.Goals as goal

pub returns-else-is_settled : goal.returns-else-is_settled
returns-else-is_settled c =
    let a = c.args in
    λ t u. (rw (sym (c.is_settled.ensures u), c.if-is_settled.false) refl)
    ∙ fixed-two (operate a.op) (edge_in a.x t) (edge_in a.y u)

pub returns-then-x-eq0 : goal.returns-then-x-eq0
returns-then-x-eq0 c =
    let a = c.args in
    λ t u. (rw (sym (c.is_settled.ensures u), c.if-is_settled.true, eq-eqb a.x.edge.number 0 c.if-x-eq0.true) refl)
    ∙ fixed-two (operate a.op) (edge_in a.x t) (edge_in a.y u)

pub returns-else-is_settled-2 : goal.returns-else-is_settled-2
returns-else-is_settled-2 c =
    let a = c.args in
    λ t u. (rw (
      sym (c.is_settled.ensures u),
      c.if-is_settled.true,
      ne_eqb a.x.edge.number 0 c.if-x-eq0.false,
      sym (c.is_settled-else-x-eq0.ensures u),
      c.if-is_settled-2.false,
    ) refl) ∙ fixed-two (operate a.op) (edge_in a.x t) (edge_in a.y u)

pub returns-then-is_settled-2 : goal.returns-then-is_settled-2
returns-then-is_settled-2 c =
    let a = c.args in
    λ t u. (rw (
      sym (c.is_settled.ensures u),
      c.if-is_settled.true,
      ne_eqb a.x.edge.number 0 c.if-x-eq0.false,
      sym (c.is_settled-else-x-eq0.ensures u),
      c.if-is_settled-2.true,
      c.opens_first.ensures,
    ) refl) ∙ fixed-two (operate a.op) (edge_in a.x t) (edge_in a.y u)
