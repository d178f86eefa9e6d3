-- It settles in its text, at the next block, or goes on from its edge. Assumes nothing.
use Rattle.std.proofs.Common.{not, ap, ◌∙◌}
use Rattle.theory_applying.specs.Applying.{second_source}
use Rattle.reader.specs.OpenNodes.{opens_in}
use Rattle.edges.specs.Abstraction.{edge_in}
use Rattle.operands.specs.Abstraction.{input_of, reader_of}
use Rattle.operands.specs.OperandCorrect.{second-inside, second_edge_lem}
use Rattle.operands.proofs.second_half.Goals as goal

pub returns-then-is_none-clause-gone : goal.returns-then-is_none-clause-gone
returns-then-is_none-clause-gone c =
    let a = c.args in
    let b = c.read_on-block in
    c.settle-edge.ensures a.n (opens_in b.new.s.opens.now b.result.cursor.depth) b.new.s.bytes.now b.new.s.table.now
    ∙ second-inside a.n a.i (input_of a.f a.s.now) (ap not c.if-is_none.ensures) (reader_of b.result b.new.s) b.ensures.read

pub returns-clause-gone : goal.returns-clause-gone
returns-clause-gone c =
    let a = c.args in
    second_edge_lem a.n a.i (input_of a.f a.s.now) (edge_in c.second_edge-y.result a.s.now.table.now) (ap not c.if-is_none.ensures)
    (c.second_edge-y.ensures a.s.now.table.now c.get.ensures ∙ ap (second_source a.i) (c.edge_of-x.ensures.read a.n
    (opens_in a.s.now.opens.now a.f.block.cursor.depth) a.s.now.bytes.now a.s.now.table.now))
