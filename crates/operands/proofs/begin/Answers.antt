-- The first block of the stream, settled if it is all of it. Assumes nothing.
use Rattle.std.proofs.Common.{◌∙◌}
use Rattle.operands.specs.OperandCorrect.{begun-code}
use Rattle.operands.proofs.begin.Goals as goal

pub returns-clause-begun : goal.returns-clause-begun
returns-clause-begun c =
    let s = c.args.s.now in
    c.settle-edge.ensures c.args.n _ s.bytes.now _
    ∙ begun-code c.args.n s.bytes.now s.opens.now s.table.now c.first_cursor.result _ c.first_cursor.ensures c.next_block-block.ensures
