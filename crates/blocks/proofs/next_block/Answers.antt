-- The block is made of what the loop reaches with the covered count as its stop (`next-called`).
use Rattle.reader.specs.OpenNodes.{cursor_in}
use Rattle.blocks.specs.Blocks.{next-called}
use Rattle.blocks.proofs.next_block.Goals as goal

pub returns : goal.returns
returns c =
    let a = c.args in
    next-called a.n a.s.now (cursor_in a.c a.o.now) a.t.now _ _ _ c.read_on-r.ensures c.block_of.ensures
