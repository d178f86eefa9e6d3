-- Each iteration reads until more words are covered, and fills those of the node that was passed (`words-iteration`); where reading halts all are filled.
-- Assumes nothing.
use Rattle.std.proofs.Common.{arith, ◌∙◌}
use Rattle.reader.specs.OpenNodes.{opens_in}
use Rattle.filler.specs.FillCorrect.{filled-begun, words-whole, words-fit, words-shallow, words-iteration, words-less}
use Rattle.filler.proofs.fill_words.Goals as goal

pub loop-o-init : goal.loop-o-init
loop-o-init c =
    let a = c.args in
    let p = c.requires in (
      p.0,
      (
        p.1.0,
        (
          p.1.1.1.0,
          filled-begun a.n a.s.now a.t.now a.v.now c.first_cursor-c.result p.1.1.0 p.1.1.1.1 c.first_cursor-c.ensures,
        ),
      ),
    )

pub returns-then-x : goal.returns-then-x
returns-then-x c =
    let l = c.loop-o in
    let a = c.args in
    let i = l.invariant in (
      words-whole a.n a.s.now l.c.run (opens_in l.o l.c.depth) l.t l.v i.1.1.1 (omega (arith, i.1.0)) _ _
          c.read_on-x.ensures c.if-x.true i.1.1.0,
      record { same = c.read_on-x.auto.t ∙ l.auto.t },
    )

pub overflow_cast-i : goal.overflow_cast-i
overflow_cast-i c =
    let l = c.loop-o in
    let a = c.args in
    omega (
      arith,
      words-shallow a.n a.s.now l.c.run (opens_in l.o l.c.depth) l.t l.v l.invariant.1.1.1 (omega (arith, l.invariant.1.0)) _ _
          c.read_on-x.ensures c.if-x.false,
    )

pub overflow_add-i : goal.overflow_add-i
overflow_add-i c =
    let l = c.loop-o in
    let a = c.args in
    omega (
      arith,
      words-shallow a.n a.s.now l.c.run (opens_in l.o l.c.depth) l.t l.v l.invariant.1.1.1 (omega (arith, l.invariant.1.0)) _ _
          c.read_on-x.ensures c.if-x.false,
    )

pub fill_node-requires : goal.fill_node-requires
fill_node-requires c =
    let l = c.loop-o in
    let a = c.args in
    let i = l.invariant in
    words-fit a.n a.s.now l.c.run (opens_in l.o l.c.depth) l.t l.v i.1.1.1 (omega (arith, i.1.0)) _ _ c.read_on-x.ensures
    c.if-x.false c.below.result i.1.0 c.below.ensures

pub loop-o-smaller : goal.loop-o-smaller
loop-o-smaller c =
    let l = c.loop-o in
    let a = c.args in
    words-less a.n a.s.now l.c.run (opens_in l.o l.c.depth) l.t l.v l.invariant.1.1.1 (omega (arith, l.invariant.1.0)) _ _
    c.read_on-x.ensures c.if-x.false

pub loop-o-preserved : goal.loop-o-preserved
loop-o-preserved c =
    let l = c.loop-o in
    let a = c.args in
    let i = l.invariant in (
      i.0,
      (
        i.1.0,
        (
          i.1.1.0,
          words-iteration a.n a.s.now l.c.run (opens_in l.o l.c.depth) l.t l.v i.1.1.1 (omega (arith, i.1.0)) _ _
              c.read_on-x.ensures c.if-x.false c.below.result c.edge_of-e.result _ i.0 c.below.ensures c.edge_of-e.ensures
              c.fill_node.ensures,
        ),
      ),
    )
