-- With no option below it a node is one word, as `put_edge` puts it; else the words of its first child come first and those of its second after
-- them, by the rule of `put_node_in`. Assumes nothing.
use Rattle.std.proofs.Common.{refl, arith}
use Rattle.work_table.specs.TableLaws.{table_of}
use Rattle.theory_lists.specs.Powers.{few_words, both_halves}
use Rattle.filler.specs.TruthLaws.{put_one, put-correct}
use Rattle.filler.proofs.+fill_node.Goals as goal

pub returns-then-m-eq0 : goal.returns-then-m-eq0
returns-then-m-eq0 t c =
    let a = c.args in
    put_one a.m (table_of a.t.now a.z) a.i a.e.number a.e.complement a.w a.v.now _ c.if-m-eq0.true c.put_edge.ensures

pub fill_node-requires : goal.fill_node-requires
fill_node-requires t c = omega (arith, c.decreases, c.requires, both_halves c.args.m c.if-m-eq0.false)

pub fill_node-requires-2 : goal.fill_node-requires-2
fill_node-requires-2 t c =
    omega (arith, c.decreases, c.requires, few_words c.args.m 1 (omega (arith, c.requires.0)), both_halves c.args.m c.if-m-eq0.false)

pub returns : goal.returns
returns t c =
    let a = c.args in
    put-correct a.m a.t.now a.z a.i c.get-x.result a.e c.first_edge.result c.second_edge.result a.w _ a.v.now _ _
    c.requires.0 c.if-m-eq0.false c.get-x.ensures c.first_edge.ensures c.second_edge.ensures refl c.fill_node.ensures c.fill_node-2.ensures
