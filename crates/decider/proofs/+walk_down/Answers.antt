-- The terminal and a word without options are decided at once; else the word goes on in the first child or in the second, with an option less.
use Rattle.std.proofs.Common.{ap, ◌∙◌, arith}
use Rattle.theory_reading.specs.Calls.{verdict_of}
use Rattle.theory_reading.specs.Deciding.{options}
use Rattle.work_table.specs.TableLaws.{table_of}
use Rattle.work_table.specs.WalkLaws.{walk-terminal, walk-over, walk-low, walk-high}
use Rattle.decider.proofs.+walk_down.Goals as goal

pub returns-then-e-eq0 : goal.returns-then-e-eq0
returns-then-e-eq0 t c =
    let a = c.args in
    c.verdict_of.ensures ∙ ap verdict_of (walk-terminal (table_of a.t.now a.z) a.i a.e (options a.m a.w) c.if-e-eq0.true)

pub returns-then-m-eq0 : goal.returns-then-m-eq0
returns-then-m-eq0 t c =
    let a = c.args in
    ap verdict_of (walk-over (table_of a.t.now a.z) a.i a.e a.m a.w c.if-e-eq0.false c.if-m-eq0.true)

pub returns-then-w-half : goal.returns-then-w-half
returns-then-w-half t c =
    let a = c.args in
    c.walk_down.ensures
    ∙ ap verdict_of (walk-low a.t.now a.z a.i a.e c.get-x.result c.if-e-eq0.false c.get-x.ensures a.m a.w c.if-m-eq0.false c.requires.0
    c.first_edge.result c.first_edge.ensures c.if-w-half.true)

pub returns-else-w-half : goal.returns-else-w-half
returns-else-w-half t c =
    let a = c.args in
    c.walk_down-else-w-half.ensures
    ∙ ap verdict_of (walk-high a.t.now a.z a.i a.e c.get-x.result c.if-e-eq0.false c.get-x.ensures a.m a.w c.if-m-eq0.false c.requires.0
    c.second_edge.result c.second_edge.ensures (omega (arith, c.if-w-half.false)))
