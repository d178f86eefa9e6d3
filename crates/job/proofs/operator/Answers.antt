-- A row is met where its name is the field; past the rows there is none.
use Rattle.std.proofs.Common.{◌∙◌, sym, arith}
use Rattle.job.specs.Fields.{rows, row-hit, row-miss, operator-end}
use Rattle.job.proofs.operator.Goals as goal

pub returns-then-eq : goal.returns-then-eq
returns-then-eq c =
    row-hit c.operators-name-items.result.now c.operators-name-items.ensures c.loop-name.name-index _ _ c.args.l.now _ c.as_bytes.ensures.value c.eq.ensures c.loop-name-test.true c.if-eq.true
    ∙ sym c.loop-name.invariant

pub loop-name-preserved : goal.loop-name-preserved
loop-name-preserved c =
    c.loop-name.invariant
    ∙ row-miss c.operators-name-items.result.now c.operators-name-items.ensures c.loop-name.name-index _ _ c.args.l.now _ c.as_bytes.ensures.value c.eq.ensures c.loop-name-test.true
    c.if-eq.false

pub returns : goal.returns
returns c =
    sym (c.loop-name.invariant ∙ operator-end c.args.l.now c.loop-name.name-index
    (omega (arith, rows c.operators-name-items.result.now c.operators-name-items.ensures, c.loop-name-test.false)))
