use Rattle.report.specs.Printing.{text-none, text-more, text-end}
use Rattle.report.proofs.put.Goals as goal

pub loop-b-init : goal.loop-b-init
loop-b-init c = text-none c.args.w.now c.args.m c.args.s.now

pub loop-b-preserved : goal.loop-b-preserved
loop-b-preserved c = text-more c.args.w.now c.args.m c.args.s.now c.loop-b.b-index c.loop-b-test.true c.loop-b.invariant c.push-x.ensures

pub returns : goal.returns
returns c = text-end c.args.w.now c.args.m c.args.s.now c.loop-b.b-index c.loop-b-test.false c.loop-b.invariant
