use Rattle.std.proofs.Common.{arith, sym, ◌∙◌}
use Rattle.job.specs.Cuts.{cut-here, cut-next, cut-end}
use Rattle.job.proofs.place_of.Goals as goal

pub returns-then-s-j : goal.returns-then-s-j
returns-then-s-j c =
    (sym (c.loop-j.invariant ∙ cut-here c.args.c c.args.s.now c.loop-j.j c.loop-j-test.true c.if-s-j.true), c.loop-j-test.true)

pub loop-j-preserved : goal.loop-j-preserved
loop-j-preserved c = c.loop-j.invariant ∙ cut-next c.args.c c.args.s.now c.loop-j.j c.loop-j-test.true c.if-s-j.false

pub returns : goal.returns
returns c = omega (arith, c.loop-j.invariant, cut-end c.args.c c.args.s.now c.loop-j.j c.loop-j-test.false, c.loop-j-test.false)
