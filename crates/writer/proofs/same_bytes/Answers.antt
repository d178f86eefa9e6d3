-- The first j bytes are b, so the others tell.
use Rattle.std.proofs.Common.{sym, ◌∙◌}
use Rattle.theory_engine.specs.PendingCorrect.{same_start, same_step, same_stop, same_end}
use Rattle.writer.proofs.same_bytes.Goals as goal

pub loop-j-init : goal.loop-j-init
loop-j-init c = same_start c.args.v.now c.args.b c.args.p c.args.c

pub returns-then-byte_at-b : goal.returns-then-byte_at-b
returns-then-byte_at-b c =
    let a = c.args in
    same_stop a.v.now a.b a.p a.c c.loop-j.j c.loop-j.invariant c.loop-j-test.true (λ e. c.if-byte_at-b.true (c.byte_at.ensures ∙ e))

pub loop-j-preserved : goal.loop-j-preserved
loop-j-preserved c =
    let a = c.args in
    same_step a.v.now a.b a.p a.c c.loop-j.j c.loop-j.invariant c.loop-j-test.true (sym c.byte_at.ensures ∙ c.if-byte_at-b.false)

pub returns : goal.returns
returns c = same_end c.args.v.now c.args.b c.args.p c.args.c c.loop-j.j c.loop-j.invariant c.loop-j-test.false
