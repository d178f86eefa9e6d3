-- The first j pairs of bytes are alike, so the others tell.
use Rattle.std.proofs.Common.{ℕ, ◌+◌, cond, eqb, sym, ap₂, ◌∙◌}
use Rattle.theory_engine.specs.PendingCorrect.{alike-start, alike-step, alike-stop, alike_end}
use Rattle.writer.proofs.alike_bytes.Goals as goal

pub loop-j-init : goal.loop-j-init
loop-j-init c = alike-start c.args.v.now c.args.u c.args.p c.args.q c.args.c

pub returns-then-not-alike : goal.returns-then-not-alike
returns-then-not-alike c =
    let a = c.args in
    let pair = c.alike.ensures ∙ ap₂ (λ (x y : ℕ). cond a.u (eqb (y + x) 255) (eqb y x)) c.byte_at.ensures c.byte_at-in-loop-j.ensures in
    alike-stop a.v.now a.u a.p a.q a.c c.loop-j.j c.loop-j.invariant c.loop-j-test.true (sym pair ∙ c.if-not-alike.true)

pub loop-j-preserved : goal.loop-j-preserved
loop-j-preserved c =
    let a = c.args in
    let pair = c.alike.ensures ∙ ap₂ (λ (x y : ℕ). cond a.u (eqb (y + x) 255) (eqb y x)) c.byte_at.ensures c.byte_at-in-loop-j.ensures in
    alike-step a.v.now a.u a.p a.q a.c c.loop-j.j c.loop-j.invariant c.loop-j-test.true (sym pair ∙ c.if-not-alike.false)

pub returns : goal.returns
returns c = alike_end c.args.v.now c.args.u c.args.p c.args.q c.args.c c.loop-j.j c.loop-j.invariant c.loop-j-test.false
