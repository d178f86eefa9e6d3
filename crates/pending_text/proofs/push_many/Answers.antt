-- One byte more each time.
use Rattle.std.proofs.Common.{◌≡◌, [], ◌∷◌, ap, ◌∙◌, refl, ℕ, replicate, arith}
use Rattle.std.proofs.lemmas.List.{replicate_more}
use Rattle.theory_engine.specs.Pending.{push_all}
use Rattle.theory_engine.specs.PendingCorrect.{many-none, push-then}
use Rattle.pending_text.proofs.push_many.Goals as goal

pub loop-init : goal.loop-init
loop-init c = let a = c.args in many-none a.w.now a.m a.b 0 refl

pub loop-preserved : goal.loop-preserved
loop-preserved c =
    let a = c.args in
    push-then a.w.now a.m (replicate c.loop.counter a.b) (a.b ∷ []) c.loop.invariant c.push-m.ensures
    ∙ ap (push_all a.w.now a.m) (replicate_more c.loop.counter a.b)

pub returns : goal.returns
returns c =
    let a = c.args in
    let e : c.loop.counter ≡ a.j = omega (arith, c.loop-test.false, c.loop.auto.counter-end) in
    c.loop.invariant ∙ ap (λ (j : ℕ). push_all a.w.now a.m (replicate j a.b)) e
