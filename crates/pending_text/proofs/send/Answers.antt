-- The loop ends where the text does, or the output: each byte that is read has gone out. A byte goes out only where `at` is no place past the end.
use Rattle.std.proofs.Common.{◌≡◌, ◌+◌, ◌-◌, ◌<◌, ℕ, length, get_or, set, arith, ap, ◌∙◌}
use Rattle.theory_engine.specs.PendingCorrect.{send-none, send-more, send-done}
use Rattle.pending_text.proofs.send.Goals as goal

pub loop-j-init : goal.loop-j-init
loop-j-init c = let a = c.args in send-none a.out.now a.w.now a.at

pub loop-j-preserved : goal.loop-j-preserved
loop-j-preserved c =
    let a = c.args in
    let h : c.loop-j.j < length a.w.now = omega (arith, c.loop-j-test.true, c.min-c.ensures, c.min-e.ensures) in
    let p : c.min-from.result + c.loop-j.j ≡ a.at + c.loop-j.j = omega (arith, c.loop-j-test.true, c.min-from.ensures, c.min-e.ensures) in
    ap (λ (i : ℕ). set c.loop-j.out i (get_or a.w.now c.loop-j.j 0)) p
    ∙ send-more a.out.now a.w.now a.at c.loop-j.j h c.loop-j.invariant

pub returns : goal.returns
returns c =
    let a = c.args in
    send-done a.out.now a.w.now a.at a.m {room = length a.out.now - c.min-from.result} {e = c.min-e.result} c.loop-j.j c.min-c.ensures
    (omega (arith, c.min-from.ensures)) c.min-e.ensures c.loop-j.auto.j-end c.loop-j-test.false c.loop-j.invariant
