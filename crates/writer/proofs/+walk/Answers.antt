-- A word, a block of like bytes, a second half that repeats the first, or two halves that meet.
use mathlib.Core.Bool.{beq}
use Rattle.theory_engine.specs.Engine.{kept, number_half}
use Rattle.std.proofs.Common.{refl, Bool, true, false, not, ◌≡◌, suc, ◌-◌, arith, sym, ap, ◌∙◌}
use Rattle.theory_lists.specs.Lists.{differ}
use Rattle.theory_lists.specs.Powers.{shifted}
use Rattle.theory_engine.specs.EngineCorrect.{walk-word, walk_no, walk-yes, walk-full, walk-on, walk-repeat}
use Rattle.meeting.specs.Abstraction.{half_of, progress_of}
use Rattle.writer.proofs.+walk.Goals as goal

differs : (a b : Bool) → not (beq a b) ≡ differ a b
differs true true = refl
differs true false = refl
differs false true = refl
differs false false = refl

pub returns-then-part-eq0-clause-walked : goal.returns-then-part-eq0-clause-walked
returns-then-part-eq0-clause-walked t c =
    let a = c.args in
    rw (c.constant-half.ensures, c.truth.ensures)
    (walk-word a.v.now a.size a.part.options a.part.level a.part.at a.m a.to.now.table.now a.to.now.out.now a.to.now.waiting.now (progress_of a.progress) c.if-part-eq0.true)

pub returns-then-all_bytes-clause-walked : goal.returns-then-all_bytes-clause-walked
returns-then-all_bytes-clause-walked t c =
    let a = c.args in
    let e : a.part.options ≡ suc (a.part.options - 1) = omega (arith, c.if-part-eq0.false) in
    rw c.constant-half-then-all_bytes.ensures
    (walk_no a.v.now a.size (a.part.options - 1) a.part.level a.part.at a.m a.to.now.table.now a.to.now.out.now a.to.now.waiting.now (progress_of a.progress) a.part.options e (sym c.all_bytes.ensures ∙ c.if-all_bytes.true))

pub returns-then-all_bytes-2-clause-walked : goal.returns-then-all_bytes-2-clause-walked
returns-then-all_bytes-2-clause-walked t c =
    let a = c.args in
    let e : a.part.options ≡ suc (a.part.options - 1) = omega (arith, c.if-part-eq0.false) in
    rw c.constant-half-then-all_bytes-2.ensures
    (walk-yes a.v.now a.size (a.part.options - 1) a.part.level a.part.at a.m a.to.now.table.now a.to.now.out.now a.to.now.waiting.now (progress_of a.progress) a.part.options e (sym c.all_bytes.ensures ∙ c.if-all_bytes.false) (sym c.all_bytes-2.ensures ∙ c.if-all_bytes-2.true))

pub returns-then-a-clause-walked : goal.returns-then-a-clause-walked
returns-then-a-clause-walked t c =
    let a = c.args in
    let e : a.part.options ≡ suc (a.part.options - 1) = omega (arith, c.if-part-eq0.false) in
    walk-full a.v.now a.size (a.part.options - 1) a.part.level a.part.at a.m a.to.now.table.now a.to.now.out.now a.to.now.waiting.now (progress_of a.progress) a.part.options e
    (sym c.all_bytes.ensures ∙ c.if-all_bytes.false) (sym c.all_bytes-2.ensures ∙ c.if-all_bytes-2.false) _ _ c.push-p.ensures
    c.walk-a.ensures.walked (progress_of c.walk-a.result.progress) refl c.if-a.true

pub returns-then-is_again-clause-walked : goal.returns-then-is_again-clause-walked
returns-then-is_again-clause-walked t c =
    let a = c.args in
    let e : a.part.options ≡ suc (a.part.options - 1) = omega (arith, c.if-part-eq0.false) in
    let h = c.walk-a.result.half in
    c.second.ensures.walked
    ∙ walk-repeat a.v.now a.size (a.part.options - 1) a.part.level a.part.at a.m a.to.now.table.now a.to.now.out.now a.to.now.waiting.now (progress_of a.progress) a.part.options e
    (sym c.all_bytes.ensures ∙ c.if-all_bytes.false) (sym c.all_bytes-2.ensures ∙ c.if-all_bytes-2.false) _ _ c.push-p.ensures
    c.walk-a.ensures.walked
    (half_of c.walk-a.result.half) (progress_of c.walk-a.result.progress) _ _ _ _ _ refl refl
    (shifted (a.part.options - 1) (omega (arith, c.requires))) c.if-a.false
    (differs c.walk-a.result.half.complement c.truth-s.result ∙ ap (differ c.walk-a.result.half.complement) c.truth-s.ensures) c.wait-q.ensures c.push_tilde-waiting.ensures
    (sym c.is_again.ensures ∙ c.if-is_again.true)
    (ap (λ (s : Bool). kept (number_half h.number h.stamp h.skipped s false) c.walk-a.new.to.table.now c.walk-a.new.to.out.now c.push_tilde-waiting.new.w
    (progress_of c.walk-a.result.progress)) c.truth-s.ensures)

pub returns-clause-walked : goal.returns-clause-walked
returns-clause-walked t c =
    let a = c.args in
    let e : a.part.options ≡ suc (a.part.options - 1) = omega (arith, c.if-part-eq0.false) in
    c.second-2.ensures.walked
    ∙ walk-on a.v.now a.size (a.part.options - 1) a.part.level a.part.at a.m a.to.now.table.now a.to.now.out.now a.to.now.waiting.now (progress_of a.progress) a.part.options e
    (sym c.all_bytes.ensures ∙ c.if-all_bytes.false) (sym c.all_bytes-2.ensures ∙ c.if-all_bytes-2.false) _ _ c.push-p.ensures
    c.walk-a.ensures.walked
    (half_of c.walk-a.result.half) (progress_of c.walk-a.result.progress) _ _ _ _ _ refl refl
    (shifted (a.part.options - 1) (omega (arith, c.requires))) c.if-a.false
    (differs c.walk-a.result.half.complement c.truth-s.result ∙ ap (differ c.walk-a.result.half.complement) c.truth-s.ensures) c.wait-q.ensures c.push_tilde-waiting.ensures
    (sym c.is_again.ensures ∙ c.if-is_again.false) c.walk-b.ensures.walked
