-- Another key, the constant, a number that was given out again, or one that was not.
use Rattle.operation_cache.specs.KeyCorrect.{row-here, not-is, tells-other, tells-constant, tells-old, tells-number}
use Rattle.operation_cache.proofs.recall.Goals as goal

pub returns-then-ne : goal.returns-then-ne
returns-then-ne c =
    let a = c.args in
    let h = c.in_ok-get.ensures.lookup in
    rw (row-here a.c.now a.p c.in_ok-get.field-0.now c.in_ok-e.e h.3.0 h.3.1 c.in_ok-e.was)
    (tells-other c.in_ok-e.e a.k a.i a.t.now (not-is _ _ c.if-ne.ensures))

pub returns-then-e-eq0 : goal.returns-then-e-eq0
returns-then-e-eq0 c =
    let a = c.args in
    let h = c.in_ok-get.ensures.lookup in
    rw (row-here a.c.now a.p c.in_ok-get.field-0.now c.in_ok-e.e h.3.0 h.3.1 c.in_ok-e.was)
    (tells-constant c.in_ok-e.e a.k a.i a.t.now (not-is _ _ c.if-ne.ensures) c.constant.result c.constant.ensures c.if-e-eq0.true)

pub returns-then-stamp_of-e : goal.returns-then-stamp_of-e
returns-then-stamp_of-e c =
    let a = c.args in
    let h = c.in_ok-get.ensures.lookup in
    rw (row-here a.c.now a.p c.in_ok-get.field-0.now c.in_ok-e.e h.3.0 h.3.1 c.in_ok-e.was)
    (tells-old c.in_ok-e.e a.k a.i a.t.now (not-is _ _ c.if-ne.ensures) c.stamp_of.result c.if-e-eq0.false c.stamp_of.ensures
    c.if-stamp_of-e.true)

pub returns : goal.returns
returns c =
    let a = c.args in
    let h = c.in_ok-get.ensures.lookup in
    rw (row-here a.c.now a.p c.in_ok-get.field-0.now c.in_ok-e.e h.3.0 h.3.1 c.in_ok-e.was)
    (tells-number c.in_ok-e.e a.k a.i a.t.now (not-is _ _ c.if-ne.ensures) c.numbered.result c.stamp_of.result c.level_of.result
    (rw c.saturating_sub-skipped.ensures at c.numbered.ensures) c.if-e-eq0.false c.stamp_of.ensures c.if-stamp_of-e.false c.level_of.ensures)
