-- The loop reads the stream to its end (`all-reads`); then every record is cleared.
use Rattle.std.proofs.Common.{ap, arith}
use Rattle.theory_reading.specs.Limits.{word_limit}
use Rattle.theory_reading.specs.Causes as C
use Rattle.reader.specs.ReadOn.{read-begun}
use Rattle.checker.specs.CheckCorrect.{cleared-after, all-reads, check-options, check-table, check-correct}
use Rattle.checker.proofs.check.Goals as goal

pub returns-then-n-gt-OPTION_LIMIT : goal.returns-then-n-gt-OPTION_LIMIT
returns-then-n-gt-OPTION_LIMIT c =
    let a = c.args in
    check-options a.n a.s.now a.t.now _ c.if-n-gt-OPTION_LIMIT.true (ap C.refused c.early.ensures)

pub returns-then-t-lt-TABLE_LIMIT : goal.returns-then-t-lt-TABLE_LIMIT
returns-then-t-lt-TABLE_LIMIT c =
    let a = c.args in
    check-table a.n a.s.now a.t.now _ (omega (arith, c.if-n-gt-OPTION_LIMIT.false)) c.if-t-lt-TABLE_LIMIT.true
    (ap C.refused c.early-then-t-lt-TABLE_LIMIT.ensures)

pub returns : goal.returns
returns c =
    let a = c.args in
    let few = c.if-n-gt-OPTION_LIMIT.false in
    let room = c.if-t-lt-TABLE_LIMIT.false in
    let reached = read-begun a.n a.s.now (omega (arith, few)) word_limit (omega arith) c.first_cursor.result a.t.now
    (omega (arith, room)) c.first_cursor.ensures _ _ c.read_on-r.ensures in
    check-correct a.n a.s.now a.t.now _ _ _ _ (omega (arith, few)) (omega (arith, room))
    (all-reads a.n a.s.now _ _ (omega (arith, few)) reached) c.checked_at.ensures
    (cleared-after _ _ _ _ _ reached a.t.now c.read_on-r.auto.t _ c.clear_all.ensures)
