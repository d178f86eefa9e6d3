-- The loop reads the stream to its end, and what is loaded is made of what it reaches (`load-correct`).
use Rattle.std.proofs.Common.{arith}
use Rattle.blocks.specs.Load.{load-options, load-table, load-correct}
use Rattle.blocks.proofs.load.Goals as goal

pub returns-then-n-gt-OPTION_LIMIT : goal.returns-then-n-gt-OPTION_LIMIT
returns-then-n-gt-OPTION_LIMIT c =
    let a = c.args in
    load-options a.n a.s.now a.t.now _ c.if-n-gt-OPTION_LIMIT.true (c.not_loaded.ensures a.t.now)

pub returns-then-t-lt-TABLE_LIMIT : goal.returns-then-t-lt-TABLE_LIMIT
returns-then-t-lt-TABLE_LIMIT c =
    let a = c.args in
    load-table a.n a.s.now a.t.now _ (omega (arith, c.if-n-gt-OPTION_LIMIT.false)) c.if-t-lt-TABLE_LIMIT.true
    (c.not_loaded-then-t-lt-TABLE_LIMIT.ensures a.t.now)

pub returns : goal.returns
returns c =
    let a = c.args in
    load-correct a.n a.s.now a.t.now (omega (arith, c.if-n-gt-OPTION_LIMIT.false)) (omega (arith, c.if-t-lt-TABLE_LIMIT.false))
    c.first_cursor.result c.first_cursor.ensures _ _ c.read_on-r.ensures _ c.loaded_at.ensures
