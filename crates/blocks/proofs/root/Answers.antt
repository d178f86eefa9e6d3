-- What was read can not have one number (`root-cannot`), no node is open (`root-bare`), there is no room (`root-full`), or the open nodes get theirs
-- (`root-done`).
use Rattle.std.proofs.Common.{refl, ◌∙◌, arith}
use Rattle.reader.specs.OpenNodes.{reached_in}
use Rattle.blocks.specs.Load.{larger-max, root-cannot, root-bare, root-full, root-done}
use Rattle.blocks.proofs.root.Goals as goal

pub returns-then-not-can_root : goal.returns-then-not-can_root
returns-then-not-can_root c =
    let a = c.args in
    root-cannot (reached_in a.r a.o.now) a.t.now _ c.if-not-can_root.ensures refl

pub returns-then-d-eq0 : goal.returns-then-d-eq0
returns-then-d-eq0 c =
    let a = c.args in
    root-bare (reached_in a.r a.o.now) a.t.now c.row_count-d.result c.row_count-d.ensures c.if-not-can_root.ensures
    c.if-d-eq0.true _ c.last_number.ensures

pub returns-then-h-d-gt-TABLE_LIMIT : goal.returns-then-h-d-gt-TABLE_LIMIT
returns-then-h-d-gt-TABLE_LIMIT c =
    let a = c.args in
    root-full (reached_in a.r a.o.now) a.t.now c.highest-h.result c.row_count-d.result c.highest-h.ensures c.row_count-d.ensures
    c.if-not-can_root.ensures c.if-d-eq0.false _ c.if-h-d-gt-TABLE_LIMIT.true refl

pub returns : goal.returns
returns c =
    let a = c.args in
    root-done (reached_in a.r a.o.now) a.t.now c.highest-h.result c.row_count-d.result c.highest-h.ensures c.row_count-d.ensures
    c.if-not-can_root.ensures c.if-d-eq0.false (omega (arith, c.if-h-d-gt-TABLE_LIMIT.false)) c.max-size.result (c.max-size.ensures ∙ larger-max _ _) _ _
    c.put_rows-number.ensures
