-- The calls in turn are the steps of `store_at`: `get` reads the old record and those of the children, `put_record` puts the new one, and `count` goes over
-- the children of both.
use Rattle.std.proofs.Common.{ap₂, ◌∙◌}
use Rattle.node_records.specs.Words.{with_words}
use Rattle.work_table.specs.Table.{store-correct}
use Rattle.work_table.proofs.store.Goals as goal

pub returns : goal.returns
returns c =
    let a = c.args in
    store-correct a.t.now _ _ _ _ _ a.z a.k a.x c.get-old.result c.with_words.result c.get-old.ensures
    (c.with_words.ensures ∙ ap₂ (with_words a.x) c.get.ensures c.get-2.ensures)
    c.put_record.ensures c.count.ensures c.count-2.ensures c.count-3.ensures c.count-4.ensures
