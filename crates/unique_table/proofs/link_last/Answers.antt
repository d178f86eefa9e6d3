-- The two links of the number that joins, then that of the last before it.
use Rattle.unique_table.proofs.Linking.{if-none, if-some, linked}
use Rattle.unique_table.proofs.link_last.Goals as goal

pub returns-then-l-eq0 : goal.returns-then-l-eq0
returns-then-l-eq0 g c =
    let a = c.args in
    linked a.t.now _ a.e.first a.e.last a.k c.get_record.ensures c.with_after-r.ensures c.with_before.ensures c.put_record.ensures
    c.get_record-2.ensures c.with_after.ensures c.put_record-2.ensures (if-none _ c.if-l-eq0.true)

pub returns-else-l-eq0 : goal.returns-else-l-eq0
returns-else-l-eq0 g c =
    let a = c.args in
    linked a.t.now _ a.e.first a.e.last a.k c.get_record.ensures c.with_after-r.ensures c.with_before.ensures c.put_record.ensures
    c.get_record-2.ensures c.with_after.ensures c.put_record-2.ensures (if-some _ c.if-l-eq0.false)
