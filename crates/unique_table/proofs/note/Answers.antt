-- One record, by value.
use Rattle.theory_engine.specs.RecordLaws.{put-node}
use Rattle.unique_table.proofs.note.Goals as goal

pub returns : goal.returns
returns c =
    let a = c.args in
    put-node a.t.now a.k a.n.level a.n.first a.n.second a.n.complement c.get_record.ensures c.with_node.ensures c.put_record.ensures
