-- The number 0, a number with parents, and one that leaves the queue.
use Rattle.std.proofs.Common.{refl, sym, ap, ◌∙◌, List}
use Rattle.node_records.specs.declared.WriterRecord.{WriterRecord}
use Rattle.theory_engine.specs.RecordLaws.{got-field, put-one-more}
use Rattle.theory_engine.specs.Recycling.{lane, unlink_in}
use Rattle.theory_engine.specs.RecyclingCorrect.{adopt-none, adopt-kept, adopt-leaves}
use Rattle.writer_records.specs.Fields.{parents_field, queue_field}
use Rattle.unique_table.proofs.adopt.Goals.{then-c-eq0-via-then-c-eq0, then-c-eq0-via-else-c-eq0+then-x-ne0}
use Rattle.unique_table.proofs.adopt.Goals as goal

pub returns-then-c-eq0 : goal.returns-then-c-eq0
returns-then-c-eq0 c =
    let a = c.args in
    let m = put-one-more a.t.now a.c c.get_record-x.ensures refl c.with_parent.ensures c.put_record.ensures in
    ap (λ (u : List WriterRecord). lane u a.e.first a.e.last) m ∙ elim c.then-c-eq0.branch [
      | then-c-eq0-via-then-c-eq0 w ↦ adopt-none a.t.now a.e.first a.e.last a.c w.if-c-eq0.true
      | then-c-eq0-via-else-c-eq0+then-x-ne0 w ↦
          adopt-kept a.t.now a.e.first a.e.last a.c w.if-c-eq0.false
          (λ e. w.if-x-ne0.true (got-field a.t.now parents_field a.c c.get_record-x.ensures refl ∙ e))
    ]

pub returns : goal.returns
returns c =
    let a = c.args in
    let m = put-one-more a.t.now a.c c.get_record-x.ensures refl c.with_parent.ensures c.put_record.ensures in
    c.unlink.ensures
    ∙ ap (λ (u : List WriterRecord). unlink_in u queue_field a.e.first a.e.last a.c) m
    ∙ adopt-leaves a.t.now a.e.first a.e.last a.c c.if-c-eq0.false
    (sym (got-field a.t.now parents_field a.c c.get_record-x.ensures refl) ∙ c.if-x-ne0.false)
