-- Four fields of one record.
use Rattle.std.proofs.Common.{refl}
use Rattle.theory_engine.specs.RecordLaws.{got-field}
use Rattle.writer_records.specs.Fields.{level_field, first_field, second_field, complement_field}
use Rattle.unique_table.proofs.bucket_at.Goals as goal

pub returns : goal.returns
returns c =
    let a = c.args in
    let e = c.get_record.ensures in rw (
      c.bucket.ensures,
      c.node_of.ensures,
      got-field a.t.now level_field a.k e refl,
      got-field a.t.now first_field a.k e refl,
      got-field a.t.now second_field a.k e refl,
      got-field a.t.now complement_field a.k e refl,
    ) refl
