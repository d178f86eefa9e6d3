-- The queue, the bucket, the children: the calls of the definition in turn.
use Rattle.std.proofs.Common.{refl, ap}
use Rattle.theory_engine.specs.RecordLaws.{got-field}
use Rattle.theory_engine.specs.Recycling.{Lane, release_in}
use Rattle.writer_records.specs.Fields.{first_field, second_field}
use Rattle.unique_table.proofs.release.Goals as goal

pub returns : goal.returns
unfolding release_in
returns c =
    let a = c.args in
    let u = c.bucket_remove.new.t in rw (
      c.orphans.ensures,
      got-field u first_field a.k c.get_record-x.ensures refl,
      got-field u second_field a.k c.get_record-x.ensures refl,
      c.bucket_remove.ensures,
      ap (λ (x : Lane). x.table) c.unlink-f.ensures,
      ap (λ (x : Lane). x.first) c.unlink-f.ensures,
      ap (λ (x : Lane). x.last) c.unlink-f.ensures,
    ) refl
