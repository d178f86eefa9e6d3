-- From the bucket's first number on.
use Rattle.std.proofs.Common.{refl}
use Rattle.theory_engine.specs.RecordLaws.{got-field}
use Rattle.theory_engine.specs.Recycling.{find_in}
use Rattle.writer_records.specs.Fields.{head_field}
use Rattle.unique_table.proofs.find.Goals as goal

pub returns : goal.returns
unfolding find_in
returns c = rw (
  c.search_from.ensures,
  got-field c.args.t.now head_field c.bucket.result c.get_record.ensures refl,
  c.bucket.ensures,
) refl
