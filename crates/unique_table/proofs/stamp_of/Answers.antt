-- A field of one record.
use Rattle.std.proofs.Common.{refl}
use Rattle.theory_engine.specs.RecordLaws.{got-field}
use Rattle.writer_records.specs.Fields.{stamp_field}
use Rattle.unique_table.proofs.stamp_of.Goals as goal

pub returns : goal.returns
returns c = got-field c.args.t.now stamp_field c.args.k c.get_record.ensures refl
