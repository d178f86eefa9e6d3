-- Two fields of one record.
use Rattle.std.proofs.Common.{refl}
use Rattle.theory_engine.specs.RecordLaws.{got-field}
use Rattle.writer_records.specs.Fields.{head_field, tail_field}
use Rattle.unique_table.proofs.bucket_ends.Goals as goal

pub returns-clause-first : goal.returns-clause-first
returns-clause-first c = got-field c.args.t.now head_field c.args.h c.get_record-x.ensures refl

pub returns-clause-last : goal.returns-clause-last
returns-clause-last c = got-field c.args.t.now tail_field c.args.h c.get_record-x.ensures refl
