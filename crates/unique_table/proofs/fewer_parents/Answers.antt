-- One field of one record.
use Rattle.std.proofs.Common.{refl}
use Rattle.theory_engine.specs.RecordLaws.{put-one-less}
use Rattle.unique_table.proofs.fewer_parents.Goals as goal

pub returns : goal.returns
returns c = put-one-less c.args.t.now c.args.c c.get_record.ensures refl c.without_parent.ensures c.put_record.ensures
