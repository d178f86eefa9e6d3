-- The lane of the bucket changes, then its ends.
use Rattle.std.proofs.Common.{refl, ap, ◌∙◌}
use Rattle.theory_engine.specs.RecordLaws.{put-ends}
use Rattle.theory_engine.specs.Recycling.{remove_in, ends_to}
use Rattle.unique_table.proofs.bucket_remove.Goals as goal

pub returns : goal.returns
unfolding remove_in
returns c =
    let h = c.bucket_at-h.result in
    put-ends c.unlink-e.new.t h c.unlink-e.result.first c.unlink-e.result.last c.get_record.ensures c.with_ends.ensures
    c.put_record.ensures
    ∙ ap (ends_to h) c.unlink-e.ensures
    ∙ rw (c.bucket_ends.ensures.first, c.bucket_ends.ensures.last, c.bucket_at-h.ensures) refl
