-- The lane of the bucket changes, then its ends.
use Rattle.std.proofs.Common.{refl, ap, ◌∙◌}
use Rattle.theory_engine.specs.RecordLaws.{put-ends}
use Rattle.theory_engine.specs.Recycling.{insert_in, ends_to}
use Rattle.unique_table.proofs.bucket_insert.Goals as goal

pub returns : goal.returns
unfolding insert_in
returns c =
    let h = c.bucket_at-h.result in
    put-ends c.link_last-e.new.t h c.link_last-e.result.first c.link_last-e.result.last c.get_record.ensures c.with_ends.ensures
    c.put_record.ensures
    ∙ ap (ends_to h) c.link_last-e.ensures
    ∙ rw (c.bucket_ends.ensures.first, c.bucket_ends.ensures.last, c.bucket_at-h.ensures) refl
