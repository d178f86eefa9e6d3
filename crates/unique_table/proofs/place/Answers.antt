-- The children, the record, the bucket, the queue: the calls of the definition in turn.
use Rattle.std.proofs.Common.{refl, ap}
use Rattle.theory_engine.specs.Recycling.{Lane, place_in}
use Rattle.unique_table.proofs.place.Goals as goal

pub returns : goal.returns
unfolding place_in
returns c = rw (
  c.link_last.ensures,
  c.bucket_insert.ensures,
  c.note.ensures,
  ap (λ (x : Lane). x.table) c.adopt-g.ensures,
  ap (λ (x : Lane). x.first) c.adopt-g.ensures,
  ap (λ (x : Lane). x.last) c.adopt-g.ensures,
  ap (λ (x : Lane). x.table) c.adopt-f.ensures,
  ap (λ (x : Lane). x.first) c.adopt-f.ensures,
  ap (λ (x : Lane). x.last) c.adopt-f.ensures,
) refl
