-- The first child has ended (`first_ended`).
use Rattle.std.proofs.lemmas.Bool.{not-false}
use Rattle.blocks.specs.Spine.{first_ended}
use Rattle.blocks.proofs.first_stays.Goals as goal

pub returns-else-not-x : goal.returns-else-not-x
returns-else-not-x c =
    let a = c.args in
    first_ended a.t.now a.z a.x c.stays.result (not-false _ c.if-not-x.false) c.stays.ensures
