-- Two inputs, one after the other.
use Rattle.std.proofs.Common.{refl, ◌∙◌}
use Rattle.operation_cache.specs.KeyCorrect.{slot-pair}
use Rattle.operation_cache.proofs.slot.Goals as goal

pub returns : goal.returns
returns c =
    let k = c.args.k in
    (rw (c.mixed.ensures, c.mixed-v.ensures) refl) ∙ slot-pair k
