-- The row gets the entry.
use Rattle.operation_cache.proofs.note.Goals as goal
use Rattle.std.proofs.Common.{refl, ◌∙◌, Some}
use Rattle.std.proofs.lemmas.List.{map-set}
use Rattle.operation_cache.specs.Abstraction.{row_of}

pub returns-then-p-c : goal.returns-then-p-c
returns-then-p-c c =
    let a = c.args in
    map-set row_of a.c.now a.p (Some _) ∙ (rw (c.if-r.false, c.if-pass.false, c.if-h.false) refl)
