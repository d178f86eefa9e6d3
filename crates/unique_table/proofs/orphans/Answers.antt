-- Both children lose a parent; the second joins too if it is another.
use Rattle.std.proofs.Common.{ap, ◌∙◌, List}
use Rattle.node_records.specs.declared.WriterRecord.{WriterRecord}
use Rattle.theory_engine.specs.Recycling.{orphan_in, fewer_in}
use Rattle.theory_engine.specs.RecyclingCorrect.{orphans-same, orphans-other}
use Rattle.unique_table.proofs.orphans.Goals as goal

pub returns-then-x-y : goal.returns-then-x-y
returns-then-x-y c =
    let a = c.args in
    let o = c.orphan-f.ensures
    ∙ ap (λ (u : List WriterRecord). orphan_in u a.e.first a.e.last a.x)
    (c.fewer_parents-2.ensures ∙ ap (λ (u : List WriterRecord). fewer_in u a.y) c.fewer_parents.ensures) in
    orphans-same a.t.now a.e.first a.e.last a.x a.y _ o c.if-x-y.true

pub returns-else-x-y : goal.returns-else-x-y
returns-else-x-y c =
    let a = c.args in
    let o = c.orphan-f.ensures
    ∙ ap (λ (u : List WriterRecord). orphan_in u a.e.first a.e.last a.x)
    (c.fewer_parents-2.ensures ∙ ap (λ (u : List WriterRecord). fewer_in u a.y) c.fewer_parents.ensures) in
    c.orphan.ensures ∙ orphans-other a.t.now a.e.first a.e.last a.x a.y _ o c.if-x-y.false
