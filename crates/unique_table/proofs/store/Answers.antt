-- A number above those given out is placed at once; another is released first.
use Rattle.std.proofs.Common.{◌∙◌}
use Rattle.theory_engine.specs.RecyclingCorrect.{store-next, store-again}
use Rattle.unique_table.proofs.store.Goals as goal

pub returns-then-z-k : goal.returns-then-z-k
returns-then-z-k c =
    let a = c.args in c.place.ensures ∙ store-next a.t.now a.z a.e.first a.e.last a.k a.n.level a.n.first a.n.second a.n.complement c.if-z-k.true

pub returns : goal.returns
returns c =
    let a = c.args in
    c.place-2.ensures ∙ store-again a.t.now a.z a.e.first a.e.last a.k a.n.level a.n.first a.n.second a.n.complement _ c.if-z-k.false c.release-f.ensures
