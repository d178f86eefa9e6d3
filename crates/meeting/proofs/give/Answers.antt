-- The node is stored, and goes out with its number.
use Rattle.std.proofs.Common.{◌≡◌, ap, cond, nat_lt, arith, ◌∙◌}
use Rattle.std.proofs.lemmas.Grind.{common_steps}
use Rattle.theory_engine.specs.Recycling.{store_in}
use Rattle.theory_engine.specs.EngineCorrect.{give-number}
use Rattle.node_records.specs.declared.Node.{Node}
use Rattle.meeting.specs.Abstraction.{half_of, progress_of}
use Rattle.meeting.proofs.give.Goals as goal

pub returns-clause-walked : goal.returns-clause-walked
returns-clause-walked c =
    let a = c.args in
    let p = a.progress in
    let g = a.g in
    let placed = c.store-e.ensures ∙ ap (λ (n : Node). store_in a.to.now.table.now p.given p.first p.last a.k n.level n.first n.second n.complement) c.node.ensures in
    let most : c.max.result ≡ cond (nat_lt p.given a.k) a.k p.given = grind (arith, common_steps) in
    rw (c.sent_as.ensures, c.numbered-h.ensures)
    (give-number a.k a.i g.waiting g.tilde (half_of g.first) (half_of a.b) a.to.now.table.now a.to.now.out.now a.to.now.waiting.now (progress_of p)
    _ c.stamp_of.result _ _ c.requires placed c.stamp_of.ensures most c.send_node-x.ensures)
