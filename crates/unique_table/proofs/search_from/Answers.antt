-- From k on, one number after the other of its bucket, until one has the node or the count runs out.
use Rattle.std.proofs.Common.{refl, sym, ap, ◌∙◌, ◌≡◌, ℕ, ◌-◌, ◌+◌, None, arith}
use Rattle.theory_engine.specs.RecordLaws.{got-field, node-fits}
use Rattle.theory_engine.specs.RecyclingCorrect.{search-none, search-end, search-hit, search-on}
use Rattle.theory_engine.specs.Recycling.{search_in}
use Rattle.writer_numbers.specs.Numbers.{number_of}
use Rattle.writer_records.specs.Fields.{bucket_field}
use Rattle.unique_table.proofs.Linking.{if-some}
use Rattle.unique_table.proofs.search_from.Goals as goal

pub loop-init : goal.loop-init
loop-init c =
    let a = c.args in
    let e : a.m - 0 ≡ a.m = omega arith in
    ap (λ (m : ℕ). search_in a.t.now m a.k a.n.level a.n.first a.n.second a.n.complement) e

pub returns-then-k-eq0 : goal.returns-then-k-eq0
returns-then-k-eq0 c =
    let a = c.args in
    ap number_of (search-end a.t.now (a.m - c.loop.counter) c.loop.k a.n.level a.n.first a.n.second a.n.complement c.if-k-eq0.true ∙ c.loop.invariant)

pub returns-then-is_node : goal.returns-then-is_node
returns-then-is_node c =
    let a = c.args in
    if-some None c.if-k-eq0.false
    ∙ ap number_of (search-hit a.t.now (a.m - c.loop.counter) c.loop.k a.n.level a.n.first a.n.second a.n.complement
    (λ e. omega (arith, e, c.loop-test.true)) c.if-k-eq0.false
    (sym (node-fits a.t.now c.loop.k a.n.level a.n.first a.n.second a.n.complement c.get_record-x.ensures c.is_node.ensures) ∙ c.if-is_node.true)
    ∙ c.loop.invariant)

pub loop-preserved : goal.loop-preserved
loop-preserved c =
    let a = c.args in
    let n = c.args.n in
    let e : a.m - (c.loop.counter + 1) ≡ a.m - c.loop.counter - 1 = omega arith in
    ap (λ (m : ℕ). search_in a.t.now m c.get_record-x.result.next n.level n.first n.second n.complement) e
    ∙ ap (λ (k : ℕ). search_in a.t.now (a.m - c.loop.counter - 1) k n.level n.first n.second n.complement)
    (got-field a.t.now bucket_field c.loop.k c.get_record-x.ensures refl)
    ∙ search-on a.t.now (a.m - c.loop.counter) c.loop.k n.level n.first n.second n.complement
    (λ e. omega (arith, e, c.loop-test.true)) c.if-k-eq0.false
    (sym (node-fits a.t.now c.loop.k n.level n.first n.second n.complement c.get_record-x.ensures c.is_node.ensures) ∙ c.if-is_node.false)
    ∙ c.loop.invariant

pub returns : goal.returns
returns c =
    let a = c.args in
    ap number_of (search-none a.t.now (a.m - c.loop.counter) c.loop.k a.n.level a.n.first a.n.second a.n.complement (omega (arith, c.loop-test.false))
    ∙ c.loop.invariant)
