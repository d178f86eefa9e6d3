-- The number k has no node, and all above f were looked at.
use Rattle.std.proofs.Common.{◌≡◌, sym, ap, ◌∙◌, ◌+◌, ◌-◌, min, ℕ, arith}
use Rattle.node_records.specs.declared.NodeRecord.{NodeRecord}
use Rattle.node_records.specs.Records.{no_record}
use Rattle.record_tables.specs.Entries.{entry_at}
use Rattle.blocks.specs.SpineLaws.{highest-low, highest-next}
use Rattle.blocks.proofs.highest.Goals as goal

pub loop-k-preserved : goal.loop-k-preserved
loop-k-preserved c =
    let a = c.args in
    let l = c.loop-k in
    let here : l.k - 1 + 1 ≡ l.k = omega (arith, c.loop-k-test.true) in (
      omega (arith, c.loop-k-test.true, l.invariant.0),
      highest-next a.t.now a.f l.k c.loop-k-test.true
          (ap (λ (k : ℕ). (entry_at no_record a.t.now k).level) (sym here) ∙ sym (ap (λ (x : NodeRecord). x.level) c.get_record.ensures)
          ∙ c.if-get_record-ne0.false) ∙ l.invariant.1,
    )

pub returns : goal.returns
returns c =
    let a = c.args in
    let l = c.loop-k in
    let here : min a.z a.f ≡ l.k = omega (arith, l.invariant.0, c.loop-k-test.false, l.auto.k) in
    c.min.ensures ∙ here ∙ highest-low a.t.now a.f l.k c.loop-k-test.false ∙ l.invariant.1
