-- Both neighbours are got before either is put.
use Rattle.std.proofs.Common.{◌≡◌, ◌∙◌, cond, eqb}
use Rattle.unique_table.proofs.Linking.{if-none, if-some, unlinked}
use Rattle.unique_table.proofs.unlink.Goals.{then-p-eq0, else-p-eq0}
use Rattle.unique_table.proofs.unlink.Goals as goal

pub returns-then-x-eq0 : goal.returns-then-x-eq0
returns-then-x-eq0 g c =
    let a = c.args in
    let first : c.if-p-eq0.result ≡ cond (eqb c.before_of-p.result 0) c.after_of-x.result a.e.first = elim c.if-p-eq0.branch [
      | then-p-eq0 w ↦ w.result-is ∙ if-none _ w.if-p-eq0.true
      | else-p-eq0 w ↦ w.result-is ∙ if-some _ w.if-p-eq0.false
    ] in
    unlinked a.t.now _ a.e.first a.e.last a.k c.get_record-r.ensures c.before_of-p.ensures c.after_of-x.ensures c.get_record.ensures
    c.with_after.ensures c.put_record.ensures c.get_record-2.ensures c.with_before.ensures c.put_record-2.ensures first (if-none _ c.if-x-eq0.true)

pub returns-else-x-eq0 : goal.returns-else-x-eq0
returns-else-x-eq0 g c =
    let a = c.args in
    let first : c.if-p-eq0.result ≡ cond (eqb c.before_of-p.result 0) c.after_of-x.result a.e.first = elim c.if-p-eq0.branch [
      | then-p-eq0 w ↦ w.result-is ∙ if-none _ w.if-p-eq0.true
      | else-p-eq0 w ↦ w.result-is ∙ if-some _ w.if-p-eq0.false
    ] in
    unlinked a.t.now _ a.e.first a.e.last a.k c.get_record-r.ensures c.before_of-p.ensures c.after_of-x.ensures c.get_record.ensures
    c.with_after.ensures c.put_record.ensures c.get_record-2.ensures c.with_before.ensures c.put_record-2.ensures first (if-some _ c.if-x-eq0.false)
