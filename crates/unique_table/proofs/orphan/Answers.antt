-- The number 0, a number with parents, and one that joins.
use Rattle.std.proofs.Common.{refl, sym, ◌∙◌}
use Rattle.theory_engine.specs.RecordLaws.{got-field}
use Rattle.theory_engine.specs.RecyclingCorrect.{orphan-none, orphan-kept, orphan-joins}
use Rattle.writer_records.specs.Fields.{parents_field}
use Rattle.unique_table.proofs.orphan.Goals.{then-c-eq0-via-then-c-eq0, then-c-eq0-via-else-c-eq0+then-get_record-ne0}
use Rattle.unique_table.proofs.orphan.Goals as goal

pub returns-then-c-eq0 : goal.returns-then-c-eq0
returns-then-c-eq0 c =
    let a = c.args in elim c.then-c-eq0.branch [
      | then-c-eq0-via-then-c-eq0 w ↦ orphan-none a.t.now a.e.first a.e.last a.c w.if-c-eq0.true
      | then-c-eq0-via-else-c-eq0+then-get_record-ne0 w ↦
          orphan-kept a.t.now a.e.first a.e.last a.c w.if-c-eq0.false
          (λ e. w.if-get_record-ne0.true (got-field a.t.now parents_field a.c w.get_record.ensures refl ∙ e))
    ]

pub returns : goal.returns
returns c =
    let a = c.args in
    c.link_last.ensures
    ∙ orphan-joins a.t.now a.e.first a.e.last a.c c.if-c-eq0.false
    (sym (got-field a.t.now parents_field a.c c.get_record.ensures refl) ∙ c.if-get_record-ne0.false)
