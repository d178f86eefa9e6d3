-- Each test decides one of the definition.
use Rattle.std.proofs.Common.{sym, ap, ◌∙◌}
use Rattle.theory_engine.specs.RecordLaws.{got-field}
use Rattle.theory_engine.specs.RecyclingCorrect.{free-first, free-second, free-third}
use Rattle.writer_numbers.specs.Numbers.{number_of}
use Rattle.writer_records.specs.Fields.{queue_field}
use Rattle.unique_table.proofs.free.Goals as goal

pub returns-then-is_free : goal.returns-then-is_free
returns-then-is_free c =
    c.number.ensures ∙ ap number_of (free-first c.args.t.now c.args.x c.args.a c.args.b (sym c.is_free.ensures ∙ c.if-is_free.true))

pub returns-then-is_free-2 : goal.returns-then-is_free-2
returns-then-is_free-2 c =
    let a = c.args in
    c.number-then-is_free-2.ensures
    ∙ ap number_of (free-second a.t.now a.x a.a a.b c.after_of-y.result (sym c.is_free.ensures ∙ c.if-is_free.false)
    (got-field a.t.now queue_field a.x c.get_record.ensures c.after_of-y.ensures) (sym c.is_free-2.ensures ∙ c.if-is_free-2.true))

pub returns : goal.returns
returns c =
    let a = c.args in
    c.number-2.ensures
    ∙ ap number_of (got-field a.t.now queue_field c.after_of-y.result c.get_record-2.ensures c.after_of.ensures
    ∙ free-third a.t.now a.x a.a a.b c.after_of-y.result (sym c.is_free.ensures ∙ c.if-is_free.false)
    (got-field a.t.now queue_field a.x c.get_record.ensures c.after_of-y.ensures) (sym c.is_free-2.ensures ∙ c.if-is_free-2.false))
