-- A two-child node gets its record first (`rows-two`).
use Rattle.std.proofs.Common.{sym, ◌∙◌}
use Rattle.elements.specs.Contexts.{same_context}
use Rattle.elements.specs.declared.Context.TheVariants.{AfterTwo}
use Rattle.reader.specs.OpenNodes.{reached_in}
use Rattle.blocks.specs.Load.{rows-two}
use Rattle.blocks.proofs.put_rows.Goals as goal

pub returns-then-eq : goal.returns-then-eq
returns-then-eq c =
    let a = c.args in
    rows-two (reached_in a.r a.o.now) a.t.now a.z a.k c.deep_of-d.result c.last_number-e.result c.deep_of-d.ensures
    c.last_number-e.ensures _ _ (sym (c.if-eq.ensures ∙ same_context a.r.run.context AfterTwo)) c.pair_record.result c.pair_record.ensures _
    c.put_worded.ensures c.put_spine.ensures
