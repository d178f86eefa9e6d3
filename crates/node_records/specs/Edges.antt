-- Nodes of the table as code goes down them. Assumes nothing.
use Rattle.std.specs.Prelude.{cond, not, ◌||◌, ℕ, ltb, eqb}
use Rattle.theory_lists.specs.Lists.{differ}
use Rattle.node_records.specs.declared.Edge.{Edge}
use Rattle.node_records.specs.declared.NodeRecord.{NodeRecord}

-- the children of the node of level i that e stands for; x: the record of its number. Inside brackets `(A)` both are e again
abbrev pub first_edge : NodeRecord → ℕ → Edge → Edge
first_edge x i e = cond (eqb e.number 0 || ltb i x.level) e (record { number = x.first; complement = e.complement })

abbrev pub second_edge : NodeRecord → ℕ → Edge → Edge
second_edge x i e = cond (eqb e.number 0 || ltb i x.level) e (record { number = x.second; complement = differ (not (eqb x.complement 0)) e.complement })
