-- It settles in its text, or goes on from its edge. Assumes nothing.
use Rattle.std.proofs.Common.{not, ap, ◌∙◌}
use Rattle.theory_applying.specs.Applying.{first_source}
use Rattle.theory_combining.specs.BlockReaders.{deep_of, source_of, ended_of, next_reader}
use Rattle.theory_combining.specs.EdgeCorrect.{first-inside, first_edge_lem}
use Rattle.edges.specs.Abstraction.{edge_in}
use Rattle.operands.specs.Abstraction.{input_on}
use Rattle.operands.proofs.first_half.Goals as goal

pub returns-then-is_none : goal.returns-then-is_none
returns-then-is_none c =
    let a = c.args in
    λ n o s. c.settle.ensures n o s a.t.now
    ∙ first-inside deep_of source_of ended_of (next_reader n) a.i (input_on a.f o s a.t.now) (ap not c.if-is_none.ensures)

pub returns : goal.returns
returns c =
    let a = c.args in
    λ n o s. first_edge_lem deep_of source_of ended_of (next_reader n) a.i (input_on a.f o s a.t.now) (edge_in c.first_edge.result a.t.now)
    (ap not c.if-is_none.ensures)
    (c.first_edge.ensures a.t.now c.get.ensures ∙ ap (first_source a.i) (c.edge_of-x.ensures.read n o s a.t.now))
