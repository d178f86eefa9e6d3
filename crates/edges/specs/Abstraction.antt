-- How code holds an input at an edge. Assumes nothing.
use Rattle.std.specs.Prelude.{List}
use Rattle.theory_applying.specs.Applying.{Source}
use Rattle.work_table.specs.TableLaws.{table_of}
use Rattle.edges.specs.declared.TableEdge.{TableEdge}
use Rattle.node_records.specs.declared.NodeRecord.{NodeRecord}

-- an edge in the lent table of its input
abbrev pub edge_in : TableEdge → List NodeRecord → Source
edge_in e t = record { table = table_of t e.size; number = e.edge.number; complement = e.edge.complement }
