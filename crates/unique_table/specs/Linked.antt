-- What the code that links numbers has: lent records, and the ends of those that are linked. Definitions only. Assumes nothing.
use Rattle.std.specs.Prelude.{List}
use Rattle.node_records.specs.declared.WriterRecord.{WriterRecord}
use Rattle.theory_engine.specs.Recycling.{Lane, lane}
use Rattle.unique_table.specs.declared.Ends.{Ends}

abbrev pub lane_of : List WriterRecord → Ends → Lane
lane_of t e = lane t e.first e.last
