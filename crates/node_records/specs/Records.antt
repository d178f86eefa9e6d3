-- The records of work tables. Assumes nothing.
use Rattle.node_records.specs.declared.NodeRecord.{NodeRecord}
use Rattle.node_records.specs.declared.WriterRecord.{WriterRecord}

-- records of zeros
abbrev pub no_record : NodeRecord
no_record = record { level = 0; first = 0; second = 0; complement = 0; stamp = 0; parents = 0; admits = 0; refuses = 0 }

abbrev pub no_writer_record : WriterRecord
no_writer_record = record {
  level = 0;
  first = 0;
  second = 0;
  complement = 0;
  stamp = 0;
  parents = 0;
  after = 0;
  before = 0;
  next = 0;
  previous = 0;
  head = 0;
  tail = 0;
}
