-- What the code that stores nodes reads of a record, and what it makes of it; RecordLaws of theory_engine ties it to cells. Assumes nothing.
use Rattle.std.specs.Prelude.{Bool, cond, ◌&&◌, ℕ, eqb, get_or}
use Rattle.node_records.specs.declared.Node.{Node}
use Rattle.node_records.specs.declared.WriterRecord.{WriterRecord}
use Rattle.writer_numbers.specs.Numbers.{one_more}
use Rattle.writer_records.specs.Fields.{fields_of, with_field, level_field, first_field, second_field, complement_field, stamp_field, queue_field, bucket_field}

-- the field with the number after this one in the recycling queue, or in its bucket; the field after it has the number before this one
abbrev pub lane_field : Bool → ℕ
lane_field queue = cond queue queue_field bucket_field

-- the record gets a node, and a stamp one more
abbrev pub with_node : WriterRecord → ℕ → ℕ → ℕ → ℕ → WriterRecord
with_node x i a b c =
    with_field (with_field (with_field (with_field (with_field x level_field i) first_field a) second_field b) complement_field c)
    stamp_field (one_more (get_or (fields_of x) stamp_field 0))

-- its node
abbrev pub node_of : WriterRecord → Node
node_of x = record { level = x.level; first = x.first; second = x.second; complement = x.complement }

-- it has that node
abbrev pub is_node : WriterRecord → ℕ → ℕ → ℕ → ℕ → Bool
is_node x i a b c =
    eqb (get_or (fields_of x) level_field 0) i
    && (eqb (get_or (fields_of x) first_field 0) a
    && (eqb (get_or (fields_of x) second_field 0) b
    && eqb (get_or (fields_of x) complement_field 0) c))
