-- How code holds what the engine's walk over stored nodes speaks of. Assumes nothing.
use Rattle.std.specs.Prelude.{false, cond, ◌||◌, List, Option, ℕ, ltb}
use Rattle.theory_reading.specs.Limits.{option_limit, level_limit}
use Rattle.theory_writing.specs.Run.{operate}
use Rattle.theory_engine.specs.Engine as E
use Rattle.theory_applying.specs.Applying.{Source}
use Rattle.theory_applying.specs.Memo.{slot_of}
use Rattle.theory_applying.specs.Recalling.{Recalled, unnoted, recall_in}
use Rattle.meeting.specs.Abstraction.{walked_of}
use Rattle.meeting.specs.declared.Sink.{Sink}
use Rattle.meeting.specs.declared.Walked.{Walked}
use Rattle.operation_cache.specs.Abstraction.{rows_of}
use Rattle.operation_cache.specs.declared.Entry.{Entry}
use Rattle.node_records.specs.declared.WriterRecord.{WriterRecord}

-- with what the lent memory holds; c: the operation cache
abbrev pub recalled_of : Walked → Sink → List (Option Entry) → Recalled
recalled_of r s c = record { walked = walked_of r s.table.now s.out.now s.waiting.now; memo = rows_of c }

-- the part of level i with d options left, as far as a rule may have so many
abbrev pub applied : ℕ → ℕ → ℕ → ℕ → ℕ → List Source → List (List ℕ) → List WriterRecord → List ℕ → List ℕ → E.Progress → Recalled
applied op size d i m xs μ t out w progress =
    cond (ltb option_limit d || ltb level_limit i) (unnoted (E.kept (E.constant_half false) t out w progress) μ)
    (recall_in slot_of (operate op) size d i m xs μ t out w progress)
