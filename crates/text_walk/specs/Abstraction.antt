-- How code holds what the engine's walk over texts speaks of, and the stream of a run. Assumes nothing.
use Rattle.std.specs.Prelude.{Bool, true, cond, List, Option, [], ◌∷◌, ℕ, ltb}
use Rattle.theory_lists.specs.Lists.{differ}
use Rattle.theory_reading.specs.Limits.{option_limit}
use Rattle.theory_writing.specs.Texts.{tilde_if}
use Rattle.theory_writing.specs.Run.{operate}
use Rattle.theory_engine.specs.Pending.{Waiting, push_all, wait_in}
use Rattle.theory_engine.specs.Engine as E
use Rattle.theory_applying.specs.Operands as T
use Rattle.theory_applying.specs.Memo.{slot_of}
use Rattle.theory_applying.specs.Carrying.{Carried, carry_in}
use Rattle.theory_applying.specs.Merging.{merge_nodes_in, merge_in}
use Rattle.theory_combining.specs.BlockReaders.{BlockReader, deep_of, source_of, ended_of, next_reader}
use Rattle.theory_applying.specs.Finishing.{finish_in}
use Rattle.meeting.specs.Abstraction.{half_of, walked_of}
use Rattle.meeting.specs.declared.Gap.{Gap}
use Rattle.meeting.specs.declared.Half.{Half}
use Rattle.meeting.specs.declared.Sink.{Sink}
use Rattle.operands.specs.Abstraction.{reader_of}
use Rattle.operands.specs.declared.Stream.{Stream}
use Rattle.operation_cache.specs.Abstraction.{rows_of}
use Rattle.operation_cache.specs.declared.Entry.{Entry}
use Rattle.applier.specs.declared.Task.{Task}
use Rattle.text_walk.specs.declared.Applied.{Applied}
use Rattle.node_records.specs.declared.WriterRecord.{WriterRecord}

-- ---- Between the halves ----------------------------------------------------------------------

-- the first half, the `~` of the second, and what waits
pub record Between : Type 0 where
  pub half : E.Half
  pub complement : Bool
  pub waiting : Waiting

abbrev pub gap_in : Gap → List ℕ → Between
gap_in g w = record { half = half_of g.first; complement = g.tilde; waiting = record { bytes = w; count = g.waiting } }

-- u: the `~`, q: with the first half (h) waiting
abbrev pub gap_with : Half → Bool → Waiting → Between
gap_with h u q = record { half = half_of h; complement = u; waiting = push_all q.bytes q.count (tilde_if u) }

-- q₁, q₂: what the inputs decide at the first word of the second half, m bytes waiting before the first, h
abbrev pub gap_by : ℕ → ℕ → Bool → Bool → Half → List ℕ → Between
gap_by op m q₁ q₂ h w =
    gap_with h (differ h.complement (operate op (q₁ ∷ q₂ ∷ []))) (wait_in w m h.wrote h.skipped h.number)

-- ---- The walk --------------------------------------------------------------------------------

-- with what the lent memory holds; τ, σ: the block readers, μ: the operation cache
abbrev pub carried_on : Applied → BlockReader → BlockReader → List WriterRecord → List ℕ → List ℕ → List (List ℕ) → Carried BlockReader
carried_on a τ σ t out w μ =
    record { applied = record { walked = walked_of a.walked t out w; readers = τ ∷ σ ∷ []; ended = a.ended }; memo = μ }

abbrev pub carried_of : Applied → Stream → Stream → Sink → List (Option Entry) → Carried BlockReader
carried_of a x y s c = carried_on a (reader_of a.first x) (reader_of a.second y) s.table.now s.out.now s.waiting.now (rows_of c)

abbrev pub walk_texts : Task → ℕ → ℕ → ℕ → ℕ → List (T.Operand BlockReader) → List (List ℕ) → List WriterRecord → List ℕ → List ℕ → E.Progress
    → Carried BlockReader
walk_texts k d i at m fs μ t out w progress =
    carry_in deep_of source_of ended_of (next_reader k.n) slot_of (operate k.op) k.covered k.size d i at m fs μ t out w progress

-- ---- The stream ------------------------------------------------------------------------------

-- after the walk, m bytes waiting before it: of a whole run what waits, and the point
abbrev pub finished_by : Task → ℕ → Applied → Sink → E.Sent
finished_by k m a s =
    let x : T.Applied BlockReader = record { walked = walked_of a.walked [] s.out.now s.waiting.now; readers = []; ended = a.ended } in
    finish_in k.n k.covered m x

abbrev pub nodes_by : Task → List (T.Operand BlockReader) → List (List ℕ) → List WriterRecord → E.Sent → E.Sent
nodes_by k fs μ t x =
    merge_nodes_in deep_of source_of ended_of (next_reader k.n) slot_of (operate k.op) k.n k.covered k.size fs μ t x

-- as far as a rule may have so many options
abbrev pub stream_by : Task → List (T.Operand BlockReader) → List (List ℕ) → List WriterRecord → List ℕ → List ℕ → E.Sent
stream_by k fs μ t out w =
    cond (ltb option_limit k.n) (record { written = 0; full = true; output = out; waits = w })
    (merge_in deep_of source_of ended_of (next_reader k.n) slot_of (operate k.op) k.n k.covered k.size fs μ t out w)
