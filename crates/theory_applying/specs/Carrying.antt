-- The walk of a combiner over the texts of its inputs, down to the parts whose inputs all stand at edges; a memo remembers these.
-- Definitions only; code mirrors them, and CarryLaws ties them to the walk of Online. Assumes nothing.
use Rattle.std.specs.Prelude.{Bool, cond, ◌||◌, List, [], ◌∷◌, ℕ, zero, suc, ◌+◌, ◌^◌, leb, ltb}
use Rattle.theory_lists.specs.Lists.{differ}
use Rattle.theory_reading.specs.Bytes.{opener}
use Rattle.theory_writing.specs.Texts.{tilde_if}
use Rattle.theory_engine.specs.Pending.{push_all, wait_in}
use Rattle.theory_engine.specs.Engine.{Progress, second_in}
use Rattle.theory_applying.specs.Applying.{Source}
use Rattle.theory_applying.specs.Operands.{Operand, Applied, any_text, readers_of, resume, halted, ended_at, went_on, edges_of, first_operands}
use Rattle.theory_applying.specs.Operands.{second_operands, first_values_of}
use Rattle.theory_applying.specs.Recalling.{Recalled, recall_in}
use Rattle.node_records.specs.declared.WriterRecord.{WriterRecord}

-- after a part: the engine and the inputs' block readers, and the memo
pub record Carried (BlockReader : Type 0) : Type 0 where
  pub applied : Applied BlockReader
  pub memo : List (List ℕ)

module _ {BlockReader : Type 0} where
  abbrev pub carried : Applied BlockReader → List (List ℕ) → Carried BlockReader
  carried x μ = record { applied = x; memo = μ }

  -- after the walk over stored nodes, with these block readers
  abbrev pub recalled_on : Recalled → List BlockReader → Carried BlockReader
  recalled_on r τs = carried (went_on r.walked τs) r.memo

-- deep_of, source_of, ended_of, next: as in Operands
module _ {BlockReader : Type 0} (deep_of : BlockReader → ℕ) (source_of : BlockReader → Source) (ended_of : BlockReader → Bool)
    (next : BlockReader → BlockReader) where
  -- The part of level i whose words are at .. at + 2 ^ d - 1, after m bytes that wait, with the memo μ. c: how many words are covered,
  -- more than `at`; op: what the inputs' decisions come to. A part that has an input in its text, or a
  -- word that is not covered, is neither looked up nor noted
  unfoldable pub carry_in : (List ℕ → ℕ) → (List Bool → Bool) → ℕ → ℕ → ℕ → ℕ → ℕ → ℕ → List (Operand BlockReader) → List (List ℕ)
      → List WriterRecord → List ℕ → List ℕ → Progress → Carried BlockReader
  carry_in hash op c size zero i at m fs μ t out w progress =
      recalled_on (recall_in hash op size 0 i m (edges_of deep_of source_of ended_of next fs) μ t out w progress) (readers_of fs)
  carry_in hash op c size (suc d) i at m fs μ t out w progress =
      let p = push_all w m (opener ∷ []) in
      let a = carry_in hash op c size d (i + 1) at p.count (first_operands deep_of source_of ended_of next i fs) μ t out p.bytes progress in
      let x = a.applied.walked in
      let h = x.half in
      let zs = second_operands deep_of source_of ended_of next i (resume fs a.applied.readers) in
      let u = differ h.complement (op (first_values_of deep_of source_of ended_of next zs)) in
      let q = wait_in x.waits p.count h.wrote h.skipped h.number in
      let r = push_all q.bytes q.count (tilde_if u) in
      let b = carry_in hash op c size d (i + 1) (at + 2 ^ d) r.count zs a.memo x.table x.output r.bytes x.progress in
      let e = recalled_on (recall_in hash op size (suc d) i m (edges_of deep_of source_of ended_of next fs) μ t out w progress) (readers_of fs) in
      let met = carried (went_on (second_in size i r.count u h b.applied.walked) b.applied.readers) b.memo in
      let after = cond (halted b.applied) b met in
      let on = cond (leb c (at + 2 ^ d)) (carried (ended_at a.applied) a.memo) after in
      let halves = cond (halted a.applied) a on in
      cond (any_text fs || ltb c (at + 2 ^ suc d)) halves e
