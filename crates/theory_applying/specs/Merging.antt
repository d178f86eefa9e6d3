-- The stream of a run: the size and its LF, then the walk over the texts of the inputs, unless no word is covered. Definitions only; code
-- mirrors them, and MergeLaws ties them to the text of a run. Assumes nothing.
use Rattle.std.specs.Prelude.{Bool, cond, ◌||◌, List, ℕ, eqb}
use Rattle.theory_writing.specs.Texts.{tilde_if}
use Rattle.theory_writing.specs.Run.{head}
use Rattle.theory_engine.specs.Pending.{push_all}
use Rattle.theory_engine.specs.Engine.{Sent, send_text, progress_after}
use Rattle.theory_applying.specs.Applying.{Source}
use Rattle.theory_applying.specs.Operands.{Operand, first_values_of}
use Rattle.theory_applying.specs.Finishing.{finish_in}
use Rattle.theory_applying.specs.Carrying.{carry_in}
use Rattle.node_records.specs.declared.WriterRecord.{WriterRecord}

-- deep_of, source_of, ended_of, next: as in Operands
module _ {BlockReader : Type 0} (deep_of : BlockReader → ℕ) (source_of : BlockReader → Source) (ended_of : BlockReader → Bool)
    (next : BlockReader → BlockReader) where
  -- after the size and its LF (x): the leading `~` and the outermost node; fs: the inputs there, μ: the memo, c: how many words are
  -- covered
  abbrev pub merge_nodes_in : (List ℕ → ℕ) → (List Bool → Bool) → ℕ → ℕ → ℕ → List (Operand BlockReader) → List (List ℕ)
      → List WriterRecord → Sent → Sent
  merge_nodes_in hash op n c size fs μ t x =
      let m = push_all x.waits 0 (tilde_if (op (first_values_of deep_of source_of ended_of next fs))) in
      finish_in n c m.count
      (carry_in deep_of source_of ended_of next hash op c size n 1 0 m.count fs μ t x.output m.bytes (progress_after x)).applied

  -- the stream of a run
  unfoldable pub merge_in : (List ℕ → ℕ) → (List Bool → Bool) → ℕ → ℕ → ℕ → List (Operand BlockReader) → List (List ℕ) → List WriterRecord → List ℕ
      → List ℕ → Sent
  merge_in hash op n c size fs μ t out w =
      let a = push_all w 0 (head size) in
      let x = send_text out a.bytes 0 a.count in
      cond (x.full || eqb c 0) x (merge_nodes_in hash op n c size fs μ t x)
