-- A stream that is read block by block, as the combiner's code has it: a block reader for the walk over texts. Definitions only; BlockReaderLaws ties
-- them to what the stream decides. Assumes nothing.
use Rattle.std.specs.Prelude.{Bool, true, false, cond, List, ℕ}
use Rattle.theory_applying.specs.Applying.{Source}
use Rattle.theory_applying.specs.Operands.{Operand, settle}
use Rattle.work_table.specs.TableLaws.{table_of}
use Rattle.reader.specs.ReadOn.{first_cursor}
use Rattle.blocks.specs.Blocks.{Next, next_block, ReadBlock}
use Rattle.node_records.specs.declared.NodeRecord.{NodeRecord}

-- a stream, the block that was read last, and the lent table after it
pub record BlockReader : Type 0 where
  pub stream : List ℕ
  pub block : ReadBlock
  pub table : List NodeRecord

-- the block reader at the block of a call
abbrev pub reader_at : List ℕ → Next → BlockReader
reader_at s x = record { stream = s; block = x.block; table = x.table }

-- how many nodes are open around its block
abbrev pub deep_of : BlockReader → ℕ
deep_of τ = τ.block.deep

-- the edge that stands for its block
abbrev pub source_of : BlockReader → Source
source_of τ =
    record {
      table = table_of τ.table τ.block.cursor.run.size;
      number = τ.block.number;
      complement = τ.block.complement;
    }

-- reading has come to its end, and no block is there
abbrev pub ended_of : BlockReader → Bool
ended_of τ = τ.block.halted

-- a block further, unless it has ended
abbrev pub next_reader : ℕ → BlockReader → BlockReader
next_reader n τ = cond τ.block.halted τ (reader_at τ.stream (next_block n τ.stream τ.block.cursor τ.table))

-- at the first block of a stream, with the table lent
abbrev pub first_reader : ℕ → List ℕ → List NodeRecord → BlockReader
first_reader n s t = reader_at s (next_block n s first_cursor t)

-- an input at the outermost node, in its text unless its first block is all of it, or it has none
abbrev pub begun_operand : ℕ → List ℕ → List NodeRecord → Operand BlockReader
begun_operand n s t =
    settle deep_of source_of ended_of (next_reader n) 1 (record { reader = first_reader n s t; in_text = true; number = 0; complement = false })
