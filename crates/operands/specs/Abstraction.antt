-- How code holds the inputs of a run. Assumes nothing.
use Rattle.std.specs.Prelude.{◌≡◌, Bool, true, false, cond, not, List, ℕ, Option, None, Some}
use Rattle.std.specs.Option.{is_some}
use Rattle.theory_applying.specs.Operands as T
use Rattle.theory_combining.specs.BlockReaders.{BlockReader, reader_at, deep_of, source_of, ended_of, next_reader}
use Rattle.blocks.specs.Blocks.{next_block, ReadBlock, block_in}
use Rattle.cursors.specs.Cursors.{start_cursor}
use Rattle.reader.specs.OpenNodes.{cursor_in}
use Rattle.blocks.specs.declared.Block.{Block}
use Rattle.elements.specs.declared.Open.{Open}
use Rattle.elements.specs.declared.Opens.{Opens}
use Rattle.operands.specs.declared.Input.{Input}
use Rattle.operands.specs.declared.Stream.{Stream}
use Rattle.node_records.specs.declared.Edge.{Edge}
use Rattle.node_records.specs.declared.NodeRecord.{NodeRecord}

-- ---- Streams ---------------------------------------------------------------------------------

-- the same bytes, and the same table and open nodes lent
abbrev pub same_stream : Stream → Stream → Type 0
same_stream a b = (a.bytes.now ≡ b.bytes.now) × (a.table.ghost_name ≡ b.table.ghost_name) × (a.opens.ghost_name ≡ b.opens.ghost_name)

-- the block that was read last of the stream s, with the lent table
abbrev pub reader_in : ReadBlock → List ℕ → List NodeRecord → BlockReader
reader_in b s t = record { stream = s; block = b; table = t }

-- with the open nodes o there
abbrev pub block_on : Block → Opens → ReadBlock
block_on b o =
    record {
      cursor = record { run = b.cursor.run; opens = o };
      from = b.from;
      deep = b.deep;
      number = b.number;
      complement = b.complement;
      halted = b.halted;
    }

-- with those that the stream holds
abbrev pub reader_of : Block → Stream → BlockReader
reader_of b s = reader_in (block_in b s.opens.now) s.bytes.now s.table.now

-- ---- Inputs ----------------------------------------------------------------------------------

-- it is inside its text
abbrev pub inside : Option Edge → Bool
inside e = not (is_some e)

-- its edge; the terminal, where it has none
abbrev pub standing : Option Edge → Edge
standing None = record { number = 0; complement = false }
standing (Some e) = e

-- an input on its block reader
abbrev pub on_reader : Option Edge → BlockReader → T.Operand BlockReader
on_reader e τ = record { reader = τ; in_text = inside e; number = (standing e).number; complement = (standing e).complement }

abbrev pub input_on : Input → Opens → List ℕ → List NodeRecord → T.Operand BlockReader
input_on f o s t = on_reader f.edge (reader_in (block_on f.block o) s t)

abbrev pub input_of : Input → Stream → T.Operand BlockReader
input_of f s = on_reader f.edge (reader_of f.block s)

-- what it decides at the first word of its part
abbrev pub first_value_of : Input → Bool
first_value_of f = cond (inside f.edge) f.block.complement (standing f.edge).complement

-- at the outermost node, with o for the open nodes: in its text unless its first block is all of it, or it has none
abbrev pub begun_from : ℕ → List ℕ → List Open → List NodeRecord → T.Operand BlockReader
begun_from n s o t =
    T.settle deep_of source_of ended_of (next_reader n) 1
    (record { reader = reader_at s (next_block n s (cursor_in start_cursor o) t); in_text = true; number = 0; complement = false })
