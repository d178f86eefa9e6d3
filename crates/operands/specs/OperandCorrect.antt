-- Laws of inputs at the halves of a part, and at the first block. Assumes nothing.
use Rattle.std.specs.Prelude.{◌≡◌, Bool, true, false, cond, List, ℕ, ◌+◌, replicate}
use Rattle.std.proofs.Common.{sym, ap, ◌∙◌}
use Rattle.theory_reading.specs.Limits.{open_limit}
use Rattle.theory_applying.specs.Applying.{Source, second_source}
use Rattle.theory_applying.specs.Operands as T
use Rattle.theory_combining.specs.BlockReaders.{BlockReader, reader_at, deep_of, source_of, ended_of, next_reader, begun_operand}
use Rattle.elements.specs.Abstraction.{inside_open}
use Rattle.elements.specs.declared.Open.{Open}
use Rattle.cursors.specs.Cursors.{start_cursor}
use Rattle.reader.specs.ReadOn.{cursor-first}
use Rattle.blocks.specs.Blocks.{Next, next_block}
use Rattle.reader.specs.OpenNodes.{ReadCursor, cursor_in}
use Rattle.cursors.specs.declared.Cursor.{Cursor}
use Rattle.operands.specs.Abstraction.{begun_from}
use Rattle.node_records.specs.declared.NodeRecord.{NodeRecord}

-- ---- The second half of a part of level i ----------------------------------------------------

module _ (n i : ℕ) (f : T.Operand BlockReader) where
  -- by whether it is in its text
  abbrev half : Bool → T.Operand BlockReader
  half u = cond u (T.settle deep_of source_of ended_of (next_reader n) (i + 1) (T.on_reader f (next_reader n f.reader)))
      (T.at_edge f (second_source i (T.edge_of deep_of source_of ended_of (next_reader n) f)))

  pub second-inside : f.in_text ≡ true → (τ : BlockReader) → τ ≡ next_reader n f.reader
      → T.settle deep_of source_of ended_of (next_reader n) (i + 1) (T.on_reader f τ)
      ≡ T.second_operand deep_of source_of ended_of (next_reader n) i f
  second-inside e τ h =
      ap (λ (τ : BlockReader). T.settle deep_of source_of ended_of (next_reader n) (i + 1) (T.on_reader f τ)) h ∙ ap half (sym e)

  pub second_edge_lem : (x : Source) → f.in_text ≡ false → x ≡ second_source i (T.edge_of deep_of source_of ended_of (next_reader n) f)
      → T.at_edge f x ≡ T.second_operand deep_of source_of ended_of (next_reader n) i f
  second_edge_lem x e h = ap (T.at_edge f) h ∙ ap half (sym e)

-- ---- The first block -------------------------------------------------------------------------

-- as code has it, x
pub begun-code : (n : ℕ) (s : List ℕ) (o : List Open) (t : List NodeRecord) (c : Cursor) (x : Next) → c ≡ start_cursor → x ≡ next_block n s (cursor_in c o) t
    → T.settle deep_of source_of ended_of (next_reader n) 1 (record { reader = reader_at s x; in_text = true; number = 0; complement = false }) ≡ begun_from n s o t
begun-code n s o t c x e h =
    ap (λ (x : Next). T.settle deep_of source_of ended_of (next_reader n) 1 (record { reader = reader_at s x; in_text = true; number = 0; complement = false }))
    (h ∙ ap (λ (c : Cursor). next_block n s (cursor_in c o) t) e)

-- beside open nodes that are in their first children it is where the stream begins
pub begun-zero : (n : ℕ) (s : List ℕ) (t : List NodeRecord) → begun_from n s (replicate open_limit inside_open) t ≡ begun_operand n s t
begun-zero n s t =
    ap (λ (c : ReadCursor). T.settle deep_of source_of ended_of (next_reader n) 1
    (record { reader = reader_at s (next_block n s c t); in_text = true; number = 0; complement = false })) cursor-first
