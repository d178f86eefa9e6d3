-- AN INPUT AT THE ROOT: a stream that was loaded and whose table has its outermost node stands there at an edge, and its text is not read again.
-- Assumes nothing.
use Rattle.std.specs.Prelude.{◌≡◌, refl, Bool, true, false, List, ℕ, ◌+◌, ◌<◌, ◌^◌}
use Rattle.std.proofs.Common.{sym, ap, ◌∙◌, arith}
use Rattle.std.proofs.Math.Path.{subst⁻¹}
use Rattle.theory_reading.specs.Deciding.{Decision, undecided, decided, options, decision}
use Rattle.theory_writing.specs.Run.{or_no}
use Rattle.theory_writing.specs.Inputs.{May}
use Rattle.theory_applying.specs.Applying.{Source}
use Rattle.theory_applying.specs.ApplyLaws.{Shows, source_walk}
use Rattle.theory_applying.specs.Sitting.{Sits}
use Rattle.theory_applying.specs.Operands.{Operand, edge_of}
use Rattle.theory_applying.specs.OperandLaws.{Fed}
use Rattle.theory_applying.specs.Seating.{Seated}
use Rattle.work_table.specs.TableLaws.{table_of}
use Rattle.blocks.specs.Blocks.{ReadBlock}
use Rattle.blocks.specs.Load.{LoadTo, load}
use Rattle.blocks.specs.LoadLaws.{load-shows, load-ordered, load-deep}
use Rattle.theory_combining.specs.BlockReaders.{BlockReader, deep_of, source_of, ended_of, next_reader}
use Rattle.theory_combining.specs.BlockReaderLaws.{Reads, Ends}
use Rattle.node_records.specs.declared.NodeRecord.{NodeRecord}

-- the edge of the outermost node
abbrev pub root_source : LoadTo → Source
root_source x = record { table = table_of x.table x.size; number = x.number; complement = x.complement }

-- the input s at it, with any block on its block reader
abbrev pub root_operand : List ℕ → ReadBlock → LoadTo → Operand BlockReader
root_operand s b x = record {
  reader = record { stream = s; block = b; table = x.table };
  in_text = false;
  number = x.number;
  complement = x.complement;
}

-- what the edge shows: a value for every word
abbrev pub shown_by : ℕ → LoadTo → ℕ → Bool
shown_by n x w = or_no (source_walk (root_source x) 1 (options n w))

-- x: what the call of loading came to, which is whole
module _ (n : ℕ) (s : List ℕ) (t : List NodeRecord) (x : LoadTo) (called : x ≡ load n s t) (whole : x.whole ≡ true) where
  -- THE EDGE SHOWS a value for every word,
  pub root-shows : Shows (root_source x) n 1 (shown_by n x)
  root-shows w l =
      let e = (load-shows n s t x called whole w l).1.0 in
      e ∙ ap (λ (d : Decision). decided (or_no d)) (sym e)

  -- one that the stream may have,
  pub root-may : (w : ℕ) → w < 2 ^ n → May (decision n s w) (shown_by n x w)
  root-may w l =
      let h = load-shows n s t x called whole w l in
      go (decision n s w) (λ e k. h.1.1 e k ∙ ap or_no (sym h.1.0))
    where
      go : (d : Decision) → ((e : Bool) → d ≡ decided e → e ≡ shown_by n x w) → May d (shown_by n x w)
      go undecided k = tt
      go (decided e) k = sym (k e refl)

  -- and sits at the outermost level, in an ordered table.
  pub root-sits : Sits 1 (root_source x)
  root-sits = record { ordered = load-ordered n s t x called; deep = load-deep n s t x called whole }

  -- b: a block whose run has that size
  module _ (b : ReadBlock) (size : b.cursor.run.size ≡ x.size) where
    edge_same : edge_of deep_of source_of ended_of (next_reader n) (root_operand s b x) ≡ root_source x
    edge_same = ap (λ (z : ℕ). record { table = table_of x.table z; number = x.number; complement = x.complement }) size

    -- So the input is fed at the outermost node,
    pub root-fed : Fed deep_of source_of ended_of (next_reader n) n (Reads n) (Ends n) 1 n 0 (root_operand s b x) (shown_by n x)
    root-fed w l =
        let e : 0 + w ≡ w = omega arith in
        subst⁻¹ (λ (y : Source). source_walk y 1 (options n w) ≡ decided (shown_by n x (0 + w))) edge_same
        (root-shows w l ∙ ap (λ (i : ℕ). decided (shown_by n x i)) (sym e))

    -- and sits there.
    pub root-seated : Seated deep_of source_of ended_of (next_reader n) 1 (root_operand s b x)
    root-seated = subst⁻¹ (Sits 1) edge_same root-sits
