-- A block reader reads its stream: at every block it shows what the stream decides on the block's words, and the next begins where it
-- ends, until the stream decides no more. So the walk over texts may have streams as its block readers. Assumes nothing.
use Rattle.std.specs.Prelude.{◌≡◌, refl, ◌⊎◌, Bool, true, false, cond, List, ℕ, ◌+◌, ◌-◌, ◌*◌, ◌<◌, ◌≤◌, ◌^◌, ltb, length}
use Rattle.std.proofs.Common.{sym, ap, ◌∙◌, subst, inl, inr, ⊎_elim, arith, lt-ltb, le-ltb}
use Rattle.std.proofs.Math.Path.{subst⁻¹}
use Rattle.std.proofs.Math.Option.{none}
use Rattle.theory_lists.specs.Lists.{decide-le}
use Rattle.theory_reading.specs.Limits.{option_limit, table_limit}
use Rattle.theory_reading.specs.Reading.{is_start, reading}
use Rattle.theory_reading.specs.Deciding.{Decision, decided, options, decision}
use Rattle.theory_reading.specs.Covered.{covered}
use Rattle.theory_reading.proofs.Covered.{covered-decided, uncovered-undecided, covered-most}
use Rattle.theory_reading.proofs.Lasting.{Lasts, Ordered}
use Rattle.theory_writing.specs.Run.{or_no}
use Rattle.theory_writing.specs.Inputs.{May}
use Rattle.theory_applying.specs.ApplyLaws.{Shows, source_walk}
use Rattle.theory_applying.specs.Sitting.{Sits}
use Rattle.theory_applying.specs.OperandLaws.{ReaderLaws, Comes}
use Rattle.elements.specs.Abstraction.{context_of}
use Rattle.reader.specs.ReadOn.{first_cursor}
use Rattle.blocks.specs.Blocks.{Next, next_block}
use Rattle.blocks.specs.BlockLaws.{StandsAt, first-stands, stands_read, next-stands}
use Rattle.blocks.specs.BlockLaws.{block-from, block-covers, block-deep, block-aligned, block-later, block-ordered, block-lasts, block-sits}
use Rattle.blocks.specs.BlockLaws.{block-decides, block_last, end-lasts}
use Rattle.reader.specs.OpenNodes.{ReadCursor}
use Rattle.theory_combining.specs.BlockReaders.{BlockReader, reader_at, deep_of, source_of, ended_of, next_reader, first_reader}
use Rattle.node_records.specs.declared.NodeRecord.{NodeRecord}

-- ---- Where a block reader stands ---------------------------------------------------------------------

-- τ has the stream `bytes`, and stands at a block of it that begins with word `at`
pub record ReadsOf (n : ℕ) (bytes : List ℕ) (τ : BlockReader) (at : ℕ) : Type 0 where
  pub cursor : ReadCursor
  pub lent : List NodeRecord
  pub stands : StandsAt n bytes cursor lent
  pub called : record { block = τ.block; table = τ.table } ≡ next_block n bytes cursor lent
  pub goes_on : τ.block.halted ≡ false
  pub begins : cursor.run.covered ≡ at
  pub stream : τ.stream ≡ bytes

-- ---- The input -------------------------------------------------------------------------------

-- what a stream decides at word w, and no where it decides nothing
abbrev pub value_of : ℕ → List ℕ → ℕ → Bool
value_of n bytes w = or_no (decision n bytes w)

-- so as an input: no from where the stream covers no word
abbrev pub held_of : ℕ → List ℕ → ℕ → Bool
held_of n bytes w = cond (ltb w (covered n bytes)) (value_of n bytes w) false

module _ (n : ℕ) (bytes : List ℕ) (w : ℕ) where
  -- a word that it covers is decided as it says
  pub held-decides : w < covered n bytes → decision n bytes w ≡ decided (held_of n bytes w)
  held-decides h =
      let e = covered-decided n bytes w (omega (arith, h, covered-most n bytes)) h in
      e ∙ ap (λ (d : Decision). decided (or_no d)) (sym e)
      ∙ ap (λ (b : Bool). decided (cond b (value_of n bytes w) false)) (sym (lt-ltb w (covered n bytes) h))

  -- past them it is no
  pub held-no : covered n bytes ≤ w → held_of n bytes w ≡ false
  held-no h = ap (λ (b : Bool). cond b (value_of n bytes w) false) (le-ltb w (covered n bytes) h)

  -- so it is a value that the stream may have
  pub held-may : w < 2 ^ n → May (decision n bytes w) (held_of n bytes w)
  held-may l = ⊎_elim
      (λ (h : covered n bytes ≤ w). subst⁻¹ (λ (d : Decision). May d (held_of n bytes w)) (uncovered-undecided n bytes w l h) tt)
      (λ (h : w < covered n bytes). subst⁻¹ (λ (d : Decision). May d (held_of n bytes w)) (held-decides h) refl)
      (decide-le (covered n bytes) w)

-- ---- The ways of a block reader ----------------------------------------------------------------

-- τ, of the input x, a stream without a fault, stands at a block that begins with word `at`
pub record Reads (n : ℕ) (τ : BlockReader) (at : ℕ) (x : ℕ → Bool) : Type 0 where
  pub bytes : List ℕ
  pub input : x ≡ held_of n bytes
  pub clean : (reading n bytes).fault ≡ none
  pub here : ReadsOf n bytes τ at

-- it has come to the end of the stream, which covers no word from e on
pub record Ends (n : ℕ) (τ : BlockReader) (e : ℕ) (x : ℕ → Bool) : Type 0 where
  pub bytes : List ℕ
  pub input : x ≡ held_of n bytes
  pub over : τ.block.halted ≡ true
  pub all : covered n bytes ≤ e
  pub ordered : Ordered (source_of τ).table

-- ---- The block -------------------------------------------------------------------------------

module _ (n : ℕ) (few : n ≤ option_limit) (bytes : List ℕ) (τ : BlockReader) (at : ℕ) (h : ReadsOf n bytes τ at) where
  -- the block begins with word `at`
  of-from : τ.block.from ≡ at
  of-from = block-from n bytes few h.cursor h.lent h.stands τ.block τ.table h.called h.goes_on ∙ h.begins

  -- and ends where the cursor after it stands
  of-covers : τ.block.cursor.run.covered ≡ at + 2 ^ (n - deep_of τ)
  of-covers =
      block-covers n bytes few h.cursor h.lent h.stands τ.block τ.table h.called h.goes_on
      ∙ ap (λ (k : ℕ). k + 2 ^ (n - deep_of τ)) of-from

  of-next : StandsAt n bytes τ.block.cursor τ.table
  of-next = next-stands n bytes few h.cursor h.lent h.stands τ.block τ.table h.called

  of-deep : deep_of τ ≤ n
  of-deep = block-deep n bytes few h.cursor h.lent h.stands τ.block τ.table h.called h.goes_on

  of-aligned : (k : ℕ) × (at ≡ k * 2 ^ (n - deep_of τ))
  of-aligned =
      let a = block-aligned n bytes few h.cursor h.lent h.stands τ.block τ.table h.called h.goes_on in
      (a.0, sym of-from ∙ a.1)

  -- its words are covered
  of-within : at + 2 ^ (n - deep_of τ) ≤ covered n bytes
  of-within = omega (arith, of-covers, stands_read n bytes τ.block.cursor τ.table of-next)

  -- and it shows what the stream decides on them
  of_shows : Shows (source_of τ) (n - deep_of τ) (deep_of τ + 1) (λ w. held_of n bytes (at + w))
  of_shows w l =
      let e : at + w - τ.block.from ≡ w = omega (arith, of-from) in
      let d = block-decides n bytes few h.cursor h.lent h.stands τ.block τ.table h.called h.goes_on (at + w)
      (omega (arith, of-from)) (omega (arith, of-covers, l)) in
      sym (subst (λ (j : ℕ). decision n bytes (at + w) ≡ source_walk (source_of τ) (deep_of τ + 1) (options (n - deep_of τ) j)) e d)
      ∙ held-decides n bytes (at + w) (omega (arith, of-within, l))

  -- its edge sits at its level, in an ordered table
  of-sits : Sits (deep_of τ + 1) (source_of τ)
  of-sits =
      record {
        ordered = block-ordered n bytes few h.cursor h.lent h.stands τ.block τ.table h.called;
        deep = block-sits n bytes few h.cursor h.lent h.stands τ.block τ.table h.called h.goes_on;
      }

  of-later : is_start (context_of τ.block.cursor.run.context) ≡ false
  of-later = block-later n bytes few h.cursor h.lent h.stands τ.block τ.table h.called h.goes_on

-- ---- The next block --------------------------------------------------------------------------

-- its table lasts till the next block, or the end
of_lasts : (n : ℕ) → n ≤ option_limit → (bytes : List ℕ) → (reading n bytes).fault ≡ none → (τ : BlockReader) (at : ℕ) → ReadsOf n bytes τ at
    → Lasts (source_of τ).table (source_of (reader_at bytes (next_block n bytes τ.block.cursor τ.table))).table
of_lasts n few bytes clean τ at h = go y.block.halted refl
  where
    y : Next
    y = next_block n bytes τ.block.cursor τ.table

    go : (u : Bool) → y.block.halted ≡ u → Lasts (source_of τ).table (source_of (reader_at bytes y)).table
    go true e =
        end-lasts n bytes few τ.block.cursor τ.table (of-next n few bytes τ at h) y.block y.table refl e clean
        (of-later n few bytes τ at h)
    go false e =
        block-lasts n bytes few τ.block.cursor τ.table (of-next n few bytes τ at h) y.block y.table refl e
        (of-later n few bytes τ at h)

-- where a cursor has come to word `at`, the next block begins there, or the stream ends
reader-comes : (n : ℕ) → n ≤ option_limit → (bytes : List ℕ) → (reading n bytes).fault ≡ none → (x : ℕ → Bool) → x ≡ held_of n bytes
    → (c : ReadCursor) (t : List NodeRecord) → StandsAt n bytes c t → (at : ℕ) → c.run.covered ≡ at
    → Reads n (reader_at bytes (next_block n bytes c t)) at x ⊎ Ends n (reader_at bytes (next_block n bytes c t)) at x
reader-comes n few bytes clean x e c t h at i = go y.block.halted refl
  where
    y : Next
    y = next_block n bytes c t

    go : (u : Bool) → y.block.halted ≡ u → Reads n (reader_at bytes y) at x ⊎ Ends n (reader_at bytes y) at x
    go true k = inr (record {
      bytes = bytes;
      input = e;
      over = k;
      all = omega (arith, i, block_last n bytes few c t h y.block y.table refl k clean);
      ordered = block-ordered n bytes few c t h y.block y.table refl;
    })
    go false k = inl (record {
      bytes = bytes;
      input = e;
      clean = clean;
      here = record { cursor = c; lent = t; stands = h; called = refl; goes_on = k; begins = i; stream = refl };
    })

-- ---- What the walk over texts asks -----------------------------------------------------------

module _ (n : ℕ) (few : n ≤ option_limit) where
  -- the next block reader, where this one has not ended
  next-on : (τ : BlockReader) (bytes : List ℕ) → τ.block.halted ≡ false → τ.stream ≡ bytes
      → reader_at bytes (next_block n bytes τ.block.cursor τ.table) ≡ next_reader n τ
  next-on τ bytes e s =
      ap (λ (b : List ℕ). reader_at b (next_block n b τ.block.cursor τ.table)) (sym s)
      ∙ ap (λ (u : Bool). cond u τ (reader_at τ.stream (next_block n τ.stream τ.block.cursor τ.table))) (sym e)

  reads-shows : (τ : BlockReader) (at : ℕ) (x : ℕ → Bool) → Reads n τ at x
      → Shows (source_of τ) (n - deep_of τ) (deep_of τ + 1) (λ w. x (at + w))
  reads-shows τ at x h =
      subst (λ (y : ℕ → Bool). Shows (source_of τ) (n - deep_of τ) (deep_of τ + 1) (λ w. y (at + w))) (sym h.input)
      (of_shows n few h.bytes τ at h.here)

  reads-next : (τ : BlockReader) (at : ℕ) (x : ℕ → Bool) → Reads n τ at x
      → Reads n (next_reader n τ) (at + 2 ^ (n - deep_of τ)) x ⊎ Ends n (next_reader n τ) (at + 2 ^ (n - deep_of τ)) x
  reads-next τ at x h =
      let s = h.bytes in
      subst (λ (υ : BlockReader). Reads n υ (at + 2 ^ (n - deep_of τ)) x ⊎ Ends n υ (at + 2 ^ (n - deep_of τ)) x)
      (next-on τ s h.here.goes_on h.here.stream)
      (reader-comes n few s h.clean x h.input τ.block.cursor τ.table (of-next n few s τ at h.here)
      (at + 2 ^ (n - deep_of τ)) (of-covers n few s τ at h.here))

  reads-lasts : (τ : BlockReader) (at : ℕ) (x : ℕ → Bool) → Reads n τ at x → Lasts (source_of τ).table (source_of (next_reader n τ)).table
  reads-lasts τ at x h =
      subst (λ (υ : BlockReader). Lasts (source_of τ).table (source_of υ).table) (next-on τ h.bytes h.here.goes_on h.here.stream)
      (of_lasts n few h.bytes h.clean τ at h.here)

  ends-no : (τ : BlockReader) (e : ℕ) (x : ℕ → Bool) → Ends n τ e x → (w : ℕ) → e ≤ w → x w ≡ false
  ends-no τ e x h w l = ap (λ (y : ℕ → Bool). y w) h.input ∙ held-no n h.bytes w (omega (arith, l, h.all))

  -- STREAMS ARE BLOCK READERS of the walk over texts.
  pub stream-laws : ReaderLaws deep_of source_of ended_of (next_reader n) n (Reads n) (Ends n)
  stream-laws = record {
    reads-deep = λ τ at x h. of-deep n few h.bytes τ at h.here;
    reads-aligned = λ τ at x h. of-aligned n few h.bytes τ at h.here;
    reads-shows = reads-shows;
    reads-sits = λ τ at x h. of-sits n few h.bytes τ at h.here;
    reads_on = λ τ at x h. h.here.goes_on;
    reads-next = reads-next;
    reads-lasts = reads-lasts;
    ends-over = λ τ e x h. h.over;
    ends-stays =
        λ τ e x h. ap (λ (u : Bool). cond u τ (reader_at τ.stream (next_block n τ.stream τ.block.cursor τ.table))) h.over;
    ends-no = ends-no;
    ends-later = λ τ e j x h l. record {
      bytes = h.bytes;
      input = h.input;
      over = h.over;
      all = omega (arith, l, h.all);
      ordered = h.ordered;
    };
    ends-ordered = λ τ e x h. h.ordered;
  }

  -- So the first block of a stream without a fault, or its end.
  pub comes-first : (bytes : List ℕ) (t : List NodeRecord) → (reading n bytes).fault ≡ none → table_limit ≤ length t
      → Comes deep_of source_of ended_of (next_reader n) n (Reads n) (Ends n) (first_reader n bytes t) 0 (held_of n bytes)
  comes-first bytes t clean room =
      reader-comes n few bytes clean (held_of n bytes) refl first_cursor t (first-stands n bytes t room) 0 refl
