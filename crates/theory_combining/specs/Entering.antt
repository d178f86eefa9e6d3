-- HOW AN INPUT ENTERS A RUN: at the terminal, if the operator does not ask it; at its outermost node, if its table has that; else at the first
-- block of its text. So the run of two streams without a fault, whatever words it covers. Assumes nothing.
use Rattle.std.specs.Prelude.{◌≡◌, refl, Bool, true, false, cond, not, ◌&&◌, List, [], ◌∷◌, ℕ, ◌<◌, ◌≤◌, ◌^◌, length, replicate}
use Rattle.std.proofs.Common.{ap, ap₂, ◌∙◌, subst, arith}
use Rattle.std.proofs.Math.Path.{subst⁻¹}
use Rattle.std.proofs.Math.Option.{none}
use Rattle.std.proofs.lemmas.List.{length-replicate}
use Rattle.theory_lists.specs.Lists.{not-differ-true, and_l, and_r}
use Rattle.theory_reading.specs.Limits.{option_limit, table_limit}
use Rattle.theory_reading.specs.Reading.{reading}
use Rattle.theory_reading.specs.Deciding.{complemented, options, decision}
use Rattle.theory_reading.proofs.Lasting.{Ordered}
use Rattle.theory_reading.proofs.TableWalk.{table_walk-zero}
use Rattle.theory_writing.specs.Run.{operate, run_text}
use Rattle.theory_writing.specs.Grows.{run-stable}
use Rattle.theory_writing.specs.Inputs.{May}
use Rattle.theory_engine.specs.Pending.{waiting_limit}
use Rattle.theory_engine.specs.Cells.{zero-cell}
use Rattle.theory_engine.specs.Engine.{Sent}
use Rattle.theory_engine.specs.Streaming.{Wrote}
use Rattle.theory_applying.specs.ApplyLaws.{jointly}
use Rattle.theory_applying.specs.Operands.{Operand}
use Rattle.theory_applying.specs.OperandLaws.{Fed}
use Rattle.theory_applying.specs.Seating.{Seated}
use Rattle.theory_applying.specs.Merging.{merge_in}
use Rattle.theory_applying.specs.MergeLaws.{merge-wrote}
use Rattle.work_table.specs.TableLaws.{table_of}
use Rattle.blocks.specs.Blocks.{ReadBlock}
use Rattle.blocks.specs.Load.{LoadTo, load}
use Rattle.operators.specs.Operators.{opens_first, opens_second}
use Rattle.theory_combining.specs.BlockReaders.{BlockReader, deep_of, source_of, ended_of, next_reader, begun_operand}
use Rattle.theory_combining.specs.BlockReaderLaws.{held_of, held-may, Reads, Ends, stream-laws}
use Rattle.theory_combining.specs.RootOperand.{root_operand, shown_by, root-may, root-fed, root-seated}
use Rattle.theory_combining.specs.Merged.{begun-fed, empty_records, zero-record, begun-seated}
use Rattle.node_records.specs.declared.NodeRecord.{NodeRecord}
use Rattle.node_records.specs.declared.WriterRecord.{WriterRecord}
use Rattle.node_records.specs.Records.{no_writer_record}

-- ---- What the operator does not ask ----------------------------------------------------------

-- it gives the same for both decisions of the first, or of the second
abbrev pub ignores_first : ℕ → Bool
ignores_first op = not (opens_first op false) && not (opens_first op true)

abbrev pub ignores_second : ℕ → Bool
ignores_second op = not (opens_second op false) && not (opens_second op true)

pub first_alike : (op : ℕ) → ignores_first op ≡ true → (a b : Bool) → operate op (false ∷ b ∷ []) ≡ operate op (a ∷ b ∷ [])
first_alike op e false b = refl
first_alike op e true false = not-differ-true _ _ (and_l (not (opens_first op false)) _ e)
first_alike op e true true = not-differ-true _ _ (and_r (not (opens_first op false)) _ e)

pub second_alike : (op : ℕ) → ignores_second op ≡ true → (a b : Bool) → operate op (a ∷ false ∷ []) ≡ operate op (a ∷ b ∷ [])
second_alike op e a false = refl
second_alike op e false true = not-differ-true _ _ (and_l (not (opens_second op false)) _ e)
second_alike op e true true = not-differ-true _ _ (and_r (not (opens_second op false)) _ e)

-- ---- An input --------------------------------------------------------------------------------

-- at the terminal, with the block b on its block reader
abbrev pub blind_operand : List ℕ → ReadBlock → LoadTo → Operand BlockReader
blind_operand s b x = record { reader = record { stream = s; block = b; table = x.table }; in_text = false; number = 0; complement = false }

-- where it enters: x: what loading came to, v: not asked, begun: at the first block of its text
abbrev pub entered : Bool → List ℕ → ReadBlock → LoadTo → Operand BlockReader → Operand BlockReader
entered v s b x begun = cond v (blind_operand s b x) (cond x.whole (root_operand s b x) begun)

-- what loading came to, with the table u
abbrev pub on_table : LoadTo → List NodeRecord → LoadTo
on_table x u = record { answer = x.answer; whole = x.whole; size = x.size; number = x.number; complement = x.complement; table = u }

-- WHAT AN INPUT ENTERS WITH, the block b and the table u; x: what loading came to, v: not asked. Where its table has its outermost node that
-- is kept; where it has not, the table may hold anything
pub record EntersWith (v : Bool) (b : ReadBlock) (x : LoadTo) (u : List NodeRecord) : Type 0 where
  pub long : table_limit ≤ length u
  pub blind : v ≡ true → Ordered (table_of u b.cursor.run.size)
  pub size : v ≡ false → x.whole ≡ true → b.cursor.run.size ≡ x.size
  pub kept : v ≡ false → x.whole ≡ true → u ≡ x.table

-- as what it enters: no, if it is not asked; what its table shows, or its text
abbrev enters : ℕ → List ℕ → LoadTo → Bool → Bool → ℕ → Bool
enters n s x v whole = cond v (λ w. false) (cond whole (shown_by n x) (held_of n s))

-- x: what loading the stream s came to
module _ (n : ℕ) (few : n ≤ option_limit) (s : List ℕ) (t : List NodeRecord) (x : LoadTo) (called : x ≡ load n s t)
    (clean : (reading n s).fault ≡ none) (b : ReadBlock) (u : List NodeRecord) where
  -- where it enters, by whether it is asked, and whether its table has its outermost node
  abbrev place : Bool → Bool → Operand BlockReader
  place v whole = cond v (blind_operand s b (on_table x u)) (cond whole (root_operand s b (on_table x u)) (begun_operand n s u))

  entered-fed : (v : Bool) → EntersWith v b x u
      → Fed deep_of source_of ended_of (next_reader n) n (Reads n) (Ends n) 1 n 0 (entered v s b (on_table x u) (begun_operand n s u))
      (enters n s x v x.whole)
  entered-fed v h = go v x.whole refl h
    where
      go : (v whole : Bool) → x.whole ≡ whole → EntersWith v b x u
          → Fed deep_of source_of ended_of (next_reader n) n (Reads n) (Ends n) 1 n 0 (place v whole) (enters n s x v whole)
      go true whole e h = λ w l. ap (complemented false) (table_walk-zero (table_of u b.cursor.run.size) 1 (options n w))
      go false true e h =
          subst⁻¹ (λ (u : List NodeRecord). Fed deep_of source_of ended_of (next_reader n) n (Reads n) (Ends n) 1 n 0
          (root_operand s b (on_table x u)) (shown_by n x)) (h.kept refl e)
          (root-fed n s t x called e b (h.size refl e))
      go false false e h = begun-fed n few s u clean h.long

  entered-seated : (v : Bool) → EntersWith v b x u
      → Seated deep_of source_of ended_of (next_reader n) 1 (entered v s b (on_table x u) (begun_operand n s u))
  entered-seated v h = go v x.whole refl h
    where
      go : (v whole : Bool) → x.whole ≡ whole → EntersWith v b x u → Seated deep_of source_of ended_of (next_reader n) 1 (place v whole)
      go true whole e h = record { ordered = h.blind refl; deep = λ l. absurd (omega (arith, l)) }
      go false true e h =
          subst⁻¹ (λ (u : List NodeRecord). Seated deep_of source_of ended_of (next_reader n) 1 (root_operand s b (on_table x u))) (h.kept refl e)
          (root-seated n s t x called e b (h.size refl e))
      go false false e h = begun-seated n few s u clean h.long

-- ---- The text of a run -----------------------------------------------------------------------

-- an input that is asked enters as a value that the stream may have
entered-may : (n : ℕ) (s : List ℕ) (t : List NodeRecord) (x : LoadTo) → x ≡ load n s t → (w : ℕ) → w < 2 ^ n
    → May (decision n s w) (enters n s x false x.whole w)
entered-may n s t x called w l = go x.whole refl
  where
    go : (whole : Bool) → x.whole ≡ whole → May (decision n s w) (enters n s x false whole w)
    go true e = root-may n s t x called e w l
    go false e = held-may n s w l

-- f is what op makes of any values that two streams may have at the words below c
abbrev pub Makes : ℕ → ℕ → List ℕ → List ℕ → ℕ → (ℕ → Bool) → Type 0
Makes n op x y c f = (w : ℕ) → w < c → (a b : Bool) → May (decision n x w) a → May (decision n y w) b → operate op (a ∷ b ∷ []) ≡ f w

-- X and Y: what loading the streams came to
module _ (n op : ℕ) (x y : List ℕ) (t₁ t₂ : List NodeRecord) (X Y : LoadTo) (loaded₁ : X ≡ load n x t₁) (loaded₂ : Y ≡ load n y t₂) where
  -- an input that is not asked may be anything: what the stream may have, too
  first-value : (w : ℕ) → w < 2 ^ n → (a : Bool) × (May (decision n x w) a × ((b : Bool)
      → operate op (enters n x X (ignores_first op) X.whole w ∷ b ∷ []) ≡ operate op (a ∷ b ∷ [])))
  first-value w l = go (ignores_first op) refl
    where
      go : (v : Bool) → ignores_first op ≡ v → (a : Bool) × (May (decision n x w) a × ((b : Bool)
          → operate op (enters n x X v X.whole w ∷ b ∷ []) ≡ operate op (a ∷ b ∷ [])))
      go true e = (held_of n x w, (held-may n x w l, λ b. first_alike op e (held_of n x w) b))
      go false e = (_, (entered-may n x t₁ X loaded₁ w l, λ b. refl))

  second-value : (w : ℕ) → w < 2 ^ n → (b : Bool) × (May (decision n y w) b × ((a : Bool)
      → operate op (a ∷ enters n y Y (ignores_second op) Y.whole w ∷ []) ≡ operate op (a ∷ b ∷ [])))
  second-value w l = go (ignores_second op) refl
    where
      go : (v : Bool) → ignores_second op ≡ v → (b : Bool) × (May (decision n y w) b × ((a : Bool)
          → operate op (a ∷ enters n y Y v Y.whole w ∷ []) ≡ operate op (a ∷ b ∷ [])))
      go true e = (held_of n y w, (held-may n y w l, λ a. second_alike op e a (held_of n y w)))
      go false e = (_, (entered-may n y t₂ Y loaded₂ w l, λ a. refl))

  -- so the text is that of f
  run-same : (size c : ℕ) → c ≤ 2 ^ n → (f : ℕ → Bool) → Makes n op x y c f
      → run_text n size c
      (jointly (operate op) (enters n x X (ignores_first op) X.whole ∷ enters n y Y (ignores_second op) Y.whole ∷ []))
      ≡ run_text n size c f
  run-same size c l f h = run-stable n size c _ _ (λ w k.
      let a = first-value w (omega (arith, l, k)) in
      let b = second-value w (omega (arith, l, k)) in
      a.1.1 _ ∙ b.1.1 a.0 ∙ h w k a.0 b.0 a.1.0 b.1.0)

-- ---- The run ---------------------------------------------------------------------------------

-- Of two streams without a fault; X and Y: what loading them came to; b₁, b₂, u₁, u₂: the blocks and the tables with which they enter; c: how
-- many words the run covers, f: what is decided on them
module _ (n op size : ℕ) (x y out : List ℕ) (t₁ t₂ : List NodeRecord) (few : n ≤ option_limit) (fits : size ≤ table_limit) (X Y : LoadTo)
    (loaded₁ : X ≡ load n x t₁) (loaded₂ : Y ≡ load n y t₂) (clean₁ : (reading n x).fault ≡ none) (clean₂ : (reading n y).fault ≡ none)
    (b₁ b₂ : ReadBlock) (u₁ u₂ : List NodeRecord) (with₁ : EntersWith (ignores_first op) b₁ X u₁) (with₂ : EntersWith (ignores_second op) b₂ Y u₂)
    (c : ℕ) (most : c ≤ 2 ^ n) (f : ℕ → Bool) (makes : Makes n op x y c f) where
  -- the inputs where they enter
  abbrev first : Operand BlockReader
  first = entered (ignores_first op) x b₁ (on_table X u₁) (begun_operand n x u₁)

  abbrev second : Operand BlockReader
  second = entered (ignores_second op) y b₂ (on_table Y u₂) (begun_operand n y u₂)

  -- the table for writing has k records, the cache g rows of j cells, all zero; w: where bytes wait
  pub entered-wrote : (hash : List ℕ → ℕ) (k g j : ℕ) (w : List ℕ) → table_limit ≤ k → length w ≡ waiting_limit
      → Wrote out (run_text n size c f) (merge_in deep_of source_of ended_of (next_reader n) hash (operate op) n c size
      (first ∷ second ∷ []) (empty_records g j) (replicate k no_writer_record) out w)
  entered-wrote hash k g j w enough waits =
      let z : WriterRecord = no_writer_record in
      subst (λ (text : List ℕ). Wrote out text (merge_in deep_of source_of ended_of (next_reader n) hash (operate op) n c size
      (first ∷ second ∷ []) (empty_records g j) (replicate k no_writer_record) out w))
      (run-same n op x y t₁ t₂ X Y loaded₁ loaded₂ size c most f makes)
      (merge-wrote deep_of source_of ended_of (next_reader n) n c (Reads n) (Ends n) (stream-laws n few) hash (operate op) size
      (first ∷ second ∷ []) (enters n x X (ignores_first op) X.whole ∷ enters n y Y (ignores_second op) Y.whole ∷ []) (empty_records g j)
      (replicate k z) out w few fits (omega (arith, enough, length-replicate k z)) (zero-cell k) waits most (zero-record g j)
      (λ some. (
        (
          entered-fed n few x t₁ X loaded₁ clean₁ b₁ u₁ (ignores_first op) with₁,
          (entered-fed n few y t₂ Y loaded₂ clean₂ b₂ u₂ (ignores_second op) with₂, tt),
        ),
        (
          entered-seated n few x t₁ X loaded₁ clean₁ b₁ u₁ (ignores_first op) with₁,
          (entered-seated n few y t₂ Y loaded₂ clean₂ b₂ u₂ (ignores_second op) with₂, tt),
        ),
      )))

  -- THE RUN; φ, ψ: the inputs where they enter, μ: the cache, t₀: the table for writing, s: what is sent
  pub entered-correct : (hash : List ℕ → ℕ) (k g j : ℕ) (w : List ℕ) → table_limit ≤ k → length w ≡ waiting_limit → (φ ψ : Operand BlockReader)
      → φ ≡ first → ψ ≡ second → (μ : List (List ℕ)) (t₀ : List WriterRecord) → μ ≡ empty_records g j → t₀ ≡ replicate k no_writer_record
      → (s : Sent) → s ≡ merge_in deep_of source_of ended_of (next_reader n) hash (operate op) n c size (φ ∷ ψ ∷ []) μ t₀ out w
      → Wrote out (run_text n size c f) s
  entered-correct hash k g j w enough waits φ ψ φe ψe μ t₀ empty zero s sent =
      subst⁻¹ (Wrote out (run_text n size c f))
      (sent ∙ ap₂ (λ (φ ψ : Operand BlockReader). merge_in deep_of source_of ended_of (next_reader n) hash (operate op) n c size (φ ∷ ψ ∷ []) μ t₀ out w)
      φe ψe
      ∙ ap₂ (λ (μ : List (List ℕ)) (t : List WriterRecord). merge_in deep_of source_of ended_of (next_reader n) hash (operate op) n c size
      (first ∷ second ∷ []) μ t out w) empty zero)
      (entered-wrote hash k g j w enough waits)
