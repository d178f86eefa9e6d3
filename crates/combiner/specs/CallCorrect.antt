-- The law of a call that is not refused: where the inputs enter, the run, and the tables cleared after it. Assumes nothing.
use Rattle.std.specs.Prelude.{◌≡◌, refl, Bool, true, false, cond, ◌||◌, List, [], ◌∷◌, ℕ, zero, suc, ◌-◌, ◌≤◌, ◌^◌, eqb, ltb, length, get_or, replicate, min, drop, ◌++◌}
use Rattle.std.proofs.Common.{sym, ap, ap₂, ◌∙◌, ⊎_elim, true≢false, arith, drop_of_length-le}
use Rattle.std.proofs.lemmas.List.{append-nil}
use Rattle.std.proofs.Math.Path.{subst⁻¹}
use Rattle.std.proofs.lemmas.List.{length-replicate}
use Rattle.theory_reading.specs.Limits.{option_limit, table_limit}
use Rattle.theory_reading.specs.Nodes.{Node, node}
use Rattle.theory_reading.proofs.Lasting.{Ordered}
use Rattle.theory_reading.specs.Causes.{Result, refused, done, cleared}
use Rattle.theory_reading.specs.Calls.{Checked}
use Rattle.theory_reading.specs.Covered.{covered}
use Rattle.theory_reading.specs.Deciding.{decision}
use Rattle.theory_writing.specs.Run.{operate, whole, input_ended, output_full, Answer}
use Rattle.theory_writing.proofs.Inputs.{run_covered-most}
use Rattle.theory_writing.specs.Calls.{combine}
use Rattle.theory_engine.specs.Pending.{waiting_limit}
use Rattle.theory_engine.specs.Engine.{Sent}
use Rattle.theory_engine.specs.WriteCorrect.{cleared-replicate}
use Rattle.theory_applying.specs.Operands as T
use Rattle.theory_applying.specs.Memo.{slot_of, cache_entries}
use Rattle.work_table.specs.TableLaws.{record_node, table_of, table-node}
use Rattle.answers.specs.Answers.{checking_of}
use Rattle.blocks.specs.Blocks.{ReadBlock, block_in}
use Rattle.blocks.specs.Load.{LoadTo, load_in, load}
use Rattle.blocks.specs.LoadLaws.{load-length, load-ordered}
use Rattle.blocks.specs.declared.Loaded.{Loaded}
use Rattle.theory_combining.specs.BlockReaders.{BlockReader, begun_operand}
use Rattle.theory_combining.specs.RootOperand.{root_operand}
use Rattle.theory_combining.specs.CombineCorrect.{BothCovered, both_covered, both_in}
use Rattle.theory_combining.specs.Merged.{empty_records}
use Rattle.theory_combining.specs.Entering.{ignores_first, ignores_second, blind_operand, entered, EntersWith, entered-correct}
use Rattle.theory_combining.specs.Called.{joint_by, count-makes, called-clean, called-finish}
use Rattle.record_tables.specs.Entries.{clear_to}
use Rattle.pending_text.specs.declared.Sent.{Sent as Given}
use Rattle.covering.specs.Covering.{covered_of, BothTo, both_of, load_both, counted, covered_in}
use Rattle.covering.specs.CoveredCorrect.{Left, Counts, covered-counts}
use Rattle.covering.specs.declared.LoadedBoth.{LoadedBoth}
use Rattle.operands.specs.OperandCorrect.{begun-zero}
use Rattle.text_walk.specs.TextsCorrect.{stream-within}
use Rattle.combiner.specs.Abstraction.{no_opens, entered_by, run_by}
use Rattle.node_records.specs.declared.NodeRecord.{NodeRecord}
use Rattle.node_records.specs.declared.WriterRecord.{WriterRecord}
use Rattle.node_records.specs.Records.{no_record, no_writer_record}

-- ---- Where an input enters -------------------------------------------------------------------

module _ (v : Bool) (s : List ℕ) (b : ReadBlock) (x : LoadTo) (begun : T.Operand BlockReader) where
  abbrev place : Bool → Bool → T.Operand BlockReader
  place v u = cond v (blind_operand s b x) (cond u (root_operand s b x) begun)

  pub enter-blind : v ≡ true → blind_operand s b x ≡ entered v s b x begun
  enter-blind h = sym (ap (λ (v : Bool). place v x.whole) h)

  pub enter-text : (φ : T.Operand BlockReader) → v ≡ false → x.whole ≡ false → φ ≡ begun → φ ≡ entered v s b x begun
  enter-text φ h e g = g ∙ sym (ap₂ place h e)

  pub enter-root : v ≡ false → x.whole ≡ true → root_operand s b x ≡ entered v s b x begun
  enter-root h e = sym (ap₂ place h e)

-- ---- The call --------------------------------------------------------------------------------

-- an input as code has it enters; l: what loading came to, u: the table then, v: it is not asked
enters : (n : ℕ) (s : List ℕ) (l : Loaded) (u : List NodeRecord) (v : Bool)
    → entered_by v n s l u ≡ entered v s (block_in l.block no_opens) (load_in l u) (begun_operand n s u)
enters n s l u v = ap (entered v s (block_in l.block no_opens) (load_in l u)) (begun-zero n s u)

-- a table of zeros
zero_row : (t : List NodeRecord) (k : ℕ) → get_or (cleared no_record t) k no_record ≡ no_record
unfolding cleared
zero_row [] k = refl
zero_row (r ∷ t) zero = refl
zero_row (r ∷ t) (suc k) = zero_row t k

zero-level : (t : List NodeRecord) (z k : ℕ) → (node (table_of (cleared no_record t) z) k).level ≡ 0
zero-level t z k = ap (λ (x : Node). x.level) (table-node (cleared no_record t) z k) ∙ go (eqb k 0 || ltb z k)
  where
    go : (b : Bool) → (record_node (cond b no_record (get_or (cleared no_record t) (k - 1) no_record))).level ≡ 0
    go true = refl
    go false = ap (λ (x : NodeRecord). (record_node x).level) (zero_row t (k - 1))

-- is ordered
zeros-ordered : (t : List NodeRecord) (z : ℕ) → Ordered (table_of (cleared no_record t) z)
zeros-ordered t z k c l = absurd (omega (arith, l, zero-level t z k))

-- WHAT AN INPUT ENTERS WITH: u is the table that loading left, v the one that the count left.
enters-with : (n : ℕ) (s : List ℕ) (t : List NodeRecord) (l : Loaded) (u v : List NodeRecord) → table_limit ≤ length t → load_in l u ≡ load n s t
    → Left (load_in l u) v → (w : Bool) → EntersWith w (block_in l.block no_opens) (load_in l u) v
enters-with n s t l u v room h left w = record {
  long = ⊎_elim (λ (e : v ≡ u). omega (arith, same, room, ap length e))
      (λ e. omega (arith, same, room, ap length e.1, ap length (sym (cleared-replicate no_record u)), length-replicate (length u) no_record)) left;
  blind = λ _. ⊎_elim (λ (e : v ≡ u). subst⁻¹ (λ (t : List NodeRecord). Ordered (table_of t z)) e (load-ordered n s t (load_in l u) h))
      (λ e. subst⁻¹ (λ (t : List NodeRecord). Ordered (table_of t z)) e.1 (zeros-ordered u z)) left;
  size = λ _ _. refl;
  kept = λ _ h. ⊎_elim (λ (e : v ≡ u). e) (λ e. absurd (true≢false (sym h ∙ e.0))) left;
}
  where
    z : ℕ
    z = l.block.cursor.run.size

    same : length u ≡ length t
    same = ap (λ (x : LoadTo). length x.table) h ∙ load-length n s t

-- both counts of streams without a fault
both-counts : (A B : Result Checked) (k : BothCovered) → done k ≡ both_in A B → (covered_of A ≡ k.first) × (covered_of B ≡ k.second)
both-counts (refused f) B k e = let z : ◌≡◌ {A = ℕ} 0 1 = cc in absurd (omega arith)
both-counts (done x) (refused f) k e = let z : ◌≡◌ {A = ℕ} 0 1 = cc in absurd (omega arith)
both-counts (done x) (done y) k e =
    let h : both_covered x.covered y.covered ≡ k = cc in (ap (λ (k : BothCovered). k.first) h, ap (λ (k : BothCovered). k.second) h)

-- past the tests; l: what loading both came to, u₁ and u₂: the tables then
module _ (n op size : ℕ) (x y out : List ℕ) (t₁ t₂ : List NodeRecord) (t : List WriterRecord) (few : n ≤ option_limit) (code : op ≤ 15) (fits : size ≤ table_limit)
    (room₁ : table_limit ≤ length t₁) (room₂ : table_limit ≤ length t₂) (room : table_limit ≤ length t) (l : LoadedBoth) (u₁ u₂ : List NodeRecord)
    (h : both_of l u₁ u₂ ≡ load_both n op x y t₁ t₂) where
  abbrev a : Loaded
  a = l.first.loaded

  abbrev b : Loaded
  b = l.second.loaded

  pub first-loaded : load_in a u₁ ≡ load n x t₁
  first-loaded = ap (λ (z : BothTo). z.first) h

  pub second-loaded : load_in b u₂ ≡ load n y t₂
  second-loaded = ap (λ (z : BothTo). z.second) h

  -- c, v₁, v₂: the count and the tables after it; t₀: the table to write with; r: the answer after the run
  module _ (k : BothCovered) (clean : done k ≡ both_in (checking_of a.checking) (checking_of b.checking)) (c : ℕ) (v₁ v₂ : List NodeRecord)
      (came : counted c v₁ v₂ ≡ covered_in n op x y (both_of l u₁ u₂) k.first k.second) (t₀ : List WriterRecord)
      (empty : t₀ ≡ replicate (length t) no_writer_record) where
    -- what the run sends
    abbrev run : Sent
    run = run_by (record { n = n; op = op; size = size; covered = c }) x y l v₁ v₂ t₀ out

    by-run : (r : Answer)
        → r ≡ record { written = run.written; covered = c; ending = cond run.full output_full (cond (eqb c (2 ^ n)) whole input_ended) }
        → (w₁ w₂ : List NodeRecord) (w : List WriterRecord) → w₁ ≡ replicate (length t₁) no_record → w₂ ≡ replicate (length t₂) no_record
        → w ≡ replicate (length t) no_writer_record
        → record { answer = done r; first = w₁; second = w₂; third = w; output = run.output }
        ≡ combine no_record no_writer_record n op size x y out t₁ t₂ t
    by-run =
        let waits : List ℕ = replicate waiting_limit 0 in
        let X = load_in a u₁ in
        let Y = load_in b u₂ in
        let h₁ = first-loaded in
        let h₂ = second-loaded in
        let g = called-clean n op size x y out t₁ t₂ t few code fits room₁ room₂ room X Y h₁ h₂ k clean in
        let d = both-counts X.answer Y.answer k clean in
        let c₁ : covered_of (load n x t₁).answer ≡ covered n x =
        sym (ap (λ (x : LoadTo). covered_of x.answer) h₁) ∙ d.0 ∙ ap (λ (k : BothCovered). k.first) g.2 in
        let c₂ : covered_of (load n y t₂).answer ≡ covered n y =
        sym (ap (λ (x : LoadTo). covered_of x.answer) h₂) ∙ d.1 ∙ ap (λ (k : BothCovered). k.second) g.2 in
        let m = subst⁻¹ (Counts n op few x y t₁ t₂ room₁ room₂ c₁ c₂)
        (came ∙ ap (λ (z : BothTo). covered_in n op x y z k.first k.second) h
        ∙ ap (λ (k : BothCovered). covered_in n op x y (load_both n op x y t₁ t₂) k.first k.second) g.2)
        (covered-counts n op few x y t₁ t₂ room₁ room₂ c₁ c₂) in
        called-finish n op size x y out t₁ t₂ t few code fits room₁ room₂ room X Y h₁ h₂ k clean c m.count run
        (entered-correct n op size x y out t₁ t₂ few fits X Y h₁ h₂ g.0 g.1 (block_in a.block no_opens) (block_in b.block no_opens) v₁ v₂
        (enters-with n x t₁ a u₁ v₁ room₁ h₁ (subst⁻¹ (λ (z : LoadTo). Left z v₁) h₁ m.first) (ignores_first op))
        (enters-with n y t₂ b u₂ v₂ room₂ h₂ (subst⁻¹ (λ (z : LoadTo). Left z v₂) h₂ m.second) (ignores_second op)) c
        (omega (arith, m.count, run_covered-most (operate op) n (decision n x ∷ decision n y ∷ []))) (joint_by n op x y)
        (count-makes n op x y c m.count) slot_of (length t) cache_entries 9 waits room
        (length-replicate {A = ℕ} waiting_limit 0) (entered_by (ignores_first op) n x a v₁)
        (entered_by (ignores_second op) n y b v₂) (enters n x a v₁ (ignores_first op)) (enters n y b v₂ (ignores_second op))
        (empty_records cache_entries 9) t₀ refl empty run
        (stream-within (record { n = n; op = op; size = size; covered = c })
        (entered_by (ignores_first op) n x a v₁ ∷ entered_by (ignores_second op) n y b v₂ ∷ []) (empty_records cache_entries 9) t₀ out waits few))

    -- s: what code sends, o: the output then, p: how many words there are
    pub ran : (s : Given) (o : List ℕ) (p : ℕ) → s ≡ record { written = run.written; full = run.full } → o ≡ run.output → p ≡ 2 ^ n → (r : Answer)
        → r ≡ record { written = s.written; covered = c; ending = cond s.full output_full (cond (eqb c p) whole input_ended) }
        → (w₁ w₂ : List NodeRecord) (w : List WriterRecord) → w₁ ≡ replicate (length t₁) no_record → w₂ ≡ replicate (length t₂) no_record
        → w ≡ replicate (length t) no_writer_record
        → record { answer = done r; first = w₁; second = w₂; third = w; output = o }
        ≡ combine no_record no_writer_record n op size x y out t₁ t₂ t
    ran s o p se oe pe r re w₁ w₂ w e₁ e₂ e₃ =
        ap (λ (o : List ℕ). record { answer = done r; first = w₁; second = w₂; third = w; output = o }) oe
        ∙ by-run r (re ∙ ap₂ (λ (s : Given) (p : ℕ). record { written = s.written; covered = c; ending = cond s.full output_full (cond (eqb c p) whole input_ended) }) se pe)
        w₁ w₂ w e₁ e₂ e₃

-- ---- After the call --------------------------------------------------------------------------

-- all records are cleared
pub cleared-all : {R : Type 0} (z : R) (t : List R) → clear_to z t (length t) ≡ replicate (length t) z
cleared-all z t =
    let e : min (length t) (length t) ≡ length t = omega arith in
    ap (λ (m : ℕ). replicate m z ++ drop (length t) t) e
    ∙ ap (λ (d : List _). replicate (length t) z ++ d) (drop_of_length-le t {i = length t} (omega arith)) ∙ append-nil (replicate (length t) z)
