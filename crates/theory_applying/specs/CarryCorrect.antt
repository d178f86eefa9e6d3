-- One law for each way through code that walks texts as Carrying has it, and through code that runs as Merging has it.
-- Assumes nothing.
use Rattle.std.specs.Prelude.{◌≡◌, Bool, true, false, ◌||◌, List, [], ◌∷◌, leb}
use Rattle.std.proofs.Math.Path.{refl, ap}
use Rattle.std.proofs.Common.{sym, ap₂, ◌∙◌, arith}
use Rattle.std.proofs.Math.Bool.{cond, not}
use Prim.Native.Nat.{ℕ, zero, suc, ◌+◌, ◌^◌}
use Rattle.std.proofs.Math.Dec.{ltb, eqb}
use borrow.Author.Tests.{not-true, ne_eqb}
use Rattle.theory_lists.specs.Lists.{differ}
use Rattle.theory_reading.specs.Bytes.{opener}
use Rattle.theory_writing.specs.Texts.{tilde_if}
use Rattle.theory_writing.specs.Run.{head}
use Rattle.theory_engine.specs.Pending.{Waiting, push_all, wait_in}
use Rattle.theory_engine.specs.Engine.{Half, Progress, Sent, send_text, progress_after, second_in}
use Rattle.theory_applying.specs.Applying.{Source}
use Rattle.theory_applying.specs.Operands.{Operand, any_text, readers_of, resume, halted, ended_at, went_on, edges_of, first_operands, second_operands}
use Rattle.theory_applying.specs.Operands.{first_values_of}
use Rattle.theory_applying.specs.Finishing.{finish_in}
use Rattle.theory_applying.specs.Recalling.{recall_in}
use Rattle.theory_applying.specs.Carrying.{Carried, carried, recalled_on, carry_in}
use Rattle.theory_applying.specs.Merging.{merge_nodes_in, merge_in}
use Rattle.node_records.specs.declared.WriterRecord.{WriterRecord}

-- two halves of one part, d + 1 options
module _ {BlockReader : Type 0} (deep_of : BlockReader → ℕ) (source_of : BlockReader → Source) (ended_of : BlockReader → Bool)
    (next : BlockReader → BlockReader) (hash : List ℕ → ℕ)
    (op : List Bool → Bool) (c size d i at m : ℕ) (fs : List (Operand BlockReader)) (μ : List (List ℕ)) (t : List WriterRecord)
    (out w : List ℕ) (progress : Progress) where
  -- the part, of e options
  abbrev whole : ℕ → Carried BlockReader
  whole e = carry_in deep_of source_of ended_of next hash op c size e i at m fs μ t out w progress

  -- all inputs at edges
  abbrev edges : ℕ → Carried BlockReader
  edges e = recalled_on (recall_in hash op size e i m (edges_of deep_of source_of ended_of next fs) μ t out w progress) (readers_of fs)

  -- the first half, after the bytes p; ys: the inputs there
  abbrev first_from : List (Operand BlockReader) → Waiting → Carried BlockReader
  first_from ys p = carry_in deep_of source_of ended_of next hash op c size d (i + 1) at p.count ys μ t out p.bytes progress

  -- the second half after the first, a, and the bytes r; zs: the inputs there, k: the words of a half, x: the progress after the first
  abbrev second_from : List (Operand BlockReader) → ℕ → Carried BlockReader → Progress → Waiting → Carried BlockReader
  second_from zs k a x r =
      carry_in deep_of source_of ended_of next hash op c size d (i + 1) (at + k) r.count zs a.memo a.applied.walked.table
      a.applied.walked.output r.bytes x

  -- after the second half, b; g: what the first came to, u: the `~` between them
  abbrev met : Half → Bool → Waiting → Carried BlockReader → Carried BlockReader
  met g u r b =
      cond (halted b.applied) b
      (carried (went_on (second_in size i r.count u g b.applied.walked) b.applied.readers) b.memo)

  -- from the first half on, which had p before it
  abbrev started : List (Operand BlockReader) → ℕ → Waiting → Carried BlockReader → Half → Carried BlockReader
  started zs k p a g =
      let u = differ g.complement (op (first_values_of deep_of source_of ended_of next zs)) in
      let q = wait_in a.applied.walked.waits p.count g.wrote g.skipped g.number in
      let r = push_all q.bytes q.count (tilde_if u) in
      met g u r (second_from zs k a a.applied.walked.progress r)

  -- the inputs at the second half
  abbrev later : Carried BlockReader → List (Operand BlockReader)
  later a = second_operands deep_of source_of ended_of next i (resume fs a.applied.readers)

  -- the first word after it is not covered
  abbrev ending : Carried BlockReader → Carried BlockReader
  ending a = carried (ended_at a.applied) a.memo

  -- unless nothing is walked after the first
  abbrev after_first : ℕ → Waiting → Carried BlockReader → Carried BlockReader
  after_first k p a =
      cond (halted a.applied) a
      (cond (leb c (at + k)) (ending a) (started (later a) k p a a.applied.walked.half))

  edges-suc : (any_text fs || ltb c (at + 2 ^ suc d)) ≡ false → edges (suc d) ≡ whole (suc d)
  unfolding carry_in
  edges-suc h = rw h refl

  halves-suc : (any_text fs || ltb c (at + 2 ^ suc d)) ≡ true →
      let p = push_all w m (opener ∷ []) in
      after_first (2 ^ d) p (first_from (first_operands deep_of source_of ended_of next i fs) p) ≡ whole (suc d)
  unfolding carry_in
  halves-suc h = rw h refl

  module _ (e : ℕ) (n : e ≡ suc d) (h : (any_text fs || ltb c (at + 2 ^ e)) ≡ true) (ys : List (Operand BlockReader)) (p : Waiting)
      (a : Carried BlockReader)
      (went : ys ≡ first_operands deep_of source_of ended_of next i fs) (pushed : p ≡ push_all w m (opener ∷ [])) (walked : a ≡ first_from ys p) where
    -- with the first half walked
    onward : after_first (2 ^ d) p a ≡ whole e
    onward =
        ap (after_first (2 ^ d) p) walked
        ∙ ap₂ (λ (ys : List (Operand BlockReader)) (p : Waiting). after_first (2 ^ d) p (first_from ys p)) went pushed
        ∙ halves-suc (ap (λ (e : ℕ). any_text fs || ltb c (at + 2 ^ e)) (sym n) ∙ h) ∙ ap whole (sym n)

    -- nothing is walked after it
    pub carry-halted : halted a.applied ≡ true → a ≡ whole e
    carry-halted f =
        ap (λ (b : Bool). cond b a
        (cond (leb c (at + 2 ^ d)) (ending a) (started (later a) (2 ^ d) p a a.applied.walked.half))) (sym f)
        ∙ onward

    -- k: the words of a half
    module _ (k : ℕ) (words : k ≡ 2 ^ d) (goes : halted a.applied ≡ false) where
      further : cond (leb c (at + k)) (ending a) (started (later a) k p a a.applied.walked.half) ≡ whole e
      further =
          ap (λ (k : ℕ). cond (leb c (at + k)) (ending a) (started (later a) k p a a.applied.walked.half)) words
          ∙ ap (λ (b : Bool). cond b a
          (cond (leb c (at + 2 ^ d)) (ending a) (started (later a) (2 ^ d) p a a.applied.walked.half))) (sym goes)
          ∙ onward

      -- the covered words end with the first half
      pub carry-ended : leb c (at + k) ≡ true → ending a ≡ whole e
      carry-ended f = ap (λ (b : Bool). cond b (ending a) (started (later a) k p a a.applied.walked.half)) (sym f) ∙ further

      -- g: what the first half came to, x: the progress after it, zs: the inputs at the second, v: what its first word comes to,
      -- u: the `~` between the halves
      module _ (more : leb c (at + k) ≡ false) (g : Half) (x : Progress) (zs : List (Operand BlockReader)) (v u : Bool) (q r : Waiting)
          (b : Carried BlockReader) (came : g ≡ a.applied.walked.half) (left : x ≡ a.applied.walked.progress) (gone : zs ≡ later a)
          (first : v ≡ op (first_values_of deep_of source_of ended_of next zs)) (complement : u ≡ differ g.complement v)
          (waited : q ≡ wait_in a.applied.walked.waits p.count g.wrote g.skipped g.number)
          (ready : r ≡ push_all q.bytes q.count (tilde_if u)) (both : b ≡ second_from zs k a x r) where
        -- with both halves walked
        through : met g u r b ≡ whole e
        through =
            ap (met g u r) (both ∙ ap (λ (x : Progress). second_from zs k a x r) left)
            ∙ ap (λ (r : Waiting). met g u r (second_from zs k a a.applied.walked.progress r)) ready
            ∙ ap₂ (λ (u : Bool) (q : Waiting).
            let r = push_all q.bytes q.count (tilde_if u) in met g u r (second_from zs k a a.applied.walked.progress r))
            (complement ∙ ap (differ g.complement) first) waited
            ∙ ap₂ (λ (zs : List (Operand BlockReader)) (g : Half). started zs k p a g) gone came
            ∙ ap (λ (b : Bool). cond b (ending a) (started (later a) k p a a.applied.walked.half)) (sym more)
            ∙ further

        -- nothing is walked after the second
        pub carry-done : halted b.applied ≡ true → b ≡ whole e
        carry-done f =
            ap (λ (z : Bool). cond z b
            (carried (went_on (second_in size i r.count u g b.applied.walked) b.applied.readers) b.memo)) (sym f) ∙ through

        -- the halves meet
        pub carry-on : halted b.applied ≡ false
            → carried (went_on (second_in size i r.count u g b.applied.walked) b.applied.readers) b.memo ≡ whole e
        carry-on f =
            ap (λ (z : Bool). cond z b
            (carried (went_on (second_in size i r.count u g b.applied.walked) b.applied.readers) b.memo)) (sym f) ∙ through

-- ---- All inputs at edges ---------------------------------------------------------------------

-- no option is left, or no input is in its text and all words are covered
module _ {BlockReader : Type 0} (deep_of : BlockReader → ℕ) (source_of : BlockReader → Source) (ended_of : BlockReader → Bool)
    (next : BlockReader → BlockReader) (hash : List ℕ → ℕ)
    (op : List Bool → Bool) (c size i at m : ℕ) (fs : List (Operand BlockReader)) (μ : List (List ℕ)) (t : List WriterRecord)
    (out w : List ℕ) (progress : Progress) where
  pub carry-edges : (d : ℕ) → (eqb d 0 || not (any_text fs || ltb c (at + 2 ^ d))) ≡ true
      → recalled_on (recall_in hash op size d i m (edges_of deep_of source_of ended_of next fs) μ t out w progress) (readers_of fs)
      ≡ carry_in deep_of source_of ended_of next hash op c size d i at m fs μ t out w progress
  unfolding carry_in
  carry-edges zero h = refl
  carry-edges (suc d) h =
      let z = ne_eqb (suc d) 0 (λ e. omega (arith, e)) in
      edges-suc deep_of source_of ended_of next hash op c size d i at m fs μ t out w progress
      (not-true (any_text fs || ltb c (at + 2 ^ suc d))
      (ap (λ (u : Bool). u || not (any_text fs || ltb c (at + 2 ^ suc d))) (sym z) ∙ h))

-- ---- The whole run ---------------------------------------------------------------------------

module _ {BlockReader : Type 0} (deep_of : BlockReader → ℕ) (source_of : BlockReader → Source) (ended_of : BlockReader → Bool)
    (next : BlockReader → BlockReader) (hash : List ℕ → ℕ)
    (op : List Bool → Bool) (n c size : ℕ) (fs : List (Operand BlockReader)) (μ : List (List ℕ)) (t : List WriterRecord) where
  -- the leading `~` and the walk; v: what the first word comes to
  pub merge-correct : (x : Sent) (v : Bool) (m : Waiting) (y : Progress) (a : Carried BlockReader) → v ≡ op (first_values_of deep_of source_of ended_of next fs)
      → m ≡ push_all x.waits 0 (tilde_if v) → y ≡ progress_after x
      → a ≡ carry_in deep_of source_of ended_of next hash op c size n 1 0 m.count fs μ t x.output m.bytes y
      → finish_in n c m.count a.applied ≡ merge_nodes_in deep_of source_of ended_of next hash op n c size fs μ t x
  merge-correct x v m y a e p o q =
      ap (λ (a : Carried BlockReader). finish_in n c m.count a.applied) q
      ∙ ap (λ (y : Progress). walked m y) o
      ∙ ap (λ (m : Waiting). walked m (progress_after x)) (p ∙ ap (λ (v : Bool). push_all x.waits 0 (tilde_if v)) e)
    where
      walked : Waiting → Progress → Sent
      walked m y =
          finish_in n c m.count
          (carry_in deep_of source_of ended_of next hash op c size n 1 0 m.count fs μ t x.output m.bytes y).applied

  module _ (out w : List ℕ) (a : Waiting) (x : Sent) (pushed : a ≡ push_all w 0 (head size))
      (sent : x ≡ send_text out a.bytes 0 a.count) where
    begun : cond (x.full || eqb c 0) x (merge_nodes_in deep_of source_of ended_of next hash op n c size fs μ t x)
        ≡ merge_in deep_of source_of ended_of next hash op n c size fs μ t out w
    unfolding merge_in
    begun =
        ap (λ (x : Sent). cond (x.full || eqb c 0) x (merge_nodes_in deep_of source_of ended_of next hash op n c size fs μ t x))
        (sent ∙ ap (λ (a : Waiting). send_text out a.bytes 0 a.count) pushed)

    -- the size and its LF, and no more
    pub merge-head : (x.full || eqb c 0) ≡ true → x ≡ merge_in deep_of source_of ended_of next hash op n c size fs μ t out w
    merge-head f = ap (λ (b : Bool). cond b x (merge_nodes_in deep_of source_of ended_of next hash op n c size fs μ t x)) (sym f) ∙ begun

    -- and the nodes
    pub merge-body : (x.full || eqb c 0) ≡ false
        → merge_nodes_in deep_of source_of ended_of next hash op n c size fs μ t x ≡ merge_in deep_of source_of ended_of next hash op n c size fs μ t out w
    merge-body f = ap (λ (b : Bool). cond b x (merge_nodes_in deep_of source_of ended_of next hash op n c size fs μ t x)) (sym f) ∙ begun
