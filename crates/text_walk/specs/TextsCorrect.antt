-- One law for each way through code that walks the texts of two inputs with an operation cache, and through code that writes the stream
-- of a run. Inputs are on block readers: each has its stream, the block that was read last, and its lent table. Assumes nothing.
use Rattle.std.specs.Prelude.{◌≡◌, refl, Bool, true, false, cond, not, ◌||◌, List, [], ◌∷◌, ℕ, suc, ◌+◌, ◌-◌, ◌≤◌, ◌<◌, ◌^◌, eqb, ltb}
use Rattle.std.proofs.Common.{sym, ap, ap₂, ◌∙◌, arith, le-leb, lt-ltb, le-ltb}
use Rattle.std.proofs.lemmas.Bool.{lt-leb}
use Rattle.theory_lists.specs.Lists.{differ}
use Rattle.theory_reading.specs.Limits.{option_limit, level_limit, word_limit}
use Rattle.theory_reading.specs.Bytes.{opener}
use Rattle.theory_lists.specs.Powers.{both_halves}
use Rattle.theory_writing.specs.Texts.{tilde_if}
use Rattle.theory_writing.specs.Run.{head, operate}
use Rattle.theory_engine.specs.Pending.{Waiting, push_all, wait_in}
use Rattle.theory_engine.specs.Engine as E
use Rattle.theory_applying.specs.Applying.{Source}
use Rattle.theory_applying.specs.Operands as T
use Rattle.theory_applying.specs.TextCorrect.{inside-option, inside-text}
use Rattle.theory_applying.specs.Memo.{slot_of}
use Rattle.theory_applying.specs.Recalling.{Recalled, recall_in}
use Rattle.theory_applying.specs.Carrying.{Carried, recalled_on}
use Rattle.theory_applying.specs.CarryCorrect.{carry-edges, carry-halted, carry-ended, carry-done, carry-on, merge-correct, merge-head, merge-body}
use Rattle.theory_applying.specs.Finishing.{finish_in}
use Rattle.theory_applying.specs.Merging.{merge_in}
use Rattle.theory_combining.specs.BlockReaders.{BlockReader, deep_of, source_of, ended_of, next_reader}
use Rattle.meeting.specs.Abstraction.{progress_of, walked_of}
use Rattle.meeting.specs.declared.Half.{Half}
use Rattle.meeting.specs.declared.Walked.{Walked}
use Rattle.applier.specs.Abstraction.{applied}
use Rattle.applier.specs.declared.Task.{Task}
use Rattle.applier.specs.WalkCorrect.{applied-within, unlike}
use Rattle.std.proofs.Math.Bool.{beq}
use Rattle.text_walk.specs.Abstraction.{Between, gap_with, gap_by, carried_on, walk_texts, nodes_by, stream_by}
use Rattle.text_walk.specs.declared.Applied.{Applied}
use Rattle.node_records.specs.declared.WriterRecord.{WriterRecord}

-- no option is left, or no input is in its text and all words are covered, from `at` on
abbrev pub at_edges : Task → ℕ → ℕ → T.Operand BlockReader → T.Operand BlockReader → Bool
at_edges k d at φ ψ = eqb d 0 || not ((φ.in_text || (ψ.in_text || false)) || ltb k.covered (at + 2 ^ d))

-- what an input decides at the first word of a part
abbrev pub first_value_at : T.Operand BlockReader → Bool
first_value_at φ = cond φ.in_text (source_of φ.reader).complement φ.complement

-- ---- What is asked ---------------------------------------------------------------------------

-- v: as code tests whether all inputs are at edges
pub some-option : (k : Task) (d at : ℕ) (f g v : Bool) → v ≡ (eqb d 0 || not ((f || (g || false)) || ltb k.covered (at + 2 ^ d))) → v ≡ false
    → 0 < d
some-option k d at f g v e h = inside-option d ((f || (g || false)) || ltb k.covered (at + 2 ^ d)) (sym e ∙ h)

pub one_down : (d : ℕ) → 1 ≤ d → d ≡ suc (d - 1)
one_down d h = omega (arith, h)

-- of each half of a part of d options at level i whose words begin with `at`; t: the measure
pub first-asks : (d i at t : ℕ) → (d ≡ t) × ((d ≤ option_limit) × ((i + d ≤ level_limit) × (at + 2 ^ d ≤ word_limit))) → 1 ≤ d
    → (d - 1 < t) × ((d - 1 ≤ option_limit) × ((i + 1 + (d - 1) ≤ level_limit) × (at + 2 ^ (d - 1) ≤ word_limit)))
first-asks d i at t p h =
    let e = both_halves d (λ z. omega (arith, z, h)) in
    (omega (arith, p, h), (omega (arith, p, h), (omega (arith, p, h), omega (arith, p, e))))

pub second-asks : (d i at t k : ℕ) → (d ≡ t) × ((d ≤ option_limit) × ((i + d ≤ level_limit) × (at + 2 ^ d ≤ word_limit))) → 1 ≤ d → k ≡ 2 ^ (d - 1)
    → (d - 1 < t) × ((d - 1 ≤ option_limit) × ((i + 1 + (d - 1) ≤ level_limit) × (at + k + 2 ^ (d - 1) ≤ word_limit)))
second-asks d i at t k p h q =
    let e = both_halves d (λ z. omega (arith, z, h)) in
    (omega (arith, p, h), (omega (arith, p, h), (omega (arith, p, h), omega (arith, p, e, q))))

-- ---- The walk --------------------------------------------------------------------------------

or_l : (a b : Bool) → (a || b) ≡ false → a ≡ false
or_l false b e = refl
or_l true b e = e

-- what a part came to, from r, on the block readers τ and σ
abbrev pub came_to : Walked → Bool → BlockReader → BlockReader → List WriterRecord → List ℕ → List ℕ → List (List ℕ) → Carried BlockReader
came_to r b τ σ t out w μ =
    record { applied = record { walked = walked_of r t out w; readers = τ ∷ σ ∷ []; ended = b }; memo = μ }

module _ (k : Task) (e i at m : ℕ) (φ ψ : T.Operand BlockReader) (μ : List (List ℕ)) (t : List WriterRecord) (out w : List ℕ) (progress : E.Progress) where
  abbrev inputs : List (T.Operand BlockReader)
  inputs = φ ∷ ψ ∷ []

  abbrev whole : Carried BlockReader
  whole = walk_texts k e i at m inputs μ t out w progress

  -- all inputs at edges, p and q; c: as code tests it
  pub texts-edges : (p q : Source) (r : Walked) (v : List WriterRecord) (o z : List ℕ) (ν : List (List ℕ))
      (c : Bool) → c ≡ at_edges k e at φ ψ → c ≡ true → e ≤ option_limit → i + e ≤ level_limit
      → p ≡ T.edge_of deep_of source_of ended_of (next_reader k.n) φ → q ≡ T.edge_of deep_of source_of ended_of (next_reader k.n) ψ
      → record { walked = walked_of r v o z; memo = ν } ≡ applied k.op k.size e i m (p ∷ q ∷ []) μ t out w progress
      → came_to r false φ.reader ψ.reader v o z ν ≡ whole
  texts-edges p q r v o z ν c ce h few low pe qe walked =
      ap (λ (r : Recalled). recalled_on r (φ.reader ∷ ψ.reader ∷ []))
      (walked ∙ sym (applied-within k.op k.size e i m (p ∷ q ∷ []) μ t out w progress few (omega (arith, low)))
      ∙ ap₂ (λ (p q : Source). recall_in slot_of (operate k.op) k.size e i m (p ∷ q ∷ []) μ t out w progress) pe qe)
      ∙ carry-edges deep_of source_of ended_of (next_reader k.n) slot_of (operate k.op) k.covered k.size i at m inputs μ t out w progress e (sym ce ∙ h)

  -- not so; φ₁, ψ₁: the inputs at the first half; p: what waits before it; a: what code came to there, on the block readers τ₁ and σ₁
  module _ (d : ℕ) (n : e ≡ suc d) (c₀ : Bool) (e₀ : c₀ ≡ at_edges k e at φ ψ) (h : c₀ ≡ false) (φ₁ ψ₁ : T.Operand BlockReader) (p : Waiting)
      (a : Applied) (τ₁ σ₁ : BlockReader) (v : List WriterRecord) (o z : List ℕ) (ν : List (List ℕ))
      (first₁ : φ₁ ≡ T.first_operand deep_of source_of ended_of (next_reader k.n) i φ)
      (first₂ : ψ₁ ≡ T.first_operand deep_of source_of ended_of (next_reader k.n) i ψ) (pushed : p ≡ push_all w m (opener ∷ []))
      (walked : carried_on a τ₁ σ₁ v o z ν ≡ walk_texts k d (i + 1) at p.count (φ₁ ∷ ψ₁ ∷ []) μ t out p.bytes progress) where
    -- the inputs there
    abbrev inputs₁ : List (T.Operand BlockReader)
    inputs₁ = φ₁ ∷ ψ₁ ∷ []

    went : inputs₁ ≡ T.first_operands deep_of source_of ended_of (next_reader k.n) i inputs
    went = ap₂ (λ (a b : T.Operand BlockReader). a ∷ b ∷ []) first₁ first₂

    some : (T.any_text inputs || ltb k.covered (at + 2 ^ e)) ≡ true
    some = inside-text e ((φ.in_text || (ψ.in_text || false)) || ltb k.covered (at + 2 ^ e)) (sym e₀ ∙ h)

    -- what code came to there
    abbrev here : Carried BlockReader
    here = carried_on a τ₁ σ₁ v o z ν

    -- nothing is walked after the first half; c: as code tests it
    pub texts-halted : (c : Bool) → c ≡ (a.ended || a.walked.progress.full) → c ≡ true → here ≡ whole
    texts-halted c ce z' =
        carry-halted deep_of source_of ended_of (next_reader k.n) slot_of (operate k.op) k.covered k.size d i at m inputs μ t out w progress e
        n some inputs₁ p here went pushed walked (sym ce ∙ z')

    -- j: the words of a half
    module _ (j : ℕ) (words : j ≡ 2 ^ d) (c : Bool) (ce : c ≡ (a.ended || a.walked.progress.full)) (goes : c ≡ false) where
      -- the covered words end with the first half
      pub texts-ended : k.covered ≤ at + j → came_to a.walked true τ₁ σ₁ v o z ν ≡ whole
      texts-ended l =
          carry-ended deep_of source_of ended_of (next_reader k.n) slot_of (operate k.op) k.covered k.size d i at m inputs μ t out w
          progress e n some inputs₁ p here went pushed walked j words (sym ce ∙ goes) (le-leb k.covered (at + j) l)

      -- φ₂, ψ₂: the inputs at the second half; gap: what is between the halves; b: what code came to there, on the block readers τ₃ and σ₃
      module _ (more : at + j < k.covered) (φ₂ ψ₂ : T.Operand BlockReader) (gap : Between) (b : Applied) (τ₃ σ₃ : BlockReader) (y₃ : List WriterRecord)
          (o₃ w₂ : List ℕ) (ν₂ : List (List ℕ)) (second₁ : φ₂ ≡ T.second_operand deep_of source_of ended_of (next_reader k.n) i (T.on_reader φ τ₁))
          (second₂ : ψ₂ ≡ T.second_operand deep_of source_of ended_of (next_reader k.n) i (T.on_reader ψ σ₁))
          (crossed : gap ≡ gap_by k.op p.count (first_value_at φ₂) (first_value_at ψ₂) a.walked.half z)
          (both : carried_on b τ₃ σ₃ y₃ o₃ w₂ ν₂
          ≡ walk_texts k d (i + 1) (at + j) gap.waiting.count (φ₂ ∷ ψ₂ ∷ []) ν v o gap.waiting.bytes (progress_of a.walked.progress))
        where
          -- the inputs there
          abbrev inputs₂ : List (T.Operand BlockReader)
          inputs₂ = φ₂ ∷ ψ₂ ∷ []

          gone : inputs₂ ≡ T.second_operands deep_of source_of ended_of (next_reader k.n) i (T.resume inputs here.applied.readers)
          gone = ap₂ (λ (a b : T.Operand BlockReader). a ∷ b ∷ []) second₁ second₂

          -- what the first word of the second half comes to, and what waits of the first
          abbrev starts : Bool
          starts = operate k.op (first_value_at φ₂ ∷ first_value_at ψ₂ ∷ [])

          abbrev waits : Waiting
          waits = wait_in z p.count a.walked.half.wrote a.walked.half.skipped a.walked.half.number

          half : gap.half ≡ here.applied.walked.half
          half = ap (λ (x : Between). x.half) crossed

          complement : gap.complement ≡ differ gap.half.complement starts
          complement = ap (λ (x : Between). x.complement) crossed ∙ ap (λ (x : E.Half). differ x.complement starts) (sym half)

          waited : waits ≡ wait_in z p.count gap.half.wrote gap.half.skipped gap.half.number
          waited = ap (λ (x : E.Half). wait_in z p.count x.wrote x.skipped x.number) (sym half)

          ready : gap.waiting ≡ push_all waits.bytes waits.count (tilde_if gap.complement)
          ready =
              ap (λ (x : Between). x.waiting) crossed
              ∙ ap (λ (u : Bool). push_all waits.bytes waits.count (tilde_if u)) (sym (ap (λ (x : Between). x.complement) crossed))

          abbrev there : Carried BlockReader
          there = carried_on b τ₃ σ₃ y₃ o₃ w₂ ν₂

          -- nothing is walked after the second half; c': as code tests it
          pub texts-done : (c' : Bool) → c' ≡ (b.ended || b.walked.progress.full) → c' ≡ true → there ≡ whole
          texts-done c' e' f' =
              carry-done deep_of source_of ended_of (next_reader k.n) slot_of (operate k.op) k.covered k.size d i at m inputs μ t out w
              progress e n some inputs₁ p here went pushed walked j words (sym ce ∙ goes) (lt-leb k.covered (at + j) more)
              gap.half (progress_of a.walked.progress) inputs₂ starts gap.complement waits gap.waiting there half refl gone refl complement waited ready
              both
              (sym e' ∙ f')

          -- the halves meet: s
          pub texts-on : (c' : Bool) → c' ≡ (b.ended || b.walked.progress.full) → c' ≡ false → (s : Walked)
              (s₃ : List WriterRecord) (o₄ w₃ : List ℕ)
              → walked_of s s₃ o₄ w₃ ≡ E.second_in k.size i gap.waiting.count gap.complement gap.half (walked_of b.walked y₃ o₃ w₂)
              → came_to s b.ended τ₃ σ₃ s₃ o₄ w₃ ν₂ ≡ whole
          texts-on c' e' f' s s₃ o₄ w₃ met =
              ap₂ (λ (s : E.Walked) (h : Bool). record { applied = record { walked = s; readers = τ₃ ∷ σ₃ ∷ []; ended = h }; memo = ν₂ })
              met (or_l b.ended b.walked.progress.full (sym e' ∙ f'))
              ∙ carry-on deep_of source_of ended_of (next_reader k.n) slot_of (operate k.op) k.covered k.size d i at m inputs μ t out w
              progress e n some inputs₁ p here went pushed walked j words (sym ce ∙ goes) (lt-leb k.covered (at + j) more)
              gap.half (progress_of a.walked.progress) inputs₂ starts gap.complement waits gap.waiting there half refl gone refl complement waited ready
              both
              (sym e' ∙ f')

-- ---- Between the halves ----------------------------------------------------------------------

-- as code has it; q₁, q₂: what the inputs decide, l: what that comes to, q: with the first half (h) waiting
pub gap-correct : (op m : ℕ) (q₁ q₂ u₁ u₂ l : Bool) (h : Half) (w : List ℕ) (q : Waiting) → q₁ ≡ u₁ → q₂ ≡ u₂
    → l ≡ operate op (q₁ ∷ q₂ ∷ []) → q ≡ wait_in w m h.wrote h.skipped h.number → gap_with h (not (beq h.complement l)) q ≡ gap_by op m u₁ u₂ h w
gap-correct op m q₁ q₂ u₁ u₂ l h w q e₁ e₂ le qe =
    ap₂ (gap_with h) (unlike h.complement l ∙ ap (differ h.complement) (le ∙ ap₂ (λ (a b : Bool). operate op (a ∷ b ∷ [])) e₁ e₂)) qe

-- ---- The stream ------------------------------------------------------------------------------

-- s: what is sent before the outermost node; q₁, q₂: what the inputs decide at the first word; a: what code came to
pub nodes-code : (k : Task) (φ ψ : T.Operand BlockReader) (μ : List (List ℕ)) (t : List WriterRecord) (q₁ q₂ l : Bool) (s : E.Sent) (m : Waiting) (progress : E.Progress)
    (a : Applied) (τ₁ σ₁ : BlockReader) (v : List WriterRecord) (o z : List ℕ) (ν : List (List ℕ))
    → q₁ ≡ first_value_at φ → q₂ ≡ first_value_at ψ → l ≡ operate k.op (q₁ ∷ q₂ ∷ []) → m ≡ push_all s.waits 0 (tilde_if l) → progress
    ≡ E.progress_after s
    → carried_on a τ₁ σ₁ v o z ν ≡ walk_texts k k.n 1 0 m.count (φ ∷ ψ ∷ []) μ t s.output m.bytes progress
    → finish_in k.n k.covered m.count (carried_on a τ₁ σ₁ v o z ν).applied ≡ nodes_by k (φ ∷ ψ ∷ []) μ t s
nodes-code k φ ψ μ t q₁ q₂ l s m progress a τ₁ σ₁ v o z ν turn₁ turn₂ first pushed pe walked =
    merge-correct deep_of source_of ended_of (next_reader k.n) slot_of (operate k.op) k.n k.covered k.size (φ ∷ ψ ∷ []) μ t s l m progress
    (carried_on a τ₁ σ₁ v o z ν)
    (first ∙ ap₂ (λ (a b : Bool). operate k.op (a ∷ b ∷ [])) turn₁ turn₂) pushed pe walked

module _ (k : Task) (fs : List (T.Operand BlockReader)) (μ : List (List ℕ)) (t : List WriterRecord) (out w : List ℕ) where
  -- of more options than may be nothing goes out
  pub stream-past : option_limit < k.n → record { written = 0; full = true; output = out; waits = w } ≡ stream_by k fs μ t out w
  stream-past h =
      sym (ap (λ (b : Bool). cond b (record { written = 0; full = true; output = out; waits = w })
      (merge_in deep_of source_of ended_of (next_reader k.n) slot_of (operate k.op) k.n k.covered k.size fs μ t out w))
      (lt-ltb option_limit k.n h))

  -- else what the engine sends
  pub stream-within : k.n ≤ option_limit → stream_by k fs μ t out w
      ≡ merge_in deep_of source_of ended_of (next_reader k.n) slot_of (operate k.op) k.n k.covered k.size fs μ t out w
  stream-within h =
      ap (λ (b : Bool). cond b (record { written = 0; full = true; output = out; waits = w })
      (merge_in deep_of source_of ended_of (next_reader k.n) slot_of (operate k.op) k.n k.covered k.size fs μ t out w)) (le-ltb option_limit k.n h)

  module _ (h : k.n ≤ option_limit) (a : Waiting) (x : E.Sent) (pushed : a ≡ push_all w 0 (head k.size))
      (sent : x ≡ E.send_text out a.bytes 0 a.count) where
    -- the size and its LF, and no more
    pub stream-head : (x.full || eqb k.covered 0) ≡ true → x ≡ stream_by k fs μ t out w
    stream-head f =
        merge-head deep_of source_of ended_of (next_reader k.n) slot_of (operate k.op) k.n k.covered k.size fs μ t out w a x pushed sent
        f ∙ sym (stream-within h)

    -- and the nodes, y
    pub stream-body : (x.full || eqb k.covered 0) ≡ false → (y : E.Sent) → y ≡ nodes_by k fs μ t x
        → y ≡ stream_by k fs μ t out w
    stream-body f y ye =
        ye
        ∙ merge-body deep_of source_of ended_of (next_reader k.n) slot_of (operate k.op) k.n k.covered k.size fs μ t out w a x pushed sent
        f ∙ sym (stream-within h)
