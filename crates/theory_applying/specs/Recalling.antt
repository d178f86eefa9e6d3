-- The walk of a combiner over stored nodes: all inputs at edges of their own tables, with a memo of the parts that it walked. Definitions
-- only; code mirrors them, and RecallLaws ties them to the walk of Online. Assumes nothing.
use Rattle.std.specs.Prelude.{Bool, false, cond, not, ◌&&◌, ◌||◌, List, [], ◌∷◌, ℕ, zero, suc, ◌+◌}
use Rattle.theory_lists.specs.Lists.{differ}
use Rattle.theory_reading.specs.Bytes.{opener}
use Rattle.theory_writing.specs.Texts.{tilde_if}
use Rattle.theory_engine.specs.Pending.{push_all, wait_in}
use Rattle.theory_engine.specs.Engine.{Half, Progress, Walked, constant_half, number_half, kept, second_in}
use Rattle.theory_applying.specs.Applying.{Source, first_sources, second_sources, first_values, all_pass, fixed}
use Rattle.theory_applying.specs.Memo.{entry_for, look_up_in, told_half, remember_in}
use Rattle.node_records.specs.declared.WriterRecord.{WriterRecord}

-- after a part: the engine, and the memo
pub record Recalled : Type 0 where
  pub walked : Walked
  pub memo : List (List ℕ)

-- nothing is noted
abbrev pub unnoted : Walked → List (List ℕ) → Recalled
unnoted x μ = record { walked = x; memo = μ }

-- the first half (h) came to a number or a constant, and the second is alike
abbrev pub alike_part : ℕ → List Source → Half → Bool
alike_part i xs h = not h.temporary && all_pass i xs

-- After the part of level i: what it came to is noted, unless all inputs pass over its level (it is noted then at a deeper one), or more
-- was sent than the output holds
abbrev pub noted_in : (List ℕ → ℕ) → ℕ → List Source → Walked → List (List ℕ) → Recalled
noted_in hash i xs x μ =
    record { walked = x; memo = cond (x.progress.full || all_pass i xs) μ (remember_in hash μ xs x.half) }

-- The part of level i with d options left, after m bytes that wait, with the memo μ; op: what the inputs' decisions come to. A second
-- half that is like a first half which came to a number or a constant is that again
unfoldable pub recall_in : (List ℕ → ℕ) → (List Bool → Bool) → ℕ → ℕ → ℕ → ℕ → List Source → List (List ℕ) → List WriterRecord → List ℕ
    → List ℕ → Progress → Recalled
unfolding fixed
recall_in hash op size zero i m xs μ t out w progress = unnoted (kept (constant_half (op (first_values xs))) t out w progress) μ
recall_in hash op size (suc d) i m xs μ t out w progress =
    let p = push_all w m (opener ∷ []) in
    let a = recall_in hash op size d (i + 1) p.count (first_sources i xs) μ t out p.bytes progress in
    let h = a.walked.half in
    let complement = differ h.complement (op (first_values (second_sources i xs))) in
    let q = wait_in a.walked.waits p.count h.wrote h.skipped h.number in
    let r = push_all q.bytes q.count (tilde_if complement) in
    let v = recall_in hash op size d (i + 1) r.count (second_sources i xs) a.memo a.walked.table a.walked.output r.bytes
    a.walked.progress in
    let b = cond (alike_part i xs h)
    (unnoted (kept (number_half h.number h.stamp h.skipped (op (first_values (second_sources i xs))) false) a.walked.table
    a.walked.output r.bytes a.walked.progress) a.memo) v in
    let e = noted_in hash i xs (second_in size i r.count complement h b.walked) b.memo in
    let c = cond a.walked.progress.full a e in
    let g = cond (look_up_in hash μ xs t) (unnoted (kept (told_half (entry_for hash μ xs) i t) t out w progress) μ) c in
    cond (fixed op xs) (unnoted (kept (constant_half (op (first_values xs))) t out w progress) μ) g
