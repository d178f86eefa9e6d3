-- One law for each way through code that walks stored nodes as Recalling has it. Assumes nothing.
use Rattle.std.specs.Prelude.{◌≡◌, Bool, true, false, ◌||◌, List, [], ◌∷◌, ℕ, suc, ◌+◌}
use Rattle.std.proofs.Math.Path.{refl, ap}
use Rattle.std.proofs.Common.{sym, ap₂, ◌∙◌}
use Rattle.std.proofs.Math.Bool.{cond}
use Rattle.theory_lists.specs.Lists.{differ}
use Rattle.theory_reading.specs.Bytes.{opener}
use Rattle.theory_writing.specs.Texts.{tilde_if}
use Rattle.theory_engine.specs.Pending.{Waiting, push_all, wait_in}
use Rattle.theory_engine.specs.Engine.{Half, Progress, Walked, constant_half, number_half, kept, second_in}
use Rattle.theory_applying.specs.Applying.{Source, first_sources, second_sources, first_values, all_pass, fixed}
use Rattle.theory_applying.specs.Memo.{entry_for, look_up_in, told_half, remember_in}
use Rattle.theory_applying.specs.Recalling.{Recalled, unnoted, alike_part, noted_in, recall_in}
use Rattle.node_records.specs.declared.WriterRecord.{WriterRecord}

-- ---- The ways --------------------------------------------------------------------------------

-- one word; c: what it comes to
pub recall-word : (hash : List ℕ → ℕ) (op : List Bool → Bool) (size d i m : ℕ) (xs : List Source) (μ : List (List ℕ)) (t : List WriterRecord)
    (out w : List ℕ) (progress : Progress) (c : Bool) → d ≡ 0 → c ≡ op (first_values xs)
    → unnoted (kept (constant_half c) t out w progress) μ ≡ recall_in hash op size d i m xs μ t out w progress
unfolding recall_in
recall-word hash op size d i m xs μ t out w progress c e v =
    ap (λ (c : Bool). unnoted (kept (constant_half c) t out w progress) μ) v
    ∙ ap (λ (d : ℕ). recall_in hash op size d i m xs μ t out w progress) (sym e)

-- two halves of one part, d + 1 options
module _ (hash : List ℕ → ℕ) (op : List Bool → Bool) (size d i m : ℕ) (xs : List Source) (μ : List (List ℕ)) (t : List WriterRecord) (out w : List ℕ)
    (progress : Progress) where
  -- the part, of e options
  abbrev whole : ℕ → Recalled
  whole e = recall_in hash op size e i m xs μ t out w progress

  -- the first half, after the bytes p; ys: the inputs there
  abbrev first_from : List Source → Waiting → Recalled
  first_from ys p = recall_in hash op size d (i + 1) p.count ys μ t out p.bytes progress

  -- the second half after the first, a, and the bytes r, if it is walked; zs: the inputs there, x: the progress after the first
  abbrev walked_from : List Source → Recalled → Progress → Waiting → Recalled
  walked_from zs a x r =
      recall_in hash op size d (i + 1) r.count zs a.memo a.walked.table a.walked.output r.bytes x

  -- if it is what the first came to; c: what its first word comes to
  abbrev again_from : Bool → Recalled → Half → Progress → Waiting → Recalled
  again_from c a g x r =
      unnoted (kept (number_half g.number g.stamp g.skipped c false) a.walked.table a.walked.output r.bytes x)
      a.memo

  -- by either way
  abbrev second_from : List Source → Recalled → Half → Progress → Waiting → Recalled
  second_from zs a g x r = cond (alike_part i xs g) (again_from (op (first_values zs)) a g x r) (walked_from zs a x r)

  -- what waits of the first half, which had p before it and came to g
  abbrev wait_of : Waiting → Recalled → Half → Waiting
  wait_of p a g = wait_in a.walked.waits p.count g.wrote g.skipped g.number

  -- both halves met, with the `~` u and the bytes r between them; b: the second
  abbrev met_by : Bool → Half → Waiting → Recalled → Recalled
  met_by u g r b = noted_in hash i xs (second_in size i r.count u g b.walked) b.memo

  -- from the first half on, with what the second begins with
  abbrev started : List Source → Waiting → Recalled → Half → Recalled
  started zs p a g =
      let u = differ g.complement (op (first_values zs)) in
      let q = wait_of p a g in
      let r = push_all q.bytes q.count (tilde_if u) in
      met_by u g r (second_from zs a g a.walked.progress r)

  -- unless more was sent than the output holds
  abbrev after_first : Waiting → Recalled → Recalled
  after_first p a = cond a.walked.progress.full a (started (second_sources i xs) p a a.walked.half)

  constant-suc : fixed op xs ≡ true → unnoted (kept (constant_half (op (first_values xs))) t out w progress) μ ≡ whole (suc d)
  unfolding recall_in
  constant-suc h = rw h refl

  told-suc : fixed op xs ≡ false → look_up_in hash μ xs t ≡ true
      → unnoted (kept (told_half (entry_for hash μ xs) i t) t out w progress) μ ≡ whole (suc d)
  unfolding recall_in
  told-suc h k =
      let p = push_all w m (opener ∷ []) in
      let z = unnoted (kept (constant_half (op (first_values xs))) t out w progress) μ in
      let y = unnoted (kept (told_half (entry_for hash μ xs) i t) t out w progress) μ in
      ap (λ (b : Bool). cond b y (after_first p (first_from (first_sources i xs) p))) (sym k)
      ∙ ap (λ (b : Bool). cond b z (cond (look_up_in hash μ xs t) y (after_first p (first_from (first_sources i xs) p)))) (sym h)

  halves-suc : fixed op xs ≡ false → look_up_in hash μ xs t ≡ false →
      let p = push_all w m (opener ∷ []) in after_first p (first_from (first_sources i xs) p) ≡ whole (suc d)
  unfolding recall_in
  halves-suc h k =
      let p = push_all w m (opener ∷ []) in
      let z = unnoted (kept (constant_half (op (first_values xs))) t out w progress) μ in
      let y = unnoted (kept (told_half (entry_for hash μ xs) i t) t out w progress) μ in
      ap (λ (b : Bool). cond b y (after_first p (first_from (first_sources i xs) p))) (sym k)
      ∙ ap (λ (b : Bool). cond b z (cond (look_up_in hash μ xs t) y (after_first p (first_from (first_sources i xs) p)))) (sym h)

  -- e options, what op comes to is fixed; c: what they come to
  pub recall-constant : (e : ℕ) (c : Bool) → e ≡ suc d → fixed op xs ≡ true → c ≡ op (first_values xs)
      → unnoted (kept (constant_half c) t out w progress) μ ≡ whole e
  recall-constant e c n h v =
      ap (λ (c : Bool). unnoted (kept (constant_half c) t out w progress) μ) v ∙ constant-suc h ∙ ap whole (sym n)

  -- the memo tells what they come to, y
  pub recall-told : (e : ℕ) (y : Half) → e ≡ suc d → fixed op xs ≡ false → look_up_in hash μ xs t ≡ true → y ≡ told_half (entry_for hash μ xs) i t
      → unnoted (kept y t out w progress) μ ≡ whole e
  recall-told e y n h k v = ap (λ (y : Half). unnoted (kept y t out w progress) μ) v ∙ told-suc h k ∙ ap whole (sym n)

  module _ (e : ℕ) (n : e ≡ suc d) (h : fixed op xs ≡ false) (k : look_up_in hash μ xs t ≡ false) (ys : List Source) (p : Waiting)
      (a : Recalled) (went : ys ≡ first_sources i xs) (pushed : p ≡ push_all w m (opener ∷ [])) (walked : a ≡ first_from ys p) where
    -- with the first half walked
    onward : after_first p a ≡ whole e
    onward =
        ap (after_first p) walked ∙ ap₂ (λ (ys : List Source) (p : Waiting). after_first p (first_from ys p)) went pushed
        ∙ halves-suc h k ∙ ap whole (sym n)

    -- more was sent in the first half than the output holds
    pub recall-full : (x : Progress) → x ≡ a.walked.progress → x.full ≡ true → a ≡ whole e
    recall-full x o f =
        ap (λ (b : Bool). cond b a (started (second_sources i xs) p a a.walked.half))
        (sym (sym (ap (λ (x : Progress). x.full) o) ∙ f)) ∙ onward

    -- g: what the first half came to, x: the progress after it, zs: the inputs at the second half, c: what its first word comes to,
    -- u: the `~` between the halves, b: the second half, y: after both, ν: the memo then
    module _ (g : Half) (x : Progress) (zs : List Source) (c u : Bool) (q r : Waiting) (b : Recalled) (y : Walked) (ν : List (List ℕ))
        (came : g ≡ a.walked.half) (left : x ≡ a.walked.progress) (goes : x.full ≡ false) (gone : zs ≡ second_sources i xs)
        (first : c ≡ op (first_values zs)) (complement : u ≡ differ g.complement c)
        (waited : q ≡ wait_in a.walked.waits p.count g.wrote g.skipped g.number)
        (ready : r ≡ push_all q.bytes q.count (tilde_if u)) (met : y ≡ second_in size i r.count u g b.walked)
        (noted : ν ≡ cond (y.progress.full || all_pass i xs) b.memo (remember_in hash b.memo xs y.half)) where
      -- what is left in the memo
      through : record { walked = y; memo = ν } ≡ met_by u g r b
      through =
          ap (λ (ν : List (List ℕ)). record { walked = y; memo = ν }) noted
          ∙ ap (λ (y : Walked). noted_in hash i xs y b.memo) met

      recall-both : b ≡ second_from zs a g x r → record { walked = y; memo = ν } ≡ whole e
      recall-both s =
          through
          ∙ ap (met_by u g r) (s ∙ ap (λ (x : Progress). second_from zs a g x r) left)
          ∙ ap (λ (r : Waiting). met_by u g r (second_from zs a g a.walked.progress r)) ready
          ∙ ap₂ (λ (u : Bool) (q : Waiting).
          let r = push_all q.bytes q.count (tilde_if u) in met_by u g r (second_from zs a g a.walked.progress r))
          (complement ∙ ap (differ g.complement) first) waited
          ∙ ap₂ (λ (zs : List Source) (g : Half). started zs p a g) gone came
          ∙ ap (λ (b : Bool). cond b a (started (second_sources i xs) p a a.walked.half))
          (sym (sym (ap (λ (x : Progress). x.full) left) ∙ goes))
          ∙ onward

      -- the second half is walked
      pub recall-on : alike_part i xs g ≡ false → b ≡ walked_from zs a x r → record { walked = y; memo = ν } ≡ whole e
      recall-on f s =
          recall-both (s ∙ ap (λ (t : Bool). cond t (again_from (op (first_values zs)) a g x r) (walked_from zs a x r)) (sym f))

      -- it is like the first
      pub recall-again : alike_part i xs g ≡ true → b ≡ again_from c a g x r → record { walked = y; memo = ν } ≡ whole e
      recall-again f s =
          recall-both (s ∙ ap (λ (c : Bool). again_from c a g x r) first
          ∙ ap (λ (t : Bool). cond t (again_from (op (first_values zs)) a g x r) (walked_from zs a x r)) (sym f))
