-- One law for each way through code that walks the stored nodes of two inputs with an operation cache. Assumes nothing.
use Rattle.std.specs.Prelude.{◌≡◌, refl, Bool, true, false, not, ◌&&◌, ◌||◌, ℕ, suc, ◌+◌, ◌-◌, ◌<◌, ◌≤◌, eqb, ltb, get_or, Option, Some}
use Rattle.std.specs.Option.{is_some}
use Rattle.std.proofs.Common.{sym, ap, ◌∙◌, ◌⊎◌, ⊎_elim, arith, le-ltb}
use Rattle.std.proofs.Math.Path.{ap₂}
use Rattle.std.proofs.Math.Bool.{beq, cond}
use mathlib.Core.List.{List, [], ◌∷◌}
use Rattle.std.proofs.Math.ListN.{set}
use Rattle.theory_lists.specs.Lists.{differ, bit, and_r}
use Rattle.theory_reading.specs.Limits.{option_limit, level_limit}
use Rattle.theory_reading.specs.Nodes.{Node, node, stamp}
use Rattle.theory_reading.specs.Bytes.{opener}
use Rattle.theory_writing.specs.Texts.{tilde_if}
use Rattle.theory_writing.specs.Run.{operate}
use Rattle.theory_engine.specs.Pending.{Waiting, push_all, wait_in}
use Rattle.theory_engine.specs.Engine as E
use Rattle.theory_applying.specs.Applying.{Source, first_source, second_source, passes, all_pass, fixed}
use Rattle.theory_applying.specs.Memo.{key_of, tells, is_empty, is_young, told_half, remember_in, slot_of, entry_for, look_up_in}
use Rattle.theory_applying.specs.MemoCorrect.{key-pair}
use Rattle.theory_applying.specs.Recalling.{Recalled, unnoted, recall_in}
use Rattle.theory_applying.specs.RecallCorrect.{recall-told, recall-full, recall-on, recall-again}
use Rattle.theory_combining.specs.EdgeCorrect.{and_none}
use Rattle.work_table.specs.Table.{get_in}
use Rattle.work_table.specs.TableLaws.{record_node, table_of, table-node}
use Rattle.node_records.specs.declared.NodeRecord.{NodeRecord}
use Rattle.meeting.specs.Abstraction.{half_of}
use Rattle.meeting.specs.declared.Half.{Half}
use Rattle.edges.specs.Abstraction.{edge_in}
use Rattle.edges.specs.declared.TableEdge.{TableEdge}
use Rattle.operation_cache.specs.Abstraction.{key_cells, holds, told_or, tells_by, noted_by}
use Rattle.operation_cache.specs.declared.Key.{Key}
use Rattle.applier.specs.Abstraction.{applied}
use Rattle.node_records.specs.declared.WriterRecord.{WriterRecord}

-- two inputs at their edges
abbrev pub pair : TableEdge → List NodeRecord → TableEdge → List NodeRecord → List Source
pair x t y u = edge_in x t ∷ edge_in y u ∷ []

-- ---- What code reads of an edge --------------------------------------------------------------

-- its record, r
module _ (x : TableEdge) (t : List NodeRecord) (r : NodeRecord) (read : r ≡ get_in t x.size x.edge.number) where
  same-node : record_node r ≡ node (table_of t x.size) x.edge.number
  same-node = ap record_node read ∙ sym (table-node t x.size x.edge.number)

  same-stamp : r.stamp ≡ stamp (table_of t x.size) x.edge.number
  same-stamp = ap (λ (n : Node). n.stamp) same-node

  same-passes : (i : ℕ) → (eqb x.edge.number 0 || ltb i r.level) ≡ passes i (edge_in x t)
  same-passes i = ap (λ (n : Node). eqb x.edge.number 0 || ltb i n.level) same-node

-- ---- What is asked ---------------------------------------------------------------------------

pub one_down : (d : ℕ) → (d ≡ 0 → ⊥) → d ≡ suc (d - 1)
one_down d h = omega (arith, h)

pub one-asks : (d : ℕ) → (d ≡ 0 → ⊥) → 1 ≤ d
one-asks d h = omega (arith, h)

-- what each half of a part of d options at level i asks; t: the measure
pub half-asks : (d i t : ℕ) → (d ≡ t) × (i + d ≤ option_limit + level_limit) → (d ≡ 0 → ⊥) → (d - 1 < t) × (i + 1 + (d - 1) ≤ option_limit + level_limit)
half-asks d i t p h = (omega (arith, p, h), omega (arith, p, h))

-- the `~` between two halves, as code tests it
pub unlike : (a b : Bool) → not (beq a b) ≡ differ a b
unlike true true = refl
unlike true false = refl
unlike false true = refl
unlike false false = refl

-- two tests one after the other, as code learns that one fails
pub not-both : (a b : Bool) → (a ≡ true) × (b ≡ false) ⊎ (a ≡ false) → (a && b) ≡ false
not-both a b = ⊎_elim (λ h. ap₂ ◌&&◌ h.0 h.1) (λ (h : a ≡ false). ap (λ (a : Bool). a && b) h)

-- ---- The ways --------------------------------------------------------------------------------

-- past the options or levels of a rule
pub applied-past : (op size d i m : ℕ) (xs : List Source) (μ : List (List ℕ)) (t : List WriterRecord) (out w : List ℕ) (progress : E.Progress) (b : Bool)
    → (ltb option_limit d || ltb level_limit i) ≡ b → b ≡ true
    → unnoted (E.kept (E.constant_half false) t out w progress) μ ≡ applied op size d i m xs μ t out w progress
applied-past op size d i m xs μ t out w progress b e f =
    sym (ap (λ (b : Bool). cond b (unnoted (E.kept (E.constant_half false) t out w progress) μ)
    (recall_in slot_of (operate op) size d i m xs μ t out w progress)) (e ∙ f))

pub applied-within : (op size d i m : ℕ) (xs : List Source) (μ : List (List ℕ)) (t : List WriterRecord) (out w : List ℕ) (progress : E.Progress) → d ≤ option_limit
    → i ≤ level_limit
    → recall_in slot_of (operate op) size d i m xs μ t out w progress ≡ applied op size d i m xs μ t out w progress
applied-within op size d i m xs μ t out w progress h k =
    sym (ap (λ (b : Bool). cond b (unnoted (E.kept (E.constant_half false) t out w progress) μ)
    (recall_in slot_of (operate op) size d i m xs μ t out w progress)) (ap₂ ◌||◌ (le-ltb option_limit d h) (le-ltb level_limit i k)))

-- a part of e options, d + 1 of them; r₁, r₂: the records of the inputs' numbers, k: its key, s: the place of that
module _ (op size d i m : ℕ) (x y : TableEdge) (t₁ t₂ : List NodeRecord) (μ : List (List ℕ)) (t : List WriterRecord) (out w : List ℕ) (progress : E.Progress) (e : ℕ) (n : e ≡ suc d)
    (open' : fixed (operate op) (pair x t₁ y t₂) ≡ false) (r₁ r₂ : NodeRecord) (read₁ : r₁ ≡ get_in t₁ x.size x.edge.number)
    (read₂ : r₂ ≡ get_in t₂ y.size y.edge.number) (k : Key)
    (keyed : key_cells k ≡ x.edge.number ∷ r₁.stamp ∷ bit x.edge.complement ∷ y.edge.number ∷ r₂.stamp ∷ bit y.edge.complement ∷ []) (s : ℕ)
    (placed : s ≡ slot_of (key_cells k)) (g : Option Half) (told : tells_by g (get_or μ s []) k i t) where
  abbrev xs : List Source
  xs = pair x t₁ y t₂

  abbrev whole : Recalled
  whole = recall_in slot_of (operate op) size e i m xs μ t out w progress

  key-cells : key_cells k ≡ key_of xs
  key-cells =
      keyed ∙ ap₂ (λ (a b : ℕ). x.edge.number ∷ a ∷ bit x.edge.complement ∷ y.edge.number ∷ b ∷ bit y.edge.complement ∷ []) (same-stamp x t₁ r₁ read₁)
      (same-stamp y t₂ r₂ read₂)

  place : s ≡ slot_of (key_of xs)
  place = placed ∙ ap slot_of key-cells

  and_assoc : (a b c : Bool) → (a && b && c) ≡ (a && (b && c))
  and_assoc true b c = refl
  and_assoc false b c = refl

  same-tells : (r : List ℕ) → (holds r k && is_young r t) ≡ tells r xs t
  same-tells r =
      and_assoc (not (is_empty r)) _ (is_young r t)
      ∙ ap (λ (b : Bool). not (is_empty r) && (b && is_young r t)) (fits (key_cells k) key-cells ∙ sym (key-pair r (edge_in x t₁) (edge_in y t₂)))
    where
      fits : (z : List ℕ) → z ≡ key_of xs
          → (eqb (get_or r 3 0) (get_or z 0 0) && (eqb (get_or r 4 0) (get_or z 1 0) && (eqb (get_or r 5 0) (get_or z 2 0)
          && (eqb (get_or r 6 0) (get_or z 3 0) && (eqb (get_or r 7 0) (get_or z 4 0) && eqb (get_or r 8 0) (get_or z 5 0))))))
          ≡ (eqb (get_or r 3 0) x.edge.number && (eqb (get_or r 4 0) (stamp (table_of t₁ x.size) x.edge.number) && (eqb (get_or r 5 0) (bit x.edge.complement)
          && (eqb (get_or r 6 0) y.edge.number && (eqb (get_or r 7 0) (stamp (table_of t₂ y.size) y.edge.number) &&
          (eqb (get_or r 8 0) (bit y.edge.complement) && true))))))
      fits z h =
          ap (λ (z : List ℕ). eqb (get_or r 3 0) (get_or z 0 0) && (eqb (get_or r 4 0) (get_or z 1 0) && (eqb (get_or r 5 0) (get_or z 2 0)
          && (eqb (get_or r 6 0) (get_or z 3 0) && (eqb (get_or r 7 0) (get_or z 4 0) && eqb (get_or r 8 0) (get_or z 5 0)))))) h
          ∙ ap (λ (b : Bool). eqb (get_or r 3 0) x.edge.number && (eqb (get_or r 4 0) (stamp (table_of t₁ x.size) x.edge.number) &&
          (eqb (get_or r 5 0) (bit x.edge.complement)
          && (eqb (get_or r 6 0) y.edge.number && (eqb (get_or r 7 0) (stamp (table_of t₂ y.size) y.edge.number) && b)))))
          (and_none (eqb (get_or r 8 0) (bit y.edge.complement)))

  entry-same : get_or μ s [] ≡ entry_for slot_of μ xs
  entry-same = ap (λ (s : ℕ). get_or μ s []) place

  looked_up : is_some g ≡ look_up_in slot_of μ xs t
  looked_up = told.0 ∙ same-tells (get_or μ s []) ∙ ap (λ (r : List ℕ). tells r xs t) entry-same

  -- the cache tells it: h
  pub pair-told : (h : Half) → g ≡ Some h → unnoted (E.kept (half_of h) t out w progress) μ ≡ whole
  pair-told h f =
      recall-told slot_of (operate op) size d i m xs μ t out w progress e (half_of h) n open' (sym looked_up ∙ ap is_some f)
      (sym (ap (told_or (told_half (get_or μ s []) i t)) f) ∙ told.1 ∙ ap (λ (r : List ℕ). told_half r i t) entry-same)

  -- it does not; x₁, y₁: the edges at the first half, p: what waits before it, a: what it came to
  module _ (untold : is_some g ≡ false) (x₁ y₁ : TableEdge) (p : Waiting) (a : Recalled)
      (first₁ : (t : List NodeRecord) → r₁ ≡ get_in t x.size x.edge.number → edge_in x₁ t ≡ first_source i (edge_in x t))
      (first₂ : (t : List NodeRecord) → r₂ ≡ get_in t y.size y.edge.number → edge_in y₁ t ≡ first_source i (edge_in y t))
      (pushed : p ≡ push_all w m (opener ∷ []))
      (walked : a ≡ recall_in slot_of (operate op) size d (i + 1) p.count (pair x₁ t₁ y₁ t₂) μ t out p.bytes progress) where
    went : pair x₁ t₁ y₁ t₂ ≡ first_source i (edge_in x t₁) ∷ first_source i (edge_in y t₂) ∷ []
    went = ap₂ (λ (a b : Source). a ∷ b ∷ []) (first₁ t₁ read₁) (first₂ t₂ read₂)

    not_looked_up : look_up_in slot_of μ xs t ≡ false
    not_looked_up = sym looked_up ∙ untold

    -- more was sent in the first half than the output holds
    pub pair-full : (z : E.Progress) → z ≡ a.walked.progress → z.full ≡ true → a ≡ whole
    pair-full =
        recall-full slot_of (operate op) size d i m xs μ t out w progress e n open' not_looked_up (pair x₁ t₁ y₁ t₂) p a went pushed walked

    -- h, z: what the first half came to, and the progress after it; b: both inputs pass; x₂, y₂: the edges at the second half; v: what its first
    -- word comes to, u: the `~` between the halves; c: the second half, f: after both
    module _ (h : E.Half) (z : E.Progress) (b : Bool) (x₂ y₂ : TableEdge) (v u : Bool) (q r : Waiting) (c : Recalled) (f : E.Walked)
        (came : h ≡ a.walked.half) (left : z ≡ a.walked.progress) (goes : z.full ≡ false)
        (pass : b ≡ ((eqb x.edge.number 0 || ltb i r₁.level) && ((eqb y.edge.number 0 || ltb i r₂.level) && true)))
        (second₁ : (t : List NodeRecord) → r₁ ≡ get_in t x.size x.edge.number → edge_in x₂ t ≡ second_source i (edge_in x t))
        (second₂ : (t : List NodeRecord) → r₂ ≡ get_in t y.size y.edge.number → edge_in y₂ t ≡ second_source i (edge_in y t))
        (first : v ≡ operate op (x₂.edge.complement ∷ y₂.edge.complement ∷ [])) (complement : u ≡ differ h.complement v)
        (waited : q ≡ wait_in a.walked.waits p.count h.wrote h.skipped h.number)
        (ready : r ≡ push_all q.bytes q.count (tilde_if u)) (met : f ≡ E.second_in size i r.count u h c.walked) where
      gone : pair x₂ t₁ y₂ t₂ ≡ second_source i (edge_in x t₁) ∷ second_source i (edge_in y t₂) ∷ []
      gone = ap₂ (λ (a b : Source). a ∷ b ∷ []) (second₁ t₁ read₁) (second₂ t₂ read₂)

      all_pass_lem : b ≡ all_pass i xs
      all_pass_lem =
          pass ∙ ap₂ (λ (a b : Bool). a && (b && true)) (same-passes x t₁ r₁ read₁ i) (same-passes y t₂ r₂ read₂ i)

      -- what the cache holds after both
      noted : noted_by c.memo s k (f.progress.full || b) f.half
          ≡ cond (f.progress.full || all_pass i xs) c.memo (remember_in slot_of c.memo xs f.half)
      unfolding remember_in
      noted =
          ap₂ (λ (b : Bool) (r : List (List ℕ)). cond (f.progress.full || b) c.memo (cond f.half.temporary c.memo r)) all_pass_lem
          (ap₂ (λ (s : ℕ) (z : List ℕ). set c.memo s ((bit f.half.complement + 1) ∷ f.half.number ∷ f.half.stamp ∷ z)) place key-cells)

      -- the second half is walked
      pub pair-on : (not h.temporary && b) ≡ false
          → c ≡ recall_in slot_of (operate op) size d (i + 1) r.count (pair x₂ t₁ y₂ t₂) a.memo a.walked.table a.walked.output r.bytes
          z
          → (ν : List (List ℕ)) → ν ≡ noted_by c.memo s k (f.progress.full || b) f.half
          → record { walked = f; memo = ν } ≡ whole
      pair-on j l ν νe =
          recall-on slot_of (operate op) size d i m xs μ t out w progress e n open' not_looked_up (pair x₁ t₁ y₁ t₂) p a went pushed walked h z
          (pair x₂ t₁ y₂ t₂) v u q r c f ν came left goes gone first complement waited ready met (νe ∙ noted)
          (sym (ap (λ (b : Bool). not h.temporary && b) all_pass_lem) ∙ j) l

      -- it is like the first
      pub pair-again : (not h.temporary && b) ≡ true
          → c ≡ unnoted (E.kept (E.number_half h.number h.stamp h.skipped v false) a.walked.table a.walked.output r.bytes z)
          a.memo
          → record { walked = f; memo = c.memo } ≡ whole
      pair-again j l =
          recall-again slot_of (operate op) size d i m xs μ t out w progress e n open' not_looked_up (pair x₁ t₁ y₁ t₂) p a went pushed walked h z
          (pair x₂ t₁ y₂ t₂) v u q r c f c.memo came left goes gone first complement waited ready met
          (sym (ap (λ (b : Bool). cond b c.memo (remember_in slot_of c.memo xs f.half))
          (all_true f.progress.full (all_pass i xs) (and_r (not h.temporary) (all_pass i xs) alike))))
          alike l
        where
          alike : (not h.temporary && all_pass i xs) ≡ true
          alike = sym (ap (λ (b : Bool). not h.temporary && b) all_pass_lem) ∙ j

          all_true : (a b : Bool) → b ≡ true → (a || b) ≡ true
          all_true true b e = refl
          all_true false b e = e
