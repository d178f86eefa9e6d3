-- A new node gets its number as code does it: the records keep the writer's state after storing it, so code stores as document 01
-- says. Assumes nothing.
use Rattle.std.specs.Prelude.{◌≡◌, refl, ◌≢◌, Bool, true, false, cond, List, [], ◌∷◌, ◌++◌, ℕ, suc, ◌+◌, ◌*◌, ◌≤◌, ◌<◌, eqb, ltb, set}
use Rattle.std.proofs.Math.Path.{sym, ap, subst⁻¹}
use Rattle.std.proofs.Common.{ap₂, ◌∙◌, subst, inl, inr, ⊎_elim, arith, length-set, eqb-true, ne_eqb, lt-ltb, ltb-true, ltb-false}
use Rattle.std.proofs.Math.ListN.{length}
use Rattle.std.proofs.lemmas.Bool.{eqb-false}
use Rattle.theory_lists.specs.Lists.{bit, decide_eq, decide-le, has}
use Rattle.theory_reading.specs.Limits.{table_limit}
use Rattle.theory_reading.specs.LimitLaws.{few-parents}
use Rattle.theory_reading.specs.Nodes.{Node, new_node, no_node, node, stamp}
use Rattle.theory_reading.specs.ParentCounts.{edges, bit-most, parents-most}
use Rattle.theory_writing.specs.UniqueTable.{State, without, freed, placed, stored}
use Rattle.theory_writing.specs.Storing.{placed_same, placed-other, placed-longer, Parentless, Sound, Able}
use Rattle.theory_writing.specs.Queue.{Queued}
use Rattle.theory_writing.specs.Links.{among-without-same, among-without}
use Rattle.theory_engine.specs.Cells.{cell, put_cell, length-put, cell_same, cell-number, cell_other}
use Rattle.writer_records.specs.Fields.{bucket_field}
use Rattle.writer_records.specs.Fields.{level_field, first_field, second_field, complement_field, stamp_field, parents_field, queue_field}
use Rattle.theory_engine.specs.Recycling.{Lane, lane, link_in, insert_in, release_in, adopt_in, note_in, place_in, store_in}
use Rattle.writer_numbers.specs.Numbers.{one_more}
use Rattle.theory_engine.specs.Buckets.{Buckets, inserted-in, buckets-same, insert-length, insert-other, buckets-link}
use Rattle.theory_engine.specs.Freed.{parents-placed, freed-told, freed-away}
use Rattle.theory_engine.specs.Keeping.{HasNode, Keeps, node-same}
use Rattle.theory_engine.specs.Releasing.{Ready, buckets-stay, fresh-ready, release-ready}
use Rattle.theory_engine.specs.QueueCells.{Stays, stays_then, stays-wider, stays_put, stays-link, Held, held_same, held_link, held-adopt}
use Rattle.theory_engine.specs.QueueCells.{stays-adopt, adopt-count}
use Rattle.node_records.specs.declared.WriterRecord.{WriterRecord}

-- ---- A node in a record ----------------------------------------------------------------------

module _ (t : List WriterRecord) (k i a b c : ℕ) where
  -- its first cells are put
  abbrev t₀ : List WriterRecord
  t₀ = put_cell t level_field k i

  abbrev t₁ : List WriterRecord
  t₁ = put_cell t₀ first_field k a

  abbrev t₂ : List WriterRecord
  t₂ = put_cell t₁ second_field k b

  abbrev t₃ : List WriterRecord
  t₃ = put_cell t₂ complement_field k c

  -- only the first five cells are others
  stays-note : Stays level_field parents_field t (note_in t k i a b c)
  unfolding note_in
  stays-note =
      stays_then level_field parents_field t t₃ (note_in t k i a b c)
      (stays_then level_field parents_field t t₁ t₃
      (stays_then level_field parents_field t t₀ t₁ (stays-wider level_field first_field level_field parents_field t t₀ (omega arith) (omega arith)
      (stays_put t level_field k i))
      (stays-wider first_field second_field level_field parents_field t₀ t₁ (omega arith) (omega arith) (stays_put t₀ first_field k a)))
      (stays_then level_field parents_field t₁ t₂ t₃ (stays-wider second_field complement_field level_field parents_field t₁ t₂ (omega arith) (omega arith)
      (stays_put t₁ second_field k b))
      (stays-wider complement_field stamp_field level_field parents_field t₂ t₃ (omega arith) (omega arith) (stays_put t₂ complement_field k c))))
      (stays-wider stamp_field parents_field level_field parents_field t₃ (note_in t k i a b c) (omega arith) (omega arith)
      (stays_put t₃ stamp_field k (one_more (cell t stamp_field k))))

  -- the other numbers have their cells
  note-other : (j q : ℕ) → q ≢ k → cell (note_in t k i a b c) j q ≡ cell t j q
  unfolding note_in
  note-other j q d =
      cell-number t₃ stamp_field k (one_more (cell t stamp_field k)) j q d ∙ cell-number t₂ complement_field k c j q d
      ∙ cell-number t₁ second_field k b j q d
      ∙ cell-number t₀ first_field k a j q d ∙ cell-number t level_field k i j q d

  -- the number has the node
  note-own : 0 < k → k ≤ length t → (v : Bool) → c ≡ cond v 1 0
      → HasNode (note_in t k i a b c) k (new_node i a b v (one_more (cell t stamp_field k)))
  unfolding note_in
  note-own r l v e =
      record {
        level = last level_field (omega arith) ∙ cell_other t₂ complement_field k c level_field k (λ z. omega (arith, z))
            ∙ cell_other t₁ second_field k b level_field k (λ z. omega (arith, z)) ∙ cell_other t₀ first_field k a level_field k (λ z. omega (arith, z))
            ∙ cell_same t level_field k i (omega arith) r l;
        first = last first_field (omega arith) ∙ cell_other t₂ complement_field k c first_field k (λ z. omega (arith, z))
            ∙ cell_other t₁ second_field k b first_field k (λ z. omega (arith, z)) ∙ cell_same t₀ first_field k a (omega arith) r (omega (arith, l, l₀));
        second = last second_field (omega arith) ∙ cell_other t₂ complement_field k c second_field k (λ z. omega (arith, z))
            ∙ cell_same t₁ second_field k b (omega arith) r (omega (arith, l, l₁));
        complement = last complement_field (omega arith) ∙ cell_same t₂ complement_field k c (omega arith) r (omega (arith, l, l₂)) ∙ e;
        stamp = cell_same t₃ stamp_field k (one_more (cell t stamp_field k)) (omega arith) r (omega (arith, l, l₃));
      }
    where
      l₀ : length t₀ ≡ length t
      l₀ = length-put t level_field k i

      l₁ : length t₁ ≡ length t
      l₁ = length-put t₀ first_field k a ∙ l₀

      l₂ : length t₂ ≡ length t
      l₂ = length-put t₁ second_field k b ∙ l₁

      l₃ : length t₃ ≡ length t
      l₃ = length-put t₂ complement_field k c ∙ l₂

      last : (j : ℕ) → j < 4 → cell (put_cell t₃ stamp_field k (one_more (cell t stamp_field k))) j k ≡ cell t₃ j k
      last j h = cell_other t₃ stamp_field k (one_more (cell t stamp_field k)) j k (λ z. omega (arith, z))

-- ---- The new node gets the number ------------------------------------------------------------

module _ (t : List WriterRecord) (y f l k i a b : ℕ) (v : Bool) (s : State) (h : Ready t y f l k s) (so : Sound s) (qd : Queued s)
    (able : Able s k a b) (few-stamps : stamp s.table k < 4294967295) where
  -- the new node
  abbrev x : Node
  x = new_node i a b v (suc (stamp s.table k))

  -- its first child has a parent more
  abbrev e₁ : Lane
  e₁ = adopt_in t f l a

  -- and its second child
  abbrev e₂ : Lane
  e₂ = adopt_in e₁.table e₁.first e₁.last b

  -- k has its record
  abbrev n : List WriterRecord
  n = note_in e₂.table k i a b (cond v 1 0)

  -- and is in its bucket
  abbrev d : List WriterRecord
  d = insert_in n k

  -- and in the queue
  abbrev j : Lane
  j = link_in d queue_field e₂.first e₂.last k

  -- the children are numbers that are given out
  children-known : (a ≤ y) × (b ≤ y)
  children-known =
      let p = (placed-longer s.table k x able.room).0 in
      (omega (arith, able.a-known, p, h.given x), omega (arith, able.b-known, p, h.given x))

  -- what stays
  stays₁ : Stays parents_field bucket_field t e₁.table
  stays₁ = stays-adopt t f l a

  stays₂ : Stays parents_field bucket_field e₁.table e₂.table
  stays₂ = stays-adopt e₁.table e₁.first e₁.last b

  stays-both : Stays parents_field bucket_field t e₂.table
  stays-both = stays_then parents_field bucket_field t e₁.table e₂.table stays₁ stays₂

  stays-n : Stays level_field parents_field e₂.table n
  stays-n = stays-note e₂.table k i a b (cond v 1 0)

  stays-j : Stays queue_field bucket_field d j.table
  stays-j = stays-link d e₂.first e₂.last k

  -- each record has twelve cells, there are enough records
  long-n : table_limit ≤ length n
  long-n = omega (arith, h.long, stays-both.long, stays-n.long)

  -- a count is far from 32 bits
  count_most : (c : ℕ) → 0 < c → cell t parents_field c ≤ 2 * suc table_limit
  count_most c r = ⊎_elim
      (λ (p : c ≤ y). omega (
        arith,
        h.counts c r p,
        parents-most (set s.table k no_node) c,
        length-set s.table k no_node,
        (placed-longer s.table k x able.room).0,
        h.given x,
        h.few,
      ))
      (λ (p : y < c). omega (arith, (h.fresh c p).1))
      (decide-le c y)

  -- the counts with the first child's new parent, and with the second's
  count₁ : (c : ℕ) → 0 < c → cell e₁.table parents_field c ≡ cell t parents_field c + bit (eqb a c)
  count₁ c r =
      adopt-count t f l a (omega (arith, children-known.0, h.few, h.long)) c r (omega (arith, count_most c r, few-parents))

  count₂ : (c : ℕ) → 0 < c → cell e₂.table parents_field c ≡ cell t parents_field c + edges c x
  count₂ c r =
      adopt-count e₁.table e₁.first e₁.last b
      (omega (arith, children-known.1, h.few, h.long, stays₁.long)) c r
      (omega (arith, count_most c r, few-parents, count₁ c r, bit-most (eqb a c))) ∙ omega (arith, count₁ c r)

  -- while k is in no place, those in the queue are those with no parent
  told : (c : ℕ) → 0 < c → c < length s.table → c ≢ k → has c (freed s k) ≡ eqb (cell t parents_field c) 0
  told c r p q =
      freed-told s so qd k c r p q ∙ ap (λ (m : ℕ). eqb m 0)
      (sym (h.counts c r (omega (arith, p, (placed-longer s.table k x able.room).0, h.given x))))

  -- the children leave the queue
  queue₁ : Held e₁ (without a (freed s k))
  queue₁ = held-adopt t f l a (freed s k) (λ r. told a r able.a-known able.not_a) h.queue

  -- the second is in it if it is not the first and had no parent
  told₂ : 0 < b → has b (without a (freed s k)) ≡ eqb (cell e₁.table parents_field b) 0
  told₂ r = go (eqb a b) refl (count₁ b r)
    where
      go : (u : Bool) → eqb a b ≡ u → cell e₁.table parents_field b ≡ cell t parents_field b + bit u
          → has b (without a (freed s k)) ≡ eqb (cell e₁.table parents_field b) 0
      go true p q =
          ap (λ (c : ℕ). has b (without c (freed s k))) (eqb-true a b p) ∙ among-without-same b (freed s k)
          ∙ sym (ne_eqb (cell e₁.table parents_field b) 0 (λ z. omega (arith, q, z)))
      go false p q =
          let m : cell t parents_field b ≡ cell e₁.table parents_field b = omega (arith, q) in
          among-without b a (freed s k) (λ z. eqb-false a b p (sym z)) ∙ told b r able.b-known able.not-b
          ∙ ap (λ (c : ℕ). eqb c 0) m

  queue₂ : Held e₂ (without b (without a (freed s k)))
  queue₂ =
      held-adopt e₁.table e₁.first e₁.last b (without a (freed s k)) told₂ queue₁

  -- k is not in it, and joins
  away : has k (without b (without a (freed s k))) ≡ false
  away =
      among-without k b (without a (freed s k)) (λ z. able.not-b (sym z))
      ∙ among-without k a (freed s k) (λ z. able.not_a (sym z)) ∙ freed-away s k able.real able.alone

  queue-j : Held j (without b (without a (freed s k)) ++ (k ∷ []))
  queue-j =
      held_link d e₂.first e₂.last k (without b (without a (freed s k))) away
      (λ z. omega (arith, able.real, z)) (omega (arith, h.among, h.few))
      (held_same e₂.table d e₂.first e₂.last (without b (without a (freed s k)))
      (insert-length n k ∙ stays-n.long) (λ q c p m. insert-other n k q c m ∙ stays-n.cells q c (inr (omega arith))) queue₂)

  -- nodes and counts are as they were when k had got its record
  cells-n : (q c : ℕ) → q < 6 → cell j.table q c ≡ cell n q c
  cells-n q c p = stays-j.cells q c (inl p) ∙ insert-other n k q c (omega arith)

  count-j : (c : ℕ) → 0 < c → cell j.table parents_field c ≡ cell t parents_field c + edges c x
  count-j c r =
      cells-n 5 c (omega arith) ∙ stays-n.cells 5 c (inr (omega arith)) ∙ count₂ c r

  cells-j : (q c : ℕ) → q < 5 → c ≢ k → cell j.table q c ≡ cell t q c
  cells-j q c p z =
      cells-n q c (omega arith) ∙ note-other e₂.table k i a b (cond v 1 0) q c z ∙ stays-both.cells q c (inl p)

  -- the stamp is one more
  one_more_lem : one_more (cell e₂.table stamp_field k) ≡ suc (stamp s.table k)
  one_more_lem =
      ap one_more (stays-both.cells 4 k (inl (omega arith)) ∙ h.stamped)
      ∙ ap (λ (u : Bool). cond u (stamp s.table k + 1) (stamp s.table k))
      (lt-ltb (stamp s.table k) 4294967295 few-stamps)
      ∙ omega arith

  -- k has the new node, the others have theirs
  own : HasNode j.table k x
  own =
      node-same n j.table k x (λ q p. cells-n q k (omega arith))
      (subst (λ (g : ℕ). HasNode n k (new_node i a b v g)) one_more_lem
      (note-own e₂.table k i a b (cond v 1 0) able.real
      (omega (arith, h.among, h.few, h.long, stays-both.long)) v refl))

  nodes-j : (c : ℕ) → 0 < c → c ≤ y → HasNode j.table c (node (placed s.table k x) c)
  nodes-j c r p = ⊎_elim
      (λ (e : c ≡ k). subst⁻¹ (λ (q : ℕ). HasNode j.table q (node (placed s.table k x) q)) e
      (subst⁻¹ (HasNode j.table k) (placed_same s.table k x able.room) own))
      (λ (z : c ≢ k). subst⁻¹ (HasNode j.table c) (placed-other s.table k x able.room c z)
      (node-same t j.table c (node s.table c) (λ q b. cells-j q c b z) (h.nodes c r p z)))
      (decide_eq c k)

  -- no number that is not given out is a child
  slots-past : (c : ℕ) → y < c → edges c x ≡ 0
  slots-past c p =
      ap₂ (λ (u w : Bool). bit u + bit w) (ne_eqb a c (λ z. omega (arith, children-known.0, p, z)))
      (ne_eqb b c (λ z. omega (arith, children-known.1, p, z)))

  -- the buckets
  buckets-j : Buckets j.table y 0
  buckets-j =
      buckets-stay d j.table y 0 (stays-wider queue_field bucket_field parents_field bucket_field d j.table (omega arith) (omega arith) stays-j)
      (buckets-link n y k long-n h.few able.real h.among
      (buckets-same e₂.table n y k stays-n.long (λ q c p. stays-n.cells q c (inr (omega arith)))
      (λ q c p m. note-other e₂.table k i a b (cond v 1 0) q c (inserted-in y k c m).2)
      (buckets-stay t e₂.table y k stays-both h.buckets)))

  -- the records keep the state with the new node
  place-keeps :
      let e = place_in t f l k i a b (cond v 1 0) in
      Keeps e.table y e.first e.last (stored s k i a b v)
  unfolding place_in stored
  place-keeps = record {
    long = omega (arith, long-n, insert-length n k, stays-j.long);
    few = h.few;
    given = h.given x;
    nodes = nodes-j;
    fresh = λ c p. (
      cells-j 4 c (omega arith) (λ z. omega (arith, h.among, p, z)) ∙ (h.fresh c p).0,
      omega (arith, count-j c (omega (arith, p)), (h.fresh c p).1, slots-past c p),
    );
    counts = λ c r p. count-j c r ∙ ap (λ (m : ℕ). m + edges c x) (h.counts c r p)
        ∙ sym (parents-placed s.table k c x able.room r);
    queue = queue-j;
    buckets = buckets-j;
  }

-- ---- Storing ---------------------------------------------------------------------------------

-- storing as code does it is storing as document 01 has it
pub keeps-store : (t : List WriterRecord) (z f l k i a b : ℕ) (v : Bool) (s : State) → Keeps t z f l s → Sound s → Queued s
    → Able s k a b → k ≤ table_limit → stamp s.table k < 4294967295 →
    let e = store_in t z f l k i a b (cond v 1 0) in
    Keeps e.table (cond (ltb z k) k z) e.first e.last (stored s k i a b v)
unfolding store_in
keeps-store t z f l k i a b v s h so qd able m g = go (ltb z k) refl
  where
    go : (u : Bool) → ltb z k ≡ u →
        let e = cond u (lane t f l) (release_in t f l k) in
        let p = place_in e.table e.first e.last k i a b (cond v 1 0) in
        Keeps p.table (cond u k z) p.first p.last (stored s k i a b v)
    go true p =
        let e : k ≡ suc z = omega (arith, ltb-true z k p, able.room, h.given) in
        place-keeps t k f l k i a b v s
        (subst⁻¹ (λ (y : ℕ). Ready t y f l y s) e (fresh-ready t z f l s h so
        (subst (Parentless s.table) e able.alone) (omega (arith, m, e)))) so qd able g
    go false p =
        place-keeps (release_in t f l k).table z (release_in t f l k).first (release_in t f l k).last k i a b v s
        (release-ready t z f l k s h so qd able.alone able.real (ltb-false z k p)) so qd able g
