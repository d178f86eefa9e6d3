-- A number is taken from its node as code does it, or is the next: the records keep the writer's state but for that node, and the
-- queue is the one of UniqueTable's `freed`. Assumes nothing.
use Rattle.std.specs.Prelude.{◌≡◌, ◌≢◌, true, false, not, List, ℕ, suc, ◌-◌, ◌≤◌, ◌<◌, eqb, length, set}
use Rattle.std.proofs.Common.{sym, ap, ◌∙◌, inl, inr, ⊎_elim, true≢false, arith}
use Rattle.std.proofs.Math.Path.{ap₂, subst⁻¹}
use Rattle.std.proofs.Math.ListN.{get_or-eq_default}
use Rattle.std.proofs.Math.Seq.{set_out}
use Rattle.theory_lists.specs.Lists.{bit, decide_eq, is_false, has, all-has}
use Rattle.theory_reading.specs.Limits.{table_limit}
use Rattle.theory_reading.specs.Nodes.{Node, no_node, node, stamp, is_child, has_parent}
use Rattle.theory_reading.specs.ParentCounts.{parents, none-parents, parents-none}
use Rattle.theory_writing.specs.UniqueTable.{State, without, freed, placed}
use Rattle.theory_writing.specs.Storing.{Parentless, Free, Sound, first-child, second-child}
use Rattle.theory_writing.specs.Queue.{Queued, all-without', has_parent-all}
use Rattle.theory_engine.specs.Cells.{cell}
use Rattle.writer_records.specs.Fields.{stamp_field, parents_field, queue_field, bucket_field}
use Rattle.theory_engine.specs.Recycling.{Lane, lane, unlink_in, remove_in, orphans_in, release_in}
use Rattle.theory_engine.specs.Buckets.{Buckets, buckets-same, buckets-next, remove-length, remove-other, buckets-unlink}
use Rattle.theory_engine.specs.Freed.{parents-rest, length-next, length-again, freed-fresh}
use Rattle.theory_engine.specs.Keeping.{HasNode, Keeps, node-same}
use Rattle.theory_engine.specs.QueueCells.{Stays, stays-wider, stays-unlink, Held, held_same, held-unlink, stays-orphans, orphans-count}
use Rattle.theory_engine.specs.QueueCells.{held-orphans}
use Rattle.node_records.specs.declared.WriterRecord.{WriterRecord}

-- ---- A number with no node -------------------------------------------------------------------

-- The records t keep the state s but for the node of number k: k is not in the queue, in no bucket, and no parent. y numbers are given
-- out, k among them
pub record Ready (t : List WriterRecord) (y f l k : ℕ) (s : State) : Type 0 where
  pub long : table_limit ≤ length t
  pub few : y ≤ table_limit
  pub among : k ≤ y
  pub given : (x : Node) → length (placed s.table k x) ≡ suc y
  pub nodes : (c : ℕ) → 0 < c → c ≤ y → c ≢ k → HasNode t c (node s.table c)
  pub stamped : cell t stamp_field k ≡ stamp s.table k
  pub fresh : (c : ℕ) → y < c → (cell t stamp_field c ≡ 0) × (cell t parents_field c ≡ 0)
  pub counts : (c : ℕ) → 0 < c → c ≤ y → cell t parents_field c ≡ parents (set s.table k no_node) c
  pub queue : Held (lane t f l) (freed s k)
  pub buckets : Buckets t y k

-- the buckets stay if only counts and the queue change
pub buckets-stay : (t u : List WriterRecord) (z j : ℕ) → Stays parents_field bucket_field t u → Buckets t z j → Buckets u z j
buckets-stay t u z j x =
    buckets-same t u z j x.long (λ i k l. x.cells i k (inr l)) (λ i k l m. x.cells i k (inl (omega (arith, l))))

-- the next number is ready
pub fresh-ready : (t : List WriterRecord) (z f l : ℕ) (s : State) → Keeps t z f l s → Sound s → Parentless s.table (suc z)
    → suc z ≤ table_limit → Ready t (suc z) f l (suc z) s
fresh-ready t z f l s h so alone b =
    record {
      long = h.long;
      few = b;
      among = omega arith;
      given = λ x. length-next s.table (suc z) x (sym h.given) ∙ ap suc h.given;
      nodes = λ c r m d. h.nodes c r (omega (arith, m, d));
      stamped = (h.fresh (suc z) (omega arith)).0
          ∙ sym (ap (λ (x : Node). x.stamp) (get_or-eq_default s.table no_node past));
      fresh = λ c m. h.fresh c (omega (arith, m));
      counts = λ c r m. told c r m ∙ ap (λ (ns : List Node). parents ns c) (sym (set_out s.table (suc z) no_node past));
      queue = subst⁻¹ (λ (q : List ℕ). Held (lane t f l) q) (freed-fresh s (suc z) so past) h.queue;
      buckets = buckets-next t z h.buckets;
    }
  where
    -- it is at no place of the table
    past : length s.table ≤ suc z
    past = omega (arith, h.given)

    -- and has no parent
    told : (c : ℕ) → 0 < c → c ≤ suc z → cell t parents_field c ≡ parents s.table c
    told c r m = ⊎_elim
        (λ (e : c ≡ suc z). ap (cell t parents_field) e ∙ (h.fresh (suc z) (omega arith)).1
        ∙ sym (ap (parents s.table) e ∙ none-parents s.table (suc z) (has_parent-all s.table (suc z) alone)))
        (λ (d : c ≢ suc z). h.counts c r (omega (arith, m, d))) (decide_eq c (suc z))

-- ---- A number is taken from its node ---------------------------------------------------------

module _ (t : List WriterRecord) (z f l k : ℕ) (s : State) (h : Keeps t z f l s) (so : Sound s) (qd : Queued s)
    (alone : Parentless s.table k) (r : 0 < k) (m : k ≤ z) where
  -- the node
  abbrev o : Node
  o = node s.table k

  -- the table without it
  abbrev rest : List Node
  rest = set s.table k no_node

  -- k has left the queue
  abbrev e : Lane
  e = unlink_in t queue_field f l k

  -- and its bucket
  abbrev u : List WriterRecord
  u = remove_in e.table k

  -- and its children have lost a parent
  abbrev g : Lane
  g = orphans_in u e.first e.last o.first o.second

  -- until then, nodes and counts stay
  cells-u : (i c : ℕ) → i < 6 → cell u i c ≡ cell t i c
  cells-u i c b = remove-other e.table k i c (omega arith) ∙ (stays-unlink t f l k).cells i c (inl b)

  -- code reads the children in the record
  released : release_in t f l k ≡ g
  unfolding release_in
  released =
      ap₂ (λ (x y : ℕ). orphans_in u e.first e.last x y) (cells-u 1 k (omega arith) ∙ (h.nodes k r m).first)
      (cells-u 2 k (omega arith) ∙ (h.nodes k r m).second)

  -- the nodes stay
  stays-g : Stays parents_field bucket_field u g.table
  stays-g = stays-orphans u e.first e.last o.first o.second

  cells-g : (i c : ℕ) → i < 5 → cell g.table i c ≡ cell t i c
  cells-g i c b = stays-g.cells i c (inl b) ∙ cells-u i c (omega arith)

  -- each record has twelve cells, there are as many records
  long-u : length u ≡ length t
  long-u = remove-length e.table k ∙ (stays-unlink t f l k).long

  -- the children are numbers that are given out
  first-known : o.first ≤ z
  first-known = omega (arith, so.children k o.first (first-child o), h.given)

  second-known : o.second ≤ z
  second-known = omega (arith, so.children k o.second (second-child o), h.given)

  -- the counts, which are those of the table without the node
  counts-g : (c : ℕ) → 0 < c → cell g.table parents_field c ≡ cell t parents_field c - bit (eqb o.first c) - bit (eqb o.second c)
  counts-g c p =
      orphans-count u e.first e.last o.first o.second
      (omega (arith, first-known, h.few, h.long, long-u)) (omega (arith, second-known, h.few, h.long, long-u)) c p
      ∙ ap (λ (a : ℕ). a - bit (eqb o.first c) - bit (eqb o.second c)) (cells-u 5 c (omega arith))

  counted : (c : ℕ) → 0 < c → c ≤ z → cell g.table parents_field c ≡ parents rest c
  counted c p q = omega (arith, counts-g c p, h.counts c p q, parents-rest s.table k c p)

  -- a child of the node is not in the queue
  child-absent : (c : ℕ) → is_child c o ≡ true → has c (without k s.queue) ≡ false
  child-absent c i = is_false (has c (without k s.queue)) (λ j. true≢false (sym i
      ∙ (all-has (Free s.table) c (without k s.queue) (all-without' (Free s.table) k s.queue so.waiting) j).alone k))

  -- a count says whether there is a parent left
  told : (c : ℕ) → c ≤ z → 0 < c → has_parent rest c ≡ not (eqb (cell g.table parents_field c) 0)
  told c q p = parents-none rest c ∙ ap (λ (a : ℕ). not (eqb a 0)) (sym (counted c p q))

  -- the queue and the buckets
  queue-g : Held g (freed s k)
  unfolding freed
  queue-g =
      held-orphans u e.first e.last o.first o.second (without k s.queue) rest
      (omega (arith, first-known, h.few)) (omega (arith, second-known, h.few))
      (λ p. child-absent o.first (first-child o)) (λ p. child-absent o.second (second-child o))
      (told o.first first-known) (told o.second second-known)
      (held_same e.table u e.first e.last (without k s.queue) (remove-length e.table k)
      (λ i c a b. remove-other e.table k i c b)
      (held-unlink t f l k s.queue (qd.complete k r (omega (arith, m, h.given)) alone) h.queue))

  buckets-g : Buckets g.table z k
  buckets-g =
      buckets-stay u g.table z k stays-g
      (buckets-unlink e.table z k (omega (arith, h.long, (stays-unlink t f l k).long))
      h.few r m (buckets-stay t e.table z 0
      (stays-wider queue_field bucket_field parents_field bucket_field t e.table (omega arith) (omega arith) (stays-unlink t f l k)) h.buckets))

  -- k is ready
  pub release-ready : Ready (release_in t f l k).table z (release_in t f l k).first (release_in t f l k).last k s
  release-ready = subst⁻¹ (λ (x : Lane). Ready x.table z x.first x.last k s) released (record {
    long = omega (arith, h.long, long-u, stays-g.long);
    few = h.few;
    among = m;
    given = λ x. length-again s.table k x (omega (arith, m, h.given)) ∙ h.given;
    nodes = λ c p q d. node-same t g.table c (node s.table c) (λ i b. cells-g i c b) (h.nodes c p q);
    stamped = cells-g 4 k (omega arith) ∙ (h.nodes k r m).stamp;
    fresh = λ c q. (cells-g 4 c (omega arith) ∙ (h.fresh c q).0, omega (arith, counts-g c (omega (arith, q)), (h.fresh c q).1));
    counts = counted;
    queue = queue-g;
    buckets = buckets-g;
  })
