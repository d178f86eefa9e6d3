-- What the records keep of the writer's state (UniqueTable): nodes, counts of parents, the queue, buckets. Records of zeros keep its
-- start, and code finds the number for a new node as document 01 says. Assumes nothing.
use Rattle.std.specs.Prelude.{◌≡◌, refl, Bool, true, false, cond, List, ℕ, suc, ◌+◌, ◌≤◌, ◌<◌, ltb, leb, length}
use Rattle.std.proofs.Common.{◌∙◌, arith, ltb-true, ltb-false, leb-true, leb-false}
use Rattle.theory_reading.specs.Limits.{table_limit}
use Rattle.theory_reading.specs.Nodes.{Node, node}
use Rattle.theory_reading.specs.ParentCounts.{parents}
use Rattle.theory_writing.specs.UniqueTable.{State, start, first_free, next_number}
use Rattle.theory_writing.specs.Links.{Holds, holds-none, holds-free}
use Rattle.theory_engine.specs.Cells.{cell}
use Rattle.writer_records.specs.Fields.{level_field, first_field, second_field, complement_field, stamp_field, parents_field, queue_field}
use Rattle.theory_engine.specs.Recycling.{free_of, next_in}
use Rattle.theory_engine.specs.Lanes.{column-length, links_of, links-free}
use Rattle.theory_engine.specs.Buckets.{Buckets, buckets-none}
use Rattle.node_records.specs.declared.WriterRecord.{WriterRecord}

-- number k has the node x
pub record HasNode (t : List WriterRecord) (k : ℕ) (x : Node) : Type 0 where
  pub level : cell t level_field k ≡ x.level
  pub first : cell t first_field k ≡ x.first
  pub second : cell t second_field k ≡ x.second
  pub complement : cell t complement_field k ≡ cond x.complement 1 0
  pub stamp : cell t stamp_field k ≡ x.stamp

-- The records t keep the state s; z numbers are given out, f and l are the first and the last of the queue
pub record Keeps (t : List WriterRecord) (z f l : ℕ) (s : State) : Type 0 where
  pub long : table_limit ≤ length t
  pub few : z ≤ table_limit
  pub given : length s.table ≡ suc z
  pub nodes : (k : ℕ) → 0 < k → k ≤ z → HasNode t k (node s.table k)
  -- a number that is not given out has no stamp and no parents yet
  pub fresh : (k : ℕ) → z < k → (cell t stamp_field k ≡ 0) × (cell t parents_field k ≡ 0)
  pub counts : (k : ℕ) → 0 < k → k ≤ z → cell t parents_field k ≡ parents s.table k
  pub queue : Holds table_limit (links_of t queue_field f l) s.queue
  pub buckets : Buckets t z 0

-- the same cells, the same node
pub node-same : (t u : List WriterRecord) (k : ℕ) (x : Node) → ((i : ℕ) → i < 5 → cell u i k ≡ cell t i k) → HasNode t k x
    → HasNode u k x
node-same t u k x e h =
    record {
      level = e 0 (omega arith) ∙ h.level;
      first = e 1 (omega arith) ∙ h.first;
      second = e 2 (omega arith) ∙ h.second;
      complement = e 3 (omega arith) ∙ h.complement;
      stamp = e 4 (omega arith) ∙ h.stamp;
    }

-- ---- No number is given out ------------------------------------------------------------------

-- records of zeros keep the start
pub keeps-start : (t : List WriterRecord) → table_limit ≤ length t → ((i k : ℕ) → cell t i k ≡ 0) → Keeps t 0 0 0 start
unfolding links_of
keeps-start t l e =
    record {
      long = l;
      few = omega arith;
      given = refl;
      nodes = λ k p q. absurd (omega (arith, p, q));
      fresh = λ k p. (e 4 k, e 5 k);
      counts = λ k p q. absurd (omega (arith, p, q));
      queue = holds-none table_limit (links_of t queue_field 0 0) (omega (arith, l, column-length t queue_field))
          (omega (arith, l, column-length t (queue_field + 1))) refl refl;
      buckets = buckets-none t l e;
    }

-- ---- The number for a new node ---------------------------------------------------------------

-- code finds the number that document 01 says
pub keeps-next : (t : List WriterRecord) (z f l : ℕ) (s : State) (size a b : ℕ) → Keeps t z f l s
    → next_in t z f size a b ≡ next_number size s a b
unfolding next_in next_number
keeps-next t z f l s size a b h = go (ltb z size) (leb (length s.table) size) refl refl
  where
    go : (u v : Bool) → ltb z size ≡ u → leb (length s.table) size ≡ v
        → cond u (z + 1) (free_of t f a b) ≡ elim v as (λ _. ℕ) [ true ↦ length s.table | false ↦ first_free s.queue a b ]
    go true true p q = omega (arith, h.given)
    go true false p q = absurd (omega (arith, h.given, ltb-true z size p, leb-false (length s.table) size q))
    go false true p q = absurd (omega (arith, h.given, ltb-false z size p, leb-true (length s.table) size q))
    go false false p q = links-free t f l a b ∙ holds-free table_limit (links_of t queue_field f l) s.queue a b h.queue
