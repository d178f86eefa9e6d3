-- The unique table of the writer and its recycling queue: finding a node, the number for a new one, storing it
-- (document 01, "The written stream", rules 4 and 5 and the paragraph on the queue). Assumes nothing.
use Rattle.std.specs.Prelude.{Bool, true, false, not, ◌&&◌, ◌||◌, List, [], ◌∷◌, ◌++◌, ℕ, zero, suc, leb, eqb, length, set}
use Rattle.theory_lists.specs.Lists.{differ}
use Rattle.theory_reading.specs.Nodes.{Node, no_node, new_node, node, stamp, has_parent}

-- ---- The state of the writer -----------------------------------------------------------------

-- Number k stands at place k of the table; place 0 has no node. The numbers given out so far are those below the table's length.
-- "The queue has the stored nodes that are no stored node's child, in the order in which they became so."
pub record State : Type 0 where
  pub table : List Node
  pub queue : List ℕ

-- no number is given out yet
abbrev pub start : State
start = record { table = no_node ∷ []; queue = [] }

-- ---- Finding a node --------------------------------------------------------------------------

-- "this level, these children, this `~`"
abbrev pub fits : ℕ → ℕ → ℕ → Bool → Node → Bool
fits i a b t x = eqb x.level i && (eqb x.first a && (eqb x.second b && not (differ x.complement t)))

-- "The table has this level, these children, this `~`": that number, or 0. (k: the number of the first node)
unfoldable pub find : List Node → ℕ → ℕ → ℕ → ℕ → Bool → ℕ
find [] k i a b t = 0
find (x ∷ xs) k i a b t = elim (fits i a b t x) [ true ↦ k | false ↦ find xs (suc k) i a b t ]

-- ---- The number for a new node ---------------------------------------------------------------

-- "the first in the queue that is not its own child": 0 if there is none
unfoldable pub first_free : List ℕ → ℕ → ℕ → ℕ
first_free [] a b = 0
first_free (q ∷ qs) a b = elim (eqb a q || eqb b q) [ true ↦ first_free qs a b | false ↦ q ]

-- "1, 2, ... in turn up to the size; after that, the first in the queue that is not its own child": 0 if there is none
unfoldable pub next_number : ℕ → State → ℕ → ℕ → ℕ
unfolding first_free
next_number size s a b = elim (leb (length s.table) size) [ true ↦ length s.table | false ↦ first_free s.queue a b ]

-- ---- Storing a node --------------------------------------------------------------------------

-- a number leaves the queue
unfoldable pub without : ℕ → List ℕ → List ℕ
without k [] = []
without k (q ∷ qs) = elim (eqb q k) [ true ↦ without k qs | false ↦ q ∷ without k qs ]

-- "its old children lose a parent [...] and join the queue if they have none left": one such child
unfoldable pub orphaned : List Node → ℕ → List ℕ → List ℕ
unfolding has_parent without
orphaned t zero q = q
orphaned t (suc c) q = elim (has_parent t (suc c)) [ true ↦ q | false ↦ without (suc c) q ++ (suc c ∷ []) ]

-- "When a number is reused, it leaves the queue; its old children lose a parent, first child first, and join the queue if they have
-- none left"
unfoldable pub freed : State → ℕ → List ℕ
unfolding orphaned without
freed s k =
    let rest = set s.table k no_node in
    let x = node s.table k in
    orphaned rest x.second (orphaned rest x.first (without k s.queue))

-- A fresh number is the length of the table; any other is reused.
unfoldable pub placed : List Node → ℕ → Node → List Node
placed t k x = elim (eqb k (length t)) [ true ↦ t ++ (x ∷ []) | false ↦ set t k x ]

-- "then, as with a fresh number, the new node's children leave the queue; then the new node joins at the end."
unfoldable pub stored : State → ℕ → ℕ → ℕ → ℕ → Bool → State
unfolding freed placed without
stored s k i a b t =
    record {
      table = placed s.table k (new_node i a b t (suc (stamp s.table k)));
      queue = without b (without a (freed s k)) ++ (k ∷ []);
    }
