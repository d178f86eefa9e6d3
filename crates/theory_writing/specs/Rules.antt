-- The parts of a written stream and the five rules by which halves meet (document 01, "The written stream", the first paragraph and
-- rules 1 to 5). Document 01's turn is a complement; the number that a part came to has its stamp. Assumes nothing.
use Rattle.std.specs.Prelude.{Bool, true, false, not, ◌&&◌, ◌||◌, ℕ, zero, suc, ◌+◌, ◌^◌, eqb}
use Rattle.theory_lists.specs.Lists.{differ}
use Rattle.theory_reading.specs.Nodes.{Ref, terminal, entry, temporary, child, stamp, bars}
use Rattle.theory_writing.specs.UniqueTable.{State, find, next_number, stored}

-- ---- Parts -----------------------------------------------------------------------------------

-- The text of a part: a number (0 for the constant), `(A)`, or `(A B)` and `(A~B)` with the number that it was given (0: none)
pub data Text : Type 0 where
  number : ℕ → Text
  one : Text → Text
  two : Text → Bool → Text → ℕ → Text

-- "Every part is written as its normal function, no at its first word, with the turn passed upward": what the part came to, the
-- turn, and the text
pub record Part : Type 0 where
  pub ref : Ref
  pub complement : Bool
  pub text : Text

-- a part that is done, and the state after it
pub record Done : Type 0 where
  pub part : Part
  pub state : State

-- "the second child has `~` if its turn differs from the first's"
abbrev pub edge : Part → Part → Bool
edge a b = differ a.complement b.complement

-- ---- What the rules ask of two halves --------------------------------------------------------

-- "constant"
abbrev pub is_terminal : Ref → Bool
is_terminal terminal = true
is_terminal (entry k g) = false
is_terminal temporary = false

-- "Same number [...] not given out again since either half got it"
abbrev pub same_number : State → Ref → Ref → Bool
same_number s terminal v = false
same_number s temporary v = false
same_number s (entry k g) terminal = false
same_number s (entry k g) temporary = false
same_number s (entry k g) (entry j h) = eqb k j && (eqb (stamp s.table k) g && eqb (stamp s.table j) h)

-- Rule 1: "Both constant, no `~`"
abbrev pub both_terminal : Part → Part → Bool
both_terminal a b = is_terminal a.ref && (is_terminal b.ref && not (edge a b))

-- Rule 2: "Same number, no `~`, not given out again since either half got it"
abbrev pub same_entry : State → Part → Part → Bool
same_entry s a b = same_number s a.ref b.ref && not (edge a b)

-- Rule 3: "A half temporary, or its number given out again since"
abbrev pub half_barred : State → Part → Part → Bool
half_barred s a b = bars s.table a.ref || bars s.table b.ref

-- Rule 4: "The table has this level, these children, this `~`": that number, or 0
abbrev pub found : State → ℕ → Part → Part → ℕ
found s i a b = find s.table 0 i (child a.ref) (child b.ref) (edge a b)

-- Rule 5: the number that the node gets, or 0
abbrev pub new_number : ℕ → State → Part → Part → ℕ
new_number size s a b = next_number size s (child a.ref) (child b.ref)

-- ---- The five rules --------------------------------------------------------------------------

-- The two-child node of two halves, given the number k (0: none)
abbrev pub pair : Part → Part → ℕ → Text
pair a b k = two a.text (edge a b) b.text k

-- A part takes its turn from its first half.
abbrev pub comes_to : Part → Ref → Text → Part
comes_to a r x = record { ref = r; complement = a.complement; text = x }

-- By what the rules ask, in their order (both_terminal, same_entry, half_barred, found, new_number): the part of level i of the halves a
-- and b, and the state after it
unfoldable pub by_rule : Bool → Bool → Bool → ℕ → ℕ → ℕ → Part → Part → State → Done
unfolding stored
-- 1. "Both constant, no `~`: constant."
by_rule true same barred known new i a b s = record { part = comes_to a terminal (number 0); state = s }
-- 2. "Same number, no `~`, not given out again since either half got it: `(A)`, standing for that number."
by_rule false true barred known new i a b s = record { part = comes_to a a.ref (one a.text); state = s }
-- 3. "A half temporary, or its number given out again since: temporary node."
by_rule false false true known new i a b s = record { part = comes_to a temporary (pair a b 0); state = s }
-- 4. "The table has this level, these children, this `~`: that number, in place of the text." "Looking up moves nothing."
by_rule false false false (suc k) new i a b s =
    record { part = comes_to a (entry (suc k) (stamp s.table (suc k))) (number (suc k)); state = s }
-- 5. "Otherwise the node gets a number: 1, 2, ... in turn up to the size; after that, the first in the queue that is not its own child"
by_rule false false false zero (suc k) i a b s =
    record {
      part = comes_to a (entry (suc k) (suc (stamp s.table (suc k)))) (pair a b (suc k));
      state = stored s (suc k) i (child a.ref) (child b.ref) (edge a b);
    }
-- "if there is none, it is temporary."
by_rule false false false zero zero i a b s = record { part = comes_to a temporary (pair a b 0); state = s }

-- "At each level, when both halves are done"
unfoldable pub meet : ℕ → ℕ → Part → Part → State → Done
unfolding by_rule find next_number
meet size i a b s = by_rule (both_terminal a b) (same_entry s a b) (half_barred s a b) (found s i a b) (new_number size s a b) i a b s

-- ---- The walk --------------------------------------------------------------------------------

-- "Walk all words from 0 up; halves meet at each level." The part of level i with m options left, whose words are at .. at + 2 ^ m - 1
unfoldable pub part : ℕ → ℕ → ℕ → ℕ → (ℕ → Bool) → State → Done
unfolding meet
part size zero i at f s = record { part = record { ref = terminal; complement = f at; text = number 0 }; state = s }
part size (suc m) i at f s =
    let a = part size m (suc i) at f s in
    let b = part size m (suc i) (at + 2 ^ m) f a.state in
    meet size i a.part b.part b.state
