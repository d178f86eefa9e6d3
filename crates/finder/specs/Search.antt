-- The search for a word that is yes below a stored node, as code goes: what the records say of the words below decides at once where to go.
-- Assumes nothing.
use Rattle.std.specs.Prelude.{Bool, cond, List, ℕ, zero, suc, ◌+◌, ◌-◌, ◌^◌, ◌≤◌, ltb, Option, Some, None}
use Rattle.theory_lists.specs.Lists.{differ}
use Rattle.theory_reading.specs.Limits.{option_limit, open_limit}
use Rattle.node_records.specs.Edges.{first_edge, second_edge}
use Rattle.node_records.specs.Words.{some_yes}
use Rattle.node_records.specs.declared.Edge.{Edge}
use Rattle.node_records.specs.declared.NodeRecord.{NodeRecord}
use Rattle.work_table.specs.Table.{get_in}

-- what e stands for, turned about if b: its words that are yes are those of e that are no
abbrev pub turned_edge : Bool → Edge → Edge
turned_edge b e = record { number = e.number; complement = differ b e.complement }

-- the level i with m options below it is one of those that streams have
abbrev pub InDepth : ℕ → ℕ → Type 0
InDepth m i = (m ≤ option_limit) × (i + m ≤ open_limit + option_limit)

-- some word below what e stands for is yes, in a table of z numbers
abbrev pub some_in : List NodeRecord → ℕ → Edge → Bool
some_in t z e = some_yes (get_in t z e.number) e

-- the children of the node of level i that e stands for
abbrev pub first_in : List NodeRecord → ℕ → ℕ → Edge → Edge
first_in t z i e = first_edge (get_in t z e.number) i e

abbrev pub second_in : List NodeRecord → ℕ → ℕ → Edge → Edge
second_in t z i e = second_edge (get_in t z e.number) i e

-- the least word that is yes of the node of level i, m options below it, that e stands for, if some word is
unfoldable pub least_in : ℕ → List NodeRecord → ℕ → ℕ → Edge → ℕ
least_in zero t z i e = 0
least_in (suc m) t z i e =
    let f = first_in t z i e in
    cond (some_in t z f) (least_in m t z (i + 1) f) (2 ^ m + least_in m t z (i + 1) (second_in t z i e))

-- the word w, if it is below k
abbrev pub word_below : ℕ → ℕ → Option ℕ
word_below k w = cond (ltb w k) (Some w) None

-- likewise, 2^m if none is
abbrev pub start_in : ℕ → List NodeRecord → ℕ → ℕ → Edge → ℕ
start_in m t z i e = cond (some_in t z e) (least_in m t z i e) (2 ^ m)

-- r in the first half if it is a word of it, else s in the second; h: the words of a half
abbrev pub halves_to : ℕ → ℕ → ℕ → ℕ
halves_to h r s = cond (ltb r h) r (h + s)

-- the least word from w on that is yes, 2^m if none is
unfoldable pub from_in : ℕ → List NodeRecord → ℕ → ℕ → Edge → ℕ → ℕ
unfolding least_in
from_in zero t z i e w = cond (some_in t z e) w 1
from_in (suc m) t z i e w =
    let g = second_in t z i e in
    cond (some_in t z e)
    (cond (ltb w (2 ^ m)) (halves_to (2 ^ m) (from_in m t z (i + 1) (first_in t z i e) w) (start_in m t z (i + 1) g))
    (2 ^ m + from_in m t z (i + 1) g (w - 2 ^ m)))
    (2 ^ suc m)
