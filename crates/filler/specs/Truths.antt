-- A truth table as code writes it: bytes of 8 bits, where a sum wraps. Assumes nothing.
use Rattle.std.specs.Prelude.{ℕ, zero, suc, ◌+◌, ◌/◌, ◌%◌, ◌^◌, Bool, cond, ◌&&◌, ◌||◌, List, ◌==◌, nat_lt, slice_index, slice_set}
use Rattle.theory_lists.specs.Lists.{differ}
use Rattle.theory_reading.specs.Nodes.{Node, node}

-- word w becomes 1
abbrev pub with_word_in : List ℕ → ℕ → List ℕ
with_word_in bs w = slice_set bs (w / 8) ((slice_index bs (w / 8) + 2 ^ (w % 8)) % 256)

-- the words from w on of a node, as `put_node` has them
unfoldable pub put_node_in : ℕ → List Node → ℕ → ℕ → Bool → ℕ → List ℕ → List ℕ
put_node_in zero t i c b w bs = cond (c == 0 && b) (with_word_in bs w) bs
put_node_in (suc m) t i c b w bs =
    cond (c == 0 || nat_lt i (node t c).level)
    (put_node_in m t (i + 1) c b (w + 2 ^ m) (put_node_in m t (i + 1) c b w bs))
    (put_node_in m t (i + 1) (node t c).second (differ (node t c).complement b) (w + 2 ^ m) (put_node_in m t (i + 1) (node t c).first b w bs))
