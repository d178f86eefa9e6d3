-- The text that waits, as code holds it: bytes in a lent row, and how many of them count. It goes out to the output, clipped at its end.
-- Definitions only; PendingLaws and Meeting tie them to what the walk of Online sends. Assumes nothing.
use Rattle.std.specs.Prelude.{Bool, cond, List, [], ◌∷◌, ◌++◌, ℕ, ◌+◌, ◌-◌, ◌*◌, min, ltb, length, set, replicate}
use Rattle.theory_reading.specs.Limits.{option_limit, digit_limit}
use Rattle.theory_reading.specs.Bytes.{opener, closer, blank}
use Rattle.theory_writing.specs.Texts.{decimal, storing}

-- ---- How much waits --------------------------------------------------------------------------

-- the bytes of a part: a number inside as many brackets as there are options
abbrev pub part_room : ℕ
part_room = 2 * option_limit + digit_limit

-- of an open node: its bracket, its first part and `~`
abbrev pub level_room : ℕ
level_room = part_room + 2

-- of a node that ends: both parts, and its number
abbrev pub end_room : ℕ
end_room = 2 * level_room + digit_limit

-- of all that waits, in round numbers
abbrev pub waiting_limit : ℕ
waiting_limit = 2400

-- ---- What waits ------------------------------------------------------------------------------

pub record Waiting : Type 0 where
  pub bytes : List ℕ
  pub count : ℕ

abbrev pub waiting : List ℕ → ℕ → Waiting
waiting w m = record { bytes = w; count = m }

-- a text is added after the first m bytes, as far as there is room
unfoldable pub push_all : List ℕ → ℕ → List ℕ → Waiting
push_all w m [] = waiting w m
push_all w m (b ∷ bs) = push_all (set w m b) (cond (ltb m (length w)) (m + 1) m) bs

-- what waits after a part that came to number k inside j brackets: alone if a node was written out
abbrev pub part_text : Bool → ℕ → ℕ → List ℕ
part_text wrote j k = cond wrote [] (replicate j opener ++ decimal k) ++ replicate j closer

unfoldable pub wait_in : List ℕ → ℕ → Bool → ℕ → ℕ → Waiting
wait_in w m wrote j k = push_all w (cond wrote 0 m) (part_text wrote j k)

-- a two-child node ends: a space if one is wanted, what waits of its second child (wrote, j, k as above), the bracket, its number
unfoldable pub close_in : List ℕ → ℕ → Bool → Bool → ℕ → ℕ → ℕ → Waiting
close_in w m space wrote j k number =
    let p = push_all w m (cond space (blank ∷ []) []) in
    let q = wait_in p.bytes p.count wrote j k in
    push_all q.bytes q.count (closer ∷ storing number)

-- ---- What goes out ---------------------------------------------------------------------------

-- a text goes to the output from place `at` on; what is beyond its end is dropped
unfoldable pub sent_to : List ℕ → ℕ → List ℕ → List ℕ
sent_to out at [] = out
sent_to out at (b ∷ bs) = sent_to (set out at b) (at + 1) bs

-- how many bytes are then written, of a text of m bytes
abbrev pub written_to : List ℕ → ℕ → ℕ → ℕ
written_to out at m = at + min m (length out - at)
