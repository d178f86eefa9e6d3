-- Reading a stream under an option count n (document 01, "The stream"; the covered count of "A stream that stops early"; causes 7 to 13 of
-- "Turned down"). Assumes nothing.
use Rattle.std.specs.Prelude.{Bool, true, false, cond, ◌&&◌, ◌||◌, List, [], ◌∷◌, ℕ, zero, suc, ◌+◌, ◌-◌, ◌^◌, ltb, eqb, length, get_or, set, replicate}
use Rattle.std.proofs.Math.Option.{Option, none, some}
use Rattle.theory_reading.specs.Limits.{table_limit}
use Rattle.theory_reading.specs.Bytes.{colon, blank}
use Rattle.theory_reading.specs.Nodes.{Ref, terminal, entry, temporary, is_kept, child, Node, new_node, no_node, node, stamp, has_parent, bars}
use Rattle.theory_reading.specs.Causes.{Cause, declared_size, too_deep, not_in_table, other_level, not_storable, bad_number}
use Rattle.theory_reading.specs.Element.{Element, opening, number, constant, turn, closing, storing, end, Open, in_first, in_second, Context}
use Rattle.theory_reading.specs.Element.{start, lead, begins, after_digit, after_two, after_one, over, Place, place, begin, Outcome, got, fault}
use Rattle.theory_reading.specs.Element.{ran_out, step}

-- ---- What has been read ----------------------------------------------------------------------

-- The children of the two-child node that ended last, and whether a `~` stands between them.
pub record Children : Type 0 where
  pub first : Ref
  pub complement : Bool
  pub second : Ref

abbrev pub children : Ref → Bool → Ref → Children
children a t b = record { first = a; complement = t; second = b }

-- size: the declared size, 0 while unfinished; covered: the covered count; complement: a leading `~`;
-- table: the records of the numbers up to the size, and none at place 0
pub record State : Type 0 where
  pub place : Place
  pub size : ℕ
  pub covered : ℕ
  pub complement : Bool
  pub table : List Node
  pub pair : Children

abbrev pub state : Place → ℕ → ℕ → Bool → List Node → Children → State
state p z c t r x = record { place = p; size = z; covered = c; complement = t; table = r; pair = x }

abbrev pub fresh : State
fresh = state begin 0 0 false [] (children terminal false terminal)

pub record Fault : Type 0 where
  pub cause : Cause
  pub byte : ℕ

-- A reading: how far it came, and the fault that it met there, if any.
pub record Reading : Type 0 where
  pub state : State
  pub fault : Option Fault

abbrev pub goes : State → Reading
goes s = record { state = s; fault = none }

abbrev pub fails : State → Cause → ℕ → Reading
fails s c b = record { state = s; fault = some (record { cause = c; byte = b }) }

-- ---- Levels and words ------------------------------------------------------------------------

-- "The outermost bracket is level 1, its children are at level 2, and so on": the level of a node that begins or has just ended at a place.
abbrev pub level : Place → ℕ
level p = length p.opens + 1

-- The words of such a node: 2^(n + 1 - level).
abbrev pub words_at : ℕ → Place → ℕ
words_at n p = 2 ^ (n - length p.opens)

-- ---- One element more ------------------------------------------------------------------------

-- The node that ended last was r.
abbrev pub ending : Ref → Place → Place
ending r p = place p.at p.context p.opens r

-- A constant or a number r has been read: it passes its words. q: the place after it
abbrev pub passed : ℕ → State → Place → Ref → State
passed n s q r = state (ending r q) s.size (s.covered + words_at n s.place) s.complement s.table s.pair

-- the contexts by number, in the order of their names
abbrev pub context_number : Context → ℕ
context_number start = 0
context_number lead = 1
context_number begins = 2
context_number after_digit = 3
context_number after_two = 4
context_number after_one = 5
context_number over = 6

abbrev pub is_context : Context → Context → Bool
is_context k m = eqb (context_number m) (context_number k)

abbrev pub is_start : Context → Bool
is_start m = is_context start m

-- "declared size above" the table limit. d: the first digit's place
abbrev pub sized : State → Place → ℕ → ℕ → Reading
sized s q d v = cond (ltb table_limit v) (fails s declared_size d) (goes (state q v s.covered s.complement (replicate (suc v) no_node) s.pair))

-- "number not in the table", "number at another level"
abbrev pub found : ℕ → State → Place → ℕ → ℕ → Node → Reading
found n s q d v x =
    cond (eqb x.level 0) (fails s not_in_table d)
    (cond (eqb x.level (level s.place)) (goes (passed n s q (entry v x.stamp))) (fails s other_level d))

-- a `~` before the outermost node
abbrev pub is_lead : Context → Bool
is_lead m = is_context lead m

abbrev pub turned : State → Place → State
turned s q = state q s.size s.covered (is_lead s.place.context || s.complement) s.table s.pair

-- `)`: "`(A)` needs a kept A", passes as many words as A again, and stands for A's number; or the end of two children, which is temporary.
-- (A `)` with no bracket open is no element.)
abbrev pub closed : ℕ → State → Place → List Open → Reading
closed n s q [] = goes (state q s.size s.covered s.complement s.table s.pair)
closed n s q (in_first ∷ o) =
    cond (is_kept s.place.last)
    (goes (state q s.size (s.covered + words_at n s.place) s.complement s.table s.pair))
    (fails s not_storable s.place.at)
closed n s q (in_second a t ∷ o) =
    goes (state (ending temporary q) s.size s.covered s.complement s.table (children a t s.place.last))

-- "number to store 0, above the size, a child of a stored node or its own child"
unfoldable pub is_bad : State → ℕ → Bool
unfolding has_parent
is_bad s k = (eqb k 0 || ltb s.size k) || (has_parent s.table k || (eqb (child s.pair.first) k || eqb (child s.pair.second) k))

-- The node that ended last is given the number k.
abbrev pub stored : State → Place → ℕ → State
stored s q k =
    let g = suc (stamp s.table k) in
    state (ending (entry k g) q) s.size s.covered s.complement
    (set s.table k (new_node (level s.place) (child s.pair.first) (child s.pair.second) s.pair.complement g)) s.pair

-- One element more; d: the place of its first digit, if it has one; q: the place after it
unfoldable pub with_element : ℕ → State → ℕ → Element → Place → Reading
unfolding is_bad
with_element n s d opening q = cond (ltb n (level s.place)) (fails s too_deep s.place.at)
    (goes (state q s.size s.covered s.complement s.table s.pair))
with_element n s d (number v) q = cond (is_start s.place.context) (sized s q d v) (found n s q d v (node s.table v))
with_element n s d constant q = goes (passed n s q terminal)
with_element n s d turn q = goes (turned s q)
with_element n s d closing q = closed n s q s.place.opens
with_element n s d (storing k) q = cond (is_bad s k) (fails s bad_number (s.place.at + 1)) (goes (stored s q k))
with_element n s d end q = goes (state q s.size s.covered s.complement s.table s.pair)

-- ---- The reading -----------------------------------------------------------------------------

abbrev pub is_two : Context → Bool
is_two m = is_context after_two m

-- "storing barred by a child": a node may be given a number "only if both children are kept and no number of theirs has been given out again
-- since they were read". Cause 12 at the `:`, whatever follows it. b: the byte at the place
abbrev pub barred_colon : State → ℕ → Bool
barred_colon s b = (is_two s.place.context && eqb b colon) && (bars s.table s.pair.first || bars s.table s.pair.second)

-- The first digit of a number stands after the space, if there is one.
abbrev pub first_digit : State → ℕ → ℕ
first_digit s b = cond (eqb b blank) (s.place.at + 1) s.place.at

-- What a step brings.
unfoldable pub after : ℕ → State → ℕ → Outcome → Place → Reading
unfolding with_element
after n s d (got e) q = with_element n s d e q
after n s d (fault c b) q = fails s c b
after n s d ran_out q = goes s

-- One element more, if there is one.
unfoldable pub advance : ℕ → List ℕ → State → Reading
unfolding step after
advance n bytes s =
    let b = get_or bytes s.place.at 0 in
    let x = step s.place bytes in
    elim (barred_colon s b) [
      | true ↦ fails s not_storable s.place.at
      | false ↦ after n s (first_digit s b) x.outcome x.place
    ]

-- "The lowest fault place counts": at a fault nothing more is read.
abbrev pub next_by : ℕ → List ℕ → State → Option Fault → Reading
next_by n bytes s none = advance n bytes s
next_by n bytes s (some f) = record { state = s; fault = some f }

unfoldable pub next : ℕ → List ℕ → Reading → Reading
unfolding advance
next n bytes r = next_by n bytes r.state r.fault

unfoldable pub onward : ℕ → ℕ → List ℕ → Reading → Reading
unfolding next
onward zero n bytes r = r
onward (suc f) n bytes r = onward f n bytes (next n bytes r)

-- THE READING of a stream. Every step takes a byte, or is the last: as many steps as there are bytes, and one for a fault, are enough
-- (`settled`).
unfoldable pub reading : ℕ → List ℕ → Reading
unfolding onward
reading n bytes = onward (suc (length bytes)) n bytes (goes fresh)
