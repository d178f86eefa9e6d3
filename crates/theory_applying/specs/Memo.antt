-- What a combiner remembers of parts that it walked: rows of cells, each with what a part came to and with the edges at which its inputs
-- stood. A later entry overwrites one of the same row. Definitions only; MemoLaws says what is true of them. Assumes nothing.
use Rattle.std.specs.Prelude.{Bool, true, false, cond, not, ◌&&◌, ◌||◌, List, [], ◌∷◌, ℕ, ◌+◌, ◌-◌, ◌*◌, ◌%◌, eqb, get_or, set, drop}
use Rattle.theory_lists.specs.Lists.{bit}
use Rattle.theory_reading.specs.Nodes.{stamp}
use Rattle.theory_engine.specs.Cells.{cell}
use Rattle.writer_numbers.specs.Hashing.{stir, edge_span}
use Rattle.writer_records.specs.Fields.{level_field, stamp_field}
use Rattle.theory_engine.specs.Engine.{Half, constant_half, number_half}
use Rattle.theory_applying.specs.Applying.{Source}
use Rattle.node_records.specs.declared.WriterRecord.{WriterRecord}

-- A row: 0 if it is empty, else 1, and 2 if the part is complemented; the number that the part came to (0: the constant) and its stamp;
-- then three cells of each input: the number at which it stood (0: the constant), the stamp of that in its table, and 1 if it is turned
-- about.

-- ---- The key ---------------------------------------------------------------------------------

-- the cells of the inputs
abbrev pub key_of : List Source → List ℕ
key_of [] = []
key_of (x ∷ xs) = x.number ∷ stamp x.table x.number ∷ bit x.complement ∷ key_of xs

-- they are the first of the cells r
abbrev pub same_key : List ℕ → List Source → Bool
same_key r [] = true
same_key r (x ∷ xs) =
    eqb (get_or r 0 0) x.number && (eqb (get_or r 1 0) (stamp x.table x.number) && (eqb (get_or r 2 0) (bit x.complement)
    && same_key (drop 3 r) xs))

-- ---- What a row says -------------------------------------------------------------------------

abbrev pub is_empty : List ℕ → Bool
is_empty r = eqb (get_or r 0 0) 0

abbrev pub number_in : List ℕ → ℕ
number_in r = get_or r 1 0

abbrev pub stamp_in : List ℕ → ℕ
stamp_in r = get_or r 2 0

abbrev pub complement_in : List ℕ → Bool
complement_in r = eqb (get_or r 0 0) 2

-- the number still has that stamp in the records t; the constant always counts
abbrev pub is_young : List ℕ → List WriterRecord → Bool
is_young r t = eqb (number_in r) 0 || eqb (cell t stamp_field (number_in r)) (stamp_in r)

-- the row tells what a part comes to whose inputs stand at xs
abbrev pub tells : List ℕ → List Source → List WriterRecord → Bool
tells r xs t = not (is_empty r) && (same_key (drop 3 r) xs && is_young r t)

-- the part of level i that it tells
abbrev pub told_half : List ℕ → ℕ → List WriterRecord → Half
told_half r i t =
    cond (eqb (number_in r) 0) (constant_half (complement_in r))
    (number_half (number_in r) (stamp_in r) (cell t level_field (number_in r) - i) (complement_in r) false)

-- ---- Looking up and noting -------------------------------------------------------------------

-- hash: the row for a key, any function; past the rows of the memo nothing is found and nothing noted
abbrev pub entry_for : (List ℕ → ℕ) → List (List ℕ) → List Source → List ℕ
entry_for hash μ xs = get_or μ (hash (key_of xs)) []

-- a part whose inputs stand at xs is known
abbrev pub look_up_in : (List ℕ → ℕ) → List (List ℕ) → List Source → List WriterRecord → Bool
look_up_in hash μ xs t = tells (entry_for hash μ xs) xs t

-- the row with what the part came to
abbrev pub note_entry : List Source → Half → List ℕ
note_entry xs h = (bit h.complement + 1) ∷ h.number ∷ h.stamp ∷ key_of xs

-- it came to h; a temporary node is not remembered
unfoldable pub remember_in : (List ℕ → ℕ) → List (List ℕ) → List Source → Half → List (List ℕ)
remember_in hash μ xs h = cond h.temporary μ (set μ (hash (key_of xs)) (note_entry xs h))

-- ---- The place of a key ----------------------------------------------------------------------

-- How many rows there are. No law depends on it, nor on where a key has its place
abbrev pub cache_entries : ℕ
cache_entries = 2048

-- the inputs' cells mixed, one input after the other, from v on
unfoldable pub slot_from : ℕ → List ℕ → ℕ
unfolding stir
slot_from v [] = v
slot_from v (k ∷ []) = v
slot_from v (k ∷ g ∷ []) = v
slot_from v (k ∷ g ∷ u ∷ zs) = slot_from (stir 2654435769 (v % 4294967296 + (g * edge_span + k * 2 + u))) zs

-- one of c rows
abbrev pub slot_in : ℕ → List ℕ → ℕ
slot_in c z = slot_from 0 z % c

abbrev pub slot_of : List ℕ → ℕ
slot_of z = slot_in cache_entries z
