-- How code holds the operation cache. Assumes nothing.
use Rattle.std.specs.Prelude.{◌≡◌, Bool, cond, not, ◌&&◌, List, [], ◌∷◌, ℕ, ◌+◌, eqb, get_or, set, replicate, map, Option, None, Some}
use Rattle.std.specs.Option.{is_some}
use Rattle.theory_lists.specs.Lists.{bit}
use Rattle.theory_engine.specs.Engine as E
use Rattle.theory_applying.specs.Memo.{is_empty, is_young, told_half}
use Rattle.meeting.specs.Abstraction.{half_of}
use Rattle.meeting.specs.declared.Half.{Half}
use Rattle.operation_cache.specs.declared.Entry.{Entry}
use Rattle.operation_cache.specs.declared.Key.{Key}
use Rattle.node_records.specs.declared.WriterRecord.{WriterRecord}

-- what a part is remembered by, as the cells of a row have it
abbrev pub key_cells : Key → List ℕ
key_cells k = k.number1 ∷ k.stamp1 ∷ bit k.complement1 ∷ k.number2 ∷ k.stamp2 ∷ bit k.complement2 ∷ []

-- a row as cells, all zero if it is empty
abbrev pub row_of : Option Entry → List ℕ
row_of None = replicate 9 0
row_of (Some e) = (bit e.complement + 1) ∷ e.number ∷ e.stamp ∷ key_cells e.key

abbrev pub rows_of : List (Option Entry) → List (List ℕ)
rows_of c = map row_of c

-- a row has something, and its key is k
abbrev pub holds : List ℕ → Key → Bool
holds r k =
    not (is_empty r) && (eqb (get_or r 3 0) k.number1 && (eqb (get_or r 4 0) k.stamp1 && (eqb (get_or r 5 0) (bit k.complement1)
    && (eqb (get_or r 6 0) k.number2 && (eqb (get_or r 7 0) k.stamp2 && eqb (get_or r 8 0) (bit k.complement2))))))

-- what is told, or else h
abbrev pub told_or : E.Half → Option Half → E.Half
told_or h None = h
told_or h (Some x) = half_of x

-- what a row tells of the part of level i with the key k
abbrev pub tells_by : Option Half → List ℕ → Key → ℕ → List WriterRecord → Type 0
tells_by x r k i t =
    (is_some x ≡ (holds r k && is_young r t)) × (told_or (told_half r i t) x ≡ told_half r i t)

-- the row with what a part came to
abbrev pub noted_entry : Key → E.Half → List ℕ
noted_entry k h = (bit h.complement + 1) ∷ h.number ∷ h.stamp ∷ key_cells k

-- row p gets it, unless it is passed by or temporary
abbrev pub noted_by : List (List ℕ) → ℕ → Key → Bool → E.Half → List (List ℕ)
noted_by μ p k by h = cond by μ (cond h.temporary μ (set μ p (noted_entry k h)))
