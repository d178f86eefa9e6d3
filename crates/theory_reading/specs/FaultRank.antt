-- AT ONE PLACE THE LOWER RANK COUNTS (document 01, "Turned down": "in a stream the lowest fault place counts, and there the lower number"): when
-- a stream meets each cause at a byte, whatever else is wrong there. That its fault is met, and none that is met at that byte has a lower rank:
-- proofs/FaultRank. Assumes nothing.
use Rattle.std.specs.Prelude.{◌≡◌, ◌≢◌, ◌⊎◌, Bool, true, false, ℕ, ◌+◌, ◌<◌, ◌≤◌, min}
use mathlib.Core.List.{List, ◌∷◌}
use Rattle.std.proofs.Math.Option.{some}
use Rattle.std.proofs.Math.ListN.{get_elem?}
use Rattle.theory_reading.specs.Limits.{open_limit, table_limit}
use Rattle.theory_reading.specs.Bytes.{opener}
use Rattle.theory_reading.specs.Nodes.{is_kept, node}
use Rattle.theory_reading.specs.Causes.{Cause, option_count, operator_code, size_to_write, work_table, word_range, truth_table, cause_row}
use Rattle.theory_reading.specs.Causes.{wrong_byte, declared_size, too_deep, not_in_table, other_level, not_storable, bad_number}
use Rattle.theory_reading.specs.Element.{Element, number, closing, storing, Open, in_first}
use Rattle.theory_reading.specs.Element.{got, fault}
use Rattle.theory_reading.specs.Element.{step}
use Rattle.theory_reading.specs.Reading.{State, level, is_start, is_bad}
use Rattle.theory_reading.specs.Reading.{barred_colon, first_digit}
use Rattle.theory_reading.specs.Prefix.{byte_at}

-- Reading stands at s: the element that it reads next,
abbrev pub Reads : List ℕ → State → Element → Type 0
Reads bytes s e = (step s.place bytes).outcome ≡ got e

-- and a number v there, its first digit at byte b: the size, if that is where it stands, else one in place of a node
abbrev pub ReadsNumber : List ℕ → State → ℕ → Bool → ℕ → Type 0
ReadsNumber bytes s b is_size v = Reads bytes s (number v) × (is_start s.place.context ≡ is_size) × (b ≡ first_digit s (byte_at bytes s))

-- Reading, which stands at s, meets the cause at byte b: causes 7 to 13 by their lines in the paper's table. (A node's first byte stands where
-- its first digit would.)
abbrev pub Meets : ℕ → List ℕ → State → ℕ → Cause → Type 0
Meets n bytes s b option_count = ⊥
Meets n bytes s b operator_code = ⊥
Meets n bytes s b size_to_write = ⊥
Meets n bytes s b work_table = ⊥
Meets n bytes s b word_range = ⊥
Meets n bytes s b truth_table = ⊥
Meets n bytes s b wrong_byte = (step s.place bytes).outcome ≡ fault wrong_byte b
Meets n bytes s b declared_size = (v : ℕ) × ReadsNumber bytes s b true v × (table_limit < v)
Meets n bytes s b too_deep = (get_elem? bytes b ≡ some opener) × (min n open_limit < level s.place) × (b ≡ first_digit s (byte_at bytes s))
Meets n bytes s b not_in_table = (v : ℕ) × ReadsNumber bytes s b false v × ((node s.table v).level ≡ 0)
Meets n bytes s b other_level = (v : ℕ) × ReadsNumber bytes s b false v × ((node s.table v).level ≢ level s.place)
Meets n bytes s b not_storable =
    ((barred_colon s (byte_at bytes s) ≡ true)
    ⊎ (Reads bytes s closing × ((o : List Open) × (s.place.opens ≡ in_first ∷ o)) × (is_kept s.place.last ≡ false)))
    × (b ≡ s.place.at)
Meets n bytes s b bad_number = (k : ℕ) × Reads bytes s (storing k) × (is_bad s k ≡ true) × (b ≡ s.place.at + 1)

-- The cause is met at byte b, and none that is met there has a lower rank.
pub record Counts (n : ℕ) (bytes : List ℕ) (s : State) (b : ℕ) (c : Cause) : Type 0 where
  pub met : Meets n bytes s b c
  pub lowest : (d : Cause) → Meets n bytes s b d → (cause_row c).rank ≤ (cause_row d).rank
