-- The words that a stream covers, and the complements on the way to a place. Their laws: proofs/Covered. Assumes nothing.
use Rattle.std.specs.Prelude.{Bool, false, List, [], ◌∷◌, ℕ}
use Rattle.theory_lists.specs.Lists.{differ}
use Rattle.theory_reading.specs.Element.{Open, in_first, in_second}
use Rattle.theory_reading.specs.Reading.{reading}

-- the complements on the way to the place, from the second children around it
unfoldable pub parity : List Open → Bool
parity [] = false
parity (in_first ∷ o) = parity o
parity (in_second r t ∷ o) = differ t (parity o)

-- document 01: covered count
abbrev pub covered : ℕ → List ℕ → ℕ
covered n bytes = (reading n bytes).state.covered
