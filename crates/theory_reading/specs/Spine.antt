-- Open nodes of a cut stream whose first children stay, and the number of the outermost. Their laws: proofs/Spine. Assumes nothing.
use Rattle.std.specs.Prelude.{Bool, not, ◌&&◌}
use Rattle.std.proofs.Math.Bool.{true}
use mathlib.Core.List.{List, [], ◌∷◌}
use Prim.Native.Nat.{ℕ, ◌+◌}
use Rattle.theory_reading.specs.Nodes.{Node, bars}
use Rattle.theory_reading.specs.Element.{Open, in_first, in_second}

-- the first child of an open node, if it has ended, is the terminal or in the table
abbrev pub first_stays : List Node → Open → Bool
first_stays t in_first = true
first_stays t (in_second r b) = not (bars t r)

-- so are those of all open nodes
abbrev pub firsts_stay : List Node → List Open → Bool
firsts_stay t [] = true
firsts_stay t (x ∷ o) = first_stays t x && firsts_stay t o

-- the number of the outermost
abbrev pub spine_number : List Open → ℕ → ℕ → ℕ
spine_number [] k e = e
spine_number (x ∷ o) k e = spine_number o (k + 1) k
