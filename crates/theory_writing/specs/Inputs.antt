-- What values an input may have that decides so or not. The laws of runs: proofs/Inputs. Assumes nothing.
use Rattle.std.specs.Prelude.{◌≡◌, Bool, List, [], ◌∷◌}
use Rattle.theory_reading.specs.Deciding.{Decision, undecided, decided}

-- v: a value that an input may have which decides so: what it decides, or any
abbrev pub May : Decision → Bool → Type 0
May undecided v = Unit {0}
May (decided d) v = v ≡ d

-- of all inputs
abbrev pub AllMay : List Decision → List Bool → Type 0
AllMay [] [] = Unit {0}
AllMay [] (v ∷ vs) = ⊥
AllMay (d ∷ ds) [] = ⊥
AllMay (d ∷ ds) (v ∷ vs) = May d v × AllMay ds vs
