-- How code of two inputs finds and fits a row of a memo: cell by cell. Assumes nothing.
use Rattle.std.specs.Prelude.{◌≡◌, Bool, true, ◌&&◌, List, [], ◌∷◌, ℕ, eqb, get_or, drop}
use Rattle.std.proofs.Common.{ap, ap₂, ◌∙◌, get_or-drop, drop-drop}
use Rattle.theory_lists.specs.Lists.{bit}
use Rattle.theory_reading.specs.Nodes.{stamp}
use Rattle.theory_applying.specs.Applying.{Source}
use Rattle.theory_applying.specs.Memo.{same_key}

-- ---- A row -----------------------------------------------------------------------------------

-- the key of an input, in the cells a, b and c
abbrev pub fits_edge : Source → ℕ → ℕ → ℕ → Bool → Bool
fits_edge x a b c rest = eqb a x.number && (eqb b (stamp x.table x.number) && (eqb c (bit x.complement) && rest))

-- of two inputs, in cells 3 to 8
pub key-pair : (r : List ℕ) (x y : Source) → same_key (drop 3 r) (x ∷ y ∷ [])
    ≡ fits_edge x (get_or r 3 0) (get_or r 4 0) (get_or r 5 0) (fits_edge y (get_or r 6 0) (get_or r 7 0) (get_or r 8 0) true)
key-pair r x y = first ∙ ap (λ (l : List ℕ). second l) (drop-drop 3 3 r) ∙ third
  where
    second : List ℕ → Bool
    second l = fits_edge x (get_or r 3 0) (get_or r 4 0) (get_or r 5 0) (fits_edge y (get_or l 0 0) (get_or l 1 0) (get_or l 2 0) true)

    first : same_key (drop 3 r) (x ∷ y ∷ []) ≡ second (drop 3 (drop 3 r))
    first =
        ap (λ (a : ℕ). fits_edge x a (get_or (drop 3 r) 1 0) (get_or (drop 3 r) 2 0) (same_key (drop 3 (drop 3 r)) (y ∷ []))) (get_or-drop 3 r 0 0)
        ∙ ap₂ (λ (b c : ℕ). fits_edge x (get_or r 3 0) b c (same_key (drop 3 (drop 3 r)) (y ∷ []))) (get_or-drop 3 r 1 0) (get_or-drop 3 r 2 0)

    third : second (drop 6 r) ≡ fits_edge x (get_or r 3 0) (get_or r 4 0) (get_or r 5 0) (fits_edge y (get_or r 6 0) (get_or r 7 0) (get_or r 8 0) true)
    third =
        ap (λ (a : ℕ). fits_edge x (get_or r 3 0) (get_or r 4 0) (get_or r 5 0) (fits_edge y a (get_or (drop 6 r) 1 0) (get_or (drop 6 r) 2 0) true))
        (get_or-drop 6 r 0 0)
        ∙ ap₂ (λ (b c : ℕ). fits_edge x (get_or r 3 0) (get_or r 4 0) (get_or r 5 0) (fits_edge y (get_or r 6 0) b c true)) (get_or-drop 6 r 1 0)
        (get_or-drop 6 r 2 0)
