-- Facts on looking into a list at a place: `get_elem?`, `get_or` and `drop`. Assumes nothing.
use Rattle.std.specs.Prelude.{◌≡◌, refl, ◌⊎◌, List, [], ◌∷◌, ◌++◌, ℕ, zero, suc, ◌≤◌, ◌<◌, length, get_or}
use Rattle.std.proofs.Common.{inl, inr, arith}
use Rattle.std.proofs.Math.Option.{none, some}
use Rattle.std.proofs.Math.ListN.{get_elem?}

-- the same element with more behind, if there is one
pub lookup-append : {A : Type 0} (xs ys : List A) (i : ℕ) → (get_elem? xs i ≡ none) ⊎ (get_elem? (xs ++ ys) i ≡ get_elem? xs i)
lookup-append [] ys i = inl refl
lookup-append (x ∷ xs) ys zero = inr refl
lookup-append (x ∷ xs) ys (suc i) = lookup-append xs ys i

pub lookup-past : {A : Type 0} (xs : List A) (i : ℕ) → length xs ≤ i → get_elem? xs i ≡ none
lookup-past [] i h = refl
lookup-past (x ∷ xs) zero h = absurd (omega arith)
lookup-past (x ∷ xs) (suc i) h = lookup-past xs i (omega arith)

pub lookup-inside : {A : Type 0} (xs : List A) (i : ℕ) (d : A) → i < length xs → get_elem? xs i ≡ some (get_or xs i d)
lookup-inside [] i d h = absurd (omega arith)
lookup-inside (x ∷ xs) zero d h = refl
lookup-inside (x ∷ xs) (suc i) d h = lookup-inside xs i d (omega arith)

none-some : {A B : Type 0} (a : A) → none ≡ some a → B
none-some a e = let z : ◌≡◌ {A = ℕ} 0 1 = cc in absurd (omega arith)

-- where there is an element, the place is inside
pub lookup-some : {A : Type 0} (xs : List A) (i : ℕ) (a : A) → get_elem? xs i ≡ some a → i < length xs
lookup-some [] i a e = none-some a e
lookup-some (x ∷ xs) zero a e = omega arith
lookup-some (x ∷ xs) (suc i) a e = let h = lookup-some xs i a e in omega arith
