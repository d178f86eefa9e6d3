-- Facts on `map`, `replicate` and `get_or`. Assumes nothing.
use Rattle.std.specs.Prelude.{◌≡◌, refl, List, [], ◌∷◌, ◌++◌, map, ℕ, zero, suc, get_or, set, replicate}
use Rattle.std.proofs.Common.{ap, ap₂}

pub map-append : {A B : Type 0} (f : A → B) (xs ys : List A) → map f (xs ++ ys) ≡ map f xs ++ map f ys
map-append f [] ys = refl
map-append {B = B} f (x ∷ xs) ys = ap {B = List B} (λ l. f x ∷ l) (map-append f xs ys)

pub map_same : {A B : Type 0} (f g : A → B) → ((x : A) → f x ≡ g x) → (xs : List A) → map f xs ≡ map g xs
map_same f g h [] = refl
map_same f g h (x ∷ xs) = ap₂ ◌∷◌ (h x) (map_same f g h xs)

pub map-map : {A B C : Type 0} (f : A → B) (g : B → C) (xs : List A) → map g (map f xs) ≡ map (λ x. g (f x)) xs
map-map f g [] = refl
map-map {C = C} f g (x ∷ xs) = ap {B = List C} (λ l. g (f x) ∷ l) (map-map f g xs)

pub map-replicate : {A B : Type 0} (f : A → B) (k : ℕ) (x : A) → map f (replicate k x) ≡ replicate k (f x)
map-replicate f zero x = refl
map-replicate {B = B} f (suc k) x = ap {B = List B} (λ l. f x ∷ l) (map-replicate f k x)

-- copies of the default behind, or alone, are the default
pub get_or-replicate-same : {A : Type 0} (k i : ℕ) (x : A) → get_or (replicate k x) i x ≡ x
get_or-replicate-same zero i x = refl
get_or-replicate-same (suc k) zero x = refl
get_or-replicate-same (suc k) (suc i) x = get_or-replicate-same k i x

pub get_or-pad : {A : Type 0} (xs : List A) (k i : ℕ) (x : A) → get_or (xs ++ replicate k x) i x ≡ get_or xs i x
get_or-pad [] k i x = get_or-replicate-same k i x
get_or-pad (y ∷ xs) k zero x = refl
get_or-pad (y ∷ xs) k (suc i) x = get_or-pad xs k i x

-- what holds of the new element and of the old ones holds after a `set`
pub get_or-set-either : {A : Type 0} (P : A → Type 0) (l : List A) (i k : ℕ) (x y : A) → P x → P (get_or l k y) → P (get_or (set l i x) k y)
get_or-set-either P [] i k x y h j = j
get_or-set-either P (z ∷ l) zero zero x y h j = h
get_or-set-either P (z ∷ l) zero (suc k) x y h j = j
get_or-set-either P (z ∷ l) (suc i) zero x y h j = j
get_or-set-either P (z ∷ l) (suc i) (suc k) x y h j = get_or-set-either P l i k x y h j
