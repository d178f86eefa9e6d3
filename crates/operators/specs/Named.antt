-- The operators that have a name give what the name says, for all decisions. "The named operators are NOR 1, NOT 3 (of the first), BUT 4, XOR 6, NAND 7,
-- AND 8, XNOR 9, OR 14." Assumes nothing.
use Rattle.std.specs.Prelude.{◌≡◌, refl, Bool, true, false, not, ◌&&◌, ◌||◌, [], ◌∷◌, ℕ}
use Rattle.theory_lists.specs.Lists.{differ}
use Rattle.theory_writing.specs.Run.{digit_at, operate}

-- operator op gives what f gives
abbrev Gives : ℕ → (Bool → Bool → Bool) → Type 0
Gives op f = (a b : Bool) → f a b ≡ operate op (a ∷ b ∷ [])

by-four : (op : ℕ) (f : Bool → Bool → Bool)
    → f false false ≡ operate op (false ∷ false ∷ []) → f false true ≡ operate op (false ∷ true ∷ [])
    → f true false ≡ operate op (true ∷ false ∷ []) → f true true ≡ operate op (true ∷ true ∷ [])
    → Gives op f
by-four op f e00 e01 e10 e11 false false = e00
by-four op f e00 e01 e10 e11 false true = e01
by-four op f e00 e01 e10 e11 true false = e10
by-four op f e00 e01 e10 e11 true true = e11

pub nor : Gives 1 (λ a b. not (a || b))
unfolding operate digit_at
nor = by-four 1 (λ a b. not (a || b)) refl refl refl refl

pub not_first : Gives 3 (λ a b. not a)
unfolding operate digit_at
not_first = by-four 3 (λ a b. not a) refl refl refl refl

pub but : Gives 4 (λ a b. a && not b)
unfolding operate digit_at
but = by-four 4 (λ a b. a && not b) refl refl refl refl

pub xor : Gives 6 differ
unfolding operate digit_at
xor = by-four 6 differ refl refl refl refl

pub nand : Gives 7 (λ a b. not (a && b))
unfolding operate digit_at
nand = by-four 7 (λ a b. not (a && b)) refl refl refl refl

pub and : Gives 8 ◌&&◌
unfolding operate digit_at
and = by-four 8 ◌&&◌ refl refl refl refl

pub xnor : Gives 9 (λ a b. not (differ a b))
unfolding operate digit_at
xnor = by-four 9 (λ a b. not (differ a b)) refl refl refl refl

pub or : Gives 14 ◌||◌
unfolding operate digit_at
or = by-four 14 ◌||◌ refl refl refl refl
