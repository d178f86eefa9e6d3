-- Whether a decision counts for an operator; and an operator's four results, which are the last digits of its number. Assumes nothing.
use Prim.{Unit}
use Rattle.std.specs.Prelude.{◌≡◌, Bool, true, false, cond, [], ◌∷◌, ℕ, zero, suc, ◌≤◌, ◌/◌, ◌%◌, ◌^◌, eqb}
use Rattle.std.proofs.Common.{ap, arith}
use Rattle.theory_lists.specs.Lists.{differ}
use Rattle.theory_writing.specs.Run.{digit_at, operate}

-- ---- Whether a decision counts ---------------------------------------------------------------

-- the results differ for the two decisions of the first input, beside the decision d of the second; likewise of the second
abbrev pub opens_first : ℕ → Bool → Bool
opens_first op d = differ (operate op (false ∷ d ∷ [])) (operate op (true ∷ d ∷ []))

abbrev pub opens_second : ℕ → Bool → Bool
opens_second op d = differ (operate op (d ∷ false ∷ [])) (operate op (d ∷ true ∷ []))

-- ---- The cases -------------------------------------------------------------------------------

-- binary digit d of a number
abbrev binary_digit : ℕ → ℕ → Bool
binary_digit k d = eqb (k / 2 ^ d % 2) 1

-- a line of results, 11 to 00, is right if it has the last four digits of the operator's number, k
pub by_digits : (k op : ℕ) (a b : Bool) → op % 16 ≡ k
    → cond a (cond b (binary_digit k 3) (binary_digit k 2)) (cond b (binary_digit k 1) (binary_digit k 0)) ≡ operate op (a ∷ b ∷ [])
unfolding operate digit_at
by_digits k op true true e = let same : k / 8 % 2 ≡ op / 8 % 2 = omega (arith, e) in ap (λ (d : ℕ). eqb d 1) same
by_digits k op true false e = let same : k / 4 % 2 ≡ op / 4 % 2 = omega (arith, e) in ap (λ (d : ℕ). eqb d 1) same
by_digits k op false true e = let same : k / 2 % 2 ≡ op / 2 % 2 = omega (arith, e) in ap (λ (d : ℕ). eqb d 1) same
by_digits k op false false e = let same : k / 1 % 2 ≡ op / 1 % 2 = omega (arith, e) in ap (λ (d : ℕ). eqb d 1) same

-- i is none of the numbers below k, as it is known in the last case of a `match`
abbrev NoneBelow : ℕ → ℕ → Type 0
NoneBelow i zero = Unit
NoneBelow i (suc k) = NoneBelow i k × (i ≡ k → ⊥)

pub past_cases : (i k : ℕ) → NoneBelow i k → k ≤ i
past_cases i zero h = omega arith
past_cases i (suc k) h = omega (arith, past_cases i k h.0, h.1)
