-- A decimal number read digit by digit is the number.
use Rattle.std.specs.Prelude.{◌≡◌, refl, Bool, true, false, List, [], ◌∷◌, ℕ, zero, suc, ◌+◌, ◌*◌, ◌-◌, ◌/◌, ◌%◌, ◌≤◌, ◌<◌, ltb}
use Rattle.std.proofs.Common.{ap, ◌∙◌, arith, ltb-false}
use Rattle.theory_reading.specs.Bytes.{digit_zero}
use Rattle.theory_writing.specs.Texts.{digits, decimal}

-- the value of digits that stand after a number of value v
unfoldable pub value_from : ℕ → List ℕ → ℕ
value_from v [] = v
value_from v (d ∷ ds) = value_from (v * 10 + (d - digit_zero)) ds

digits_value : (f x : ℕ) (acc : List ℕ) → x < f → value_from 0 (digits f x acc) ≡ value_from x acc
unfolding digits value_from
digits_value zero x acc h = absurd (omega arith)
digits_value (suc f) x acc h = go (ltb x 10) refl (λ l. digits_value f (x / 10) ((digit_zero + x % 10) ∷ acc) (omega arith))
  where
    go : (t : Bool) → ltb x 10 ≡ t
        → (10 ≤ x → value_from 0 (digits f (x / 10) ((digit_zero + x % 10) ∷ acc)) ≡ value_from (x / 10) ((digit_zero + x % 10) ∷ acc))
        → value_from 0 (elim t as (λ _. List ℕ) [
          | true ↦ (digit_zero + x) ∷ acc
          | false ↦ digits f (x / 10)
              ((digit_zero + x % 10) ∷ acc)
        ]) ≡ value_from x acc
    go true e ih = let d : 0 * 10 + (digit_zero + x - digit_zero) ≡ x = omega arith in ap (λ (v : ℕ). value_from v acc) d
    go false e ih =
        let d : x / 10 * 10 + (digit_zero + x % 10 - digit_zero) ≡ x = omega arith in
        ih (ltb-false x 10 e) ∙ ap (λ (v : ℕ). value_from v acc) d

pub decimal-value : (x : ℕ) → value_from 0 (decimal x) ≡ x
unfolding decimal value_from
decimal-value x = digits_value (suc x) x [] (omega arith)
