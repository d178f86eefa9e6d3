-- Powers of two, as code shifts to them in 64 bits. Assumes nothing.
use Rattle.std.specs.Prelude.{◌≡◌, refl, ℕ, zero, suc, ◌+◌, ◌-◌, ◌*◌, ◌%◌, ◌<◌, ◌≤◌, ◌^◌}
use Rattle.std.proofs.Common.{ap, ◌∙◌, mod-eq_of_lt, one-mul, arith, pow_mono}

-- the words of n options, as code has them
pub shifted : (n : ℕ) → n < 64 → 1 * 2 ^ n % 18446744073709551616 ≡ 2 ^ n
shifted n h = ap (λ (x : ℕ). x % 18446744073709551616) (one-mul (2 ^ n)) ∙ mod-eq_of_lt (omega (arith, pow_mono {i = n} {j = 63} (omega (arith, h))))

pub no_words : (n d : ℕ) → n < d → 1 ≡ 2 ^ (n - d)
no_words n d h = let z : n - d ≡ 0 = omega arith in rw z refl

-- the words of a node fit in 64 bits
pub few_words : (n d : ℕ) → n < 64 → 1 * 2 ^ (n - d) % 18446744073709551616 ≡ 2 ^ (n - d)
few_words n d h = shifted (n - d) (omega (arith, h))

-- and are no more than those of k options
pub words-most : (n d k : ℕ) → n ≤ k → k < 64 → 1 * 2 ^ (n - d) % 18446744073709551616 ≤ 2 ^ k
words-most n d k h l = omega (arith, few_words n d (omega (arith, h, l)), pow_mono {i = n - d} {j = k} (omega (arith, h)))

-- twice half the words
pub both_halves : (m : ℕ) → (m ≡ 0 → ⊥) → 2 ^ (m - 1) + 2 ^ (m - 1) ≡ 2 ^ m
both_halves zero n = absurd (n refl)
both_halves (suc m) n =
    let d : suc m - 1 ≡ m = omega arith in
    rw d (omega arith)
