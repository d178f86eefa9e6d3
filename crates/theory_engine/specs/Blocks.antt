-- Bytes that are all 0 make each of their words no, bytes that are all 255 make each yes, and bytes that repeat others repeat their
-- words: so the walk tells a part from whole bytes. Assumes nothing.
use Rattle.std.specs.Prelude.{◌≡◌, refl, Bool, true, false, not, cond, List, ℕ, zero, suc, ◌+◌, ◌*◌, ◌/◌, ◌%◌, ◌^◌, ◌≤◌, ◌<◌, eqb, ltb, get_or}
use Rattle.std.proofs.Common.{sym, ap, ap₂, ◌∙◌, subst, ⊎_elim, mul_assoc, mul_comm, arith, ltb-false, eqb-true, eq-eqb, ne_eqb}
use Rattle.std.proofs.lemmas.Bool.{eqb-false, not-true}
use Rattle.theory_lists.specs.Lists.{differ, and_l, and_r, decide-le}
use Rattle.theory_writing.specs.Calls.{truth_at}
use Rattle.theory_engine.specs.Engine.{same_bytes, all_bytes, alike_bytes, repeats}

-- ---- Bytes that are all alike ----------------------------------------------------------------

-- each of c bytes that are all b is b
same_at : (v : List ℕ) (b p c q : ℕ) → same_bytes v b p c ≡ true → p ≤ q → q < p + c → get_or v q 0 ≡ b
unfolding same_bytes
same_at v b p zero q h l u = absurd (omega arith)
same_at v b p (suc c) q h l u = ⊎_elim
    (λ (n : q ≤ p). let e : q ≡ p = omega arith in
    ap (λ (k : ℕ). get_or v k 0) e ∙ eqb-true (get_or v p 0) b (and_l (eqb (get_or v p 0) b) (same_bytes v b (p + 1) c) h))
    (λ (n : p < q).
    same_at v b (p + 1) c q (and_r (eqb (get_or v p 0) b) (same_bytes v b (p + 1) c) h) (omega arith) (omega arith))
    (decide-le q p)

-- 2 ^ m words are whole bytes
whole-bytes : (m : ℕ) → 3 ≤ m → (y : ℕ) × (2 ^ m ≡ 8 * y)
whole-bytes zero h = absurd (omega arith)
whole-bytes (suc zero) h = absurd (omega arith)
whole-bytes (suc (suc zero)) h = absurd (omega arith)
whole-bytes (suc (suc (suc m))) h = (2 ^ m, omega arith)

-- the byte of each word of the part is b
block-byte : (v : List ℕ) (b m d : ℕ) → all_bytes v b m (d * 2 ^ m) ≡ true → (w : ℕ) → d * 2 ^ m ≤ w → w < d * 2 ^ m + 2 ^ m
    → get_or v (w / 8) 0 ≡ b
block-byte v b m d h w l u =
    let whole = not (ltb m 3) in
    let bytes = same_bytes v b (d * 2 ^ m / 8) (2 ^ m / 8) in
    let y = whole-bytes m (ltb-false m 3 (not-true (ltb m 3) (and_l whole bytes h))) in
    let e : d * 2 ^ m ≡ d * y.0 * 8 =
    ap (λ (k : ℕ). d * k) (y.1 ∙ mul_comm 8 y.0) ∙ sym (mul_assoc d y.0 8) in
    same_at v b (d * 2 ^ m / 8) (2 ^ m / 8) (w / 8) (and_r whole bytes h) (omega (arith, l, e, y.1)) (omega (arith, u, e, y.1))

-- ---- What each word is -----------------------------------------------------------------------

-- the binary digits of 0 are 0, those of 255 are 1
byte-digits : (r : ℕ) → r < 8 → (eqb (0 / 2 ^ r % 2) 1 ≡ false) × (eqb (255 / 2 ^ r % 2) 1 ≡ true)
byte-digits zero h = (refl, refl)
byte-digits (suc zero) h = (refl, refl)
byte-digits (suc (suc zero)) h = (refl, refl)
byte-digits (suc (suc (suc zero))) h = (refl, refl)
byte-digits (suc (suc (suc (suc zero)))) h = (refl, refl)
byte-digits (suc (suc (suc (suc (suc zero))))) h = (refl, refl)
byte-digits (suc (suc (suc (suc (suc (suc zero)))))) h = (refl, refl)
byte-digits (suc (suc (suc (suc (suc (suc (suc zero))))))) h = (refl, refl)
byte-digits (suc (suc (suc (suc (suc (suc (suc (suc r)))))))) h = absurd (omega arith)

-- the words of a part whose bytes are all 0 are no
pub block_no : (v : List ℕ) (m d : ℕ) → all_bytes v 0 m (d * 2 ^ m) ≡ true → (w : ℕ) → d * 2 ^ m ≤ w → w < d * 2 ^ m + 2 ^ m
    → truth_at v w ≡ false
block_no v m d h w l u =
    ap (λ (k : ℕ). eqb (k / 2 ^ (w % 8) % 2) 1) (block-byte v 0 m d h w l u) ∙ (byte-digits (w % 8) (omega arith)).0

-- those of a part whose bytes are all 255 are yes
pub block-yes : (v : List ℕ) (m d : ℕ) → all_bytes v 255 m (d * 2 ^ m) ≡ true → (w : ℕ) → d * 2 ^ m ≤ w → w < d * 2 ^ m + 2 ^ m
    → truth_at v w ≡ true
block-yes v m d h w l u =
    ap (λ (k : ℕ). eqb (k / 2 ^ (w % 8) % 2) 1) (block-byte v 255 m d h w l u) ∙ (byte-digits (w % 8) (omega arith)).1

-- ---- Bytes that repeat others ----------------------------------------------------------------

-- the byte y is x, or x turned about if u
abbrev Alike : Bool → ℕ → ℕ → Type 0
Alike u x y = cond u (eqb (y + x) 255) (eqb y x) ≡ true

-- each of c bytes that repeat c others repeats its own
alike_at : (v : List ℕ) (u : Bool) (p q c j : ℕ) → alike_bytes v u p q c ≡ true → j < c
    → Alike u (get_or v (p + j) 0) (get_or v (q + j) 0)
unfolding alike_bytes
alike_at v u p q zero j h l = absurd (omega arith)
alike_at v u p q (suc c) zero h l =
    let x : p ≡ p + 0 = omega arith in
    let y : q ≡ q + 0 = omega arith in
    subst (λ (k : ℕ). Alike u (get_or v k 0) (get_or v (q + 0) 0)) x
    (subst (λ (k : ℕ). Alike u (get_or v p 0) (get_or v k 0)) y
    (and_l (cond u (eqb (get_or v q 0 + get_or v p 0) 255) (eqb (get_or v q 0) (get_or v p 0))) (alike_bytes v u (p + 1) (q + 1) c) h))
alike_at v u p q (suc c) (suc j) h l =
    let x : p + 1 + j ≡ p + suc j = omega arith in
    let y : q + 1 + j ≡ q + suc j = omega arith in
    subst (λ (k : ℕ). Alike u (get_or v k 0) (get_or v (q + suc j) 0)) x
    (subst (λ (k : ℕ). Alike u (get_or v (p + 1 + j) 0) (get_or v k 0)) y
    (alike_at v u (p + 1) (q + 1) c j
    (and_r (cond u (eqb (get_or v q 0 + get_or v p 0) 255) (eqb (get_or v q 0) (get_or v p 0))) (alike_bytes v u (p + 1) (q + 1) c) h)
    (omega arith)))

-- of two binary digits one is 1
one-digit : (x y : ℕ) → y + x ≡ 1 → eqb y 1 ≡ not (eqb x 1)
one-digit x y h = go (eqb x 1) refl
  where
    go : (t : Bool) → eqb x 1 ≡ t → eqb y 1 ≡ not t
    go true e = ne_eqb y 1 (λ z. absurd (omega (arith, h, z, eqb-true x 1 e)))
    go false e = let d = eqb-false x 1 e in eq-eqb y 1 (omega (arith, h, d))

-- a byte turned about has each binary digit turned about
digit-complement : (x y r : ℕ) → y + x ≡ 255 → r < 8 → eqb (y / 2 ^ r % 2) 1 ≡ not (eqb (x / 2 ^ r % 2) 1)
digit-complement x y zero h l = one-digit (x / 1 % 2) (y / 1 % 2) (omega (arith, h))
digit-complement x y (suc zero) h l = one-digit (x / 2 % 2) (y / 2 % 2) (omega (arith, h))
digit-complement x y (suc (suc zero)) h l = one-digit (x / 4 % 2) (y / 4 % 2) (omega (arith, h))
digit-complement x y (suc (suc (suc zero))) h l = one-digit (x / 8 % 2) (y / 8 % 2) (omega (arith, h))
digit-complement x y (suc (suc (suc (suc zero)))) h l = one-digit (x / 16 % 2) (y / 16 % 2) (omega (arith, h))
digit-complement x y (suc (suc (suc (suc (suc zero))))) h l = one-digit (x / 32 % 2) (y / 32 % 2) (omega (arith, h))
digit-complement x y (suc (suc (suc (suc (suc (suc zero)))))) h l = one-digit (x / 64 % 2) (y / 64 % 2) (omega (arith, h))
digit-complement x y (suc (suc (suc (suc (suc (suc (suc zero))))))) h l = one-digit (x / 128 % 2) (y / 128 % 2) (omega (arith, h))
digit-complement x y (suc (suc (suc (suc (suc (suc (suc (suc r)))))))) h l = absurd (omega arith)

-- a byte that repeats another has its binary digits, or each turned about
alike-digit : (u : Bool) (x y r : ℕ) → Alike u x y → r < 8 → eqb (y / 2 ^ r % 2) 1 ≡ differ u (eqb (x / 2 ^ r % 2) 1)
alike-digit true x y r h l = digit-complement x y r (eqb-true (y + x) 255 h) l
alike-digit false x y r h l = ap (λ (k : ℕ). eqb (k / 2 ^ r % 2) 1) (eqb-true y x h)

-- the byte and the digit of a word w places after one that begins a byte
word_at : (a k w : ℕ) → a ≡ k * 8 → ((a + w) / 8 ≡ a / 8 + w / 8) × ((a + w) % 8 ≡ w % 8)
word_at a k w e = (omega (arith, e), omega (arith, e))

-- the byte of a word is one of the whole bytes that the words make
within : (c y w : ℕ) → c ≡ 8 * y → w < c → w / 8 < c / 8
within c y w e l = omega (arith, e, l)

-- the words of a second half whose bytes repeat those of the first
pub block-repeats : (v : List ℕ) (u : Bool) (m d : ℕ) → repeats v u m (d * 2 ^ m) (d * 2 ^ m + 2 ^ m) ≡ true → (w : ℕ) → w < 2 ^ m
    → truth_at v (d * 2 ^ m + 2 ^ m + w) ≡ differ u (truth_at v (d * 2 ^ m + w))
block-repeats v u m d h w l =
    let at = d * 2 ^ m in
    let mid = d * 2 ^ m + 2 ^ m in
    let whole = not (ltb m 3) in
    let bytes = alike_bytes v u (at / 8) (mid / 8) (2 ^ m / 8) in
    let y = whole-bytes m (ltb-false m 3 (not-true (ltb m 3) (and_l whole bytes h))) in
    let e : at ≡ d * y.0 * 8 =
    ap (λ (k : ℕ). d * k) (y.1 ∙ mul_comm 8 y.0) ∙ sym (mul_assoc d y.0 8) in
    let e' : mid ≡ (d * y.0 + y.0) * 8 = omega (arith, e, y.1) in
    let x = word_at at (d * y.0) w e in
    let z = word_at mid (d * y.0 + y.0) w e' in
    ap₂ (λ (k r : ℕ). eqb (get_or v k 0 / 2 ^ r % 2) 1) z.0 z.1
    ∙ alike-digit u (get_or v (at / 8 + w / 8) 0) (get_or v (mid / 8 + w / 8) 0) (w % 8)
    (alike_at v u (at / 8) (mid / 8) (2 ^ m / 8) (w / 8) (and_r whole bytes h) (within (2 ^ m) y.0 w y.1 l)) (omega arith)
    ∙ ap₂ (λ (k r : ℕ). differ u (eqb (get_or v k 0 / 2 ^ r % 2) 1)) (sym x.0) (sym x.1)
