-- The bytes between two places. Assumes nothing.
use Rattle.std.specs.Prelude.{◌≡◌, List, ◌∷◌, ◌++◌, ℕ, suc, ◌+◌, ◌-◌, ◌≤◌, ◌<◌, length, get_or, take, drop}
use Rattle.std.proofs.Common.{sym, ap, ap₂, ◌∙◌, arith, length-drop, drop-cons, drop-drop, take_all, take-add}

-- the bytes of s from place a to place e
abbrev pub between : List ℕ → ℕ → ℕ → List ℕ
between s a e = take (e - a) (drop a s)

-- to the end
pub between-end : (s : List ℕ) (a e : ℕ) → length s ≤ e → between s a e ≡ drop a s
between-end s a e h = take_all (e - a) (drop a s) (omega (arith, length-drop a s))

-- what stands at b, and what is before and after it
pub between_join : (s : List ℕ) (a b e x : ℕ) → a ≤ b → b < e → b < length s → get_or s b 0 ≡ x
    → between s a b ++ (x ∷ between s (b + 1) e) ≡ between s a e
between_join s a b e x h k l d =
    let n = b - a in
    let m = e - (b + 1) in
    let p : a + n ≡ b = omega (arith, h) in
    let q : suc b ≡ b + 1 = omega arith in
    let r : n + suc m ≡ e - a = omega (arith, h, k) in
    let t : drop n (drop a s) ≡ x ∷ drop (b + 1) s =
    drop-drop n a s ∙ ap (λ (i : ℕ). drop i s) p ∙ drop-cons s b 0 l
    ∙ ap₂ (λ (y : ℕ) (i : ℕ). y ∷ drop i s) d q in
    sym (ap (λ (i : ℕ). take i (drop a s)) (sym r) ∙ take-add n (suc m) (drop a s)
    ∙ ap (λ (w : List ℕ). take n (drop a s) ++ take (suc m) w) t)
