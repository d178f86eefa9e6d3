-- Lists cut at a byte, by places: the pieces of Join are what is between. Assumes nothing.
use Rattle.std.proofs.Math.Path.{◌≡◌, refl, sym, ap, ap₂}
use Rattle.std.proofs.Common.{◌∙◌, drop_of_length-le, drop-cons, drop-drop, get_or-drop}
use Rattle.std.specs.Prelude.{◌≢◌, Bool, Option, Some, None, MatchOption, unwrap_or, is_some}
use Rattle.std.proofs.lemmas.Bool.{false≢true, true≢false}
use Rattle.std.proofs.Math.Bool.{true, false, cond}
use mathlib.Core.List.{List, [], ◌∷◌}
use Prim.Native.Nat.{ℕ, suc, ◌+◌, ◌-◌, ◌≤◌, ◌<◌}
use native.Mathlib.Omega.{arith}
use Rattle.std.proofs.Math.Dec.{eqb}
use Rattle.std.proofs.Math.ListN.{length, get_or, take, drop, length-drop}
use borrow.Author.Tests.{eq-eqb, ne_eqb, eqb-true}
use Rattle.theory_reading.specs.Bytes.{line_feed}
use Rattle.theory_writing.specs.Join.{onto, pieces}
use Rattle.job.specs.Between.{between}
use Rattle.job.specs.declared.LineEnds.{LineEnds}

-- how many bytes stand before the first c
unfoldable pub cut_in : ℕ → List ℕ → ℕ
cut_in c [] = 0
cut_in c (b ∷ bs) = cond (eqb b c) 0 (suc (cut_in c bs))

-- the place of the first c from i on, the end if there is none
unfoldable pub cut_at : ℕ → List ℕ → ℕ → ℕ
unfolding cut_in
cut_at c s i = i + cut_in c (drop i s)

-- where the line ends after the one that ends at e; where the first, the third and the fifth end
abbrev next_end : List ℕ → ℕ → ℕ
next_end s e = cut_at line_feed s (e + 1)

abbrev pub first_end : List ℕ → ℕ
first_end s = cut_at line_feed s 0

abbrev pub third_end : List ℕ → ℕ
third_end s = next_end s (next_end s (first_end s))

abbrev pub fifth_end : List ℕ → ℕ
fifth_end s = next_end s (next_end s (third_end s))

-- the three as code has them
abbrev pub ends_in : List ℕ → LineEnds
ends_in s = record { first = first_end s; third = third_end s; fifth = fifth_end s }

-- ---- Looking for the byte --------------------------------------------------------------------

module _ (c : ℕ) (s : List ℕ) where
  -- what stands at j, and the rest
  cut-cons : (j : ℕ) → j < length s → cut_in c (drop j s) ≡ cond (eqb (get_or s j 0) c) 0 (suc (cut_in c (drop (suc j) s)))
  unfolding cut_in
  cut-cons j h = ap (cut_in c) (drop-cons s j 0 h)

  pub cut-here : (j : ℕ) → j < length s → get_or s j 0 ≡ c → cut_at c s j ≡ j
  unfolding cut_at
  cut-here j h e =
      let k : cut_in c (drop j s) ≡ 0 =
      cut-cons j h ∙ ap (λ (t : Bool). cond t 0 (suc (cut_in c (drop (suc j) s)))) (eq-eqb (get_or s j 0) c e) in
      omega (arith, k)

  pub cut-next : (j : ℕ) → j < length s → get_or s j 0 ≢ c → cut_at c s j ≡ cut_at c s (j + 1)
  unfolding cut_at
  cut-next j h d =
      let k : cut_in c (drop j s) ≡ suc (cut_in c (drop (suc j) s)) =
      cut-cons j h ∙ ap (λ (t : Bool). cond t 0 (suc (cut_in c (drop (suc j) s)))) (ne_eqb (get_or s j 0) c d) in
      let n : suc j ≡ j + 1 = omega arith in
      let m : cut_in c (drop (suc j) s) ≡ cut_in c (drop (j + 1) s) = ap (λ (i : ℕ). cut_in c (drop i s)) n in
      omega (arith, k, m)

  pub cut-end : (j : ℕ) → length s ≤ j → cut_at c s j ≡ j
  unfolding cut_at cut_in
  cut-end j h =
      let k : cut_in c (drop j s) ≡ 0 = ap (cut_in c) (drop_of_length-le s h) in
      omega (arith, k)

-- ---- The pieces ------------------------------------------------------------------------------

module _ (c : ℕ) where
  cut-within : (l : List ℕ) → cut_in c l ≤ length l
  unfolding cut_in
  cut-within [] = omega arith
  cut-within (b ∷ bs) = go (eqb b c) (cut-within bs)
    where
      go : (t : Bool) → cut_in c bs ≤ length bs → cond t 0 (suc (cut_in c bs)) ≤ length (b ∷ bs)
      go true h = omega arith
      go false h = omega (arith, h)

  cut-byte : (l : List ℕ) → cut_in c l < length l → get_or l (cut_in c l) 0 ≡ c
  unfolding cut_in
  cut-byte [] h = absurd (omega arith)
  cut-byte (b ∷ bs) h = go (eqb b c) refl h (cut-byte bs)
    where
      go : (t : Bool) → eqb b c ≡ t → cond t 0 (suc (cut_in c bs)) < length (b ∷ bs)
          → (cut_in c bs < length bs → get_or bs (cut_in c bs) 0 ≡ c) → get_or (b ∷ bs) (cond t 0 (suc (cut_in c bs))) 0 ≡ c
      go true e h ih = eqb-true b c e
      go false e h ih = ih (omega (arith, h))

  -- a piece, and those of the rest
  pieces_more : (l : List ℕ) → cut_in c l < length l → pieces c l ≡ take (cut_in c l) l ∷ pieces c (drop (cut_in c l + 1) l)
  unfolding cut_in pieces
  pieces_more [] h = absurd (omega arith)
  pieces_more (b ∷ bs) h = go (eqb b c) h (pieces_more bs)
    where
      go : (t : Bool) → cond t 0 (suc (cut_in c bs)) < length (b ∷ bs)
          → (cut_in c bs < length bs → pieces c bs ≡ take (cut_in c bs) bs ∷ pieces c (drop (cut_in c bs + 1) bs))
          → cond t ([] ∷ pieces c bs) (onto b (pieces c bs))
          ≡ take (cond t 0 (suc (cut_in c bs))) (b ∷ bs) ∷ pieces c (drop (cond t 0 (suc (cut_in c bs)) + 1) (b ∷ bs))
      go true h ih = refl
      go false h ih =
          let k = cut_in c bs in
          let e : suc (k + 1) ≡ suc k + 1 = omega arith in
          ap (onto b) (ih (omega (arith, h)))
          ∙ ap (λ (i : ℕ). (b ∷ take k bs) ∷ pieces c (drop i (b ∷ bs))) e

  -- the last piece
  pieces-last : (l : List ℕ) → length l ≤ cut_in c l → pieces c l ≡ l ∷ []
  unfolding cut_in pieces
  pieces-last [] h = refl
  pieces-last (b ∷ bs) h = go (eqb b c) h (pieces-last bs)
    where
      go : (t : Bool) → length (b ∷ bs) ≤ cond t 0 (suc (cut_in c bs)) → (length bs ≤ cut_in c bs → pieces c bs ≡ bs ∷ [])
          → cond t ([] ∷ pieces c bs) (onto b (pieces c bs)) ≡ (b ∷ bs) ∷ []
      go true h ih = absurd (omega (arith, h))
      go false h ih = ap (onto b) (ih (omega (arith, h)))

  -- there is always one; if there is something, there is one that is not empty, or another
  pub pieces-some : (l : List ℕ) → pieces c l ≢ []
  unfolding pieces
  pieces-some [] e = let z : ◌≡◌ {A = ℕ} 0 1 = cc in absurd (omega arith)
  pieces-some (b ∷ bs) e = go (eqb b c) (pieces c bs) e
    where
      go : (t : Bool) (p : List (List ℕ)) → cond t ([] ∷ p) (onto b p) ≡ [] → ⊥
      go true p e = let z : ◌≡◌ {A = ℕ} 0 1 = cc in absurd (omega arith)
      go false [] e = let z : ◌≡◌ {A = ℕ} 0 1 = cc in absurd (omega arith)
      go false (x ∷ p) e = let z : ◌≡◌ {A = ℕ} 0 1 = cc in absurd (omega arith)

  pub pieces_none : pieces c [] ≡ [] ∷ []
  unfolding pieces
  pieces_none = refl

  pub pieces-full : (l : List ℕ) → 0 < length l → pieces c l ≢ [] ∷ []
  unfolding pieces
  pieces-full [] h e = absurd (omega arith)
  pieces-full (b ∷ bs) h e = go (eqb b c) (pieces c bs) (pieces-some bs) e
    where
      go : (t : Bool) (p : List (List ℕ)) → p ≢ [] → cond t ([] ∷ p) (onto b p) ≡ [] ∷ [] → ⊥
      go true p d e = d cc
      go false [] d e = absurd (d refl)
      go false (x ∷ p) d e = let f : b ∷ x ≡ [] = cc in let z : ◌≡◌ {A = ℕ} 0 1 = cc in absurd (omega arith)

-- ---- By places -------------------------------------------------------------------------------

module _ (c : ℕ) (s : List ℕ) where
  pub cut-from : (i : ℕ) → i ≤ cut_at c s i
  unfolding cut_at
  cut-from i = omega arith

  pub cut-to : (i : ℕ) → i ≤ length s → cut_at c s i ≤ length s
  unfolding cut_at
  cut-to i h = omega (arith, cut-within c (drop i s), length-drop i s)

  pub cut-at : (i : ℕ) → cut_at c s i < length s → get_or s (cut_at c s i) 0 ≡ c
  unfolding cut_at
  cut-at i h =
      sym (get_or-drop i s (cut_in c (drop i s)) 0) ∙ cut-byte c (drop i s) (omega (arith, h, length-drop i s))

  pub piece-more : (i : ℕ) → cut_at c s i < length s
      → pieces c (drop i s) ≡ between s i (cut_at c s i) ∷ pieces c (drop (cut_at c s i + 1) s)
  unfolding cut_at
  piece-more i h =
      let k = cut_in c (drop i s) in
      let e : k ≡ i + k - i = omega arith in
      let f : i + (k + 1) ≡ i + k + 1 = omega arith in
      pieces_more c (drop i s) (omega (arith, h, length-drop i s))
      ∙ ap₂ (λ (j : ℕ) (l : List ℕ). take j (drop i s) ∷ pieces c l) e
      (drop-drop (k + 1) i s ∙ ap (λ (j : ℕ). drop j s) f)

  pub piece-last : (i : ℕ) → length s ≤ cut_at c s i → i ≤ length s → pieces c (drop i s) ≡ drop i s ∷ []
  unfolding cut_at
  piece-last i h k = pieces-last c (drop i s) (omega (arith, h, length-drop i s))

-- ---- As code answers a place -----------------------------------------------------------------

-- r is the place k if that is before the end, m
abbrev Answers : Option ℕ → ℕ → ℕ → Type 0
Answers r m k = MatchOption r (m ≤ k) (λ j. (j ≡ k) × (j < m))

pub place-or-end : (r : Option ℕ) (m k : ℕ) → Answers r m k → k ≤ m → unwrap_or r m ≡ k
place-or-end None m k h g = omega (arith, h, g)
place-or-end (Some j) m k h g = h.0

pub place-some : (r : Option ℕ) (m k : ℕ) → Answers r m k → is_some r ≡ true → k < m
place-some None m k h e = absurd (false≢true e)
place-some (Some j) m k h e = omega (arith, h)

pub place-none : (r : Option ℕ) (m k : ℕ) → Answers r m k → is_some r ≡ false → m ≤ k
place-none None m k h e = h
place-none (Some j) m k h e = absurd (true≢false e)
