-- The least one of some words that is decided as v: its definition, and the laws that say which it is. Assumes nothing.
use Rattle.std.specs.Prelude.{◌≡◌, Bool, not}
use Rattle.std.proofs.Math.Path.{refl, ap}
use Rattle.std.proofs.Common.{◌∙◌, subst}
use Rattle.std.proofs.Math.Logic.{⊎_elim}
use Rattle.std.proofs.Math.Bool.{true, false, cond}
use Rattle.std.proofs.lemmas.Bool.{false≢true}
use Prim.Native.Nat.{ℕ, zero, suc, ◌+◌, ◌<◌, ◌≤◌}
use native.Mathlib.Omega.{arith}
use Rattle.theory_lists.specs.Lists.{decide_eq}
use Rattle.theory_reading.specs.Deciding.{Decision, undecided, decided}

-- ---- Definitions -----------------------------------------------------------------------------

-- a decision is v
abbrev pub is_value : Bool → Decision → Bool
is_value v undecided = false
is_value true (decided d) = d
is_value false (decided d) = not d

-- of the k words from w on the least one that f decides as v; w + k if it decides none so
unfoldable pub least_decided : ℕ → (ℕ → Decision) → Bool → ℕ → ℕ
least_decided zero f v w = w
least_decided (suc k) f v w = cond (is_value v (f w)) w (least_decided k f v (w + 1))

-- ---- A decision ------------------------------------------------------------------------------

pub value-decided : (v : Bool) (d : Decision) → is_value v d ≡ true → d ≡ decided v
value-decided v undecided e = absurd (false≢true e)
value-decided true (decided true) e = refl
value-decided true (decided false) e = absurd (false≢true e)
value-decided false (decided true) e = absurd (false≢true e)
value-decided false (decided false) e = refl

pub decided-value : (v : Bool) (d : Decision) → d ≡ decided v → is_value v d ≡ true
decided-value v d e = ap (is_value v) e ∙ go v
  where
    go : (v : Bool) → is_value v (decided v) ≡ true
    go true = refl
    go false = refl

-- ---- The least word --------------------------------------------------------------------------

module _ (f : ℕ → Decision) (v : Bool) where
  -- none of the words from w on, before r, is decided as v
  abbrev pub NoneDecided : ℕ → ℕ → Type 0
  NoneDecided w r = (u : ℕ) → w ≤ u → u < r → is_value v (f u) ≡ false

  -- the first word, if it is decided so, else that of the others
  least-here : (k w : ℕ) → is_value v (f w) ≡ true → least_decided (suc k) f v w ≡ w
  unfolding least_decided
  least-here k w e = ap (λ (b : Bool). cond b w (least_decided k f v (w + 1))) e

  least_on : (k w : ℕ) → is_value v (f w) ≡ false → least_decided (suc k) f v w ≡ least_decided k f v (w + 1)
  unfolding least_decided
  least_on k w e = ap (λ (b : Bool). cond b w (least_decided k f v (w + 1))) e

  -- IT IS one of the words from w on, or w + k, and NONE BEFORE IT is decided as v.
  pub least-below : (k w : ℕ) → let r = least_decided k f v w in (w ≤ r) × ((r ≤ w + k) × NoneDecided w r)
  unfolding least_decided
  least-below zero w = (omega arith, (omega arith, λ u a b. absurd (omega (arith, a, b))))
  least-below (suc k) w = go (is_value v (f w)) refl (least-below k (w + 1))
    where
      Says : ℕ → Type 0
      Says r = (w ≤ r) × ((r ≤ w + suc k) × NoneDecided w r)

      Later : ℕ → Type 0
      Later r = (w + 1 ≤ r) × ((r ≤ w + 1 + k) × NoneDecided (w + 1) r)

      go : (b : Bool) → is_value v (f w) ≡ b → Later (least_decided k f v (w + 1)) → Says (cond b w (least_decided k f v (w + 1)))
      go true e h = (omega arith, (omega arith, λ u a b. absurd (omega (arith, a, b))))
      go false e h = (
        omega (arith, h.0),
        (
          omega (arith, h.1.0),
          λ u a b. ⊎_elim (λ (q : w ≡ u). subst (λ (i : ℕ). is_value v (f i) ≡ false) q e) (λ (q : w ≡ u → ⊥). h.1.1 u (omega (arith, a, q)) b)
              (decide_eq w u),
        ),
      )

  -- It is decided as v, if it is one of the words.
  pub least-hits : (k w : ℕ) → least_decided k f v w < w + k → f (least_decided k f v w) ≡ decided v
  unfolding least_decided
  least-hits zero w l = absurd (omega (arith, l))
  least-hits (suc k) w l = go (is_value v (f w)) refl (least-hits k (w + 1)) l
    where
      go : (b : Bool) → is_value v (f w) ≡ b → (least_decided k f v (w + 1) < w + 1 + k → f (least_decided k f v (w + 1)) ≡ decided v)
          → cond b w (least_decided k f v (w + 1)) < w + suc k → f (cond b w (least_decided k f v (w + 1))) ≡ decided v
      go true e h m = value-decided v (f w) e
      go false e h m = h (omega (arith, m))

  -- AND NO OTHER WORD IS SO.
  pub least-unique : (k w r : ℕ) → w ≤ r → r ≤ w + k → NoneDecided w r → (r < w + k → f r ≡ decided v) → least_decided k f v w ≡ r
  unfolding least_decided
  least-unique zero w r low most none here = omega (arith, low, most)
  least-unique (suc k) w r low most none here = ⊎_elim
      (λ (q : w ≡ r). least-here k w (ap (λ (i : ℕ). is_value v (f i)) q ∙ decided-value v (f r) (here (omega (arith, q)))) ∙ q)
      (λ (q : w ≡ r → ⊥). least_on k w (none w (omega arith) (omega (arith, low, q)))
      ∙ least-unique k (w + 1) r (omega (arith, low, q)) (omega (arith, most)) (λ u a b. none u (omega (arith, a)) b)
      (λ l. here (omega (arith, l))))
      (decide_eq w r)
