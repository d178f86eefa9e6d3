-- Numbers above 2^32 - 1 read as 2^32 - 1, since code holds them in 32 bits: document 01 sets no bound on digits, and no call's answer can tell.
-- Assumes nothing.
use Rattle.std.specs.Prelude.{◌≡◌, Bool, ℕ, ◌+◌, ◌*◌, ◌-◌, ◌<◌, ◌≤◌, min, length}
use Rattle.std.proofs.Math.Path.{refl, sym, ap}
use Rattle.std.proofs.Common.{◌∙◌, add-one, eq-eqb, ne_eqb, drop-cons}
use Rattle.std.proofs.Math.Bool.{true, false}
use mathlib.Core.List.{List, [], ◌∷◌}
use native.Mathlib.Omega.{arith}
use Rattle.std.proofs.Math.ListN.{get_or, drop, drop_of_length-le, get_or-eq_default}
use Rattle.theory_reading.specs.Bytes.{digit_zero}
use Rattle.theory_reading.specs.Element.{Element, opening, number, constant, turn, closing, storing, end, Scan, read, unread, Outcome, got, fault}
use Rattle.theory_reading.specs.Element.{ran_out, Step}
use Rattle.kinds.specs.Kinds.{digit_in, digits_by, number_by}
use Rattle.scanner.specs.ScannedToken.{ScannedToken}
use Rattle.kinds.specs.declared.Kind.{Kind}

-- the largest number that code holds
abbrev pub number_most : ℕ
number_most = 4294967295

abbrev pub cap : ℕ → ℕ
cap v = min v number_most

abbrev pub cap_scan : Scan → Scan
cap_scan (read v e) = read (cap v) e
cap_scan unread = unread

abbrev pub cap_element : Element → Element
cap_element opening = opening
cap_element (number v) = number (cap v)
cap_element constant = constant
cap_element turn = turn
cap_element closing = closing
cap_element (storing v) = storing (cap v)
cap_element end = end

abbrev pub cap_outcome : Outcome → Outcome
cap_outcome (got e) = got (cap_element e)
cap_outcome (fault c b) = fault c b
cap_outcome ran_out = ran_out

abbrev pub cap_scanned : ScannedToken → ScannedToken
cap_scanned g = record { outcome = cap_outcome g.outcome; at = g.at; context = g.context; change = g.change }

abbrev pub cap_step : Step → Step
cap_step x = record { outcome = cap_outcome x.outcome; place = x.place }

-- ---- Digits ----------------------------------------------------------------------------------

pub cap-more : (v x : ℕ) → cap (cap v * 10 + x) ≡ cap (v * 10 + x)
cap-more v x = omega arith

-- the digits by a table k of kinds, capped at each
unfoldable pub capped_on : List Kind → List ℕ → ℕ → ℕ → Scan
capped_on k [] v at = unread
capped_on k (b ∷ bs) v at = elim (digit_in k b) [ true ↦ capped_on k bs (cap (v * 10 + (b - digit_zero))) (at + 1) | false ↦ read v at ]

digits-capped : (k : List Kind) (bs : List ℕ) (v at : ℕ) → capped_on k bs (cap v) at ≡ cap_scan (digits_by k bs v at)
unfolding digits_by capped_on
digits-capped k [] v at = refl
digits-capped k (b ∷ bs) v at = go (digit_in k b) (ap (λ (y : ℕ). capped_on k bs y (at + 1)) (cap-more v (b - digit_zero))
    ∙ digits-capped k bs (v * 10 + (b - digit_zero)) (at + 1))
  where
    go : (t : Bool) → capped_on k bs (cap (cap v * 10 + (b - digit_zero))) (at + 1) ≡ cap_scan (digits_by k bs (v * 10 + (b - digit_zero)) (at + 1))
        → elim t as (λ _. Scan) [ true ↦ capped_on k bs (cap (cap v * 10 + (b - digit_zero))) (at + 1) | false ↦ read (cap v) at ]
        ≡ cap_scan (elim t as (λ _. Scan) [ true ↦ digits_by k bs (v * 10 + (b - digit_zero)) (at + 1) | false ↦ read v at ])
    go true h = h
    go false h = refl

-- the number at a place, capped
module _ (k : List Kind) (s : List ℕ) where
  on-cons : (i v at : ℕ) → i < length s → capped_on k (drop i s) v at
      ≡ elim (digit_in k (get_or s i 0)) as (λ _. Scan) [
        | true ↦ capped_on k (drop (i + 1) s) (cap (v * 10 + (get_or s i 0 - digit_zero))) (at + 1)
        | false ↦
            read v at
      ]
  unfolding capped_on
  on-cons i v at h =
      ap (λ (l : List ℕ). capped_on k l v at) (drop-cons s i 0 h)
      ∙ ap (λ (j : ℕ). elim (digit_in k (get_or s i 0)) as (λ _. Scan) [
        | true ↦ capped_on k (drop j s) (cap (v * 10 + (get_or s i 0 - digit_zero))) (at + 1)
        | false ↦ read v at
      ]) (sym (add-one i))

  -- for a loop over the digits: a digit more, what is no digit, the end of the bytes
  pub on-digit : (i v : ℕ) → i < length s → digit_in k (get_or s i 0) ≡ true → capped_on k (drop i s) v i
      ≡ capped_on k (drop (i + 1) s) (cap (v * 10 + (get_or s i 0 - digit_zero))) (i + 1)
  on-digit i v h e = on-cons i v i h ∙ ap (λ (t : Bool). elim t as (λ _. Scan)
      [ true ↦ capped_on k (drop (i + 1) s) (cap (v * 10 + (get_or s i 0 - digit_zero))) (i + 1) | false ↦ read v i ]) e

  pub on-stop : (i v : ℕ) → i < length s → digit_in k (get_or s i 0) ≡ false → capped_on k (drop i s) v i ≡ read v i
  on-stop i v h e = on-cons i v i h ∙ ap (λ (t : Bool). elim t as (λ _. Scan)
      [ true ↦ capped_on k (drop (i + 1) s) (cap (v * 10 + (get_or s i 0 - digit_zero))) (i + 1) | false ↦ read v i ]) e

  pub on-end : (i v : ℕ) → length s ≤ i → capped_on k (drop i s) v i ≡ unread
  unfolding capped_on
  on-end i v h = ap (λ (l : List ℕ). capped_on k l v i) (drop_of_length-le s h)

  pub at_zero : (at : ℕ) → get_or s at 0 ≡ digit_zero → read 0 (at + 1) ≡ cap_scan (number_by k s at (get_or s at 0))
  unfolding number_by
  at_zero at e = sym (ap (λ (t : Bool). cap_scan (elim t as (λ _. Scan)
      [ true ↦ read 0 (at + 1) | false ↦ digits_by k (drop (at + 1) s) (get_or s at 0 - digit_zero) (at + 1) ])) (eq-eqb (get_or s at 0) digit_zero e))

  pub at-digits : (at : ℕ) → (get_or s at 0 ≡ digit_zero → ⊥) → get_or s at 0 - digit_zero ≤ number_most
      → capped_on k (drop (at + 1) s) (get_or s at 0 - digit_zero) (at + 1) ≡ cap_scan (number_by k s at (get_or s at 0))
  unfolding number_by
  at-digits at e h =
      let v = get_or s at 0 - digit_zero in
      let c : v ≡ cap v = omega arith in
      ap (λ (y : ℕ). capped_on k (drop (at + 1) s) y (at + 1)) c ∙ digits-capped k (drop (at + 1) s) v (at + 1)
      ∙ sym (ap (λ (t : Bool). cap_scan (elim t as (λ _. Scan) [ true ↦ read 0 (at + 1) | false ↦ digits_by k (drop (at + 1) s) v (at + 1) ]))
      (ne_eqb (get_or s at 0) digit_zero e))

  pub at-past : (at : ℕ) → length s ≤ at → unread ≡ cap_scan (number_by k s at (get_or s at 0))
  unfolding number_by digits_by
  at-past at h =
      let z : get_or s at 0 ≡ 0 = get_or-eq_default s 0 h in
      let d : drop (at + 1) s ≡ [] = drop_of_length-le s {i = at + 1} (omega arith) in
      rw (z, d) refl
