-- What a field of the first line says: numbers digit by digit, names by the table. Assumes nothing.
use Rattle.std.specs.Borrow.{Bor}
use Rattle.std.specs.Prelude.{◌≡◌, refl, ◌≢◌, Bool, true, false, ◌&&◌, ◌||◌, ltb, eqb, get_or, drop}
use Rattle.std.proofs.Math.Path.{sym, ap, ap₂}
use Rattle.std.proofs.Common.{◌∙◌, drop_of_length-le, pow-add, drop-cons, lt-ltb, le-ltb, eq-eqb, ne_eqb}
use mathlib.Core.List.{List, [], ◌∷◌, map}
use Rattle.std.proofs.Math.Option.{Option, none, some}
use Prim.Native.Nat.{ℕ, zero, suc, ◌+◌, ◌*◌, ◌-◌, ◌^◌, ◌≤◌, ◌<◌}
use native.Mathlib.Omega.{arith}
use Rattle.std.proofs.Math.ListN.{length}
use lib.Pointwise.{pointwise}
use Rattle.std.proofs.lemmas.List.{length-map}
use Rattle.job.specs.Abstraction.{row_of, named_row}
use Rattle.theory_reading.specs.Bytes.{digit_zero, is_digit, text}
use Rattle.theory_writing.specs.Join.{same_bytes, Named, named, operator_names, operator_of, value_on, number_of}

-- ---- Numbers ---------------------------------------------------------------------------------

-- four digits are few
pub pow-few : (j : ℕ) → j ≤ 4 → 10 ^ j ≤ 10000
pow-few zero h = omega arith
pow-few (suc zero) h = omega arith
pow-few (suc (suc zero)) h = omega arith
pow-few (suc (suc (suc zero))) h = omega arith
pow-few (suc (suc (suc (suc zero)))) h = omega arith
pow-few (suc (suc (suc (suc (suc j))))) h = absurd (omega arith)

pub pow-next : (v d j : ℕ) → v < 10 ^ j → d ≤ 9 → v * 10 + d < 10 ^ (j + 1)
pow-next v d j h k = omega (arith, pow-add 10 j 1, h, k)

-- the first digit, or what is no digit
abbrev digit_or : ℕ → ℕ → List ℕ → Bool → Option ℕ
digit_or v b bs t = elim t as (λ _. Option ℕ) [ true ↦ value_on (v * 10 + (b - digit_zero)) bs | false ↦ none ]

module _ (l : List ℕ) where
  value-cons : (v j : ℕ) → j < length l → value_on v (drop j l) ≡ digit_or v (get_or l j 0) (drop (j + 1) l) (is_digit (get_or l j 0))
  unfolding value_on
  value-cons v j h =
      let e : suc j ≡ j + 1 = omega arith in
      ap (value_on v) (drop-cons l j 0 h) ∙ ap (λ (i : ℕ). digit_or v (get_or l j 0) (drop i l) (is_digit (get_or l j 0))) e

  pub value-digit : (v j : ℕ) → j < length l → is_digit (get_or l j 0) ≡ true
      → value_on v (drop j l) ≡ value_on (v * 10 + (get_or l j 0 - digit_zero)) (drop (j + 1) l)
  value-digit v j h e = value-cons v j h ∙ ap (digit_or v (get_or l j 0) (drop (j + 1) l)) e

  pub value-stop : (v j : ℕ) → j < length l → is_digit (get_or l j 0) ≡ false → value_on v (drop j l) ≡ none
  value-stop v j h e = value-cons v j h ∙ ap (digit_or v (get_or l j 0) (drop (j + 1) l)) e

  pub value-end : (v j : ℕ) → length l ≤ j → value_on v (drop j l) ≡ some v
  unfolding value_on
  value-end v j h = ap (value_on v) (drop_of_length-le l h)

-- none, too many, a leading zero
abbrev unless_long : List ℕ → Bool → Option ℕ
unless_long l t = elim t as (λ _. Option ℕ) [ true ↦ none | false ↦ value_on 0 l ]

number-cons : (b : ℕ) (bs : List ℕ) (t : Bool) → (ltb 3 (length bs) || (eqb b digit_zero && ltb 0 (length bs))) ≡ t
    → number_of (b ∷ bs) ≡ unless_long (b ∷ bs) t
unfolding number_of
number-cons b bs t e = ap (unless_long (b ∷ bs)) e

pub number-none : (l : List ℕ) → length l ≡ 0 → none ≡ number_of l
unfolding number_of
number-none [] h = refl
number-none (b ∷ bs) h = absurd (omega arith)

pub number-long : (l : List ℕ) → 4 < length l → none ≡ number_of l
number-long [] h = absurd (omega arith)
number-long (b ∷ bs) h =
    sym (number-cons b bs true
    (ap (λ (t : Bool). t || (eqb b digit_zero && ltb 0 (length bs))) (lt-ltb 3 (length bs) (omega arith))))

or-true : (a : Bool) → (a || true) ≡ true
or-true true = refl
or-true false = refl

pub number-zero : (l : List ℕ) → 1 < length l → get_or l 0 0 ≡ digit_zero → none ≡ number_of l
number-zero [] h e = absurd (omega arith)
number-zero (b ∷ bs) h e =
    sym (number-cons b bs true
    (ap₂ (λ (t u : Bool). ltb 3 (length bs) || (t && u)) (eq-eqb b digit_zero e) (lt-ltb 0 (length bs) (omega arith))
    ∙ or-true (ltb 3 (length bs))))

pub number-one : (l : List ℕ) → length l ≢ 0 → length l ≤ 1 → number_of l ≡ value_on 0 l
number-one [] d h = absurd (d refl)
number-one (b ∷ bs) d h =
    number-cons b bs false
    (ap₂ (λ (t u : Bool). t || (eqb b digit_zero && u)) (le-ltb 3 (length bs) (omega arith)) (le-ltb 0 (length bs) (omega arith))
    ∙ and-false (eqb b digit_zero))
  where
    and-false : (a : Bool) → (a && false) ≡ false
    and-false true = refl
    and-false false = refl

pub number-value : (l : List ℕ) → 1 < length l → length l ≤ 4 → get_or l 0 0 ≢ digit_zero → number_of l ≡ value_on 0 l
number-value [] g h d = absurd (omega arith)
number-value (b ∷ bs) g h d =
    number-cons b bs false
    (ap₂ (λ (t u : Bool). t || (u && ltb 0 (length bs))) (le-ltb 3 (length bs) (omega arith)) (ne_eqb b digit_zero d))

-- ---- Names -----------------------------------------------------------------------------------

-- code's test of two texts is the definition's
same_test : (x y : List ℕ) → pointwise eqb x y ≡ same_bytes x y
unfolding same_bytes
same_test [] [] = refl
same_test [] (b ∷ y) = refl
same_test (a ∷ x) [] = refl
same_test (a ∷ x) (b ∷ y) = ap (λ (t : Bool). eqb a b && t) (same_test x y)

-- operator k of the table, and its name
abbrev pub named_at : ℕ → Named
named_at k = get_or operator_names k (named "" 0)

abbrev pub name_at : ℕ → List ℕ
name_at k = text (named_at k).name

-- ---- The table -------------------------------------------------------------------------------

map_at : {A B : Type 0} (f : A → B) (l : List A) (k : ℕ) (d : A) (e : B) → k < length l → get_or (map f l) k e ≡ f (get_or l k d)
map_at f [] k d e h = absurd (omega arith)
map_at f (x ∷ l) zero d e h = refl
map_at f (x ∷ l) (suc k) d e h = map_at f l k d e (omega arith)

module _ (x : List ℕ) where
  abbrev named_or : Named → List Named → Bool → Option ℕ
  named_or o os t = elim t as (λ _. Option ℕ) [ true ↦ some o.op | false ↦ operator_of os x ]

  operator-cons : (k : ℕ) → k < 8 → operator_of (drop k operator_names) x ≡ named_or (named_at k) (drop (k + 1) operator_names) (same_bytes (name_at k) x)
  unfolding operator_of
  operator-cons k h =
      let e : suc k ≡ k + 1 = omega arith in
      ap (λ (os : List Named). operator_of os x) (drop-cons operator_names k (named "" 0) h)
      ∙ ap (λ (i : ℕ). named_or (named_at k) (drop i operator_names) (same_bytes (name_at k) x)) e

  pub operator-hit : (k : ℕ) → k < 8 → same_bytes (name_at k) x ≡ true → operator_of (drop k operator_names) x ≡ some (named_at k).op
  operator-hit k h e = operator-cons k h ∙ ap (named_or (named_at k) (drop (k + 1) operator_names)) e

  pub operator-miss : (k : ℕ) → k < 8 → same_bytes (name_at k) x ≡ false → operator_of (drop k operator_names) x
      ≡ operator_of (drop (k + 1) operator_names) x
  operator-miss k h e = operator-cons k h ∙ ap (named_or (named_at k) (drop (k + 1) operator_names)) e

  pub operator-end : (k : ℕ) → 8 ≤ k → operator_of (drop k operator_names) x ≡ none
  unfolding operator_of
  operator-end k h = ap (λ (os : List Named). operator_of os x) (drop_of_length-le operator_names h)

-- Code's table t has the definition's rows: at row k, whose name is n, and r tells whether that is x.
module _ (t : List (Bor (List ℕ) × ℕ)) (e : map row_of t ≡ map named_row operator_names) where
  pub rows : length t ≡ 8
  rows = sym (length-map t row_of) ∙ ap length e

  module _ (k : ℕ) (d : Bor (List ℕ) × ℕ) (n x : List ℕ) (r : Bool) (f : n ≡ (get_or t k d).0.now) (g : r ≡ pointwise eqb n x) (h : k < length t) where
    row : row_of (get_or t k d) ≡ named_row (named_at k)
    row =
        sym (map_at row_of t k d (row_of d) h) ∙ ap (λ (r : List (List ℕ × ℕ)). get_or r k (row_of d)) e
        ∙ map_at named_row operator_names k (named "" 0) (row_of d) (omega (arith, h, rows))

    told : same_bytes (name_at k) x ≡ r
    told = ap (λ (o : List ℕ × ℕ). same_bytes o.0 x) (sym row) ∙ ap (λ (m : List ℕ). same_bytes m x) (sym f) ∙ sym (same_test n x) ∙ sym g

    pub row-hit : r ≡ true → some (get_or t k d).1 ≡ operator_of (drop k operator_names) x
    row-hit b = ap (λ (o : List ℕ × ℕ). some o.1) row ∙ sym (operator-hit x k (omega (arith, h, rows)) (told ∙ b))

    pub row-miss : r ≡ false → operator_of (drop k operator_names) x ≡ operator_of (drop (k + 1) operator_names) x
    row-miss b = operator-miss x k (omega (arith, h, rows)) (told ∙ b)
