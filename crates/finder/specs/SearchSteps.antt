-- The search call by call, as code goes. Assumes nothing.
use Rattle.std.specs.Prelude.{◌≡◌, refl, Bool, true, false, List, ltb, Option, Some, None, is_some, is_none, unwrap_or}
use Rattle.std.proofs.Common.{sym, ◌∙◌, arith, lt-ltb, le-ltb, ltb-true, ltb-false, pow_mono}
use Rattle.std.proofs.Math.Path.{ap, ap₂}
use Rattle.std.proofs.Math.Bool.{cond}
use Prim.Native.Nat.{ℕ, zero, suc, ◌+◌, ◌-◌, ◌*◌, ◌%◌, ◌<◌, ◌≤◌, ◌^◌}
use Rattle.theory_lists.specs.Powers.{few_words}
use Rattle.theory_reading.specs.Limits.{option_limit, word_limit}
use Rattle.node_records.specs.Edges.{first_edge, second_edge}
use Rattle.node_records.specs.declared.Edge.{Edge}
use Rattle.node_records.specs.declared.NodeRecord.{NodeRecord}
use Rattle.work_table.specs.Table.{get_in}
use Rattle.finder.specs.Search.{some_in, first_in, second_in, least_in, word_below, start_in, halves_to, from_in}

-- ---- Bounds ----------------------------------------------------------------------------------

-- The least word is one of the node;
pub least-below : (m : ℕ) (t : List NodeRecord) (z i : ℕ) (e : Edge) → least_in m t z i e < 2 ^ m
unfolding least_in
least-below zero t z i e = omega arith
least-below (suc m) t z i e =
    by (some_in t z (first_in t z i e)) (least-below m t z (i + 1) (first_in t z i e)) (least-below m t z (i + 1) (second_in t z i e))
  where
    by : (b : Bool) {p q : ℕ} → p < 2 ^ m → q < 2 ^ m → cond b p (2 ^ m + q) < 2 ^ suc m
    by true h k = omega (arith, h)
    by false h k = omega (arith, k)

-- 2^m if there is none.
pub start-most : (m : ℕ) (t : List NodeRecord) (z i : ℕ) (e : Edge) → start_in m t z i e ≤ 2 ^ m
start-most m t z i e = by (some_in t z e) (least-below m t z i e)
  where
    by : (b : Bool) {p : ℕ} → p < 2 ^ m → cond b p (2 ^ m) ≤ 2 ^ m
    by true h = omega (arith, h)
    by false h = omega arith

-- So from a word of it on.
pub from-most : (m : ℕ) (t : List NodeRecord) (z i : ℕ) (e : Edge) (w : ℕ) → w < 2 ^ m → from_in m t z i e w ≤ 2 ^ m
unfolding from_in
from-most zero t z i e w l = by (some_in t z e)
  where
    by : (b : Bool) → cond b w 1 ≤ 2 ^ 0
    by true = omega (arith, l)
    by false = omega arith
from-most (suc m) t z i e w l =
    by (some_in t z e) (ltb w (2 ^ m)) refl (from_in m t z (i + 1) (first_in t z i e) w) (ltb (from_in m t z (i + 1) (first_in t z i e) w) (2 ^ m)) refl
    (start-most m t z (i + 1) (second_in t z i e)) (from-most m t z (i + 1) (second_in t z i e) (w - 2 ^ m))
  where
    by : (a b : Bool) → ltb w (2 ^ m) ≡ b → (r : ℕ) (c : Bool) → ltb r (2 ^ m) ≡ c → {s k : ℕ} → s ≤ 2 ^ m → (w - 2 ^ m < 2 ^ m → k ≤ 2 ^ m)
        → cond a (cond b (cond c r (2 ^ m + s)) (2 ^ m + k)) (2 ^ suc m) ≤ 2 ^ suc m
    by false b p r c q h k = omega arith
    by true true p r true q h k = let j : r < 2 ^ m = ltb-true r (2 ^ m) q in omega (arith, j)
    by true true p r false q h k = omega (arith, h)
    by true false p r c q h k =
        let j : 2 ^ m ≤ w = ltb-false w (2 ^ m) p in
        omega (arith, k (omega (arith, j, l)))

-- ---- A word, or none -------------------------------------------------------------------------

-- A word below k is one; from k on it is none.
pub below-some : (k w v : ℕ) → v ≡ w → w < k → Some v ≡ word_below k w
below-some k w v e l = rw (lt-ltb w k l) (ap (λ (i : ℕ). Some i) e)

pub below-none : (k w : ℕ) → k ≤ w → None ≡ word_below k w
below-none k w l = rw (le-ltb w k l) refl

-- And back.
pub below-is : (k w v : ℕ) → word_below k w ≡ Some v → (v ≡ w) × (w < k)
below-is k w v = go (ltb w k) refl
  where
    go : (b : Bool) → ltb w k ≡ b → cond b (Some w) None ≡ Some v → (v ≡ w) × (w < k)
    go true e h = let q : w ≡ v = cc in (sym q, ltb-true w k e)
    go false e h = absurd (cc)

pub none-below : (k w : ℕ) → word_below k w ≡ None → k ≤ w
none-below k w = go (ltb w k) refl
  where
    go : (b : Bool) → ltb w k ≡ b → cond b (Some w) None ≡ None → k ≤ w
    go true e h = absurd (cc)
    go false e h = ltb-false w k e

pub is-below : (q x : ℕ) → is_some (word_below q x) ≡ true → x < q
is-below q x = go (ltb x q) refl
  where
    go : (b : Bool) → ltb x q ≡ b → is_some (cond b (Some x) None) ≡ true → x < q
    go true e h = ltb-true x q e
    go false e h = absurd (cc)

pub not-below : (q x : ℕ) → is_some (word_below q x) ≡ false → q ≤ x
not-below q x = go (ltb x q) refl
  where
    go : (b : Bool) → ltb x q ≡ b → is_some (cond b (Some x) None) ≡ false → q ≤ x
    go true e h = absurd (cc)
    go false e h = ltb-false x q e

-- One that is found is the word.
pub below-found : (q x : ℕ) (o : Option ℕ) → o ≡ word_below q x → x < q → (unwrap_or o 0 ≡ x) × (is_none o ≡ false)
below-found q x o e l = let f = e ∙ sym (below-some q x x refl l) in (ap (λ (p : Option ℕ). unwrap_or p 0) f, ap is_none f)

-- With k for none it is the word, if that is k at most.
pub below-or : (k x : ℕ) → x ≤ k → unwrap_or (word_below k x) k ≡ x
below-or k x l = go (ltb x k) refl
  where
    go : (b : Bool) → ltb x k ≡ b → unwrap_or (cond b (Some x) None) k ≡ x
    go true e = refl
    go false e = let m = ltb-false x k e in omega (arith, m, l)

-- What is found in the first half, of q words, is so in the whole, of k.
pub below-low : (q k : ℕ) → q + q ≡ k → (x y : ℕ) → x ≡ y → x < q → word_below q x ≡ word_below k y
below-low q k ke x y ye l = sym (below-some q x x refl l) ∙ below-some k y x ye (omega (arith, ye, l, ke))

-- What is found in the second half, of q words, h in code, is h more in the whole, of k; none is none.
pub below-more : (h q k : ℕ) → h ≡ q → q + q ≡ k → (x y v : ℕ) → h + x ≡ y → word_below q x ≡ Some v → Some (h + v) ≡ word_below k y
below-more h q k he ke x y v ye e = let b = below-is q x v e in below-some k y (h + v) (omega (arith, b, ye)) (omega (arith, b, ye, he, ke))

pub none-more : (h q k : ℕ) → h ≡ q → q + q ≡ k → (x y : ℕ) → h + x ≡ y → word_below q x ≡ None → None ≡ word_below k y
none-more h q k he ke x y ye e = let b = none-below q x e in below-none k y (omega (arith, b, ye, he, ke))

-- ---- Steps -----------------------------------------------------------------------------------

-- a half as code has it
abbrev pub half_of : ℕ → ℕ
half_of m = 1 * 2 ^ (m - 1) % 18446744073709551616

pub halved : (m : ℕ) → m ≤ option_limit → half_of m ≡ 2 ^ (m - 1)
halved m l = few_words m 1 (omega (arith, l))

-- it fits
pub half-most : (m : ℕ) → m ≤ option_limit → 2 ^ (m - 1) ≤ word_limit
half-most m l = pow_mono {i = m - 1} {j = option_limit} (omega (arith, l))

-- With no option below there is one word.
pub least-one : (m : ℕ) (t : List NodeRecord) (z i : ℕ) (e : Edge) → m ≡ 0 → 0 ≡ least_in m t z i e
unfolding least_in
least-one m t z i e h = rw h refl

pub from_one : (m : ℕ) (t : List NodeRecord) (z i : ℕ) (e : Edge) (w : ℕ) → m ≡ 0 → some_in t z e ≡ true → w ≡ from_in m t z i e w
unfolding from_in
from_one m t z i e w h s = rw h (sym (ap (λ (b : Bool). cond b w 1) s))

-- Where no word is yes, none is found.
pub from-none : (m : ℕ) (t : List NodeRecord) (z i : ℕ) (e : Edge) (w : ℕ) → some_in t z e ≡ false → 2 ^ m ≡ from_in m t z i e w
unfolding from_in
from-none zero t z i e w s = sym (ap (λ (b : Bool). cond b w 1) s)
from-none (suc m) t z i e w s = sym (ap (λ (b : Bool). cond b (cond (ltb w (2 ^ m)) (halves_to (2 ^ m) (from_in m t z (i + 1) (first_in t z i e) w)
    (start_in m t z (i + 1) (second_in t z i e))) (2 ^ m + from_in m t z (i + 1) (second_in t z i e) (w - 2 ^ m))) (2 ^ suc m)) s)

-- The words of a node start with the least, if there is one.
pub start-some : (m : ℕ) (t : List NodeRecord) (z i : ℕ) (e : Edge) → some_in t z e ≡ true → (r : ℕ) → r ≡ least_in m t z i e → r ≡ start_in m t z i e
start-some m t z i e s r re = re ∙ sym (ap (λ (b : Bool). cond b (least_in m t z i e) (2 ^ m)) s)

-- x: the record of e's number; f, g: its children, as code has them
module _ (t : List NodeRecord) (z i : ℕ) (e : Edge) (x : NodeRecord) (got : x ≡ get_in t z e.number) where
  first-got : (f : Edge) → f ≡ first_edge x i e → f ≡ first_in t z i e
  first-got f fe = fe ∙ ap (λ (y : NodeRecord). first_edge y i e) got

  second-got : (g : Edge) → g ≡ second_edge x i e → g ≡ second_in t z i e
  second-got g ge = ge ∙ ap (λ (y : NodeRecord). second_edge y i e) got

  least_by : (m : ℕ) (b : Bool) → some_in t z (first_in t z i e) ≡ b → least_in (suc m) t z i e
      ≡ cond b (least_in m t z (i + 1) (first_in t z i e)) (2 ^ m + least_in m t z (i + 1) (second_in t z i e))
  unfolding least_in
  least_by m b s = ap (λ (b : Bool). cond b (least_in m t z (i + 1) (first_in t z i e)) (2 ^ m + least_in m t z (i + 1) (second_in t z i e))) s

  -- The least word is the first half's, if that has one,
  pub least_first : (m : ℕ) → (m ≡ 0 → ⊥) → (f : Edge) → f ≡ first_edge x i e → some_in t z f ≡ true → (r : ℕ) → r ≡ least_in (m - 1) t z (i + 1) f
      → r ≡ least_in m t z i e
  least_first zero n f fe s r re = absurd (n refl)
  least_first (suc m) n f fe s r re =
      let d : suc m - 1 ≡ m = omega arith in
      re
      ∙ ap₂ (λ (k : ℕ) (a : Edge). least_in k t z (i + 1) a) d (first-got f fe)
      ∙ sym (least_by m true (ap (some_in t z) (sym (first-got f fe)) ∙ s))

  -- else the second's.
  pub least-second : (m : ℕ) → (m ≡ 0 → ⊥) → m ≤ option_limit → (f g : Edge) → f ≡ first_edge x i e → g ≡ second_edge x i e → some_in t z f ≡ false → (r : ℕ)
      → r ≡ least_in (m - 1) t z (i + 1) g → half_of m + r ≡ least_in m t z i e
  least-second zero n l f g fe ge s r re = absurd (n refl)
  least-second (suc m) n l f g fe ge s r re =
      let d : suc m - 1 ≡ m = omega arith in
      ap₂ ◌+◌ (halved (suc m) l ∙ ap (λ (k : ℕ). 2 ^ k) d) (re ∙ ap₂ (λ (k : ℕ) (a : Edge). least_in k t z (i + 1) a) d (second-got g ge))
      ∙ sym (least_by m false (ap (some_in t z) (sym (first-got f fe)) ∙ s))

  -- the ways from a word on
  from-by : (m w : ℕ) → some_in t z e ≡ true → (b : Bool) → ltb w (2 ^ m) ≡ b → from_in (suc m) t z i e w
      ≡ cond b (halves_to (2 ^ m) (from_in m t z (i + 1) (first_in t z i e) w) (start_in m t z (i + 1) (second_in t z i e)))
      (2 ^ m + from_in m t z (i + 1) (second_in t z i e) (w - 2 ^ m))
  unfolding from_in
  from-by m w s b l = ap₂ (λ (a c : Bool). cond a (cond c (halves_to (2 ^ m) (from_in m t z (i + 1) (first_in t z i e) w)
      (start_in m t z (i + 1) (second_in t z i e))) (2 ^ m + from_in m t z (i + 1) (second_in t z i e) (w - 2 ^ m))) (2 ^ suc m)) s l

  module _ (some : some_in t z e ≡ true) where
    -- From a word of the second half on it is the second's,
    pub from-high : (m w : ℕ) → (m ≡ 0 → ⊥) → m ≤ option_limit → (g : Edge) → g ≡ second_edge x i e → half_of m ≤ w → (r : ℕ)
        → r ≡ from_in (m - 1) t z (i + 1) g (w - half_of m) → half_of m + r ≡ from_in m t z i e w
    from-high zero w n l g ge h r re = absurd (n refl)
    from-high (suc m) w n l g ge h r re =
        let d : suc m - 1 ≡ m = omega arith in
        let a : half_of (suc m) ≡ 2 ^ m = halved (suc m) l ∙ ap (λ (k : ℕ). 2 ^ k) d in
        ap₂ ◌+◌ a (re ∙ ap₂ (λ (k j : ℕ). from_in k t z (i + 1) g (w - j)) d a ∙ ap (λ (b : Edge). from_in m t z (i + 1) b (w - 2 ^ m)) (second-got g ge))
        ∙ sym (from-by m w some false (le-ltb w (2 ^ m) (omega (arith, h, a))))

    -- from one of the first half on the first's, if that has one,
    pub from_low : (m w : ℕ) → (m ≡ 0 → ⊥) → m ≤ option_limit → (f : Edge) → f ≡ first_edge x i e → w < half_of m → (r : ℕ)
        → r ≡ from_in (m - 1) t z (i + 1) f w → r < half_of m → r ≡ from_in m t z i e w
    from_low zero w n l f fe h r re k = absurd (n refl)
    from_low (suc m) w n l f fe h r re k =
        let d : suc m - 1 ≡ m = omega arith in
        let a : half_of (suc m) ≡ 2 ^ m = halved (suc m) l ∙ ap (λ (k : ℕ). 2 ^ k) d in
        let q : r ≡ from_in m t z (i + 1) (first_in t z i e) w = re ∙ ap₂ (λ (k : ℕ) (b : Edge). from_in k t z (i + 1) b w) d (first-got f fe) in
        q
        ∙ sym (from-by m w some true (lt-ltb w (2 ^ m) (omega (arith, h, a)))
        ∙ ap (λ (b : Bool). cond b (from_in m t z (i + 1) (first_in t z i e) w) (2 ^ m + start_in m t z (i + 1) (second_in t z i e)))
        (lt-ltb (from_in m t z (i + 1) (first_in t z i e) w) (2 ^ m) (omega (arith, q, k, a))))

    -- else where the second's words start.
    pub from_start : (m w : ℕ) → (m ≡ 0 → ⊥) → m ≤ option_limit → (f g : Edge) → f ≡ first_edge x i e → g ≡ second_edge x i e → w < half_of m → (r : ℕ)
        → r ≡ from_in (m - 1) t z (i + 1) f w → half_of m ≤ r → (s : ℕ) → s ≡ start_in (m - 1) t z (i + 1) g → half_of m + s ≡ from_in m t z i e w
    from_start zero w n l f g fe ge h r re k s se = absurd (n refl)
    from_start (suc m) w n l f g fe ge h r re k s se =
        let d : suc m - 1 ≡ m = omega arith in
        let a : half_of (suc m) ≡ 2 ^ m = halved (suc m) l ∙ ap (λ (k : ℕ). 2 ^ k) d in
        let q : r ≡ from_in m t z (i + 1) (first_in t z i e) w = re ∙ ap₂ (λ (k : ℕ) (b : Edge). from_in k t z (i + 1) b w) d (first-got f fe) in
        ap₂ ◌+◌ a (se ∙ ap₂ (λ (k : ℕ) (b : Edge). start_in k t z (i + 1) b) d (second-got g ge))
        ∙ sym (from-by m w some true (lt-ltb w (2 ^ m) (omega (arith, h, a)))
        ∙ ap (λ (b : Bool). cond b (from_in m t z (i + 1) (first_in t z i e) w) (2 ^ m + start_in m t z (i + 1) (second_in t z i e)))
        (le-ltb (from_in m t z (i + 1) (first_in t z i e) w) (2 ^ m) (omega (arith, q, k, a))))
