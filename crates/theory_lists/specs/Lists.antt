-- General facts on tests, numbers and lists. Assumes nothing.
use Rattle.std.specs.Prelude.{◌≡◌, refl, ◌≢◌, ◌⊎◌, Bool, true, false, not, ◌&&◌, ◌||◌, List, [], ◌∷◌, ◌++◌, ℕ, zero, suc, ◌≤◌, ◌<◌, ◌^◌, leb, eqb}
use Rattle.std.proofs.Common.{sym, subst, inl, inr, true≢false, arith, eqb-true, leb-true, leb-false, eq-eqb}
use Rattle.std.proofs.lemmas.Bool.{false≢true, eqb-false}

-- ---- Tests -----------------------------------------------------------------------------------

-- exclusive or
abbrev pub differ : Bool → Bool → Bool
differ true b = not b
differ false b = b

-- a Boolean as a binary digit
abbrev pub bit : Bool → ℕ
bit true = 1
bit false = 0

pub and_l : (a b : Bool) → (a && b) ≡ true → a ≡ true
and_l true b e = refl
and_l false b e = e

pub and_r : (a b : Bool) → (a && b) ≡ true → b ≡ true
and_r true b e = e
and_r false b e = absurd (false≢true e)

pub or_l : (a b : Bool) → (a || b) ≡ false → a ≡ false
or_l true b e = e
or_l false b e = refl

pub or_r : (a b : Bool) → (a || b) ≡ false → b ≡ false
or_r true b e = absurd (true≢false e)
or_r false b e = e

pub or-false : {a b : Bool} → a ≡ false → b ≡ false → (a || b) ≡ false
or-false p q = cc

pub or_left : (a b : Bool) → a ≡ true → (a || b) ≡ true
or_left a b e = cc

pub or_right : (a b : Bool) → b ≡ true → (a || b) ≡ true
or_right true b e = refl
or_right false b e = e

pub and-true : {a b : Bool} → a ≡ true → b ≡ true → (a && b) ≡ true
and-true p q = cc

pub not-and : (a b : Bool) → (a && not b) ≡ true → b ≡ false
not-and true true e = absurd (false≢true e)
not-and true false e = refl
not-and false b e = absurd (false≢true e)

pub not-twice : (a : Bool) → not (not a) ≡ a
not-twice true = refl
not-twice false = refl

pub is_false : (a : Bool) → (a ≡ true → ⊥) → a ≡ false
is_false true h = absurd (h refl)
is_false false h = refl

pub differ_comm : (t u : Bool) → differ u t ≡ differ t u
differ_comm true true = refl
differ_comm true false = refl
differ_comm false true = refl
differ_comm false false = refl

pub differ-false : (a b : Bool) → differ a b ≡ false → a ≡ b
differ-false true true e = refl
differ-false true false e = absurd (true≢false e)
differ-false false true e = absurd (true≢false e)
differ-false false false e = refl

pub not-differ-true : (a b : Bool) → not (differ a b) ≡ true → a ≡ b
not-differ-true true true e = refl
not-differ-true true false e = absurd (false≢true e)
not-differ-true false true e = absurd (false≢true e)
not-differ-true false false e = refl

pub eq-not-differ : (a b : Bool) → a ≡ b → not (differ a b) ≡ true
eq-not-differ true true e = refl
eq-not-differ true false e = sym e
eq-not-differ false true e = e
eq-not-differ false false e = refl

pub differ-twice : (a b : Bool) → differ a (differ a b) ≡ b
differ-twice true true = refl
differ-twice true false = refl
differ-twice false b = refl

pub differ-assoc : (a b c : Bool) → differ a (differ b c) ≡ differ (differ a b) c
differ-assoc true true true = refl
differ-assoc true true false = refl
differ-assoc true false c = refl
differ-assoc false b c = refl

pub decide_eq : (a b : ℕ) → (a ≡ b) ⊎ (a ≢ b)
decide_eq a b = go (eqb a b) refl
  where
    go : (t : Bool) → eqb a b ≡ t → (a ≡ b) ⊎ (a ≢ b)
    go true e = inl (eqb-true a b e)
    go false e = inr (eqb-false a b e)

pub decide-le : (a b : ℕ) → (a ≤ b) ⊎ (b < a)
decide-le a b = go (leb a b) refl
  where
    go : (t : Bool) → leb a b ≡ t → (a ≤ b) ⊎ (b < a)
    go true e = inl (leb-true a b e)
    go false e = inr (leb-false a b e)

-- ---- Powers of two ---------------------------------------------------------------------------

pub pow_pos : (m : ℕ) → 0 < 2 ^ m
pow_pos zero = omega arith
pow_pos (suc m) = omega (arith, pow_pos m)

-- ---- Lists all of one kind -------------------------------------------------------------------

abbrev pub All : {A : Type 0} → (A → Type 0) → List A → Type 0
All P [] = Unit {0}
All P (x ∷ xs) = P x × All P xs

pub all_map : {A : Type 0} (P Q : A → Type 0) → ((x : A) → P x → Q x) → (xs : List A) → All P xs → All Q xs
all_map P Q f [] h = tt
all_map P Q f (x ∷ xs) h = (f x h.0, all_map P Q f xs h.1)

pub all_snoc : {A : Type 0} (P : A → Type 0) (xs : List A) (x : A) → All P xs → P x → All P (xs ++ (x ∷ []))
all_snoc P [] x h p = (p, tt)
all_snoc P (y ∷ ys) x h p = (h.0, all_snoc P ys x h.1 p)

-- ---- Members of a list of numbers ------------------------------------------------------------

abbrev pub has : ℕ → List ℕ → Bool
has q [] = false
has q (x ∷ xs) = eqb x q || has q xs

pub has-append : (q : ℕ) (xs ys : List ℕ) → has q xs ≡ true → has q (xs ++ ys) ≡ true
has-append q [] ys h = absurd (false≢true h)
has-append q (x ∷ xs) ys h = go (eqb x q) h (has-append q xs ys)
  where
    go : (u : Bool) → (u || has q xs) ≡ true → (has q xs ≡ true → has q (xs ++ ys) ≡ true) → (u || has q (xs ++ ys)) ≡ true
    go true h ih = refl
    go false h ih = ih h

pub has_last : (q : ℕ) (xs : List ℕ) → has q (xs ++ (q ∷ [])) ≡ true
has_last q [] = or_left (eqb q q) false (eq-eqb q q refl)
has_last q (x ∷ xs) = or_right (eqb x q) (has q (xs ++ (q ∷ []))) (has_last q xs)

pub all-has : (P : ℕ → Type 0) (q : ℕ) (xs : List ℕ) → All P xs → has q xs ≡ true → P q
all-has P q [] h e = absurd (false≢true e)
all-has P q (x ∷ xs) h e = go (eqb x q) refl e (all-has P q xs h.1)
  where
    go : (u : Bool) → eqb x q ≡ u → (u || has q xs) ≡ true → (has q xs ≡ true → P q) → P q
    go true d e ih = subst P (eqb-true x q d) h.0
    go false d e ih = ih e

-- no number twice
abbrev pub Distinct : List ℕ → Type 0
Distinct [] = Unit {0}
Distinct (x ∷ xs) = All (λ q. q ≢ x) xs × Distinct xs

pub distinct_snoc : (xs : List ℕ) (k : ℕ) → Distinct xs → All (λ q. q ≢ k) xs → Distinct (xs ++ (k ∷ []))
distinct_snoc [] k h a = (tt, tt)
distinct_snoc (x ∷ xs) k h a = (all_snoc (λ p. p ≢ x) xs k h.0 (λ e. a.0 (sym e)), distinct_snoc xs k h.1 a.1)
