-- The recycling queue as a list linked both ways: each number has the one before it and the one after it, so the first is found and a
-- number leaves or joins in constant time. What is after and before each number is that of the queue of UniqueTable, and stays so.
-- Assumes nothing.
use Rattle.std.specs.Prelude.{◌≡◌, ◌≢◌, ◌⊎◌, Bool, not, ◌||◌, cond, ℕ, zero, suc, ◌≤◌, ◌<◌, length, get_or, set}
use Rattle.std.proofs.Math.Path.{refl, ap, subst⁻¹}
use Rattle.std.proofs.Common.{sym, ◌∙◌, subst, inl, inr, true≢false, arith, get_or-set_same, get_or-set_other}
use Rattle.std.proofs.Math.Bool.{true, false}
use Rattle.std.proofs.lemmas.Bool.{false≢true}
use mathlib.Core.List.{List, [], ◌∷◌, ◌++◌}
use Rattle.std.proofs.Math.Dec.{eqb}
use Rattle.std.proofs.Math.ListN.{length-set}
use borrow.Author.Tests.{eqb-true, eqb-false, eq-eqb, ne_eqb, not-false}
use Rattle.theory_lists.specs.Lists.{or_l, or_r, or-false, or_left, or_right, All, all_snoc, has, all-has, Distinct, distinct_snoc}
use Rattle.theory_writing.specs.UniqueTable.{first_free, without}
use Rattle.theory_writing.specs.Queue.{all-without', distinct_without}

-- ---- The links -------------------------------------------------------------------------------

-- The number after k and the number before k are at place k (place 0 is unused); the first and the last number of the queue. 0: none
pub record Links : Type 0 where
  pub next : List ℕ
  pub prev : List ℕ
  pub head : ℕ
  pub tail : ℕ

-- k leaves the queue: its neighbours are tied together
unfoldable pub unlinked : Links → ℕ → Links
unlinked l k =
    let p = get_or l.prev k 0 in
    let n = get_or l.next k 0 in
    record {
      next = cond (eqb p 0) l.next (set l.next p n);
      prev = cond (eqb n 0) l.prev (set l.prev n p);
      head = cond (eqb p 0) n l.head;
      tail = cond (eqb n 0) p l.tail;
    }

-- k joins it at the end
unfoldable pub linked : Links → ℕ → Links
linked l k =
    record {
      next = cond (eqb l.tail 0) (set l.next k 0) (set (set l.next k 0) l.tail k);
      prev = set l.prev k l.tail;
      head = cond (eqb l.tail 0) k l.head;
      tail = k;
    }

-- the search stops at x: x is 0, or neither a nor b
abbrev pub stops : ℕ → ℕ → ℕ → Bool
stops a b x = eqb x 0 || not (eqb a x || eqb b x)

-- the first that is neither a nor b, 0 if there is none: at most three are looked at
unfoldable pub free_in : Links → ℕ → ℕ → ℕ
free_in l a b =
    let x = l.head in
    let y = get_or l.next x 0 in
    cond (stops a b x) x (cond (stops a b y) y (get_or l.next y 0))

-- ---- The queue that links hold ---------------------------------------------------------------

-- the first of a list, 0 if there is none
abbrev pub first_of : List ℕ → ℕ
first_of [] = 0
first_of (x ∷ xs) = x

-- the last of a list, p if there is none
abbrev pub last_of : ℕ → List ℕ → ℕ
last_of p [] = p
last_of p (x ∷ xs) = last_of x xs

-- beside k: what l has at place k, and e beside 0
abbrev pub beside : ℕ → List ℕ → ℕ → ℕ
beside e l zero = e
beside e l (suc k) = get_or l (suc k) 0

-- Read as a ring through 0: after 0 comes the first, before 0 the last
abbrev pub after : Links → ℕ → ℕ
after l = beside l.head l.next

abbrev pub before : Links → ℕ → ℕ
before l = beside l.tail l.prev

-- from p, by f forwards and by g backwards, q is walked, and then 0
abbrev pub Chain : (ℕ → ℕ) → (ℕ → ℕ) → ℕ → List ℕ → Type 0
Chain f g p [] = (f p ≡ 0) × (g 0 ≡ p)
Chain f g p (x ∷ xs) = (f p ≡ x) × (g x ≡ p) × Chain f g x xs

-- the links hold the queue q of numbers 1..z
pub record Holds (z : ℕ) (l : Links) (q : List ℕ) : Type 0 where
  pub real : All (λ k. k ≢ 0) q
  pub known : All (λ k. k ≤ z) q
  pub once : Distinct q
  pub next-room : z < length l.next
  pub prev-room : z < length l.prev
  pub chain : Chain (after l) (before l) 0 q

-- ---- Members of a queue ----------------------------------------------------------------------

pub absent-all : (k : ℕ) (q : List ℕ) → has k q ≡ false → All (λ x. x ≢ k) q
absent-all k [] h = tt
absent-all k (x ∷ xs) h = (eqb-false x k (or_l (eqb x k) (has k xs) h), absent-all k xs (or_r (eqb x k) (has k xs) h))

pub all-absent : (k : ℕ) (q : List ℕ) → All (λ x. x ≢ k) q → has k q ≡ false
all-absent k [] h = refl
all-absent k (x ∷ xs) h = or-false (ne_eqb x k h.0) (all-absent k xs h.1)

-- a member is the first, or is among the rest
has-cons : (k x : ℕ) (xs : List ℕ) → has k (x ∷ xs) ≡ true → (x ≡ k) ⊎ (has k xs ≡ true)
has-cons k x xs h = go (eqb x k) refl h
  where
    go : (t : Bool) → eqb x k ≡ t → (t || has k xs) ≡ true → (x ≡ k) ⊎ (has k xs ≡ true)
    go true e h = inl (eqb-true x k e)
    go false e h = inr h

pub among-append : (k : ℕ) (xs ys : List ℕ) → has k (xs ++ ys) ≡ (has k xs || has k ys)
among-append k [] ys = refl
among-append k (x ∷ xs) ys = go (eqb x k) (among-append k xs ys)
  where
    go : (t : Bool) → has k (xs ++ ys) ≡ (has k xs || has k ys) → (t || has k (xs ++ ys)) ≡ ((t || has k xs) || has k ys)
    go true ih = refl
    go false ih = ih

pub without-absent : (k : ℕ) (q : List ℕ) → has k q ≡ false → without k q ≡ q
unfolding without
without-absent k [] h = refl
without-absent k (x ∷ xs) h =
    go (eqb x k) (or_l (eqb x k) (has k xs) h) (without-absent k xs (or_r (eqb x k) (has k xs) h))
  where
    go : (t : Bool) → t ≡ false → without k xs ≡ xs → elim t [ true ↦ without k xs | false ↦ x ∷ without k xs ] ≡ x ∷ xs
    go true e ih = absurd (true≢false e)
    go false e ih = ap {B = List ℕ} (λ l. x ∷ l) ih

-- k itself has left
pub among-without-same : (k : ℕ) (q : List ℕ) → has k (without k q) ≡ false
unfolding without
among-without-same k [] = refl
among-without-same k (x ∷ xs) = go (eqb x k) refl (among-without-same k xs)
  where
    go : (t : Bool) → eqb x k ≡ t → has k (without k xs) ≡ false
        → has k (elim t [ true ↦ without k xs | false ↦ x ∷ without k xs ]) ≡ false
    go true e ih = ih
    go false e ih = or-false e ih

-- the others stay
pub among-without : (j k : ℕ) (q : List ℕ) → j ≢ k → has j (without k q) ≡ has j q
unfolding without
among-without j k [] d = refl
among-without j k (x ∷ xs) d = go (eqb x k) refl (among-without j k xs d)
  where
    go : (t : Bool) → eqb x k ≡ t → has j (without k xs) ≡ has j xs
        → has j (elim t [ true ↦ without k xs | false ↦ x ∷ without k xs ]) ≡ (eqb x j || has j xs)
    go true e ih = ih ∙ ap (λ (t : Bool). t || has j xs) (sym (ne_eqb x j (λ c. d (sym c ∙ eqb-true x k e))))
    go false e ih = ap (λ (t : Bool). eqb x j || t) ih

-- ---- Chains ----------------------------------------------------------------------------------

-- back and forth from a member is that member
there : (f g : ℕ → ℕ) (k p : ℕ) (q : List ℕ) → Chain f g p q → has k q ≡ true → (f (g k) ≡ k) × (g (f k) ≡ k)
there f g k p [] c h = absurd (false≢true h)
there f g k p (x ∷ xs) c h = go (has-cons k x xs h) (there f g k x xs c.2)
  where
    round : (ys : List ℕ) → Chain f g x ys → g (f x) ≡ x
    round [] c = ap g c.0 ∙ c.1
    round (y ∷ ys) c = ap g c.0 ∙ c.1

    go : (x ≡ k) ⊎ (has k xs ≡ true) → (has k xs ≡ true → (f (g k) ≡ k) × (g (f k) ≡ k)) → (f (g k) ≡ k) × (g (f k) ≡ k)
    go (inl e) ih = subst (λ (j : ℕ). (f (g j) ≡ j) × (g (f j) ≡ j)) e (ap f c.1 ∙ c.0, round xs c.2)
    go (inr h) ih = ih h

-- after the last comes 0
ended : (f g : ℕ → ℕ) (p : ℕ) (q : List ℕ) → Chain f g p q → f (g 0) ≡ 0
ended f g p [] c = ap f c.1 ∙ c.0
ended f g p (x ∷ xs) c = ended f g x xs c.2

-- a chain stays if f changes only at a, g only at b, and the chain has neither there
same : (f g f' g' : ℕ → ℕ) (a b : ℕ) → ((x : ℕ) → x ≢ a → f' x ≡ f x) → ((x : ℕ) → x ≢ b → g' x ≡ g x) → 0 ≢ b → (p : ℕ) (q : List ℕ)
    → p ≢ a → All (λ x. x ≢ a) q → All (λ x. x ≢ b) q → Chain f g p q → Chain f' g' p q
same f g f' g' a b u v z p [] d m n c = (u p d ∙ c.0, v 0 z ∙ c.1)
same f g f' g' a b u v z p (x ∷ xs) d m n c =
    (u p d ∙ c.0, v x n.0 ∙ c.1, same f g f' g' a b u v z x xs m.0 m.1 n.1 c.2)

-- the neighbours of k are tied together, and the rest stays
module _ (f g f' g' : ℕ → ℕ) (k : ℕ) (f-same : f' (g k) ≡ f k) (f-other : (x : ℕ) → x ≢ g k → f' x ≡ f x) (g-same : g' (f k) ≡ g k)
    (g-other : (x : ℕ) → x ≢ f k → g' x ≡ g x) where
  chain_first : (p : ℕ) (q : List ℕ) → Chain f g p (k ∷ q) → All (λ x. x ≢ p) q → All (λ x. x ≢ 0) q → Distinct q → Chain f' g' p q
  chain_first p [] c m r o =
      (ap f' (sym c.1) ∙ f-same ∙ c.2.0, ap g' (sym c.2.0) ∙ g-same ∙ c.1)
  chain_first p (y ∷ ys) c m r o = (
    ap f' (sym c.1) ∙ f-same ∙ c.2.0,
    ap g' (sym c.2.0) ∙ g-same ∙ c.1,
    same f g f' g' p y (λ x d. f-other x (λ e. d (e ∙ c.1))) (λ x d. g-other x (λ e. d (e ∙ c.2.0))) (λ e. r.0 (sym e)) y ys
        m.0 m.1 o.0 c.2.2,
  )

  chain-unlinks : (p : ℕ) (q : List ℕ) → has k q ≡ true → All (λ x. x ≢ p) q → All (λ x. x ≢ 0) q → Distinct q → Chain f g p q
      → Chain f' g' p (without k q)
  unfolding without
  chain-unlinks p [] h m r o c = absurd (false≢true h)
  chain-unlinks p (x ∷ xs) h m r o c = go (eqb x k) refl h (λ i. chain-unlinks x xs i o.0 r.1 o.1 c.2)
    where
      go : (t : Bool) → eqb x k ≡ t → (t || has k xs) ≡ true → (has k xs ≡ true → Chain f' g' x (without k xs))
          → Chain f' g' p (elim t [ true ↦ without k xs | false ↦ x ∷ without k xs ])
      go true e i ih =
          let d = eqb-true x k e in
          subst⁻¹ (λ (w : List ℕ). Chain f' g' p w)
          (without-absent k xs (all-absent k xs (subst (λ (j : ℕ). All (λ y. y ≢ j) xs) d o.0)))
          (chain_first p xs (subst (λ (j : ℕ). Chain f g p (j ∷ xs)) d c) m.1 r.1 o.1)
      go false e i ih =
          let d = eqb-false x k e in
          let w = there f g k x xs c.2 i in (
            f-other p (λ s. d (sym c.0 ∙ ap f s ∙ w.0)) ∙ c.0,
            g-other x (λ s. all-has (λ y. y ≢ p) k xs m.1 i (sym w.1 ∙ ap g (sym s) ∙ c.1)) ∙ c.1,
            ih i,
          )

-- k comes between the last and 0
module _ (f g f' g' : ℕ → ℕ) (k : ℕ) (f-last : f' (g 0) ≡ k) (f-new : f' k ≡ 0) (f-other : (x : ℕ) → x ≢ g 0 → x ≢ k → f' x ≡ f x)
    (g-zero : g' 0 ≡ k) (g-new : g' k ≡ g 0) (g-other : (x : ℕ) → x ≢ 0 → x ≢ k → g' x ≡ g x) where
  chain-links : (p : ℕ) (q : List ℕ) → p ≢ k → All (λ x. x ≢ k) q → All (λ x. x ≢ 0) q → Chain f g p q → Chain f' g' p (q ++ (k ∷ []))
  chain-links p [] d m r c = (ap f' (sym c.1) ∙ f-last, g-new ∙ c.1, (f-new, g-zero))
  chain-links p (x ∷ xs) d m r c = (
    f-other p (λ s. r.0 (sym c.0 ∙ ap f s ∙ ended f g p (x ∷ xs) c)) d ∙ c.0,
    g-other x r.0 m.0 ∙ c.1,
    chain-links x xs m.0 m.1 r.1 c.2,
  )

-- ---- Links read as a ring --------------------------------------------------------------------

-- n is put beside p
module _ (e : ℕ) (l : List ℕ) (p n : ℕ) where
  beside_same : p < length l → beside (cond (eqb p 0) n e) (cond (eqb p 0) l (set l p n)) p ≡ n
  beside_same h = go p (eqb p 0) refl h
    where
      go : (p : ℕ) (t : Bool) → eqb p 0 ≡ t → p < length l → beside (cond t n e) (cond t l (set l p n)) p ≡ n
      go zero true d h = refl
      go zero false d h = absurd (eqb-false 0 0 d refl)
      go (suc p) true d h = absurd (let z = eqb-true (suc p) 0 d in omega arith)
      go (suc p) false d h = get_or-set_same l (suc p) n 0 h

  beside-other : (x : ℕ) → x ≢ p → beside (cond (eqb p 0) n e) (cond (eqb p 0) l (set l p n)) x ≡ beside e l x
  beside-other x d = go x (eqb p 0) refl d
    where
      go : (x : ℕ) (t : Bool) → eqb p 0 ≡ t → x ≢ p → beside (cond t n e) (cond t l (set l p n)) x ≡ beside e l x
      go zero true c d = absurd (d (sym (eqb-true p 0 c)))
      go zero false c d = refl
      go (suc x) true c d = refl
      go (suc x) false c d = get_or-set_other l p (suc x) n 0 d

  length-put : length (cond (eqb p 0) l (set l p n)) ≡ length l
  length-put = go (eqb p 0)
    where
      go : (t : Bool) → length (cond t l (set l p n)) ≡ length l
      go true = refl
      go false = length-set l p n

beside-list : (e : ℕ) (l : List ℕ) (k : ℕ) → k ≢ 0 → beside e l k ≡ get_or l k 0
beside-list e l zero d = absurd (d refl)
beside-list e l (suc k) d = refl

beside-set : (e : ℕ) (l : List ℕ) (k v : ℕ) → k ≢ 0 → k < length l → beside e (set l k v) k ≡ v
beside-set e l k v d h = beside-list e (set l k v) k d ∙ get_or-set_same l k v 0 h

beside-set-other : (e : ℕ) (l : List ℕ) (k v x : ℕ) → x ≢ k → beside e (set l k v) x ≡ beside e l x
beside-set-other e l k v zero h = refl
beside-set-other e l k v (suc x) h = get_or-set_other l k (suc x) v 0 h

beside-unset : (e u : ℕ) (l : List ℕ) (k v x : ℕ) → x ≢ 0 → x ≢ k → beside e (set l k v) x ≡ beside u l x
beside-unset e u l k v zero d h = absurd (d refl)
beside-unset e u l k v (suc x) d h = get_or-set_other l k (suc x) v 0 h

-- ---- Lengths ---------------------------------------------------------------------------------

module _ (l : Links) (k : ℕ) where
  pub unlinks-next : length (unlinked l k).next ≡ length l.next
  unfolding unlinked
  unlinks-next = length-put 0 l.next (get_or l.prev k 0) (get_or l.next k 0)

  pub unlinks-prev : length (unlinked l k).prev ≡ length l.prev
  unfolding unlinked
  unlinks-prev = length-put 0 l.prev (get_or l.next k 0) (get_or l.prev k 0)

  pub links-next : length (linked l k).next ≡ length l.next
  unfolding linked
  links-next = length-put 0 (set l.next k 0) l.tail k ∙ length-set l.next k 0

  pub links-prev : length (linked l k).prev ≡ length l.prev
  unfolding linked
  links-prev = length-set l.prev k l.tail

-- ---- What the places of held links are -------------------------------------------------------

-- every member's neighbours are inside
chain-inside : (z : ℕ) (f g : ℕ → ℕ) (k p : ℕ) (q : List ℕ) → p ≤ z → All (λ x. x ≤ z) q → Chain f g p q → has k q ≡ true
    → (f k ≤ z) × (g k ≤ z)
chain-inside z f g k p [] a m c h = absurd (false≢true h)
chain-inside z f g k p (x ∷ xs) a m c h = go (has-cons k x xs h) (chain-inside z f g k x xs m.0 m.1 c.2)
  where
    step : (ys : List ℕ) → All (λ y. y ≤ z) ys → Chain f g x ys → f x ≤ z
    step [] m c = omega (arith, c.0)
    step (y ∷ ys) m c = omega (arith, c.0, m.0)

    go : (x ≡ k) ⊎ (has k xs ≡ true) → (has k xs ≡ true → (f k ≤ z) × (g k ≤ z)) → (f k ≤ z) × (g k ≤ z)
    go (inl e) ih = subst (λ (j : ℕ). (f j ≤ z) × (g j ≤ z)) e (step xs m.1 c.2, omega (arith, c.1))
    go (inr h) ih = ih h

chain-last : (f g : ℕ → ℕ) (p : ℕ) (q : List ℕ) → Chain f g p q → g 0 ≡ last_of p q
chain-last f g p [] c = c.1
chain-last f g p (x ∷ xs) c = chain-last f g x xs c.2

chain-first-of : (f g : ℕ → ℕ) (p : ℕ) (q : List ℕ) → Chain f g p q → f p ≡ first_of q
chain-first-of f g p [] c = c.0
chain-first-of f g p (x ∷ xs) c = c.0

first_member : (q : List ℕ) → first_of q ≢ 0 → has (first_of q) q ≡ true
first_member [] d = absurd (d refl)
first_member (x ∷ xs) d = or_left (eqb x x) (has x xs) (eq-eqb x x refl)

-- after a member comes a member or 0
chain_next : (f g : ℕ → ℕ) (k p : ℕ) (q : List ℕ) → Chain f g p q → has k q ≡ true → f k ≢ 0 → has (f k) q ≡ true
chain_next f g k p [] c h d = absurd (false≢true h)
chain_next f g k p (x ∷ xs) c h d =
    or_right (eqb x (f k)) (has (f k) xs) (go (has-cons k x xs h) (λ i. chain_next f g k x xs c.2 i d))
  where
    go : (x ≡ k) ⊎ (has k xs ≡ true) → (has k xs ≡ true → has (f k) xs ≡ true) → has (f k) xs ≡ true
    go (inl e) ih =
        let w = sym (ap f e) ∙ chain-first-of f g x xs c.2 in
        subst⁻¹ (λ (j : ℕ). has j xs ≡ true) w (first_member xs (λ s. d (w ∙ s)))
    go (inr h) ih = ih h

all-last : (P : ℕ → Type 0) (p : ℕ) (q : List ℕ) → P p → All P q → P (last_of p q)
all-last P p [] a m = a
all-last P p (x ∷ xs) a m = all-last P x xs m.0 m.1

first-inside : (z : ℕ) (q : List ℕ) → All (λ x. x ≤ z) q → first_of q ≤ z
first-inside z [] m = omega arith
first-inside z (x ∷ xs) m = m.0

module _ (z : ℕ) (l : Links) where
  pub holds-head : (q : List ℕ) → Holds z l q → l.head ≡ first_of q
  holds-head q h = chain-first-of (after l) (before l) 0 q h.chain

  pub holds-tail : (q : List ℕ) → Holds z l q → l.tail ≡ last_of 0 q
  holds-tail q h = chain-last (after l) (before l) 0 q h.chain

  -- what comes after a member is in the queue or 0
  pub holds-next : (q : List ℕ) (k : ℕ) → Holds z l q → has k q ≡ true → get_or l.next k 0 ≢ 0 → has (get_or l.next k 0) q ≡ true
  holds-next q k h i d =
      let w = beside-list l.head l.next k (all-has (λ x. x ≢ 0) k q h.real i) in
      subst (λ (j : ℕ). has j q ≡ true) w (chain_next (after l) (before l) k 0 q h.chain i (λ e. d (sym w ∙ e)))

  -- the places that leaving, joining and the search look at are inside
  pub holds-ends : (q : List ℕ) → Holds z l q → (l.head ≤ z) × (l.tail ≤ z)
  holds-ends q h = (
    omega (arith, holds-head q h, first-inside z q h.known),
    omega (arith, holds-tail q h, all-last (λ x. x ≤ z) 0 q (omega arith) h.known),
  )

  pub holds-member : (q : List ℕ) (k : ℕ) → Holds z l q → has k q ≡ true → (k ≢ 0) × (k ≤ z)
  holds-member q k h i = (all-has (λ x. x ≢ 0) k q h.real i, all-has (λ x. x ≤ z) k q h.known i)

  pub holds-inside : (q : List ℕ) (k : ℕ) → Holds z l q → has k q ≡ true → (get_or l.next k 0 ≤ z) × (get_or l.prev k 0 ≤ z)
  holds-inside q k h i =
      let d = (holds-member q k h i).0 in
      let c = chain-inside z (after l) (before l) k 0 q (omega arith) h.known h.chain i in (
        omega (arith, beside-list l.head l.next k d, c.0),
        omega (arith, beside-list l.tail l.prev k d, c.1),
      )

-- ---- The laws --------------------------------------------------------------------------------

pub holds-none : (z : ℕ) (l : Links) → z < length l.next → z < length l.prev → l.head ≡ 0 → l.tail ≡ 0 → Holds z l []
holds-none z l n p h t =
    record { real = tt; known = tt; once = tt; next-room = n; prev-room = p; chain = (h, t) }

pub holds-unlinks : (z : ℕ) (l : Links) (q : List ℕ) (k : ℕ) → Holds z l q → has k q ≡ true → Holds z (unlinked l k) (without k q)
unfolding unlinked
holds-unlinks z l q k h i =
    record {
      real = all-without' (λ x. x ≢ 0) k q h.real;
      known = all-without' (λ x. x ≤ z) k q h.known;
      once = distinct_without k q h.once;
      next-room = omega (arith, h.next-room, unlinks-next l k);
      prev-room = omega (arith, h.prev-room, unlinks-prev l k);
      chain = tied;
    }
  where
    d : k ≢ 0
    d = (holds-member z l q k h i).0

    n : after l k ≡ get_or l.next k 0
    n = beside-list l.head l.next k d

    p : before l k ≡ get_or l.prev k 0
    p = beside-list l.tail l.prev k d

    tied : Chain (after (unlinked l k)) (before (unlinked l k)) 0 (without k q)
    tied =
        chain-unlinks (after l) (before l) (after (unlinked l k)) (before (unlinked l k)) k
        (ap (after (unlinked l k)) p ∙ beside_same l.head l.next (get_or l.prev k 0) (get_or l.next k 0)
        (omega (arith, (holds-inside z l q k h i).1, h.next-room)) ∙ sym n)
        (λ x c. beside-other l.head l.next (get_or l.prev k 0) (get_or l.next k 0) x (λ e. c (e ∙ sym p)))
        (ap (before (unlinked l k)) n ∙ beside_same l.tail l.prev (get_or l.next k 0) (get_or l.prev k 0)
        (omega (arith, (holds-inside z l q k h i).0, h.prev-room)) ∙ sym p)
        (λ x c. beside-other l.tail l.prev (get_or l.next k 0) (get_or l.prev k 0) x (λ e. c (e ∙ sym n)))
        0 q i h.real h.real h.once h.chain

pub holds-links : (z : ℕ) (l : Links) (q : List ℕ) (k : ℕ) → Holds z l q → has k q ≡ false → k ≢ 0 → k ≤ z
    → Holds z (linked l k) (q ++ (k ∷ []))
unfolding linked
holds-links z l q k h i d b =
    record {
      real = all_snoc (λ x. x ≢ 0) q k h.real d;
      known = all_snoc (λ x. x ≤ z) q k h.known b;
      once = distinct_snoc q k h.once (absent-all k q i);
      next-room = omega (arith, h.next-room, links-next l k);
      prev-room = omega (arith, h.prev-room, links-prev l k);
      chain = tied;
    }
  where
    -- the last is not k
    apart : k ≢ l.tail
    apart e =
        all-last (λ x. x ≢ k) 0 q (λ c. d (sym c)) (absent-all k q i) (sym (holds-tail z l q h) ∙ sym e)

    tied : Chain (after (linked l k)) (before (linked l k)) 0 (q ++ (k ∷ []))
    tied =
        let nx = set l.next k 0 in
        chain-links (after l) (before l) (after (linked l k)) (before (linked l k)) k
        (beside_same l.head nx l.tail k (omega (arith, (holds-ends z l q h).1, h.next-room, length-set l.next k 0)))
        (beside-other l.head nx l.tail k k apart ∙ beside-set l.head l.next k 0 d (omega arith))
        (λ x u v. beside-other l.head nx l.tail k x u ∙ beside-set-other l.head l.next k 0 x v)
        refl
        (beside-set k l.prev k l.tail d (omega arith))
        (λ x u v. beside-unset k l.tail l.prev k l.tail x u v)
        0 q (λ e. d (sym e)) (absent-all k q i) h.real h.chain

-- ---- The search ------------------------------------------------------------------------------

-- what the search says of the first of a queue
free-cons : (a b x : ℕ) (xs : List ℕ) → x ≢ 0 → first_free (x ∷ xs) a b ≡ cond (stops a b x) x (first_free xs a b)
unfolding first_free
free-cons a b x xs d = go (eqb x 0) (ne_eqb x 0 d) (eqb a x || eqb b x)
  where
    go : (u : Bool) → u ≡ false → (t : Bool)
        → elim t [ true ↦ first_free xs a b | false ↦ x ] ≡ cond (u || not t) x (first_free xs a b)
    go true e t = absurd (true≢false e)
    go false e true = refl
    go false e false = refl

-- where the search goes on, the number is a or b
goes_on_lem : (a b x : ℕ) → stops a b x ≡ false → (a ≡ x) ⊎ (b ≡ x)
goes_on_lem a b x h = go (eqb a x) refl (not-false (eqb a x || eqb b x) (or_r (eqb x 0) (not (eqb a x || eqb b x)) h))
  where
    go : (t : Bool) → eqb a x ≡ t → (t || eqb b x) ≡ true → (a ≡ x) ⊎ (b ≡ x)
    go true e h = inl (eqb-true a x e)
    go false e h = inr (eqb-true b x h)

-- if x and y are a and b, no third is
no_third : (a b x y z : ℕ) → (a ≡ x) ⊎ (b ≡ x) → (a ≡ y) ⊎ (b ≡ y) → y ≢ x → z ≢ x → z ≢ y → (a ≢ z) × (b ≢ z)
no_third a b x y z (inl p) (inl r) d m n = absurd (d (sym r ∙ p))
no_third a b x y z (inl p) (inr r) d m n = (λ e. m (sym e ∙ p), λ e. n (sym e ∙ r))
no_third a b x y z (inr p) (inl r) d m n = (λ e. n (sym e ∙ r), λ e. m (sym e ∙ p))
no_third a b x y z (inr p) (inr r) d m n = absurd (d (sym r ∙ p))

free-third : (a b x y : ℕ) (zs : List ℕ) → y ≢ x → All (λ z. z ≢ x) zs → All (λ z. z ≢ y) zs → stops a b x ≡ false → stops a b y ≡ false
    → first_of zs ≡ first_free zs a b
unfolding first_free
free-third a b x y [] d m n s t = refl
free-third a b x y (z ∷ zs) d m n s t =
    let w = no_third a b x y z (goes_on_lem a b x s) (goes_on_lem a b y t) d m.0 n.0 in
    go (eqb a z || eqb b z) (or-false (ne_eqb a z w.0) (ne_eqb b z w.1))
  where
    go : (t : Bool) → t ≡ false → z ≡ elim t [ true ↦ first_free zs a b | false ↦ z ]
    go true e = absurd (true≢false e)
    go false e = refl

pub holds-free : (z : ℕ) (l : Links) (q : List ℕ) (a b : ℕ) → Holds z l q → free_in l a b ≡ first_free q a b
unfolding free_in first_free
holds-free z l q a b h = ap from (holds-head z l q h) ∙ go q h.real h.once h.chain
  where
    -- the search from x on, and from y, which is after x
    from : ℕ → ℕ
    from x = let y = get_or l.next x 0 in cond (stops a b x) x (cond (stops a b y) y (get_or l.next y 0))

    listed : (x : ℕ) (ys : List ℕ) → x ≢ 0 → Chain (after l) (before l) x ys → get_or l.next x 0 ≡ first_of ys
    listed x ys d c = sym (beside-list l.head l.next x d) ∙ chain-first-of (after l) (before l) x ys c

    third : (x y : ℕ) (zs : List ℕ) → y ≢ x → All (λ z. z ≢ x) zs → All (λ z. z ≢ y) zs → (t u : Bool) → stops a b x ≡ t → stops a b y ≡ u
        → cond t x (cond u y (first_of zs)) ≡ cond t x (cond u y (first_free zs a b))
    third x y zs d m n true u s r = refl
    third x y zs d m n false true s r = refl
    third x y zs d m n false false s r = free-third a b x y zs d m n s r

    go : (q : List ℕ) → All (λ x. x ≢ 0) q → Distinct q → Chain (after l) (before l) 0 q → from (first_of q) ≡ first_free q a b
    go [] r o c = refl
    go (x ∷ []) r o c =
        ap (λ (y : ℕ). cond (stops a b x) x (cond (stops a b y) y (get_or l.next y 0))) (listed x [] r.0 c.2)
        ∙ sym (free-cons a b x [] r.0)
    go (x ∷ (y ∷ zs)) r o c =
        ap (λ (y : ℕ). cond (stops a b x) x (cond (stops a b y) y (get_or l.next y 0))) (listed x (y ∷ zs) r.0 c.2)
        ∙ ap (λ (z : ℕ). cond (stops a b x) x (cond (stops a b y) y z)) (listed y zs r.1.0 c.2.2)
        ∙ third x y zs o.0.0 o.0.1 o.1.0 (stops a b x) (stops a b y) refl refl
        ∙ sym (free-cons a b x (y ∷ zs) r.0 ∙ ap (cond (stops a b x) x) (free-cons a b y zs r.1.0))
