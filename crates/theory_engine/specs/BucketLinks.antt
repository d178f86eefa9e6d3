-- More of the links of Links: what they hold depends only on the ends and on the places of members, the number before a member and the
-- last are members, and no more than z numbers are held. Assumes nothing.
use Rattle.std.specs.Prelude.{◌≡◌, refl, ◌≢◌, ◌⊎◌, Bool, true, false, ◌||◌, List, [], ◌∷◌, ◌++◌, ℕ, zero, suc, ◌≤◌, eqb, length, get_or}
use Rattle.std.proofs.Common.{sym, ap, ◌∙◌, subst, inl, inr, ⊎_elim, true≢false, arith, eqb-true, eq-eqb, ne_eqb}
use Rattle.std.proofs.lemmas.Bool.{false≢true}
use Rattle.theory_lists.specs.Lists.{or-false, or_left, or_right, All, all_map, has, all-has, Distinct}
use Rattle.theory_writing.specs.UniqueTable.{without}
use Rattle.theory_writing.specs.Storing.{all_without}
use Rattle.theory_writing.specs.Queue.{all-without', distinct_without}
use Rattle.theory_writing.specs.Links.{Links, beside, after, before, Chain, Holds, all-absent, among-append, without-absent}

-- ---- Members ---------------------------------------------------------------------------------

-- what each member is, all are
pub has_all : (P : ℕ → Type 0) (q : List ℕ) → ((k : ℕ) → has k q ≡ true → P k) → All P q
has_all P [] h = tt
has_all P (x ∷ xs) h =
    (h x (or_left (eqb x x) (has x xs) (eq-eqb x x refl)), has_all P xs (λ k e. h k (or_right (eqb x k) (has k xs) e)))

-- a member other than the last that was added
pub has-before : (q k : ℕ) (xs : List ℕ) → q ≢ k → has q (xs ++ (k ∷ [])) ≡ true → has q xs ≡ true
has-before q k xs d h = go (has q xs) refl (sym (among-append q xs (k ∷ [])) ∙ h)
  where
    go : (t : Bool) → has q xs ≡ t → (t || (eqb k q || false)) ≡ true → has q xs ≡ true
    go true e h = e
    go false e h = absurd (true≢false (sym h ∙ or-false (ne_eqb k q (λ c. d (sym c))) refl))

-- ---- What is held depends on few places ------------------------------------------------------

-- a chain stays if both ways from its numbers stay
chain-kept : (f g f' g' : ℕ → ℕ) (p : ℕ) (q : List ℕ) → f' p ≡ f p → g' 0 ≡ g 0 → All (λ k. (f' k ≡ f k) × (g' k ≡ g k)) q
    → Chain f g p q → Chain f' g' p q
chain-kept f g f' g' p [] a b m c = (a ∙ c.0, b ∙ c.1)
chain-kept f g f' g' p (x ∷ xs) a b m c = (a ∙ c.0, m.0.1 ∙ c.1, chain-kept f g f' g' x xs m.0.0 b m.1 c.2)

beside-kept : (d e : ℕ) (l m : List ℕ) (k : ℕ) → e ≡ d → get_or m k 0 ≡ get_or l k 0 → beside e m k ≡ beside d l k
beside-kept d e l m zero a b = a
beside-kept d e l m (suc k) a b = b

-- the links m have the same ends, as many places, and the same at the places of members
pub holds_same : (z : ℕ) (l m : Links) (q : List ℕ) → length m.next ≡ length l.next → length m.prev ≡ length l.prev
    → m.head ≡ l.head → m.tail ≡ l.tail
    → ((k : ℕ) → has k q ≡ true → (get_or m.next k 0 ≡ get_or l.next k 0) × (get_or m.prev k 0 ≡ get_or l.prev k 0))
    → Holds z l q → Holds z m q
holds_same z l m q x y a b s h =
    record {
      real = h.real;
      known = h.known;
      once = h.once;
      next-room = omega (arith, h.next-room, x);
      prev-room = omega (arith, h.prev-room, y);
      chain =
          chain-kept (after l) (before l) (after m) (before m) 0 q a b
          (has_all (λ k. (after m k ≡ after l k) × (before m k ≡ before l k)) q (λ k i. (
            beside-kept l.head m.head l.next m.next k a (s k i).0,
            beside-kept l.tail m.tail l.prev m.prev k b (s k i).1,
          )))
          h.chain;
    }

-- ---- Neighbours ------------------------------------------------------------------------------

-- before a member is the start or a member, and so is the last
chain-prev : (f g : ℕ → ℕ) (k p : ℕ) (q : List ℕ) → Chain f g p q → has k q ≡ true → (g k ≡ p) ⊎ (has (g k) q ≡ true)
chain-prev f g k p [] c h = absurd (false≢true h)
chain-prev f g k p (x ∷ xs) c h = go (eqb x k) refl h (chain-prev f g k x xs c.2)
  where
    go : (t : Bool) → eqb x k ≡ t → (t || has k xs) ≡ true → (has k xs ≡ true → (g k ≡ x) ⊎ (has (g k) xs ≡ true))
        → (g k ≡ p) ⊎ (has (g k) (x ∷ xs) ≡ true)
    go true e h ih = inl (ap g (sym (eqb-true x k e)) ∙ c.1)
    go false e h ih = inr (⊎_elim
        (λ (s : g k ≡ x). or_left (eqb x (g k)) (has (g k) xs) (eq-eqb x (g k) (sym s)))
        (λ (s : has (g k) xs ≡ true). or_right (eqb x (g k)) (has (g k) xs) s)
        (ih h))

chain-tail : (f g : ℕ → ℕ) (p : ℕ) (q : List ℕ) → Chain f g p q → (g 0 ≡ p) ⊎ (has (g 0) q ≡ true)
chain-tail f g p [] c = inl c.1
chain-tail f g p (x ∷ xs) c = inr (⊎_elim
    (λ (s : g 0 ≡ x). or_left (eqb x (g 0)) (has (g 0) xs) (eq-eqb x (g 0) (sym s)))
    (λ (s : has (g 0) xs ≡ true). or_right (eqb x (g 0)) (has (g 0) xs) s)
    (chain-tail f g x xs c.2))

-- what comes before a member, and the last, is held or 0
pub holds-prev : (z : ℕ) (l : Links) (q : List ℕ) (k : ℕ) → Holds z l q → has k q ≡ true → get_or l.prev k 0 ≢ 0
    → has (get_or l.prev k 0) q ≡ true
holds-prev z l q zero h i d = absurd (all-has (λ x. x ≢ 0) 0 q h.real i refl)
holds-prev z l q (suc k) h i d =
    ⊎_elim (λ (e : get_or l.prev (suc k) 0 ≡ 0). absurd (d e)) (λ (e : has (get_or l.prev (suc k) 0) q ≡ true). e)
    (chain-prev (after l) (before l) (suc k) 0 q h.chain i)

pub holds-last : (z : ℕ) (l : Links) (q : List ℕ) → Holds z l q → l.tail ≢ 0 → has l.tail q ≡ true
holds-last z l q h d =
    ⊎_elim (λ (e : l.tail ≡ 0). absurd (d e)) (λ (e : has l.tail q ≡ true). e) (chain-tail (after l) (before l) 0 q h.chain)

-- ---- How many are held -----------------------------------------------------------------------

-- one at most leaves
length_without : (k : ℕ) (q : List ℕ) → Distinct q → length q ≤ suc (length (without k q))
unfolding without
length_without k [] o = omega arith
length_without k (x ∷ xs) o = go (eqb x k) refl (length_without k xs o.1)
  where
    go : (t : Bool) → eqb x k ≡ t → length xs ≤ suc (length (without k xs))
        → suc (length xs) ≤ suc (length {A = ℕ} (elim t [ true ↦ without k xs | false ↦ x ∷ without k xs ]))
    go true e ih =
        let d = subst (λ (j : ℕ). All (λ y. y ≢ j) xs) (eqb-true x k e) o.0 in
        omega (arith, ap length (without-absent k xs (all-absent k xs d)))
    go false e ih = omega (arith, ih)

-- no more than z numbers, each once, are in 1..z
pub distinct-length : (z : ℕ) (q : List ℕ) → Distinct q → All (λ k. k ≢ 0) q → All (λ k. k ≤ z) q → length q ≤ z
distinct-length zero [] o r m = omega arith
distinct-length zero (x ∷ xs) o r m = absurd (r.0 (omega (arith, m.0)))
distinct-length (suc z) q o r m =
    let u = without (suc z) q in
    let n = all_map (λ k. (k ≤ suc z) × (k ≢ suc z)) (λ k. k ≤ z) (λ k h. omega (arith, h.0, h.1)) u
    (all_without (λ k. k ≤ suc z) (suc z) q m) in
    omega (
      arith,
      distinct-length z u (distinct_without (suc z) q o) (all-without' (λ k. k ≢ 0) (suc z) q r) n,
      length_without (suc z) q o,
    )
