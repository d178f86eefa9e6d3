-- What one storing does to the table and the queue, and the invariant that it keeps: children are in the table, and what is in the queue
-- is no stored node's child.
use Rattle.std.specs.Prelude.{◌≡◌, ◌≢◌, ◌⊎◌, Bool, ◌||◌, ℕ, zero, suc, ◌≤◌, ◌<◌, leb}
use Rattle.std.proofs.Math.Path.{refl, sym}
use Rattle.std.proofs.Common.{ap, ◌∙◌, subst, inl, inr, ⊎_elim, arith, get_or-set_other}
use Rattle.std.proofs.Math.Bool.{true, false}
use Rattle.std.proofs.lemmas.Bool.{false≢true}
use mathlib.Core.List.{List, [], ◌∷◌, ◌++◌}
use Rattle.std.proofs.Math.Dec.{eqb}
use Rattle.std.proofs.Math.ListN.{length, set, length-append, length-set, get_or-append, get_or-eq_default}
use Rattle.std.proofs.Math.Seq.{get_or-set_same, get_or_at}
use borrow.Author.Tests.{eqb-true, eqb-false, eq-eqb, ne_eqb, leb-true}
use Rattle.theory_lists.specs.Lists.{or_l, or_r, or-false, decide_eq, decide-le, All, all_map, all_snoc}
use Rattle.theory_reading.specs.Nodes.{Node, new_node, no_node, node, stamp, is_child, has_parent}
use Rattle.theory_writing.specs.UniqueTable.{State, first_free, next_number, without, orphaned, freed, placed, stored}

-- ---- The table after a storing ---------------------------------------------------------------

module _ (ns : List Node) (k : ℕ) (x : Node) (h : k ≤ length ns) where
  pub placed_same : node (placed ns k x) k ≡ x
  unfolding placed
  placed_same = go (eqb k (length ns)) refl
    where
      go : (t : Bool) → eqb k (length ns) ≡ t → node (elim t [ true ↦ ns ++ (x ∷ []) | false ↦ set ns k x ]) k ≡ x
      go true e = get_or_at ns x [] no_node k (sym (eqb-true k (length ns) e))
      go false e = get_or-set_same ns k x no_node (omega (arith, eqb-false k (length ns) e))

  pub placed-other : (p : ℕ) → p ≢ k → node (placed ns k x) p ≡ node ns p
  unfolding placed
  placed-other p d = go (eqb k (length ns)) refl
    where
      past : k ≡ length ns → (length ns ≤ p) ⊎ (p < length ns) → node (ns ++ (x ∷ [])) p ≡ node ns p
      past e (inl a) =
          get_or-eq_default (ns ++ (x ∷ [])) no_node (omega (arith, length-append ns (x ∷ [])))
          ∙ sym (get_or-eq_default ns no_node a)
      past e (inr b) = get_or-append ns (x ∷ []) no_node p b

      go : (t : Bool) → eqb k (length ns) ≡ t → node (elim t [ true ↦ ns ++ (x ∷ []) | false ↦ set ns k x ]) p ≡ node ns p
      go true e = past (eqb-true k (length ns) e) (decide-le (length ns) p)
      go false e = get_or-set_other ns k p x no_node d

  pub placed-longer : (length ns ≤ length (placed ns k x)) × (k < length (placed ns k x))
  unfolding placed
  placed-longer = go (eqb k (length ns)) refl
    where
      go : (t : Bool) → eqb k (length ns) ≡ t
          → (length ns ≤ length {A = Node} (elim t [ true ↦ ns ++ (x ∷ []) | false ↦ set ns k x ]))
          × (k < length {A = Node} (elim t [ true ↦ ns ++ (x ∷ []) | false ↦ set ns k x ]))
      go true e = (omega (arith, length-append ns (x ∷ [])), omega (arith, length-append ns (x ∷ []), eqb-true k (length ns) e))
      go false e = (omega (arith, length-set ns k x), omega (arith, length-set ns k x, eqb-false k (length ns) e))

-- ---- The queue -------------------------------------------------------------------------------

pub all_without : (P : ℕ → Type 0) (k : ℕ) (qs : List ℕ) → All P qs → All (λ q. P q × (q ≢ k)) (without k qs)
unfolding without
all_without P k [] h = tt
all_without P k (q ∷ qs) h = go (eqb q k) refl (all_without P k qs h.1)
  where
    go : (t : Bool) → eqb q k ≡ t → All (λ q. P q × (q ≢ k)) (without k qs)
        → All (λ q. P q × (q ≢ k)) (elim t [ true ↦ without k qs | false ↦ q ∷ without k qs ])
    go true e r = r
    go false e r = ((h.0, eqb-false q k e), r)

pub all-first_free : (P : ℕ → Type 0) (qs : List ℕ) (a b k : ℕ) → All P qs → first_free qs a b ≡ suc k → P (suc k) × (a ≢ suc k)
    × (b ≢ suc k)
unfolding first_free
all-first_free P [] a b k h e = absurd (let z : ◌≡◌ {A = ℕ} 0 (suc k) = e in omega arith)
all-first_free P (q ∷ qs) a b k h e = go (eqb a q || eqb b q) refl e (λ r. all-first_free P qs a b k h.1 r)
  where
    go : (t : Bool) → (eqb a q || eqb b q) ≡ t → elim t as (λ _. ℕ) [ true ↦ first_free qs a b | false ↦ q ] ≡ suc k
        → (first_free qs a b ≡ suc k → P (suc k) × (a ≢ suc k) × (b ≢ suc k)) → P (suc k) × (a ≢ suc k) × (b ≢ suc k)
    go true d r ih = ih r
    go false d r ih = (
      subst P r h.0,
      (λ z. eqb-false a q (or_l (eqb a q) (eqb b q) d) (z ∙ sym r)),
      (λ z. eqb-false b q (or_r (eqb a q) (eqb b q) d) (z ∙ sym r)),
    )

-- ---- Parents ---------------------------------------------------------------------------------

-- k is no node's child
abbrev pub Parentless : List Node → ℕ → Type 0
Parentless ns k = (p : ℕ) → is_child k (node ns p) ≡ false

child-apart : (k : ℕ) (x : Node) → x.first ≢ k → x.second ≢ k → is_child k x ≡ false
child-apart k x p q = or-false (ne_eqb x.first k p) (ne_eqb x.second k q)

-- the scan finds every parent (of a number other than 0)
pub has_parent-none : (ns : List Node) (k : ℕ) → has_parent ns (suc k) ≡ false → Parentless ns (suc k)
unfolding has_parent
has_parent-none [] k e p = child-apart (suc k) no_node (λ z. omega arith) (λ z. omega arith)
has_parent-none (x ∷ xs) k e zero = or_l (is_child (suc k) x) (has_parent xs (suc k)) e
has_parent-none (x ∷ xs) k e (suc p) = has_parent-none xs k (or_r (is_child (suc k) x) (has_parent xs (suc k)) e) p

-- ---- The invariant ---------------------------------------------------------------------------

-- q may be given out: it has no parent
pub record Free (ns : List Node) (q : ℕ) : Type 0 where
  pub alone : Parentless ns q
  pub known : q < length ns
  pub real : 0 < q

-- the invariant
pub record Sound (s : State) : Type 0 where
  pub some-place : 0 < length s.table
  pub children : (p c : ℕ) → is_child c (node s.table p) ≡ true → c < length s.table
  pub waiting : All (Free s.table) s.queue

-- k may be given out for a node with children a and b
pub record Able (s : State) (k a b : ℕ) : Type 0 where
  pub alone : Parentless s.table k
  pub room : k ≤ length s.table
  pub real : 0 < k
  pub not_a : a ≢ k
  pub not-b : b ≢ k
  pub a-known : a < length s.table
  pub b-known : b < length s.table

pub child-either : (k : ℕ) (x : Node) → is_child k x ≡ true → (x.first ≡ k) ⊎ (x.second ≡ k)
child-either k x e = go (eqb x.first k) (eqb x.second k) refl refl e
  where
    go : (t u : Bool) → eqb x.first k ≡ t → eqb x.second k ≡ u → (t || u) ≡ true → (x.first ≡ k) ⊎ (x.second ≡ k)
    go true u p q r = inl (eqb-true x.first k p)
    go false true p q r = inr (eqb-true x.second k q)
    go false false p q r = absurd (false≢true r)

-- free but for a parent at place k
abbrev But : State → ℕ → ℕ → Type 0
But s k q =
    record { alone : (p : ℕ) → p ≢ k → is_child q (node s.table p) ≡ false; known : q < length s.table; real : 0 < q }

orphaned-but : (s : State) (k c : ℕ) (qs : List ℕ) → c < length s.table → All (But s k) qs
    → All (But s k) (orphaned (set s.table k no_node) c qs)
unfolding orphaned
orphaned-but s k zero qs l h = h
orphaned-but s k (suc c) qs l h = go (has_parent (set s.table k no_node) (suc c)) refl
  where
    go : (t : Bool) → has_parent (set s.table k no_node) (suc c) ≡ t
        → All (But s k) (elim t [ true ↦ qs | false ↦ without (suc c) qs ++ (suc c ∷ []) ])
    go true e = h
    go false e =
        all_snoc (But s k) (without (suc c) qs) (suc c) (all_map (λ q. But s k q × (q ≢ suc c)) (But s k) (λ q r. r.0)
        (without (suc c) qs) (all_without (But s k) (suc c) qs h))
        (record {
          alone = λ p d. ap (is_child (suc c)) (sym (get_or-set_other s.table k p no_node no_node d))
              ∙ has_parent-none (set s.table k no_node) c e p;
          known = l;
          real = omega arith;
        })

pub first-child : (x : Node) → is_child x.first x ≡ true
first-child x = ap (λ (t : Bool). t || eqb x.second x.first) (eq-eqb x.first x.first refl)

pub second-child : (x : Node) → is_child x.second x ≡ true
second-child x = go (eqb x.first x.second) (eq-eqb x.second x.second refl)
  where
    go : (t : Bool) → eqb x.second x.second ≡ true → (t || eqb x.second x.second) ≡ true
    go true e = refl
    go false e = e

freed-but : (s : State) (k : ℕ) → Sound s → All (But s k) (freed s k)
unfolding freed
freed-but s k h =
    orphaned-but s k (node s.table k).second _ (h.children k (node s.table k).second (second-child (node s.table k)))
    (orphaned-but s k (node s.table k).first _ (h.children k (node s.table k).first (first-child (node s.table k)))
    (all_map (λ q. Free s.table q × (q ≢ k)) (But s k)
    (λ q r. record { alone = λ p d. r.0.alone p; known = r.0.known; real = r.0.real }) (without k s.queue)
    (all_without (Free s.table) k s.queue h.waiting)))

-- ---- Kept by a storing -----------------------------------------------------------------------

module _ (s : State) (k i a b : ℕ) (t : Bool) (h : Sound s) (able : Able s k a b) where
  pub stored_same : node (stored s k i a b t).table k ≡ new_node i a b t (suc (stamp s.table k))
  unfolding stored
  stored_same = placed_same s.table k _ able.room

  pub stored_other : (p : ℕ) → p ≢ k → node (stored s k i a b t).table p ≡ node s.table p
  unfolding stored
  stored_other p d = placed-other s.table k _ able.room p d

  pub stored-longer : (length s.table ≤ length (stored s k i a b t).table) × (k < length (stored s k i a b t).table)
  unfolding stored
  stored-longer = placed-longer s.table k _ able.room

  stored-free : (q : ℕ) → But s k q → q ≢ a → q ≢ b → Free (stored s k i a b t).table q
  stored-free q u na nb = record {
    alone = λ p. ⊎_elim
        (λ (e : p ≡ k). ap (λ (j : ℕ). is_child q (node (stored s k i a b t).table j)) e ∙ ap (is_child q) stored_same
        ∙ or-false (ne_eqb a q (λ z. na (sym z))) (ne_eqb b q (λ z. nb (sym z))))
        (λ (d : p ≢ k). ap (is_child q) (stored_other p d) ∙ u.alone p d) (decide_eq p k);
    known = omega (arith, u.known, stored-longer.0);
    real = u.real;
  }

  new-free : Free (stored s k i a b t).table k
  new-free = record {
    alone = λ p. ⊎_elim
        (λ (e : p ≡ k). ap (λ (j : ℕ). is_child k (node (stored s k i a b t).table j)) e ∙ ap (is_child k) stored_same
        ∙ or-false (ne_eqb a k able.not_a) (ne_eqb b k able.not-b))
        (λ (d : p ≢ k). ap (is_child k) (stored_other p d) ∙ able.alone p) (decide_eq p k);
    known = stored-longer.1;
    real = able.real;
  }

  stored-queue : All (Free (stored s k i a b t).table) (stored s k i a b t).queue
  unfolding stored
  stored-queue =
      all_snoc (Free (stored s k i a b t).table) (without b (without a (freed s k))) k
      (all_map (λ q. (But s k q × (q ≢ a)) × (q ≢ b)) (Free (stored s k i a b t).table)
      (λ q r. stored-free q r.0.0 r.0.1 r.1) (without b (without a (freed s k)))
      (all_without (λ q. But s k q × (q ≢ a)) b (without a (freed s k)) (all_without (But s k) a (freed s k) (freed-but s k h))))
      new-free

  stored-children : (p c : ℕ) → is_child c (node (stored s k i a b t).table p) ≡ true → c < length (stored s k i a b t).table
  stored-children p c e = ⊎_elim
      (λ (z : p ≡ k). let y : is_child c (new_node i a b t (suc (stamp s.table k))) ≡ true = ap (is_child c) (sym stored_same)
      ∙ ap (λ (j : ℕ). is_child c (node (stored s k i a b t).table j)) (sym z) ∙ e in
      ⊎_elim (λ (w : a ≡ c). omega (arith, able.a-known, stored-longer.0))
      (λ (w : b ≡ c). omega (arith, able.b-known, stored-longer.0))
      (child-either c (new_node i a b t (suc (stamp s.table k))) y))
      (λ (d : p ≢ k). omega (arith, h.children p c (ap (is_child c) (sym (stored_other p d)) ∙ e), stored-longer.0))
      (decide_eq p k)

  pub stored-sound : Sound (stored s k i a b t)
  stored-sound =
      record { some-place = omega (arith, h.some-place, stored-longer.0); children = stored-children; waiting = stored-queue }

-- A number that is given out is no larger than the size.
pub next_small : (size : ℕ) (s : State) (a b k : ℕ) → Sound s → length s.table ≤ suc size → next_number size s a b ≡ suc k
    → suc k ≤ size
unfolding next_number
next_small size s a b k h l e = go (leb (length s.table) size) refl e
  where
    go : (u : Bool) → leb (length s.table) size ≡ u
        → elim u as (λ _. ℕ) [ true ↦ length s.table | false ↦ first_free s.queue a b ] ≡ suc k → suc k ≤ size
    go true q r = omega (arith, leb-true (length s.table) size q, r)
    go false q r = omega (arith, (all-first_free (Free s.table) s.queue a b k h.waiting r).0.known, l)
