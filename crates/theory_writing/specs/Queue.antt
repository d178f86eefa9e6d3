-- "The queue has the stored nodes that are no stored node's child": those and no others, each once. Every rule keeps it so.
use Rattle.std.specs.Prelude.{◌≡◌, ◌≢◌, ◌⊎◌, ◌↔◌, Bool, ◌||◌, eqb, set}
use Rattle.std.proofs.Math.Path.{refl, ap, subst⁻¹}
use Rattle.std.proofs.Common.{sym, ◌∙◌, inl, inr, true≢false, arith, length-append, length-set, get_or-set_same, get_or-set_other, eqb-true, ne_eqb}
use Rattle.std.proofs.Math.Logic.{⊎_elim}
use Rattle.std.proofs.Math.Bool.{true, false}
use mathlib.Core.List.{List, [], ◌∷◌, ◌++◌}
use Prim.Native.Nat.{ℕ, zero, suc, ◌+◌, ◌≤◌, ◌<◌, ◌^◌}
use Rattle.std.proofs.Math.ListN.{length, get_or-eq_default}
use Rattle.std.proofs.Math.Seq.{set_out}
use Rattle.std.proofs.lemmas.Bool.{eqb-false}
use Rattle.theory_lists.specs.Lists.{or_l, or_r, or-false, or_left, or_right, decide_eq, decide-le, All, all_map, all_snoc, has, has-append, has_last}
use Rattle.theory_lists.specs.Lists.{all-has, Distinct, distinct_snoc}
use Rattle.theory_reading.specs.Nodes.{child, Node, new_node, no_node, node, stamp, is_child, has_parent}
use Rattle.theory_writing.specs.UniqueTable.{State, start, without, orphaned, freed, placed, stored}
use Rattle.theory_writing.specs.Rules.{Part, edge, both_terminal, same_entry, half_barred, found, new_number, by_rule, meet, part}
use Rattle.theory_writing.specs.Storing.{all_without, Parentless, has_parent-none, Free, Sound, Able, child-either, first-child, second-child}
use Rattle.theory_writing.specs.Storing.{stored_same, stored_other}
use Rattle.theory_writing.specs.Steps.{next-able, Halves, a-known, b-known, first_half, second_half, part-good, part-halves, start-sound}

-- ---- The invariant ---------------------------------------------------------------------------

pub record Queued (s : State) : Type 0 where
  pub once : Distinct s.queue
  pub complete : (q : ℕ) → 0 < q → q < length s.table → Parentless s.table q → has q s.queue ≡ true

-- ---- Leaving the queue -----------------------------------------------------------------------

pub all-without' : (P : ℕ → Type 0) (k : ℕ) (qs : List ℕ) → All P qs → All P (without k qs)
all-without' P k qs h = all_map (λ q. P q × (q ≢ k)) P (λ q r. r.0) (without k qs) (all_without P k qs h)

pub distinct_without : (k : ℕ) (qs : List ℕ) → Distinct qs → Distinct (without k qs)
unfolding without
distinct_without k [] h = tt
distinct_without k (q ∷ qs) h = go (eqb q k) (distinct_without k qs h.1)
  where
    go : (t : Bool) → Distinct (without k qs) → Distinct (elim t [ true ↦ without k qs | false ↦ q ∷ without k qs ])
    go true r = r
    go false r = (all-without' (λ p. p ≢ q) k qs h.0, r)

not-in-without : (k : ℕ) (qs : List ℕ) → All (λ q. q ≢ k) (without k qs)
not-in-without k qs =
    all_map (λ q. Unit {0} × (q ≢ k)) (λ q. q ≢ k) (λ q r. r.1) (without k qs) (all_without (λ q. Unit {0}) k qs (trivial qs))
  where
    trivial : (qs : List ℕ) → All (λ q. Unit {0}) qs
    trivial [] = tt
    trivial (q ∷ qs) = (tt, trivial qs)

has-without : (q k : ℕ) (qs : List ℕ) → q ≢ k → has q qs ≡ true → has q (without k qs) ≡ true
unfolding without
has-without q k [] d h = h
has-without q k (x ∷ xs) d h = go (eqb x k) (eqb x q) refl refl h (has-without q k xs d)
  where
    go : (t u : Bool) → eqb x k ≡ t → eqb x q ≡ u → (u || has q xs) ≡ true → (has q xs ≡ true → has q (without k xs) ≡ true)
        → has q (elim t [ true ↦ without k xs | false ↦ x ∷ without k xs ]) ≡ true
    go true true a b h ih = absurd (d (sym (eqb-true x q b) ∙ eqb-true x k a))
    go true false a b h ih = ih h
    go false true a b h ih = or_left (eqb x q) (has q (without k xs)) b
    go false false a b h ih = or_right (eqb x q) (has q (without k xs)) (ih h)

-- ---- Children that lose a parent -------------------------------------------------------------

pub has_parent-all : (ns : List Node) (k : ℕ) → Parentless ns k → has_parent ns k ≡ false
unfolding has_parent
has_parent-all [] k h = refl
has_parent-all (x ∷ xs) k h = or-false (h 0) (has_parent-all xs k (λ p. h (suc p)))

parentless : (ns : List Node) (q : ℕ) → 0 < q → has_parent ns q ≡ false → Parentless ns q
parentless ns zero r e = absurd (omega arith)
parentless ns (suc q) r e = has_parent-none ns q e

orphaned-distinct : (ns : List Node) (c : ℕ) (qs : List ℕ) → Distinct qs → Distinct (orphaned ns c qs)
unfolding orphaned
orphaned-distinct ns zero qs h = h
orphaned-distinct ns (suc c) qs h = go (has_parent ns (suc c))
  where
    go : (t : Bool) → Distinct (elim t [ true ↦ qs | false ↦ without (suc c) qs ++ (suc c ∷ []) ])
    go true = h
    go false = distinct_snoc (without (suc c) qs) (suc c) (distinct_without (suc c) qs h) (not-in-without (suc c) qs)

orphaned-all : (P : ℕ → Type 0) (ns : List Node) (c : ℕ) (qs : List ℕ) → P c → All P qs → All P (orphaned ns c qs)
unfolding orphaned
orphaned-all P ns zero qs p h = h
orphaned-all P ns (suc c) qs p h = go (has_parent ns (suc c))
  where
    go : (t : Bool) → All P (elim t [ true ↦ qs | false ↦ without (suc c) qs ++ (suc c ∷ []) ])
    go true = h
    go false = all_snoc P (without (suc c) qs) (suc c) (all-without' P (suc c) qs h) p

orphaned-has : (ns : List Node) (c : ℕ) (qs : List ℕ) (q : ℕ) → has q qs ≡ true → has q (orphaned ns c qs) ≡ true
unfolding orphaned
orphaned-has ns zero qs q h = h
orphaned-has ns (suc c) qs q h = go (has_parent ns (suc c))
  where
    other : (q ≡ suc c) ⊎ (q ≢ suc c) → has q (without (suc c) qs ++ (suc c ∷ [])) ≡ true
    other (inl e) =
        subst⁻¹ (λ (z : ℕ). has z (without (suc c) qs ++ (suc c ∷ [])) ≡ true) e (has_last (suc c) (without (suc c) qs))
    other (inr d) = has-append q (without (suc c) qs) (suc c ∷ []) (has-without q (suc c) qs d h)

    go : (t : Bool) → has q (elim t [ true ↦ qs | false ↦ without (suc c) qs ++ (suc c ∷ []) ]) ≡ true
    go true = h
    go false = other (decide_eq q (suc c))

-- a child left with no parent joins
orphaned-joins : (ns : List Node) (c : ℕ) (qs : List ℕ) → 0 < c → Parentless ns c → has c (orphaned ns c qs) ≡ true
unfolding orphaned
orphaned-joins ns zero qs r h = absurd (omega arith)
orphaned-joins ns (suc c) qs r h = go (has_parent ns (suc c)) (has_parent-all ns (suc c) h)
  where
    go : (t : Bool) → t ≡ false → has (suc c) (elim t [ true ↦ qs | false ↦ without (suc c) qs ++ (suc c ∷ []) ]) ≡ true
    go true e = absurd (true≢false e)
    go false e = has_last (suc c) (without (suc c) qs)

placed-known : (ns : List Node) (k : ℕ) (x : Node) (q : ℕ) → k ≤ length ns → q < length (placed ns k x) → q ≢ k → q < length ns
unfolding placed
placed-known ns k x q r l d = go (eqb k (length ns)) refl l
  where
    go : (t : Bool) → eqb k (length ns) ≡ t → q < length {A = Node} (elim t [ true ↦ ns ++ (x ∷ []) | false ↦ set ns k x ])
        → q < length ns
    go true e l = omega (arith, l, d, eqb-true k (length ns) e, length-append ns (x ∷ []))
    go false e l = omega (arith, l, length-set ns k x)

-- ---- Kept by a storing -----------------------------------------------------------------------

module _ (s : State) (k i a b : ℕ) (t : Bool) (h : Sound s) (able : Able s k a b) (qd : Queued s) where
  rest : List Node
  rest = set s.table k no_node

  not_own : (c : ℕ) → is_child c (node s.table k) ≡ true → c ≢ k
  not_own c e z = true≢false (sym e ∙ ap (λ (j : ℕ). is_child j (node s.table k)) z ∙ able.alone k)

  freed-distinct : Distinct (freed s k)
  unfolding freed
  freed-distinct =
      orphaned-distinct _ (node s.table k).second _
      (orphaned-distinct _ (node s.table k).first _ (distinct_without k s.queue qd.once))

  freed-apart : All (λ q. q ≢ k) (freed s k)
  unfolding freed
  freed-apart =
      orphaned-all (λ q. q ≢ k) _ (node s.table k).second _
      (not_own (node s.table k).second (second-child (node s.table k)))
      (orphaned-all (λ q. q ≢ k) _ (node s.table k).first _
      (not_own (node s.table k).first (first-child (node s.table k))) (not-in-without k s.queue))

  stored-once : Distinct (stored s k i a b t).queue
  unfolding stored
  stored-once =
      distinct_snoc (without b (without a (freed s k))) k
      (distinct_without b (without a (freed s k)) (distinct_without a (freed s k) freed-distinct))
      (all-without' (λ q. q ≢ k) b (without a (freed s k)) (all-without' (λ q. q ≢ k) a (freed s k) freed-apart))

  -- a number with no parent but perhaps k, other than k, is in the queue once k is freed
  freed-has : (q : ℕ) → 0 < q → q ≢ k → q < length s.table → ((p : ℕ) → p ≢ k → is_child q (node s.table p) ≡ false)
      → has q (freed s k) ≡ true
  unfolding freed rest
  freed-has q r d l free = go (is_child q (node s.table k)) refl
    where
      free-rest : Parentless rest q
      free-rest p = ⊎_elim (λ (e : p ≡ k). ⊎_elim
          (λ (z : length s.table ≤ k). ap (λ (ns : List Node). is_child q (node ns p)) (set_out s.table k no_node z)
          ∙ ap (is_child q) (get_or-eq_default s.table no_node (omega (arith, z, e))) ∙ none-child)
          (λ z. ap (λ (j : ℕ). is_child q (node rest j)) e ∙ ap (is_child q) (get_or-set_same s.table k no_node no_node z)
          ∙ none-child) (decide-le (length s.table) k))
          (λ (d : p ≢ k). ap (is_child q) (get_or-set_other s.table k p no_node no_node d) ∙ free p d) (decide_eq p k)
        where
          none-child : is_child q no_node ≡ false
          none-child = or-false (ne_eqb 0 q (λ z. omega (arith, z, r))) (ne_eqb 0 q (λ z. omega (arith, z, r)))

      go : (u : Bool) → is_child q (node s.table k) ≡ u
          → has q (orphaned rest (node s.table k).second (orphaned rest (node s.table k).first (without k s.queue)))
          ≡ true
      go true e = ⊎_elim
          (λ (z : (node s.table k).first ≡ q). orphaned-has rest (node s.table k).second _ q (subst⁻¹
          (λ (j : ℕ). has q (orphaned rest j (without k s.queue)) ≡ true) z
          (orphaned-joins rest q (without k s.queue) r free-rest)))
          (λ (z : (node s.table k).second ≡ q). subst⁻¹
          (λ (j : ℕ). has q (orphaned rest j (orphaned rest (node s.table k).first (without k s.queue))) ≡ true) z
          (orphaned-joins rest q _ r free-rest))
          (child-either q (node s.table k) e)
      go false e =
          orphaned-has rest (node s.table k).second _ q
          (orphaned-has rest (node s.table k).first _ q (has-without q k s.queue d (qd.complete q r l
          (λ p. ⊎_elim (λ (z : p ≡ k). ap (λ (j : ℕ). is_child q (node s.table j)) z ∙ e) (λ (z : p ≢ k). free p z)
          (decide_eq p k)))))

  stored-complete : (q : ℕ) → 0 < q → q < length (stored s k i a b t).table → Parentless (stored s k i a b t).table q
      → has q (stored s k i a b t).queue ≡ true
  unfolding stored
  stored-complete q r l free = ⊎_elim (λ (e : q ≡ k). at-k e) (λ (d : q ≢ k). kept_in d) (decide_eq q k)
    where
      new : is_child q (new_node i a b t (suc (stamp s.table k))) ≡ false
      new = ap (is_child q) (sym (stored_same s k i a b t h able)) ∙ free k

      at-k : q ≡ k → has q (stored s k i a b t).queue ≡ true
      at-k e =
          subst⁻¹ (λ (z : ℕ). has z (without b (without a (freed s k)) ++ (k ∷ [])) ≡ true) e
          (has_last k (without b (without a (freed s k))))

      kept_in : q ≢ k → has q (stored s k i a b t).queue ≡ true
      kept_in d = has-append q (without b (without a (freed s k))) (k ∷ [])
          (has-without q b (without a (freed s k)) (λ z. eqb-false b q (or_r (eqb a q) (eqb b q) new) (sym z))
          (has-without q a (freed s k) (λ z. eqb-false a q (or_l (eqb a q) (eqb b q) new) (sym z))
          (freed-has q r d (placed-known s.table k (new_node i a b t (suc (stamp s.table k))) q able.room l d)
          (λ p z. ap (is_child q) (sym (stored_other s k i a b t h able p z)) ∙ free p))))

  pub stored-queued : Queued (stored s k i a b t)
  stored-queued = record { once = stored-once; complete = stored-complete }

-- ---- Kept by every rule ----------------------------------------------------------------------

module _ (size i : ℕ) (s₀ s₁ s : State) (a b : Part) (h : Halves i s₀ s₁ s a b) (qd : Queued s) where
  by_rule-queued : (both same barred : Bool) (known new : ℕ) → new_number size s a b ≡ new
      → Queued (by_rule both same barred known new i a b s).state
  unfolding by_rule
  by_rule-queued true same barred known new e = qd
  by_rule-queued false true barred known new e = qd
  by_rule-queued false false true known new e = qd
  by_rule-queued false false false (suc k) new e = qd
  by_rule-queued false false false zero (suc k) e =
      stored-queued s (suc k) i (child a.ref) (child b.ref) (edge a b) h.sound
      (next-able size s (child a.ref) (child b.ref) k h.sound (a-known i s₀ s₁ s a b h) (b-known i s₀ s₁ s a b h) e) qd
  by_rule-queued false false false zero zero e = qd

  pub meet-queued : Queued (meet size i a b s).state
  unfolding meet
  meet-queued = by_rule-queued (both_terminal a b) (same_entry s a b) (half_barred s a b) (found s i a b) (new_number size s a b) refl

pub part-queued : (size m i at : ℕ) (f : ℕ → Bool) (s : State) → Sound s → Queued s → Queued (part size m i at f s).state
unfolding part
part-queued size zero i at f s h q = q
part-queued size (suc m) i at f s h q =
    let a = first_half size m i at f s in
    let b = second_half size m i at f s in
    meet-queued size i s a.state b.state a.part b.part (part-halves size m i at f s h)
    (part-queued size m (suc i) (at + 2 ^ m) f a.state (part-good size m (suc i) at f s h).sound
    (part-queued size m (suc i) at f s h q))

pub start-queued : Queued start
start-queued = record { once = tt; complete = λ q r l. absurd (omega arith) }

-- The queue after a part, from the start: no number twice, and in it exactly the stored nodes that are no stored node's child
pub queue-exact : (size n : ℕ) (f : ℕ → Bool) →
    let s = (part size n 1 0 f start).state in
    Distinct s.queue
    × ((q : ℕ) → (has q s.queue ≡ true) ↔ ((0 < q) × (q < length s.table) × (has_parent s.table q ≡ false)))
queue-exact size n f =
    let s = (part size n 1 0 f start).state in
    let so = (part-good size n 1 0 f start start-sound).sound in
    let qd = part-queued size n 1 0 f start start-sound start-queued in (
      qd.once,
      λ q. (
        (λ e. let z = all-has (Free s.table) q s.queue so.waiting e in
            (z.real, z.known, has_parent-all s.table q z.alone)),
        (λ h. qd.complete q h.0 h.1 (parentless s.table q h.0 h.2)),
      ),
    )
