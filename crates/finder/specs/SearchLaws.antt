-- The search finds the least word that is yes: the records say so of the words below. Assumes nothing.
use Rattle.std.specs.Prelude.{◌≡◌, Bool, cond, not, ◌||◌, List, ◌∷◌, ltb, eqb}
use Rattle.std.proofs.Math.Path.{refl, sym, ap}
use Rattle.std.proofs.Common.{ap₂, ◌∙◌, subst, true≢false, arith, ne_eqb, eq-eqb, lt-ltb, le-ltb, ltb-true, ltb-false}
use Rattle.std.proofs.Math.Logic.{⊎_elim}
use Rattle.std.proofs.Math.Bool.{true, false}
use Rattle.std.proofs.lemmas.Bool.{false≢true}
use Prim.Native.Nat.{ℕ, zero, suc, ◌+◌, ◌-◌, ◌<◌, ◌≤◌, ◌^◌}
use Rattle.theory_lists.specs.Lists.{differ, decide-le, decide_eq}
use Rattle.theory_reading.specs.Nodes.{Node, is_child}
use Rattle.theory_reading.specs.Deciding.{options, Decision, undecided, decided, complemented}
use Rattle.theory_reading.specs.Calls.{verdict_of, is_admitted}
use Rattle.theory_reading.specs.Words.{options-low, options-high}
use Rattle.theory_reading.proofs.Lasting.{Ordered}
use Rattle.theory_reading.specs.TableWalk.{table_walk}
use Rattle.node_records.specs.Edges.{first_edge, second_edge}
use Rattle.node_records.specs.Words.{some_yes, first_child, second_child, some_below}
use Rattle.node_records.specs.declared.Edge.{Edge}
use Rattle.node_records.specs.declared.NodeRecord.{NodeRecord}
use Rattle.work_table.specs.Table.{get_in, get-above}
use Rattle.work_table.specs.TableLaws.{bit-back, record_node, table_of, table-node, RightAt, Worded}
use Rattle.work_table.specs.WalkLaws.{edge_walk, walk-terminal, walk-over, walk_first, walk-second}
use Rattle.finder.specs.LeastDecided.{is_value}
use Rattle.finder.specs.SearchSteps.{least-below}
use Rattle.finder.specs.Search.{turned_edge, some_in, first_in, second_in, least_in, start_in, halves_to, from_in}

-- v is the least number from w on, below c, with p; c: there is none
pub record Least (p : ℕ → Bool) (w c v : ℕ) : Type 0 where
  pub low : w ≤ v
  pub most : v ≤ c
  pub before : (u : ℕ) → w ≤ u → u < v → p u ≡ false
  pub here : v < c → p v ≡ true

-- ---- The children of a node by its record ----------------------------------------------------

module _ (x : NodeRecord) (i : ℕ) (e : Edge) where
  -- the terminal is its own child
  first-terminal : e.number ≡ 0 → first_edge x i e ≡ e
  first-terminal n = rw (eq-eqb e.number 0 n) refl

  second-terminal : e.number ≡ 0 → second_edge x i e ≡ e
  second-terminal n = rw (eq-eqb e.number 0 n) refl

  -- and so inside brackets is a number
  first-skips : (e.number ≡ 0 → ⊥) → i < x.level → first_edge x i e ≡ e
  first-skips n l = rw (ne_eqb e.number 0 n, lt-ltb i x.level l) refl

  second-skips : (e.number ≡ 0 → ⊥) → i < x.level → second_edge x i e ≡ e
  second-skips n l = rw (ne_eqb e.number 0 n, lt-ltb i x.level l) refl

  first_goes : (e.number ≡ 0 → ⊥) → x.level ≤ i → first_edge x i e ≡ first_child x e.complement
  first_goes n l = rw (ne_eqb e.number 0 n, le-ltb i x.level l) refl

  second-goes : (e.number ≡ 0 → ⊥) → x.level ≤ i → second_edge x i e ≡ second_child x e.complement
  second-goes n l = rw (ne_eqb e.number 0 n, le-ltb i x.level l) refl

  -- of a number its record says it
  some_number : (e.number ≡ 0 → ⊥) → some_yes x e ≡ cond e.complement (not (eqb x.refuses 0)) (not (eqb x.admits 0))
  some_number n = rw (ne_eqb e.number 0 n) refl

  some-terminal : e.number ≡ 0 → some_yes x e ≡ e.complement
  some-terminal n = rw (eq-eqb e.number 0 n) refl

-- ---- The search ------------------------------------------------------------------------------

-- t: a lent table of z numbers, as reading keeps it
module _ (t : List NodeRecord) (z : ℕ) (held : Worded t z) (ordered : Ordered (table_of t z)) where
  -- the word v of the node of level i, m options below it, that e stands for, is yes
  abbrev pub yes : ℕ → Edge → ℕ → ℕ → Bool
  yes i e m v = is_admitted (verdict_of (edge_walk (table_of t z) i e (options m v)))

  -- every word is decided, and the number lies no higher than the node
  pub record Sits (i : ℕ) (e : Edge) (m : ℕ) : Type 0 where
    pub inside : 1 ≤ i
    pub deep : (e.number ≡ 0 → ⊥) → i ≤ (get_in t z e.number).level
    pub whole : (v : ℕ) → v < 2 ^ m → (d : Bool) × (edge_walk (table_of t z) i e (options m v) ≡ decided d)

  -- ---- The halves of a node

  module _ (i : ℕ) (e : Edge) where
    abbrev x : NodeRecord
    x = get_in t z e.number

    -- a walk goes on in the child that the option picks
    first_walk : (os : List Bool) → edge_walk (table_of t z) i e (false ∷ os) ≡ edge_walk (table_of t z) (i + 1) (first_in t z i e) os
    first_walk os = ⊎_elim
        (λ (h : e.number ≡ 0). sym (walk-terminal (table_of t z) i e (false ∷ os) h)
        ∙ walk-terminal (table_of t z) (i + 1) e os h
        ∙ ap (λ (f : Edge). edge_walk (table_of t z) (i + 1) f os) (sym (first-terminal x i e h)))
        (λ (h : e.number ≡ 0 → ⊥). walk_first t z i e x h refl os)
        (decide_eq e.number 0)

    second_walk : (os : List Bool) → edge_walk (table_of t z) i e (true ∷ os) ≡ edge_walk (table_of t z) (i + 1) (second_in t z i e) os
    second_walk os = ⊎_elim
        (λ (h : e.number ≡ 0). sym (walk-terminal (table_of t z) i e (true ∷ os) h)
        ∙ walk-terminal (table_of t z) (i + 1) e os h
        ∙ ap (λ (f : Edge). edge_walk (table_of t z) (i + 1) f os) (sym (second-terminal x i e h)))
        (λ (h : e.number ≡ 0 → ⊥). walk-second t z i e x h refl os)
        (decide_eq e.number 0)

    -- so by words
    low-walk : (m v : ℕ) → v < 2 ^ m → edge_walk (table_of t z) i e (options (suc m) v) ≡ edge_walk (table_of t z) (i + 1) (first_in t z i e) (options m v)
    low-walk m v h = ap (edge_walk (table_of t z) i e) (options-low m v h) ∙ first_walk (options m v)

    high-walk : (m v : ℕ) → 2 ^ m ≤ v
        → edge_walk (table_of t z) i e (options (suc m) v) ≡ edge_walk (table_of t z) (i + 1) (second_in t z i e) (options m (v - 2 ^ m))
    high-walk m v h = ap (edge_walk (table_of t z) i e) (options-high m v h) ∙ second_walk (options m (v - 2 ^ m))

    low-yes : (m v : ℕ) → v < 2 ^ m → yes i e (suc m) v ≡ yes (i + 1) (first_in t z i e) m v
    low-yes m v h = ap (λ (d : Decision). is_admitted (verdict_of d)) (low-walk m v h)

    high-yes : (m v : ℕ) → 2 ^ m ≤ v → yes i e (suc m) v ≡ yes (i + 1) (second_in t z i e) m (v - 2 ^ m)
    high-yes m v h = ap (λ (d : Decision). is_admitted (verdict_of d)) (high-walk m v h)

  -- ---- What a record says of its halves

  -- twice the same
  or_same : (b : Bool) → b ≡ (b || b)
  or_same true = refl
  or_same false = refl

  -- a record's word for the complement c is what its children say
  said : (k : ℕ) (c : Bool) → (k ≡ 0 → ⊥) → 1 ≤ (get_in t z k).level → let x = get_in t z k in
      cond c (not (eqb x.refuses 0)) (not (eqb x.admits 0)) ≡ some_below x (get_in t z x.first) (get_in t z x.second) c
  said k c n l = go c
    where
      small : k ≤ z
      small = ⊎_elim (λ (h : k ≤ z). h) (λ (h : z < k). absurd (omega (arith, l, ap (λ (y : NodeRecord). y.level) (get-above t z k h)))) (decide-le k z)

      right : RightAt (get_in t z) k
      right = held k n small (λ h. omega (arith, l, h))

      go : (c : Bool) → let x = get_in t z k in
          cond c (not (eqb x.refuses 0)) (not (eqb x.admits 0)) ≡ some_below x (get_in t z x.first) (get_in t z x.second) c
      go true = ap (λ (a : ℕ). not (eqb a 0)) right.1 ∙ bit-back _
      go false = ap (λ (a : ℕ). not (eqb a 0)) right.0 ∙ bit-back _

  -- some word is yes exactly if some word of a half is
  some-halves : (i : ℕ) (e : Edge) (m : ℕ) → Sits i e m → some_in t z e ≡ (some_in t z (first_in t z i e) || some_in t z (second_in t z i e))
  some-halves i e m h = ⊎_elim terminal (λ n. ⊎_elim (goes n) (skips n) (decide-le (get_in t z e.number).level i)) (decide_eq e.number 0)
    where
      same : first_in t z i e ≡ e → second_in t z i e ≡ e → some_in t z e ≡ (some_in t z (first_in t z i e) || some_in t z (second_in t z i e))
      same a b = or_same (some_in t z e) ∙ sym (ap₂ (λ (f g : Edge). some_in t z f || some_in t z g) a b)

      terminal : e.number ≡ 0 → some_in t z e ≡ (some_in t z (first_in t z i e) || some_in t z (second_in t z i e))
      terminal n = same (first-terminal (get_in t z e.number) i e n) (second-terminal (get_in t z e.number) i e n)

      skips : (e.number ≡ 0 → ⊥) → i < (get_in t z e.number).level
          → some_in t z e ≡ (some_in t z (first_in t z i e) || some_in t z (second_in t z i e))
      skips n l = same (first-skips (get_in t z e.number) i e n l) (second-skips (get_in t z e.number) i e n l)

      goes : (e.number ≡ 0 → ⊥) → (get_in t z e.number).level ≤ i
          → some_in t z e ≡ (some_in t z (first_in t z i e) || some_in t z (second_in t z i e))
      goes n l =
          some_number (get_in t z e.number) i e n
          ∙ said e.number e.complement n (omega (arith, h.inside, h.deep n))
          ∙ sym (ap₂ (λ (f g : Edge). some_in t z f || some_in t z g) (first_goes (get_in t z e.number) i e n l)
          (second-goes (get_in t z e.number) i e n l))

  -- ---- The children sit below

  -- a child's number lies below its parent's
  child-deep : (i : ℕ) (e : Edge) (c : ℕ) → 1 ≤ i → (e.number ≡ 0 → ⊥) → i ≤ (get_in t z e.number).level
      → is_child c (record_node (get_in t z e.number)) ≡ true → (c ≡ 0 → ⊥) → i + 1 ≤ (get_in t z c).level
  child-deep i e c p n l k q =
      let o = ordered e.number c (omega (arith, p, l, ap (λ (y : Node). y.level) (table-node t z e.number)))
      (ap (is_child c) (table-node t z e.number) ∙ k) (omega (arith, q)) in
      omega (arith, o, l, ap (λ (y : Node). y.level) (table-node t z e.number), ap (λ (y : Node). y.level) (table-node t z c))

  -- which holds of either child f
  half-deep : (i : ℕ) (e f : Edge) (c : ℕ) → 1 ≤ i → ((e.number ≡ 0 → ⊥) → i ≤ (get_in t z e.number).level)
      → (e.number ≡ 0 → f ≡ e) → ((e.number ≡ 0 → ⊥) → i < (get_in t z e.number).level → f ≡ e)
      → ((e.number ≡ 0 → ⊥) → (get_in t z e.number).level ≤ i → f.number ≡ c)
      → is_child c (record_node (get_in t z e.number)) ≡ true
      → (f.number ≡ 0 → ⊥) → i + 1 ≤ (get_in t z f.number).level
  half-deep i e f c p l same skip go q r =
      ⊎_elim terminal (λ n. ⊎_elim (goes n) (skips n) (decide-le (get_in t z e.number).level i)) (decide_eq e.number 0)
    where
      terminal : e.number ≡ 0 → i + 1 ≤ (get_in t z f.number).level
      terminal n = absurd (r (ap (λ (g : Edge). g.number) (same n) ∙ n))

      skips : (e.number ≡ 0 → ⊥) → i < (get_in t z e.number).level → i + 1 ≤ (get_in t z f.number).level
      skips n h = subst (λ (g : Edge). i + 1 ≤ (get_in t z g.number).level) (sym (skip n h)) (omega (arith, h))

      goes : (e.number ≡ 0 → ⊥) → (get_in t z e.number).level ≤ i → i + 1 ≤ (get_in t z f.number).level
      goes n h = subst (λ (j : ℕ). i + 1 ≤ (get_in t z j).level) (sym (go n h)) (child-deep i e c p n (l n) q (λ j. r (go n h ∙ j)))

  or_left : (a b : Bool) → a ≡ true → (a || b) ≡ true
  or_left a b h = rw h refl

  or_right : (a b : Bool) → b ≡ true → (a || b) ≡ true
  or_right true b h = refl
  or_right false b h = h

  first-sits : (i : ℕ) (e : Edge) (m : ℕ) → Sits i e (suc m) → Sits (i + 1) (first_in t z i e) m
  first-sits i e m h = record {
    inside = omega (arith, h.inside);
    deep = half-deep i e (first_in t z i e) (get_in t z e.number).first h.inside h.deep (first-terminal (get_in t z e.number) i e)
        (first-skips (get_in t z e.number) i e) (λ n l. ap (λ (g : Edge). g.number) (first_goes (get_in t z e.number) i e n l))
        (or_left _ (eqb (get_in t z e.number).second (get_in t z e.number).first)
        (eq-eqb (get_in t z e.number).first (get_in t z e.number).first refl));
    whole = λ v l. let w = h.whole v (omega (arith, l)) in (w.0, sym (low-walk i e m v l) ∙ w.1);
  }

  second-sits : (i : ℕ) (e : Edge) (m : ℕ) → Sits i e (suc m) → Sits (i + 1) (second_in t z i e) m
  second-sits i e m h = record {
    inside = omega (arith, h.inside);
    deep = half-deep i e (second_in t z i e) (get_in t z e.number).second h.inside h.deep (second-terminal (get_in t z e.number) i e)
        (second-skips (get_in t z e.number) i e) (λ n l. ap (λ (g : Edge). g.number) (second-goes (get_in t z e.number) i e n l))
        (or_right (eqb (get_in t z e.number).first (get_in t z e.number).second) _
        (eq-eqb (get_in t z e.number).second (get_in t z e.number).second refl));
    whole = λ v l.
        let w = h.whole (v + 2 ^ m) (omega (arith, l)) in
        let d : v + 2 ^ m - 2 ^ m ≡ v = omega arith in (
          w.0,
          ap (λ (k : ℕ). edge_walk (table_of t z) (i + 1) (second_in t z i e) (options m k)) (sym d)
              ∙ sym (high-walk i e m (v + 2 ^ m) (omega arith)) ∙ w.1,
        );
  }

  -- ---- One word

  -- with no option below, the number is the terminal
  one-terminal : (i : ℕ) (e : Edge) → Sits i e 0 → e.number ≡ 0
  one-terminal i e h = ⊎_elim (λ (n : e.number ≡ 0). n)
      (λ (n : e.number ≡ 0 → ⊥). absurd (never (h.whole 0 (omega arith)).0 (walk-over (table_of t z) i e 0 0 n refl ∙ (h.whole 0 (omega arith)).1)))
      (decide_eq e.number 0)
    where
      is_decided : Decision → Bool
      is_decided undecided = false
      is_decided (decided d) = true

      never : (d : Bool) → undecided ≡ decided d → ⊥
      never d q = false≢true (ap is_decided q)

  one-yes : (i : ℕ) (e : Edge) (v : ℕ) → Sits i e 0 → yes i e 0 v ≡ some_in t z e
  one-yes i e v h =
      let n = one-terminal i e h in
      ap (λ (d : Decision). is_admitted (verdict_of d)) (sym (walk-terminal (table_of t z) i e (options 0 v) n))
      ∙ by e.complement
      ∙ sym (some-terminal (get_in t z e.number) i e n)
    where
      by : (b : Bool) → is_admitted (verdict_of (decided b)) ≡ b
      by true = refl
      by false = refl

  -- ---- None

  or-none : (a b : Bool) → (a || b) ≡ false → (a ≡ false) × (b ≡ false)
  or-none true b h = absurd (true≢false h)
  or-none false b h = (refl, h)

  -- WHERE THE RECORD SAYS THAT NO WORD IS YES, none is.
  pub none-yes : (m i : ℕ) (e : Edge) → Sits i e m → some_in t z e ≡ false → (v : ℕ) → v < 2 ^ m → yes i e m v ≡ false
  none-yes zero i e h n v l = one-yes i e v h ∙ n
  none-yes (suc m) i e h n v l =
      let both = or-none (some_in t z (first_in t z i e)) (some_in t z (second_in t z i e)) (sym (some-halves i e (suc m) h) ∙ n) in
      ⊎_elim
      (λ (k : 2 ^ m ≤ v). high-yes i e m v k ∙ none-yes m (i + 1) (second_in t z i e) (second-sits i e m h) both.1 (v - 2 ^ m) (omega (arith, l, k)))
      (λ (k : v < 2 ^ m). low-yes i e m v k ∙ none-yes m (i + 1) (first_in t z i e) (first-sits i e m h) both.0 v k)
      (decide-le (2 ^ m) v)

  -- ---- Some

  module _ (m i : ℕ) (e : Edge) (w : ℕ) where
    abbrev half : ℕ
    half = 2 ^ m

    -- a least word of the first half is one of the node
    low-least : (v : ℕ) → v < half → Least (yes (i + 1) (first_in t z i e) m) w half v → Least (yes i e (suc m)) w (2 ^ suc m) v
    low-least v l h = record {
      low = h.low;
      most = omega (arith, l);
      before = λ u a b. low-yes i e m u (omega (arith, b, l)) ∙ h.before u a b;
      here = λ _. low-yes i e m v l ∙ h.here l;
    }

    -- one of the second half too, where the first half has none from w on
    high-least : (a v : ℕ) → w ≤ half + a → ((u : ℕ) → w ≤ u → u < half + a → yes i e (suc m) u ≡ false)
        → Least (yes (i + 1) (second_in t z i e) m) a half v → Least (yes i e (suc m)) w (2 ^ suc m) (half + v)
    high-least a v l none h = record {
      low = omega (arith, l, h.low);
      most = omega (arith, h.most);
      before = λ u p q. ⊎_elim
          (λ (k : half + a ≤ u). high-yes i e m u (omega (arith, k)) ∙ h.before (u - half) (omega (arith, k)) (omega (arith, k, q)))
          (λ (k : u < half + a). none u p k) (decide-le (half + a) u);
      here = λ k.
          let d : half + v - half ≡ v = omega arith in
          high-yes i e m (half + v) (omega arith) ∙ ap (yes (i + 1) (second_in t z i e) m) d ∙ h.here (omega (arith, k));
    }

  -- WHERE IT SAYS THAT SOME WORD IS, the search finds the least.
  pub least-yes : (m i : ℕ) (e : Edge) → Sits i e m → some_in t z e ≡ true → Least (yes i e m) 0 (2 ^ m) (least_in m t z i e)
  unfolding least_in
  least-yes zero i e h s = record {
    low = omega arith;
    most = omega arith;
    before = λ u a b. absurd (omega (arith, b));
    here = λ _. one-yes i e 0 h ∙ s;
  }
  least-yes (suc m) i e h s = by (least-yes m (i + 1) (first_in t z i e) (first-sits i e m h))
      (least-yes m (i + 1) (second_in t z i e) (second-sits i e m h)) (some_in t z (first_in t z i e)) refl
    where
      by : (some_in t z (first_in t z i e) ≡ true → Least (yes (i + 1) (first_in t z i e) m) 0 (2 ^ m) (least_in m t z (i + 1) (first_in t z i e)))
          → (some_in t z (second_in t z i e) ≡ true → Least (yes (i + 1) (second_in t z i e) m) 0 (2 ^ m) (least_in m t z (i + 1) (second_in t z i e)))
          → (b : Bool) → some_in t z (first_in t z i e) ≡ b
          → Least (yes i e (suc m)) 0 (2 ^ suc m) (cond b (least_in m t z (i + 1) (first_in t z i e)) (2 ^ m + least_in m t z (i + 1) (second_in t z i e)))
      by first second true p = low-least m i e 0 _ (least-below m t z (i + 1) (first_in t z i e)) (first p)
      by first second false p =
          let q : some_in t z (second_in t z i e) ≡ true
          = ap (λ (b : Bool). b || some_in t z (second_in t z i e)) (sym p) ∙ sym (some-halves i e (suc m) h) ∙ s in
          high-least m i e 0 0 _ (omega arith)
          (λ u a b. low-yes i e m u (omega (arith, b)) ∙ none-yes m (i + 1) (first_in t z i e) (first-sits i e m h) p u (omega (arith, b)))
          (second q)

  -- no word from w on
  none-least : (p : ℕ → Bool) (w c : ℕ) → w ≤ c → ((v : ℕ) → v < c → p v ≡ false) → Least p w c c
  none-least p w c l h = record { low = l; most = omega arith; before = λ u a b. h u b; here = λ k. absurd (omega (arith, k)) }

  start-yes : (m i : ℕ) (e : Edge) → Sits i e m → Least (yes i e m) 0 (2 ^ m) (start_in m t z i e)
  start-yes m i e h = by (some_in t z e) refl
    where
      by : (b : Bool) → some_in t z e ≡ b → Least (yes i e m) 0 (2 ^ m) (cond b (least_in m t z i e) (2 ^ m))
      by true s = least-yes m i e h s
      by false s = none-least (yes i e m) 0 (2 ^ m) (omega arith) (none-yes m i e h s)

  -- THE SEARCH FROM A WORD ON finds the least word that is yes, or 2^m.
  pub from-yes : (m i : ℕ) (e : Edge) (w : ℕ) → Sits i e m → w < 2 ^ m → Least (yes i e m) w (2 ^ m) (from_in m t z i e w)
  unfolding from_in
  from-yes zero i e w h l = by (some_in t z e) refl
    where
      by : (b : Bool) → some_in t z e ≡ b → Least (yes i e 0) w 1 (cond b w 1)
      by true s = record {
        low = omega arith;
        most = omega (arith, l);
        before = λ u p q. absurd (omega (arith, p, q));
        here = λ _. one-yes i e w h ∙ s;
      }
      by false s = none-least (yes i e 0) w 1 (omega (arith, l)) (λ v k. one-yes i e v h ∙ s)
  from-yes (suc m) i e w h l = by (from-yes m (i + 1) (first_in t z i e) w (first-sits i e m h))
      (from-yes m (i + 1) (second_in t z i e) (w - 2 ^ m) (second-sits i e m h)) (some_in t z e) refl (ltb w (2 ^ m)) refl
    where
      -- in the first half and, if that has none, in the second
      lower : w < 2 ^ m → Least (yes (i + 1) (first_in t z i e) m) w (2 ^ m) (from_in m t z (i + 1) (first_in t z i e) w)
          → Least (yes i e (suc m)) w (2 ^ suc m) (halves_to (2 ^ m) (from_in m t z (i + 1) (first_in t z i e) w)
          (start_in m t z (i + 1) (second_in t z i e)))
      lower k q = ⊎_elim
          (λ (j : 2 ^ m ≤ from_in m t z (i + 1) (first_in t z i e) w).
          rw (le-ltb (from_in m t z (i + 1) (first_in t z i e) w) (2 ^ m) j)
          (high-least m i e w 0 _ (omega (arith, k)) (λ u a b. low-yes i e m u (omega (arith, b)) ∙ q.before u a (omega (arith, b, j)))
          (start-yes m (i + 1) (second_in t z i e) (second-sits i e m h))))
          (λ (j : from_in m t z (i + 1) (first_in t z i e) w < 2 ^ m).
          rw (lt-ltb (from_in m t z (i + 1) (first_in t z i e) w) (2 ^ m) j) (low-least m i e w _ j q))
          (decide-le (2 ^ m) (from_in m t z (i + 1) (first_in t z i e) w))

      by : (w < 2 ^ m → Least (yes (i + 1) (first_in t z i e) m) w (2 ^ m) (from_in m t z (i + 1) (first_in t z i e) w))
          → (w - 2 ^ m < 2 ^ m → Least (yes (i + 1) (second_in t z i e) m) (w - 2 ^ m) (2 ^ m) (from_in m t z (i + 1) (second_in t z i e) (w - 2 ^ m)))
          → (b : Bool) → some_in t z e ≡ b → (c : Bool) → ltb w (2 ^ m) ≡ c
          → Least (yes i e (suc m)) w (2 ^ suc m)
          (cond b (cond c (halves_to (2 ^ m) (from_in m t z (i + 1) (first_in t z i e) w) (start_in m t z (i + 1) (second_in t z i e)))
          (2 ^ m + from_in m t z (i + 1) (second_in t z i e) (w - 2 ^ m))) (2 ^ suc m))
      by first second false s c p = none-least (yes i e (suc m)) w (2 ^ suc m) (omega (arith, l)) (none-yes (suc m) i e h s)
      by first second true s true p = let k = ltb-true w (2 ^ m) p in lower k (first k)
      by first second true s false p =
          let k : 2 ^ m ≤ w = ltb-false w (2 ^ m) p in
          high-least m i e w (w - 2 ^ m) _ (omega (arith, k)) (λ u a b. absurd (omega (arith, a, b, k))) (second (omega (arith, l, k)))

  -- ---- Turned about

  turned-decision : (b c : Bool) (d : Decision) → complemented (differ b c) d ≡ complemented b (complemented c d)
  turned-decision b c undecided = refl
  turned-decision false c (decided d) = go (complemented c (decided d))
    where
      go : (d : Decision) → d ≡ complemented false d
      go undecided = refl
      go (decided d) = refl
  turned-decision true false (decided d) = refl
  turned-decision true true (decided true) = refl
  turned-decision true true (decided false) = refl

  turned_walk : (b : Bool) (i : ℕ) (e : Edge) (os : List Bool) → edge_walk (table_of t z) i (turned_edge b e) os
      ≡ complemented b (edge_walk (table_of t z) i e os)
  turned_walk b i e os = turned-decision b e.complement (table_walk (table_of t z) i e.number os)

  -- The number lies where it does, and every word is decided still.
  pub turned-sits : (b : Bool) (i : ℕ) (e : Edge) (m : ℕ) → Sits i e m → Sits i (turned_edge b e) m
  turned-sits b i e m h = record {
    inside = h.inside;
    deep = h.deep;
    whole = λ v l. let w = h.whole v l in whole w.0 (turned_walk b i e (options m v) ∙ ap (complemented b) w.1);
  }
    where
      go : (b d : Bool) → complemented b (decided d) ≡ decided (differ b d)
      go true d = refl
      go false d = refl

      whole : {x : Decision} (d : Bool) → x ≡ complemented b (decided d) → (d : Bool) × (x ≡ decided d)
      whole d e = (differ b d, e ∙ go b d)

  -- THE WORDS THAT ARE v are those that are yes, turned about if v is no.
  pub turned-yes : (a : Bool) (i : ℕ) (e : Edge) (m v : ℕ) → yes i (turned_edge (not a) e) m v ≡ is_value a (edge_walk (table_of t z) i e (options m v))
  turned-yes a i e m v = ap (λ (d : Decision). is_admitted (verdict_of d)) (turned_walk (not a) i e (options m v))
      ∙ go a (edge_walk (table_of t z) i e (options m v))
    where
      go : (a : Bool) (d : Decision) → is_admitted (verdict_of (complemented (not a) d)) ≡ is_value a d
      go a undecided = refl
      go true (decided true) = refl
      go true (decided false) = refl
      go false (decided true) = refl
      go false (decided false) = refl
