-- The queue of UniqueTable once a number is taken from its node, and the counts of parents: in the queue are those with no parent left,
-- and the counts are those of the table without that node. Assumes nothing.
use Rattle.std.specs.Prelude.{◌≡◌, refl, ◌≢◌, Bool, ◌&&◌, ◌||◌, List, [], ◌∷◌, ◌++◌}
use Rattle.std.proofs.Math.Path.{sym, ap, ap₂}
use Rattle.std.proofs.Common.{◌∙◌, ⊎_elim, true≢false, arith, eqb-true, eq-eqb, ne_eqb}
use Rattle.std.proofs.Math.Bool.{true, false, not}
use Rattle.std.proofs.lemmas.Bool.{false≢true, eqb-false}
use Prim.Native.Nat.{ℕ, zero, suc, ◌+◌, ◌≤◌, ◌<◌}
use Rattle.std.proofs.Math.Dec.{eqb}
use Rattle.std.proofs.Math.ListN.{length, set, length-set, length-append, get_or-eq_default}
use Rattle.std.proofs.Math.Seq.{set_out}
use Rattle.theory_lists.specs.Lists.{or_l, or_r, or_right, or-false, not-twice, is_false, bit, decide_eq, decide-le, has, has_last, all-has}
use Rattle.theory_reading.specs.Nodes.{Node, no_node, node, has_parent}
use Rattle.theory_reading.specs.ParentCounts.{edges, parents, parents-none, parents-set, parents-add, edges_none}
use Rattle.theory_writing.specs.UniqueTable.{State, without, orphaned, freed, placed}
use Rattle.theory_writing.specs.Storing.{Parentless, has_parent-none, Free, Sound}
use Rattle.theory_writing.specs.Queue.{Queued, has_parent-all}
use Rattle.theory_writing.specs.Links.{among-append, without-absent, among-without-same, among-without}

-- ---- Tests -----------------------------------------------------------------------------------

-- a test or one that fails; a test twice
or-none : (a : Bool) → a ≡ (a || false)
or-none true = refl
or-none false = refl

or_same : (a : Bool) → (a || a) ≡ a
or_same true = refl
or_same false = refl

-- ---- Counts of parents -----------------------------------------------------------------------

-- number k is taken from its node
pub parents-rest : (ns : List Node) (k c : ℕ) → 0 < c → parents (set ns k no_node) c + edges c (node ns k) ≡ parents ns c
parents-rest ns k c r = ⊎_elim
    (λ (l : length ns ≤ k). ap₂ (λ (xs : List Node) (x : Node). parents xs c + edges c x) (set_out ns k no_node l)
    (get_or-eq_default ns no_node l) ∙ omega (arith, edges_none c (λ z. omega (arith, r, z))))
    (λ (l : k < length ns). omega (arith, parents-set ns k c no_node l, edges_none c (λ z. omega (arith, r, z))))
    (decide-le (length ns) k)

-- and gets a new one
pub parents-placed : (ns : List Node) (k c : ℕ) (x : Node) → k ≤ length ns → 0 < c
    → parents (placed ns k x) c ≡ parents (set ns k no_node) c + edges c x
unfolding placed
parents-placed ns k c x h r = go (eqb k (length ns)) refl
  where
    go : (t : Bool) → eqb k (length ns) ≡ t
        → parents (elim t [ true ↦ ns ++ (x ∷ []) | false ↦ set ns k x ]) c ≡ parents (set ns k no_node) c + edges c x
    go true e =
        parents-add ns c x ∙ ap (λ (xs : List Node). parents xs c + edges c x)
        (sym (set_out ns k no_node (omega (arith, eqb-true k (length ns) e))))
    go false e =
        omega (arith, parents-set ns k c x (omega (arith, h, eqb-false k (length ns) e)), parents-rest ns k c r)

-- ---- Numbers given out -----------------------------------------------------------------------

module _ (ns : List Node) (k : ℕ) (x : Node) where
  -- one more, if k is the next
  pub length-next : k ≡ length ns → length (placed ns k x) ≡ suc (length ns)
  unfolding placed
  length-next e = go (eqb k (length ns)) (eq-eqb k (length ns) e)
    where
      go : (t : Bool) → t ≡ true → length {A = Node} (elim t [ true ↦ ns ++ (x ∷ []) | false ↦ set ns k x ]) ≡ suc (length ns)
      go true d = omega (arith, length-append ns (x ∷ []))
      go false d = absurd (false≢true d)

  -- as many, if it is reused
  pub length-again : k < length ns → length (placed ns k x) ≡ length ns
  unfolding placed
  length-again l = go (eqb k (length ns)) (ne_eqb k (length ns) (λ e. omega (arith, l, e)))
    where
      go : (t : Bool) → t ≡ false → length {A = Node} (elim t [ true ↦ ns ++ (x ∷ []) | false ↦ set ns k x ]) ≡ length ns
      go true d = absurd (true≢false d)
      go false d = length-set ns k x

-- ---- A child that loses a parent -------------------------------------------------------------

-- then c is in the queue if it was, or if it is the child and has no parent
pub orphaned-among : (ns : List Node) (c x : ℕ) (q : List ℕ) → 0 < c
    → has c (orphaned ns x q) ≡ (has c q || (eqb x c && not (has_parent ns c)))
unfolding orphaned
orphaned-among ns c zero q r =
    or-none (has c q) ∙ ap (λ (b : Bool). has c q || (b && not (has_parent ns c))) (sym (ne_eqb 0 c (λ e. omega (arith, e))))
orphaned-among ns c (suc x) q r =
    ⊎_elim (λ (e : suc x ≡ c). own e) (λ (d : suc x ≢ c). other d (has_parent ns (suc x))) (decide_eq (suc x) c)
  where
    mine : (p : Bool) → has c (elim p [ true ↦ q | false ↦ without c q ++ (c ∷ []) ]) ≡ (has c q || not p)
    mine true = or-none (has c q)
    mine false = has_last c (without c q) ∙ sym (or_right (has c q) true refl)

    own : suc x ≡ c → has c (elim (has_parent ns (suc x)) [ true ↦ q | false ↦ without (suc x) q ++ (suc x ∷ []) ])
        ≡ (has c q || (eqb (suc x) c && not (has_parent ns c)))
    own e =
        ap (λ (j : ℕ). has c (elim (has_parent ns j) [ true ↦ q | false ↦ without j q ++ (j ∷ []) ])) e
        ∙ mine (has_parent ns c)
        ∙ ap (λ (b : Bool). has c q || (b && not (has_parent ns c))) (sym (eq-eqb (suc x) c e))

    other : suc x ≢ c → (p : Bool) → has c (elim p [ true ↦ q | false ↦ without (suc x) q ++ (suc x ∷ []) ])
        ≡ (has c q || (eqb (suc x) c && not (has_parent ns c)))
    other d p = kept p ∙ or-none (has c q) ∙ ap (λ (b : Bool). has c q || (b && not (has_parent ns c))) (sym (ne_eqb (suc x) c d))
      where
        kept : (p : Bool) → has c (elim p [ true ↦ q | false ↦ without (suc x) q ++ (suc x ∷ []) ]) ≡ has c q
        kept true = refl
        kept false =
            among-append c (without (suc x) q) (suc x ∷ [])
            ∙ ap (λ (b : Bool). has c (without (suc x) q) || (b || false)) (ne_eqb (suc x) c d)
            ∙ sym (or-none (has c (without (suc x) q))) ∙ among-without c (suc x) q (λ e. d (sym e))

-- a number joins and leaves
without-last : (k : ℕ) (q : List ℕ) → has k q ≡ false → without k (q ++ (k ∷ [])) ≡ q
unfolding without
without-last k [] h = ap (λ (t : Bool). elim t as (λ _. List ℕ) [ true ↦ [] | false ↦ k ∷ [] ]) (eq-eqb k k refl)
without-last k (x ∷ xs) h =
    ap (λ (t : Bool). elim t as (λ _. List ℕ) [ true ↦ without k (xs ++ (k ∷ [])) | false ↦ x ∷ without k (xs ++ (k ∷ [])) ])
    (or_l (eqb x k) (has k xs) h)
    ∙ ap (λ (l : List ℕ). x ∷ l) (without-last k xs (or_r (eqb x k) (has k xs) h))

-- the same child a second time
pub orphaned-twice : (ns : List Node) (c : ℕ) (q : List ℕ) → orphaned ns c (orphaned ns c q) ≡ orphaned ns c q
unfolding orphaned
orphaned-twice ns zero q = refl
orphaned-twice ns (suc c) q = go (has_parent ns (suc c))
  where
    turn : Bool → List ℕ → List ℕ
    turn p q = elim p [ true ↦ q | false ↦ without (suc c) q ++ (suc c ∷ []) ]

    go : (p : Bool) → turn p (turn p q) ≡ turn p q
    go true = refl
    go false =
        ap (λ (y : List ℕ). y ++ (suc c ∷ [])) (without-last (suc c) (without (suc c) q) (among-without-same (suc c) q))

-- ---- The queue and the parents ---------------------------------------------------------------

module _ (s : State) (so : Sound s) (qd : Queued s) where
  -- the search for a parent of c finds every parent
  parentless : (c : ℕ) → 0 < c → has_parent s.table c ≡ false → Parentless s.table c
  parentless zero r e = absurd (omega arith)
  parentless (suc c) r e = has_parent-none s.table c e

  -- a number that is given out is in the queue if it has no parent, and only then
  queue-told : (c : ℕ) → 0 < c → c < length s.table → has c s.queue ≡ eqb (parents s.table c) 0
  queue-told c r l =
      go (has_parent s.table c) refl ∙ ap not (parents-none s.table c) ∙ not-twice (eqb (parents s.table c) 0)
    where
      go : (p : Bool) → has_parent s.table c ≡ p → has c s.queue ≡ not p
      go true e = is_false (has c s.queue) (λ i. true≢false (sym e
          ∙ has_parent-all s.table c (all-has (Free s.table) c s.queue so.waiting i).alone))
      go false e = qd.complete c r l (parentless c r e)

  -- also once number k is taken from its node
  pub freed-told : (k c : ℕ) → 0 < c → c < length s.table → c ≢ k
      → has c (freed s k) ≡ eqb (parents (set s.table k no_node) c) 0
  unfolding freed
  freed-told k c r l d =
      let ns = set s.table k no_node in
      let x = node s.table k in
      orphaned-among ns c x.second (orphaned ns x.first (without k s.queue)) r
      ∙ ap (λ (t : Bool). t || (eqb x.second c && not (has_parent ns c)))
      (orphaned-among ns c x.first (without k s.queue) r)
      ∙ ap₂ (λ (t u : Bool). (t || (eqb x.first c && u)) || (eqb x.second c && u))
      (among-without c k s.queue d ∙ queue-told c r l)
      (ap not (parents-none ns c) ∙ not-twice (eqb (parents ns c) 0))
      ∙ settle (eqb x.first c) (eqb x.second c) (parents ns c) (parents s.table c) (parents-rest s.table k c r)
    where
      settle : (u v : Bool) (m p : ℕ) → m + (bit u + bit v) ≡ p
          → ((eqb p 0 || (u && eqb m 0)) || (v && eqb m 0)) ≡ eqb m 0
      settle true true m p e =
          ap (λ (t : Bool). (t || eqb m 0) || eqb m 0) (ne_eqb p 0 (λ z. omega (arith, e, z))) ∙ or_same (eqb m 0)
      settle true false m p e =
          ap (λ (t : Bool). (t || eqb m 0) || false) (ne_eqb p 0 (λ z. omega (arith, e, z))) ∙ sym (or-none (eqb m 0))
      settle false true m p e = ap (λ (t : Bool). (t || false) || eqb m 0) (ne_eqb p 0 (λ z. omega (arith, e, z)))
      settle false false m p e =
          let j : p ≡ m = omega (arith, e) in
          ap (λ (q : ℕ). (eqb q 0 || false) || false) j ∙ sym (or-none (eqb m 0 || false)) ∙ sym (or-none (eqb m 0))

-- k itself is not in it
pub freed-away : (s : State) (k : ℕ) → 0 < k → Parentless s.table k → has k (freed s k) ≡ false
unfolding freed
freed-away s k r h =
    let ns = set s.table k no_node in
    let x = node s.table k in
    orphaned-among ns k x.second (orphaned ns x.first (without k s.queue)) r
    ∙ or-false (orphaned-among ns k x.first (without k s.queue) r
    ∙ or-false (among-without-same k s.queue)
    (ap (λ (t : Bool). t && not (has_parent ns k)) (or_l (eqb x.first k) (eqb x.second k) (h k))))
    (ap (λ (t : Bool). t && not (has_parent ns k)) (or_r (eqb x.first k) (eqb x.second k) (h k)))

-- a number not yet given out has no node to be taken from
pub freed-fresh : (s : State) (k : ℕ) → Sound s → length s.table ≤ k → freed s k ≡ s.queue
unfolding freed orphaned
freed-fresh s k so l =
    let ns = set s.table k no_node in
    ap (λ (x : Node). orphaned ns x.second (orphaned ns x.first (without k s.queue)))
    (get_or-eq_default s.table no_node l) ∙ without-absent k s.queue (is_false (has k s.queue)
    (λ i. let z = (all-has (Free s.table) k s.queue so.waiting i).known in omega (arith, l, z)))
