-- The laws of the records of open nodes: the table that has them is ordered, each record says of the words below what its children say, the nodes that were
-- there are there still, and the open nodes have their rows. Assumes nothing.
use Rattle.std.specs.Prelude.{◌≡◌, refl, Bool, true, false, cond, ◌&&◌, List, [], ◌∷◌, ℕ, zero, suc, ◌+◌, ◌-◌, ◌<◌, ◌≤◌, eqb, ltb, length}
use Rattle.std.proofs.Common.{sym, ap, ◌∙◌, subst, ⊎_elim, arith, eqb-true, eq-eqb, ne_eqb, ltb-true, ltb-false, lt-ltb, le-ltb}
use Rattle.std.proofs.Math.Path.{subst⁻¹}
use Prim.{Unit, tt}
use Rattle.theory_lists.specs.Lists.{and_r, decide_eq, decide-le}
use Rattle.theory_reading.specs.Limits.{table_limit}
use Rattle.theory_reading.specs.Nodes.{child, Node, node, is_child}
use Rattle.theory_reading.specs.Element as T
use Rattle.theory_reading.proofs.Lasting.{Ordered, child-of, is-first, is-second}
use Rattle.theory_reading.specs.Spine.{spine_number}
use Rattle.theory_reading.proofs.Spine.{spine_node, SpineIn, Extends, FirstsDeep}
use Rattle.node_records.specs.Records.{no_record}
use Rattle.record_tables.specs.Entries.{entry_at}
use Rattle.work_table.specs.Table.{get_in, worded_in, get-above, get-entry}
use Rattle.work_table.specs.TableLaws.{record_node, bit-back, table_of, table-node, length-put, get_other, get-put, Right, RightAt, Worded, Held}
use Rattle.blocks.specs.Spine.{highest_in, spine_record, worded_at, spine_at}
use Rattle.blocks.specs.Load.{larger}
use Rattle.node_records.specs.declared.NodeRecord.{NodeRecord}

-- ---- The highest number ----------------------------------------------------------------------

module _ (t : List NodeRecord) (f : ℕ) where
  -- the number k is above f and has no node
  abbrev passed : ℕ → Bool
  passed k = ltb f k && eqb (entry_at no_record t k).level 0

  pub highest-most : (z : ℕ) → highest_in t f z ≤ z
  highest-most zero = omega arith
  highest-most (suc z) = go (passed (suc z)) (highest-most z)
    where
      go : (b : Bool) → highest_in t f z ≤ z → cond b (highest_in t f z) (suc z) ≤ suc z
      go true h = omega (arith, h)
      go false h = omega arith

  -- above it no number has a node
  pub highest-above : (z k : ℕ) → highest_in t f z < k → k ≤ z → (entry_at no_record t k).level ≡ 0
  highest-above zero k = λ l h. absurd (omega (arith, l, h))
  highest-above (suc z) k = go (passed (suc z)) refl (highest-above z k)
    where
      go : (b : Bool) → passed (suc z) ≡ b → (highest_in t f z < k → k ≤ z → (entry_at no_record t k).level ≡ 0)
          → cond b (highest_in t f z) (suc z) < k → k ≤ suc z → (entry_at no_record t k).level ≡ 0
      go true e ih l h = ⊎_elim
          (λ (i : k ≡ suc z). ap (λ (k : ℕ). (entry_at no_record t k).level) i
          ∙ eqb-true (entry_at no_record t (suc z)).level 0 (and_r (ltb f (suc z)) (eqb (entry_at no_record t (suc z)).level 0) e))
          (λ (n : k ≡ suc z → ⊥). ih l (omega (arith, n, h)))
          (decide_eq k (suc z))
      go false e ih l h = absurd (omega (arith, l, h))

  -- One step of the search: it ends at a number that is not above f, or has a node; or it goes on below.
  pub highest-low : (k : ℕ) → k ≤ f → k ≡ highest_in t f k
  highest-low zero l = refl
  highest-low (suc k) l = rw (le-ltb f (suc k) l) refl

  pub highest-here : (k : ℕ) → f < k → ((entry_at no_record t k).level ≡ 0 → ⊥) → k ≡ highest_in t f k
  highest-here zero l h = absurd (omega (arith, l))
  highest-here (suc k) l h = rw (lt-ltb f (suc k) l, ne_eqb (entry_at no_record t (suc k)).level 0 h) refl

  pub highest-next : (k : ℕ) → f < k → (entry_at no_record t k).level ≡ 0 → highest_in t f (k - 1) ≡ highest_in t f k
  highest-next zero l h = absurd (omega (arith, l))
  highest-next (suc k) l h =
      let e : suc k - 1 ≡ k = omega arith in
      ap (highest_in t f) e ∙ rw (lt-ltb f (suc k) l, eq-eqb (entry_at no_record t (suc k)).level 0 h) refl

-- ---- One record more -------------------------------------------------------------------------

-- of the numbers below m: each says of the words below what its children say; children lie deeper, and are below m too
record Grown (t : List NodeRecord) (z m : ℕ) : Type 0 where
  room : z ≤ length t
  words : (k : ℕ) → (k ≡ 0 → ⊥) → k < m → ((get_in t z k).level ≡ 0 → ⊥) → RightAt (get_in t z) k
  deep : (k c : ℕ) → k < m → 0 < (get_in t z k).level → is_child c (record_node (get_in t z k)) ≡ true → 0 < c
      → (c < m) × ((get_in t z k).level < (get_in t z c).level)

-- a child of y that is not the terminal is below m; so is the terminal
child-small : (m c : ℕ) → 0 < m → (0 < c → c < m) → c < m
child-small m c z h = ⊎_elim (λ (e : c ≡ 0). omega (arith, e, z)) (λ (n : c ≡ 0 → ⊥). h (omega (arith, n))) (decide_eq c 0)

module _ (t : List NodeRecord) (z m : ℕ) (x : NodeRecord) (g : Grown t z m) (real : 0 < m) (small : m ≤ z)
    (below : (c : ℕ) → is_child c (record_node x) ≡ true → 0 < c → (c < m) × (x.level < (get_in t z c).level)) where
  abbrev u : List NodeRecord
  u = worded_at t z m x

  other : (j : ℕ) → (j ≡ m → ⊥) → get_in u z j ≡ get_in t z j
  other j d = get_other t z m j (worded_in t z x) (λ e. d (sym e))

  here : get_in u z m ≡ worded_in t z x
  here = get-put t z m (worded_in t z x) g.room (λ e. omega (arith, real, e)) small

  -- a record whose children are below m
  children : (w : NodeRecord) → w.first < m → w.second < m → Right w (get_in t z w.first) (get_in t z w.second)
      → Right w (get_in u z w.first) (get_in u z w.second)
  children w a b h =
      subst⁻¹ (λ (y : NodeRecord). Right w y (get_in u z w.second)) (other w.first (λ e. omega (arith, a, e)))
      (subst⁻¹ (Right w (get_in t z w.first)) (other w.second (λ e. omega (arith, b, e))) h)

  grown-put : Grown u z (m + 1)
  grown-put = record { room = omega (arith, g.room, length-put t m (worded_in t z x)); words = said; deep = deeper }
    where
      said : (k : ℕ) → (k ≡ 0 → ⊥) → k < m + 1 → ((get_in u z k).level ≡ 0 → ⊥) → RightAt (get_in u z) k
      said k n l real' = ⊎_elim
          (λ (e : k ≡ m). subst⁻¹ (RightAt (get_in u z)) e
          (subst⁻¹ (λ (w : NodeRecord). Right w (get_in u z w.first) (get_in u z w.second)) here
          (children (worded_in t z x) (child-small m x.first real (λ p. (below x.first (is-first (record_node x)) p).0))
          (child-small m x.second real (λ p. (below x.second (is-second (record_node x)) p).0)) (refl, refl))))
          (λ (d : k ≡ m → ⊥).
          let s : k < m = omega (arith, l, d) in
          let y = get_in t z k in
          let some : y.level ≡ 0 → ⊥ = λ e. real' (ap (λ (w : NodeRecord). w.level) (other k d) ∙ e) in
          let positive : 0 < y.level = omega (arith, some) in
          subst⁻¹ (λ (w : NodeRecord). Right w (get_in u z w.first) (get_in u z w.second)) (other k d)
          (children y (child-small m y.first real (λ p. (g.deep k y.first s positive (is-first (record_node y)) p).0))
          (child-small m y.second real (λ p. (g.deep k y.second s positive (is-second (record_node y)) p).0)) (g.words k n s some)))
          (decide_eq k m)

      -- a child c below m, of a record of level i
      lower : (i c : ℕ) → (c < m) × (i < (get_in t z c).level) → (c < m + 1) × (i < (get_in u z c).level)
      lower i c h = (
        omega (arith, h.0),
        subst⁻¹ (λ (w : NodeRecord). i < w.level) (other c (λ e. omega (arith, h.0, e))) h.1,
      )

      deeper : (k c : ℕ) → k < m + 1 → 0 < (get_in u z k).level → is_child c (record_node (get_in u z k)) ≡ true → 0 < c
          → (c < m + 1) × ((get_in u z k).level < (get_in u z c).level)
      deeper k c l = ⊎_elim
          (λ (e : k ≡ m). subst⁻¹ (λ (w : NodeRecord). 0 < w.level → is_child c (record_node w) ≡ true → 0 < c → (c < m + 1) × (w.level < (get_in u z c).level))
          (ap (get_in u z) e ∙ here) (λ p d r. lower x.level c (below c d r)))
          (λ (d : k ≡ m → ⊥).
          subst⁻¹ (λ (w : NodeRecord). 0 < w.level → is_child c (record_node w) ≡ true → 0 < c → (c < m + 1) × (w.level < (get_in u z c).level))
          (other k d) (λ p q r. lower (get_in t z k).level c (g.deep k c (omega (arith, l, d)) p q r)))
          (decide_eq k m)

-- ---- The records of open nodes ---------------------------------------------------------------

-- first children are below k, and lie deeper than their parents
abbrev FirstsIn : List NodeRecord → ℕ → ℕ → List T.Open → Type 0
FirstsIn t z k [] = Unit {0}
FirstsIn t z k (T.in_first ∷ o) = FirstsIn t z k o
FirstsIn t z k (T.in_second r b ∷ o) = (0 < child r → (child r < k) × (length o + 2 ≤ (get_in t z (child r)).level)) × FirstsIn t z k o

module _ (z : ℕ) where
  firsts-put : (t : List NodeRecord) (k : ℕ) (y : NodeRecord) (o : List T.Open) → FirstsIn t z k o → FirstsIn (worded_at t z k y) z (k + 1) o
  firsts-put t k y [] h = tt
  firsts-put t k y (T.in_first ∷ o) h = firsts-put t k y o h
  firsts-put t k y (T.in_second r b ∷ o) h = (
    λ p. let f = h.0 p in (
      omega (arith, f.0),
      subst⁻¹ (λ (w : NodeRecord). length o + 2 ≤ w.level) (get_other t z k (child r) (worded_in t z y) (λ e. omega (arith, f.0, e))) f.1,
    ),
    firsts-put t k y o h.1,
  )

  -- the children of an open node's record
  spine-children : (t : List NodeRecord) (k e : ℕ) (x : T.Open) (o : List T.Open) → FirstsIn t z k (x ∷ o)
      → (0 < e → (e < k) × (length (x ∷ o) + 1 ≤ (get_in t z e).level))
      → (c : ℕ) → is_child c (record_node (spine_record x (length o + 1) e)) ≡ true → 0 < c → (c < k) × (length o + 1 < (get_in t z c).level)
  spine-children t k e T.in_first o firsts begun c d p = ⊎_elim
      (λ (i : e ≡ c). subst (λ (c : ℕ). (c < k) × (length o + 1 < (get_in t z c).level)) i
      (let f = begun (omega (arith, i, p)) in (f.0, omega (arith, f.1))))
      (λ (i : 0 ≡ c). absurd (omega (arith, i, p)))
      (child-of c (record_node (spine_record T.in_first (length o + 1) e)) d)
  spine-children t k e (T.in_second r b) o firsts begun c d p = ⊎_elim
      (λ (i : child r ≡ c). subst (λ (c : ℕ). (c < k) × (length o + 1 < (get_in t z c).level)) i
      (let f = firsts.0 (omega (arith, i, p)) in (f.0, omega (arith, f.1))))
      (λ (i : e ≡ c). subst (λ (c : ℕ). (c < k) × (length o + 1 < (get_in t z c).level)) i
      (let f = begun (omega (arith, i, p)) in (f.0, omega (arith, f.1))))
      (child-of c (record_node (spine_record (T.in_second r b) (length o + 1) e)) d)

  firsts-rest : (t : List NodeRecord) (k : ℕ) (x : T.Open) (o : List T.Open) → FirstsIn t z k (x ∷ o) → FirstsIn t z k o
  firsts-rest t k T.in_first o h = h
  firsts-rest t k (T.in_second r b) o h = h.1

  level-of : (x : T.Open) (i e : ℕ) → (spine_record x i e).level ≡ i
  level-of T.in_first i e = refl
  level-of (T.in_second r b) i e = refl

  -- The records of the open nodes keep it so.
  grown-spine : (o : List T.Open) (t : List NodeRecord) (k e : ℕ) → Grown t z k → 0 < k → k + length o ≤ z + 1
      → (0 < e → (e < k) × (length o + 1 ≤ (get_in t z e).level)) → FirstsIn t z k o → Grown (spine_at t z o k e) z (k + length o)
  grown-spine [] t k e g real fits begun firsts = let q : k ≡ k + 0 = omega arith in subst (Grown t z) q g
  grown-spine (x ∷ o) t k e g real fits begun firsts =
      let i = length o + 1 in
      let y = spine_record x i e in
      let small : k ≤ z = omega (arith, fits) in
      let u = worded_at t z k y in
      let q : k + 1 + length o ≡ k + suc (length o) = omega arith in
      let own : (get_in u z k).level ≡ i = ap (λ (w : NodeRecord). w.level) (get-put t z k (worded_in t z y) g.room (λ e. omega (arith, real, e)) small)
      ∙ level-of x i e in
      subst (Grown (spine_at u z o (k + 1) k) z) q
      (grown-spine o u (k + 1) k
      (grown-put t z k y g real small (λ c d p. let f = spine-children t k e x o firsts begun c d p in (f.0, omega (arith, f.1, level-of x i e))))
      (omega arith) (omega (arith, fits)) (λ p. (omega arith, omega (arith, own)))
      (firsts-put t k y o (firsts-rest t k x o firsts)))

  -- Other numbers keep their records: those below,
  pub spine-below : (o : List T.Open) (t : List NodeRecord) (k e j : ℕ) → j < k → get_in (spine_at t z o k e) z j ≡ get_in t z j
  spine-below [] t k e j l = refl
  spine-below (x ∷ o) t k e j l =
      let y = spine_record x (length o + 1) e in
      spine-below o (worded_at t z k y) (k + 1) k j (omega (arith, l)) ∙ get_other t z k j (worded_in t z y) (λ i. omega (arith, l, i))

  -- and those above.
  pub spine-above : (o : List T.Open) (t : List NodeRecord) (k e j : ℕ) → k + length o ≤ j → get_in (spine_at t z o k e) z j ≡ get_in t z j
  spine-above [] t k e j l = refl
  spine-above (x ∷ o) t k e j l =
      let y = spine_record x (length o + 1) e in
      spine-above o (worded_at t z k y) (k + 1) k j (omega (arith, l)) ∙ get_other t z k j (worded_in t z y) (λ i. omega (arith, l, i))

  pub spine-length : (o : List T.Open) (t : List NodeRecord) (k e : ℕ) → length (spine_at t z o k e) ≡ length t
  spine-length [] t k e = refl
  spine-length (x ∷ o) t k e =
      let y = spine_record x (length o + 1) e in
      spine-length o (worded_at t z k y) (k + 1) k ∙ length-put t k (worded_in t z y)

  -- as the theory has the row
  row_of : (t : List NodeRecord) (x : T.Open) (i e : ℕ) → record_node (worded_in t z (spine_record x i e)) ≡ spine_node x i e
  row_of t T.in_first i e = refl
  row_of t (T.in_second r b) i e =
      ap (λ (c : Bool). record { level = i; first = child r; second = e; complement = c; stamp = 1 }) (bit-back b)

  spine-rows : (o : List T.Open) (t : List NodeRecord) (k e : ℕ) → z ≤ length t → 0 < k → k + length o ≤ z + 1
      → SpineIn (table_of (spine_at t z o k e) z) o k e
  spine-rows [] t k e room real fits = tt
  spine-rows (x ∷ o) t k e room real fits =
      let y = spine_record x (length o + 1) e in
      let u = worded_at t z k y in (
        table-node (spine_at u z o (k + 1) k) z k
            ∙ ap record_node (spine-below o u (k + 1) k k (omega arith)
            ∙ get-put t z k (worded_in t z y) room (λ i. omega (arith, real, i)) (omega (arith, fits)))
            ∙ row_of t x (length o + 1) e,
        spine-rows o u (k + 1) k (omega (arith, room, length-put t k (worded_in t z y))) (omega arith) (omega (arith, fits)),
      )

-- the outermost number has a level
top-deep : (u : List Node) (o : List T.Open) (k e : ℕ) → SpineIn u o k e → (0 < e → 1 ≤ (node u e).level)
    → 0 < spine_number o k e → 1 ≤ (node u (spine_number o k e)).level
top-deep u [] k e rows h = h
top-deep u (x ∷ o) k e rows h = top-deep u o (k + 1) k rows.1 (λ p. go x rows.0)
  where
    go : (x : T.Open) → node u k ≡ spine_node x (length o + 1) e → 1 ≤ (node u k).level
    go T.in_first r = omega (arith, ap (λ (y : Node). y.level) r)
    go (T.in_second a b) r = omega (arith, ap (λ (y : Node). y.level) r)

-- ---- The table with the open nodes -----------------------------------------------------------

pub larger-not : (z m : ℕ) → m ≤ z → larger z m ≡ z
larger-not z m l = rw (le-ltb z m l) refl

larger-left : (z m : ℕ) → z ≤ larger z m
larger-left z m = go (ltb z m) refl
  where
    go : (b : Bool) → ltb z m ≡ b → z ≤ cond b m z
    go true e = let l : z < m = ltb-true z m e in omega (arith, l)
    go false e = omega arith

larger-right : (z m : ℕ) → m ≤ larger z m
larger-right z m = go (ltb z m) refl
  where
    go : (b : Bool) → ltb z m ≡ b → m ≤ cond b m z
    go true e = omega arith
    go false e = ltb-false z m e

-- it is one of both
larger-most : (z m l : ℕ) → z ≤ l → m ≤ l → larger z m ≤ l
larger-most z m l p q = go (ltb z m)
  where
    go : (b : Bool) → cond b m z ≤ l
    go true = q
    go false = p

larger-one : (z m k : ℕ) → k ≤ larger z m → m < k → k ≤ z
larger-one z m k h l = go (ltb z m) h
  where
    go : (b : Bool) → k ≤ cond b m z → k ≤ z
    go true h = absurd (omega (arith, h, l))
    go false h = h

-- t: the table of z numbers, as reading left it; o: the open nodes; e: what the innermost has begun with; f: down to where a number with a node is sought
module _ (t : List NodeRecord) (z f : ℕ) (room : table_limit ≤ length t) (size : z ≤ table_limit) (held : Held t z) (ordered : Ordered (table_of t z))
    (o : List T.Open) (e : ℕ) (begun : 0 < e → length o + 1 ≤ (node (table_of t z) e).level) (firsts : FirstsDeep (table_of t z) o)
    (fits : highest_in t f z + length o ≤ table_limit) where
  abbrev h : ℕ
  h = highest_in t f z

  abbrev y : ℕ
  y = larger z (h + length o)

  abbrev v : List NodeRecord
  v = spine_at t y o (h + 1) e

  low : h ≤ z
  low = highest-most t f z

  wide : z ≤ y
  wide = larger-left z (h + length o)

  -- above h no number up to the size has a node
  free : (k : ℕ) → h < k → (get_in t z k).level ≡ 0
  free k l = ⊎_elim
      (λ (s : k ≤ z). ap (λ (x : NodeRecord). x.level) (sym (get-entry t z k s)) ∙ highest-above t f z k l s)
      (λ (s : z < k). ap (λ (x : NodeRecord). x.level) (sym (get-above t z k s)))
      (decide-le k z)

  live : (k : ℕ) → 0 < (get_in t z k).level → k ≤ h
  live k p = ⊎_elim (λ (s : k ≤ h). s) (λ (s : h < k). absurd (omega (arith, p, free k s))) (decide-le k h)

  level-same : (k : ℕ) → (node (table_of t z) k).level ≡ (get_in t z k).level
  level-same k = ap (λ (x : Node). x.level) (table-node t z k)

  -- up to h the size does not matter
  same : (k : ℕ) → k ≤ h → get_in t y k ≡ get_in t z k
  same k l = sym (get-entry t y k (omega (arith, l, low, wide))) ∙ get-entry t z k (omega (arith, l, low))

  old-deep : (k c : ℕ) → 0 < (get_in t z k).level → is_child c (record_node (get_in t z k)) ≡ true → 0 < c
      → (c ≤ h) × ((get_in t z k).level < (get_in t z c).level)
  old-deep k c p d r =
      let l : (get_in t z k).level < (get_in t z c).level = omega (
        arith,
        ordered k c (omega (arith, p, level-same k)) (ap (is_child c) (table-node t z k) ∙ d) r,
        level-same k,
        level-same c,
      ) in
      (live c (omega (arith, l)), l)

  old-small : (k c : ℕ) → 0 < (get_in t z k).level → is_child c (record_node (get_in t z k)) ≡ true → c ≤ h
  old-small k c p d = ⊎_elim (λ (i : c ≡ 0). omega (arith, i)) (λ (n : c ≡ 0 → ⊥). (old-deep k c p d (omega (arith, n))).0) (decide_eq c 0)

  grown : Grown t y (h + 1)
  grown = record { room = omega (arith, room, larger-most z (h + length o) table_limit size fits); words = said; deep = deeper }
    where
      said : (k : ℕ) → (k ≡ 0 → ⊥) → k < h + 1 → ((get_in t y k).level ≡ 0 → ⊥) → RightAt (get_in t y) k
      said k n l real =
          let s : k ≤ h = omega (arith, l) in
          let x = get_in t z k in
          let some : x.level ≡ 0 → ⊥ = λ i. real (ap (λ (w : NodeRecord). w.level) (same k s) ∙ i) in
          let positive : 0 < x.level = omega (arith, some) in
          subst⁻¹ (λ (w : NodeRecord). Right w (get_in t y w.first) (get_in t y w.second)) (same k s)
          (subst⁻¹ (λ (a : NodeRecord). Right x a (get_in t y x.second)) (same x.first (old-small k x.first positive (is-first (record_node x))))
          (subst⁻¹ (Right x (get_in t z x.first)) (same x.second (old-small k x.second positive (is-second (record_node x))))
          (held.words k n (omega (arith, s, low)) some)))

      deeper : (k c : ℕ) → k < h + 1 → 0 < (get_in t y k).level → is_child c (record_node (get_in t y k)) ≡ true → 0 < c
          → (c < h + 1) × ((get_in t y k).level < (get_in t y c).level)
      deeper k c l =
          subst⁻¹ (λ (w : NodeRecord). 0 < w.level → is_child c (record_node w) ≡ true → 0 < c → (c < h + 1) × (w.level < (get_in t y c).level))
          (same k (omega (arith, l)))
          (λ p d r. let f = old-deep k c p d r in
          (omega (arith, f.0), subst⁻¹ (λ (w : NodeRecord). (get_in t z k).level < w.level) (same c f.0) f.1))

  -- what a row refers to is below
  found : (i c : ℕ) → (0 < c → suc i ≤ (node (table_of t z) c).level) → 0 < c → (c < h + 1) × (suc i ≤ (get_in t y c).level)
  found i c deep p =
      let l : suc i ≤ (get_in t z c).level = omega (arith, deep p, level-same c) in
      let s : c ≤ h = live c (omega (arith, l)) in
      (omega (arith, s), subst⁻¹ (λ (w : NodeRecord). suc i ≤ w.level) (same c s) l)

  firsts-found : (o : List T.Open) → FirstsDeep (table_of t z) o → FirstsIn t y (h + 1) o
  firsts-found [] f = tt
  firsts-found (T.in_first ∷ o) f = firsts-found o f
  firsts-found (T.in_second r b ∷ o) f =
      let q : suc (length o + 1) ≡ length o + 2 = omega arith in (
        subst (λ (i : ℕ). 0 < child r → (child r < h + 1) × (i ≤ (get_in t y (child r)).level)) q
            (found (length o + 1) (child r) (λ p. omega (arith, f.0 p))),
        firsts-found o f.1,
      )

  begun-found : 0 < e → (e < h + 1) × (length o + 1 ≤ (get_in t y e).level)
  begun-found =
      let q : suc (length o) ≡ length o + 1 = omega arith in
      subst (λ (i : ℕ). 0 < e → (e < h + 1) × (i ≤ (get_in t y e).level)) q (found (length o) e (λ p. omega (arith, begun p)))

  top : h + 1 + length o ≤ y + 1
  top = omega (arith, larger-right z (h + length o))

  full : Grown v y (h + 1 + length o)
  full = grown-spine y o t (h + 1) e grown (omega arith) top begun-found (firsts-found o firsts)

  -- a number with a node has one of these
  inside : (k : ℕ) → 0 < (get_in v y k).level → k < h + 1 + length o
  inside k p = ⊎_elim
      (λ (l : h + 1 + length o ≤ k).
      let i : (get_in v y k).level ≡ (get_in t y k).level = ap (λ (x : NodeRecord). x.level) (spine-above y o t (h + 1) e k l) in
      absurd (⊎_elim
      (λ (s : k ≤ y). omega (
        arith,
        p,
        i,
        ap (λ (x : NodeRecord). x.level) (sym (get-entry t y k s)),
        highest-above t f z k (omega (arith, l)) (larger-one z (h + length o) k s (omega (arith, l))),
      ))
      (λ (s : y < k). omega (arith, p, i, ap (λ (x : NodeRecord). x.level) (get-above t y k s)))
      (decide-le k y)))
      (λ (l : k < h + 1 + length o). l)
      (decide-le (h + 1 + length o) k)

  -- IT IS ORDERED,
  pub spine-ordered : Ordered (table_of v y)
  spine-ordered k c =
      subst⁻¹ (λ (x : Node). 0 < x.level → is_child c x ≡ true → 0 < c → x.level < (node (table_of v y) c).level) (table-node v y k)
      (λ p d r. omega (arith, (full.deep k c (inside k p) p d r).1, ap (λ (x : Node). x.level) (table-node v y c)))

  -- says of the words below what it has to,
  pub spine-worded : Worded v y
  spine-worded k n l real = full.words k n (inside k (omega (arith, real))) real

  -- has the nodes that were there,
  pub spine-extends : Extends (table_of t z) (table_of v y)
  spine-extends k p =
      let s : k ≤ h = live k (omega (arith, p, level-same k)) in
      table-node v y k ∙ ap record_node (spine-below y o t (h + 1) e k (omega (arith, s)) ∙ same k s) ∙ sym (table-node t z k)

  -- and a row for each open node;
  pub spine-has : SpineIn (table_of v y) o (h + 1) e
  spine-has = spine-rows y o t (h + 1) e grown.room (omega arith) top

  -- the outermost number has a level, unless it is the terminal's.
  pub spine-deep : 0 < spine_number o (h + 1) e → 1 ≤ (node (table_of v y) (spine_number o (h + 1) e)).level
  spine-deep = top-deep (table_of v y) o (h + 1) e spine-has
      (λ p. let q = begun p in omega (arith, q, ap (λ (x : Node). x.level) (spine-extends e (omega (arith, q)))))
