-- The table is normal: levels are at most n, children lie deeper, nodes are reduced, no node stands twice. Every rule keeps it so.
use Rattle.std.specs.Prelude.{◌≡◌, ◌≢◌, ◌⊎◌, Bool, not, ◌&&◌, List, [], ◌∷◌, eqb, length}
use Rattle.std.proofs.Math.Path.{refl, ap, subst⁻¹}
use Rattle.std.proofs.Common.{sym, ◌∙◌, subst, inl, inr, ⊎_elim, true≢false, eqb-true, eq-eqb}
use Rattle.std.proofs.Math.Bool.{true, false}
use Rattle.std.proofs.lemmas.Bool.{false≢true, not-false}
use Prim.Native.Nat.{ℕ, zero, suc, ◌+◌, ◌≤◌, ◌<◌, ◌^◌}
use native.Mathlib.Omega.{arith}
use Rattle.theory_lists.specs.Lists.{and_l, and_r, or_l, or_r, and-true, eq-not-differ, decide_eq}
use Rattle.theory_reading.specs.Nodes.{Ref, terminal, entry, temporary, child, Node, new_node, node, stamp, is_child, bars}
use Rattle.theory_writing.specs.UniqueTable.{State, start, fits, find, stored}
use Rattle.theory_writing.specs.Rules.{Text, Part, Done, edge, is_terminal, same_number, both_terminal, same_entry, half_barred, found, new_number}
use Rattle.theory_writing.specs.Rules.{by_rule, meet, part}
use Rattle.theory_writing.specs.Storing.{Sound, Able, child-either, stored_same, stored_other}
use Rattle.theory_writing.specs.Steps.{Step, Told, next-able, find-matches, Halves, a-known, b-known, first_half, second_half, part-good}
use Rattle.theory_writing.specs.Steps.{part-halves}

-- ---- Normal tables ---------------------------------------------------------------------------

-- a number is stored if its node has a level
abbrev pub Stored : State → ℕ → Type 0
Stored s p = 0 < (node s.table p).level

pub record Normal (n : ℕ) (s : State) : Type 0 where
  pub ground : (node s.table 0).level ≡ 0
  pub low : (p : ℕ) → (node s.table p).level ≤ n
  pub deeper : (p c : ℕ) → Stored s p → is_child c (node s.table p) ≡ true → 0 < c
      → (node s.table p).level < (node s.table c).level
  pub reduced : (p : ℕ) → Stored s p → (node s.table p).complement ≡ false
      → (node s.table p).first ≢ (node s.table p).second
  pub unique : (p q : ℕ) → Stored s p → (node s.table q).level ≡ (node s.table p).level
      → (node s.table q).first ≡ (node s.table p).first → (node s.table q).second ≡ (node s.table p).second
      → (node s.table q).complement ≡ (node s.table p).complement → p ≡ q

-- a node that may be stored
pub record Fit (n : ℕ) (s : State) (i a b : ℕ) (t : Bool) : Type 0 where
  pub level-low : i ≤ n
  pub a-deeper : 0 < a → i < (node s.table a).level
  pub b-deeper : 0 < b → i < (node s.table b).level
  pub reduced : t ≡ false → a ≢ b
  pub new : (p : ℕ) → (node s.table p).level ≡ i → (node s.table p).first ≡ a → (node s.table p).second ≡ b
      → (node s.table p).complement ≡ t → ⊥

module _ (n : ℕ) (s : State) (k i a b : ℕ) (t : Bool) (h : Sound s) (able : Able s k a b) (nm : Normal n s)
    (ft : Fit n s i a b t) where
  s' : State
  s' = stored s k i a b t

  at-k : (p : ℕ) → p ≡ k → node s'.table p ≡ new_node i a b t (suc (stamp s.table k))
  unfolding s'
  at-k p e = ap (λ (j : ℕ). node s'.table j) e ∙ stored_same s k i a b t h able

  other : (p : ℕ) → p ≢ k → node s'.table p ≡ node s.table p
  unfolding s'
  other p d = stored_other s k i a b t h able p d

  -- a fact of nodes by the node's place
  by_place : (P : Node → Type 0) (p : ℕ) → (p ≡ k → P (new_node i a b t (suc (stamp s.table k))))
      → (p ≢ k → P (node s.table p)) → P (node s'.table p)
  by_place P p f g =
      ⊎_elim (λ (e : p ≡ k). subst⁻¹ P (at-k p e) (f e)) (λ (d : p ≢ k). subst⁻¹ P (other p d) (g d)) (decide_eq p k)

  child-deeper : (c : ℕ) → (a ≡ c) ⊎ (b ≡ c) → 0 < c → i < (node s'.table c).level
  child-deeper c (inl e) r =
      subst⁻¹ (λ (x : Node). i < x.level) (other c (λ z. able.not_a (e ∙ z)))
      (subst (λ (j : ℕ). i < (node s.table j).level) e (ft.a-deeper (omega (arith, e))))
  child-deeper c (inr e) r =
      subst⁻¹ (λ (x : Node). i < x.level) (other c (λ z. able.not-b (e ∙ z)))
      (subst (λ (j : ℕ). i < (node s.table j).level) e (ft.b-deeper (omega (arith, e))))

  normal-deeper : (p c : ℕ) → Stored s' p → is_child c (node s'.table p) ≡ true → 0 < c
      → (node s'.table p).level < (node s'.table c).level
  normal-deeper p c =
      by_place (λ (x : Node). 0 < x.level → is_child c x ≡ true → 0 < c → x.level < (node s'.table c).level) p
      (λ e st d r. child-deeper c (child-either c (new_node i a b t (suc (stamp s.table k))) d) r)
      (λ d₀ st d r. subst⁻¹ (λ (x : Node). (node s.table p).level < x.level)
      (other c (λ z. true≢false (sym d ∙ ap (λ (j : ℕ). is_child j (node s.table p)) z ∙ able.alone p)))
      (nm.deeper p c st d r))

  normal-unique : (p q : ℕ) → Stored s' p → (node s'.table q).level ≡ (node s'.table p).level
      → (node s'.table q).first ≡ (node s'.table p).first → (node s'.table q).second ≡ (node s'.table p).second
      → (node s'.table q).complement ≡ (node s'.table p).complement → p ≡ q
  normal-unique p q =
      by_place (λ (x : Node). 0 < x.level → (node s'.table q).level ≡ x.level → (node s'.table q).first ≡ x.first
      → (node s'.table q).second ≡ x.second → (node s'.table q).complement ≡ x.complement → p ≡ q) p
      (λ e. by_place (λ (y : Node). 0 < i → y.level ≡ i → y.first ≡ a → y.second ≡ b → y.complement ≡ t → p ≡ q) q
      (λ e' st l f g u. e ∙ sym e')
      (λ d st l f g u. absurd (ft.new q l f g u)))
      (λ d. by_place (λ (y : Node). 0 < (node s.table p).level → y.level ≡ (node s.table p).level
      → y.first ≡ (node s.table p).first → y.second ≡ (node s.table p).second
      → y.complement ≡ (node s.table p).complement → p ≡ q) q
      (λ e' st l f g u. absurd (ft.new p (sym l) (sym f) (sym g) (sym u)))
      (λ d' st l f g u. nm.unique p q st l f g u))

  stored-normal' : Normal n s'
  stored-normal' = record {
    ground = by_place (λ (x : Node). x.level ≡ 0) 0 (λ e. absurd (omega (arith, able.real))) (λ d. nm.ground);
    low = λ p. by_place (λ (x : Node). x.level ≤ n) p (λ e. ft.level-low) (λ d. nm.low p);
    deeper = normal-deeper;
    reduced =
        λ p. by_place (λ (x : Node). 0 < x.level → x.complement ≡ false → x.first ≢ x.second) p (λ e st. ft.reduced)
        (λ d. nm.reduced p);
    unique = normal-unique;
  }

  pub stored-normal : Normal n (stored s k i a b t)
  unfolding s'
  stored-normal = stored-normal'

-- ---- Rule 4 misses nothing -------------------------------------------------------------------

pub fits-true : (i a b : ℕ) (t : Bool) (x : Node) → x.level ≡ i → x.first ≡ a → x.second ≡ b → x.complement ≡ t
    → fits i a b t x ≡ true
fits-true i a b t x l f g u =
    and-true (eq-eqb x.level i l)
    (and-true (eq-eqb x.first a f) (and-true (eq-eqb x.second b g) (eq-not-differ x.complement t u)))

find_none : (ns : List Node) (k i a b : ℕ) (t : Bool) → find ns (suc k) i a b t ≡ 0 → (j : ℕ) → 0 < i
    → fits i a b t (node ns j) ≡ true → ⊥
unfolding find
find_none [] k i a b t e j r f = let z = eqb-true 0 i (and_l (eqb 0 i) _ f) in omega (arith, z)
find_none (x ∷ xs) k i a b t e j r f = go (fits i a b t x) refl e j f (λ q j f. find_none xs (suc k) i a b t q j r f)
  where
    go : (u : Bool) → fits i a b t x ≡ u
        → ◌≡◌ {A = ℕ} (elim u as (λ _. ℕ) [ true ↦ suc k | false ↦ find xs (suc (suc k)) i a b t ]) 0 → (j : ℕ)
        → fits i a b t (node (x ∷ xs) j) ≡ true
        → (find xs (suc (suc k)) i a b t ≡ 0 → (j : ℕ) → fits i a b t (node xs j) ≡ true → ⊥) → ⊥
    go true e q j f ih = omega (arith, q)
    go false e q zero f ih = true≢false (sym f ∙ e)
    go false e q (suc j) f ih = ih q j f

pub find-misses : (n : ℕ) (s : State) (i a b : ℕ) (t : Bool) → Sound s → Normal n s → 0 < i → find s.table 0 i a b t ≡ 0
    → (p : ℕ) → fits i a b t (node s.table p) ≡ true → ⊥
unfolding find
find-misses n s i a b t h nm r e p f = go s.table refl e p f
  where
    go : (ns : List Node) → s.table ≡ ns → find ns 0 i a b t ≡ 0 → (p : ℕ) → fits i a b t (node ns p) ≡ true → ⊥
    go [] q e p f = omega (arith, ap length q, h.some-place)
    go (x ∷ xs) q e p f = on (fits i a b t x) refl e p f
      where
        head-level : x.level ≡ 0
        head-level = ap (λ (l : List Node). (node l 0).level) (sym q) ∙ nm.ground

        on : (u : Bool) → fits i a b t x ≡ u → ◌≡◌ {A = ℕ} (elim u as (λ _. ℕ) [ true ↦ 0 | false ↦ find xs 1 i a b t ]) 0
            → (p : ℕ) → fits i a b t (node (x ∷ xs) p) ≡ true → ⊥
        on true d e p f = omega (arith, eqb-true x.level i (and_l (eqb x.level i) _ d), head-level)
        on false d e zero f = true≢false (sym f ∙ d)
        on false d e (suc p) f = find_none xs 0 i a b t e p r f

pub find-hits : (n : ℕ) (s : State) (i a b : ℕ) (t : Bool) → Sound s → Normal n s → 0 < i → (p : ℕ) → (node s.table p).level ≡ i
    → (node s.table p).first ≡ a → (node s.table p).second ≡ b → (node s.table p).complement ≡ t
    → find s.table 0 i a b t ≡ p
find-hits n s i a b t h nm r p l f g u = go (find s.table 0 i a b t) refl
  where
    go : (k : ℕ) → find s.table 0 i a b t ≡ k → k ≡ p
    go zero e = absurd (find-misses n s i a b t h nm r e p (fits-true i a b t (node s.table p) l f g u))
    go (suc k) e = let z = find-matches s i a b t k e in
        sym (nm.unique p (suc k) (omega (arith, l)) (z.level ∙ sym l) (z.first ∙ sym f) (z.second ∙ sym g)
        (z.complement ∙ sym u))

-- ---- Kept by every rule ----------------------------------------------------------------------

-- a kept part of level i has its number at that level or deeper
abbrev pub Depth : ℕ → State → Ref → Type 0
Depth i s terminal = Unit {0}
Depth i s (entry k g) = i ≤ (node s.table k).level
Depth i s temporary = Unit {0}

-- a number still held is the node it was
pub node-held : (j : ℕ) (s₀ s₁ s : State) (w : Ref) (x : Text) → Step j s₁ s → Told s₀ s₁ w x → bars s.table w ≡ false
    → 0 < child w → node s.table (child w) ≡ node s₁.table (child w)
node-held j s₀ s₁ s terminal x st t nb r = absurd (omega arith)
node-held j s₀ s₁ s (entry k g) x st t nb r =
    st.same k (eqb-true (stamp s.table k) g (not-false (eqb (stamp s.table k) g) nb) ∙ sym t.now)
node-held j s₀ s₁ s temporary x st t nb r = absurd (true≢false nb)

depth-child : (i : ℕ) (s : State) (w : Ref) → Depth i s w → 0 < child w → i ≤ (node s.table (child w)).level
depth-child i s terminal d r = absurd (omega arith)
depth-child i s (entry k g) d r = d
depth-child i s temporary d r = absurd (omega arith)

pub record Deep (n i : ℕ) (d : Done) : Type 0 where
  pub normal : Normal n d.state
  pub depth : Depth i d.state d.part.ref

module _ (n i : ℕ) (s₀ s₁ s : State) (a b : Part) (h : Halves i s₀ s₁ s a b) (nm : Normal n s) (da : Depth (suc i) s₁ a.ref)
    (db : Depth (suc i) s b.ref)
    (r : 0 < i) (l : i ≤ n) where
  pub a-deep : bars s.table a.ref ≡ false → 0 < child a.ref → i < (node s.table (child a.ref)).level
  a-deep nb c =
      subst⁻¹ (λ (x : Node). i < x.level) (node-held (suc i) s₀ s₁ s a.ref a.text h.step-b h.told-a nb c)
      (depth-child (suc i) s₁ a.ref da c)

  pub b-deep : 0 < child b.ref → i < (node s.table (child b.ref)).level
  b-deep c = depth-child (suc i) s b.ref db c

  -- rules 1 and 2 take every pair alike
  alike-taken : (v w : Ref) (t : Bool) (x y : Text) → Told s₀ s₁ v x → Told s₁ s w y
      → (is_terminal v && (is_terminal w && not t)) ≡ false → (same_number s v w && not t) ≡ false
      → bars s.table v ≡ false → bars s.table w ≡ false → t ≡ false → child v ≡ child w → ⊥
  alike-taken temporary w t x y p q e₁ e₂ nv nw z c = true≢false nv
  alike-taken terminal temporary t x y p q e₁ e₂ nv nw z c = true≢false nw
  alike-taken terminal terminal t x y p q e₁ e₂ nv nw z c = true≢false (ap not (sym z) ∙ e₁)
  alike-taken terminal (entry k g) t x y p q e₁ e₂ nv nw z c = omega (arith, q.real, c)
  alike-taken (entry k g) temporary t x y p q e₁ e₂ nv nw z c = true≢false nw
  alike-taken (entry k g) terminal t x y p q e₁ e₂ nv nw z c = omega (arith, p.real, c)
  alike-taken (entry k g) (entry j u) t x y p q e₁ e₂ nv nw z c =
      true≢false (sym (and-true (and-true (eq-eqb k j c)
      (and-true (not-false (eqb (stamp s.table k) g) nv) (not-false (eqb (stamp s.table j) u) nw))) (ap not z)) ∙ e₂)

  fit : (k : ℕ) → both_terminal a b ≡ false → same_entry s a b ≡ false → half_barred s a b ≡ false → found s i a b ≡ 0
      → Fit n s i (child a.ref) (child b.ref) (edge a b)
  fit k e₁ e₂ e₃ e₄ = record {
    level-low = l;
    a-deeper = a-deep (or_l (bars s.table a.ref) _ e₃);
    b-deeper = b-deep;
    reduced =
        alike-taken a.ref b.ref (edge a b) a.text b.text h.told-a h.told-b e₁ e₂
        (or_l (bars s.table a.ref) _ e₃) (or_r (bars s.table a.ref) _ e₃);
    new =
        λ p lv f g u. find-misses n s i (child a.ref) (child b.ref) (edge a b) h.sound nm r e₄ p
        (fits-true i _ _ _ (node s.table p) lv f g u);
  }

  same-depth : (v w : Ref) (x : Text) → Told s₀ s₁ v x → Depth (suc i) s₁ v → same_number s v w ≡ true → Depth i s v
  same-depth terminal w x t d e = tt
  same-depth temporary w x t d e = tt
  same-depth (entry k g) terminal x t d e = absurd (false≢true e)
  same-depth (entry k g) temporary x t d e = absurd (false≢true e)
  same-depth (entry k g) (entry j u) x t d e =
      let z = eqb-true (stamp s.table k) g (and_l (eqb (stamp s.table k) g) _ (and_r (eqb k j) _ e)) in
      omega (arith, d, ap (λ (y : Node). y.level) (h.step-b.same k (z ∙ sym t.now)))

  by_rule-deep : (size : ℕ) (both same barred : Bool) (known new : ℕ) → both_terminal a b ≡ both → same_entry s a b ≡ same
      → half_barred s a b ≡ barred → found s i a b ≡ known → new_number size s a b ≡ new
      → Deep n i (by_rule both same barred known new i a b s)
  unfolding by_rule
  by_rule-deep size true same barred known new e₁ e₂ e₃ e₄ e₅ = record { normal = nm; depth = tt }
  by_rule-deep size false true barred known new e₁ e₂ e₃ e₄ e₅ =
      record {
        normal = nm;
        depth = same-depth a.ref b.ref a.text h.told-a da (and_l (same_number s a.ref b.ref) _ e₂);
      }
  by_rule-deep size false false true known new e₁ e₂ e₃ e₄ e₅ = record { normal = nm; depth = tt }
  by_rule-deep size false false false (suc k) new e₁ e₂ e₃ e₄ e₅ =
      record { normal = nm; depth = omega (arith, (find-matches s i (child a.ref) (child b.ref) (edge a b) k e₄).level) }
  by_rule-deep size false false false zero (suc k) e₁ e₂ e₃ e₄ e₅ =
      let able = next-able size s (child a.ref) (child b.ref) k h.sound (a-known i s₀ s₁ s a b h)
      (b-known i s₀ s₁ s a b h) e₅ in
      record {
        normal = stored-normal n s (suc k) i (child a.ref) (child b.ref) (edge a b) h.sound able nm (fit k e₁ e₂ e₃ e₄);
        depth =
            omega (
              arith,
              ap (λ (x : Node). x.level) (stored_same s (suc k) i (child a.ref) (child b.ref) (edge a b) h.sound able),
            );
      }
  by_rule-deep size false false false zero zero e₁ e₂ e₃ e₄ e₅ = record { normal = nm; depth = tt }

  pub meet-deep : (size : ℕ) → Deep n i (meet size i a b s)
  unfolding meet
  meet-deep size =
      by_rule-deep size (both_terminal a b) (same_entry s a b) (half_barred s a b) (found s i a b)
      (new_number size s a b) refl refl refl refl refl

-- every part leaves a normal table
pub part-deep : (n size m i at : ℕ) (f : ℕ → Bool) (s : State) → Sound s → Normal n s → 0 < i → i + m ≡ suc n
    → Deep n i (part size m i at f s)
unfolding part
part-deep n size zero i at f s h nm r e = record { normal = nm; depth = tt }
part-deep n size (suc m) i at f s h nm r e =
    let a = first_half size m i at f s in
    let b = second_half size m i at f s in
    let p = part-deep n size m (suc i) at f s h nm (omega arith) (omega arith) in
    let q = part-deep n size m (suc i) (at + 2 ^ m) f a.state (part-good size m (suc i) at f s h).sound p.normal
    (omega arith) (omega arith) in
    meet-deep n i s a.state b.state a.part b.part (part-halves size m i at f s h) q.normal p.depth q.depth r
    (omega arith) size

pub start-normal : (n : ℕ) → Normal n start
start-normal n =
    record {
      ground = refl;
      low = λ p. omega (arith, flat p);
      deeper = λ p c st. absurd (omega (arith, flat p));
      reduced = λ p st. absurd (omega (arith, flat p));
      unique = λ p q st. absurd (omega (arith, flat p));
    }
  where
    flat : (p : ℕ) → (node start.table p).level ≡ 0
    flat zero = refl
    flat (suc p) = refl
