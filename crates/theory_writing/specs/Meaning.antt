-- What a number of the table stands for, and that a part which is not temporary stands for its function.
use Rattle.std.specs.Prelude.{◌≡◌, ◌⊎◌, Bool, not, List, eqb}
use Rattle.std.proofs.Math.Path.{refl, ap, subst, subst⁻¹}
use Rattle.std.proofs.Common.{sym, ◌∙◌, true≢false, arith, eqb-true}
use Rattle.std.proofs.Math.Logic.{inl, inr}
use Rattle.std.proofs.Math.Bool.{true, false}
use Rattle.std.proofs.lemmas.Bool.{false≢true, not-false}
use Prim.Native.Nat.{ℕ, zero, suc, ◌+◌, ◌≤◌, ◌<◌, ◌^◌}
use Rattle.theory_lists.specs.Lists.{differ, and_l, and_r, or_l, or_r, not-and, differ-false, differ-twice}
use Rattle.theory_reading.specs.Nodes.{Ref, terminal, entry, temporary, is_kept, child, Node, node, stamp, bars}
use Rattle.theory_writing.specs.UniqueTable.{State, stored}
use Rattle.theory_writing.specs.Rules.{Text, Part, edge, is_terminal, same_number, both_terminal, same_entry, half_barred, found, new_number, by_rule}
use Rattle.theory_writing.specs.Rules.{meet, part}
use Rattle.theory_writing.specs.Storing.{Sound, first-child, second-child, stored_same, stored_other}
use Rattle.theory_writing.specs.Steps.{Step, step-stored, Told, next-able, find-matches, Halves, a-known, b-known, first_half, second_half}
use Rattle.theory_writing.specs.Steps.{part-good, part-halves}
use Rattle.theory_writing.specs.Normal.{Normal, Depth, a-deep, part-deep}

-- ---- What a number stands for ----------------------------------------------------------------

-- Number k (0 the constant no), complemented if t, decides the words at .. at + 2 ^ m - 1 as f does; i is the level, m the options left.
-- Either k's level is still to come and both halves are k, or this is k's level and the halves are its children.
unfoldable pub Is : List Node → (ℕ → Bool) → ℕ → ℕ → ℕ → Bool → ℕ → Type 0
Is ns f zero i k t at = (k ≡ 0) × (f at ≡ t)
Is ns f (suc m) i k t at =
    let x = node ns k in
    ((0 < k → i < x.level) × Is ns f m (suc i) k t at × Is ns f m (suc i) k t (at + 2 ^ m))
    ⊎ ((0 < k) × (x.level ≡ i) × Is ns f m (suc i) x.first t at
    × Is ns f m (suc i) x.second (differ t x.complement) (at + 2 ^ m))

-- a number not given out again still stands for what it stood for
pub is_carried : (j : ℕ) (s s' : State) → Step j s s' → (f : ℕ → Bool) (m i k : ℕ) (t : Bool) (at : ℕ)
    → (0 < k → stamp s'.table k ≡ stamp s.table k) → Is s.table f m i k t at → Is s'.table f m i k t at
unfolding Is
is_carried j s s' st f zero i k t at e h = h
is_carried j s s' st f (suc m) i k t at e (inl h) =
    inl (
      (λ r. omega (arith, h.0 r, ap (λ (x : Node). x.level) (st.same k (e r)))),
      is_carried j s s' st f m (suc i) k t at e h.1,
      is_carried j s s' st f m (suc i) k t (at + 2 ^ m) e h.2,
    )
is_carried j s s' st f (suc m) i k t at e (inr h) =
    inr (subst⁻¹ (λ (x : Node). (0 < k) × (x.level ≡ i) × Is s'.table f m (suc i) x.first t at
    × Is s'.table f m (suc i) x.second (differ t x.complement) (at + 2 ^ m)) (st.same k (e h.0)) (
      h.0,
      h.1,
      is_carried j s s' st f m (suc i) (node s.table k).first t at
          (λ r. st.child k (node s.table k).first (e h.0) (first-child (node s.table k))) h.2,
      is_carried j s s' st f m (suc i) (node s.table k).second (differ t (node s.table k).complement) (at + 2 ^ m)
          (λ r. st.child k (node s.table k).second (e h.0) (second-child (node s.table k))) h.3,
    ))

-- and what it stands for now it stood for then
pub is-back : (j : ℕ) (s s' : State) → Step j s s' → (f : ℕ → Bool) (m i k : ℕ) (t : Bool) (at : ℕ)
    → (0 < k → stamp s'.table k ≡ stamp s.table k) → Is s'.table f m i k t at → Is s.table f m i k t at
unfolding Is
is-back j s s' st f zero i k t at e h = h
is-back j s s' st f (suc m) i k t at e (inl h) =
    inl (
      (λ r. omega (arith, h.0 r, ap (λ (x : Node). x.level) (st.same k (e r)))),
      is-back j s s' st f m (suc i) k t at e h.1,
      is-back j s s' st f m (suc i) k t (at + 2 ^ m) e h.2,
    )
is-back j s s' st f (suc m) i k t at e (inr h) =
    let h' = subst (λ (x : Node). (0 < k) × (x.level ≡ i) × Is s'.table f m (suc i) x.first t at
    × Is s'.table f m (suc i) x.second (differ t x.complement) (at + 2 ^ m)) (st.same k (e h.0)) h in
    inr (
      h.0,
      h'.1,
      is-back j s s' st f m (suc i) (node s.table k).first t at
          (λ r. st.child k (node s.table k).first (e h.0) (first-child (node s.table k))) h'.2,
      is-back j s s' st f m (suc i) (node s.table k).second (differ t (node s.table k).complement) (at + 2 ^ m)
          (λ r. st.child k (node s.table k).second (e h.0) (second-child (node s.table k))) h'.3,
    )

-- ---- A kept part stands for its function -----------------------------------------------------

-- a part, unless it is temporary, stands for f
abbrev pub Means : State → (ℕ → Bool) → ℕ → ℕ → ℕ → Part → Type 0
Means s f m i at p = is_kept p.ref ≡ true → Is s.table f m i (child p.ref) p.complement at

pub bars-kept : (s : State) (w : Ref) → bars s.table w ≡ false → is_kept w ≡ true
bars-kept s terminal e = refl
bars-kept s (entry k g) e = refl
bars-kept s temporary e = absurd (true≢false e)

pub stamp-held : (s₀ s₁ s : State) (w : Ref) (x : Text) → Told s₀ s₁ w x → bars s.table w ≡ false → 0 < child w
    → stamp s.table (child w) ≡ stamp s₁.table (child w)
stamp-held s₀ s₁ s terminal x t e r = absurd (omega arith)
stamp-held s₀ s₁ s (entry k g) x t e r = eqb-true (stamp s.table k) g (not-false (eqb (stamp s.table k) g) e) ∙ sym t.now
stamp-held s₀ s₁ s temporary x t e r = absurd (true≢false e)

terminal-facts : (s : State) (w : Ref) → is_terminal w ≡ true → (bars s.table w ≡ false) × (child w ≡ 0)
terminal-facts s terminal e = (refl, refl)
terminal-facts s (entry k g) e = absurd (false≢true e)
terminal-facts s temporary e = absurd (false≢true e)

pub same-facts : (s : State) (v w : Ref) → same_number s v w ≡ true → (bars s.table v ≡ false) × (bars s.table w ≡ false)
    × (child w ≡ child v)
same-facts s terminal w e = absurd (false≢true e)
same-facts s temporary w e = absurd (false≢true e)
same-facts s (entry k g) terminal e = absurd (false≢true e)
same-facts s (entry k g) temporary e = absurd (false≢true e)
same-facts s (entry k g) (entry j u) e = (
  ap not (and_l (eqb (stamp s.table k) g) _ (and_r (eqb k j) _ e)),
  ap not (and_r (eqb (stamp s.table k) g) _ (and_r (eqb k j) _ e)),
  sym (eqb-true k j (and_l (eqb k j) _ e)),
)

module _ (n m i at : ℕ) (f : ℕ → Bool) (s₀ s₁ s : State) (a b : Part) (h : Halves i s₀ s₁ s a b) (nm : Normal n s)
    (da : Depth (suc i) s₁ a.ref) (db : Depth (suc i) s b.ref)
    (r : 0 < i) (l : i ≤ n) (ma : Means s₁ f m (suc i) at a) (mb : Means s f m (suc i) (at + 2 ^ m) b) where
  is-a : bars s.table a.ref ≡ false → Is s.table f m (suc i) (child a.ref) a.complement at
  is-a e =
      is_carried (suc i) s₁ s h.step-b f m (suc i) (child a.ref) a.complement at
      (stamp-held s₀ s₁ s a.ref a.text h.told-a e) (ma (bars-kept s a.ref e))

  is_b : bars s.table b.ref ≡ false → Is s.table f m (suc i) (child b.ref) b.complement (at + 2 ^ m)
  is_b e = mb (bars-kept s b.ref e)

  at-node : (s' : State) (k : ℕ) → 0 < k → (node s'.table k).level ≡ i → (node s'.table k).first ≡ child a.ref
      → (node s'.table k).second ≡ child b.ref → (node s'.table k).complement ≡ edge a b
      → Is s'.table f m (suc i) (child a.ref) a.complement at
      → Is s'.table f m (suc i) (child b.ref) b.complement (at + 2 ^ m) → Is s'.table f (suc m) i k a.complement at
  unfolding Is
  at-node s' k z lv e₁ e₂ e₃ p q =
      inr (
        z,
        lv,
        subst⁻¹ (λ (c : ℕ). Is s'.table f m (suc i) c a.complement at) e₁ p,
        subst⁻¹
            (λ (c : ℕ). Is s'.table f m (suc i) c (differ a.complement (node s'.table k).complement) (at + 2 ^ m)) e₂
            (subst⁻¹ (λ (t : Bool). Is s'.table f m (suc i) (child b.ref) t (at + 2 ^ m))
            (ap (differ a.complement) e₃ ∙ differ-twice a.complement b.complement) q),
      )

  by_rule-means : (size : ℕ) (both same barred : Bool) (known new : ℕ) → both_terminal a b ≡ both → same_entry s a b ≡ same
      → half_barred s a b ≡ barred → found s i a b ≡ known → new_number size s a b ≡ new
      → Means (by_rule both same barred known new i a b s).state f (suc m) i at (by_rule both same barred known new i a b s).part
  unfolding by_rule Is
  by_rule-means size true same barred known new e₁ e₂ e₃ e₄ e₅ z =
      let ca = terminal-facts s a.ref (and_l (is_terminal a.ref) _ e₁) in
      let e = and_r (is_terminal a.ref) _ e₁ in
      let cb = terminal-facts s b.ref (and_l (is_terminal b.ref) _ e) in
      inl (
        (λ q. absurd (omega arith)),
        subst (λ (c : ℕ). Is s.table f m (suc i) c a.complement at) ca.1 (is-a ca.0),
        subst (λ (c : ℕ). Is s.table f m (suc i) c a.complement (at + 2 ^ m)) cb.1 (subst⁻¹
            (λ (t : Bool). Is s.table f m (suc i) (child b.ref) t (at + 2 ^ m))
            (differ-false a.complement b.complement (not-and (is_terminal b.ref) (edge a b) e)) (is_b cb.0)),
      )
  by_rule-means size false true barred known new e₁ e₂ e₃ e₄ e₅ z =
      let c = same-facts s a.ref b.ref (and_l (same_number s a.ref b.ref) _ e₂) in
      inl (
        a-deep n i s₀ s₁ s a b h nm da db r l c.0,
        is-a c.0,
        subst (λ (k : ℕ). Is s.table f m (suc i) k a.complement (at + 2 ^ m)) c.2 (subst⁻¹
            (λ (t : Bool). Is s.table f m (suc i) (child b.ref) t (at + 2 ^ m))
            (differ-false a.complement b.complement (not-and (same_number s a.ref b.ref) (edge a b) e₂)) (is_b c.1)),
      )
  by_rule-means size false false true known new e₁ e₂ e₃ e₄ e₅ z = absurd (false≢true z)
  by_rule-means size false false false (suc k) new e₁ e₂ e₃ e₄ e₅ z =
      let p = find-matches s i (child a.ref) (child b.ref) (edge a b) k e₄ in
      at-node s (suc k) (omega arith) p.level p.first p.second p.complement
      (is-a (or_l (bars s.table a.ref) _ e₃)) (is_b (or_r (bars s.table a.ref) _ e₃))
  by_rule-means size false false false zero (suc k) e₁ e₂ e₃ e₄ e₅ z =
      let ca = child a.ref in let cb = child b.ref in let t = edge a b in
      let able = next-able size s ca cb k h.sound (a-known i s₀ s₁ s a b h) (b-known i s₀ s₁ s a b h) e₅ in
      let new = stored_same s (suc k) i ca cb t h.sound able in
      let st = step-stored s (suc k) i ca cb t h.sound able in
      at-node (stored s (suc k) i ca cb t) (suc k) (omega arith) (ap (λ (x : Node). x.level) new)
      (ap (λ (x : Node). x.first) new) (ap (λ (x : Node). x.second) new) (ap (λ (x : Node). x.complement) new)
      (is_carried i s _ st f m (suc i) ca a.complement at
      (λ q. ap (λ (x : Node). x.stamp) (stored_other s (suc k) i ca cb t h.sound able ca able.not_a))
      (is-a (or_l (bars s.table a.ref) _ e₃)))
      (is_carried i s _ st f m (suc i) cb b.complement (at + 2 ^ m)
      (λ q. ap (λ (x : Node). x.stamp) (stored_other s (suc k) i ca cb t h.sound able cb able.not-b))
      (is_b (or_r (bars s.table a.ref) _ e₃)))
  by_rule-means size false false false zero zero e₁ e₂ e₃ e₄ e₅ z = absurd (false≢true z)

  pub meet-means : (size : ℕ) → Means (meet size i a b s).state f (suc m) i at (meet size i a b s).part
  unfolding meet
  meet-means size =
      by_rule-means size (both_terminal a b) (same_entry s a b) (half_barred s a b) (found s i a b)
      (new_number size s a b) refl refl refl refl refl

pub part-means : (n size m i at : ℕ) (f : ℕ → Bool) (s : State) → Sound s → Normal n s → 0 < i → i + m ≡ suc n
    → Means (part size m i at f s).state f m i at (part size m i at f s).part
unfolding part Is
part-means n size zero i at f s h nm r e = λ z. (refl, refl)
part-means n size (suc m) i at f s h nm r e =
    let a = first_half size m i at f s in
    let b = second_half size m i at f s in
    let g = part-good size m (suc i) at f s h in
    let p = part-deep n size m (suc i) at f s h nm (omega arith) (omega arith) in
    let q = part-deep n size m (suc i) (at + 2 ^ m) f a.state g.sound p.normal (omega arith) (omega arith) in
    meet-means n m i at f s a.state b.state a.part b.part (part-halves size m i at f s h) q.normal p.depth
    q.depth r (omega arith)
    (part-means n size m (suc i) at f s h nm (omega arith) (omega arith))
    (part-means n size m (suc i) (at + 2 ^ m) f a.state g.sound p.normal (omega arith) (omega arith)) size
