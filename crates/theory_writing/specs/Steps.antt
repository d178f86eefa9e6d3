-- What a part does to the state, and what it tells of its text: stamps only grow; an equal stamp means the same node with equal stamps
-- below; a number given out inside a part of level i has level i or more. So rules 1, 2 and 4 drop no text in which a two-child node
-- was written out.
use Rattle.std.specs.Prelude.{◌≡◌, ◌≢◌, Bool, List, [], ◌∷◌, leb, eqb, length}
use Rattle.std.proofs.Math.Path.{refl, ap}
use Rattle.std.proofs.Common.{sym, ◌∙◌, subst, ⊎_elim, true≢false, arith, eqb-true}
use Rattle.std.proofs.Math.Bool.{true, false}
use Rattle.std.proofs.lemmas.Bool.{false≢true, not-false}
use Prim.Native.Nat.{ℕ, zero, suc, ◌+◌, ◌≤◌, ◌<◌, ◌^◌}
use Rattle.theory_lists.specs.Lists.{and_l, and_r, or_l, or_r, not-differ-true, decide_eq, decide-le}
use Rattle.theory_reading.specs.Nodes.{Ref, terminal, entry, temporary, child, Node, no_node, node, stamp, is_child, bars}
use Rattle.theory_writing.specs.UniqueTable.{State, start, fits, find, first_free, next_number, stored}
use Rattle.theory_writing.specs.Rules.{Text, number, one, two, Part, Done, edge, is_terminal, same_number, both_terminal, same_entry, half_barred}
use Rattle.theory_writing.specs.Rules.{found, new_number, by_rule, meet, part}
use Rattle.theory_writing.specs.Storing.{all-first_free, Parentless, Free, Sound, Able, child-either, first-child, second-child, stored_same}
use Rattle.theory_writing.specs.Storing.{stored_other, stored-longer, stored-sound}

-- ---- What a part of level i does to the state ------------------------------------------------

-- from the state s to s'
pub record Step (i : ℕ) (s s' : State) : Type 0 where
  pub longer : length s.table ≤ length s'.table
  pub more : (k : ℕ) → stamp s.table k ≤ stamp s'.table k
  pub same : (k : ℕ) → stamp s'.table k ≡ stamp s.table k → node s'.table k ≡ node s.table k
  -- a number that is a stored node's child is not given out again while that node is stored
  pub child : (k c : ℕ) → stamp s'.table k ≡ stamp s.table k → is_child c (node s.table k) ≡ true
      → stamp s'.table c ≡ stamp s.table c
  pub deep : (k : ℕ) → stamp s.table k < stamp s'.table k → i ≤ (node s'.table k).level

pub step-refl : (i : ℕ) (s : State) → Step i s s
step-refl i s =
    record {
      longer = omega arith;
      more = λ k. omega arith;
      same = λ k e. refl;
      child = λ k c e d. refl;
      deep = λ k e. absurd (omega arith);
    }

pub step-trans : (i : ℕ) (s t u : State) → Step i s t → Step i t u → Step i s u
step-trans i s t u p q = record {
  longer = omega (arith, p.longer, q.longer);
  more = λ k. omega (arith, p.more k, q.more k);
  same = λ k e. q.same k (late k e) ∙ p.same k (early k e);
  child = λ k c e d. q.child k c (late k e) (ap (is_child c) (p.same k (early k e)) ∙ d) ∙ p.child k c (early k e) d;
  deep =
      λ k e. ⊎_elim (λ (z : stamp u.table k ≡ stamp t.table k). subst (λ (x : Node). i ≤ x.level) (sym (q.same k z))
      (p.deep k (omega (arith, z, e))))
      (λ z. q.deep k (omega (arith, z, q.more k))) (decide_eq (stamp u.table k) (stamp t.table k));
}
  where
    early : (k : ℕ) → stamp u.table k ≡ stamp s.table k → stamp t.table k ≡ stamp s.table k
    early k e = omega (arith, p.more k, q.more k, e)

    late : (k : ℕ) → stamp u.table k ≡ stamp s.table k → stamp u.table k ≡ stamp t.table k
    late k e = omega (arith, p.more k, q.more k, e)

pub step-weaken : (i : ℕ) (s t : State) → Step (suc i) s t → Step i s t
step-weaken i s t p =
    record { longer = p.longer; more = p.more; same = p.same; child = p.child; deep = λ k e. omega (arith, p.deep k e) }

-- a node of a lower level was not stored in this part
pub step-lower : (i : ℕ) (s s' : State) → Step (suc i) s s' → (k : ℕ) → (node s'.table k).level ≡ i
    → stamp s'.table k ≡ stamp s.table k
step-lower i s s' st k lv =
    ⊎_elim (λ (z : stamp s'.table k ≤ stamp s.table k). omega (arith, z, st.more k))
    (λ z. absurd (omega (arith, st.deep k z, lv)))
    (decide-le (stamp s'.table k) (stamp s.table k))

pub step-stored : (s : State) (k i a b : ℕ) (t : Bool) → Sound s → Able s k a b → Step i s (stored s k i a b t)
step-stored s k i a b t h able = record {
  longer = (stored-longer s k i a b t h able).0;
  more =
      λ p. ⊎_elim (λ (e : p ≡ k). omega (arith, at-k p e))
      (λ (d : p ≢ k). omega (arith, ap (λ (x : Node). x.stamp) (stored_other s k i a b t h able p d))) (decide_eq p k);
  same = λ p e. stored_other s k i a b t h able p (apart p e);
  child =
      λ p c e d. ap (λ (x : Node). x.stamp) (stored_other s k i a b t h able c
      (λ z. true≢false (sym d ∙ ap (λ (j : ℕ). is_child j (node s.table p)) z ∙ able.alone p)));
  deep =
      λ p e. ⊎_elim (λ (z : p ≡ k). omega (
        arith,
        ap (λ (j : ℕ). (node (stored s k i a b t).table j).level) z,
        ap (λ (x : Node). x.level) (stored_same s k i a b t h able),
      ))
      (λ (d : p ≢ k). absurd (omega (arith, e, ap (λ (x : Node). x.stamp) (stored_other s k i a b t h able p d))))
      (decide_eq p k);
}
  where
    at-k : (p : ℕ) → p ≡ k → stamp (stored s k i a b t).table p ≡ suc (stamp s.table p)
    at-k p e =
        ap (λ (j : ℕ). stamp (stored s k i a b t).table j) e ∙ ap (λ (x : Node). x.stamp) (stored_same s k i a b t h able)
        ∙ ap (λ (j : ℕ). suc (stamp s.table j)) (sym e)

    apart : (p : ℕ) → stamp (stored s k i a b t).table p ≡ stamp s.table p → p ≢ k
    apart p e z = omega (arith, at-k p z, e)

-- ---- What a part tells -----------------------------------------------------------------------

-- no two-child node written out
abbrev pub plain : Text → Bool
plain (number k) = true
plain (one x) = plain x
plain (two x t y k) = false

-- of a part that came to number k
pub record Entered (s s' : State) (k g : ℕ) (x : Text) : Type 0 where
  pub real : 0 < k
  pub known : k < length s'.table
  pub now : stamp s'.table k ≡ g
  -- a node written out got its number in this part
  pub fresh : plain x ≡ false → stamp s.table k < g

-- of a part between the states s and s'
abbrev pub Told : State → State → Ref → Text → Type 0
Told s s' terminal x = x ≡ number 0
Told s s' (entry k g) x = Entered s s' k g x
Told s s' temporary x = Unit {0}

-- a part of level i, done from the state s
pub record Good (i : ℕ) (s : State) (d : Done) : Type 0 where
  pub sound : Sound d.state
  pub step : Step i s d.state
  pub told : Told s d.state d.part.ref d.part.text

-- ---- Rule 5 gives out only what may be given out ---------------------------------------------

beyond : (s : State) → Sound s → (k : ℕ) → length s.table ≤ k → Parentless s.table k
beyond s h k l p = go (is_child k (node s.table p)) refl
  where
    go : (t : Bool) → is_child k (node s.table p) ≡ t → is_child k (node s.table p) ≡ false
    go true e = absurd (omega (arith, h.children p k e))
    go false e = e

pub next-able : (size : ℕ) (s : State) (a b k : ℕ) → Sound s → a < length s.table → b < length s.table
    → next_number size s a b ≡ suc k → Able s (suc k) a b
unfolding next_number
next-able size s a b k h la lb e = go (leb (length s.table) size) e
  where
    go : (t : Bool) → elim t as (λ _. ℕ) [ true ↦ length s.table | false ↦ first_free s.queue a b ] ≡ suc k
        → Able s (suc k) a b
    go true r =
        record {
          alone = beyond s h (suc k) (omega (arith, r));
          room = omega (arith, r);
          real = omega arith;
          not_a = λ z. omega (arith, la, r, z);
          not-b = λ z. omega (arith, lb, r, z);
          a-known = la;
          b-known = lb;
        }
    go false r = let f = all-first_free (Free s.table) s.queue a b k h.waiting r in
        record {
          alone = f.0.alone;
          room = omega (arith, f.0.known);
          real = omega arith;
          not_a = f.1;
          not-b = f.2;
          a-known = la;
          b-known = lb;
        }

-- ---- Rule 4 finds what fits ------------------------------------------------------------------

find-fits : (ns : List Node) (k i a b : ℕ) (t : Bool) (r : ℕ) → find ns k i a b t ≡ suc r → (j : ℕ) × (suc r ≡ k + j)
    × (j < length ns) × (fits i a b t (node ns j) ≡ true)
unfolding find
find-fits [] k i a b t r e = absurd (let z : ◌≡◌ {A = ℕ} 0 (suc r) = e in omega arith)
find-fits (x ∷ xs) k i a b t r e = go (fits i a b t x) refl e (λ q. find-fits xs (suc k) i a b t r q)
  where
    go : (u : Bool) → fits i a b t x ≡ u → elim u as (λ _. ℕ) [ true ↦ k | false ↦ find xs (suc k) i a b t ] ≡ suc r
        → (find xs (suc k) i a b t ≡ suc r → (j : ℕ) × (suc r ≡ suc k + j) × (j < length xs) × (fits i a b t (node xs j) ≡ true))
        → (j : ℕ) × (suc r ≡ k + j) × (j < length (x ∷ xs)) × (fits i a b t (node (x ∷ xs) j) ≡ true)
    go true e q ih = (0, omega (arith, q), omega arith, e)
    go false e q ih = let z = ih q in (suc z.0, omega (arith, z.1), omega (arith, z.2), z.3)

pub record Matches (s : State) (k i a b : ℕ) (t : Bool) : Type 0 where
  pub known : k < length s.table
  pub level : (node s.table k).level ≡ i
  pub first : (node s.table k).first ≡ a
  pub second : (node s.table k).second ≡ b
  pub complement : (node s.table k).complement ≡ t

pub find-matches : (s : State) (i a b : ℕ) (t : Bool) (r : ℕ) → find s.table 0 i a b t ≡ suc r → Matches s (suc r) i a b t
find-matches s i a b t r e = let z = find-fits s.table 0 i a b t r e in all z.0 z.1 z.2 z.3
  where
    at : (j : ℕ) → j < length s.table → fits i a b t (node s.table j) ≡ true → Matches s j i a b t
    at j l f =
        let x = node s.table j in
        let f₁ = and_r (eqb x.level i) _ f in
        let f₂ = and_r (eqb x.first a) _ f₁ in
        record {
          known = l;
          level = eqb-true x.level i (and_l (eqb x.level i) _ f);
          first = eqb-true x.first a (and_l (eqb x.first a) _ f₁);
          second = eqb-true x.second b (and_l (eqb x.second b) _ f₂);
          complement = not-differ-true x.complement t (and_r (eqb x.second b) _ f₂);
        }

    all : (j : ℕ) → suc r ≡ 0 + j → j < length s.table → fits i a b t (node s.table j) ≡ true → Matches s (suc r) i a b t
    all j p l f = subst (λ (k : ℕ). Matches s k i a b t) (sym (omega (arith, p))) (at j l f)

-- ---- Two halves that meet --------------------------------------------------------------------

-- a from s₀ to s₁, then b from s₁ to s
pub record Halves (i : ℕ) (s₀ s₁ s : State) (a b : Part) : Type 0 where
  pub sound-a : Sound s₁
  pub sound : Sound s
  pub step-a : Step (suc i) s₀ s₁
  pub step-b : Step (suc i) s₁ s
  pub told-a : Told s₀ s₁ a.ref a.text
  pub told-b : Told s₁ s b.ref b.text

told-known : (s s' : State) (w : Ref) (x : Text) → 0 < length s'.table → Told s s' w x → child w < length s'.table
told-known s s' terminal x h t = h
told-known s s' (entry k g) x h t = t.known
told-known s s' temporary x h t = h

-- A number that a stored node of a lower level has as child was not given out in this part: so nothing was written out.
child-plain : (i : ℕ) (s₀ s₁ s : State) (w : Ref) (x : Text) (p : ℕ) → Step (suc i) s₀ s → Told s₀ s₁ w x
    → bars s.table w ≡ false
    → (node s.table p).level ≡ i → is_child (child w) (node s.table p) ≡ true → plain x ≡ true
child-plain i s₀ s₁ s terminal x p st t nb lv c = ap plain t
child-plain i s₀ s₁ s temporary x p st t nb lv c = absurd (true≢false nb)
child-plain i s₀ s₁ s (entry k g) x p st t nb lv c = go (plain x) refl
  where
    old : stamp s.table p ≡ stamp s₀.table p
    old = step-lower i s₀ s st p lv

    go : (u : Bool) → plain x ≡ u → plain x ≡ true
    go true e = e
    go false e =
        absurd (omega (
          arith,
          t.fresh e,
          st.child p k old (ap (is_child k) (sym (st.same p old)) ∙ c),
          eqb-true (stamp s.table k) g (not-false (eqb (stamp s.table k) g) nb),
        ))

same-plain : (s₀ s₁ s : State) (v w : Ref) (x y : Text) → Told s₀ s₁ v x → Told s₁ s w y → same_number s v w ≡ true
    → plain y ≡ true
same-plain s₀ s₁ s terminal w x y ta tb e = absurd (false≢true e)
same-plain s₀ s₁ s temporary w x y ta tb e = absurd (false≢true e)
same-plain s₀ s₁ s (entry k g) terminal x y ta tb e = absurd (false≢true e)
same-plain s₀ s₁ s (entry k g) temporary x y ta tb e = absurd (false≢true e)
same-plain s₀ s₁ s (entry k g) (entry j h) x y ta tb e = go (plain y) refl
  where
    e₁ : k ≡ j
    e₁ = eqb-true k j (and_l (eqb k j) _ e)

    e₂ : stamp s.table k ≡ g
    e₂ = eqb-true (stamp s.table k) g (and_l (eqb (stamp s.table k) g) _ (and_r (eqb k j) _ e))

    e₃ : stamp s.table j ≡ h
    e₃ = eqb-true (stamp s.table j) h (and_r (eqb (stamp s.table k) g) _ (and_r (eqb k j) _ e))

    go : (u : Bool) → plain y ≡ u → plain y ≡ true
    go true q = q
    go false q = absurd (omega (arith, tb.fresh q, ta.now, e₂, e₃, ap (stamp s.table) e₁, ap (stamp s₁.table) e₁))

same-told : (s₀ s₁ s : State) (v w : Ref) (x : Text) → length s₁.table ≤ length s.table → Told s₀ s₁ v x
    → same_number s v w ≡ true → Told s₀ s v (one x)
same-told s₀ s₁ s terminal w x l t e = absurd (false≢true e)
same-told s₀ s₁ s temporary w x l t e = absurd (false≢true e)
same-told s₀ s₁ s (entry k g) terminal x l t e = absurd (false≢true e)
same-told s₀ s₁ s (entry k g) temporary x l t e = absurd (false≢true e)
same-told s₀ s₁ s (entry k g) (entry j h) x l t e =
    record {
      real = t.real;
      known = omega (arith, t.known, l);
      now = eqb-true (stamp s.table k) g (and_l (eqb (stamp s.table k) g) _ (and_r (eqb k j) _ e));
      fresh = t.fresh;
    }

pub terminal-plain : (s s' : State) (w : Ref) (x : Text) → Told s s' w x → is_terminal w ≡ true → plain x ≡ true
terminal-plain s s' terminal x t e = ap plain t
terminal-plain s s' (entry k g) x t e = absurd (false≢true e)
terminal-plain s s' temporary x t e = absurd (false≢true e)

-- Rules 1, 2 and 4 drop no text in which a two-child node was written out.
module _ (i : ℕ) (s₀ s₁ s : State) (a b : Part) (h : Halves i s₀ s₁ s a b) where
  step : Step (suc i) s₀ s
  step = step-trans (suc i) s₀ s₁ s h.step-a h.step-b

  pub both_terminal-plain : both_terminal a b ≡ true → (plain a.text ≡ true) × (plain b.text ≡ true)
  both_terminal-plain e = (
    terminal-plain s₀ s₁ a.ref a.text h.told-a (and_l (is_terminal a.ref) _ e),
    terminal-plain s₁ s b.ref b.text h.told-b (and_l (is_terminal b.ref) _ (and_r (is_terminal a.ref) _ e)),
  )

  pub same_entry-plain : same_entry s a b ≡ true → plain b.text ≡ true
  same_entry-plain e =
      same-plain s₀ s₁ s a.ref b.ref a.text b.text h.told-a h.told-b
      (and_l (same_number s a.ref b.ref) _ e)

  pub found_plain : (k : ℕ) → half_barred s a b ≡ false → found s i a b ≡ suc k → (plain a.text ≡ true)
      × (plain b.text ≡ true)
  found_plain k nb e =
      let f = find-matches s i (child a.ref) (child b.ref) (edge a b) k e in (
        child-plain i s₀ s₁ s a.ref a.text (suc k) step h.told-a (or_l (bars s.table a.ref) _ nb) f.level
            (ap (λ (c : ℕ). is_child c (node s.table (suc k))) (sym f.first) ∙ first-child (node s.table (suc k))),
        child-plain i s₁ s s b.ref b.text (suc k) h.step-b h.told-b (or_r
            (bars s.table a.ref) _ nb) f.level (ap (λ (c : ℕ). is_child c (node s.table (suc k))) (sym f.second)
            ∙ second-child (node s.table (suc k))),
      )

  pub a-known : child a.ref < length s.table
  a-known = omega (arith, told-known s₀ s₁ a.ref a.text h.sound-a.some-place h.told-a, h.step-b.longer)

  pub b-known : child b.ref < length s.table
  b-known = told-known s₁ s b.ref b.text h.sound.some-place h.told-b

  -- kept by every rule
  by_rule-good : (size : ℕ) (both same barred : Bool) (known new : ℕ) → both_terminal a b ≡ both → same_entry s a b ≡ same
      → half_barred s a b ≡ barred → found s i a b ≡ known → new_number size s a b ≡ new
      → Good i s₀ (by_rule both same barred known new i a b s)
  unfolding by_rule
  by_rule-good size true same barred known new e₁ e₂ e₃ e₄ e₅ =
      record { sound = h.sound; step = step-weaken i s₀ s step; told = refl }
  by_rule-good size false true barred known new e₁ e₂ e₃ e₄ e₅ = record {
    sound = h.sound;
    step = step-weaken i s₀ s step;
    told =
        same-told s₀ s₁ s a.ref b.ref a.text h.step-b.longer h.told-a
        (and_l (same_number s a.ref b.ref) _ e₂);
  }
  by_rule-good size false false true known new e₁ e₂ e₃ e₄ e₅ =
      record { sound = h.sound; step = step-weaken i s₀ s step; told = tt }
  by_rule-good size false false false (suc k) new e₁ e₂ e₃ e₄ e₅ = record {
    sound = h.sound;
    step = step-weaken i s₀ s step;
    told =
        record {
          real = omega arith;
          known = (find-matches s i (child a.ref) (child b.ref) (edge a b) k e₄).known;
          now = refl;
          fresh = λ z. absurd (true≢false z);
        };
  }
  by_rule-good size false false false zero (suc k) e₁ e₂ e₃ e₄ e₅ =
      let able = next-able size s (child a.ref) (child b.ref) k h.sound a-known b-known e₅ in
      record {
        sound = stored-sound s (suc k) i (child a.ref) (child b.ref) (edge a b) h.sound able;
        step =
            step-trans i s₀ s _ (step-weaken i s₀ s step)
            (step-stored s (suc k) i (child a.ref) (child b.ref) (edge a b) h.sound able);
        told = record {
          real = omega arith;
          known = (stored-longer s (suc k) i (child a.ref) (child b.ref) (edge a b) h.sound able).1;
          now =
              ap (λ (x : Node). x.stamp) (stored_same s (suc k) i (child a.ref) (child b.ref) (edge a b) h.sound able);
          fresh = λ z. omega (arith, step.more (suc k));
        };
      }
  by_rule-good size false false false zero zero e₁ e₂ e₃ e₄ e₅ =
      record { sound = h.sound; step = step-weaken i s₀ s step; told = tt }

  pub meet-good : (size : ℕ) → Good i s₀ (meet size i a b s)
  unfolding meet
  meet-good size =
      by_rule-good size (both_terminal a b) (same_entry s a b) (half_barred s a b) (found s i a b)
      (new_number size s a b) refl refl refl refl refl

-- ---- Every part ------------------------------------------------------------------------------

-- the halves of a part, the second from the state after the first
abbrev pub first_half : ℕ → ℕ → ℕ → ℕ → (ℕ → Bool) → State → Done
first_half size m i at f s = part size m (suc i) at f s

abbrev pub second_half : ℕ → ℕ → ℕ → ℕ → (ℕ → Bool) → State → Done
second_half size m i at f s = part size m (suc i) (at + 2 ^ m) f (first_half size m i at f s).state

mutual-halves : (i : ℕ) (s₀ : State) (a b : Done) → Good (suc i) s₀ a → Good (suc i) a.state b
    → Halves i s₀ a.state b.state a.part b.part
mutual-halves i s₀ a b p q =
    record { sound-a = p.sound; sound = q.sound; step-a = p.step; step-b = q.step; told-a = p.told; told-b = q.told }

-- every part is good
pub part-good : (size m i at : ℕ) (f : ℕ → Bool) (s : State) → Sound s → Good i s (part size m i at f s)
unfolding part
part-good size zero i at f s h = record { sound = h; step = step-refl i s; told = refl }
part-good size (suc m) i at f s h =
    let a = first_half size m i at f s in
    let b = second_half size m i at f s in
    let p = part-good size m (suc i) at f s h in
    let q = part-good size m (suc i) (at + 2 ^ m) f a.state p.sound in
    meet-good i s a.state b.state a.part b.part (mutual-halves i s a b p q) size

pub part-halves : (size m i at : ℕ) (f : ℕ → Bool) (s : State) → Sound s
    → Halves i s (first_half size m i at f s).state (second_half size m i at f s).state (first_half size m i at f s).part
    (second_half size m i at f s).part
part-halves size m i at f s h =
    let a = first_half size m i at f s in
    let p = part-good size m (suc i) at f s h in
    mutual-halves i s a (second_half size m i at f s) p (part-good size m (suc i) (at + 2 ^ m) f a.state p.sound)

pub start-sound : Sound start
start-sound = record { some-place = omega arith; children = go; waiting = tt }
  where
    zero-node : (c : ℕ) → is_child c no_node ≡ true → c < 1
    zero-node c e = ⊎_elim (λ (z : 0 ≡ c). omega (arith, z)) (λ (z : 0 ≡ c). omega (arith, z)) (child-either c no_node e)

    go : (p c : ℕ) → is_child c (node start.table p) ≡ true → c < 1
    go zero c e = zero-node c e
    go (suc p) c e = zero-node c e
