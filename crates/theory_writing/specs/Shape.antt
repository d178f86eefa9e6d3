-- The shape of a part's text: its number, or the node that got it, inside as many brackets as there are levels skipped.
use Rattle.std.specs.Prelude.{◌≡◌, Bool, List, [], ◌∷◌, ◌++◌, eqb}
use Rattle.std.proofs.Math.Path.{refl, ap}
use Rattle.std.proofs.Common.{sym, ◌∙◌, arith, eqb-true}
use Rattle.std.proofs.Math.Bool.{true, false}
use Rattle.std.proofs.lemmas.Bool.{false≢true}
use Prim.Native.Nat.{ℕ, zero, suc, ◌+◌, ◌-◌, ◌<◌}
use Rattle.theory_lists.specs.Lists.{and_l, and_r}
use Rattle.theory_reading.specs.Bytes.{opener, closer}
use Rattle.theory_reading.specs.Nodes.{Ref, terminal, entry, temporary, child, Node, node, stamp}
use Rattle.theory_writing.specs.UniqueTable.{State, stored}
use Rattle.theory_writing.specs.Rules.{Text, number, one, two, Part, edge, same_number, both_terminal, same_entry, half_barred, found, new_number}
use Rattle.theory_writing.specs.Rules.{by_rule, meet, part}
use Rattle.theory_writing.specs.Storing.{Sound, stored_same}
use Rattle.theory_writing.specs.Steps.{plain, Told, next-able, find-matches, Halves, a-known, b-known, first_half, second_half, part-halves}
use Rattle.theory_writing.specs.Normal.{Normal, Depth, part-deep}
use Rattle.theory_writing.specs.Rewalk.{wraps}

-- ---- The shape of a text ---------------------------------------------------------------------

-- the number k, or the node that got it

abbrev pub Core : ℕ → Text → Type 0
Core k (number j) = j ≡ k
Core k (one x) = ⊥
Core k (two x t y j) = j ≡ k

-- inside as many brackets as there are levels skipped
pub record Shaped (s : State) (i k : ℕ) (x : Text) : Type 0 where
  pub core : Text
  pub is-core : Core k core
  pub shape : x ≡ wraps ((node s.table k).level - i) core

-- the text x of a part that came to a reference
abbrev pub Shape : State → ℕ → Ref → Text → Type 0
Shape s i terminal x = x ≡ number 0
Shape s i (entry k g) x = Shaped s i k x
Shape s i temporary x = Core 0 x × (plain x ≡ false)

same_shape : (i : ℕ) (s₀ s₁ s : State) (v w : Ref) (x y : Text) → Told s₀ s₁ v x
    → ((k : ℕ) → stamp s.table k ≡ stamp s₁.table k → node s.table k ≡ node s₁.table k) → Depth (suc i) s₁ v
    → same_number s v w ≡ true → Shape s₁ (suc i) v x → Shape s i v (one x)
unfolding wraps
same_shape i s₀ s₁ s terminal w x y t st d e h = absurd (false≢true e)
same_shape i s₀ s₁ s temporary w x y t st d e h = absurd (false≢true e)
same_shape i s₀ s₁ s (entry k g) terminal x y t st d e h = absurd (false≢true e)
same_shape i s₀ s₁ s (entry k g) temporary x y t st d e h = absurd (false≢true e)
same_shape i s₀ s₁ s (entry k g) (entry j u) x y t st d e h =
    let z = st k (eqb-true (stamp s.table k) g (and_l (eqb (stamp s.table k) g) _ (and_r (eqb k j) _ e)) ∙ sym t.now) in
    let lv : suc ((node s₁.table k).level - suc i) ≡ (node s.table k).level - i =
    omega (arith, ap (λ (x : Node). x.level) z, d) in
    record { core = h.core; is-core = h.is-core; shape = ap one h.shape ∙ ap (λ (c : ℕ). wraps c h.core) lv }

module _ (i : ℕ) (s₀ s₁ s : State) (a b : Part) (h : Halves i s₀ s₁ s a b) (da : Depth (suc i) s₁ a.ref)
    (sa : Shape s₁ (suc i) a.ref a.text) where
  by_rule-shape : (size : ℕ) (both same barred : Bool) (known new : ℕ) → both_terminal a b ≡ both → same_entry s a b ≡ same
      → half_barred s a b ≡ barred → found s i a b ≡ known → new_number size s a b ≡ new
      → Shape (by_rule both same barred known new i a b s).state i (by_rule both same barred known new i a b s).part.ref
      (by_rule both same barred known new i a b s).part.text
  unfolding by_rule wraps
  by_rule-shape size true same barred known new e₁ e₂ e₃ e₄ e₅ = refl
  by_rule-shape size false true barred known new e₁ e₂ e₃ e₄ e₅ =
      same_shape i s₀ s₁ s a.ref b.ref a.text b.text h.told-a h.step-b.same da
      (and_l (same_number s a.ref b.ref) _ e₂) sa
  by_rule-shape size false false true known new e₁ e₂ e₃ e₄ e₅ = (refl, refl)
  by_rule-shape size false false false (suc k) new e₁ e₂ e₃ e₄ e₅ =
      let z : 0 ≡ (node s.table (suc k)).level - i =
      omega (arith, (find-matches s i (child a.ref) (child b.ref) (edge a b) k e₄).level) in
      record { core = number (suc k); is-core = refl; shape = ap (λ (c : ℕ). wraps c (number (suc k))) z }
  by_rule-shape size false false false zero (suc k) e₁ e₂ e₃ e₄ e₅ =
      let ca = child a.ref in let cb = child b.ref in let u = edge a b in
      let able = next-able size s ca cb k h.sound (a-known i s₀ s₁ s a b h) (b-known i s₀ s₁ s a b h) e₅ in
      let z : 0 ≡ (node (stored s (suc k) i ca cb u).table (suc k)).level - i =
      omega (arith, ap (λ (x : Node). x.level) (stored_same s (suc k) i ca cb u h.sound able)) in
      record {
        core = two a.text u b.text (suc k);
        is-core = refl;
        shape = ap (λ (c : ℕ). wraps c (two a.text u b.text (suc k))) z;
      }
  by_rule-shape size false false false zero zero e₁ e₂ e₃ e₄ e₅ = (refl, refl)

  pub meet_shape : (size : ℕ) → Shape (meet size i a b s).state i (meet size i a b s).part.ref (meet size i a b s).part.text
  unfolding meet
  meet_shape size =
      by_rule-shape size (both_terminal a b) (same_entry s a b) (half_barred s a b) (found s i a b)
      (new_number size s a b) refl refl refl refl refl

pub part-shape : (n size m i at : ℕ) (f : ℕ → Bool) (s : State) → Sound s → Normal n s → 0 < i → i + m ≡ suc n
    → Shape (part size m i at f s).state i (part size m i at f s).part.ref (part size m i at f s).part.text
unfolding part
part-shape n size zero i at f s h nm r e = refl
part-shape n size (suc m) i at f s h nm r e =
    let a = first_half size m i at f s in
    let b = second_half size m i at f s in
    meet_shape i s a.state b.state a.part b.part (part-halves size m i at f s h)
    (part-deep n size m (suc i) at f s h nm (omega arith) (omega arith)).depth
    (part-shape n size m (suc i) at f s h nm (omega arith) (omega arith)) size

-- ---- Brackets --------------------------------------------------------------------------------

abbrev pub opens : ℕ → List ℕ
opens zero = []
opens (suc j) = opener ∷ opens j

abbrev pub closes : ℕ → List ℕ
closes zero = []
closes (suc j) = closer ∷ closes j

pub closes-snoc : (j : ℕ) → closes j ++ (closer ∷ []) ≡ closer ∷ closes j
closes-snoc zero = refl
closes-snoc (suc j) = ap (λ (l : List ℕ). closer ∷ l) (closes-snoc j)
