-- "later words can't change that beginning": what is released of a part depends on the covered words alone.
use Rattle.std.specs.Prelude.{◌≡◌, Bool, cond, ◌&&◌, List, [], ◌∷◌, ◌++◌}
use Rattle.std.proofs.Math.Path.{refl, sym}
use Rattle.std.proofs.Common.{ap, ◌∙◌, ⊎_elim, arith}
use Rattle.std.proofs.Math.Bool.{true, false}
use Rattle.std.proofs.Math.Option.{none, some}
use Prim.Native.Nat.{ℕ, zero, suc, ◌+◌, ◌≤◌, ◌<◌, ◌^◌}
use Rattle.theory_lists.specs.Lists.{differ, decide-le}
use Rattle.theory_reading.specs.Bytes.{blank}
use Rattle.theory_writing.specs.UniqueTable.{State}
use Rattle.theory_writing.specs.Rules.{Text, number, one, two, Part, Done, edge, both_terminal, same_entry, half_barred, found, new_number, by_rule}
use Rattle.theory_writing.specs.Rules.{meet, part}
use Rattle.theory_writing.specs.Texts.{ends_in_digit, begins_with_digit, between, bytes}
use Rattle.theory_writing.specs.ConstantPart.{part-agree, part-complement}
use Rattle.theory_writing.specs.Storing.{Sound}
use Rattle.theory_writing.specs.Steps.{plain, Halves, both_terminal-plain, same_entry-plain, found_plain, first_half, second_half, part-good}
use Rattle.theory_writing.specs.Steps.{part-halves}
use Rattle.theory_writing.specs.Release.{Begun, opened, in_two, beginning, plain-none, partly, uncovered-none}

-- ---- What is released of two halves that have met --------------------------------------------

-- is what is released of the halves
module _ (c m at i : ℕ) (s₀ s₁ s : State) (a b : Part) (h : Halves i s₀ s₁ s a b) (l : c < at + 2 ^ suc m) where
  abbrev halves_begun : Begun
  halves_begun =
      in_two (bytes a.text ++ between (edge a b) a.text b.text) (beginning c m at a.text)
      (beginning c m (at + 2 ^ m) b.text)

  both-plain : plain a.text ≡ true → plain b.text ≡ true → none ≡ halves_begun
  both-plain p q =
      sym (ap (in_two _ (beginning c m at a.text)) (plain-none c m (at + 2 ^ m) b.text q)
      ∙ ap (opened []) (plain-none c m at a.text p))

  by_rule-begun : (both same barred : Bool) (known new : ℕ) → both_terminal a b ≡ both → same_entry s a b ≡ same
      → half_barred s a b ≡ barred → found s i a b ≡ known
      → beginning c (suc m) at (by_rule both same barred known new i a b s).part.text ≡ halves_begun
  unfolding by_rule beginning
  by_rule-begun true same barred known new e₁ e₂ e₃ e₄ = let p = both_terminal-plain i s₀ s₁ s a b h e₁ in both-plain p.0 p.1
  by_rule-begun false true barred known new e₁ e₂ e₃ e₄ =
      sym (ap (in_two _ (beginning c m at a.text)) (plain-none c m (at + 2 ^ m) b.text (same_entry-plain i s₀ s₁ s a b h e₂)))
  by_rule-begun false false true known new e₁ e₂ e₃ e₄ = partly c m at a.text (edge a b) b.text 0 l
  by_rule-begun false false false (suc k) new e₁ e₂ e₃ e₄ = let p = found_plain i s₀ s₁ s a b h k e₃ e₄ in both-plain p.0 p.1
  by_rule-begun false false false zero (suc k) e₁ e₂ e₃ e₄ = partly c m at a.text (edge a b) b.text (suc k) l
  by_rule-begun false false false zero zero e₁ e₂ e₃ e₄ = partly c m at a.text (edge a b) b.text 0 l

  pub meet-begun : (size : ℕ) → beginning c (suc m) at (meet size i a b s).part.text ≡ halves_begun
  unfolding meet
  meet-begun size =
      by_rule-begun (both_terminal a b) (same_entry s a b) (half_barred s a b) (found s i a b)
      (new_number size s a b) refl refl refl refl

-- ---- Two functions that agree below c --------------------------------------------------------

some-bracket : (c m at : ℕ) (x : Text) (y : List ℕ) → beginning c m at x ≡ some y → begins_with_digit x ≡ false
unfolding beginning
some-bracket c m at (number k) y e = absurd (let z : ◌≡◌ {A = ℕ} 0 1 = cc in omega arith)
some-bracket c m at (one x) y e = refl
some-bracket c m at (two x t z k) y e = refl

between-bracket : (t : Bool) (x y z : Text) → begins_with_digit y ≡ false → begins_with_digit z ≡ false
    → between t x y ≡ between t x z
between-bracket true x y z p q = refl
between-bracket false x y z p q = ap (λ (u : Bool). cond (ends_in_digit x && u) (blank ∷ []) []) (p ∙ sym q)

in_two-alike : (c m at : ℕ) (x y z : Text) (t u : Bool) (p : Begun) → t ≡ u → beginning c m at y ≡ beginning c m at z
    → in_two (bytes x ++ between t x y) p (beginning c m at y) ≡ in_two (bytes x ++ between u x z) p (beginning c m at z)
in_two-alike c m at x y z t u p d e = go (beginning c m at z) refl
  where
    go : (o : Begun) → beginning c m at z ≡ o
        → in_two (bytes x ++ between t x y) p (beginning c m at y) ≡ in_two (bytes x ++ between u x z) p (beginning c m at z)
    go none q = ap (in_two (bytes x ++ between t x y) p) (e ∙ q) ∙ sym (ap (in_two (bytes x ++ between u x z) p) q)
    go (some v) q =
        ap (in_two (bytes x ++ between t x y) p) (e ∙ q)
        ∙ ap (λ (r : List ℕ). opened (bytes x ++ r) (some v)) (ap (λ (w : Bool). between w x y) d
        ∙ between-bracket u x y z (some-bracket c m at y v (e ∙ q)) (some-bracket c m at z v q))
        ∙ sym (ap (in_two (bytes x ++ between u x z) p) q)

pub beginning-stable : (size m i at c : ℕ) (f g : ℕ → Bool) (s : State) → Sound s → ((w : ℕ) → w < c → f w ≡ g w)
    → beginning c m at (part size m i at f s).part.text ≡ beginning c m at (part size m i at g s).part.text
unfolding part
beginning-stable size zero i at c f g s h e = refl
beginning-stable size (suc m) i at c f g s h e =
    ⊎_elim
    (λ (l : at + 2 ^ suc m ≤ c). ap (λ (d : Done). beginning c (suc m) at d.part.text)
    (part-agree size (suc m) i at f g s (λ w p q. e w (omega arith))))
    (λ (l : c < at + 2 ^ suc m). of l f ∙ ⊎_elim
    (λ (k : c ≤ at + 2 ^ m). early k (beginning-stable size m (suc i) at c f g s h e))
    (λ (k : at + 2 ^ m < c). late k (λ (d : Done) o. beginning-stable size m (suc i) (at + 2 ^ m) c f g d.state o e))
    (decide-le c (at + 2 ^ m)) ∙ sym (of l g))
    (decide-le (at + 2 ^ suc m) c)
  where
    -- the released text of the halves, the second after d
    after_first_lem : (ℕ → Bool) → Done → Begun
    after_first_lem f d =
        let b = part size m (suc i) (at + 2 ^ m) f d.state in
        in_two (bytes d.part.text ++ between (edge d.part b.part) d.part.text b.part.text)
        (beginning c m at d.part.text) (beginning c m (at + 2 ^ m) b.part.text)

    of : c < at + 2 ^ suc m → (f : ℕ → Bool)
        → beginning c (suc m) at (part size (suc m) i at f s).part.text ≡ after_first_lem f (part size m (suc i) at f s)
    of l f =
        meet-begun c m at i s (first_half size m i at f s).state (second_half size m i at f s).state
        (first_half size m i at f s).part (second_half size m i at f s).part (part-halves size m i at f s h) l size

    early : c ≤ at + 2 ^ m
        → beginning c m at (part size m (suc i) at f s).part.text ≡ beginning c m at (part size m (suc i) at g s).part.text
        → after_first_lem f (part size m (suc i) at f s) ≡ after_first_lem g (part size m (suc i) at g s)
    early k ih = ap (in_two _ (beginning c m at (part size m (suc i) at f s).part.text)) (uncovered-none c m (at + 2 ^ m) _ k)
        ∙ ap (opened []) ih
        ∙ sym (ap (in_two _ (beginning c m at (part size m (suc i) at g s).part.text)) (uncovered-none c m (at + 2 ^ m) _ k))

    late : at + 2 ^ m < c
        → ((d : Done) → Sound d.state → beginning c m (at + 2 ^ m) (part size m (suc i) (at + 2 ^ m) f d.state).part.text
        ≡ beginning c m (at + 2 ^ m) (part size m (suc i) (at + 2 ^ m) g d.state).part.text)
        → after_first_lem f (part size m (suc i) at f s) ≡ after_first_lem g (part size m (suc i) at g s)
    late k ih =
        let d = part size m (suc i) at g s in
        ap (after_first_lem f) (part-agree size m (suc i) at f g s (λ w p q. e w (omega arith)))
        ∙ in_two-alike c m (at + 2 ^ m) d.part.text (part size m (suc i) (at + 2 ^ m) f d.state).part.text
        (part size m (suc i) (at + 2 ^ m) g d.state).part.text
        (differ d.part.complement (part size m (suc i) (at + 2 ^ m) f d.state).part.complement)
        (differ d.part.complement (part size m (suc i) (at + 2 ^ m) g d.state).part.complement)
        (beginning c m at d.part.text)
        (ap (differ d.part.complement) (part-complement size m (suc i) (at + 2 ^ m) f d.state ∙ e (at + 2 ^ m) k
        ∙ sym (part-complement size m (suc i) (at + 2 ^ m) g d.state)))
        (ih d (part-good size m (suc i) at g s h).sound)
