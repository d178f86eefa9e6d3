-- Walking a function again that a number stands for comes to that number and moves nothing; so a result may be remembered while its
-- number is not given out again.
use Rattle.std.specs.Prelude.{◌≡◌, refl, Bool, true, false, not, List, ℕ, zero, suc, ◌+◌, ◌-◌, ◌<◌, ◌^◌, eqb}
use Rattle.std.proofs.Common.{sym, ap, ◌∙◌, subst, inl, inr, arith, eqb-true, eq-eqb}
use Rattle.std.proofs.lemmas.Bool.{false≢true}
use Rattle.theory_lists.specs.Lists.{differ, and_l, and_r, or-false, not-and, is_false, eq-not-differ, differ-twice, differ-assoc}
use Rattle.theory_reading.specs.Nodes.{Ref, terminal, entry, child, Node, node, stamp, bars}
use Rattle.theory_writing.specs.UniqueTable.{State}
use Rattle.theory_writing.specs.Rules.{Text, number, one, Part, Done, is_terminal, same_number, both_terminal, same_entry, half_barred, found}
use Rattle.theory_writing.specs.Rules.{new_number, by_rule, meet, part}
use Rattle.theory_writing.specs.ConstantPart.{halves_met, part-suc, constant, halves_met-constant}
use Rattle.theory_writing.specs.Storing.{Sound}
use Rattle.theory_writing.specs.Normal.{Normal, find-hits}
use Rattle.theory_writing.specs.Meaning.{Is}

-- ---- A part met by number --------------------------------------------------------------------

-- what number k is met as
abbrev pub ref_of : State → ℕ → Ref
ref_of s zero = terminal
ref_of s (suc k) = entry (suc k) (stamp s.table (suc k))

-- a text inside j brackets
unfoldable pub wraps : ℕ → Text → Text
wraps zero x = x
wraps (suc j) x = one (wraps j x)

-- "A kept part met by number is written as the number inside as many brackets as there are levels skipped."
abbrev pub text_of : State → ℕ → ℕ → Text
text_of s i zero = number 0
text_of s i (suc k) = wraps ((node s.table (suc k)).level - i) (number (suc k))

-- number k, complemented if t, met again at level i
abbrev pub again : State → ℕ → ℕ → Bool → Done
again s i k t = record { part = record { ref = ref_of s k; complement = t; text = text_of s i k }; state = s }

meet-by : (size i : ℕ) (a b : Part) (s : State) (both same barred : Bool) (known : ℕ) → both_terminal a b ≡ both
    → same_entry s a b ≡ same → half_barred s a b ≡ barred → found s i a b ≡ known
    → meet size i a b s ≡ by_rule both same barred known (new_number size s a b) i a b s
unfolding meet
meet-by size i a b s both same barred known e₁ e₂ e₃ e₄ =
    ap (λ (r : Bool). by_rule r (same_entry s a b) (half_barred s a b) (found s i a b) (new_number size s a b) i a b s) e₁
    ∙ ap (λ (r : Bool). by_rule both r (half_barred s a b) (found s i a b) (new_number size s a b) i a b s) e₂
    ∙ ap (λ (r : Bool). by_rule both same r (found s i a b) (new_number size s a b) i a b s) e₃
    ∙ ap (λ (r : ℕ). by_rule both same barred r (new_number size s a b) i a b s) e₄

-- rule 2
number_same : (size i k : ℕ) (s : State) (t : Bool) (x : Text) →
    let d : Done = record { part = record { ref = ref_of s (suc k); complement = t; text = x }; state = s } in
    halves_met size i d d ≡ record { part = record { ref = ref_of s (suc k); complement = t; text = one x }; state = s }
unfolding by_rule
number_same size i k s t x =
    let g = stamp s.table (suc k) in
    let p : Part = record { ref = entry (suc k) g; complement = t; text = x } in
    let e : same_entry s p p ≡ true = cc (eq-eqb (suc k) (suc k) refl, eq-eqb g g refl, eq-not-differ t t refl) in
    meet-by size i p p s false true (half_barred s p p) (found s i p p) refl e refl refl

terminal-zero : (s : State) (k : ℕ) → is_terminal (ref_of s k) ≡ true → k ≡ 0
terminal-zero s zero e = refl
terminal-zero s (suc k) e = absurd (false≢true e)

same_number_lem : (s : State) (j k : ℕ) → same_number s (ref_of s j) (ref_of s k) ≡ true → j ≡ k
same_number_lem s zero k e = absurd (false≢true e)
same_number_lem s (suc j) zero e = absurd (false≢true e)
same_number_lem s (suc j) (suc k) e = eqb-true (suc j) (suc k) (and_l (eqb (suc j) (suc k)) _ e)

not-barred : (s : State) (k : ℕ) → bars s.table (ref_of s k) ≡ false
not-barred s zero = refl
not-barred s (suc k) = ap not (eq-eqb (stamp s.table (suc k)) (stamp s.table (suc k)) refl)

child-ref_of : (s : State) (k : ℕ) → child (ref_of s k) ≡ k
child-ref_of s zero = refl
child-ref_of s (suc k) = refl

-- rule 4
children-met : (n size i k : ℕ) (s : State) (t : Bool) (x y : Text) → Sound s → Normal n s → 0 < i
    → (node s.table (suc k)).level ≡ i →
    let a : Part = record { ref = ref_of s (node s.table (suc k)).first; complement = t; text = x } in
    let b : Part =
    record {
      ref = ref_of s (node s.table (suc k)).second;
      complement = differ t (node s.table (suc k)).complement;
      text = y;
    } in
    meet size i a b s ≡ record { part = record { ref = ref_of s (suc k); complement = t; text = number (suc k) }; state = s }
unfolding by_rule
children-met n size i k s t x y h nm r lv =
    let z = node s.table (suc k) in
    let a : Part = record { ref = ref_of s z.first; complement = t; text = x } in
    let b : Part = record { ref = ref_of s z.second; complement = differ t z.complement; text = y } in
    let u = differ t (differ t z.complement) in
    let red : u ≡ false → z.first ≡ z.second → ⊥ =
    λ e q. nm.reduced (suc k) (omega (arith, lv)) (sym (differ-twice t z.complement) ∙ e) q in
    meet-by size i a b s false false false (suc k)
    (is_false (both_terminal a b) (λ e. let e' = and_r (is_terminal (ref_of s z.first)) _ e in
    red (not-and (is_terminal (ref_of s z.second)) u e') (terminal-zero s z.first
    (and_l (is_terminal (ref_of s z.first)) _ e) ∙ sym
    (terminal-zero s z.second (and_l (is_terminal (ref_of s z.second)) _ e')))))
    (is_false (same_entry s a b) (λ e. red (not-and (same_number s (ref_of s z.first) (ref_of s z.second)) u e)
    (same_number_lem s z.first z.second (and_l (same_number s (ref_of s z.first) (ref_of s z.second)) _ e))))
    (or-false (not-barred s z.first) (not-barred s z.second))
    (find-hits n s i _ _ u h nm r (suc k) lv (sym (child-ref_of s z.first)) (sym (child-ref_of s z.second))
    (sym (differ-twice t z.complement)))

wraps-one : (s : State) (i k : ℕ) → i < (node s.table (suc k)).level → one (text_of s (suc i) (suc k)) ≡ text_of s i (suc k)
unfolding wraps
wraps-one s i k h =
    let e : suc ((node s.table (suc k)).level - suc i) ≡ (node s.table (suc k)).level - i = omega arith in
    ap (λ (j : ℕ). wraps j (number (suc k))) e

wraps-none : (s : State) (i k : ℕ) → (node s.table (suc k)).level ≡ i → number (suc k) ≡ text_of s i (suc k)
unfolding wraps
wraps-none s i k h = let e : 0 ≡ (node s.table (suc k)).level - i = omega arith in ap (λ (j : ℕ). wraps j (number (suc k))) e

-- the second walk
pub walk-again : (n size m i k at : ℕ) (f : ℕ → Bool) (t : Bool) (s : State) → Sound s → Normal n s → 0 < i
    → Is s.table f m i k t at → part size m i at f s ≡ again s i k t
unfolding part Is
walk-again n size zero i zero at f t s h nm r e = ap (λ (u : Bool). constant u s) e.1
walk-again n size zero i (suc k) at f t s h nm r e = absurd (omega (arith, e.0))
walk-again n size (suc m) i zero at f t s h nm r (inl e) =
    part-suc size m i at f s (constant t s) (constant t s) (walk-again n size m (suc i) 0 at f t s h nm (omega arith) e.1)
    (walk-again n size m (suc i) 0 (at + 2 ^ m) f t s h nm (omega arith) e.2)
    ∙ halves_met-constant size i t s
walk-again n size (suc m) i zero at f t s h nm r (inr e) = absurd (omega (arith, e.0))
walk-again n size (suc m) i (suc k) at f t s h nm r (inl e) =
    part-suc size m i at f s (again s (suc i) (suc k) t) (again s (suc i) (suc k) t)
    (walk-again n size m (suc i) (suc k) at f t s h nm (omega arith) e.1)
    (walk-again n size m (suc i) (suc k) (at + 2 ^ m) f t s h nm (omega arith) e.2)
    ∙ number_same size i k s t (text_of s (suc i) (suc k))
    ∙ ap (λ (x : Text). record { part = record { ref = ref_of s (suc k); complement = t; text = x }; state = s })
    (wraps-one s i k (e.0 (omega arith)))
walk-again n size (suc m) i (suc k) at f t s h nm r (inr e) =
    let z = node s.table (suc k) in
    part-suc size m i at f s (again s (suc i) z.first t) (again s (suc i) z.second (differ t z.complement))
    (walk-again n size m (suc i) z.first at f t s h nm (omega arith) e.2)
    (walk-again n size m (suc i) z.second (at + 2 ^ m) f (differ t z.complement) s h nm (omega arith) e.3)
    ∙ children-met n size i k s t (text_of s (suc i) z.first) (text_of s (suc i) z.second) h nm r e.1
    ∙ ap (λ (x : Text). record { part = record { ref = ref_of s (suc k); complement = t; text = x }; state = s })
    (wraps-none s i k e.1)

-- ---- A block met before ----------------------------------------------------------------------

-- a number stands for the same function wherever its words are, complemented as the function is
pub is-shift : (ns : List Node) (f g : ℕ → Bool) (m i k : ℕ) (t u : Bool) (at at' : ℕ)
    → ((w : ℕ) → w < 2 ^ m → g (at' + w) ≡ differ u (f (at + w))) → Is ns f m i k t at → Is ns g m i k (differ u t) at'
unfolding Is
is-shift ns f g zero i k t u at at' h e =
    let p : at + 0 ≡ at = omega arith in let q : at' + 0 ≡ at' = omega arith in
    (e.0, ap g (sym q) ∙ h 0 (omega arith) ∙ ap (λ (w : ℕ). differ u (f w)) p ∙ ap (differ u) e.1)
is-shift ns f g (suc m) i k t u at at' h (inl e) =
    inl (
      e.0,
      is-shift ns f g m (suc i) k t u at at' (λ w l. h w (omega arith)) e.1,
      is-shift ns f g m (suc i) k t u (at + 2 ^ m) (at' + 2 ^ m) (λ w l.
          let p : at + 2 ^ m + w ≡ at + (2 ^ m + w) = omega arith in let q : at' + 2 ^ m + w ≡ at' + (2 ^ m + w) = omega arith in
          ap g q ∙ h (2 ^ m + w) (omega arith) ∙ ap (λ (w : ℕ). differ u (f w)) (sym p)) e.2,
    )
is-shift ns f g (suc m) i k t u at at' h (inr e) =
    inr (
      e.0,
      e.1,
      is-shift ns f g m (suc i) (node ns k).first t u at at' (λ w l. h w (omega arith)) e.2,
      subst (λ (v : Bool). Is ns g m (suc i) (node ns k).second v (at' + 2 ^ m)) (differ-assoc u t (node ns k).complement)
          (is-shift ns f g m (suc i) (node ns k).second (differ t (node ns k).complement) u (at + 2 ^ m) (at' + 2 ^ m) (λ w l.
          let p : at + 2 ^ m + w ≡ at + (2 ^ m + w) = omega arith in let q : at' + 2 ^ m + w ≡ at' + (2 ^ m + w) = omega arith in
          ap g q ∙ h (2 ^ m + w) (omega arith) ∙ ap (λ (w : ℕ). differ u (f w)) (sym p)) e.3),
    )
