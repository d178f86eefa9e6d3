-- Reading the written text gives the function back: the reader's table after a part is the writer's, and the text says the function.
use Rattle.std.specs.Prelude.{◌≡◌, ◌⊎◌, Bool}
use Rattle.std.proofs.Math.Path.{refl, sym, ap, subst, subst⁻¹}
use Rattle.std.proofs.Common.{◌∙◌, inl, inr, true≢false, arith}
use Rattle.std.proofs.Math.Logic.{⊎_elim}
use Rattle.std.proofs.Math.Bool.{true, false}
use Rattle.std.proofs.lemmas.Bool.{false≢true}
use mathlib.Core.List.{List}
use Prim.Native.Nat.{ℕ, zero, suc, ◌+◌, ◌≤◌, ◌<◌, ◌^◌}
use Rattle.theory_lists.specs.Lists.{differ, and_l, or_l, or_r, differ-twice}
use Rattle.theory_reading.specs.Nodes.{Ref, terminal, entry, temporary, is_kept, child, Node, new_node, node, stamp, bars}
use Rattle.theory_writing.specs.UniqueTable.{State, start, placed, stored}
use Rattle.theory_writing.specs.Rules.{Text, number, one, two, Part, Done, edge, same_number, both_terminal, same_entry, half_barred, found}
use Rattle.theory_writing.specs.Rules.{new_number, by_rule, meet, part}
use Rattle.theory_writing.specs.ConstantPart.{meet-complement}
use Rattle.theory_writing.specs.Storing.{Sound, stored_same, stored_other}
use Rattle.theory_writing.specs.Steps.{step-trans, step-lower, step-stored, plain, Told, next-able, find-matches, Halves, both_terminal-plain}
use Rattle.theory_writing.specs.Steps.{same_entry-plain, found_plain, a-known, b-known, first_half, second_half, part-good, part-halves}
use Rattle.theory_writing.specs.Steps.{start-sound}
use Rattle.theory_writing.specs.Normal.{Normal, Depth, a-deep, part-deep, start-normal}
use Rattle.theory_writing.specs.Meaning.{Is, is-back, Means, bars-kept, stamp-held, same-facts, part-means}

-- ---- Reading a text --------------------------------------------------------------------------

-- the number that a text stands for (0: the constant, or none)
abbrev pub read_child : Text → ℕ
read_child (number k) = k
read_child (one x) = read_child x
read_child (two x t y k) = k

-- the table after a text of level i
unfoldable pub read_table : ℕ → Text → List Node → List Node
read_table i (number k) ns = ns
read_table i (one x) ns = read_table (suc i) x ns
read_table i (two x t y zero) ns = read_table (suc i) y (read_table (suc i) x ns)
read_table i (two x t y (suc k)) ns =
    let ns' = read_table (suc i) y (read_table (suc i) x ns) in
    placed ns' (suc k) (new_node i (read_child x) (read_child y) t (suc (node ns' (suc k)).stamp))

-- The text x, read with the table ns and complemented if t, decides the words at .. at + 2 ^ m - 1 as f does.
-- "At a number go to the node last stored under it before that place in the text"; in `(A)` the second child is A again.
unfoldable pub Says : List Node → (ℕ → Bool) → ℕ → ℕ → Text → Bool → ℕ → Type 0
unfolding Is read_table
Says ns f m i (number k) t at = Is ns f m i k t at
Says ns f zero i (one x) t at = ⊥
Says ns f (suc m) i (one x) t at = Says ns f m (suc i) x t at × Says ns f m (suc i) x t (at + 2 ^ m)
Says ns f zero i (two x u y k) t at = ⊥
Says ns f (suc m) i (two x u y k) t at =
    Says ns f m (suc i) x t at × Says (read_table (suc i) x ns) f m (suc i) y (differ t u) (at + 2 ^ m)

plain-reads : (i : ℕ) (x : Text) (ns : List Node) → plain x ≡ true → read_table i x ns ≡ ns
unfolding read_table
plain-reads i (number k) ns e = refl
plain-reads i (one x) ns e = plain-reads (suc i) x ns e
plain-reads i (two x t y k) ns e = absurd (false≢true e)

-- ---- What reading makes of a part ------------------------------------------------------------

-- the reader's table after a part is the writer's, and it takes the part for what it is
pub record Read (i : ℕ) (s : State) (d : Done) : Type 0 where
  pub table : read_table i d.part.text s.table ≡ d.state.table
  pub number : is_kept d.part.ref ≡ true → read_child d.part.text ≡ child d.part.ref

-- a part that stands for a function g is text that says g
abbrev pub Lifts : ℕ → ℕ → State → State → Part → Type 0
Lifts m i s s' p =
    is_kept p.ref ≡ true → (g : ℕ → Bool) (t : Bool) (at : ℕ) → Is s'.table g m i (child p.ref) t at
    → Says s.table g m i p.text t at

-- a kept part has a number
entry-real : (s₀ s₁ s : State) (v w : Ref) (x : Text) → Told s₀ s₁ v x → same_number s v w ≡ true → 0 < child v
entry-real s₀ s₁ s terminal w x t e = absurd (false≢true e)
entry-real s₀ s₁ s temporary w x t e = absurd (false≢true e)
entry-real s₀ s₁ s (entry k g) terminal x t e = t.real
entry-real s₀ s₁ s (entry k g) temporary x t e = t.real
entry-real s₀ s₁ s (entry k g) (entry j u) x t e = t.real

module _ (n m i : ℕ) (s₀ s₁ s : State) (a b : Part) (h : Halves i s₀ s₁ s a b) (nm : Normal n s) (da : Depth (suc i) s₁ a.ref)
    (db : Depth (suc i) s b.ref)
    (r : 0 < i) (l : i ≤ n) (ra : Read (suc i) s₀ (record { part = a; state = s₁ }))
    (rb : Read (suc i) s₁ (record { part = b; state = s })) where
  nothing_read : plain a.text ≡ true → plain b.text ≡ true → s₀.table ≡ s.table
  nothing_read p q =
      sym (plain-reads (suc i) a.text s₀.table p) ∙ ra.table ∙ sym (plain-reads (suc i) b.text s₁.table q)
      ∙ rb.table

  both_read : read_table (suc i) b.text (read_table (suc i) a.text s₀.table) ≡ s.table
  both_read = ap (read_table (suc i) b.text) ra.table ∙ rb.table

  by_rule-read : (size : ℕ) (both same barred : Bool) (known new : ℕ) → both_terminal a b ≡ both → same_entry s a b ≡ same
      → half_barred s a b ≡ barred → found s i a b ≡ known
      → Read i s₀ (by_rule both same barred known new i a b s)
  unfolding by_rule read_table stored
  by_rule-read size true same barred known new e₁ e₂ e₃ e₄ =
      let p = both_terminal-plain i s₀ s₁ s a b h e₁ in record { table = nothing_read p.0 p.1; number = λ z. refl }
  by_rule-read size false true barred known new e₁ e₂ e₃ e₄ = record {
    table = ra.table ∙ sym (plain-reads (suc i) b.text s₁.table (same_entry-plain i s₀ s₁ s a b h e₂)) ∙ rb.table;
    number = ra.number;
  }
  by_rule-read size false false true known new e₁ e₂ e₃ e₄ = record { table = both_read; number = λ z. absurd (false≢true z) }
  by_rule-read size false false false (suc k) new e₁ e₂ e₃ e₄ =
      let p = found_plain i s₀ s₁ s a b h k e₃ e₄ in record { table = nothing_read p.0 p.1; number = λ z. refl }
  by_rule-read size false false false zero (suc k) e₁ e₂ e₃ e₄ = record {
    table =
        ap (λ (ns : List Node). placed ns (suc k)
        (new_node i (read_child a.text) (read_child b.text) (edge a b) (suc (node ns (suc k)).stamp))) both_read
        ∙ ap
        (λ (c : ℕ). placed s.table (suc k) (new_node i c (read_child b.text) (edge a b) (suc (stamp s.table (suc k)))))
        (ra.number (bars-kept s a.ref (or_l (bars s.table a.ref) _ e₃)))
        ∙ ap (λ (c : ℕ). placed s.table (suc k) (new_node i (child a.ref) c (edge a b) (suc (stamp s.table (suc k)))))
        (rb.number (bars-kept s b.ref (or_r (bars s.table a.ref) _ e₃)));
    number = λ z. refl;
  }
  by_rule-read size false false false zero zero e₁ e₂ e₃ e₄ = record { table = both_read; number = λ z. absurd (false≢true z) }

  pub meet-read : (size : ℕ) → Read i s₀ (meet size i a b s)
  unfolding meet
  meet-read size =
      by_rule-read size (both_terminal a b) (same_entry s a b) (half_barred s a b) (found s i a b)
      (new_number size s a b) refl refl refl refl

  module _ (la : Lifts m (suc i) s₀ s₁ a) (lb : Lifts m (suc i) s₁ s b) where
    lift-a : bars s.table a.ref ≡ false → (g : ℕ → Bool) (t : Bool) (at : ℕ)
        → Is s.table g m (suc i) (child a.ref) t at → Says s₀.table g m (suc i) a.text t at
    lift-a e g t at p =
        la (bars-kept s a.ref e) g t at (is-back (suc i) s₁ s h.step-b g m (suc i) (child a.ref) t at
        (stamp-held s₀ s₁ s a.ref a.text h.told-a e) p)

    lift-b : bars s.table b.ref ≡ false → (g : ℕ → Bool) (t : Bool) (at : ℕ)
        → Is s.table g m (suc i) (child b.ref) t at
        → Says (read_table (suc i) a.text s₀.table) g m (suc i) b.text t at
    lift-b e g t at p =
        subst⁻¹ (λ (ns : List Node). Says ns g m (suc i) b.text t at) ra.table (lb (bars-kept s b.ref e) g t at p)

    by_rule-lifts : (size : ℕ) (both same barred : Bool) (known new : ℕ) → both_terminal a b ≡ both → same_entry s a b ≡ same
        → half_barred s a b ≡ barred → found s i a b ≡ known → new_number size s a b ≡ new
        → Lifts (suc m) i s₀ (by_rule both same barred known new i a b s).state (by_rule both same barred known new i a b s).part
    unfolding by_rule Says
    by_rule-lifts size true same barred known new e₁ e₂ e₃ e₄ e₅ z g t at p =
        is-back (suc i) s₀ s (step-trans (suc i) s₀ s₁ s h.step-a h.step-b) g (suc m) i 0 t at (λ q. absurd (omega arith)) p
    by_rule-lifts size false true barred known new e₁ e₂ e₃ e₄ e₅ z g t at p =
        let e = and_l (same_number s a.ref b.ref) _ e₂ in
        let c = same-facts s a.ref b.ref e in
        let deep = a-deep n i s₀ s₁ s a b h nm da db r l c.0 (entry-real s₀ s₁ s a.ref b.ref a.text h.told-a e) in
        ⊎_elim (λ q. (lift-a c.0 g t at q.1, lift-a c.0 g t (at + 2 ^ m) q.2))
        (λ q. absurd (omega (arith, q.1, deep))) p
    by_rule-lifts size false false true known new e₁ e₂ e₃ e₄ e₅ z g t at p = absurd (false≢true z)
    by_rule-lifts size false false false (suc k) new e₁ e₂ e₃ e₄ e₅ z g t at p =
        is-back (suc i) s₀ s (step-trans (suc i) s₀ s₁ s h.step-a h.step-b) g (suc m) i (suc k) t at
        (λ q. step-lower i s₀ s (step-trans (suc i) s₀ s₁ s h.step-a h.step-b) (suc k)
        (find-matches s i (child a.ref) (child b.ref) (edge a b) k e₄).level) p
    by_rule-lifts size false false false zero (suc k) e₁ e₂ e₃ e₄ e₅ z g t at p =
        let ca = child a.ref in let cb = child b.ref in let u = edge a b in
        let able = next-able size s ca cb k h.sound (a-known i s₀ s₁ s a b h) (b-known i s₀ s₁ s a b h) e₅ in
        let s' = stored s (suc k) i ca cb u in
        let new = stored_same s (suc k) i ca cb u h.sound able in
        let st = step-stored s (suc k) i ca cb u h.sound able in
        ⊎_elim (λ q. absurd (omega (arith, q.0 (omega arith), ap (λ (x : Node). x.level) new)))
        (λ q. let q' = subst (λ (x : Node). (0 < suc k) × (x.level ≡ i) × Is s'.table g m (suc i) x.first t at
        × Is s'.table g m (suc i) x.second (differ t x.complement) (at + 2 ^ m)) new q in (
          lift-a (or_l (bars s.table a.ref) _ e₃) g t at (is-back i s s' st g m (suc i) ca t at
              (λ o. ap (λ (x : Node). x.stamp) (stored_other s (suc k) i ca cb u h.sound able ca able.not_a)) q'.2),
          lift-b (or_r (bars s.table
              a.ref) _ e₃) g (differ t u) (at + 2 ^ m) (is-back i s s' st g m (suc i) cb (differ t u) (at + 2 ^ m) (λ o. ap
              (λ (x : Node). x.stamp) (stored_other s (suc k) i ca cb u h.sound able cb able.not-b)) q'.3),
        )) p
    by_rule-lifts size false false false zero zero e₁ e₂ e₃ e₄ e₅ z g t at p = absurd (false≢true z)

    pub meet-lifts : (size : ℕ) → Lifts (suc m) i s₀ (meet size i a b s).state (meet size i a b s).part
    unfolding meet
    meet-lifts size =
        by_rule-lifts size (both_terminal a b) (same_entry s a b) (half_barred s a b) (found s i a b)
        (new_number size s a b) refl refl refl refl refl

    -- a temporary part says what its halves say; any other what it stands for
    module _ (at : ℕ) (f : ℕ → Bool) (sa : Says s₀.table f m (suc i) a.text a.complement at)
        (sb : Says s₁.table f m (suc i) b.text b.complement (at + 2 ^ m)) where
      two-say : (k : ℕ) → Says s₀.table f (suc m) i (two a.text (edge a b) b.text k) a.complement at
      unfolding Says
      two-say k = (
        sa,
        subst⁻¹ (λ (ns : List Node). Says ns f m (suc i) b.text (differ a.complement (edge a b)) (at + 2 ^ m)) ra.table
            (subst⁻¹ (λ (t : Bool). Says s₁.table f m (suc i) b.text t (at + 2 ^ m))
            (differ-twice a.complement b.complement) sb),
      )

      by_rule-says : (size : ℕ) (both same barred : Bool) (known new : ℕ)
          → Lifts (suc m) i s₀ (by_rule both same barred known new i a b s).state
          (by_rule both same barred known new i a b s).part
          → Means (by_rule both same barred known new i a b s).state f (suc m) i at
          (by_rule both same barred known new i a b s).part
          → is_kept a.ref ≡ true ⊎ (same ≡ false)
          → Says s₀.table f (suc m) i (by_rule both same barred known new i a b s).part.text a.complement at
      unfolding by_rule
      by_rule-says size true same barred known new lf mn w = lf refl f a.complement at (mn refl)
      by_rule-says size false true barred known new lf mn w =
          ⊎_elim (λ (z : is_kept a.ref ≡ true). lf z f a.complement at (mn z))
          (λ (z : true ≡ false). absurd (true≢false z)) w
      by_rule-says size false false true known new lf mn w = two-say 0
      by_rule-says size false false false (suc k) new lf mn w = lf refl f a.complement at (mn refl)
      by_rule-says size false false false zero (suc k) lf mn w = two-say (suc k)
      by_rule-says size false false false zero zero lf mn w = two-say 0

      same_kept : (u : Bool) → same_entry s a b ≡ u → is_kept a.ref ≡ true ⊎ (u ≡ false)
      same_kept true e =
          inl (bars-kept s a.ref (same-facts s a.ref b.ref (and_l (same_number s a.ref b.ref) _ e)).0)
      same_kept false e = inr refl

      pub meet-says : (size : ℕ) → Means (meet size i a b s).state f (suc m) i at (meet size i a b s).part
          → Says s₀.table f (suc m) i (meet size i a b s).part.text a.complement at
      unfolding meet
      meet-says size mn =
          by_rule-says size (both_terminal a b) (same_entry s a b) (half_barred s a b) (found s i a b) (new_number size s a b)
          (meet-lifts size) mn (same_kept (same_entry s a b) refl)

-- ---- Every part ------------------------------------------------------------------------------

pub record Faithful (m i at : ℕ) (f : ℕ → Bool) (s : State) (d : Done) : Type 0 where
  pub read : Read i s d
  pub lifts : Lifts m i s d.state d.part
  pub says : Says s.table f m i d.part.text d.part.complement at

-- every part's text says its function
pub part-faithful : (n size m i at : ℕ) (f : ℕ → Bool) (s : State) → Sound s → Normal n s → 0 < i → i + m ≡ suc n
    → Faithful m i at f s (part size m i at f s)
unfolding part read_table Says Is
part-faithful n size zero i at f s h nm r e =
    record { read = record { table = refl; number = λ z. refl }; lifts = λ z g t at p. p; says = (refl, refl) }
part-faithful n size (suc m) i at f s h nm r e =
    let a = first_half size m i at f s in
    let b = second_half size m i at f s in
    let g = part-good size m (suc i) at f s h in
    let p = part-deep n size m (suc i) at f s h nm (omega arith) (omega arith) in
    let q = part-deep n size m (suc i) (at + 2 ^ m) f a.state g.sound p.normal (omega arith) (omega arith) in
    let fa = part-faithful n size m (suc i) at f s h nm (omega arith) (omega arith) in
    let fb = part-faithful n size m (suc i) (at + 2 ^ m) f a.state g.sound p.normal (omega arith) (omega arith) in
    let hs = part-halves size m i at f s h in
    record {
      read =
          meet-read n m i s a.state b.state a.part b.part hs q.normal p.depth q.depth r (omega arith)
          fa.read fb.read size;
      lifts =
          meet-lifts n m i s a.state b.state a.part b.part hs q.normal p.depth q.depth r (omega arith)
          fa.read fb.read fa.lifts fb.lifts size;
      says =
          subst⁻¹ (λ (t : Bool). Says s.table f (suc m) i (part size (suc m) i at f s).part.text t at)
          (meet-complement size i a.part b.part b.state)
          (meet-says n m i s a.state b.state a.part b.part hs q.normal p.depth q.depth r (omega arith)
          fa.read fb.read fa.lifts fb.lifts at f fa.says fb.says size
          (part-means n size (suc m) i at f s h nm r e));
    }

-- the whole text decides every word as the function does, complemented as its leading `~` says
pub text_says : (n size : ℕ) (f : ℕ → Bool)
    → Says start.table f n 1 (part size n 1 0 f start).part.text (part size n 1 0 f start).part.complement 0
text_says n size f = (part-faithful n size n 1 0 f start start-sound (start-normal n) (omega arith) (omega arith)).says
