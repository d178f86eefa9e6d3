-- The text of a part is one that a reader takes: what each node of it needs, by the table at that place. Assumes nothing.
use Rattle.std.specs.Prelude.{◌≡◌, ◌≢◌, Bool, eqb, length, set}
use Rattle.std.proofs.Math.Path.{refl, subst⁻¹}
use Rattle.std.proofs.Common.{ap, ◌∙◌, arith, length-append, length-set, eqb-true}
use Rattle.std.proofs.Math.Bool.{true, false}
use Rattle.std.proofs.lemmas.Bool.{false≢true}
use mathlib.Core.List.{List, [], ◌∷◌, ◌++◌}
use Prim.Native.Nat.{ℕ, zero, suc, ◌+◌, ◌≤◌, ◌<◌, ◌^◌}
use Rattle.theory_lists.specs.Lists.{and_l, or_l, or_r}
use Rattle.theory_reading.specs.Nodes.{is_kept, child, Node, node, stamp, bars}
use Rattle.theory_writing.specs.UniqueTable.{State, start, placed, stored}
use Rattle.theory_writing.specs.Rules.{Text, number, one, two, Part, Done, edge, same_number, both_terminal, same_entry, half_barred, found, new_number}
use Rattle.theory_writing.specs.Rules.{by_rule, meet, part}
use Rattle.theory_writing.specs.Storing.{Sound, Parentless, next_small}
use Rattle.theory_writing.specs.Steps.{Halves, find-matches, next-able, a-known, b-known, part-good, part-halves, first_half, second_half, start-sound}
use Rattle.theory_writing.specs.Normal.{Normal, part-deep, start-normal}
use Rattle.theory_writing.specs.Meaning.{bars-kept, stamp-held, same-facts}
use Rattle.theory_writing.specs.Faithful.{read_child, read_table, Read, part-faithful}

-- kept, as a reader sees it
abbrev pub kept_text : Text → Bool
kept_text (number k) = true
kept_text (one x) = true
kept_text (two x t y zero) = false
kept_text (two x t y (suc k)) = true

-- k may be given to the node with the children x and y; ns₁, ns₂: the tables after x and after y
pub record Gives (size : ℕ) (x y : Text) (k : ℕ) (ns₁ ns₂ : List Node) : Type 0 where
  pub kept-x : kept_text x ≡ true
  pub kept-y : kept_text y ≡ true
  pub held : 0 < read_child x → stamp ns₂ (read_child x) ≡ stamp ns₁ (read_child x)
  pub small : k ≤ size
  pub real : 0 < k
  pub alone : Parentless ns₂ k
  pub not-x : read_child x ≢ k
  pub not-y : read_child y ≢ k
  pub room : k ≤ length ns₂

abbrev pub GivesIf : ℕ → Text → Text → ℕ → List Node → List Node → Type 0
GivesIf size x y zero ns₁ ns₂ = Unit {0}
GivesIf size x y (suc k) ns₁ ns₂ = Gives size x y (suc k) ns₁ ns₂

unfoldable pub Valid : ℕ → ℕ → ℕ → Text → List Node → Type 0
unfolding read_table
Valid n size i (number zero) ns = Unit {0}
Valid n size i (number (suc k)) ns = (node ns (suc k)).level ≡ i
Valid n size i (one x) ns = (i ≤ n) × (kept_text x ≡ true) × Valid n size (suc i) x ns
Valid n size i (two x t y k) ns =
    (i ≤ n) × Valid n size (suc i) x ns × Valid n size (suc i) y (read_table (suc i) x ns)
    × GivesIf size x y k (read_table (suc i) x ns) (read_table (suc i) y (read_table (suc i) x ns))

-- ---- The table is never longer than the size allows ------------------------------------------

placed-length : (ns : List Node) (k : ℕ) (x : Node) (size : ℕ) → length ns ≤ suc size → k ≤ size → length (placed ns k x) ≤ suc size
unfolding placed
placed-length ns k x size h l = go (eqb k (length ns)) refl
  where
    go : (t : Bool) → eqb k (length ns) ≡ t → length {A = Node} (elim t [ true ↦ ns ++ (x ∷ []) | false ↦ set ns k x ]) ≤ suc size
    go true e = omega (arith, length-append ns (x ∷ []), eqb-true k (length ns) e)
    go false e = omega (arith, length-set ns k x)

-- ---- Every part's text is valid --------------------------------------------------------------

-- what the reader will find of a part
pub record Fine (n size i : ℕ) (s : State) (d : Done) : Type 0 where
  pub valid : Valid n size i d.part.text s.table
  pub kept : is_kept d.part.ref ≡ true → kept_text d.part.text ≡ true
  pub short : length d.state.table ≤ suc size

module _ (n size i : ℕ) (s₀ s₁ s : State) (a b : Part) (h : Halves i s₀ s₁ s a b) (l : i ≤ n)
    (ra : Read (suc i) s₀ (record { part = a; state = s₁ })) (rb : Read (suc i) s₁ (record { part = b; state = s }))
    (fa : Fine n size (suc i) s₀ (record { part = a; state = s₁ })) (fb : Fine n size (suc i) s₁ (record { part = b; state = s })) where
  both_read : read_table (suc i) b.text (read_table (suc i) a.text s₀.table) ≡ s.table
  both_read = ap (read_table (suc i) b.text) ra.table ∙ rb.table

  valid-b : Valid n size (suc i) b.text (read_table (suc i) a.text s₀.table)
  valid-b = subst⁻¹ (Valid n size (suc i) b.text) ra.table fb.valid

  gives : (k : ℕ) → half_barred s a b ≡ false → new_number size s a b ≡ suc k → Gives size a.text b.text (suc k) s₁.table s.table
  gives k e₃ e₅ =
      let able = next-able size s (child a.ref) (child b.ref) k h.sound (a-known i s₀ s₁ s a b h) (b-known i s₀ s₁ s a b h) e₅ in
      let na = or_l (bars s.table a.ref) _ e₃ in
      let nb = or_r (bars s.table a.ref) _ e₃ in
      let ca = ra.number (bars-kept s a.ref na) in
      let cb = rb.number (bars-kept s b.ref nb) in
      record {
        kept-x = fa.kept (bars-kept s a.ref na);
        kept-y = fb.kept (bars-kept s b.ref nb);
        held = subst⁻¹ (λ (c : ℕ). 0 < c → stamp s.table c ≡ stamp s₁.table c) ca (stamp-held s₀ s₁ s a.ref a.text h.told-a na);
        small = next_small size s (child a.ref) (child b.ref) k h.sound fb.short e₅;
        real = omega arith;
        alone = able.alone;
        not-x = subst⁻¹ (λ (c : ℕ). c ≢ suc k) ca able.not_a;
        not-y = subst⁻¹ (λ (c : ℕ). c ≢ suc k) cb able.not-b;
        room = able.room;
      }

  by_rule-fine : (r₁ r₂ r₃ : Bool) (r₄ r₅ : ℕ) → same_entry s a b ≡ r₂ → half_barred s a b ≡ r₃ → found s i a b ≡ r₄ → new_number size s a b ≡ r₅
      → Read i s₀ (by_rule r₁ r₂ r₃ r₄ r₅ i a b s) → Fine n size i s₀ (by_rule r₁ r₂ r₃ r₄ r₅ i a b s)
  unfolding by_rule Valid stored
  by_rule-fine true r₂ r₃ r₄ r₅ e₂ e₃ e₄ e₅ rd = record { valid = tt; kept = λ z. refl; short = fb.short }
  by_rule-fine false true r₃ r₄ r₅ e₂ e₃ e₄ e₅ rd =
      let same = same-facts s a.ref b.ref (and_l (same_number s a.ref b.ref) _ e₂) in
      record { valid = (l, fa.kept (bars-kept s a.ref same.0), fa.valid); kept = λ z. refl; short = fb.short }
  by_rule-fine false false true r₄ r₅ e₂ e₃ e₄ e₅ rd = record {
    valid = (l, fa.valid, valid-b, tt);
    kept = λ z. absurd (false≢true z);
    short = fb.short;
  }
  by_rule-fine false false false (suc k) r₅ e₂ e₃ e₄ e₅ rd = record {
    valid = subst⁻¹ (λ (ns : List Node). (node ns (suc k)).level ≡ i) rd.table
        (find-matches s i (child a.ref) (child b.ref) (edge a b) k e₄).level;
    kept = λ z. refl;
    short = fb.short;
  }
  by_rule-fine false false false zero (suc k) e₂ e₃ e₄ e₅ rd =
      let g = gives k e₃ e₅ in
      record {
        valid = (
          l,
          fa.valid,
          valid-b,
          subst⁻¹ (λ (ns : List Node). Gives size a.text b.text (suc k) (read_table (suc i) a.text s₀.table) ns) both_read
              (subst⁻¹ (λ (ns : List Node). Gives size a.text b.text (suc k) ns s.table) ra.table g),
        );
        kept = λ z. refl;
        short = placed-length s.table (suc k) _ size fb.short g.small;
      }
  by_rule-fine false false false zero zero e₂ e₃ e₄ e₅ rd = record {
    valid = (l, fa.valid, valid-b, tt);
    kept = λ z. absurd (false≢true z);
    short = fb.short;
  }

  meet-fine : Read i s₀ (meet size i a b s) → Fine n size i s₀ (meet size i a b s)
  unfolding meet
  meet-fine rd = by_rule-fine (both_terminal a b) (same_entry s a b) (half_barred s a b) (found s i a b) (new_number size s a b) refl refl refl refl rd

part-fine : (n size m i at : ℕ) (f : ℕ → Bool) (s : State) → Sound s → Normal n s → 0 < i → i + m ≡ suc n → length s.table ≤ suc size
    → Fine n size i s (part size m i at f s)
unfolding part read_table Valid
part-fine n size zero i at f s h nm r e z = record { valid = tt; kept = λ _. refl; short = z }
part-fine n size (suc m) i at f s h nm r e z =
    let a = first_half size m i at f s in
    let b = second_half size m i at f s in
    let g = part-good size m (suc i) at f s h in
    let p = part-deep n size m (suc i) at f s h nm (omega arith) (omega arith) in
    let fa = part-fine n size m (suc i) at f s h nm (omega arith) (omega arith) z in
    let fb = part-fine n size m (suc i) (at + 2 ^ m) f a.state g.sound p.normal (omega arith) (omega arith) fa.short in
    meet-fine n size i s a.state b.state a.part b.part (part-halves size m i at f s h) (omega arith)
    (part-faithful n size m (suc i) at f s h nm (omega arith) (omega arith)).read
    (part-faithful n size m (suc i) (at + 2 ^ m) f a.state g.sound p.normal (omega arith) (omega arith)).read
    fa fb (part-faithful n size (suc m) i at f s h nm r e).read

-- THE WRITTEN TEXT IS VALID
pub text-valid : (n size : ℕ) (f : ℕ → Bool) → Valid n size 1 (part size n 1 0 f start).part.text start.table
text-valid n size f = (part-fine n size n 1 0 f start start-sound (start-normal n) (omega arith) (omega arith) (omega arith)).valid
