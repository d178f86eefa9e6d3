-- Inputs of the walk over texts and the memo: where an input is at an edge it sits there, and the tables of the block readers last while their
-- texts are read on. Assumes nothing.
use Rattle.std.specs.Prelude.{◌≡◌, refl, Bool, true, false, cond, List, [], ◌∷◌, ℕ, suc, ◌+◌, ◌*◌, ◌<◌, ◌^◌, eqb}
use Rattle.std.proofs.Common.{ap, ap₂, subst, inl, ⊎_elim, arith, eqb-true}
use Rattle.std.proofs.Math.Path.{subst⁻¹}
use Rattle.theory_lists.specs.Lists.{or_l, or_r}
use Rattle.theory_reading.specs.Nodes.{Node}
use Rattle.theory_reading.proofs.Lasting.{Lasts, Ordered, lasts-refl}
use Rattle.theory_applying.specs.Applying.{Source, first_source}
use Rattle.theory_applying.specs.Operands.{Operand, on_reader, at_edge, at_terminal, any_text, readers_of, resume, edge_of, edges_of, settle, first_operand}
use Rattle.theory_applying.specs.Operands.{second_operand, first_operands, second_operands}
use Rattle.theory_applying.specs.OperandLaws.{ReaderLaws, FedBy, Fed, AllFed, Comes, Passed, AllPassed, texted, edge-first, edge-second}
use Rattle.theory_applying.specs.OperandLaws.{settled-passed, text-next}
use Rattle.theory_applying.specs.Sitting.{Sits, SitsAll, tables_of, AllLast, sits-first, sits-second}
use Rattle.theory_applying.specs.MemoLaws.{AllOrdered}

-- ---- Tables of block readers -------------------------------------------------------------------------

module _ {BlockReader : Type 0} (deep_of : BlockReader → ℕ) (source_of : BlockReader → Source) (ended_of : BlockReader → Bool)
    (next : BlockReader → BlockReader) where
  -- the tables of block readers as they stand
  abbrev pub reader_tables : List BlockReader → List (List Node)
  reader_tables [] = []
  reader_tables (τ ∷ τs) = (source_of τ).table ∷ reader_tables τs

  -- are those of the inputs' edges
  pub tables-edges : (fs : List (Operand BlockReader)) → tables_of (edges_of deep_of source_of ended_of next fs) ≡ reader_tables (readers_of fs)
  tables-edges [] = refl
  tables-edges (f ∷ fs) = ap (λ (ts : List (List Node)). (source_of f.reader).table ∷ ts) (tables-edges fs)

  -- a block reader stays where an input settles
  settle-reader : (i : ℕ) (f : Operand BlockReader) → (settle deep_of source_of ended_of next i f).reader ≡ f.reader
  settle-reader i f = go f.in_text (ended_of f.reader) (eqb (deep_of f.reader + 1) i)
    where
      go : (t u v : Bool) → (cond t (cond u (at_terminal f) (cond v (at_edge f (source_of f.reader)) f)) f).reader ≡ f.reader
      go true true v = refl
      go true false true = refl
      go true false false = refl
      go false u v = refl

  -- and at a first half
  first-reader : (i : ℕ) (f : Operand BlockReader) → (first_operand deep_of source_of ended_of next i f).reader ≡ f.reader
  first-reader i f = go f.in_text
    where
      go : (u : Bool) → (cond u (settle deep_of source_of ended_of next (i + 1) f)
          (at_edge f (first_source i (edge_of deep_of source_of ended_of next f)))).reader ≡ f.reader
      go true = settle-reader (i + 1) f
      go false = refl

  pub readers-first : (i : ℕ) (fs : List (Operand BlockReader)) → readers_of (first_operands deep_of source_of ended_of next i fs) ≡ readers_of fs
  readers-first i [] = refl
  readers-first i (f ∷ fs) = ap₂ ◌∷◌ (first-reader i f) (readers-first i fs)

  -- ---- Where inputs sit ------------------------------------------------------------------------

  -- an input that is at an edge sits there
  abbrev pub SeatedBy : Bool → Source → ℕ → Type 0
  SeatedBy true y i = Unit {0}
  SeatedBy false y i = Sits i y

  abbrev pub Seated : ℕ → Operand BlockReader → Type 0
  Seated i f = SeatedBy f.in_text (edge_of deep_of source_of ended_of next f) i

  abbrev pub AllSeated : ℕ → List (Operand BlockReader) → Type 0
  AllSeated i [] = Unit {0}
  AllSeated i (f ∷ fs) = Seated i f × AllSeated i fs

  -- all at edges
  pub seated-sit : (i : ℕ) (fs : List (Operand BlockReader)) → any_text fs ≡ false → AllSeated i fs → SitsAll i (edges_of deep_of source_of ended_of next fs)
  seated-sit i [] e h = tt
  seated-sit i (f ∷ fs) e h = (
    subst (λ (u : Bool). SeatedBy u (edge_of deep_of source_of ended_of next f) i) (or_l f.in_text (any_text fs) e) h.0,
    seated-sit i fs (or_r f.in_text (any_text fs) e) h.1,
  )

-- ---- At the halves ---------------------------------------------------------------------------

module _ {BlockReader : Type 0} (deep_of : BlockReader → ℕ) (source_of : BlockReader → Source) (ended_of : BlockReader → Bool)
    (next : BlockReader → BlockReader) (n : ℕ)
    (Reads Ends : BlockReader → ℕ → (ℕ → Bool) → Type 0)
    (law : ReaderLaws deep_of source_of ended_of next n Reads Ends) where
  -- at a part of level j that begins with its block, or where its text has ended
  pub settle-seated : (j at : ℕ) (τ : BlockReader) (y : Source) (x : ℕ → Bool) → Comes deep_of source_of ended_of next n Reads Ends τ at x
      → Seated deep_of source_of ended_of next j (settle deep_of source_of ended_of next j (texted τ y))
  settle-seated j at τ y x h = ⊎_elim
      (λ h. subst⁻¹ (λ (u : Bool). By u (eqb (deep_of τ + 1) j)) (law.reads_on τ at x h) (go h (eqb (deep_of τ + 1) j) refl))
      (λ h. subst⁻¹ (λ (u : Bool). By u (eqb (deep_of τ + 1) j)) (law.ends-over τ at x h)
      (record { ordered = law.ends-ordered τ at x h; deep = λ r. absurd (omega (arith, r)) }))
      h
    where
      By : Bool → Bool → Type 0
      By u v =
          Seated deep_of source_of ended_of next j (cond u (at_terminal (texted τ y)) (cond v (at_edge (texted τ y) (source_of τ)) (texted τ y)))

      go : Reads τ at x → (v : Bool) → eqb (deep_of τ + 1) j ≡ v → By false v
      go h true e = subst (λ (j : ℕ). Sits j (source_of τ)) (eqb-true (deep_of τ + 1) j e) (law.reads-sits τ at x h)
      go h false e = tt

  module _ (i d : ℕ) (real : 0 < i) (deep : i + suc d ≡ suc n) where
    -- at the first half
    seated-first : (at : ℕ) (f : Operand BlockReader) (x : ℕ → Bool) → Fed deep_of source_of ended_of next n Reads Ends i (suc d) at f x
        → Seated deep_of source_of ended_of next i f → Seated deep_of source_of ended_of next (i + 1) (first_operand deep_of source_of ended_of next i f)
    seated-first at f x = go f.in_text
      where
        go : (u : Bool) → FedBy deep_of source_of ended_of next n Reads Ends u f.reader (edge_of deep_of source_of ended_of next f) i (suc d) at x
            → SeatedBy deep_of source_of ended_of next u (edge_of deep_of source_of ended_of next f) i
            → Seated deep_of source_of ended_of next (i + 1)
            (first_operand deep_of source_of ended_of next i (record { reader = f.reader; in_text = u; number = f.number; complement = f.complement }))
        go true h s = settle-seated (i + 1) at f.reader (edge_of deep_of source_of ended_of next f) x (inl h.0)
        go false h s =
            subst⁻¹ (Sits (i + 1)) (edge-first deep_of source_of ended_of next i f) (sits-first i (edge_of deep_of source_of ended_of next f) real s)

    pub all-seated-first : (at : ℕ) (fs : List (Operand BlockReader)) (xs : List (ℕ → Bool))
        → AllFed deep_of source_of ended_of next n Reads Ends i (suc d) at fs xs
        → AllSeated deep_of source_of ended_of next i fs → AllSeated deep_of source_of ended_of next (i + 1) (first_operands deep_of source_of ended_of next i fs)
    all-seated-first at [] [] h s = tt
    all-seated-first at [] (x ∷ xs) h s = tt
    all-seated-first at (f ∷ fs) [] h s = absurd h
    all-seated-first at (f ∷ fs) (x ∷ xs) h s = (seated-first at f x h.0 s.0, all-seated-first at fs xs h.1 s.1)

    module _ (k at : ℕ) (z : at ≡ k * 2 ^ suc d) where
      -- at the second half, with the block reader it has after the first
      seated-second : (f : Operand BlockReader) (x : ℕ → Bool) (υ : BlockReader) → Fed deep_of source_of ended_of next n Reads Ends i (suc d) at f x
          → Passed deep_of source_of ended_of next n Reads Ends (at + 2 ^ d) (first_operand deep_of source_of ended_of next i f) x υ
          → Seated deep_of source_of ended_of next i f
          → Seated deep_of source_of ended_of next (i + 1) (second_operand deep_of source_of ended_of next i (on_reader f υ))
      seated-second f x υ = go f.in_text
        where
          go : (u : Bool) → FedBy deep_of source_of ended_of next n Reads Ends u f.reader (edge_of deep_of source_of ended_of next f) i (suc d) at x
              → Passed deep_of source_of ended_of next n Reads Ends (at + 2 ^ d)
              (first_operand deep_of source_of ended_of next i (record { reader = f.reader; in_text = u; number = f.number; complement = f.complement })) x υ
              → SeatedBy deep_of source_of ended_of next u (edge_of deep_of source_of ended_of next f) i
              → Seated deep_of source_of ended_of next (i + 1)
              (second_operand deep_of source_of ended_of next i (record { reader = υ; in_text = u; number = f.number; complement = f.complement }))
          go true h q s =
              settle-seated (i + 1) (at + 2 ^ d) (next υ) (edge_of deep_of source_of ended_of next f) x
              (text-next deep_of source_of ended_of next n Reads Ends law i d deep k at z
              f.reader υ (edge_of deep_of source_of ended_of next f) x h.0 q)
          go false h q s =
              subst⁻¹ (λ (υ : BlockReader). Seated deep_of source_of ended_of next (i + 1)
              (second_operand deep_of source_of ended_of next i (record { reader = υ; in_text = false; number = f.number; complement = f.complement }))) q
              (subst⁻¹ (Sits (i + 1)) (edge-second deep_of source_of ended_of next i f) (sits-second i (edge_of deep_of source_of ended_of next f) real s))

      -- its table lasts till then, and was ordered
      lasts-second : (f : Operand BlockReader) (x : ℕ → Bool) (υ : BlockReader) → Fed deep_of source_of ended_of next n Reads Ends i (suc d) at f x
          → Passed deep_of source_of ended_of next n Reads Ends (at + 2 ^ d) (first_operand deep_of source_of ended_of next i f) x υ
          → Seated deep_of source_of ended_of next i f
          → Lasts (source_of υ).table (source_of (second_operand deep_of source_of ended_of next i (on_reader f υ)).reader).table
          × Ordered (source_of υ).table
      lasts-second f x υ = go f.in_text
        where
          go : (u : Bool) → FedBy deep_of source_of ended_of next n Reads Ends u f.reader (edge_of deep_of source_of ended_of next f) i (suc d) at x
              → Passed deep_of source_of ended_of next n Reads Ends (at + 2 ^ d)
              (first_operand deep_of source_of ended_of next i (record { reader = f.reader; in_text = u; number = f.number; complement = f.complement })) x υ
              → SeatedBy deep_of source_of ended_of next u (edge_of deep_of source_of ended_of next f) i
              → Lasts (source_of υ).table (source_of (second_operand deep_of source_of ended_of next i
              (record { reader = υ; in_text = u; number = f.number; complement = f.complement })).reader).table
              × Ordered (source_of υ).table
          go true h q s =
              subst⁻¹ (λ (τ : BlockReader). Lasts (source_of υ).table (source_of τ).table × Ordered (source_of υ).table)
              (settle-reader deep_of source_of ended_of next (i + 1) (texted (next υ) (edge_of deep_of source_of ended_of next f)))
              (⊎_elim
              (λ r. (law.reads-lasts υ r.0 x r.1.0, (law.reads-sits υ r.0 x r.1.0).ordered))
              (λ r. (
                subst⁻¹ (λ (τ : BlockReader). Lasts (source_of υ).table (source_of τ).table) (law.ends-stays υ (at + 2 ^ d) x r)
                    (lasts-refl (source_of υ).table),
                law.ends-ordered υ (at + 2 ^ d) x r,
              ))
              (settled-passed deep_of source_of ended_of next n Reads Ends law i d deep at f.reader υ (edge_of deep_of source_of ended_of next f) x
              (inl h.0) q))
          go false h q s = (
            lasts-refl (source_of υ).table,
            subst⁻¹ (λ (τ : BlockReader). Ordered (source_of τ).table) q s.ordered,
          )

      pub all-seated-second : (fs : List (Operand BlockReader)) (xs : List (ℕ → Bool)) (υs : List BlockReader)
          → AllFed deep_of source_of ended_of next n Reads Ends i (suc d) at fs xs
          → AllPassed deep_of source_of ended_of next n Reads Ends (at + 2 ^ d) (first_operands deep_of source_of ended_of next i fs) xs υs
          → AllSeated deep_of source_of ended_of next i fs
          → AllSeated deep_of source_of ended_of next (i + 1) (second_operands deep_of source_of ended_of next i (resume fs υs))
      all-seated-second [] [] υs h q s = tt
      all-seated-second [] (x ∷ xs) υs h q s = tt
      all-seated-second (f ∷ fs) [] υs h q s = absurd h
      all-seated-second (f ∷ fs) (x ∷ xs) [] h q s = absurd q
      all-seated-second (f ∷ fs) (x ∷ xs) (υ ∷ υs) h q s =
          (seated-second f x υ h.0 q.0 s.0, all-seated-second fs xs υs h.1 q.1 s.1)

      -- the tables of all block readers last
      pub all-last-second : (fs : List (Operand BlockReader)) (xs : List (ℕ → Bool)) (υs : List BlockReader)
          → AllFed deep_of source_of ended_of next n Reads Ends i (suc d) at fs xs
          → AllPassed deep_of source_of ended_of next n Reads Ends (at + 2 ^ d) (first_operands deep_of source_of ended_of next i fs) xs υs
          → AllSeated deep_of source_of ended_of next i fs
          → AllLast (reader_tables deep_of source_of ended_of next υs)
          (reader_tables deep_of source_of ended_of next (readers_of (second_operands deep_of source_of ended_of next i (resume fs υs))))
      all-last-second [] [] [] h q s = tt
      all-last-second [] [] (υ ∷ υs) h q s = absurd q
      all-last-second [] (x ∷ xs) υs h q s = absurd h
      all-last-second (f ∷ fs) [] υs h q s = absurd h
      all-last-second (f ∷ fs) (x ∷ xs) [] h q s = absurd q
      all-last-second (f ∷ fs) (x ∷ xs) (υ ∷ υs) h q s =
          ((lasts-second f x υ h.0 q.0 s.0).0, all-last-second fs xs υs h.1 q.1 s.1)

      pub all-ordered : (fs : List (Operand BlockReader)) (xs : List (ℕ → Bool)) (υs : List BlockReader)
          → AllFed deep_of source_of ended_of next n Reads Ends i (suc d) at fs xs
          → AllPassed deep_of source_of ended_of next n Reads Ends (at + 2 ^ d) (first_operands deep_of source_of ended_of next i fs) xs υs
          → AllSeated deep_of source_of ended_of next i fs → AllOrdered (reader_tables deep_of source_of ended_of next υs)
      all-ordered [] [] [] h q s = tt
      all-ordered [] [] (υ ∷ υs) h q s = absurd q
      all-ordered [] (x ∷ xs) υs h q s = absurd h
      all-ordered (f ∷ fs) [] υs h q s = absurd h
      all-ordered (f ∷ fs) (x ∷ xs) [] h q s = absurd q
      all-ordered (f ∷ fs) (x ∷ xs) (υ ∷ υs) h q s =
          ((lasts-second f x υ h.0 q.0 s.0).1, all-ordered fs xs υs h.1 q.1 s.1)
