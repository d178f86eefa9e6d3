-- Inputs at edges of ordered tables: an edge lies no higher than the part at which an input stands. And what an edge shows lasts while
-- its number keeps its stamp. Assumes nothing.
use Rattle.std.specs.Prelude.{◌≡◌, refl, Bool, true, false, cond, ◌&&◌, ◌||◌, List, [], ◌∷◌, ℕ, suc, ◌+◌, ◌≤◌, ◌<◌, eqb, ltb}
use Rattle.std.proofs.Common.{sym, ap, ap₂, ◌∙◌, true≢false, arith, eqb-true, ltb-true, ltb-false, lt-ltb}
use Rattle.std.proofs.lemmas.Bool.{eqb-false}
use Rattle.theory_lists.specs.Lists.{differ, or_l, or_r, and-true}
use Rattle.theory_reading.specs.Nodes.{Node, node, stamp}
use Rattle.theory_reading.specs.Deciding.{options, complemented}
use Rattle.theory_reading.proofs.Lasting.{Lasts, Ordered, is-first, is-second, table_walk-lasts}
use Rattle.theory_applying.specs.Applying.{Source, passes, first_source, second_source, first_sources, second_sources, all_pass}
use Rattle.theory_applying.specs.ApplyLaws.{Shows}

-- ---- Where an input sits ---------------------------------------------------------------------

-- at the constant, or at a number of level i or deeper, in a table whose children lie deeper
pub record Sits (i : ℕ) (x : Source) : Type 0 where
  pub ordered : Ordered x.table
  pub deep : 0 < x.number → i ≤ (node x.table x.number).level

-- all inputs
abbrev pub SitsAll : ℕ → List Source → Type 0
SitsAll i [] = Unit {0}
SitsAll i (x ∷ xs) = Sits i x × SitsAll i xs

-- their tables
abbrev pub tables_of : List Source → List (List Node)
tables_of [] = []
tables_of (x ∷ xs) = x.table ∷ tables_of xs

module _ (i : ℕ) (x : Source) (real : 0 < i) (h : Sits i x) where
  -- a level that it passes over lies above its number
  pass-deep : passes i x ≡ true → 0 < x.number → i < (node x.table x.number).level
  pass-deep e r = go (eqb x.number 0) refl e
    where
      go : (u : Bool) → eqb x.number 0 ≡ u → (u || ltb i (node x.table x.number).level) ≡ true
          → i < (node x.table x.number).level
      go true z l = absurd (omega (arith, r, eqb-true x.number 0 z))
      go false z l = ltb-true i (node x.table x.number).level l

  -- else its number is of that level
  pass-level : passes i x ≡ false → (0 < x.number) × ((node x.table x.number).level ≡ i)
  pass-level e =
      let z = eqb-false x.number 0 (or_l (eqb x.number 0) _ e) in
      let l = ltb-false i (node x.table x.number).level (or_r (eqb x.number 0) _ e) in
      let r : 0 < x.number = omega (arith, z) in
      (r, omega (arith, l, h.deep r))

  -- it sits at its halves
  pub sits-first : Sits (i + 1) (first_source i x)
  sits-first = go (passes i x) refl
    where
      y : Source
      y = record { table = x.table; number = (node x.table x.number).first; complement = x.complement }

      go : (u : Bool) → passes i x ≡ u → Sits (i + 1) (cond u x y)
      go true e = record { ordered = h.ordered; deep = λ r. omega (arith, pass-deep e r) }
      go false e =
          let l = pass-level e in
          record {
            ordered = h.ordered;
            deep = λ r. omega (
              arith,
              l.1,
              h.ordered x.number y.number (omega (arith, l.1, real)) (is-first (node x.table x.number)) r,
            );
          }

  pub sits-second : Sits (i + 1) (second_source i x)
  sits-second = go (passes i x) refl
    where
      y : Source
      y =
          record {
            table = x.table;
            number = (node x.table x.number).second;
            complement = differ (node x.table x.number).complement x.complement;
          }

      go : (u : Bool) → passes i x ≡ u → Sits (i + 1) (cond u x y)
      go true e = record { ordered = h.ordered; deep = λ r. omega (arith, pass-deep e r) }
      go false e =
          let l = pass-level e in
          record {
            ordered = h.ordered;
            deep = λ r. omega (
              arith,
              l.1,
              h.ordered x.number y.number (omega (arith, l.1, real)) (is-second (node x.table x.number)) r,
            );
          }

-- its table stays
table-first : (i : ℕ) (x : Source) → (first_source i x).table ≡ x.table
table-first i x = go (passes i x)
  where
    y : Source
    y = record { table = x.table; number = (node x.table x.number).first; complement = x.complement }

    go : (u : Bool) → (cond u x y).table ≡ x.table
    go true = refl
    go false = refl

table-second : (i : ℕ) (x : Source) → (second_source i x).table ≡ x.table
table-second i x = go (passes i x)
  where
    y : Source
    y =
        record {
          table = x.table;
          number = (node x.table x.number).second;
          complement = differ (node x.table x.number).complement x.complement;
        }

    go : (u : Bool) → (cond u x y).table ≡ x.table
    go true = refl
    go false = refl

-- ---- All inputs ------------------------------------------------------------------------------

pub all-sit-first : (i : ℕ) (xs : List Source) → 0 < i → SitsAll i xs → SitsAll (i + 1) (first_sources i xs)
all-sit-first i [] r h = tt
all-sit-first i (x ∷ xs) r h = (sits-first i x r h.0, all-sit-first i xs r h.1)

pub all-sit-second : (i : ℕ) (xs : List Source) → 0 < i → SitsAll i xs → SitsAll (i + 1) (second_sources i xs)
all-sit-second i [] r h = tt
all-sit-second i (x ∷ xs) r h = (sits-second i x r h.0, all-sit-second i xs r h.1)

pub tables-first : (i : ℕ) (xs : List Source) → tables_of (first_sources i xs) ≡ tables_of xs
tables-first i [] = refl
tables-first i (x ∷ xs) = ap₂ ◌∷◌ (table-first i x) (tables-first i xs)

pub tables-second : (i : ℕ) (xs : List Source) → tables_of (second_sources i xs) ≡ tables_of xs
tables-second i [] = refl
tables-second i (x ∷ xs) = ap₂ ◌∷◌ (table-second i x) (tables-second i xs)

-- inputs that sit deeper pass over the level
sits-pass : (i : ℕ) (x : Source) → Sits (suc i) x → passes i x ≡ true
sits-pass i x h = go (eqb x.number 0) refl
  where
    go : (u : Bool) → eqb x.number 0 ≡ u → (u || ltb i (node x.table x.number).level) ≡ true
    go true e = refl
    go false e =
        let z = eqb-false x.number 0 e in lt-ltb i (node x.table x.number).level (h.deep (omega (arith, z)))

pub all-pass-deep : (i : ℕ) (xs : List Source) → SitsAll (suc i) xs → all_pass i xs ≡ true
all-pass-deep i [] h = refl
all-pass-deep i (x ∷ xs) h = and-true (sits-pass i x h.0) (all-pass-deep i xs h.1)

-- they sit higher too
pub all-sit-higher : (i j : ℕ) (xs : List Source) → i ≤ j → SitsAll j xs → SitsAll i xs
all-sit-higher i j [] l h = tt
all-sit-higher i j (x ∷ xs) l h =
    (record { ordered = h.0.ordered; deep = λ r. omega (arith, l, h.0.deep r) }, all-sit-higher i j xs l h.1)

-- inputs one of which does not pass over level j sit no deeper
pub not-deeper : (i j : ℕ) (xs : List Source) → all_pass j xs ≡ false → SitsAll i xs → i ≤ j
not-deeper i j [] e h = absurd (true≢false e)
not-deeper i j (x ∷ xs) e h = go (passes j x) refl e (λ d. not-deeper i j xs d h.1)
  where
    go : (u : Bool) → passes j x ≡ u → (u && all_pass j xs) ≡ false → (all_pass j xs ≡ false → i ≤ j) → i ≤ j
    go true p f rest = rest f
    go false p f rest =
        let z = eqb-false x.number 0 (or_l (eqb x.number 0) _ p) in
        let l = ltb-false j (node x.table x.number).level (or_r (eqb x.number 0) _ p) in
        omega (arith, l, h.0.deep (omega (arith, z)))

-- ---- Tables that are read on -----------------------------------------------------------------

-- the tables of the inputs last
abbrev pub AllLast : List (List Node) → List (List Node) → Type 0
AllLast [] [] = Unit {0}
AllLast [] (u ∷ us) = ⊥
AllLast (t ∷ ts) [] = ⊥
AllLast (t ∷ ts) (u ∷ us) = Lasts t u × AllLast ts us

-- the edge in another table
abbrev pub in_table : List Node → Source → Source
in_table t x = record { table = t; number = x.number; complement = x.complement }

-- all of them, as many
abbrev pub in_tables : List (List Node) → List Source → List Source
in_tables [] xs = []
in_tables (t ∷ ts) [] = []
in_tables (t ∷ ts) (x ∷ xs) = in_table t x ∷ in_tables ts xs

-- an edge whose number kept its stamp since the table t showed what it shows,
pub shows-since : (t : List Node) (x : Source) (m i : ℕ) (g : ℕ → Bool) → Lasts t x.table
    → (0 < x.number → stamp x.table x.number ≡ stamp t x.number) → Shows x m i g → Shows (in_table t x) m i g
shows-since t x m i g l e h w b =
    sym (ap (complemented x.complement) (table_walk-lasts t x.table l i x.number (options m w) e)) ∙ h w b

-- and sat as deep, in a table that was ordered
pub sits-since : (t : List Node) (x : Source) (i : ℕ) → Lasts t x.table
    → (0 < x.number → stamp x.table x.number ≡ stamp t x.number) → Ordered t → Sits i x → Sits i (in_table t x)
sits-since t x i l e o h =
    record {
      ordered = o;
      deep = λ r. omega (arith, h.deep r, ap (λ (y : Node). y.level) (l.same x.number (e r)));
    }
