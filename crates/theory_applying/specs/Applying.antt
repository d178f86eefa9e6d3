-- The inputs of a combiner at edges of their own tables: where they stand at the halves of a block, and what the constants among them fix.
-- Definitions only; code mirrors them, and ApplyLaws says what they show. Assumes nothing.
use Rattle.std.specs.Prelude.{Bool, true, cond, not, ◌&&◌, ◌||◌, List, [], ◌∷◌, ℕ, eqb, ltb}
use Rattle.theory_lists.specs.Lists.{differ}
use Rattle.theory_reading.specs.Nodes.{Node, node}

-- ---- An input --------------------------------------------------------------------------------

-- an input at a block: its table, the number that stands for it there (0: the constant), turned about or not
pub record Source : Type 0 where
  pub table : List Node
  pub number : ℕ
  pub complement : Bool

-- the constant, or a number of a level deeper than i, which stands inside brackets `(A)`
abbrev pub passes : ℕ → Source → Bool
passes i x = eqb x.number 0 || ltb i (node x.table x.number).level

-- at the two halves of a block of level i: inside brackets `(A)` both are it again
abbrev pub first_source : ℕ → Source → Source
first_source i x =
    cond (passes i x) x (record { table = x.table; number = (node x.table x.number).first; complement = x.complement })

abbrev pub second_source : ℕ → Source → Source
second_source i x =
    cond (passes i x) x (record {
      table = x.table;
      number = (node x.table x.number).second;
      complement = differ (node x.table x.number).complement x.complement;
    })

-- ---- All inputs ------------------------------------------------------------------------------

-- at the two halves
abbrev pub first_sources : ℕ → List Source → List Source
first_sources i [] = []
first_sources i (x ∷ xs) = first_source i x ∷ first_sources i xs

abbrev pub second_sources : ℕ → List Source → List Source
second_sources i [] = []
second_sources i (x ∷ xs) = second_source i x ∷ second_sources i xs

-- which of them are turned about: what they decide at the first word of a block
abbrev pub first_values : List Source → List Bool
first_values [] = []
first_values (x ∷ xs) = x.complement ∷ first_values xs

-- all stand inside brackets `(A)` at a block of level i, or are the constant: both halves are alike
abbrev pub all_pass : ℕ → List Source → Bool
all_pass i [] = true
all_pass i (x ∷ xs) = passes i x && all_pass i xs

-- The constants among them fix what op comes to: whatever the others decide, it is the same
unfoldable pub fixed : (List Bool → Bool) → List Source → Bool
fixed op [] = true
fixed op (x ∷ xs) =
    fixed (λ ds. op (x.complement ∷ ds)) xs && (eqb x.number 0 || (fixed (λ ds. op (not x.complement ∷ ds)) xs
    && not (differ (op (x.complement ∷ first_values xs)) (op (not x.complement ∷ first_values xs)))))
