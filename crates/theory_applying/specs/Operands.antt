-- The inputs of a combiner and their texts: each stands at an edge of its table, or in its text at a block that a block reader has read.
-- Definitions only; code mirrors them, and OperandLaws says where they stand. Assumes nothing.
use Rattle.std.specs.Prelude.{Bool, true, false, cond, ◌||◌, List, [], ◌∷◌, ℕ, ◌+◌, eqb}
use Rattle.theory_engine.specs.Engine.{Walked}
use Rattle.theory_applying.specs.Applying.{Source, first_source, second_source}

-- ---- What is known ---------------------------------------------------------------------------

-- An input at a part: its block reader; whether it is still in its text, the block reader at the block that begins with the part and is smaller; else
-- the edge that stands for the whole part: a number of the block reader's table (0: the constant), turned about or not
pub record Operand (BlockReader : Type 0) : Type 0 where
  pub reader : BlockReader
  pub in_text : Bool
  pub number : ℕ
  pub complement : Bool

-- after a part: the engine, the inputs' block readers, and whether the first word that is not covered was met
pub record Applied (BlockReader : Type 0) : Type 0 where
  pub walked : Walked
  pub readers : List BlockReader
  pub ended : Bool

-- ---- Inputs and their block readers ------------------------------------------------------------------

module _ {BlockReader : Type 0} where
  -- an input with a block reader put in
  abbrev pub on_reader : Operand BlockReader → BlockReader → Operand BlockReader
  on_reader f τ = record { reader = τ; in_text = f.in_text; number = f.number; complement = f.complement }

  -- at an edge, with its block reader kept
  abbrev pub at_edge : Operand BlockReader → Source → Operand BlockReader
  at_edge f x = record { reader = f.reader; in_text = false; number = x.number; complement = x.complement }

  -- at the terminal, with its block reader kept
  abbrev pub at_terminal : Operand BlockReader → Operand BlockReader
  at_terminal f = record { reader = f.reader; in_text = false; number = 0; complement = false }

  -- one of them is still in its text
  abbrev pub any_text : List (Operand BlockReader) → Bool
  any_text [] = false
  any_text (f ∷ fs) = f.in_text || any_text fs

  -- their block readers
  abbrev pub readers_of : List (Operand BlockReader) → List BlockReader
  readers_of [] = []
  readers_of (f ∷ fs) = f.reader ∷ readers_of fs

  -- with the block readers of a list put in, as many
  abbrev pub resume : List (Operand BlockReader) → List BlockReader → List (Operand BlockReader)
  resume [] τs = []
  resume (f ∷ fs) [] = f ∷ fs
  resume (f ∷ fs) (τ ∷ τs) = on_reader f τ ∷ resume fs τs

  -- nothing is walked after it: the first word that is not covered was met, or more was sent than the output holds
  abbrev pub halted : Applied BlockReader → Bool
  halted a = a.ended || a.walked.progress.full

  -- the first word after it is not covered
  abbrev pub ended_at : Applied BlockReader → Applied BlockReader
  ended_at a = record { walked = a.walked; readers = a.readers; ended = true }

  -- the walk went on, with these block readers
  abbrev pub went_on : Walked → List BlockReader → Applied BlockReader
  went_on x τs = record { walked = x; readers = τs; ended = false }

-- ---- The halves of a part --------------------------------------------------------------------

-- deep_of: how many nodes are open around a block reader's block; source_of: the edge that stands for it; ended_of: reading has come to its end,
-- and no block is there; next: the block reader a block further, or as it is where it has ended
module _ {BlockReader : Type 0} (deep_of : BlockReader → ℕ) (source_of : BlockReader → Source) (ended_of : BlockReader → Bool)
    (next : BlockReader → BlockReader) where
  -- the edge of an input in its block reader's table
  abbrev pub edge_of : Operand BlockReader → Source
  edge_of f = record { table = (source_of f.reader).table; number = f.number; complement = f.complement }

  -- their edges
  abbrev pub edges_of : List (Operand BlockReader) → List Source
  edges_of [] = []
  edges_of (f ∷ fs) = edge_of f ∷ edges_of fs

  -- at a part of level i: past the end of its text an input decides no; a block as great as the part is an edge
  abbrev pub settle : ℕ → Operand BlockReader → Operand BlockReader
  settle i f =
      cond f.in_text (cond (ended_of f.reader) (at_terminal f) (cond (eqb (deep_of f.reader + 1) i) (at_edge f (source_of f.reader)) f)) f

  -- at the two halves of a part of level i
  abbrev pub first_operand : ℕ → Operand BlockReader → Operand BlockReader
  first_operand i f = cond f.in_text (settle (i + 1) f) (at_edge f (first_source i (edge_of f)))

  abbrev pub second_operand : ℕ → Operand BlockReader → Operand BlockReader
  second_operand i f = cond f.in_text (settle (i + 1) (on_reader f (next f.reader))) (at_edge f (second_source i (edge_of f)))

  -- all of them
  abbrev pub first_operands : ℕ → List (Operand BlockReader) → List (Operand BlockReader)
  first_operands i [] = []
  first_operands i (f ∷ fs) = first_operand i f ∷ first_operands i fs

  abbrev pub second_operands : ℕ → List (Operand BlockReader) → List (Operand BlockReader)
  second_operands i [] = []
  second_operands i (f ∷ fs) = second_operand i f ∷ second_operands i fs

  -- which of them are turned about: what they decide at the first word of the part
  abbrev pub first_values_of : List (Operand BlockReader) → List Bool
  first_values_of [] = []
  first_values_of (f ∷ fs) = cond f.in_text (source_of f.reader).complement f.complement ∷ first_values_of fs
