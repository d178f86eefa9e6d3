-- The walk from a number of a table to a decision. That it decides as the diagram: proofs/TableWalk. Assumes nothing.
use Rattle.std.specs.Prelude.{Bool, ℕ, ◌+◌, ltb, eqb}
use Rattle.std.proofs.Math.Bool.{true, false, cond}
use mathlib.Core.List.{List, [], ◌∷◌}
use Rattle.theory_reading.specs.Nodes.{Node, node}
use Rattle.theory_reading.specs.Deciding.{Decision, undecided, decided, complemented}

-- The node of level i that stands for the number c, under the options from level i on. A number of a deeper level stands inside brackets
-- `(A)`, whose children are alike: the option is passed over.
unfoldable pub table_walk : List Node → ℕ → ℕ → List Bool → Decision
table_walk t i c [] = cond (eqb c 0) (decided false) undecided
table_walk t i c (o ∷ os) =
    elim (eqb c 0) [
      | true ↦ decided false
      | false ↦
          elim (ltb i (node t c).level) [
            | true ↦ table_walk t (i + 1) c os
            | false ↦
                elim o [
                  | false ↦ table_walk t (i + 1) (node t c).first os
                  | true ↦ complemented (node t c).complement
                      (table_walk t (i + 1) (node t c).second os)
                ]
          ]
    ]
