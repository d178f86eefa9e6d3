-- Going down the nodes of the table as code does: an edge to a child at a time. Assumes nothing.
use Rattle.std.specs.Prelude.{◌≡◌, refl, Bool, true, false, cond, not, eqb, List, ◌∷◌, ℕ, suc, ◌+◌, ◌-◌, ◌*◌, ◌%◌, ◌^◌, ◌<◌, ◌≤◌}
use Rattle.std.proofs.Common.{sym, ap, ◌∙◌, ⊎_elim, arith, ne_eqb, lt-ltb, le-ltb}
use Rattle.theory_lists.specs.Lists.{decide-le}
use Rattle.theory_reading.specs.Limits.{option_limit}
use Rattle.theory_reading.specs.Nodes.{Node, node}
use Rattle.theory_reading.specs.Deciding.{options, Decision, undecided, decided, complemented}
use Rattle.theory_reading.specs.Words.{options-low, options-high, complemented-twice}
use Rattle.theory_reading.specs.TableWalk.{table_walk}
use Rattle.theory_reading.proofs.TableWalk.{table_walk-zero, table_walk-skip, table_walk-go}
use Rattle.work_table.specs.Table.{get_in}
use Rattle.work_table.specs.TableLaws.{record_node, table_of, table-node}
use Rattle.theory_lists.specs.Powers.{few_words}
use Rattle.node_records.specs.Edges.{first_edge, second_edge}
use Rattle.node_records.specs.declared.Edge.{Edge}
use Rattle.node_records.specs.declared.NodeRecord.{NodeRecord}

-- the node of level i that e stands for, under the options from level i on
abbrev pub edge_walk : List Node → ℕ → Edge → List Bool → Decision
edge_walk t i e os = complemented e.complement (table_walk t i e.number os)

-- The terminal decides no, turned about or not.
pub walk-terminal : (t : List Node) (i : ℕ) (e : Edge) (os : List Bool) → e.number ≡ 0 → decided e.complement ≡ edge_walk t i e os
walk-terminal t i e os z = sym (ap (λ (c : ℕ). complemented e.complement (table_walk t i c os)) z
    ∙ ap (complemented e.complement) (table_walk-zero t i os) ∙ no e.complement)
  where
    no : (b : Bool) → complemented b (decided false) ≡ decided b
    no true = refl
    no false = refl

-- A number with no option left decides nothing.
pub walk-over : (t : List Node) (i : ℕ) (e : Edge) (m w : ℕ) → (e.number ≡ 0 → ⊥) → m ≡ 0 → undecided ≡ edge_walk t i e (options m w)
unfolding table_walk options
walk-over t i e m w some z = sym (ap (λ (k : ℕ). edge_walk t i e (options k w)) z ∙ rw (ne_eqb e.number 0 some) refl)

module _ (t : List NodeRecord) (z i : ℕ) (e : Edge) (x : NodeRecord) (some : e.number ≡ 0 → ⊥) (got : x ≡ get_in t z e.number) where
  here : node (table_of t z) e.number ≡ record_node x
  here = table-node t z e.number ∙ ap record_node (sym got)

  level-here : (node (table_of t z) e.number).level ≡ x.level
  level-here = ap (λ (y : Node). y.level) here

  -- inside brackets the option is passed over
  skipped : (o : Bool) (os : List Bool) → i < x.level → edge_walk (table_of t z) i e (o ∷ os) ≡ edge_walk (table_of t z) (i + 1) e os
  skipped o os h = ap (complemented e.complement) (table_walk-skip (table_of t z) i e.number o os some (omega (arith, level-here, h)))

  -- the option picks the child
  gone : (o : Bool) (os : List Bool) → x.level ≤ i
      → table_walk (table_of t z) i e.number (o ∷ os) ≡ cond o (complemented (not (eqb x.complement 0)) (table_walk (table_of t z) (i + 1) x.second os))
      (table_walk (table_of t z) (i + 1) x.first os)
  gone o os h =
      table_walk-go (table_of t z) i e.number o os some (omega (arith, level-here, h))
      ∙ ap (λ (y : Node). cond o (complemented y.complement (table_walk (table_of t z) (i + 1) y.second os))
      (table_walk (table_of t z) (i + 1) y.first os)) here

  pub walk_first : (os : List Bool) → edge_walk (table_of t z) i e (false ∷ os) ≡ edge_walk (table_of t z) (i + 1) (first_edge x i e) os
  walk_first os = ⊎_elim
      (λ (h : x.level ≤ i). rw (ne_eqb e.number 0 some, le-ltb i x.level h) (ap (complemented e.complement) (gone false os h)))
      (λ (h : i < x.level). rw (ne_eqb e.number 0 some, lt-ltb i x.level h) (skipped false os h))
      (decide-le x.level i)

  pub walk-second : (os : List Bool) → edge_walk (table_of t z) i e (true ∷ os) ≡ edge_walk (table_of t z) (i + 1) (second_edge x i e) os
  walk-second os = ⊎_elim
      (λ (h : x.level ≤ i). rw (ne_eqb e.number 0 some, le-ltb i x.level h)
      (ap (complemented e.complement) (gone true os h) ∙ complemented-twice e.complement (not (eqb x.complement 0))
      (table_walk (table_of t z) (i + 1) x.second os)))
      (λ (h : i < x.level). rw (ne_eqb e.number 0 some, lt-ltb i x.level h) (skipped true os h))
      (decide-le x.level i)

  -- A WORD BELOW THE HALF goes on in the first child, any other in the second. half: as code has 2 ^ (m - 1)
  module _ (m w : ℕ) (more : m ≡ 0 → ⊥) (most : m ≤ option_limit) where
    abbrev half : ℕ
    half = 1 * 2 ^ (m - 1) % 18446744073709551616

    halved : half ≡ 2 ^ (m - 1)
    halved = few_words m 1 (omega (arith, most))

    one_more_lem : suc (m - 1) ≡ m
    one_more_lem = omega (arith, more)

    -- f: the child as the call before has it
    pub walk-low : (f : Edge) → f ≡ first_edge x i e → w < half
        → edge_walk (table_of t z) (i + 1) f (options (m - 1) w) ≡ edge_walk (table_of t z) i e (options m w)
    walk-low f child h =
        ap (λ (g : Edge). edge_walk (table_of t z) (i + 1) g (options (m - 1) w)) child
        ∙ sym (walk_first (options (m - 1) w))
        ∙ ap (edge_walk (table_of t z) i e) (sym (options-low (m - 1) w (omega (arith, halved, h))) ∙ ap (λ (k : ℕ). options k w) one_more_lem)

    pub walk-high : (f : Edge) → f ≡ second_edge x i e → half ≤ w
        → edge_walk (table_of t z) (i + 1) f (options (m - 1) (w - half)) ≡ edge_walk (table_of t z) i e (options m w)
    walk-high f child h =
        ap (λ (g : Edge). edge_walk (table_of t z) (i + 1) g (options (m - 1) (w - half))) child
        ∙ ap (λ (k : ℕ). edge_walk (table_of t z) (i + 1) (second_edge x i e) (options (m - 1) (w - k))) halved
        ∙ sym (walk-second (options (m - 1) (w - 2 ^ (m - 1))))
        ∙ ap (edge_walk (table_of t z) i e) (sym (options-high (m - 1) w (omega (arith, halved, h))) ∙ ap (λ (k : ℕ). options k w) one_more_lem)
