-- One law for each way through code that stands at edges: what terminals fix, the edge at a half of a part, and where an input settles.
-- Assumes nothing.
use Rattle.std.specs.Prelude.{◌≡◌, refl, Bool, true, false, cond, not, ◌&&◌, ◌||◌, List, [], ◌∷◌, ℕ, ◌+◌, eqb, ltb}
use Rattle.std.proofs.Common.{sym, ap, ap₂, ◌∙◌}
use Rattle.theory_lists.specs.Lists.{differ, differ_comm}
use Rattle.theory_reading.specs.Nodes.{Node, node}
use Rattle.theory_applying.specs.Applying.{Source, first_source, second_source, fixed}
use Rattle.theory_applying.specs.Operands.{Operand, at_edge, at_terminal, edge_of, settle, first_operand}
use Rattle.work_table.specs.Table.{get_in}
use Rattle.work_table.specs.TableLaws.{record_node, table_of, table-node}
use Rattle.node_records.specs.Edges.{first_edge, second_edge}
use Rattle.node_records.specs.declared.Edge.{Edge}
use Rattle.node_records.specs.declared.NodeRecord.{NodeRecord}

-- ---- What terminals fix ----------------------------------------------------------------------

-- whether the decision of an input counts, asked at no and yes
either_way : (f : Bool → Bool) (c : Bool) → differ (f false) (f true) ≡ differ (f c) (f (not c))
either_way f true = differ_comm (f true) (f false)
either_way f false = refl

-- what is fixed with one input, and with two
pub fixed-one : (op : List Bool → Bool) (x : Source)
    → (eqb x.number 0 || not (differ (op (false ∷ [])) (op (true ∷ [])))) ≡ fixed op (x ∷ [])
unfolding fixed
fixed-one op x = ap (λ (d : Bool). eqb x.number 0 || not d) (either_way (λ a. op (a ∷ [])) x.complement)

pub fixed-two : (op : List Bool → Bool) (x y : Source)
    → (fixed (λ ds. op (x.complement ∷ ds)) (y ∷ []) && (eqb x.number 0 || (fixed (λ ds. op (not x.complement ∷ ds)) (y ∷ [])
    && not (differ (op (false ∷ y.complement ∷ [])) (op (true ∷ y.complement ∷ [])))))) ≡ fixed op (x ∷ y ∷ [])
unfolding fixed
fixed-two op x y =
    ap (λ (d : Bool). fixed (λ ds. op (x.complement ∷ ds)) (y ∷ []) && (eqb x.number 0 || (fixed (λ ds. op (not x.complement ∷ ds)) (y ∷ []) && not d)))
    (either_way (λ a. op (a ∷ y.complement ∷ [])) x.complement)

-- ---- An edge at the halves of a part ---------------------------------------------------------

-- x: the edge in a table of z numbers; r: the record that code read
module _ (t : List NodeRecord) (z i : ℕ) (x : Edge) (r : NodeRecord) (read : r ≡ get_in t z x.number) where
  abbrev source : Edge → Source
  source e = record { table = table_of t z; number = e.number; complement = e.complement }

  same : record_node r ≡ node (table_of t z) x.number
  same = ap record_node read ∙ sym (table-node t z x.number)

  by-test : (b : Bool) (e f : Edge) → source (cond b e f) ≡ cond b (source e) (source f)
  by-test true e f = refl
  by-test false e f = refl

  -- y, e: the edge and its child as code holds them
  pub first-child : (y e : Edge) → y ≡ x → e ≡ first_edge r i y → source e ≡ first_source i (source x)
  first-child y e g h =
      ap source (h ∙ ap (first_edge r i) g)
      ∙ by-test (eqb x.number 0 || ltb i r.level) x (record { number = r.first; complement = x.complement })
      ∙ ap (λ (n : Node). cond (eqb x.number 0 || ltb i n.level) (source x) (source (record { number = n.first; complement = x.complement })))
      same

  pub second-child : (y e : Edge) → y ≡ x → e ≡ second_edge r i y → source e ≡ second_source i (source x)
  second-child y e g h =
      ap source (h ∙ ap (second_edge r i) g)
      ∙ by-test (eqb x.number 0 || ltb i r.level) x (record { number = r.second; complement = differ (not (eqb r.complement 0)) x.complement })
      ∙ ap (λ (n : Node). cond (eqb x.number 0 || ltb i n.level) (source x)
      (source (record { number = n.second; complement = differ n.complement x.complement }))) same

-- ---- Where an input settles ------------------------------------------------------------------

module _ {BlockReader : Type 0} (deep_of : BlockReader → ℕ) (source_of : BlockReader → Source) (ended_of : BlockReader → Bool)
    (next : BlockReader → BlockReader) (i : ℕ)
    (f : Operand BlockReader) where
  -- by whether it is in its text, its text has ended, and its block is as great as the part
  abbrev placed : Bool → Bool → Bool → Operand BlockReader
  placed t u v = cond t (cond u (at_terminal f) (cond v (at_edge f (source_of f.reader)) f)) f

  -- not in its text
  pub settle-edge : f.in_text ≡ false → f ≡ settle deep_of source_of ended_of next i f
  settle-edge e = ap (λ (t : Bool). placed t (ended_of f.reader) (eqb (deep_of f.reader + 1) i)) (sym e)

  -- past the end of it
  pub settle-ended : f.in_text ≡ true → ended_of f.reader ≡ true → at_terminal f ≡ settle deep_of source_of ended_of next i f
  settle-ended e h = ap₂ (λ (t u : Bool). placed t u (eqb (deep_of f.reader + 1) i)) (sym e) (sym h)

  -- in its text, at a smaller block
  pub settle-inside : f.in_text ≡ true → ended_of f.reader ≡ false → eqb (deep_of f.reader + 1) i ≡ false
      → f ≡ settle deep_of source_of ended_of next i f
  settle-inside e h g =
      ap (λ (v : Bool). placed true false v) (sym g)
      ∙ ap₂ (λ (t u : Bool). placed t u (eqb (deep_of f.reader + 1) i)) (sym e) (sym h)

  -- at one as great as the part
  pub settle-here : f.in_text ≡ true → ended_of f.reader ≡ false → eqb (deep_of f.reader + 1) i ≡ true
      → at_edge f (source_of f.reader) ≡ settle deep_of source_of ended_of next i f
  settle-here e h g =
      ap (λ (v : Bool). placed true false v) (sym g)
      ∙ ap₂ (λ (t u : Bool). placed t u (eqb (deep_of f.reader + 1) i)) (sym e) (sym h)

  -- at the first half of a part of level i: in its text, or at the edge x
  pub first-inside : f.in_text ≡ true → settle deep_of source_of ended_of next (i + 1) f ≡ first_operand deep_of source_of ended_of next i f
  first-inside e =
      ap (λ (b : Bool). cond b (settle deep_of source_of ended_of next (i + 1) f) (at_edge f (first_source i (edge_of deep_of source_of ended_of next f)))) (sym e)

  pub first_edge_lem : (x : Source) → f.in_text ≡ false → x ≡ first_source i (edge_of deep_of source_of ended_of next f)
      → at_edge f x ≡ first_operand deep_of source_of ended_of next i f
  first_edge_lem x e h =
      ap (at_edge f) h
      ∙ ap (λ (b : Bool). cond b (settle deep_of source_of ended_of next (i + 1) f) (at_edge f (first_source i (edge_of deep_of source_of ended_of next f)))) (sym e)

-- the second of two, if there is no more
pub and_none : (b : Bool) → b ≡ (b && true)
and_none true = refl
and_none false = refl
