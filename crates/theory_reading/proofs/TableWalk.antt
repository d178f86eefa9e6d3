-- THE TABLE DECIDES: a walk by the records of the table, which hold no diagrams, decides as the diagrams drawn from the text do.
-- It is what code walks. Assumes nothing.
use Rattle.std.specs.Prelude.{◌≡◌, Bool, ◌||◌, ℕ, zero, suc, ◌+◌, ◌-◌, ◌<◌, ◌≤◌, ltb, eqb, length, get_or, set}
use Rattle.std.proofs.Math.Path.{refl, sym, ap}
use Rattle.std.proofs.Common.{◌∙◌, subst, ⊎_elim, true≢false, arith, length-set, get_or-set_same, get_or-set_other, ltb-false, lt-ltb, le-ltb, eqb-true, ne_eqb}
use Rattle.std.proofs.Math.Bool.{true, false, cond}
use Rattle.std.proofs.lemmas.Bool.{false≢true, eqb-false, not-false}
use mathlib.Core.List.{List, [], ◌∷◌}
use Rattle.std.proofs.Math.Option.{Option, none, some}
use Prim.{Unit, tt}
use Rattle.std.proofs.lemmas.List.{length-replicate}
use Rattle.theory_lists.specs.Lists.{or_l, or_r, decide_eq}
use Rattle.theory_lists.specs.Maps.{get_or-replicate-same}
use Rattle.theory_reading.specs.Nodes.{Ref, terminal, entry, temporary, is_kept, child, Node, new_node, no_node, node, stamp, is_child, has_parent}
use Rattle.theory_reading.specs.Nodes.{bars}
use Rattle.theory_reading.specs.Element.{Open, in_first, in_second, Context, start, lead, begins, after_digit, after_two, after_one, over}
use Rattle.theory_reading.specs.Element.{moved, step}
use Rattle.theory_reading.specs.Reading.{State, Fault, Reading, goes, fresh, level, passed, is_bad, stored, is_two, next_by, next}
use Rattle.theory_reading.specs.Deciding.{Decision, undecided, decided, complemented, Diagram, missing, leaf, branch, walk, top, below, Drawing}
use Rattle.theory_reading.specs.Deciding.{drawing, draw_unless, Trace, traced, next_trace, trace_on, ended}
use Rattle.theory_reading.proofs.Moves.{Begins, anew, second, Move, rests, refuses, sizes, leads, opens, constants, numbers, turns, closes_one}
use Rattle.theory_reading.proofs.Moves.{closes_two, stores, ends, advance-move}
use Rattle.theory_reading.proofs.Covered.{Good, Nest, is_outside, under, good-move, good-fresh, GoodTrace}
use Rattle.theory_reading.specs.TableWalk.{table_walk}

-- ---- The walk --------------------------------------------------------------------------------

pub table_walk-zero : (t : List Node) (i : ℕ) (os : List Bool) → table_walk t i 0 os ≡ decided false
unfolding table_walk
table_walk-zero t i [] = refl
table_walk-zero t i (o ∷ os) = refl

-- the step of the walk by what it asks: the terminal, a deeper level, the option
abbrev chosen_walk : Bool → Bool → Bool → Decision → Decision → Decision → Decision
chosen_walk z l o x a b = cond z (decided false) (cond l x (cond o b a))

row_by : (z l o : Bool) (x a b : Decision) → elim z as (λ _. Decision)
    [ true ↦ decided false | false ↦ elim l as (λ _. Decision) [ true ↦ x | false ↦ elim o as (λ _. Decision) [ false ↦ a | true ↦ b ] ] ]
    ≡ chosen_walk z l o x a b
row_by true l o x a b = refl
row_by false true o x a b = refl
row_by false false true x a b = refl
row_by false false false x a b = refl

table_walk-cons : (t : List Node) (i c : ℕ) (o : Bool) (os : List Bool) → table_walk t i c (o ∷ os)
    ≡ chosen_walk (eqb c 0) (ltb i (node t c).level) o (table_walk t (i + 1) c os) (table_walk t (i + 1) (node t c).first os)
    (complemented (node t c).complement (table_walk t (i + 1) (node t c).second os))
unfolding table_walk
table_walk-cons t i c o os = row_by (eqb c 0) (ltb i (node t c).level) o _ _ _

pub table_walk-skip : (t : List Node) (i c : ℕ) (o : Bool) (os : List Bool) → (c ≡ 0 → ⊥) → i < (node t c).level → table_walk t i c (o ∷ os)
    ≡ table_walk t (i + 1) c os
table_walk-skip t i c o os z h = table_walk-cons t i c o os ∙ rw (ne_eqb c 0 z, lt-ltb _ _ h) refl

pub table_walk-go : (t : List Node) (i c : ℕ) (o : Bool) (os : List Bool) → (c ≡ 0 → ⊥) → (node t c).level ≤ i → table_walk t i c (o ∷ os)
    ≡ cond o (complemented (node t c).complement (table_walk t (i + 1) (node t c).second os)) (table_walk t (i + 1) (node t c).first os)
table_walk-go t i c o os z h = table_walk-cons t i c o os ∙ rw (ne_eqb c 0 z, le-ltb _ _ h) refl

-- ---- A storing -------------------------------------------------------------------------------

-- a number without parents is nobody's child
pub child-none : (t : List Node) (j k : ℕ) → (k ≡ 0 → ⊥) → has_parent t k ≡ false → ((node t j).first ≡ k → ⊥) × ((node t j).second ≡ k → ⊥)
unfolding has_parent
child-none [] j k z h = (λ e. z (sym e), λ e. z (sym e))
child-none (x ∷ t) zero k z h = let f = or_l (is_child k x) (has_parent t k) h in
    (eqb-false _ _ (or_l (eqb x.first k) _ f), eqb-false _ _ (or_r (eqb x.first k) _ f))
child-none (x ∷ t) (suc j) k z h = child-none t j k z (or_r (is_child k x) (has_parent t k) h)

module _ (t : List Node) (k : ℕ) (x : Node) (z : k ≡ 0 → ⊥) (none : has_parent t k ≡ false) where
  node-other : (c : ℕ) → (c ≡ k → ⊥) → node (set t k x) c ≡ node t c
  node-other c h = get_or-set_other t k c x no_node h

  set-step : (i c : ℕ) (o : Bool) (os : List Bool) → (c ≡ k → ⊥) → ((d : ℕ) → (d ≡ k → ⊥) → table_walk (set t k x) (i + 1) d os
      ≡ table_walk t (i + 1) d os) → table_walk (set t k x) i c (o ∷ os) ≡ table_walk t i c (o ∷ os)
  set-step i c o os m h =
      let f = child-none t c k z none in
      let y = node t c in
      let l = ltb i y.level in
      table_walk-cons (set t k x) i c o os
      ∙ ap (λ (y : Node). chosen_walk (eqb c 0) (ltb i y.level) o (table_walk (set t k x) (i + 1) c os) (table_walk (set t k x) (i + 1) y.first os)
      (complemented y.complement (table_walk (set t k x) (i + 1) y.second os))) (node-other c m)
      ∙ ap (λ (d : Decision). chosen_walk (eqb c 0) l o d (table_walk (set t k x) (i + 1) y.first os)
      (complemented y.complement (table_walk (set t k x) (i + 1) y.second os))) (h c m)
      ∙ ap (λ (d : Decision). chosen_walk (eqb c 0) l o (table_walk t (i + 1) c os) d
      (complemented y.complement (table_walk (set t k x) (i + 1) y.second os))) (h y.first f.0)
      ∙ ap (λ (d : Decision). chosen_walk (eqb c 0) l o (table_walk t (i + 1) c os) (table_walk t (i + 1) y.first os)
      (complemented y.complement d)) (h y.second f.1)
      ∙ sym (table_walk-cons t i c o os)

  -- storing under k changes no walk from another number
  table_walk-set : (i c : ℕ) (os : List Bool) → (c ≡ k → ⊥) → table_walk (set t k x) i c os ≡ table_walk t i c os
  unfolding table_walk
  table_walk-set i c [] m = refl
  table_walk-set i c (o ∷ os) m = set-step i c o os m (λ d h. table_walk-set (i + 1) d os h)

-- ---- What is tied to the table ---------------------------------------------------------------

-- the diagram d, of a node of level i, walks as what it refers to does, while that is not given out again
abbrev pub TiedTo : ℕ → List Node → ℕ → Diagram → Ref → Type 0
TiedTo n t i d terminal = (os : List Bool) → length os ≡ n + 1 - i → walk d os ≡ decided false
TiedTo n t i d (entry k g) = (k ≡ 0 → ⊥) × (g ≤ stamp t k) × (stamp t k ≡ g → (i ≤ (node t k).level)
    × ((os : List Bool) → length os ≡ n + 1 - i → walk d os ≡ table_walk t i k os))
TiedTo n t i d temporary = Unit {0}

abbrev pub NestTied : ℕ → List Node → List Open → List Diagram → Type 0
NestTied n t [] x = Unit {0}
NestTied n t (in_first ∷ o) x = NestTied n t o x
NestTied n t (in_second r b ∷ o) x = TiedTo n t (length o + 2) (top x) r × NestTied n t o (below x)

abbrev pub RowTied : ℕ → List Node → ℕ → Diagram → Type 0
RowTied n t k d = ((node t k).level ≡ 0 → ⊥) → (os : List Bool) → length os ≡ n + 1 - (node t k).level → walk d os ≡ table_walk t (node t k).level k os

-- the children of a two-child node that has just ended
pub record PairTied (n : ℕ) (s : State) (d : Diagram) : Type 0 where
  pub a : Diagram
  pub b : Diagram
  pub shape : d ≡ branch a s.pair.complement b
  pub left : TiedTo n s.table (level s.place + 1) a s.pair.first
  pub right : TiedTo n s.table (level s.place + 1) b s.pair.second

pub record Tied (n : ℕ) (s : State) (d : Drawing) : Type 0 where
  pub room : (k : ℕ) → (k ≡ 0 → ⊥) → k ≤ s.size → k < length s.table
  pub rows : (k : ℕ) → (k ≡ 0 → ⊥) → RowTied n s.table k (get_or d.rows k missing)
  pub nest : NestTied n s.table s.place.opens (under (ended s.place.context) d.stack)
  pub last : ended s.place.context ≡ true → TiedTo n s.table (level s.place) (top d.stack) s.place.last
  pub pair : s.place.context ≡ after_two → PairTied n s (top d.stack)

module _ (n : ℕ) (t : List Node) (k : ℕ) (x : Node) (z : k ≡ 0 → ⊥) (none : has_parent t k ≡ false) (fits : k < length t)
    (more : x.stamp ≡ suc (stamp t k)) where
  node-here : node (set t k x) k ≡ x
  node-here = get_or-set_same t k x no_node fits

  -- what is tied stays tied when another number is stored; the number that is given out again ties no more
  tied-set : (i : ℕ) (d : Diagram) (r : Ref) → TiedTo n t i d r → TiedTo n (set t k x) i d r
  tied-set i d terminal h = h
  tied-set i d temporary h = tt
  tied-set i d (entry j g) h = ⊎_elim same other (decide_eq j k)
    where
      same : j ≡ k → TiedTo n (set t k x) i d (entry j g)
      same e =
          let q : stamp (set t k x) j ≡ suc (stamp t j) = ap (λ (c : ℕ). stamp (set t k x) c) e ∙ ap (λ (y : Node). y.stamp) node-here ∙ more
          ∙ ap (λ (c : ℕ). suc (stamp t c)) (sym e) in
          (h.0, omega (arith, q, h.1), λ p. absurd (omega (arith, q, p, h.1)))

      other : (j ≡ k → ⊥) → TiedTo n (set t k x) i d (entry j g)
      other m =
          let e : node (set t k x) j ≡ node t j = node-other t k x z none j m in
          let q : stamp (set t k x) j ≡ stamp t j = ap (λ (y : Node). y.stamp) e in (
            h.0,
            omega (arith, q, h.1),
            λ p. let f = h.2 (sym q ∙ p) in
                (omega (arith, f.0, ap (λ (y : Node). y.level) e), λ os l. f.1 os l ∙ sym (table_walk-set t k x z none i j os m)),
          )

  nest-set : (o : List Open) (y : List Diagram) → NestTied n t o y → NestTied n (set t k x) o y
  nest-set [] y h = tt
  nest-set (in_first ∷ o) y h = nest-set o y h
  nest-set (in_second r b ∷ o) y h = (tied-set (length o + 2) (top y) r h.0, nest-set o (below y) h.1)

  row-set : (j : ℕ) (d : Diagram) → (j ≡ k → ⊥) → RowTied n t j d → RowTied n (set t k x) j d
  row-set j d m h =
      let e = node-other t k x z none j m in
      rw e (λ l os q. h l os q ∙ sym (table_walk-set t k x z none (node t j).level j os m))

-- what a good number to store is
pub record Storable (s : State) (k : ℕ) : Type 0 where
  pub real : k ≡ 0 → ⊥
  pub small : k ≤ s.size
  pub alone : has_parent s.table k ≡ false
  pub not_first : child s.pair.first ≡ k → ⊥
  pub not-second : child s.pair.second ≡ k → ⊥

pub storable : (s : State) (k : ℕ) → is_bad s k ≡ false → Storable s k
unfolding is_bad
storable s k e =
    let a = or_l (eqb k 0 || ltb s.size k) _ e in
    let b = or_r (eqb k 0 || ltb s.size k) _ e in
    let c = or_r (has_parent s.table k) _ b in
    record {
      real = eqb-false _ _ (or_l (eqb k 0) _ a);
      small = ltb-false _ _ (or_r (eqb k 0) _ a);
      alone = or_l (has_parent s.table k) _ b;
      not_first = eqb-false _ _ (or_l (eqb (child s.pair.first) k) _ c);
      not-second = eqb-false _ _ (or_r (eqb (child s.pair.first) k) _ c);
    }

-- what does not bar is current: it walks as its number does, and 0 as the terminal
pub current : (n : ℕ) (t : List Node) (i : ℕ) (d : Diagram) (r : Ref) → TiedTo n t i d r → bars t r ≡ false → (os : List Bool) → length os ≡ n + 1 - i
    → walk d os ≡ table_walk t i (child r) os
current n t i d terminal h e os l = h os l ∙ sym (table_walk-zero t i os)
current n t i d (entry k g) h e os l = (h.2 (eqb-true _ _ (not-false _ e))).1 os l
current n t i d temporary h e os l = absurd (true≢false e)

begins-tied : (n : ℕ) (s : State) (d : Drawing) (o : List Open) → Tied n s d → Begins s o → NestTied n s.table o d.stack
begins-tied n s d o h (anew e) = subst (λ (t : Bool). NestTied n s.table s.place.opens (under t d.stack)) e h.nest
begins-tied n s d o h (second e u j) =
    let q : NestTied n s.table u (below d.stack) = subst (λ (v : List Open). NestTied n s.table v (below d.stack)) j
    (subst (λ (t : Bool). NestTied n s.table s.place.opens (under t d.stack)) e h.nest) in
    (subst (λ (i : ℕ). TiedTo n s.table i (top d.stack) s.place.last) (ap (λ (v : List Open). length v + 1) j ∙ omega arith) (h.last e), q)

begins-level : (s : State) (o : List Open) → Begins s o → length s.place.opens + 1 ≡ length o + 1
begins-level s o (anew e) = refl
begins-level s o (second e u j) = rw j refl

not-two : {A : Type 0} (m : Context) → is_two m ≡ false → m ≡ after_two → A
not-two m e h = absurd (true≢false (sym (ap is_two h) ∙ e))

tied-node : (n a : ℕ) (s : State) (d : Drawing) (o : List Open) (x : Diagram) (r : Ref) → Tied n s d → Begins s o
    → TiedTo n s.table (level s.place) x r
    → Tied n (passed n s (moved s.place a after_digit o) r) (drawing d.rows (x ∷ d.stack))
tied-node n a s d o x r h b p = record {
  room = h.room;
  rows = h.rows;
  nest = begins-tied n s d o h b;
  last = λ _. subst (λ (i : ℕ). TiedTo n s.table i x r) (begins-level s o b) p;
  pair = λ i. not-two after_digit refl i;
}

leaf-tied : (n : ℕ) (t : List Node) (i : ℕ) → TiedTo n t i leaf terminal
unfolding walk
leaf-tied n t i os l = refl

untouched : (d : Decision) → complemented false d ≡ d
untouched undecided = refl
untouched (decided d) = refl

-- `(A)` stands for A's number, one level up
one-tied : (n : ℕ) (t : List Node) (i : ℕ) (d : Diagram) (r : Ref) → 1 ≤ i → i + 1 ≤ n + 1 → TiedTo n t (i + 1) d r → is_kept r ≡ true
    → TiedTo n t i (branch d false d) r
unfolding walk
one-tied n t i d terminal h₁ h₂ p k = go
  where
    go : (os : List Bool) → length os ≡ n + 1 - i → walk (branch d false d) os ≡ decided false
    go [] l = absurd (omega (arith, l))
    go (false ∷ os) l = p os (omega (arith, l))
    go (true ∷ os) l = untouched (walk d os) ∙ p os (omega (arith, l))
one-tied n t i d (entry c g) h₁ h₂ p k = (p.0, p.1, λ e. (omega (arith, (p.2 e).0), go e))
  where
    go : stamp t c ≡ g → (os : List Bool) → length os ≡ n + 1 - i → walk (branch d false d) os ≡ table_walk t i c os
    go e [] l = absurd (omega (arith, l))
    go e (false ∷ os) l = (p.2 e).1 os (omega (arith, l)) ∙ sym (table_walk-skip t i c false os p.0 (omega (arith, (p.2 e).0)))
    go e (true ∷ os) l = untouched (walk d os) ∙ (p.2 e).1 os (omega (arith, l))
        ∙ sym (table_walk-skip t i c true os p.0 (omega (arith, (p.2 e).0)))
one-tied n t i d temporary h₁ h₂ p k = absurd (false≢true k)

module _ (n : ℕ) (s : State) (d : Drawing) (k : ℕ) (g : Good n s d) (h : Tied n s d) (e : s.place.context ≡ after_two)
    (b₁ : bars s.table s.pair.first ≡ false) (b₂ : bars s.table s.pair.second ≡ false) (ok : Storable s k) where
  abbrev new_row : Node
  new_row = new_node (level s.place) (child s.pair.first) (child s.pair.second) s.pair.complement (suc (stamp s.table k))

  abbrev new_table : List Node
  new_table = set s.table k new_row

  fits : k < length s.table
  fits = h.room k ok.real ok.small

  new-here : node new_table k ≡ new_row
  new-here = node-here n s.table k new_row ok.real ok.alone fits refl

  still : (i : ℕ) (x : Diagram) (r : Ref) → TiedTo n s.table i x r → bars s.table r ≡ false → (child r ≡ k → ⊥) → (os : List Bool) → length os
      ≡ n + 1 - i → walk x os ≡ table_walk new_table i (child r) os
  still i x r p q m os l = current n s.table i x r p q os l ∙ sym (table_walk-set s.table k new_row ok.real ok.alone i (child r) os m)

  -- the new record walks as the node that is stored
  walk-new : (os : List Bool) → length os ≡ n + 1 - level s.place → walk (top d.stack) os ≡ table_walk new_table (level s.place) k os
  unfolding walk table_walk
  walk-new [] l = ap (λ (x : Diagram). walk x []) (h.pair e).shape ∙ rw (ne_eqb k 0 ok.real) refl
  walk-new (o ∷ os) l =
      ap (λ (x : Diagram). walk x (o ∷ os)) (h.pair e).shape
      ∙ go o
      ∙ sym (ap (λ (y : Node). cond o (complemented y.complement (table_walk new_table (level s.place + 1) y.second os))
      (table_walk new_table (level s.place + 1) y.first os)) new-here)
      ∙ sym (table_walk-go new_table (level s.place) k o os ok.real (omega (arith, ap (λ (y : Node). y.level) new-here)))
    where
      go : (o : Bool) → walk (branch (h.pair e).a s.pair.complement (h.pair e).b) (o ∷ os)
          ≡ cond o (complemented s.pair.complement (table_walk new_table (level s.place + 1) (child s.pair.second) os))
          (table_walk new_table (level s.place + 1) (child s.pair.first) os)
      go false = still (level s.place + 1) (h.pair e).a s.pair.first (h.pair e).left b₁ ok.not_first os (omega (arith, l))
      go true = ap (complemented s.pair.complement) (still (level s.place + 1) (h.pair e).b s.pair.second (h.pair e).right b₂
          ok.not-second os (omega (arith, l)))

  new-row : length d.rows ≡ length s.table → get_or (set d.rows k (top d.stack)) k missing ≡ top d.stack
  new-row l = get_or-set_same d.rows k (top d.stack) missing (omega (arith, fits, l))

  tied-stored : (a : ℕ) → Tied n (stored s (moved s.place a after_digit s.place.opens) k)
      (drawing (set d.rows k (top d.stack)) d.stack)
  tied-stored a = record {
    room = λ j z l. omega (arith, h.room j z l, length-set s.table k new_row);
    rows = λ j z. ⊎_elim (here j) (off j z) (decide_eq j k);
    nest = nest-set n s.table k new_row ok.real ok.alone fits refl s.place.opens (below d.stack)
        (subst (λ (m : Context). NestTied n s.table s.place.opens (under (ended m) d.stack)) e h.nest);
    last = λ _. (ok.real, omega (arith, ap (λ (y : Node). y.stamp) new-here), λ _. (omega (arith, ap (λ (y : Node). y.level) new-here), walk-new));
    pair = λ i. not-two after_digit refl i;
  }
    where
      here : (j : ℕ) → j ≡ k → RowTied n new_table j (get_or (set d.rows k (top d.stack)) j missing)
      here j m = subst (λ (c : ℕ). RowTied n new_table c (get_or (set d.rows k (top d.stack)) c missing)) (sym m)
          (subst (RowTied n new_table k) (sym (new-row g.long)) (subst
          (λ (y : Node). (y.level ≡ 0 → ⊥) → (os : List Bool) → length os ≡ n + 1 - y.level → walk (top d.stack) os
          ≡ table_walk new_table y.level k os) (sym new-here) (λ _. walk-new)))

      off : (j : ℕ) → (j ≡ 0 → ⊥) → (j ≡ k → ⊥) → RowTied n new_table j (get_or (set d.rows k (top d.stack)) j missing)
      off j z m = subst (RowTied n new_table j) (sym (get_or-set_other d.rows k j (top d.stack) missing m))
          (row-set n s.table k new_row ok.real ok.alone fits refl j (get_or d.rows j missing) m (h.rows j z))

-- ---- Every reading is tied -------------------------------------------------------------------

-- the node that has just ended is a child of the innermost open node
last_inner : (n : ℕ) (s : State) (d : Drawing) (x : Open) (o : List Open) → Tied n s d → ended s.place.context ≡ true → s.place.opens ≡ x ∷ o
    → TiedTo n s.table (length o + 1 + 1) (top d.stack) s.place.last
last_inner n s d x o h e j = subst (λ (i : ℕ). TiedTo n s.table i (top d.stack) s.place.last)
    (ap (λ (v : List Open). length v + 1) j ∙ omega arith) (h.last e)

nest-inner : (n : ℕ) (s : State) (d : Drawing) (u : List Open) → Tied n s d → ended s.place.context ≡ true → s.place.opens ≡ u
    → NestTied n s.table u (below d.stack)
nest-inner n s d u h e j = subst (λ (v : List Open). NestTied n s.table v (below d.stack)) j
    (subst (λ (t : Bool). NestTied n s.table s.place.opens (under t d.stack)) e h.nest)

tied-move : (n : ℕ) (s : State) (d : Drawing) (r : Reading) (x : Drawing) → Good n s d → Tied n s d → Move n s d r x → Tied n r.state x
tied-move n s d r x g h rests = h
tied-move n s d r x g h (refuses c b) = h
tied-move n s d r x g h (sizes a v e l) = record {
  room = λ k z m. omega (arith, m, length-replicate (suc v) no_node);
  rows = λ k z y. absurd (y (ap (λ (x : Node). x.level) (get_or-replicate-same (suc v) k no_node)));
  nest = let j : s.place.opens ≡ [] = g.outer (ap is_outside e) in rw j tt;
  last = λ i. absurd (false≢true i);
  pair = λ i. not-two lead refl i;
}
tied-move n s d r x g h (leads a e) = record {
  room = h.room;
  rows = h.rows;
  nest = subst (λ (m : Context). NestTied n s.table s.place.opens (under (ended m) d.stack)) e h.nest;
  last = λ i. absurd (false≢true i);
  pair = λ i. not-two begins refl i;
}
tied-move n s d r x g h (opens a o b l) = record {
  room = h.room;
  rows = h.rows;
  nest = begins-tied n s d o h b;
  last = λ i. absurd (false≢true i);
  pair = λ i. not-two begins refl i;
}
tied-move n s d r x g h (constants a o b) = tied-node n a s d o leaf terminal h b (leaf-tied n s.table (level s.place))
tied-move n s d r x g h (numbers a v o b z i j) =
    tied-node n a s d o _ (entry v (stamp s.table v)) h b (
      z,
      omega arith,
      λ _. (
        omega (arith, j),
        subst (λ (l : ℕ). (os : List Bool) → length os ≡ n + 1 - l → walk (get_or d.rows v missing) os
            ≡ table_walk s.table l v os) j (h.rows v z i),
      ),
    )
tied-move n s d r x g h (turns a o e j) =
    let q : length o + 1 + 1 ≡ length o + 2 = omega arith in
    record {
      room = h.room;
      rows = h.rows;
      nest = (
        subst (λ (i : ℕ). TiedTo n s.table i (top d.stack) s.place.last) q (last_inner n s d in_first o h e j),
        nest-inner n s d
            (in_first ∷ o) h e j,
      );
      last = λ i. absurd (false≢true i);
      pair = λ i. not-two begins refl i;
    }
tied-move n s d r x g h (closes_one a o e j k) =
    let l : Nest n (in_first ∷ o) (below d.stack) = subst (λ (v : List Open). Nest n v (below d.stack)) j
    (subst (λ (t : Bool). Nest n s.place.opens (under t d.stack)) e g.nest) in
    let m : suc (length o) ≤ n = l.0 in
    record {
      room = h.room;
      rows = h.rows;
      nest = nest-inner n s d (in_first ∷ o) h e j;
      last = λ _. one-tied n s.table (length o + 1) (top d.stack) s.place.last (omega arith) (omega arith)
          (last_inner n s d in_first o h e j) k;
      pair = λ i. not-two after_one refl i;
    }
tied-move n s d r x g h (closes_two a z t o e j) =
    let w : NestTied n s.table (in_second z t ∷ o) (below d.stack) = nest-inner n s d (in_second z t ∷ o) h e j in
    let q : length o + 2 ≡ length o + 1 + 1 = omega arith in
    record {
      room = h.room;
      rows = h.rows;
      nest = w.1;
      last = λ _. tt;
      pair = λ _. record {
        a = top (below d.stack);
        b = top d.stack;
        shape = refl;
        left = subst
            (λ (i : ℕ). TiedTo n s.table i (top (below d.stack)) z) q w.0;
        right = last_inner n s d (in_second z t) o h e j;
      };
    }
tied-move n s d r x g h (stores a k e b₁ b₂ q) = tied-stored n s d k g h e b₁ b₂ (storable s k q) a
tied-move n s d r x g h (ends a e j) = record {
  room = h.room;
  rows = h.rows;
  nest = tt;
  last = λ _. subst (λ (u : List Open). TiedTo n s.table (length u + 1) (top d.stack) s.place.last) j (h.last e);
  pair = λ i. not-two over refl i;
}

tied-fresh : (n : ℕ) → Tied n fresh (drawing [] [])
tied-fresh n = record {
  room = λ k z l. absurd (z (omega (arith, l)));
  rows = λ k z y. absurd (y refl);
  nest = tt;
  last = λ i. absurd (false≢true i);
  pair = λ i. not-two start refl i;
}

-- what holds of a trace: its reading is good and tied
pub record TiedTrace (n : ℕ) (t : Trace) : Type 0 where
  pub good : GoodTrace n t
  pub tied : Tied n t.reading.state t.drawing

pub tied-next : (n : ℕ) (bytes : List ℕ) (t : Trace) → TiedTrace n t → TiedTrace n (next_trace n bytes t)
unfolding next_trace next
tied-next n bytes t h = go t.reading.fault
  where
    go : (f : Option Fault) → TiedTrace n (traced (next_by n bytes t.reading.state f)
        (draw_unless (next_by n bytes t.reading.state f).fault t.reading.state (step t.reading.state.place bytes).outcome t.drawing))
    go none =
        let m = advance-move n bytes t.reading.state t.drawing in
        record { good = good-move n _ _ _ _ h.good m; tied = tied-move n _ _ _ _ h.good h.tied m }
    go (some f) = record { good = h.good; tied = h.tied }

tied-from : (f n : ℕ) (bytes : List ℕ) (t : Trace) → TiedTrace n t → TiedTrace n (trace_on f n bytes t)
unfolding trace_on
tied-from zero n bytes t h = h
tied-from (suc f) n bytes t h = tied-from f n bytes (next_trace n bytes t) (tied-next n bytes t h)

-- EVERY READING IS TIED: of all that is stored, the walk by the records is the walk of the diagrams.
pub tied_on : (f n : ℕ) (bytes : List ℕ) → TiedTrace n (trace_on f n bytes (traced (goes fresh) (drawing [] [])))
tied_on f n bytes = tied-from f n bytes (traced (goes fresh) (drawing [] [])) (record { good = good-fresh n; tied = tied-fresh n })
