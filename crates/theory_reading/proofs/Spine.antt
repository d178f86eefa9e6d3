-- A STREAM THAT WAS CUT, AT ONE NUMBER: where the table has the first children of the open nodes and what ended last, a row for each open node
-- makes it complete. What was not read yet counts as the terminal, and every word that the stream decides is decided so by the outermost row.
-- Assumes nothing.
use Rattle.std.specs.Prelude.{◌≡◌, ◌≢◌, Bool, cond, not, ◌&&◌}
use Rattle.std.proofs.Math.Path.{refl, ap, subst}
use Rattle.std.proofs.Common.{sym, ap₂, ◌∙◌, ⊎_elim}
use Rattle.std.proofs.Math.Bool.{true, false}
use Rattle.std.proofs.lemmas.Bool.{false≢true}
use mathlib.Core.List.{List, [], ◌∷◌}
use Prim.{Unit, tt}
use Prim.Native.Nat.{ℕ, zero, suc, ◌+◌, ◌-◌, ◌<◌, ◌≤◌}
use native.Mathlib.Omega.{arith}
use Rattle.std.proofs.Math.ListN.{length}
use Rattle.theory_lists.specs.Lists.{differ, decide_eq, decide-le}
use Rattle.theory_reading.specs.Nodes.{Ref, child, Node, new_node, node, bars}
use Rattle.theory_reading.specs.Element.{Open, in_first, in_second, Context, start, lead, begins, after_digit, after_two, after_one, over}
use Rattle.theory_reading.specs.Reading.{State, Reading, level, is_two, reading}
use Rattle.theory_reading.specs.Deciding.{Decision, undecided, decided, complemented, options, Diagram, missing, leaf, branch, walk, top, below}
use Rattle.theory_reading.specs.Deciding.{Drawing, around, outermost_of, Trace, trace_on, trace, ended, decision_of, decision}
use Rattle.theory_reading.proofs.Prefix.{trace-reading}
use Rattle.theory_reading.specs.Words.{Full}
use Rattle.theory_reading.proofs.Covered.{Nest, under, Good}
use Rattle.theory_reading.specs.TableWalk.{table_walk}
use Rattle.theory_reading.proofs.TableWalk.{table_walk-zero, table_walk-skip, table_walk-go, TiedTo, NestTied, PairTied, Tied, current, tied_on}
use Rattle.theory_reading.proofs.Passing.{start_trace, length-options}
use Rattle.theory_reading.proofs.Lasting.{Ordered, is-first, is-second, tied-deep, ordered-on}
use Rattle.theory_reading.specs.Spine.{firsts_stay, spine_number}

-- ---- Definitions -----------------------------------------------------------------------------

-- the row of an open node of level i; e: the number of its child that is being read, or is to be read
abbrev pub spine_node : Open → ℕ → ℕ → Node
spine_node in_first i e = new_node i e 0 false 1
spine_node (in_second r b) i e = new_node i (child r) e b 1

-- the table u has such rows under the numbers from k on, the innermost first
abbrev pub SpineIn : List Node → List Open → ℕ → ℕ → Type 0
SpineIn u [] k e = Unit {0}
SpineIn u (x ∷ o) k e = (node u k ≡ spine_node x (length o + 1) e) × SpineIn u o (k + 1) k

-- b is a decision, and is that of a if a is one
abbrev pub Shows : Decision → Decision → Type 0
Shows a b = (d : Bool) × ((b ≡ decided d) × ((e : Bool) → a ≡ decided e → e ≡ d))

-- u has the nodes of t
abbrev pub Extends : List Node → List Node → Type 0
Extends t u = (k : ℕ) → 0 < (node t k).level → node u k ≡ node t k

-- ---- Decisions -------------------------------------------------------------------------------

abbrev is_decided : Decision → Bool
is_decided undecided = false
is_decided (decided d) = true

abbrev answer_of : Decision → Bool
answer_of undecided = false
answer_of (decided d) = d

-- what is shown for nothing
shows-open : (b : Decision) (d : Bool) → b ≡ decided d → Shows undecided b
shows-open b d e = (d, (e, λ c h. absurd (false≢true (ap is_decided h))))

shows-self : (a b : Decision) (d : Bool) → a ≡ decided d → a ≡ b → Shows a b
shows-self a b d e h = (d, (sym h ∙ e, λ c i. ap answer_of (sym i ∙ e)))

turned-shows : (c : Bool) (d : Bool) → complemented c (decided d) ≡ decided (differ c d)
turned-shows false d = refl
turned-shows true d = refl

pub shows-turned : (c : Bool) (a b : Decision) → Shows a b → Shows (complemented c a) (complemented c b)
shows-turned c undecided b h = shows-open (complemented c b) (differ c h.0) (ap (complemented c) h.1.0 ∙ turned-shows c h.0)
shows-turned c (decided a) b h =
    let e : b ≡ decided a = h.1.0 ∙ ap decided (sym (h.1.1 a refl)) in
    shows-self (complemented c (decided a)) (complemented c b) (differ c a) (turned-shows c a) (ap (complemented c) (sym e))

-- what is not read decides nothing
missing-shows : (os : List Bool) (b : Decision) → b ≡ decided false → Shows (walk missing os) b
unfolding walk
missing-shows os b e = shows-open b false e

-- where nothing is missing every word is decided
full-decides : (x : Diagram) (os : List Bool) → Full x (length os) → (d : Bool) × (walk x os ≡ decided d)
unfolding walk
full-decides missing os h = absurd h
full-decides leaf os h = (false, refl)
full-decides (branch a t b) [] h = absurd h
full-decides (branch a t b) (false ∷ os) h = full-decides a os h.0
full-decides (branch a t b) (true ∷ os) h =
    let f = full-decides b os h.1 in
    (differ t f.0, ap (complemented t) f.1 ∙ turned-shows t f.0)

-- ---- First children --------------------------------------------------------------------------

stays-both : (a b : Bool) → (not a && b) ≡ true → (a ≡ false) × (b ≡ true)
stays-both true b e = absurd (false≢true e)
stays-both false b e = (refl, e)

-- first children lie deeper than their parents
abbrev pub FirstsDeep : List Node → List Open → Type 0
FirstsDeep t [] = Unit {0}
FirstsDeep t (in_first ∷ o) = FirstsDeep t o
FirstsDeep t (in_second r b ∷ o) = (0 < child r → length o + 2 ≤ (node t (child r)).level) × FirstsDeep t o

firsts-deep : (n : ℕ) (t : List Node) (o : List Open) (st : List Diagram) → NestTied n t o st → firsts_stay t o ≡ true → FirstsDeep t o
firsts-deep n t [] st tied stay = tt
firsts-deep n t (in_first ∷ o) st tied stay = firsts-deep n t o st tied stay
firsts-deep n t (in_second r b ∷ o) st tied stay =
    let s = stays-both (bars t r) (firsts_stay t o) stay in
    (tied-deep n t (length o + 2) (top st) r tied.0 s.0, firsts-deep n t o (below st) tied.1 s.1)

-- ---- A table with more nodes -----------------------------------------------------------------

module _ (t u : List Node) (ordered : Ordered t) (more : Extends t u) where
  -- one step of the walk; ih: the walk from there
  more-step : (i c : ℕ) (o : Bool) (os : List Bool) → (0 < c → 0 < (node t c).level)
      → ((k : ℕ) → (0 < k → 0 < (node t k).level) → table_walk u (i + 1) k os ≡ table_walk t (i + 1) k os)
      → table_walk u i c (o ∷ os) ≡ table_walk t i c (o ∷ os)
  more-step i c o os e ih = ⊎_elim none (λ (z : c ≢ 0). ⊎_elim (goes z) (skips z) (decide-le (node t c).level i)) (decide_eq c 0)
    where
      x : Node
      x = node t c

      none : c ≡ 0 → table_walk u i c (o ∷ os) ≡ table_walk t i c (o ∷ os)
      none z =
          ap (λ (c : ℕ). table_walk u i c (o ∷ os)) z ∙ table_walk-zero u i (o ∷ os) ∙ sym (table_walk-zero t i (o ∷ os))
          ∙ ap (λ (c : ℕ). table_walk t i c (o ∷ os)) (sym z)

      real : c ≢ 0 → 0 < x.level
      real z = e (omega (arith, z))

      same : c ≢ 0 → node u c ≡ x
      same z = more c (real z)

      skips : c ≢ 0 → i < x.level → table_walk u i c (o ∷ os) ≡ table_walk t i c (o ∷ os)
      skips z l =
          table_walk-skip u i c o os z (omega (arith, l, ap (λ (y : Node). y.level) (same z)))
          ∙ ih c e ∙ sym (table_walk-skip t i c o os z l)

      chosen : List Node → Node → Decision
      chosen v y = cond o (complemented y.complement (table_walk v (i + 1) y.second os)) (table_walk v (i + 1) y.first os)

      goes : c ≢ 0 → x.level ≤ i → table_walk u i c (o ∷ os) ≡ table_walk t i c (o ∷ os)
      goes z l =
          table_walk-go u i c o os z (omega (arith, l, ap (λ (y : Node). y.level) (same z)))
          ∙ ap (chosen u) (same z)
          ∙ ap₂ (λ (a b : Decision). cond o (complemented x.complement a) b)
          (ih x.second (λ r. omega (arith, ordered c x.second (real z) (is-second x) r)))
          (ih x.first (λ r. omega (arith, ordered c x.first (real z) (is-first x) r)))
          ∙ sym (table_walk-go t i c o os z l)

  -- a number that has a node decides as it did
  pub table_walk-more : (i c : ℕ) (os : List Bool) → (0 < c → 0 < (node t c).level) → table_walk u i c os ≡ table_walk t i c os
  unfolding table_walk
  table_walk-more i c [] e = refl
  table_walk-more i c (o ∷ os) e = more-step i c o os e (λ k d. table_walk-more (i + 1) k os d)

  -- ---- The open nodes ------------------------------------------------------------------------

  module _ (n : ℕ) where
    -- what is tied to the smaller table and does not bar is shown by the larger one
    still-shows : (i : ℕ) (x : Diagram) (r : Ref) → 1 ≤ i → TiedTo n t i x r → bars t r ≡ false → Full x (n + 1 - i) → (os : List Bool)
        → length os ≡ n + 1 - i → Shows (walk x os) (table_walk u i (child r) os)
    still-shows i x r deep tied stays full os l =
        let f = full-decides x os (subst (Full x) (sym l) full) in
        shows-self (walk x os) (table_walk u i (child r) os) f.0 f.1
        (current n t i x r tied stays os l
        ∙ sym (table_walk-more i (child r) os (λ p. omega (arith, deep, tied-deep n t i x r tied stays p))))

    -- the walk from the row y of level i under k
    row-go : (k i : ℕ) (y : Node) (o : Bool) (os : List Bool) → 0 < k → node u k ≡ y → y.level ≡ i → table_walk u i k (o ∷ os)
        ≡ cond o (complemented y.complement (table_walk u (i + 1) y.second os)) (table_walk u (i + 1) y.first os)
    row-go k i y o os z e l =
        table_walk-go u i k o os (λ q. omega (arith, z, q)) (omega (arith, l, ap (λ (y : Node). y.level) e))
        ∙ ap (λ (y : Node). cond o (complemented y.complement (table_walk u (i + 1) y.second os)) (table_walk u (i + 1) y.first os)) e

    -- an open node whose first child is being read, x: as far as it is read
    first-shows : (o : List Open) (x : Diagram) (k e : ℕ) → 0 < k → suc (length o) ≤ n → node u k ≡ spine_node in_first (length o + 1) e
        → ((os : List Bool) → length os ≡ n - suc (length o) → Shows (walk x os) (table_walk u (suc (length o) + 1) e os))
        → (os : List Bool) → length os ≡ n - length o → Shows (walk (branch x false missing) os) (table_walk u (length o + 1) k os)
    unfolding walk
    first-shows o x k e z deep row h [] l = absurd (omega (arith, l, deep))
    first-shows o x k e z deep row h (false ∷ os) l =
        let q : suc (length o) + 1 ≡ length o + 1 + 1 = omega arith in
        subst (Shows (walk x os)) (sym (row-go k (length o + 1) (spine_node in_first (length o + 1) e) false os z row refl))
        (subst (λ (i : ℕ). Shows (walk x os) (table_walk u i e os)) q (h os (omega (arith, l))))
    first-shows o x k e z deep row h (true ∷ os) l =
        shows-open (table_walk u (length o + 1) k (true ∷ os)) false
        (row-go k (length o + 1) (spine_node in_first (length o + 1) e) true os z row refl
        ∙ ap (complemented false) (table_walk-zero u (length o + 1 + 1) os))

    -- an open node whose second child is being read; a: the first
    second-shows : (o : List Open) (a x : Diagram) (r : Ref) (b : Bool) (k e : ℕ) → 0 < k → suc (length o) ≤ n
        → node u k ≡ spine_node (in_second r b) (length o + 1) e
        → ((os : List Bool) → length os ≡ n - suc (length o) → Shows (walk a os) (table_walk u (length o + 2) (child r) os))
        → ((os : List Bool) → length os ≡ n - suc (length o) → Shows (walk x os) (table_walk u (suc (length o) + 1) e os))
        → (os : List Bool) → length os ≡ n - length o → Shows (walk (branch a b x) os) (table_walk u (length o + 1) k os)
    unfolding walk
    second-shows o a x r b k e z deep row f h [] l = absurd (omega (arith, l, deep))
    second-shows o a x r b k e z deep row f h (false ∷ os) l =
        let q : length o + 2 ≡ length o + 1 + 1 = omega arith in
        subst (Shows (walk a os)) (sym (row-go k (length o + 1) (spine_node (in_second r b) (length o + 1) e) false os z row refl))
        (subst (λ (i : ℕ). Shows (walk a os) (table_walk u i (child r) os)) q (f os (omega (arith, l))))
    second-shows o a x r b k e z deep row f h (true ∷ os) l =
        let q : suc (length o) + 1 ≡ length o + 1 + 1 = omega arith in
        subst (Shows (complemented b (walk x os))) (sym (row-go k (length o + 1) (spine_node (in_second r b) (length o + 1) e) true os z row refl))
        (shows-turned b (walk x os) (table_walk u (length o + 1 + 1) e os)
        (subst (λ (i : ℕ). Shows (walk x os) (table_walk u i e os)) q (h os (omega (arith, l)))))

    -- THE OUTERMOST ROW shows what the open nodes around x decide, if e shows x.
    spine-shows : (o : List Open) (st : List Diagram) (x : Diagram) (k e : ℕ) → 0 < k → Nest n o st → NestTied n t o st → firsts_stay t o ≡ true
        → SpineIn u o k e
        → ((os : List Bool) → length os ≡ n - length o → Shows (walk x os) (table_walk u (length o + 1) e os))
        → (os : List Bool) → length os ≡ n → Shows (walk (around o st x) os) (table_walk u 1 (spine_number o k e) os)
    unfolding around
    spine-shows [] st x k e z nest tied stay rows h = λ os l. h os (omega (arith, l))
    spine-shows (in_first ∷ o) st x k e z nest tied stay rows h =
        spine-shows o st (branch x false missing) (k + 1) k (omega arith) nest.1 tied stay rows.1
        (first-shows o x k e z nest.0 rows.0 h)
    spine-shows (in_second r b ∷ o) st x k e z nest tied stay rows h =
        let size : n - suc (length o) ≡ n + 1 - (length o + 2) = omega arith in
        let s = stays-both (bars t r) (firsts_stay t o) stay in
        spine-shows o (below st) (branch (top st) b x) (k + 1) k (omega arith) nest.2 tied.1 s.1 rows.1
        (second-shows o (top st) x r b k e z nest.0 rows.0
        (λ os l. still-shows (length o + 2) (top st) r (omega arith) tied.0 s.0 (subst (Full (top st)) size nest.1) os (l ∙ size)) h)

-- ---- After some steps ------------------------------------------------------------------------

-- The open nodes; a two-child node that has just ended has no number yet, and counts as open with its second child read.
abbrev pub spine_opens : State → List Open
spine_opens s = cond (is_two s.place.context) (in_second s.pair.first s.pair.complement ∷ s.place.opens) s.place.opens

-- what ended last, below these
abbrev pub spine_last : State → Ref
spine_last s = cond (is_two s.place.context) s.pair.second s.place.last

-- the first children of the open nodes and what ended last, if a node has just ended, are the terminal or in the table
pub record Stays (s : State) : Type 0 where
  pub firsts : firsts_stay s.table (spine_opens s) ≡ true
  pub last : ended s.place.context ≡ true → bars s.table (spine_last s) ≡ false

-- the number of what is being read
abbrev pub begun_number : State → ℕ
begun_number s = cond (ended s.place.context) (child (spine_last s)) 0

-- what is being read, of level i: nothing of it yet, or it has ended, and the table has it
data Begun (n : ℕ) (t : List Node) (i : ℕ) : Diagram → ℕ → Type 0 where
  nothing : Begun n t i missing 0
  something : (x : Diagram) (r : Ref) → TiedTo n t i x r → bars t r ≡ false → Full x (n + 1 - i) → Begun n t i x (child r)

-- d is what the open nodes o are around x, whose number is e
record Parts (n : ℕ) (t : List Node) (d : Diagram) (o : List Open) (e : ℕ) : Type 0 where
  st : List Diagram
  x : Diagram
  same : around o st x ≡ d
  nest : Nest n o st
  tied : NestTied n t o st
  begun : Begun n t (length o + 1) x e

begun-shows : (n : ℕ) (t u : List Node) → Ordered t → Extends t u → (i : ℕ) → 1 ≤ i → (x : Diagram) (e : ℕ) → Begun n t i x e
    → (os : List Bool) → length os ≡ n + 1 - i → Shows (walk x os) (table_walk u i e os)
begun-shows n t u ordered more i deep x e nothing os l = missing-shows os (table_walk u i 0 os) (table_walk-zero u i os)
begun-shows n t u ordered more i deep y e (something x r tied stays full) os l = still-shows t u ordered more n i x r deep tied stays full os l

begun-level : (n : ℕ) (t : List Node) (i : ℕ) (x : Diagram) (e : ℕ) → Begun n t i x e → 0 < e → i ≤ (node t e).level
begun-level n t i x e nothing p = absurd (omega (arith, p))
begun-level n t i y e (something x r tied stays full) p = tied-deep n t i x r tied stays p

full-branch : (a : Diagram) (c : Bool) (b : Diagram) (k : ℕ) → Full (branch a c b) k → (1 ≤ k) × (Full a (k - 1) × Full b (k - 1))
full-branch a c b zero h = absurd h
full-branch a c b (suc k) h =
    let e : k ≡ suc k - 1 = omega arith in
    (omega arith, (subst (Full a) e h.0, subst (Full b) e h.1))

module _ (n : ℕ) (s : State) (d : Drawing) where
  abbrev o : List Open
  o = s.place.opens

  -- nothing of a node is read;
  parts_none : Nest n o d.stack → NestTied n s.table o d.stack → Parts n s.table (around o d.stack missing) o 0
  parts_none nest tied = record { st = d.stack; x = missing; same = refl; nest = nest; tied = tied; begun = nothing }

  -- a node has just ended,
  module _ (nest : Nest n o (below d.stack)) (tied : NestTied n s.table o (below d.stack)) (full : Full (top d.stack) (n - length o)) where
    parts-one : TiedTo n s.table (level s.place) (top d.stack) s.place.last → bars s.table s.place.last ≡ false
        → Parts n s.table (around o (below d.stack) (top d.stack)) o (child s.place.last)
    parts-one last stays =
        let size : n - length o ≡ n + 1 - (length o + 1) = omega arith in record {
          st = below d.stack;
          x = top d.stack;
          same = refl;
          nest = nest;
          tied = tied;
          begun = something (top d.stack) s.place.last last stays (subst (Full (top d.stack)) size full);
        }

    -- or a two-child node that has no number yet.
    parts-two : PairTied n s (top d.stack) → bars s.table s.pair.second ≡ false
        → Parts n s.table (around o (below d.stack) (top d.stack)) (in_second s.pair.first s.pair.complement ∷ o) (child s.pair.second)
    unfolding around
    parts-two p stays =
        let f = full-branch p.a s.pair.complement p.b (n - length o) (subst (λ (x : Diagram). Full x (n - length o)) p.shape full) in
        let left : n - length o - 1 ≡ n - suc (length o) = omega arith in
        let right : n - length o - 1 ≡ n + 1 - (suc (length o) + 1) = omega arith in
        let i : length o + 1 + 1 ≡ length o + 2 = omega arith in
        let j : length o + 1 + 1 ≡ suc (length o) + 1 = omega arith in record {
          st = p.a ∷ below d.stack;
          x = p.b;
          same = ap (around o (below d.stack)) (sym p.shape);
          nest = (omega (arith, f.0), subst (Full p.a) left f.1.0, nest);
          tied = (subst (λ (i : ℕ). TiedTo n s.table i p.a s.pair.first) i p.left, tied);
          begun = something p.b s.pair.second (subst (λ (i : ℕ). TiedTo n s.table i p.b s.pair.second) j p.right) stays
              (subst (Full p.b) right f.1.1);
        }

  parts : Good n s d → Tied n s d → Stays s
      → Parts n s.table (outermost_of (ended s.place.context) o d.stack) (spine_opens s) (begun_number s)
  parts good tied stays = go s.place.context good.nest good.whole tied.nest tied.last tied.pair stays.last
    where
      go : (m : Context) → Nest n o (under (ended m) d.stack) → (ended m ≡ true → Full (top d.stack) (n - length o))
          → NestTied n s.table o (under (ended m) d.stack)
          → (ended m ≡ true → TiedTo n s.table (level s.place) (top d.stack) s.place.last) → (m ≡ after_two → PairTied n s (top d.stack))
          → (ended m ≡ true → bars s.table (cond (is_two m) s.pair.second s.place.last) ≡ false)
          → Parts n s.table (outermost_of (ended m) o d.stack) (cond (is_two m) (in_second s.pair.first s.pair.complement ∷ o) o)
          (cond (ended m) (child (cond (is_two m) s.pair.second s.place.last)) 0)
      go start nest full tied last pair stays = parts_none nest tied
      go lead nest full tied last pair stays = parts_none nest tied
      go begins nest full tied last pair stays = parts_none nest tied
      go after_digit nest full tied last pair stays = parts-one nest tied (full refl) (last refl) (stays refl)
      go after_two nest full tied last pair stays = parts-two nest tied (full refl) (pair refl) (stays refl)
      go after_one nest full tied last pair stays = parts-one nest tied (full refl) (last refl) (stays refl)
      go over nest full tied last pair stays = parts-one nest tied (full refl) (last refl) (stays refl)

module _ (f n : ℕ) (bytes : List ℕ) (h : Stays (trace_on f n bytes start_trace).reading.state) where
  abbrev tr : Trace
  tr = trace_on f n bytes start_trace

  abbrev s : State
  s = tr.reading.state

  read-parts : Parts n s.table (outermost_of (ended s.place.context) s.place.opens tr.drawing.stack) (spine_opens s) (begun_number s)
  read-parts = parts n s tr.drawing (tied_on f n bytes).good (tied_on f n bytes).tied h

  -- u: the table with a row for each open node, under the numbers from k on
  module _ (u : List Node) (k : ℕ) (real : 0 < k) (more : Extends s.table u) (rows : SpineIn u (spine_opens s) k (begun_number s)) where
    trace-shows : (os : List Bool) → length os ≡ n
        → Shows (walk (outermost_of (ended s.place.context) s.place.opens tr.drawing.stack) os)
        (table_walk u 1 (spine_number (spine_opens s) k (begun_number s)) os)
    trace-shows os l =
        let size : n - length (spine_opens s) ≡ n + 1 - (length (spine_opens s) + 1) = omega arith in
        subst (λ (x : Diagram). Shows (walk x os) (table_walk u 1 (spine_number (spine_opens s) k (begun_number s)) os)) read-parts.same
        (spine-shows s.table u (ordered-on f n bytes) more n (spine_opens s) read-parts.st read-parts.x k (begun_number s) real read-parts.nest
        read-parts.tied h.firsts rows
        (λ os l. begun-shows n s.table u (ordered-on f n bytes) more (length (spine_opens s) + 1) (omega arith) read-parts.x (begun_number s)
        read-parts.begun os (l ∙ size)) os l)

    decision-shows : (w : ℕ) → Shows (decision_of n tr w)
        (complemented s.complement (table_walk u 1 (spine_number (spine_opens s) k (begun_number s)) (options n w)))
    unfolding decision_of
    decision-shows w = shows-turned s.complement _ _ (trace-shows (options n w) (length-options n w))

  -- The numbers that a row refers to lie deeper than it: what ended last,
  trace-deep : 0 < begun_number s → length (spine_opens s) + 1 ≤ (node s.table (begun_number s)).level
  trace-deep = begun-level n s.table (length (spine_opens s) + 1) read-parts.x (begun_number s) read-parts.begun

  -- and the first children.
  trace-firsts : FirstsDeep s.table (spine_opens s)
  trace-firsts = firsts-deep n s.table (spine_opens s) read-parts.st read-parts.tied h.firsts

-- ---- The whole stream ------------------------------------------------------------------------

-- u: the table of the stream with a row for each open node
module _ (n : ℕ) (bytes : List ℕ) (h : Stays (reading n bytes).state) where
  -- what is read with its drawing
  there : Stays (trace n bytes).reading.state
  there = subst (λ (r : Reading). Stays r.state) (sym (trace-reading n bytes)) h

  -- WHAT THE STREAM DECIDES is shown by the outermost row, and every word is decided there.
  pub spine-decides : (u : List Node) (k : ℕ) → 0 < k → let s = (reading n bytes).state in Extends s.table u
      → SpineIn u (spine_opens s) k (begun_number s)
      → (w : ℕ) → Shows (decision n bytes w)
      (complemented s.complement (table_walk u 1 (spine_number (spine_opens s) k (begun_number s)) (options n w)))
  unfolding decision trace
  spine-decides u k real = subst
      (λ (r : Reading). let s = r.state in Extends s.table u → SpineIn u (spine_opens s) k (begun_number s)
      → (w : ℕ) → Shows (decision n bytes w)
      (complemented s.complement (table_walk u 1 (spine_number (spine_opens s) k (begun_number s)) (options n w))))
      (trace-reading n bytes) (decision-shows (suc (length bytes)) n bytes there u k real)

  -- What ended last lies deeper than the open nodes,
  pub begun-deep : let s = (reading n bytes).state in 0 < begun_number s → length (spine_opens s) + 1 ≤ (node s.table (begun_number s)).level
  unfolding trace
  begun-deep = subst (λ (r : Reading). let s = r.state in
      0 < begun_number s → length (spine_opens s) + 1 ≤ (node s.table (begun_number s)).level)
      (trace-reading n bytes) (trace-deep (suc (length bytes)) n bytes there)

  -- and each first child deeper than its parent.
  pub reading-firsts : let s = (reading n bytes).state in FirstsDeep s.table (spine_opens s)
  unfolding trace
  reading-firsts = subst (λ (r : Reading). FirstsDeep r.state.table (spine_opens r.state))
      (trace-reading n bytes) (trace-firsts (suc (length bytes)) n bytes there)
