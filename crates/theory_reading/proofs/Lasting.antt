-- WHAT LASTS IN A TABLE while a text is read on: stamps only grow; a number with the stamp that it had has the node that it had, and
-- the numbers below it have theirs, so it decides as it did. And children lie deeper than their parent. Assumes nothing.
use Rattle.std.specs.Prelude.{◌≡◌, refl, ◌≢◌, ◌⊎◌, Bool, true, false, cond, ◌||◌, List, [], ◌∷◌, ℕ, zero, suc, ◌+◌, ◌-◌, ◌<◌, ◌≤◌, eqb, length, set, replicate}
use Rattle.std.proofs.Common.{sym, ap, ap₂, ◌∙◌, subst, inl, inr, ⊎_elim, true≢false, arith, get_or-set_same, get_or-set_other, eqb-true, eq-eqb}
use Rattle.std.proofs.Math.Path.{subst⁻¹}
use Rattle.std.proofs.lemmas.Bool.{false≢true, not-false}
use Rattle.std.proofs.Math.Option.{Option, none, some}
use Rattle.theory_lists.specs.Lists.{decide_eq, decide-le}
use Rattle.theory_lists.specs.Maps.{get_or-replicate-same}
use Rattle.theory_reading.specs.Nodes.{Ref, terminal, entry, temporary, child, Node, new_node, no_node, node, stamp, is_child, has_parent, bars}
use Rattle.theory_reading.specs.Element.{start}
use Rattle.theory_reading.specs.Reading.{State, Fault, Reading, level, next_by, next}
use Rattle.theory_reading.specs.Deciding.{Decision, complemented, Diagram, top, Drawing, Trace, next_trace, trace_on}
use Rattle.theory_reading.proofs.Moves.{Move, rests, refuses, sizes, leads, opens, constants, numbers, turns, closes_one, closes_two, stores, ends}
use Rattle.theory_reading.proofs.Moves.{advance-move}
use Rattle.theory_reading.proofs.Prefix.{trace_on-add, trace_on-last}
use Rattle.theory_reading.proofs.Passing.{start_trace, Current, CurrentTrace, current-on}
use Rattle.theory_reading.proofs.Reaching.{At}
use Rattle.theory_reading.specs.TableWalk.{table_walk}
use Rattle.theory_reading.proofs.TableWalk.{table_walk-zero, table_walk-skip, table_walk-go, child-none, TiedTo, Tied, Storable}
use Rattle.theory_reading.proofs.TableWalk.{storable, TiedTrace, tied-next, tied_on}

-- ---- Tables of one reading -------------------------------------------------------------------

-- from the table t to the table u
pub record Lasts (t u : List Node) : Type 0 where
  pub more : (k : ℕ) → stamp t k ≤ stamp u k
  pub same : (k : ℕ) → stamp u k ≡ stamp t k → node u k ≡ node t k
  -- a number that is a stored node's child is not given out again while that node is stored
  pub child : (k c : ℕ) → stamp u k ≡ stamp t k → is_child c (node t k) ≡ true → stamp u c ≡ stamp t c

pub lasts-refl : (t : List Node) → Lasts t t
lasts-refl t = record { more = λ k. omega arith; same = λ k e. refl; child = λ k c e d. refl }

pub lasts-trans : (t u v : List Node) → Lasts t u → Lasts u v → Lasts t v
lasts-trans t u v p q = record {
  more = λ k. omega (arith, p.more k, q.more k);
  same = λ k e. q.same k (late k e) ∙ p.same k (early k e);
  child = λ k c e d. q.child k c (late k e) (ap (is_child c) (p.same k (early k e)) ∙ d) ∙ p.child k c (early k e) d;
}
  where
    early : (k : ℕ) → stamp v k ≡ stamp t k → stamp u k ≡ stamp t k
    early k e = omega (arith, p.more k, q.more k, e)

    late : (k : ℕ) → stamp v k ≡ stamp t k → stamp v k ≡ stamp u k
    late k e = omega (arith, p.more k, q.more k, e)

-- a child is the first or the second
pub child-of : (c : ℕ) (x : Node) → is_child c x ≡ true → (x.first ≡ c) ⊎ (x.second ≡ c)
child-of c x e = go (eqb x.first c) (eqb x.second c) refl refl e
  where
    go : (t u : Bool) → eqb x.first c ≡ t → eqb x.second c ≡ u → (t || u) ≡ true → (x.first ≡ c) ⊎ (x.second ≡ c)
    go true u p q h = inl (eqb-true x.first c p)
    go false true p q h = inr (eqb-true x.second c q)
    go false false p q h = absurd (false≢true h)

pub is-first : (x : Node) → is_child x.first x ≡ true
is-first x = go (eqb x.first x.first) (eq-eqb x.first x.first refl)
  where
    go : (t : Bool) → t ≡ true → (t || eqb x.second x.first) ≡ true
    go true e = refl
    go false e = absurd (false≢true e)

pub is-second : (x : Node) → is_child x.second x ≡ true
is-second x = go (eqb x.first x.second) (eqb x.second x.second) (eq-eqb x.second x.second refl)
  where
    go : (t u : Bool) → u ≡ true → (t || u) ≡ true
    go true u e = refl
    go false u e = e

-- one step of the walk; ih: the walk from there
lasts-step : (t u : List Node) → Lasts t u → (i c : ℕ) (o : Bool) (os : List Bool) → (0 < c → stamp u c ≡ stamp t c)
    → ((k : ℕ) → (0 < k → stamp u k ≡ stamp t k) → table_walk u (i + 1) k os ≡ table_walk t (i + 1) k os)
    → table_walk u i c (o ∷ os) ≡ table_walk t i c (o ∷ os)
lasts-step t u h i c o os e ih = ⊎_elim none (λ (z : c ≢ 0). ⊎_elim (goes z) (skips z) (decide-le (node t c).level i)) (decide_eq c 0)
  where
    x : Node
    x = node t c

    none : c ≡ 0 → table_walk u i c (o ∷ os) ≡ table_walk t i c (o ∷ os)
    none z =
        ap (λ (c : ℕ). table_walk u i c (o ∷ os)) z ∙ table_walk-zero u i (o ∷ os) ∙ sym (table_walk-zero t i (o ∷ os))
        ∙ ap (λ (c : ℕ). table_walk t i c (o ∷ os)) (sym z)

    now : c ≢ 0 → stamp u c ≡ stamp t c
    now z = e (omega (arith, z))

    skips : c ≢ 0 → i < x.level → table_walk u i c (o ∷ os) ≡ table_walk t i c (o ∷ os)
    skips z l =
        table_walk-skip u i c o os z (omega (arith, l, ap (λ (y : Node). y.level) (h.same c (now z))))
        ∙ ih c e ∙ sym (table_walk-skip t i c o os z l)

    chosen : List Node → Node → Decision
    chosen v y = cond o (complemented y.complement (table_walk v (i + 1) y.second os)) (table_walk v (i + 1) y.first os)

    goes : c ≢ 0 → x.level ≤ i → table_walk u i c (o ∷ os) ≡ table_walk t i c (o ∷ os)
    goes z l =
        table_walk-go u i c o os z (omega (arith, l, ap (λ (y : Node). y.level) (h.same c (now z))))
        ∙ ap (chosen u) (h.same c (now z))
        ∙ ap₂ (λ (a b : Decision). cond o (complemented x.complement a) b)
        (ih x.second (λ r. h.child c x.second (now z) (is-second x)))
        (ih x.first (λ r. h.child c x.first (now z) (is-first x)))
        ∙ sym (table_walk-go t i c o os z l)

-- a number that keeps its stamp decides as it did
pub table_walk-lasts : (t u : List Node) → Lasts t u → (i c : ℕ) (os : List Bool) → (0 < c → stamp u c ≡ stamp t c)
    → table_walk u i c os ≡ table_walk t i c os
unfolding table_walk
table_walk-lasts t u h i c [] e = refl
table_walk-lasts t u h i c (o ∷ os) e = lasts-step t u h i c o os e (λ k d. table_walk-lasts t u h (i + 1) k os d)

-- ---- Children lie deeper ---------------------------------------------------------------------

abbrev pub Ordered : List Node → Type 0
Ordered t = (k c : ℕ) → 0 < (node t k).level → is_child c (node t k) ≡ true → 0 < c → (node t k).level < (node t c).level

-- ---- A storing -------------------------------------------------------------------------------

-- the node x is stored under k, which is nobody's child
module _ (t : List Node) (k : ℕ) (x : Node) (z : k ≢ 0) (alone : has_parent t k ≡ false) (fits : k < length t) where
  here : (p : ℕ) → p ≡ k → node (set t k x) p ≡ x
  here p e = ap (node (set t k x)) e ∙ get_or-set_same t k x no_node fits

  other : (p : ℕ) → p ≢ k → node (set t k x) p ≡ node t p
  other p d = get_or-set_other t k p x no_node d

  no-child : (p c : ℕ) → is_child c (node t p) ≡ true → c ≢ k
  no-child p c d e = ⊎_elim
      (λ (f : (node t p).first ≡ c). (child-none t p k z alone).0 (f ∙ e))
      (λ (f : (node t p).second ≡ c). (child-none t p k z alone).1 (f ∙ e)) (child-of c (node t p) d)

  pub set-lasts : x.stamp ≡ suc (stamp t k) → Lasts t (set t k x)
  set-lasts new = record {
    more =
        λ p. ⊎_elim (λ (e : p ≡ k). omega (arith, at-k p e))
        (λ (d : p ≢ k). omega (arith, ap (λ (y : Node). y.stamp) (other p d))) (decide_eq p k);
    same = λ p e. other p (apart p e);
    child = λ p c e d. ap (λ (y : Node). y.stamp) (other c (no-child p c d));
  }
    where
      at-k : (p : ℕ) → p ≡ k → stamp (set t k x) p ≡ suc (stamp t p)
      at-k p e = ap (λ (y : Node). y.stamp) (here p e) ∙ new ∙ ap (λ (j : ℕ). suc (stamp t j)) (sym e)

      apart : (p : ℕ) → stamp (set t k x) p ≡ stamp t p → p ≢ k
      apart p e d = omega (arith, at-k p d, e)

  pub set-ordered : ((c : ℕ) → is_child c x ≡ true → 0 < c → (c ≢ k) × (x.level < (node t c).level)) → Ordered t → Ordered (set t k x)
  set-ordered deep h p c = ⊎_elim
      (λ (e : p ≡ k). subst⁻¹ (λ (y : Node). 0 < y.level → is_child c y ≡ true → 0 < c → y.level < (node (set t k x) c).level) (here p e)
      (λ st d r. let q = deep c d r in subst⁻¹ (λ (y : Node). x.level < y.level) (other c q.0) q.1))
      (λ (n : p ≢ k). subst⁻¹ (λ (y : Node). 0 < y.level → is_child c y ≡ true → 0 < c → y.level < (node (set t k x) c).level) (other p n)
      (λ st d r. subst⁻¹ (λ (y : Node). (node t p).level < y.level) (other c (no-child p c d)) (h p c st d r)))
      (decide_eq p k)

-- ---- One move --------------------------------------------------------------------------------

-- no table yet
abbrev Bare : State → Type 0
Bare s = s.place.context ≡ start → s.table ≡ []

bare-move : (n : ℕ) (s : State) (d : Drawing) (r : Reading) (x : Drawing) → Bare s → Move n s d r x → Bare r.state
bare-move n s d r x h rests = h
bare-move n s d r x h (refuses c b) = h
bare-move n s d r x h (sizes a v e l) = λ i. cc
bare-move n s d r x h (leads a e) = λ i. cc
bare-move n s d r x h (opens a o b l) = λ i. cc
bare-move n s d r x h (constants a o b) = λ i. cc
bare-move n s d r x h (numbers a v o b z i j) = λ i. cc
bare-move n s d r x h (turns a o e j) = λ i. cc
bare-move n s d r x h (closes_one a o e j k) = λ i. cc
bare-move n s d r x h (closes_two a z t o e j) = λ i. cc
bare-move n s d r x h (stores a k e b₁ b₂ q) = λ i. cc
bare-move n s d r x h (ends a e j) = λ i. cc

-- empty records last
sized-lasts : (c : ℕ) → Lasts [] (replicate c no_node)
sized-lasts c =
    let e : (k : ℕ) → node (replicate c no_node) k ≡ no_node = λ k. get_or-replicate-same c k no_node in
    record {
      more = λ k. omega arith;
      same = λ k j. e k;
      child = λ k i j d. ap (λ (y : Node). y.stamp) (e i);
    }

lasts-move : (n : ℕ) (s : State) (d : Drawing) (r : Reading) (x : Drawing) → Bare s → Tied n s d → Move n s d r x
    → Lasts s.table r.state.table
lasts-move n s d r x h t rests = lasts-refl s.table
lasts-move n s d r x h t (refuses c b) = lasts-refl s.table
lasts-move n s d r x h t (sizes a v e l) = subst⁻¹ (λ (t : List Node). Lasts t (replicate (suc v) no_node)) (h e) (sized-lasts (suc v))
lasts-move n s d r x h t (leads a e) = lasts-refl s.table
lasts-move n s d r x h t (opens a o b l) = lasts-refl s.table
lasts-move n s d r x h t (constants a o b) = lasts-refl s.table
lasts-move n s d r x h t (numbers a v o b z i j) = lasts-refl s.table
lasts-move n s d r x h t (turns a o e j) = lasts-refl s.table
lasts-move n s d r x h t (closes_one a o e j k) = lasts-refl s.table
lasts-move n s d r x h t (closes_two a z u o e j) = lasts-refl s.table
lasts-move n s d r x h t (stores a k e b₁ b₂ q) =
    let ok = storable s k q in
    set-lasts s.table k _ ok.real ok.alone (t.room k ok.real ok.small) refl
lasts-move n s d r x h t (ends a e j) = lasts-refl s.table

-- what does not bar lies as deep as it is tied
pub tied-deep : (n : ℕ) (t : List Node) (i : ℕ) (d : Diagram) (w : Ref) → TiedTo n t i d w → bars t w ≡ false → 0 < child w
    → i ≤ (node t (child w)).level
tied-deep n t i d terminal h e r = absurd (omega arith)
tied-deep n t i d (entry k g) h e r = (h.2 (eqb-true (stamp t k) g (not-false (eqb (stamp t k) g) e))).0
tied-deep n t i d temporary h e r = absurd (true≢false e)

ordered-move : (n : ℕ) (s : State) (d : Drawing) (r : Reading) (x : Drawing) → Ordered s.table → Tied n s d → Move n s d r x
    → Ordered r.state.table
ordered-move n s d r x h t rests = h
ordered-move n s d r x h t (refuses c b) = h
ordered-move n s d r x h t (sizes a v e l) = λ k c st. absurd (omega (arith, st, ap (λ (y : Node). y.level) (get_or-replicate-same (suc v) k no_node)))
ordered-move n s d r x h t (leads a e) = h
ordered-move n s d r x h t (opens a o b l) = h
ordered-move n s d r x h t (constants a o b) = h
ordered-move n s d r x h t (numbers a v o b z i j) = h
ordered-move n s d r x h t (turns a o e j) = h
ordered-move n s d r x h t (closes_one a o e j k) = h
ordered-move n s d r x h t (closes_two a z u o e j) = h
ordered-move n s d r x h t (stores a k e b₁ b₂ q) =
    set-ordered s.table k new ok.real ok.alone (t.room k ok.real ok.small) deep h
  where
    ok : Storable s k
    ok = storable s k q

    i : ℕ
    i = level s.place

    new : Node
    new = new_node i (child s.pair.first) (child s.pair.second) s.pair.complement (suc (stamp s.table k))

    deep : (c : ℕ) → is_child c new ≡ true → 0 < c → (c ≢ k) × (i < (node s.table c).level)
    deep c f l = ⊎_elim left right (child-of c new f)
      where
        left : child s.pair.first ≡ c → (c ≢ k) × (i < (node s.table c).level)
        left g = (
          (λ z. ok.not_first (g ∙ z)),
          subst (λ (c : ℕ). i < (node s.table c).level) g
              (omega (arith, tied-deep n s.table (i + 1) (t.pair e).a s.pair.first (t.pair e).left b₁ (omega (arith, g, l)))),
        )

        right : child s.pair.second ≡ c → (c ≢ k) × (i < (node s.table c).level)
        right g = (
          (λ z. ok.not-second (g ∙ z)),
          subst (λ (c : ℕ). i < (node s.table c).level) g
              (omega (arith, tied-deep n s.table (i + 1) (t.pair e).b s.pair.second (t.pair e).right b₂ (omega (arith, g, l)))),
        )
ordered-move n s d r x h t (ends a e j) = h

-- ---- Every reading ---------------------------------------------------------------------------

-- what holds of a trace
record LastingTrace (n : ℕ) (t : Trace) : Type 0 where
  tied : TiedTrace n t
  bare : Bare t.reading.state
  ordered : Ordered t.reading.state.table

module _ (n : ℕ) (bytes : List ℕ) (t : Trace) (h : LastingTrace n t) where
  lasting-next : LastingTrace n (next_trace n bytes t)
  unfolding next_trace next
  lasting-next = record { tied = tied-next n bytes t h.tied; bare = go t.reading.fault; ordered = come t.reading.fault }
    where
      go : (f : Option Fault) → Bare (next_by n bytes t.reading.state f).state
      go none = bare-move n _ _ _ _ h.bare (advance-move n bytes t.reading.state t.drawing)
      go (some f) = h.bare

      come : (f : Option Fault) → Ordered (next_by n bytes t.reading.state f).state.table
      come none = ordered-move n _ _ _ _ h.ordered h.tied.tied (advance-move n bytes t.reading.state t.drawing)
      come (some f) = h.ordered

  lasts-next : Lasts t.reading.state.table (next_trace n bytes t).reading.state.table
  unfolding next_trace next
  lasts-next = go t.reading.fault
    where
      go : (f : Option Fault) → Lasts t.reading.state.table (next_by n bytes t.reading.state f).state.table
      go none = lasts-move n _ _ _ _ h.bare h.tied.tied (advance-move n bytes t.reading.state t.drawing)
      go (some f) = lasts-refl t.reading.state.table

lasting-from : (f n : ℕ) (bytes : List ℕ) (t : Trace) → LastingTrace n t → LastingTrace n (trace_on f n bytes t)
unfolding trace_on
lasting-from zero n bytes t h = h
lasting-from (suc f) n bytes t h = lasting-from f n bytes (next_trace n bytes t) (lasting-next n bytes t h)

lasts-from : (f n : ℕ) (bytes : List ℕ) (t : Trace) → LastingTrace n t
    → Lasts t.reading.state.table (trace_on f n bytes t).reading.state.table
unfolding trace_on
lasts-from zero n bytes t h = lasts-refl t.reading.state.table
lasts-from (suc f) n bytes t h =
    lasts-trans t.reading.state.table (next_trace n bytes t).reading.state.table
    (trace_on f n bytes (next_trace n bytes t)).reading.state.table (lasts-next n bytes t h)
    (lasts-from f n bytes (next_trace n bytes t) (lasting-next n bytes t h))

lasting-start : (n : ℕ) (bytes : List ℕ) → LastingTrace n start_trace
unfolding trace_on
lasting-start n bytes = record { tied = tied_on 0 n bytes; bare = λ e. refl; ordered = λ k c st. absurd (omega (arith, st)) }

-- ANYWHERE IN A READING children lie deeper than their parent,
pub ordered-on : (f n : ℕ) (bytes : List ℕ) → Ordered (trace_on f n bytes start_trace).reading.state.table
ordered-on f n bytes = (lasting-from f n bytes start_trace (lasting-start n bytes)).ordered

-- and the table lasts, however far the text is read on (g steps).
pub lasts_on : (f g n : ℕ) (bytes : List ℕ) → let t = trace_on f n bytes start_trace in
    Lasts t.reading.state.table (trace_on g n bytes t).reading.state.table
lasts_on f g n bytes =
    lasts-from g n bytes (trace_on f n bytes start_trace) (lasting-from f n bytes start_trace (lasting-start n bytes))

-- ---- What a step passes ----------------------------------------------------------------------

-- from s to r words are passed, and the number that stands for them lies no higher than the place
abbrev Passes : State → State → Type 0
Passes s r =
    s.covered < r.covered → 0 < child r.place.last → level s.place ≤ (node r.table (child r.place.last)).level

passes-move : (n : ℕ) (s : State) (d : Drawing) (r : Reading) (x : Drawing) → Tied n s d → Current s → Move n s d r x
    → Passes s r.state
passes-move n s d r x h c rests l z = absurd (omega (arith, l))
passes-move n s d r x h c (refuses k b) l z = absurd (omega (arith, l))
passes-move n s d r x h c (sizes a v e m) l z = absurd (omega (arith, l))
passes-move n s d r x h c (leads a e) l z = absurd (omega (arith, l))
passes-move n s d r x h c (opens a o b m) l z = absurd (omega (arith, l))
passes-move n s d r x h c (constants a o b) l z = absurd (omega (arith, z))
passes-move n s d r x h c (numbers a v o b y i j) l z = omega (arith, j)
passes-move n s d r x h c (turns a o e j) l z = absurd (omega (arith, l))
passes-move n s d r x h c (closes_one a o e j k) l z =
    tied-deep n s.table (level s.place) (top d.stack) s.place.last (h.last e) (c e k) z
passes-move n s d r x h c (closes_two a y t o e j) l z = absurd (omega (arith, l))
passes-move n s d r x h c (stores a k e b₁ b₂ q) l z = absurd (omega (arith, l))
passes-move n s d r x h c (ends a e j) l z = absurd (omega (arith, l))

passes-next : (n : ℕ) (bytes : List ℕ) (t : Trace) → CurrentTrace n t → Passes t.reading.state (next_trace n bytes t).reading.state
unfolding next_trace next
passes-next n bytes t h = go t.reading.fault
  where
    go : (f : Option Fault) → Passes t.reading.state (next_by n bytes t.reading.state f).state
    go none = passes-move n _ _ _ _ h.tied.tied h.last (advance-move n bytes t.reading.state t.drawing)
    go (some f) = λ l z. absurd (omega (arith, l))

-- ---- Where reading stands --------------------------------------------------------------------

module _ (n : ℕ) (bytes : List ℕ) where
  -- the state after f steps
  now-at : (f : ℕ) (s : State) → At n bytes f s → (trace_on f n bytes start_trace).reading.state ≡ s
  now-at f s h = ap (λ (r : Reading). r.state) h

  -- its table is ordered,
  pub at-ordered : (f : ℕ) (s : State) → At n bytes f s → Ordered s.table
  at-ordered f s h = subst (λ (s : State). Ordered s.table) (now-at f s h) (ordered-on f n bytes)

  -- lasts,
  pub at-lasts : (f g : ℕ) (s r : State) → f ≤ g → At n bytes f s → At n bytes g r → Lasts s.table r.table
  at-lasts f g s r l h k =
      let i : g ≡ f + (g - f) = omega (arith, l) in
      subst (λ (s : State). Lasts s.table r.table) (now-at f s h)
      (subst (λ (r : State). Lasts (trace_on f n bytes start_trace).reading.state.table r.table)
      (ap (λ (t : Trace). t.reading.state)
      (sym (trace_on-add f (g - f) n bytes start_trace) ∙ ap (λ (j : ℕ). trace_on j n bytes start_trace) (sym i)) ∙ now-at g r k)
      (lasts_on f (g - f) n bytes))

  -- and what a step passes has a number of its level or deeper.
  pub at-sits : (f : ℕ) (s r : State) → At n bytes f s → At n bytes (suc f) r → s.covered < r.covered
      → 0 < child r.place.last → level s.place ≤ (node r.table (child r.place.last)).level
  at-sits f s r h k =
      subst (λ (s : State). Passes s r) (now-at f s h)
      (subst (Passes (trace_on f n bytes start_trace).reading.state)
      (ap (λ (t : Trace). t.reading.state) (sym (trace_on-last f n bytes start_trace)) ∙ now-at (suc f) r k)
      (passes-next n bytes (trace_on f n bytes start_trace) (current-on f n bytes)))
