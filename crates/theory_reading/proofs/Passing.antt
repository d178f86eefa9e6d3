-- A word is decided when it is passed, by a walk over the records of the table as it stands then: code decides there and keeps no diagram.
-- Assumes nothing.
use Rattle.std.specs.Prelude.{◌≡◌, refl, ◌⊎◌, Bool, true, false, not, List, [], ◌∷◌, ◌++◌, map, ℕ, zero, suc, ◌+◌, ◌-◌, ◌<◌, ◌≤◌, ◌^◌, length, get_or, set}
use Rattle.std.proofs.Common.{sym, ap, ◌∙◌, subst, inl, inr, ⊎_elim, arith, length-append, get_or-set_same, get_or-append-add, eq-eqb}
use Rattle.std.proofs.lemmas.Bool.{false≢true}
use Rattle.std.proofs.Math.Option.{Option, none, some}
use Rattle.std.proofs.lemmas.List.{length-map}
use Rattle.std.proofs.Math.ListN.{get_or-append, get_or-map}
use Rattle.theory_lists.specs.Lists.{differ, decide-le}
use Rattle.theory_lists.specs.Maps.{map-append}
use Rattle.theory_reading.specs.Nodes.{Ref, terminal, entry, is_kept, child, Node, no_node, stamp, bars}
use Rattle.theory_reading.specs.Element.{Open, after_digit, moved, step}
use Rattle.theory_reading.specs.Reading.{State, Fault, Reading, goes, fresh, level, words_at, passed, next_by, next}
use Rattle.theory_reading.specs.Deciding.{options, Decision, undecided, decided, complemented, Diagram, walk, top, Drawing, drawing, draw_unless}
use Rattle.theory_reading.specs.Deciding.{Trace, traced, next_trace, trace_on, ended, decision_of}
use Rattle.theory_reading.proofs.Moves.{Begins, Move, rests, refuses, sizes, leads, opens, constants, numbers, turns, closes_one, closes_two}
use Rattle.theory_reading.proofs.Moves.{stores, ends, advance-move}
use Rattle.theory_reading.specs.Words.{options-low, options-high, spread, walk-spread, Full, bits, differ-bits, complemented-twice, full-spread}
use Rattle.theory_reading.specs.Words.{length-bits}
use Rattle.theory_reading.specs.Covered.{parity}
use Rattle.theory_reading.proofs.Covered.{passed_by, passed_words, Good, words-decide, words_count, begins-length, begins-before}
use Rattle.theory_reading.proofs.Covered.{one-words, GoodTrace, trace_words, words-added, grown-on, good-most}
use Rattle.theory_reading.specs.TableWalk.{table_walk}
use Rattle.theory_reading.proofs.TableWalk.{storable, current, Tied, TiedTrace, tied-next, tied_on}

-- ---- The node that ended last is current -----------------------------------------------------

-- a kept node that has just ended: its number was not given out again since
abbrev pub Current : State → Type 0
Current s = ended s.place.context ≡ true → is_kept s.place.last ≡ true → bars s.table s.place.last ≡ false

entry-current : (t : List Node) (k g : ℕ) → stamp t k ≡ g → bars t (entry k g) ≡ false
entry-current t k g e = ap not (eq-eqb (stamp t k) g e)

set-current : (t : List Node) (k : ℕ) (y : Node) → k < length t → bars (set t k y) (entry k y.stamp) ≡ false
set-current t k y h = entry-current (set t k y) k y.stamp (ap (λ (z : Node). z.stamp) (get_or-set_same t k y no_node h))

current-move : (n : ℕ) (s : State) (d : Drawing) (r : Reading) (x : Drawing) → Tied n s d → Current s → Move n s d r x → Current r.state
current-move n s d r x h c rests = c
current-move n s d r x h c (refuses k b) = c
current-move n s d r x h c (sizes a v e l) = λ i _. absurd (false≢true i)
current-move n s d r x h c (leads a e) = λ i _. absurd (false≢true i)
current-move n s d r x h c (opens a o b l) = λ i _. absurd (false≢true i)
current-move n s d r x h c (constants a o b) = λ _ _. refl
current-move n s d r x h c (numbers a v o b z i j) = λ _ _. entry-current s.table v (stamp s.table v) refl
current-move n s d r x h c (turns a o e j) = λ i _. absurd (false≢true i)
current-move n s d r x h c (closes_one a o e j k) = λ _ _. c e k
current-move n s d r x h c (closes_two a z t o e j) = λ _ k. absurd (false≢true k)
current-move n s d r x h c (stores a k e b₁ b₂ q) =
    let ok = storable s k q in
    λ _ _. set-current s.table k _ (h.room k ok.real ok.small)
current-move n s d r x h c (ends a e j) = λ _ k. c e k

-- what holds of a trace: it is tied, and what ended last is current
pub record CurrentTrace (n : ℕ) (t : Trace) : Type 0 where
  pub tied : TiedTrace n t
  pub last : Current t.reading.state

current-next : (n : ℕ) (bytes : List ℕ) (t : Trace) → CurrentTrace n t → CurrentTrace n (next_trace n bytes t)
unfolding next_trace next
current-next n bytes t h = record { tied = tied-next n bytes t h.tied; last = go t.reading.fault }
  where
    go : (f : Option Fault) → Current (next_by n bytes t.reading.state f).state
    go none = current-move n _ _ _ _ h.tied.tied h.last (advance-move n bytes t.reading.state t.drawing)
    go (some f) = h.last

current-from : (f n : ℕ) (bytes : List ℕ) (t : Trace) → CurrentTrace n t → CurrentTrace n (trace_on f n bytes t)
unfolding trace_on
current-from zero n bytes t h = h
current-from (suc f) n bytes t h = current-from f n bytes (next_trace n bytes t) (current-next n bytes t h)

-- the trace of nothing
abbrev pub start_trace : Trace
start_trace = traced (goes fresh) (drawing [] [])

pub current-on : (f n : ℕ) (bytes : List ℕ) → CurrentTrace n (trace_on f n bytes start_trace)
unfolding trace_on
current-on f n bytes = current-from f n bytes start_trace (record { tied = tied_on 0 n bytes; last = λ i _. absurd (false≢true i) })

-- ---- A node that is passed -------------------------------------------------------------------

-- From s to r the words of a node of the level at s are passed, and the table walks as the node does.
record Passing (n : ℕ) (s : State) (d : Drawing) (r : State) (x : Drawing) : Type 0 where
  passed_node : Diagram
  whole : Full passed_node (n - length s.place.opens)
  list : passed_words n r x ≡ passed_words n s d ++ map (differ (parity r.place.opens)) (bits passed_node (n - length s.place.opens))
  more : r.covered ≡ s.covered + words_at n s.place
  turn : r.complement ≡ s.complement
  walks : (os : List Bool) → length os ≡ n + 1 - level s.place → walk passed_node os
      ≡ table_walk r.table (level s.place) (child r.place.last) os

-- a constant or a number
passing-node : (n a : ℕ) (s : State) (d : Drawing) (o : List Open) (y : Diagram) (z : Ref) → Begins s o → bars s.table z ≡ false
    → let r = passed n s (moved s.place a after_digit o) z in let x = drawing d.rows (y ∷ d.stack) in Good n r x → Tied n r x
    → Passing n s d r x
unfolding passed_by
passing-node n a s d o y z b c g h =
    let e : length o ≡ length s.place.opens = begins-length s o b in
    record {
      passed_node = y;
      whole = subst (λ (k : ℕ). Full y (n - k)) e (g.whole refl);
      list = ap (λ (l : List Bool). l ++ map (differ (parity o)) (bits y (n - length o))) (begins-before n s d o b)
          ∙ ap (λ (k : ℕ). passed_words n s d ++ map (differ (parity o)) (bits y (n - k))) e;
      more = refl;
      turn = refl;
      walks = subst (λ (k : ℕ). (os : List Bool) → length os ≡ n + 1 - (k + 1) → walk y os ≡ table_walk s.table (k + 1) (child z) os) e
          (current n s.table (length o + 1) y z (h.last refl) c);
    }

-- A WORD IS PASSED by a constant, a number or the `)` of an `(A)`, and by nothing else.
passing : (n : ℕ) (s : State) (d : Drawing) (r : Reading) (x : Drawing) → Good n s d → Tied n s d → Current s → Good n r.state x
    → Tied n r.state x → Move n s d r x → (r.state.covered ≡ s.covered) ⊎ Passing n s d r.state x
passing n s d r x g h c g' h' rests = inl refl
passing n s d r x g h c g' h' (refuses k b) = inl refl
passing n s d r x g h c g' h' (sizes a v e l) = inl refl
passing n s d r x g h c g' h' (leads a e) = inl refl
passing n s d r x g h c g' h' (opens a o b l) = inl refl
passing n s d r x g h c g' h' (constants a o b) = inr (passing-node n a s d o _ terminal b refl g' h')
passing n s d r x g h c g' h' (numbers a v o b z i j) = inr (passing-node n a s d o _ (entry v (stamp s.table v)) b
    (entry-current s.table v (stamp s.table v) refl) g' h')
passing n s d r x g h c g' h' (turns a o e j) = inl refl
passing n s d r x g h c g' h' (closes_one a o e j k) = inr (record {
  passed_node = top d.stack;
  whole = g.whole e;
  list = one-words n s d r.state o g e j refl refl;
  more = refl;
  turn = refl;
  walks = current n s.table (level s.place) (top d.stack) s.place.last (h.last e) (c e k);
})
passing n s d r x g h c g' h' (closes_two a z t o e j) = inl refl
passing n s d r x g h c g' h' (stores a k e b₁ b₂ q) = inl refl
passing n s d r x g h c g' h' (ends a e j) = inl refl

-- likewise of a trace
abbrev PassingTrace : ℕ → Trace → Trace → Type 0
PassingTrace n t t' = Passing n t.reading.state t.drawing t'.reading.state t'.drawing

passing-next : (n : ℕ) (bytes : List ℕ) (t : Trace) → CurrentTrace n t
    → ((next_trace n bytes t).reading.state.covered ≡ t.reading.state.covered) ⊎ PassingTrace n t (next_trace n bytes t)
unfolding next_trace next
passing-next n bytes t h = go t.reading.fault (tied-next n bytes t h.tied)
  where
    go : (f : Option Fault) → let t' = traced (next_by n bytes t.reading.state f)
        (draw_unless (next_by n bytes t.reading.state f).fault t.reading.state (step t.reading.state.place bytes).outcome t.drawing)
        in TiedTrace n t' → (t'.reading.state.covered ≡ t.reading.state.covered) ⊎ PassingTrace n t t'
    go none h' = passing n _ _ _ _ h.tied.good h.tied.tied h.last h'.good h'.tied
        (advance-move n bytes t.reading.state t.drawing)
    go (some f) h' = inl refl

-- ---- The decision of a passed word -----------------------------------------------------------

pub length-options : (m w : ℕ) → length (options m w) ≡ m
unfolding options
length-options zero w = refl
length-options (suc m) w = ⊎_elim
    (λ (h : 2 ^ m ≤ w). ap length (options-high m w h) ∙ ap suc (length-options m (w - 2 ^ m)))
    (λ (h : w < 2 ^ m). ap length (options-low m w h) ∙ ap suc (length-options m w))
    (decide-le (2 ^ m) w)

-- a node's words behind two complements, as the decisions of its walks
bits-spread : (c p : Bool) (a : Diagram) (m : ℕ) → Full a m → map decided (map (differ c) (map (differ p) (bits a m)))
    ≡ map (complemented c) (map (complemented p) (spread a m))
bits-spread c p a m f = sym (differ-bits c (map (differ p) (bits a m)))
    ∙ ap (map (complemented c)) (sym (differ-bits p (bits a m)) ∙ ap (map (complemented p)) (sym (full-spread a m f)))

bits-walk : (c p : Bool) (a : Diagram) (m i : ℕ) → Full a m → i < 2 ^ m → get_or (map decided (map (differ c) (map (differ p) (bits a m)))) i undecided
    ≡ complemented (differ p c) (walk a (options m i))
bits-walk c p a m i f h =
    ap (λ (l : List Decision). get_or l i undecided) (bits-spread c p a m f)
    ∙ get_or-map (complemented c) (map (complemented p) (spread a m)) i undecided
    ∙ ap (complemented c) (get_or-map (complemented p) (spread a m) i undecided ∙ ap (complemented p) (sym (walk-spread a m i h)))
    ∙ complemented-twice c p (walk a (options m i))

-- one of the words ys that come after xs and before zs
get_or-middle : (xs ys zs : List Bool) (i : ℕ) → i < length ys → get_or (map decided ((xs ++ ys) ++ zs)) (length xs + i) undecided
    ≡ get_or (map decided ys) i undecided
get_or-middle xs ys zs i h =
    ap (λ (l : List Decision). get_or l (length xs + i) undecided) (map-append decided (xs ++ ys) zs)
    ∙ get_or-append (map decided (xs ++ ys)) (map decided zs) undecided (length xs + i)
    (omega (arith, h, length-map (xs ++ ys) decided, length-append xs ys))
    ∙ ap (λ (l : List Decision). get_or l (length xs + i) undecided) (map-append decided xs ys)
    ∙ ap (λ (k : ℕ). get_or (map decided xs ++ map decided ys) (k + i) undecided) (sym (length-map xs decided))
    ∙ get_or-append-add (map decided xs) (map decided ys) i undecided

module _ (n : ℕ) (t t' : Trace) (h : GoodTrace n t) (h' : GoodTrace n t') (p : PassingTrace n t t') where
  -- the words of the node that is passed, a leading `~` aside
  abbrev new_words : List Bool
  new_words = map (differ (parity t'.reading.state.place.opens)) (bits p.passed_node (n - length t.reading.state.place.opens))

  length-new : length new_words ≡ words_at n t.reading.state.place
  length-new = length-map (bits p.passed_node _) (differ (parity t'.reading.state.place.opens)) ∙ length-bits p.passed_node _ p.whole

  passing-words : trace_words n t' ≡ trace_words n t ++ map (differ t'.reading.state.complement) new_words
  passing-words = words-added n _ _ _ _ (record { new = new_words; list = p.list; more = omega (arith, p.more, length-new); turn = inl p.turn })

  -- word i of the node that is passed, whatever is read later
  passing-decision : (g : ℕ) (bytes : List ℕ) (i : ℕ) → i < words_at n t.reading.state.place
      → decision_of n (trace_on g n bytes t') (t.reading.state.covered + i)
      ≡ complemented (differ (parity t'.reading.state.place.opens) t'.reading.state.complement)
      (table_walk t'.reading.state.table (level t.reading.state.place) (child t'.reading.state.place.last)
      (options (n - length t.reading.state.place.opens) i))
  passing-decision g bytes i k =
      let s = t.reading.state in
      let r = t'.reading.state in
      let m = n - length s.place.opens in
      let u = grown-on g n bytes t' h' in
      let xs = trace_words n t in
      let ys = map (differ r.complement) new_words in
      words-decide n (trace_on g n bytes t') u.good (s.covered + i) (omega (arith, k, p.more, good-most n t' h'))
      ∙ ap (λ (l : List Bool). get_or (map decided l) (s.covered + i) undecided) (u.list ∙ ap (λ (l : List Bool). l ++ u.new) passing-words)
      ∙ ap (λ (a : ℕ). get_or (map decided ((xs ++ ys) ++ u.new)) (a + i) undecided) (sym (words_count n s t.drawing h))
      ∙ get_or-middle xs ys u.new i (omega (arith, k, length-map new_words (differ r.complement), length-new))
      ∙ bits-walk r.complement (parity r.place.opens) p.passed_node m i p.whole k
      ∙ ap (complemented (differ (parity r.place.opens) r.complement)) (p.walks (options m i) (length-options m i ∙ omega arith))

-- THE DECISION OF A PASSED WORD comes from the table, the open nodes and the node that ended last, as they are when it is passed;
-- what is read later (g steps) does not change it.
pub passed-decision : (f g n : ℕ) (bytes : List ℕ) (w : ℕ) →
    let t = trace_on f n bytes start_trace in
    let t' = next_trace n bytes t in
    t.reading.state.covered ≤ w → w < t'.reading.state.covered
    → decision_of n (trace_on g n bytes t') w
    ≡ complemented (differ (parity t'.reading.state.place.opens) t'.reading.state.complement)
    (table_walk t'.reading.state.table (level t.reading.state.place) (child t'.reading.state.place.last)
    (options (n - length t.reading.state.place.opens) (w - t.reading.state.covered)))
passed-decision f g n bytes w h k =
    let t = trace_on f n bytes start_trace in
    let t' = next_trace n bytes t in
    let s = t.reading.state in
    let c = current-on f n bytes in
    let e : s.covered + (w - s.covered) ≡ w = omega (arith, h) in
    ⊎_elim
    (λ (j : t'.reading.state.covered ≡ s.covered). absurd (omega (arith, h, k, j)))
    (λ (p : PassingTrace n t t').
    ap (decision_of n (trace_on g n bytes t')) (sym e)
    ∙ passing-decision n t t' c.tied.good (tied-next n bytes t c.tied).good p g bytes (w - s.covered) (omega (arith, h, k, p.more)))
    (passing-next n bytes t c)

-- One step passes no word, or all words of a node of the level it is at.
pub passed-size : (f n : ℕ) (bytes : List ℕ) →
    let t = trace_on f n bytes start_trace in
    let t' = next_trace n bytes t in
    (t'.reading.state.covered ≡ t.reading.state.covered) ⊎ (t'.reading.state.covered
    ≡ t.reading.state.covered + 2 ^ (n - length t.reading.state.place.opens))
passed-size f n bytes =
    let t = trace_on f n bytes start_trace in
    ⊎_elim (λ j. inl j) (λ (p : PassingTrace n t (next_trace n bytes t)). inr p.more) (passing-next n bytes t (current-on f n bytes))
