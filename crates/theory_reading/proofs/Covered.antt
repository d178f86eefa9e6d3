-- THE COVERED WORDS are the decided ones: the words that reading has passed, with their decisions, as a list that only grows. Assumes nothing.
use Rattle.std.specs.Prelude.{◌≡◌, refl, ◌⊎◌, Bool, true, false, ◌||◌, List, [], ◌∷◌, ◌++◌, map, ℕ, zero, suc, ◌+◌, ◌-◌, ◌<◌, ◌≤◌, ◌^◌, length, get_or, set, replicate}
use Rattle.std.proofs.Common.{sym, ap, ap₂, ◌∙◌, subst, inl, inr, ⊎_elim, append_assoc, append-nil, arith, length-append, length-set}
use Rattle.std.proofs.lemmas.Bool.{false≢true}
use Rattle.std.proofs.Math.Option.{Option, none, some}
use Prim.{Unit, tt}
use Rattle.std.proofs.lemmas.List.{length-map, length-replicate, replicate-append-replicate}
use Rattle.std.proofs.Math.ListN.{get_or-append, get_or-eq_default, get_or-map}
use Rattle.theory_lists.specs.Lists.{differ, decide-le}
use Rattle.theory_lists.specs.Maps.{map-append, map_same, map-map, map-replicate, get_or-pad, get_or-replicate-same}
use Rattle.theory_reading.specs.Nodes.{Ref, Node, no_node, node}
use Rattle.theory_reading.specs.Element.{Open, in_first, in_second, Context, start, lead, begins, after_digit, after_two, after_one, over}
use Rattle.theory_reading.specs.Element.{moved, step}
use Rattle.theory_reading.specs.Reading.{State, Fault, Reading, goes, fresh, level, passed, is_context, is_lead, next_by, next, reading}
use Rattle.theory_reading.specs.Deciding.{Decision, undecided, decided, complemented, Diagram, missing, leaf, branch, top, below, Drawing}
use Rattle.theory_reading.specs.Deciding.{drawing, draw_unless, Trace, traced, next_trace, trace_on, trace, ended, around, outermost_of, outermost}
use Rattle.theory_reading.specs.Deciding.{decision_of, decision}
use Rattle.theory_reading.proofs.Prefix.{trace-continues, trace-reading}
use Rattle.theory_reading.proofs.Moves.{Begins, anew, second, Move, rests, refuses, sizes, leads, opens, constants, numbers, turns, closes_one}
use Rattle.theory_reading.proofs.Moves.{closes_two, stores, ends, advance-move}
use Rattle.theory_reading.specs.Words.{spread, length-spread, walk-spread, Full, bits, differ-bits, complemented-twice, differ-swap}
use Rattle.theory_reading.specs.Words.{full-spread, length-bits}
use Rattle.theory_reading.specs.Covered.{parity, covered}

-- ---- The words passed so far -----------------------------------------------------------------

-- the decisions of the words before the node at the place
unfoldable pub before : ℕ → List Open → List Diagram → List Bool
before n [] x = []
before n (in_first ∷ o) x = before n o x
before n (in_second r t ∷ o) x = before n o (below x) ++ map (differ (parity o)) (bits (top x) (n - suc (length o)))

-- the decisions of the words passed so far, a leading `~` aside: with those of the node that has just ended, if one has
unfoldable pub passed_by : ℕ → Bool → List Open → List Diagram → List Bool
passed_by n true o x = before n o (below x) ++ map (differ (parity o)) (bits (top x) (n - length o))
passed_by n false o x = before n o x

abbrev pub passed_words : ℕ → State → Drawing → List Bool
passed_words n s d = passed_by n (ended s.place.context) s.place.opens d.stack

-- THE DECISIONS OF THE COVERED WORDS
unfoldable pub words : ℕ → State → Drawing → List Bool
words n s d = map (differ s.complement) (passed_words n s d)

-- ---- The outermost node, word by word --------------------------------------------------------

complemented-false : (xs : List Decision) → map (complemented false) xs ≡ xs
complemented-false [] = refl
complemented-false (undecided ∷ xs) = ap (λ (l : List Decision). undecided ∷ l) (complemented-false xs)
complemented-false (decided d ∷ xs) = ap (λ (l : List Decision). decided d ∷ l) (complemented-false xs)

map-differ-false : (xs : List Bool) → map (differ false) xs ≡ xs
map-differ-false [] = refl
map-differ-false (x ∷ xs) = ap (λ (l : List Bool). x ∷ l) (map-differ-false xs)

complemented-undecided : (t : Bool) (k : ℕ) → map (complemented t) (replicate k undecided) ≡ replicate k undecided
complemented-undecided t k = map-replicate (complemented t) k undecided

-- the open nodes are at most n, and their first children are whole
abbrev pub Nest : ℕ → List Open → List Diagram → Type 0
Nest n [] x = Unit {0}
Nest n (in_first ∷ o) x = (suc (length o) ≤ n) × Nest n o x
Nest n (in_second r t ∷ o) x = (suc (length o) ≤ n) × Full (top x) (n - suc (length o)) × Nest n o (below x)

spread-half : (p : Bool) (d : Diagram) (m k : ℕ) → map (complemented p) (spread (branch d false missing) (suc m)) ++ replicate k undecided
    ≡ map (complemented p) (spread d m) ++ replicate (2 ^ m + k) undecided
unfolding spread
spread-half p d m k =
    ap (λ (l : List Decision). map (complemented p) (spread d m ++ l) ++ replicate k undecided) (complemented-undecided false (2 ^ m))
    ∙ ap (λ (l : List Decision). l ++ replicate k undecided) (map-append (complemented p) (spread d m) (replicate (2 ^ m) undecided)
    ∙ ap (λ (l : List Decision). map (complemented p) (spread d m) ++ l) (complemented-undecided p (2 ^ m)))
    ∙ append_assoc (map (complemented p) (spread d m)) (replicate (2 ^ m) undecided) (replicate k undecided)
    ∙ ap (λ (l : List Decision). map (complemented p) (spread d m) ++ l) (replicate-append-replicate (2 ^ m) k undecided)

spread-two : (p t : Bool) (a d : Diagram) (m : ℕ) (r : List Decision) → Full a m → map (complemented p) (spread (branch a t d) (suc m)) ++ r
    ≡ map decided (map (differ p) (bits a m)) ++ (map (complemented (differ t p)) (spread d m) ++ r)
unfolding spread
spread-two p t a d m r h =
    ap (λ (l : List Decision). l ++ r)
    (map-append (complemented p) (spread a m) (map (complemented t) (spread d m))
    ∙ ap₂ ◌++◌ (ap (map (complemented p)) (full-spread a m h) ∙ differ-bits p (bits a m))
    (map-map (complemented t) (complemented p) (spread d m) ∙ map_same (λ x. complemented p (complemented t x)) (complemented (differ t p))
    (complemented-twice p t) (spread d m)))
    ∙ append_assoc (map decided (map (differ p) (bits a m))) (map (complemented (differ t p)) (spread d m)) r

-- the whole diagram: the words before, those of the node at the place, and the rest undecided
around-spread : (n : ℕ) (o : List Open) (x : List Diagram) (d : Diagram) → Nest n o x → (k : ℕ)
    × (spread (around o x d) n ≡ map decided (before n o x) ++ (map (complemented (parity o)) (spread d (n - length o)) ++ replicate k undecided))
unfolding around before parity
around-spread n [] x d h =
    let e : n - 0 ≡ n = omega arith in
    (0, sym (append-nil (map (complemented false) (spread d (n - 0))) ∙ complemented-false (spread d (n - 0)) ∙ ap (spread d) e))
around-spread n (in_first ∷ o) x d h =
    let g = around-spread n o x (branch d false missing) h.1 in
    let j : suc (length o) ≤ n = h.0 in
    let e : n - length o ≡ suc (n - suc (length o)) = omega arith in (
      2 ^ (n - suc (length o)) + g.0,
      g.1
          ∙ ap (λ (y : ℕ). map decided (before n o x) ++ (map (complemented (parity o)) (spread (branch d false missing) y) ++ replicate g.0
          undecided)) e
          ∙ ap (λ (l : List Decision). map decided (before n o x) ++ l) (spread-half (parity o) d (n - suc (length o)) g.0),
    )
around-spread n (in_second r t ∷ o) x d h =
    let g = around-spread n o (below x) (branch (top x) t d) h.2 in
    let j : suc (length o) ≤ n = h.0 in
    let e : n - length o ≡ suc (n - suc (length o)) = omega arith in
    let y = map (differ (parity o)) (bits (top x) (n - suc (length o))) in
    let z = map (complemented (differ t (parity o))) (spread d (n - suc (length o))) ++ replicate g.0 undecided in (
      g.0,
      g.1
          ∙ ap (λ (u : ℕ). map decided (before n o (below x)) ++ (map (complemented (parity o)) (spread (branch (top x) t d) u) ++ replicate g.0
          undecided)) e
          ∙ ap (λ (l : List Decision). map decided (before n o (below x)) ++ l)
          (spread-two (parity o) t (top x) d (n - suc (length o)) (replicate g.0 undecided) h.1)
          ∙ sym (append_assoc (map decided (before n o (below x))) (map decided y) z)
          ∙ ap (λ (l : List Decision). l ++ z) (sym (map-append decided (before n o (below x)) y)),
    )

-- what the open nodes stand on: the nodes that ended before the one at the place
abbrev pub under : Bool → List Diagram → List Diagram
under true x = below x
under false x = x

-- the context is before any node or after the point: no node is open
abbrev pub is_outside : Context → Bool
is_outside m = is_context start m || (is_context lead m || is_context over m)

-- what holds of every reading and its drawing
pub record Good (n : ℕ) (s : State) (d : Drawing) : Type 0 where
  pub nest : Nest n s.place.opens (under (ended s.place.context) d.stack)
  pub whole : ended s.place.context ≡ true → Full (top d.stack) (n - length s.place.opens)
  pub rows : (k : ℕ) → ((node s.table k).level ≡ 0 → ⊥) → Full (get_or d.rows k missing) (n + 1 - (node s.table k).level)
  pub long : length d.rows ≡ length s.table
  pub outer : is_outside s.place.context ≡ true → s.place.opens ≡ []
  pub count : s.covered ≡ length (passed_words n s d)

outermost-spread : (n : ℕ) (t : Bool) (o : List Open) (x : List Diagram) → Nest n o (under t x) → (t ≡ true → Full (top x) (n - length o))
    → (k : ℕ) × (spread (outermost_of t o x) n ≡ map decided (passed_by n t o x) ++ replicate k undecided)
unfolding passed_by spread
outermost-spread n true o x h w =
    let f = around-spread n o (below x) (top x) h in
    let y = map (differ (parity o)) (bits (top x) (n - length o)) in (
      f.0,
      f.1
          ∙ ap (λ (l : List Decision). map decided (before n o (below x)) ++ (l ++ replicate f.0 undecided))
          (ap (map (complemented (parity o))) (full-spread (top x) (n - length o) (w refl))
          ∙ differ-bits (parity o) (bits (top x) (n - length o)))
          ∙ sym (append_assoc (map decided (before n o (below x))) (map decided y) (replicate f.0 undecided))
          ∙ ap (λ (l : List Decision). l ++ replicate f.0 undecided) (sym (map-append decided (before n o (below x)) y)),
    )
outermost-spread n false o x h w =
    let f = around-spread n o x missing h in (
      2 ^ (n - length o) + f.0,
      f.1
          ∙ ap (λ (l : List Decision). map decided (before n o x) ++ (l ++ replicate f.0 undecided))
          (complemented-undecided (parity o) (2 ^ (n - length o)))
          ∙ ap (λ (l : List Decision). map decided (before n o x) ++ l) (replicate-append-replicate (2 ^ (n - length o)) f.0 undecided),
    )

-- THE WALK'S DECISION is that of the list.
pub words-decide : (n : ℕ) (t : Trace) → Good n t.reading.state t.drawing → (w : ℕ) → w < 2 ^ n → decision_of n t w
    ≡ get_or (map decided (words n t.reading.state t.drawing)) w undecided
unfolding decision_of words
words-decide n t g w h =
    let s = t.reading.state in
    let x = passed_words n s t.drawing in
    let f = outermost-spread n (ended s.place.context) s.place.opens t.drawing.stack g.nest g.whole in
    ap (complemented s.complement) (walk-spread (outermost t) n w h ∙ ap (λ (l : List Decision). get_or l w undecided) f.1
    ∙ get_or-pad (map decided x) f.0 w undecided)
    ∙ sym (get_or-map (complemented s.complement) (map decided x) w undecided)
    ∙ ap (λ (l : List Decision). get_or l w undecided) (differ-bits s.complement x)

pub words_count : (n : ℕ) (s : State) (d : Drawing) → Good n s d → length (words n s d) ≡ s.covered
unfolding words
words_count n s d g = length-map (passed_words n s d) (differ s.complement) ∙ sym g.count

-- ---- A move only adds words ------------------------------------------------------------------

-- r and e: the state and the drawing after the move
pub record Added (n : ℕ) (s : State) (d : Drawing) (r : State) (e : Drawing) : Type 0 where
  pub new : List Bool
  pub list : passed_words n r e ≡ passed_words n s d ++ new
  pub more : r.covered ≡ s.covered + length new
  pub turn : (r.complement ≡ s.complement) ⊎ (passed_words n s d ≡ [])

added_none : (n : ℕ) (s : State) (d : Drawing) (r : State) (e : Drawing) → passed_words n r e ≡ passed_words n s d → r.covered ≡ s.covered
    → (r.complement ≡ s.complement) ⊎ (passed_words n s d ≡ []) → Added n s d r e
added_none n s d r e i h k = record { new = []; list = i ∙ sym (append-nil (passed_words n s d)); more = omega (arith, h); turn = k }

pub begins-length : (s : State) (o : List Open) → Begins s o → length o ≡ length s.place.opens
begins-length s o (anew e) = refl
begins-length s o (second e u j) = rw j refl

pub begins-before : (n : ℕ) (s : State) (d : Drawing) (o : List Open) → Begins s o → before n o d.stack ≡ passed_words n s d
unfolding passed_by before parity
begins-before n s d o (anew e) = rw e refl
begins-before n s d o (second e u j) = rw (e, j) refl

begins-nest : (n : ℕ) (s : State) (d : Drawing) (o : List Open) → Good n s d → Begins s o → Nest n o d.stack
begins-nest n s d o g (anew e) = subst (λ (t : Bool). Nest n s.place.opens (under t d.stack)) e g.nest
begins-nest n s d o g (second e u j) =
    let h : Nest n (in_first ∷ u) (below d.stack) = subst (λ (v : List Open). Nest n v (below d.stack)) j
    (subst (λ (t : Bool). Nest n s.place.opens (under t d.stack)) e g.nest) in
    let f : Full (top d.stack) (n - suc (length u)) = subst (λ (v : List Open). Full (top d.stack) (n - length v)) j (g.whole e) in
    (h.0, f, h.1)

-- a node that begins adds its own words
added-node : (n a : ℕ) (s : State) (d : Drawing) (o : List Open) (x : Diagram) (r : Ref) → Begins s o → Full x (n - length s.place.opens)
    → Added n s d (passed n s (moved s.place a after_digit o) r) (drawing d.rows (x ∷ d.stack))
unfolding passed_by
added-node n a s d o x r b f =
    let e : length o ≡ length s.place.opens = begins-length s o b in
    let f' : Full x (n - length o) = subst (λ (k : ℕ). Full x (n - k)) (sym e) f in
    let l : length (bits x (n - length o)) ≡ 2 ^ (n - length s.place.opens) = length-bits x (n - length o) f' ∙ ap (λ (k : ℕ). 2 ^ (n - k)) e in
    record {
      new = map (differ (parity o)) (bits x (n - length o));
      list = ap (λ (y : List Bool). y ++ map (differ (parity o)) (bits x (n - length o))) (begins-before n s d o b);
      more = omega (arith, length-map (bits x (n - length o)) (differ (parity o)), l);
      turn = inl refl;
    }

-- what the node before a `)` is
module _ (n : ℕ) (s : State) (d : Drawing) (g : Good n s d) (e : ended s.place.context ≡ true) where
  nest-ended : Nest n s.place.opens (below d.stack)
  nest-ended = subst (λ (t : Bool). Nest n s.place.opens (under t d.stack)) e g.nest

  whole-at : (u : List Open) → s.place.opens ≡ u → Full (top d.stack) (n - length u)
  whole-at u j = subst (λ (v : List Open). Full (top d.stack) (n - length v)) j (g.whole e)

-- an `(A)` that ends has A's words twice
pub one-words : (n : ℕ) (s : State) (d : Drawing) (r : State) (o : List Open) → Good n s d → ended s.place.context ≡ true → s.place.opens
    ≡ in_first ∷ o → r.place.context ≡ after_one → r.place.opens ≡ o
    → passed_words n r (drawing d.rows (branch (top d.stack) false (top d.stack) ∷ below d.stack))
    ≡ passed_words n s d ++ map (differ (parity o)) (bits (top d.stack) (n - length s.place.opens))
unfolding passed_by before parity bits
one-words n s d r o g e j m q =
    let h : Nest n (in_first ∷ o) (below d.stack) = subst (λ (v : List Open). Nest n v (below d.stack)) j (nest-ended n s d g e) in
    let i : suc (length o) ≤ n = h.0 in
    let k : n - length o ≡ suc (n - suc (length o)) = omega arith in
    let a = top d.stack in
    let x = bits a (n - suc (length o)) in
    let p = parity o in
    let b = before n o (below d.stack) in
    rw (m, q, e, j)
    (ap (λ (y : ℕ). b ++ map (differ p) (bits (branch a false a) y)) k
    ∙ ap (λ (y : List Bool). b ++ map (differ p) (x ++ y)) (map-differ-false x)
    ∙ ap (λ (y : List Bool). b ++ y) (map-append (differ p) x x)
    ∙ sym (append_assoc b (map (differ p) x) (map (differ p) x)))

-- `(A)` adds A's words again
added-one : (n : ℕ) (s : State) (d : Drawing) (r : State) (o : List Open) → Good n s d → ended s.place.context ≡ true → s.place.opens ≡ in_first
    ∷ o
    → r.place.context ≡ after_one → r.place.opens ≡ o → r.covered ≡ s.covered + 2 ^ (n - length s.place.opens) → r.complement
    ≡ s.complement
    → Added n s d r (drawing d.rows (branch (top d.stack) false (top d.stack) ∷ below d.stack))
added-one n s d r o g e j m q c t =
    let x = bits (top d.stack) (n - length s.place.opens) in
    record {
      new = map (differ (parity o)) x;
      list = one-words n s d r o g e j m q;
      more = omega (arith, c, length-map x (differ (parity o)), length-bits (top d.stack) (n - length s.place.opens) (g.whole e));
      turn = inl t;
    }

added-two : (n : ℕ) (s : State) (d : Drawing) (r : State) (z : Ref) (t : Bool) (o : List Open) → Good n s d → ended s.place.context ≡ true
    → s.place.opens ≡ in_second z t ∷ o
    → r.place.context ≡ after_two → r.place.opens ≡ o → r.covered ≡ s.covered → r.complement ≡ s.complement
    → Added n s d r (drawing d.rows (branch (top (below d.stack)) t (top d.stack) ∷ below (below d.stack)))
unfolding passed_by before parity bits
added-two n s d r z t o g e j m q c v =
    let h : Nest n (in_second z t ∷ o) (below d.stack) = subst (λ (u : List Open). Nest n u (below d.stack)) j (nest-ended n s d g e) in
    let i : suc (length o) ≤ n = h.0 in
    let k : n - length o ≡ suc (n - suc (length o)) = omega arith in
    let a = top (below d.stack) in
    let x = bits a (n - suc (length o)) in
    let y = bits (top d.stack) (n - suc (length o)) in
    let p = parity o in
    let b = before n o (below (below d.stack)) in
    added_none n s d r _ (rw (m, q, e, j)
    (ap (λ (u : ℕ). b ++ map (differ p) (bits (branch a t (top d.stack)) u)) k
    ∙ ap (λ (l : List Bool). b ++ l) (map-append (differ p) x (map (differ t) y)
    ∙ ap (λ (l : List Bool). map (differ p) x ++ l) (map-map (differ t) (differ p) y
    ∙ map_same (λ u. differ p (differ t u)) (differ (differ t p)) (differ-swap p t) y))
    ∙ sym (append_assoc b (map (differ p) x) (map (differ (differ t p)) y)))) c (inl v)

ended-no-lead : (m : Context) → ended m ≡ true → (c : Bool) → (is_lead m || c) ≡ c
ended-no-lead start e c = refl
ended-no-lead lead e c = absurd (false≢true e)
ended-no-lead begins e c = refl
ended-no-lead after_digit e c = refl
ended-no-lead after_two e c = refl
ended-no-lead after_one e c = refl
ended-no-lead over e c = refl

-- a number's diagram is whole at its level
number-full : (n : ℕ) (s : State) (d : Drawing) (v : ℕ) → Good n s d → ((node s.table v).level ≡ 0 → ⊥) → (node s.table v).level
    ≡ level s.place → Full (get_or d.rows v missing) (n - length s.place.opens)
number-full n s d v g i e =
    let h : n + 1 - (node s.table v).level ≡ n - length s.place.opens = ap (λ (k : ℕ). n + 1 - k) e ∙ omega arith in
    subst (λ (k : ℕ). Full (get_or d.rows v missing) k) h (g.rows v i)

added : (n : ℕ) (s : State) (d : Drawing) (r : Reading) (x : Drawing) → Good n s d → Move n s d r x → Added n s d r.state x
unfolding passed_by before parity
added n s d r x g rests = added_none n s d s d refl refl (inl refl)
added n s d r x g (refuses c b) = added_none n s d s d refl refl (inl refl)
added n s d r x g (sizes a v e h) = added_none n s d _ _ (rw e refl) refl (inl refl)
added n s d r x g (leads a e) = added_none n s d _ _ (rw e refl) refl
    (inr (let j : s.place.opens ≡ [] = g.outer (ap is_outside e) in rw (e, j) refl))
added n s d r x g (opens a o b h) = added_none n s d _ _ (begins-before n s d o b) refl (inl refl)
added n s d r x g (constants a o b) = added-node n a s d o leaf _ b tt
added n s d r x g (numbers a v o b z i j) = added-node n a s d o _ _ b (number-full n s d v g i j)
added n s d r x g (turns a o e j) = added_none n s d _ _ (rw (e, j) refl) refl (inl (ended-no-lead s.place.context e s.complement))
added n s d r x g (closes_one a o e j k) = added-one n s d _ o g e j refl refl refl refl
added n s d r x g (closes_two a z t o e j) = added-two n s d _ z t o g e j refl refl refl refl
added n s d r x g (stores a k e h i j) = added_none n s d _ _ (rw e refl) refl (inl refl)
added n s d r x g (ends a e j) = added_none n s d _ _ (rw (e, j) refl) refl (inl refl)

-- ---- The invariant holds ---------------------------------------------------------------------

counted : (n : ℕ) (s : State) (d : Drawing) (r : State) (x : Drawing) → Good n s d → Added n s d r x → r.covered ≡ length (passed_words n r x)
counted n s d r x g a = omega (arith, a.more, g.count, ap length a.list, length-append (passed_words n s d) a.new)

good-node : (n a : ℕ) (s : State) (d : Drawing) (o : List Open) (x : Diagram) (r : Ref) → Good n s d → Begins s o
    → Full x (n - length s.place.opens) → Good n (passed n s (moved s.place a after_digit o) r) (drawing d.rows (x ∷ d.stack))
good-node n a s d o x r g b f = record {
  nest = begins-nest n s d o g b;
  whole = λ _. subst (λ (k : ℕ). Full x (n - k)) (sym (begins-length s o b)) f;
  rows = g.rows;
  long = g.long;
  outer = λ h. absurd (false≢true h);
  count = counted n s d _ _ g (added-node n a s d o x r b f);
}

-- the rows after a storing
rows-stored : (n k l : ℕ) (t : List Node) (rs : List Diagram) (y : Node) (x : Diagram) → length rs ≡ length t → y.level ≡ l → Full x (n + 1 - l)
    → ((i : ℕ) → ((node t i).level ≡ 0 → ⊥) → Full (get_or rs i missing) (n + 1 - (node t i).level))
    → (i : ℕ) → ((node (set t k y) i).level ≡ 0 → ⊥) → Full (get_or (set rs k x) i missing) (n + 1 - (node (set t k y) i).level)
rows-stored n k l [] [] y x e j f h i p = absurd (p refl)
rows-stored n k l [] (z ∷ rs) y x e j f h i p = absurd (p refl)
rows-stored n k l (u ∷ t) [] y x e j f h i p = absurd (let q : 0 ≡ suc (length t) = e in omega arith)
rows-stored n zero l (u ∷ t) (z ∷ rs) y x e j f h zero p = subst (λ (m : ℕ). Full x (n + 1 - m)) (sym j) f
rows-stored n zero l (u ∷ t) (z ∷ rs) y x e j f h (suc i) p = h (suc i) p
rows-stored n (suc k) l (u ∷ t) (z ∷ rs) y x e j f h zero p = h zero p
rows-stored n (suc k) l (u ∷ t) (z ∷ rs) y x e j f h (suc i) p = rows-stored n k l t rs y x
    (let q : suc (length rs) ≡ suc (length t) = e in omega arith) j f (λ m. h (suc m)) i p

pub good-move : (n : ℕ) (s : State) (d : Drawing) (r : Reading) (x : Drawing) → Good n s d → Move n s d r x → Good n r.state x
good-move n s d r x g rests = g
good-move n s d r x g (refuses c b) = g
good-move n s d r x g (sizes a v e h) = record {
  nest = subst (λ (m : Context). Nest n s.place.opens (under (ended m) d.stack)) e g.nest;
  whole = λ i. absurd (false≢true i);
  rows = λ k i. absurd (i (ap (λ (y : Node). y.level) (get_or-replicate-same (suc v) k no_node)));
  long = length-replicate (suc v) missing ∙ sym (length-replicate (suc v) no_node);
  outer = λ _. g.outer (ap is_outside e);
  count = counted n s d _ _ g (added n s d _ _ g (sizes a v e h));
}
good-move n s d r x g (leads a e) = record {
  nest = subst (λ (m : Context). Nest n s.place.opens (under (ended m) d.stack)) e g.nest;
  whole = λ i. absurd (false≢true i);
  rows = g.rows;
  long = g.long;
  outer = λ i. absurd (false≢true i);
  count = counted n s d _ _ g (added n s d _ _ g (leads a e));
}
good-move n s d r x g (opens a o b h) = record {
  nest = (let e : length o ≡ length s.place.opens = begins-length s o b in omega arith, begins-nest n s d o g b);
  whole = λ i. absurd (false≢true i);
  rows = g.rows;
  long = g.long;
  outer = λ i. absurd (false≢true i);
  count = counted n s d _ _ g (added n s d _ _ g (opens a o b h));
}
good-move n s d r x g (constants a o b) = good-node n a s d o leaf _ g b tt
good-move n s d r x g (numbers a v o b z i j) = good-node n a s d o _ _ g b (number-full n s d v g i j)
good-move n s d r x g (turns a o e j) =
    let h : Nest n (in_first ∷ o) (below d.stack) = subst (λ (v : List Open). Nest n v (below d.stack)) j (nest-ended n s d g e) in
    record {
      nest = (h.0, whole-at n s d g e (in_first ∷ o) j, h.1);
      whole = λ i. absurd (false≢true i);
      rows = g.rows;
      long = g.long;
      outer = λ i. absurd (false≢true i);
      count = counted n s d _ _ g (added n s d _ _ g (turns a o e j));
    }
good-move n s d r x g (closes_one a o e j k) =
    let h : Nest n (in_first ∷ o) (below d.stack) = subst (λ (v : List Open). Nest n v (below d.stack)) j (nest-ended n s d g e) in
    let i : suc (length o) ≤ n = h.0 in
    let m : n - length o ≡ suc (n - suc (length o)) = omega arith in
    let f = whole-at n s d g e (in_first ∷ o) j in
    record {
      nest = h.1;
      whole = λ _. rw m (f, f);
      rows = g.rows;
      long = g.long;
      outer = λ q. absurd (false≢true q);
      count = counted n s d _ _ g (added n s d _ _ g (closes_one a o e j k));
    }
good-move n s d r x g (closes_two a z t o e j) =
    let h : Nest n (in_second z t ∷ o) (below d.stack) = subst (λ (v : List Open). Nest n v (below d.stack)) j (nest-ended n s d g e) in
    let i : suc (length o) ≤ n = h.0 in
    let m : n - length o ≡ suc (n - suc (length o)) = omega arith in
    let f = whole-at n s d g e (in_second z t ∷ o) j in
    record {
      nest = h.2;
      whole = λ _. rw m (h.1, f);
      rows = g.rows;
      long = g.long;
      outer = λ q. absurd (false≢true q);
      count = counted n s d _ _ g (added n s d _ _ g (closes_two a z t o e j));
    }
good-move n s d r x g (stores a k e h i j) =
    let w : Full (top d.stack) (n - length s.place.opens) = g.whole (ap ended e) in
    let m : n - length s.place.opens ≡ n + 1 - level s.place = omega arith in
    record {
      nest = subst (λ (u : Context). Nest n s.place.opens (under (ended u) d.stack)) e g.nest;
      whole = λ _. w;
      rows = rows-stored n k (level s.place) s.table d.rows _ (top d.stack) g.long refl (subst (Full (top d.stack)) m w) g.rows;
      long = length-set d.rows k _ ∙ g.long ∙ sym (length-set s.table k _);
      outer = λ q. absurd (false≢true q);
      count = counted n s d _ _ g (added n s d _ _ g (stores a k e h i j));
    }
good-move n s d r x g (ends a e j) = record {
  nest = tt;
  whole = λ _. whole-at n s d g e [] j;
  rows = g.rows;
  long = g.long;
  outer = λ _. refl;
  count = counted n s d _ _ g (added n s d _ _ g (ends a e j));
}

pub good-fresh : (n : ℕ) → Good n fresh (drawing [] [])
unfolding passed_by before
good-fresh n = record { nest = tt; whole = λ i. absurd (false≢true i); rows = λ k i. absurd (i refl); long = refl; outer = λ _. refl; count = refl }

-- ---- Of a trace ------------------------------------------------------------------------------

abbrev pub GoodTrace : ℕ → Trace → Type 0
GoodTrace n t = Good n t.reading.state t.drawing

abbrev pub trace_words : ℕ → Trace → List Bool
trace_words n t = words n t.reading.state t.drawing

-- t' has read all that t has
pub record Grown (n : ℕ) (t t' : Trace) : Type 0 where
  pub good : GoodTrace n t'
  pub new : List Bool
  pub list : trace_words n t' ≡ trace_words n t ++ new

grown-same : (n : ℕ) (t : Trace) → GoodTrace n t → Grown n t t
grown-same n t g = record { good = g; new = []; list = sym (append-nil (trace_words n t)) }

pub words-added : (n : ℕ) (s : State) (d : Drawing) (r : State) (x : Drawing) (a : Added n s d r x) → words n r x
    ≡ words n s d ++ map (differ r.complement) a.new
unfolding words
words-added n s d r x a = ap (map (differ r.complement)) a.list ∙ map-append (differ r.complement) (passed_words n s d) a.new
    ∙ ap (λ (l : List Bool). l ++ map (differ r.complement) a.new) (go a.turn)
  where
    go : (r.complement ≡ s.complement) ⊎ (passed_words n s d ≡ []) → map (differ r.complement) (passed_words n s d)
        ≡ map (differ s.complement) (passed_words n s d)
    go (inl e) = ap (λ (t : Bool). map (differ t) (passed_words n s d)) e
    go (inr e) = ap (map (differ r.complement)) e ∙ sym (ap (map (differ s.complement)) e)

grown-move : (n : ℕ) (s : State) (d : Drawing) (r : Reading) (x : Drawing) → Good n s d → Move n s d r x → Grown n (traced (goes s) d) (traced r x)
grown-move n s d r x g m = record { good = good-move n s d r x g m; new = _; list = words-added n s d r.state x (added n s d r x g m) }

grown-next : (n : ℕ) (bytes : List ℕ) (t : Trace) → GoodTrace n t → Grown n t (next_trace n bytes t)
unfolding next_trace next
grown-next n bytes t g = go t.reading.fault
  where
    s : State
    s = t.reading.state

    go : (f : Option Fault) → Grown n t (traced (next_by n bytes t.reading.state f)
        (draw_unless (next_by n bytes t.reading.state f).fault t.reading.state (step t.reading.state.place bytes).outcome t.drawing))
    go none =
        let h = grown-move n s t.drawing _ _ g (advance-move n bytes s t.drawing) in
        record { good = h.good; new = h.new; list = h.list }
    go (some f) = record { good = g; new = []; list = sym (append-nil (trace_words n t)) }

pub grown-on : (f n : ℕ) (bytes : List ℕ) (t : Trace) → GoodTrace n t → Grown n t (trace_on f n bytes t)
unfolding trace_on
grown-on zero n bytes t g = grown-same n t g
grown-on (suc f) n bytes t g =
    let h = grown-next n bytes t g in
    let k = grown-on f n bytes (next_trace n bytes t) h.good in
    record {
      good = k.good;
      new = h.new ++ k.new;
      list = k.list ∙ ap (λ (l : List Bool). l ++ k.new) h.list
          ∙ append_assoc (trace_words n t) h.new k.new;
    }

-- what is read later leaves no fewer words covered
pub grown-count : (n : ℕ) (t t' : Trace) → GoodTrace n t → Grown n t t' → t.reading.state.covered ≤ t'.reading.state.covered
grown-count n t t' g h = omega (arith, words_count n _ _ g, words_count n _ _ h.good, ap length h.list, length-append (trace_words n t) h.new)

-- at most 2^n words are covered
pub good-most : (n : ℕ) (t : Trace) → GoodTrace n t → t.reading.state.covered ≤ 2 ^ n
good-most n t g =
    let x = passed_words n t.reading.state t.drawing in
    let f = outermost-spread n (ended t.reading.state.place.context) t.reading.state.place.opens t.drawing.stack g.nest g.whole
    in
    let e = ap length f.1 ∙ length-append (map decided x) (replicate f.0 undecided) in
    omega (arith, e, length-spread (outermost t) n, length-map x decided, g.count)

pub good-trace : (n : ℕ) (bytes : List ℕ) → GoodTrace n (trace n bytes)
unfolding trace
good-trace n bytes = (grown-on (suc (length bytes)) n bytes (traced (goes fresh) (drawing [] [])) (good-fresh n)).good

-- ---- The covered words are the decided ones --------------------------------------------------

-- the decisions of a stream's covered words
unfoldable pub decisions : ℕ → List ℕ → List Bool
decisions n bytes = trace_words n (trace n bytes)

pub trace-covered : (n : ℕ) (bytes : List ℕ) → (trace n bytes).reading.state.covered ≡ covered n bytes
trace-covered n bytes = ap (λ (r : Reading). r.state.covered) (trace-reading n bytes)

module _ (n : ℕ) (bytes : List ℕ) where
  -- the walk decides the covered words as the list says, and no others
  decision-listed : (w : ℕ) → w < 2 ^ n → decision n bytes w ≡ get_or (map decided (decisions n bytes)) w undecided
  unfolding decision decisions
  decision-listed w h = words-decide n (trace n bytes) (good-trace n bytes) w h

  decisions-count : length (decisions n bytes) ≡ covered n bytes
  unfolding decisions
  decisions-count = words_count n (trace n bytes).reading.state (trace n bytes).drawing (good-trace n bytes) ∙ trace-covered n bytes

  -- A COVERED WORD IS DECIDED
  pub covered-decided : (w : ℕ) → w < 2 ^ n → w < covered n bytes → decision n bytes w ≡ decided (get_or (decisions n bytes) w false)
  covered-decided w h k = decision-listed w h ∙ go (decisions n bytes) w (omega (arith, k, decisions-count))
    where
      go : (l : List Bool) (w : ℕ) → w < length l → get_or (map decided l) w undecided ≡ decided (get_or l w false)
      go [] w h = absurd (omega (arith, h))
      go (x ∷ l) zero h = refl
      go (x ∷ l) (suc w) h = go l w (omega (arith, h))

  -- AND NO OTHER
  pub uncovered-undecided : (w : ℕ) → w < 2 ^ n → covered n bytes ≤ w → decision n bytes w ≡ undecided
  uncovered-undecided w h k = decision-listed w h ∙ get_or-eq_default (map decided (decisions n bytes)) undecided
      (omega (arith, k, decisions-count, length-map (decisions n bytes) decided))

  -- at most 2^n words are covered
  pub covered-most : covered n bytes ≤ 2 ^ n
  covered-most = omega (arith, good-most n (trace n bytes) (good-trace n bytes), trace-covered n bytes)

-- THE PREFIX LAW of the decisions: those of xs begin those of xs ++ ys.
decisions-begin : (n : ℕ) (xs ys : List ℕ) → (zs : List Bool) × (decisions n (xs ++ ys) ≡ decisions n xs ++ zs)
unfolding decisions
decisions-begin n xs ys =
    let c = trace-continues n xs ys in
    let h = grown-on c.0 n (xs ++ ys) (trace n xs) (good-trace n xs) in
    (h.new, ap (trace_words n) c.1 ∙ h.list)

-- The covered count never shrinks.
pub covered-grows : (n : ℕ) (xs ys : List ℕ) → covered n xs ≤ covered n (xs ++ ys)
covered-grows n xs ys =
    let h = decisions-begin n xs ys in
    omega (arith, decisions-count n xs, decisions-count n (xs ++ ys), ap length h.1, length-append (decisions n xs) h.0)

never-decided : {A : Type 0} (e : Bool) → undecided ≡ decided e → A
never-decided e h = let z : ◌≡◌ {A = ℕ} 0 1 = cc in absurd (omega arith)

-- A DECISION STANDS: a word that xs decides is decided alike by xs ++ ys.
pub decision-stands : (n : ℕ) (xs ys : List ℕ) (w : ℕ) (e : Bool) → w < 2 ^ n → decision n xs w ≡ decided e → decision n (xs ++ ys) w ≡ decided e
decision-stands n xs ys w e h k = ⊎_elim
    (λ (j : covered n xs ≤ w). never-decided e (sym (uncovered-undecided n xs w h j) ∙ k))
    (λ (j : w < covered n xs).
    let b = decisions-begin n xs ys in
    let i : w < covered n (xs ++ ys) = omega (arith, covered-grows n xs ys) in
    covered-decided n (xs ++ ys) w h i
    ∙ ap decided (ap (λ (l : List Bool). get_or l w false) b.1 ∙ get_or-append (decisions n xs) b.0 false w
    (omega (arith, decisions-count n xs)))
    ∙ sym (covered-decided n xs w h j) ∙ k)
    (decide-le (covered n xs) w)

-- WHERE THE OUTERMOST NODE HAS ENDED all words are covered.
pub ended-covers : (n : ℕ) (bytes : List ℕ) → ended (reading n bytes).state.place.context ≡ true → (reading n bytes).state.place.opens ≡ []
    → covered n bytes ≡ 2 ^ n
unfolding passed_by before parity
ended-covers n bytes h k =
    let t = trace n bytes in
    let s = t.reading.state in
    let x = top t.drawing.stack in
    let g = good-trace n bytes in
    let e : ended s.place.context ≡ true = ap (λ (r : Reading). ended r.state.place.context) (trace-reading n bytes) ∙ h in
    let j : s.place.opens ≡ [] = ap (λ (r : Reading). r.state.place.opens) (trace-reading n bytes) ∙ k in
    let f : Full x (n - 0) = subst (λ (u : List Open). Full x (n - length u)) j (g.whole e) in
    let i : n - 0 ≡ n = omega arith in
    let p : passed_words n s t.drawing ≡ map (differ false) (bits x (n - 0)) = rw (e, j) refl in
    sym (trace-covered n bytes) ∙ g.count ∙ ap length p ∙ length-map (bits x (n - 0)) (differ false) ∙ length-bits x (n - 0) f
    ∙ ap (λ (k : ℕ). 2 ^ k) i

-- So a complete stream covers all words.
pub complete-covers : (n : ℕ) (bytes : List ℕ) → (reading n bytes).state.place.context ≡ over → covered n bytes ≡ 2 ^ n
complete-covers n bytes e =
    let r = trace-reading n bytes in
    ended-covers n bytes (ap ended e)
    (sym (ap (λ (r : Reading). r.state.place.opens) r)
    ∙ (good-trace n bytes).outer (ap is_outside (ap (λ (r : Reading). r.state.place.context) r ∙ e)))
