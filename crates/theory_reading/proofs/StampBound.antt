-- How often a number has been given out is bounded by the words passed: each storing has a word of its own. Assumes nothing.
use Rattle.std.specs.Prelude.{◌≡◌, true, List, [], ◌∷◌, ℕ, zero, suc, ◌+◌, ◌-◌, ◌≤◌, ◌^◌, length}
use Rattle.std.proofs.Common.{ap, arith}
use Rattle.std.proofs.lemmas.Bool.{false≢true}
use Rattle.std.proofs.Math.Option.{Option, none, some}
use Rattle.theory_lists.specs.Lists.{pow_pos}
use Rattle.theory_lists.specs.Maps.{get_or-replicate-same, get_or-set-either}
use Rattle.theory_reading.specs.Nodes.{Node, no_node, stamp}
use Rattle.theory_reading.specs.Element.{Open, in_first, in_second, Context, start, lead, begins, after_digit, after_two, after_one, over}
use Rattle.theory_reading.specs.Reading.{State, Fault, Reading, goes, fresh, next_by, next}
use Rattle.theory_reading.specs.Deciding.{Drawing, drawing, Trace, traced, next_trace, trace_on, ended}
use Rattle.theory_reading.proofs.Moves.{Begins, anew, second, Move, rests, refuses, sizes, leads, opens, constants, numbers, turns, closes_one}
use Rattle.theory_reading.proofs.Moves.{closes_two, stores, ends, advance-move}
use Rattle.theory_reading.proofs.Covered.{good-fresh, GoodTrace, good-most, grown-on}

-- the open nodes whose first child has ended
unfoldable pub seconds : List Open → ℕ
seconds [] = 0
seconds (in_first ∷ o) = seconds o
seconds (in_second r t ∷ o) = suc (seconds o)

-- what has ended at a place and has no storing yet: 1 after a node, and 1 more where a `:` may follow
abbrev pub endings : Context → ℕ
endings start = 0
endings lead = 0
endings begins = 0
endings after_digit = 1
endings after_two = 2
endings after_one = 1
endings over = 1

-- the storings of a number, the first children that have ended in open nodes, and what has ended at the place: no more than the words passed
abbrev pub Stamped : State → Type 0
Stamped s = (k : ℕ) → stamp s.table k + (seconds s.place.opens + endings s.place.context) ≤ s.covered

ended-one : (m : Context) → ended m ≡ true → 1 ≤ endings m
ended-one start e = absurd (false≢true e)
ended-one lead e = absurd (false≢true e)
ended-one begins e = absurd (false≢true e)
ended-one after_digit e = omega arith
ended-one after_two e = omega arith
ended-one after_one e = omega arith
ended-one over e = omega arith

-- a node that begins as a second child counts in place of the first child
begins-seconds : (s : State) (o : List Open) → Begins s o → seconds o ≤ seconds s.place.opens + endings s.place.context
unfolding seconds
begins-seconds s o (anew e) = omega arith
begins-seconds s o (second e u j) = omega (arith, ended-one s.place.context e, ap seconds j)

stamped-move : (n : ℕ) (s : State) (d : Drawing) (r : Reading) (x : Drawing) → Stamped s → Move n s d r x → Stamped r.state
unfolding seconds
stamped-move n s d r x h rests k = h k
stamped-move n s d r x h (refuses c b) k = h k
stamped-move n s d r x h (sizes a v e l) k = omega (arith, h k, ap (λ (y : Node). y.stamp) (get_or-replicate-same (suc v) k no_node))
stamped-move n s d r x h (leads a e) k = omega (arith, h k)
stamped-move n s d r x h (opens a o b l) k = omega (arith, h k, begins-seconds s o b)
stamped-move n s d r x h (constants a o b) k = omega (arith, h k, begins-seconds s o b, pow_pos (n - length s.place.opens))
stamped-move n s d r x h (numbers a v o b z i j) k = omega (arith, h k, begins-seconds s o b, pow_pos (n - length s.place.opens))
stamped-move n s d r x h (turns a o e j) k = omega (arith, h k, ended-one s.place.context e, ap seconds j)
stamped-move n s d r x h (closes_one a o e j l) k = omega (arith, h k, ended-one s.place.context e, ap seconds j)
stamped-move n s d r x h (closes_two a z t o e j) k = omega (arith, h k, ended-one s.place.context e, ap seconds j)
stamped-move n s d r x h (stores a v e b₁ b₂ q) k =
    let two : endings s.place.context ≡ 2 = ap endings e in
    get_or-set-either (λ (y : Node). y.stamp + (seconds s.place.opens + 1) ≤ s.covered) s.table v k _ no_node (omega (arith, h v, two))
    (omega (arith, h k, two))
stamped-move n s d r x h (ends a e j) k = omega (arith, h k, ended-one s.place.context e, ap seconds j)

-- ONE STEP keeps the bound.
pub stamped-next : (n : ℕ) (bytes : List ℕ) (t : Trace) → GoodTrace n t → Stamped t.reading.state → Stamped (next_trace n bytes t).reading.state
unfolding next_trace next
stamped-next n bytes t g h = go t.reading.fault
  where
    go : (f : Option Fault) → Stamped (next_by n bytes t.reading.state f).state
    go none = stamped-move n _ _ _ _ h (advance-move n bytes t.reading.state t.drawing)
    go (some f) = h

stamped-from : (f n : ℕ) (bytes : List ℕ) (t : Trace) → GoodTrace n t → Stamped t.reading.state → Stamped (trace_on f n bytes t).reading.state
unfolding trace_on
stamped-from zero n bytes t g h = h
stamped-from (suc f) n bytes t g h = stamped-from f n bytes (next_trace n bytes t) (grown-on (suc zero) n bytes t g).good (stamped-next n bytes t g h)

stamped-fresh : Stamped fresh
unfolding seconds
stamped-fresh k = omega arith

-- THE STAMPS ARE BOUNDED by the covered count, anywhere in a reading.
pub stamped-on : (f n : ℕ) (bytes : List ℕ) → Stamped (trace_on f n bytes (traced (goes fresh) (drawing [] []))).reading.state
stamped-on f n bytes = stamped-from f n bytes (traced (goes fresh) (drawing [] [])) (good-fresh n) stamped-fresh

-- At most 2^n words are covered, anywhere in a reading.
pub covered-within : (f n : ℕ) (bytes : List ℕ) → (trace_on f n bytes (traced (goes fresh) (drawing [] []))).reading.state.covered ≤ 2 ^ n
covered-within f n bytes =
    let t = traced (goes fresh) (drawing [] []) in
    good-most n (trace_on f n bytes t) (grown-on f n bytes t (good-fresh n)).good

-- Where a number may be given out, it has been given out at most 2^n - 2 times.
pub stamp-most : (f n : ℕ) (bytes : List ℕ) (k : ℕ) → let s = (trace_on f n bytes (traced (goes fresh) (drawing [] []))).reading.state in s.place.context ≡ after_two → stamp s.table k + 2 ≤ 2 ^ n
stamp-most f n bytes k e = omega (arith, stamped-on f n bytes k, ap endings e, covered-within f n bytes)
