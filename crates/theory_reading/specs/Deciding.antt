-- Deciding a covered word (document 01, "Words and options"; "A stream that stops early", the second paragraph). Assumes nothing.
use Rattle.std.specs.Prelude.{Bool, true, false, not, cond, List, [], ◌∷◌, ℕ, zero, suc, ◌-◌, ◌^◌, leb, ltb, length, get_or, set, replicate}
use Rattle.std.proofs.Math.Option.{Option, none, some}
use Rattle.theory_reading.specs.Element.{Element, opening, number, constant, turn, closing, storing, end, Open, in_first, in_second, Context}
use Rattle.theory_reading.specs.Element.{after_digit, Outcome, got, fault, ran_out, step}
use Rattle.theory_reading.specs.Reading.{State, Fault, Reading, goes, fresh, context_number, is_start, next}

-- ---- Words -----------------------------------------------------------------------------------

-- "Option 1 is the outermost and has weight 2^(n-1) in the word; option n has weight 1."
unfoldable pub options : ℕ → ℕ → List Bool
options zero w = []
options (suc m) w = elim (ltb w (2 ^ m)) [ true ↦ false ∷ options m w | false ↦ true ∷ options m (w - 2 ^ m) ]

pub data Decision : Type 0 where
  undecided : Decision
  decided : Bool → Decision

-- yes and no turned about, if the edge is complemented
abbrev pub complemented : Bool → Decision → Decision
complemented t undecided = undecided
complemented false (decided d) = decided d
complemented true (decided d) = decided (not d)

-- ---- The diagram of the text -----------------------------------------------------------------

-- A node of the text with all below it: the `0`; a bracket with its children, and a `~` between them or not. missing: not read yet
pub data Diagram : Type 0 where
  missing : Diagram
  leaf : Diagram
  branch : Diagram → Bool → Diagram → Diagram

-- "Begin at the outermost node. At a bracket of level i go to the first child if option i is no in the word, else to the second ..
-- At `0` stop. The decision is no, turned about .. once for each second child gone to in an `(A~B)`."
unfoldable pub walk : Diagram → List Bool → Decision
walk missing os = undecided
walk leaf os = decided false
walk (branch a t b) [] = undecided
walk (branch a t b) (false ∷ os) = walk a os
walk (branch a t b) (true ∷ os) = complemented t (walk b os)

-- rows: for each number "the node last stored under it before that place in the text";
-- stack: the nodes that have ended and whose parents have not, the last first
pub record Drawing : Type 0 where
  pub rows : List Diagram
  pub stack : List Diagram

abbrev pub drawing : List Diagram → List Diagram → Drawing
drawing r x = record { rows = r; stack = x }

abbrev pub top : List Diagram → Diagram
top [] = missing
top (a ∷ x) = a

abbrev pub below : List Diagram → List Diagram
below [] = []
below (a ∷ x) = x

-- `)`: of `(A)`, where the second child "is A again", or of two children
abbrev pub closed_node : List Open → List Diagram → List Diagram
closed_node [] x = x
closed_node (in_first ∷ o) x = branch (top x) false (top x) ∷ below x
closed_node (in_second r t ∷ o) x = branch (top (below x)) t (top x) ∷ below (below x)

-- One element more; s: what had been read before it
unfoldable pub draw : State → Element → Drawing → Drawing
draw s opening d = d
draw s (number v) d = cond (is_start s.place.context) (drawing (replicate (suc v) missing) d.stack)
    (drawing d.rows (get_or d.rows v missing ∷ d.stack))
draw s constant d = drawing d.rows (leaf ∷ d.stack)
draw s turn d = d
draw s closing d = drawing d.rows (closed_node s.place.opens d.stack)
draw s (storing k) d = drawing (set d.rows k (top d.stack)) d.stack
draw s end d = d

abbrev pub draw_outcome : State → Outcome → Drawing → Drawing
draw_outcome s (got e) d = draw s e d
draw_outcome s (fault c b) d = d
draw_outcome s ran_out d = d

-- nothing is drawn at a fault
abbrev pub draw_unless : Option Fault → State → Outcome → Drawing → Drawing
draw_unless none s x d = draw_outcome s x d
draw_unless (some f) s x d = d

-- A reading with the drawing of what it has read.
pub record Trace : Type 0 where
  pub reading : Reading
  pub drawing : Drawing

abbrev pub traced : Reading → Drawing → Trace
traced r d = record { reading = r; drawing = d }

unfoldable pub next_trace : ℕ → List ℕ → Trace → Trace
unfolding next draw step
next_trace n bytes t =
    let r = next n bytes t.reading in
    let s = t.reading.state in
    traced r (draw_unless r.fault s (step s.place bytes).outcome t.drawing)

unfoldable pub trace_on : ℕ → ℕ → List ℕ → Trace → Trace
unfolding next_trace
trace_on zero n bytes t = t
trace_on (suc f) n bytes t = trace_on f n bytes (next_trace n bytes t)

-- The reading of a stream with its drawing (its reading is `reading`: `trace-reading`).
unfoldable pub trace : ℕ → List ℕ → Trace
unfolding trace_on
trace n bytes = trace_on (suc (length bytes)) n bytes (traced (goes fresh) (drawing [] []))

-- ---- The decision ----------------------------------------------------------------------------

-- a node has just ended: the contexts from `after_digit` on
abbrev pub ended : Context → Bool
ended m = leb (context_number after_digit) (context_number m)

-- The outermost node, as far as it is read: the open nodes around the node x that stands at the end of the text.
unfoldable pub around : List Open → List Diagram → Diagram → Diagram
around [] st x = x
around (in_first ∷ o) st x = around o st (branch x false missing)
around (in_second r t ∷ o) st x = around o (below st) (branch (top st) t x)

abbrev pub outermost_of : Bool → List Open → List Diagram → Diagram
outermost_of true o st = around o (below st) (top st)
outermost_of false o st = around o st missing

abbrev pub outermost : Trace → Diagram
outermost t = outermost_of (ended t.reading.state.place.context) t.reading.state.place.opens t.drawing.stack

-- ".. turned about once for a leading `~`"
unfoldable pub decision_of : ℕ → Trace → ℕ → Decision
unfolding walk around options
decision_of n t w = complemented t.reading.state.complement (walk (outermost t) (options n w))

-- What a stream decides.
unfoldable pub decision : ℕ → List ℕ → ℕ → Decision
unfolding decision_of trace
decision n bytes w = decision_of n (trace n bytes) w
