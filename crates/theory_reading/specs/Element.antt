-- Places in a stream, elements, and one step of reading (document 01, "The stream", the paragraph on elements;
-- "A stream that stops early", when a number is read). The step finds cause 7, and cause 9 at a 33rd open bracket, and no other:
-- it is also what document 01 calls the reader. Assumes nothing.
use Rattle.std.specs.Prelude.{Bool, true, false, cond, ◌&&◌, List, [], ◌∷◌, ℕ, ◌+◌, ◌*◌, ◌-◌, ltb, eqb, length, drop}
use Rattle.std.proofs.Math.Option.{Option, none, some}
use Rattle.std.proofs.Math.ListN.{get_elem?}
use Rattle.theory_reading.specs.Limits.{open_limit}
use Rattle.theory_reading.specs.Bytes.{opener, closer, tilde, colon, dot, blank, line_feed, digit_zero, is_digit}
use Rattle.theory_reading.specs.Nodes.{Ref, temporary}
use Rattle.theory_reading.specs.Causes.{Cause, wrong_byte, too_deep}

-- ---- Elements and places ---------------------------------------------------------------------

-- "An element is one of: opening, number, constant, turn, closing, storing, end. The size with its LF is a number, a storing is `:` with
-- its number, and a space belongs to what follows it."
pub data Element : Type 0 where
  opening : Element
  number : ℕ → Element
  constant : Element
  turn : Element
  closing : Element
  storing : ℕ → Element
  end : Element

-- An open node, "with what its first child was": the first child is not done; or it was this, and a `~` stands after it or not.
pub data Open : Type 0 where
  in_first : Open
  in_second : Ref → Bool → Open

-- What stands before a place: nothing; the size; a `(` or `~`, so that a node has to begin; a node whose text ends in a digit, in the `)` of
-- two children, so that a `:` may follow, or in the `)` of an `(A)`; the point.
pub data Context : Type 0 where
  start lead begins after_digit after_two after_one over : Context

-- A place: the bytes before it, what stands there, the open nodes, the innermost first, and what the node that ended last was
-- (which only a reader with a table knows: the step leaves it as it is).
pub record Place : Type 0 where
  pub at : ℕ
  pub context : Context
  pub opens : List Open
  pub last : Ref

abbrev pub place : ℕ → Context → List Open → Ref → Place
place a m o r = record { at = a; context = m; opens = o; last = r }

abbrev pub begin : Place
begin = place 0 start [] temporary

abbrev pub moved : Place → ℕ → Context → List Open → Place
moved p a m o = place a m o p.last

-- ---- Numbers ---------------------------------------------------------------------------------

-- Where a number is looked for: it is read, with its value and the place after its last digit, or it is not yet read.
pub data Scan : Type 0 where
  read : ℕ → ℕ → Scan
  unread : Scan

-- The other digits of a number: the bytes from a place on, the value so far, the place. "A number is read when a byte other than a digit
-- follows it." "A number at its end is not yet read."
unfoldable pub digits_on : List ℕ → ℕ → ℕ → Scan
digits_on [] v at = unread
digits_on (b ∷ bs) v at = elim (is_digit b) [ true ↦ digits_on bs (v * 10 + (b - digit_zero)) (at + 1) | false ↦ read v at ]

-- The number whose first digit b stands at a place. "Numbers have no leading zero": "a `0` .. is complete with that digit".
unfoldable pub number_at : List ℕ → ℕ → ℕ → Scan
unfolding digits_on
number_at bytes at b = elim (eqb b digit_zero) [ true ↦ read 0 (at + 1) | false ↦ digits_on (drop (at + 1) bytes) (b - digit_zero) (at + 1) ]

-- ---- One step --------------------------------------------------------------------------------

-- What a step comes to: an element; a fault, its cause and its byte; or the bytes ran out.
pub data Outcome : Type 0 where
  got : Element → Outcome
  fault : Cause → ℕ → Outcome
  ran_out : Outcome

-- "Stepping the place in a stream gives back the new place." At a fault, and when the bytes run out, it is the old one.
pub record Step : Type 0 where
  pub outcome : Outcome
  pub place : Place

abbrev pub gives : Element → Place → Step
gives e q = record { outcome = got e; place = q }

abbrev pub fails : Place → Cause → ℕ → Step
fails p c b = record { outcome = fault c b; place = p }

abbrev pub waits : Place → Step
waits p = record { outcome = ran_out; place = p }

-- "The size with its LF is a number", read "only when its LF" follows. v: its value; at: the place of the LF
abbrev pub size_ends : Place → ℕ → ℕ → Option ℕ → Step
size_ends p v at none = waits p
size_ends p v at (some b) = cond (eqb b line_feed) (gives (number v) (moved p (at + 1) lead p.opens)) (fails p wrong_byte at)

abbrev pub size_read : List ℕ → Place → Scan → Step
size_read bytes p (read v at) = size_ends p v at (get_elem? bytes at)
size_read bytes p unread = waits p

-- A number or, if it is `0`, the constant, inside the open nodes o.
abbrev pub number_read : Place → List Open → Scan → Step
number_read p o (read v at) = gives (cond (eqb v 0) constant (number v)) (moved p at after_digit o)
number_read p o unread = waits p

abbrev pub storing_read : Place → Scan → Step
storing_read p (read v at) = gives (storing v) (moved p at after_digit p.opens)
storing_read p unread = waits p

-- A node begins at the place, whose byte is b, inside the open nodes o.
abbrev pub node_begins : List ℕ → Place → List Open → ℕ → Step
node_begins bytes p o b =
    cond (eqb b opener) (cond (ltb (length o) open_limit) (gives opening (moved p (p.at + 1) begins (in_first ∷ o))) (fails p too_deep p.at))
    (cond (is_digit b) (number_read p o (number_at bytes p.at b))
    (fails p wrong_byte p.at))

-- After the space "one space stands after A exactly when A's text ends in a digit and B's begins with one": a digit.
abbrev pub after_space : List ℕ → Place → List Open → Option ℕ → Step
after_space bytes p o none = waits p
after_space bytes p o (some b) = cond (is_digit b) (number_read p o (number_at bytes (p.at + 1) b)) (fails p wrong_byte (p.at + 1))

-- After the `:` of a storing: a digit.
abbrev pub after_colon : List ℕ → Place → Option ℕ → Step
after_colon bytes p none = waits p
after_colon bytes p (some b) = cond (is_digit b) (storing_read p (number_at bytes (p.at + 1) b)) (fails p wrong_byte (p.at + 1))

-- A node has ended, which was the outermost, a first child or a second child. d: its text ends in a digit; b: the byte at the place
abbrev pub node_ended : List ℕ → Place → Bool → ℕ → List Open → Step
node_ended bytes p d b [] = cond (eqb b dot) (gives end (moved p (p.at + 1) over [])) (fails p wrong_byte p.at)
node_ended bytes p d b (in_first ∷ o) =
    cond (eqb b tilde) (gives turn (moved p (p.at + 1) begins (in_second p.last true ∷ o)))
    (cond (eqb b closer) (gives closing (moved p (p.at + 1) after_one o))
    (cond (d && eqb b blank) (after_space bytes p (in_second p.last false ∷ o) (get_elem? bytes (p.at + 1)))
    (cond (d && is_digit b) (fails p wrong_byte p.at)
    (node_begins bytes p (in_second p.last false ∷ o) b))))
node_ended bytes p d b (in_second a t ∷ o) = cond (eqb b closer) (gives closing (moved p (p.at + 1) after_two o)) (fails p wrong_byte p.at)

-- The step by what stands before the place and by the byte b at it.
abbrev pub step_by : List ℕ → Place → ℕ → Context → Step
step_by bytes p b start = cond (is_digit b) (size_read bytes p (number_at bytes p.at b)) (fails p wrong_byte p.at)
step_by bytes p b lead = cond (eqb b tilde) (gives turn (moved p (p.at + 1) begins p.opens)) (node_begins bytes p p.opens b)
step_by bytes p b begins = node_begins bytes p p.opens b
step_by bytes p b after_digit = node_ended bytes p true b p.opens
step_by bytes p b after_two = cond (eqb b colon) (after_colon bytes p (get_elem? bytes (p.at + 1))) (node_ended bytes p false b p.opens)
step_by bytes p b after_one = node_ended bytes p false b p.opens
step_by bytes p b over = fails p wrong_byte p.at

abbrev pub step_on : List ℕ → Place → Option ℕ → Step
step_on bytes p none = waits p
step_on bytes p (some b) = step_by bytes p b p.context

-- THE STEP of a place in a stream.
unfoldable pub step : Place → List ℕ → Step
unfolding number_at
step p bytes = step_on bytes p (get_elem? bytes p.at)
