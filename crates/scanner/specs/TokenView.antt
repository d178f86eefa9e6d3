-- How code holds a scan: a token with its number, the change of the open nodes as numbers. Assumes nothing.
use Rattle.std.specs.Prelude.{Bool, true, false, cond, List, Option, None, Some, ℕ, ◌+◌, ◌-◌, eqb}
use Rattle.theory_reading.specs.Element as T
use Rattle.theory_reading.specs.Reading.{is_context}
use Rattle.scanner.specs.ScannedToken as G
use Rattle.scanner.specs.Capped.{cap_scanned}
use Rattle.elements.specs.declared.Element.TheVariants.{Opening, Number, Constant, Turn, Closing, Storing, End}
use Rattle.elements.specs.declared.Context.{Context}
use Rattle.elements.specs.declared.Ref.{Ref}
use Rattle.elements.specs.declared.Cause.{Cause}
use Rattle.elements.specs.declared.Cause.TheVariants.{WrongByte}
use Rattle.elements.specs.declared.Outcome.{Outcome}
use Rattle.elements.specs.declared.Outcome.TheVariants.{Got, Fault, RanOut}
use Rattle.scanner.specs.declared.Top.{Top}
use Rattle.scanner.specs.declared.Top.TheVariants.{Empty, Inner, Outer}
use Rattle.scanner.specs.declared.Token.{Token}
use Rattle.scanner.specs.declared.Token.TheVariants as S
use Rattle.scanner.specs.declared.ScannedToken.{ScannedToken}
use Rattle.scanner.specs.declared.Num.{Num}
use Rattle.elements.specs.declared.Open.{Open}
use Rattle.scanner.specs.declared.NextToken.{NextToken}
use Rattle.elements.specs.Abstraction.{context_of, outcome_of, begun_open, deep_of}
use Rattle.kinds.specs.declared.Kind.{Kind}

abbrev pub tops_of : Top → G.Top
tops_of Empty = G.empty
tops_of Inner = G.inner
tops_of Outer = G.outer

-- the node that has ended ends in a digit
abbrev pub is_after : Context → Bool
is_after m = is_context T.after_digit (context_of m)

-- ---- A scan --------------------------------------------------------------------------------

-- the number of an element, 0 if there is none
abbrev pub number_of : T.Outcome → ℕ
number_of (T.got T.opening) = 0
number_of (T.got (T.number v)) = v
number_of (T.got T.constant) = 0
number_of (T.got T.turn) = 0
number_of (T.got T.closing) = 0
number_of (T.got (T.storing v)) = v
number_of (T.got T.end) = 0
number_of (T.fault c b) = 0
number_of T.ran_out = 0

-- how many nodes are open after a change of d
abbrev pub depth_by : G.Change → ℕ → ℕ
depth_by G.same d = d
depth_by G.push d = d + 1
depth_by G.pop d = d - 1
depth_by G.second_push d = d + 1
depth_by (G.second t) d = d

-- the second child of the innermost begins, after a `~`
abbrev pub second_by : G.Change → Bool
second_by G.same = false
second_by G.push = false
second_by G.pop = false
second_by G.second_push = true
second_by (G.second t) = true

abbrev pub complement_by : G.Change → Bool
complement_by G.same = false
complement_by G.push = false
complement_by G.pop = false
complement_by G.second_push = false
complement_by (G.second t) = t

-- what a step comes to, with the element's number v or the fault
abbrev pub outcome_by : Token → ℕ → Cause → ℕ → Outcome
outcome_by S.Opening v c b = Got Opening
outcome_by S.Number v c b = Got (Number v)
outcome_by S.Constant v c b = Got Constant
outcome_by S.Turn v c b = Got Turn
outcome_by S.Closing v c b = Got Closing
outcome_by S.Storing v c b = Got (Storing v)
outcome_by S.End v c b = Got End
outcome_by S.Fault v c b = Fault (record { cause = c; byte = b })
outcome_by S.Out v c b = RanOut

-- a scan as code holds it, the change as numbers
pub record ScannedView : Type 0 where
  pub outcome : T.Outcome
  pub number : ℕ
  pub at : ℕ
  pub context : T.Context
  pub depth : ℕ
  pub second : Bool
  pub complement : Bool

abbrev pub plain : ℕ → G.ScannedToken → ScannedView
plain d g = record {
  outcome = g.outcome;
  number = number_of g.outcome;
  at = g.at;
  context = g.context;
  depth = depth_by g.change d;
  second =
      second_by g.change;
  complement = complement_by g.change;
}

abbrev pub scanned_view : ScannedToken → ScannedView
scanned_view g = record {
  outcome = outcome_of (outcome_by g.token g.number g.cause g.byte);
  number = g.number;
  at = g.at;
  context =
      context_of g.context;
  depth = g.depth;
  second = g.second;
  complement = g.complement;
}

abbrev pub gave_by : Token → ℕ → ℕ → Context → ℕ → Bool → Bool → ScannedToken
gave_by e v at m d two t = record { token = e; cause = WrongByte; byte = 0; number = v; at = at; context = m; depth = d; second = two; complement = t }

abbrev pub failed_by : ℕ → Context → ℕ → Cause → ℕ → ScannedToken
failed_by at m d c b = record { token = S.Fault; cause = c; byte = b; number = 0; at = at; context = m; depth = d; second = false; complement = false }

abbrev pub waited_by : ℕ → Context → ℕ → ScannedToken
waited_by at m d = record {
  token = S.Out;
  cause = WrongByte;
  byte = 0;
  number = 0;
  at = at;
  context = m;
  depth = d;
  second = false;
  complement = false;
}

-- a number or a bracket as a second child, or not
abbrev pub numbered : Bool → G.Change
numbered two = cond two (G.second false) G.same

abbrev pub scan_of : Option Num → T.Scan
scan_of None = T.unread
scan_of (Some x) = T.read x.value x.next

-- the innermost of d open nodes, which is e
abbrev pub side_of : ℕ → Open → G.Top
side_of d e = cond (eqb d 0) G.empty (cond e.second G.outer G.inner)

-- the next token: the step by little, with the entry of the innermost open node
pub record NextTokenView : Type 0 where
  pub outcome : T.Outcome
  pub number : ℕ
  pub at : ℕ
  pub context : T.Context
  pub depth : ℕ
  pub low : Open

abbrev pub next_token_by : ScannedView → Ref → Open → NextTokenView
next_token_by g last low = record {
  outcome = g.outcome;
  number = g.number;
  at = g.at;
  context = g.context;
  depth = g.depth;
  low = cond g.second
      (begun_open last g.complement) low;
}

-- by a table k of kinds
abbrev pub next_token : List Kind → List ℕ → ℕ → T.Context → Ref → ℕ → Open → NextTokenView
next_token k bytes at m last depth low = next_token_by (plain (deep_of depth)
    (cap_scanned (G.scan_token k bytes at m (side_of (deep_of depth) low) (deep_of depth)))) last low

-- what the next token comes to
abbrev pub outcome_in : NextToken → Outcome
outcome_in x = outcome_by x.token x.number x.cause x.byte

abbrev pub next_token_view : NextToken → NextTokenView
next_token_view r = record {
  outcome = outcome_of (outcome_in r);
  number = r.number;
  at = r.at;
  context = context_of r.context;
  depth = r.depth;
  low
      = r.low;
}
