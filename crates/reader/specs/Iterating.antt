-- An iteration of the loop as a function of what was before it: `Iterates` leaves nothing free, and holds of what the function comes to.
-- An iteration that goes on moves ahead in the bytes, whatever the state. Assumes nothing.
use Rattle.std.specs.Prelude.{◌≡◌, refl, Bool, false, List, ℕ, ◌<◌, ◌≤◌, length, get_or}
use Rattle.std.proofs.Common.{sym, ap₂, ◌∙◌, subst, ⊎_elim, arith}
use Rattle.std.proofs.Math.Path.{ap}
use Rattle.std.proofs.Math.Bool.{true, cond}
use Rattle.std.proofs.lemmas.Bool.{false≢true}
use Rattle.std.proofs.Math.Option.{Option}
use Rattle.std.proofs.Math.ListN.{get_or-eq_default}
use Rattle.theory_lists.specs.Lists.{decide-le}
use Rattle.theory_lists.specs.Lookups.{lookup-past}
use Rattle.theory_reading.specs.Limits.{open_limit}
use Rattle.theory_reading.specs.Causes as C
use Rattle.theory_reading.specs.Element as T
use Rattle.theory_reading.specs.StepLaws.{digit_place}
use Rattle.kinds.specs.Kinds.{kind_table}
use Rattle.scanner.specs.ScannedToken as G
use Rattle.scanner.specs.Capped.{cap_outcome}
use Rattle.elements.specs.Abstraction.{context_of, cause_of, element_of, outcome_of, deep_of}
use Rattle.scanner.specs.TokenView.{outcome_in, number_of, outcome_by, side_of, next_token}
use Rattle.scanner.specs.TokenView.{next_token_view, NextTokenView}
use Rattle.scanner.specs.TokenLaws.{token-depth}
use Rattle.elements.specs.declared.Cause.{Cause}
use Rattle.elements.specs.declared.Cause.TheVariants.{OptionCount, OperatorCode, SizeToWrite, WorkTable, WordRange, TruthTable, WrongByte}
use Rattle.elements.specs.declared.Cause.TheVariants.{DeclaredSize, TooDeep, NotInTable, OtherLevel, NotStorable, BadNumber}
use Rattle.elements.specs.declared.Element.{Element}
use Rattle.elements.specs.declared.Element.TheVariants as E
use Rattle.scanner.specs.declared.NextToken.{NextToken}
use Rattle.elements.specs.declared.Context.{Context}
use Rattle.elements.specs.declared.Context.TheVariants as M
use Rattle.elements.specs.declared.Open.{Open}
use Rattle.elements.specs.declared.Outcome.{Outcome}
use Rattle.elements.specs.declared.Outcome.TheVariants.{Got, Fault, RanOut}
use Rattle.cursors.specs.declared.Run.{Run}
use Rattle.scanner.specs.declared.Token.{Token}
use Rattle.scanner.specs.declared.Token.TheVariants as S
use Rattle.reader.specs.Taking.{TakenView, taken_of}
use Rattle.work_table.specs.Table.{get_in}
use Rattle.reader.specs.Advance.{barred_by, updated_to, taken_at, IterationView, stayed, went_by, went-by, token-ahead, taken_at_lem, Iterates, past, barred, out, fault, took}
use Rattle.reader.specs.Iteration.{barred-other}
use Rattle.node_records.specs.declared.NodeRecord.{NodeRecord}

-- ---- Back from the theory ------------------------------------------------------------------

-- a context, a cause and an element of the theory, as code has them
abbrev context_back : T.Context → Context
context_back T.start = M.Start
context_back T.lead = M.Lead
context_back T.begins = M.Begins
context_back T.after_digit = M.AfterDigit
context_back T.after_two = M.AfterTwo
context_back T.after_one = M.AfterOne
context_back T.over = M.Over

context-back : (m : Context) → context_back (context_of m) ≡ m
context-back M.Start = refl
context-back M.Lead = refl
context-back M.Begins = refl
context-back M.AfterDigit = refl
context-back M.AfterTwo = refl
context-back M.AfterOne = refl
context-back M.Over = refl

back-context : (m : T.Context) → context_of (context_back m) ≡ m
back-context T.start = refl
back-context T.lead = refl
back-context T.begins = refl
back-context T.after_digit = refl
back-context T.after_two = refl
back-context T.after_one = refl
back-context T.over = refl

abbrev cause_back : C.Cause → Cause
cause_back C.option_count = OptionCount
cause_back C.operator_code = OperatorCode
cause_back C.size_to_write = SizeToWrite
cause_back C.work_table = WorkTable
cause_back C.word_range = WordRange
cause_back C.truth_table = TruthTable
cause_back C.wrong_byte = WrongByte
cause_back C.declared_size = DeclaredSize
cause_back C.too_deep = TooDeep
cause_back C.not_in_table = NotInTable
cause_back C.other_level = OtherLevel
cause_back C.not_storable = NotStorable
cause_back C.bad_number = BadNumber

cause-back : (c : Cause) → cause_back (cause_of c) ≡ c
cause-back OptionCount = refl
cause-back OperatorCode = refl
cause-back SizeToWrite = refl
cause-back WorkTable = refl
cause-back WordRange = refl
cause-back TruthTable = refl
cause-back WrongByte = refl
cause-back DeclaredSize = refl
cause-back TooDeep = refl
cause-back NotInTable = refl
cause-back OtherLevel = refl
cause-back NotStorable = refl
cause-back BadNumber = refl

back-cause : (c : C.Cause) → cause_of (cause_back c) ≡ c
back-cause C.option_count = refl
back-cause C.operator_code = refl
back-cause C.size_to_write = refl
back-cause C.work_table = refl
back-cause C.word_range = refl
back-cause C.truth_table = refl
back-cause C.wrong_byte = refl
back-cause C.declared_size = refl
back-cause C.too_deep = refl
back-cause C.not_in_table = refl
back-cause C.other_level = refl
back-cause C.not_storable = refl
back-cause C.bad_number = refl

abbrev element_back : T.Element → Element
element_back T.opening = E.Opening
element_back (T.number v) = E.Number v
element_back T.constant = E.Constant
element_back T.turn = E.Turn
element_back T.closing = E.Closing
element_back (T.storing v) = E.Storing v
element_back T.end = E.End

element-back : (e : Element) → element_back (element_of e) ≡ e
element-back E.Opening = refl
element-back (E.Number v) = refl
element-back E.Constant = refl
element-back E.Turn = refl
element-back E.Closing = refl
element-back (E.Storing v) = refl
element-back E.End = refl

abbrev outcome_back : T.Outcome → Outcome
outcome_back (T.got e) = Got (element_back e)
outcome_back (T.fault c b) = Fault (record { cause = cause_back c; byte = b })
outcome_back T.ran_out = RanOut

back-outcome : (o : T.Outcome) → outcome_of (outcome_back o) ≡ o
back-outcome (T.got T.opening) = refl
back-outcome (T.got (T.number v)) = refl
back-outcome (T.got T.constant) = refl
back-outcome (T.got T.turn) = refl
back-outcome (T.got T.closing) = refl
back-outcome (T.got (T.storing v)) = refl
back-outcome (T.got T.end) = refl
back-outcome (T.fault c b) = ap (λ (k : C.Cause). T.fault k b) (back-cause c)
back-outcome T.ran_out = refl

-- what code sees of an outcome, and its fault
abbrev token_back : T.Outcome → Token
token_back (T.got T.opening) = S.Opening
token_back (T.got (T.number v)) = S.Number
token_back (T.got T.constant) = S.Constant
token_back (T.got T.turn) = S.Turn
token_back (T.got T.closing) = S.Closing
token_back (T.got (T.storing v)) = S.Storing
token_back (T.got T.end) = S.End
token_back (T.fault c b) = S.Fault
token_back T.ran_out = S.Out

abbrev cause_in : T.Outcome → Cause
cause_in (T.got e) = WrongByte
cause_in (T.fault c b) = cause_back c
cause_in T.ran_out = WrongByte

abbrev byte_in : T.Outcome → ℕ
byte_in (T.got e) = 0
byte_in (T.fault c b) = b
byte_in T.ran_out = 0

token_back_lem : (o : T.Outcome) → outcome_by (token_back o) (number_of o) (cause_in o) (byte_in o) ≡ outcome_back o
token_back_lem (T.got T.opening) = refl
token_back_lem (T.got (T.number v)) = refl
token_back_lem (T.got T.constant) = refl
token_back_lem (T.got T.turn) = refl
token_back_lem (T.got T.closing) = refl
token_back_lem (T.got (T.storing v)) = refl
token_back_lem (T.got T.end) = refl
token_back_lem (T.fault c b) = refl
token_back_lem T.ran_out = refl

-- the next token of code that comes to the theory's
abbrev next_token_back : NextTokenView → NextToken
next_token_back x = record {
  token = token_back x.outcome;
  cause = cause_in x.outcome;
  byte = byte_in x.outcome;
  number = x.number;
  at = x.at;
  context = context_back x.context;
  depth = x.depth;
  low = x.low;
}

-- ---- The iteration --------------------------------------------------------------------------------

-- what an iteration comes to, and the lent table after it
pub record Iterated : Type 0 where
  pub iteration : IterationView
  pub table : List NodeRecord

module _ (n : ℕ) (bytes : List ℕ) (r : Run) (d : ℕ) (low : Open) (t : List NodeRecord) where
  -- the theory's token, and the byte at the place
  abbrev seen : NextTokenView
  seen = next_token kind_table bytes r.at (context_of r.context) r.last d low

  abbrev byte : ℕ
  byte = get_or bytes r.at 0

  -- nothing was read
  abbrev stays : Bool → Cause → ℕ → Iterated
  stays f c b = record { iteration = stayed r d low f c b; table = t }

  -- what is taken for the element e, after the token x to the context m
  abbrev takes : NextTokenView → Context → Element → TakenView
  takes x m e = taken_of n r d low (digit_place r.at byte) e (get_in t r.size x.number) x.at m

  abbrev goes_by : NextTokenView → Context → Element → Iterated
  goes_by x m e = record {
    iteration = went_by r d low (takes x m e) x.depth x.low;
    table = updated_to r d x.number (get_in t r.size x.number) (takes x m e) t;
  }

  abbrev iteration_by : NextTokenView → T.Outcome → Iterated
  iteration_by x (T.got e) = goes_by x (context_back x.context) (element_back e)
  iteration_by x (T.fault c b) = stays true (cause_back c) b
  iteration_by x T.ran_out = stays false WrongByte 0

  -- AN ITERATION: a barred `:`, or what the token comes to
  unfoldable pub iteration_in : Iterated
  iteration_in = cond (barred_by t r byte) (stays true NotStorable r.at) (iteration_by seen seen.outcome)

  -- what it is by the test and the outcome
  iteration-barred : barred_by t r byte ≡ true → iteration_in ≡ stays true NotStorable r.at
  unfolding iteration_in
  iteration-barred h = ap (λ (b : Bool). cond b (stays true NotStorable r.at) (iteration_by seen seen.outcome)) h

  iteration-free : barred_by t r byte ≡ false → (o : T.Outcome) → seen.outcome ≡ o → iteration_in ≡ iteration_by seen o
  unfolding iteration_in
  iteration-free h o e = ap (λ (b : Bool). cond b (stays true NotStorable r.at) (iteration_by seen seen.outcome)) h ∙ ap (iteration_by seen) e

  -- past the bytes nothing is barred, and they have run out
  past-free : length bytes ≤ r.at → barred_by t r byte ≡ false
  past-free h = let z : byte ≡ 0 = get_or-eq_default bytes 0 h in sym (barred-other t r byte (λ e. omega (arith, z, e)))

  past-out : length bytes ≤ r.at → seen.outcome ≡ T.ran_out
  unfolding G.scan_token
  past-out h = ap (λ (x : Option ℕ). cap_outcome (G.scan_token_on kind_table bytes r.at (context_of r.context) (side_of (deep_of d) low) (deep_of d) x
      ).outcome) (lookup-past bytes r.at h)

  iteration-past : length bytes ≤ r.at → iteration_in ≡ stays false WrongByte 0
  iteration-past h = iteration-free (past-free h) T.ran_out (past-out h)

  abbrev made : IterationView → List NodeRecord → Iterated
  made y u = record { iteration = y; table = u }

  token-outcome : (x : NextToken) → next_token_view x ≡ seen → (o : Outcome) → outcome_in x ≡ o → seen.outcome ≡ outcome_of o
  token-outcome x e o i = sym (ap (λ (z : NextTokenView). z.outcome) e) ∙ ap outcome_of i

  -- An iteration comes to what the function says.
  pub iteration-in : (y : IterationView) (u : List NodeRecord) → Iterates n bytes r d low t y u → made y u ≡ iteration_in
  iteration-in y u (past h e k) = ap₂ made e k ∙ sym (iteration-past h)
  iteration-in y u (barred h e k) = ap₂ made e k ∙ sym (iteration-barred h)
  iteration-in y u (out h x s i e k) = ap₂ made e k ∙ sym (iteration-free h T.ran_out (token-outcome x s RanOut i))
  iteration-in y u (fault h x s c j i e k) = ap₂ made e k ∙ sym (iteration-free h (T.fault (cause_of c) j) (token-outcome x s (Fault (record { cause = c; byte = j })) i)
      ∙ ap (λ (a : Cause). stays true a j) (cause-back c))
  iteration-in y u (took l h x s a i e k) =
      ap₂ made e k
      ∙ sym (iteration-free h (T.got (element_of a)) (token-outcome x s (Got a) i)
      ∙ ap (λ (z : NextTokenView). goes_by z (context_back z.context) (element_back (element_of a))) (sym s)
      ∙ ap₂ (goes_by (next_token_view x)) (context-back x.context) (element-back a))

  back-token : next_token_view (next_token_back seen) ≡ seen
  back-token =
      ap₂ (λ (o : T.Outcome) (m : T.Context). record {
        outcome = o;
        number = seen.number;
        at = seen.at;
        context = m;
        depth = seen.depth;
        low = seen.low;
      })
      (ap outcome_of (token_back_lem seen.outcome) ∙ back-outcome seen.outcome) (back-context seen.context)

  -- What the function says is what an iteration comes to.
  pub iteration-made : Iterates n bytes r d low t iteration_in.iteration iteration_in.table
  iteration-made = ⊎_elim
      (λ (h : length bytes ≤ r.at). past h (ap (λ (z : Iterated). z.iteration) (iteration-past h))
      (ap (λ (z : Iterated). z.table) (iteration-past h)))
      (λ (l : r.at < length bytes). go l (barred_by t r byte) refl)
      (decide-le (length bytes) r.at)
    where
      by : r.at < length bytes → barred_by t r byte ≡ false → (o : T.Outcome) → seen.outcome ≡ o
          → Iterates n bytes r d low t iteration_in.iteration iteration_in.table
      by l h (T.got a) e =
          let k = iteration-free h (T.got a) e in
          took l h (next_token_back seen) back-token (element_back a) (token_back_lem seen.outcome ∙ ap outcome_back e)
          (ap (λ (z : Iterated). z.iteration) k) (ap (λ (z : Iterated). z.table) k)
      by l h (T.fault c b) e =
          let k = iteration-free h (T.fault c b) e in
          fault h (next_token_back seen) back-token (cause_back c) b (token_back_lem seen.outcome ∙ ap outcome_back e)
          (ap (λ (z : Iterated). z.iteration) k) (ap (λ (z : Iterated). z.table) k)
      by l h T.ran_out e =
          let k = iteration-free h T.ran_out e in
          out h (next_token_back seen) back-token (token_back_lem seen.outcome ∙ ap outcome_back e) (ap (λ (z : Iterated). z.iteration) k)
          (ap (λ (z : Iterated). z.table) k)

      go : r.at < length bytes → (b : Bool) → barred_by t r byte ≡ b → Iterates n bytes r d low t iteration_in.iteration iteration_in.table
      go l true h = barred h (ap (λ (z : Iterated). z.iteration) (iteration-barred h)) (ap (λ (z : Iterated). z.table) (iteration-barred h))
      go l false h = by l h seen.outcome refl

-- ---- Onward ----------------------------------------------------------------------------------

-- AN ITERATION THAT GOES ON moves ahead in the bytes, and no more nodes are open after it than may be.
pub iteration-ahead : (n : ℕ) (bytes : List ℕ) (r : Run) (d : ℕ) (low : Open) (t : List NodeRecord) (y : IterationView) (u : List NodeRecord)
    → Iterates n bytes r d low t y u
    → y.went ≡ true → (r.at < length bytes) × ((r.at < y.run.at) × (y.depth ≤ open_limit))
iteration-ahead n bytes r d low t y u (past h e k) w = absurd (false≢true (sym (ap (λ (z : IterationView). z.went) e) ∙ w))
iteration-ahead n bytes r d low t y u (barred h e k) w = absurd (false≢true (sym (ap (λ (z : IterationView). z.went) e) ∙ w))
iteration-ahead n bytes r d low t y u (out h x s i e k) w = absurd (false≢true (sym (ap (λ (z : IterationView). z.went) e) ∙ w))
iteration-ahead n bytes r d low t y u (fault h x s c j i e k) w = absurd (false≢true (sym (ap (λ (z : IterationView). z.went) e) ∙ w))
iteration-ahead n bytes r d low t y u (took l h x s a i e k) w =
    let v = went-by r d low (taken_at n bytes r d low t x a) x.depth x.low (sym (ap (λ (z : IterationView). z.went) e) ∙ w) in
    let j = taken_at_lem n r d low (digit_place r.at (get_or bytes r.at 0)) (get_in t r.size x.number) x.at x.context a v.0 in (
      l,
      (
        subst (λ (q : ℕ). r.at < q) (sym (ap (λ (z : IterationView). z.run.at) (e ∙ v.1) ∙ j)) (token-ahead bytes r d low x s a i l),
        subst (λ (q : ℕ). q ≤ open_limit) (sym (ap (λ (z : IterationView). z.depth) (e ∙ v.1) ∙ ap (λ (z : NextTokenView). z.depth) s))
            (token-depth kind_table bytes r.at (context_of r.context) r.last d low),
      ),
    )
