-- The calls that read (document 01, "The written stream", last paragraphs; "Turned down"; document 02, R-1): for every input the answer, and what each
-- lent slice holds afterwards. Assumes nothing.
use Rattle.std.specs.Prelude.{◌≡◌, Bool, true, false, not, cond, ◌&&◌, List, [], ◌∷◌, ℕ, zero, suc, ◌+◌, ◌-◌, ◌*◌, ◌/◌, ◌^◌, ltb, leb, eqb, length}
use Rattle.std.proofs.Math.Option.{Option, none, some}
use Rattle.theory_reading.specs.Limits.{option_limit, table_limit, truth_table_least, truth_table_most}
use Rattle.theory_reading.specs.Bytes.{is_digit}
use Rattle.theory_reading.specs.Causes.{option_count, work_table, word_range, truth_table, Result, refused, done, refusal, Test, test, at_call, gate}
use Rattle.theory_reading.specs.Causes.{table_after, unless_refused}
use Rattle.theory_reading.specs.Element.{Context, over}
use Rattle.theory_reading.specs.Reading.{State, Fault, reading, is_context}
use Rattle.theory_reading.specs.Deciding.{Decision, undecided, decided, Trace, decision_of, trace}

-- ---- Tests and streams -----------------------------------------------------------------------

abbrev pub many_options : ℕ → Test
many_options n = test (at_call option_count) (ltb option_limit n)

abbrev pub short_table : ℕ → Test
short_table records = test (at_call work_table) (ltb records table_limit)

abbrev pub not_truth_table : ℕ → Test
not_truth_table n = test (at_call option_count) (not (leb truth_table_least n && leb n truth_table_most))

abbrev pub wrong_length : ℕ → List ℕ → Test
wrong_length n bytes = test (at_call truth_table) (not (eqb (length bytes) (2 ^ n / 8)))

-- A stream is read: its fault, or what the call does with what was read. k: which stream it is
abbrev pub unless_fault : {A : Type 0} → ℕ → Option Fault → Result A → Result A
unless_fault k none x = x
unless_fault k (some f) x = refused (refusal f.cause k f.byte)

-- ---- Checking --------------------------------------------------------------------------------

-- A stream with its point is complete; "a stream without its point is *cut*".
pub data Extent : Type 0 where
  complete cut : Extent

abbrev pub extent : Context → Extent
extent m = cond (is_context over m) complete cut

-- "Checking answers the declared size (0 while unfinished), the covered count, and complete or cut."
pub record Checked : Type 0 where
  pub size : ℕ
  pub covered : ℕ
  pub extent : Extent

abbrev pub checked_of : State → Checked
checked_of s = record { size = s.size; covered = s.covered; extent = extent s.place.context }

-- records: of the work table lent
unfoldable pub check_answer : ℕ → List ℕ → ℕ → Result Checked
unfolding gate reading is_digit
check_answer n bytes records =
    let r = reading n bytes in
    gate (many_options n ∷ short_table records ∷ []) (unless_fault 1 r.fault (done (checked_of r.state)))

-- the answer of a call that reads, and its work table afterwards
pub record Read (A R : Type 0) : Type 0 where
  pub answer : Result A
  pub table : List R

-- CHECKING a stream; z: the record that is zero
unfoldable pub check : {R : Type 0} → R → ℕ → List ℕ → List R → Read Checked R
unfolding check_answer table_after
check z n bytes table =
    let a = check_answer n bytes (length table) in
    record { answer = a; table = table_after z a table }

-- the contract of a call that checks: c, its answer and its work table afterwards, is what the definition gives
abbrev pub Checks : {R : Type 0} → R → ℕ → List ℕ → List R → Read Checked R → Type 0
Checks z n bytes table c = c ≡ check z n bytes table

-- ---- Deciding --------------------------------------------------------------------------------

-- "Deciding gives yes, no or not yet (word at or past the covered count)."
pub data Verdict : Type 0 where
  is_no is_yes not_yet : Verdict

abbrev pub verdict_of : Decision → Verdict
verdict_of undecided = not_yet
verdict_of (decided false) = is_no
verdict_of (decided true) = is_yes

-- what was read decides the word w
abbrev pub verdict : ℕ → Trace → ℕ → Verdict
verdict n t w = cond (ltb w t.reading.state.covered) (verdict_of (decision_of n t w)) not_yet

unfoldable pub decide_answer : ℕ → List ℕ → ℕ → ℕ → Result Verdict
unfolding gate trace decision_of is_digit
decide_answer n bytes w records =
    let t = trace n bytes in
    gate (many_options n ∷ short_table records ∷ test (at_call word_range) (leb (2 ^ n) w) ∷ [])
    (unless_fault 1 t.reading.fault (done (verdict n t w)))

-- DECIDING a word
unfoldable pub decide : {R : Type 0} → R → ℕ → List ℕ → ℕ → List R → Read Verdict R
unfolding decide_answer table_after
decide z n bytes w table =
    let a = decide_answer n bytes w (length table) in
    record { answer = a; table = table_after z a table }

-- the contract of a call that decides
abbrev pub Decides : {R : Type 0} → R → ℕ → List ℕ → ℕ → List R → Read Verdict R → Type 0
Decides z n bytes w table c = c ≡ decide z n bytes w table

-- ---- The next admitted word (document 02, R-1) -----------------------------------------------

abbrev pub is_admitted : Verdict → Bool
is_admitted is_no = false
is_admitted is_yes = true
is_admitted not_yet = false

-- the least admitted one of the k words from w on
unfoldable pub least_admitted : ℕ → ℕ → Trace → ℕ → Option ℕ
unfolding decision_of
least_admitted zero n t w = none
least_admitted (suc k) n t w = elim (is_admitted (verdict n t w)) [ true ↦ some w | false ↦ least_admitted k n t (w + 1) ]

-- a word; "none"; "not known"
pub data NextWord : Type 0 where
  word : ℕ → NextWord
  no_word not_known : NextWord

-- "If no covered word from w on is admitted, the answer is 'none' where all words are covered and 'not known' otherwise."
abbrev pub unless_word : Option ℕ → Bool → NextWord
unless_word (some v) all = word v
unless_word none all = cond all no_word not_known

-- "From a word w and a stream, give the least admitted word not below w": of the words that are covered
abbrev pub next_word : ℕ → Trace → ℕ → NextWord
next_word n t w = let c = t.reading.state.covered in unless_word (least_admitted (c - w) n t w) (eqb c (2 ^ n))

-- "Causes 1, 4, 5 and 7 to 13 apply."
unfoldable pub find_answer : ℕ → List ℕ → ℕ → ℕ → Result NextWord
unfolding gate trace least_admitted is_digit
find_answer n bytes w records =
    let t = trace n bytes in
    gate (many_options n ∷ short_table records ∷ test (at_call word_range) (leb (2 ^ n) w) ∷ [])
    (unless_fault 1 t.reading.fault (done (next_word n t w)))

-- FINDING THE NEXT ADMITTED WORD
unfoldable pub find_next : {R : Type 0} → R → ℕ → List ℕ → ℕ → List R → Read NextWord R
unfolding find_answer table_after
find_next z n bytes w table =
    let a = find_answer n bytes w (length table) in
    record { answer = a; table = table_after z a table }

-- the contract of a call that finds the next admitted word
abbrev pub FindsNext : {R : Type 0} → R → ℕ → List ℕ → ℕ → List R → Read NextWord R → Type 0
FindsNext z n bytes w table c = c ≡ find_next z n bytes w table

-- ---- Filling a truth table -------------------------------------------------------------------

-- "A cut stream gives 0 from its covered count on."
abbrev pub digit_of : Verdict → ℕ
digit_of is_no = 0
digit_of is_yes = 1
digit_of not_yet = 0

-- k words from w on, "0 lowest"
unfoldable pub words_from : ℕ → ℕ → Trace → ℕ → ℕ
unfolding decision_of
words_from zero n t w = 0
words_from (suc k) n t w = digit_of (verdict n t w) + 2 * words_from k n t (w + 1)

-- "Word w is binary digit w mod 8 (0 lowest) of byte w / 8": k bytes from byte i on
unfoldable pub bytes_from : ℕ → ℕ → Trace → ℕ → List ℕ
unfolding words_from
bytes_from zero n t i = []
bytes_from (suc k) n t i = words_from 8 n t (8 * i) ∷ bytes_from k n t (i + 1)

-- "Filling answers the covered count."
unfoldable pub fill_answer : ℕ → List ℕ → List ℕ → ℕ → Result ℕ
unfolding gate reading is_digit
fill_answer n bytes old records =
    let r = reading n bytes in
    gate (not_truth_table n ∷ short_table records ∷ wrong_length n old ∷ []) (unless_fault 1 r.fault (done r.state.covered))

pub record Fill (R : Type 0) : Type 0 where
  pub answer : Result ℕ
  pub table : List R
  pub truths : List ℕ

-- FILLING a truth table; old: what the truth table held
unfoldable pub fill : {R : Type 0} → R → ℕ → List ℕ → List ℕ → List R → Fill R
unfolding fill_answer table_after unless_refused trace bytes_from
fill z n bytes old table =
    let a = fill_answer n bytes old (length table) in
    record { answer = a; table = table_after z a table; truths = unless_refused a old (λ (c : ℕ). bytes_from (2 ^ n / 8) n (trace n bytes) 0) }

-- the contract of a call that fills
abbrev pub Fills : {R : Type 0} → R → ℕ → List ℕ → List ℕ → List R → Fill R → Type 0
Fills z n bytes old table c = c ≡ fill z n bytes old table
