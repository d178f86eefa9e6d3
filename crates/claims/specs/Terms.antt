-- The terms in which the demands are stated (Claims): how a call is turned down, what lent memory holds after it, what written bytes decide, and what
-- finding and listing admitted words give. Assumes nothing.
use Rattle.std.specs.Prelude.{◌≡◌, ◌≢◌, ◌⊎◌, ◌↔◌, Bool, true, false, List, [], ◌∷◌, ℕ, ◌+◌, ◌-◌, ◌/◌, ◌≤◌, ◌<◌, ◌^◌, min, length, take, drop, get_or}
use Rattle.std.proofs.Math.Option.{none, some}
use Rattle.theory_lists.specs.Lists.{All}
use Rattle.theory_reading.specs.Limits.{option_limit, table_limit, truth_table_least, truth_table_most}
use Rattle.theory_reading.specs.Causes.{option_count, operator_code, size_to_write, work_table, word_range, truth_table}
use Rattle.theory_reading.specs.Causes.{call, place, keeps_all, keeps_output, cause_row, Refusal, at_call, Result, refused, done, cleared}
use Rattle.theory_reading.specs.Element.{over}
use Rattle.theory_reading.specs.Reading.{reading}
use Rattle.theory_reading.specs.Deciding.{decided, decision}
use Rattle.theory_reading.specs.Calls.{Read, NextWord, word, no_word, not_known, FindsNext}
use Rattle.theory_reading.specs.Covered.{covered}
use Rattle.theory_writing.specs.Run.{operate, Answer, ending_of}

-- ---- Turned down -----------------------------------------------------------------------------

-- A line of the table "Turned down": a refusal before the streams, and when it is met; or the fault, if any, of stream k, read with n options.
pub data Line : Type 1 where
  meets : Refusal → Type 0 → Line
  faults : ℕ → ℕ → List ℕ → Line

-- the line is met, and f is returned: its refusal, or the stream and the byte of its fault
abbrev pub Met : Line → Refusal → Type 0
Met (meets g P) f = P × (f ≡ g)
Met (faults n k x) f = ((reading n x).fault ≡ some (record { cause = f.cause; byte = f.byte })) × (f.stream ≡ k)

abbrev pub Unmet : Line → Type 0
Unmet (meets g P) = P → ⊥
Unmet (faults n k x) = (reading n x).fault ≡ none

-- f is what the first line that is met returns
abbrev pub First : List Line → Refusal → Type 0
First [] f = ⊥
First (l ∷ ls) f = Met l f ⊎ (Unmet l × First ls f)

-- no line is met
abbrev pub AllUnmet : List Line → Type 0
AllUnmet [] = Unit {0}
AllUnmet (l ∷ ls) = Unmet l × AllUnmet ls

-- no cause of the call that is met has a rank below r
abbrev pub Lowest : ℕ → List Line → Type 0
Lowest r [] = Unit {0}
Lowest r (meets g P ∷ ls) = (P → r ≤ (cause_row g.cause).rank) × Lowest r ls
Lowest r (faults n k x ∷ ls) = Lowest r ls

-- the refusal names the call, and leaves all as it was
abbrev pub NamesCall : Refusal → Type 0
NamesCall f = let r = cause_row f.cause in (r.names ≡ call) × (r.leaves ≡ keeps_all) × (f.stream ≡ 0) × (f.byte ≡ 0)

-- it names one of the streams xs and a byte inside it, and leaves the output as it was
abbrev pub NamesPlace : List (List ℕ) → Refusal → Type 0
NamesPlace xs f =
    let r = cause_row f.cause in
    (r.names ≡ place) × (r.leaves ≡ keeps_output) × (0 < f.stream) × (f.stream ≤ length xs) × (f.byte < length (get_or xs (f.stream - 1) []))

-- A call over the streams xs that answers a is turned down by the lines ls, tested in this order, and by nothing else.
pub record TurnedDown {A : Type 0} (xs : List (List ℕ)) (ls : List Line) (a : Result A) : Type 0 where
  -- it is refused with f exactly if f is what the first line that is met returns
  pub exactly : (f : Refusal) → (a ≡ refused f) ↔ First ls f
  -- it is not refused exactly if no line is met
  pub unless : ((r : A) × (a ≡ done r)) ↔ AllUnmet ls
  -- the lowest in the paper's order counts
  pub lowest : (f : Refusal) → a ≡ refused f → Lowest (cause_row f.cause).rank ls
  -- what a refusal names and leaves
  pub names : (f : Refusal) → a ≡ refused f → NamesCall f ⊎ NamesPlace xs f

-- ---- The causes of each call -----------------------------------------------------------------

-- "Causes 1 to 6 are tested in that order where they apply, then all of stream 1, then all of stream 2". Behind each line stand its numbers in the
-- paper; records: how many the work table has.

abbrev pub check_lines : ℕ → List ℕ → ℕ → List Line
check_lines n x records =
    meets (at_call option_count) (option_limit < n)  -- 1
    ∷ meets (at_call work_table) (records < table_limit)  -- 4
    ∷ faults n 1 x  -- 7 to 13
    ∷ []

abbrev pub decide_lines : ℕ → List ℕ → ℕ → ℕ → List Line
decide_lines n x w records =
    meets (at_call option_count) (option_limit < n)  -- 1
    ∷ meets (at_call work_table) (records < table_limit)  -- 4
    ∷ meets (at_call word_range) (2 ^ n ≤ w)  -- 5
    ∷ faults n 1 x  -- 7 to 13
    ∷ []

-- document 02, R-1: "Causes 1, 4, 5 and 7 to 13 apply", as to deciding
abbrev pub find_lines : ℕ → List ℕ → ℕ → ℕ → List Line
find_lines n x w records = decide_lines n x w records

-- "truth table n not 3 to 16"
abbrev pub not_three_to_sixteen : ℕ → Type 0
not_three_to_sixteen n = (n < truth_table_least) ⊎ (truth_table_most < n)

abbrev pub fill_lines : ℕ → List ℕ → List ℕ → ℕ → List Line
fill_lines n x truths records =
    meets (at_call option_count) (not_three_to_sixteen n)  -- 1
    ∷ meets (at_call work_table) (records < table_limit)  -- 4
    ∷ meets (at_call truth_table) (length truths ≢ 2 ^ n / 8)  -- 6
    ∷ faults n 1 x  -- 7 to 13
    ∷ []

abbrev pub write_lines : ℕ → ℕ → List ℕ → ℕ → List Line
write_lines n size truths records =
    meets (at_call option_count) (not_three_to_sixteen n)  -- 1
    ∷ meets (at_call size_to_write) (table_limit < size)  -- 3
    ∷ meets (at_call work_table) (records < table_limit)  -- 4
    ∷ meets (at_call truth_table) (length truths ≢ 2 ^ n / 8)  -- 6
    ∷ []

abbrev pub combine_lines : ℕ → ℕ → ℕ → List ℕ → List ℕ → ℕ → ℕ → ℕ → List Line
combine_lines n op size x y records records' records'' =
    meets (at_call option_count) (option_limit < n)  -- 1
    ∷ meets (at_call operator_code) (15 < op)  -- 2
    ∷ meets (at_call size_to_write) (table_limit < size)  -- 3
    ∷ meets (at_call work_table) (records < table_limit)  -- 4
    ∷ meets (at_call work_table) (records' < table_limit)  -- 4
    ∷ meets (at_call work_table) (records'' < table_limit)  -- 4
    ∷ faults n 1 x  -- 7 to 13
    ∷ faults n 2 y  -- 7 to 13
    ∷ []

-- ---- Lent memory -----------------------------------------------------------------------------

-- A work table held t, and holds t' after a call that answers a; z: the record that is zero.
pub record TableLeft {A R : Type 0} (z : R) (a : Result A) (t t' : List R) : Type 0 where
  -- as it was, if the refusal's cause leaves all so
  pub kept : (f : Refusal) → a ≡ refused f → (cause_row f.cause).leaves ≡ keeps_all → t' ≡ t
  -- every record zero after any other refusal, and after an answer
  pub zeroed : (f : Refusal) → a ≡ refused f → (cause_row f.cause).leaves ≡ keeps_output → t' ≡ cleared z t
  pub answered : (r : A) → a ≡ done r → t' ≡ cleared z t

-- An output held `out`, and holds out' after a call that answers a.
pub record OutputLeft (a : Result Answer) (out out' : List ℕ) : Type 0 where
  -- as it was, if the call is refused
  pub kept : (f : Refusal) → a ≡ refused f → out' ≡ out
  -- "Bytes beyond those written keep their content."
  pub beyond : (r : Answer) → a ≡ done r → (drop r.written out' ≡ drop r.written out) × (length out' ≡ length out)

-- ---- What was written ------------------------------------------------------------------------

-- A run over n options answers r and leaves out' in the output that held `out`, where the paper defines `text` and c covered words.
pub record Gets (n c : ℕ) (text out : List ℕ) (r : Answer) (out' : List ℕ) : Type 0 where
  -- the written bytes are the text's, as many as there is room for
  pub bytes : take r.written out' ≡ take (length out) text
  pub count : r.written ≡ min (length out) (length text)
  pub covers : r.covered ≡ c
  pub ending : r.ending ≡ ending_of n c text out

-- a is a value that the stream x may have on the word w: what it decides there; where it decides nothing, either
abbrev pub Value : ℕ → List ℕ → ℕ → Bool → Type 0
Value n x w a = (d : Bool) → decision n x w ≡ decided d → a ≡ d

-- The word w is settled, and d is what the operator decides from the two streams: "its digit 2a + b for the decisions a, b of the two input streams on
-- that word"; document 02, R-3: "one result for all values of what an input doesn't cover".
abbrev pub Operated : ℕ → ℕ → List ℕ → List ℕ → ℕ → Bool → Type 0
Operated n op x y w d = (a b : Bool) → Value n x w a → Value n y w b → operate op (a ∷ b ∷ []) ≡ d

-- c is the covered count of a run: "the least word that is not settled, or 2^n"
pub record Covers (n op : ℕ) (x y : List ℕ) (c : ℕ) : Type 0 where
  pub most : c ≤ 2 ^ n
  pub settled : (w : ℕ) → w < c → (d : Bool) × Operated n op x y w d
  pub unsettled : c < 2 ^ n → (d : Bool) → Operated n op x y c d → ⊥

-- The bytes, read with n options, cover at most c words and decide each word w that they cover, with a d that is Right there.
pub record ReadAs (n c : ℕ) (Right : ℕ → Bool → Type 0) (bytes : List ℕ) : Type 0 where
  -- they are accepted
  pub accepted : (reading n bytes).fault ≡ none
  pub within : covered n bytes ≤ c
  pub decides : (w : ℕ) → w < covered n bytes → (d : Bool) × (decision n bytes w ≡ decided d) × Right w d

-- The bytes have come to the point, and cover every word.
abbrev pub Complete : ℕ → List ℕ → Type 0
Complete n bytes = ((reading n bytes).state.place.context ≡ over) × (covered n bytes ≡ 2 ^ n)

-- ---- The next admitted word (document 02, R-1) -----------------------------------------------

-- The stream x decides each word from w on, below v, and with no.
abbrev pub DecidedNo : ℕ → List ℕ → ℕ → ℕ → Type 0
DecidedNo n x w v = (u : ℕ) → w ≤ u → u < v → decision n x u ≡ decided false

-- What an answer to the word w says: "the least admitted word not below w"; "none", all words being covered and none from w on admitted;
-- "not known", some word not being covered and no covered one from w on admitted.
abbrev pub NextIs : ℕ → List ℕ → ℕ → NextWord → Type 0
NextIs n x w (word v) = (w ≤ v) × (v < covered n x) × (decision n x v ≡ decided true) × DecidedNo n x w v
NextIs n x w no_word = (covered n x ≡ 2 ^ n) × DecidedNo n x w (2 ^ n)
NextIs n x w not_known = (covered n x < 2 ^ n) × DecidedNo n x w (covered n x)

-- A call for the word w, with whatever work table, answers r.
pub record Answers {R : Type 0} (z : R) (n : ℕ) (x : List ℕ) (w : ℕ) (r : NextWord) : Type 0 where
  pub table : List R
  pub call : Read NextWord R
  pub made : FindsNext z n x w table call
  pub gives : call.answer ≡ done r

-- "Listing" from w on gives these words: a call for w gives the first, and listing goes on one past it; it ends past the last word, and where a call
-- answers none or not known.
abbrev pub Lists : {R : Type 0} → R → ℕ → List ℕ → ℕ → List ℕ → Type 0
Lists z n x w [] = (2 ^ n ≤ w) ⊎ (Answers z n x w no_word ⊎ Answers z n x w not_known)
Lists z n x w (v ∷ vs) = Answers z n x w (word v) × Lists z n x (v + 1) vs

-- Each word is below all that come after it.
abbrev pub RisingWords : List ℕ → Type 0
RisingWords [] = Unit {0}
RisingWords (v ∷ vs) = All (λ u. v < u) vs × RisingWords vs
