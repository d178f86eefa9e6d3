-- The program `join` (document 01, "Program"): its output as a function of its input. Assumes nothing.
use Rattle.std.specs.Prelude.{Bool, true, false, cond, ◌&&◌, ◌||◌, List, [], ◌∷◌, ◌++◌, ℕ, ◌+◌, ◌*◌, ◌-◌, ◌^◌, ltb, eqb, length, take, replicate}
use Rattle.std.proofs.Math.Option.{Option, none, some}
use Prim.Native.String.{String}
use Rattle.theory_reading.specs.Limits.{table_limit}
use Rattle.theory_reading.specs.Bytes.{blank, line_feed, digit_zero, is_digit, text}
use Rattle.theory_reading.specs.Causes.{cause_row, Result, refused, done}
use Rattle.theory_writing.specs.Texts.{decimal}
use Rattle.theory_writing.specs.Run.{Ending, whole, input_ended, output_full, Answer}
use Rattle.theory_writing.specs.Calls.{Combine, combine}

-- "at most 65,536 bytes"; "The output lent is 65,536 bytes."
abbrev pub job_limit : ℕ
job_limit = 65536

-- ---- The job ---------------------------------------------------------------------------------

-- the pieces between the bytes c
abbrev pub onto : ℕ → List (List ℕ) → List (List ℕ)
onto b [] = (b ∷ []) ∷ []
onto b (l ∷ ls) = (b ∷ l) ∷ ls

unfoldable pub pieces : ℕ → List ℕ → List (List ℕ)
pieces c [] = [] ∷ []
pieces c (b ∷ bs) = cond (eqb b c) ([] ∷ pieces c bs) (onto b (pieces c bs))

unfoldable pub same_bytes : List ℕ → List ℕ → Bool
same_bytes [] [] = true
same_bytes [] (y ∷ ys) = false
same_bytes (x ∷ xs) [] = false
same_bytes (x ∷ xs) (y ∷ ys) = eqb x y && same_bytes xs ys

pub record Named : Type 0 where
  pub name : String
  pub op : ℕ

abbrev pub named : String → ℕ → Named
named x k = record { name = x; op = k }

-- "The named operators are NOR 1, NOT 3 (of the first), BUT 4, XOR 6, NAND 7, AND 8, XNOR 9, OR 14."
abbrev pub operator_names : List Named
operator_names = named "NOR" 1 ∷ named "NOT" 3 ∷ named "BUT" 4 ∷ named "XOR" 6 ∷ named "NAND" 7 ∷ named "AND" 8 ∷ named "XNOR" 9 ∷ named "OR" 14 ∷ []

unfoldable pub operator_of : List Named → List ℕ → Option ℕ
unfolding same_bytes text
operator_of [] x = none
operator_of (o ∷ os) x = elim (same_bytes (text o.name) x) [ true ↦ some o.op | false ↦ operator_of os x ]

unfoldable pub value_on : ℕ → List ℕ → Option ℕ
unfolding is_digit
value_on v [] = some v
value_on v (b ∷ bs) = elim (is_digit b) [ true ↦ value_on (v * 10 + (b - digit_zero)) bs | false ↦ none ]

-- "each number 1 to 4 digits without leading zero"
unfoldable pub number_of : List ℕ → Option ℕ
unfolding value_on
number_of [] = none
number_of (b ∷ bs) = elim (ltb 3 (length bs) || (eqb b digit_zero && ltb 0 (length bs))) [ true ↦ none | false ↦ value_on 0 (b ∷ bs) ]

pub record Job : Type 0 where
  pub n : ℕ
  pub op : ℕ
  pub size : ℕ
  pub stream₁ : List ℕ
  pub stream₂ : List ℕ

-- "Line 1 is n, operator name, size, one space between": its three fields
abbrev pub fields : List ℕ → List ℕ → Option ℕ → Option ℕ → Option ℕ → Option Job
fields x y none o z = none
fields x y (some n) none z = none
fields x y (some n) (some o) none = none
fields x y (some n) (some o) (some z) = some (record { n = n; op = o; size = z; stream₁ = x; stream₂ = y })

abbrev pub first_line : List ℕ → List ℕ → List (List ℕ) → Option Job
first_line x y [] = none
first_line x y (a ∷ []) = none
first_line x y (a ∷ b ∷ []) = none
first_line x y (a ∷ b ∷ c ∷ []) = fields x y (number_of a) (operator_of operator_names b) (number_of c)
first_line x y (a ∷ b ∷ c ∷ d ∷ ls) = none

-- "Lines 2 and 3 with the LF between them are stream 1; lines 4 and 5 are stream 2."
abbrev pub job_of : List ℕ → List ℕ → List ℕ → List ℕ → List ℕ → Option Job
job_of a b c d e = first_line (b ++ (line_feed ∷ c)) (d ++ (line_feed ∷ e)) (pieces blank a)

-- "five lines: four LFs, and a fifth only as the last byte"
abbrev pub five_lines : List (List ℕ) → Option Job
five_lines [] = none
five_lines (a ∷ []) = none
five_lines (a ∷ b ∷ []) = none
five_lines (a ∷ b ∷ c ∷ []) = none
five_lines (a ∷ b ∷ c ∷ d ∷ []) = none
five_lines (a ∷ b ∷ c ∷ d ∷ e ∷ []) = job_of a b c d e
five_lines (a ∷ b ∷ c ∷ d ∷ e ∷ [] ∷ []) = job_of a b c d e
five_lines (a ∷ b ∷ c ∷ d ∷ e ∷ (f ∷ fs) ∷ []) = none
five_lines (a ∷ b ∷ c ∷ d ∷ e ∷ [] ∷ g ∷ ls) = none
five_lines (a ∷ b ∷ c ∷ d ∷ e ∷ (f ∷ fs) ∷ g ∷ ls) = none

-- ---- The report ------------------------------------------------------------------------------

abbrev pub ending_name : Ending → String
ending_name whole = "whole"
ending_name input_ended = "input ended"
ending_name output_full = "output full"

-- "one space between fields, LF at the end"
unfoldable pub line : List (List ℕ) → List ℕ
line [] = line_feed ∷ []
line (x ∷ []) = x ++ (line_feed ∷ [])
line (x ∷ y ∷ zs) = x ++ (blank ∷ line (y ∷ zs))

-- "A refusal prints only `refused`, number, stream, byte"; else "the bytes written and LF, then covered words, all words and the ending"
unfoldable pub report : ℕ → Result Answer → List ℕ → List ℕ
unfolding decimal text line
report n (refused r) output = line (text "refused" ∷ decimal (cause_row r.cause).number ∷ decimal r.stream ∷ decimal r.byte ∷ [])
report n (done a) output =
    take a.written output ++ (line_feed ∷ line (text "words" ∷ decimal a.covered ∷ text "of" ∷ decimal (2 ^ n) ∷ text (ending_name a.ending)
    ∷ []))

-- "a malformed first line, another number of lines or longer input prints `bad job`"
unfoldable pub bad_job : List ℕ
unfolding text line
bad_job = line (text "bad job" ∷ [])

-- The call that a job makes: with tables of as many records as the limit, and an output of 65,536 bytes; what they hold before is free.
unfoldable pub called : Job → Combine ℕ ℕ
unfolding combine
called j =
    let table : List ℕ = replicate table_limit 0 in
    combine 0 0 j.n j.op j.size j.stream₁ j.stream₂ (replicate job_limit 0) table table table

unfoldable pub answered : Option Job → List ℕ
unfolding called report bad_job
answered none = bad_job
answered (some j) = let c = called j in report j.n c.answer c.output

-- THE PROGRAM: its output.
unfoldable pub join : List ℕ → List ℕ
unfolding answered bad_job pieces number_of operator_of
join input = elim (ltb job_limit (length input)) [ true ↦ bad_job | false ↦ answered (five_lines (pieces line_feed input)) ]
