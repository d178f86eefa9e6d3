-- Readings of documents 01 and 02 that are settled (docs/DECISIONS.md), each on a stream, by computation: a wrong definition fails here. Assumes nothing.
use Rattle.std.specs.Prelude.{◌≡◌, refl, [], ℕ, ◌+◌}
use Prim.Native.String.{String}
use Rattle.theory_reading.specs.Limits.{option_limit, table_limit}
use Rattle.theory_reading.specs.Bytes.{text}
use Rattle.theory_reading.specs.Causes.{Cause, option_count, work_table, word_range, wrong_byte, declared_size, not_in_table, other_level, not_storable, bad_number}
use Rattle.theory_reading.specs.Causes.{Result, refused, done, refusal}
use Rattle.theory_reading.specs.Calls.{Checked, Extent, cut, check_answer, Verdict, is_no, is_yes, not_yet, decide_answer}
use Rattle.theory_reading.specs.Calls.{NextWord, word, no_word, not_known, find_answer}

abbrev checks : ℕ → String → Result Checked
unfolding check_answer text
checks n s = check_answer n (text s) table_limit

abbrev decides : ℕ → String → ℕ → Result Verdict
unfolding decide_answer text
decides n s w = decide_answer n (text s) w table_limit

abbrev finds : ℕ → String → ℕ → Result NextWord
unfolding find_answer text
finds n s w = find_answer n (text s) w table_limit

abbrev accepts : ℕ → ℕ → Extent → Result Checked
accepts z c x = done (record { size = z; covered = c; extent = x })

abbrev rejects : Cause → ℕ → Result Checked
rejects c b = refused (refusal c 1 b)

-- ---- Places and ranks of faults --------------------------------------------------------------

-- too many options are named before a short work table
options-first : check_answer (option_limit + 1) [] 0 ≡ refused (refusal option_count 0 0)
unfolding check_answer
options-first = refl

-- a `:` that a child bars is cause 12 as soon as it is there, whatever follows it
barred-colon : checks 2 "1\n((0~0)0):" ≡ rejects not_storable 10
unfolding check_answer text
barred-colon = refl

barred-colon-more : checks 2 "1\n((0~0)0):x" ≡ rejects not_storable 10
unfolding check_answer text
barred-colon-more = refl

-- `(A)` stands for A's number wherever children are meant
own-child : checks 3 "2\n(((0~0):1)~0):1." ≡ rejects bad_number 16
unfolding check_answer text
own-child = refl

-- a number followed by any byte but a digit is read, and its own fault is the lower place
number-first : checks 1 "1\n(1x" ≡ rejects not_in_table 3
unfolding check_answer text
number-first = refl

-- the size is read only with its LF
size-unread : checks 1 "2000x" ≡ rejects wrong_byte 4
unfolding check_answer text
size-unread = refl

size-read : checks 1 "2000\n" ≡ rejects declared_size 0
unfolding check_answer text
size-read = refl

leading-zero : checks 1 "02000\n" ≡ rejects wrong_byte 1
unfolding check_answer text
leading-zero = refl

-- a `0` to store is complete with that digit
stored-zero : checks 1 "1\n(0~0):01." ≡ rejects bad_number 8
unfolding check_answer text
stored-zero = refl

-- the space after a digit is never at fault itself: the byte after it is
space-closer : checks 1 "0\n(0 )" ≡ rejects wrong_byte 5
unfolding check_answer text
space-closer = refl

-- a bracket both out of place and too deep is cause 7
bracket-twice : checks 1 "0\n(0 (" ≡ rejects wrong_byte 5
unfolding check_answer text
bracket-twice = refl

-- the first digit of a number stands after its space
after-space : checks 2 "3\n((0~0):1 2)." ≡ rejects not_in_table 11
unfolding check_answer text
after-space = refl

wrong-level : checks 3 "3\n(((0~0):1~0):2 1)." ≡ rejects other_level 17
unfolding check_answer text
wrong-level = refl

-- ---- The table limit -------------------------------------------------------------------------

-- document 02, R-2: "a size of 768 is taken while 769 is not"
largest-declared : checks 0 "768\n0" ≡ accepts 768 1 cut
unfolding check_answer text
largest-declared = refl

above-declared : checks 0 "769\n0" ≡ rejects declared_size 0
unfolding check_answer text
above-declared = refl

-- and a work table has that many records
fewest-records : check_answer 0 (text "0\n0") 768 ≡ accepts 0 1 cut
unfolding check_answer text
fewest-records = refl

fewer-records : check_answer 0 (text "0\n0") 767 ≡ refused (refusal work_table 0 0)
unfolding check_answer text
fewer-records = refl

-- ---- Covered words ---------------------------------------------------------------------------

-- the `)` of an `(A)` passes the words of its second half
single-child : checks 2 "1\n((0~0):1)" ≡ accepts 1 4 cut
unfolding check_answer text
single-child = refl

-- all words covered but no point: cut
no-point : checks 0 "0\n0" ≡ accepts 0 1 cut
unfolding check_answer text
no-point = refl

-- a number at the end is not yet read, a `0` is
last-number : checks 2 "9\n((0~0):1 1" ≡ accepts 9 2 cut
unfolding check_answer text
last-number = refl

last-zero : checks 2 "9\n((0~0):1 0" ≡ accepts 9 4 cut
unfolding check_answer text
last-zero = refl

-- ---- Decisions -------------------------------------------------------------------------------

-- once for a leading `~` and once for each `(A~B)`
leading-tilde : decides 1 "1\n~(0~0):1." 0 ≡ done is_yes
unfolding decide_answer text
leading-tilde = refl

second-child : decides 1 "1\n~(0~0):1." 1 ≡ done is_no
unfolding decide_answer text
second-child = refl

past-covered : decides 1 "1\n(0~" 1 ≡ done not_yet
unfolding decide_answer text
past-covered = refl

-- ---- The next admitted word (document 02, R-1) -----------------------------------------------

-- "all words are covered" is about the covered count, not the point
all-refused : finds 1 "0\n0" 0 ≡ done no_word
unfolding find_answer text
all-refused = refl

half-refused : finds 1 "0\n(0" 0 ≡ done not_known
unfolding find_answer text
half-refused = refl

both-refused : finds 1 "0\n(0 0" 0 ≡ done no_word
unfolding find_answer text
both-refused = refl

-- of `(0~0)` word 1 is admitted, from 0 on and from itself on
found-above : finds 1 "1\n(0~0):1." 0 ≡ done (word 1)
unfolding find_answer text
found-above = refl

found-itself : finds 1 "1\n(0~0):1." 1 ≡ done (word 1)
unfolding find_answer text
found-itself = refl

-- and 0 alone of its complement
found_none : finds 1 "1\n~(0~0):1." 1 ≡ done no_word
unfolding find_answer text
found_none = refl

-- a word is found in what a cut stream covers
found_early : finds 2 "1\n~((0~0):1" 0 ≡ done (word 0)
unfolding find_answer text
found_early = refl

-- past what it covers nothing is known
not-known-past : finds 2 "1\n~((0~0):1" 1 ≡ done not_known
unfolding find_answer text
not-known-past = refl

-- a stored node may be constant
constant-node : finds 2 "2\n((0 0):1~1):2." 0 ≡ done (word 2)
unfolding find_answer text
constant-node = refl

-- a fault behind the answer is given
fault-behind : finds 1 "1\n~(0~0):1x" 0 ≡ refused (refusal wrong_byte 1 10)
unfolding find_answer text
fault-behind = refl

-- a word past the last, before the stream is looked at; a short work table before it
word-outside : finds 1 "x" 2 ≡ refused (refusal word_range 0 0)
unfolding find_answer text
word-outside = refl

table_before : find_answer 1 [] 2 0 ≡ refused (refusal work_table 0 0)
unfolding find_answer
table_before = refl
