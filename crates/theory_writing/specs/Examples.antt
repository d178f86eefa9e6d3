-- Written streams computed, beside those of `PaperCases`: document 01's example of a program, and rows that tell the definitions from near misses of
-- them (the edits in must-fail/ and edits/ each break one).
use Rattle.std.specs.Prelude.{◌≡◌, refl, Bool, true, false, cond, ◌&&◌, [], ◌∷◌, ℕ, zero, suc, ◌+◌, ◌/◌, ◌%◌, ◌^◌, leb, ltb, eqb}
use Rattle.theory_reading.specs.Limits.{table_limit}
use Rattle.theory_reading.specs.Bytes.{text}
use Rattle.theory_reading.specs.Causes.{operator_code, size_to_write, wrong_byte, not_in_table, refused, done, refusal}
use Rattle.theory_reading.specs.Deciding.{undecided, decided}
use Rattle.theory_writing.specs.UniqueTable.{start}
use Rattle.theory_writing.specs.Rules.{Text, number, one, two, part}
use Rattle.theory_writing.specs.Run.{digit_at, operate, Input, run_covered, run_text, run_of, output_after, whole, input_ended, output_full, answer_of}
use Rattle.theory_writing.specs.Calls.{write_answer, combine_answer}

-- binary digit w of x: the decision at word w
abbrev by_number : ℕ → ℕ → Bool
by_number x w = eqb (x / 2 ^ w % 2) 1

-- ---- The queue -------------------------------------------------------------------------------

-- Numbers 1 and 2 wait in this order, so the third node gets 1.
oldest-first : run_text 4 2 16 (by_number 44272) ≡ text "2\n((0~0):1((0~0):2((0~0):1)))."
unfolding run_text text
oldest-first = refl

-- When 4 is reused its old children 2 and 3 both lose their last parent, first child first: the last node gets 2.
first-child-first : run_text 4 4 16 (by_number 8264) ≡ text "4\n(((0(0~0):1):2(0~1):3):4(0(1 0):4):2)."
unfolding run_text text
first-child-first = refl

-- When 2 is reused its old child 1 joins the queue and leaves it again as the new node's child: none is left for the last node.
children-leave-after : run_text 4 2 16 (by_number 8202) ≡ text "2\n((((0~0):1)0):2(0(1 0):2))."
unfolding run_text text
children-leave-after = refl

-- "Looking up moves nothing": 2 is found again and stays before 3 in the queue.
looking-up : run_text 4 3 16 (by_number 10312) ≡ text "3\n(((0(0~0):1):2(0~1):3)(2(1 0):2))."
unfolding run_text text
looking-up = refl

-- ---- The release of a cut run ----------------------------------------------------------------

cut-before : run_text 3 4 3 (by_number 232) ≡ text "4\n"
unfolding run_text text
cut-before = refl

cut-at : run_text 3 4 4 (by_number 232) ≡ text "4\n((0(0~0):1):2"
unfolding run_text text
cut-at = refl

cut-after : run_text 3 4 7 (by_number 232) ≡ text "4\n((0(0~0):1):2"
unfolding run_text text
cut-after = refl

-- The `)` of an `(A)` around the node is not released with it; a leading `~` is.
cut_inside : run_text 3 4 4 (by_number 85) ≡ text "4\n~(((0~0):1"
unfolding run_text text
cut_inside = refl

-- all words covered, with the point
covered_whole : run_text 3 4 8 (by_number 85) ≡ text "4\n~(((0~0):1))."
unfolding run_text text
covered_whole = refl

-- ---- Runs over inputs ------------------------------------------------------------------------

-- an input that covers c words
abbrev input : ℕ → ℕ → Input
input c x w = cond (ltb w c) (decided (by_number x w)) undecided

-- the example of document 01's program: OR of `(0(0~0):1):2` and `(((0~0):1))`
combined-whole : run_of (operate 14) 3 4 (input 8 192 ∷ input 8 170 ∷ []) ≡ text "4\n(((0~0):1)(1~0):2):3."
unfolding run_of operate text
combined-whole = refl

-- OR: the first refuses word 5, which the second does not cover
combined-cut : run_of (operate 14) 3 4 (input 8 192 ∷ input 5 170 ∷ []) ≡ text "4\n(((0~0):1"
unfolding run_of operate text
combined-cut = refl

-- ---- Words that one rule settles alone (document 02, R-3) ------------------------------------

-- AND 8 of an input that refuses words 0 to 5, beside one that covers nothing: they are settled, and word 6 is not.
refused-settles : run_covered (operate 8) 3 (input 8 192 ∷ input 0 0 ∷ []) ≡ 6
unfolding run_covered operate
refused-settles = refl

-- OR 14 of the same: word 0 is not settled
admitted-settles : run_covered (operate 14) 3 (input 8 192 ∷ input 0 0 ∷ []) ≡ 0
unfolding run_covered operate
admitted-settles = refl

-- OR of one that admits words 0 to 5
others-settled : run_covered (operate 14) 3 (input 8 63 ∷ input 2 0 ∷ []) ≡ 6
unfolding run_covered operate
others-settled = refl

-- "the least word": words 1 to 7 are settled, and do not count
later-settled : run_covered (operate 8) 3 (input 8 1 ∷ input 0 0 ∷ []) ≡ 0
unfolding run_covered operate
later-settled = refl

-- of three inputs, a AND b AND c: one that refuses is enough
three-settled : run_covered (operate 128) 2 (input 0 0 ∷ input 3 0 ∷ input 1 1 ∷ []) ≡ 3
unfolding run_covered operate
three-settled = refl

-- the text follows the count: the first refuses words 2 to 6, which the second does not cover, and the node of words 0 to 3 is released
settled-text : run_of (operate 8) 3 4 (input 8 130 ∷ input 2 2 ∷ []) ≡ text "4\n(((0~0):1 0):2"
unfolding run_of operate text
settled-text = refl

-- BUT 4: "decisions a, b give binary digit 2a + b", here digit 2
first-but-not-second : operate 4 (true ∷ false ∷ []) ≡ true
unfolding operate
first-but-not-second = refl

-- of three decisions a, b, c: 4a + 2b + c
three-decisions : digit_at (true ∷ true ∷ false ∷ []) ≡ 6
unfolding digit_at
three-decisions = refl

-- ---- Turned down -----------------------------------------------------------------------------

-- an operator above 15 comes before a size above the table limit, and both before the work tables
operator-first : combine_answer 3 16 (table_limit + 1) ([] ∷ [] ∷ []) [] (0 ∷ 0 ∷ 0 ∷ []) ≡ refused (refusal operator_code 0 0)
unfolding combine_answer
operator-first = refl

-- document 02, R-2: "a size of 768 is taken while 769 is not", from a truth table and from streams
largest-written : write_answer 3 768 (255 ∷ []) (text ".......") 768 ≡ done (record { written = 7; covered = 8; ending = whole })
unfolding write_answer text
largest-written = refl

above-written : write_answer 3 769 (255 ∷ []) (text ".......") 768 ≡ refused (refusal size_to_write 0 0)
unfolding write_answer text
above-written = refl

largest-combined : combine_answer 0 14 768 (text "0\n0." ∷ text "0\n~0." ∷ []) (text ".......") (768 ∷ 768 ∷ 768 ∷ [])
    ≡ done (record { written = 7; covered = 1; ending = whole })
unfolding combine_answer text
largest-combined = refl

above-combined : combine_answer 0 14 769 (text "0\n0." ∷ text "0\n~0." ∷ []) (text ".......") (768 ∷ 768 ∷ 768 ∷ [])
    ≡ refused (refusal size_to_write 0 0)
unfolding combine_answer text
above-combined = refl

-- document 02, R-3, as settled: "Inputs vary independently where they are not covered, also if they are the same bytes": XOR 6 of `0/(0` with itself
same_bytes_lem : combine_answer 2 6 0 (text "0\n(0" ∷ text "0\n(0" ∷ []) (text "..") (table_limit ∷ table_limit ∷ table_limit ∷ [])
    ≡ done (record { written = 2; covered = 2; ending = input_ended })
unfolding combine_answer text
same_bytes_lem = refl

-- "Cut inputs may give 'whole': operators 0 and 15 on two empty streams do."
none-asked : combine_answer 2 15 0 ([] ∷ [] ∷ []) (text ".....") (table_limit ∷ table_limit ∷ table_limit ∷ [])
    ≡ done (record { written = 5; covered = 4; ending = whole })
unfolding combine_answer text
none-asked = refl

-- "NOT (3, of the first) never waits for stream 2, but a fault in stream 2 is still given."
second-not-asked : combine_answer 1 3 0 (text "0\n(0~0)." ∷ [] ∷ []) (text "..........") (table_limit ∷ table_limit ∷ table_limit ∷ [])
    ≡ done (record { written = 9; covered = 2; ending = whole })
unfolding combine_answer text
second-not-asked = refl

second-not-asked-faulty : combine_answer 1 3 0 (text "0\n(0~0)." ∷ text "0\n)" ∷ []) [] (table_limit ∷ table_limit ∷ table_limit ∷ [])
    ≡ refused (refusal wrong_byte 2 2)
unfolding combine_answer text
second-not-asked-faulty = refl

-- number 1 is not in the table of stream 2
second-stream : combine_answer 3 14 4 (text "4\n(0(0~0):1):2." ∷ text "4\n(1)." ∷ []) [] (table_limit ∷ table_limit ∷ table_limit ∷ [])
    ≡ refused (refusal not_in_table 2 3)
unfolding combine_answer text
second-stream = refl

-- ---- The output ------------------------------------------------------------------------------

output-kept : output_after (text "0\n0.") (text "......") ≡ text "0\n0..."
unfolding output_after text
output-kept = refl

output-short : output_after (text "1\n(0~0):1.") (text "....") ≡ text "1\n(0"
unfolding output_after text
output-short = refl

answer-whole : answer_of 0 1 (text "0\n0.") (text "....") ≡ record { written = 4; covered = 1; ending = whole }
unfolding answer_of text
answer-whole = refl

answer-cut : answer_of 3 4 (text "4\n((0(0~0):1):2") (text "................") ≡ record { written = 15; covered = 4; ending = input_ended }
unfolding answer_of text
answer-cut = refl

answer-full : answer_of 0 1 (text "0\n0.") (text "...") ≡ record { written = 3; covered = 1; ending = output_full }
unfolding answer_of text
answer-full = refl

-- ---- Nine options, three to six set ----------------------------------------------------------

abbrev ones : ℕ → ℕ → ℕ
ones zero w = 0
ones (suc m) w = w % 2 + ones m (w / 2)

abbrev three_to_six : ℕ → Bool
three_to_six w = leb 3 (ones 9 w) && leb (ones 9 w) 6

-- two-child nodes written out
nodes_in : Text → ℕ
nodes_in (number k) = 0
nodes_in (one x) = nodes_in x
nodes_in (two x t y k) = suc (nodes_in x + nodes_in y)

-- "9sym" [...] "with 24 nodes at size 24"
nine-options : nodes_in (part 24 9 1 0 three_to_six start).part.text ≡ 24
unfolding nodes_in part
nine-options = refl
