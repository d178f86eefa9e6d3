-- The demands on runs, by computation: their premises are met, and what they say is what document 01 says there. The run is its program's example,
-- the OR of two rules over three options with table size 4. Assumes nothing.
use Rattle.std.specs.Prelude.{◌≡◌, refl, ◌⊎◌, ◌↔◌, true, List, [], ◌∷◌, map, ℕ, ◌+◌, ◌<◌, take, replicate}
use Rattle.std.proofs.Common.{inl, inr, arith}
use Rattle.theory_lists.specs.Lists.{has}
use Rattle.theory_reading.specs.Limits.{option_limit, table_limit}
use Rattle.theory_reading.specs.Bytes.{text}
use Rattle.theory_reading.specs.Causes.{option_count, operator_code, size_to_write, word_range, truth_table, not_in_table, too_deep, refused, done, refusal}
use Rattle.theory_reading.specs.Reading.{reading}
use Rattle.theory_reading.specs.Deciding.{decided, decision}
use Rattle.theory_reading.specs.Calls.{complete, cut, check, is_no, is_yes, decide, NextWord, word, not_known, find_next, fill}
use Rattle.theory_reading.specs.Covered.{covered}
use Rattle.theory_writing.specs.Run.{whole, input_ended, output_full}
use Rattle.theory_writing.specs.Calls.{write, Combine, combine}
use Rattle.claims.specs.Terms.{First, AllUnmet, combine_lines, Operated, Covers, ReadAs, Complete, NextIs, Answers, Lists, RisingWords}
use Rattle.claims.specs.Claims.{Together}
use Rattle.claims.proofs.Claims.{demand-1, demand-2, demand-3, request-1, request-3}

-- a work table of as many records as are asked for, which are numbers here; all held 7, and zero is 0
abbrev table : List ℕ
table = replicate table_limit 7

abbrev zeros : List ℕ
zeros = replicate table_limit 0

-- the two rules, and an output of 28 bytes
abbrev first : List ℕ
unfolding text
first = text "4\n(0(0~0):1):2."

abbrev second : List ℕ
unfolding text
second = text "4\n(((0~0):1))."

abbrev output : List ℕ
unfolding text
output = text "............................"

abbrev run : ℕ → List ℕ → List ℕ → List ℕ → Combine ℕ ℕ
unfolding combine
run op x y out = combine 0 0 3 op 4 x y out table table table

-- ---- Demand 1 --------------------------------------------------------------------------------

-- number 1 is not in the table: cause 10 at byte 3 of stream 2; the output is as it was, and every record zero
faulty-second : run 14 first (text "4\n(1).") output ≡ record {
  answer = refused (refusal not_in_table 2 3);
  first = zeros;
  second = zeros;
  third = zeros;
  output = output;
}
unfolding combine text
faulty-second = refl

-- stream 1 comes first: cause 9 at its byte 5
faulty-both : (run 14 (text "4\n((((") (text "4\n(1).") output).answer ≡ refused (refusal too_deep 1 5)
unfolding combine text
faulty-both = refl

-- demand 1 of this call: what it is refused with is what the first line that is met returns
faulty-first : First (combine_lines 3 14 4 (text "4\n((((") (text "4\n(1).") table_limit table_limit table_limit) (refusal too_deep 1 5)
unfolding combine text
faulty-first = (((demand-1 {R = ℕ} {S = ℕ} 0 0).combine-refused 3 14 4 (text "4\n((((") (text "4\n(1).") output table table table _ refl).exactly _).0
    refl

-- an operator above 15 comes before the streams, and all is as it was
no-operator : run 16 (text "4\n((((") second output ≡ record {
  answer = refused (refusal operator_code 0 0);
  first = table;
  second = table;
  third = table;
  output = output;
}
unfolding combine text
no-operator = refl

-- the other calls: an option too many, word 8 of 8, a truth table of two bytes for three options, a size too large
many-options : check 0 (option_limit + 1) first table ≡ record { answer = refused (refusal option_count 0 0); table = table }
unfolding check
many-options = refl

word-eight : decide 0 3 first 8 table ≡ record { answer = refused (refusal word_range 0 0); table = table }
unfolding decide text
word-eight = refl

word-eight-next : find_next 0 3 first 8 table ≡ record { answer = refused (refusal word_range 0 0); table = table }
unfolding find_next text
word-eight-next = refl

two_bytes : fill 0 3 first (1 ∷ 2 ∷ []) table ≡ record { answer = refused (refusal truth_table 0 0); table = table; truths = 1 ∷ 2 ∷ [] }
unfolding fill text
two_bytes = refl

large-size : write 0 3 (table_limit + 1) (232 ∷ []) output table ≡ record
    { answer = refused (refusal size_to_write 0 0); table = table; output = output }
unfolding write text
large-size = refl

-- ---- Demand 2 --------------------------------------------------------------------------------

-- the run of the paper, whole; the bytes beyond those written keep their content
combined : run 14 first second output ≡ record {
  answer = done (record { written = 23; covered = 8; ending = whole });
  first = zeros;
  second = zeros;
  third = zeros;
  output = text "4\n(((0~0):1)(1~0):2):3......";
}
unfolding combine text
combined = refl

-- its written bytes are accepted, complete, and decide each word as OR does
abbrev written : List ℕ
unfolding combine text
written = take 23 (run 14 first second output).output

combined-checked : (check 0 3 written table).answer ≡ done (record { size = 4; covered = 8; extent = complete })
unfolding combine check text
combined-checked = refl

combined-decided : map (λ w. (decide 0 3 written w table).answer) (0 ∷ 1 ∷ 2 ∷ 3 ∷ 4 ∷ 5 ∷ 6 ∷ 7 ∷ [])
    ≡ map done (is_no ∷ is_yes ∷ is_no ∷ is_yes ∷ is_no ∷ is_yes ∷ is_yes ∷ is_yes ∷ [])
unfolding combine decide text
combined-decided = refl

-- demand 2 of this run, and demand 1: it meets no cause
combined-read : ReadAs 3 8 (Operated 3 14 first second) written
unfolding combine text
combined-read = (demand-2 {R = ℕ} {S = ℕ} 0 0).combining-read 3 14 4 first second output table table table _ _ refl refl

combined-complete : Complete 3 written
unfolding combine text
combined-complete = (demand-2 {R = ℕ} {S = ℕ} 0 0).combining-whole 3 14 4 first second output table table table _ _ refl refl refl

combined-unmet : AllUnmet (combine_lines 3 14 4 first second table_limit table_limit table_limit)
unfolding combine text
combined-unmet = ((demand-1 {R = ℕ} {S = ℕ} 0 0).combine-refused 3 14 4 first second output table table table _ refl).unless.0 (_, refl)

-- an output that is too short gets the first bytes, which are accepted and cover two words
combined-short : (run 14 first second (text "...........")).answer ≡ done (record { written = 11; covered = 8; ending = output_full })
unfolding combine text
combined-short = refl

short-checked : (check 0 3 (run 14 first second (text "...........")).output table).answer ≡ done (record { size = 4; covered = 2; extent = cut })
unfolding combine check text
short-checked = refl

-- two or more set, written from a truth table, and filled from what was written
majority : write 0 3 4 (232 ∷ []) output table ≡ record {
  answer = done (record { written = 26; covered = 8; ending = whole });
  table = zeros;
  output = text "4\n((0(0~0):1):2(1~0):3):4...";
}
unfolding write text
majority = refl

majority-filled : fill 0 3 (text "4\n((0(0~0):1):2(1~0):3):4.") (0 ∷ []) table ≡ record { answer = done 8; table = zeros; truths = 232 ∷ [] }
unfolding fill text
majority-filled = refl

-- ---- Demand 3 --------------------------------------------------------------------------------

-- the second rule cut after 12 bytes: four words are covered, and the released text ends with the node stored under 1
abbrev begun : List ℕ
unfolding text
begun = text "4\n(((0~0):1)"

abbrev rest : List ℕ
unfolding text
rest = text ")."

begun-run : (run 14 first begun (text "............")).answer ≡ done (record { written = 11; covered = 4; ending = input_ended })
unfolding combine text
begun-run = refl

-- its written bytes decide the words 0 and 1
begun-covered : covered 3 (take 11 (run 14 first begun (text "............")).output) ≡ 2
unfolding combine reading text
begun-covered = refl

-- THE PAIR: demand 3 of this run and the run of the paper
begun-combined : Together 3 14 first begun first second
    (record { written = 11; covered = 4; ending = input_ended }) (record { written = 23; covered = 8; ending = whole })
    (text "4\n(((0~0):1") (text "4\n(((0~0):1)(1~0):2):3.")
unfolding combine text
begun-combined = (demand-3 {R = ℕ} {S = ℕ} 0 0).runs 3 14 4 first begun [] rest (text "............") output
    table table table table table table _ _ _ _ refl refl (omega arith) refl refl

-- ---- Document 02, R-1 ------------------------------------------------------------------------

-- what the OR admits, from each word on; and demand 2 of the call for word 2
combined-next : map (λ w. (find_next 0 3 written w table).answer) (0 ∷ 1 ∷ 2 ∷ 3 ∷ 4 ∷ 5 ∷ 6 ∷ 7 ∷ [])
    ≡ map (λ v. done (word v)) (1 ∷ 1 ∷ 3 ∷ 3 ∷ 5 ∷ 5 ∷ 6 ∷ 7 ∷ [])
unfolding combine find_next text
combined-next = refl

combined-found : NextIs 3 written 2 (word 3)
unfolding combine find_next text
combined-found = (demand-2 {R = ℕ} {S = ℕ} 0 0).finding 3 written 2 table _ _ refl refl

-- a call with this work table
ask : (x : List ℕ) (w : ℕ) (r : NextWord) → (find_next 0 3 x w table).answer ≡ done r → Answers {R = ℕ} 0 3 x w r
ask x w r e = record { table = table; call = find_next 0 3 x w table; made = refl; gives = e }

abbrev admitted : List ℕ
admitted = 1 ∷ 3 ∷ 5 ∷ 6 ∷ 7 ∷ []

-- LISTING the OR ends past the last word
combined-lists : Lists {R = ℕ} 0 3 written 0 admitted
unfolding combine find_next text
combined-lists = (
  ask written 0 _ refl,
  (ask written 2 _ refl, (ask written 4 _ refl, (ask written 6 _ refl, (ask written 7 _ refl, inl (omega arith))))),
)

-- so these words rise, and are those that it admits
combined-rises : RisingWords admitted
combined-rises = (request-1 {R = ℕ} 0).listing-rises 3 written admitted combined-lists

combined-words : (v : ℕ) → (has v admitted ≡ true) ↔ ((v < covered 3 written) × (decision 3 written v ≡ decided true))
combined-words = (request-1 {R = ℕ} 0).listing-words 3 written admitted combined-lists

-- the second rule cut after 12 bytes covers four words: listing ends where a call answers not known
begun-lists : Lists {R = ℕ} 0 3 begun 0 (1 ∷ 3 ∷ [])
unfolding find_next text
begun-lists = (ask begun 0 _ refl, (ask begun 2 _ refl, inr (inr (ask begun 4 _ refl))))

begun-words : (v : ℕ) → (has v (1 ∷ 3 ∷ []) ≡ true) ↔ ((v < covered 3 begun) × (decision 3 begun v ≡ decided true))
begun-words = (request-1 {R = ℕ} 0).listing-words 3 begun (1 ∷ 3 ∷ []) begun-lists

-- THE PAIR: with the rest the word 3 stands for 2, and what was not known from 4 on is 5
begun-next : map (λ x. (find_next 0 3 x 2 table).answer) (begun ∷ second ∷ []) ≡ done (word 3) ∷ done (word 3) ∷ []
unfolding find_next text
begun-next = refl

begun-not-known : map (λ x. (find_next 0 3 x 4 table).answer) (begun ∷ second ∷ []) ≡ done not_known ∷ done (word 5) ∷ []
unfolding find_next text
begun-not-known = refl

begun-lengthened : (word 3 ≡ not_known) ⊎ (word 3 ≡ word 3)
unfolding find_next text
begun-lengthened = (request-1 {R = ℕ} 0).lengthening 3 begun rest 2 table table _ _ _ _ refl refl refl refl

-- ---- Document 02, R-3 ------------------------------------------------------------------------

-- the AND of the first rule, which refuses words 0 to 5, and the second cut after four words: words 4 and 5 are settled, word 6 is not
settled-run : (run 8 first begun (text "....")).answer ≡ done (record { written = 2; covered = 6; ending = input_ended })
unfolding combine text
settled-run = refl

settled-count : Covers 3 8 first begun 6
unfolding combine text
settled-count = (request-3 {R = ℕ} {S = ℕ} 0 0).covered-count 3 8 4 first begun (text "....") table table table _ _ refl refl

-- THE PAIR: with the rest of the second rule the AND is whole
settled-combined : Together 3 8 first begun first second
    (record { written = 2; covered = 6; ending = input_ended }) (record { written = 20; covered = 8; ending = whole })
    (text "4\n") (text "4\n(0(0(0~0):1):2):3.")
unfolding combine text
settled-combined = (demand-3 {R = ℕ} {S = ℕ} 0 0).runs 3 8 4 first begun [] rest (text "....") output
    table table table table table table _ _ _ _ refl refl (omega arith) refl refl

-- of the OR with a first rule that is cut before its first word the words 1 and 3 are settled, and word 0 is not
open-run : (run 14 [] second (text "....")).answer ≡ done (record { written = 2; covered = 0; ending = input_ended })
unfolding combine text
open-run = refl
