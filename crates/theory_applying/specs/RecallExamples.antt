-- Runs computed: what is sent does not depend on how many rows the memo has, and in how few steps. Assumes nothing.
use Rattle.std.specs.Prelude.{◌≡◌, refl, Bool, true, false, cond, ◌&&◌, ◌||◌, List, [], ◌∷◌, ◌++◌, ℕ, zero, suc, ◌+◌, ◌-◌, take, replicate}
use Rattle.theory_lists.specs.Lists.{differ}
use Rattle.theory_reading.specs.Limits.{table_limit}
use Rattle.theory_reading.specs.Bytes.{opener, text}
use Rattle.theory_reading.specs.Nodes.{Node, new_node, no_node}
use Rattle.theory_writing.specs.Texts.{tilde_if, digits, decimal}
use Rattle.theory_engine.specs.Cells.{cell, put_cell}
use Rattle.theory_engine.specs.Recycling.{unlink_in, link_in, free_of, search_in, find_in, insert_in, remove_in, more_in, fewer_in, orphan_in, orphans_in}
use Rattle.theory_engine.specs.Recycling.{release_in, adopt_in, note_in, place_in, store_in, next_in}
use Rattle.theory_engine.specs.Pending.{push_all, wait_in, close_in, sent_to}
use Rattle.theory_engine.specs.Engine.{Progress, end_in, write_node, give_in, known_in, meet_in}
use Rattle.theory_applying.specs.Applying.{Source, first_sources, second_sources, first_values, fixed}
use Rattle.theory_applying.specs.Memo.{look_up_in, remember_in, slot_from, slot_in}
use Rattle.writer_numbers.specs.Hashing.{stir}
use Rattle.theory_applying.specs.Recalling.{alike_part, recall_in}
use Rattle.node_records.specs.Records.{no_writer_record}
use Rattle.node_records.specs.declared.WriterRecord.{WriterRecord}

-- ---- Steps -----------------------------------------------------------------------------------

-- how many parts are walked: one, and those of the halves unless op is fixed or the memo tells it
unfoldable steps_in : (List ℕ → ℕ) → (List Bool → Bool) → ℕ → ℕ → ℕ → ℕ → List Source → List (List ℕ) → List WriterRecord → List ℕ
    → List ℕ → Progress → ℕ
unfolding fixed recall_in
steps_in hash op size zero i m xs μ t out w progress = 1
steps_in hash op size (suc d) i m xs μ t out w progress =
    let p = push_all w m (opener ∷ []) in
    let ys = first_sources i xs in
    let a = recall_in hash op size d (i + 1) p.count ys μ t out p.bytes progress in
    let h = a.walked.half in
    let complement = differ h.complement (op (first_values (second_sources i xs))) in
    let q = wait_in a.walked.waits p.count h.wrote h.skipped h.number in
    let r = push_all q.bytes q.count (tilde_if complement) in
    let u = steps_in hash op size d (i + 1) p.count ys μ t out p.bytes progress in
    let v = steps_in hash op size d (i + 1) r.count (second_sources i xs) a.memo a.walked.table a.walked.output r.bytes
    a.walked.progress in
    let both = 1 + u + v in
    let one = 1 + u in
    let c = cond (a.walked.progress.full || alike_part i xs h) one both in
    let e = cond (look_up_in hash μ xs t) 1 c in
    cond (fixed op xs) 1 e

-- ---- What is run -----------------------------------------------------------------------------

-- parity of the last k options of n: number j is that of the last j
abbrev parity_rows : ℕ → ℕ → List Node
parity_rows n zero = []
parity_rows n (suc k) = parity_rows n k ++ (new_node (n - k) k k true 1 ∷ [])

abbrev parity_of : ℕ → Source
parity_of n = record { table = no_node ∷ parity_rows n n; number = n; complement = false }

-- the last option
abbrev last_of : ℕ → Source
last_of n = record { table = no_node ∷ new_node n 0 0 true 1 ∷ []; number = 1; complement = false }

-- two or more of three options
abbrev majority : Source
majority =
    record {
      table = no_node ∷ new_node 3 0 0 true 1 ∷ new_node 2 0 1 false 1 ∷ new_node 2 1 0 true 1 ∷ new_node 1 2 3 false 1 ∷ [];
      number = 4;
      complement = false;
    }

-- exclusive or
abbrev xor : List Bool → Bool
xor [] = false
xor (b ∷ bs) = differ b (xor bs)

-- and
abbrev both : List Bool → Bool
both [] = true
both (b ∷ bs) = b && both bs

-- records, output, memo
abbrev records : List WriterRecord
records = replicate table_limit no_writer_record

abbrev rows : ℕ → List (List ℕ)
rows c = replicate c (replicate 9 0)

abbrev start_progress : Progress
start_progress = record { given = 0; first = 0; last = 0; written = 0; full = false }

-- what is sent with a memo of c rows, and how many parts are walked
unfoldable recalled : ℕ → (List Bool → Bool) → ℕ → ℕ → List Source → List ℕ
unfolding recall_in remember_in slot_from stir digits decimal cell put_cell unlink_in link_in free_of search_in find_in insert_in remove_in more_in fewer_in
    orphan_in orphans_in release_in adopt_in note_in place_in store_in next_in push_all wait_in close_in sent_to write_node give_in known_in meet_in fixed
recalled c op size n xs =
    let x = end_in 0 (recall_in (slot_in c) op size n 1 0 xs (rows c) records (replicate 200 0) (replicate 300 0) start_progress).walked in
    take x.written x.output

unfoldable steps : ℕ → (List Bool → Bool) → ℕ → ℕ → List Source → ℕ
unfolding steps_in recall_in remember_in slot_from stir digits decimal cell put_cell unlink_in link_in free_of search_in find_in insert_in remove_in more_in
    fewer_in orphan_in orphans_in release_in adopt_in note_in place_in store_in next_in push_all wait_in close_in sent_to write_node give_in known_in meet_in fixed
steps c op size n xs = steps_in (slot_in c) op size n 1 0 xs (rows c) records (replicate 200 0) (replicate 300 0) start_progress

-- ---- Examples --------------------------------------------------------------------------------

-- all of three options: with 64 rows, and with one row that each note overwrites
all_three : recalled 64 both 4 3 (majority ∷ parity_of 3 ∷ []) ≡ text "(0(0(0~0):1):2):3."
unfolding recalled text
all_three = refl

all-three-one-entry : recalled 1 both 4 3 (majority ∷ parity_of 3 ∷ []) ≡ text "(0(0(0~0):1):2):3."
unfolding recalled text
all-three-one-entry = refl

-- with fewer numbers
two-numbers : recalled 64 both 2 3 (majority ∷ parity_of 3 ∷ []) ≡ text "(0(0(0~0):1):2)."
unfolding recalled text
two-numbers = refl

two-numbers-one-entry : recalled 1 both 2 3 (majority ∷ parity_of 3 ∷ []) ≡ text "(0(0(0~0):1):2)."
unfolding recalled text
two-numbers-one-entry = refl

one_number : recalled 64 both 1 3 (majority ∷ parity_of 3 ∷ []) ≡ text "(0(0(0~0):1))."
unfolding recalled text
one_number = refl

one-number-one-entry : recalled 1 both 1 3 (majority ∷ parity_of 3 ∷ []) ≡ text "(0(0(0~0):1))."
unfolding recalled text
one-number-one-entry = refl

no_number : recalled 64 both 0 3 (majority ∷ parity_of 3 ∷ []) ≡ text "(0(0(0~0)))."
unfolding recalled text
no_number = refl

no-number-one-entry : recalled 1 both 0 3 (majority ∷ parity_of 3 ∷ []) ≡ text "(0(0(0~0)))."
unfolding recalled text
no-number-one-entry = refl

differ-four : recalled 64 xor 4 3 (majority ∷ parity_of 3 ∷ []) ≡ text "(((0~0):1~0):2~(0 1):3):4."
unfolding recalled text
differ-four = refl

differ-four-one-entry : recalled 1 xor 4 3 (majority ∷ parity_of 3 ∷ []) ≡ text "(((0~0):1~0):2~(0 1):3):4."
unfolding recalled text
differ-four-one-entry = refl

-- number 2 is given out twice
differ-two : recalled 64 xor 2 3 (majority ∷ parity_of 3 ∷ []) ≡ text "(((0~0):1~0):2~(0 1):2)."
unfolding recalled text
differ-two = refl

differ-two-one-entry : recalled 1 xor 2 3 (majority ∷ parity_of 3 ∷ []) ≡ text "(((0~0):1~0):2~(0 1):2)."
unfolding recalled text
differ-two-one-entry = refl

parity-four : recalled 64 xor 8 4 (parity_of 4 ∷ last_of 4 ∷ []) ≡ text "(((0~0):1~1):2~2):3."
unfolding recalled text
parity-four = refl

parity-four-one-entry : recalled 1 xor 8 4 (parity_of 4 ∷ last_of 4 ∷ []) ≡ text "(((0~0):1~1):2~2):3."
unfolding recalled text
parity-four-one-entry = refl

parity-eight : recalled 64 xor 8 8 (parity_of 8 ∷ last_of 8 ∷ []) ≡ text "(((((((0~0):1~1):2~2):3~3):4~4):5~5):6~6):7."
unfolding recalled text
parity-eight = refl

-- parity of n options with the last: 4 n - 1 parts, where all words are 2 ^ (n + 1) - 1
parity-steps-four : steps 64 xor 8 4 (parity_of 4 ∷ last_of 4 ∷ []) ≡ 15
unfolding steps
parity-steps-four = refl

parity-steps-five : steps 64 xor 8 5 (parity_of 5 ∷ last_of 5 ∷ []) ≡ 19
unfolding steps
parity-steps-five = refl

parity-steps-six : steps 64 xor 8 6 (parity_of 6 ∷ last_of 6 ∷ []) ≡ 23
unfolding steps
parity-steps-six = refl

parity-steps-eight : steps 64 xor 8 8 (parity_of 8 ∷ last_of 8 ∷ []) ≡ 31
unfolding steps
parity-steps-eight = refl

-- levels that all inputs pass over, above a constant
passed-steps : steps 64 xor 8 8 (last_of 8 ∷ last_of 8 ∷ []) ≡ 10
unfolding steps
passed-steps = refl
