-- The calls that write (document 01, "The written stream"; "Turned down"): for every input the answer, and what each lent slice holds
-- afterwards. Assumes nothing.
use Rattle.std.specs.Prelude.{◌≡◌, Bool, List, [], ◌∷◌, map, ℕ, suc, ◌/◌, ◌%◌, ◌^◌, ltb, leb, eqb, length, get_or}
use Rattle.theory_reading.specs.Limits.{table_limit}
use Rattle.theory_reading.specs.Bytes.{is_digit}
use Rattle.theory_reading.specs.Causes.{operator_code, size_to_write, Result, done, Test, test, at_call, gate, table_after, unless_refused}
use Rattle.theory_reading.specs.Deciding.{decision}
use Rattle.theory_reading.specs.Reading.{reading}
use Rattle.theory_reading.specs.Calls.{many_options, short_table, not_truth_table, wrong_length, unless_fault}
use Rattle.theory_writing.specs.Run.{run_covered, operate, run_text, run_of, output_after, Answer, answer_of}

-- ---- Writing from a truth table --------------------------------------------------------------

abbrev pub large_size : ℕ → Test
large_size size = test (at_call size_to_write) (ltb table_limit size)

-- "word w is binary digit w mod 8 (0 lowest) of byte w / 8"
abbrev pub truth_at : List ℕ → ℕ → Bool
truth_at truths w = eqb (get_or truths (w / 8) 0 / 2 ^ (w % 8) % 2) 1

-- "Writing from a truth table covers 2^n": its text
unfoldable pub write_text : ℕ → ℕ → List ℕ → List ℕ
unfolding run_text
write_text n size truths = run_text n size (2 ^ n) (truth_at truths)

-- records: of the work table lent
unfoldable pub write_answer : ℕ → ℕ → List ℕ → List ℕ → ℕ → Result Answer
unfolding gate write_text answer_of
write_answer n size truths out records =
    gate (not_truth_table n ∷ large_size size ∷ short_table records ∷ wrong_length n truths ∷ []) (done (answer_of n (2 ^ n) (write_text n size truths) out))

pub record Write (R : Type 0) : Type 0 where
  pub answer : Result Answer
  pub table : List R
  pub output : List ℕ

-- WRITING a truth table's stream; z: the record that is zero; out: what the output held
unfoldable pub write : {R : Type 0} → R → ℕ → ℕ → List ℕ → List ℕ → List R → Write R
unfolding write_answer table_after unless_refused output_after
write z n size truths out table =
    let a = write_answer n size truths out (length table) in
    record { answer = a; table = table_after z a table; output = unless_refused a out (λ (x : Answer). output_after (write_text n size truths) out) }

-- the contract of a call that writes: c, its answer, its work table and its output afterwards, is what the definition gives
abbrev pub Writes : {R : Type 0} → R → ℕ → ℕ → List ℕ → List ℕ → List R → Write R → Type 0
Writes z n size truths out table c = c ≡ write z n size truths out table

-- ---- Combining -------------------------------------------------------------------------------

-- How many operators there are on the decisions of k inputs: 16 on two.
abbrev pub operators : ℕ → ℕ
operators k = 2 ^ (2 ^ k)

-- "operator above 15", of two inputs
abbrev pub large_operator : ℕ → ℕ → Test
large_operator k op = test (at_call operator_code) (leb (operators k) op)

-- "then all of stream 1, then all of stream 2"; k: the number of the first of these streams
unfoldable pub unless_faults : {A : Type 0} → ℕ → ℕ → List (List ℕ) → Result A → Result A
unfolding reading
unless_faults n k [] x = x
unless_faults n k (s ∷ ss) x = unless_fault k (reading n s).fault (unless_faults n (suc k) ss x)

-- the text of combining streams by an operator
unfoldable pub combine_text : ℕ → ℕ → ℕ → List (List ℕ) → List ℕ
unfolding run_of decision operate
combine_text n op size streams = run_of (operate op) n size (map (decision n) streams)

abbrev pub short_tables : List ℕ → List Test
short_tables records = map short_table records

-- records: of each work table lent
unfoldable pub combine_answer : ℕ → ℕ → ℕ → List (List ℕ) → List ℕ → List ℕ → Result Answer
unfolding gate unless_faults combine_text run_covered decision operate answer_of is_digit
combine_answer n op size streams out records =
    gate (many_options n ∷ large_operator (length streams) op ∷ large_size size ∷ short_tables records)
    (unless_faults n 1 streams (done (answer_of n (run_covered (operate op) n (map (decision n) streams)) (combine_text n op size streams) out)))

-- R: a record of the two tables for reading, S: one of the table for writing
pub record Combine (R S : Type 0) : Type 0 where
  pub answer : Result Answer
  pub first : List R
  pub second : List R
  pub third : List S
  pub output : List ℕ

-- COMBINING two streams; "three work tables are lent for combining"; z, o: the records that are zero
unfoldable pub combine : {R S : Type 0} → R → S → ℕ → ℕ → ℕ → List ℕ → List ℕ → List ℕ → List R → List R → List S → Combine R S
unfolding combine_answer table_after unless_refused output_after
combine z o n op size x y out t u v =
    let a = combine_answer n op size (x ∷ y ∷ []) out (length t ∷ length u ∷ length v ∷ []) in
    record {
      answer = a;
      first = table_after z a t;
      second = table_after z a u;
      third = table_after o a v;
      output = unless_refused a out (λ (r : Answer). output_after (combine_text n op size (x ∷ y ∷ [])) out);
    }

-- the contract of a call that combines
abbrev pub Combines : {R S : Type 0} → R → S → ℕ → ℕ → ℕ → List ℕ → List ℕ → List ℕ → List R → List R → List S → Combine R S → Type 0
Combines z o n op size x y out t u v c = c ≡ combine z o n op size x y out t u v
