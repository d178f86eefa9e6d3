-- WHAT IS CLAIMED of each call. A statement's premise is the contract of the call, as the code's `ensures` has it: `Checks`, `Decides`, `FindsNext` and
-- `Fills` of reading's Calls, `Writes` and `Combines` of writing's: c, the answer with all lent memory, is what the definition after documents 01 and 02
-- gives. Three records have the three demands of document 01, with the call of R-1 among the others and the covered count of R-3, and one each has what
-- R-1 and R-3 ask beside them; each statement stands under a line of plain words; proofs/Claims has their values, which prove them by citation. Terms has
-- the terms, proofs/Examples a run of each, proofs/Further what else is proved. R: a record of a work table to read with, S: one of a table to write
-- with; z, o: those that are zero.
-- x, y: input streams; t, u, v: work tables; out: what the output held. Assumes nothing.
use Rattle.std.specs.Prelude.{◌≡◌, ◌⊎◌, ◌↔◌, Bool, true, false, List, [], ◌∷◌, ◌++◌, ℕ, ◌/◌, ◌%◌, ◌≤◌, ◌<◌, ◌^◌, min, length, take, get_or}
use Rattle.std.proofs.Math.Option.{none, some}
use Rattle.theory_lists.specs.Lists.{All, has}
use Rattle.theory_lists.specs.Prefixes.{Begins}
use Rattle.theory_reading.specs.Limits.{option_limit, table_limit}
use Rattle.theory_reading.specs.Causes.{Refusal, refused, done}
use Rattle.theory_reading.specs.Element.{over}
use Rattle.theory_reading.specs.Reading.{Fault, reading}
use Rattle.theory_reading.specs.Deciding.{Decision, decided, undecided, decision}
use Rattle.theory_reading.specs.Calls.{Checked, extent, Read, Checks, Verdict, verdict_of, Decides, digit_of, Fill, Fills}
use Rattle.theory_reading.specs.Calls.{NextWord, not_known, FindsNext}
use Rattle.theory_reading.specs.Covered.{covered}
use Rattle.theory_reading.specs.FaultRank.{Counts}
use Rattle.theory_writing.specs.Run.{outcome, run_text, whole, Answer}
use Rattle.theory_writing.specs.Inputs.{AllMay}
use Rattle.theory_writing.specs.Calls.{truth_at, Write, Writes, Combine, Combines}
use Rattle.claims.specs.Terms.{TurnedDown, check_lines, decide_lines, find_lines, fill_lines, write_lines, combine_lines}
use Rattle.claims.specs.Terms.{TableLeft, OutputLeft, Gets, Operated, Covers, ReadAs, Complete, NextIs, Lists, RisingWords}

-- ---- Demand 1 --------------------------------------------------------------------------------

-- "Lent memory contains, after each call on whatever bytes and numbers came in, exactly what document 01 says; every call returns; a refused one
-- leaves the output untouched and names the cause and the byte." (What an output gets is in demand 2. Definitions return; that code does is in
-- its contract.)
pub record Demand1 {R S : Type 0} (z : R) (o : S) : Type 0 where
  -- Each call is refused exactly if it meets one of its causes; the first in the paper's order is named, with stream 0 and byte 0, or with the
  -- stream, stream 1 before stream 2, and a byte inside it.
  pub check-refused : (n : ℕ) (x : List ℕ) (t : List R) (c : Read Checked R) → Checks z n x t c
      → TurnedDown (x ∷ []) (check_lines n x (length t)) c.answer
  pub decide-refused : (n : ℕ) (x : List ℕ) (w : ℕ) (t : List R) (c : Read Verdict R) → Decides z n x w t c
      → TurnedDown (x ∷ []) (decide_lines n x w (length t)) c.answer
  pub find-refused : (n : ℕ) (x : List ℕ) (w : ℕ) (t : List R) (c : Read NextWord R) → FindsNext z n x w t c
      → TurnedDown (x ∷ []) (find_lines n x w (length t)) c.answer
  pub fill-refused : (n : ℕ) (x truths : List ℕ) (t : List R) (c : Fill R) → Fills z n x truths t c
      → TurnedDown (x ∷ []) (fill_lines n x truths (length t)) c.answer
  pub write-refused : (n size : ℕ) (truths out : List ℕ) (v : List S) (c : Write S) → Writes o n size truths out v c
      → TurnedDown [] (write_lines n size truths (length v)) c.answer
  pub combine-refused : (n op size : ℕ) (x y out : List ℕ) (t u : List R) (v : List S) (c : Combine R S) → Combines z o n op size x y out t u v c
      → TurnedDown (x ∷ y ∷ []) (combine_lines n op size x y (length t) (length u) (length v)) c.answer
  -- "In a stream the lowest fault place counts, and there the lower number": the bytes before it are without fault, the cause is met there
  -- from where reading stands, and none that is met there has a lower rank.
  pub lowest-fault : (n : ℕ) (x : List ℕ) (f : Fault) → (reading n x).fault ≡ some f
      → (f.byte < length x) × ((reading n (take f.byte x)).fault ≡ none) × Counts n x (reading n x).state f.byte f.cause
  -- A work table is as it was after a refusal that leaves all so, and zero in every record after any other return.
  pub check-table : (n : ℕ) (x : List ℕ) (t : List R) (c : Read Checked R) → Checks z n x t c
      → TableLeft z c.answer t c.table
  pub decide-table : (n : ℕ) (x : List ℕ) (w : ℕ) (t : List R) (c : Read Verdict R) → Decides z n x w t c
      → TableLeft z c.answer t c.table
  pub find-table : (n : ℕ) (x : List ℕ) (w : ℕ) (t : List R) (c : Read NextWord R) → FindsNext z n x w t c
      → TableLeft z c.answer t c.table
  pub fill-table : (n : ℕ) (x truths : List ℕ) (t : List R) (c : Fill R) → Fills z n x truths t c
      → TableLeft z c.answer t c.table
  pub write-table : (n size : ℕ) (truths out : List ℕ) (v : List S) (c : Write S) → Writes o n size truths out v c
      → TableLeft o c.answer v c.table
  pub combine-tables : (n op size : ℕ) (x y out : List ℕ) (t u : List R) (v : List S) (c : Combine R S) → Combines z o n op size x y out t u v c
      → TableLeft z c.answer t c.first × TableLeft z c.answer u c.second × TableLeft o c.answer v c.third
  -- A refused call leaves truth table and output as they were; another keeps their length and, in the output, the bytes beyond those written.
  pub fill-truths : (n : ℕ) (x truths : List ℕ) (t : List R) (c : Fill R) → Fills z n x truths t c
      → ((f : Refusal) → c.answer ≡ refused f → c.truths ≡ truths) × (length c.truths ≡ length truths)
  pub write-output : (n size : ℕ) (truths out : List ℕ) (v : List S) (c : Write S) → Writes o n size truths out v c
      → OutputLeft c.answer out c.output
  pub combine-output : (n op size : ℕ) (x y out : List ℕ) (t u : List R) (v : List S) (c : Combine R S) → Combines z o n op size x y out t u v c
      → OutputLeft c.answer out c.output

-- ---- Demand 2 --------------------------------------------------------------------------------

-- "Reading decides each word as the diagram's definition does; writing gives precisely the stream that document 01 defines for the operator taken
-- word by word and the table size; reading that stream gives the same decisions."
pub record Demand2 {R S : Type 0} (z : R) (o : S) : Type 0 where
  -- READING. The words that a stream covers are those that it decides: a covered word has a decision, another has none.
  pub covered-words : (n : ℕ) (x : List ℕ) (w : ℕ) → w < 2 ^ n
      → (w < covered n x → (d : Bool) × (decision n x w ≡ decided d)) × (covered n x ≤ w → decision n x w ≡ undecided)
  -- A complete stream covers every word.
  pub complete-covers : (n : ℕ) (x : List ℕ) → (reading n x).state.place.context ≡ over → covered n x ≡ 2 ^ n
  -- Checking answers the declared size, the covered count, and complete or cut.
  pub checking : (n : ℕ) (x : List ℕ) (t : List R) (r : Checked) (c : Read Checked R) → Checks z n x t c
      → c.answer ≡ done r
      → let s = (reading n x).state in r ≡ record { size = s.size; covered = covered n x; extent = extent s.place.context }
  -- Deciding answers yes, no or not yet as the diagram decides the word.
  pub deciding : (n : ℕ) (x : List ℕ) (w : ℕ) (t : List R) (r : Verdict) (c : Read Verdict R) → Decides z n x w t c
      → c.answer ≡ done r → r ≡ verdict_of (decision n x w)
  -- Finding the next admitted word from w on answers the least one, or none, or not known, as the diagram decides the words.
  pub finding : (n : ℕ) (x : List ℕ) (w : ℕ) (t : List R) (r : NextWord) (c : Read NextWord R) → FindsNext z n x w t c
      → c.answer ≡ done r → NextIs n x w r
  -- Filling answers the covered count; word w is binary digit w mod 8 of byte w / 8, and 0 from the covered count on.
  pub filling : (n : ℕ) (x truths : List ℕ) (t : List R) (r : ℕ) (c : Fill R) → Fills z n x truths t c
      → c.answer ≡ done r
      → (r ≡ covered n x) × All (λ b. b < 256) c.truths
      × ((w : ℕ) → w < 2 ^ n → get_or c.truths (w / 8) 0 / 2 ^ (w % 8) % 2 ≡ digit_of (verdict_of (decision n x w)))
  -- WRITING a truth table. The output gets the first bytes of the table's stream, as many as fit.
  pub writing-stream : (n size : ℕ) (truths out : List ℕ) (v : List S) (r : Answer) (c : Write S) → Writes o n size truths out v c
      → c.answer ≡ done r → Gets n (2 ^ n) (run_text n size (2 ^ n) (truth_at truths)) out r c.output
  -- The written bytes, all or not, are accepted and decide the words that they cover as the table does.
  pub writing-read : (n size : ℕ) (truths out : List ℕ) (v : List S) (r : Answer) (c : Write S) → Writes o n size truths out v c
      → c.answer ≡ done r → ReadAs n r.covered (λ w d. d ≡ truth_at truths w) (take r.written c.output)
  -- If the ending is "whole" they are complete, and cover every word.
  pub writing-whole : (n size : ℕ) (truths out : List ℕ) (v : List S) (r : Answer) (c : Write S) → Writes o n size truths out v c
      → c.answer ≡ done r → r.ending ≡ whole → Complete n (take r.written c.output)
  -- "reading that stream gives the same decisions": deciding a word that the written bytes cover answers what the table has there.
  pub writing-decided : (n size : ℕ) (truths out : List ℕ) (v : List S) (r : Answer) (c : Write S) → Writes o n size truths out v c
      → let bytes = take r.written c.output in
      c.answer ≡ done r
      → (w : ℕ) (t : List R) (k : Read Verdict R) → Decides z n bytes w t k → w < covered n bytes → table_limit ≤ length t
      → k.answer ≡ done (verdict_of (decided (truth_at truths w)))
  -- COMBINING. Of any two streams there is a least word that is not settled, or all words are: the run's covered count.
  pub combining-words : (n op : ℕ) (x y : List ℕ) → (k : ℕ) × Covers n op x y k
  -- Whatever f decides the words below it as the operator does, the output gets the first bytes of its stream for that covered count, as many as fit.
  pub combining-stream : (n op size : ℕ) (x y out : List ℕ) (t u : List R) (v : List S) (r : Answer) (c : Combine R S)
      → Combines z o n op size x y out t u v c
      → c.answer ≡ done r → (k : ℕ) → Covers n op x y k → (f : ℕ → Bool) → ((w : ℕ) → w < k → Operated n op x y w (f w))
      → Gets n k (run_text n size k f) out r c.output
  -- The written bytes, whatever the ending, are accepted and decide the words that they cover as the operator does.
  pub combining-read : (n op size : ℕ) (x y out : List ℕ) (t u : List R) (v : List S) (r : Answer) (c : Combine R S)
      → Combines z o n op size x y out t u v c
      → c.answer ≡ done r → ReadAs n r.covered (Operated n op x y) (take r.written c.output)
  -- If the ending is "whole" they are complete, and cover every word.
  pub combining-whole : (n op size : ℕ) (x y out : List ℕ) (t u : List R) (v : List S) (r : Answer) (c : Combine R S)
      → Combines z o n op size x y out t u v c
      → c.answer ≡ done r → r.ending ≡ whole → Complete n (take r.written c.output)
  -- "reading that stream gives the same decisions": deciding a word that the written bytes cover answers what the operator decides there.
  pub combining-decided : (n op size : ℕ) (x y out : List ℕ) (t u : List R) (v : List S) (r : Answer) (c : Combine R S)
      → Combines z o n op size x y out t u v c
      → let bytes = take r.written c.output in
      c.answer ≡ done r
      → (w : ℕ) (p : List R) (k : Read Verdict R) → Decides z n bytes w p k → w < covered n bytes → table_limit ≤ length p
      → (d : Bool) × Operated n op x y w d × (k.answer ≡ done (verdict_of (decided d)))

-- ---- Demand 3 --------------------------------------------------------------------------------

-- Of two runs: x, y and x', y' are their streams, r and r' their answers, bytes and bytes' their written bytes.
pub record Together (n op : ℕ) (x y x' y' : List ℕ) (r r' : Answer) (bytes bytes' : List ℕ) : Type 0 where
  -- "the second's written bytes begin with all that the first wrote"
  pub begins : Begins bytes bytes'
  -- "its covered count is no smaller"
  pub covers : r.covered ≤ r'.covered
  -- both are accepted when read, cut or not
  pub accepted : ((reading n bytes).fault ≡ none) × ((reading n bytes').fault ≡ none)
  -- "every word that the first's written bytes decide is decided by the second's too, with the same answer from both, namely what the operator
  -- decides from the two input rules": from those of the first run, and alike from those of the second
  pub decides : (w : ℕ) → w < covered n bytes
      → (d : Bool) × (decision n bytes w ≡ decided d) × (decision n bytes' w ≡ decided d) × Operated n op x y w d × Operated n op x' y' w d

pub record Demand3 {R S : Type 0} (z : R) (o : S) : Type 0 where
  -- "Take any two runs, neither refused, alike in operator, option count and table size, where each input stream of the second is the first's with
  -- any bytes after it or none, and the second's output is at least as long, whatever outputs and work tables held before. Then together:"
  pub runs : (n op size : ℕ) (x y x₊ y₊ out out' : List ℕ) (t u t' u' : List R) (v v' : List S) (r r' : Answer) (run run' : Combine R S)
      → Combines z o n op size x y out t u v run → Combines z o n op size (x ++ x₊) (y ++ y₊) out' t' u' v' run' → length out ≤ length out'
      → run.answer ≡ done r → run'.answer ≡ done r'
      → Together n op x y (x ++ x₊) (y ++ y₊) r r' (take r.written run.output) (take r'.written run'.output)

-- ---- Document 02, R-1 ------------------------------------------------------------------------

pub record Request1 {R : Type 0} (z : R) : Type 0 where
  -- "Listing from 0 must give every covered admitted word once, rising." The words rise, so none comes twice.
  pub listing-rises : (n : ℕ) (x vs : List ℕ) → Lists z n x 0 vs → RisingWords vs
  -- They are the covered admitted words and nothing else, whether the stream is complete or cut.
  pub listing-words : (n : ℕ) (x vs : List ℕ) → Lists z n x 0 vs → (v : ℕ)
      → (has v vs ≡ true) ↔ ((v < covered n x) × (decision n x v ≡ decided true))
  -- Every stream without fault has a listing.
  pub listing-exists : (n : ℕ) (x : List ℕ) → n ≤ option_limit → (reading n x).fault ≡ none → (vs : List ℕ) × Lists z n x 0 vs
  -- Of two calls for one word, neither refused, where the second's stream is the first's with any bytes after it: the first's answer is "not known",
  -- or the second's is the same.
  pub lengthening : (n : ℕ) (x x₊ : List ℕ) (w : ℕ) (t t' : List R) (r r' : NextWord) (c c' : Read NextWord R)
      → FindsNext z n x w t c → FindsNext z n (x ++ x₊) w t' c' → c.answer ≡ done r → c'.answer ≡ done r' → (r ≡ not_known) ⊎ (r' ≡ r)

-- ---- Document 02, R-3 ------------------------------------------------------------------------

pub record Request3 {R S : Type 0} (z : R) (o : S) : Type 0 where
  -- "A word is settled when the operator gives one result for all values of what an input doesn't cover": of any number of inputs, op being what the
  -- operator gives for their values
  pub settled-words : (op : List Bool → Bool) (ds : List Decision) (d : Bool)
      → (outcome op ds ≡ decided d) ↔ ((vs : List Bool) → AllMay ds vs → op vs ≡ d)
  -- "the covered count of a run is the least word that is not settled, or 2^n": so it is answered.
  pub covered-count : (n op size : ℕ) (x y out : List ℕ) (t u : List R) (v : List S) (r : Answer) (c : Combine R S)
      → Combines z o n op size x y out t u v c → c.answer ≡ done r → Covers n op x y r.covered
  -- The words that both streams cover are settled: no run covers fewer words than before.
  pub both-cover : (n op : ℕ) (x y : List ℕ) (k : ℕ) → Covers n op x y k → min (covered n x) (covered n y) ≤ k
  -- "With AND, a word that one rule refuses is settled though the other rule's transfer hasn't come so far."
  pub refused-settles : (n : ℕ) (x y : List ℕ) (w : ℕ) → decision n x w ≡ decided false → Operated n 8 x y w false × Operated n 8 y x w false
  -- "So operators 0 and 15 always cover everything,
  pub none-asked : (n : ℕ) (x y : List ℕ) → Covers n 0 x y (2 ^ n) × Covers n 15 x y (2 ^ n)
  -- and NOT ignores stream 2's length": it covers what stream 1 covers.
  pub second-ignored : (n : ℕ) (x y : List ℕ) → Covers n 3 x y (covered n x)
