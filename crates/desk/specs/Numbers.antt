-- The answer of writing and of combining as C has it: numbers, each cause with the paper's number. What does not apply is 0. Assumes nothing.
use Rattle.std.specs.Prelude.{◌≡◌, List, ℕ}
use Rattle.std.proofs.Common.{ap, ◌∙◌}
use Rattle.theory_reading.specs.Causes.{Result, refused, done, cause_row}
use Rattle.theory_writing.specs.Run as R
use Rattle.theory_writing.specs.Calls as W
use Rattle.desk.specs.declared.RuleWritten.{RuleWritten}
use Rattle.node_records.specs.declared.NodeRecord.{NodeRecord}
use Rattle.node_records.specs.declared.WriterRecord.{WriterRecord}
use Rattle.node_records.specs.Records.{no_record, no_writer_record}

abbrev pub ending_number : R.Ending → ℕ
ending_number R.whole = 0
ending_number R.input_ended = 1
ending_number R.output_full = 2

abbrev pub written_numbers : Result R.Answer → RuleWritten
written_numbers (refused r) =
    record { cause = (cause_row r.cause).number; stream = r.stream; byte = r.byte; written = 0; covered = 0; ending = 0; spare = 0 }
written_numbers (done x) =
    record { cause = 0; stream = 0; byte = 0; written = x.written; covered = x.covered; ending = ending_number x.ending; spare = 0 }

-- an answer, with the work table and the output after the call
pub record Given : Type 0 where
  pub answer : RuleWritten
  pub table : List WriterRecord
  pub output : List ℕ

abbrev pub write_given : ℕ → ℕ → List ℕ → List ℕ → List WriterRecord → Given
write_given n size truths out t =
    let c = W.write no_writer_record n size truths out t in
    record { answer = written_numbers c.answer; table = c.table; output = c.output }

-- The numbers of what the call answers.
pub write-numbers : (r : RuleWritten) (a : Result R.Answer) (z : List WriterRecord) (o : List ℕ) (n size : ℕ) (truths out : List ℕ) (t : List WriterRecord)
    → r ≡ written_numbers a → record { answer = a; table = z; output = o } ≡ W.write no_writer_record n size truths out t
    → record { answer = r; table = z; output = o } ≡ write_given n size truths out t
write-numbers r a z o n size truths out t e h =
    ap (λ (x : RuleWritten). record { answer = x; table = z; output = o }) e
    ∙ ap (λ (x : W.Write WriterRecord). record { answer = written_numbers x.answer; table = x.table; output = x.output }) h

-- likewise of combining, with its three work tables
pub record GivenBoth : Type 0 where
  pub answer : RuleWritten
  pub first : List NodeRecord
  pub second : List NodeRecord
  pub third : List WriterRecord
  pub output : List ℕ

abbrev pub combine_given : ℕ → ℕ → ℕ → List ℕ → List ℕ → List ℕ → List NodeRecord → List NodeRecord → List WriterRecord → GivenBoth
combine_given n op size x y out t u v =
    let c = W.combine no_record no_writer_record n op size x y out t u v in
    record { answer = written_numbers c.answer; first = c.first; second = c.second; third = c.third; output = c.output }

pub combine-numbers : (r : RuleWritten) (a : Result R.Answer) (p q : List NodeRecord) (z : List WriterRecord) (o : List ℕ) (n op size : ℕ) (x y out : List ℕ)
    (t u : List NodeRecord) (v : List WriterRecord) → r ≡ written_numbers a
    → record { answer = a; first = p; second = q; third = z; output = o }
    ≡ W.combine no_record no_writer_record n op size x y out t u v
    → record { answer = r; first = p; second = q; third = z; output = o } ≡ combine_given n op size x y out t u v
combine-numbers r a p q z o n op size x y out t u v e h =
    ap (λ (b : RuleWritten). record { answer = b; first = p; second = q; third = z; output = o }) e
    ∙ ap (λ (c : W.Combine NodeRecord WriterRecord). record {
      answer = written_numbers c.answer;
      first = c.first;
      second = c.second;
      third = c.third;
      output = c.output;
    }) h
