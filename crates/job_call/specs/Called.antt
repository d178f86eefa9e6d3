-- Combining with work tables of zeros, as many records as the limit. Assumes nothing.
use Rattle.std.specs.Prelude.{◌≡◌, List, ℕ, replicate}
use Rattle.std.proofs.Common.{ap, ap₂, ◌∙◌}
use Rattle.theory_reading.specs.Limits.{table_limit}
use Rattle.theory_writing.specs.Calls.{Combine, combine}
use Rattle.node_records.specs.Records.{no_record, no_writer_record}
use Rattle.node_records.specs.declared.NodeRecord.{NodeRecord}
use Rattle.node_records.specs.declared.WriterRecord.{WriterRecord}

abbrev pub own_call : ℕ → ℕ → ℕ → List ℕ → List ℕ → List ℕ → Combine NodeRecord WriterRecord
own_call n op size x y out =
    combine no_record no_writer_record n op size x y out (replicate table_limit no_record) (replicate table_limit no_record)
    (replicate table_limit no_writer_record)

-- the tables as code makes them
module _ (n op size : ℕ) (x y out : List ℕ) (z w : NodeRecord) (o : WriterRecord) (ze : z ≡ no_record) (we : w ≡ no_record) (oe : o ≡ no_writer_record)
    (m : Combine NodeRecord WriterRecord)
    (called : m ≡ combine no_record no_writer_record n op size x y out (replicate table_limit z) (replicate table_limit w) (replicate table_limit o)) where
  own-called : m ≡ own_call n op size x y out
  own-called =
      called
      ∙ ap₂ (λ (z w : NodeRecord). combine no_record no_writer_record n op size x y out (replicate table_limit z) (replicate table_limit w)
      (replicate table_limit o)) ze we
      ∙ ap (λ (o : WriterRecord). combine no_record no_writer_record n op size x y out (replicate table_limit no_record) (replicate table_limit no_record)
      (replicate table_limit o)) oe

  pub own-answer : (m.answer ≡ (own_call n op size x y out).answer) × (m.output ≡ (own_call n op size x y out).output)
  own-answer =
      (ap (λ (m : Combine NodeRecord WriterRecord). m.answer) own-called, ap (λ (m : Combine NodeRecord WriterRecord). m.output) own-called)
