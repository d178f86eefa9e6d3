-- What the call that writes a truth table's stream comes to: for each test that turns it down, and past them all.
-- Assumes nothing.
use Rattle.std.specs.Prelude.{◌≡◌, ◌≢◌, ◌⊎◌, Bool, ℕ, ◌/◌, ◌≤◌, ◌<◌, ◌^◌, ltb, eqb, replicate}
use Rattle.std.proofs.Math.Path.{refl, sym, ap, ap₂}
use Rattle.std.proofs.Common.{◌∙◌, arith}
use Rattle.std.proofs.Math.Bool.{cond}
use mathlib.Core.List.{List, [], ◌∷◌}
use Rattle.std.proofs.Math.ListN.{length}
use Rattle.std.proofs.lemmas.List.{length-replicate}
use borrow.Author.Tests.{lt-ltb, le-ltb, eq-eqb, ne_eqb}
use Rattle.theory_reading.specs.Limits.{table_limit, truth_table_least, truth_table_most}
use Rattle.theory_reading.specs.LimitLaws.{truth-count, no-truth-count}
use Rattle.theory_reading.specs.Causes.{option_count, size_to_write, work_table, truth_table, Result, refused, done, refusal, gate, cleared, table_after}
use Rattle.theory_reading.specs.Causes.{unless_refused}
use Rattle.theory_writing.specs.Run.{whole, input_ended, output_full, written_bytes, output_after, Answer, answer_of}
use Rattle.theory_writing.specs.Calls.{write_text, write_answer, Write, write}
use Rattle.theory_engine.specs.Pending.{waiting_limit}
use Rattle.theory_engine.specs.Cells.{zero-cell}
use Rattle.theory_engine.specs.Engine.{Sent, stream_in}
use Rattle.theory_engine.specs.Streaming.{stream-text}
use Rattle.node_records.specs.Records.{no_writer_record}
use Rattle.node_records.specs.declared.WriterRecord.{WriterRecord}

-- ---- A cleared table -------------------------------------------------------------------------

-- as many zero records
pub cleared-replicate : {A : Type 0} (z : A) (t : List A) → replicate (length t) z ≡ cleared z t
unfolding cleared
cleared-replicate z [] = refl
cleared-replicate {A} z (r ∷ t) = ap (λ (l : List A). z ∷ l) (cleared-replicate z t)

-- ---- Writing ---------------------------------------------------------------------------------

module _ (z : WriterRecord) (n size : ℕ) (v out : List ℕ) (t : List WriterRecord) where
  -- n is not that of a truth table
  pub write-options : (n < truth_table_least) ⊎ (truth_table_most < n)
      → record { answer = refused (refusal option_count 0 0); table = t; output = out } ≡ write z n size v out t
  unfolding write write_answer gate table_after unless_refused
  write-options h = rw (no-truth-count n h) refl

  -- the size is too large
  pub write-size : truth_table_least ≤ n → n ≤ truth_table_most → table_limit < size
      → record { answer = refused (refusal size_to_write 0 0); table = t; output = out } ≡ write z n size v out t
  unfolding write write_answer gate table_after unless_refused
  write-size l k h = rw (truth-count n l k, lt-ltb table_limit size h) refl

  -- the work table is too short
  pub write-records : truth_table_least ≤ n → n ≤ truth_table_most → size ≤ table_limit → length t < table_limit
      → record { answer = refused (refusal work_table 0 0); table = t; output = out } ≡ write z n size v out t
  unfolding write write_answer gate table_after unless_refused
  write-records l k few h = rw (truth-count n l k, le-ltb table_limit size few, lt-ltb (length t) table_limit h) refl

  -- the truth table has another length
  pub write-length : truth_table_least ≤ n → n ≤ truth_table_most → size ≤ table_limit → table_limit ≤ length t → length v ≢ 2 ^ n / 8
      → record { answer = refused (refusal truth_table 0 0); table = t; output = out } ≡ write z n size v out t
  unfolding write write_answer gate table_after unless_refused
  write-length l k few room h =
      rw (truth-count n l k, le-ltb table_limit size few, le-ltb (length t) table_limit room, ne_eqb (length v) (2 ^ n / 8) h) refl

  -- what is answered past the tests
  write-answer : truth_table_least ≤ n → n ≤ truth_table_most → size ≤ table_limit → table_limit ≤ length t → length v ≡ 2 ^ n / 8
      → write_answer n size v out (length t) ≡ done (answer_of n (2 ^ n) (write_text n size v) out)
  unfolding write_answer gate
  write-answer l k few room h =
      rw (truth-count n l k, le-ltb table_limit size few, le-ltb (length t) table_limit room, eq-eqb (length v) (2 ^ n / 8) h) refl

  -- the answer, of a stream that covers all words
  answer-whole : (y : List ℕ) → answer_of n (2 ^ n) y out
      ≡ record {
        written = length (written_bytes y out);
        covered = 2 ^ n;
        ending = cond (ltb (length out) (length y)) output_full whole;
      }
  unfolding answer_of
  answer-whole y =
      ap (λ (b : Bool). record {
        written = length (written_bytes y out);
        covered = 2 ^ n;
        ending = cond (ltb (length out) (length y)) output_full (cond b whole input_ended);
      }) (eq-eqb (2 ^ n) (2 ^ n) refl)

  -- past the tests the stream is written and the table is cleared
  pub write_done : truth_table_least ≤ n → n ≤ truth_table_most → size ≤ table_limit → table_limit ≤ length t → length v ≡ 2 ^ n / 8 →
      let y = write_text n size v in
      record {
        answer = done (record {
          written = length (written_bytes y out);
          covered = 2 ^ n;
          ending = cond (ltb (length out) (length y)) output_full whole;
        });
        table = replicate (length t) z;
        output = output_after y out;
      } ≡ write z n size v out t
  unfolding write table_after unless_refused
  write_done l k few room h =
      let y = write_text n size v in
      ap₂ (λ (a : Answer) (u : List WriterRecord). record { answer = done a; table = u; output = output_after y out })
      (sym (answer-whole y)) (cleared-replicate z t)
      ∙ sym (ap (λ (a : Result Answer). record {
        answer = a;
        table = table_after z a t;
        output = unless_refused a out (λ (x : Answer). output_after y out);
      }) (write-answer l k few room h))

-- an answer that covers all words, k of them; f: more is to be written than the output holds
pub whole-answer : (n k w : ℕ) (f : Bool) → k ≡ 2 ^ n →
    let a : Answer = record { written = w; covered = k; ending = cond f output_full (cond (eqb k (2 ^ n)) whole input_ended) } in
    a ≡ record { written = w; covered = 2 ^ n; ending = cond f output_full whole }
whole-answer n k w f e =
    ap (λ (k : ℕ). record { written = w; covered = k; ending = cond f output_full (cond (eqb k (2 ^ n)) whole input_ended) }) e
    ∙ ap (λ (b : Bool). record { written = w; covered = 2 ^ n; ending = cond f output_full (cond b whole input_ended) })
    (eq-eqb (2 ^ n) (2 ^ n) refl)

-- what the code comes to, past cause 6: records of zeros before the walk and after it
pub write-finish : (n size : ℕ) (v out w : List ℕ) (t t₀ u : List WriterRecord) (x : Sent) (r : Answer) → truth_table_least ≤ n → n ≤ truth_table_most
    → size ≤ table_limit → table_limit ≤ length t → length v ≡ 2 ^ n / 8 → length w ≡ waiting_limit → t₀ ≡ replicate (length t) no_writer_record
    → x ≡ stream_in n size v t₀ out w → r ≡ record { written = x.written; covered = 2 ^ n; ending = cond x.full output_full whole }
    → u ≡ replicate (length t) no_writer_record
    → record { answer = done r; table = u; output = x.output } ≡ write no_writer_record n size v out t
write-finish n size v out w t t₀ u x r a b c d e f g h k l =
    let s = stream-text n size v (replicate (length t) no_writer_record) out w b c
    (omega (arith, d, length-replicate (length t) no_writer_record)) (zero-cell (length t)) f in
    ap (λ (r : Answer). record { answer = done r; table = u; output = x.output }) k
    ∙ ap (given u) (h ∙ ap (λ (t : List WriterRecord). stream_in n size v t out w) g)
    ∙ ap (λ (k : ℕ). made k streamed.full u streamed.output) s.0
    ∙ ap (λ (q : Bool). made (length (written_bytes y out)) q u streamed.output) s.1
    ∙ ap (made (length (written_bytes y out)) (ltb (length out) (length y)) u) s.2
    ∙ ap (λ (u : List WriterRecord). made (length (written_bytes y out)) (ltb (length out) (length y)) u (output_after y out)) l
    ∙ write_done no_writer_record n size v out t a b c d e
  where
    y : List ℕ
    y = write_text n size v

    streamed : Sent
    streamed = stream_in n size v (replicate (length t) no_writer_record) out w

    made : ℕ → Bool → List WriterRecord → List ℕ → Write WriterRecord
    made k q u o = record { answer = done (record { written = k; covered = 2 ^ n; ending = cond q output_full whole }); table = u; output = o }

    given : List WriterRecord → Sent → Write WriterRecord
    given u x = made x.written x.full u x.output
