-- The call of combining, way by way: what the code has come to, from the tests and the checks of the two streams on, is what `combine`
-- of Calls says. Assumes nothing.
use Rattle.std.specs.Prelude.{◌≡◌, Bool, cond, eqb, length, replicate}
use Rattle.std.proofs.Math.Path.{refl, sym, ap, ap₂}
use Rattle.std.proofs.Common.{◌∙◌, subst, arith}
use mathlib.Core.List.{List, [], ◌∷◌}
use Rattle.std.proofs.Math.Option.{Option, none, some}
use Prim.Native.Nat.{ℕ, ◌≤◌, ◌<◌, ◌^◌}
use borrow.Author.Tests.{lt-ltb, le-ltb, lt-leb, le-leb}
use Rattle.theory_reading.specs.Limits.{option_limit, table_limit}
use Rattle.theory_reading.specs.Causes.{option_count, operator_code, size_to_write, work_table, keeps_output, cause_row}
use Rattle.theory_reading.specs.Causes.{Result, refused, done, Refusal, refusal, gate, table_after, unless_refused}
use Rattle.theory_reading.specs.Reading.{Fault, reading}
use Rattle.theory_reading.specs.Calls.{Checked, checked_of, unless_fault, check_answer, Read, check}
use Rattle.theory_reading.specs.Deciding.{decision}
use Rattle.theory_reading.proofs.Settled.{fault-leaves}
use Rattle.theory_reading.specs.Covered.{covered}
use Rattle.theory_reading.proofs.CallLaws.{zeroes-table, zeroes-done}
use Rattle.theory_writing.specs.Run.{operate, run_covered, whole, input_ended, output_full, output_after, Answer, answer_of}
use Rattle.theory_writing.specs.Calls.{unless_faults, combine_text, combine_answer, Combine, combine}
use Rattle.theory_engine.specs.Engine.{Sent}
use Rattle.theory_engine.specs.Streaming.{Wrote}
use Rattle.theory_engine.specs.WriteCorrect.{cleared-replicate}
use Rattle.node_records.specs.declared.NodeRecord.{NodeRecord}
use Rattle.node_records.specs.declared.WriterRecord.{WriterRecord}
use Rattle.node_records.specs.Records.{no_record, no_writer_record}

-- ---- The two streams checked -----------------------------------------------------------------

-- a refusal of the second stream
abbrev pub in_second : Refusal → Refusal
in_second f = refusal f.cause 2 f.byte

-- how many words each of them covers
pub record BothCovered : Type 0 where
  pub first : ℕ
  pub second : ℕ

abbrev pub both_covered : ℕ → ℕ → BothCovered
both_covered a b = record { first = a; second = b }

-- "then all of stream 1, then all of stream 2": the refusal, or both covered counts; c: that of stream 1
abbrev pub after_first : ℕ → Result Checked → Result BothCovered
after_first c (refused f) = refused (in_second f)
after_first c (done y) = done (both_covered c y.covered)

abbrev pub both_in : Result Checked → Result Checked → Result BothCovered
both_in (refused f) b = refused f
both_in (done x) b = after_first x.covered b

-- what it is, by the faults of the two streams
both-faults : (f g : Option Fault) (a b : Checked)
    → both_in (unless_fault 1 f (done a)) (unless_fault 1 g (done b))
    ≡ unless_fault 1 f (unless_fault 2 g (done (both_covered a.covered b.covered)))
both-faults none none a b = refl
both-faults none (some g) a b = refl
both-faults (some f) g a b = refl

-- a refusal is no answer
never_done : {A B : Type 0} (c : B) (f : Refusal) → done c ≡ refused f → A
never_done c f e = let z : ◌≡◌ {A = ℕ} 0 1 = cc in absurd (omega arith)

-- without a refusal neither has a fault
both-clean : {A : Type 0} (f g : Option Fault) (c m : A) → done c ≡ unless_fault 1 f (unless_fault 2 g (done m))
    → (f ≡ none) × (g ≡ none) × (c ≡ m)
both-clean none none c m e = (refl, refl, cc)
both-clean none (some g) c m e = never_done c _ e
both-clean (some f) g c m e = never_done c _ e

-- another answer, if there is no refusal
abbrev answered : {A B : Type 0} → B → Result A → Result B
answered b (refused f) = refused f
answered b (done a) = done b

-- and so by the faults
answered-faults : {A B : Type 0} (a : A) (b : B) (f g : Option Fault)
    → unless_fault 1 f (unless_fault 2 g (done b)) ≡ answered b (unless_fault 1 f (unless_fault 2 g (done a)))
answered-faults a b none none = refl
answered-faults a b none (some g) = refl
answered-faults a b (some f) g = refl

-- ---- Tables past the tests -------------------------------------------------------------------

-- a refusal, if any, keeps the output
abbrev Late : {A : Type 0} → Result A → Type 0
Late (refused f) = (cause_row f.cause).leaves ≡ keeps_output
Late (done x) = Unit {0}

-- then all records are zero
late-zero : {A B : Type 0} (z : B) (a : Result A) → Late a → (t : List B) → replicate (length t) z ≡ table_after z a t
late-zero z (refused f) h t = cleared-replicate z t ∙ sym (zeroes-table (refused f) z t f refl h)
late-zero z (done x) h t = cleared-replicate z t ∙ sym (zeroes-done (done x) z t x refl)

-- the fault of a stream keeps the output
fault-late : {A : Type 0} (n k : ℕ) (x : List ℕ) (a : Result A) → Late a → Late (unless_fault k (reading n x).fault a)
fault-late n k x a h = go (reading n x).fault refl
  where
    go : (f : Option Fault) → (reading n x).fault ≡ f → Late (unless_fault k f a)
    go none e = h
    go (some f) e = fault-leaves n x f e

-- the check of a stream, past its tests
module _ (n : ℕ) (x : List ℕ) (t u : List NodeRecord) (A : Result Checked) (few : n ≤ option_limit) (room : table_limit ≤ length t)
    (h : record { answer = A; table = u } ≡ check no_record n x t) where
  -- its fault, else what was read
  check-past : check_answer n x (length t) ≡ unless_fault 1 (reading n x).fault (done (checked_of (reading n x).state))
  unfolding check_answer gate
  check-past = rw (le-ltb option_limit n few, le-ltb (length t) table_limit room) refl

  -- so it was answered
  check-is : A ≡ unless_fault 1 (reading n x).fault (done (checked_of (reading n x).state))
  unfolding check
  check-is = ap (λ (r : Read Checked NodeRecord). r.answer) h ∙ check-past

  -- all records are zero after it
  check-zero : u ≡ replicate (length t) no_record
  unfolding check
  check-zero =
      ap (λ (r : Read Checked NodeRecord). r.table) h
      ∙ ap (λ (a : Result Checked). table_after no_record a t) check-past
      ∙ sym (late-zero no_record (unless_fault 1 (reading n x).fault (done (checked_of (reading n x).state)))
      (fault-late n 1 x (done (checked_of (reading n x).state)) tt) t)

-- ---- The answer ------------------------------------------------------------------------------

-- of a text that was sent
sent-answer : (n c : ℕ) (y out : List ℕ) (s : Sent) → Wrote out y s
    → record { written = s.written; covered = c; ending = cond s.full output_full (cond (eqb c (2 ^ n)) whole input_ended) }
    ≡ answer_of n c y out
unfolding answer_of
sent-answer n c y out s w =
    ap₂ (λ (k : ℕ) (b : Bool). record {
      written = k;
      covered = c;
      ending = cond b output_full (cond (eqb c (2 ^ n)) whole input_ended);
    }) w.written w.full

-- ---- The tests -------------------------------------------------------------------------------

module _ (n op size : ℕ) (x y out : List ℕ) (t₁ t₂ : List NodeRecord) (t : List WriterRecord) where
  -- too many options
  pub combine-options : option_limit < n
      → record { answer = refused (refusal option_count 0 0); first = t₁; second = t₂; third = t; output = out }
      ≡ combine no_record no_writer_record n op size x y out t₁ t₂ t
  unfolding combine combine_answer gate table_after unless_refused
  combine-options h = rw (lt-ltb option_limit n h) refl

  -- no such operator
  pub combine-operator : n ≤ option_limit → 15 < op
      → record { answer = refused (refusal operator_code 0 0); first = t₁; second = t₂; third = t; output = out }
      ≡ combine no_record no_writer_record n op size x y out t₁ t₂ t
  unfolding combine combine_answer gate table_after unless_refused
  combine-operator few h = rw (le-ltb option_limit n few, le-leb 16 op h) refl

  -- the size is too large
  pub combine-size : n ≤ option_limit → op ≤ 15 → table_limit < size
      → record { answer = refused (refusal size_to_write 0 0); first = t₁; second = t₂; third = t; output = out }
      ≡ combine no_record no_writer_record n op size x y out t₁ t₂ t
  unfolding combine combine_answer gate table_after unless_refused
  combine-size few code h = rw (le-ltb option_limit n few, lt-leb 16 op (omega (arith, code)), lt-ltb table_limit size h) refl

  -- the first work table is too short
  pub combine-first : n ≤ option_limit → op ≤ 15 → size ≤ table_limit → length t₁ < table_limit
      → record { answer = refused (refusal work_table 0 0); first = t₁; second = t₂; third = t; output = out }
      ≡ combine no_record no_writer_record n op size x y out t₁ t₂ t
  unfolding combine combine_answer gate table_after unless_refused
  combine-first few code fits h =
      rw (le-ltb option_limit n few, lt-leb 16 op (omega (arith, code)), le-ltb table_limit size fits, lt-ltb (length t₁) table_limit h) refl

  -- the second
  pub combine-second : n ≤ option_limit → op ≤ 15 → size ≤ table_limit → table_limit ≤ length t₁ → length t₂ < table_limit
      → record { answer = refused (refusal work_table 0 0); first = t₁; second = t₂; third = t; output = out }
      ≡ combine no_record no_writer_record n op size x y out t₁ t₂ t
  unfolding combine combine_answer gate table_after unless_refused
  combine-second few code fits room₁ h =
      rw (
        le-ltb option_limit n few,
        lt-leb 16 op (omega (arith, code)),
        le-ltb table_limit size fits,
        le-ltb (length t₁) table_limit room₁,
        lt-ltb (length t₂) table_limit h,
      ) refl

  -- the third
  pub combine-third : n ≤ option_limit → op ≤ 15 → size ≤ table_limit → table_limit ≤ length t₁ → table_limit ≤ length t₂ → length t < table_limit
      → record { answer = refused (refusal work_table 0 0); first = t₁; second = t₂; third = t; output = out }
      ≡ combine no_record no_writer_record n op size x y out t₁ t₂ t
  unfolding combine combine_answer gate table_after unless_refused
  combine-third few code fits room₁ room₂ h =
      rw (
        le-ltb option_limit n few,
        lt-leb 16 op (omega (arith, code)),
        le-ltb table_limit size fits,
        le-ltb (length t₁) table_limit room₁,
        le-ltb (length t₂) table_limit room₂,
        lt-ltb (length t) table_limit h,
      ) refl

  -- ---- Past the tests ------------------------------------------------------------------------

  -- what is answered without a fault
  abbrev run_count : ℕ
  run_count = run_covered (operate op) n (decision n x ∷ decision n y ∷ [])

  abbrev answer : Answer
  answer = answer_of n run_count (combine_text n op size (x ∷ y ∷ [])) out

  module _ (few : n ≤ option_limit) (code : op ≤ 15) (fits : size ≤ table_limit) (room₁ : table_limit ≤ length t₁) (room₂ : table_limit ≤ length t₂)
      (room : table_limit ≤ length t) where
    -- a fault, else that
    combine-past : combine_answer n op size (x ∷ y ∷ []) out (length t₁ ∷ length t₂ ∷ length t ∷ [])
        ≡ unless_fault 1 (reading n x).fault (unless_fault 2 (reading n y).fault (done answer))
    unfolding combine_answer gate unless_faults
    combine-past =
        rw (
          le-ltb option_limit n few,
          lt-leb 16 op (omega (arith, code)),
          le-ltb table_limit size fits,
          le-ltb (length t₁) table_limit room₁,
          le-ltb (length t₂) table_limit room₂,
          le-ltb (length t) table_limit room,
        ) refl

    module _ (A B : Result Checked) (u₁ u₂ : List NodeRecord)
        (h₁ : record { answer = A; table = u₁ } ≡ check no_record n x t₁)
        (h₂ : record { answer = B; table = u₂ } ≡ check no_record n y t₂) where
      -- the two checks together
      both_is : both_in A B
          ≡ unless_fault 1 (reading n x).fault (unless_fault 2 (reading n y).fault (done (both_covered (covered n x) (covered n y))))
      both_is =
          ap₂ both_in (check-is n x t₁ u₁ A few room₁ h₁) (check-is n y t₂ u₂ B few room₂ h₂)
          ∙ both-faults (reading n x).fault (reading n y).fault _ _

      -- their refusal keeps the output
      both-late : Late (both_in A B)
      both-late =
          subst Late (sym both_is) (fault-late n 1 x _ (fault-late n 2 y (done (both_covered (covered n x) (covered n y))) tt))

      -- the answer is a refusal of the two checks, or that without a fault
      combine-is : answered answer (both_in A B)
          ≡ combine_answer n op size (x ∷ y ∷ []) out (length t₁ ∷ length t₂ ∷ length t ∷ [])
      combine-is =
          ap (answered answer) both_is
          ∙ sym (answered-faults (both_covered (covered n x) (covered n y)) answer (reading n x).fault (reading n y).fault)
          ∙ sym combine-past

      -- with tables of zeros
      combine-correct : (a : Result Answer) → Late a → a ≡ answered answer (both_in A B) → (v₁ v₂ : List NodeRecord) (v : List WriterRecord)
          → v₁ ≡ replicate (length t₁) no_record → v₂ ≡ replicate (length t₂) no_record
          → v ≡ replicate (length t) no_writer_record → record {
            answer = a;
            first = v₁;
            second = v₂;
            third = v;
            output = unless_refused a out (λ (r : Answer). output_after (combine_text n op size (x ∷ y ∷ [])) out);
          } ≡ combine no_record no_writer_record n op size x y out t₁ t₂ t
      unfolding combine
      combine-correct a late e v₁ v₂ v e₁ e₂ e₃ =
          ap₂ (λ (p q : List NodeRecord). record { answer = a; first = p; second = q; third = v; output = put a })
          (e₁ ∙ late-zero no_record a late t₁) (e₂ ∙ late-zero no_record a late t₂)
          ∙ ap (λ (q : List WriterRecord). record {
            answer = a;
            first = table_after no_record a t₁;
            second = table_after no_record a t₂;
            third = q;
            output = put a;
          }) (e₃ ∙ late-zero no_writer_record a late t)
          ∙ ap made (e ∙ combine-is)
        where
          put : Result Answer → List ℕ
          put b = unless_refused b out (λ (r : Answer). output_after (combine_text n op size (x ∷ y ∷ [])) out)

          made : Result Answer → Combine NodeRecord WriterRecord
          made b = record {
            answer = b;
            first = table_after no_record b t₁;
            second = table_after no_record b t₂;
            third = table_after no_writer_record b t;
            output = put b;
          }

      -- a stream has a fault
      pub combine-faulty : (f : Refusal) → refused f ≡ both_in A B → (v₁ v₂ : List NodeRecord) (v : List WriterRecord) → v₁ ≡ u₁ → v₂ ≡ u₂
          → v ≡ replicate (length t) no_writer_record
          → record { answer = refused f; first = v₁; second = v₂; third = v; output = out }
          ≡ combine no_record no_writer_record n op size x y out t₁ t₂ t
      unfolding unless_refused
      combine-faulty f e v₁ v₂ v e₁ e₂ e₃ =
          combine-correct (refused f) (subst Late (sym e) both-late) (ap (answered answer) e) v₁ v₂ v
          (e₁ ∙ check-zero n x t₁ u₁ A few room₁ h₁) (e₂ ∙ check-zero n y t₂ u₂ B few room₂ h₂) e₃

      -- neither stream has a fault
      pub combine-clean : (k : BothCovered) → done k ≡ both_in A B
          → ((reading n x).fault ≡ none) × ((reading n y).fault ≡ none) × (k ≡ both_covered (covered n x) (covered n y))
      combine-clean k e = both-clean (reading n x).fault (reading n y).fault k (both_covered (covered n x) (covered n y)) (e ∙ both_is)

      -- the tables after the two checks
      pub combine-tables : (u₁ ≡ replicate (length t₁) no_record) × (u₂ ≡ replicate (length t₂) no_record)
      combine-tables = (check-zero n x t₁ u₁ A few room₁ h₁, check-zero n y t₂ u₂ B few room₂ h₂)

      -- without a fault the answer is of what was sent; c: how many words the run covers
      answer-is : (c : ℕ) → c ≡ run_count → (s : Sent) → Wrote out (combine_text n op size (x ∷ y ∷ [])) s
          → record {
            written = s.written;
            covered = c;
            ending = cond s.full output_full (cond (eqb c (2 ^ n)) whole input_ended);
          } ≡ answer
      answer-is c e s w =
          sent-answer n c (combine_text n op size (x ∷ y ∷ [])) out s w
          ∙ ap (λ (k : ℕ). answer_of n k (combine_text n op size (x ∷ y ∷ [])) out) e

      -- then the stream is written and all tables are cleared
      pub combine-finish : (k : BothCovered) → done k ≡ both_in A B → (c : ℕ) → c ≡ run_count → (s : Sent) → Wrote out (combine_text n op size (x ∷ y ∷ [])) s
          → (r : Answer) → r ≡ record {
            written = s.written;
            covered = c;
            ending = cond s.full output_full (cond (eqb c (2 ^ n)) whole input_ended);
          } → (v₁ v₂ : List NodeRecord) (v : List WriterRecord) → v₁ ≡ replicate (length t₁) no_record → v₂ ≡ replicate (length t₂) no_record
          → v ≡ replicate (length t) no_writer_record
          → record { answer = done r; first = v₁; second = v₂; third = v; output = s.output }
          ≡ combine no_record no_writer_record n op size x y out t₁ t₂ t
      unfolding unless_refused
      combine-finish k clean c e s w r re v₁ v₂ v e₁ e₂ e₃ =
          ap (λ (o : List ℕ). record { answer = done r; first = v₁; second = v₂; third = v; output = o }) w.output
          ∙ combine-correct (done r) tt (ap done (re ∙ answer-is c e s w) ∙ ap (answered answer) clean) v₁ v₂ v e₁ e₂ e₃
