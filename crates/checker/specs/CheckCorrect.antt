-- What checking comes to, from what its loop reaches; and for every call, that the stream is then read and the table is cleared. Assumes nothing.
use Rattle.std.specs.Prelude.{◌≡◌, Bool, true, false, cond, ℕ, suc, min, ◌<◌, ◌≤◌, length, replicate, drop}
use Rattle.std.proofs.Math.Path.{refl, sym, ap₂}
use Rattle.std.proofs.Common.{ap, ◌∙◌, subst, arith}
use mathlib.Core.List.{List, [], ◌∷◌, ◌++◌}
use Rattle.std.proofs.Math.Option.{Option, none, some}
use borrow.Author.Tests.{lt-ltb, le-ltb}
use Rattle.theory_reading.specs.Limits.{option_limit, table_limit, word_limit}
use Rattle.theory_reading.specs.Causes as C
use Rattle.theory_reading.specs.Reading.{Fault, Reading, reading}
use Rattle.theory_reading.specs.Calls as R
use Rattle.theory_reading.proofs.Settled.{fault-leaves}
use Rattle.theory_reading.proofs.CallLaws.{zeroes-table, zeroes-done}
use Rattle.theory_reading.proofs.Reaching.{At, at-fault, at-end, at-covered}
use Rattle.node_records.specs.Records.{no_record}
use Rattle.record_tables.specs.Entries.{clear_to}
use Rattle.elements.specs.Abstraction.{context_of, cause_of}
use Rattle.reader.specs.Advance.{state_at, HaltsAt}
use Rattle.reader.specs.OpenNodes.{ReadReached}
use Rattle.reader.specs.Loop.{Ends, ReachedBy}
use Rattle.node_records.specs.declared.NodeRecord.{NodeRecord}

-- ---- What code answers -----------------------------------------------------------------------

abbrev pub late_of : ReadReached → C.Refusal
late_of r = C.refusal (cause_of r.cause) 1 r.byte

abbrev pub checked_by : ReadReached → C.Result R.Checked
checked_by r = cond r.faulty (C.refused (late_of r)) (C.done (record
    { size = r.run.size; covered = r.run.covered; extent = R.extent (context_of r.run.context) }))

-- ---- Cleared tables --------------------------------------------------------------------------

pub clear-cleared : (t : List NodeRecord) → clear_to no_record t (length t) ≡ C.cleared no_record t
unfolding C.cleared
clear-cleared [] = refl
clear-cleared (r ∷ t) =
    let e : min (suc (length t)) (suc (length t)) ≡ suc (min (length t) (length t)) = omega arith in
    ap (λ (k : ℕ). replicate k no_record ++ drop (length t) t) e ∙ ap (λ (l : List NodeRecord). no_record ∷ l) (clear-cleared t)

-- tables of one length are cleared alike
cleared-alike : (t u : List NodeRecord) → length t ≡ length u → C.cleared no_record t ≡ C.cleared no_record u
unfolding C.cleared
cleared-alike [] [] e = refl
cleared-alike [] (x ∷ u) e = absurd (omega (arith, e))
cleared-alike (x ∷ t) [] e = absurd (omega (arith, e))
cleared-alike (x ∷ t) (y ∷ u) e = ap (λ (l : List NodeRecord). no_record ∷ l) (cleared-alike t u (omega (arith, e)))

-- A table as long as another.
pub record AsLong (u t : List NodeRecord) : Type 0 where
  pub same : length u ≡ length t

-- Clearing all records of a table as long as the one that was lent leaves what the paper says.
pub cleared-long : (u t : List NodeRecord) → AsLong u t → (s : List NodeRecord) → length t ≡ length s → (z : List NodeRecord) → z ≡ clear_to no_record u (length u) → z
    ≡ C.cleared no_record s
cleared-long u t h s l z e = e ∙ clear-cleared u ∙ cleared-alike u s (h.same ∙ l)

-- Clearing all records after the loop leaves what the paper says.
pub cleared-after : (n : ℕ) (bytes : List ℕ) (stop : ℕ) (r : ReadReached) (u : List NodeRecord) → ReachedBy n bytes stop r u → (t : List NodeRecord)
    → length u ≡ length t
    → (z : List NodeRecord) → z ≡ clear_to no_record u (length u) → z ≡ C.cleared no_record t
cleared-after n bytes stop r u h t l z e = e ∙ clear-cleared u ∙ cleared-alike u t l

-- ---- What was read ---------------------------------------------------------------------------

-- the fault that a loop has met
abbrev pub fault_by : ReadReached → Option Fault
fault_by r = cond r.faulty (some (record { cause = cause_of r.cause; byte = r.byte })) none

-- The stream is read as far as the loop has come, and its fault is the loop's.
pub record Reads (n : ℕ) (bytes : List ℕ) (r : ReadReached) (u : List NodeRecord) : Type 0 where
  pub same : reading n bytes ≡ record { state = state_at r.run r.opens u; fault = fault_by r }

module _ (n : ℕ) (bytes : List ℕ) where
  -- where reading halts, the stream is read
  halts-reads : (r : ReadReached) (u : List NodeRecord) (f : ℕ) → At n bytes f (state_at r.run r.opens u)
      → HaltsAt n bytes (state_at r.run r.opens u) r.faulty r.cause r.byte → Reads n bytes r u
  halts-reads r u f h k = record { same = go r.faulty k }
    where
      go : (b : Bool) → HaltsAt n bytes (state_at r.run r.opens u) b r.cause r.byte
          → reading n bytes ≡ record {
            state = state_at r.run r.opens u;
            fault = cond b
                (some (record { cause = cause_of r.cause; byte = r.byte })) none;
          }
      go true e = at-fault n bytes f (state_at r.run r.opens u) (cause_of r.cause) r.byte h e
      go false e = at-end n bytes f (state_at r.run r.opens u) h e

  -- A loop that halted has read the stream.
  pub halted-reads : (stop : ℕ) (r : ReadReached) (u : List NodeRecord) → ReachedBy n bytes stop r u → r.halted ≡ true → Reads n bytes r u
  halted-reads stop r u h e = halts-reads r u h.stands.steps h.stands.here (subst (Ends n bytes stop r u h.stands.steps) e h.ends).1

  -- So has a loop whose stop no stream gets past.
  pub all-reads : (r : ReadReached) (u : List NodeRecord) → n ≤ option_limit → ReachedBy n bytes word_limit r u → Reads n bytes r u
  all-reads r u few h = go r.halted refl
    where
      go : (b : Bool) → r.halted ≡ b → Reads n bytes r u
      go true e = halted-reads word_limit r u h e
      go false e =
          let k = subst (Ends n bytes word_limit r u h.stands.steps) e h.ends in
          absurd (omega (arith, k.0, at-covered n bytes h.stands.steps (state_at r.run r.opens u) few h.stands.here))

  -- Without a fault of the loop the stream has none.
  pub reads-clean : (r : ReadReached) (u : List NodeRecord) → Reads n bytes r u → r.faulty ≡ false → (reading n bytes).fault ≡ none
  reads-clean r u h e = ap (λ (x : Reading). x.fault) h.same ∙ ap
      (λ (b : Bool). cond b (some (record { cause = cause_of r.cause; byte = r.byte })) none) e

  -- a fault keeps the output
  fault-keeps : (r : ReadReached) (u : List NodeRecord) → Reads n bytes r u → r.faulty ≡ true → (C.cause_row (cause_of r.cause)).leaves ≡ C.keeps_output
  fault-keeps r u h e =
      fault-leaves n bytes (record { cause = cause_of r.cause; byte = r.byte })
      (ap (λ (x : Reading). x.fault) h.same ∙ ap (λ (b : Bool). cond b (some (record { cause = cause_of r.cause; byte = r.byte })) none) e)

  -- what is answered past the tests, and the table after it
  module _ {A : Type 0} (r : ReadReached) (u : List NodeRecord) (h : Reads n bytes r u) (x : A) where
    pub unless-read : (f : Reading → A) → f (record { state = state_at r.run r.opens u; fault = fault_by r }) ≡ x
        → R.unless_fault 1 (reading n bytes).fault (C.done (f (reading n bytes))) ≡ cond r.faulty (C.refused (late_of r)) (C.done x)
    unless-read f e =
        ap (λ (y : Reading). R.unless_fault 1 y.fault (C.done (f y))) h.same
        ∙ ap (λ (y : A). R.unless_fault 1 (fault_by r) (C.done y)) e
        ∙ go r.faulty
      where
        go : (b : Bool) → R.unless_fault 1 (cond b (some (record { cause = cause_of r.cause; byte = r.byte })) none) (C.done x)
            ≡ cond b (C.refused (late_of r)) (C.done x)
        go true = refl
        go false = refl

    pub table-after : (t : List NodeRecord) → C.table_after no_record (cond r.faulty (C.refused (late_of r)) (C.done x)) t ≡ C.cleared no_record t
    table-after t = go r.faulty refl
      where
        go : (b : Bool) → r.faulty ≡ b → C.table_after no_record (cond b (C.refused (late_of r)) (C.done x)) t ≡ C.cleared no_record t
        go true e = zeroes-table (C.refused (late_of r)) no_record t (late_of r) refl (fault-keeps r u h e)
        go false e = zeroes-done (C.done x) no_record t x refl

-- ---- Checking --------------------------------------------------------------------------------

module _ (n : ℕ) (bytes : List ℕ) (t : List NodeRecord) where
  pub check-options : (a : C.Result R.Checked) → option_limit < n → a ≡ C.refused (C.refusal C.option_count 0 0) → record { answer = a; table = t }
      ≡ R.check no_record n bytes t
  unfolding R.check R.check_answer C.gate C.table_after
  check-options a h e = rw (e, lt-ltb option_limit n h) refl

  pub check-table : (a : C.Result R.Checked) → n ≤ option_limit → length t < table_limit → a ≡ C.refused (C.refusal C.work_table 0 0)
      → record { answer = a; table = t } ≡ R.check no_record n bytes t
  unfolding R.check R.check_answer C.gate C.table_after
  check-table a few h e = rw (e, le-ltb option_limit n few, lt-ltb (length t) table_limit h) refl

  check-answer : (r : ReadReached) (u : List NodeRecord) → n ≤ option_limit → table_limit ≤ length t → Reads n bytes r u
      → R.check_answer n bytes (length t) ≡ checked_by r
  unfolding R.check_answer C.gate
  check-answer r u few room h =
      rw (le-ltb option_limit n few, le-ltb (length t) table_limit room)
      (unless-read n bytes r u h (record { size = r.run.size; covered = r.run.covered; extent = R.extent (context_of r.run.context) })
      (λ (x : Reading). R.checked_of x.state) refl)

  pub check-correct : (a : C.Result R.Checked) (z : List NodeRecord) (r : ReadReached) (u : List NodeRecord) → n ≤ option_limit → table_limit ≤ length t
      → Reads n bytes r u → a ≡ checked_by r → z ≡ C.cleared no_record t
      → record { answer = a; table = z } ≡ R.check no_record n bytes t
  unfolding R.check
  check-correct a z r u few room h e k =
      ap₂ (λ (b : C.Result R.Checked) (y : List NodeRecord). record { answer = b; table = y }) e (k ∙ sym (table-after n bytes r u h _ t))
      ∙ sym (ap (λ (b : C.Result R.Checked). record { answer = b; table = C.table_after no_record b t }) (check-answer r u few room h))
