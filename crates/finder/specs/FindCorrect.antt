-- What finding the next admitted word comes to, from what its loop reaches. Assumes nothing.
use Rattle.std.specs.Prelude.{◌≡◌, Bool, ℕ, ◌<◌, ◌≤◌, ◌^◌, ltb, eqb, length}
use Rattle.std.proofs.Math.Path.{refl, sym, ap, ap₂}
use Rattle.std.proofs.Common.{◌∙◌, subst, true≢false, arith}
use Rattle.std.proofs.Math.Bool.{true, false, cond}
use mathlib.Core.List.{List}
use Rattle.std.proofs.Math.Option.{none, some}
use borrow.Author.Tests.{lt-ltb, le-ltb, lt-leb, le-leb}
use Rattle.theory_reading.specs.Limits.{option_limit, table_limit, word_limit}
use Rattle.theory_reading.specs.Causes as C
use Rattle.theory_reading.specs.Reading.{Reading}
use Rattle.theory_reading.specs.Deciding.{Decision, undecided, decided, decision_of, decision, trace}
use Rattle.theory_reading.specs.Calls as R
use Rattle.theory_reading.specs.NextWord.{next_word_lem, next-none}
use Rattle.theory_reading.proofs.Prefix.{trace-reading}
use Rattle.theory_reading.proofs.Covered.{trace-covered}
use Rattle.elements.specs.Abstraction.{cause_of}
use Rattle.node_records.specs.Records.{no_record}
use Rattle.record_tables.specs.Entries.{clear_to}
use Rattle.node_records.specs.declared.NodeRecord.{NodeRecord}
use Rattle.cursors.specs.declared.Cursor.{Cursor}
use Rattle.elements.specs.declared.Open.{Open}
use Rattle.reader.specs.declared.Reached.{Reached}
use Rattle.reader.specs.OpenNodes.{ReadReached, opens_in, reached_in, cursor_in}
use Rattle.reader.specs.Loop.{stands-covered, Ends, ReachedBy}
use Rattle.reader.specs.ReadOn.{read_from, read-called}
use Rattle.checker.specs.CheckCorrect.{late_of, cleared-after, Reads, halted-reads, all-reads, table-after}
use Rattle.blocks.specs.BlockLaws.{stands-all}
use Rattle.finder.specs.LeastDecided.{is_value}
use Rattle.finder.specs.Seeking.{Seeks}

-- ---- Definitions -----------------------------------------------------------------------------

-- what is answered where no word is found, and where v is
abbrev pub ended_by : ℕ → ReadReached → C.Result R.NextWord
ended_by n r = cond r.faulty (C.refused (late_of r)) (C.done (cond (eqb r.run.covered (2 ^ n)) R.no_word R.not_known))

abbrev pub found_by : ReadReached → ℕ → C.Result R.NextWord
found_by r v = cond r.faulty (C.refused (late_of r)) (C.done (R.word v))

-- ---- The call --------------------------------------------------------------------------------

-- Clearing all records then leaves what the paper says,
pub seeks-cleared : (n : ℕ) (bytes : List ℕ) (w : ℕ) (a : Bool) (r : ReadReached) (v : ℕ) (u t : List NodeRecord) → Seeks n bytes w a r v u t
    → (z : List NodeRecord) → z ≡ clear_to no_record u (length u) → z ≡ C.cleared no_record t
seeks-cleared n bytes w a r v u t h z e = cleared-after n bytes h.stop r u h.reached t h.kept z e

-- and reading on to the end reads the stream. c: the cursor, as code has it; x, y: what is reached, and the table then
module _ (n : ℕ) (bytes : List ℕ) (few : n ≤ option_limit) (w : ℕ) (r : Reached) (os : List Open) (v : ℕ) (u t : List NodeRecord)
    (h : Seeks n bytes w true (reached_in r os) v u t) (c : Cursor) (ce : c ≡ record { run = r.run; depth = r.depth }) (x : ReadReached)
    (y : List NodeRecord) (called : record { reached = x; table = y } ≡ read_from n bytes word_limit (cursor_in c os) u) where
  to_end_lem : ReachedBy n bytes word_limit x y
  to_end_lem = read-called n bytes few word_limit (omega arith) (record { run = r.run; opens = opens_in os r.depth }) u h.reached.stands
      (stands-covered n bytes few r.run (opens_in os r.depth) u h.reached.stands) x y
      (called ∙ ap (λ (c : Cursor). read_from n bytes word_limit (cursor_in c os) u) ce)

  pub end_reads : Reads n bytes x y
  end_reads = all-reads n bytes x y few to_end_lem

  pub end-cleared : length y ≡ length u → (z : List NodeRecord) → z ≡ clear_to no_record y (length y) → z ≡ C.cleared no_record t
  end-cleared l z e = cleared-after n bytes word_limit x y to_end_lem t (l ∙ h.kept) z e

-- A word that is not decided yes is not admitted,
none-admitted : (n : ℕ) (bytes : List ℕ) (j : ℕ) → is_value true (decision n bytes j) ≡ false → R.is_admitted (R.verdict n (trace n bytes) j) ≡ false
unfolding decision
none-admitted n bytes j e = go (ltb j (trace n bytes).reading.state.covered)
  where
    by : (d : Decision) → is_value true d ≡ false → R.is_admitted (R.verdict_of d) ≡ false
    by undecided e = refl
    by (decided true) e = absurd (true≢false e)
    by (decided false) e = refl

    go : (b : Bool) → R.is_admitted (cond b (R.verdict_of (decision_of n (trace n bytes) j)) R.not_yet) ≡ false
    go true = by (decision_of n (trace n bytes) j) e
    go false = refl

-- and one that is is.
is-yes : (n : ℕ) (bytes : List ℕ) (j : ℕ) → j < (trace n bytes).reading.state.covered → decision n bytes j ≡ decided true
    → R.verdict n (trace n bytes) j ≡ R.is_yes
unfolding decision
is-yes n bytes j l e = rw (lt-ltb j (trace n bytes).reading.state.covered l) (ap R.verdict_of e)

module _ (n : ℕ) (bytes : List ℕ) (t : List NodeRecord) (w : ℕ) where
  pub find-options : (a : C.Result R.NextWord) → option_limit < n → a ≡ C.refused (C.refusal C.option_count 0 0)
      → record { answer = a; table = t } ≡ R.find_next no_record n bytes w t
  unfolding R.find_next R.find_answer C.gate C.table_after
  find-options a h e = rw (e, lt-ltb option_limit n h) refl

  pub find-table : (a : C.Result R.NextWord) → n ≤ option_limit → length t < table_limit → a ≡ C.refused (C.refusal C.work_table 0 0)
      → record { answer = a; table = t } ≡ R.find_next no_record n bytes w t
  unfolding R.find_next R.find_answer C.gate C.table_after
  find-table a few h e = rw (e, le-ltb option_limit n few, lt-ltb (length t) table_limit h) refl

  pub find-word : (a : C.Result R.NextWord) → n ≤ option_limit → table_limit ≤ length t → 2 ^ n ≤ w → a ≡ C.refused (C.refusal C.word_range 0 0)
      → record { answer = a; table = t } ≡ R.find_next no_record n bytes w t
  unfolding R.find_next R.find_answer C.gate C.table_after
  find-word a few room h e = rw (e, le-ltb option_limit n few, le-ltb (length t) table_limit room, le-leb (2 ^ n) w h) refl

  module _ (few : n ≤ option_limit) (room : table_limit ≤ length t) (l : w < 2 ^ n) where
    -- k: the answer, which counts where there is no fault
    find-answer : (r : ReadReached) (u : List NodeRecord) (k : R.NextWord) → Reads n bytes r u → (r.faulty ≡ false → R.next_word n (trace n bytes) w ≡ k)
        → R.find_answer n bytes w (length t) ≡ cond r.faulty (C.refused (late_of r)) (C.done k)
    unfolding R.find_answer C.gate
    find-answer r u k h known =
        rw (le-ltb option_limit n few, le-ltb (length t) table_limit room, lt-leb (2 ^ n) w l)
        (ap (λ (y : Reading). R.unless_fault 1 y.fault (C.done (R.next_word n (trace n bytes) w))) (trace-reading n bytes ∙ h.same)
        ∙ go r.faulty known)
      where
        go : (b : Bool) → (b ≡ false → R.next_word n (trace n bytes) w ≡ k)
            → R.unless_fault 1 (cond b (some (record { cause = cause_of r.cause; byte = r.byte })) none) (C.done (R.next_word n (trace n bytes) w))
            ≡ cond b (C.refused (late_of r)) (C.done k)
        go true p = refl
        go false p = ap C.done (p refl)

    find-correct : (a : C.Result R.NextWord) (z : List NodeRecord) (r : ReadReached) (u : List NodeRecord) (k : R.NextWord) → Reads n bytes r u
        → (r.faulty ≡ false → R.next_word n (trace n bytes) w ≡ k) → a ≡ cond r.faulty (C.refused (late_of r)) (C.done k)
        → z ≡ C.cleared no_record t → record { answer = a; table = z } ≡ R.find_next no_record n bytes w t
    unfolding R.find_next
    find-correct a z r u k h known e c =
        ap₂ (λ (b : C.Result R.NextWord) (y : List NodeRecord). record { answer = b; table = y }) e (c ∙ sym (table-after n bytes r u h k t))
        ∙ sym (ap (λ (b : C.Result R.NextWord). record { answer = b; table = C.table_after no_record b t }) (find-answer r u k h known))

    -- Where the search has halted, there is no word.
    pub find-ended : (a : C.Result R.NextWord) (z : List NodeRecord) (r : ReadReached) (v : ℕ) (u : List NodeRecord)
        → Seeks n bytes w true r v u t → r.halted ≡ true → a ≡ ended_by n r → z ≡ C.cleared no_record t
        → record { answer = a; table = z } ≡ R.find_next no_record n bytes w t
    find-ended a z r v u h e ae ze =
        find-correct a z r u (cond (eqb r.run.covered (2 ^ n)) R.no_word R.not_known) reads (λ _.
        next-none n (trace n bytes) w (λ j p q. none-admitted n bytes j (h.ended e j p (omega
        (arith, q, all, (subst (Ends n bytes h.stop r u h.reached.stands.steps) e h.reached.ends).0))))
        ∙ ap (λ (c : ℕ). cond (eqb c (2 ^ n)) R.no_word R.not_known) all) ae ze
      where
        reads : Reads n bytes r u
        reads = halted-reads n bytes h.stop r u h.reached e

        all : (trace n bytes).reading.state.covered ≡ r.run.covered
        all = ap (λ (y : Reading). y.state.covered) (trace-reading n bytes ∙ (halted-reads n bytes h.stop r u h.reached e).same)

    -- Where it has found v, that is the word; x, y: what reading to the end reaches, and the table then.
    pub find-found : (a : C.Result R.NextWord) (z : List NodeRecord) (r : ReadReached) (v : ℕ) (u : List NodeRecord)
        → Seeks n bytes w true r v u t → r.halted ≡ false → (x : ReadReached) (y : List NodeRecord) → Reads n bytes x y → a ≡ found_by x v
        → z ≡ C.cleared no_record t → record { answer = a; table = z } ≡ R.find_next no_record n bytes w t
    find-found a z r v u h e x y reads ae ze =
        let f = h.found e in
        let l : v < (trace n bytes).reading.state.covered
        = omega (arith, f.1.0, stands-all n bytes r.run r.opens u h.reached.stands, trace-covered n bytes) in
        find-correct a z x y (R.word v) reads (λ _. next_word_lem n (trace n bytes) w v f.0 l (is-yes n bytes v l f.1.1.0)
        (λ j p q. none-admitted n bytes j (f.1.1.1 j p q))) ae ze
