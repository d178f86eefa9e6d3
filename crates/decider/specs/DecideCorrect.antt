-- What deciding comes to, from what its loops reach. Assumes nothing.
use Rattle.std.specs.Prelude.{◌≡◌, Bool, ℕ, ◌<◌, ◌≤◌, ◌^◌, length}
use Rattle.std.proofs.Math.Path.{refl, sym, ap, ap₂}
use Rattle.std.proofs.Common.{◌∙◌, subst, arith, pow_mono}
use Rattle.std.proofs.Math.Bool.{true, false, cond}
use mathlib.Core.List.{List}
use Rattle.std.proofs.Math.Option.{none, some}
use borrow.Author.Tests.{lt-ltb, le-ltb, lt-leb, le-leb}
use Rattle.theory_reading.specs.Limits.{option_limit, open_limit, table_limit, word_limit}
use Rattle.theory_reading.specs.Causes as C
use Rattle.theory_reading.specs.Reading.{Reading}
use Rattle.theory_reading.specs.Deciding.{trace}
use Rattle.theory_reading.specs.Calls as R
use Rattle.theory_reading.proofs.Prefix.{trace-reading}
use Rattle.theory_reading.proofs.Reaching.{decided-not}
use Rattle.node_records.specs.Records.{no_record}
use Rattle.elements.specs.Abstraction.{cause_of}
use Rattle.reader.specs.Advance.{state_at}
use Rattle.reader.specs.OpenNodes.{ReadReached}
use Rattle.reader.specs.Loop.{Ends, ReachedBy}
use Rattle.checker.specs.CheckCorrect.{late_of, Reads, halted-reads, table-after}
use Rattle.node_records.specs.declared.NodeRecord.{NodeRecord}

abbrev pub decided_by : ReadReached → R.Verdict → C.Result R.Verdict
decided_by r v = cond r.faulty (C.refused (late_of r)) (C.done v)

-- A word fits in as many bits as there are options.
pub word-most : (n w : ℕ) → n ≤ option_limit → w < 2 ^ n → w ≤ word_limit
word-most n w few l = omega (arith, l, pow_mono {i = n} {j = option_limit} few)

-- what the loop's last element passed, inside how many nodes
pub passed-bounds : (n : ℕ) (bytes : List ℕ) (stop : ℕ) (r : ReadReached) (u : List NodeRecord) → ReachedBy n bytes stop r u → r.halted ≡ false
    → (r.deep ≤ open_limit) × (r.from ≤ stop)
passed-bounds n bytes stop r u h e = let k = subst (Ends n bytes stop r u h.stands.steps) e h.ends in (k.1.shallow, k.1.low)

module _ (n : ℕ) (bytes : List ℕ) (t : List NodeRecord) where
  pub decide-options : (w : ℕ) (a : C.Result R.Verdict) → option_limit < n → a ≡ C.refused (C.refusal C.option_count 0 0)
      → record { answer = a; table = t } ≡ R.decide no_record n bytes w t
  unfolding R.decide R.decide_answer C.gate C.table_after
  decide-options w a h e = rw (e, lt-ltb option_limit n h) refl

  pub decide-table : (w : ℕ) (a : C.Result R.Verdict) → n ≤ option_limit → length t < table_limit → a ≡ C.refused (C.refusal C.work_table 0 0)
      → record { answer = a; table = t } ≡ R.decide no_record n bytes w t
  unfolding R.decide R.decide_answer C.gate C.table_after
  decide-table w a few h e = rw (e, le-ltb option_limit n few, lt-ltb (length t) table_limit h) refl

  pub decide-word : (w : ℕ) (a : C.Result R.Verdict) → n ≤ option_limit → table_limit ≤ length t → 2 ^ n ≤ w → a ≡ C.refused (C.refusal C.word_range 0 0)
      → record { answer = a; table = t } ≡ R.decide no_record n bytes w t
  unfolding R.decide R.decide_answer C.gate C.table_after
  decide-word w a few room h e = rw (e, le-ltb option_limit n few, le-ltb (length t) table_limit room, le-leb (2 ^ n) w h) refl

  -- v: the verdict, which counts where there is no fault
  decide-answer : (w : ℕ) (r : ReadReached) (u : List NodeRecord) (v : R.Verdict) → n ≤ option_limit → table_limit ≤ length t → w < 2 ^ n
      → Reads n bytes r u → (r.faulty ≡ false → R.verdict n (trace n bytes) w ≡ v)
      → R.decide_answer n bytes w (length t) ≡ decided_by r v
  unfolding R.decide_answer C.gate
  decide-answer w r u v few room l h known =
      rw (le-ltb option_limit n few, le-ltb (length t) table_limit room, lt-leb (2 ^ n) w l)
      (ap (λ (y : Reading). R.unless_fault 1 y.fault (C.done (R.verdict n (trace n bytes) w))) (trace-reading n bytes ∙ h.same)
      ∙ go r.faulty known)
    where
      go : (b : Bool) → (b ≡ false → R.verdict n (trace n bytes) w ≡ v)
          → R.unless_fault 1 (cond b (some (record { cause = cause_of r.cause; byte = r.byte })) none) (C.done (R.verdict n (trace n bytes) w))
          ≡ cond b (C.refused (late_of r)) (C.done v)
      go true k = refl
      go false k = ap C.done (k refl)

  pub decide-correct : (w : ℕ) (a : C.Result R.Verdict) (z : List NodeRecord) (r : ReadReached) (u : List NodeRecord) (v : R.Verdict) → n ≤ option_limit
      → table_limit ≤ length t → w < 2 ^ n → Reads n bytes r u
      → (r.faulty ≡ false → R.verdict n (trace n bytes) w ≡ v) → a ≡ decided_by r v → z ≡ C.cleared no_record t → record { answer = a; table = z }
      ≡ R.decide no_record n bytes w t
  unfolding R.decide
  decide-correct w a z r u v few room l h known e k =
      ap₂ (λ (b : C.Result R.Verdict) (y : List NodeRecord). record { answer = b; table = y }) e (k ∙ sym (table-after n bytes r u h v t))
      ∙ sym (ap (λ (b : C.Result R.Verdict). record { answer = b; table = C.table_after no_record b t }) (decide-answer w r u v few room l h known))

  -- A word that was not passed when reading halted is not decided.
  pub word-not : (w : ℕ) (r : ReadReached) (u : List NodeRecord) → ReachedBy n bytes w r u → r.halted ≡ true → r.faulty ≡ false
      → R.verdict n (trace n bytes) w ≡ R.not_yet
  word-not w r u h e f =
      let k = subst (Ends n bytes w r u h.stands.steps) e h.ends in
      decided-not n bytes (state_at r.run r.opens u) w
      ((halted-reads n bytes w r u h e).same ∙ ap (λ (b : Bool). record
      { state = state_at r.run r.opens u; fault = cond b (some (record { cause = cause_of r.cause; byte = r.byte })) none }) f)
      k.0
