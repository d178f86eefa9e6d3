-- What the calls that read answer on a stream without fault: deciding gives the diagram's decision, and so does each word of a truth table that
-- is filled; and what a refusal leaves in lent memory. Assumes nothing.
use Rattle.std.specs.Prelude.{◌≡◌, Bool, cond, List, ℕ, zero, suc, ◌+◌, ◌*◌, ◌/◌, ◌%◌, ◌<◌, ◌≤◌, ◌^◌, ltb, length, get_or}
use Rattle.std.proofs.Math.Path.{refl, ap}
use Rattle.std.proofs.Common.{sym, ◌∙◌, subst, arith, ltb-false, le-ltb}
use Rattle.std.proofs.Math.Bool.{true, false}
use Rattle.std.proofs.Math.Option.{none}
use Rattle.std.proofs.Math.Nat.{pow-succ', div-div-eq-div-mul}
use Rattle.std.proofs.lemmas.Bool.{lt-leb}
use Rattle.theory_lists.specs.Lists.{All}
use Rattle.theory_reading.specs.Limits.{option_limit, table_limit}
use Rattle.theory_reading.specs.Causes.{Leaves, keeps_all, keeps_output, leaves_all, cause_row, Refusal, Result, refused, done, gate, cleared}
use Rattle.theory_reading.specs.Causes.{table_after, unless_refused}
use Rattle.theory_reading.specs.Reading.{Reading, reading}
use Rattle.theory_reading.specs.Deciding.{Trace, decision_of, decision, trace}
use Rattle.theory_reading.specs.Calls.{Verdict, is_no, is_yes, not_yet, verdict_of, verdict, decide_answer, decide, digit_of, words_from, bytes_from}
use Rattle.theory_reading.specs.Calls.{fill_answer, fill}
use Rattle.theory_reading.proofs.Prefix.{trace-reading}
use Rattle.theory_reading.proofs.Covered.{trace-covered, uncovered-undecided}

-- the test against the covered count says nothing more than the decision
pub verdict-decision : (n : ℕ) (bytes : List ℕ) (w : ℕ) → w < 2 ^ n → verdict n (trace n bytes) w ≡ verdict_of (decision n bytes w)
unfolding decision
verdict-decision n bytes w h = go (ltb w (trace n bytes).reading.state.covered) refl
  where
    go : (t : Bool) → ltb w (trace n bytes).reading.state.covered ≡ t → cond t (verdict_of (decision_of n (trace n bytes) w)) not_yet
        ≡ verdict_of (decision_of n (trace n bytes) w)
    go true e = refl
    go false e = ap verdict_of (sym (uncovered-undecided n bytes w h (subst (λ (c : ℕ). c ≤ w) (trace-covered n bytes) (ltb-false _ _ e))))

-- DECIDING answers what the stream decides.
pub decide-decision : {R : Type 0} (z : R) (n : ℕ) (bytes : List ℕ) (w : ℕ) (table : List R) → n ≤ option_limit → table_limit ≤ length table → w < 2 ^ n
    → (reading n bytes).fault ≡ none
    → (decide z n bytes w table).answer ≡ done (verdict_of (decision n bytes w))
unfolding decide decide_answer gate
decide-decision z n bytes w table hn ht hw e =
    let f : (trace n bytes).reading.fault ≡ none = ap (λ (r : Reading). r.fault) (trace-reading n bytes) ∙ e in
    rw (le-ltb option_limit n hn, le-ltb (length table) table_limit ht, lt-leb (2 ^ n) w hw, f) (ap done (verdict-decision n bytes w hw))

-- ---- Filling ---------------------------------------------------------------------------------

digit_of-low : (v : Verdict) → digit_of v ≤ 1
digit_of-low is_no = omega arith
digit_of-low is_yes = omega arith
digit_of-low not_yet = omega arith

-- binary digit i of the words from w on is word w + i
words-digit : (k n : ℕ) (t : Trace) (w i : ℕ) → i < k → words_from k n t w / 2 ^ i % 2 ≡ digit_of (verdict n t (w + i))
unfolding words_from
words-digit zero n t w i h = absurd (omega arith)
words-digit (suc k) n t w zero h =
    let e : w + 0 ≡ w = omega arith in
    let d : (digit_of (verdict n t w) + 2 * words_from k n t (w + 1)) / 1 % 2 ≡ digit_of (verdict n t w) = omega (arith, digit_of-low (verdict n t w)) in
    d ∙ ap (λ (x : ℕ). digit_of (verdict n t x)) (sym e)
words-digit (suc k) n t w (suc i) h =
    let x = digit_of (verdict n t w) + 2 * words_from k n t (w + 1) in
    let e : w + 1 + i ≡ w + suc i = omega arith in
    let p : x / 2 ^ suc i ≡ x / 2 / 2 ^ i = ap (λ (y : ℕ). x / y) (pow-succ' 2 i) ∙ sym (div-div-eq-div-mul x 2 (2 ^ i)) in
    let q : x / 2 ≡ words_from k n t (w + 1) = omega (arith, digit_of-low (verdict n t w)) in
    ap (λ (y : ℕ). y % 2) (p ∙ ap (λ (y : ℕ). y / 2 ^ i) q) ∙ words-digit k n t (w + 1) i (omega arith) ∙ ap (λ (y : ℕ). digit_of (verdict n t y)) e

bytes-at : (k n : ℕ) (t : Trace) (i j : ℕ) → j < k → get_or (bytes_from k n t i) j 0 ≡ words_from 8 n t (8 * (i + j))
unfolding bytes_from
bytes-at zero n t i j h = absurd (omega arith)
bytes-at (suc k) n t i zero h = let e : i ≡ i + 0 = omega arith in ap (λ (y : ℕ). words_from 8 n t (8 * y)) e
bytes-at (suc k) n t i (suc j) h = let e : i + 1 + j ≡ i + suc j = omega arith in bytes-at k n t (i + 1) j (omega arith)
    ∙ ap (λ (y : ℕ). words_from 8 n t (8 * y)) e

-- A FILLED TRUTH TABLE has at "binary digit w mod 8 (0 lowest) of byte w / 8" what the stream decides on the word w, and 0 from the covered count on.
pub filled-word : (k n : ℕ) (bytes : List ℕ) (w : ℕ) → w < 2 ^ n → w / 8 < k → get_or (bytes_from k n (trace n bytes) 0) (w / 8) 0 / 2 ^ (w % 8) % 2
    ≡ digit_of (verdict_of (decision n bytes w))
filled-word k n bytes w h l =
    let t = trace n bytes in
    let e : 8 * (0 + w / 8) + w % 8 ≡ w = omega arith in
    ap (λ (y : ℕ). y / 2 ^ (w % 8) % 2) (bytes-at k n t 0 (w / 8) l)
    ∙ words-digit 8 n t (8 * (0 + w / 8)) (w % 8) (omega arith)
    ∙ ap (λ (y : ℕ). digit_of (verdict n t y)) e ∙ ap digit_of (verdict-decision n bytes w h)

-- it has the bytes asked for
pub filled-length : (k n : ℕ) (t : Trace) (i : ℕ) → length (bytes_from k n t i) ≡ k
unfolding bytes_from
filled-length zero n t i = refl
filled-length (suc k) n t i = ap suc (filled-length k n t (i + 1))

words-low : (k n : ℕ) (t : Trace) (w : ℕ) → words_from k n t w < 2 ^ k
unfolding words_from
words-low zero n t w = omega arith
words-low (suc k) n t w = omega (arith, digit_of-low (verdict n t w), words-low k n t (w + 1), pow-succ' 2 k)

-- each of them is a byte
pub filled-bytes : (k n : ℕ) (t : Trace) (i : ℕ) → All (λ b. b < 256) (bytes_from k n t i)
unfolding bytes_from
filled-bytes zero n t i = tt
filled-bytes (suc k) n t i = (words-low 8 n t (8 * i), filled-bytes k n t (i + 1))

-- ---- Lent memory -----------------------------------------------------------------------------

module _ {A : Type 0} (a : Result A) where
  -- a refused call's output is as it was
  pub keeps_output_lem : (old : List ℕ) (new : A → List ℕ) (f : Refusal) → a ≡ refused f → unless_refused a old new ≡ old
  unfolding unless_refused
  keeps_output_lem old new f e = ap (λ (x : Result A). unless_refused x old new) e

  -- a cause that leaves all as it was: so is a work table
  pub keeps-table : {R : Type 0} (z : R) (t : List R) (f : Refusal) → a ≡ refused f → (cause_row f.cause).leaves ≡ keeps_all → table_after z a t ≡ t
  unfolding table_after
  keeps-table z t f e c = ap (λ (x : Result A). table_after z x t) e ∙ ap (λ (w : Leaves). elim (leaves_all w) [ true ↦ t | false ↦ cleared z t ]) c

  -- one that keeps the output alone: every record is zero
  pub zeroes-table : {R : Type 0} (z : R) (t : List R) (f : Refusal) → a ≡ refused f → (cause_row f.cause).leaves ≡ keeps_output → table_after z a t
      ≡ cleared z t
  unfolding table_after
  zeroes-table z t f e c = ap (λ (x : Result A). table_after z x t) e ∙ ap (λ (w : Leaves). elim (leaves_all w) [ true ↦ t | false ↦ cleared z t ]) c

  pub zeroes-done : {R : Type 0} (z : R) (t : List R) (x : A) → a ≡ done x → table_after z a t ≡ cleared z t
  unfolding table_after
  zeroes-done z t x e = rw e refl

pub fill-refused : {R : Type 0} (z : R) (n : ℕ) (bytes old : List ℕ) (table : List R) (f : Refusal) → (fill z n bytes old table).answer ≡ refused f
    → (fill z n bytes old table).truths ≡ old
unfolding fill
fill-refused z n bytes old table f e = keeps_output_lem (fill_answer n bytes old (length table)) old _ f e
