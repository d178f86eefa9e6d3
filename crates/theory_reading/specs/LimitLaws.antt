-- What is asked of the limits: a limit may be any number of which this holds. And the test for a truth table's option count. Assumes nothing.
use Rattle.std.specs.Prelude.{◌≡◌, refl, ◌⊎◌, Bool, true, false, ◌&&◌, ℕ, suc, ◌+◌, ◌*◌, ◌^◌, ◌≤◌, ◌<◌, leb}
use Rattle.std.proofs.Common.{⊎_elim, arith, le-leb}
use Rattle.std.proofs.lemmas.Bool.{lt-leb}
use Rattle.theory_reading.specs.Limits.{option_limit, open_limit, table_limit, truth_table_least, truth_table_most, digit_limit, word_limit, truth_limit}

-- ---- What is asked of them -------------------------------------------------------------------

-- words are counted in 64 bits
pub few-options : option_limit < 64
few-options = omega arith

-- each option may have its open node
pub open-options : option_limit ≤ open_limit
open-options = omega arith

-- a truth table has no more options, and whole bytes
pub truth-options : truth_table_most ≤ option_limit
truth-options = omega arith

pub truth-bytes : 3 ≤ truth_table_least
truth-bytes = omega arith

-- a table has a record, so that there is a bucket
pub some-record : 0 < table_limit
some-record = omega arith

-- its numbers have few digits
pub few-digits : table_limit < 10 ^ digit_limit
few-digits = omega arith

-- a number above those that 32 bits hold is in no table
pub few-numbers : table_limit < 4294967295
few-numbers = omega arith

-- the parents of a number are counted in 32 bits: two for each record, and two more while one is stored
pub few-parents : 2 * suc table_limit + 2 < 4294967295
few-parents = omega arith

-- a number is given out once for each word at most, and stamps have 32 bits
pub few-stamps : word_limit ≤ 4294967296
few-stamps = omega arith

-- and none at its last value in a truth table
pub few-truths : truth_limit < 4294967296
few-truths = omega arith

-- ---- The test --------------------------------------------------------------------------------

-- "n from 3 to 16", as the calls test it
abbrev pub is_truth_count : ℕ → Bool
is_truth_count n = leb truth_table_least n && leb n truth_table_most

pub truth-count : (n : ℕ) → truth_table_least ≤ n → n ≤ truth_table_most → is_truth_count n ≡ true
truth-count n h k = rw (le-leb truth_table_least n h, le-leb n truth_table_most k) refl

pub no-truth-count : (n : ℕ) → (n < truth_table_least) ⊎ (truth_table_most < n) → is_truth_count n ≡ false
no-truth-count n h = ⊎_elim
    (λ (l : n < truth_table_least). rw (lt-leb truth_table_least n l) refl)
    (λ (l : truth_table_most < n). rw (le-leb truth_table_least n (omega (arith, l)), lt-leb n truth_table_most l) refl)
    h
