-- The answers of the calls as C has them: numbers, each cause with the paper's number. What does not apply is 0. Assumes nothing.
use Rattle.std.specs.Prelude.{ℕ}
use Rattle.theory_reading.specs.Causes.{Result, refused, done, cause_row}
use Rattle.theory_reading.specs.Calls as R
use Rattle.c_answers.specs.declared.RuleChecked.{RuleChecked}
use Rattle.c_answers.specs.declared.RuleDecided.{RuleDecided}
use Rattle.c_answers.specs.declared.RuleFound.{RuleFound}
use Rattle.c_answers.specs.declared.RuleFilled.{RuleFilled}

abbrev pub extent_number : R.Extent → ℕ
extent_number R.cut = 0
extent_number R.complete = 1

abbrev pub verdict_number : R.Verdict → ℕ
verdict_number R.is_no = 0
verdict_number R.is_yes = 1
verdict_number R.not_yet = 2

abbrev pub next_number : R.NextWord → ℕ
next_number R.no_word = 0
next_number (R.word v) = 1
next_number R.not_known = 2

-- the word that was found
abbrev pub next_found : R.NextWord → ℕ
next_found R.no_word = 0
next_found (R.word v) = v
next_found R.not_known = 0

abbrev pub checked_numbers : Result R.Checked → RuleChecked
checked_numbers (refused r) = record { cause = (cause_row r.cause).number; stream = r.stream; byte = r.byte; covered = 0; size = 0; extent = 0 }
checked_numbers (done x) = record { cause = 0; stream = 0; byte = 0; covered = x.covered; size = x.size; extent = extent_number x.extent }

abbrev pub decided_numbers : Result R.Verdict → RuleDecided
decided_numbers (refused r) = record { cause = (cause_row r.cause).number; stream = r.stream; byte = r.byte; verdict = 0; spare = 0 }
decided_numbers (done v) = record { cause = 0; stream = 0; byte = 0; verdict = verdict_number v; spare = 0 }

abbrev pub found_numbers : Result R.NextWord → RuleFound
found_numbers (refused r) = record { cause = (cause_row r.cause).number; stream = r.stream; byte = r.byte; word = 0; answer = 0; spare = 0 }
found_numbers (done x) = record { cause = 0; stream = 0; byte = 0; word = next_found x; answer = next_number x; spare = 0 }

abbrev pub filled_numbers : Result ℕ → RuleFilled
filled_numbers (refused r) = record { cause = (cause_row r.cause).number; stream = r.stream; byte = r.byte; covered = 0 }
filled_numbers (done k) = record { cause = 0; stream = 0; byte = 0; covered = k }
