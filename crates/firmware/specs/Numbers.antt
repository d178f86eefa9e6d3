-- What the calls give as C has it: the answer's numbers, and the work table after the call. Assumes nothing.
use Rattle.std.specs.Prelude.{List, ℕ}
use Rattle.theory_reading.specs.Calls as R
use Rattle.node_records.specs.Records.{no_record}
use Rattle.node_records.specs.declared.NodeRecord.{NodeRecord}
use Rattle.c_answers.specs.Numbers.{checked_numbers, decided_numbers, found_numbers, filled_numbers}
use Rattle.c_answers.specs.declared.RuleChecked.{RuleChecked}
use Rattle.c_answers.specs.declared.RuleDecided.{RuleDecided}
use Rattle.c_answers.specs.declared.RuleFound.{RuleFound}
use Rattle.c_answers.specs.declared.RuleFilled.{RuleFilled}

-- an answer, with the work table after the call
pub record Given (A : Type 0) : Type 0 where
  pub answer : A
  pub table : List NodeRecord

abbrev pub check_given : ℕ → List ℕ → List NodeRecord → Given RuleChecked
check_given n bytes t = let c = R.check no_record n bytes t in record { answer = checked_numbers c.answer; table = c.table }

abbrev pub decide_given : ℕ → List ℕ → ℕ → List NodeRecord → Given RuleDecided
decide_given n bytes w t = let c = R.decide no_record n bytes w t in record { answer = decided_numbers c.answer; table = c.table }

abbrev pub next_given : ℕ → List ℕ → ℕ → List NodeRecord → Given RuleFound
next_given n bytes w t = let c = R.find_next no_record n bytes w t in record { answer = found_numbers c.answer; table = c.table }

-- likewise with the truth table
pub record GivenWords : Type 0 where
  pub answer : RuleFilled
  pub table : List NodeRecord
  pub truths : List ℕ

abbrev pub fill_given : ℕ → List ℕ → List ℕ → List NodeRecord → GivenWords
fill_given n bytes old t = let c = R.fill no_record n bytes old t in record { answer = filled_numbers c.answer; table = c.table; truths = c.truths }
