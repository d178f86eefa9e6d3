-- A place and a step as C has them: numbers, each cause with the paper's number. What does not apply is 0. Assumes nothing.
use Rattle.std.specs.Prelude.{◌≡◌, refl, cond, ℕ, eqb}
use Rattle.theory_reading.specs.Causes.{cause_row}
use Rattle.theory_reading.specs.Element as T
use Rattle.theory_reading.specs.Reading.{context_number}
use Rattle.elements.specs.Abstraction.{open_list, ref_of}
use Rattle.stepping.specs.declared.RulePlace.{RulePlace}
use Rattle.stepping.specs.declared.RuleStepped.{RuleStepped}

-- what stands before a place; a number that is no context's stands for the end
abbrev pub context_from : ℕ → T.Context
context_from k =
    cond (eqb k 0) T.start (cond (eqb k 1) T.lead (cond (eqb k 2) T.begins
    (cond (eqb k 3) T.after_digit (cond (eqb k 4) T.after_two (cond (eqb k 5) T.after_one T.over)))))

-- the number of a context gives it back
pub context-back : (m : T.Context) → context_from (context_number m) ≡ m
context-back T.start = refl
context-back T.lead = refl
context-back T.begins = refl
context-back T.after_digit = refl
context-back T.after_two = refl
context-back T.after_one = refl
context-back T.over = refl

-- the place that C holds; entries of nodes that are not open count for nothing
abbrev pub place_from : RulePlace → T.Place
place_from p = T.place p.at (context_from p.context) (open_list p.opens) (ref_of p.last)

-- outcome 0 an element, 1 a fault, 2 the bytes ran out
pub record Numbers : Type 0 where
  pub outcome : ℕ
  pub element : ℕ
  pub number : ℕ
  pub cause : ℕ
  pub byte : ℕ

abbrev pub got_numbers : T.Element → Numbers
got_numbers T.opening = record { outcome = 0; element = 0; number = 0; cause = 0; byte = 0 }
got_numbers (T.number v) = record { outcome = 0; element = 1; number = v; cause = 0; byte = 0 }
got_numbers T.constant = record { outcome = 0; element = 2; number = 0; cause = 0; byte = 0 }
got_numbers T.turn = record { outcome = 0; element = 3; number = 0; cause = 0; byte = 0 }
got_numbers T.closing = record { outcome = 0; element = 4; number = 0; cause = 0; byte = 0 }
got_numbers (T.storing v) = record { outcome = 0; element = 5; number = v; cause = 0; byte = 0 }
got_numbers T.end = record { outcome = 0; element = 6; number = 0; cause = 0; byte = 0 }

abbrev pub outcome_numbers : T.Outcome → Numbers
outcome_numbers (T.got e) = got_numbers e
outcome_numbers (T.fault c b) = record { outcome = 1; element = 0; number = 0; cause = (cause_row c).number; byte = b }
outcome_numbers T.ran_out = record { outcome = 2; element = 0; number = 0; cause = 0; byte = 0 }

-- a step: its numbers and the place after it
pub record StepGiven : Type 0 where
  pub numbers : Numbers
  pub place : T.Place

abbrev pub step_numbers : T.Step → StepGiven
step_numbers x = record { numbers = outcome_numbers x.outcome; place = x.place }

abbrev pub step_given : RuleStepped → StepGiven
step_given r = record {
  numbers = record { outcome = r.outcome; element = r.element; number = r.number; cause = r.cause; byte = r.byte };
  place =
      place_from r.place;
}
