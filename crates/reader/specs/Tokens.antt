-- A fault, if there is one, and what the next token comes to, as code has it: an element, or none and the fault if there is one. Assumes nothing.
use Rattle.std.specs.Prelude.{Bool, true, false, ℕ, Option, Some, None, Result, Ok, Err}
use Rattle.elements.specs.declared.Cause.{Cause}
use Rattle.elements.specs.declared.Cause.TheVariants.{WrongByte}
use Rattle.elements.specs.declared.Element.{Element}
use Rattle.elements.specs.declared.Fault.{Fault}
use Rattle.elements.specs.declared.Outcome.{Outcome}
use Rattle.elements.specs.declared.Outcome.TheVariants as O

-- a fault, if there is one: whether, its cause and its byte
abbrev pub faulty_in : Option Fault → Bool
faulty_in None = false
faulty_in (Some f) = true

abbrev pub cause_in : Option Fault → Cause
cause_in None = WrongByte
cause_in (Some f) = f.cause

abbrev pub byte_in : Option Fault → ℕ
byte_in None = 0
byte_in (Some f) = f.byte

abbrev pub outcome_as : Result Element (Option Fault) → Outcome
outcome_as (Ok e) = O.Got e
outcome_as (Err (Some f)) = O.Fault f
outcome_as (Err None) = O.RanOut
