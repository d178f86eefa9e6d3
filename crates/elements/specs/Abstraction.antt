-- How code holds what the theory speaks of: the declared enums and structs as the theory's types. Each enum's cases stand with document 01's
-- names; `cause_of` gives the causes their numbers. Assumes nothing.
use Rattle.std.specs.Prelude.{Bool, true, false, cond, List, [], ◌∷◌, ℕ, zero, suc, ◌-◌, ltb, eqb, get_or}
use Rattle.theory_reading.specs.Limits.{open_limit}
use Rattle.theory_reading.specs.Nodes as N
use Rattle.theory_reading.specs.Causes as C
use Rattle.theory_reading.specs.Element as T
use Rattle.elements.specs.declared.Element.{Element}
use Rattle.elements.specs.declared.Element.TheVariants.{Opening, Number, Constant, Turn, Closing, Storing, End}
use Rattle.elements.specs.declared.Context.{Context}
use Rattle.elements.specs.declared.Context.TheVariants.{Start, Lead, Begins, AfterDigit, AfterTwo, AfterOne, Over}
use Rattle.elements.specs.declared.Ref.{Ref}
use Rattle.elements.specs.declared.Cause.{Cause}
use Rattle.elements.specs.declared.Cause.TheVariants.{OptionCount, OperatorCode, SizeToWrite, WorkTable, WordRange, TruthTable, WrongByte}
use Rattle.elements.specs.declared.Cause.TheVariants.{DeclaredSize, TooDeep, NotInTable, OtherLevel, NotStorable, BadNumber}
use Rattle.elements.specs.declared.Outcome.{Outcome}
use Rattle.elements.specs.declared.Outcome.TheVariants.{Got, Fault, RanOut}
use Rattle.elements.specs.declared.Open.{Open}
use Rattle.elements.specs.declared.Opens.{Opens}
use Rattle.elements.specs.declared.Spots.{Spots}

abbrev pub element_of : Element → T.Element
element_of Opening = T.opening
element_of (Number v) = T.number v
element_of Constant = T.constant
element_of Turn = T.turn
element_of Closing = T.closing
element_of (Storing v) = T.storing v
element_of End = T.end

abbrev pub context_of : Context → T.Context
context_of Start = T.start
context_of Lead = T.lead
context_of Begins = T.begins
context_of AfterDigit = T.after_digit
context_of AfterTwo = T.after_two
context_of AfterOne = T.after_one
context_of Over = T.over

abbrev pub terminal_ref : Ref
terminal_ref = record { number = 0; stamp = 0 }

abbrev pub temporary_ref : Ref
temporary_ref = record { number = 0; stamp = 1 }

abbrev pub entry_ref : ℕ → ℕ → Ref
entry_ref k g = record { number = k; stamp = g }

abbrev pub ref_of : Ref → N.Ref
ref_of r = cond (eqb r.number 0) (cond (eqb r.stamp 0) N.terminal N.temporary) (N.entry r.number r.stamp)

abbrev pub cause_of : Cause → C.Cause
cause_of OptionCount = C.option_count
cause_of OperatorCode = C.operator_code
cause_of SizeToWrite = C.size_to_write
cause_of WorkTable = C.work_table
cause_of WordRange = C.word_range
cause_of TruthTable = C.truth_table
cause_of WrongByte = C.wrong_byte
cause_of DeclaredSize = C.declared_size
cause_of TooDeep = C.too_deep
cause_of NotInTable = C.not_in_table
cause_of OtherLevel = C.other_level
cause_of NotStorable = C.not_storable
cause_of BadNumber = C.bad_number

abbrev pub outcome_of : Outcome → T.Outcome
outcome_of (Got e) = T.got (element_of e)
outcome_of (Fault f) = T.fault (cause_of f.cause) f.byte
outcome_of RanOut = T.ran_out

-- ---- Open nodes ------------------------------------------------------------------------------

abbrev pub open_of : Open → T.Open
open_of e = cond e.second (T.in_second (ref_of e.first) e.complement) T.in_first

abbrev pub inside_open : Open
inside_open = record { second = false; complement = false; first = terminal_ref }

abbrev pub begun_open : Ref → Bool → Open
begun_open r t = record { second = true; complement = t; first = r }

-- the first d entries, the last first
unfoldable pub opens_of : List Open → ℕ → List T.Open
opens_of ns zero = []
opens_of ns (suc d) = open_of (get_or ns d inside_open) ∷ opens_of ns d

-- a depth above the limit is read as the limit
abbrev pub deep_of : ℕ → ℕ
deep_of d = cond (ltb open_limit d) open_limit d

abbrev pub open_list : Opens → List T.Open
open_list o = opens_of o.nodes (deep_of o.depth)

-- the last entry
abbrev pub last_open : ℕ
last_open = open_limit - 1

-- the place of its entry, and of the one after it
abbrev pub low_at : ℕ → ℕ
low_at d = cond (eqb d 0) last_open (cond (ltb d open_limit) (d - 1) last_open)

abbrev pub high_at : ℕ → ℕ
high_at d = cond (ltb d open_limit) d last_open

abbrev pub spots_of : ℕ → Spots
spots_of d = record { low = low_at d; high = high_at d }
