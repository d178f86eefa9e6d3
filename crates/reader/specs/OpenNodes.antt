-- What the loop and a cursor are with the open nodes that code lends them. Assumes nothing.
use Rattle.std.specs.Prelude.{Bool, List, ℕ}
use Rattle.reader.specs.Tokens.{faulty_in, cause_in, byte_in}
use Rattle.elements.specs.declared.Cause.{Cause}
use Rattle.cursors.specs.declared.Cursor.{Cursor}
use Rattle.elements.specs.declared.Open.{Open}
use Rattle.elements.specs.declared.Opens.{Opens}
use Rattle.reader.specs.declared.Reached.{Reached}
use Rattle.cursors.specs.declared.Run.{Run}

-- ---- Open nodes ------------------------------------------------------------------------------

-- the open nodes o, of which there are d
abbrev pub opens_in : List Open → ℕ → Opens
opens_in o d = record { nodes = o; depth = d }

-- ---- What is read, with the open nodes -------------------------------------------------------

-- what the loop reaches
pub record ReadReached : Type 0 where
  pub run : Run
  pub opens : Opens
  pub from : ℕ
  pub deep : ℕ
  pub halted : Bool
  pub faulty : Bool
  pub cause : Cause
  pub byte : ℕ

-- where the reading of a stream stands
pub record ReadCursor : Type 0 where
  pub run : Run
  pub opens : Opens

-- each as code has it, beside the open nodes o
abbrev pub reached_in : Reached → List Open → ReadReached
reached_in r o = record {
  run = r.run;
  opens = opens_in o r.depth;
  from = r.from;
  deep = r.deep;
  halted = r.halted;
  faulty = faulty_in r.fault;
  cause = cause_in r.fault;
  byte = byte_in r.fault;
}

abbrev pub cursor_in : Cursor → List Open → ReadCursor
cursor_in c o = record { run = c.run; opens = opens_in o c.depth }
