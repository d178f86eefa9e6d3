-- Where reading begins, as code has it, and which nodes are kept. Assumes nothing.
use Rattle.std.specs.Prelude.{Bool, true, false, cond, eqb}
use Rattle.elements.specs.Abstraction.{terminal_ref, temporary_ref}
use Rattle.elements.specs.declared.Ref.{Ref}
use Rattle.elements.specs.declared.Context.TheVariants.{Start}
use Rattle.cursors.specs.declared.Cursor.{Cursor}
use Rattle.cursors.specs.declared.Run.{Run}

-- the terminal, or a node with a number
abbrev pub is_kept_of : Ref → Bool
is_kept_of a = cond (eqb a.number 0) (eqb a.stamp 0) true

-- nothing is read
abbrev pub first_run : Run
first_run = record {
  at = 0;
  context = Start;
  last = temporary_ref;
  size = 0;
  covered = 0;
  complement = false;
  pair = record
      { first = terminal_ref; complement = false; second = terminal_ref };
}

-- where reading begins, without the open nodes
abbrev pub start_cursor : Cursor
start_cursor = record { run = first_run; depth = 0 }
