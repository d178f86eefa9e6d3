-- The first names are other ones, so the rest of the table tells.
use Rattle.std.proofs.Common.{drop, ◌≡◌}
use Rattle.theory_writing.specs.Join.{operator_names, operator_of}
use Rattle.job.proofs.operator.Given as goal

abbrev pub invariant-loop-name : goal.invariant-loop-name
invariant-loop-name l = operator_of operator_names l.l ≡ operator_of (drop l.name-index operator_names) l.l
