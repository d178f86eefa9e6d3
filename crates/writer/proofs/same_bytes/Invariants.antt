-- The first j bytes are b, so the others tell.
use Rattle.theory_engine.specs.PendingCorrect.{SameFrom}
use Rattle.writer.proofs.same_bytes.Given as goal

abbrev pub invariant-loop-j : goal.invariant-loop-j
invariant-loop-j l = SameFrom l.v l.b l.p l.c l.j
