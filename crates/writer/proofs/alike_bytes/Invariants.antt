-- The first j pairs of bytes are alike, so the others tell.
use Rattle.theory_engine.specs.PendingCorrect.{AlikeFrom}
use Rattle.writer.proofs.alike_bytes.Given as goal

abbrev pub invariant-loop-j : goal.invariant-loop-j
invariant-loop-j l = AlikeFrom l.v l.u l.p l.q l.c l.j
