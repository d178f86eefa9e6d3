-- So far the first bytes of the text are there.
use Rattle.std.proofs.Common.{◌≡◌, take}
use Rattle.theory_engine.specs.Pending.{waiting, push_all}
use Rattle.report.proofs.put.Given as goal

abbrev pub invariant-loop-b : goal.invariant-loop-b
invariant-loop-b l = waiting l.w l.x ≡ push_all l.fn.w l.m (take l.b-index l.s)
