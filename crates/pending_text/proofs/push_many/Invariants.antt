-- So many bytes were added.
use Rattle.std.proofs.Common.{◌≡◌, replicate}
use Rattle.theory_engine.specs.Pending.{waiting, push_all}
use Rattle.pending_text.proofs.push_many.Given as goal

abbrev pub invariant-loop : goal.invariant-loop
invariant-loop l = waiting l.w l.m ≡ push_all l.fn.w l.fn.m (replicate l.counter l.fn.b)
