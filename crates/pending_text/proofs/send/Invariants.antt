-- After j iterations the first j bytes have gone out.
use Rattle.std.proofs.Common.{◌≡◌, take}
use Rattle.theory_engine.specs.Pending.{sent_to}
use Rattle.pending_text.proofs.send.Given as goal

abbrev pub invariant-loop-j : goal.invariant-loop-j
invariant-loop-j l = l.out ≡ sent_to l.initial.out l.at (take l.j l.w)
