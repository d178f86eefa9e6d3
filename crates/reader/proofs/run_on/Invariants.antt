-- Each iteration leads on to what the function comes to, and moves on in the bytes.
use Rattle.std.proofs.Common.{◌-◌, ◌≡◌, ◌≤◌, length, false, None}
use Rattle.theory_reading.specs.Limits.{option_limit}
use Rattle.reader.specs.OpenNodes.{opens_in}
use Rattle.reader.specs.RunOn.{seeks_in, goal_view, run_all, Leads}
use Rattle.reader.proofs.run_on.Given as goal

abbrev pub invariant-loop-r : goal.invariant-loop-r
invariant-loop-r l =
    (l.n ≤ option_limit) × ((length l.t ≡ length l.initial.t) × (((l.r.halted ≡ false) × (l.r.fault ≡ None)) ×
    ((seeks_in l.g.search ≡ seeks_in l.fn.goal.search) ×
    Leads (run_all l.n l.s (seeks_in l.fn.goal.search) (goal_view l.fn.goal) l.fn.c.run (opens_in l.initial.o l.fn.c.depth) l.initial.t) l.n l.s
    (seeks_in l.fn.goal.search) (goal_view l.g) l.r.run (opens_in l.o l.r.depth) l.r.from l.r.deep l.t)))

abbrev pub decreases-loop-r : goal.decreases-loop-r
decreases-loop-r l = length l.s - l.r.run.at
