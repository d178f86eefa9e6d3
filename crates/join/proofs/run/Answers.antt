-- The call answers as the job's does, since the tables are as long; so its report is the job's, and there is room for it.
use Rattle.std.proofs.Common.{refl}
use Rattle.join.specs.Calling.{own-printed}
use Rattle.join.proofs.run.Goals as goal

pub returns-clause-w_after : goal.returns-clause-w_after
returns-clause-w_after c =
    let j = c.args.j in
    (own-printed j.n j.op j.size j.first.now j.second.now _ _ _ c.call-a.ensures refl c.args.w.now c.requires
    c.print.ensures.result_after c.print.ensures.out_in_bounds).0

pub returns-clause-upper_bound : goal.returns-clause-upper_bound
returns-clause-upper_bound c =
    let j = c.args.j in
    (own-printed j.n j.op j.size j.first.now j.second.now _ _ _ c.call-a.ensures refl c.args.w.now c.requires
    c.print.ensures.result_after c.print.ensures.out_in_bounds).1
