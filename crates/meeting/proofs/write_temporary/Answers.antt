-- The node goes out without a number; the records are not touched.
use Rattle.std.proofs.Common.{ap}
use Rattle.theory_engine.specs.Engine.{temporary_half, sent_as, lane_of, write_node}
use Rattle.meeting.specs.Abstraction.{progress_of}
use Rattle.meeting.proofs.write_temporary.Goals as goal

pub returns-clause-walked : goal.returns-clause-walked
unfolding write_node
returns-clause-walked c =
    let a = c.args in
    rw c.temporary.ensures
    (ap (sent_as (temporary_half a.g.first.complement) a.progress.given (lane_of a.to.now.table.now (progress_of a.progress))) c.send_node-x.ensures)
