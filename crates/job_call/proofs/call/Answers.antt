-- The tables are those of `own_call`, made of records of zeros.
use Rattle.job_call.specs.Called.{own-answer}
use Rattle.job_call.proofs.call.Goals as goal

pub returns : goal.returns
returns c =
    own-answer c.args.n c.args.op c.args.size c.args.x.now c.args.y.now c.args.out.now _ _ _ c.empty-t.ensures c.empty-u.ensures
    c.empty-v.ensures _ c.combine.ensures
