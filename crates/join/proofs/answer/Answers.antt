-- What is no job has its report; else the report is that on the job.
use Rattle.std.proofs.Common.{◌∙◌, Some}
use Rattle.job.specs.ParsingCorrect.{join-printed}
use Rattle.join.specs.Joining.{joined-bad}
use Rattle.join.proofs.answer.Goals as goal

pub returns-in-Some-clause-w_after : goal.returns-in-Some-clause-w_after
returns-in-Some-clause-w_after c = c.run.ensures.w_after ∙ join-printed c.args.input.now (Some c.in-Some.j) c.in-Some.ensures.result_value

pub returns-in-None-clause-w_after : goal.returns-in-None-clause-w_after
returns-in-None-clause-w_after c = (joined-bad c.args.input.now c.args.w.now c.requires c.in-None.ensures.result_value c.print_bad.ensures).0

pub returns-in-None-clause-upper_bound : goal.returns-in-None-clause-upper_bound
returns-in-None-clause-upper_bound c = (joined-bad c.args.input.now c.args.w.now c.requires c.in-None.ensures.result_value c.print_bad.ensures).1
