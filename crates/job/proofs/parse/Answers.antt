-- Each way to no job is the definition's; else the lines and the fields give its numbers and its streams.
use Rattle.std.proofs.Common.{ap, ◌∙◌}
use Rattle.job.specs.Parsing.{placed_as}
use Rattle.job.specs.ParsingCorrect.{job-long, job-short, parsed-none, parsed-job}
use Rattle.job.specs.Streams.{streams-in}
use Rattle.job.proofs.parse.Goals as goal

pub returns-then-input-gt-JOB_LIMIT-clause-result_value : goal.returns-then-input-gt-JOB_LIMIT-clause-result_value
returns-then-input-gt-JOB_LIMIT-clause-result_value c = job-long c.args.input.now c.if-input-gt-JOB_LIMIT.true

pub returns-clause-result_value : goal.returns-clause-result_value
returns-clause-result_value c =
    let l = c.in_ok-heading.field-0 in
    job-short c.args.input.now c.if-input-gt-JOB_LIMIT.false
    (c.in_ok-n.ensures l.first.now l.second.now
    ∙ c.in_ok-heading.ensures.result_value)

pub returns-then-input-gt-JOB_LIMIT-clause-ends : goal.returns-then-input-gt-JOB_LIMIT-clause-ends
returns-then-input-gt-JOB_LIMIT-clause-ends c = parsed-none c.args.input.now (job-long c.args.input.now c.if-input-gt-JOB_LIMIT.true)

pub returns-in_err-heading-clause-ends : goal.returns-in_err-heading-clause-ends
returns-in_err-heading-clause-ends c =
    ap placed_as c.from_residual.ensures
    ∙ parsed-none c.args.input.now (job-short c.args.input.now c.if-input-gt-JOB_LIMIT.false c.in_err-heading.ensures.result_value)

pub returns-in_err-n-clause-ends : goal.returns-in_err-n-clause-ends
returns-in_err-n-clause-ends c =
    let l = c.in_ok-heading.field-0 in
    ap placed_as c.from_residual-in_err-n.ensures
    ∙ parsed-none c.args.input.now (job-short c.args.input.now c.if-input-gt-JOB_LIMIT.false
    (c.in_err-n.ensures l.first.now l.second.now ∙ c.in_ok-heading.ensures.result_value))

pub returns-clause-ends : goal.returns-clause-ends
returns-clause-ends c =
    let l = c.in_ok-heading.field-0 in
    parsed-job c.args.input.now _ l.ends c.in_ok-heading.ensures.placed (job-short c.args.input.now c.if-input-gt-JOB_LIMIT.false
    (c.in_ok-n.ensures l.first.now l.second.now ∙ c.in_ok-heading.ensures.result_value))

pub returns-clause-placed : goal.returns-clause-placed
returns-clause-placed c = streams-in c.args.input.now
