-- The output as far as it was written, and then the last line, are the report.
use Rattle.answers.specs.Answers.{refusal_of}
use Rattle.meeting.specs.Abstraction.{written_of}
use Rattle.report.specs.Printing.{report-words, words-room, report-refused, refused-room}
use Rattle.std.proofs.Common.{◌∙◌}
use Rattle.report.proofs.print.Goals as goal

pub returns-in-Ok-clause-result_after : goal.returns-in-Ok-clause-result_after
returns-in-Ok-clause-result_after c =
    rw c.in-Ok.is
    (report-words c.args.n (written_of c.in-Ok.x) c.args.out.now c.args.w.now (rw c.min.ensures at c.put-m.ensures) c.put_words.ensures.put)

pub returns-in-Ok-clause-out_in_bounds : goal.returns-in-Ok-clause-out_in_bounds
returns-in-Ok-clause-out_in_bounds c = rw c.in-Ok.is (words-room c.args.n (written_of c.in-Ok.x) c.args.out.now c.put_words.ensures.room)

pub returns-in-Err-clause-result_after : goal.returns-in-Err-clause-result_after
returns-in-Err-clause-result_after c =
    rw c.in-Err.is (c.put_refused.ensures.put ∙ report-refused c.args.n (refusal_of c.in-Err.f) c.args.out.now c.args.w.now)

pub returns-in-Err-clause-out_in_bounds : goal.returns-in-Err-clause-out_in_bounds
returns-in-Err-clause-out_in_bounds c = rw c.in-Err.is (refused-room c.args.n (refusal_of c.in-Err.f) c.args.out.now c.put_refused.ensures.room)
