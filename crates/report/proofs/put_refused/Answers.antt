-- Text after text it is the line, and there is room for it.
use Rattle.std.proofs.Common.{◌∙◌, arith}
use Rattle.theory_reading.specs.Bytes.{text}
use Rattle.answers.specs.Answers.{refusal_of}
use Rattle.report.specs.Printing.{refused-put, refused-length, decimal-within}
use Rattle.report.proofs.put_refused.Goals as goal

pub returns-clause-put : goal.returns-clause-put
unfolding text
returns-clause-put c =
    refused-put (refusal_of c.args.f) c.from-2.result (c.from-2.ensures ∙ c.from.ensures) c.args.w.now c.args.m
    c.put-a.ensures c.push_digits-b.ensures c.push-c.ensures (rw c.from-3.ensures at c.push_digits-d.ensures) c.push-e.ensures
    c.push_digits-g.ensures c.push.ensures

pub returns-clause-room : goal.returns-clause-room
returns-clause-room c =
    refused-length (refusal_of c.args.f) c.from-2.result (c.from-2.ensures ∙ c.from.ensures)
    (decimal-within c.from-2.result (omega arith)) (decimal-within c.args.f.stream (omega arith)) (decimal-within c.args.f.byte (omega arith))
