-- Text after text it is the line, and there is room for it.
use Rattle.std.proofs.Common.{min, arith}
use Rattle.theory_reading.specs.Limits.{option_limit}
use Rattle.theory_reading.specs.Bytes.{text}
use Rattle.meeting.specs.Abstraction.{written_of}
use Rattle.report.specs.Printing.{words-put, words-length, decimal-within}
use Rattle.report.proofs.put_words.Goals as goal

pub returns-clause-put : goal.returns-clause-put
unfolding text
returns-clause-put c =
    words-put (min c.args.n option_limit) (written_of c.args.x) c.all_words.result c.all_words.ensures c.args.w.now c.args.m c.ending_name.ensures
    c.put-a.ensures c.push_digits-b.ensures c.put-c.ensures c.push_digits-d.ensures c.push-e.ensures c.put-f.ensures c.push.ensures

pub returns-clause-room : goal.returns-clause-room
returns-clause-room c =
    words-length (min c.args.n option_limit) (written_of c.args.x) c.all_words.result c.all_words.ensures
    (decimal-within c.args.x.covered (omega arith)) (decimal-within c.all_words.result (omega arith))
