-- The text is the definition's.
use Rattle.std.proofs.Common.{ap, ◌∙◌}
use Rattle.theory_reading.specs.Bytes.{text}
use Rattle.theory_engine.specs.Pending.{push_all}
use Rattle.report.specs.Printing.{bad-text}
use Rattle.report.proofs.print_bad.Goals as goal

pub returns : goal.returns
unfolding text
returns c = c.put.ensures ∙ ap (push_all c.args.w.now 0) bad-text
