-- The loop reads on to its stop.
use Rattle.std.proofs.Common.{◌∙◌}
use Rattle.reader.specs.OpenNodes.{cursor_in}
use Rattle.reader.specs.RunOn.{reads_from}
use Rattle.reader.proofs.read_on.Goals as goal

pub returns : goal.returns
returns c = let a = c.args in c.run_from.ensures ∙ reads_from a.n a.s.now a.stop (cursor_in a.c a.o.now) a.t.now
