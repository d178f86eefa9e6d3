-- The loop searches on.
use Rattle.std.proofs.Common.{◌∙◌}
use Rattle.reader.specs.OpenNodes.{cursor_in}
use Rattle.reader.specs.RunOn.{searches_from}
use Rattle.reader.proofs.search_on.Goals as goal

pub returns : goal.returns
returns c = let a = c.args in c.run_from.ensures ∙ searches_from a.n a.s.now (cursor_in a.c a.o.now) a.odd a.noes a.t.now
