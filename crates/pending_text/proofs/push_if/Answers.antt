-- The byte is added, or nothing.
use Rattle.std.proofs.Common.{refl}
use Rattle.theory_engine.specs.Pending.{push_all}
use Rattle.pending_text.proofs.push_if.Goals as goal

pub returns-else-wanted : goal.returns-else-wanted
unfolding push_all
returns-else-wanted c = rw c.if-wanted.false refl
