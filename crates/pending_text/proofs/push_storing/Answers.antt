-- For 0 nothing is added; else the colon, and then the number.
use Rattle.theory_engine.specs.PendingCorrect.{storing-none, storing-some}
use Rattle.pending_text.proofs.push_storing.Goals as goal

pub returns-then-k-eq0 : goal.returns-then-k-eq0
returns-then-k-eq0 c = let a = c.args in storing-none a.w.now a.m a.k c.if-k-eq0.true

pub returns : goal.returns
returns c = let a = c.args in storing-some a.w.now a.m a.k c.if-k-eq0.false c.push-x.ensures c.push_number.ensures
