-- A number below ten is one digit; another is the digits of its tenth, and one more.
use Rattle.theory_engine.specs.PendingCorrect.{number_small, number_more}
use Rattle.pending_text.proofs.+push_digits.Goals as goal

pub returns-then-k-lt10 : goal.returns-then-k-lt10
returns-then-k-lt10 t c = let a = c.args in number_small a.w.now a.m a.k c.if-k-lt10.true c.push.ensures

pub returns : goal.returns
returns t c = let a = c.args in number_more a.w.now a.m a.k c.if-k-lt10.false c.push_digits-x.ensures c.push-2.ensures
