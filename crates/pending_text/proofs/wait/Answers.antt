-- The parts of what waits are added one after the other.
use Rattle.theory_engine.specs.PendingCorrect.{wait-wrote, wait-kept}
use Rattle.pending_text.proofs.wait.Goals as goal

pub returns-then-wrote : goal.returns-then-wrote
returns-then-wrote c = let a = c.args in wait-wrote a.w.now a.m a.wrote a.j a.k c.if-wrote.true c.push_many.ensures

pub returns : goal.returns
returns c =
    let a = c.args in
    wait-kept a.w.now a.m a.wrote a.j a.k c.if-wrote.false c.push_many-x.ensures c.push_number-y.ensures c.push_many-2.ensures
