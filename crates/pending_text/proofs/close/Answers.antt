-- The parts of the end of a node are added one after the other.
use Rattle.theory_engine.specs.PendingCorrect.{close-correct}
use Rattle.pending_text.proofs.close.Goals as goal

pub returns : goal.returns
returns c =
    let a = c.args in
    close-correct a.w.now a.m a.space a.wrote a.j a.k a.number c.push_if-x.ensures c.wait-y.ensures c.push-z.ensures
    c.push_storing.ensures
