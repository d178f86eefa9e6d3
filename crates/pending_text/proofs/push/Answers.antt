-- A byte without room changes nothing; one that has room is set there, and counts.
use Rattle.theory_engine.specs.PendingCorrect.{push-full, push-room}
use Rattle.pending_text.proofs.push.Goals as goal

pub returns-then-w-m : goal.returns-then-w-m
returns-then-w-m c = let a = c.args in push-full a.w.now a.m a.b c.if-w-m.true

pub returns : goal.returns
returns c = let a = c.args in push-room a.w.now a.m a.b c.if-w-m.false
