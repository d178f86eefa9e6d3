-- The size and its LF, and the nodes unless no more goes out. Assumes nothing.
use Rattle.std.proofs.Common.{Bool, [], ◌∷◌, ◌||◌, ⊎_elim, ap, ap₂, eqb, eq-eqb, ne_eqb, arith}
use Rattle.theory_reading.specs.Bytes.{line_feed}
use Rattle.theory_writing.specs.Texts.{decimal}
use Rattle.theory_engine.specs.PendingCorrect.{push-then}
use Rattle.operation_cache.specs.Abstraction.{rows_of}
use Rattle.operands.specs.Abstraction.{input_of}
use Rattle.meeting.specs.Abstraction.{sent_of}
use Rattle.text_walk.specs.TextsCorrect.{stream-head, stream-body}
use Rattle.text_walk.proofs.stream.Goals as goal

pub returns-then-head-clause-sent : goal.returns-then-head-clause-sent
returns-then-head-clause-sent c =
    let a = c.args in
    let s = a.to.now in
    stream-head a.k (input_of a.f a.x.now ∷ input_of a.g a.y.now ∷ []) (rows_of a.cache.now)
    s.table.now s.out.now s.waiting.now (omega (arith, c.if-k-gt-OPTION_LIMIT.false))
    (record { bytes = c.push-b.new.w; count = c.push-b.result })
    (record { written = c.send-head.result.written; full = c.send-head.result.full; output = c.send-head.new.out; waits = c.send-head.new.w })
    (push-then s.waiting.now 0 (decimal a.k.size) (line_feed ∷ []) c.push_number-a.ensures c.push-b.ensures) c.send-head.ensures
    (⊎_elim (λ h. ap (λ (b : Bool). b || eqb a.k.covered 0) h) (λ h. ap₂ ◌||◌ h.0 (eq-eqb a.k.covered 0 h.1)) c.then-head.either)

pub returns-clause-sent : goal.returns-clause-sent
returns-clause-sent c =
    let a = c.args in
    let s = a.to.now in
    stream-body a.k (input_of a.f a.x.now ∷ input_of a.g a.y.now ∷ []) (rows_of a.cache.now)
    s.table.now s.out.now s.waiting.now (omega (arith, c.if-k-gt-OPTION_LIMIT.false))
    (record { bytes = c.push-b.new.w; count = c.push-b.result })
    (record { written = c.send-head.result.written; full = c.send-head.result.full; output = c.send-head.new.out; waits = c.send-head.new.w })
    (push-then s.waiting.now 0 (decimal a.k.size) (line_feed ∷ []) c.push_number-a.ensures c.push-b.ensures) c.send-head.ensures
    (ap₂ ◌||◌ c.if-head.false (ne_eqb a.k.covered 0 c.if-k-eq0.false)) (sent_of c.nodes.result c.nodes.new.to) c.nodes.ensures.sent
