-- The size and its LF are one text that goes out first.
use Rattle.std.proofs.Common.{◌≡◌, ap, ◌∙◌, [], ◌∷◌, replicate, rules}
use Rattle.theory_reading.specs.Bytes.{line_feed}
use Rattle.theory_writing.specs.Texts.{decimal}
use Rattle.theory_engine.specs.PendingCorrect.{push-then}
use Rattle.theory_engine.specs.EngineCorrect.{stream-correct}
use Rattle.theory_engine.specs.Engine as E
use Rattle.theory_engine.specs.Pending.{waiting_limit}
use Rattle.pending_text.specs.declared.Sent.{Sent}
use Rattle.meeting.specs.Abstraction.{sent_of}
use Rattle.writer.proofs.stream.Goals as goal

ran : (c : goal.After-w-8-1) → let a = c.args in
    sent_of c.body.result c.body.new.to ≡ E.stream_in a.n a.size a.v.now a.t.now a.out.now (replicate waiting_limit 0)
ran c =
    let a = c.args in
    let w = replicate waiting_limit 0 in
    c.body.ensures.sent
    ∙ stream-correct a.n a.size a.v.now a.t.now a.out.now w _ _
    (push-then w 0 (decimal a.size) (line_feed ∷ []) c.push_number-a.ensures c.push-b.ensures) c.send-x.ensures

pub returns-clause-sent : goal.returns-clause-sent
returns-clause-sent c =
    let head : E.Sent → Sent = λ s. record { written = s.written; full = s.full } in
    ap head (ran c)

pub returns-clause-output : goal.returns-clause-output
returns-clause-output c =
    let e = ap (λ (s : E.Sent). s.output) (ran c) in
    search (rules, e)
