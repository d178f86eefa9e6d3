-- The stream of the run, with both inputs where they enter. Assumes nothing.
use Rattle.std.proofs.Common.{◌≡◌, ap, ap₂, ◌∙◌, Bool, List, ℕ, ◌∷◌, [], replicate, None, rules}
use Rattle.theory_lists.specs.Maps.{map-replicate}
use Rattle.theory_engine.specs.Engine as E
use Rattle.theory_engine.specs.Pending.{waiting_limit}
use Rattle.theory_applying.specs.Operands as T
use Rattle.theory_applying.specs.Memo.{cache_entries}
use Rattle.theory_combining.specs.BlockReaders.{BlockReader}
use Rattle.theory_combining.specs.Merged.{empty_records}
use Rattle.pending_text.specs.declared.Sent.{Sent}
use Rattle.operation_cache.specs.Abstraction.{row_of}
use Rattle.meeting.specs.Abstraction.{sent_of}
use Rattle.text_walk.specs.Abstraction.{stream_by}
use Rattle.operands.specs.Abstraction.{input_of}
use Rattle.combiner.specs.Abstraction.{run_by, entered_by}
use Rattle.combiner.proofs.run.Goals as goal

ran : (c : goal.After-m-2-1) → let a = c.args in
    sent_of c.stream.result c.stream.new.to ≡ run_by a.k a.x.now a.y.now a.l a.t1.now a.t2.now a.t.now a.out.now
ran c =
    let a = c.args in
    let by : List (List ℕ) → T.Operand BlockReader → T.Operand BlockReader → E.Sent = λ μ φ ψ.
    stream_by a.k (φ ∷ ψ ∷ []) μ a.t.now a.out.now (replicate waiting_limit 0) in
    c.stream.ensures.sent
    ∙ ap (λ (μ : List (List ℕ)). by μ (input_of c.enter-f.result c.enter-f.new.s) (input_of c.enter-g.result c.enter-g.new.s))
    (map-replicate row_of cache_entries None)
    ∙ ap₂ (by (empty_records cache_entries 9))
    (c.enter-f.ensures.entered ∙ ap (λ (v : Bool). entered_by v a.k.n a.x.now a.l.first.loaded a.t1.now) c.ignores_first.ensures)
    (c.enter-g.ensures.entered ∙ ap (λ (v : Bool). entered_by v a.k.n a.y.now a.l.second.loaded a.t2.now) c.ignores_second.ensures)

pub returns-clause-sent : goal.returns-clause-sent
returns-clause-sent c =
    let head : E.Sent → Sent = λ s. record { written = s.written; full = s.full } in
    ap head (ran c)

pub returns-clause-output : goal.returns-clause-output
returns-clause-output c =
    let e = ap (λ (s : E.Sent). s.output) (ran c) in
    search (rules, e)
