-- Each test that turns the call down is the definition's; past them the records are zeros before the walk and after it.
use Rattle.std.proofs.Common.{refl, ℕ, List, replicate, ap, ◌∙◌, arith, inl, inr}
use Rattle.std.proofs.lemmas.List.{length-replicate}
use Rattle.theory_lists.specs.Powers.{shifted}
use Rattle.node_records.specs.Records.{no_writer_record}
use Rattle.theory_engine.specs.RecordLaws.{clear_whole}
use Rattle.theory_engine.specs.Engine.{stream_in}
use Rattle.theory_reading.specs.Causes.{done}
use Rattle.meeting.specs.Abstraction.{written_of}
use Rattle.theory_engine.specs.Pending.{waiting_limit}
use Rattle.theory_engine.specs.WriteCorrect.{write-options, write-size, write-records, write-length, write-finish}
use Rattle.writer.proofs.write.Goals.{then-n-lt-TRUTH_TABLE_LEAST-via-then-n-lt-TRUTH_TABLE_LEAST, then-n-lt-TRUTH_TABLE_LEAST-via-else-n-lt-TRUTH_TABLE_LEAST+then-n-gt-TRUTH_TABLE_MOST}
use Rattle.writer.proofs.write.Goals as goal

pub returns-then-n-lt-TRUTH_TABLE_LEAST : goal.returns-then-n-lt-TRUTH_TABLE_LEAST
returns-then-n-lt-TRUTH_TABLE_LEAST c =
    let a = c.args in
    rw c.early.ensures
    (write-options no_writer_record a.n a.size a.v.now a.out.now a.t.now (elim c.then-n-lt-TRUTH_TABLE_LEAST.branch [
      | then-n-lt-TRUTH_TABLE_LEAST-via-then-n-lt-TRUTH_TABLE_LEAST w ↦ inl w.if-n-lt-TRUTH_TABLE_LEAST.true
      | then-n-lt-TRUTH_TABLE_LEAST-via-else-n-lt-TRUTH_TABLE_LEAST+then-n-gt-TRUTH_TABLE_MOST w ↦ inr w.if-n-gt-TRUTH_TABLE_MOST.true
    ]))

pub returns-then-size-gt-TABLE_LIMIT : goal.returns-then-size-gt-TABLE_LIMIT
returns-then-size-gt-TABLE_LIMIT c =
    let a = c.args in
    rw c.early-then-size-gt-TABLE_LIMIT.ensures
    (write-size no_writer_record a.n a.size a.v.now a.out.now a.t.now c.if-n-lt-TRUTH_TABLE_LEAST.false c.if-n-gt-TRUTH_TABLE_MOST.false c.if-size-gt-TABLE_LIMIT.true)

pub returns-then-t-lt-TABLE_LIMIT : goal.returns-then-t-lt-TABLE_LIMIT
returns-then-t-lt-TABLE_LIMIT c =
    let a = c.args in
    rw c.early-then-t-lt-TABLE_LIMIT.ensures
    (write-records no_writer_record a.n a.size a.v.now a.out.now a.t.now c.if-n-lt-TRUTH_TABLE_LEAST.false c.if-n-gt-TRUTH_TABLE_MOST.false c.if-size-gt-TABLE_LIMIT.false c.if-t-lt-TABLE_LIMIT.true)

pub returns-then-v-n : goal.returns-then-v-n
returns-then-v-n c =
    let a = c.args in
    rw c.early-then-v-n.ensures
    (write-length no_writer_record a.n a.size a.v.now a.out.now a.t.now c.if-n-lt-TRUTH_TABLE_LEAST.false c.if-n-gt-TRUTH_TABLE_MOST.false c.if-size-gt-TABLE_LIMIT.false c.if-t-lt-TABLE_LIMIT.false
    (λ e. c.if-v-n.true (omega (arith, e, shifted a.n (omega (arith, c.if-n-gt-TRUTH_TABLE_MOST.false))))))

pub returns : goal.returns
returns c =
    let a = c.args in
    let s = shifted a.n (omega (arith, c.if-n-gt-TRUTH_TABLE_MOST.false)) in
    let w = replicate waiting_limit 0 in
    let x = stream_in a.n a.size a.v.now c.clear_all.new.t a.out.now w in
    ap (λ (o : List ℕ). record { answer = done (written_of c.answer.result); table = c.clear_all-2.new.t; output = o }) c.stream-x.ensures.output
    ∙ write-finish a.n a.size a.v.now a.out.now w a.t.now c.clear_all.new.t _ x _
    c.if-n-lt-TRUTH_TABLE_LEAST.false c.if-n-gt-TRUTH_TABLE_MOST.false c.if-size-gt-TABLE_LIMIT.false c.if-t-lt-TABLE_LIMIT.false
    (omega (arith, c.if-v-n.false, s)) (length-replicate {A = ℕ} waiting_limit 0)
    (c.clear_all.ensures ∙ clear_whole a.t.now)
    refl
    (rw (s, c.stream-x.ensures.sent) at c.answer.ensures)
    (c.clear_all-2.ensures ∙ clear_whole c.stream-x.new.t
    ∙ ap (λ (k : ℕ). replicate k no_writer_record) (c.stream-x.auto.t ∙ c.clear_all.auto.t))
