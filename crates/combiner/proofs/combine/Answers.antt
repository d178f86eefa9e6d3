-- Causes 1 to 4 in their order, both streams loaded, then the run: each way by its law of CombineCorrect, Called or CallCorrect.
use Rattle.std.proofs.Common.{ap, ◌∙◌, ℕ, ◌*◌, ◌%◌, ◌^◌, replicate, arith}
use Rattle.theory_reading.specs.Causes as C
use Rattle.theory_lists.specs.Powers.{shifted}
use Rattle.meeting.specs.Abstraction.{written_of}
use Rattle.answers.specs.Answers.{refusal_of}
use Rattle.theory_combining.specs.CombineCorrect.{both_covered, combine-options, combine-operator, combine-size, combine-first, combine-second, combine-third}
use Rattle.theory_combining.specs.Called.{called-faulty}
use Rattle.combiner.specs.CallCorrect.{first-loaded, second-loaded, ran, cleared-all}
use Rattle.node_records.specs.Records.{no_record, no_writer_record}
use Rattle.node_records.specs.declared.NodeRecord.{NodeRecord}
use Rattle.node_records.specs.declared.WriterRecord.{WriterRecord}
use Rattle.combiner.proofs.combine.Goals as goal
use Rattle.combiner.proofs.combine.Goals.{then-t1-lt-TABLE_LIMIT-via-then-t1-lt-TABLE_LIMIT, then-t1-lt-TABLE_LIMIT-via-else-t1-lt-TABLE_LIMIT+then-t2-lt-TABLE_LIMIT}
use Rattle.combiner.proofs.combine.Goals.{then-t1-lt-TABLE_LIMIT-via-else-t1-lt-TABLE_LIMIT+else-t2-lt-TABLE_LIMIT+then-t-lt-TABLE_LIMIT}

pub returns-then-n-gt-OPTION_LIMIT : goal.returns-then-n-gt-OPTION_LIMIT
returns-then-n-gt-OPTION_LIMIT c =
    let a = c.args in
    ap (λ (r : C.Refusal). record { answer = C.refused r; first = a.t1.now; second = a.t2.now; third = a.t.now; output = a.out.now }) c.early.ensures
    ∙ combine-options a.n a.op a.size a.x.now a.y.now a.out.now a.t1.now a.t2.now a.t.now c.if-n-gt-OPTION_LIMIT.true

pub returns-then-op-gt15 : goal.returns-then-op-gt15
returns-then-op-gt15 c =
    let a = c.args in
    ap (λ (r : C.Refusal). record { answer = C.refused r; first = a.t1.now; second = a.t2.now; third = a.t.now; output = a.out.now }) c.early-then-op-gt15.ensures
    ∙ combine-operator a.n a.op a.size a.x.now a.y.now a.out.now a.t1.now a.t2.now a.t.now c.if-n-gt-OPTION_LIMIT.false c.if-op-gt15.true

pub returns-then-size-gt-TABLE_LIMIT : goal.returns-then-size-gt-TABLE_LIMIT
returns-then-size-gt-TABLE_LIMIT c =
    let a = c.args in
    ap (λ (r : C.Refusal). record { answer = C.refused r; first = a.t1.now; second = a.t2.now; third = a.t.now; output = a.out.now }) c.early-then-size-gt-TABLE_LIMIT.ensures
    ∙ combine-size a.n a.op a.size a.x.now a.y.now a.out.now a.t1.now a.t2.now a.t.now c.if-n-gt-OPTION_LIMIT.false c.if-op-gt15.false
    c.if-size-gt-TABLE_LIMIT.true

pub returns-then-t1-lt-TABLE_LIMIT : goal.returns-then-t1-lt-TABLE_LIMIT
returns-then-t1-lt-TABLE_LIMIT c =
    let a = c.args in
    ap (λ (r : C.Refusal). record { answer = C.refused r; first = a.t1.now; second = a.t2.now; third = a.t.now; output = a.out.now }) c.early-then-t1-lt-TABLE_LIMIT.ensures
    ∙ elim c.then-t1-lt-TABLE_LIMIT.branch [
      | then-t1-lt-TABLE_LIMIT-via-then-t1-lt-TABLE_LIMIT w ↦
          combine-first a.n a.op a.size a.x.now a.y.now a.out.now a.t1.now a.t2.now a.t.now c.if-n-gt-OPTION_LIMIT.false c.if-op-gt15.false
          c.if-size-gt-TABLE_LIMIT.false w.if-t1-lt-TABLE_LIMIT.true
      | then-t1-lt-TABLE_LIMIT-via-else-t1-lt-TABLE_LIMIT+then-t2-lt-TABLE_LIMIT w ↦
          combine-second a.n a.op a.size a.x.now a.y.now a.out.now a.t1.now a.t2.now a.t.now c.if-n-gt-OPTION_LIMIT.false c.if-op-gt15.false
          c.if-size-gt-TABLE_LIMIT.false w.if-t1-lt-TABLE_LIMIT.false w.if-t2-lt-TABLE_LIMIT.true
      | then-t1-lt-TABLE_LIMIT-via-else-t1-lt-TABLE_LIMIT+else-t2-lt-TABLE_LIMIT+then-t-lt-TABLE_LIMIT w ↦
          combine-third a.n a.op a.size a.x.now a.y.now a.out.now a.t1.now a.t2.now a.t.now c.if-n-gt-OPTION_LIMIT.false c.if-op-gt15.false
          c.if-size-gt-TABLE_LIMIT.false w.if-t1-lt-TABLE_LIMIT.false w.if-t2-lt-TABLE_LIMIT.false w.if-t-lt-TABLE_LIMIT.true
    ]

pub returns-in-Err : goal.returns-in-Err
returns-in-Err c =
    let a = c.args in
    let l = c.load_both-l in
    called-faulty a.n a.op a.size a.x.now a.y.now a.out.now a.t1.now a.t2.now a.t.now c.if-n-gt-OPTION_LIMIT.false c.if-op-gt15.false
    c.if-size-gt-TABLE_LIMIT.false c.if-t1-lt-TABLE_LIMIT.false c.if-t2-lt-TABLE_LIMIT.false c.if-t-lt-TABLE_LIMIT.false _ _
    (first-loaded a.n a.op a.size a.x.now a.y.now a.out.now a.t1.now a.t2.now a.t.now c.if-n-gt-OPTION_LIMIT.false c.if-op-gt15.false
    c.if-size-gt-TABLE_LIMIT.false c.if-t1-lt-TABLE_LIMIT.false c.if-t2-lt-TABLE_LIMIT.false c.if-t-lt-TABLE_LIMIT.false l.result l.new.t1 l.new.t2 l.ensures)
    (second-loaded a.n a.op a.size a.x.now a.y.now a.out.now a.t1.now a.t2.now a.t.now c.if-n-gt-OPTION_LIMIT.false c.if-op-gt15.false
    c.if-size-gt-TABLE_LIMIT.false c.if-t1-lt-TABLE_LIMIT.false c.if-t2-lt-TABLE_LIMIT.false c.if-t-lt-TABLE_LIMIT.false l.result l.new.t1 l.new.t2 l.ensures)
    (refusal_of c.in-Err.r) c.in-Err.ensures _ _ _
    (c.clear_all-in-Err.ensures ∙ cleared-all no_record l.new.t1 ∙ ap (λ (k : ℕ). replicate {A = NodeRecord} k no_record) l.auto.t1)
    (c.clear_all-in-Err-2.ensures ∙ cleared-all no_record l.new.t2 ∙ ap (λ (k : ℕ). replicate {A = NodeRecord} k no_record) l.auto.t2)
    (c.clear_all.ensures ∙ cleared-all no_writer_record a.t.now)

pub returns : goal.returns
returns c =
    let a = c.args in
    let l = c.load_both-l in
    ran a.n a.op a.size a.x.now a.y.now a.out.now a.t1.now a.t2.now a.t.now c.if-n-gt-OPTION_LIMIT.false c.if-op-gt15.false
    c.if-size-gt-TABLE_LIMIT.false c.if-t1-lt-TABLE_LIMIT.false c.if-t2-lt-TABLE_LIMIT.false c.if-t-lt-TABLE_LIMIT.false l.result l.new.t1 l.new.t2 l.ensures
    (both_covered c.in-Ok.z.first c.in-Ok.z.second) c.in-Ok.ensures c.covered-covered.result c.covered-covered.new.t1 c.covered-covered.new.t2
    c.covered-covered.ensures c.clear_all.new.t (c.clear_all.ensures ∙ cleared-all no_writer_record a.t.now) c.run-r.result c.run-r.new.out
    (1 * 2 ^ a.n % 18446744073709551616) c.run-r.ensures.sent c.run-r.ensures.output (shifted a.n (omega (arith, c.if-n-gt-OPTION_LIMIT.false)))
    (written_of c.answer.result) c.answer.ensures _ _ _
    (c.clear_all-2.ensures ∙ cleared-all no_record c.run-r.new.t1
    ∙ ap (λ (k : ℕ). replicate {A = NodeRecord} k no_record) (c.run-r.auto.t1 ∙ c.covered-covered.auto.t1 ∙ l.auto.t1))
    (c.clear_all-3.ensures ∙ cleared-all no_record c.run-r.new.t2
    ∙ ap (λ (k : ℕ). replicate {A = NodeRecord} k no_record) (c.run-r.auto.t2 ∙ c.covered-covered.auto.t2 ∙ l.auto.t2))
    (c.clear_all-4.ensures ∙ cleared-all no_writer_record c.run-r.new.t
    ∙ ap (λ (k : ℕ). replicate {A = WriterRecord} k no_writer_record) (c.run-r.auto.t ∙ c.clear_all.auto.t))
