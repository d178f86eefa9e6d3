-- The five rules in their order, each by the law of Engine for its way.
use Rattle.std.proofs.Common.{refl, ℕ, List, Option, ◌≡◌, sym, ap, ◌∙◌, arith}
use Rattle.std.proofs.lemmas.Grind.{common_steps}
use Rattle.writer_numbers.specs.Numbers.{one_more}
use Rattle.theory_engine.specs.Recycling.{find_in}
use Rattle.theory_engine.specs.EngineCorrect.{meet-constant, meet-number, meet-first, meet-second, meet-known, known-there, known-none, give-none}
use Rattle.node_records.specs.declared.Node.{Node}
use Rattle.node_records.specs.declared.WriterRecord.{WriterRecord}
use Rattle.meeting.specs.declared.Progress.{Progress}
use Rattle.meeting.specs.declared.Sink.{Sink}
use Rattle.theory_engine.specs.Engine as E
use Rattle.writer_numbers.specs.Numbers.{number_of}
use Rattle.meeting.specs.Abstraction.{half_of, progress_of}
use Rattle.meeting.proofs.Found.{is-none, is-some}
use Rattle.meeting.proofs.meet.Goals.{then-is_barred-via-then-is_barred, then-is_barred-via-else-is_barred+then-is_barred-2}
use Rattle.meeting.proofs.meet.Goals as goal

pub returns-then-alike_constant-clause-walked : goal.returns-then-alike_constant-clause-walked
returns-then-alike_constant-clause-walked c =
    let a = c.args in
    let g = a.g in
    rw c.constant.ensures
    (meet-constant a.size a.i g.waiting g.tilde (half_of g.first) (half_of a.b) a.to.now.table.now a.to.now.out.now a.to.now.waiting.now (progress_of a.progress)
    (sym c.alike_constant.ensures ∙ c.if-alike_constant.true))

pub returns-then-alike_number-clause-walked : goal.returns-then-alike_number-clause-walked
returns-then-alike_number-clause-walked c =
    let a = c.args in
    let g = a.g in
    let more : c.saturating_add.result ≡ one_more g.first.skipped = grind (arith, common_steps) in
    rw more
    (meet-number a.size a.i g.waiting g.tilde (half_of g.first) (half_of a.b) a.to.now.table.now a.to.now.out.now a.to.now.waiting.now (progress_of a.progress)
    (sym c.alike_constant.ensures ∙ c.if-alike_constant.false) (sym c.alike_number.ensures ∙ c.if-alike_number.true))

pub returns-then-is_barred-clause-walked : goal.returns-then-is_barred-clause-walked
returns-then-is_barred-clause-walked c =
    let a = c.args in
    let g = a.g in
    let apart = sym c.alike_constant.ensures ∙ c.if-alike_constant.false in
    let other = sym c.alike_number.ensures ∙ c.if-alike_number.false in
    let by : Sink → E.Walked = λ s.
    E.write_temporary g.waiting g.tilde (half_of g.first) (half_of a.b) s.table.now s.out.now s.waiting.now (progress_of a.progress) in
    c.write_temporary.ensures.walked
    ∙ elim c.then-is_barred.branch [
      | then-is_barred-via-then-is_barred w ↦
          ap by w.to-is
          ∙ meet-first a.size a.i g.waiting g.tilde (half_of g.first) (half_of a.b) a.to.now.table.now a.to.now.out.now a.to.now.waiting.now (progress_of a.progress) apart other
          (sym c.is_barred.ensures ∙ w.if-is_barred.true)
      | then-is_barred-via-else-is_barred+then-is_barred-2 w ↦
          ap by w.to-is
          ∙ meet-second a.size a.i g.waiting g.tilde (half_of g.first) (half_of a.b) a.to.now.table.now a.to.now.out.now a.to.now.waiting.now (progress_of a.progress) apart other
          (sym c.is_barred.ensures ∙ w.if-is_barred.false) (sym w.is_barred-else-is_barred.ensures ∙ w.if-is_barred-2.true)
    ]

-- the number that the table has for a node
abbrev sought : List WriterRecord → Progress → Node → Option ℕ
sought t p n = number_of (find_in t p.given n.level n.first n.second n.complement)

pub returns-in-Some-clause-walked : goal.returns-in-Some-clause-walked
returns-in-Some-clause-walked c =
    let a = c.args in
    let g = a.g in
    let there = is-some _ c.in-Some.k (c.in-Some.ensures ∙ ap (sought a.to.now.table.now a.progress) c.node.ensures) in
    rw c.numbered-half.ensures
    (known-there c.in-Some.k a.size a.i g.waiting g.tilde (half_of g.first) (half_of a.b) a.to.now.table.now a.to.now.out.now a.to.now.waiting.now (progress_of a.progress) c.stamp_of.result
    (λ e. there.1 (sym there.0 ∙ e)) c.stamp_of.ensures)
    ∙ meet-known a.size a.i g.waiting g.tilde (half_of g.first) (half_of a.b) a.to.now.table.now a.to.now.out.now a.to.now.waiting.now (progress_of a.progress)
    c.in-Some.k (sym c.alike_constant.ensures ∙ c.if-alike_constant.false) (sym c.alike_number.ensures ∙ c.if-alike_number.false)
    (sym c.is_barred.ensures ∙ c.if-is_barred.false) (sym c.is_barred-else-is_barred.ensures ∙ c.if-is_barred-2.false) there.0

pub returns-in-Some-next_number-clause-walked : goal.returns-in-Some-next_number-clause-walked
returns-in-Some-next_number-clause-walked c =
    let a = c.args in
    let g = a.g in
    let none = is-none _ (c.in_default.ensures ∙ ap (sought a.to.now.table.now a.progress) c.node.ensures) in
    c.give.ensures.walked
    ∙ known-none 0 a.size a.i g.waiting g.tilde (half_of g.first) (half_of a.b) a.to.now.table.now a.to.now.out.now a.to.now.waiting.now (progress_of a.progress)
    c.in-Some-next_number.k refl (is-some _ c.in-Some-next_number.k c.in-Some-next_number.ensures).0
    ∙ meet-known a.size a.i g.waiting g.tilde (half_of g.first) (half_of a.b) a.to.now.table.now a.to.now.out.now a.to.now.waiting.now (progress_of a.progress)
    0 (sym c.alike_constant.ensures ∙ c.if-alike_constant.false) (sym c.alike_number.ensures ∙ c.if-alike_number.false)
    (sym c.is_barred.ensures ∙ c.if-is_barred.false) (sym c.is_barred-else-is_barred.ensures ∙ c.if-is_barred-2.false) (sym none)

pub returns-in-None-clause-walked : goal.returns-in-None-clause-walked
returns-in-None-clause-walked c =
    let a = c.args in
    let g = a.g in
    let none = is-none _ (c.in_default.ensures ∙ ap (sought a.to.now.table.now a.progress) c.node.ensures) in
    c.write_temporary-in-None.ensures.walked
    ∙ give-none 0 a.i g.waiting g.tilde (half_of g.first) (half_of a.b) a.to.now.table.now a.to.now.out.now a.to.now.waiting.now (progress_of a.progress) refl
    ∙ known-none 0 a.size a.i g.waiting g.tilde (half_of g.first) (half_of a.b) a.to.now.table.now a.to.now.out.now a.to.now.waiting.now (progress_of a.progress)
    0 refl (sym (is-none _ c.in-None.ensures))
    ∙ meet-known a.size a.i g.waiting g.tilde (half_of g.first) (half_of a.b) a.to.now.table.now a.to.now.out.now a.to.now.waiting.now (progress_of a.progress)
    0 (sym c.alike_constant.ensures ∙ c.if-alike_constant.false) (sym c.alike_number.ensures ∙ c.if-alike_number.false)
    (sym c.is_barred.ensures ∙ c.if-is_barred.false) (sym c.is_barred-else-is_barred.ensures ∙ c.if-is_barred-2.false) (sym none)
