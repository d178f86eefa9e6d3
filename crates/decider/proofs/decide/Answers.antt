-- The loop reads until the word is passed, which the table then decides (`word-passed`), or to the end, where it is not (`word-not`); then to the end,
-- since a later fault still refuses. Every record is cleared.
use Rattle.std.proofs.Common.{◌≤◌, sym, ap, ◌∙◌, arith}
use Rattle.theory_lists.specs.Powers.{shifted}
use Rattle.theory_reading.specs.Limits.{option_limit, word_limit}
use Rattle.theory_reading.specs.Calls.{not_yet}
use Rattle.theory_reading.specs.Causes as C
use Rattle.reader.specs.Loop.{stands-covered}
use Rattle.reader.specs.ReadOn.{read-called, read-begun}
use Rattle.checker.specs.CheckCorrect.{cleared-after, halted-reads, all-reads}
use Rattle.blocks.specs.Blocks.{word-passed}
use Rattle.answers.specs.Answers.{verdicts_of}
use Rattle.decider.specs.DecideCorrect.{word-most, passed-bounds, word-not, decide-options, decide-table, decide-word, decide-correct}
use Rattle.decider.proofs.decide.Goals as goal

pub returns-then-n-gt-OPTION_LIMIT : goal.returns-then-n-gt-OPTION_LIMIT
returns-then-n-gt-OPTION_LIMIT c =
    let a = c.args in
    decide-options a.n a.s.now a.t.now a.w _ c.if-n-gt-OPTION_LIMIT.true (ap C.refused c.early.ensures)

pub returns-then-t-lt-TABLE_LIMIT : goal.returns-then-t-lt-TABLE_LIMIT
returns-then-t-lt-TABLE_LIMIT c =
    let a = c.args in
    decide-table a.n a.s.now a.t.now a.w _ (omega (arith, c.if-n-gt-OPTION_LIMIT.false)) c.if-t-lt-TABLE_LIMIT.true
    (ap C.refused c.early-then-t-lt-TABLE_LIMIT.ensures)

pub returns-then-n-w : goal.returns-then-n-w
returns-then-n-w c =
    let a = c.args in
    let few = c.if-n-gt-OPTION_LIMIT.false in
    decide-word a.n a.s.now a.t.now a.w _ (omega (arith, few)) (omega (arith, c.if-t-lt-TABLE_LIMIT.false))
    (omega (arith, c.if-n-w.true, shifted a.n (omega (arith, few)))) (ap C.refused c.early-then-n-w.ensures)

pub returns-then-r : goal.returns-then-r
returns-then-r c =
    let a = c.args in
    let few : a.n ≤ option_limit = omega (arith, c.if-n-gt-OPTION_LIMIT.false) in
    let n = a.n in let s = a.s.now in let t = a.t.now in let w = a.w in
    let reached = read-begun n s few w (word-most n w few (omega (arith, c.if-n-w.false, shifted n (omega (arith, few))))) c.first_cursor.result t
    (omega (arith, c.if-t-lt-TABLE_LIMIT.false)) c.first_cursor.ensures _ _ c.read_on-r.ensures in
    decide-correct n s t w _ _ _ _ not_yet few (omega (arith, c.if-t-lt-TABLE_LIMIT.false)) (omega (arith, c.if-n-w.false, shifted n (omega (arith, few))))
    (halted-reads n s w _ _ reached c.if-r.true) (word-not n s t w _ _ reached c.if-r.true) c.decided_at.ensures
    (cleared-after _ _ _ _ _ reached t c.read_on-r.auto.t _ c.clear_all.ensures)

pub word_at-v-requires : goal.word_at-v-requires
word_at-v-requires c =
    let a = c.args in
    let few : a.n ≤ option_limit = omega (arith, c.if-n-gt-OPTION_LIMIT.false) in
    let reached = read-begun a.n a.s.now few a.w (word-most a.n a.w few
    (omega (arith, c.if-n-w.false, shifted a.n (omega (arith, few))))) c.first_cursor.result a.t.now (omega (arith, c.if-t-lt-TABLE_LIMIT.false))
    c.first_cursor.ensures _ _ c.read_on-r.ensures in
    let b = passed-bounds a.n a.s.now a.w _ _ reached c.if-r.false in
    (few, (b.0, b.1))

pub returns : goal.returns
returns c =
    let a = c.args in
    let few : a.n ≤ option_limit = omega (arith, c.if-n-gt-OPTION_LIMIT.false) in
    let n = a.n in let s = a.s.now in let t = a.t.now in let w = a.w in
    let reached = read-begun n s few w (word-most n w few (omega (arith, c.if-n-w.false, shifted n (omega (arith, few))))) c.first_cursor.result t
    (omega (arith, c.if-t-lt-TABLE_LIMIT.false)) c.first_cursor.ensures _ _ c.read_on-r.ensures in
    let ended = read-called n s few word_limit (omega arith) _ _ reached.stands (stands-covered n s few _ _ _ reached.stands) _ _
    c.read_on-e.ensures in
    decide-correct n s t w _ _ _ _ (verdicts_of c.word_at-v.result) few (omega (arith, c.if-t-lt-TABLE_LIMIT.false))
    (omega (arith, c.if-n-w.false, shifted n (omega (arith, few))))
    (all-reads n s _ _ few ended) (λ _. word-passed n s w _ _ reached c.if-r.false ∙ sym c.word_at-v.ensures) c.decided_at-2.ensures
    (cleared-after _ _ _ _ _ ended t (c.read_on-e.auto.t ∙ c.read_on-r.auto.t) _ c.clear_all-2.ensures)
