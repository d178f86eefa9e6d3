-- The search reads on to a word, or to the end, where there is none (`find-ended`); then the rest is read, since a later fault still refuses (`find-found`).
-- Every record is cleared.
use Rattle.std.proofs.Common.{true, ◌≤◌, ap, ◌∙◌, arith, sym, [], is_none, unwrap_or, Option, ℕ}
use Rattle.theory_lists.specs.Powers.{shifted}
use Rattle.theory_reading.specs.Limits.{option_limit}
use Rattle.theory_reading.specs.Causes as C
use Rattle.reader.specs.OpenNodes.{reached_in}
use Rattle.finder.specs.FindCorrect.{found_by, find-options, find-table, find-word, find-ended, find-found, seeks-cleared, end_reads, end-cleared}
use Rattle.finder.proofs.find_next.Goals as goal

pub returns-then-n-gt-OPTION_LIMIT : goal.returns-then-n-gt-OPTION_LIMIT
returns-then-n-gt-OPTION_LIMIT c =
    let a = c.args in
    find-options a.n a.s.now a.t.now a.w _ c.if-n-gt-OPTION_LIMIT.true (ap C.refused c.early.ensures)

pub returns-then-t-lt-TABLE_LIMIT : goal.returns-then-t-lt-TABLE_LIMIT
returns-then-t-lt-TABLE_LIMIT c =
    let a = c.args in
    find-table a.n a.s.now a.t.now a.w _ (omega (arith, c.if-n-gt-OPTION_LIMIT.false)) c.if-t-lt-TABLE_LIMIT.true
    (ap C.refused c.early-then-t-lt-TABLE_LIMIT.ensures)

pub returns-then-n-w : goal.returns-then-n-w
returns-then-n-w c =
    let a = c.args in
    let few : a.n ≤ option_limit = omega (arith, c.if-n-gt-OPTION_LIMIT.false) in
    find-word a.n a.s.now a.t.now a.w _ few (omega (arith, c.if-t-lt-TABLE_LIMIT.false))
    (omega (arith, c.if-n-w.true, shifted a.n (omega (arith, few)))) (ap C.refused c.early-then-n-w.ensures)

pub returns-in_default : goal.returns-in_default
returns-in_default c =
    let a = c.args in
    let few : a.n ≤ option_limit = omega (arith, c.if-n-gt-OPTION_LIMIT.false) in
    let sought = c.seek-x.ensures in
    find-ended a.n a.s.now a.t.now a.w few (omega (arith, c.if-t-lt-TABLE_LIMIT.false))
    (omega (arith, c.if-n-w.false, shifted a.n (omega (arith, few)))) _ _ _ _ _ sought.seeks (sought.halts ∙ ap is_none c.in_default.is)
    c.ended_at.ensures (seeks-cleared a.n a.s.now a.w true _ _ _ a.t.now sought.seeks _ c.clear_all.ensures)

pub returns : goal.returns
returns c =
    let a = c.args in
    let few : a.n ≤ option_limit = omega (arith, c.if-n-gt-OPTION_LIMIT.false) in
    let sought = c.seek-x.ensures in
    find-found a.n a.s.now a.t.now a.w few (omega (arith, c.if-t-lt-TABLE_LIMIT.false))
    (omega (arith, c.if-n-w.false, shifted a.n (omega (arith, few)))) _ _ _ _ _ sought.seeks (sought.halts ∙ ap is_none c.in-Some.is) _ _
    (end_reads a.n a.s.now few a.w c.seek-x.result.reached c.seek-x.new.o _
    c.seek-x.new.t _ sought.seeks c.cursor_of.result c.cursor_of.ensures _ _ c.read_on-e.ensures)
    (c.found_at.ensures ∙ ap (found_by (reached_in c.read_on-e.result [])) (ap (λ (o : Option ℕ). unwrap_or o 0) (sym c.in-Some.is)))
    (end-cleared a.n a.s.now few a.w c.seek-x.result.reached c.seek-x.new.o _
    c.seek-x.new.t _ sought.seeks c.cursor_of.result c.cursor_of.ensures _ _ c.read_on-e.ensures
    c.read_on-e.auto.t _ c.clear_all-2.ensures)
