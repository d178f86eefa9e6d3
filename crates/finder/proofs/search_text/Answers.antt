-- Past the limits the word is w; else the search comes to the word, or to the end of what is covered (`text-correct`), and every record is cleared.
use Rattle.std.proofs.Common.{◌≤◌, arith}
use Rattle.theory_lists.specs.Powers.{shifted}
use Rattle.theory_reading.specs.Limits.{option_limit}
use Rattle.finder.specs.TextSearch.{text-options, text-table, text-word, text-correct}
use Rattle.finder.proofs.search_text.Goals.{then-n-gt-OPTION_LIMIT-via-then-n-gt-OPTION_LIMIT, then-n-gt-OPTION_LIMIT-via-else-n-gt-OPTION_LIMIT+then-t-lt-TABLE_LIMIT, then-n-gt-OPTION_LIMIT-via-else-n-gt-OPTION_LIMIT+else-t-lt-TABLE_LIMIT+then-n-w}
use Rattle.finder.proofs.search_text.Goals as goal

pub returns-then-n-gt-OPTION_LIMIT : goal.returns-then-n-gt-OPTION_LIMIT
returns-then-n-gt-OPTION_LIMIT c =
    let a = c.args in
    elim c.then-n-gt-OPTION_LIMIT.branch [
      | then-n-gt-OPTION_LIMIT-via-then-n-gt-OPTION_LIMIT w ↦ text-options a.n a.s.now a.w a.v a.t.now w.if-n-gt-OPTION_LIMIT.true
      | then-n-gt-OPTION_LIMIT-via-else-n-gt-OPTION_LIMIT+then-t-lt-TABLE_LIMIT w ↦
          text-table a.n a.s.now a.w a.v a.t.now (omega (arith, w.if-n-gt-OPTION_LIMIT.false)) w.if-t-lt-TABLE_LIMIT.true
      | then-n-gt-OPTION_LIMIT-via-else-n-gt-OPTION_LIMIT+else-t-lt-TABLE_LIMIT+then-n-w w ↦
          let few : a.n ≤ option_limit = omega (arith, w.if-n-gt-OPTION_LIMIT.false) in
          text-word a.n a.s.now a.w a.v a.t.now few (omega (arith, w.if-t-lt-TABLE_LIMIT.false))
          (omega (arith, w.if-n-w.true, shifted a.n (omega (arith, few))))
    ]

pub returns : goal.returns
returns c =
    let a = c.args in
    let few : a.n ≤ option_limit = omega (arith, c.if-n-gt-OPTION_LIMIT.false) in
    text-correct a.n a.s.now a.w a.v a.t.now few (omega (arith, c.if-t-lt-TABLE_LIMIT.false))
    (omega (arith, c.if-n-w.false, shifted a.n (omega (arith, few)))) _ _ _ c.seek-x.ensures _ c.word_of.ensures _ c.clear_all.ensures
