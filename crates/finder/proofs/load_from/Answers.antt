-- Past the limits the stream is loaded, and the word is w (`from-loaded`). Else the search comes to the end of the stream (`from-ended`), or to a word, and
-- the rest is read (`from-rest`): both are legs of the way that loading goes.
use Rattle.std.proofs.Common.{◌≤◌, ◌∙◌, arith}
use Rattle.theory_lists.specs.Powers.{shifted}
use Rattle.theory_reading.specs.Limits.{option_limit}
use Rattle.finder.specs.TextSearch.{text-options, text-table, text-word}
use Rattle.finder.specs.LoadFrom.{from-loaded, from-ended, from-rest}
use Rattle.finder.proofs.load_from.Goals.{then-n-gt-OPTION_LIMIT-via-then-n-gt-OPTION_LIMIT, then-n-gt-OPTION_LIMIT-via-else-n-gt-OPTION_LIMIT+then-t-lt-TABLE_LIMIT, then-n-gt-OPTION_LIMIT-via-else-n-gt-OPTION_LIMIT+else-t-lt-TABLE_LIMIT+then-n-w, in-Some, in-None}
use Rattle.finder.proofs.load_from.Goals as goal

pub returns-then-n-gt-OPTION_LIMIT : goal.returns-then-n-gt-OPTION_LIMIT
returns-then-n-gt-OPTION_LIMIT c =
    let a = c.args in
    from-loaded a.n a.s.now a.w a.v a.t.now _ c.load.ensures
    (elim c.then-n-gt-OPTION_LIMIT.branch [
      | then-n-gt-OPTION_LIMIT-via-then-n-gt-OPTION_LIMIT w ↦ text-options a.n a.s.now a.w a.v a.t.now w.if-n-gt-OPTION_LIMIT.true
      | then-n-gt-OPTION_LIMIT-via-else-n-gt-OPTION_LIMIT+then-t-lt-TABLE_LIMIT w ↦
          text-table a.n a.s.now a.w a.v a.t.now (omega (arith, w.if-n-gt-OPTION_LIMIT.false)) w.if-t-lt-TABLE_LIMIT.true
      | then-n-gt-OPTION_LIMIT-via-else-n-gt-OPTION_LIMIT+else-t-lt-TABLE_LIMIT+then-n-w w ↦
          let few : a.n ≤ option_limit = omega (arith, w.if-n-gt-OPTION_LIMIT.false) in
          text-word a.n a.s.now a.w a.v a.t.now few (omega (arith, w.if-t-lt-TABLE_LIMIT.false))
          (omega (arith, w.if-n-w.true, shifted a.n (omega (arith, few))))
    ])

pub returns : goal.returns
returns c =
    let a = c.args in
    let few : a.n ≤ option_limit = omega (arith, c.if-n-gt-OPTION_LIMIT.false) in
    let room = c.if-t-lt-TABLE_LIMIT.false in
    let l = c.if-n-w.false in
    elim c.match-x.branch [
      | in-Some w ↦
          from-rest a.n a.s.now a.w a.v a.t.now few (omega (arith, room)) (omega (arith, l, shifted a.n (omega (arith, few)))) c.seek-x.result.reached
          c.seek-x.new.o c.seek-x.result.word c.seek-x.new.t c.seek-x.ensures _ c.word_of.ensures _ w.in-Some.is w.cursor_of.result
          w.cursor_of.ensures _ _ w.read_on-r.ensures _ (c.loaded_at.ensures ∙ (cc))
      | in-None w ↦
          from-ended a.n a.s.now a.w a.v a.t.now few (omega (arith, room)) (omega (arith, l, shifted a.n (omega (arith, few)))) c.seek-x.result.reached
          c.seek-x.new.o c.seek-x.result.word c.seek-x.new.t c.seek-x.ensures _ c.word_of.ensures w.in-None.is _ (c.loaded_at.ensures ∙ (cc))
    ]
