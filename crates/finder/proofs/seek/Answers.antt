-- Reading passes w (`read_first`): a word from w on is found there (`finds-found`), or the search goes on behind what was passed (`searches`) and finds
-- one (`search-finds`). Where reading halts there is no word (`seeks-ended`, `search-ended`).
use Rattle.std.proofs.Common.{sym, ◌∙◌}
use Rattle.finder.specs.Seeking.{none_first, read_first, passed-bounds, seeks-ended, finds-found, searches, search-ended, search-bounds, search-finds}
use Rattle.finder.proofs.seek.Goals as goal

pub returns-then-r : goal.returns-then-r
returns-then-r c =
    let a = c.args in
    let p = c.requires in
    let first = read_first a.n a.s.now p.0 a.w a.v a.t.now a.o.now c.first_cursor.result _ _ p.1.0 p.1.1.0 p.1.1.1
    c.first_cursor.ensures c.read_on-r.ensures in
    record {
      seeks = seeks-ended a.n a.s.now a.v a.w _ _ first.0 a.w (none_first a.n a.s.now p.0 a.w a.v).1 0 _ c.if-r.true c.read_on-r.auto.t first.1;
      halts = c.if-r.true;
    }

pub word_at-word-requires : goal.word_at-word-requires
word_at-word-requires c =
    let a = c.args in
    let p = c.requires in
    let first = read_first a.n a.s.now p.0 a.w a.v a.t.now a.o.now c.first_cursor.result _ _ p.1.0 p.1.1.0 p.1.1.1
    c.first_cursor.ensures c.read_on-r.ensures in
    passed-bounds a.n a.s.now p.0 a.v a.w _ _ first.0 c.if-r.false

pub returns-then-is_some : goal.returns-then-is_some
returns-then-is_some c =
    let a = c.args in
    let p = c.requires in
    let first = read_first a.n a.s.now p.0 a.w a.v a.t.now a.o.now c.first_cursor.result _ _ p.1.0 p.1.1.0 p.1.1.1
    c.first_cursor.ensures c.read_on-r.ensures in
    let none = none_first a.n a.s.now p.0 a.w a.v in
    finds-found a.n a.s.now p.0 a.v a.w _ _ first.0 c.if-r.false a.w none.0 none.1 c.word_at-word.result _
    c.word_at-word.ensures (sym c.is_some.ensures ∙ c.if-is_some.true) c.read_on-r.auto.t first.1

pub returns-then-x : goal.returns-then-x
returns-then-x c =
    let a = c.args in
    let p = c.requires in
    let first = read_first a.n a.s.now p.0 a.w a.v a.t.now a.o.now c.first_cursor.result _ _ p.1.0 p.1.1.0 p.1.1.1
    c.first_cursor.ensures c.read_on-r.ensures in
    let found = searches a.n a.s.now p.0 a.w a.v c.read_on-r.result c.read_on-r.new.o _ _ first c.if-r.false
    c.word_at-word.result c.word_at-word.ensures (sym c.is_some.ensures ∙ c.if-is_some.false)
    c.cursor_of.result c.cursor_of.ensures c.odd_of.result c.odd_of.ensures _ _ c.search_on-x.ensures in
    record {
      seeks = search-ended a.n a.s.now p.0 a.w a.v _ _ _ found 0 c.if-x.true (c.search_on-x.auto.t ∙ c.read_on-r.auto.t);
      halts = c.if-x.true;
    }

pub word_at-requires : goal.word_at-requires
word_at-requires c =
    let a = c.args in
    let p = c.requires in
    let first = read_first a.n a.s.now p.0 a.w a.v a.t.now a.o.now c.first_cursor.result _ _ p.1.0 p.1.1.0 p.1.1.1
    c.first_cursor.ensures c.read_on-r.ensures in
    let found = searches a.n a.s.now p.0 a.w a.v c.read_on-r.result c.read_on-r.new.o _ _ first c.if-r.false
    c.word_at-word.result c.word_at-word.ensures (sym c.is_some.ensures ∙ c.if-is_some.false)
    c.cursor_of.result c.cursor_of.ensures c.odd_of.result c.odd_of.ensures _ _ c.search_on-x.ensures in
    search-bounds a.n a.s.now p.0 a.w a.v _ _ _ found c.if-x.false

pub returns : goal.returns
returns c =
    let a = c.args in
    let p = c.requires in
    let first = read_first a.n a.s.now p.0 a.w a.v a.t.now a.o.now c.first_cursor.result _ _ p.1.0 p.1.1.0 p.1.1.1
    c.first_cursor.ensures c.read_on-r.ensures in
    let found = searches a.n a.s.now p.0 a.w a.v c.read_on-r.result c.read_on-r.new.o _ _ first c.if-r.false
    c.word_at-word.result c.word_at-word.ensures (sym c.is_some.ensures ∙ c.if-is_some.false)
    c.cursor_of.result c.cursor_of.ensures c.odd_of.result c.odd_of.ensures _ _ c.search_on-x.ensures in
    search-finds a.n a.s.now p.0 a.w a.v _ _ _ found c.if-x.false c.word_at.result c.word_at.ensures
    (c.search_on-x.auto.t ∙ c.read_on-r.auto.t)
