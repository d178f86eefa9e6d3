-- With an option less each time: in the first half if its record says that some word there is yes, else in the second.
use Rattle.std.proofs.Common.{◌+◌, ◌-◌, sym, ◌∙◌, arith}
use Rattle.finder.specs.SearchSteps.{least-below, halved, half-most, least-one, least_first, least-second}
use Rattle.finder.proofs.+least_word.Goals as goal

pub returns-then-m-eq0 : goal.returns-then-m-eq0
returns-then-m-eq0 t c = least-one c.args.m c.args.t.now c.args.z c.args.i c.args.e c.if-m-eq0.true

pub returns-then-some_word : goal.returns-then-some_word
returns-then-some_word t c =
    let a = c.args in
    least_first a.t.now a.z a.i a.e c.get-x.result c.get-x.ensures a.m c.if-m-eq0.false c.first_edge-f.result
    c.first_edge-f.ensures (sym c.some_word.ensures ∙ c.if-some_word.true) c.least_word.result c.least_word.ensures

pub overflow_add-result : goal.overflow_add-result
overflow_add-result t c =
    let a = c.args in
    omega (
      arith,
      c.least_word-2.ensures,
      least-below (a.m - 1) a.t.now a.z (a.i + 1) c.second_edge.result,
      halved a.m c.requires.0,
      half-most a.m c.requires.0,
    )

pub returns : goal.returns
returns t c =
    let a = c.args in
    least-second a.t.now a.z a.i a.e c.get-x.result c.get-x.ensures a.m c.if-m-eq0.false c.requires.0
    c.first_edge-f.result c.second_edge.result c.first_edge-f.ensures c.second_edge.ensures
    (sym c.some_word.ensures ∙ c.if-some_word.false) c.least_word-2.result c.least_word-2.ensures
