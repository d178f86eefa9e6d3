-- A word of the second half goes on there; one of the first half goes on there and, if nothing is found, the second half's words start.
use Rattle.std.proofs.Common.{◌-◌, ◌^◌, refl, sym, ap, ◌∙◌, arith, is_some}
use Rattle.theory_lists.specs.Powers.{both_halves}
use Rattle.finder.specs.SearchSteps.{half_of, halved, from-none, from_one, from-high, from_low, from_start, below-some, below-none, is-below, not-below, below-low, below-more, none-more}
use Rattle.finder.proofs.+word_from.Goals as goal

pub returns-then-not-some_word : goal.returns-then-not-some_word
returns-then-not-some_word t c =
    let a = c.args in
    below-none _ _ (omega (arith, from-none a.m a.t.now a.z a.i a.e a.w (sym c.some_word.ensures ∙ c.if-not-some_word.true)))

pub returns-then-m-eq0 : goal.returns-then-m-eq0
returns-then-m-eq0 t c =
    let a = c.args in
    let one = from_one a.m a.t.now a.z a.i a.e a.w c.if-m-eq0.true (sym c.some_word.ensures ∙ c.if-not-some_word.false) in
    below-some _ _ _ one (omega (arith, one, c.requires.1))

pub word_from-requires : goal.word_from-requires
word_from-requires t c =
    let a = c.args in
    let p = c.requires in (
      omega (arith, c.if-m-eq0.false, c.decreases),
      (
        (omega (arith, p.0.0), omega (arith, p.0.1, c.if-m-eq0.false)),
        omega (arith, p.1, c.if-half-w.true, halved a.m p.0.0, both_halves a.m c.if-m-eq0.false),
      ),
    )

pub returns-in_err-word_from : goal.returns-in_err-word_from
returns-in_err-word_from t c =
    let a = c.args in
    c.from_residual.ensures
    ∙ none-more (half_of a.m) (2 ^ (a.m - 1)) (2 ^ a.m) (halved a.m c.requires.0.0) (both_halves a.m c.if-m-eq0.false) _ _
    (from-high a.t.now a.z a.i a.e c.get-x.result c.get-x.ensures (sym c.some_word.ensures ∙ c.if-not-some_word.false)
    a.m a.w c.if-m-eq0.false c.requires.0.0 c.second_edge-g.result c.second_edge-g.ensures c.if-half-w.true _ refl)
    (sym c.word_from.ensures ∙ c.in_err-word_from.was)

pub returns-then-half-w : goal.returns-then-half-w
returns-then-half-w t c =
    let a = c.args in
    below-more (half_of a.m) (2 ^ (a.m - 1)) (2 ^ a.m) (halved a.m c.requires.0.0) (both_halves a.m c.if-m-eq0.false) _ _ _
    (from-high a.t.now a.z a.i a.e c.get-x.result c.get-x.ensures (sym c.some_word.ensures ∙ c.if-not-some_word.false)
    a.m a.w c.if-m-eq0.false c.requires.0.0 c.second_edge-g.result c.second_edge-g.ensures c.if-half-w.true _ refl)
    (sym c.word_from.ensures ∙ c.in_ok-word_from.was)

pub returns-then-is_some : goal.returns-then-is_some
returns-then-is_some t c =
    let a = c.args in
    let l = is-below _ _ (ap is_some (sym c.word_from-r.ensures) ∙ sym c.is_some.ensures ∙ c.if-is_some.true) in
    c.word_from-r.ensures
    ∙ below-low (2 ^ (a.m - 1)) (2 ^ a.m) (both_halves a.m c.if-m-eq0.false) _ _
    (from_low a.t.now a.z a.i a.e c.get-x.result c.get-x.ensures (sym c.some_word.ensures ∙ c.if-not-some_word.false)
    a.m a.w c.if-m-eq0.false c.requires.0.0 c.first_edge.result c.first_edge.ensures (omega (arith, c.if-half-w.false)) _ refl
    (omega (arith, l, halved a.m c.requires.0.0))) l

pub returns-in_err-start_word : goal.returns-in_err-start_word
returns-in_err-start_word t c =
    let a = c.args in
    let l = not-below _ _ (ap is_some (sym c.word_from-r.ensures) ∙ sym c.is_some.ensures ∙ c.if-is_some.false) in
    c.from_residual-in_err-start_word.ensures
    ∙ none-more (half_of a.m) (2 ^ (a.m - 1)) (2 ^ a.m) (halved a.m c.requires.0.0) (both_halves a.m c.if-m-eq0.false) _ _
    (from_start a.t.now a.z a.i a.e c.get-x.result c.get-x.ensures (sym c.some_word.ensures ∙ c.if-not-some_word.false)
    a.m a.w c.if-m-eq0.false c.requires.0.0 c.first_edge.result c.second_edge-g.result c.first_edge.ensures c.second_edge-g.ensures
    (omega (arith, c.if-half-w.false)) _ refl (omega (arith, l, halved a.m c.requires.0.0)) _ refl)
    (sym c.start_word.ensures ∙ c.in_err-start_word.was)

pub returns : goal.returns
returns t c =
    let a = c.args in
    let l = not-below _ _ (ap is_some (sym c.word_from-r.ensures) ∙ sym c.is_some.ensures ∙ c.if-is_some.false) in
    below-more (half_of a.m) (2 ^ (a.m - 1)) (2 ^ a.m) (halved a.m c.requires.0.0) (both_halves a.m c.if-m-eq0.false) _ _ _
    (from_start a.t.now a.z a.i a.e c.get-x.result c.get-x.ensures (sym c.some_word.ensures ∙ c.if-not-some_word.false)
    a.m a.w c.if-m-eq0.false c.requires.0.0 c.first_edge.result c.second_edge-g.result c.first_edge.ensures c.second_edge-g.ensures
    (omega (arith, c.if-half-w.false)) _ refl (omega (arith, l, halved a.m c.requires.0.0)) _ refl)
    (sym c.start_word.ensures ∙ c.in_ok-start_word.was)
