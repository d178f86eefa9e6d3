-- The record says whether some word is yes; the least one is below 2^m.
use Rattle.std.proofs.Common.{◌^◌, refl, sym, ap, ◌∙◌}
use Rattle.finder.specs.Search.{word_below}
use Rattle.finder.specs.SearchSteps.{least-below, start-some, below-some}
use Rattle.finder.proofs.start_word.Goals as goal

pub returns-then-some_word : goal.returns-then-some_word
returns-then-some_word c =
    let a = c.args in
    below-some _ _ _ c.least_word.ensures (least-below a.m a.t.now a.z a.i a.e)
    ∙ ap (word_below (2 ^ a.m)) (start-some a.m a.t.now a.z a.i a.e (sym c.some_word.ensures ∙ c.if-some_word.true) _ refl)
