-- Past the limits the word is w; else the search goes down from the outermost node, turned about for words that are no.
use Rattle.std.proofs.Common.{ℕ, Option, unwrap_or, ◌≤◌, ◌<◌, ◌^◌, ap, ap₂, ◌∙◌, arith}
use Rattle.theory_lists.specs.Powers.{shifted}
use Rattle.theory_reading.specs.Limits.{option_limit}
use Rattle.node_records.specs.declared.Edge.{Edge}
use Rattle.finder.specs.Search.{from_in}
use Rattle.finder.specs.SearchSteps.{from-most, below-or}
use Rattle.finder.specs.TextSearch.{nodes-options, nodes-word, nodes-within}
use Rattle.finder.proofs.search_nodes.Goals.{then-n-gt-OPTION_LIMIT-via-then-n-gt-OPTION_LIMIT, then-n-gt-OPTION_LIMIT-via-else-n-gt-OPTION_LIMIT+then-n-w}
use Rattle.finder.proofs.search_nodes.Goals as goal

pub returns-then-n-gt-OPTION_LIMIT : goal.returns-then-n-gt-OPTION_LIMIT
returns-then-n-gt-OPTION_LIMIT c =
    let a = c.args in
    elim c.then-n-gt-OPTION_LIMIT.branch [
      | then-n-gt-OPTION_LIMIT-via-then-n-gt-OPTION_LIMIT w ↦ nodes-options a.n a.t.now a.z a.e a.w a.v w.if-n-gt-OPTION_LIMIT.true
      | then-n-gt-OPTION_LIMIT-via-else-n-gt-OPTION_LIMIT+then-n-w w ↦
          let few : a.n ≤ option_limit = omega (arith, w.if-n-gt-OPTION_LIMIT.false) in
          nodes-word a.n a.t.now a.z a.e a.w a.v few (omega (arith, w.if-n-w.true, shifted a.n (omega (arith, few))))
    ]

pub returns : goal.returns
returns c =
    let a = c.args in
    let few : a.n ≤ option_limit = omega (arith, c.if-n-gt-OPTION_LIMIT.false) in
    let l : a.w < 2 ^ a.n = omega (arith, c.if-n-w.false, shifted a.n (omega (arith, few))) in
    c.unwrap_or.ensures
    ∙ ap₂ (λ (o : Option ℕ) (k : ℕ). unwrap_or o k) c.word_from.ensures (shifted a.n (omega (arith, few)))
    ∙ below-or _ _ (from-most a.n a.t.now a.z 1 c.turned_edge.result a.w l)
    ∙ ap (λ (f : Edge). from_in a.n a.t.now a.z 1 f a.w) c.turned_edge.ensures
    ∙ nodes-within a.n a.t.now a.z a.e a.w a.v few l
