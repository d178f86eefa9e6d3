-- The step is the next token by the table of kinds, whose entry and an empty one are stored at the two spots.
use Rattle.std.proofs.Common.{◌≡◌, List, length, get_or, ap, ◌∙◌, arith}
use Rattle.theory_reading.specs.Limits.{open_limit}
use Rattle.kinds.specs.declared.Kind.{Kind}
use Rattle.elements.specs.Abstraction.{context_of, inside_open}
use Rattle.elements.specs.declared.Spots.{Spots}
use Rattle.scanner.specs.TokenView.{next_token}
use Rattle.places.specs.PlaceLaws.{place-step}
use Rattle.places.proofs.Place.step.Goals as goal

pub returns : goal.returns
returns c =
    let p = c.args.self in
    let sp = c.spots_of-spots in
    let x = c.next_token-x in
    let long : length p.opens.nodes ≡ open_limit = omega arith in
    rw c.from.ensures
    (place-step c.args.s.now p long sp.result.low sp.result.high
    (ap (λ (y : Spots). y.low) sp.ensures)
    (ap (λ (y : Spots). y.high) sp.ensures)
    x.result
    (x.ensures ∙ ap (λ (k : List Kind). next_token k c.args.s.now p.at (context_of p.context) p.last p.opens.depth (get_or p.opens.nodes sp.result.low inside_open))
    c.kinds.ensures))
