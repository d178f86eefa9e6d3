-- A number stands after the byte at the place, or the bytes end, or the next is wrong.
use Rattle.std.proofs.Common.{sym, ap, ◌∙◌, arith}
use Rattle.elements.specs.Abstraction.{context_of}
use Rattle.scanner.specs.TokenView.{scanned_view, plain}
use Rattle.scanner.specs.ScannedTokenLaws.{space-past, space-wrong, space-number}
use Rattle.scanner.proofs.Spot.scan_space.Goals as goal

pub returns-then-self-i : goal.returns-then-self-i
returns-then-self-i c =
    let p = c.args.self in
    ap scanned_view c.waited.ensures ∙ ap (plain p.depth) (space-past p.kinds.now p.stream.now p.at (context_of p.context) c.if-self-i.true)

pub returns-then-not-is_kind : goal.returns-then-not-is_kind
returns-then-not-is_kind c =
    let p = c.args.self in
    ap scanned_view c.failed.ensures
    ∙ ap (plain p.depth) (space-wrong p.kinds.now p.stream.now p.at (context_of p.context) (omega arith) (sym c.if-not-is_kind.ensures))

pub returns : goal.returns
returns c =
    let p = c.args.self in
    c.scan_number.ensures ∙ ap (plain p.depth) (space-number p.kinds.now p.stream.now p.at (context_of p.context) (omega arith) (sym c.if-not-is_kind.ensures))
