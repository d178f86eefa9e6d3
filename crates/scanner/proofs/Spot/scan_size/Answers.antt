-- Each way is that of the size by what scanning its number gave.
use Rattle.std.proofs.Common.{get_or, sym, ap, ◌∙◌, arith}
use Rattle.kinds.specs.Kinds.{number_by}
use Rattle.elements.specs.Abstraction.{context_of}
use Rattle.scanner.specs.TokenView.{scanned_view, plain}
use Rattle.scanner.specs.ScannedTokenLaws.{size-past, size-line, size-wrong}
use Rattle.scanner.proofs.Spot.scan_size.Goals as goal

pub returns-then-self-x : goal.returns-then-self-x
returns-then-self-x c =
    let p = c.args.self in
    let s = p.stream.now in
    let n = c.in-Some.x in
    ap scanned_view c.waited-then-self-x.ensures
    ∙ ap (plain p.depth) (size-past (number_by p.kinds.now s p.at (get_or s p.at 0)) p.at (context_of p.context) n.value n.next c.in-Some.ensures
    p.kinds.now s c.if-self-x.true)

pub returns-then-is_kind : goal.returns-then-is_kind
returns-then-is_kind c =
    let p = c.args.self in
    let s = p.stream.now in
    let n = c.in-Some.x in
    ap scanned_view c.gave.ensures
    ∙ ap (plain p.depth) (size-line (number_by p.kinds.now s p.at (get_or s p.at 0)) p.at (context_of p.context) n.value n.next c.in-Some.ensures
    p.kinds.now s (omega arith) (sym c.if-is_kind.ensures))

pub returns : goal.returns
returns c =
    let p = c.args.self in
    let s = p.stream.now in
    let n = c.in-Some.x in
    ap scanned_view c.failed.ensures
    ∙ ap (plain p.depth) (size-wrong (number_by p.kinds.now s p.at (get_or s p.at 0)) p.at (context_of p.context) n.value n.next c.in-Some.ensures
    p.kinds.now s (omega arith) (sym c.if-is_kind.ensures))
