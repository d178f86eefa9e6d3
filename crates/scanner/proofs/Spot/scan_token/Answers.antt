-- The context says which way the step goes; with no byte at the place it waits.
use Rattle.std.proofs.Common.{get_or, ap, ◌∙◌, arith}
use Rattle.elements.specs.Abstraction.{context_of}
use Rattle.scanner.specs.ScannedViewLaws.{steps-first, steps-node, steps-ended, steps-past, steps-here}
use Rattle.scanner.specs.TokenView.{tops_of, scanned_view, plain}
use Rattle.scanner.specs.ScannedTokenLaws.{scan-past}
use Rattle.scanner.proofs.Spot.scan_token.Goals as goal

pub returns-then-self : goal.returns-then-self
returns-then-self c =
    let p = c.args.self in
    ap scanned_view c.waited.ensures
    ∙ ap (plain p.depth) (scan-past p.kinds.now p.stream.now p.at (context_of p.context) (tops_of c.args.top) p.depth c.if-self.true)

pub returns-in-Start : goal.returns-in-Start
returns-in-Start c =
    let p = c.args.self in
    let s = p.stream.now in
    c.scan_first.ensures ∙ steps-here p.kinds.now s p.at p.context (tops_of c.args.top) p.depth (omega arith) _
    (steps-first p.kinds.now s p.at (tops_of c.args.top) p.depth (get_or s p.at 0) p.context c.in-Start.is)

pub returns-in-Lead : goal.returns-in-Lead
returns-in-Lead c =
    let p = c.args.self in
    let s = p.stream.now in
    c.scan_begin.ensures ∙ steps-here p.kinds.now s p.at p.context (tops_of c.args.top) p.depth (omega arith) _
    (steps-node p.kinds.now s p.at (tops_of c.args.top) p.depth (get_or s p.at 0) p.context c.in-Lead.is)

pub returns-in-AfterDigit : goal.returns-in-AfterDigit
returns-in-AfterDigit c =
    let p = c.args.self in
    let s = p.stream.now in
    c.scan_ended.ensures ∙ steps-here p.kinds.now s p.at p.context (tops_of c.args.top) p.depth (omega arith) _
    (steps-ended p.kinds.now s p.at (tops_of c.args.top) p.depth (get_or s p.at 0) p.context c.in-AfterDigit.is)

pub returns-in-Over : goal.returns-in-Over
returns-in-Over c =
    let p = c.args.self in
    let s = p.stream.now in
    ap scanned_view c.failed.ensures ∙ steps-here p.kinds.now s p.at p.context (tops_of c.args.top) p.depth (omega arith) _
    (steps-past p.kinds.now s p.at (tops_of c.args.top) p.depth (get_or s p.at 0) p.context c.in-Over.is)
