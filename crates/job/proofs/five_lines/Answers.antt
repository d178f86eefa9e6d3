-- Too few and too many lines are ways through the definition; past them the lines end where LFs stand.
use Rattle.std.proofs.Common.{◌≡◌, ◌+◌, length, arith, refl, sym, ap, ◌∙◌}
use Rattle.theory_reading.specs.Bytes.{line_feed}
use Rattle.job.specs.Abstraction.{lines_job}
use Rattle.job.specs.Cuts.{cut_at, cut-to, cut-from, place-or-end}
use Rattle.job.specs.Lining.{one_line, two-lines, three-lines, four-lines, more-lines, five-lines, lines-ends}
use Rattle.job.proofs.five_lines.Goals as goal

pub returns-in_err-a-clause-result_value : goal.returns-in_err-a-clause-result_value
returns-in_err-a-clause-result_value c = ap lines_job c.from_residual.ensures ∙ sym (one_line c.args.s.now _ refl c.in_err-a.ensures)

pub returns-in_err-b-clause-result_value : goal.returns-in_err-b-clause-result_value
returns-in_err-b-clause-result_value c =
    ap lines_job c.from_residual-in_err-b.ensures
    ∙ sym (two-lines c.args.s.now _ _ c.in_ok-a.ensures refl c.in_err-b.ensures)

pub returns-in_err-c-clause-result_value : goal.returns-in_err-c-clause-result_value
returns-in_err-c-clause-result_value c =
    ap lines_job c.from_residual-in_err-c.ensures
    ∙ sym (three-lines c.args.s.now _ _ _ c.in_ok-a.ensures c.in_ok-b.ensures refl c.in_err-c.ensures)

pub returns-in_err-d-clause-result_value : goal.returns-in_err-d-clause-result_value
returns-in_err-d-clause-result_value c =
    ap lines_job c.from_residual-in_err-d.ensures
    ∙ sym (four-lines c.args.s.now _ _ _ c.in_ok-a.ensures c.in_ok-b.ensures c.in_ok-c.ensures _ refl c.in_err-d.ensures)

pub returns-then-e-s-clause-result_value : goal.returns-then-e-s-clause-result_value
returns-then-e-s-clause-result_value c =
    let e : c.unwrap_or-e.result ≡ cut_at line_feed c.args.s.now (c.in_ok-d.d + 1) =
    c.unwrap_or-e.ensures ∙ place-or-end c.place_of-5.result (length c.args.s.now) _ c.place_of-5.ensures (cut-to line_feed c.args.s.now (c.in_ok-d.d + 1) (omega (arith, c.in_ok-d.ensures.1))) in
    sym (more-lines c.args.s.now _ _ _ c.in_ok-a.ensures c.in_ok-b.ensures c.in_ok-c.ensures _ c.in_ok-d.ensures _ e c.if-e-s.true)

pub slice_bounds-result-count : goal.slice_bounds-result-count
slice_bounds-result-count c =
    omega (arith, cut-from line_feed c.args.s.now (c.in_ok-a.a + 1), cut-from line_feed c.args.s.now (c.in_ok-b.b + 1), c.in_ok-b.ensures.0, c.in_ok-c.ensures.0)

pub slice_bounds-result-start : goal.slice_bounds-result-start
slice_bounds-result-start c =
    omega (arith, cut-from line_feed c.args.s.now (c.in_ok-a.a + 1), cut-from line_feed c.args.s.now (c.in_ok-b.b + 1), c.in_ok-b.ensures.0, c.in_ok-c.ensures.0)

pub slice_bounds-result-count-2 : goal.slice_bounds-result-count-2
slice_bounds-result-count-2 c =
    let e : c.unwrap_or-e.result ≡ cut_at line_feed c.args.s.now (c.in_ok-d.d + 1) =
    c.unwrap_or-e.ensures ∙ place-or-end c.place_of-5.result (length c.args.s.now) _ c.place_of-5.ensures (cut-to line_feed c.args.s.now (c.in_ok-d.d + 1) (omega (arith, c.in_ok-d.ensures.1))) in
    omega (arith, e, cut-from line_feed c.args.s.now (c.in_ok-c.c + 1), cut-from line_feed c.args.s.now (c.in_ok-d.d + 1), c.in_ok-d.ensures.0)

pub slice_bounds-result-start-2 : goal.slice_bounds-result-start-2
slice_bounds-result-start-2 c = slice_bounds-result-count-2 c

pub returns-clause-result_value : goal.returns-clause-result_value
returns-clause-result_value c =
    let e : c.unwrap_or-e.result ≡ cut_at line_feed c.args.s.now (c.in_ok-d.d + 1) =
    c.unwrap_or-e.ensures ∙ place-or-end c.place_of-5.result (length c.args.s.now) _ c.place_of-5.ensures (cut-to line_feed c.args.s.now (c.in_ok-d.d + 1) (omega (arith, c.in_ok-d.ensures.1))) in
    five-lines c.args.s.now _ _ _ c.in_ok-a.ensures c.in_ok-b.ensures c.in_ok-c.ensures _ c.in_ok-d.ensures _ e c.if-e-s.false

pub returns-clause-placed : goal.returns-clause-placed
returns-clause-placed c =
    let e : c.unwrap_or-e.result ≡ cut_at line_feed c.args.s.now (c.in_ok-d.d + 1) =
    c.unwrap_or-e.ensures ∙ place-or-end c.place_of-5.result (length c.args.s.now) _ c.place_of-5.ensures (cut-to line_feed c.args.s.now (c.in_ok-d.d + 1) (omega (arith, c.in_ok-d.ensures.1))) in
    lines-ends c.args.s.now _ _ _ c.in_ok-a.ensures c.in_ok-b.ensures c.in_ok-c.ensures _ c.in_ok-d.ensures _ e
