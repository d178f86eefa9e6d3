-- Too few and too many spaces are ways through the definition; past them the three fields stand between the spaces.
use Rattle.std.proofs.Common.{◌+◌, ◌≤◌, length, refl, sym, ◌∙◌, arith}
use Rattle.theory_reading.specs.Bytes.{blank}
use Rattle.job.specs.Cuts.{cut_at, cut-from, place-some, place-none}
use Rattle.job.specs.Lining.{one_field, two_fields, four-fields, three-fields}
use Rattle.job.proofs.first_line.Goals as goal

pub returns-in_err-a : goal.returns-in_err-a
returns-in_err-a c x y = rw c.from_residual.ensures (one_field c.args.l.now x y _ refl c.in_err-a.ensures)

pub returns-in_err-b : goal.returns-in_err-b
returns-in_err-b c x y = rw c.from_residual-in_err-b.ensures (two_fields c.args.l.now x y _ _ c.in_ok-a.ensures refl c.in_err-b.ensures)

pub returns-then-is_some : goal.returns-then-is_some
returns-then-is_some c x y =
    four-fields c.args.l.now x y _ _ c.in_ok-a.ensures c.in_ok-b.ensures _ refl
    (place-some c.place_of-3.result (length c.args.l.now) _ c.place_of-3.ensures (sym c.is_some.ensures ∙ c.if-is_some.true))

pub slice_bounds-fields-count : goal.slice_bounds-fields-count
slice_bounds-fields-count c = omega (arith, c.in_ok-b.ensures.0, cut-from blank c.args.l.now (c.in_ok-a.a + 1))

pub slice_bounds-fields-start : goal.slice_bounds-fields-start
slice_bounds-fields-start c = omega (arith, c.in_ok-b.ensures.0, cut-from blank c.args.l.now (c.in_ok-a.a + 1))

pub returns : goal.returns
returns c x y =
    let h : length c.args.l.now ≤ cut_at blank c.args.l.now (c.in_ok-b.b + 1) =
    place-none c.place_of-3.result (length c.args.l.now) _ c.place_of-3.ensures (sym c.is_some.ensures ∙ c.if-is_some.false) in
    c.fields.ensures x y ∙ three-fields c.args.l.now x y _ _ c.in_ok-a.ensures c.in_ok-b.ensures _ refl h
