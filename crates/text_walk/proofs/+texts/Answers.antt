-- All inputs at edges, or two halves that meet, unless the covered words end or the output is full; each half has an option less.
-- Assumes nothing.
use Rattle.std.proofs.Common.{arith, ◌*◌, ◌-◌, ◌%◌, ◌^◌}
use Rattle.theory_lists.specs.Powers.{shifted}
use Rattle.meeting.specs.Abstraction.{progress_of}
use Rattle.edges.specs.Abstraction.{edge_in}
use Rattle.reader.specs.OpenNodes.{opens_in}
use Rattle.operation_cache.specs.Abstraction.{rows_of}
use Rattle.operands.specs.Abstraction.{inside, reader_of, input_of}
use Rattle.text_walk.specs.Abstraction.{gap_in}
use Rattle.text_walk.specs.TextsCorrect.{some-option, one_down, first-asks, second-asks, texts-edges, texts-halted, texts-ended, texts-done}
use Rattle.text_walk.specs.TextsCorrect.{texts-on}
use Rattle.text_walk.proofs.+texts.Goals as goal

pub returns-then-at_edges-clause-walked : goal.returns-then-at_edges-clause-walked
returns-then-at_edges-clause-walked t c =
    let a = c.args in
    let s = a.to.now in
    let r = c.apply.new.to in
    texts-edges a.k a.d a.i a.at a.m (input_of a.f a.x.now) (input_of a.g a.y.now) (rows_of a.cache.now) s.table.now s.out.now s.waiting.now
    (progress_of a.progress)
    (edge_in c.edge_of.result a.x.now.table.now) (edge_in c.edge_of-then-at_edges.result a.y.now.table.now) c.apply.result r.table.now
    r.out.now r.waiting.now (rows_of c.apply.new.cache) c.at_edges.result c.at_edges.ensures c.if-at_edges.true (omega (arith, c.requires))
    (omega (arith, c.requires))
    (c.edge_of.ensures.read a.k.n (opens_in a.x.now.opens.now a.f.block.cursor.depth) a.x.now.bytes.now a.x.now.table.now)
    (c.edge_of-then-at_edges.ensures.read a.k.n (opens_in a.y.now.opens.now a.g.block.cursor.depth) a.y.now.bytes.now a.y.now.table.now)
    c.apply.ensures.walked

pub texts-a-requires : goal.texts-a-requires
texts-a-requires t c =
    let a = c.args in
    let z = some-option a.k a.d a.at (inside a.f.edge) (inside a.g.edge) c.at_edges.result c.at_edges.ensures c.if-at_edges.false in
    first-asks a.d a.i a.at t (c.decreases, c.requires) z

pub returns-then-is_halted-clause-walked : goal.returns-then-is_halted-clause-walked
returns-then-is_halted-clause-walked t c =
    let a = c.args in
    let s = a.to.now in
    let z = some-option a.k a.d a.at (inside a.f.edge) (inside a.g.edge) c.at_edges.result c.at_edges.ensures c.if-at_edges.false in
    texts-halted a.k a.d a.i a.at a.m (input_of a.f a.x.now) (input_of a.g a.y.now) (rows_of a.cache.now) s.table.now s.out.now s.waiting.now
    (progress_of a.progress) (a.d - 1) (one_down a.d z) c.at_edges.result c.at_edges.ensures c.if-at_edges.false
    (input_of (record { edge = c.first_half.result; block = a.f.block }) a.x.now)
    (input_of (record { edge = c.first_half-2.result; block = a.g.block }) a.y.now)
    (record { bytes = c.push-p.new.w; count = c.push-p.result }) c.texts-a.result
    (reader_of c.texts-a.result.first c.texts-a.new.x) (reader_of c.texts-a.result.second c.texts-a.new.y) c.texts-a.new.to.table.now
    c.texts-a.new.to.out.now c.texts-a.new.to.waiting.now (rows_of c.texts-a.new.cache)
    (c.first_half.ensures a.k.n (opens_in a.x.now.opens.now a.f.block.cursor.depth) a.x.now.bytes.now)
    (c.first_half-2.ensures a.k.n (opens_in a.y.now.opens.now a.g.block.cursor.depth) a.y.now.bytes.now) c.push-p.ensures
    c.texts-a.ensures.walked
    c.is_halted.result c.is_halted.ensures c.if-is_halted.true

pub returns-then-k-mid-clause-walked : goal.returns-then-k-mid-clause-walked
returns-then-k-mid-clause-walked t c =
    let a = c.args in
    let s = a.to.now in
    let z = some-option a.k a.d a.at (inside a.f.edge) (inside a.g.edge) c.at_edges.result c.at_edges.ensures c.if-at_edges.false in
    texts-ended a.k a.d a.i a.at a.m (input_of a.f a.x.now) (input_of a.g a.y.now) (rows_of a.cache.now) s.table.now s.out.now s.waiting.now
    (progress_of a.progress) (a.d - 1) (one_down a.d z) c.at_edges.result c.at_edges.ensures c.if-at_edges.false
    (input_of (record { edge = c.first_half.result; block = a.f.block }) a.x.now)
    (input_of (record { edge = c.first_half-2.result; block = a.g.block }) a.y.now)
    (record { bytes = c.push-p.new.w; count = c.push-p.result }) c.texts-a.result
    (reader_of c.texts-a.result.first c.texts-a.new.x) (reader_of c.texts-a.result.second c.texts-a.new.y) c.texts-a.new.to.table.now
    c.texts-a.new.to.out.now c.texts-a.new.to.waiting.now (rows_of c.texts-a.new.cache)
    (c.first_half.ensures a.k.n (opens_in a.x.now.opens.now a.f.block.cursor.depth) a.x.now.bytes.now)
    (c.first_half-2.ensures a.k.n (opens_in a.y.now.opens.now a.g.block.cursor.depth) a.y.now.bytes.now) c.push-p.ensures
    c.texts-a.ensures.walked
    (1 * 2 ^ (a.d - 1) % 18446744073709551616) (shifted (a.d - 1) (omega (arith, c.requires))) c.is_halted.result c.is_halted.ensures
    c.if-is_halted.false c.if-k-mid.true

pub texts-b-requires : goal.texts-b-requires
texts-b-requires t c =
    let a = c.args in
    let z = some-option a.k a.d a.at (inside a.f.edge) (inside a.g.edge) c.at_edges.result c.at_edges.ensures c.if-at_edges.false in
    second-asks a.d a.i a.at t (1 * 2 ^ (a.d - 1) % 18446744073709551616) (c.decreases, c.requires) z
    (shifted (a.d - 1) (omega (arith, c.requires)))

pub returns-then-is_halted-2-clause-walked : goal.returns-then-is_halted-2-clause-walked
returns-then-is_halted-2-clause-walked t c =
    let a = c.args in
    let s = a.to.now in
    let z = some-option a.k a.d a.at (inside a.f.edge) (inside a.g.edge) c.at_edges.result c.at_edges.ensures c.if-at_edges.false in
    texts-done a.k a.d a.i a.at a.m (input_of a.f a.x.now) (input_of a.g a.y.now) (rows_of a.cache.now) s.table.now s.out.now s.waiting.now
    (progress_of a.progress) (a.d - 1) (one_down a.d z) c.at_edges.result c.at_edges.ensures c.if-at_edges.false
    (input_of (record { edge = c.first_half.result; block = a.f.block }) a.x.now)
    (input_of (record { edge = c.first_half-2.result; block = a.g.block }) a.y.now)
    (record { bytes = c.push-p.new.w; count = c.push-p.result }) c.texts-a.result
    (reader_of c.texts-a.result.first c.texts-a.new.x) (reader_of c.texts-a.result.second c.texts-a.new.y) c.texts-a.new.to.table.now
    c.texts-a.new.to.out.now c.texts-a.new.to.waiting.now (rows_of c.texts-a.new.cache)
    (c.first_half.ensures a.k.n (opens_in a.x.now.opens.now a.f.block.cursor.depth) a.x.now.bytes.now)
    (c.first_half-2.ensures a.k.n (opens_in a.y.now.opens.now a.g.block.cursor.depth) a.y.now.bytes.now) c.push-p.ensures
    c.texts-a.ensures.walked
    (1 * 2 ^ (a.d - 1) % 18446744073709551616) (shifted (a.d - 1) (omega (arith, c.requires))) c.is_halted.result c.is_halted.ensures
    c.if-is_halted.false
    (omega (arith, c.if-k-mid.false)) (input_of c.second_half-f2.result c.second_half-f2.new.s)
    (input_of c.second_half-g2.result c.second_half-g2.new.s) (gap_in c.cross-gap.result c.cross-gap.new.w) c.texts-b.result
    (reader_of c.texts-b.result.first c.texts-b.new.x) (reader_of c.texts-b.result.second c.texts-b.new.y) c.texts-b.new.to.table.now
    c.texts-b.new.to.out.now c.texts-b.new.to.waiting.now (rows_of c.texts-b.new.cache)
    c.second_half-f2.ensures.gone c.second_half-g2.ensures.gone c.cross-gap.ensures c.texts-b.ensures.walked
    c.is_halted-2.result c.is_halted-2.ensures c.if-is_halted-2.true

pub returns-clause-walked : goal.returns-clause-walked
returns-clause-walked t c =
    let a = c.args in
    let s = a.to.now in
    let z = some-option a.k a.d a.at (inside a.f.edge) (inside a.g.edge) c.at_edges.result c.at_edges.ensures c.if-at_edges.false in
    texts-on a.k a.d a.i a.at a.m (input_of a.f a.x.now) (input_of a.g a.y.now) (rows_of a.cache.now) s.table.now s.out.now s.waiting.now
    (progress_of a.progress) (a.d - 1) (one_down a.d z) c.at_edges.result c.at_edges.ensures c.if-at_edges.false
    (input_of (record { edge = c.first_half.result; block = a.f.block }) a.x.now)
    (input_of (record { edge = c.first_half-2.result; block = a.g.block }) a.y.now)
    (record { bytes = c.push-p.new.w; count = c.push-p.result }) c.texts-a.result
    (reader_of c.texts-a.result.first c.texts-a.new.x) (reader_of c.texts-a.result.second c.texts-a.new.y) c.texts-a.new.to.table.now
    c.texts-a.new.to.out.now c.texts-a.new.to.waiting.now (rows_of c.texts-a.new.cache)
    (c.first_half.ensures a.k.n (opens_in a.x.now.opens.now a.f.block.cursor.depth) a.x.now.bytes.now)
    (c.first_half-2.ensures a.k.n (opens_in a.y.now.opens.now a.g.block.cursor.depth) a.y.now.bytes.now) c.push-p.ensures
    c.texts-a.ensures.walked
    (1 * 2 ^ (a.d - 1) % 18446744073709551616) (shifted (a.d - 1) (omega (arith, c.requires))) c.is_halted.result c.is_halted.ensures
    c.if-is_halted.false
    (omega (arith, c.if-k-mid.false)) (input_of c.second_half-f2.result c.second_half-f2.new.s)
    (input_of c.second_half-g2.result c.second_half-g2.new.s) (gap_in c.cross-gap.result c.cross-gap.new.w) c.texts-b.result
    (reader_of c.texts-b.result.first c.texts-b.new.x) (reader_of c.texts-b.result.second c.texts-b.new.y) c.texts-b.new.to.table.now
    c.texts-b.new.to.out.now c.texts-b.new.to.waiting.now (rows_of c.texts-b.new.cache)
    c.second_half-f2.ensures.gone c.second_half-g2.ensures.gone c.cross-gap.ensures c.texts-b.ensures.walked
    c.is_halted-2.result c.is_halted-2.ensures c.if-is_halted-2.false c.second.result
    c.second.new.to.table.now c.second.new.to.out.now c.second.new.to.waiting.now c.second.ensures.walked
