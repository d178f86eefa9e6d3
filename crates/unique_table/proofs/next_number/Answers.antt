-- The next number up to the size, then one of the queue.
use Rattle.std.proofs.Common.{◌∙◌, ap, arith, ◌+◌, None}
use Rattle.theory_engine.specs.RecyclingCorrect.{next-fresh, next-free}
use Rattle.writer_numbers.specs.Numbers.{number_of}
use Rattle.unique_table.proofs.Linking.{if-some}
use Rattle.unique_table.proofs.next_number.Goals as goal

pub returns-then-z-size : goal.returns-then-z-size
returns-then-z-size c =
    let a = c.args in
    if-some {p = a.z + 1} None (λ e. omega (arith, e)) ∙ ap number_of (next-fresh a.t.now a.z a.f a.size a.a a.b c.if-z-size.true)

pub returns-else-z-size : goal.returns-else-z-size
returns-else-z-size c =
    let a = c.args in
    c.free.ensures ∙ ap number_of (next-free a.t.now a.z a.f a.size a.a a.b c.if-z-size.false)
