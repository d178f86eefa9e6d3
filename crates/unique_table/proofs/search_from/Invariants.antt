-- So many numbers were looked at, and none had the node: the search goes on from k.
use Rattle.std.proofs.Common.{◌≡◌, ◌-◌}
use Rattle.theory_engine.specs.Recycling.{search_in}
use Rattle.unique_table.proofs.search_from.Given as goal

abbrev pub invariant-loop : goal.invariant-loop
invariant-loop l =
    let n = l.fn.n in
    search_in l.fn.t (l.fn.m - l.counter) l.k n.level n.first n.second n.complement
    ≡ search_in l.fn.t l.fn.m l.fn.k n.level n.first n.second n.complement
