-- The loop holds the digits passed as one capped number: reading on from them comes to what the whole number does.
use Rattle.std.proofs.Common.{◌≡◌, ◌≤◌, drop, get_or}
use Rattle.kinds.specs.Kinds.{number_by}
use Rattle.scanner.specs.Capped.{cap_scan, number_most, capped_on}
use Rattle.scanner.proofs.number_at.Given as goal

abbrev pub invariant-loop-next : goal.invariant-loop-next
invariant-loop-next l = record {
  fits : l.value ≤ number_most;
  whole : capped_on l.k (drop l.next l.s) l.value l.next ≡ cap_scan (number_by l.k l.s l.at (get_or l.s l.at 0));
}
