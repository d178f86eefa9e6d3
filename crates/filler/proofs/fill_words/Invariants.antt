-- Each iteration reads until more words are covered, and fills those of the node that was passed; where reading halts all are filled.
use Rattle.std.proofs.Common.{◌≡◌, ◌-◌, ◌^◌, ◌≤◌}
use Rattle.std.proofs.Math.Option.{none}
use Rattle.theory_reading.specs.Limits.{truth_table_least, truth_table_most}
use Rattle.theory_reading.specs.Reading.{reading}
use Rattle.reader.specs.OpenNodes.{opens_in}
use Rattle.filler.specs.FillCorrect.{FilledTo}
use Rattle.filler.proofs.fill_words.Given as goal

abbrev pub invariant-loop-o : goal.invariant-loop-o
invariant-loop-o l =
    (truth_table_least ≤ l.n) × ((l.n ≤ truth_table_most) × (((reading l.n l.s).fault ≡ none)
    × FilledTo l.n l.s l.c.run (opens_in l.o l.c.depth) l.t l.v))

abbrev pub decreases-loop-o : goal.decreases-loop-o
decreases-loop-o l = 2 ^ l.n - l.c.run.covered
