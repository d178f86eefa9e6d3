-- How a run of a combiner ends. Definitions only; code mirrors them, and FinishLaws ties them to the text of a run. Assumes nothing.
use Rattle.std.specs.Prelude.{cond, ℕ, ◌^◌, eqb}
use Rattle.theory_engine.specs.Engine.{Sent, Walked, done_in}
use Rattle.theory_applying.specs.Operands.{Applied}

-- what has gone out after a walk
abbrev pub sent_by : Walked → Sent
sent_by r = record { written = r.progress.written; full = r.progress.full; output = r.output; waits = r.waits }

-- after the walk: of a whole run what waits, and the point; of a cut one no more
abbrev pub finish_in : {BlockReader : Type 0} → ℕ → ℕ → ℕ → Applied BlockReader → Sent
finish_in n c m a = cond (eqb c (2 ^ n)) (done_in m a.walked) (sent_by a.walked)
