-- How code holds what the engine speaks of: the declared structs as the types of Engine,
-- and the answers as the paper has them. Assumes nothing.
use Rattle.std.specs.Prelude.{◌≡◌, List, ℕ, Result, Ok, Err}
use Rattle.theory_reading.specs.Causes as C
use Rattle.theory_writing.specs.Run as R
use Rattle.theory_engine.specs.Engine as E
use Rattle.node_records.specs.declared.WriterRecord.{WriterRecord}
use Rattle.answers.specs.Answers.{refusal_of}
use Rattle.answers.specs.declared.Refusal.{Refusal}
use Rattle.pending_text.specs.declared.Sent.{Sent}
use Rattle.meeting.specs.declared.Half.{Half}
use Rattle.meeting.specs.declared.Progress.{Progress}
use Rattle.meeting.specs.declared.Walked.{Walked}
use Rattle.meeting.specs.declared.Sink.{Sink}
use Rattle.meeting.specs.declared.Ending.{Ending}
use Rattle.meeting.specs.declared.Ending.TheVariants.{Whole, InputEnded, OutputFull}
use Rattle.meeting.specs.declared.Written.{Written}

abbrev pub half_of : Half → E.Half
half_of h =
    record {
      number = h.number;
      stamp = h.stamp;
      skipped = h.skipped;
      temporary = h.temporary;
      complement = h.complement;
      wrote = h.wrote;
    }

abbrev pub progress_of : Progress → E.Progress
progress_of p = record { given = p.given; first = p.first; last = p.last; written = p.written; full = p.full }

-- the same memory lent
abbrev pub same_sink : Sink → Sink → Type 0
same_sink a b = (a.table.ghost_name ≡ b.table.ghost_name) × (a.out.ghost_name ≡ b.out.ghost_name) × (a.waiting.ghost_name ≡ b.waiting.ghost_name)

-- with what the lent records, output and waiting bytes hold
abbrev pub walked_of : Walked → List WriterRecord → List ℕ → List ℕ → E.Walked
walked_of r t out w = record { half = half_of r.half; progress = progress_of r.progress; table = t; output = out; waits = w }

abbrev pub sent_of : Sent → Sink → E.Sent
sent_of x s = record { written = x.written; full = x.full; output = s.out.now; waits = s.waiting.now }

-- ---- Answers ---------------------------------------------------------------------------------

abbrev pub endings_of : Ending → R.Ending
endings_of Whole = R.whole
endings_of InputEnded = R.input_ended
endings_of OutputFull = R.output_full

abbrev pub written_of : Written → R.Answer
written_of x = record { written = x.bytes; covered = x.covered; ending = endings_of x.ending }

abbrev pub writing_of : Result Written Refusal → C.Result R.Answer
writing_of (Err r) = C.refused (refusal_of r)
writing_of (Ok x) = C.done (written_of x)
