-- What parsing answers, for each way that code goes, and what the program prints then. Assumes nothing.
use Rattle.std.specs.Prelude.{◌≡◌, List, ℕ, ◌≤◌, ◌<◌, length, Option}
use Rattle.std.proofs.Math.Path.{sym, ap}
use Rattle.std.proofs.Common.{◌∙◌, lt-ltb, le-ltb}
use Rattle.std.proofs.Math.Option as M
use Rattle.theory_reading.specs.Bytes.{line_feed}
use Rattle.theory_writing.specs.Join as J
use Rattle.job.specs.Cuts.{ends_in}
use Rattle.job.specs.Parsing.{PlacedJob, job_unless, job_in, placed, parsed, parsed_as}
use Rattle.job.specs.Streams.{join-answered}
use Rattle.job.specs.declared.Job.{Job}
use Rattle.job.specs.declared.LineEnds.{LineEnds}

module _ (s : List ℕ) where
  pub job-long : J.job_limit < length s → M.none ≡ job_in s
  job-long h = sym (ap (job_unless s) (lt-ltb J.job_limit (length s) h))

  pub job-short : length s ≤ J.job_limit → {j : M.Option J.Job} → j ≡ J.five_lines (J.pieces line_feed s) → j ≡ job_in s
  job-short h e = e ∙ sym (ap (job_unless s) (le-ltb J.job_limit (length s) h))

  -- the same by the places of the lines
  pub parsed-none : M.none ≡ job_in s → M.none ≡ parsed s
  unfolding parsed
  parsed-none e = ap (placed s) e

  pub parsed-job : (j : J.Job) (e : LineEnds) → e ≡ ends_in s → M.some j ≡ job_in s
      → M.some (record { n = j.n; op = j.op; size = j.size; first = e.first; third = e.third; fifth = e.fifth }) ≡ parsed s
  unfolding parsed
  parsed-job j e p q =
      let at : LineEnds → M.Option PlacedJob =
      λ (i : LineEnds). M.some (record { n = j.n; op = j.op; size = j.size; first = i.first; third = i.third; fifth = i.fifth }) in
      ap at p ∙ ap (placed s) q

  -- the program prints the report on the job, or `bad job`
  pub join-printed : (r : Option Job) → parsed_as r ≡ job_in s → J.answered (parsed_as r) ≡ J.join s
  join-printed r e = ap J.answered e ∙ join-answered s
