-- What parsing the text of a job answers: the job, and where its lines end. Assumes nothing.
use Rattle.std.specs.Prelude.{Bool, true, false, List, ℕ, ltb, length, Option, Some, None}
use Rattle.std.proofs.Math.Option as M
use Rattle.theory_reading.specs.Bytes.{line_feed}
use Rattle.theory_writing.specs.Join as J
use Rattle.job.specs.Cuts.{first_end, third_end, fifth_end}
use Rattle.job.specs.declared.Job.{Job}

-- the job of an input, if it is one; t: the input is too long
abbrev pub job_unless : List ℕ → Bool → M.Option J.Job
job_unless s t = elim t as (λ _. M.Option J.Job) [ true ↦ M.none | false ↦ J.five_lines (J.pieces line_feed s) ]

abbrev pub job_in : List ℕ → M.Option J.Job
job_in s = job_unless s (ltb J.job_limit (length s))

-- a job as code answers it
abbrev pub parsed_as : Option Job → M.Option J.Job
parsed_as (Some j) = M.some (record { n = j.n; op = j.op; size = j.size; stream₁ = j.first.now; stream₂ = j.second.now })
parsed_as None = M.none

-- the job by the places of its lines: its numbers, and where the first, the third and the fifth line end
pub record PlacedJob : Type 0 where
  pub n : ℕ
  pub op : ℕ
  pub size : ℕ
  pub first : ℕ
  pub third : ℕ
  pub fifth : ℕ

abbrev pub placed_job : List ℕ → J.Job → PlacedJob
placed_job s j = record { n = j.n; op = j.op; size = j.size; first = first_end s; third = third_end s; fifth = fifth_end s }

abbrev pub placed : List ℕ → M.Option J.Job → M.Option PlacedJob
placed s M.none = M.none
placed s (M.some j) = M.some (placed_job s j)

unfoldable pub parsed : List ℕ → M.Option PlacedJob
parsed s = placed s (job_in s)

-- as code answers it
abbrev pub placed_as : Option Job → M.Option PlacedJob
placed_as (Some j) =
    M.some (record { n = j.n; op = j.op; size = j.size; first = j.ends.first; third = j.ends.third; fifth = j.ends.fifth })
placed_as None = M.none
