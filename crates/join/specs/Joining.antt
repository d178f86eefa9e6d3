-- What is printed for an input that is no job, and for one that is. Assumes nothing.
use Rattle.std.specs.Prelude.{◌≡◌, refl, None, List, ℕ, ◌+◌, ◌≤◌, length, take}
use Rattle.std.proofs.Common.{◌∙◌, arith}
use Rattle.theory_writing.specs.Join.{job_limit, bad_job, join}
use Rattle.theory_engine.specs.Pending.{waiting, push_all}
use Rattle.job.specs.Parsing.{parsed_as, job_in}
use Rattle.job.specs.Streams.{join-bad}
use Rattle.report.specs.Printing.{line_limit, text-there}

-- a report has room in so many bytes
abbrev pub report_limit : ℕ
report_limit = job_limit + line_limit

bad-length : length bad_job ≡ 8
unfolding bad_job
bad-length = refl

pub joined-bad : (s w : List ℕ) {u : List ℕ} {x : ℕ} → report_limit ≤ length w → parsed_as None ≡ job_in s
    → waiting u x ≡ push_all w 0 bad_job → (take x u ≡ join s) × (x ≤ length u)
joined-bad s w h e q =
    let there = text-there w bad_job q (omega (arith, h, bad-length)) in
    (there.0 ∙ join-bad s e, omega (arith, there.1, there.2, bad-length, h))
