-- The call that a job makes. What it answers depends on how long the work tables are, and not on what they hold. Assumes nothing.
use Rattle.std.specs.Prelude.{◌≡◌, ℕ, ◌+◌, ◌≤◌, min, take, replicate}
use Rattle.std.proofs.Math.Path.{refl, ap, ap₂}
use Rattle.std.proofs.Common.{sym, ◌∙◌, arith}
use mathlib.Core.List.{List, [], ◌∷◌}
use Rattle.std.proofs.Math.Option.{some}
use Prim.{Unit, tt}
use Rattle.std.proofs.Math.ListN.{length, length-replicate}
use Rattle.theory_reading.specs.Limits.{option_limit, table_limit}
use Rattle.theory_reading.specs.Causes.{Result, refused, done, unless_refused}
use Rattle.theory_writing.specs.Run.{Answer, output_after}
use Rattle.theory_writing.specs.Output.{output-length}
use Rattle.theory_writing.specs.Calls.{Combine, combine, combine_answer, combine_text}
use Rattle.theory_writing.specs.Join.{Job, job_limit, report, called, answered}
use Rattle.claims.proofs.Runs.{ran}
use Rattle.theory_engine.specs.Pending.{waiting}
use Rattle.report.specs.Printing.{line_limit, report_text, report_in, text-there}
use Rattle.node_records.specs.Records.{no_record, no_writer_record}
use Rattle.node_records.specs.declared.NodeRecord.{NodeRecord}
use Rattle.node_records.specs.declared.WriterRecord.{WriterRecord}
use Rattle.job_call.specs.Called.{own_call}
use Rattle.join.specs.Joining.{report_limit}

-- an answer that has an output comes with no more options than the limit
abbrev Settled : ℕ → Result Answer → Type 0
Settled n (refused r) = Unit {0}
Settled n (done a) = n ≤ option_limit

report-settled : (n : ℕ) (a : Result Answer) (w : List ℕ) → Settled n a → report_text n a w ≡ report n a w
unfolding report_text report
report-settled n (refused r) w h = refl
report-settled n (done a) w h = let e : min n option_limit ≡ n = omega (arith, h) in ap (λ (i : ℕ). report i (done a) w) e

module _ {R S : Type 0} (z : R) (o : S) (n op size : ℕ) (x y out : List ℕ) (t u : List R) (v : List S) where
  abbrev call : Combine R S
  call = combine z o n op size x y out t u v

  settled : (a : Result Answer) → a ≡ call.answer → Settled n a
  settled (refused r) e = tt
  settled (done a) e = (ran z o n op size x y out t u v a (sym e)).options

  -- the output stays as long
  after-length : (a : Result Answer) (w : List ℕ) → length (unless_refused a out (λ (i : Answer). output_after w out)) ≡ length out
  unfolding unless_refused
  after-length (refused r) w = refl
  after-length (done a) w = output-length w out

  call_length : length call.output ≡ length out
  unfolding combine
  call_length = after-length call.answer (combine_text n op size (x ∷ y ∷ []))

  -- what the call answers and leaves: a and w
  module _ (a : Result Answer) (f g : List R) (h : List S) (w : List ℕ)
      (e : record { answer = a; first = f; second = g; third = h; output = w } ≡ call) where
    answers : a ≡ call.answer
    answers = ap (λ (m : Combine R S). m.answer) e

    leaves : w ≡ call.output
    leaves = ap (λ (m : Combine R S). m.output) e

    length-left : length w ≡ length out
    length-left = ap length leaves ∙ call_length

    -- the report on it is that on the job's
    module _ (p : out ≡ replicate job_limit 0) (q : length t ≡ table_limit) (r : length u ≡ table_limit) (s : length v ≡ table_limit) where
      abbrev job : Job
      job = record { n = n; op = op; size = size; stream₁ = x; stream₂ = y }

      abbrev records : ℕ
      records = length {A = ℕ} (replicate table_limit 0)

      tables : (length t ∷ length u ∷ length v ∷ []) ≡ records ∷ records ∷ records ∷ []
      tables =
          let k : records ≡ table_limit = length-replicate {A = ℕ} table_limit 0 in
          ap₂ (λ (i j : ℕ). i ∷ j ∷ length v ∷ []) (q ∙ sym k) (r ∙ sym k)
          ∙ ap (λ (i : ℕ). records ∷ records ∷ i ∷ []) (s ∙ sym k)

      same_answer : call.answer ≡ (called job).answer
      unfolding combine called
      same_answer = ap₂ (λ (w k : List ℕ). combine_answer n op size (x ∷ y ∷ []) w k) p tables

      same-output : call.output ≡ (called job).output
      unfolding combine called
      same-output =
          ap₂ (λ (w : List ℕ) (b : Result Answer). unless_refused b w (λ (i : Answer). output_after (combine_text n op size (x ∷ y ∷ [])) w)) p
          same_answer

      call-report : report n a w ≡ answered (some job)
      unfolding answered
      call-report = ap₂ (report n) (answers ∙ same_answer) (leaves ∙ same-output)

      -- what is then in a row that has room for it
      call-printed : (r : List ℕ) {l : List ℕ} {k : ℕ} → report_limit ≤ length r → waiting l k ≡ report_in n a w r
          → length (report_text n a w) ≤ length w + line_limit → (take k l ≡ answered (some job)) × (k ≤ length l)
      unfolding report_in
      call-printed r i m o =
          let z : length out ≡ job_limit = ap length p ∙ length-replicate {A = ℕ} job_limit 0 in
          let there = text-there r (report_text n a w) m (omega (arith, i, o, z, length-left)) in (
            there.0 ∙ report-settled n a w (settled a answers) ∙ call-report,
            omega (arith, there.1, there.2, i, o, z, length-left),
          )

-- the same for a call with tables of its own
pub own-printed : (n op size : ℕ) (x y out : List ℕ) (a : Result Answer) (w : List ℕ) → (a ≡ (own_call n op size x y out).answer)
    × (w ≡ (own_call n op size x y out).output) → out ≡ replicate job_limit 0 → (r : List ℕ) {l : List ℕ} {k : ℕ} → report_limit ≤ length r
    → waiting l k ≡ report_in n a w r → length (report_text n a w) ≤ length w + line_limit
    → (take k l ≡ answered (some (record { n = n; op = op; size = size; stream₁ = x; stream₂ = y }))) × (k ≤ length l)
own-printed n op size x y out a w e p r i m o =
    let c : Combine NodeRecord WriterRecord = own_call n op size x y out in
    let t : List NodeRecord = replicate table_limit no_record in
    let v : List WriterRecord = replicate table_limit no_writer_record in
    let long = length-replicate {A = NodeRecord} table_limit no_record in
    call-printed no_record no_writer_record n op size x y out t t v a c.first c.second c.third w
    (ap₂ (λ (b : Result Answer) (z : List ℕ). record { answer = b; first = c.first; second = c.second; third = c.third; output = z }) e.0 e.1)
    p long long (length-replicate {A = WriterRecord} table_limit no_writer_record) r i m o
