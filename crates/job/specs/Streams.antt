-- The two streams of a job, by the places of its lines: the report on them is the program's. Assumes nothing.
use Rattle.std.proofs.Math.Path.{◌≡◌, refl, sym}
use Rattle.std.proofs.Common.{ap, ◌∙◌, ⊎_elim, arith}
use Rattle.std.specs.Prelude.{Bool, List, [], ◌∷◌, ℕ, ◌+◌, ◌≤◌, ◌<◌, ltb, length, take, Some, None}
use Rattle.std.proofs.Math.Bool.{true, false}
use Rattle.std.proofs.Math.Option.{Option, none, some}
use Rattle.theory_lists.specs.Lists.{decide-le}
use Rattle.theory_reading.specs.Bytes.{blank, line_feed}
use Rattle.theory_writing.specs.Join as J
use Rattle.job.specs.Between.{between}
use Rattle.job.specs.Cuts.{cut_at, first_end, third_end, fifth_end}
use Rattle.job.specs.Lining.{one_line, two-lines, three-lines, four-lines, more-lines, five-lines, lines-ordered}
use Rattle.job.specs.Parsing.{PlacedJob, job_unless, job_in, placed_job, placed, parsed, parsed_as}
use Rattle.job.specs.declared.Job.{Job}

-- ---- The streams are those that the first line is read for -----------------------------------

-- where the streams of a job stand
pub record Streams (s : List ℕ) (j : J.Job) : Type 0 where
  pub first : between s (first_end s + 1) (third_end s) ≡ j.stream₁
  pub second : between s (third_end s + 1) (fifth_end s) ≡ j.stream₂
  pub first-third : first_end s < third_end s
  pub third-fifth : third_end s < fifth_end s
  pub fifth-end : fifth_end s ≤ length s

never : {A : Type 0} (j : J.Job) → none ≡ some j → A
never j e = let z : ◌≡◌ {A = ℕ} 0 1 = cc in absurd (omega arith)

module _ (x y : List ℕ) (j : J.Job) where
  fields-streams : (n o z : Option ℕ) → J.fields x y n o z ≡ some j → (x ≡ j.stream₁) × (y ≡ j.stream₂)
  fields-streams none o z e = never j e
  fields-streams (some n) none z e = never j e
  fields-streams (some n) (some o) none e = never j e
  fields-streams (some n) (some o) (some z) e =
      let d : record { n = n; op = o; size = z; stream₁ = x; stream₂ = y } ≡ j = cc in
      (ap (λ (i : J.Job). i.stream₁) d, ap (λ (i : J.Job). i.stream₂) d)

  line-streams : (l : List (List ℕ)) → J.first_line x y l ≡ some j → (x ≡ j.stream₁) × (y ≡ j.stream₂)
  line-streams [] e = never j e
  line-streams (a ∷ []) e = never j e
  line-streams (a ∷ b ∷ []) e = never j e
  line-streams (a ∷ b ∷ c ∷ []) e = fields-streams (J.number_of a) (J.operator_of J.operator_names b) (J.number_of c) e
  line-streams (a ∷ b ∷ c ∷ d ∷ ls) e = never j e

module _ (s : List ℕ) (j : J.Job) (g : J.five_lines (J.pieces line_feed s) ≡ some j) where
  no-job : {A : Type 0} → J.five_lines (J.pieces line_feed s) ≡ none → A
  no-job e = never j (sym e ∙ g)

  abbrev end : ℕ → ℕ
  end i = cut_at line_feed s i

  -- one line more, or there is no job
  module _ (i : ℕ) (A : Type 0) where
    line-more : (length s ≤ end i → J.five_lines (J.pieces line_feed s) ≡ none) → (end i < length s → A) → A
    line-more f k = ⊎_elim (λ (h : length s ≤ end i). no-job (f h)) (λ (h : end i < length s). k h) (decide-le (length s) (end i))

  pub streams : Streams s j
  streams =
      let a = end 0 in
      let b = end (a + 1) in
      let c = end (b + 1) in
      let d = end (c + 1) in
      let e = end (d + 1) in
      line-more 0 (Streams s j) (one_line s a refl)
      (λ p. line-more (a + 1) (Streams s j) (two-lines s a b (refl, p) refl)
      (λ q. line-more (b + 1) (Streams s j) (three-lines s a b c (refl, p) (refl, q) refl)
      (λ r. line-more (c + 1) (Streams s j) (four-lines s a b c (refl, p) (refl, q) (refl, r) d refl)
      (λ t. ⊎_elim
      (λ (h : length s ≤ e + 1).
      let f = line-streams (between s (a + 1) c) (between s (c + 1) e) j (J.pieces blank (take a s))
      (five-lines s a b c (refl, p) (refl, q) (refl, r) d (refl, t) e refl h ∙ g) in
      let o = lines-ordered s a b c (refl, p) (refl, q) (refl, r) d (refl, t) e refl in
      record { first = f.0; second = f.1; first-third = o.0; third-fifth = o.1; fifth-end = o.2 })
      (λ (h : e + 1 < length s). no-job (more-lines s a b c (refl, p) (refl, q) (refl, r) d (refl, t) e refl h))
      (decide-le (length s) (e + 1))))))

-- of the job of an input
module _ (s : List ℕ) (j : J.Job) where
  in_lines : (t : Bool) → job_unless s t ≡ some j → J.five_lines (J.pieces line_feed s) ≡ some j
  in_lines true e = never j e
  in_lines false e = e

  pub streams-in : job_in s ≡ some j → Streams s j
  streams-in e = streams s j (in_lines (ltb J.job_limit (length s)) e)

-- ---- What the program prints -----------------------------------------------------------------

abbrev reported : List ℕ → Bool → List ℕ
reported s t = elim t as (λ _. List ℕ) [ true ↦ J.bad_job | false ↦ J.answered (J.five_lines (J.pieces line_feed s)) ]

module _ (s : List ℕ) where
  pub join-answered : J.answered (job_in s) ≡ J.join s
  unfolding J.join J.answered
  join-answered = go (ltb J.job_limit (length s))
    where
      go : (t : Bool) → J.answered (job_unless s t) ≡ reported s t
      go true = refl
      go false = refl

  pub join-bad : parsed_as None ≡ job_in s → J.bad_job ≡ J.join s
  unfolding J.answered
  join-bad e = ap J.answered e ∙ join-answered

-- what the code knows of a job: the lines are in this order, its streams stand between them, and the report on what stands between them is the
-- program's output
pub record Operates (s : List ℕ) (t : Job) : Type 0 where
  pub first : between s (first_end s + 1) (third_end s) ≡ t.first.now
  pub second : between s (third_end s + 1) (fifth_end s) ≡ t.second.now
  pub first-third : first_end s < third_end s
  pub third-fifth : third_end s < fifth_end s
  pub fifth-end : fifth_end s ≤ length s
  pub output :
      J.answered (some (record {
        n = t.n;
        op = t.op;
        size = t.size;
        stream₁ = between s (first_end s + 1) (third_end s);
        stream₂ = between s (third_end s + 1) (fifth_end s);
      }))
      ≡ J.join s

module _ (s : List ℕ) where
  pub join-good : (t : Job) → parsed_as (Some t) ≡ job_in s → Operates s t
  join-good t e =
      let j : J.Job = record { n = t.n; op = t.op; size = t.size; stream₁ = t.first.now; stream₂ = t.second.now } in
      let o = streams-in s j (sym e) in
      record {
        first = o.first;
        second = o.second;
        first-third = o.first-third;
        third-fifth = o.third-fifth;
        fifth-end = o.fifth-end;
        output =
            let x = o.first in
            let y = o.second in
            rw (x, y) (ap J.answered e ∙ join-answered s);
      }

-- the same of a job by the places of its lines
pub record OperatesAt (s : List ℕ) (t : PlacedJob) : Type 0 where
  pub first-third : t.first < t.third
  pub third-fifth : t.third < t.fifth
  pub fifth-end : t.fifth ≤ length s
  pub output :
      J.answered (some (record {
        n = t.n;
        op = t.op;
        size = t.size;
        stream₁ = between s (t.first + 1) t.third;
        stream₂ = between s (t.third + 1) t.fifth;
      }))
      ≡ J.join s

module _ (s : List ℕ) where
  joins-placed : (j : J.Job) → job_in s ≡ some j → Streams s j → OperatesAt s (placed_job s j)
  joins-placed j p o =
      record {
        first-third = o.first-third;
        third-fifth = o.third-fifth;
        fifth-end = o.fifth-end;
        output =
            let x = o.first in
            let y = o.second in
            rw (x, y) (ap J.answered (sym p) ∙ join-answered s);
      }

  pub join-bad-placed : none ≡ parsed s → J.bad_job ≡ J.join s
  unfolding parsed J.answered
  join-bad-placed e = go (job_in s) refl e
    where
      go : (o : Option J.Job) → job_in s ≡ o → none ≡ placed s o → J.bad_job ≡ J.join s
      go none p q = sym (ap J.answered p) ∙ join-answered s
      go (some j) p q = let z : ◌≡◌ {A = ℕ} 0 1 = cc in absurd (omega arith)

  pub join-good-placed : (t : PlacedJob) → some t ≡ parsed s → OperatesAt s t
  unfolding parsed
  join-good-placed t e = go (job_in s) refl e
    where
      go : (o : Option J.Job) → job_in s ≡ o → some t ≡ placed s o → OperatesAt s t
      go none p q = let z : ◌≡◌ {A = ℕ} 0 1 = cc in absurd (omega arith)
      go (some j) p q =
          let d : t ≡ placed_job s j = cc in
          rw d (joins-placed j p (streams-in s j p))
