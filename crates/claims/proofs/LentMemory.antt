-- What lent memory holds after each call. Assumes nothing.
use Rattle.std.specs.Prelude.{◌≡◌, ℕ, zero, suc, ◌/◌, ◌%◌, ◌≤◌, ◌<◌, ◌^◌, drop}
use Rattle.std.proofs.Math.Path.{refl, sym, ap, subst⁻¹}
use Rattle.std.proofs.Common.{◌∙◌, inl, pow-suc, arith}
use mathlib.Core.List.{List, [], ◌∷◌}
use Rattle.std.proofs.Math.ListN.{length, get_or}
use Rattle.theory_lists.specs.Lists.{All}
use Rattle.theory_reading.specs.Limits.{truth_table_least}
use Rattle.theory_reading.specs.LimitLaws.{truth-bytes}
use Rattle.theory_reading.specs.Causes.{Result, refused, done, table_after, unless_refused}
use Rattle.theory_reading.specs.Deciding.{decision, trace}
use Rattle.theory_reading.specs.Calls.{check, check_answer, decide, decide_answer, find_next, find_answer, digit_of, verdict_of, bytes_from, fill, fill_answer}
use Rattle.theory_reading.proofs.CallLaws.{keeps_output_lem, keeps-table, zeroes-table, zeroes-done, filled-word, filled-length, filled-bytes}
use Rattle.theory_reading.specs.Covered.{covered}
use Rattle.theory_writing.specs.Run.{operate, run_covered, Answer, answer_of, output_after}
use Rattle.theory_writing.specs.Output.{output-beyond, output-length}
use Rattle.theory_writing.specs.Calls.{write_text, write_answer, write, combine_text, combine_answer, Combine, combine}
use Rattle.theory_writing.specs.CallLaws.{write-refused, combine-refused, combine-untouched, combine-zeroed, combine-done}
use Rattle.claims.specs.Terms.{TableLeft, OutputLeft}
use Rattle.claims.proofs.Refused.{fill-by, write-by, inputs, Streams, combine-by, not-above, not-apart}

-- ---- Work tables -----------------------------------------------------------------------------

table-left : {A R : Type 0} (z : R) (a : Result A) (t : List R) → TableLeft z a t (table_after z a t)
table-left z a t = record { kept = keeps-table a z t; zeroed = zeroes-table a z t; answered = zeroes-done a z t }

pub check-table : {R : Type 0} (z : R) (n : ℕ) (x : List ℕ) (t : List R) → let c = check z n x t in TableLeft z c.answer t c.table
unfolding check
check-table z n x t = table-left z (check_answer n x (length t)) t

pub decide-table : {R : Type 0} (z : R) (n : ℕ) (x : List ℕ) (w : ℕ) (t : List R) → let c = decide z n x w t in TableLeft z c.answer t c.table
unfolding decide
decide-table z n x w t = table-left z (decide_answer n x w (length t)) t

pub find-table : {R : Type 0} (z : R) (n : ℕ) (x : List ℕ) (w : ℕ) (t : List R) → let c = find_next z n x w t in TableLeft z c.answer t c.table
unfolding find_next
find-table z n x w t = table-left z (find_answer n x w (length t)) t

pub fill-table : {R : Type 0} (z : R) (n : ℕ) (x old : List ℕ) (t : List R) → let c = fill z n x old t in TableLeft z c.answer t c.table
unfolding fill
fill-table z n x old t = table-left z (fill_answer n x old (length t)) t

pub write-table : {R : Type 0} (z : R) (n size : ℕ) (truths out : List ℕ) (t : List R)
    → let c = write z n size truths out t in TableLeft z c.answer t c.table
unfolding write
write-table z n size truths out t = table-left z (write_answer n size truths out (length t)) t

module _ {R S : Type 0} (z : R) (o : S) (n op size : ℕ) (x y out : List ℕ) (t u : List R) (v : List S) where
  abbrev call : Combine R S
  call = combine z o n op size x y out t u v

  pub combine-tables : TableLeft z call.answer t call.first × TableLeft z call.answer u call.second
      × TableLeft o call.answer v call.third
  combine-tables =
      let k = combine-untouched z o n op size x y out t u v in
      let e = combine-zeroed z o n op size x y out t u v in
      let d = combine-done z o n op size x y out t u v in (
        record { kept = λ f p q. (k f p q).0; zeroed = λ f p q. (e f p q).0; answered = λ r p. (d r p).0 },
        record { kept = λ f p q. (k f p q).1; zeroed = λ f p q. (e f p q).1; answered = λ r p. (d r p).1 },
        record { kept = λ f p q. (k f p q).2; zeroed = λ f p q. (e f p q).2; answered = λ r p. (d r p).2 },
      )

-- ---- Outputs ---------------------------------------------------------------------------------

-- after an answer the output has the written bytes and, beyond them, its own
beyond : (n c : ℕ) (text out : List ℕ) (a : Result Answer) (r : Answer) → a ≡ done r → r ≡ answer_of n c text out
    → let out' = unless_refused a out (λ _. output_after text out) in (drop r.written out' ≡ drop r.written out) × (length out' ≡ length out)
unfolding answer_of unless_refused
beyond n c text out a r e h =
    let p = ap (λ (b : Result Answer). unless_refused b out (λ _. output_after text out)) e in
    let cut : List ℕ → Answer → List ℕ = λ l q. drop q.written l in (
      ap (λ (l : List ℕ). cut l r) p ∙ ap (cut (output_after text out)) h ∙ output-beyond text out ∙ sym (ap (cut out) h),
      ap length p
          ∙ output-length text out,
    )

pub write-output : {R : Type 0} (z : R) (n size : ℕ) (truths out : List ℕ) (t : List R)
    → let c = write z n size truths out t in OutputLeft c.answer out c.output
unfolding write
write-output z n size truths out t = record {
  kept = write-refused z n size truths out t;
  beyond = λ r e. let b = ((write-by n size truths out (length t)).unless r).0 e in
      beyond n (2 ^ n) (write_text n size truths) out (write_answer n size truths out (length t)) r e b.1;
}

pub combine-output : {R S : Type 0} (z : R) (o : S) (n op size : ℕ) (x y out : List ℕ) (t u : List R) (v : List S)
    → let c = combine z o n op size x y out t u v in OutputLeft c.answer out c.output
unfolding combine
combine-output z o n op size x y out t u v = record {
  kept = combine-refused z o n op size x y out t u v;
  beyond = λ r e.
      let b = ((combine-by n op size x y out (length t) (length u) (length v)).unless r).0 e in
      let a = combine_answer n op size (Streams x y) out (length t ∷ length u ∷ length v ∷ []) in
      beyond n (run_covered (operate op) n (inputs n x y)) (combine_text n op size (Streams x y)) out a r e b.1;
}

-- ---- A truth table that is filled ------------------------------------------------------------

-- a word's byte is among those of the table
byte_inside : (n w : ℕ) → 3 ≤ n → w < 2 ^ n → w / 8 < 2 ^ n / 8
byte_inside zero w h l = absurd (omega arith)
byte_inside (suc zero) w h l = absurd (omega arith)
byte_inside (suc (suc zero)) w h l = absurd (omega arith)
byte_inside (suc (suc (suc m))) w h l = omega (arith, pow-suc 2 m, pow-suc 2 (suc m), pow-suc 2 (suc (suc m)))

module _ {R : Type 0} (z : R) (n : ℕ) (x old : List ℕ) (t : List R) where
  truths-after : (c : ℕ) → (fill z n x old t).answer ≡ done c → (fill z n x old t).truths ≡ bytes_from (2 ^ n / 8) n (trace n x) 0
  unfolding fill unless_refused
  truths-after c e = ap (λ (a : Result ℕ). unless_refused a old (λ (c : ℕ). bytes_from (2 ^ n / 8) n (trace n x) 0)) e

  -- it keeps its length
  pub fill-length : length (fill z n x old t).truths ≡ length old
  unfolding fill
  fill-length = go (fill z n x old t).answer refl
    where
      go : (a : Result ℕ) → (fill z n x old t).answer ≡ a → length (fill z n x old t).truths ≡ length old
      go (refused f) e = ap length (keeps_output_lem (fill_answer n x old (length t)) old _ f e)
      go (done c) e = ap length (truths-after c e) ∙ filled-length (2 ^ n / 8) n (trace n x) 0
          ∙ sym (not-apart (length old) (2 ^ n / 8) (((fill-by n x old (length t)).unless c).0 e).0.1.1.0)

  -- the covered count is answered; each word is decided as the stream does, and 0 from the covered count on
  pub filled : (c : ℕ) → (fill z n x old t).answer ≡ done c
      → (c ≡ covered n x) × All (λ b. b < 256) (fill z n x old t).truths
      × ((w : ℕ) → w < 2 ^ n → get_or (fill z n x old t).truths (w / 8) 0 / 2 ^ (w % 8) % 2 ≡ digit_of (verdict_of (decision n x w)))
  unfolding fill
  filled c e =
      let b = ((fill-by n x old (length t)).unless c).0 e in
      let p = truths-after c e in
      let l : 3 ≤ n = omega (arith, truth-bytes, not-above truth_table_least n (λ h. b.0.0 (inl h))) in (
        b.1,
        subst⁻¹ (All (λ b. b < 256)) p (filled-bytes (2 ^ n / 8) n (trace n x) 0),
        λ w h. ap (λ (s : List ℕ). get_or s (w / 8) 0 / 2 ^ (w % 8) % 2) p ∙ filled-word (2 ^ n / 8) n x w h (byte_inside n w l h),
      )
