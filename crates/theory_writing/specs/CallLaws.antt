-- What the calls that write leave in lent memory (document 01, "Turned down", last paragraph). Assumes nothing.
use Rattle.std.specs.Prelude.{◌≡◌, List, [], ◌∷◌, ℕ}
use Rattle.std.proofs.Math.ListN.{length}
use Rattle.theory_reading.specs.Causes.{keeps_all, keeps_output, cause_row, Refusal, refused, done, cleared}
use Rattle.theory_reading.proofs.CallLaws.{keeps_output_lem, keeps-table, zeroes-table, zeroes-done}
use Rattle.theory_writing.specs.Run.{Answer}
use Rattle.theory_writing.specs.Calls.{write_answer, write, combine_answer, combine}

pub write-refused : {R : Type 0} (z : R) (n size : ℕ) (truths out : List ℕ) (t : List R) (f : Refusal)
    → (write z n size truths out t).answer ≡ refused f → (write z n size truths out t).output ≡ out
unfolding write
write-refused z n size truths out t f e = keeps_output_lem (write_answer n size truths out (length t)) out _ f e

module _ {R S : Type 0} (z : R) (o : S) (n op size : ℕ) (x y out : List ℕ) (t u : List R) (v : List S) where
  pub combine-refused : (f : Refusal) → (combine z o n op size x y out t u v).answer ≡ refused f → (combine z o n op size x y out t u v).output ≡ out
  unfolding combine
  combine-refused f e = keeps_output_lem (combine_answer n op size (x ∷ y ∷ []) out (length t ∷ length u ∷ length v ∷ [])) out _ f e

  -- the three work tables hold a, b and c
  abbrev pub Tables : List R → List R → List S → Type 0
  Tables a b c = let m = combine z o n op size x y out t u v in (m.first ≡ a) × (m.second ≡ b) × (m.third ≡ c)

  pub combine-untouched : (f : Refusal) → (combine z o n op size x y out t u v).answer ≡ refused f → (cause_row f.cause).leaves ≡ keeps_all
      → Tables t u v
  unfolding combine
  combine-untouched f e c =
      let a = combine_answer n op size (x ∷ y ∷ []) out (length t ∷ length u ∷ length v ∷ []) in
      (keeps-table a z t f e c, keeps-table a z u f e c, keeps-table a o v f e c)

  pub combine-zeroed : (f : Refusal) → (combine z o n op size x y out t u v).answer ≡ refused f → (cause_row f.cause).leaves ≡ keeps_output
      → Tables (cleared z t) (cleared z u) (cleared o v)
  unfolding combine
  combine-zeroed f e c =
      let a = combine_answer n op size (x ∷ y ∷ []) out (length t ∷ length u ∷ length v ∷ []) in
      (zeroes-table a z t f e c, zeroes-table a z u f e c, zeroes-table a o v f e c)

  pub combine-done : (r : Answer) → (combine z o n op size x y out t u v).answer ≡ done r → Tables (cleared z t) (cleared z u) (cleared o v)
  unfolding combine
  combine-done r e =
      let a = combine_answer n op size (x ∷ y ∷ []) out (length t ∷ length u ∷ length v ∷ []) in
      (zeroes-done a z t r e, zeroes-done a z u r e, zeroes-done a o v r e)
