-- THE PROOFS of what is claimed (specs/Claims): each of the five records has a value, by citation. Assumes nothing.
use Rattle.std.specs.Prelude.{◌≡◌, Bool, true, false, List, [], ◌∷◌, ◌++◌, ℕ, ◌/◌, ◌%◌, ◌≤◌, ◌<◌, ◌^◌, length, take, get_or}
use Rattle.std.proofs.Common.{sym, ap, ◌∙◌}
use Rattle.std.proofs.Math.Path.{subst⁻¹}
use Rattle.theory_lists.specs.Lists.{All}
use Rattle.theory_reading.specs.Limits.{table_limit}
use Rattle.theory_reading.specs.Causes.{Refusal, Result, refused, done}
use Rattle.theory_reading.specs.Deciding.{decided, decision}
use Rattle.theory_reading.specs.Calls.{Checked, Read, check, Verdict, verdict_of, decide, Decides, digit_of, Fill, fill}
use Rattle.theory_reading.specs.Calls.{NextWord, find_next}
use Rattle.theory_reading.proofs.Covered as C
use Rattle.theory_reading.specs.Covered.{covered}
use Rattle.theory_reading.proofs.Settled as F
use Rattle.theory_reading.proofs.FaultRank.{fault-counts}
use Rattle.theory_reading.proofs.CallLaws as L
use Rattle.theory_writing.specs.Run.{run_text, whole}
use Rattle.theory_writing.proofs.Inputs.{outcome-any, outcome-all}
use Rattle.theory_writing.specs.Calls.{truth_at, Write, write, Combine, combine}
use Rattle.claims.specs.Terms.{TurnedDown, check_lines, decide_lines, find_lines, fill_lines, write_lines, combine_lines}
use Rattle.claims.specs.Terms.{TableLeft, OutputLeft, Gets, Operated, Covers, ReadAs, Complete}
use Rattle.claims.proofs.Refused as T
use Rattle.claims.proofs.LentMemory as M
use Rattle.claims.proofs.Runs as U
use Rattle.claims.proofs.NextWords as N
use Rattle.claims.proofs.SettledWords as W
use Rattle.claims.specs.Claims.{Demand1, Demand2, Demand3, Together, Request1, Request3}

pub demand-1 : {R S : Type 0} (z : R) (o : S) → Demand1 z o
unfolding check decide find_next fill write combine
demand-1 {R} {S} z o = record {
  check-refused = λ n x t c e. subst⁻¹ (λ (c : Read Checked R). TurnedDown (x ∷ []) (check_lines n x (length t)) c.answer) e
      (T.check-lines n x (length t));
  decide-refused = λ n x w t c e.
      subst⁻¹ (λ (c : Read Verdict R). TurnedDown (x ∷ []) (decide_lines n x w (length t)) c.answer) e (T.decide-lines n x w (length t));
  find-refused = λ n x w t c e.
      subst⁻¹ (λ (c : Read NextWord R). TurnedDown (x ∷ []) (find_lines n x w (length t)) c.answer) e (T.find-lines n x w (length t));
  fill-refused = λ n x truths t c e.
      subst⁻¹ (λ (c : Fill R). TurnedDown (x ∷ []) (fill_lines n x truths (length t)) c.answer) e (T.fill-lines n x truths (length t));
  write-refused = λ n size truths out v c e.
      subst⁻¹ (λ (c : Write S). TurnedDown [] (write_lines n size truths (length v)) c.answer) e (T.write-lines n size truths out (length v));
  combine-refused = λ n op size x y out t u v c e.
      subst⁻¹ (λ (c : Combine R S). TurnedDown (x ∷ y ∷ []) (combine_lines n op size x y (length t) (length u) (length v)) c.answer) e
      (T.combine-lines n op size x y out (length t) (length u) (length v));
  lowest-fault = λ n x f e. (F.fault-inside n x f e, F.fault-lowest n x f e, fault-counts n x f e);
  check-table = λ n x t c e. subst⁻¹ (λ (c : Read Checked R). TableLeft z c.answer t c.table) e (M.check-table z n x t);
  decide-table = λ n x w t c e. subst⁻¹ (λ (c : Read Verdict R). TableLeft z c.answer t c.table) e (M.decide-table z n x w t);
  find-table = λ n x w t c e. subst⁻¹ (λ (c : Read NextWord R). TableLeft z c.answer t c.table) e (M.find-table z n x w t);
  fill-table = λ n x truths t c e. subst⁻¹ (λ (c : Fill R). TableLeft z c.answer t c.table) e (M.fill-table z n x truths t);
  write-table = λ n size truths out v c e. subst⁻¹ (λ (c : Write S). TableLeft o c.answer v c.table) e (M.write-table o n size truths out v);
  combine-tables = λ n op size x y out t u v c e.
      subst⁻¹ (λ (c : Combine R S). TableLeft z c.answer t c.first × TableLeft z c.answer u c.second
      × TableLeft o c.answer v c.third) e
      (M.combine-tables z o n op size x y out t u v);
  fill-truths = λ n x truths t c e.
      subst⁻¹ (λ (c : Fill R). ((f : Refusal) → c.answer ≡ refused f → c.truths ≡ truths) × (length c.truths ≡ length truths)) e
      (L.fill-refused z n x truths t, M.fill-length z n x truths t);
  write-output = λ n size truths out v c e. subst⁻¹ (λ (c : Write S). OutputLeft c.answer out c.output) e
      (M.write-output o n size truths out v);
  combine-output = λ n op size x y out t u v c e.
      subst⁻¹ (λ (c : Combine R S). OutputLeft c.answer out c.output) e (M.combine-output z o n op size x y out t u v);
}

pub demand-2 : {R S : Type 0} (z : R) (o : S) → Demand2 z o
unfolding check
demand-2 {R} {S} z o = record {
  covered-words = λ n x w h. (λ k. (_, C.covered-decided n x w h k), C.uncovered-undecided n x w h);
  complete-covers = C.complete-covers;
  checking = λ n x t r c e a. (((T.check-by n x (length t)).unless r).0 (sym (ap (λ (c : Read Checked R). c.answer) e) ∙ a)).1;
  deciding = λ n x w t r c e a. T.decide-decided z n x w t r (sym (ap (λ (c : Read Verdict R). c.answer) e) ∙ a);
  finding = λ n x w t r c e a. N.found n x z w t r (sym (ap (λ (c : Read NextWord R). c.answer) e) ∙ a);
  filling = λ n x truths t r c e.
      subst⁻¹ (λ (c : Fill R). c.answer ≡ done r → (r ≡ covered n x) × All (λ b. b < 256) c.truths
      × ((w : ℕ) → w < 2 ^ n → get_or c.truths (w / 8) 0 / 2 ^ (w % 8) % 2 ≡ digit_of (verdict_of (decision n x w)))) e (M.filled z n x truths t r);
  writing-stream = λ n size truths out v r c e.
      subst⁻¹ (λ (c : Write S). c.answer ≡ done r → Gets n (2 ^ n) (run_text n size (2 ^ n) (truth_at truths)) out r c.output) e
      (λ a. U.wrote-gets n size truths out r _ (U.wrote o n size truths out v r a));
  writing-read = λ n size truths out v r c e.
      subst⁻¹ (λ (c : Write S). c.answer ≡ done r → ReadAs n r.covered (λ w d. d ≡ truth_at truths w) (take r.written c.output)) e
      (λ a. U.wrote-read-as n size truths out r _ (U.wrote o n size truths out v r a));
  writing-whole = λ n size truths out v r c e.
      subst⁻¹ (λ (c : Write S). c.answer ≡ done r → r.ending ≡ whole → Complete n (take r.written c.output)) e
      (λ a. U.wrote-complete n size truths out r _ (U.wrote o n size truths out v r a));
  writing-decided = λ n size truths out v r c e.
      subst⁻¹ (λ (c : Write S). let bytes = take r.written c.output in
      c.answer ≡ done r → (w : ℕ) (t : List R) (k : Read Verdict R) → Decides z n bytes w t k → w < covered n bytes → table_limit ≤ length t
      → k.answer ≡ done (verdict_of (decided (truth_at truths w)))) e
      (λ a w t k f h l.
      let s = U.wrote o n size truths out v r a in
      let q = U.read-decided z n _ _ _ s.options (U.wrote-read-as n size truths out r _ s) w t h l in
      ap (λ (c : Read Verdict R). c.answer) f ∙ q.2 ∙ ap (λ (d : Bool). done (verdict_of (decided d))) q.1);
  combining-words = λ n op x y. (_, U.count-covers n op x y);
  combining-stream = λ n op size x y out t u v r c e.
      subst⁻¹ (λ (c : Combine R S). c.answer ≡ done r → (k : ℕ) → Covers n op x y k → (f : ℕ → Bool)
      → ((w : ℕ) → w < k → Operated n op x y w (f w)) → Gets n k (run_text n size k f) out r c.output) e
      (λ a. U.run-gets n op size x y out r _ (U.ran z o n op size x y out t u v r a));
  combining-read = λ n op size x y out t u v r c e.
      subst⁻¹ (λ (c : Combine R S). c.answer ≡ done r → ReadAs n r.covered (Operated n op x y) (take r.written c.output)) e
      (λ a. U.run-read-as n op size x y out r _ (U.ran z o n op size x y out t u v r a));
  combining-whole = λ n op size x y out t u v r c e.
      subst⁻¹ (λ (c : Combine R S). c.answer ≡ done r → r.ending ≡ whole → Complete n (take r.written c.output)) e
      (λ a. U.run-complete n op size x y out r _ (U.ran z o n op size x y out t u v r a));
  combining-decided = λ n op size x y out t u v r c e.
      subst⁻¹ (λ (c : Combine R S). let bytes = take r.written c.output in
      c.answer ≡ done r → (w : ℕ) (p : List R) (k : Read Verdict R) → Decides z n bytes w p k → w < covered n bytes → table_limit ≤ length p
      → (d : Bool) × Operated n op x y w d × (k.answer ≡ done (verdict_of (decided d)))) e
      (λ a w p k f h l.
      let s = U.ran z o n op size x y out t u v r a in
      let q = U.read-decided z n _ _ _ s.options (U.run-read-as n op size x y out r _ s) w p h l in
      (q.0, q.1, ap (λ (c : Read Verdict R). c.answer) f ∙ q.2));
}

pub demand-3 : {R S : Type 0} (z : R) (o : S) → Demand3 z o
demand-3 {R} {S} z o = record {
  runs = λ n op size x y x₊ y₊ out out' t u t' u' v v' r r' run run' e e' l.
      let Both : Combine R S → Combine R S → Type 0 = λ c d. c.answer ≡ done r → d.answer ≡ done r'
      → Together n op x y (x ++ x₊) (y ++ y₊) r r' (take r.written c.output) (take r'.written d.output) in
      subst⁻¹ (λ (c : Combine R S). Both c run') e (subst⁻¹ (Both (combine z o n op size x y out t u v)) e'
      (λ a a'.
      let s = U.ran z o n op size x y out t u v r a in
      let s' = U.ran z o n op size (x ++ x₊) (y ++ y₊) out' t' u' v' r' a' in
      record {
        begins = U.runs-begin n op size x y x₊ y₊ out out' r r' _ _ s s' l;
        covers = U.runs-covered n op size x y x₊ y₊ out out' r r' _ _ s s' l;
        accepted = ((U.run-read n op size x y out r _ s).accepted, (U.run-read n op size (x ++ x₊) (y ++ y₊) out' r' _ s').accepted);
        decides = U.runs-decide n op size x y x₊ y₊ out out' r r' _ _ s s' l;
      }));
}

pub request-1 : {R : Type 0} (z : R) → Request1 z
request-1 {R} z = record {
  listing-rises = λ n x. N.lists-rise z n x 0;
  listing-words = N.lists-words z;
  listing-exists = N.lists-exist z;
  lengthening = λ n x x₊ w t t' r r' c c' e e' a a'.
      let answer : Read NextWord R → Result NextWord = λ c. c.answer in
      N.lengthened n x x₊ w r r' (N.found n x z w t r (sym (ap answer e) ∙ a)) (N.found n (x ++ x₊) z w t' r' (sym (ap answer e') ∙ a'));
}

pub request-3 : {R S : Type 0} (z : R) (o : S) → Request3 z o
request-3 {R} {S} z o = record {
  settled-words = λ op ds d. (outcome-any op ds d, outcome-all op ds d);
  covered-count = λ n op size x y out t u v r c e.
      subst⁻¹ (λ (c : Combine R S). c.answer ≡ done r → Covers n op x y r.covered) e
      (λ a. U.run-covers n op size x y out r _ (U.ran z o n op size x y out t u v r a));
  both-cover = W.both-cover;
  refused-settles = W.refused-settles;
  none-asked = λ n x y. (W.none-asked n 0 x y false (λ a b. W.zero-gives a b), W.none-asked n 15 x y true (λ a b. W.fifteen-gives a b));
  second-ignored = W.second-ignored;
}
