-- What a run of combining, or a call of writing, that is not refused is: its limits, its streams without fault, its answer and its written bytes.
-- Assumes nothing.
use Rattle.std.specs.Prelude.{◌≡◌, refl, Bool, true, false, cond, ℕ, ◌≤◌, ◌<◌, ◌^◌, ltb, eqb, length, take}
use Rattle.std.proofs.Common.{sym, ◌∙◌, inr, arith, ltb-false, eqb-true}
use Rattle.std.proofs.Math.Path.{ap, subst, subst⁻¹}
use mathlib.Core.List.{List, [], ◌∷◌, ◌++◌}
use Rattle.std.proofs.Math.Option.{none}
use Prim.{tt}
use Rattle.theory_lists.specs.Prefixes.{Begins}
use Rattle.theory_reading.specs.Limits.{option_limit, table_limit, truth_table_most}
use Rattle.theory_reading.specs.LimitLaws.{truth-options}
use Rattle.theory_reading.specs.Causes.{Result, done, unless_refused}
use Rattle.theory_reading.specs.Reading.{reading}
use Rattle.theory_reading.specs.Deciding.{Decision, undecided, decided, decision}
use Rattle.theory_reading.specs.Calls.{verdict_of, decide}
use Rattle.theory_reading.proofs.CallLaws.{decide-decision}
use Rattle.theory_reading.specs.Covered.{covered}
use Rattle.theory_reading.proofs.Covered.{covered-most, decision-stands}
use Rattle.theory_writing.specs.Run.{operate, decisions, joint, run_covered, or_no, run_text, run_of, written_bytes, output_after, whole, input_ended, output_full}
use Rattle.theory_writing.specs.Run.{Answer, answer_of}
use Rattle.theory_writing.specs.Grows.{run-stable}
use Rattle.theory_writing.specs.Inputs.{May, AllMay}
use Rattle.theory_writing.proofs.Inputs.{never-decided, decided-one, outcome-any, outcome-all, run_covered-most, covered-settled, covered-open}
use Rattle.theory_writing.proofs.Inputs.{run_covered-is, Extend, run_covered-grows, run_of-written}
use Rattle.theory_writing.specs.Output.{written-length, output-written, written_all}
use Rattle.theory_writing.specs.Calls.{combine_text, combine_answer, combine, write_text, truth_at, write_answer, write}
use Rattle.claims.specs.Terms.{not_three_to_sixteen, Gets, Operated, Covers, ReadAs, Complete}
use Rattle.claims.proofs.Refused.{not-above, inputs, Streams, combine-by, write-by}
use Rattle.claims.specs.ReadBack.{read_back}
use Rattle.claims.specs.WrittenBytes.{decided-same, Written, run-written}

-- ---- A run of combining ----------------------------------------------------------------------

-- the first bytes of the output, as many as are answered, are the written ones
answer-written : (n c : ℕ) (text out : List ℕ) → take (answer_of n c text out).written (output_after text out) ≡ written_bytes text out
unfolding answer_of
answer-written n c text out = output-written text out

answer-covered : (n c : ℕ) (text out : List ℕ) → (answer_of n c text out).covered ≡ c
unfolding answer_of
answer-covered n c text out = refl

-- an answer of "whole": all words are covered, and all of the text is written
answer-whole : (n c : ℕ) (text out : List ℕ) → (answer_of n c text out).ending ≡ whole → (c ≡ 2 ^ n) × (written_bytes text out ≡ text)
unfolding answer_of
answer-whole n c text out e = go (ltb (length out) (length text)) refl (eqb c (2 ^ n)) refl e
  where
    go : (p : Bool) → ltb (length out) (length text) ≡ p → (q : Bool) → eqb c (2 ^ n) ≡ q → cond p output_full (cond q whole input_ended) ≡ whole
        → (c ≡ 2 ^ n) × (written_bytes text out ≡ text)
    go true a q b h = absurd (let z : ◌≡◌ {A = ℕ} 0 1 = cc in omega arith)
    go false a true b h = (eqb-true c (2 ^ n) b, written_all text out (ltb-false (length out) (length text) a))
    go false a false b h = absurd (let z : ◌≡◌ {A = ℕ} 0 1 = cc in omega arith)

gets : (n c : ℕ) (text out : List ℕ) (r : Answer) (t : List ℕ) → r ≡ answer_of n c text out → take r.written t ≡ written_bytes text out
    → Gets n c text out r t
unfolding answer_of written_bytes
gets n c text out r t e b = record {
  bytes = b;
  count = ap (λ (q : Answer). q.written) e ∙ written-length text out;
  covers = ap (λ (q : Answer). q.covered) e;
  ending = ap (λ (q : Answer). q.ending) e;
}

-- deciding a word of bytes that are read so answers what is right there
pub read-decided : {R : Type 0} (z : R) (n c : ℕ) (Right : ℕ → Bool → Type 0) (bytes : List ℕ) → n ≤ option_limit → ReadAs n c Right bytes
    → (w : ℕ) (t : List R) → w < covered n bytes → table_limit ≤ length t → (d : Bool) × Right w d
    × ((decide z n bytes w t).answer ≡ done (verdict_of (decided d)))
read-decided z n c Right bytes small h w t l k =
    let d = h.decides w l in (
      d.0,
      d.2,
      decide-decision z n bytes w t small k (omega (arith, l, covered-most n bytes)) h.accepted
          ∙ ap (λ (x : Decision). done (verdict_of x)) d.1,
    )

-- the run over the streams x and y with the answer r, and the output t after it
pub record Ran (n op size : ℕ) (x y out : List ℕ) (r : Answer) (t : List ℕ) : Type 0 where
  pub options : n ≤ option_limit
  pub fit : size ≤ table_limit
  pub first : (reading n x).fault ≡ none
  pub second : (reading n y).fault ≡ none
  pub answer : r ≡ answer_of n (run_covered (operate op) n (inputs n x y)) (combine_text n op size (Streams x y)) out
  pub bytes : take r.written t ≡ written_bytes (combine_text n op size (Streams x y)) out

pub ran : {R S : Type 0} (z : R) (o : S) (n op size : ℕ) (x y out : List ℕ) (t u : List R) (v : List S) (r : Answer)
    → (combine z o n op size x y out t u v).answer ≡ done r
    → Ran n op size x y out r (combine z o n op size x y out t u v).output
unfolding combine combine_answer unless_refused
ran z o n op size x y out t u v r e =
    let text = combine_text n op size (Streams x y) in
    let b = ((combine-by n op size x y out (length t) (length u) (length v)).unless r).0 e in
    let m = b.0 in
    record {
      options = not-above n option_limit m.0;
      fit = not-above size table_limit m.1.1.0;
      first = m.1.1.1.1.1.1.0;
      second = m.1.1.1.1.1.1.1.0;
      answer = b.1;
      bytes = ap (λ (o : Result Answer). take r.written (unless_refused o out (λ (q : Answer). output_after text out))) e
          ∙ ap (λ (q : Answer). take q.written (output_after text out)) b.1 ∙ answer-written n (run_covered (operate op) n (inputs n x y)) text out;
    }

-- ---- What its written bytes decide -----------------------------------------------------------

-- a value that a stream may have, by what it decides
value-may : (x : Decision) (a : Bool) → ((d : Bool) → x ≡ decided d → a ≡ d) → May x a
value-may undecided a h = tt
value-may (decided d) a h = h d refl

may-value : (x : Decision) (a : Bool) → May x a → (d : Bool) → x ≡ decided d → a ≡ d
may-value undecided a h d e = never-decided d e
may-value (decided b) a h d e = h ∙ decided-one b d e

module _ (n op : ℕ) (x y : List ℕ) (w : ℕ) (d : Bool) where
  -- The operator decides d from two streams exactly if that is the outcome.
  outcome-operated : joint (operate op) (inputs n x y) w ≡ decided d → Operated n op x y w d
  outcome-operated e a b p q =
      outcome-any (operate op) (decisions (inputs n x y) w) d e (a ∷ b ∷ []) (value-may (decision n x w) a p, (value-may (decision n y w) b q, tt))

  operated-outcome : Operated n op x y w d → joint (operate op) (inputs n x y) w ≡ decided d
  operated-outcome h = outcome-all (operate op) (decisions (inputs n x y) w) d go
    where
      go : (vs : List Bool) → AllMay (decisions (inputs n x y) w) vs → operate op vs ≡ d
      go [] m = absurd m
      go (a ∷ []) m = absurd m.1
      go (a ∷ b ∷ []) m = h a b (may-value (decision n x w) a m.0) (may-value (decision n y w) b m.1.0)
      go (a ∷ b ∷ v ∷ vs) m = absurd m.1.1

-- it decides one way only
operated-same : (n op : ℕ) (x y : List ℕ) (w : ℕ) (c d : Bool) → Operated n op x y w c → Operated n op x y w d → c ≡ d
operated-same n op x y w c d p q =
    decided-same (joint (operate op) (inputs n x y) w) c d (operated-outcome n op x y w c p) (operated-outcome n op x y w d q)

-- on a word that the run covers the outcome is right
joint-operated : (n op : ℕ) (x y : List ℕ) (w : ℕ) → w < run_covered (operate op) n (inputs n x y)
    → Operated n op x y w (or_no (joint (operate op) (inputs n x y) w))
joint-operated n op x y w h =
    let s = covered-settled (operate op) n (inputs n x y) w h in
    subst⁻¹ (Operated n op x y w) (ap or_no s.1) (outcome-operated n op x y w s.0 s.1)

-- THE COVERED COUNT is the least word that is not settled, or 2^n,
pub count-covers : (n op : ℕ) (x y : List ℕ) → Covers n op x y (run_covered (operate op) n (inputs n x y))
count-covers n op x y = record {
  most = run_covered-most (operate op) n (inputs n x y);
  settled = λ w l. (_, joint-operated n op x y w l);
  unsettled = λ l d o. never-decided d (sym (covered-open (operate op) n (inputs n x y) l) ∙ operated-outcome n op x y _ d o);
}

-- and nothing else is.
pub covers-count : (n op : ℕ) (x y : List ℕ) (c : ℕ) → Covers n op x y c → run_covered (operate op) n (inputs n x y) ≡ c
covers-count n op x y c h = run_covered-is (operate op) n (inputs n x y) c h.most
    (λ w l. let s = h.settled w l in (s.0, operated-outcome n op x y w s.0 s.1))
    (λ l. go l (joint (operate op) (inputs n x y) c) refl)
  where
    go : c < 2 ^ n → (z : Decision) → joint (operate op) (inputs n x y) c ≡ z → z ≡ undecided
    go l undecided e = refl
    go l (decided d) e = absurd (h.unsettled l d (outcome-operated n op x y c d e))

module _ (n op size : ℕ) (x y out : List ℕ) (r : Answer) (t : List ℕ) (h : Ran n op size x y out r t) where
  pub run-covered : r.covered ≡ run_covered (operate op) n (inputs n x y)
  run-covered = ap (λ (q : Answer). q.covered) h.answer ∙ answer-covered n (run_covered (operate op) n (inputs n x y)) (combine_text n op size (Streams x y)) out

  -- what the run writes, as a function
  abbrev joined : ℕ → Bool
  joined w = or_no (joint (operate op) (inputs n x y) w)

  pub run-covers : Covers n op x y r.covered
  run-covers = subst⁻¹ (Covers n op x y) run-covered (count-covers n op x y)

  pub run-read : Written n r.covered joined (take r.written t)
  unfolding combine_text run_of
  run-read = subst⁻¹ (λ (c : ℕ). Written n c joined (take r.written t)) run-covered
      (subst⁻¹ (Written n (run_covered (operate op) n (inputs n x y)) joined) h.bytes
      (run-written n size (run_covered (operate op) n (inputs n x y)) joined out h.options h.fit
      (run_covered-most (operate op) n (inputs n x y))))

  -- a word that they cover they decide as the operator does
  run-operated : (w : ℕ) → w < covered n (take r.written t) → (d : Bool) × (decision n (take r.written t) w ≡ decided d) × Operated n op x y w d
  run-operated w l = (_, run-read.decides w l, joint-operated n op x y w (omega (arith, l, run-read.within, run-covered)))

  pub run-read-as : ReadAs n r.covered (Operated n op x y) (take r.written t)
  run-read-as = record { accepted = run-read.accepted; within = run-read.within; decides = run-operated }

  -- a run that ends "whole" is read back whole
  pub run-complete : r.ending ≡ whole → Complete n (take r.written t)
  unfolding combine_text run_of
  run-complete e =
      let c = run_covered (operate op) n (inputs n x y) in
      let p = answer-whole n c (run_text n size c joined) out (sym (ap (λ (q : Answer). q.ending) h.answer) ∙ e) in
      let b = read_back n size joined h.options h.fit in
      subst⁻¹ (Complete n) (h.bytes ∙ p.1 ∙ ap (λ (k : ℕ). run_text n size k joined) p.0) (b.complete, b.covers)

  -- it gets the text of any function that is the operator's on the covered words
  pub run-gets : (c : ℕ) → Covers n op x y c → (f : ℕ → Bool) → ((w : ℕ) → w < c → Operated n op x y w (f w))
      → Gets n c (run_text n size c f) out r t
  unfolding combine_text run_of
  run-gets c k f o =
      let z = run_covered (operate op) n (inputs n x y) in
      let e = covers-count n op x y c k in
      let s : run_text n size z joined ≡ run_text n size z f =
      run-stable n size z joined f (λ w l. operated-same n op x y w (joined w) (f w) (joint-operated n op x y w l) (o w (omega (arith, l, e)))) in
      subst (λ (m : ℕ). Gets n m (run_text n size m f) out r t) e
      (subst (λ (text : List ℕ). Gets n z text out r t) s (gets n z (run_text n size z joined) out r t h.answer h.bytes))

-- ---- Two runs --------------------------------------------------------------------------------

-- The second run's streams are the first's with bytes behind, its output is no shorter.
module _ (n op size : ℕ) (x y u v out out' : List ℕ) (r r' : Answer) (t t' : List ℕ) (h : Ran n op size x y out r t)
    (h' : Ran n op size (x ++ u) (y ++ v) out' r' t') (l : length out ≤ length out') where
  extend : Extend n (inputs n x y) (inputs n (x ++ u) (y ++ v))
  extend = (λ w k d. decision-stands n x u w d k, (λ w k d. decision-stands n y v w d k, tt))

  pub runs-covered : r.covered ≤ r'.covered
  runs-covered = omega (
    arith,
    run-covered n op size x y out r t h,
    run-covered n op size (x ++ u) (y ++ v) out' r' t' h',
    run_covered-grows (operate op) n (inputs n x y) (inputs n (x ++ u) (y ++ v)) extend,
  )

  pub runs-begin : Begins (take r.written t) (take r'.written t')
  unfolding combine_text
  runs-begin = subst⁻¹ (λ (s : List ℕ). Begins s (take r'.written t')) h.bytes
      (subst⁻¹ (Begins (written_bytes (combine_text n op size (Streams x y)) out)) h'.bytes
      (run_of-written (operate op) n (inputs n x y) (inputs n (x ++ u) (y ++ v)) extend size out out' l))

  operated-longer : (w : ℕ) (d : Bool) → w < 2 ^ n → Operated n op x y w d → Operated n op (x ++ u) (y ++ v) w d
  operated-longer w d k o a b p q = o a b (λ c e. p c (decision-stands n x u w c k e)) (λ c e. q c (decision-stands n y v w c k e))

  pub runs-decide : (w : ℕ) → w < covered n (take r.written t)
      → (d : Bool) × (decision n (take r.written t) w ≡ decided d) × (decision n (take r'.written t') w ≡ decided d) × Operated n op x y w d
      × Operated n op (x ++ u) (y ++ v) w d
  runs-decide w q =
      let o = run-operated n op size x y out r t h w q in
      let k : w < 2 ^ n = omega (arith, q, covered-most n (take r.written t)) in
      let b = runs-begin in (
        o.0,
        o.1,
        subst⁻¹ (λ (l : List ℕ). decision n l w ≡ decided o.0) b.1
            (decision-stands n (take r.written t) b.0 w o.0 k o.1),
        o.2,
        operated-longer w o.0 k o.2,
      )

-- ---- A call of writing -----------------------------------------------------------------------

pub record Wrote (n size : ℕ) (truths out : List ℕ) (r : Answer) (t : List ℕ) : Type 0 where
  pub options : n ≤ option_limit
  pub fit : size ≤ table_limit
  pub answer : r ≡ answer_of n (2 ^ n) (write_text n size truths) out
  pub bytes : take r.written t ≡ written_bytes (write_text n size truths) out

pub wrote : {R : Type 0} (z : R) (n size : ℕ) (truths out : List ℕ) (t : List R) (r : Answer) → (write z n size truths out t).answer ≡ done r
    → Wrote n size truths out r (write z n size truths out t).output
unfolding write write_answer unless_refused
wrote z n size truths out t r e =
    let text = write_text n size truths in
    let b = ((write-by n size truths out (length t)).unless r).0 e in
    record {
      options = small n b.0.0;
      fit = not-above size table_limit b.0.1.0;
      answer = b.1;
      bytes = ap (λ (o : Result Answer). take r.written (unless_refused o out (λ (q : Answer). output_after text out))) e
          ∙ ap (λ (q : Answer). take q.written (output_after text out)) b.1 ∙ answer-written n (2 ^ n) text out;
    }
  where
    small : (n : ℕ) → (not_three_to_sixteen n → ⊥) → n ≤ option_limit
    small n h = let m = not-above n truth_table_most (λ k. h (inr k)) in omega (arith, m, truth-options)

module _ (n size : ℕ) (truths out : List ℕ) (r : Answer) (t : List ℕ) (h : Wrote n size truths out r t) where
  pub wrote-gets : Gets n (2 ^ n) (run_text n size (2 ^ n) (truth_at truths)) out r t
  unfolding write_text
  wrote-gets = gets n (2 ^ n) (run_text n size (2 ^ n) (truth_at truths)) out r t h.answer h.bytes

  -- the written bytes, clipped or not
  pub wrote-read-as : ReadAs n r.covered (λ w d. d ≡ truth_at truths w) (take r.written t)
  unfolding write_text
  wrote-read-as =
      let b = subst⁻¹ (Written n (2 ^ n) (truth_at truths)) h.bytes
      (run-written n size (2 ^ n) (truth_at truths) out h.options h.fit (omega arith)) in
      record {
        accepted = b.accepted;
        within = omega (arith, b.within, wrote-gets.covers);
        decides = λ w l.
            (truth_at truths w, b.decides w l, refl);
      }

  pub wrote-complete : r.ending ≡ whole → Complete n (take r.written t)
  unfolding write_text
  wrote-complete e =
      let p = answer-whole n (2 ^ n) (run_text n size (2 ^ n) (truth_at truths)) out (sym (ap (λ (q : Answer). q.ending) h.answer) ∙ e) in
      let b = read_back n size (truth_at truths) h.options h.fit in
      subst⁻¹ (Complete n) (h.bytes ∙ p.1) (b.complete, b.covers)
