-- What code's loop reaches: where reading stands after some steps, how it goes on or ends there, and what it has decided and filled so far.
-- Assumes nothing.
use Rattle.std.specs.Prelude.{◌≡◌, ◌⊎◌, List, ℕ, suc, ◌+◌, ◌-◌, ◌/◌, ◌<◌, ◌≤◌, ◌^◌, length, replicate}
use Rattle.std.proofs.Math.Path.{refl, ap}
use Rattle.std.proofs.Common.{sym, ◌∙◌, subst, ⊎_elim, arith, pow_mono, lt-ltb, le-ltb}
use Rattle.theory_lists.specs.Lists.{differ, decide-le}
use Rattle.theory_reading.specs.Limits.{option_limit, word_limit}
use Rattle.theory_reading.specs.LimitLaws.{few-stamps}
use Rattle.theory_reading.specs.Nodes.{child, stamp}
use Rattle.theory_reading.specs.Causes.{Cause}
use Rattle.theory_reading.specs.Element.{after_two}
use Rattle.theory_reading.specs.Reading.{State, Reading, goes, fails, fresh, level, advance, next, reading}
use Rattle.theory_reading.specs.Deciding.{options, complemented, Trace, next_trace, trace_on, trace, decision_of}
use Rattle.theory_reading.specs.Calls.{not_yet, verdict_of, verdict, bytes_from}
use Rattle.theory_reading.proofs.Prefix.{trace_on-add, trace_on-last, trace-reading}
use Rattle.theory_reading.proofs.Settled.{trace-rests, trace-stays, trace-onward, trace-settled}
use Rattle.theory_reading.specs.Covered.{parity}
use Rattle.theory_reading.proofs.Covered.{GoodTrace, grown-on, grown-count, trace-covered}
use Rattle.theory_reading.specs.TableWalk.{table_walk}
use Rattle.theory_reading.proofs.TableWalk.{tied_on}
use Rattle.theory_reading.proofs.Passing.{start_trace, passed-decision, passed-size}
use Rattle.theory_reading.proofs.StampBound.{covered-within, stamp-most}
use Rattle.theory_reading.proofs.Filling.{put_node, filled_none, filled-same, filled-passed}

-- reading stands at s, after f steps without a fault
abbrev pub At : ℕ → List ℕ → ℕ → State → Type 0
At n bytes f s = (trace_on f n bytes start_trace).reading ≡ goes s

module _ (n : ℕ) (bytes : List ℕ) where
  -- the trace after f steps
  abbrev trace_at : ℕ → Trace
  trace_at f = trace_on f n bytes start_trace

  -- the state after f steps
  now-state : (f : ℕ) (s : State) → At n bytes f s → (trace_at f).reading.state ≡ s
  now-state f s h = ap (λ (r : Reading). r.state) h

  -- and after one step more
  next-state : (f : ℕ) (s : State) → At n bytes (suc f) s → (next_trace n bytes (trace_at f)).reading.state ≡ s
  next-state f s h = ap (λ (t : Trace). t.reading.state) (sym (trace_on-last f n bytes start_trace)) ∙ now-state (suc f) s h

  -- ---- the next step

  -- Reading begins with nothing read.
  pub at-start : At n bytes 0 fresh
  unfolding trace_on
  at-start = refl

  -- what one step more comes to
  step-comes : (f : ℕ) (s : State) (r : Reading) → At n bytes f s → advance n bytes s ≡ r → (next_trace n bytes (trace_at f)).reading ≡ r
  unfolding next_trace next
  step-comes f s r h e = ap (next n bytes) h ∙ e

  -- and reading with it
  reads-next : (f : ℕ) (s : State) (r : Reading) → At n bytes f s → advance n bytes s ≡ r → (trace_at (suc f)).reading ≡ r
  reads-next f s r h e = ap (λ (t : Trace). t.reading) (trace_on-last f n bytes start_trace) ∙ step-comes f s r h e

  -- A step without a fault is one step more.
  pub at_next : (f : ℕ) (s s' : State) → At n bytes f s → advance n bytes s ≡ goes s' → At n bytes (suc f) s'
  at_next f s s' h e = reads-next f s (goes s') h e

  -- A step that fails is the last: its fault is the fault of the stream.
  pub at-fault : (f : ℕ) (s : State) (c : Cause) (b : ℕ) → At n bytes f s → advance n bytes s ≡ fails s c b → reading n bytes ≡ fails s c b
  at-fault f s c b h e =
      let k = reads-next f s (fails s c b) h e in
      let r = trace-rests n bytes (trace_at (suc f)) _ (ap (λ (y : Reading). y.fault) k) in
      sym (trace-reading n bytes) ∙ ap (λ (t : Trace). t.reading) (trace-settled n bytes (suc f) (trace_at (suc f)) refl r) ∙ k

  -- Where a step stays, all is read that there is, with its drawing;
  pub at-end-trace : (f : ℕ) (s : State) → At n bytes f s → advance n bytes s ≡ goes s → trace n bytes ≡ trace_on f n bytes start_trace
  at-end-trace f s h e = trace-settled n bytes f (trace_at f) refl (trace-stays n bytes (trace_at f) (step-comes f s (goes s) h e ∙ sym h))

  -- and that is the reading of the stream.
  pub at-end : (f : ℕ) (s : State) → At n bytes f s → advance n bytes s ≡ goes s → reading n bytes ≡ goes s
  at-end f s h e = sym (trace-reading n bytes) ∙ ap (λ (t : Trace). t.reading) (at-end-trace f s h e) ∙ h

  -- ---- bounds

  -- At most 2^n words are covered,
  pub at-within : (f : ℕ) (s : State) → At n bytes f s → s.covered ≤ 2 ^ n
  at-within f s h = omega (arith, covered-within f n bytes, ap (λ (r : Reading). r.state.covered) h)

  -- so no more than those of the most options.
  pub at-covered : (f : ℕ) (s : State) → n ≤ option_limit → At n bytes f s → s.covered ≤ word_limit
  at-covered f s l h = omega (arith, at-within f s h, pow_mono {i = n} {j = option_limit} l)

  -- Where a number may be given out, it has been given out at most 2^32 - 2 times.
  pub at-stamp : (f : ℕ) (s : State) → n ≤ option_limit → At n bytes f s → s.place.context ≡ after_two → (k : ℕ) → stamp s.table k + 2 ≤ 4294967296
  at-stamp f s l h e k =
      let m = rw (now-state f s h) at (stamp-most f n bytes k) in
      omega (arith, m e, pow_mono {i = n} {j = option_limit} l, few-stamps)

  -- the trace after g steps goes on from that after f
  trace-later : (f g : ℕ) → f ≤ g → trace_at g ≡ trace_on (g - f) n bytes (trace_at f)
  trace-later f g l = let i : g ≡ f + (g - f) = omega arith in ap trace_at i ∙ trace_on-add f (g - f) n bytes start_trace

  -- The covered count only grows,
  pub at-grows : (f g : ℕ) (s s' : State) → f ≤ g → At n bytes f s → At n bytes g s' → s.covered ≤ s'.covered
  at-grows f g s s' l h h' =
      let q = (tied_on f n bytes).good in
      omega (
        arith,
        grown-count n (trace_at f) _ q (grown-on (g - f) n bytes (trace_at f) q),
        ap (λ (t : Trace). t.reading.state.covered)
            (trace-later f g l),
        ap (λ (r : Reading). r.state.covered) h,
        ap (λ (r : Reading). r.state.covered) h',
      )

  -- up to that of the stream,
  pub at_most : (f : ℕ) (s r : State) → At n bytes f s → reading n bytes ≡ goes r → s.covered ≤ r.covered
  at_most f s r h e =
      let q = (tied_on f n bytes).good in
      omega (
        arith,
        grown-count n (trace_at f) _ q (grown-on (suc (length bytes)) n bytes (trace_at f) q),
        ap
            (λ (t : Trace). t.reading.state.covered) (trace-onward n bytes f),
        trace-covered n bytes,
        ap (λ (x : Reading). x.state.covered) e,
        ap
            (λ (x : Reading). x.state.covered) h,
      )

  -- by the words of the node that a step passes.
  pub at-passes : (f : ℕ) (s s' : State) → At n bytes f s → At n bytes (suc f) s' → s.covered < s'.covered → s'.covered
      ≡ s.covered + 2 ^ (n - length s.place.opens)
  at-passes f s s' h h' l =
      let e = now-state f s h in
      let e' = next-state f s' h' in
      ⊎_elim
      (λ (k : s'.covered ≡ s.covered). absurd (omega (arith, k, l)))
      (λ (k : s'.covered ≡ s.covered + 2 ^ (n - length s.place.opens)). k)
      (subst (λ (x : State). (s'.covered ≡ x.covered) ⊎ (s'.covered ≡ x.covered + 2 ^ (n - length x.place.opens))) e
      (subst (λ (y : State). let x = (trace_at f).reading.state in (y.covered ≡ x.covered) ⊎
      (y.covered ≡ x.covered + 2 ^ (n - length x.place.opens))) e' (passed-size f n bytes)))

  -- ---- deciding

  -- A WORD THAT A STEP PASSES is decided by the table as it stands then, whatever is read later.
  pub decided-passed : (f : ℕ) (s s' : State) → At n bytes f s → At n bytes (suc f) s' → (w : ℕ) → s.covered ≤ w → w < s'.covered
      → verdict n (trace n bytes) w
      ≡ verdict_of (complemented (differ (parity s'.place.opens) s'.complement)
      (table_walk s'.table (level s.place) (child s'.place.last) (options (n - length s.place.opens) (w - s.covered))))
  decided-passed f s s' h h' w l u =
      let g = suc (length bytes) in
      let t' = next_trace n bytes (trace_at f) in
      let e = now-state f s h in
      let e' = next-state f s' h' in
      let a = ap (λ (x : State). x.covered) e in
      let a' = ap (λ (x : State). x.covered) e' in
      let z : trace n bytes ≡ trace_on g n bytes t' = trace-onward n bytes (suc f) ∙ ap (trace_on g n bytes) (trace_on-last f n bytes start_trace) in
      let q : GoodTrace n t' = subst (GoodTrace n) (trace_on-last f n bytes start_trace) (tied_on (suc f) n bytes).good in
      let c : w < (trace n bytes).reading.state.covered = omega (
        arith,
        a',
        ap (λ (t : Trace). t.reading.state.covered) z,
        grown-count n t'
            (trace_on g n bytes t') q (grown-on g n bytes t' q),
      ) in
      rw (lt-ltb w (trace n bytes).reading.state.covered c, ← e, ← e')
      (ap verdict_of (ap (λ (t : Trace). decision_of n t w) z ∙ passed-decision f g n bytes w (omega (arith, a)) (omega (arith, a'))))

  -- A word that the stream does not cover is not decided.
  pub decided-not : (s : State) (w : ℕ) → reading n bytes ≡ goes s → s.covered ≤ w → verdict n (trace n bytes) w ≡ not_yet
  decided-not s w e l = rw (le-ltb w (trace n bytes).reading.state.covered
      (omega (arith, trace-covered n bytes, ap (λ (r : Reading). r.state.covered) e))) refl

  -- ---- filling

  -- Before the first step the truth table is all zero.
  pub filled-first : (k : ℕ) → bytes_from k n (trace_on 0 n bytes start_trace) 0 ≡ replicate k 0
  unfolding trace_on
  filled-first k = filled_none k n start_trace 0 refl

  -- steps that pass no word leave it
  filled-later : (f g : ℕ) (s s' : State) → f ≤ g → At n bytes f s → At n bytes g s' → s.covered ≡ s'.covered → (k : ℕ)
      → bytes_from k n (trace_at g) 0 ≡ bytes_from k n (trace_at f) 0
  filled-later f g s s' l h h' e k =
      let z = trace-later f g l in
      let c : (trace_on (g - f) n bytes (trace_at f)).reading.state.covered
      ≡ (trace_at f).reading.state.covered = omega (
        arith,
        ap (λ (t : Trace). t.reading.state.covered) z,
        ap
            (λ (r : Reading). r.state.covered) h,
        ap (λ (r : Reading). r.state.covered) h',
      ) in
      let q = (tied_on f n bytes).good in
      ap (λ (t : Trace). bytes_from k n t 0) z ∙ filled-same n (trace_at f) (trace_on (g - f) n bytes (trace_at f)) q
      (grown-on (g - f) n bytes (trace_at f) q) k c

  -- WHERE AS MANY WORDS ARE COVERED the truth table is the same.
  pub filled-alike : (f g : ℕ) (s s' : State) → At n bytes f s → At n bytes g s' → s.covered ≡ s'.covered → (k : ℕ)
      → bytes_from k n (trace_on f n bytes start_trace) 0 ≡ bytes_from k n (trace_on g n bytes start_trace) 0
  filled-alike f g s s' h h' e k = ⊎_elim
      (λ (l : f ≤ g). sym (filled-later f g s s' l h h' e k))
      (λ (l : g < f). filled-later g f s' s (omega arith) h' h (sym e) k)
      (decide-le f g)

  -- A STEP THAT PASSES A NODE puts its words into the truth table, and changes no other word.
  pub filled_on : (f : ℕ) (s s' : State) → At n bytes f s → At n bytes (suc f) s' → s.covered < s'.covered → 3 ≤ n
      → bytes_from (2 ^ n / 8) n (trace_on (suc f) n bytes start_trace) 0
      ≡ put_node (n - length s.place.opens) s'.table (level s.place) (child s'.place.last)
      (differ (parity s'.place.opens) s'.complement) s.covered
      (bytes_from (2 ^ n / 8) n (trace_on f n bytes start_trace) 0)
  filled_on f s s' h h' l m =
      let e = now-state f s h in
      let e' = next-state f s' h' in
      rw (← e, ← e') (ap (λ (t : Trace). bytes_from (2 ^ n / 8) n t 0) (trace_on-last f n bytes start_trace)
      ∙ filled-passed f n bytes (omega (arith, ap (λ (x : State). x.covered) e, ap (λ (x : State). x.covered) e')) m)
