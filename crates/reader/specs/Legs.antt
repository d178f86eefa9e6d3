-- Reading to the end in legs, a search among them, comes to what reading at once comes to. Assumes nothing.
use Rattle.std.specs.Prelude.{◌≡◌, refl, Bool, true, false, List, ℕ, zero, suc, ◌-◌, ◌<◌, ◌≤◌, length}
use Rattle.std.proofs.Common.{sym, ap, ◌∙◌, ⊎_elim, true≢false, arith}
use Rattle.std.proofs.Math.Path.{subst⁻¹}
use Rattle.std.proofs.lemmas.Bool.{false≢true}
use Rattle.theory_lists.specs.Lists.{decide-le}
use Rattle.theory_reading.specs.Limits.{word_limit}
use Rattle.elements.specs.declared.Opens.{Opens}
use Rattle.cursors.specs.declared.Run.{Run}
use Rattle.reader.specs.Advance.{IterationView, low_of, opens_to, Iterates}
use Rattle.reader.specs.Iterating.{iteration-ahead}
use Rattle.reader.specs.Iterating.{Iterated, iteration_in, iteration-made}
use Rattle.reader.specs.ReadOn.{ReadTo, read_on, read_past, read_goes, read-halts}
use Rattle.reader.specs.RunOn.{GoalView, goal_to, goal-fits, run_on, run_past, run-goes, run-halts}
use Rattle.node_records.specs.declared.NodeRecord.{NodeRecord}

-- what is reached, but for what the last element passed
abbrev pub bare : ReadTo → ReadTo
bare z = let y = z.reached in
    record {
      reached = record {
        run = y.run;
        opens = y.opens;
        from = 0;
        deep = 0;
        halted = y.halted;
        faulty = y.faulty;
        cause = y.cause;
        byte = y.byte;
      };
      table = z.table;
    }

-- the iteration at a place
module _ (n : ℕ) (bytes : List ℕ) (r : Run) (o : Opens) (t : List NodeRecord) where
  abbrev iterated : Iterated
  iterated = iteration_in n bytes r o.depth (low_of o) t

  abbrev y : IterationView
  y = iterated.iteration

  abbrev u : List NodeRecord
  u = iterated.table

  made : Iterates n bytes r o.depth (low_of o) t y u
  made = iteration-made n bytes r o.depth (low_of o) t

  -- one that goes on takes a byte
  moves : y.went ≡ true → length bytes - y.run.at < length bytes - r.at
  moves e = let a = iteration-ahead n bytes r o.depth (low_of o) t y u made e in omega (arith, a.0, a.1.0)

-- Enough fuel is enough, and what was passed before does not count.
read_alike : (f g n : ℕ) (bytes : List ℕ) (stop : ℕ) (r : Run) (o : Opens) (from deep from' deep' : ℕ) (t : List NodeRecord) → length bytes - r.at < f
    → length bytes - r.at < g → bare (read_on f n bytes stop r o from deep t) ≡ bare (read_on g n bytes stop r o from' deep' t)
read_alike zero g n bytes stop r o from deep from' deep' t k l = absurd (omega (arith, k))
read_alike (suc f) zero n bytes stop r o from deep from' deep' t k l = absurd (omega (arith, l))
read_alike (suc f) (suc g) n bytes stop r o from deep from' deep' t k l =
    ⊎_elim (λ (c : r.covered ≤ stop). on (λ q p a b v. read_alike f g n bytes stop q p a b a b v) c (y n bytes r o t).went refl) over
    (decide-le r.covered stop)
  where
    Again : Type 0
    Again = (r : Run) (o : Opens) (from deep : ℕ) (t : List NodeRecord) → length bytes - r.at < f → length bytes - r.at < g
        → bare (read_on f n bytes stop r o from deep t) ≡ bare (read_on g n bytes stop r o from deep t)

    over : stop < r.covered → bare (read_on (suc f) n bytes stop r o from deep t) ≡ bare (read_on (suc g) n bytes stop r o from' deep' t)
    over c = ap bare (read_past f n bytes stop r o from deep t c) ∙ sym (ap bare (read_past g n bytes stop r o from' deep' t c))

    on : Again → r.covered ≤ stop → (b : Bool) → (y n bytes r o t).went ≡ b
        → bare (read_on (suc f) n bytes stop r o from deep t) ≡ bare (read_on (suc g) n bytes stop r o from' deep' t)
    on again c true e =
        let i = y n bytes r o t in
        let m = moves n bytes r o t e in
        ap bare (read_goes f n bytes stop r o from deep t i (u n bytes r o t) (made n bytes r o t) c e)
        ∙ again i.run (opens_to o i.depth i.low) r.covered o.depth (u n bytes r o t) (omega (arith, m, k)) (omega (arith, m, l))
        ∙ sym (ap bare (read_goes g n bytes stop r o from' deep' t i (u n bytes r o t) (made n bytes r o t) c e))
    on again c false e =
        let i = y n bytes r o t in
        ap bare (read-halts f n bytes stop r o from deep t i (u n bytes r o t) (made n bytes r o t) c e)
        ∙ sym (ap bare (read-halts g n bytes stop r o from' deep' t i (u n bytes r o t) (made n bytes r o t) c e))

-- A leg that came to z is part of the way to w.
pub record Leg (n : ℕ) (bytes : List ℕ) (z w : ReadTo) : Type 0 where
  pub halts : z.reached.halted ≡ true → bare z ≡ bare w
  pub goes : z.reached.halted ≡ false → (f : ℕ) → length bytes - z.reached.run.at < f
      → bare (read_on f n bytes word_limit z.reached.run z.reached.opens 0 0 z.table) ≡ bare w

-- EVERY LEG IS, with a search or without.
pub run-leg : (f n : ℕ) (bytes : List ℕ) (seeks : Bool) (g : GoalView) (r : Run) (o : Opens) (from deep : ℕ) (t : List NodeRecord) → g.stop ≤ word_limit
    → length bytes - r.at < f → Leg n bytes (run_on f n bytes seeks g r o from deep t) (read_on f n bytes word_limit r o from deep t)
run-leg zero n bytes seeks g r o from deep t h k = absurd (omega (arith, k))
run-leg (suc f) n bytes seeks g r o from deep t h k =
    ⊎_elim (λ (c : r.covered ≤ g.stop). on (λ v q p a b w. run-leg f n bytes seeks v q p a b w) c (y n bytes r o t).went refl) over
    (decide-le r.covered g.stop)
  where
    Again : Type 0
    Again = (g : GoalView) (r : Run) (o : Opens) (from deep : ℕ) (t : List NodeRecord) → g.stop ≤ word_limit → length bytes - r.at < f
        → Leg n bytes (run_on f n bytes seeks g r o from deep t) (read_on f n bytes word_limit r o from deep t)

    Here : ReadTo → Type 0
    Here z = Leg n bytes z (read_on (suc f) n bytes word_limit r o from deep t)

    over : g.stop < r.covered → Here (run_on (suc f) n bytes seeks g r o from deep t)
    over c = subst⁻¹ Here (run_past f n bytes seeks g r o from deep t c) (record {
      halts = λ e. absurd (false≢true e);
      goes = λ _ j l. read_alike j (suc f) n bytes word_limit r o 0 0 from deep t l k;
    })

    on : Again → r.covered ≤ g.stop → (b : Bool) → (y n bytes r o t).went ≡ b → Here (run_on (suc f) n bytes seeks g r o from deep t)
    on again c true e =
        let i = y n bytes r o t in
        let w : r.covered ≤ word_limit = omega (arith, c, h) in
        let v = goal_to seeks (u n bytes r o t) g o.depth (low_of o) i in
        subst⁻¹ Here (run-goes f n bytes seeks g r o from deep t i (u n bytes r o t) (made n bytes r o t) c e)
        (subst⁻¹ (Leg n bytes (run_on f n bytes seeks v i.run (opens_to o i.depth i.low) r.covered o.depth (u n bytes r o t)))
        (read_goes f n bytes word_limit r o from deep t i (u n bytes r o t) (made n bytes r o t) w e)
        (again v i.run (opens_to o i.depth i.low) r.covered o.depth (u n bytes r o t)
        (goal-fits (u n bytes r o t) g o.depth (low_of o) i seeks h) (omega (arith, moves n bytes r o t e, k))))
    on again c false e =
        let i = y n bytes r o t in
        let w : r.covered ≤ word_limit = omega (arith, c, h) in
        subst⁻¹ Here (run-halts f n bytes seeks g r o from deep t i (u n bytes r o t) (made n bytes r o t) c e) (record {
          halts = λ _. sym (ap bare (read-halts f n bytes word_limit r o from deep t i (u n bytes r o t) (made n bytes r o t) w e));
          goes = λ e. absurd (true≢false e);
        })
