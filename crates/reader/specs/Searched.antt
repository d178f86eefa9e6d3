-- What searching on reaches, where code stands as reading does: some word that the last element passed is sought, and none of those passed before; or
-- reading halts. Assumes nothing.
use Rattle.std.specs.Prelude.{◌≡◌, refl, Bool, true, false, List, ℕ, zero, suc, ◌-◌, ◌<◌, ◌≤◌, length}
use Rattle.std.proofs.Common.{sym, ap, ◌∙◌, subst, inl, ⊎_elim, true≢false, arith}
use Rattle.theory_lists.specs.Lists.{differ, decide-le}
use Rattle.theory_reading.specs.Limits.{option_limit, word_limit}
use Rattle.theory_reading.specs.Covered.{parity}
use Rattle.elements.specs.Abstraction.{open_list}
use Rattle.elements.specs.declared.Opens.{Opens}
use Rattle.cursors.specs.declared.Run.{Run}
use Rattle.node_records.specs.declared.NodeRecord.{NodeRecord}
use Rattle.reader.specs.Advance.{IterationView, low_of, opens_to, Iterates}
use Rattle.reader.specs.Iterating.{iteration_in, iteration-made}
use Rattle.reader.specs.OpenNodes.{ReadReached, ReadCursor}
use Rattle.reader.specs.Loop.{Stands, stands-covered, ReachedBy, Running, goes-here, grows-here, halts-here, ahead-here, loop-past}
use Rattle.reader.specs.ReadOn.{ReadTo, halted_at, passed_at, not-off}
use Rattle.reader.specs.OpenParity.{iteration-parity}
use Rattle.reader.specs.RunOn.{some_at, parity_to, stop_to, goal_of, run_on, search_from, stop-none, stop-by, run_past, run-goes, run-halts, search-within}

-- some word that the loop's last element passed is yes or, if `noes`, some is no, by the table u
abbrev pub some_last : Bool → ReadReached → List NodeRecord → Bool
some_last noes y u = some_at u y.run (differ noes (parity (open_list y.opens)))

-- noes: words that are no are sought. Free v: what is known of the words before v. It is known of the words behind those that the loop's last element
-- passed, if none of them is sought.
module _ (n : ℕ) (bytes : List ℕ) (few : n ≤ option_limit) (noes : Bool) (Free : ℕ → Type 0)
    (over : (y : ReadReached) (u : List NodeRecord) → ReachedBy n bytes y.from y u → y.halted ≡ false → some_last noes y u ≡ false → Free y.from
    → Free y.run.covered) where
  -- What the search reaches: `stop` is where it stands if it halts, and else where the words begin that the last element passed.
  pub record Searched (y : ReadReached) (u : List NodeRecord) : Type 0 where
    pub stop : ℕ
    pub reached : ReachedBy n bytes stop y u
    pub free : Free stop
    pub here : y.halted ≡ false → (stop ≡ y.from) × (some_last noes y u ≡ true)

  abbrev SearchedBy : ReadTo → Type 0
  SearchedBy z = Searched z.reached z.table

  -- What the loop keeps: it stands no further than its stop, or has just passed it with words of which some is sought.
  record Seeking (stop : ℕ) (p : Bool) (r : Run) (o : Opens) (from deep : ℕ) (t : List NodeRecord) : Type 0 where
    pub runs : Running n bytes stop r o from deep t
    pub low : stop ≤ r.covered
    pub turns : p ≡ parity (open_list o)
    pub free : Free stop
    pub here : stop < r.covered → (stop ≡ from) × (some_last noes (passed_at r o from deep) t ≡ true)

  -- after an iteration that goes on; y, u: what it comes to, and the table after it
  module _ (stop : ℕ) (p : Bool) (r : Run) (o : Opens) (from deep : ℕ) (t : List NodeRecord) (h : Seeking stop p r o from deep t)
      (y : IterationView) (u : List NodeRecord) (made : Iterates n bytes r o.depth (low_of o) t y u) (l : r.covered ≤ stop) (w : y.went ≡ true) where
    abbrev os : Opens
    os = opens_to o y.depth y.low

    abbrev q : Bool
    q = parity_to p o.depth (low_of o) y

    goes : Running n bytes stop y.run os r.covered o.depth u
    goes = goes-here n bytes few r o t h.runs.stands y u made w stop l

    grown : r.covered ≤ y.run.covered
    grown = grows-here n bytes few r o t h.runs.stands y u made w

    same : r.covered ≡ stop
    same = omega (arith, l, h.low)

    turned : q ≡ parity (open_list os)
    turned = ap (λ (b : Bool). parity_to b o.depth (low_of o) y) h.turns
        ∙ sym (iteration-parity n bytes r o t y u made w h.runs.stands.kept.nodes h.runs.stands.kept.deep goes.stands.kept.deep)

    -- what words are turned about by
    abbrev k : Bool
    k = differ noes q

    last : (b : Bool) → some_at u y.run k ≡ b → some_last noes (passed_at y.run os r.covered o.depth) u ≡ b
    last b e = ap (λ (p : Bool). some_at u y.run (differ noes p)) (sym turned) ∙ e

    -- no words were passed
    none : y.run.covered ≤ stop → Seeking stop q y.run os r.covered o.depth u
    none l = record { runs = goes; low = omega (arith, same, grown); turns = turned; free = h.free; here = λ m. absurd (omega (arith, l, m)) }

    -- some of them is sought
    some : some_at u y.run k ≡ true → Seeking stop q y.run os r.covered o.depth u
    some e = record { runs = goes; low = omega (arith, same, grown); turns = turned; free = h.free; here = λ _. (sym same, last true e) }

    -- none of them is
    past : stop < y.run.covered → some_at u y.run k ≡ false → Seeking y.run.covered q y.run os r.covered o.depth u
    past l e = record {
      runs = record { stands = goes.stands; past = inl (omega arith) };
      low = omega arith;
      turns = turned;
      free = over (passed_at y.run os r.covered o.depth) u
          (subst (λ (v : ℕ). ReachedBy n bytes v (passed_at y.run os r.covered o.depth) u) (sym same)
          (loop-past n bytes stop y.run os r.covered o.depth u goes l)) refl (last false e) (subst Free (sym same) h.free);
      here = λ m. absurd (omega (arith, m));
    }

    -- by what was passed
    next : Seeking (stop_to u y.run stop k) q y.run os r.covered o.depth u
    next = ⊎_elim
        (λ (l : y.run.covered ≤ stop). subst At' (stop-none u y.run stop k l) (none l))
        (λ (l : stop < y.run.covered). passed l (some_at u y.run k) refl)
        (decide-le y.run.covered stop)
      where
        At' : ℕ → Type 0
        At' v = Seeking v q y.run os r.covered o.depth u

        most : y.run.covered ≤ word_limit
        most = stands-covered n bytes few y.run os u goes.stands

        passed : stop < y.run.covered → (b : Bool) → some_at u y.run k ≡ b → At' (stop_to u y.run stop k)
        passed l true e = subst At' (stop-by u y.run stop k l most true e) (some e)
        passed l false e = subst At' (stop-by u y.run stop k l most false e) (past l e)

  -- with fuel for every byte that is left
  search-running : (f stop : ℕ) (p : Bool) (r : Run) (o : Opens) (from deep : ℕ) (t : List NodeRecord) → Seeking stop p r o from deep t
      → length bytes - r.at < f → SearchedBy (run_on f n bytes true (goal_of stop p noes) r o from deep t)
  search-running zero stop p r o from deep t h enough = absurd (omega (arith, enough))
  search-running (suc f) stop p r o from deep t h enough = ⊎_elim (λ l. on (λ a b c d e g i. search-running f a b c d e g i) l y.went refl) over'
      (decide-le r.covered stop)
    where
      Again : Type 0
      Again = (stop : ℕ) (p : Bool) (r : Run) (o : Opens) (from deep : ℕ) (t : List NodeRecord) → Seeking stop p r o from deep t
          → length bytes - r.at < f → SearchedBy (run_on f n bytes true (goal_of stop p noes) r o from deep t)

      over' : stop < r.covered → SearchedBy (run_on (suc f) n bytes true (goal_of stop p noes) r o from deep t)
      over' l = subst SearchedBy (sym (run_past f n bytes true (goal_of stop p noes) r o from deep t l)) (record {
        stop = stop;
        reached = loop-past n bytes stop r o from deep t h.runs l;
        free = h.free;
        here = λ _. h.here l;
      })

      y : IterationView
      y = (iteration_in n bytes r o.depth (low_of o) t).iteration

      u : List NodeRecord
      u = (iteration_in n bytes r o.depth (low_of o) t).table

      made : Iterates n bytes r o.depth (low_of o) t y u
      made = iteration-made n bytes r o.depth (low_of o) t

      on : Again → r.covered ≤ stop → (b : Bool) → y.went ≡ b → SearchedBy (run_on (suc f) n bytes true (goal_of stop p noes) r o from deep t)
      on again l true w =
          subst SearchedBy (sym (run-goes f n bytes true (goal_of stop p noes) r o from deep t y u made l w))
          (again _ _ y.run _ r.covered o.depth u (next stop p r o from deep t h y u made l w)
          (omega (arith, enough, ahead-here n bytes few r o t h.runs.stands y u made w)))
      on again l false w =
          let i = halts-here n bytes few r o t h.runs.stands y u made w in
          subst SearchedBy (sym (run-halts f n bytes true (goal_of stop p noes) r o from deep t y u made l w))
          (subst (λ (v : List NodeRecord). Searched (halted_at r o from deep y.faulty y.cause y.byte) v) (sym i.0) (record {
            stop = stop;
            reached = record { stands = h.runs.stands; ends = (l, i.1) };
            free = h.free;
            here = λ q. absurd (true≢false q);
          }))

  -- FROM A CURSOR that stands where reading does; y, u: what a call reaches, and the table after it.
  pub search-called : (c : ReadCursor) (p : Bool) (t : List NodeRecord) → Stands n bytes c.run c.opens t → p ≡ parity (open_list c.opens)
      → Free c.run.covered → (y : ReadReached) (u : List NodeRecord) → record { reached = y; table = u } ≡ search_from n bytes c p noes t → Searched y u
  search-called c p t h pe free y u e =
      let small : c.run.covered ≤ word_limit = stands-covered n bytes few c.run c.opens t h in
      subst SearchedBy (sym (e ∙ search-within n bytes c p noes t (not-off n c.opens.depth c.run.covered few h.kept.deep small)))
      (search-running (suc (length bytes)) c.run.covered p c.run c.opens 0 0 t (record {
        runs = record { stands = h; past = inl (omega arith) };
        low = omega arith;
        turns = pe;
        free = free;
        here = λ m. absurd (omega (arith, m));
      }) (omega arith))
