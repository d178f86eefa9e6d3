-- What the loop reaches is a state of the theory's reading. Assumes nothing.
use Rattle.std.specs.Prelude.{◌≡◌, refl, ◌⊎◌, Bool, true, false, List, ℕ, suc, ◌-◌, ◌<◌, ◌≤◌, length, replicate}
use Rattle.std.proofs.Common.{ap, ◌∙◌, inr, ⊎_elim, arith}
use Rattle.std.proofs.lemmas.List.{length-replicate}
use Rattle.theory_reading.specs.Limits.{option_limit, open_limit, table_limit, word_limit}
use Rattle.theory_reading.specs.Reading.{State, is_start}
use Rattle.theory_reading.proofs.Reaching.{At, at-start, at_next, at-covered, at-grows, at-stamp}
use Rattle.elements.specs.Abstraction.{context_of, inside_open, opens_of}
use Rattle.elements.specs.declared.Cause.TheVariants.{WrongByte}
use Rattle.elements.specs.declared.Open.{Open}
use Rattle.elements.specs.declared.Opens.{Opens}
use Rattle.elements.specs.declared.Context.{Context}
use Rattle.cursors.specs.Cursors.{first_run}
use Rattle.cursors.specs.declared.Run.{Run}
use Rattle.work_table.specs.Table.{get_in}
use Rattle.reader.specs.Advance.{IterationView, state_at, Kept, Young, taken_at, low_of, opens_to, Iterates, past, barred, out, fault, took, HaltsAt, Comes}
use Rattle.reader.specs.Advance.{iteration-went, iteration-halts, list_length, length-updated}
use Rattle.reader.specs.OpenNodes.{ReadReached}
use Rattle.node_records.specs.declared.NodeRecord.{NodeRecord}

-- ---- The first state -------------------------------------------------------------------------

abbrev pub first_opens : Opens
first_opens = record { nodes = replicate open_limit inside_open; depth = 0 }

-- Code stands where reading stands after some steps.
pub record Stands (n : ℕ) (bytes : List ℕ) (r : Run) (o : Opens) (t : List NodeRecord) : Type 0 where
  pub steps : ℕ
  pub here : At n bytes steps (state_at r o t)
  pub kept : Kept r o t

-- It stands so at the start, whatever the table holds.
unfoldable pub stands-first : (n : ℕ) (bytes : List ℕ) (t : List NodeRecord) → table_limit ≤ length t → Stands n bytes first_run first_opens t
unfolding opens_of
stands-first n bytes t h = record {
  steps = 0;
  here = at-start n bytes;
  kept = record {
    room = h;
    small = omega arith;
    held = record {
      room = omega arith;
      counts = λ k i l. absurd (i (omega (arith, l)));
      words = λ k i l m. absurd (i (omega (arith, l)));
    };
    nodes = length-replicate open_limit inside_open;
    deep = omega arith;
    begin = λ _. refl;
  };
}

-- ---- What is reached -------------------------------------------------------------------------

-- The last of the steps, which has come to the context m, passed the words from `from` on, inside `deep` open nodes.
pub record PassedLast (n : ℕ) (bytes : List ℕ) (m : Context) (steps stop from deep : ℕ) : Type 0 where
  pub before : ℕ
  pub last : steps ≡ suc before
  pub state : State
  pub here : At n bytes before state
  pub covered : state.covered ≡ from
  pub low : from ≤ stop
  pub depth : length state.place.opens ≡ deep
  pub shallow : deep ≤ open_limit
  pub later : is_start (context_of m) ≡ false

-- Past the stop the last step passed it; else reading halts.
abbrev pub Ends : (n : ℕ) (bytes : List ℕ) (stop : ℕ) (y : ReadReached) (u : List NodeRecord) → ℕ → Bool → Type 0
Ends n bytes stop y u steps true = (y.run.covered ≤ stop) × HaltsAt n bytes (state_at y.run y.opens u) y.faulty y.cause y.byte
Ends n bytes stop y u steps false = (stop < y.run.covered) × PassedLast n bytes y.run.context steps stop y.from y.deep

pub record ReachedBy (n : ℕ) (bytes : List ℕ) (stop : ℕ) (y : ReadReached) (u : List NodeRecord) : Type 0 where
  pub stands : Stands n bytes y.run y.opens u
  pub ends : Ends n bytes stop y u stands.steps y.halted

-- What the loop keeps: where it stands; and past the stop, the last step.
pub record Running (n : ℕ) (bytes : List ℕ) (stop : ℕ) (r : Run) (o : Opens) (from deep : ℕ) (t : List NodeRecord) : Type 0 where
  pub stands : Stands n bytes r o t
  pub past : (r.covered ≤ stop) ⊎ PassedLast n bytes r.context stands.steps stop from deep

module _ (n : ℕ) (bytes : List ℕ) (few : n ≤ option_limit) (r : Run) (o : Opens) (t : List NodeRecord) (h : Stands n bytes r o t) where
  young : Young r t
  young = at-stamp n bytes h.steps (state_at r o t) few h.here

  -- The covered count fits.
  pub stands-covered : r.covered ≤ word_limit
  stands-covered = at-covered n bytes h.steps (state_at r o t) few h.here

  -- the iteration's result y, with the lent table u
  module _ (y : IterationView) (u : List NodeRecord) (made : Iterates n bytes r o.depth (low_of o) t y u) where
    -- An iteration that does not go on halts, and lends nothing.
    pub halts-here : y.went ≡ false → (u ≡ t) × HaltsAt n bytes (state_at r o t) y.faulty y.cause y.byte
    halts-here = iteration-halts n bytes r o t h.kept young y u made

    went : y.went ≡ true → Comes n bytes r o t y u true
    went = iteration-went n bytes r o t h.kept young y u made

    -- An iteration that goes on is a step more, and passes what it passes inside the open nodes before it.
    pub goes-here : y.went ≡ true → (stop : ℕ) → r.covered ≤ stop → Running n bytes stop y.run (opens_to o y.depth y.low) r.covered
        o.depth u
    goes-here e stop l = record {
      stands = record {
        steps = suc h.steps;
        here = at_next n bytes h.steps (state_at r o t) (state_at y.run (opens_to o y.depth y.low) u) h.here (went e).0;
        kept = (went e).1.0;
      };
      past = inr (record {
        before = h.steps;
        last = refl;
        state = state_at r o t;
        here = h.here;
        covered = refl;
        low = l;
        depth = list_length o
            h.kept.deep;
        shallow = h.kept.deep;
        later = (went e).1.1.1.1;
      });
    }

    -- It covers no less.
    pub grows-here : y.went ≡ true → r.covered ≤ y.run.covered
    grows-here e =
        let s' = state_at y.run (opens_to o y.depth y.low) u in
        at-grows n bytes h.steps (suc h.steps) (state_at r o t) s' (omega arith) h.here
        (at_next n bytes h.steps (state_at r o t) s' h.here (went e).0)

    -- It moves on.
    pub ahead-here : y.went ≡ true → length bytes - y.run.at < length bytes - r.at
    ahead-here e = omega (arith, (went e).1.1.0, (went e).1.1.1.0)

-- ---- The ends of the loop ---------------------------------------------------------------------

-- An iteration keeps the length of the lent table.
pub iteration-length : (n : ℕ) (bytes : List ℕ) (r : Run) (d : ℕ) (low : Open) (t : List NodeRecord) (y : IterationView) (u : List NodeRecord)
    → Iterates n bytes r d low t y u → length u ≡ length t
iteration-length n bytes r d low t y u (past h e k) = ap length k
iteration-length n bytes r d low t y u (barred h e k) = ap length k
iteration-length n bytes r d low t y u (out h x seen i e k) = ap length k
iteration-length n bytes r d low t y u (fault h x seen a j i e k) = ap length k
iteration-length n bytes r d low t y u (took l h x seen el i e k) = ap length k
    ∙ length-updated r d x.number (get_in t r.size x.number) (taken_at n bytes r d low t x el) t

-- The loop is past its stop.
pub loop-past : (n : ℕ) (bytes : List ℕ) (stop : ℕ) (r : Run) (o : Opens) (from deep : ℕ) (t : List NodeRecord) → Running n bytes stop r o from deep t
    → stop < r.covered
    → ReachedBy n bytes stop (record { run = r; opens = o; from = from; deep = deep; halted = false; faulty = false; cause = WrongByte; byte = 0 }) t
loop-past n bytes stop r o from deep t h l = record {
  stands = h.stands;
  ends = (
    l,
    ⊎_elim (λ (k : r.covered ≤ stop). absurd (omega (arith, k, l)))
        (λ (k : PassedLast n bytes r.context h.stands.steps stop from deep). k) h.past,
  );
}
