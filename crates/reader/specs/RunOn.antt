-- The code's loop as a function, with fuel for its iterations. Reading on, its stop stays; searching on, the stop moves behind words of which none is
-- sought, and what the open nodes turn about is kept from iteration to iteration. Assumes nothing.
use Rattle.std.specs.Prelude.{◌≡◌, Bool, true, false, List, ℕ, zero, suc, ◌-◌, ◌<◌, ◌≤◌, ltb, eqb, length, Option, Some, None}
use Rattle.std.proofs.Math.Path.{refl, sym, ap}
use Rattle.std.proofs.Common.{◌∙◌, subst, arith, lt-ltb, le-ltb, ltb-false}
use Rattle.std.proofs.Math.Bool.{cond}
use Rattle.theory_lists.specs.Lists.{differ}
use Rattle.theory_reading.specs.Limits.{open_limit, word_limit}
use Rattle.elements.specs.declared.Cause.TheVariants.{WrongByte}
use Rattle.elements.specs.declared.Open.{Open}
use Rattle.elements.specs.declared.Opens.{Opens}
use Rattle.cursors.specs.declared.Run.{Run}
use Rattle.node_records.specs.Words.{some_yes}
use Rattle.node_records.specs.declared.Edge.{Edge}
use Rattle.node_records.specs.declared.NodeRecord.{NodeRecord}
use Rattle.work_table.specs.Table.{get_in}
use Rattle.reader.specs.declared.Goal.{Goal}
use Rattle.reader.specs.declared.Search.{Search}
use Rattle.reader.specs.Advance.{IterationView, low_of, nodes_to, opens_to, Iterates}
use Rattle.reader.specs.Iterating.{Iterated, iteration_in, iteration-in, iteration-ahead}
use Rattle.reader.specs.OpenNodes.{ReadCursor}
use Rattle.reader.specs.ReadOn.{ReadTo, halted_at, passed_at, read_on, read_all, read_from, off_by, resting_at}

-- ---- Definitions -----------------------------------------------------------------------------

-- the place is in the second child, and the edge to it is complemented
abbrev pub complement_in : Open → Bool
complement_in e = cond e.second e.complement false

-- whether an odd number of open nodes turns about, after an iteration y; p: before it; d, low: how many are open before it, and the innermost
abbrev pub parity_to : Bool → ℕ → Open → IterationView → Bool
parity_to p d low y = cond (eqb d 0) false (cond (ltb y.depth d) (differ (complement_in low) p)
    (differ (complement_in y.low) (differ (complement_in low) p)))

-- what ended last, turned about if p
abbrev pub last_edge : Run → Bool → Edge
last_edge r p = record { number = r.last.number; complement = differ p r.complement }

-- some word below what ended last, turned about if p, is yes
abbrev pub some_at : List NodeRecord → Run → Bool → Bool
some_at t r p = some_yes (get_in t r.size r.last.number) (last_edge r p)

-- the stop after an element, for a search: behind the words that it passed, if none of them is
abbrev pub stop_to : List NodeRecord → Run → ℕ → Bool → ℕ
stop_to t r stop p = cond (ltb stop r.covered) (cond (ltb word_limit r.covered) stop (cond (some_at t r p) stop r.covered)) stop

-- what the loop goes by beside its stop, if it seeks. odd: an odd number of open nodes turns about; noes: words that are no are sought, which are yes turned
-- about
pub record GoalView : Type 0 where
  pub stop : ℕ
  pub odd : Bool
  pub noes : Bool

-- as code has it
abbrev pub seeks_in : Option Search → Bool
seeks_in None = false
seeks_in (Some x) = true

abbrev odd_in : Option Search → Bool
odd_in None = false
odd_in (Some x) = x.odd

abbrev noes_in : Option Search → Bool
noes_in None = false
noes_in (Some x) = x.noes

abbrev pub goal_view : Goal → GoalView
goal_view g = record { stop = g.stop; odd = odd_in g.search; noes = noes_in g.search }

abbrev pub goal_of : ℕ → Bool → Bool → GoalView
goal_of stop odd noes = record { stop = stop; odd = odd; noes = noes }

-- the goal after an iteration y, with the lent table t after it
abbrev pub goal_to : Bool → List NodeRecord → GoalView → ℕ → Open → IterationView → GoalView
goal_to seeks t g d low y =
    cond seeks (goal_of (stop_to t y.run g.stop (differ g.noes (parity_to g.odd d low y))) (parity_to g.odd d low y) g.noes) g

-- the loop, at most so many iterations
unfoldable pub run_on : ℕ → ℕ → List ℕ → Bool → GoalView → Run → Opens → ℕ → ℕ → List NodeRecord → ReadTo
unfolding iteration_in
run_on zero n bytes seeks g r o from deep t = record { reached = halted_at r o from deep false WrongByte 0; table = t }
run_on (suc f) n bytes seeks g r o from deep t =
    let x = iteration_in n bytes r o.depth (low_of o) t in
    cond (ltb g.stop r.covered) (record { reached = passed_at r o from deep; table = t })
    (cond x.iteration.went (run_on f n bytes seeks (goal_to seeks x.table g o.depth (low_of o) x.iteration) x.iteration.run
    (opens_to o x.iteration.depth x.iteration.low) r.covered o.depth x.table)
    (record { reached = halted_at r o from deep x.iteration.faulty x.iteration.cause x.iteration.byte; table = x.table }))

-- with fuel for every byte: every iteration that goes on takes one
abbrev pub run_all : ℕ → List ℕ → Bool → GoalView → Run → Opens → List NodeRecord → ReadTo
run_all n bytes seeks g r o t = run_on (suc (length bytes)) n bytes seeks g r o 0 0 t

-- from a cursor; past the limits nothing is read
abbrev pub run_from : ℕ → List ℕ → Bool → GoalView → ReadCursor → List NodeRecord → ReadTo
run_from n bytes seeks g c t = cond (off_by n c.opens.depth g.stop) (record { reached = resting_at c; table = t })
    (run_all n bytes seeks g c.run c.opens t)

-- SEARCHING ON from a cursor, until words are passed of which some is yes or, if `noes`, some is no; past the limits nothing is read. odd: whether an odd
-- number of open nodes turns about
unfoldable pub search_from : ℕ → List ℕ → ReadCursor → Bool → Bool → List NodeRecord → ReadTo
unfolding run_on
search_from n bytes c odd noes t = cond (off_by n c.opens.depth c.run.covered) (record { reached = resting_at c; table = t })
    (run_all n bytes true (goal_of c.run.covered odd noes) c.run c.opens t)

-- ---- As code goes ----------------------------------------------------------------------------

-- The stop where no words were passed; and some, of which one may be yes.
module _ (t : List NodeRecord) (r : Run) (stop : ℕ) (p : Bool) where
  pub stop-none : r.covered ≤ stop → stop ≡ stop_to t r stop p
  stop-none h = rw (le-ltb stop r.covered h) refl

  pub stop-by : stop < r.covered → r.covered ≤ word_limit → (b : Bool) → some_at t r p ≡ b → cond b stop r.covered ≡ stop_to t r stop p
  stop-by h l b e = rw (lt-ltb stop r.covered h, le-ltb word_limit r.covered l, e) refl

  -- It fits if it did.
  stop-fits : stop ≤ word_limit → stop_to t r stop p ≤ word_limit
  stop-fits h = go (ltb stop r.covered) (ltb word_limit r.covered) refl (some_at t r p)
    where
      go : (a b : Bool) → ltb word_limit r.covered ≡ b → (c : Bool) → cond a (cond b stop (cond c stop r.covered)) stop ≤ word_limit
      go false b e c = h
      go true true e c = h
      go true false e true = h
      go true false e false = ltb-false word_limit r.covered e

-- The goal's stop fits if it did.
module _ (t : List NodeRecord) (g : GoalView) (d : ℕ) (low : Open) (y : IterationView) (seeks : Bool) where
  pub goal-fits : g.stop ≤ word_limit → (goal_to seeks t g d low y).stop ≤ word_limit
  goal-fits h = go seeks
    where
      go : (b : Bool) → (goal_to b t g d low y).stop ≤ word_limit
      go true = stop-fits t y.run g.stop (differ g.noes (parity_to g.odd d low y)) h
      go false = h

-- ---- Reading on ------------------------------------------------------------------------------

reads_on : (f n : ℕ) (bytes : List ℕ) (g : GoalView) (r : Run) (o : Opens) (from deep : ℕ) (t : List NodeRecord)
    → run_on f n bytes false g r o from deep t ≡ read_on f n bytes g.stop r o from deep t
unfolding run_on read_on
reads_on zero n bytes g r o from deep t = refl
reads_on (suc f) n bytes g r o from deep t =
    let x = iteration_in n bytes r o.depth (low_of o) t in
    ap (λ (z : ReadTo). cond (ltb g.stop r.covered) (record { reached = passed_at r o from deep; table = t })
    (cond x.iteration.went z
    (record { reached = halted_at r o from deep x.iteration.faulty x.iteration.cause x.iteration.byte; table = x.table })))
    (reads_on f n bytes g x.iteration.run (opens_to o x.iteration.depth x.iteration.low) r.covered o.depth x.table)

-- A loop that does not seek reads on to its stop.
pub reads_all : (n : ℕ) (bytes : List ℕ) (g : GoalView) (r : Run) (o : Opens) (t : List NodeRecord)
    → run_all n bytes false g r o t ≡ read_all n bytes g.stop r o t
reads_all n bytes g r o t = reads_on (suc (length bytes)) n bytes g r o 0 0 t

-- ---- One iteration more ----------------------------------------------------------------------

module _ (f n : ℕ) (bytes : List ℕ) (seeks : Bool) (g : GoalView) (r : Run) (o : Opens) (from deep : ℕ) (t : List NodeRecord) where
  -- past the stop it is done
  pub run_past : g.stop < r.covered → run_on (suc f) n bytes seeks g r o from deep t ≡ record { reached = passed_at r o from deep; table = t }
  unfolding run_on
  run_past h = rw (lt-ltb g.stop r.covered h) refl

  module _ (y : IterationView) (u : List NodeRecord) (made : Iterates n bytes r o.depth (low_of o) t y u) (l : r.covered ≤ g.stop) where
    abbrev iterated : Iterated → ReadTo
    iterated x =
        cond x.iteration.went (run_on f n bytes seeks (goal_to seeks x.table g o.depth (low_of o) x.iteration) x.iteration.run
        (opens_to o x.iteration.depth x.iteration.low) r.covered o.depth x.table)
        (record { reached = halted_at r o from deep x.iteration.faulty x.iteration.cause x.iteration.byte; table = x.table })

    run-iteration : run_on (suc f) n bytes seeks g r o from deep t ≡ iterated (iteration_in n bytes r o.depth (low_of o) t)
    unfolding run_on
    run-iteration = ap (λ (b : Bool). cond b (record { reached = passed_at r o from deep; table = t })
        (iterated (iteration_in n bytes r o.depth (low_of o) t))) (le-ltb g.stop r.covered l)

    abbrev by : Bool → ReadTo
    by b = cond b (run_on f n bytes seeks (goal_to seeks u g o.depth (low_of o) y) y.run (opens_to o y.depth y.low) r.covered o.depth u)
        (record { reached = halted_at r o from deep y.faulty y.cause y.byte; table = u })

    run-correct : (b : Bool) → y.went ≡ b → run_on (suc f) n bytes seeks g r o from deep t ≡ by b
    run-correct b e = run-iteration ∙ ap iterated (sym (iteration-in n bytes r o.depth (low_of o) t y u made)) ∙ ap by e

    -- an iteration that goes on
    pub run-goes : y.went ≡ true → run_on (suc f) n bytes seeks g r o from deep t
        ≡ run_on f n bytes seeks (goal_to seeks u g o.depth (low_of o) y) y.run (opens_to o y.depth y.low) r.covered o.depth u
    run-goes e = run-correct true e

    -- another halts
    pub run-halts : y.went ≡ false → run_on (suc f) n bytes seeks g r o from deep t
        ≡ record { reached = halted_at r o from deep y.faulty y.cause y.byte; table = u }
    run-halts e = run-correct false e

-- ---- The code's loop -------------------------------------------------------------------------

-- What the loop keeps, whatever the state: it leads to what the function comes to.
pub record Leads (z : ReadTo) (n : ℕ) (bytes : List ℕ) (seeks : Bool) (g : GoalView) (r : Run) (o : Opens) (from deep : ℕ) (t : List NodeRecord)
    : Type 0 where
  pub fuel : ℕ
  pub enough : length bytes - r.at < suc fuel
  pub same : run_on (suc fuel) n bytes seeks g r o from deep t ≡ z
  pub shallow : o.depth ≤ open_limit
  pub stops : g.stop ≤ word_limit

module _ (z : ReadTo) (n : ℕ) (bytes : List ℕ) (seeks : Bool) (g : GoalView) (r : Run) (o : Opens) (from deep : ℕ) (t : List NodeRecord)
    (h : Leads z n bytes seeks g r o from deep t) where
  -- Past its stop the loop is done.
  pub leads-past : g.stop < r.covered → record { reached = passed_at r o from deep; table = t } ≡ z
  leads-past l = sym (run_past h.fuel n bytes seeks g r o from deep t l) ∙ h.same

  -- low: the innermost entry, as code reads it
  module _ (l : r.covered ≤ g.stop) (low : Open) (lowest : low ≡ low_of o) (y : IterationView) (u : List NodeRecord)
      (made : Iterates n bytes r o.depth low t y u) where
    iterates-low : Iterates n bytes r o.depth (low_of o) t y u
    iterates-low = subst (λ (x : Open). Iterates n bytes r o.depth x t y u) lowest made

    -- It halts at an iteration that does not go on.
    pub leads-halts : y.went ≡ false → record { reached = halted_at r o from deep y.faulty y.cause y.byte; table = u } ≡ z
    leads-halts e = sym (run-halts h.fuel n bytes seeks g r o from deep t y u iterates-low l e) ∙ h.same

    module _ (e : y.went ≡ true) where
      ahead : (r.at < length bytes) × ((r.at < y.run.at) × (y.depth ≤ open_limit))
      ahead = iteration-ahead n bytes r o.depth (low_of o) t y u iterates-low e

      -- Another moves on in the bytes,
      pub leads-moves : length bytes - y.run.at < length bytes - r.at
      leads-moves = omega (arith, ahead.0, ahead.1.0)

      leads-on : (f : ℕ) → length bytes - r.at < suc f → run_on (suc f) n bytes seeks g r o from deep t ≡ z
          → Leads z n bytes seeks (goal_to seeks u g o.depth (low_of o) y) y.run (opens_to o y.depth y.low) r.covered o.depth u
      leads-on zero m k = absurd (omega (arith, m, ahead.0))
      leads-on (suc f) m k = record {
        fuel = f;
        enough = omega (arith, m, leads-moves);
        same = sym (run-goes (suc f) n bytes seeks g r o from deep t y u iterates-low l e) ∙ k;
        shallow = ahead.1.1;
        stops = goal-fits u g o.depth (low_of o) y seeks h.stops;
      }

      -- and leads on; ns: the entries, as code stores them, j: the goal, as it has it.
      pub leads_goes : (ns : List Open) → ns ≡ nodes_to o.nodes o.depth y.low → (j : GoalView) → j ≡ goal_to seeks u g o.depth low y
          → Leads z n bytes seeks j y.run (record { nodes = ns; depth = y.depth }) r.covered o.depth u
      leads_goes ns k j je =
          subst (λ (ns : List Open). Leads z n bytes seeks j y.run (record { nodes = ns; depth = y.depth }) r.covered o.depth u) (sym k)
          (subst (λ (j : GoalView). Leads z n bytes seeks j y.run (opens_to o y.depth y.low) r.covered o.depth u)
          (sym (je ∙ ap (λ (x : Open). goal_to seeks u g o.depth x y) lowest))
          (leads-on h.fuel h.enough h.same))

-- ---- From a cursor ---------------------------------------------------------------------------

module _ (n : ℕ) (bytes : List ℕ) (c : ReadCursor) (odd noes : Bool) (t : List NodeRecord) where
  abbrev choose : Bool → ReadTo
  choose b = cond b (record { reached = resting_at c; table = t }) (run_all n bytes true (goal_of c.run.covered odd noes) c.run c.opens t)

  -- Within the limits it is the loop.
  pub search-within : off_by n c.opens.depth c.run.covered ≡ false
      → search_from n bytes c odd noes t ≡ run_all n bytes true (goal_of c.run.covered odd noes) c.run c.opens t
  unfolding search_from
  search-within h = ap choose h

-- Reading on and searching on are the loop from a cursor, each with its goal.
pub reads_from : (n : ℕ) (bytes : List ℕ) (stop : ℕ) (c : ReadCursor) (t : List NodeRecord)
    → run_from n bytes false (goal_of stop false false) c t ≡ read_from n bytes stop c t
unfolding read_from
reads_from n bytes stop c t = ap (λ (z : ReadTo). cond (off_by n c.opens.depth stop) (record { reached = resting_at c; table = t }) z)
    (reads_all n bytes (goal_of stop false false) c.run c.opens t)

pub searches_from : (n : ℕ) (bytes : List ℕ) (c : ReadCursor) (odd noes : Bool) (t : List NodeRecord)
    → run_from n bytes true (goal_of c.run.covered odd noes) c t ≡ search_from n bytes c odd noes t
unfolding search_from
searches_from n bytes c odd noes t = refl
