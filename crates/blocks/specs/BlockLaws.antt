-- The laws of reading block by block, for who combines streams: where a cursor stands as reading does, the next block begins at its covered
-- count, and every word of it is decided by the table. Assumes nothing.
use Rattle.std.specs.Prelude.{◌≡◌, refl, Bool, true, false, cond, List, [], ℕ, zero, suc, ◌+◌, ◌-◌, ◌*◌, ◌<◌, ◌≤◌, ◌^◌, length}
use Rattle.std.proofs.Common.{sym, ap₂, ◌∙◌, subst, ⊎_elim, arith, lt-ltb}
use Rattle.std.proofs.Math.Path.{ap}
use Rattle.std.proofs.Math.Option.{none}
use Rattle.theory_lists.specs.Lists.{decide-le}
use Rattle.theory_reading.specs.Limits.{option_limit, open_limit, table_limit}
use Rattle.theory_reading.specs.Nodes.{Node, node}
use Rattle.theory_reading.specs.Reading.{State, Reading, goes, level, is_start, advance, reading}
use Rattle.theory_reading.specs.Deciding.{Decision, undecided, decided, complemented, options, Trace, trace_on, trace, decision_of, decision}
use Rattle.theory_reading.specs.Calls.{Verdict, not_yet, is_no, is_yes, verdict_of, verdict}
use Rattle.theory_reading.proofs.Covered.{grown-on, grown-count, trace-covered}
use Rattle.theory_reading.specs.TableWalk.{table_walk}
use Rattle.theory_reading.proofs.TableWalk.{tied_on}
use Rattle.theory_reading.proofs.Passing.{start_trace}
use Rattle.theory_reading.proofs.Settled.{never-some, trace-onward}
use Rattle.theory_reading.proofs.Reaching.{At, at_next, at-fault, at-end, at-grows, at-passes}
use Rattle.theory_reading.proofs.Aligned.{Multiple, at_nested, at_aligned}
use Rattle.theory_reading.proofs.Lasting.{Lasts, Ordered, lasts-refl, lasts-trans, at-ordered, at-lasts, at-sits}
use Rattle.elements.specs.Abstraction.{context_of, cause_of}
use Rattle.reader.specs.Simulation.{child-of}
use Rattle.work_table.specs.TableLaws.{table_of}
use Rattle.reader.specs.Advance.{state_at, HaltsAt}
use Rattle.reader.specs.Loop.{Stands, stands-first, stands-covered, PassedLast, Ends, ReachedBy}
use Rattle.reader.specs.ReadOn.{first_cursor, ReadTo, read_all, read-reaches, read-within}
use Rattle.elements.specs.declared.Opens.{Opens}
use Rattle.cursors.specs.declared.Run.{Run}
use Rattle.reader.specs.OpenNodes.{ReadReached, ReadCursor}
use Rattle.blocks.specs.Blocks.{edge_at, ReadBlock, block_of, Next, next_of, next_block, word-passed}
use Rattle.node_records.specs.declared.NodeRecord.{NodeRecord}

-- ---- What a stream covers ----------------------------------------------------------------------

-- a stream covers what is covered after some steps
at_all : (n : ℕ) (bytes : List ℕ) (f : ℕ) (s : State) → At n bytes f s → s.covered ≤ (trace n bytes).reading.state.covered
at_all n bytes f s h =
    let q = (tied_on f n bytes).good in
    omega (
      arith,
      grown-count n (trace_on f n bytes start_trace) _ q (grown-on (suc (length bytes)) n bytes (trace_on f n bytes start_trace) q),
      ap
          (λ (t : Trace). t.reading.state.covered) (trace-onward n bytes f),
      ap (λ (x : Reading). x.state.covered) h,
    )

pub stands-all : (n : ℕ) (bytes : List ℕ) (r : Run) (o : Opens) (t : List NodeRecord) → Stands n bytes r o t → r.covered ≤ (reading n bytes).state.covered
stands-all n bytes r o t h = omega (arith, at_all n bytes h.steps (state_at r o t) h.here, trace-covered n bytes)

-- ---- The table where code stands -------------------------------------------------------------

-- before the size is read it has no number, and the theory's table nothing
pub none-node : (t : List NodeRecord) (k : ℕ) → node (table_of t 0) k ≡ node [] k
none-node t zero = refl
none-node t (suc k) = refl

none-lasts : (t : List NodeRecord) → Lasts [] (table_of t 0)
none-lasts t = record {
  more = λ k. omega (arith, ap (λ (x : Node). x.stamp) (none-node t k));
  same = λ k e. none-node t k;
  child = λ k c e d. ap (λ (x : Node). x.stamp) (none-node t c);
}

-- so it is ordered
pub none-ordered : (t : List NodeRecord) → Ordered (table_of t 0)
none-ordered t k c l = absurd (omega (arith, l, ap (λ (x : Node). x.level) (none-node t k)))

module _ (n : ℕ) (bytes : List ℕ) (r : Run) (o : Opens) (t : List NodeRecord) (h : Stands n bytes r o t) where
  -- THE TABLE IS ORDERED wherever code stands,
  pub stands-ordered : Ordered (table_of t r.size)
  stands-ordered = go (is_start (context_of r.context)) refl
    where
      go : (b : Bool) → is_start (context_of r.context) ≡ b → Ordered (table_of t r.size)
      go true e = subst (λ (z : ℕ). Ordered (table_of t z)) (sym (h.kept.begin e)) (none-ordered t)
      go false e =
          subst (λ (b : Bool). Ordered (cond b [] (table_of t r.size))) e (at-ordered n bytes h.steps (state_at r o t) h.here)

  -- and has what the theory's table has.
  stands-lasts : Lasts (state_at r o t).table (table_of t r.size)
  stands-lasts = go (is_start (context_of r.context)) refl
    where
      go : (b : Bool) → is_start (context_of r.context) ≡ b → Lasts (cond b [] (table_of t r.size)) (table_of t r.size)
      go true e = subst (λ (z : ℕ). Lasts [] (table_of t z)) (sym (h.kept.begin e)) (none-lasts t)
      go false e = lasts-refl (table_of t r.size)

-- where reading has come to the end it stays there
at-stays : (n : ℕ) (bytes : List ℕ) (f : ℕ) (s : State) → advance n bytes s ≡ goes s → At n bytes f s → (j g : ℕ) → g ≡ j + f
    → At n bytes g s
at-stays n bytes f s e h zero g i = let k : f ≡ g = omega (arith, i) in subst (λ (g : ℕ). At n bytes g s) k h
at-stays n bytes f s e h (suc j) g i =
    let k : suc (j + f) ≡ g = omega (arith, i) in
    subst (λ (g : ℕ). At n bytes g s) k (at_next n bytes (j + f) s s (at-stays n bytes f s e h j (j + f) refl) e)

-- ---- What the loop passes --------------------------------------------------------------------

-- x: what the loop reaches with some stop
module _ (n : ℕ) (bytes : List ℕ) (stop : ℕ) (x : ReadReached) (u : List NodeRecord) (reached : ReachedBy n bytes stop x u) where
  abbrev s' : State
  s' = state_at x.run x.opens u

  there : At n bytes reached.stands.steps s'
  there = reached.stands.here

  module _ (e : x.halted ≡ false) where
    past : (stop < x.run.covered) × PassedLast n bytes x.run.context reached.stands.steps stop x.from x.deep
    past = subst (Ends n bytes stop x u reached.stands.steps) e reached.ends

    abbrev p : PassedLast n bytes x.run.context reached.stands.steps stop x.from x.deep
    p = past.1

    there-last : At n bytes (suc p.before) s'
    there-last = subst (λ (f : ℕ). At n bytes f s') p.last there

    -- What is passed has the stop among its words,
    pub passed-stop : (x.from ≤ stop) × (stop < x.run.covered)
    passed-stop = (p.low, past.0)

    -- those of a node inside so many open ones.
    pub passed-covers : x.run.covered ≡ x.from + 2 ^ (n - x.deep)
    passed-covers =
        at-passes n bytes p.before p.state s' p.here there-last (omega (arith, p.covered, p.low, past.0))
        ∙ ap₂ (λ (c d : ℕ). c + 2 ^ (n - d)) p.covered p.depth

    pub passed-shallow : x.deep ≤ open_limit
    passed-shallow = p.shallow

    -- No more nodes are open than there are options,
    pub passed-nested : x.deep ≤ n
    passed-nested = subst (λ (d : ℕ). d ≤ n) p.depth (at_nested n bytes p.before p.state p.here)

    -- and it begins after some nodes of as many words.
    passed-aligned : Multiple (n - x.deep) x.from
    passed-aligned =
        subst (λ (d : ℕ). Multiple (n - d) x.from) p.depth
        (subst (Multiple (n - length p.state.place.opens)) p.covered (at_aligned n bytes p.before p.state p.here))

    passed_later : is_start (context_of x.run.context) ≡ false
    passed_later = p.later

    -- The table after it is ordered,
    pub passed-ordered : Ordered (table_of u x.run.size)
    passed-ordered =
        subst (λ (b : Bool). Ordered (cond b [] (table_of u x.run.size))) p.later
        (at-ordered n bytes reached.stands.steps s' there)

    -- the number that stands for it lies no higher than it,
    pub passed-sits : 0 < x.run.last.number → x.deep + 1 ≤ (node (table_of u x.run.size) x.run.last.number).level
    passed-sits =
        subst (λ (d : ℕ). 0 < x.run.last.number → d + 1 ≤ (node (table_of u x.run.size) x.run.last.number).level) p.depth
        (subst (λ (b : Bool). 0 < x.run.last.number → level p.state.place
        ≤ (node (cond b [] (table_of u x.run.size)) x.run.last.number).level) p.later
        (subst (λ (k : ℕ). 0 < k → level p.state.place ≤ (node s'.table k).level) (sym (child-of x.run.last))
        (at-sits n bytes p.before p.state s' p.here there-last (omega (arith, p.covered, p.low, past.0)))))

    -- and the loop reaches as much with any word of it as its stop.
    pub passed-word : (w : ℕ) → x.from ≤ w → w < x.run.covered → ReachedBy n bytes w x u
    passed-word w l k = record {
      stands = reached.stands;
      ends = subst (Ends n bytes w x u reached.stands.steps) (sym e) (
        k,
        record {
          before = p.before;
          last = p.last;
          state = p.state;
          here = p.here;
          covered = p.covered;
          low = l;
          depth = p.depth;
          shallow = p.shallow;
          later = p.later;
        },
      );
    }

  -- Where it halts without a fault, all is covered that the stream covers.
  pub halted-all : x.halted ≡ true → (reading n bytes).fault ≡ none → (reading n bytes).state.covered ≡ x.run.covered
  halted-all e clean = let k = subst (Ends n bytes stop x u reached.stands.steps) e reached.ends in go x.faulty k.1
    where
      go : (b : Bool) → HaltsAt n bytes s' b x.cause x.byte → (reading n bytes).state.covered ≡ x.run.covered
      go true k = never-some (record { cause = cause_of x.cause; byte = x.byte })
          (sym clean ∙ ap (λ (y : Reading). y.fault) (at-fault n bytes reached.stands.steps s' (cause_of x.cause) x.byte there k))
      go false k = ap (λ (y : Reading). y.state.covered) (at-end n bytes reached.stands.steps s' there k)

-- x: what the loop reaches from where r stands, with r's covered count as its stop
module _ (n : ℕ) (bytes : List ℕ) (r : Run) (o : Opens) (t : List NodeRecord) (h : Stands n bytes r o t) (x : ReadReached) (u : List NodeRecord)
    (reached : ReachedBy n bytes r.covered x u) where
  abbrev s : State
  s = state_at r o t

  abbrev after : State
  after = state_at x.run x.opens u

  module _ (e : x.halted ≡ false) where
    abbrev last : PassedLast n bytes x.run.context reached.stands.steps r.covered x.from x.deep
    last = (past n bytes r.covered x u reached e).1

    -- What is passed begins at the covered count,
    pub passed-from : x.from ≡ r.covered
    passed-from = ⊎_elim
        (λ (l : h.steps ≤ last.before). omega
        (arith, last.low, last.covered, at-grows n bytes h.steps last.before s last.state l h.here last.here))
        (λ (l : last.before < h.steps). absurd (omega (
          arith,
          (past n bytes r.covered x u reached e).0,
          at-grows n bytes (suc last.before) h.steps after s (omega (arith, l)) (there-last n bytes r.covered x u reached e)
              h.here,
        )))
        (decide-le h.steps last.before)

    -- and the table lasts from where r stands, if it has one.
    passed_lasts : is_start (context_of r.context) ≡ false → Lasts (table_of t r.size) (table_of u x.run.size)
    passed_lasts later =
        subst (λ (b : Bool). Lasts (table_of t r.size) (cond b [] (table_of u x.run.size))) last.later
        (subst (λ (b : Bool). Lasts (cond b [] (table_of t r.size)) after.table) later (⊎_elim
        (λ (l : h.steps ≤ reached.stands.steps). at-lasts n bytes h.steps reached.stands.steps s after l h.here reached.stands.here)
        (λ (l : reached.stands.steps < h.steps).
        absurd (omega (
          arith,
          (past n bytes r.covered x u reached e).0,
          at-grows n bytes reached.stands.steps h.steps after s (omega (arith, l)) reached.stands.here h.here,
        )))
        (decide-le h.steps reached.stands.steps)))

  -- Where it halts without a fault, no more words are covered.
  pub halted-covers : x.halted ≡ true → (reading n bytes).fault ≡ none → (reading n bytes).state.covered ≡ r.covered
  halted-covers e clean =
      let k = subst (Ends n bytes r.covered x u reached.stands.steps) e reached.ends in
      let i = halted-all n bytes r.covered x u reached e clean in
      omega (arith, i, k.0, stands-all n bytes r o t h)

  -- And the table lasts till then, if r has one.
  halted-lasts : x.halted ≡ true → (reading n bytes).fault ≡ none → is_start (context_of r.context) ≡ false
      → Lasts (table_of t r.size) (table_of u x.run.size)
  halted-lasts e clean later =
      let k = subst (Ends n bytes r.covered x u reached.stands.steps) e reached.ends in go x.faulty k.1
    where
      go : (b : Bool) → HaltsAt n bytes after b x.cause x.byte → Lasts (table_of t r.size) (table_of u x.run.size)
      go true k = never-some (record { cause = cause_of x.cause; byte = x.byte })
          (sym clean ∙ ap (λ (y : Reading). y.fault) (at-fault n bytes reached.stands.steps after (cause_of x.cause) x.byte
          reached.stands.here k))
      go false k =
          lasts-trans (table_of t r.size) after.table (table_of u x.run.size)
          (subst (λ (b : Bool). Lasts (cond b [] (table_of t r.size)) after.table) later
          (at-lasts n bytes h.steps (h.steps + reached.stands.steps) s after (omega arith) h.here
          (at-stays n bytes reached.stands.steps after k reached.stands.here h.steps (h.steps + reached.stands.steps) refl)))
          (stands-lasts n bytes x.run x.opens u reached.stands)

-- ---- A word's decision -----------------------------------------------------------------------

-- a verdict's decision
abbrev decision_in : Verdict → Decision
decision_in not_yet = undecided
decision_in is_no = decided false
decision_in is_yes = decided true

decision-back : (d : Decision) → decision_in (verdict_of d) ≡ d
decision-back undecided = refl
decision-back (decided false) = refl
decision-back (decided true) = refl

verdict-decision : (n : ℕ) (bytes : List ℕ) (w : ℕ) (d : Decision) → w < (trace n bytes).reading.state.covered → verdict n (trace n bytes) w
    ≡ verdict_of d → decision n bytes w ≡ d
unfolding decision
verdict-decision n bytes w d l e =
    let v : verdict_of (decision_of n (trace n bytes) w) ≡ verdict_of d = rw (lt-ltb w (trace n bytes).reading.state.covered l) at e in
    sym (decision-back (decision_of n (trace n bytes) w)) ∙ ap decision_in v ∙ decision-back d

-- EVERY WORD THAT IS PASSED is decided by the table.
pub passed-decides : (n : ℕ) (bytes : List ℕ) (stop : ℕ) (x : ReadReached) (u : List NodeRecord) → ReachedBy n bytes stop x u → x.halted ≡ false
    → (w : ℕ) → x.from ≤ w → w < x.run.covered
    → decision n bytes w ≡ complemented (edge_at x).complement (table_walk (table_of u x.run.size) (x.deep + 1) (edge_at x).number
    (options (n - x.deep) (w - x.from)))
passed-decides n bytes stop x u reached e w l k =
    verdict-decision n bytes w _
    (omega (arith, k, at_all n bytes reached.stands.steps (state_at x.run x.opens u) reached.stands.here))
    (word-passed n bytes w x u (passed-word n bytes stop x u reached e w l k) e)

-- ---- The next block --------------------------------------------------------------------------

-- A cursor stands where reading does.
abbrev pub StandsAt : ℕ → List ℕ → ReadCursor → List NodeRecord → Type 0
StandsAt n bytes c t = Stands n bytes c.run c.opens t

-- So the first one, whatever the table holds.
pub first-stands : (n : ℕ) (bytes : List ℕ) (t : List NodeRecord) → table_limit ≤ length t → StandsAt n bytes first_cursor t
first-stands n bytes t h = stands-first n bytes t h

-- It covers no more words than the stream does.
pub stands_read : (n : ℕ) (bytes : List ℕ) (c : ReadCursor) (t : List NodeRecord) → StandsAt n bytes c t
    → c.run.covered ≤ (reading n bytes).state.covered
stands_read n bytes c t h = stands-all n bytes c.run c.opens t h

-- b, u: the next block of a cursor that stands where reading does, and the table after it
module _ (n : ℕ) (bytes : List ℕ) (few : n ≤ option_limit) (c : ReadCursor) (t : List NodeRecord) (h : StandsAt n bytes c t) (b : ReadBlock)
    (u : List NodeRecord) (called : record { block = b; table = u } ≡ next_block n bytes c t) where
  abbrev z : ReadTo
  z = read_all n bytes c.run.covered c.run c.opens t

  same : record { block = b; table = u } ≡ next_of z
  unfolding next_block
  same = called ∙ ap next_of (read-within n bytes few c.run.covered (stands-covered n bytes few c.run c.opens t h) c t h)

  same_block : b ≡ block_of z.reached
  same_block = ap (λ (y : Next). y.block) same

  reached : ReachedBy n bytes c.run.covered z.reached z.table
  reached = read-reaches n bytes few c.run.covered c.run c.opens t h (omega arith)

  -- The cursor after it stands where reading does,
  pub next-stands : StandsAt n bytes b.cursor u
  next-stands = subst (λ (y : Next). StandsAt n bytes y.block.cursor y.table) (sym same) reached.stands

  -- its table is ordered,
  pub block-ordered : Ordered (table_of u b.cursor.run.size)
  block-ordered = stands-ordered n bytes b.cursor.run b.cursor.opens u next-stands

  module _ (e : b.halted ≡ false) where
    on : z.reached.halted ≡ false
    on = sym (ap (λ (y : ReadBlock). y.halted) same_block) ∙ e

    -- the block begins at the covered count,
    pub block-from : b.from ≡ c.run.covered
    block-from = ap (λ (y : ReadBlock). y.from) same_block ∙ passed-from n bytes c.run c.opens t h z.reached z.table reached on

    -- has the words of a node inside so many open ones,
    pub block-covers : b.cursor.run.covered ≡ b.from + 2 ^ (n - b.deep)
    block-covers = subst (λ (y : ReadBlock). y.cursor.run.covered ≡ y.from + 2 ^ (n - y.deep)) (sym same_block)
        (passed-covers n bytes c.run.covered z.reached z.table reached on)

    -- no more than there are options,
    pub block-deep : b.deep ≤ n
    block-deep =
        subst (λ (y : ReadBlock). y.deep ≤ n) (sym same_block)
        (passed-nested n bytes c.run.covered z.reached z.table reached on)

    -- after some nodes of as many words,
    pub block-aligned : (k : ℕ) × (b.from ≡ k * 2 ^ (n - b.deep))
    block-aligned =
        subst (λ (y : ReadBlock). Multiple (n - y.deep) y.from) (sym same_block)
        (passed-aligned n bytes c.run.covered z.reached z.table reached on)

    -- The cursor after it has a table, which lasts from the cursor before, if that has one;
    pub block-later : is_start (context_of b.cursor.run.context) ≡ false
    block-later =
        subst (λ (y : ReadBlock). is_start (context_of y.cursor.run.context) ≡ false) (sym same_block)
        (passed_later n bytes c.run.covered z.reached z.table reached on)

    pub block-lasts : is_start (context_of c.run.context) ≡ false → Lasts (table_of t c.run.size) (table_of u b.cursor.run.size)
    block-lasts later =
        subst (λ (y : Next). Lasts (table_of t c.run.size) (table_of y.table y.block.cursor.run.size)) (sym same)
        (passed_lasts n bytes c.run c.opens t h z.reached z.table reached on later)

    -- the block's number lies no higher than the block,
    pub block-sits : 0 < b.number → b.deep + 1 ≤ (node (table_of u b.cursor.run.size) b.number).level
    block-sits =
        subst (λ (y : Next). 0 < y.block.number
        → y.block.deep + 1 ≤ (node (table_of y.table y.block.cursor.run.size) y.block.number).level) (sym same)
        (passed-sits n bytes c.run.covered z.reached z.table reached on)

    -- and EVERY WORD OF IT is decided by the table.
    pub block-decides : (w : ℕ) → b.from ≤ w → w < b.cursor.run.covered
        → decision n bytes w ≡ complemented b.complement (table_walk (table_of u b.cursor.run.size) (b.deep + 1) b.number
        (options (n - b.deep) (w - b.from)))
    block-decides w l k =
        subst (λ (y : Next). decision n bytes w ≡ complemented y.block.complement
        (table_walk (table_of y.table y.block.cursor.run.size) (y.block.deep + 1) y.block.number
        (options (n - y.block.deep) (w - y.block.from)))) (sym same)
        (passed-decides n bytes c.run.covered z.reached z.table reached on w (omega (arith, l, ap (λ (y : ReadBlock). y.from) same_block))
        (omega (arith, k, ap (λ (y : ReadBlock). y.cursor.run.covered) same_block)))

  -- Where no block is left of a stream without a fault, its words are covered,
  pub block_last : b.halted ≡ true → (reading n bytes).fault ≡ none → (reading n bytes).state.covered ≡ c.run.covered
  block_last e = halted-covers n bytes c.run c.opens t h z.reached z.table reached
      (sym (ap (λ (y : ReadBlock). y.halted) same_block) ∙ e)

  -- and the table lasts too.
  pub end-lasts : b.halted ≡ true → (reading n bytes).fault ≡ none → is_start (context_of c.run.context) ≡ false
      → Lasts (table_of t c.run.size) (table_of u b.cursor.run.size)
  end-lasts e clean later =
      subst (λ (y : Next). Lasts (table_of t c.run.size) (table_of y.table y.block.cursor.run.size)) (sym same)
      (halted-lasts n bytes c.run c.opens t h z.reached z.table reached
      (sym (ap (λ (y : ReadBlock). y.halted) same_block) ∙ e) clean later)
