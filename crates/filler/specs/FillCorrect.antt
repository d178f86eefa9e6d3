-- Filling a truth table node by node, from what the loop reaches. Assumes nothing.
use Rattle.std.specs.Prelude.{◌≡◌, ℕ, suc, ◌+◌, ◌-◌, ◌/◌, ◌^◌, ◌<◌, ◌≤◌, Bool, true, false, cond, List, [], length, replicate, ◌≢◌}
use Rattle.std.proofs.Math.Path.{refl, sym, ap, ap₂}
use Rattle.std.proofs.Common.{◌∙◌, subst, arith, pow_mono}
use Rattle.std.proofs.Math.Option.{none}
use borrow.Author.Tests.{lt-ltb, le-ltb, eq-eqb, ne_eqb}
use Rattle.theory_lists.specs.Lists.{differ}
use Rattle.theory_reading.specs.Limits.{option_limit, open_limit, table_limit, truth_table_least, truth_table_most, truth_limit}
use Rattle.theory_reading.specs.LimitLaws.{truth-bytes, is_truth_count}
use Rattle.theory_reading.specs.Nodes.{Node, child}
use Rattle.theory_reading.specs.Reading.{State, Reading, reading}
use Rattle.theory_reading.specs.Deciding.{Trace, trace_on, trace}
use Rattle.theory_reading.specs.Causes as C
use Rattle.theory_reading.specs.Calls as R
use Rattle.theory_reading.specs.Calls.{bytes_from}
use Rattle.theory_reading.specs.Covered.{parity}
use Rattle.theory_reading.proofs.Settled.{never-some}
use Rattle.theory_reading.proofs.Passing.{start_trace}
use Rattle.theory_reading.proofs.Filling.{put_node}
use Rattle.theory_reading.proofs.Reaching.{At, at-fault, at-end, at-end-trace, at-within, at_most, filled-first, filled-alike, filled_on}
use Rattle.elements.specs.Abstraction.{ref_of, cause_of, inside_open, open_list}
use Rattle.node_records.specs.Records.{no_record}
use Rattle.work_table.specs.TableLaws.{table_of}
use Rattle.reader.specs.Simulation.{child-of}
use Rattle.reader.specs.Advance.{state_at, HaltsAt}
use Rattle.cursors.specs.Cursors.{first_run}
use Rattle.reader.specs.Loop.{first_opens, Stands, stands-first, stands-covered, PassedLast, Ends, ReachedBy}
use Rattle.filler.specs.Truths.{put_node_in}
use Rattle.filler.specs.TruthLaws.{put-truths}
use Rattle.checker.specs.CheckCorrect.{late_of, Reads, unless-read, table-after}
use Rattle.blocks.specs.Blocks.{edge_at}
use Rattle.cursors.specs.Cursors.{start_cursor}
use Rattle.reader.specs.ReadOn.{read_from, read-called}
use Rattle.blocks.specs.BlockLaws.{passed-from, passed-covers}
use Rattle.node_records.specs.declared.Edge.{Edge}
use Rattle.cursors.specs.declared.Cursor.{Cursor}
use Rattle.elements.specs.declared.Opens.{Opens}
use Rattle.cursors.specs.declared.Run.{Run}
use Rattle.reader.specs.OpenNodes.{ReadReached, opens_in}
use Rattle.node_records.specs.declared.NodeRecord.{NodeRecord}

-- What filling keeps: the truth table has the words that are covered where the loop stands.
pub record FilledTo (n : ℕ) (bytes : List ℕ) (r : Run) (o : Opens) (t : List NodeRecord) (v : List ℕ) : Type 0 where
  pub stands : Stands n bytes r o t
  pub words : v ≡ bytes_from (2 ^ n / 8) n (trace_on stands.steps n bytes start_trace) 0

-- At the start it is all zero.
filled-start : (n : ℕ) (bytes : List ℕ) (t : List NodeRecord) (v : List ℕ) → table_limit ≤ length t → v ≡ replicate (2 ^ n / 8) 0
    → FilledTo n bytes first_run first_opens t v
unfolding stands-first
filled-start n bytes t v room e = record { stands = stands-first n bytes t room; words = e ∙ sym (filled-first n bytes (2 ^ n / 8)) }

-- So for code that begins there.
pub filled-begun : (n : ℕ) (bytes : List ℕ) (t : List NodeRecord) (v : List ℕ) (c : Cursor) → table_limit ≤ length t → v ≡ replicate (2 ^ n / 8) 0 → c
    ≡ start_cursor
    → FilledTo n bytes c.run (opens_in (replicate open_limit inside_open) c.depth) t v
filled-begun n bytes t v c room e ce =
    subst (λ (c : Cursor). FilledTo n bytes c.run (opens_in (replicate open_limit inside_open) c.depth) t v) (sym ce)
    (filled-start n bytes t v room e)

-- x: what the loop reaches from where r stands, with r's covered count as its stop
module _ (n : ℕ) (bytes : List ℕ) (r : Run) (o : Opens) (t : List NodeRecord) (v : List ℕ) (h : FilledTo n bytes r o t v) (few : n ≤ option_limit)
    (x : ReadReached) (u : List NodeRecord) (called : record { reached = x; table = u }
    ≡ read_from n bytes r.covered (record { run = r; opens = o }) t) where
  reached : ReachedBy n bytes r.covered x u
  reached = read-called n bytes few r.covered (stands-covered n bytes few r o t h.stands) (record { run = r; opens = o }) t h.stands
      (omega arith) x u called

  abbrev s : State
  s = state_at r o t

  abbrev s' : State
  s' = state_at x.run x.opens u

  abbrev filled : ℕ → List ℕ
  filled f = bytes_from (2 ^ n / 8) n (trace_on f n bytes start_trace) 0

  here : At n bytes h.stands.steps s
  here = h.stands.here

  there : At n bytes reached.stands.steps s'
  there = reached.stands.here

  -- Where reading halts without a fault, the truth table is the stream's.
  pub words-whole : x.halted ≡ true → (reading n bytes).fault ≡ none → v ≡ bytes_from (2 ^ n / 8) n (trace n bytes) 0
  words-whole e clean = let k = subst (Ends n bytes r.covered x u reached.stands.steps) e reached.ends in go x.faulty k.0 k.1
    where
      go : (b : Bool) → x.run.covered ≤ r.covered → HaltsAt n bytes s' b x.cause x.byte → v ≡ bytes_from (2 ^ n / 8) n (trace n bytes) 0
      go true l k = never-some (record { cause = cause_of x.cause; byte = x.byte })
          (sym clean ∙ ap (λ (y : Reading). y.fault) (at-fault n bytes reached.stands.steps s' (cause_of x.cause) x.byte there k))
      go false l k =
          let most : r.covered ≤ x.run.covered = at_most n bytes h.stands.steps s s' here (at-end n bytes reached.stands.steps s' there k)
          in
          h.words
          ∙ filled-alike n bytes h.stands.steps reached.stands.steps s s' here there (omega (arith, l, most)) (2 ^ n / 8)
          ∙ ap (λ (y : Trace). bytes_from (2 ^ n / 8) n y 0) (sym (at-end-trace n bytes reached.stands.steps s' there k))

  module _ (halts : x.halted ≡ false) where
    past : (r.covered < x.run.covered) × PassedLast n bytes x.run.context reached.stands.steps r.covered x.from x.deep
    past = subst (Ends n bytes r.covered x u reached.stands.steps) halts reached.ends

    abbrev p : PassedLast n bytes x.run.context reached.stands.steps r.covered x.from x.deep
    p = past.1

    there-last : At n bytes (suc p.before) s'
    there-last = subst (λ (f : ℕ). At n bytes f s') p.last there

    -- The words that are passed fit. m: the options below
    pub words-fit : (m : ℕ) → n ≤ truth_table_most → m ≡ n - x.deep → (m ≤ truth_table_most)
        × ((x.deep + 1 + m ≤ open_limit + option_limit) × (x.from + 2 ^ m ≤ truth_limit))
    words-fit m few e =
        let b : x.from + 2 ^ m ≡ x.run.covered = sym (passed-covers n bytes r.covered x u reached halts
        ∙ ap (λ (d : ℕ). x.from + 2 ^ d) (sym e)) in (
          omega (arith, few, e),
          (
            omega (arith, few, e, p.shallow),
            omega
                (arith, b, at-within n bytes reached.stands.steps s' there, pow_mono {i = n} {j = truth_table_most} few),
          ),
        )

    pub words-shallow : x.deep ≤ open_limit
    words-shallow = p.shallow

    -- the node that is passed fills its words
    words_more : (w : List ℕ) → truth_table_least ≤ n → w ≡ put_node_in (n - x.deep) (table_of u x.run.size) (x.deep + 1) (edge_at x).number
        (edge_at x).complement x.from v → FilledTo n bytes x.run x.opens u w
    words_more w three k = record {
      stands = reached.stands;
      words = k
          ∙ ap (put_node_in (n - x.deep) (table_of u x.run.size) (x.deep + 1) (edge_at x).number (edge_at x).complement x.from) before-words
          ∙ put-truths (n - x.deep) (table_of u x.run.size) (x.deep + 1) (edge_at x).number (edge_at x).complement x.from (2 ^ n / 8) n
          (trace_on p.before n bytes start_trace) (trace_on reached.stands.steps n bytes start_trace) after-words;
    }
      where
        before-words : v ≡ filled p.before
        before-words = h.words ∙ filled-alike n bytes h.stands.steps p.before s p.state here p.here
            (sym (p.covered ∙ passed-from n bytes r o t h.stands x u reached halts)) (2 ^ n / 8)

        N : List Node → ℕ → ℕ → ℕ → List ℕ
        N tb d a i = put_node (n - d) tb (d + 1) a (differ (parity (open_list x.opens)) x.run.complement) i (filled p.before)

        after-words : filled reached.stands.steps ≡ N (table_of u x.run.size) x.deep x.run.last.number x.from
        after-words =
            ap filled p.last
            ∙ filled_on n bytes p.before p.state s' p.here there-last (omega (arith, p.covered, p.low, past.0))
            (omega (arith, three, truth-bytes))
            ∙ ap (λ (b : Bool). N (cond b [] (table_of u x.run.size)) (length p.state.place.opens) (child (ref_of x.run.last))
            p.state.covered) p.later
            ∙ ap₂ (λ (d i : ℕ). N (table_of u x.run.size) d (child (ref_of x.run.last)) i) p.depth p.covered
            ∙ ap (λ (a : ℕ). N (table_of u x.run.size) x.deep a x.from) (sym (child-of x.run.last))

    -- THE NODE THAT IS PASSED fills its words: what code has for the options below it, its edge and the truth table after.
    pub words-iteration : (m : ℕ) (e : Edge) (w : List ℕ) → truth_table_least ≤ n → m ≡ n - x.deep → e ≡ edge_at x
        → w ≡ put_node_in m (table_of u x.run.size) (x.deep + 1) e.number e.complement x.from v → FilledTo n bytes x.run x.opens u w
    words-iteration m e w three me ee k =
        words_more w three (k ∙ ap₂ (λ (i : ℕ) (a : Edge). put_node_in i (table_of u x.run.size) (x.deep + 1) a.number a.complement x.from
        v) me ee)

    -- More words are covered.
    pub words-less : 2 ^ n - x.run.covered < 2 ^ n - r.covered
    words-less = omega (arith, past.0, at-within n bytes reached.stands.steps s' there)

-- ---- The call --------------------------------------------------------------------------------

abbrev pub filled_by : ReadReached → C.Result ℕ
filled_by r = cond r.faulty (C.refused (late_of r)) (C.done r.run.covered)

module _ (n : ℕ) (bytes old : List ℕ) (t : List NodeRecord) where
  pub fill-options : (a : C.Result ℕ) → is_truth_count n ≡ false → a ≡ C.refused (C.refusal C.option_count 0 0)
      → record { answer = a; table = t; truths = old } ≡ R.fill no_record n bytes old t
  unfolding R.fill R.fill_answer C.gate C.table_after C.unless_refused
  fill-options a h e = rw (e, h) refl

  pub fill-table : (a : C.Result ℕ) → is_truth_count n ≡ true → length t < table_limit → a ≡ C.refused (C.refusal C.work_table 0 0)
      → record { answer = a; table = t; truths = old } ≡ R.fill no_record n bytes old t
  unfolding R.fill R.fill_answer C.gate C.table_after C.unless_refused
  fill-table a few h e = rw (e, few, lt-ltb (length t) table_limit h) refl

  pub fill-length : (a : C.Result ℕ) → is_truth_count n ≡ true → table_limit ≤ length t → (length old ≢ 2 ^ n / 8) → a
      ≡ C.refused (C.refusal C.truth_table 0 0) → record { answer = a; table = t; truths = old } ≡ R.fill no_record n bytes old t
  unfolding R.fill R.fill_answer C.gate C.table_after C.unless_refused
  fill-length a few room h e = rw (e, few, le-ltb (length t) table_limit room, ne_eqb (length old) (2 ^ n / 8) h) refl

  fill-answer : (r : ReadReached) (u : List NodeRecord) → is_truth_count n ≡ true → table_limit ≤ length t → length old ≡ 2 ^ n / 8 → Reads n bytes r u
      → R.fill_answer n bytes old (length t) ≡ filled_by r
  unfolding R.fill_answer C.gate
  fill-answer r u few room l h =
      rw (few, le-ltb (length t) table_limit room, eq-eqb (length old) (2 ^ n / 8) l)
      (unless-read n bytes r u h r.run.covered (λ (x : Reading). x.state.covered) refl)

  -- v: the truth table, as it was if there is a fault
  pub fill-correct : (a : C.Result ℕ) (z : List NodeRecord) (v : List ℕ) (r : ReadReached) (u : List NodeRecord) → is_truth_count n ≡ true
      → table_limit ≤ length t → length old ≡ 2 ^ n / 8 → Reads n bytes r u
      → a ≡ filled_by r → z ≡ C.cleared no_record t → v ≡ cond r.faulty old (R.bytes_from (2 ^ n / 8) n (trace n bytes) 0)
      → record { answer = a; table = z; truths = v } ≡ R.fill no_record n bytes old t
  unfolding R.fill C.unless_refused
  fill-correct a z v r u few room l h e k i =
      ap₂ (λ (b : C.Result ℕ) (y : List NodeRecord). record { answer = b; table = y; truths = v }) e
      (k ∙ sym (table-after n bytes r u h r.run.covered t))
      ∙ ap (λ (x : List ℕ). record { answer = filled_by r; table = C.table_after no_record (filled_by r) t; truths = x }) (i ∙ go r.faulty)
      ∙ sym (ap (λ (b : C.Result ℕ). record {
        answer = b;
        table = C.table_after no_record b t;
        truths = C.unless_refused b old
            (λ (c : ℕ). R.bytes_from (2 ^ n / 8) n (trace n bytes) 0);
      }) (fill-answer r u few room l h))
    where
      go : (b : Bool) → cond b old (R.bytes_from (2 ^ n / 8) n (trace n bytes) 0)
          ≡ C.unless_refused (cond b (C.refused (late_of r)) (C.done r.run.covered)) old (λ (c : ℕ). R.bytes_from (2 ^ n / 8) n (trace n bytes) 0)
      go true = refl
      go false = refl
