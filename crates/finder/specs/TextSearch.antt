-- The search for a word of either value, in a stream or in the table of a whole one: what is answered for every input, and how code comes to it.
-- Assumes nothing.
use Rattle.std.specs.Prelude.{◌≡◌, Bool, true, false, cond, not, List, ℕ, min, ◌-◌, ◌<◌, ◌≤◌, ◌^◌, ltb, leb, length, max, Option, Some, None, unwrap_or, is_none}
use Rattle.std.proofs.Math.Path.{refl}
use Rattle.std.proofs.Common.{sym, ap, ap₂, ◌∙◌, subst, arith}
use borrow.Author.Tests.{lt-ltb, le-ltb, lt-leb, le-leb, ltb-true, ltb-false}
use Rattle.theory_reading.specs.Limits.{option_limit, table_limit}
use Rattle.theory_reading.specs.Nodes.{Node}
use Rattle.theory_reading.specs.Causes as C
use Rattle.theory_reading.specs.Reading.{Reading, reading}
use Rattle.theory_reading.specs.Deciding.{decided, decision}
use Rattle.theory_reading.specs.Covered.{covered}
use Rattle.theory_reading.proofs.Covered.{covered-decided, covered-most}
use Rattle.theory_reading.proofs.Lasting.{Ordered}
use Rattle.node_records.specs.Records.{no_record}
use Rattle.node_records.specs.declared.Edge.{Edge}
use Rattle.node_records.specs.declared.NodeRecord.{NodeRecord}
use Rattle.record_tables.specs.Entries.{clear_to}
use Rattle.work_table.specs.TableLaws.{table_of, table-node, Worded}
use Rattle.reader.specs.OpenNodes.{ReadReached}
use Rattle.reader.specs.Loop.{Ends}
use Rattle.checker.specs.CheckCorrect.{halted-reads}
use Rattle.blocks.specs.BlockLaws.{stands-all}
use Rattle.blocks.specs.Load.{LoadTo, load}
use Rattle.blocks.specs.LoadLaws.{load-shows, load-ordered, load-held, load-deep}
use Rattle.finder.specs.LeastDecided.{is_value, value-decided, least_decided, least-unique}
use Rattle.finder.specs.Search.{turned_edge, from_in}
use Rattle.finder.specs.SearchLaws.{Least, yes, Sits, from-yes, turned-sits, turned-yes}
use Rattle.finder.specs.Seeking.{Seeks, Finds}
use Rattle.finder.specs.FindCorrect.{seeks-cleared}

-- ---- Definitions -----------------------------------------------------------------------------

-- a word, and the lent table afterwards
pub record SearchTo : Type 0 where
  pub word : ℕ
  pub table : List NodeRecord

abbrev pub searched : ℕ → List NodeRecord → SearchTo
searched w t = record { word = w; table = t }

-- SEARCHING A STREAM: of the words that it covers the least one from w on that it decides as v, where they end if it decides none so, w if they end
-- before w. The table is left clear. Past the limits, and past the words, nothing is done.
unfoldable pub search_text : ℕ → List ℕ → ℕ → Bool → List NodeRecord → SearchTo
unfolding decision reading least_decided C.cleared
search_text n bytes w v t =
    cond (ltb option_limit n) (searched w t)
    (cond (ltb (length t) table_limit) (searched w t)
    (cond (leb (2 ^ n) w) (searched w t) (searched (least_decided (covered n bytes - w) (decision n bytes) v w) (C.cleared no_record t))))

-- SEARCHING A TABLE of z numbers: of the words of the outermost node, that e stands for, the least one from w on that is v, 2^n if none is. Past the
-- limits it is w.
unfoldable pub search_nodes : ℕ → List NodeRecord → ℕ → Edge → ℕ → Bool → ℕ
unfolding from_in
search_nodes n t z e w v = cond (ltb option_limit n) w (cond (leb (2 ^ n) w) w (from_in n t z 1 (turned_edge (not v) e) w))

-- the edge of the outermost node of a stream that was loaded
abbrev pub outer_edge : LoadTo → Edge
outer_edge x = record { number = x.number; complement = x.complement }

-- the word that the search in a stream comes to: what it found; if it found none, with c words covered: where they end, or w
abbrev pub word_of : ℕ → Option ℕ → ℕ → ℕ
word_of c o w = unwrap_or o (max c w)

-- ---- The search in a stream ------------------------------------------------------------------

module _ (n : ℕ) (bytes : List ℕ) (w : ℕ) (v : Bool) (t : List NodeRecord) where
  pub text-options : option_limit < n → searched w t ≡ search_text n bytes w v t
  unfolding search_text
  text-options h = rw (lt-ltb option_limit n h) refl

  pub text-table : n ≤ option_limit → length t < table_limit → searched w t ≡ search_text n bytes w v t
  unfolding search_text
  text-table few h = rw (le-ltb option_limit n few, lt-ltb (length t) table_limit h) refl

  pub text-word : n ≤ option_limit → table_limit ≤ length t → 2 ^ n ≤ w → searched w t ≡ search_text n bytes w v t
  unfolding search_text
  text-word few room h = rw (le-ltb option_limit n few, le-ltb (length t) table_limit room, le-leb (2 ^ n) w h) refl

  module _ (few : n ≤ option_limit) (room : table_limit ≤ length t) (l : w < 2 ^ n) where
    -- Within the limits it is this.
    pub text-within : search_text n bytes w v t ≡ searched (least_decided (covered n bytes - w) (decision n bytes) v w) (C.cleared no_record t)
    unfolding search_text
    text-within = rw (le-ltb option_limit n few, le-ltb (length t) table_limit room, lt-leb (2 ^ n) w l) refl

    -- r, k, u: what the search reaches, its word, and the table then
    module _ (r : ReadReached) (k : ℕ) (u : List NodeRecord) (h : Seeks n bytes w v r k u t) where
      -- where reading has halted none is decided so
      ended-word : r.halted ≡ true → least_decided (covered n bytes - w) (decision n bytes) v w ≡ max r.run.covered w
      ended-word e = go (ltb r.run.covered w) refl
        where
          all : covered n bytes ≡ r.run.covered
          all = ap (λ (y : Reading). y.state.covered) (halted-reads n bytes h.stop r u h.reached e).same

          most : r.run.covered ≤ h.stop
          most = (subst (Ends n bytes h.stop r u h.reached.stands.steps) e h.reached.ends).0

          go : (b : Bool) → ltb r.run.covered w ≡ b → least_decided (covered n bytes - w) (decision n bytes) v w ≡ max r.run.covered w
          go true p =
              let m = ltb-true r.run.covered w p in
              let q : w ≡ max r.run.covered w = omega (arith, m) in
              least-unique (decision n bytes) v (covered n bytes - w) w w (omega arith) (omega arith) (λ j a b. absurd (omega (arith, a, b)))
              (λ q. absurd (omega (arith, q, m, all))) ∙ q
          go false p =
              let m : w ≤ r.run.covered = ltb-false r.run.covered w p in
              let q : r.run.covered ≡ max r.run.covered w = omega (arith, m) in
              least-unique (decision n bytes) v (covered n bytes - w) w r.run.covered m (omega (arith, m, all))
              (λ j a b. h.ended e j a (omega (arith, b, most))) (λ q. absurd (omega (arith, q, m, all))) ∙ q

      -- else the word is
      found_word : r.halted ≡ false → least_decided (covered n bytes - w) (decision n bytes) v w ≡ k
      found_word e =
          let f = h.found e in
          least-unique (decision n bytes) v (covered n bytes - w) w k f.0
          (omega (arith, f.0, f.1.0, stands-all n bytes r.run r.opens u h.reached.stands)) f.1.1.1 (λ _. f.1.1.0)

    -- o: what is found, or none
    module _ (r : ReadReached) (o : Option ℕ) (u : List NodeRecord) (h : Finds n bytes w v r o u t) where
      least-word : least_decided (covered n bytes - w) (decision n bytes) v w ≡ word_of r.run.covered o w
      least-word = go o refl
        where
          go : (p : Option ℕ) → o ≡ p → least_decided (covered n bytes - w) (decision n bytes) v w ≡ word_of r.run.covered p w
          go None e = ended-word r (unwrap_or o 0) u h.seeks (h.halts ∙ ap is_none e)
          go (Some k) e = found_word r (unwrap_or o 0) u h.seeks (h.halts ∙ ap is_none e) ∙ ap (λ (p : Option ℕ). unwrap_or p 0) e

      -- THE CALL: a, z: its answer, and the table after it.
      pub text-correct : (a : ℕ) → a ≡ word_of r.run.covered o w → (z : List NodeRecord) → z ≡ clear_to no_record u (length u)
          → searched a z ≡ search_text n bytes w v t
      text-correct a ae z ze = ap₂ searched (ae ∙ sym least-word) (seeks-cleared n bytes w v r (unwrap_or o 0) u t h.seeks z ze) ∙ sym text-within

-- ---- The search in a table -------------------------------------------------------------------

module _ (n : ℕ) (t : List NodeRecord) (z : ℕ) (e : Edge) (w : ℕ) (v : Bool) where
  pub nodes-options : option_limit < n → w ≡ search_nodes n t z e w v
  unfolding search_nodes
  nodes-options h = rw (lt-ltb option_limit n h) refl

  pub nodes-word : n ≤ option_limit → 2 ^ n ≤ w → w ≡ search_nodes n t z e w v
  unfolding search_nodes
  nodes-word few h = rw (le-ltb option_limit n few, le-leb (2 ^ n) w h) refl

  -- Within the limits it is this.
  pub nodes-within : n ≤ option_limit → w < 2 ^ n → from_in n t z 1 (turned_edge (not v) e) w ≡ search_nodes n t z e w v
  unfolding search_nodes
  nodes-within few l = rw (le-ltb option_limit n few, lt-leb (2 ^ n) w l) refl

-- x: what loading a stream comes to, which is whole; THE WORD FOUND IN ITS TABLE is the one that the stream has, if it covers that.
module _ (n : ℕ) (bytes : List ℕ) (t : List NodeRecord) (x : LoadTo) (called : x ≡ load n bytes t) (whole : x.whole ≡ true) where
  abbrev edge : Edge
  edge = outer_edge x

  held : Worded x.table x.size
  held = load-held n bytes t x called whole

  ordered : Ordered (table_of x.table x.size)
  ordered = load-ordered n bytes t x called

  -- the edge shows a value for every word,
  sits : Sits x.table x.size held ordered 1 edge n
  sits = record {
    inside = omega arith;
    deep = λ m. subst (λ (y : Node). 1 ≤ y.level) (table-node x.table x.size x.number) (load-deep n bytes t x called whole (omega (arith, m)));
    whole = λ k l. let h = load-shows n bytes t x called whole k l in (h.0, h.1.0);
  }

  -- which is the stream's for a word that the stream covers. Others may be found too: the count of those that it covers is the answer then.
  pub nodes-least : n ≤ option_limit → (w : ℕ) → w < covered n bytes → (v : Bool)
      → min (search_nodes n x.table x.size (outer_edge x) w v) (covered n bytes) ≡ least_decided (covered n bytes - w) (decision n bytes) v w
  nodes-least few w l v =
      ap (λ (k : ℕ). min k c) (sym (nodes-within n x.table x.size edge w v few below))
      ∙ sym (least-unique (decision n bytes) v (c - w) w (min found c) (omega (arith, least.low, l)) (omega (arith, l))
      (λ j a b. value j (omega (arith, b)) ∙ least.before j a (omega (arith, b))) (λ q. here (omega (arith, q, l))))
    where
      c : ℕ
      c = covered n bytes

      below : w < 2 ^ n
      below = omega (arith, l, covered-most n bytes)

      found : ℕ
      found = from_in n x.table x.size 1 (turned_edge (not v) edge) w

      right : ℕ → Bool
      right = yes x.table x.size held ordered 1 (turned_edge (not v) edge) n

      least : Least right w (2 ^ n) found
      least = from-yes x.table x.size held ordered n 1 (turned_edge (not v) edge) w
          (turned-sits x.table x.size held ordered (not v) 1 edge n sits) below

      -- a word that is covered is decided as v if it is yes on the turned edge
      value : (j : ℕ) → j < c → is_value v (decision n bytes j) ≡ right j
      value j k =
          let m : j < 2 ^ n = omega (arith, k, covered-most n bytes) in
          let d = covered-decided n bytes j m k in
          let h = load-shows n bytes t x called whole j m in
          ap (is_value v) (d ∙ ap decided (h.1.1 _ d) ∙ sym h.1.0) ∙ sym (turned-yes x.table x.size held ordered v 1 edge n j)

      here : found < c → decision n bytes (min found c) ≡ decided v
      here k =
          let e : found ≡ min found c = omega (arith, k) in
          subst (λ (i : ℕ). decision n bytes i ≡ decided v) e
          (value-decided v (decision n bytes found) (value found k ∙ least.here (omega (arith, k, covered-most n bytes))))
