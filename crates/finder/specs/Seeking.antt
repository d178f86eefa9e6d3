-- What the search for a word comes to, from what reading and searching on reach. Assumes nothing.
use Rattle.std.specs.Prelude.{◌≡◌, refl, Bool, true, false, not, List, ℕ, ◌+◌, ◌-◌, ◌<◌, ◌≤◌, ◌^◌, length, replicate, Option, unwrap_or, is_none, is_some}
use Rattle.std.proofs.Common.{sym, ap, ◌∙◌, subst, ⊎_elim, true≢false, arith, pow_mono}
use Rattle.std.proofs.lemmas.Bool.{false≢true}
use Rattle.theory_lists.specs.Lists.{differ, differ-assoc, decide-le}
use Rattle.theory_reading.specs.Limits.{option_limit, open_limit, table_limit, word_limit}
use Rattle.theory_reading.specs.Nodes.{Node}
use Rattle.theory_reading.specs.Deciding.{options, decided, decision}
use Rattle.theory_reading.specs.Covered.{parity}
use Rattle.theory_reading.proofs.Covered.{covered-decided}
use Rattle.theory_reading.proofs.Reaching.{at-within}
use Rattle.elements.specs.Abstraction.{inside_open, open_list}
use Rattle.node_records.specs.Words.{some_yes}
use Rattle.node_records.specs.declared.Edge.{Edge}
use Rattle.node_records.specs.declared.NodeRecord.{NodeRecord}
use Rattle.work_table.specs.Table.{get_in}
use Rattle.work_table.specs.TableLaws.{table_of, table-node, Worded}
use Rattle.work_table.specs.WalkLaws.{edge_walk}
use Rattle.cursors.specs.Cursors.{start_cursor}
use Rattle.cursors.specs.declared.Cursor.{Cursor}
use Rattle.elements.specs.declared.Open.{Open}
use Rattle.reader.specs.declared.Reached.{Reached}
use Rattle.reader.specs.Advance.{state_at}
use Rattle.reader.specs.OpenNodes.{ReadReached, opens_in, reached_in, cursor_in}
use Rattle.reader.specs.Loop.{ReachedBy}
use Rattle.reader.specs.ReadOn.{read_from, read-begun}
use Rattle.reader.specs.RunOn.{search_from}
use Rattle.reader.specs.Searched.{some_last, Searched, search-called}
use Rattle.blocks.specs.Blocks.{edge_at}
use Rattle.blocks.specs.BlockLaws.{stands-all, passed-stop, passed-covers, passed-shallow, passed-ordered, passed-sits, passed-decides}
use Rattle.finder.specs.SeekLegs.{OnWay, read-way, search-way}
use Rattle.finder.specs.LeastDecided.{is_value, value-decided, NoneDecided}
use Rattle.finder.specs.Search.{turned_edge, some_in, from_in, least_in, word_below}
use Rattle.finder.specs.SearchSteps.{least-below, is-below, not-below, below-found}
use Rattle.finder.specs.SearchLaws.{Least, yes, Sits, none-yes, least-yes, from-yes, turned-sits, turned-yes}

-- ---- Definitions -----------------------------------------------------------------------------

-- the least word from w on that is yes or, if `noes`, that is no, of those that the loop's last element passed
abbrev pub sought_at : Bool → List NodeRecord → ℕ → ReadReached → ℕ → ℕ
sought_at noes t n r w = r.from + from_in (n - r.deep) t r.run.size (r.deep + 1) (turned_edge noes (edge_at r)) (w - r.from)

-- What the search for v, yes or no, reaches, with the table u: it has halted with no word from w on that is v, or passed the next one, k; and it is on the
-- way to the end of the stream. t: the table at its beginning
pub record Seeks (n : ℕ) (bytes : List ℕ) (w : ℕ) (v : Bool) (r : ReadReached) (k : ℕ) (u t : List NodeRecord) : Type 0 where
  pub stop : ℕ
  pub reached : ReachedBy n bytes stop r u
  pub kept : length u ≡ length t
  pub way : OnWay n bytes t r u
  pub ended : r.halted ≡ true → NoneDecided (decision n bytes) v w stop
  pub found : r.halted ≡ false → (w ≤ k) × ((k < r.run.covered) × ((decision n bytes k ≡ decided v) × NoneDecided (decision n bytes) v w k))

-- Likewise with a word exactly if reading has not halted.
pub record Finds (n : ℕ) (bytes : List ℕ) (w : ℕ) (v : Bool) (r : ReadReached) (o : Option ℕ) (u t : List NodeRecord) : Type 0 where
  pub seeks : Seeks n bytes w v r (unwrap_or o 0) u t
  pub halts : r.halted ≡ is_none o

-- ---- The words that were passed --------------------------------------------------------------

-- a: what is sought, yes or no; x: what the loop reaches with some stop, v, which it passes
module _ (n : ℕ) (bytes : List ℕ) (few : n ≤ option_limit) (a : Bool) (v : ℕ) (x : ReadReached) (u : List NodeRecord) (reached : ReachedBy n bytes v x u)
    (e : x.halted ≡ false) where
  covers : x.run.covered ≡ x.from + 2 ^ (n - x.deep)
  covers = passed-covers n bytes v x u reached e

  inside : (x.from ≤ v) × (v < x.run.covered)
  inside = passed-stop n bytes v x u reached e

  within : x.run.covered ≤ 2 ^ n
  within = at-within n bytes reached.stands.steps (state_at x.run x.opens u) reached.stands.here

  -- What `word_at` wants.
  pub passed-bounds : (n ≤ option_limit) × ((x.deep ≤ open_limit) × ((x.from ≤ v) × ((v < x.from + 2 ^ (n - x.deep)) × (v ≤ word_limit))))
  passed-bounds = (
    few,
    (
      passed-shallow n bytes v x u reached e,
      (inside.0, (omega (arith, inside.1, covers), omega (arith, inside.1, within, pow_mono {i = n} {j = option_limit} few))),
    ),
  )

  held : Worded u x.run.size
  held = reached.stands.kept.held.words

  -- what the words stand for, turned about if they are to be no
  abbrev edge : Edge
  edge = turned_edge (not a) (edge_at x)

  abbrev right : ℕ → Bool
  right = yes u x.run.size held (passed-ordered n bytes v x u reached e) (x.deep + 1) edge (n - x.deep)

  sits : Sits u x.run.size held (passed-ordered n bytes v x u reached e) (x.deep + 1) edge (n - x.deep)
  sits = turned-sits u x.run.size held (passed-ordered n bytes v x u reached e) (not a) (x.deep + 1) (edge_at x) (n - x.deep) (record {
    inside = omega arith;
    deep = λ m. subst (λ (y : Node). x.deep + 1 ≤ y.level) (table-node u x.run.size x.run.last.number)
        (passed-sits n bytes v x u reached e (omega (arith, m)));
    whole = λ k l.
        let d : x.from + k - x.from ≡ k = omega arith in
        let b : x.from + k < x.run.covered = omega (arith, covers, l) in (
          _,
          ap (λ (j : ℕ). edge_walk (table_of u x.run.size) (x.deep + 1) (edge_at x) (options (n - x.deep) j)) (sym d)
              ∙ sym (passed-decides n bytes v x u reached e (x.from + k) (omega arith) b)
              ∙ covered-decided n bytes (x.from + k) (omega (arith, b, within))
              (omega (arith, b, stands-all n bytes x.run x.opens u reached.stands)),
        );
  })

  least : Least right (v - x.from) (2 ^ (n - x.deep)) (from_in (n - x.deep) u x.run.size (x.deep + 1) edge (v - x.from))
  least = from-yes u x.run.size held (passed-ordered n bytes v x u reached e) (n - x.deep) (x.deep + 1) edge (v - x.from) sits
      (omega (arith, inside, covers))

  -- a word that is passed is decided so if it is yes on that edge
  admits : (k : ℕ) → x.from ≤ k → k < x.run.covered → is_value a (decision n bytes k) ≡ right (k - x.from)
  admits k l m =
      ap (is_value a) (passed-decides n bytes v x u reached e k l m)
      ∙ sym (turned-yes u x.run.size held (passed-ordered n bytes v x u reached e) a (x.deep + 1) (edge_at x) (n - x.deep) (k - x.from))

  -- what is found, for arithmetic
  sought : (k : ℕ) → k ≡ sought_at (not a) u n x v → k ≡ x.from + from_in (n - x.deep) u x.run.size (x.deep + 1) edge (v - x.from)
  sought k ke = ke

  -- no word from v on before what is found
  none_found : (k : ℕ) → k ≡ sought_at (not a) u n x v → NoneDecided (decision n bytes) a v k
  none_found k ke j l b = admits j (omega (arith, inside, l)) (omega (arith, b, sought k ke, least.most, covers))
      ∙ least.before (j - x.from) (omega (arith, inside, l)) (omega (arith, inside, l, b, sought k ke))

  -- what the record says of them
  same-said : (b : Bool) → some_last (not a) x u ≡ b → some_in u x.run.size edge ≡ b
  same-said b s =
      let p = parity (open_list x.opens) in
      ap (λ (c : Bool). some_yes (get_in u x.run.size x.run.last.number) (record { number = x.run.last.number; complement = c }))
      (differ-assoc (not a) p x.run.complement)
      ∙ s

  -- none of them, if the record says so
  none_passed : some_last (not a) x u ≡ false → (j : ℕ) → x.from ≤ j → j < x.run.covered → is_value a (decision n bytes j) ≡ false
  none_passed s j l b = admits j l b ∙ none-yes u x.run.size held (passed-ordered n bytes v x u reached e) (n - x.deep) (x.deep + 1) edge sits
      (same-said false s) (j - x.from) (omega (arith, l, b, covers))

  -- some of them, if it says so
  some-passed : some_last (not a) x u ≡ true → v ≡ x.from → (k : ℕ) → k ≡ sought_at (not a) u n x v → k < x.run.covered
  some-passed s same k ke = ⊎_elim
      (λ (l : x.run.covered ≤ k). absurd (false≢true (sym (least.before first (omega (arith, same))
      (omega (arith, below, l, sought k ke, covers))) ∙ firsts.here below)))
      (λ (l : k < x.run.covered). l)
      (decide-le x.run.covered k)
    where
      first : ℕ
      first = least_in (n - x.deep) u x.run.size (x.deep + 1) edge

      below : first < 2 ^ (n - x.deep)
      below = least-below (n - x.deep) u x.run.size (x.deep + 1) edge

      firsts : Least right 0 (2 ^ (n - x.deep)) first
      firsts = least-yes u x.run.size held (passed-ordered n bytes v x u reached e) (n - x.deep) (x.deep + 1) edge sits
          (same-said true s)

  -- A WORD IS FOUND: k, as code has it. None is decided so from w on before v.
  pub seeks-found : (w : ℕ) → w ≤ v → NoneDecided (decision n bytes) a w v → (k : ℕ) (t : List NodeRecord) → k ≡ sought_at (not a) u n x v
      → k < x.run.covered → length u ≡ length t → OnWay n bytes t x u → Seeks n bytes w a x k u t
  seeks-found w low none k t ke m l way = record {
    stop = v;
    reached = reached;
    kept = l;
    way = way;
    ended = λ f. absurd (true≢false (sym f ∙ e));
    found = λ _. (
      omega (arith, low, sought k ke, least.low, inside),
      (
        m,
        (
          value-decided a (decision n bytes k) (admits k (omega (arith, sought k ke)) m ∙ ap right (omega (arith, sought k ke))
              ∙ least.here (omega (arith, sought k ke, m, covers))),
          λ j l b. ⊎_elim (λ (q : v ≤ j). none_found k ke j q b) (λ (q : j < v). none j l q) (decide-le v j),
        ),
      ),
    );
  }

  -- Likewise for a word o that code may have found.
  pub finds-found : (w : ℕ) → w ≤ v → NoneDecided (decision n bytes) a w v → (o : Option ℕ) (t : List NodeRecord)
      → o ≡ word_below (x.from + 2 ^ (n - x.deep)) (sought_at (not a) u n x v) → is_some o ≡ true → length u ≡ length t → OnWay n bytes t x u
      → Finds n bytes w a x o u t
  finds-found w low none o t oe s l way =
      let m = is-below _ _ (ap is_some (sym oe) ∙ s) in
      let f = below-found _ _ o oe m in
      record {
        seeks = seeks-found w low none (unwrap_or o 0) t f.0 (omega (arith, f.0, m, covers)) l way;
        halts = e ∙ sym f.1;
      }

-- Where reading halts there is no word, if none is decided so from w on before the stop.
pub seeks-ended : (n : ℕ) (bytes : List ℕ) (a : Bool) (v : ℕ) (x : ReadReached) (u : List NodeRecord) → ReachedBy n bytes v x u → (w : ℕ)
    → NoneDecided (decision n bytes) a w v → (k : ℕ) (t : List NodeRecord) → x.halted ≡ true → length u ≡ length t → OnWay n bytes t x u
    → Seeks n bytes w a x k u t
seeks-ended n bytes a v x u reached w none k t e l way = record {
  stop = v;
  reached = reached;
  kept = l;
  way = way;
  ended = λ _. none;
  found = λ f. absurd (true≢false (sym e ∙ f));
}

-- ---- Reading to the word, and searching on ---------------------------------------------------

module _ (n : ℕ) (bytes : List ℕ) (few : n ≤ option_limit) (w : ℕ) (a : Bool) where
  -- what is known of the words before v
  abbrev pub NoneTo : ℕ → Type 0
  NoneTo v = (w ≤ v) × NoneDecided (decision n bytes) a w v

  pub none_first : NoneTo w
  none_first = (omega arith, λ u l b. absurd (omega (arith, l, b)))

  -- behind words of which none is sought
  pub none_over : (y : ReadReached) (u : List NodeRecord) → ReachedBy n bytes y.from y u → y.halted ≡ false → some_last (not a) y u ≡ false
      → NoneTo y.from → NoneTo y.run.covered
  none_over y u reached e s h =
      let i = passed-stop n bytes y.from y u reached e in (
        omega (arith, h.0, i),
        λ j l b. ⊎_elim (λ (q : y.from ≤ j). none_passed n bytes few a y.from y u reached e s j q b) (λ (q : j < y.from). h.1 j l q)
            (decide-le y.from j),
      )

  -- what reading reaches from the start, o: the open nodes, c: where it begins, as code has them
  pub read_first : (t : List NodeRecord) (o : List Open) (c : Cursor) (x : ReadReached) (u : List NodeRecord) → table_limit ≤ length t → w < 2 ^ n
      → o ≡ replicate open_limit inside_open → c ≡ start_cursor → record { reached = x; table = u } ≡ read_from n bytes w (cursor_in c o) t
      → ReachedBy n bytes w x u × OnWay n bytes t x u
  read_first t o c x u room l oe ce called =
      let most : w ≤ word_limit = omega (arith, l, pow_mono {i = n} {j = option_limit} few) in
      let from = called ∙ ap (λ (o : List Open). read_from n bytes w (cursor_in c o) t) oe in
      (read-begun n bytes few w most c t room ce x u from, read-way n bytes few t room w most c ce x u from)

  -- what searching on reaches
  abbrev pub Searching : ReadReached → List NodeRecord → Type 0
  Searching y u = Searched n bytes few (not a) NoneTo none_over y u

  differ_back : (p c : Bool) → differ (differ p c) c ≡ p
  differ_back true true = refl
  differ_back true false = refl
  differ_back false true = refl
  differ_back false false = refl

  -- Where none of the words that reading passed is found, the search goes on behind them. r, os: what reading reaches, and the open nodes then;
  -- c, odd: where the search begins, and what the open nodes turn about, as code has them
  pub searches : (r : Reached) (os : List Open) (u t : List NodeRecord) → let x = reached_in r os in
      ReachedBy n bytes w x u × OnWay n bytes t x u → x.halted ≡ false → (o : Option ℕ)
      → o ≡ word_below (x.from + 2 ^ (n - x.deep)) (sought_at (not a) u n x w) → is_some o ≡ false → (c : Cursor) → c ≡ record { run = r.run; depth = r.depth } → (odd : Bool) → odd ≡ differ (edge_at x).complement r.run.complement
      → (y : ReadReached) (z : List NodeRecord) → record { reached = y; table = z } ≡ search_from n bytes (cursor_in c os) odd (not a) u
      → Searching y z × OnWay n bytes t y z
  searches r os u t first e o ke s c ce odd oe y z called =
      let x = reached_in r os in
      let from = called ∙ ap (λ (c : Cursor). search_from n bytes (cursor_in c os) odd (not a) u) ce in (
        search-called n bytes few (not a) NoneTo none_over (record { run = r.run; opens = opens_in os r.depth }) odd u reached.stands
            (oe ∙ differ_back (parity (open_list x.opens)) r.run.complement) known y z from,
        search-way n bytes few t x u first.1 e reached.stands odd (not a) y z from,
      )
    where
      reached : ReachedBy n bytes w (reached_in r os) u
      reached = first.0

      known : NoneTo r.run.covered
      known =
          let i = passed-stop n bytes w (reached_in r os) u reached e in
          let m = not-below _ _ (ap is_some (sym ke) ∙ s) in
          let c = passed-covers n bytes w (reached_in r os) u reached e in
          (omega (arith, i), λ j l b. none_found n bytes few a w (reached_in r os) u reached e _ refl j l (omega (arith, b, m, c)))

  module _ (y : ReadReached) (u t : List NodeRecord) (found : Searching y u × OnWay n bytes t y u) where
    abbrev h : Searching y u
    h = found.0

    -- Where the search halts there is no word.
    pub search-ended : (k : ℕ) → y.halted ≡ true → length u ≡ length t → Seeks n bytes w a y k u t
    search-ended k e l = seeks-ended n bytes a h.stop y u h.reached w h.free.1 k t e l found.1

    module _ (e : y.halted ≡ false) where
      same : h.stop ≡ y.from
      same = (h.here e).0

      begun : ReachedBy n bytes y.from y u
      begun = subst (λ (v : ℕ). ReachedBy n bytes v y u) same h.reached

      pub search-bounds : (n ≤ option_limit) × ((y.deep ≤ open_limit) × ((y.from ≤ y.from) × ((y.from < y.from + 2 ^ (n - y.deep))
          × (y.from ≤ word_limit))))
      search-bounds = passed-bounds n bytes few a y.from y u begun e

      -- Else it has found k, as code has it.
      pub search-found : (k : ℕ) → k ≡ sought_at (not a) u n y y.from → length u ≡ length t → Seeks n bytes w a y k u t
      search-found k ke l =
          let free = subst NoneTo same h.free in
          seeks-found n bytes few a y.from y u begun e w free.0 free.1 k t ke
          (some-passed n bytes few a y.from y u begun e (h.here e).1 refl k ke) l found.1

      pub search-finds : (o : Option ℕ) → o ≡ word_below (y.from + 2 ^ (n - y.deep)) (sought_at (not a) u n y y.from) → length u ≡ length t
          → Finds n bytes w a y o u t
      search-finds o oe l =
          let s = search-found (sought_at (not a) u n y y.from) refl l in
          let c = passed-covers n bytes y.from y u begun e in
          let f = below-found _ _ o oe (omega (arith, (s.found e).1.0, c)) in
          record { seeks = subst (λ (k : ℕ). Seeks n bytes w a y k u t) (sym f.0) s; halts = e ∙ sym f.1 }
