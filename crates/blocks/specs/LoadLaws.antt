-- The laws of loading a stream: it answers as checking does, and where its table is whole one number decides every word that the stream decides, as it does,
-- by the table as it is left. Assumes nothing.
use Rattle.std.specs.Prelude.{◌≡◌, refl, Bool, true, false, cond, not, ◌&&◌, ◌||◌, List, [], ◌∷◌, ℕ, suc, ◌+◌, ◌-◌, ◌<◌, ◌≤◌, ◌^◌, eqb, ltb, length}
use Rattle.std.proofs.Common.{sym, ap, ap₂, ◌∙◌, subst, ⊎_elim, arith, eqb-true, ltb-false}
use Rattle.std.proofs.lemmas.Bool.{false≢true}
use Prim.{tt}
use Rattle.theory_lists.specs.Lists.{decide-le}
use Rattle.theory_reading.specs.Limits.{option_limit, table_limit, word_limit}
use Rattle.theory_reading.specs.Nodes.{Ref, terminal, entry, temporary, child, Node, node, bars}
use Rattle.theory_reading.specs.Causes as C
use Rattle.theory_reading.specs.Element as T
use Rattle.theory_reading.specs.Reading.{State, Reading, is_start, is_two, reading}
use Rattle.theory_reading.specs.Deciding.{decided, complemented, options, ended, decision}
use Rattle.theory_reading.specs.Calls as R
use Rattle.theory_reading.specs.TableWalk.{table_walk}
use Rattle.theory_reading.proofs.Lasting.{Ordered}
use Rattle.theory_reading.specs.Spine.{firsts_stay, spine_number}
use Rattle.theory_reading.proofs.Spine.{SpineIn, Shows, Extends, FirstsDeep, Stays, begun_number}
use Rattle.theory_reading.proofs.Spine.{spine_opens, spine_last, spine-decides, begun-deep, reading-firsts}
use Rattle.elements.specs.Abstraction.{context_of, ref_of, deep_of, open_list}
use Rattle.elements.specs.OpenLaws.{open-length}
use Rattle.node_records.specs.Records.{no_record}
use Rattle.work_table.specs.TableLaws.{table_of, Worded}
use Rattle.reader.specs.Simulation.{child-of}
use Rattle.reader.specs.Advance.{state_at, bars-record}
use Rattle.reader.specs.OpenNodes.{ReadReached}
use Rattle.cursors.specs.Cursors.{first_run}
use Rattle.reader.specs.Loop.{first_opens, Stands, stands-first, ReachedBy}
use Rattle.checker.specs.CheckCorrect.{checked_by, Reads, all-reads, check-options, check-table, check-correct}
use Rattle.reader.specs.ReadOn.{ReadTo, read_all, read_length, read-reaches}
use Rattle.blocks.specs.BlockLaws.{none-node, none-ordered, stands-ordered}
use Rattle.blocks.specs.Spine.{stays_in, spine_at}
use Rattle.blocks.specs.SpineLaws.{highest-most, larger-not, spine-length, spine-ordered, spine-worded, spine-extends, spine-has, spine-deep}
use Rattle.blocks.specs.Load.{LoadTo, RootTo, unrooted, pair_open, rows_in, row_count, can_root, last_in, rooted_at, rooted_bare, larger, last_below, root_in}
use Rattle.blocks.specs.Load.{refused_load, loaded_as, load_of, load}
use Rattle.blocks.specs.Load.{load-options, load-table, load-on}
use Rattle.elements.specs.declared.Ref as K
use Rattle.node_records.specs.declared.NodeRecord.{NodeRecord}

-- ---- What is made of what the loop reaches ---------------------------------------------------

-- after two children a node has just ended
two-ended : (m : T.Context) → is_two m ≡ true → ended m ≡ true
two-ended T.start e = absurd (false≢true e)
two-ended T.lead e = absurd (false≢true e)
two-ended T.begins e = absurd (false≢true e)
two-ended T.after_digit e = refl
two-ended T.after_two e = refl
two-ended T.after_one e = refl
two-ended T.over e = refl

-- how many nodes are open
abbrev rows : ReadReached → ℕ
rows y = row_count y.opens.depth (context_of y.run.context)

-- what the test says
record CanRoot (y : ReadReached) (u : List NodeRecord) : Type 0 where
  last : ended (context_of y.run.context) ≡ true
      → bars (table_of u y.run.size) (cond (is_two (context_of y.run.context)) (ref_of y.run.pair.second) (ref_of y.run.last)) ≡ false
  firsts : firsts_stay (table_of u y.run.size) (rows_in y) ≡ true

stays-bars : (u : List NodeRecord) (z : ℕ) (x : K.Ref) → stays_in u z x ≡ true → bars (table_of u z) (ref_of x) ≡ false
stays-bars u z x e = bars-record u z x ∙ ap not e

can-says : (y : ReadReached) (u : List NodeRecord) → can_root y u ≡ true → CanRoot y u
can-says y u = go y.faulty (ended m) refl (is_two m) refl (stays_in u z y.run.pair.first) refl (stays_in u z y.run.pair.second) refl
    (stays_in u z y.run.last) refl
  where
    m : T.Context
    m = context_of y.run.context

    z : ℕ
    z = y.run.size

    go : (f e : Bool) → ended m ≡ e → (w : Bool) → is_two m ≡ w → (a : Bool) → stays_in u z y.run.pair.first ≡ a
        → (b : Bool) → stays_in u z y.run.pair.second ≡ b → (l : Bool) → stays_in u z y.run.last ≡ l
        → (not f && ((not e || cond w (a && b) l) && firsts_stay (table_of u z) (open_list y.opens))) ≡ true → CanRoot y u
    go true e i w j a p b q l r h = absurd (false≢true h)
    go false true i true j true p true q l r h = record {
      last = λ _. rw j (stays-bars u z y.run.pair.second q);
      firsts = rw j (ap₂ (λ (b c : Bool). not b && c) (stays-bars u z y.run.pair.first p) h);
    }
    go false true i true j true p false q l r h = absurd (false≢true h)
    go false true i true j false p b q l r h = absurd (false≢true h)
    go false true i false j a p b q true r h = record { last = λ _. rw j (stays-bars u z y.run.last r); firsts = rw j h }
    go false true i false j a p b q false r h = absurd (false≢true h)
    go false false i true j a p b q l r h = absurd (false≢true (sym i ∙ two-ended m j))
    go false false i false j a p b q l r h = record { last = λ k. absurd (false≢true (sym i ∙ k)); firsts = rw j h }

-- the ways of rooting
root-ways : (P : RootTo → Type 0) (y : ReadReached) (u : List NodeRecord) → P (unrooted y.run.size u)
    → (CanRoot y u → rows y ≡ 0 → P (rooted_bare y u))
    → (CanRoot y u → last_below y u (rows y) + rows y ≤ table_limit
    → P (rooted_at y u (last_below y u (rows y)) (larger y.run.size (last_below y u (rows y) + rows y))))
    → P (root_in y u)
unfolding root_in
root-ways P y u none bare some = go (can_root y u) refl (eqb (rows y) 0) refl (ltb table_limit (last_below y u (rows y) + rows y)) refl
  where
    go : (a : Bool) → can_root y u ≡ a → (e : Bool) → eqb (rows y) 0 ≡ e → (b : Bool) → ltb table_limit (last_below y u (rows y) + rows y) ≡ b
        → P (cond a (cond e (rooted_bare y u) (cond b (unrooted y.run.size u)
        (rooted_at y u (last_below y u (rows y)) (larger y.run.size (last_below y u (rows y) + rows y)))))
        (unrooted y.run.size u))
    go true i true k b j = bare (can-says y u i) (eqb-true (rows y) 0 k)
    go true i false k true j = none
    go true i false k false j = some (can-says y u i) (ltb-false _ _ j)
    go false i e k b j = none

root-length : (y : ReadReached) (u : List NodeRecord) → length (root_in y u).table ≡ length u
root-length y u = root-ways (λ (x : RootTo). length x.table ≡ length u) y u refl (λ can none. refl)
    (λ can fits. spine-length (larger y.run.size (last_below y u (rows y) + rows y)) (rows_in y) u (last_below y u (rows y) + 1)
    (last_in y.run))

count_same : (y : ReadReached) → length (rows_in y) ≡ rows y
count_same y = go (is_two (context_of y.run.context))
  where
    n-open : length (open_list y.opens) ≡ deep_of y.opens.depth
    n-open = open-length y.opens.nodes (deep_of y.opens.depth)

    go : (b : Bool) → length (cond b (pair_open y.run.pair ∷ open_list y.opens) (open_list y.opens))
        ≡ cond b (deep_of y.opens.depth + 1) (deep_of y.opens.depth)
    go true = omega (arith, n-open)
    go false = n-open

-- where no node is open nothing is put into the table
bare-same : (y : ReadReached) (u : List NodeRecord) → rows y ≡ 0
    → rooted_at y u (last_below y u (rows y)) (larger y.run.size (last_below y u (rows y) + rows y)) ≡ rooted_bare y u
bare-same y u none =
    let size : larger y.run.size (last_below y u (rows y) + rows y) ≡ y.run.size
    = larger-not y.run.size (last_below y u (rows y) + rows y) (omega (arith, none, highest-most u (table_limit - rows y) y.run.size)) in
    ap (rooted_at y u (last_below y u (rows y))) size
    ∙ ap (λ (o : List T.Open). record {
      whole = true;
      size = y.run.size;
      number = spine_number o (last_below y u (rows y) + 1) (last_in y.run);
      table = spine_at u y.run.size o (last_below y u (rows y) + 1) (last_in y.run);
    }) (empty (rows_in y) (count_same y ∙ none))
  where
    empty : (o : List T.Open) → length o ≡ 0 → o ≡ []
    empty [] e = refl
    empty (x ∷ o) e = absurd (omega (arith, e))

-- ways of a table that is no larger than the limit
rooted-ways : (P : RootTo → Type 0) (y : ReadReached) (u : List NodeRecord) → y.run.size ≤ table_limit → P (unrooted y.run.size u)
    → (CanRoot y u → last_below y u (rows y) + rows y ≤ table_limit
    → P (rooted_at y u (last_below y u (rows y)) (larger y.run.size (last_below y u (rows y) + rows y))))
    → P (root_in y u)
rooted-ways P y u small none some = root-ways P y u none
    (λ can empty. subst P (bare-same y u empty) (some can (omega (arith, small, empty, highest-most u (table_limit - rows y) y.run.size)))) some

-- ---- Tables that have the same nodes

module _ (t u : List Node) (same : (k : ℕ) → node t k ≡ node u k) where
  bars-alike : (r : Ref) → bars t r ≡ bars u r
  bars-alike terminal = refl
  bars-alike (entry k g) = ap (λ (x : Node). not (eqb x.stamp g)) (same k)
  bars-alike temporary = refl

  stays-alike : (o : List T.Open) → firsts_stay t o ≡ firsts_stay u o
  stays-alike [] = refl
  stays-alike (T.in_first ∷ o) = stays-alike o
  stays-alike (T.in_second r b ∷ o) = ap₂ (λ (b c : Bool). not b && c) (bars-alike r) (stays-alike o)

  deep-alike : (o : List T.Open) → FirstsDeep t o → FirstsDeep u o
  deep-alike [] h = tt
  deep-alike (T.in_first ∷ o) h = deep-alike o h
  deep-alike (T.in_second r b ∷ o) h =
      ((λ p. omega (arith, h.0 p, ap (λ (x : Node). x.level) (same (child r)))), deep-alike o h.1)

-- ---- The stream at one number

-- y, u: what the loop reaches at the end of the stream, and the table after it
module _ (n : ℕ) (bytes : List ℕ) (y : ReadReached) (u : List NodeRecord) (read : Reads n bytes y u) (stands : Stands n bytes y.run y.opens u)
    (can : CanRoot y u) (fits : last_below y u (rows y) + rows y ≤ table_limit) where
  abbrev s : State
  s = state_at y.run y.opens u

  abbrev size : ℕ
  size = y.run.size

  abbrev o : List T.Open
  o = rows_in y

  abbrev h : ℕ
  h = last_below y u (rows y)

  state-same : (reading n bytes).state ≡ s
  state-same = ap (λ (r : Reading). r.state) read.same

  table_same : (k : ℕ) → node s.table k ≡ node (table_of u size) k
  table_same = go (is_start (context_of y.run.context)) refl
    where
      go : (b : Bool) → is_start (context_of y.run.context) ≡ b → (k : ℕ) → node (cond b [] (table_of u size)) k ≡ node (table_of u size) k
      go true e k = sym (ap (λ (z : ℕ). node (table_of u z) k) (stands.kept.begin e) ∙ none-node u k)
      go false e k = refl

  stays : Stays s
  stays = record {
    firsts = stays-alike s.table (table_of u size) table_same o ∙ can.firsts;
    last = λ e. bars-alike s.table (table_of u size) table_same (spine_last s) ∙ can.last e;
  }

  stays-there : Stays (reading n bytes).state
  stays-there = subst Stays (sym state-same) stays

  begun-same : begun_number s ≡ last_in y.run
  begun-same = ap (λ (k : ℕ). cond (ended (context_of y.run.context)) k 0) (go (is_two (context_of y.run.context)))
    where
      go : (b : Bool) → child (cond b (ref_of y.run.pair.second) (ref_of y.run.last)) ≡ cond b y.run.pair.second.number y.run.last.number
      go true = sym (child-of y.run.pair.second)
      go false = sym (child-of y.run.last)

  begun : 0 < last_in y.run → length o + 1 ≤ (node (table_of u size) (last_in y.run)).level
  begun = subst (λ (e : ℕ). 0 < e → length o + 1 ≤ (node (table_of u size) e).level) begun-same
      (λ p. omega (
        arith,
        subst (λ (s : State). 0 < begun_number s → length (spine_opens s) + 1 ≤ (node s.table (begun_number s)).level) state-same
            (begun-deep n bytes stays-there) p,
        ap (λ (x : Node). x.level) (table_same (begun_number s)),
      ))

  firsts : FirstsDeep (table_of u size) o
  firsts = deep-alike s.table (table_of u size) table_same o
      (subst (λ (s : State). FirstsDeep s.table (spine_opens s)) state-same (reading-firsts n bytes stays-there))

  ordered : Ordered (table_of u size)
  ordered = stands-ordered n bytes y.run y.opens u stands

  enough : h + length o ≤ table_limit
  enough = omega (arith, fits, count_same y)

  abbrev x : RootTo
  x = rooted_at y u h (larger size (h + length o))

  rooted-ordered : Ordered (table_of x.table x.size)
  rooted-ordered = spine-ordered u size (table_limit - rows y) stands.kept.room stands.kept.small stands.kept.held ordered o (last_in y.run) begun firsts enough

  rooted-worded : Worded x.table x.size
  rooted-worded = spine-worded u size (table_limit - rows y) stands.kept.room stands.kept.small stands.kept.held ordered o (last_in y.run) begun firsts enough

  rooted-deep : 0 < x.number → 1 ≤ (node (table_of x.table x.size) x.number).level
  rooted-deep = spine-deep u size (table_limit - rows y) stands.kept.room stands.kept.small stands.kept.held ordered o (last_in y.run) begun firsts enough

  rooted-extends : Extends s.table (table_of x.table x.size)
  rooted-extends k p =
      spine-extends u size (table_limit - rows y) stands.kept.room stands.kept.small stands.kept.held ordered o (last_in y.run) begun firsts enough k
      (subst (λ (x : Node). 0 < x.level) (table_same k) p) ∙ sym (table_same k)

  rooted-has : SpineIn (table_of x.table x.size) o (h + 1) (last_in y.run)
  rooted-has = spine-has u size (table_limit - rows y) stands.kept.room stands.kept.small stands.kept.held ordered o (last_in y.run) begun firsts enough

  rooted-shows : (w : ℕ) → Shows (decision n bytes w)
      (complemented y.run.complement (table_walk (table_of x.table x.size) 1 x.number (options n w)))
  rooted-shows w =
      let v = table_of x.table x.size in
      subst (λ (e : ℕ). SpineIn v o (h + 1) e
      → Shows (decision n bytes w) (complemented y.run.complement (table_walk v 1 (spine_number o (h + 1) e) (options n w)))) begun-same
      (λ rows. subst (λ (s : State). Extends s.table v → SpineIn v (spine_opens s) (h + 1) (begun_number s)
      → Shows (decision n bytes w) (complemented s.complement (table_walk v 1 (spine_number (spine_opens s) (h + 1) (begun_number s)) (options n w))))
      state-same (λ more rows. spine-decides n bytes stays-there v (h + 1) (omega arith) more rows w) rooted-extends rows) rooted-has

  -- with the count of open nodes as code has it
  by_count : (P : RootTo → Type 0) → P x → P (rooted_at y u h (larger size (h + rows y)))
  by_count P = subst (λ (d : ℕ). P (rooted_at y u h (larger size (h + d)))) (count_same y)

-- ---- Loading ---------------------------------------------------------------------------------

module _ (n : ℕ) (bytes : List ℕ) (t : List NodeRecord) where
  abbrev z : ReadTo
  z = read_all n bytes word_limit first_run first_opens t

  reaches : n ≤ option_limit → table_limit ≤ length t → ReachedBy n bytes word_limit z.reached z.table
  reaches few room = read-reaches n bytes few word_limit first_run first_opens t (stands-first n bytes t room) (omega arith)

  reads : n ≤ option_limit → table_limit ≤ length t → Reads n bytes z.reached z.table
  reads few room = all-reads n bytes z.reached z.table few (reaches few room)

  -- the three ways
  load-ways : (P : LoadTo → Type 0) → (option_limit < n → P (refused_load C.option_count t))
      → (n ≤ option_limit → length t < table_limit → P (refused_load C.work_table t))
      → (n ≤ option_limit → table_limit ≤ length t → P (load_of z)) → P (load n bytes t)
  load-ways P many short on = ⊎_elim
      (λ (few : n ≤ option_limit). ⊎_elim
      (λ (room : table_limit ≤ length t). subst P (sym (load-on n bytes t few room)) (on few room))
      (λ (h : length t < table_limit). subst P (load-table n bytes t (refused_load C.work_table t) few h refl) (short few h))
      (decide-le table_limit (length t)))
      (λ (h : option_limit < n). subst P (load-options n bytes t (refused_load C.option_count t) h refl) (many h))
      (decide-le n option_limit)

  -- LOADING ANSWERS as checking does.
  pub load-answer : (load n bytes t).answer ≡ (R.check no_record n bytes t).answer
  load-answer = load-ways (λ (x : LoadTo). x.answer ≡ (R.check no_record n bytes t).answer)
      (λ h. ap (λ (x : R.Read R.Checked NodeRecord). x.answer) (check-options n bytes t _ h refl))
      (λ few h. ap (λ (x : R.Read R.Checked NodeRecord). x.answer) (check-table n bytes t _ few h refl))
      (λ few room. ap (λ (x : R.Read R.Checked NodeRecord). x.answer)
      (check-correct n bytes t (checked_by z.reached) (C.cleared no_record t) z.reached z.table few room (reads few room) refl refl))

  -- The table is as long as it was.
  pub load-length : length (load n bytes t).table ≡ length t
  load-length = load-ways (λ (x : LoadTo). length x.table ≡ length t) (λ h. refl) (λ few h. refl)
      (λ few room. root-length z.reached z.table ∙ read_length (suc (length bytes)) n bytes word_limit first_run first_opens 0 0 t)

  -- It is ordered, whole or not.
  pub load-ordered : (x : LoadTo) → x ≡ load n bytes t → Ordered (table_of x.table x.size)
  load-ordered x called = subst (λ (x : LoadTo). Ordered (table_of x.table x.size)) (sym called)
      (load-ways (λ (x : LoadTo). Ordered (table_of x.table x.size)) (λ h. none-ordered t) (λ few h. none-ordered t)
      (λ few room. let r = (reaches few room).stands in
      rooted-ways (λ (x : RootTo). Ordered (table_of x.table x.size)) z.reached z.table r.kept.small
      (stands-ordered n bytes z.reached.run z.reached.opens z.table r)
      (λ can fits. by_count n bytes z.reached z.table (reads few room) r can fits (λ (x : RootTo). Ordered (table_of x.table x.size))
      (rooted-ordered n bytes z.reached z.table (reads few room) r can fits))))

-- x: what a call comes to, which is whole
module _ (n : ℕ) (bytes : List ℕ) (t : List NodeRecord) (x : LoadTo) (called : x ≡ load n bytes t) (whole : x.whole ≡ true) where
  abbrev y : ReadReached
  y = (z n bytes t).reached

  abbrev u : List NodeRecord
  u = (z n bytes t).table

  -- what holds of what was read, where the table has it
  by_whole : (P : LoadTo → Type 0)
      → (Reads n bytes y u → Stands n bytes y.run y.opens u → CanRoot y u
      → last_below y u (rows y) + rows y ≤ table_limit
      → P (loaded_as y (rooted_at y u (last_below y u (rows y)) (larger y.run.size (last_below y u (rows y) + rows y)))))
      → P x
  by_whole P k = subst P (sym called) (load-ways n bytes t (λ (x : LoadTo). x.whole ≡ true → P x)
      (λ h e. absurd (false≢true e)) (λ few h e. absurd (false≢true e))
      (λ few room. rooted-ways (λ (x : RootTo). x.whole ≡ true → P (loaded_as y x)) y u (reaches n bytes t few room).stands.kept.small
      (λ e. absurd (false≢true e))
      (λ can fits e. k (reads n bytes t few room) (reaches n bytes t few room).stands can fits))
      (ap (λ (x : LoadTo). x.whole) (sym called) ∙ whole))

  -- THE NUMBER SHOWS WHAT THE STREAM DECIDES: by the table as it is left it decides every word, and those that the stream decides as the stream does.
  pub load-shows : (w : ℕ) → w < 2 ^ n → (d : Bool)
      × ((complemented x.complement (table_walk (table_of x.table x.size) 1 x.number (options n w)) ≡ decided d)
      × ((e : Bool) → decision n bytes w ≡ decided e → e ≡ d))
  load-shows w l = by_whole (λ (x : LoadTo). Shows (decision n bytes w)
      (complemented x.complement (table_walk (table_of x.table x.size) 1 x.number (options n w))))
      (λ read stands can fits. by_count n bytes y u read stands can fits
      (λ (x : RootTo). Shows (decision n bytes w) (complemented y.run.complement (table_walk (table_of x.table x.size) 1 x.number (options n w))))
      (rooted-shows n bytes y u read stands can fits w))

  -- Each record says of the words below its node what they are.
  pub load-held : Worded x.table x.size
  load-held = by_whole (λ (x : LoadTo). Worded x.table x.size)
      (λ read stands can fits. by_count n bytes y u read stands can fits (λ (x : RootTo). Worded x.table x.size)
      (rooted-worded n bytes y u read stands can fits))

  -- The number has a level, unless it is the terminal's.
  pub load-deep : 0 < x.number → 1 ≤ (node (table_of x.table x.size) x.number).level
  load-deep = by_whole (λ (x : LoadTo). 0 < x.number → 1 ≤ (node (table_of x.table x.size) x.number).level)
      (λ read stands can fits. by_count n bytes y u read stands can fits
      (λ (x : RootTo). 0 < x.number → 1 ≤ (node (table_of x.table x.size) x.number).level)
      (rooted-deep n bytes y u read stands can fits))
