-- A stream read to its end into its table, as code does it: what checking answers, and the number of the outermost node, if the table has it. With a
-- law for each way through code. Assumes nothing.
use Rattle.std.specs.Prelude.{◌≡◌, Bool, cond, not, ◌&&◌, ◌||◌, ℕ, ◌+◌, ◌-◌, ◌<◌, ◌≤◌, eqb, length, replicate, Option, Some, None, is_some, unwrap_or, max}
use Rattle.std.proofs.Math.Path.{refl, ap, ap₂}
use Rattle.std.proofs.Common.{sym, ◌∙◌, arith, ltb-true, ltb-false}
use Rattle.std.proofs.Math.Bool.{true, false}
use mathlib.Core.List.{List, ◌∷◌}
use Rattle.std.proofs.Math.Dec.{ltb}
use borrow.Author.Tests.{eq-eqb, ne_eqb, lt-ltb, le-ltb}
use Rattle.theory_reading.specs.Limits.{option_limit, open_limit, table_limit, word_limit}
use Rattle.theory_reading.specs.Causes as C
use Rattle.theory_reading.specs.Calls as R
use Rattle.theory_reading.specs.Element as T
use Rattle.theory_reading.specs.Reading.{is_two}
use Rattle.theory_reading.specs.Deciding.{ended}
use Rattle.theory_reading.specs.Spine.{firsts_stay, spine_number}
use Rattle.elements.specs.Abstraction.{ref_of, context_of, inside_open, opens_of, deep_of, open_list}
use Rattle.elements.specs.OpenLaws.{open-length}
use Rattle.work_table.specs.TableLaws.{table_of}
use Rattle.reader.specs.OpenNodes.{ReadReached, cursor_in}
use Rattle.cursors.specs.Cursors.{first_run}
use Rattle.reader.specs.Loop.{first_opens, stands-first}
use Rattle.answers.specs.Answers.{checking_of}
use Rattle.checker.specs.CheckCorrect.{checked_by}
use Rattle.cursors.specs.Cursors.{start_cursor}
use Rattle.reader.specs.Legs.{bare}
use Rattle.reader.specs.ReadOn.{ReadTo, read_on, read_all, first_cursor, read_from, read-within}
use Rattle.blocks.specs.Spine.{stays_in, highest_in, spine_record, worded_at, spine_at}
use Rattle.blocks.specs.declared.Loaded.{Loaded}
use Rattle.blocks.specs.declared.Rooted.{Rooted}
use Rattle.cursors.specs.declared.Cursor.{Cursor}
use Rattle.cursors.specs.declared.Pair.{Pair}
use Rattle.cursors.specs.declared.Run.{Run}
use Rattle.node_records.specs.declared.NodeRecord.{NodeRecord}

-- ---- Definitions -----------------------------------------------------------------------------

-- what loading comes to: the answer of checking; whether the table has the outermost node, as far as it was read; the size, and the number of that node
-- (0: the terminal), turned about or not; the table
pub record LoadTo : Type 0 where
  pub answer : C.Result R.Checked
  pub whole : Bool
  pub size : ℕ
  pub number : ℕ
  pub complement : Bool
  pub table : List NodeRecord

-- as code has it; u: the table after it
abbrev pub load_in : Loaded → List NodeRecord → LoadTo
load_in x u = record {
  answer = checking_of x.checking;
  whole = x.whole;
  size = x.block.cursor.run.size;
  number = x.block.number;
  complement =
      x.block.complement;
  table = u;
}

-- turned down before anything is read
abbrev pub refused_load : C.Cause → List NodeRecord → LoadTo
refused_load c t = record { answer = C.refused (C.refusal c 0 0); whole = false; size = 0; number = 0; complement = false; table = t }

-- one number that stands for all that was read, and the size of its table; the table
pub record RootTo : Type 0 where
  pub whole : Bool
  pub size : ℕ
  pub number : ℕ
  pub table : List NodeRecord

-- there is none
abbrev pub unrooted : ℕ → List NodeRecord → RootTo
unrooted z t = record { whole = false; size = z; number = 0; table = t }

-- as code has it, where the table had z numbers before; u: the table after it
abbrev pub rooting_in : ℕ → Option Rooted → List NodeRecord → RootTo
rooting_in z None u = unrooted z u
rooting_in z (Some x) u = record { whole = true; size = x.size; number = x.number; table = u }

-- ---- The open nodes, with a two-child node that has just ended

-- such a node has no number yet, and counts as open, with its second child read
abbrev pub pair_open : Pair → T.Open
pair_open p = T.in_second (ref_of p.first) p.complement

-- the open nodes
abbrev pub rows_in : ReadReached → List T.Open
rows_in y = cond (is_two (context_of y.run.context)) (pair_open y.run.pair ∷ open_list y.opens) (open_list y.opens)

-- how many; d: the depth, m: the context
abbrev pub row_count : ℕ → T.Context → ℕ
row_count d m = cond (is_two m) (deep_of d + 1) (deep_of d)

-- the number of what ended last, if a node has just ended, below these
abbrev pub last_in : Run → ℕ
last_in r = cond (ended (context_of r.context)) (cond (is_two (context_of r.context)) r.pair.second.number r.last.number) 0

-- what ended last is the terminal or was not given out again; of a two-child node: both its children
abbrev pub last_stays : List NodeRecord → Run → Bool
last_stays t r =
    cond (is_two (context_of r.context)) (stays_in t r.size r.pair.first && stays_in t r.size r.pair.second) (stays_in t r.size r.last)

-- no fault was met, and the table has what ended last, if a node has just ended, and the first children of all open nodes
abbrev pub can_root : ReadReached → List NodeRecord → Bool
can_root y t =
    not y.faulty && ((not (ended (context_of y.run.context)) || last_stays t y.run)
    && firsts_stay (table_of t y.run.size) (open_list y.opens))

-- the open nodes get the numbers above h, in a table of z numbers
abbrev pub rooted_at : ReadReached → List NodeRecord → ℕ → ℕ → RootTo
rooted_at y t h z = record {
  whole = true;
  size = z;
  number = spine_number (rows_in y) (h + 1) (last_in y.run);
  table = spine_at t z (rows_in y) (h + 1) (last_in y.run);
}

-- the larger number
abbrev pub larger : ℕ → ℕ → ℕ
larger z m = cond (ltb z m) m z

pub larger-max : (z m : ℕ) → max z m ≡ larger z m
larger-max z m = go (ltb z m) refl
  where
    go : (b : Bool) → ltb z m ≡ b → max z m ≡ cond b m z
    go true e = omega (arith, ltb-true z m e)
    go false e = omega (arith, ltb-false z m e)

-- h: no number above it has a node
abbrev pub root_above : ReadReached → List NodeRecord → ℕ → RootTo
root_above y t h =
    let d = row_count y.opens.depth (context_of y.run.context) in
    cond (ltb table_limit (h + d)) (unrooted y.run.size t) (rooted_at y t h (larger y.run.size (h + d)))

-- where no node is open
abbrev pub rooted_bare : ReadReached → List NodeRecord → RootTo
rooted_bare y t = record { whole = true; size = y.run.size; number = last_in y.run; table = t }

-- the number above which d open nodes get records: so many numbers are left above it, unless one of them has a node
abbrev pub last_below : ReadReached → List NodeRecord → ℕ → ℕ
last_below y t d = highest_in t (table_limit - d) y.run.size

-- The open nodes get records, above all numbers that have a node, if there is room.
unfoldable pub root_in : ReadReached → List NodeRecord → RootTo
root_in y t =
    let d = row_count y.opens.depth (context_of y.run.context) in
    cond (can_root y t) (cond (eqb d 0) (rooted_bare y t) (root_above y t (last_below y t d))) (unrooted y.run.size t)

-- what is made of what the loop reaches; x: the number that stands for it
abbrev pub loaded_as : ReadReached → RootTo → LoadTo
loaded_as y x = record {
  answer = checked_by y;
  whole = x.whole;
  size = x.size;
  number = x.number;
  complement = y.run.complement;
  table = x.table;
}

abbrev pub load_of : ReadTo → LoadTo
load_of z = loaded_as z.reached (root_in z.reached z.table)

-- LOADING a stream: causes 1 and 4, then the stream is read to its end
unfoldable pub load : ℕ → List ℕ → List NodeRecord → LoadTo
unfolding read_on root_in
load n bytes t =
    cond (ltb option_limit n) (refused_load C.option_count t)
    (cond (ltb (length t) table_limit) (refused_load C.work_table t) (load_of (read_all n bytes word_limit first_run first_opens t)))

-- ---- The ways through code -------------------------------------------------------------------

-- y: what the loop reaches
module _ (y : ReadReached) (t : List NodeRecord) where
  pub root-cannot : (x : RootTo) → false ≡ can_root y t → x ≡ unrooted y.run.size t → x ≡ root_in y t
  unfolding root_in
  root-cannot x c e = rw (sym c) e

  -- d: the count of open nodes
  abbrev counted : ℕ
  counted = row_count y.opens.depth (context_of y.run.context)

  pub root-bare : (d : ℕ) → d ≡ counted → true ≡ can_root y t → d ≡ 0 → (e : ℕ) → e ≡ last_in y.run
      → record { whole = true; size = y.run.size; number = e; table = t } ≡ root_in y t
  unfolding root_in
  root-bare d de can none e ee =
      rw (sym can, eq-eqb counted 0 (sym de ∙ none)) (ap (λ (e : ℕ). record { whole = true; size = y.run.size; number = e; table = t }) ee)

  -- h: no number above it has a node
  module _ (h d : ℕ) (he : h ≡ last_below y t d) (de : d ≡ counted) (can : true ≡ can_root y t) (some : d ≡ 0 → ⊥) where
    below : h ≡ last_below y t counted
    below = he ∙ ap (last_below y t) de

    real : eqb counted 0 ≡ false
    real = ne_eqb counted 0 (λ e. some (de ∙ e))

    pub root-full : (x : RootTo) → table_limit < h + d → x ≡ unrooted y.run.size t → x ≡ root_in y t
    unfolding root_in
    root-full x l e =
        let q : ltb table_limit (last_below y t counted + counted) ≡ true
        = lt-ltb table_limit (last_below y t counted + counted) (omega (arith, l, below, de)) in
        rw (sym can, real, q) e

    -- z: the size; m, u: the number of the outermost node, and the table
    pub root-done : h + d ≤ table_limit → (z : ℕ) → z ≡ larger y.run.size (h + d) → (m : ℕ) (u : List NodeRecord)
        → (u ≡ spine_at t z (rows_in y) (h + 1) (last_in y.run)) × (m ≡ spine_number (rows_in y) (h + 1) (last_in y.run))
        → record { whole = true; size = z; number = m; table = u } ≡ root_in y t
    unfolding root_in
    root-done l z ze m u p =
        let q : ltb table_limit (last_below y t counted + counted) ≡ false
        = le-ltb table_limit (last_below y t counted + counted) (omega (arith, l, below, de)) in
        let s : z ≡ larger y.run.size (last_below y t counted + counted) = ze
        ∙ ap₂ (λ (h d : ℕ). larger y.run.size (h + d)) below de in
        rw (sym can, real, q) (ap₂ (λ (u : List NodeRecord) (m : ℕ). record { whole = true; size = z; number = m; table = u }) p.0 p.1
        ∙ ap (λ (h : ℕ). rooted_at y t h z) below
        ∙ ap (rooted_at y t (last_below y t counted)) s)

  -- ---- The records

  -- d: the depth; e: what ended last
  module _ (z k d e : ℕ) (de : d ≡ deep_of y.opens.depth) (ee : e ≡ last_in y.run) (v : List NodeRecord) (m : ℕ) where
    rows_alike : (l : List T.Open) → l ≡ rows_in y → (v ≡ spine_at t z l k e) × (m ≡ spine_number l k e)
        → (v ≡ spine_at t z (rows_in y) k (last_in y.run)) × (m ≡ spine_number (rows_in y) k (last_in y.run))
    rows_alike l le p = (p.0 ∙ ap₂ (λ (l : List T.Open) (e : ℕ). spine_at t z l k e) le ee, p.1 ∙ ap₂ (λ (l : List T.Open) (e : ℕ). spine_number l k e) le ee)

    -- x, u: the record of the two-child node, and the table with it
    pub rows-two : is_two (context_of y.run.context) ≡ true → (x : NodeRecord) → x ≡ spine_record (pair_open y.run.pair) (d + 1) e
        → (u : List NodeRecord) → u ≡ worded_at t z k x
        → (v ≡ spine_at u z (opens_of y.opens.nodes d) (k + 1) k) × (m ≡ spine_number (opens_of y.opens.nodes d) (k + 1) k)
        → (v ≡ spine_at t z (rows_in y) k (last_in y.run)) × (m ≡ spine_number (rows_in y) k (last_in y.run))
    rows-two two x xe u ue p =
        let l : d ≡ length (opens_of y.opens.nodes d) = sym (open-length y.opens.nodes d) in
        rows_alike (pair_open y.run.pair ∷ opens_of y.opens.nodes d)
        (ap (λ (d : ℕ). pair_open y.run.pair ∷ opens_of y.opens.nodes d) de ∙ rw two refl) (
          p.0 ∙ ap (λ (u : List NodeRecord). spine_at u z (opens_of y.opens.nodes d) (k + 1) k)
              (ue ∙ ap (worded_at t z k) (xe ∙ ap (λ (i : ℕ). spine_record (pair_open y.run.pair) (i + 1) e) l)),
          p.1,
        )

module _ (n : ℕ) (bytes : List ℕ) (t : List NodeRecord) where
  pub load-options : (x : LoadTo) → option_limit < n → x ≡ refused_load C.option_count t → x ≡ load n bytes t
  unfolding load
  load-options x h e = rw (lt-ltb option_limit n h) e

  pub load-table : (x : LoadTo) → n ≤ option_limit → length t < table_limit → x ≡ refused_load C.work_table t → x ≡ load n bytes t
  unfolding load
  load-table x few h e = rw (le-ltb option_limit n few, lt-ltb (length t) table_limit h) e

  -- where the stream is read
  pub load-on : n ≤ option_limit → table_limit ≤ length t → load n bytes t ≡ load_of (read_all n bytes word_limit first_run first_opens t)
  unfolding load
  load-on few room = rw (le-ltb option_limit n few, le-ltb (length t) table_limit room) refl

  -- y, u: what the loop reaches, and the table after it; x: what is made of it, as code has it
  pub load-correct : n ≤ option_limit → table_limit ≤ length t → (c : Cursor) → c ≡ start_cursor → (y : ReadReached) (u : List NodeRecord)
      → record { reached = y; table = u } ≡ read_from n bytes word_limit (cursor_in c (replicate open_limit inside_open)) t
      → (x : LoadTo) → x ≡ load_of (record { reached = y; table = u }) → x ≡ load n bytes t
  load-correct few room c ce y u k x xe =
      xe
      ∙ ap load_of (k
      ∙ ap (λ (c : Cursor). read_from n bytes word_limit (cursor_in c (replicate open_limit inside_open)) t) ce
      ∙ read-within n bytes few word_limit (omega arith) first_cursor t (stands-first n bytes t room))
      ∙ sym (load-on few room)

-- y, u: what the loop reaches, and the table after it; x, v: the number that stands for it, and the table then; w: that number, or 0; a, z, k, p: the answer,
-- and what the block has
pub load-made : (y : ReadReached) (u : List NodeRecord) (x : Option Rooted) (v : List NodeRecord) → rooting_in y.run.size x v ≡ root_in y u
    → (w : Rooted) → w ≡ unwrap_or x (record { size = y.run.size; number = 0 }) → (a : C.Result R.Checked) → a ≡ checked_by y
    → (z k : ℕ) (p : Bool) → (z ≡ w.size) × ((k ≡ w.number) × (p ≡ y.run.complement))
    → record { answer = a; whole = is_some x; size = z; number = k; complement = p; table = v } ≡ load_of (record { reached = y; table = u })
load-made y u None v xe w we a ae z k p b = rw (b.0, b.1.0, b.1.1, we, ae) (ap (loaded_as y) xe)
load-made y u (Some x) v xe w we a ae z k p b = rw (b.0, b.1.0, b.1.1, we, ae) (ap (loaded_as y) xe)

-- What the last element passed does not count.
pub load-bare : (z w : ReadTo) → bare z ≡ bare w → load_of z ≡ load_of w
unfolding root_in
load-bare z w e = ap load_of e
