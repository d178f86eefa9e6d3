-- What code takes for an element is document 01's: the records that code holds, read as the theory's state. Assumes nothing.
use Rattle.std.specs.Prelude.{◌≡◌, Bool, cond, not, ◌||◌, List, [], ◌∷◌, ℕ, suc, ◌+◌, ◌<◌, ◌≤◌, length, set, replicate}
use Rattle.std.proofs.Math.Path.{refl}
use Rattle.std.proofs.Common.{sym, ap, ap₂, ◌∙◌, subst, add-one, arith, eqb-true, lt-ltb, ne_eqb, ltb-false}
use Rattle.std.proofs.Math.Bool.{true, false}
use Rattle.std.proofs.lemmas.Bool.{false≢true, eqb-false}
use Rattle.std.proofs.Math.Option.{Option, none, some}
use Prim.{Unit}
use Rattle.std.proofs.Math.Dec.{ltb, eqb}
use Rattle.theory_reading.specs.Limits.{table_limit}
use Rattle.theory_reading.specs.Nodes.{Node, new_node, no_node, node, stamp, is_kept, child, terminal, entry, temporary, has_parent}
use Rattle.theory_reading.specs.Element as T
use Rattle.theory_reading.specs.Causes.{too_deep, not_storable, bad_number}
use Rattle.theory_reading.specs.Reading.{Children, children, State, state, Fault, Reading, goes, fails, words_at, ending, is_start, sized, found}
use Rattle.theory_reading.specs.Reading.{closed, is_bad, stored, with_element}
use Rattle.theory_reading.specs.ParentCounts.{parents, parents-none}
use Rattle.elements.specs.Abstraction.{context_of, ref_of, entry_ref, element_of, cause_of, open_of}
use Rattle.elements.specs.declared.Cause.TheVariants.{WrongByte, TooDeep, NotStorable, BadNumber}
use Rattle.elements.specs.declared.Element.{Element}
use Rattle.elements.specs.declared.Element.TheVariants.{Opening, Number, Constant, Turn, Closing, Storing, End}
use Rattle.elements.specs.declared.Context.{Context}
use Rattle.elements.specs.declared.Open.{Open}
use Rattle.elements.specs.declared.Ref.{Ref}
use Rattle.cursors.specs.declared.Pair.{Pair}
use Rattle.cursors.specs.declared.Run.{Run}
use Rattle.node_records.specs.declared.NodeRecord.{NodeRecord}
use Rattle.work_table.specs.TableLaws.{record_node}
use Rattle.cursors.specs.Cursors.{is_kept_of}
use Rattle.reader.specs.Taking.{TakenView, goes_of, fails_of, moved_to, passed_to, sized_to, found_to, closed_two, closed_to, is_bad_of, next_stamp}
use Rattle.reader.specs.Taking.{stored_run, stored_to, taken_of}

-- ---- The records as the theory's -------------------------------------------------------------

abbrev pub pair_of : Pair → Children
pair_of p = children (ref_of p.first) p.complement (ref_of p.second)

-- a run inside the open nodes os, with the table t
abbrev pub state_of : Run → List T.Open → List Node → State
state_of r os t = state (T.place r.at (context_of r.context) os (ref_of r.last)) r.size r.covered r.complement t (pair_of r.pair)

abbrev pub fault_of : TakenView → Option Fault
fault_of y = cond y.faulty (some (record { cause = cause_of y.cause; byte = y.byte })) none

abbrev pub reading_of : TakenView → List T.Open → List Node → Reading
reading_of y os t = record { state = state_of y.run os t; fault = fault_of y }

-- The record that a storing writes, d nodes being open. x: the row of the number before
abbrev pub node_to : Run → ℕ → NodeRecord → Node
node_to r d x = new_node (d + 1) r.pair.first.number r.pair.second.number r.pair.complement (next_stamp x.stamp)

-- The table after an element: a size makes a new one, a storing writes one record. r: the run before; y: what was taken
abbrev pub table_to : Run → ℕ → Element → NodeRecord → TakenView → List Node → List Node
table_to r d Opening x y t = t
table_to r d (Number v) x y t = cond (is_start (context_of r.context)) (cond y.faulty t (replicate (suc v) no_node)) t
table_to r d Constant x y t = t
table_to r d Turn x y t = t
table_to r d Closing x y t = t
table_to r d (Storing k) x y t = cond y.stores (set t k (node_to r d x)) t
table_to r d End x y t = t

-- o is the innermost of the open nodes, if there is one
abbrev pub Innermost : List T.Open → Open → Type 0
Innermost [] o = Unit {0}
Innermost (p ∷ os) o = p ≡ open_of o

-- x is the row of number k in a table of z numbers: a number of the table comes with the count of its parents, and its stamp can grow
pub record RecordAt (z : ℕ) (t : List Node) (k : ℕ) (x : NodeRecord) : Type 0 where
  pub same : record_node x ≡ node t k
  pub counts : (k ≡ 0 → ⊥) → k ≤ z → x.parents ≡ parents t k
  pub young : x.stamp < 4294967295

-- x is the row of the element's number, if it has one; parents and stamp count for a storing only
abbrev pub Wanted : Run → List Node → Element → NodeRecord → Type 0
Wanted r t Opening x = Unit {0}
Wanted r t (Number v) x = (record_node x ≡ node t v) × (v ≡ 0 → x.level ≡ 0)
Wanted r t Constant x = Unit {0}
Wanted r t Turn x = Unit {0}
Wanted r t Closing x = Unit {0}
Wanted r t (Storing k) x = RecordAt r.size t k x
Wanted r t End x = Unit {0}

-- ---- One element -----------------------------------------------------------------------------

-- what a node refers to, by its number
ref-ways : (a : Ref) → (a.number ≡ child (ref_of a)) × (is_kept_of a ≡ is_kept (ref_of a))
ref-ways a = go (eqb a.number 0) refl (eqb a.stamp 0)
  where
    go : (t : Bool) → eqb a.number 0 ≡ t → (u : Bool) → let r = cond t (cond u terminal temporary) (entry a.number a.stamp) in
        (a.number ≡ child r) × (cond t u true ≡ is_kept r)
    go true e true = (eqb-true a.number 0 e, refl)
    go true e false = (eqb-true a.number 0 e, refl)
    go false e u = (refl, refl)

-- The number of a child is the paper's.
pub child-of : (a : Ref) → a.number ≡ child (ref_of a)
child-of a = (ref-ways a).0

entry_of : (k g : ℕ) → (k ≡ 0 → ⊥) → ref_of (entry_ref k g) ≡ entry k g
entry_of k g h = rw (ne_eqb k 0 h) refl

young-next : (g : ℕ) → g < 4294967295 → next_stamp g ≡ suc g
young-next g h = rw (lt-ltb g 4294967295 h) (add-one g)

-- the place after, inside the open nodes os
abbrev next : Run → List T.Open → ℕ → Context → T.Place
next r os at m = T.place at (context_of m) os (ref_of r.last)

-- r: the run before; os, t: the open nodes and the table before; at, m, os': the place after
module _ (n : ℕ) (r : Run) (os os' : List T.Open) (t : List Node) (at : ℕ) (m : Context) where
  abbrev before : State
  before = state_of r os t

  abbrev onto : T.Place
  onto = next r os' at m

  -- at a fault the open nodes stay
  abbrev taken : TakenView → List Node → Reading
  taken y u = reading_of y (cond y.faulty os os') u

  take-opening : (b : Bool) → taken (cond b (fails_of r TooDeep r.at) (goes_of (moved_to r at m))) t
      ≡ cond b (fails before too_deep r.at) (goes (state onto r.size r.covered r.complement t (pair_of r.pair)))
  take-opening true = refl
  take-opening false = refl

  take-size : (g v : ℕ) → let y = sized_to r g v at m in taken y (cond y.faulty t (replicate (suc v) no_node)) ≡ sized before onto g v
  take-size g v = go (ltb table_limit v) refl
    where
      go : (b : Bool) → ltb table_limit v ≡ b → let y = sized_to r g v at m in taken y (cond y.faulty t (replicate (suc v) no_node))
          ≡ sized before onto g v
      go true e = rw e refl
      go false e = rw e refl

  take_found : (g v : ℕ) (x : NodeRecord) → (v ≡ 0 → x.level ≡ 0) → taken (found_to n r (length os) g v x at m) t
      ≡ found n before onto g v (record_node x)
  take_found g v x real = go (eqb x.level 0) (eqb x.level (length os + 1)) refl refl
    where
      go : (a b : Bool) → eqb x.level 0 ≡ a → eqb x.level (length os + 1) ≡ b → taken (found_to n r (length os) g v x at m) t
          ≡ found n before onto g v (record_node x)
      go true b e f = rw e refl
      go false true e f = rw (e, f, entry_of v x.stamp (λ z. eqb-false x.level 0 e (real z))) refl
      go false false e f = rw (e, f) refl

  take-number : (g v : ℕ) (x : NodeRecord) → record_node x ≡ node t v → (v ≡ 0 → x.level ≡ 0)
      → let y = cond (is_start (context_of r.context)) (sized_to r g v at m) (found_to n r (length os) g v x at m) in
      taken y (cond (is_start (context_of r.context)) (cond y.faulty t (replicate (suc v) no_node)) t)
      ≡ cond (is_start (context_of r.context)) (sized before onto g v) (found n before onto g v (node t v))
  take-number g v x h real = go (is_start (context_of r.context))
    where
      go : (b : Bool) → let y = cond b (sized_to r g v at m) (found_to n r (length os) g v x at m) in
          taken y (cond b (cond y.faulty t (replicate (suc v) no_node)) t) ≡ cond b (sized before onto g v) (found n before onto g v (node t v))
      go true = take-size g v
      go false = take_found g v x real ∙ ap (found n before onto g v) h

  -- a child ends in `)` alone: it must be kept
  take-one : taken (cond (is_kept_of r.last) (goes_of (passed_to n r (length os) r.last at m)) (fails_of r NotStorable r.at)) t
      ≡ cond (is_kept (ref_of r.last)) (goes (state onto r.size (r.covered + words_at n before.place) r.complement t (pair_of r.pair)))
      (fails before not_storable r.at)
  take-one = go (is_kept_of r.last) ∙ ap (λ (b : Bool). cond b (goes
      (state onto r.size (r.covered + words_at n before.place) r.complement t (pair_of r.pair))) (fails before not_storable r.at))
      (ref-ways r.last).1
    where
      go : (b : Bool) → taken (cond b (goes_of (passed_to n r (length os) r.last at m)) (fails_of r NotStorable r.at)) t
          ≡ cond b (goes (state onto r.size (r.covered + words_at n before.place) r.complement t (pair_of r.pair)))
          (fails before not_storable r.at)
      go true = refl
      go false = refl

  -- a number with a parent, by the count
  parent-same : (k : ℕ) (x : NodeRecord) → x.parents ≡ parents t k
      → (not (eqb x.parents 0) || (eqb r.pair.first.number k || eqb r.pair.second.number k))
      ≡ (has_parent t k || (eqb (child (ref_of r.pair.first)) k || eqb (child (ref_of r.pair.second)) k))
  parent-same k x h =
      let p : not (eqb x.parents 0) ≡ has_parent t k = ap (λ (c : ℕ). not (eqb c 0)) h ∙ sym (parents-none t k) in
      ap₂ (λ (b : Bool) (a : ℕ). b || (eqb a k || eqb r.pair.second.number k)) p (child-of r.pair.first)
      ∙ ap (λ (a : ℕ). has_parent t k || (eqb (child (ref_of r.pair.first)) k || eqb a k)) (child-of r.pair.second)

  -- a number that is not of the table is bad whatever its parents are
  bad-same : (k : ℕ) (x : NodeRecord) → ((k ≡ 0 → ⊥) → k ≤ r.size → x.parents ≡ parents t k) → is_bad_of r k x ≡ is_bad before k
  unfolding is_bad
  bad-same k x h = go (eqb k 0) (ltb r.size k) refl refl
    where
      go : (a b : Bool) → eqb k 0 ≡ a → ltb r.size k ≡ b
          → ((a || b) || (not (eqb x.parents 0) || (eqb r.pair.first.number k || eqb r.pair.second.number k)))
          ≡ ((a || b) || (has_parent t k || (eqb (child (ref_of r.pair.first)) k || eqb (child (ref_of r.pair.second)) k)))
      go true b e f = refl
      go false true e f = refl
      go false false e f = parent-same k x (h (eqb-false k 0 e) (ltb-false r.size k f))

  -- the state after a storing with the stamp g and the children a and b
  abbrev stored_with : ℕ → ℕ → ℕ → ℕ → State
  stored_with k g a b = state (ending (entry k g) onto) r.size r.covered r.complement
      (set t k (new_node (length os + 1) a b r.pair.complement g)) (pair_of r.pair)

  stored_same : (k : ℕ) (x : NodeRecord) → RecordAt r.size t k x → stored_with k (next_stamp x.stamp) r.pair.first.number
      r.pair.second.number ≡ stored before onto k
  stored_same k x h =
      ap (λ (g : ℕ). stored_with k g r.pair.first.number r.pair.second.number)
      (young-next x.stamp h.young ∙ ap (λ (y : Node). suc y.stamp) h.same)
      ∙ ap₂ (stored_with k (suc (stamp t k))) (child-of r.pair.first) (child-of r.pair.second)

  take-storing : (k : ℕ) (x : NodeRecord) → RecordAt r.size t k x → let y = stored_to r k x at m in
      taken y (cond y.stores (set t k (node_to r (length os) x)) t)
      ≡ cond (is_bad before k) (fails before bad_number (r.at + 1)) (goes (stored before onto k))
  take-storing k x h = go (is_bad_of r k x) refl ∙ ap₂ (λ (b : Bool) (s : State). cond b (fails before bad_number (r.at + 1)) (goes s))
      (bad-same k x h.counts) (stored_same k x h)
    where
      real : is_bad_of r k x ≡ false → k ≡ 0 → ⊥
      real e z = false≢true (sym e ∙ rw z refl)

      go : (b : Bool) → is_bad_of r k x ≡ b → let y = cond b (fails_of r BadNumber (r.at + 1))
          (record { run = stored_run r k x at m; faulty = false; cause = WrongByte; byte = 0; sizes = false; stores = true }) in
          taken y (cond y.stores (set t k (node_to r (length os) x)) t)
          ≡ cond b (fails before bad_number (r.at + 1)) (goes (stored_with k (next_stamp x.stamp) r.pair.first.number
          r.pair.second.number))
      go true e = refl
      go false e = rw (entry_of k (next_stamp x.stamp) (real e)) refl

-- the innermost open node is closed, which o is
take-closing : (n : ℕ) (r : Run) (os os' : List T.Open) (t : List Node) (o : Open) (at : ℕ) (m : Context) → Innermost os o
    → taken n r os os' t at m (closed_to n r (length os) o at m) t ≡ closed n (state_of r os t) (next r os' at m) os
take-closing n r [] os' t o at m h = refl
take-closing n r (p ∷ os) os' t o at m h =
    let inside : eqb (suc (length os)) 0 ≡ false = ne_eqb (suc (length os)) 0 (λ e. omega (arith, e)) in
    subst (λ (p : T.Open). taken n r (p ∷ os) os' t at m (closed_to n r (length (p ∷ os)) o at m) t
    ≡ closed n (state_of r (p ∷ os) t) (next r os' at m) (p ∷ os)) (sym h) (rw inside (go o.second))
  where
    go : (b : Bool) → let p = cond b (T.in_second (ref_of o.first) o.complement) T.in_first in
        taken n r (p ∷ os) os' t at m (cond b (goes_of (closed_two r o at m))
        (cond (is_kept_of r.last) (goes_of (passed_to n r (suc (length os)) r.last at m)) (fails_of r NotStorable r.at))) t
        ≡ closed n (state_of r (p ∷ os) t) (next r os' at m) (p ∷ os)
    go true = refl
    go false = take-one n r (T.in_first ∷ os) os' t at m

-- ONE ELEMENT as code takes it is one element more of document 01. o: the innermost open node; x: the row of the element's number;
-- os, t: the open nodes and the table before, which stay at a fault; at, m, os': the place after
pub take-with : (n : ℕ) (r : Run) (os os' : List T.Open) (t : List Node) (o : Open) (g : ℕ) (e : Element) (x : NodeRecord) (at : ℕ) (m : Context)
    → Innermost os o → Wanted r t e x
    → let y = taken_of n r (length os) o g e x at m in
    reading_of y (cond y.faulty os os') (table_to r (length os) e x y t)
    ≡ with_element n (state_of r os t) g (element_of e) (T.place at (context_of m) os' (ref_of r.last))
unfolding with_element
take-with n r os os' t o g Opening x at m i w = take-opening n r os os' t at m (ltb n (length os + 1))
take-with n r os os' t o g (Number v) x at m i w = take-number n r os os' t at m g v x w.0 w.1
take-with n r os os' t o g Constant x at m i w = refl
take-with n r os os' t o g Turn x at m i w = refl
take-with n r os os' t o g Closing x at m i w = take-closing n r os os' t o at m i
take-with n r os os' t o g (Storing k) x at m i w = take-storing n r os os' t at m k x w
take-with n r os os' t o g End x at m i w = refl
