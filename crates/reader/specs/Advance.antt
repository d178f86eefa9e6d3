-- One iteration of the code's loop is one element more of the theory's reading. Assumes nothing.
use Rattle.std.specs.Prelude.{◌≡◌, refl, Bool, true, false, cond, not, ◌&&◌, ◌||◌, List, [], ◌∷◌, ℕ, zero, suc, ◌+◌, ◌<◌, ◌≤◌, ltb, eqb, length, get_or, set, replicate, Result, Ok, Err, Option}
use Rattle.std.proofs.Math.Path.{sym, ap}
use Rattle.std.proofs.Common.{ap₂, ◌∙◌, subst, true≢false, arith, length-set, eqb-true, eq-eqb, ne_eqb, ltb-false}
use Rattle.std.proofs.lemmas.Bool.{false≢true, eqb-false}
use Rattle.std.proofs.Math.Option.{none, some}
use Prim.{Unit, tt}
use Rattle.std.proofs.lemmas.List.{length-replicate}
use Rattle.theory_reading.specs.Limits.{open_limit, table_limit}
use Rattle.theory_reading.specs.Bytes.{colon}
use Rattle.theory_reading.specs.Nodes.{Node, no_node, node, stamp, terminal, entry, temporary, bars, new_node}
use Rattle.theory_reading.specs.Causes.{not_storable}
use Rattle.theory_reading.specs.Element as T
use Rattle.kinds.specs.Kinds.{kind_table}
use Rattle.scanner.specs.ScannedToken as G
use Rattle.theory_reading.specs.Reading.{State, Reading, goes, fails, is_start, is_two, barred_colon, first_digit, with_element, after, advance}
use Rattle.theory_reading.specs.Deciding.{drawing, Trace}
use Rattle.theory_reading.specs.Prefix.{byte_at}
use Rattle.theory_reading.proofs.Prefix.{chosen, advance-chosen, trace-past}
use Rattle.theory_lists.specs.Lookups.{lookup-inside}
use Rattle.theory_reading.specs.StepLaws.{digit_place}
use Rattle.theory_reading.proofs.StepLaws.{AheadBy, step-ahead}
use Rattle.theory_reading.specs.ParentCounts.{parents}
use Rattle.scanner.specs.Capped.{cap_outcome, cap_step}
use Rattle.elements.specs.Abstraction.{context_of, ref_of, element_of, cause_of, outcome_of, open_of, inside_open, opens_of, deep_of}
use Rattle.scanner.specs.TokenView.{outcome_in, number_of}
use Rattle.elements.specs.Abstraction.{open_list, low_at, high_at}
use Rattle.scanner.specs.TokenView.{side_of, next_token, next_token_view, NextTokenView}
use Rattle.elements.specs.OpenLaws.{open-length, low-suc}
use Rattle.scanner.specs.ChangeLaws.{Begun, Firm, scan-firm}
use Rattle.elements.specs.OpenLaws.{deep-self}
use Rattle.scanner.specs.TokenLaws.{token-depth}
use Rattle.places.specs.PlaceLaws.{place-step}
use Rattle.elements.specs.declared.Cause.{Cause}
use Rattle.elements.specs.declared.Cause.TheVariants.{WrongByte, NotStorable, BadNumber}
use Rattle.elements.specs.declared.Element.{Element}
use Rattle.elements.specs.declared.Element.TheVariants as E
use Rattle.elements.specs.declared.Fault.{Fault}
use Rattle.scanner.specs.declared.NextToken.{NextToken}
use Rattle.elements.specs.declared.Context.{Context}
use Rattle.elements.specs.declared.Open.{Open}
use Rattle.elements.specs.declared.Opens.{Opens}
use Rattle.elements.specs.declared.Outcome.{Outcome}
use Rattle.elements.specs.declared.Outcome.TheVariants.{Got, RanOut}
use Rattle.elements.specs.declared.Outcome.TheVariants as O
use Rattle.places.specs.declared.Place.{Place}
use Rattle.elements.specs.declared.Ref.{Ref}
use Rattle.cursors.specs.declared.Run.{Run}
use Rattle.node_records.specs.declared.NodeRecord.{NodeRecord}
use Rattle.reader.specs.declared.Iteration.{Iteration}
use Rattle.cursors.specs.Cursors.{is_kept_of}
use Rattle.reader.specs.Tokens.{faulty_in, cause_in, byte_in}
use Rattle.reader.specs.Taking.{TakenView, fails_of, is_bad_of, next_stamp, stored_run, taken_of}
use Rattle.node_records.specs.Records.{no_record}
use Rattle.record_tables.specs.Entries.{clear_to}
use Rattle.work_table.specs.Table.{get_in, store_at, get_none, get-above}
use Rattle.work_table.specs.TableLaws.{bit-back, record_node, table_of, table-length, table-node, Held, length-store, store-table, held-store, length-clear}
use Rattle.work_table.specs.TableLaws.{clear-table, held-clear}
use Rattle.reader.specs.Simulation.{state_of, reading_of, node_to, table_to, Innermost, Wanted, take-with}
use Rattle.reader.specs.CappedElement.{advance-seen}

-- ---- What code holds -------------------------------------------------------------------------

-- the theory's table: none before the size is read
abbrev pub table_at : Run → List NodeRecord → List Node
table_at r t = cond (is_start (context_of r.context)) [] (table_of t r.size)

-- the theory's state of what code holds
abbrev pub state_at : Run → Opens → List NodeRecord → State
state_at r o t = state_of r (open_list o) (table_at r t)

-- What code keeps true.
pub record Kept (r : Run) (o : Opens) (t : List NodeRecord) : Type 0 where
  pub room : table_limit ≤ length t
  pub small : r.size ≤ table_limit
  pub held : Held t r.size
  pub nodes : length o.nodes ≡ open_limit
  pub deep : o.depth ≤ open_limit
  pub begin : is_start (context_of r.context) ≡ true → r.size ≡ 0

-- a number's stamp can grow where a node may be stored
abbrev pub Young : Run → List NodeRecord → Type 0
Young r t = context_of r.context ≡ T.after_two → (k : ℕ) → stamp (table_at r t) k + 2 ≤ 4294967296

-- the number of an element, 0 if it has none
abbrev pub number_in : Element → ℕ
number_in E.Opening = 0
number_in (E.Number v) = v
number_in E.Constant = 0
number_in E.Turn = 0
number_in E.Closing = 0
number_in (E.Storing k) = k
number_in E.End = 0

-- The record that a storing puts, d nodes being open, but for what it says of the words below. x: the row of the number before
abbrev pub record_to : Run → ℕ → NodeRecord → NodeRecord
record_to r d x = record {
  level = d + 1;
  first = r.pair.first.number;
  second = r.pair.second.number;
  complement = cond r.pair.complement 1 0;
  stamp = next_stamp x.stamp;
  parents = x.parents;
  admits = 0;
  refuses = 0;
}

-- The lent table after an element of the number k: a storing puts a record, a size clears its records. r: the run before; y: what was taken
abbrev pub updated_to : Run → ℕ → ℕ → NodeRecord → TakenView → List NodeRecord → List NodeRecord
updated_to r d k x y t = cond y.stores (store_at t r.size k (record_to r d x)) (cond y.sizes (clear_to no_record t k) t)

-- likewise by the element
abbrev updated_by : Run → ℕ → Element → NodeRecord → TakenView → List NodeRecord → List NodeRecord
updated_by r d E.Opening x y t = t
updated_by r d (E.Number v) x y t = cond (is_start (context_of r.context)) (cond y.faulty t (clear_to no_record t v)) t
updated_by r d E.Constant x y t = t
updated_by r d E.Turn x y t = t
updated_by r d E.Closing x y t = t
updated_by r d (E.Storing k) x y t = cond y.stores (store_at t r.size k (record_to r d x)) t
updated_by r d E.End x y t = t

-- the entries of d open nodes after an iteration: the innermost, and the one after it, stored
abbrev pub nodes_to : List Open → ℕ → Open → List Open
nodes_to ns d low = set (set ns (high_at d) inside_open) (low_at d) low

-- the open nodes after an iteration
abbrev pub opens_to : Opens → ℕ → Open → Opens
opens_to o d low = record { nodes = nodes_to o.nodes o.depth low; depth = d }

-- the row of an element's number
abbrev pub record_in : Run → List NodeRecord → Element → NodeRecord
record_in r t e = get_in t r.size (number_in e)

-- what code takes for the element e of the token x; d: how many nodes are open, low: the innermost
abbrev pub taken_at : ℕ → List ℕ → Run → ℕ → Open → List NodeRecord → NextToken → Element → TakenView
taken_at n bytes r d low t x e = taken_of n r d low (digit_place r.at (get_or bytes r.at 0)) e (get_in t r.size x.number) x.at x.context

-- the lent table after it
abbrev pub updated_at : ℕ → List ℕ → Run → ℕ → Open → List NodeRecord → NextToken → Element → List NodeRecord
updated_at n bytes r d low t x e = updated_to r d x.number (get_in t r.size x.number) (taken_at n bytes r d low t x e) t

-- the innermost entry
abbrev pub low_of : Opens → Open
low_of o = get_or o.nodes (low_at o.depth) inside_open

-- ---- A barred storing ------------------------------------------------------------------------

-- a child bars its parent from storing: its number was given out again, or it has none
abbrev pub bars_by : List NodeRecord → ℕ → Ref → Bool
bars_by t z a = not (eqb (get_in t z a.number).stamp a.stamp)

pub bars-record : (t : List NodeRecord) (z : ℕ) (a : Ref) → bars (table_of t z) (ref_of a) ≡ bars_by t z a
bars-record t z a = go (eqb a.number 0) refl (eqb a.stamp 0) refl
  where
    none : eqb a.number 0 ≡ true → (get_in t z a.number).stamp ≡ 0
    none e = ap (λ (x : NodeRecord). x.stamp) (sym (get_none t z a.number (eqb-true a.number 0 e)))

    go : (p : Bool) → eqb a.number 0 ≡ p → (q : Bool) → eqb a.stamp 0 ≡ q
        → bars (table_of t z) (cond p (cond q terminal temporary) (entry a.number a.stamp)) ≡ bars_by t z a
    go true e true f = sym (ap not (eq-eqb _ _ (none e ∙ sym (eqb-true a.stamp 0 f))))
    go true e false f = sym (ap not (ne_eqb _ _ (λ i. eqb-false a.stamp 0 f (sym i ∙ none e))))
    go false e q f = ap (λ (x : Node). not (eqb x.stamp a.stamp)) (table-node t z a.number)

-- a `:` is barred, by the rows of the two children
abbrev pub barred_by : List NodeRecord → Run → ℕ → Bool
barred_by t r b = (is_two (context_of r.context) && eqb b colon) && (bars_by t r.size r.pair.first || bars_by t r.size r.pair.second)

-- A `:` is barred by the rows of the two children.
barred-records : (r : Run) (o : Opens) (t : List NodeRecord) (b : ℕ) → barred_colon (state_at r o t) b ≡ barred_by t r b
barred-records r o t b = go (context_of r.context)
  where
    go : (m : T.Context) → let a = r.pair.first in let c = r.pair.second in let u = cond (is_start m) [] (table_of t r.size) in
        ((is_two m && eqb b colon) && (bars u (ref_of a) || bars u (ref_of c)))
        ≡ ((is_two m && eqb b colon) && (bars_by t r.size a || bars_by t r.size c))
    go T.start = refl
    go T.lead = refl
    go T.begins = refl
    go T.after_digit = refl
    go T.after_two = ap₂ (λ (p q : Bool). eqb b colon && (p || q)) (bars-record t r.size r.pair.first)
        (bars-record t r.size r.pair.second)
    go T.after_one = refl
    go T.over = refl

-- A barred storing is the fault of the theory's reading.
advance-barred : (n : ℕ) (bytes : List ℕ) (r : Run) (o : Opens) (t : List NodeRecord) → let s = state_at r o t in
    barred_colon s (byte_at bytes s) ≡ true → advance n bytes s ≡ fails s not_storable r.at
advance-barred n bytes r o t h =
    let s = state_at r o t in
    advance-chosen n bytes s ∙ ap (λ (u : Bool). chosen n s (byte_at bytes s) u (T.step s.place bytes).outcome (T.step s.place bytes).place) h

-- ---- What is taken ---------------------------------------------------------------------------

-- the size after an element that is no fault
abbrev size_to : Run → Element → ℕ
size_to r E.Opening = r.size
size_to r (E.Number v) = cond (is_start (context_of r.context)) v r.size
size_to r E.Constant = r.size
size_to r E.Turn = r.size
size_to r E.Closing = r.size
size_to r (E.Storing k) = r.size
size_to r E.End = r.size

-- neither a size nor a storing
abbrev Plain : TakenView → Type 0
Plain y = (y.stores ≡ false) × (y.sizes ≡ false)

-- a number that is taken is one of the table, or a size that is not above the limit
abbrev Legal : Run → Element → TakenView → Type 0
Legal r E.Opening y = Plain y
Legal r (E.Number v) y = (is_start (context_of r.context) ≡ true → v ≤ table_limit)
    × ((y.stores ≡ false) × (y.sizes ≡ is_start (context_of r.context)))
Legal r E.Constant y = Plain y
Legal r E.Turn y = Plain y
Legal r E.Closing y = Plain y
Legal r (E.Storing k) y = (k ≡ 0 → ⊥) × ((k ≤ r.size) × (y.stores ≡ true))
Legal r E.End y = Plain y

-- a number to store has no parent, and is no child of the node; x: its record
abbrev Free : Run → Element → NodeRecord → Type 0
Free r E.Opening x = Unit {0}
Free r (E.Number v) x = Unit {0}
Free r E.Constant x = Unit {0}
Free r E.Turn x = Unit {0}
Free r E.Closing x = Unit {0}
Free r (E.Storing k) x = (x.parents ≡ 0) × ((r.pair.first.number ≡ k → ⊥) × (r.pair.second.number ≡ k → ⊥))
Free r E.End x = Unit {0}

-- what is taken: at a fault the run stays and nothing is stored
abbrev Effect : Run → Context → Element → TakenView → Bool → Type 0
Effect r m e y true = (y.run ≡ r) × Plain y
Effect r m e y false = (y.run.context ≡ m) × ((y.run.size ≡ size_to r e) × Legal r e y)

-- r: the run before; m: the context after
module _ (n : ℕ) (r : Run) (d : ℕ) (o : Open) (g : ℕ) (x : NodeRecord) (at : ℕ) (m : Context) where
  abbrev EffectBy : Element → TakenView → Type 0
  EffectBy e y = Effect r m e y y.faulty

  effect-cond : (e : Element) (b : Bool) (y z : TakenView) → (b ≡ true → EffectBy e y) → (b ≡ false → EffectBy e z) → EffectBy e (cond b y z)
  effect-cond e true y z h k = h refl
  effect-cond e false y z h k = k refl

  effect-number : (v : ℕ) → EffectBy (E.Number v) (taken_of n r d o g (E.Number v) x at m)
  effect-number v =
      effect-cond (E.Number v) (is_start (context_of r.context)) _ _
      (λ s. effect-cond (E.Number v) (ltb table_limit v) _ _ (λ _. (refl, (refl, refl)))
      (λ l. (refl, (ap (λ (b : Bool). cond b v r.size) (sym s), (λ _. ltb-false table_limit v l, (refl, sym s))))))
      (λ s. effect-cond (E.Number v) (eqb x.level 0) _ _ (λ _. (refl, (refl, refl)))
      (λ _. effect-cond (E.Number v) (eqb x.level (d + 1)) _ _ (λ _.
      (refl, (ap (λ (b : Bool). cond b v r.size) (sym s), (λ q. absurd (false≢true (sym s ∙ q)), (refl, sym s)))))
      (λ _. (refl, (refl, refl)))))

  effect-storing : (k : ℕ) → EffectBy (E.Storing k) (taken_of n r d o g (E.Storing k) x at m)
  effect-storing k = go (eqb k 0) (ltb r.size k) (not (eqb x.parents 0) || (eqb r.pair.first.number k || eqb r.pair.second.number k))
      refl refl
    where
      go : (a b c : Bool) → eqb k 0 ≡ a → ltb r.size k ≡ b
          → EffectBy (E.Storing k) (cond ((a || b) || c) (fails_of r BadNumber (r.at + 1))
          (record { run = stored_run r k x at m; faulty = false; cause = WrongByte; byte = 0; sizes = false; stores = true }))
      go true b c e f = (refl, (refl, refl))
      go false true c e f = (refl, (refl, refl))
      go false false true e f = (refl, (refl, refl))
      go false false false e f = (refl, (refl, (eqb-false k 0 e, (ltb-false r.size k f, refl))))

  effect : (e : Element) → EffectBy e (taken_of n r d o g e x at m)
  effect E.Opening = effect-cond E.Opening (ltb n (d + 1)) _ _ (λ _. (refl, (refl, refl))) (λ _. (refl, (refl, (refl, refl))))
  effect (E.Number v) = effect-number v
  effect E.Constant = (refl, (refl, (refl, refl)))
  effect E.Turn = (refl, (refl, (refl, refl)))
  effect E.Closing =
      effect-cond E.Closing (eqb d 0) _ _ (λ _. (refl, (refl, (refl, refl))))
      (λ _. effect-cond E.Closing o.second _ _ (λ _. (refl, (refl, (refl, refl))))
      (λ _. effect-cond E.Closing (is_kept_of r.last) _ _ (λ _. (refl, (refl, (refl, refl)))) (λ _. (refl, (refl, refl)))))
  effect (E.Storing k) = effect-storing k
  effect E.End = (refl, (refl, (refl, refl)))

  -- what is stored without a fault is free
  free-taken : (e : Element) → (taken_of n r d o g e x at m).faulty ≡ false → Free r e x
  free-taken E.Opening f = tt
  free-taken (E.Number v) f = tt
  free-taken E.Constant f = tt
  free-taken E.Turn f = tt
  free-taken E.Closing f = tt
  free-taken (E.Storing k) f = go (eqb k 0 || ltb r.size k) (eqb x.parents 0) (eqb r.pair.first.number k) (eqb r.pair.second.number k)
      refl refl refl f
    where
      go : (a b c d : Bool) → eqb x.parents 0 ≡ b → eqb r.pair.first.number k ≡ c → eqb r.pair.second.number k ≡ d
          → (cond (a || (not b || (c || d))) (fails_of r BadNumber (r.at + 1))
          (record { run = stored_run r k x at m; faulty = false; cause = WrongByte; byte = 0; sizes = false; stores = true })).faulty ≡ false
          → Free r (E.Storing k) x
      go true b c d p q s f = absurd (true≢false f)
      go false false c d p q s f = absurd (true≢false f)
      go false true true d p q s f = absurd (true≢false f)
      go false true false true p q s f = absurd (true≢false f)
      go false true false false p q s f = (eqb-true x.parents 0 p, (eqb-false r.pair.first.number k q, eqb-false r.pair.second.number k s))
  free-taken E.End f = tt

  -- the place after what is taken
  abbrev Onto : TakenView → Type 0
  Onto y = y.faulty ≡ false → y.run.at ≡ at

  onto-cond : (b : Bool) (y z : TakenView) → Onto y → Onto z → Onto (cond b y z)
  onto-cond true y z h k = h
  onto-cond false y z h k = k

  refused : {A : Type 0} → true ≡ false → A
  refused q = absurd (true≢false q)

  pub taken_at_lem : (e : Element) → Onto (taken_of n r d o g e x at m)
  taken_at_lem E.Opening = onto-cond (ltb n (d + 1)) _ _ refused (λ _. refl)
  taken_at_lem (E.Number v) =
      onto-cond (is_start (context_of r.context)) _ _ (onto-cond (ltb table_limit v) _ _ refused (λ _. refl))
      (onto-cond (eqb x.level 0) _ _ refused (onto-cond (eqb x.level (d + 1)) _ _ (λ _. refl) refused))
  taken_at_lem E.Constant = λ _. refl
  taken_at_lem E.Turn = λ _. refl
  taken_at_lem E.Closing = onto-cond (eqb d 0) _ _ (λ _. refl) (onto-cond o.second _ _ (λ _. refl)
      (onto-cond (is_kept_of r.last) _ _ (λ _. refl) refused))
  taken_at_lem (E.Storing k) = onto-cond (is_bad_of r k x) _ _ refused (λ _. refl)
  taken_at_lem E.End = λ _. refl

-- ---- The table after -------------------------------------------------------------------------

-- the lent table after an element that is no fault, by the element
updated-well : (r : Run) (d : ℕ) (e : Element) (x : NodeRecord) (y : TakenView) (t : List NodeRecord) → y.faulty ≡ false → Legal r e y
    → updated_to r d (number_in e) x y t ≡ updated_by r d e x y t
updated-well r d E.Opening x y t f l = rw (l.0, l.1) refl
updated-well r d (E.Number v) x y t f l = rw (f, l.1.0, l.1.1) refl
updated-well r d E.Constant x y t f l = rw (l.0, l.1) refl
updated-well r d E.Turn x y t f l = rw (l.0, l.1) refl
updated-well r d E.Closing x y t f l = rw (l.0, l.1) refl
updated-well r d (E.Storing k) x y t f l = rw l.1.1 refl
updated-well r d E.End x y t f l = rw (l.0, l.1) refl

-- nothing is lent where nothing is stored
updated-plain : (r : Run) (d k : ℕ) (x : NodeRecord) (y : TakenView) (t : List NodeRecord) → Plain y → updated_to r d k x y t ≡ t
updated-plain r d k x y t l = rw (l.0, l.1) refl

-- at a fault the table stays
table-fault : (r : Run) (d : ℕ) (e : Element) (x : NodeRecord) (y : TakenView) (u : List Node) → y.faulty ≡ true → y.stores ≡ false
    → table_to r d e x y u ≡ u
table-fault r d E.Opening x y u f h = refl
table-fault r d (E.Number v) x y u f h = rw f (go (is_start (context_of r.context)))
  where
    go : (b : Bool) → cond b u u ≡ u
    go true = refl
    go false = refl
table-fault r d E.Constant x y u f h = refl
table-fault r d E.Turn x y u f h = refl
table-fault r d E.Closing x y u f h = refl
table-fault r d (E.Storing k) x y u f h = rw h refl
table-fault r d E.End x y u f h = refl

-- after the start the table is that of the records
table-later : (r : Run) (t : List NodeRecord) → is_start (context_of r.context) ≡ false → table_at r t ≡ table_of t r.size
table-later r t h = rw h refl

-- the record that a storing puts, as the theory has it
node-put : (r : Run) (d : ℕ) (x : NodeRecord) → record_node (record_to r d x) ≡ node_to r d x
node-put r d x = ap (λ (b : Bool). new_node (d + 1) r.pair.first.number r.pair.second.number b (next_stamp x.stamp))
    (bit-back r.pair.complement)

-- the theory's table after an element is that of the lent one after it
table-next : (r : Run) (d : ℕ) (e : Element) (x : NodeRecord) (y : TakenView) (t : List NodeRecord) → table_limit ≤ length t → y.faulty ≡ false
    → Legal r e y → Begun (context_of r.context) (element_of e)
    → table_to r d e x y (table_at r t) ≡ table_of (updated_by r d e x y t) (size_to r e)
table-next r d E.Opening x y t room f l h = table-later r t h
table-next r d (E.Number v) x y t room f l h = rw f (go (is_start (context_of r.context)) l.0)
  where
    go : (b : Bool) → (b ≡ true → v ≤ table_limit) → cond b (replicate (suc v) no_node) (cond b [] (table_of t r.size))
        ≡ table_of (cond b (clear_to no_record t v) t) (cond b v r.size)
    go true k = let i : v ≤ table_limit = k refl in sym (clear-table t v (omega (arith, room, i)))
    go false k = refl
table-next r d E.Constant x y t room f l h = table-later r t h
table-next r d E.Turn x y t room f l h = table-later r t h
table-next r d E.Closing x y t room f l h = table-later r t h
table-next r d (E.Storing k) x y t room f l h = rw l.1.1 (ap (λ (u : List Node). set u k (node_to r d x)) (table-later r t (ap is_start h))
    ∙ ap (set (table_of t r.size) k) (sym (node-put r d x))
    ∙ sym (store-table t r.size k (record_to r d x) l.0 l.1.0))
table-next r d E.End x y t room f l h = table-later r t h

-- the row of a number is that of the theory's table
record-node : (r : Run) (t : List NodeRecord) → (is_start (context_of r.context) ≡ true → r.size ≡ 0) → (k : ℕ) → record_node (get_in t r.size k)
    ≡ node (table_at r t) k
record-node r t begin k = go (is_start (context_of r.context)) begin
  where
    none : (k : ℕ) → get_in t 0 k ≡ no_record
    none zero = refl
    none (suc k) = sym (get-above t 0 (suc k) (omega arith))

    go : (b : Bool) → (b ≡ true → r.size ≡ 0) → record_node (get_in t r.size k) ≡ node (cond b [] (table_of t r.size)) k
    go true h = ap (λ (z : ℕ). record_node (get_in t z k)) (h refl) ∙ ap record_node (none k)
    go false h = sym (table-node t r.size k)

-- the row that code reads is the wanted one
record-wanted : (r : Run) (o : Opens) (t : List NodeRecord) → Kept r o t → Young r t → (e : Element) → Begun (context_of r.context) (element_of e)
    → Wanted r (table_at r t) e (record_in r t e)
record-wanted r o t kept young E.Opening h = tt
record-wanted r o t kept young (E.Number v) h = (
  record-node r t kept.begin v,
  λ e. ap (λ (x : NodeRecord). x.level)
      (sym (get_none t r.size v e)),
)
record-wanted r o t kept young E.Constant h = tt
record-wanted r o t kept young E.Turn h = tt
record-wanted r o t kept young E.Closing h = tt
record-wanted r o t kept young (E.Storing k) h =
    let same : record_node (get_in t r.size k) ≡ node (table_at r t) k = record-node r t kept.begin k in
    record {
      same = same;
      counts = go (is_start (context_of r.context)) kept.begin;
      young = omega
          (arith, young h k, ap (λ (x : Node). x.stamp) same);
    }
  where
    go : (b : Bool) → (b ≡ true → r.size ≡ 0) → (k ≡ 0 → ⊥) → k ≤ r.size → (get_in t r.size k).parents
        ≡ parents (cond b [] (table_of t r.size)) k
    go true h n l = let z : r.size ≡ 0 = h refl in absurd (n (omega (arith, l, z)))
    go false h n l = kept.held.counts k n l
record-wanted r o t kept young E.End h = tt

-- ---- The lent table after --------------------------------------------------------------------

-- The lent table keeps its length.
pub length-updated : (r : Run) (d k : ℕ) (x : NodeRecord) (y : TakenView) (t : List NodeRecord) → length (updated_to r d k x y t) ≡ length t
length-updated r d k x y t = go y.stores y.sizes
  where
    go : (a b : Bool) → length (cond a (store_at t r.size k (record_to r d x)) (cond b (clear_to no_record t k) t)) ≡ length t
    go true b = length-store t r.size k (record_to r d x)
    go false true = length-clear t k
    go false false = refl

size_small : (r : Run) (e : Element) (y : TakenView) → r.size ≤ table_limit → Legal r e y → size_to r e ≤ table_limit
size_small r E.Opening y h l = h
size_small r (E.Number v) y h l = go (is_start (context_of r.context)) l.0
  where
    go : (b : Bool) → (b ≡ true → v ≤ table_limit) → cond b v r.size ≤ table_limit
    go true k = k refl
    go false k = h
size_small r E.Constant y h l = h
size_small r E.Turn y h l = h
size_small r E.Closing y h l = h
size_small r (E.Storing k) y h l = h
size_small r E.End y h l = h

held_next : (r : Run) (o : Opens) (d : ℕ) (e : Element) (y : TakenView) (t : List NodeRecord) → Kept r o t → y.faulty ≡ false → Legal r e y
    → Free r e (record_in r t e)
    → Held (updated_by r d e (record_in r t e) y t) (size_to r e)
held_next r o d E.Opening y t kept f l x = kept.held
held_next r o d (E.Number v) y t kept f l x = rw f (go (is_start (context_of r.context)) l.0)
  where
    go : (b : Bool) → (b ≡ true → v ≤ table_limit) → Held (cond b (clear_to no_record t v) t) (cond b v r.size)
    go true k = let i : v ≤ table_limit = k refl in held-clear t v (omega (arith, kept.room, i))
    go false k = kept.held
held_next r o d E.Constant y t kept f l x = kept.held
held_next r o d E.Turn y t kept f l x = kept.held
held_next r o d E.Closing y t kept f l x = kept.held
held_next r o d (E.Storing k) y t kept f l x = rw l.1.1 (held-store t r.size k (record_to r d (get_in t r.size k)) kept.held kept.small
    l.0 l.1.0 refl x.0 x.1.0 x.1.1)
held_next r o d E.End y t kept f l x = kept.held

-- ---- The open nodes --------------------------------------------------------------------------

open-inner : (ns : List Open) (d : ℕ) → d ≤ open_limit → Innermost (opens_of ns d) (get_or ns (low_at d) inside_open)
unfolding opens_of
open-inner ns zero h = tt
open-inner ns (suc d) h = ap (λ (i : ℕ). open_of (get_or ns i inside_open)) (sym (low-suc d h))

low-inner : (o : Opens) → o.depth ≤ open_limit → Innermost (open_list o) (low_of o)
low-inner o h = subst (λ (d : ℕ). Innermost (opens_of o.nodes d) (low_of o)) (sym (deep-self o.depth h)) (open-inner o.nodes o.depth h)

pub list_length : (o : Opens) → o.depth ≤ open_limit → length (open_list o) ≡ o.depth
list_length o h = open-length o.nodes (deep_of o.depth) ∙ deep-self o.depth h

-- ---- The step of the place -------------------------------------------------------------------

table-short : (r : Run) (t : List NodeRecord) → r.size ≤ length t → length (table_at r t) ≤ suc r.size
table-short r t h = go (is_start (context_of r.context))
  where
    go : (b : Bool) → length (cond b [] (table_of t r.size)) ≤ suc r.size
    go true = omega arith
    go false = omega (arith, table-length t r.size h)

-- where the bytes are read the theory's reading stays
advance-past : (n : ℕ) (bytes : List ℕ) (s : State) → length bytes ≤ s.place.at → advance n bytes s ≡ goes s
advance-past n bytes s h = ap (λ (x : Trace). x.reading) (trace-past n bytes s (drawing [] []) h)

-- a capped number ends where the number does
cap-ahead : (a i l : ℕ) (o : T.Outcome) (q : ℕ) → AheadBy a i l o q → AheadBy a i l (cap_outcome o) q
cap-ahead a i l (T.got T.opening) q h = h
cap-ahead a i l (T.got (T.number v)) q h = h
cap-ahead a i l (T.got T.constant) q h = h
cap-ahead a i l (T.got T.turn) q h = h
cap-ahead a i l (T.got T.closing) q h = h
cap-ahead a i l (T.got (T.storing v)) q h = h
cap-ahead a i l (T.got T.end) q h = h
cap-ahead a i l (T.fault k b) q h = h
cap-ahead a i l T.ran_out q h = h

-- some d open nodes, low the innermost
abbrev opens_for : ℕ → Open → List T.Open
opens_for zero low = []
opens_for (suc d) low = open_of low ∷ replicate d T.in_first

for-top : (d : ℕ) (low : Open) → G.top_of (opens_for d low) ≡ side_of d low
for-top zero low = refl
for-top (suc d) low = rw (ne_eqb (suc d) 0 (λ z. omega (arith, z))) (go low.second)
  where
    go : (b : Bool) → G.top_of (cond b (T.in_second (ref_of low.first) low.complement) T.in_first ∷ replicate d T.in_first) ≡ cond b G.outer G.inner
    go true = refl
    go false = refl

for-length : (d : ℕ) (low : Open) → length (opens_for d low) ≡ d
for-length zero low = refl
for-length (suc d) low = ap suc (length-replicate d T.in_first)

-- An element ends behind its place.
pub token-ahead : (bytes : List ℕ) (r : Run) (d : ℕ) (low : Open) (x : NextToken) → next_token_view x
    ≡ next_token kind_table bytes r.at (context_of r.context) r.last d low → (e : Element) → outcome_in x ≡ Got e → r.at < length bytes
    → r.at < x.at
token-ahead bytes r d low x s e got l =
    let k = deep_of d in
    let b = get_or bytes r.at 0 in
    let p = T.place r.at (context_of r.context) (opens_for k low) (ref_of r.last) in
    let A : T.Outcome → ℕ → Type 0 = λ (o : T.Outcome) (q : ℕ). AheadBy r.at (digit_place r.at b) (length bytes) o q in
    let y = G.scan_token kind_table bytes r.at (context_of r.context) (side_of k low) k in
    let g : T.step p bytes ≡ G.applied p y
    = G.step-scan p bytes ∙ ap₂ (λ (u : G.Top) (i : ℕ). G.applied p (G.scan_token kind_table bytes r.at (context_of r.context) u i))
    (for-top k low) (for-length k low) in
    let a = cap-ahead r.at (digit_place r.at b) (length bytes) y.outcome y.at
    (subst (λ (z : T.Step). A z.outcome z.place.at) g (step-ahead p bytes b (lookup-inside bytes r.at 0 l))) in
    (subst (λ (o : Outcome). A (outcome_of o) x.at) got (subst (λ (z : NextTokenView). A z.outcome z.at) (sym s) a)).0

-- x is the token that code has at a place
module _ (n : ℕ) (bytes : List ℕ) (r : Run) (o : Opens) (t : List NodeRecord) (kept : Kept r o t)
    (x : NextToken) (seen : next_token_view x ≡ next_token kind_table bytes r.at (context_of r.context) r.last o.depth (low_of o)) where
  abbrev s : State
  s = state_at r o t

  abbrev b : ℕ
  b = byte_at bytes s

  -- the open nodes after the token
  abbrev after-token : Opens
  after-token = opens_to o x.depth x.low

  -- the place after the token
  abbrev onto : T.Place
  onto = T.place x.at (context_of x.context) (open_list after-token) (ref_of r.last)

  -- a step of reading by the token
  advance-token : barred_colon s b ≡ false → advance n bytes s ≡ after n s (first_digit s b) (outcome_of (outcome_in x)) onto
  advance-token free =
      let p : Place = record { at = r.at; context = r.context; opens = o; last = r.last } in
      let e = place-step bytes p kept.nodes (low_at o.depth) (high_at o.depth) refl refl x seen in
      advance-seen n bytes s kept.small (table-short r t kept.held.room)
      ∙ ap (λ (u : Bool). chosen n s b u (cap_step (T.step s.place bytes)).outcome (cap_step (T.step s.place bytes)).place) free
      ∙ ap (λ (y : T.Step). after n s (first_digit s b) y.outcome y.place) (sym e)

  -- a fault of the step is the fault of the theory's reading
  advance-fault : (c : Cause) (i : ℕ) → outcome_in x ≡ O.Fault (record { cause = c; byte = i }) → barred_colon s b ≡ false → advance n bytes s ≡ fails s (cause_of c) i
  unfolding after
  advance-fault c i e free = advance-token free ∙ ap (λ (y : Outcome). after n s (first_digit s b) (outcome_of y) onto) e

  -- where the bytes run out the theory's reading stays
  advance-out : outcome_in x ≡ RanOut → barred_colon s b ≡ false → advance n bytes s ≡ goes s
  unfolding after
  advance-out e free = advance-token free ∙ ap (λ (y : Outcome). after n s (first_digit s b) (outcome_of y) onto) e

  -- the token gives the element e
  module _ (e : Element) (got : outcome_in x ≡ Got e) (young : Young r t) where
    -- the token has the element's number
    number-in : x.number ≡ number_in e
    number-in = ap (λ (u : NextTokenView). u.number) seen ∙ sym (ap (λ (u : NextTokenView). number_of u.outcome) seen)
        ∙ ap (λ (u : Outcome). number_of (outcome_of u)) got ∙ go e
      where
        go : (e : Element) → number_of (T.got (element_of e)) ≡ number_in e
        go E.Opening = refl
        go (E.Number v) = refl
        go E.Constant = refl
        go E.Turn = refl
        go E.Closing = refl
        go (E.Storing k) = refl
        go E.End = refl

    abbrev y : TakenView
    y = taken_at n bytes r o.depth (low_of o) t x e

    abbrev os' : List T.Open
    os' = open_list after-token

    abbrev table : List Node
    table = table_to r o.depth e (record_in r t e) y (table_at r t)

    abbrev lent : List NodeRecord
    lent = updated_at n bytes r o.depth (low_of o) t x e

    record-here : get_in t r.size x.number ≡ record_in r t e
    record-here = ap (get_in t r.size) number-in

    firm : Firm (context_of r.context) (T.got (element_of e)) (context_of x.context)
    firm =
        let d = deep_of o.depth in
        subst (λ (u : Outcome). Firm (context_of r.context) (outcome_of u) (context_of x.context)) got
        (subst (λ (u : NextTokenView). Firm (context_of r.context) u.outcome u.context) (sym seen)
        (scan-firm kind_table bytes r.at (context_of r.context) (side_of d (low_of o)) d))

    -- the reading by what is taken, c: it is a fault
    abbrev read_by : Bool → Reading
    read_by c = record {
      state = state_of y.run (cond c (open_list o) os') table;
      fault = cond c
          (some (record { cause = cause_of y.cause; byte = y.byte })) none;
    }

    -- a step of reading by what is taken
    advance-taken : barred_colon s b ≡ false → advance n bytes s ≡ read_by y.faulty
    unfolding after
    advance-taken free =
        advance-token free
        ∙ ap (λ (u : Outcome). after n s (first_digit s b) (outcome_of u) onto) got
        ∙ sym (subst (λ (z : TakenView). reading_of z (cond z.faulty (open_list o) os') (table_to r o.depth e (record_in r t e) z (table_at r t))
        ≡ with_element n s (first_digit s b) (element_of e) onto)
        (ap (λ (w : NodeRecord). taken_of n r o.depth (low_of o) (first_digit s b) e w x.at x.context) (sym record-here))
        (subst (λ (d : ℕ). let z = taken_of n r d (low_of o) (first_digit s b) e (record_in r t e) x.at x.context in
        reading_of z (cond z.faulty (open_list o) os') (table_to r d e (record_in r t e) z (table_at r t))
        ≡ with_element n s (first_digit s b) (element_of e) onto)
        (list_length o kept.deep)
        (take-with n r (open_list o) os' (table_at r t) (low_of o) (first_digit s b) e (record_in r t e) x.at x.context (low-inner o kept.deep)
        (record-wanted r o t kept young e firm.1))))

    effect-here : Effect r x.context e y y.faulty
    effect-here = effect n r o.depth (low_of o) (first_digit s b) (get_in t r.size x.number) x.at x.context e

    -- a fault of what is taken is the fault of the theory's reading, and nothing is lent
    advance-refused : y.faulty ≡ true → barred_colon s b ≡ false → (advance n bytes s ≡ fails s (cause_of y.cause) y.byte) × (lent ≡ t)
    advance-refused f free =
        let h : Effect r x.context e y true = subst (Effect r x.context e y) f effect-here in (
          advance-taken free
              ∙ ap read_by f
              ∙ ap₂ (λ (q : Run) (u : List Node). fails (state_of q (open_list o) u) (cause_of y.cause) y.byte) h.0
              (table-fault r o.depth e (record_in r t e) y (table_at r t) f h.1.0),
          updated-plain r o.depth x.number (get_in t r.size x.number) y t h.1,
        )

    module _ (f : y.faulty ≡ false) where
      effect-well : Effect r x.context e y false
      effect-well = subst (Effect r x.context e y) f effect-here

      updated-here : lent ≡ updated_by r o.depth e (record_in r t e) y t
      updated-here =
          ap₂ (λ (k : ℕ) (w : NodeRecord). updated_to r o.depth k w y t) number-in record-here
          ∙ updated-well r o.depth e (record_in r t e) y t f effect-well.1.1

      table-made : table ≡ table_at y.run lent
      table-made =
          table-next r o.depth e (record_in r t e) y t kept.room f effect-well.1.1 firm.1
          ∙ ap (λ (u : List NodeRecord). table_of u (size_to r e)) (sym updated-here)
          ∙ sym (ap₂ (λ (k : Context) (z : ℕ). cond (is_start (context_of k)) [] (table_of lent z)) effect-well.0 effect-well.1.0
          ∙ ap (λ (c : Bool). cond c [] (table_of lent (size_to r e))) firm.0)

      -- AN ELEMENT MORE: what code takes, the open nodes and the lent table are the theory's state after it.
      advance-element : barred_colon s b ≡ false → advance n bytes s ≡ goes (state_at y.run after-token lent)
      advance-element free =
          advance-taken free
          ∙ ap read_by f
          ∙ ap (λ (u : List Node). goes (state_of y.run os' u)) table-made

      -- The size has been read.
      later-element : is_start (context_of y.run.context) ≡ false
      later-element = ap (λ (k : Context). is_start (context_of k)) effect-well.0 ∙ firm.0

      -- What code keeps true stays so.
      kept-element : Kept y.run after-token lent
      kept-element = record {
        room = omega (arith, kept.room, length-updated r o.depth x.number (get_in t r.size x.number) y t);
        small = subst (λ (z : ℕ). z ≤ table_limit) (sym effect-well.1.0) (size_small r e y kept.small effect-well.1.1);
        held = subst (Held lent) (sym effect-well.1.0) (subst (λ (u : List NodeRecord). Held u (size_to r e)) (sym updated-here)
            (held_next r o o.depth e y t kept f effect-well.1.1 (subst (Free r e) record-here (free-taken n r o.depth (low_of o) (first_digit s b)
            (get_in t r.size x.number) x.at x.context e f))));
        nodes = length-set (set o.nodes (high_at o.depth) inside_open) (low_at o.depth) x.low
            ∙ length-set o.nodes (high_at o.depth) inside_open ∙ kept.nodes;
        deep = subst (λ (u : NextTokenView). u.depth ≤ open_limit) (sym seen)
            (token-depth kind_table bytes r.at (context_of r.context) r.last o.depth (low_of o));
        begin = λ q. absurd (false≢true (sym later-element ∙ q));
      }

      -- The place moves on.
      ahead-element : r.at < length bytes → r.at < y.run.at
      ahead-element l = subst (λ (i : ℕ). r.at < i) (sym (taken_at_lem n r o.depth (low_of o) (first_digit s b) (get_in t r.size x.number) x.at
          x.context e f)) (token-ahead bytes r o.depth (low_of o) x seen e got l)

-- ---- An iteration of the loop ----------------------------------------------------------------------

-- what an iteration comes to: whether it went on, and if not, whether at a fault, and which
pub record IterationView : Type 0 where
  pub run : Run
  pub depth : ℕ
  pub low : Open
  pub went : Bool
  pub faulty : Bool
  pub cause : Cause
  pub byte : ℕ

-- nothing was read. f: it is a fault
abbrev pub stayed : Run → ℕ → Open → Bool → Cause → ℕ → IterationView
stayed r d low f c b = record { run = r; depth = d; low = low; went = false; faulty = f; cause = c; byte = b }

abbrev pub went_to : Run → ℕ → Open → IterationView
went_to r d low = record { run = r; depth = d; low = low; went = true; faulty = false; cause = WrongByte; byte = 0 }

-- as code has it, one that went on; and one inside d open nodes, low the innermost, of which r is the run before
abbrev pub went_view : Iteration → IterationView
went_view y = went_to y.run y.depth y.low

abbrev pub iteration_view : Run → ℕ → Open → Result Iteration (Option Fault) → IterationView
iteration_view r d low (Ok y) = went_view y
iteration_view r d low (Err f) = stayed r d low (faulty_in f) (cause_in f) (byte_in f)

-- an element was taken, after which d' nodes are open, low' the innermost before it; y: what was taken
abbrev pub went_by : Run → ℕ → Open → TakenView → ℕ → Open → IterationView
went_by r d low y d' low' = cond y.faulty (stayed r d low true y.cause y.byte) (went_to y.run d' low')

-- one that went on is no fault
pub went-by : (r : Run) (d : ℕ) (low : Open) (y : TakenView) (d' : ℕ) (low' : Open) → (went_by r d low y d' low').went ≡ true
    → (y.faulty ≡ false) × (went_by r d low y d' low' ≡ went_to y.run d' low')
went-by r d low y d' low' = go y.faulty
  where
    go : (b : Bool) → (cond b (stayed r d low true y.cause y.byte) (went_to y.run d' low')).went ≡ true
        → (b ≡ false) × (cond b (stayed r d low true y.cause y.byte) (went_to y.run d' low') ≡ went_to y.run d' low')
    go true w = absurd (false≢true w)
    go false w = (refl, refl)

-- d: how many nodes are open, low: the innermost; y: what the iteration comes to, u: the lent table after it
pub data Iterates (n : ℕ) (bytes : List ℕ) (r : Run) (d : ℕ) (low : Open) (t : List NodeRecord) (y : IterationView) (u : List NodeRecord) : Type 0 where
  past : length bytes ≤ r.at → y ≡ stayed r d low false WrongByte 0 → u ≡ t → Iterates n bytes r d low t y u
  barred : barred_by t r (get_or bytes r.at 0) ≡ true → y ≡ stayed r d low true NotStorable r.at → u ≡ t → Iterates n bytes r d low t y u
  out : barred_by t r (get_or bytes r.at 0) ≡ false → (x : NextToken) → next_token_view x
      ≡ next_token kind_table bytes r.at (context_of r.context) r.last d low
      → outcome_in x ≡ RanOut → y ≡ stayed r d low false WrongByte 0 → u ≡ t → Iterates n bytes r d low t y u
  fault : barred_by t r (get_or bytes r.at 0) ≡ false → (x : NextToken) → next_token_view x
      ≡ next_token kind_table bytes r.at (context_of r.context) r.last d low
      → (c : Cause) (i : ℕ) → outcome_in x ≡ O.Fault (record { cause = c; byte = i }) → y ≡ stayed r d low true c i → u ≡ t → Iterates n bytes r d low t y u
  took : r.at < length bytes → barred_by t r (get_or bytes r.at 0) ≡ false → (x : NextToken) → next_token_view x
      ≡ next_token kind_table bytes r.at (context_of r.context) r.last d low
      → (e : Element) → outcome_in x ≡ Got e → y ≡ went_by r d low (taken_at n bytes r d low t x e) x.depth x.low → u ≡ updated_at n bytes r d low t x e
      → Iterates n bytes r d low t y u

-- reading halts at s: at a fault, or since the bytes ran out
abbrev pub HaltsAt : ℕ → List ℕ → State → Bool → Cause → ℕ → Type 0
HaltsAt n bytes s true c b = advance n bytes s ≡ fails s (cause_of c) b
HaltsAt n bytes s false c b = advance n bytes s ≡ goes s

-- what an iteration comes to: it goes on, or halts
abbrev pub Comes : ℕ → List ℕ → Run → Opens → List NodeRecord → IterationView → List NodeRecord → Bool → Type 0
Comes n bytes r o t y u true =
    (advance n bytes (state_at r o t) ≡ goes (state_at y.run (opens_to o y.depth y.low) u))
    × (Kept y.run (opens_to o y.depth y.low) u × ((r.at < length bytes)
    × ((r.at < y.run.at) × (is_start (context_of y.run.context) ≡ false))))
Comes n bytes r o t y u false = (u ≡ t) × HaltsAt n bytes (state_at r o t) y.faulty y.cause y.byte

module _ (n : ℕ) (bytes : List ℕ) (r : Run) (o : Opens) (t : List NodeRecord) (kept : Kept r o t) (young : Young r t) where
  abbrev ComesBy : IterationView → List NodeRecord → Type 0
  ComesBy y u = Comes n bytes r o t y u y.went

  free : barred_by t r (get_or bytes r.at 0) ≡ false → barred_colon (state_at r o t) (byte_at bytes (state_at r o t)) ≡ false
  free h = barred-records r o t (byte_at bytes (state_at r o t)) ∙ h

  comes-took : (x : NextToken) → next_token_view x ≡ next_token kind_table bytes r.at (context_of r.context) r.last o.depth (low_of o)
      → (e : Element) → outcome_in x ≡ Got e
      → r.at < length bytes → barred_by t r (get_or bytes r.at 0) ≡ false
      → ComesBy (went_by r o.depth (low_of o) (taken_at n bytes r o.depth (low_of o) t x e) x.depth x.low)
      (updated_at n bytes r o.depth (low_of o) t x e)
  comes-took x seen e got l h = go (taken_at n bytes r o.depth (low_of o) t x e).faulty refl
    where
      y : TakenView
      y = taken_at n bytes r o.depth (low_of o) t x e

      go : (f : Bool) → y.faulty ≡ f → ComesBy (cond f (stayed r o.depth (low_of o) true y.cause y.byte) (went_to y.run x.depth x.low))
          (updated_at n bytes r o.depth (low_of o) t x e)
      go true i = let k = advance-refused n bytes r o t kept x seen e got young i (free h) in (k.1, k.0)
      go false i = (
        advance-element n bytes r o t kept x seen e got young i (free h),
        (
          kept-element n bytes r o t kept x seen e got young i,
          (
            l,
            (ahead-element n bytes r o t kept x seen e got young i l, later-element n bytes r o t kept x seen e got young i),
          ),
        ),
      )

  -- WHAT AN ITERATION COMES TO
  comes : (y : IterationView) (u : List NodeRecord) → Iterates n bytes r o.depth (low_of o) t y u → ComesBy y u
  comes y u (past h e k) = subst (λ (z : IterationView). ComesBy z u) (sym e) (k, advance-past n bytes (state_at r o t) h)
  comes y u (barred h e k) = subst (λ (z : IterationView). ComesBy z u) (sym e)
      (k, advance-barred n bytes r o t (barred-records r o t (byte_at bytes (state_at r o t)) ∙ h))
  comes y u (out h x seen i e k) = subst (λ (z : IterationView). ComesBy z u) (sym e) (k, advance-out n bytes r o t kept x seen i (free h))
  comes y u (fault h x seen c j i e k) = subst (λ (z : IterationView). ComesBy z u) (sym e) (k, advance-fault n bytes r o t kept x seen c j i (free h))
  comes y u (took l h x seen el i e k) = subst (λ (z : IterationView). ComesBy z u) (sym e)
      (subst (ComesBy (went_by r o.depth (low_of o) (taken_at n bytes r o.depth (low_of o) t x el) x.depth x.low)) (sym k) (comes-took x seen el i l h))

  -- An iteration that goes on is an element more.
  pub iteration-went : (y : IterationView) (u : List NodeRecord) → Iterates n bytes r o.depth (low_of o) t y u → y.went ≡ true
      → Comes n bytes r o t y u true
  iteration-went y u h e = subst (Comes n bytes r o t y u) e (comes y u h)

  -- Another halts.
  pub iteration-halts : (y : IterationView) (u : List NodeRecord) → Iterates n bytes r o.depth (low_of o) t y u → y.went ≡ false
      → Comes n bytes r o t y u false
  iteration-halts y u h e = subst (Comes n bytes r o t y u) e (comes y u h)
