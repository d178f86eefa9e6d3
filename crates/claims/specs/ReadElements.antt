-- What one step of reading does at each element of a written stream, with the drawing. Assumes nothing.
use Rattle.std.specs.Prelude.{◌≡◌, Bool, true, false, cond, ◌&&◌, ℕ, zero, suc, ◌+◌, ◌-◌, ◌≤◌, ◌<◌, ◌^◌, ltb, eqb, length, get_or, drop, set, replicate}
use Rattle.std.proofs.Math.Path.{refl}
use Rattle.std.proofs.Common.{ap, ◌∙◌, inl, inr, arith, eq-eqb, ne_eqb, lt-ltb, le-ltb}
use mathlib.Core.List.{List, [], ◌∷◌, ◌++◌}
use Rattle.std.proofs.Math.Option.{Option, some}
use Rattle.std.proofs.Math.ListN.{get_elem?}
use Rattle.theory_reading.specs.Limits.{option_limit, open_limit, table_limit}
use Rattle.theory_reading.specs.LimitLaws.{open-options}
use Rattle.theory_reading.specs.Bytes.{opener, closer, tilde, colon, dot, blank, line_feed, is_digit}
use Rattle.theory_reading.specs.Nodes.{Ref, terminal, entry, temporary, is_kept, child, Node, new_node, no_node, node, stamp, bars}
use Rattle.theory_reading.specs.Causes.{not_storable}
use Rattle.theory_reading.specs.Element.{number, constant, closing, Open, in_first, in_second, Context, start, lead, begins, after_digit, after_two}
use Rattle.theory_reading.specs.Element.{after_one, over, place, moved, read, number_at, Step, gives, size_read, number_read, node_begins, after_colon}
use Rattle.theory_reading.specs.Element.{step_by, step_on, step}
use Rattle.theory_reading.specs.Reading.{children, State, state, Reading, goes, fails, fresh, level, is_start, is_bad, with_element, barred_colon}
use Rattle.theory_reading.specs.Reading.{first_digit, after, advance, next}
use Rattle.theory_reading.specs.Deciding.{Diagram, missing, leaf, branch, top, below, Drawing, drawing, draw, draw_unless, Trace, traced, next_trace}
use Rattle.theory_reading.specs.Deciding.{trace_on}
use Rattle.theory_reading.proofs.Prefix.{trace_on-add}
use Rattle.theory_writing.specs.Texts.{decimal}
use Rattle.claims.specs.Numerals.{digit_not, Stops, drop-one, drop-byte, drop-lookup, Scanned, scanned}

-- ---- Where a reading stands ------------------------------------------------------------------

-- z at another place
abbrev pub here : ℕ → Context → List Open → State → State
here a m u z = state (place a m u z.place.last) z.size z.covered z.complement z.table z.pair

abbrev pub standing : ℕ → Context → List Open → State → Drawing → Trace
standing a m u z d = traced (goes (here a m u z)) d

-- z with one thing changed
abbrev pub with_last : Ref → State → State
with_last r z = state (place z.place.at z.place.context z.place.opens r) z.size z.covered z.complement z.table z.pair

abbrev pub counting : ℕ → State → State
counting k z = state z.place z.size (z.covered + k) z.complement z.table z.pair

abbrev pub paired : Ref → Bool → Ref → State → State
paired a t b z = state z.place z.size z.covered z.complement z.table (children a t b)

abbrev pub tabled : List Node → State → State
tabled t z = state z.place z.size z.covered z.complement t z.pair

abbrev pub complementing : State → State
complementing z = state z.place z.size z.covered true z.table z.pair

abbrev pub first : Trace
first = traced (goes fresh) (drawing [] [])

-- t is on the way of reading
abbrev pub Reach : ℕ → List ℕ → Trace → Type 0
Reach n bytes t = (k : ℕ) × (trace_on k n bytes first ≡ t)

pub reach-next : (n : ℕ) (bytes : List ℕ) (t t' : Trace) → Reach n bytes t → next_trace n bytes t ≡ t' → Reach n bytes t'
unfolding trace_on
reach-next n bytes t t' h e = (h.0 + 1, trace_on-add h.0 1 n bytes first ∙ ap (next_trace n bytes) h.1 ∙ e)

-- where a node may begin
pub data Starts : Context → List Open → Type 0 where
  at_lead : {u : List Open} → Starts lead u
  at_begins : {u : List Open} → Starts begins u
  on_digit : {o : List Open} → Starts after_digit (in_first ∷ o)
  on_two : {o : List Open} → Starts after_two (in_first ∷ o)
  on_one : {o : List Open} → Starts after_one (in_first ∷ o)

-- where a node has ended
pub data Ends : Context → Type 0 where
  end_digit : Ends after_digit
  end_two : Ends after_two
  end_one : Ends after_one

-- the innermost open node is in its second child from now on; r: what its first child was
abbrev second : Ref → List Open → List Open
second r [] = []
second r (x ∷ o) = in_second r false ∷ o

-- the open nodes around a node that begins
abbrev pub around_of : Context → Ref → List Open → List Open
around_of start r u = u
around_of lead r u = u
around_of begins r u = u
around_of after_digit r u = second r u
around_of after_two r u = second r u
around_of after_one r u = second r u
around_of over r u = u

pub starts-length : (m : Context) (u : List Open) (r : Ref) → Starts m u → length (around_of m r u) ≡ length u
starts-length lead u r at_lead = refl
starts-length begins u r at_begins = refl
starts-length after_digit (in_first ∷ o) r on_digit = refl
starts-length after_two (in_first ∷ o) r on_two = refl
starts-length after_one (in_first ∷ o) r on_one = refl
starts-length start u r x' = elim x' [ ]
starts-length after_digit [] r x3 = elim x3 [ ]
starts-length after_digit (in_second _ _ ∷ o) r x8 = elim x8 [ ]
starts-length after_two [] r x4 = elim x4 [ ]
starts-length after_two (in_second _ _ ∷ o) r x9 = elim x9 [ ]
starts-length after_one [] r x5 = elim x5 [ ]
starts-length after_one (in_second _ _ ∷ o) r x10 = elim x10 [ ]
starts-length over u r x5 = elim x5 [ ]

-- ---- One step --------------------------------------------------------------------------------

-- what the step x of a place brings to a reading and its drawing; b: the byte at the place
abbrev brings : ℕ → State → Drawing → ℕ → Bool → Step → Trace
brings n s d b t x =
    let r : Reading = elim t [ true ↦ fails s not_storable s.place.at | false ↦ after n s (first_digit s b) x.outcome x.place ] in
    traced r (draw_unless r.fault s x.outcome d)

next-at : (n : ℕ) (bytes : List ℕ) (s : State) (d : Drawing) (b : ℕ) (bs : List ℕ) → drop s.place.at bytes ≡ b ∷ bs → barred_colon s b ≡ false
    → next_trace n bytes (traced (goes s) d) ≡ brings n s d b false (step_by bytes s.place b s.place.context)
unfolding next_trace next advance step
next-at n bytes s d b bs e nb =
    ap (λ (c : ℕ). brings n s d c (barred_colon s c) (step_on bytes s.place (get_elem? bytes s.place.at))) (drop-byte s.place.at bytes b bs e)
    ∙ ap (λ (o : Option ℕ). brings n s d b (barred_colon s b) (step_on bytes s.place o)) (drop-lookup s.place.at bytes b bs e)
    ∙ ap (λ (t : Bool). brings n s d b t (step_by bytes s.place b s.place.context)) nb

module _ (n a : ℕ) (z : State) (d : Drawing) (bytes : List ℕ) where
  -- `(`
  open-node : (s : State) (o : List Open) → ltb (length o) open_limit ≡ true → ltb n (level s.place) ≡ false
      → brings n s d opener false (node_begins bytes s.place o opener)
      ≡ traced (goes (state (moved s.place (s.place.at + 1) begins (in_first ∷ o)) s.size s.covered s.complement s.table
      s.pair)) d
  unfolding after with_element draw
  open-node s o p q = rw (p, q) refl

  pub open_step : (m : Context) (u : List Open) (bs : List ℕ) → Starts m u → n ≤ option_limit → length u < n → drop a bytes ≡ opener ∷ bs
      → next_trace n bytes (standing a m u z d) ≡ standing (a + 1) begins (in_first ∷ around_of m z.place.last u) z d
  unfolding is_digit
  open_step lead u bs at_lead h l e = next-at n bytes (here a lead u z) d opener bs e refl
      ∙ open-node (here a lead u z) u (lt-ltb (length u) open_limit (omega (arith, open-options))) (le-ltb n (length u + 1) (omega arith))
  open_step begins u bs at_begins h l e = next-at n bytes (here a begins u z) d opener bs e refl
      ∙ open-node (here a begins u z) u (lt-ltb (length u) open_limit (omega (arith, open-options))) (le-ltb n (length u + 1) (omega arith))
  open_step after_digit (in_first ∷ o) bs on_digit h l e = next-at n bytes (here a after_digit (in_first ∷ o) z) d opener bs e refl
      ∙ open-node (here a after_digit (in_first ∷ o) z) (second z.place.last (in_first ∷ o))
      (lt-ltb (suc (length o)) open_limit (omega (arith, open-options))) (le-ltb n (suc (length o) + 1) (omega arith))
  open_step after_two (in_first ∷ o) bs on_two h l e = next-at n bytes (here a after_two (in_first ∷ o) z) d opener bs e refl
      ∙ open-node (here a after_two (in_first ∷ o) z) (second z.place.last (in_first ∷ o))
      (lt-ltb (suc (length o)) open_limit (omega (arith, open-options))) (le-ltb n (suc (length o) + 1) (omega arith))
  open_step after_one (in_first ∷ o) bs on_one h l e = next-at n bytes (here a after_one (in_first ∷ o) z) d opener bs e refl
      ∙ open-node (here a after_one (in_first ∷ o) z) (second z.place.last (in_first ∷ o))
      (lt-ltb (suc (length o)) open_limit (omega (arith, open-options))) (le-ltb n (suc (length o) + 1) (omega arith))
  open_step start u bs x4 h l e = elim x4 [ ]
  open_step after_digit [] bs x9 h l e = elim x9 [ ]
  open_step after_digit (in_second _ _ ∷ o) bs x17 h l e = elim x17 [ ]
  open_step after_two [] bs x10 h l e = elim x10 [ ]
  open_step after_two (in_second _ _ ∷ o) bs x18 h l e = elim x18 [ ]
  open_step after_one [] bs x11 h l e = elim x11 [ ]
  open_step after_one (in_second _ _ ∷ o) bs x19 h l e = elim x19 [ ]
  open_step over u bs x8 h l e = elim x8 [ ]

  -- `~`
  pub turn_step : (m : Context) (o : List Open) (bs : List ℕ) → Ends m → drop a bytes ≡ tilde ∷ bs
      → next_trace n bytes (standing a m (in_first ∷ o) z d) ≡ standing (a + 1) begins (in_second z.place.last true ∷ o) z d
  unfolding after with_element draw
  turn_step after_digit o bs end_digit e = next-at n bytes (here a after_digit (in_first ∷ o) z) d tilde bs e refl
  turn_step after_two o bs end_two e = next-at n bytes (here a after_two (in_first ∷ o) z) d tilde bs e refl
  turn_step after_one o bs end_one e = next-at n bytes (here a after_one (in_first ∷ o) z) d tilde bs e refl
  turn_step start o bs x'' e = elim x'' [ ]
  turn_step lead o bs x3 e = elim x3 [ ]
  turn_step begins o bs x4 e = elim x4 [ ]
  turn_step over o bs x5 e = elim x5 [ ]

  pub lead-step : (bs : List ℕ) → drop a bytes ≡ tilde ∷ bs → next_trace n bytes (standing a lead [] z d)
      ≡ standing (a + 1) begins [] (complementing z) d
  unfolding after with_element draw
  lead-step bs e = next-at n bytes (here a lead [] z) d tilde bs e refl

  -- `)`
  one_kept : (m : Context) (o : List Open) → is_kept z.place.last ≡ true
      → brings n (here a m (in_first ∷ o) z) d closer false (gives closing (place (a + 1) after_one o z.place.last))
      ≡ standing (a + 1) after_one o (counting (2 ^ (n - length (in_first ∷ o))) z)
      (drawing d.rows (branch (top d.stack) false (top d.stack) ∷ below d.stack))
  unfolding after with_element draw
  one_kept m o k = rw k refl

  pub one-step : (m : Context) (o : List Open) (bs : List ℕ) → Ends m → is_kept z.place.last ≡ true → drop a bytes ≡ closer ∷ bs
      → next_trace n bytes (standing a m (in_first ∷ o) z d)
      ≡ standing (a + 1) after_one o (counting (2 ^ (n - length (in_first ∷ o))) z)
      (drawing d.rows (branch (top d.stack) false (top d.stack) ∷ below d.stack))
  one-step after_digit o bs end_digit k e = next-at n bytes (here a after_digit (in_first ∷ o) z) d closer bs e refl ∙ one_kept after_digit o k
  one-step after_two o bs end_two k e = next-at n bytes (here a after_two (in_first ∷ o) z) d closer bs e refl ∙ one_kept after_two o k
  one-step after_one o bs end_one k e = next-at n bytes (here a after_one (in_first ∷ o) z) d closer bs e refl ∙ one_kept after_one o k
  one-step start o bs x3 k e = elim x3 [ ]
  one-step lead o bs x4 k e = elim x4 [ ]
  one-step begins o bs x5 k e = elim x5 [ ]
  one-step over o bs x6 k e = elim x6 [ ]

  pub two-step : (m : Context) (r : Ref) (t : Bool) (o : List Open) (bs : List ℕ) → Ends m → drop a bytes ≡ closer ∷ bs
      → next_trace n bytes (standing a m (in_second r t ∷ o) z d)
      ≡ standing (a + 1) after_two o (with_last temporary (paired r t z.place.last z))
      (drawing d.rows (branch (top (below d.stack)) t (top d.stack) ∷ below (below d.stack)))
  unfolding after with_element draw
  two-step after_digit r t o bs end_digit e = next-at n bytes (here a after_digit (in_second r t ∷ o) z) d closer bs e refl
  two-step after_two r t o bs end_two e = next-at n bytes (here a after_two (in_second r t ∷ o) z) d closer bs e refl
  two-step after_one r t o bs end_one e = next-at n bytes (here a after_one (in_second r t ∷ o) z) d closer bs e refl
  two-step start r t o bs x'' e = elim x'' [ ]
  two-step lead r t o bs x3 e = elim x3 [ ]
  two-step begins r t o bs x4 e = elim x4 [ ]
  two-step over r t o bs x5 e = elim x5 [ ]

  -- `.`
  pub end_step : (m : Context) (bs : List ℕ) → Ends m → drop a bytes ≡ dot ∷ bs → next_trace n bytes (standing a m [] z d)
      ≡ standing (a + 1) over [] z d
  unfolding after with_element draw
  end_step after_digit bs end_digit e = next-at n bytes (here a after_digit [] z) d dot bs e refl
  end_step after_two bs end_two e = next-at n bytes (here a after_two [] z) d dot bs e refl
  end_step after_one bs end_one e = next-at n bytes (here a after_one [] z) d dot bs e refl
  end_step start bs x'' e = elim x'' [ ]
  end_step lead bs x3 e = elim x3 [ ]
  end_step begins bs x4 e = elim x4 [ ]
  end_step over bs x5 e = elim x5 [ ]

-- ---- Numbers ---------------------------------------------------------------------------------

-- what a number stands for, and its diagram
abbrev pub numbered : List Node → ℕ → Ref
numbered t zero = terminal
numbered t (suc k) = entry (suc k) (stamp t (suc k))

abbrev pub diagram_of : List Diagram → ℕ → Diagram
diagram_of rows zero = leaf
diagram_of rows (suc k) = get_or rows (suc k) missing

-- a number of this level
abbrev pub Known : List Node → ℕ → ℕ → Type 0
Known t i zero = Unit {0}
Known t i (suc k) = (node t (suc k)).level ≡ i

-- the number k is read at the state s, and the reading goes on at the place b inside the open nodes o
abbrev after_number : ℕ → State → Drawing → ℕ → ℕ → List Open → Trace
after_number n s d k b o = standing b after_digit o (with_last (numbered s.table k) (counting (2 ^ (n - length s.place.opens)) s))
    (drawing d.rows (diagram_of d.rows k ∷ d.stack))

number-node : (n : ℕ) (s : State) (d : Drawing) (c b k : ℕ) (o : List Open) → is_start s.place.context ≡ false
    → Known s.table (level s.place) k
    → brings n s d c false (number_read s.place o (read k b)) ≡ after_number n s d k b o
unfolding after with_element draw
number-node n s d c b zero o e h = refl
number-node n s d c b (suc k) o e h =
    let p : eqb (node s.table (suc k)).level 0 ≡ false = ne_eqb (node s.table (suc k)).level 0 (λ z. omega (arith, z, h)) in
    let q : eqb (node s.table (suc k)).level (level s.place) ≡ true = eq-eqb (node s.table (suc k)).level (level s.place) h in
    let r : eqb (suc k) 0 ≡ false = ne_eqb (suc k) 0 (λ z. omega arith) in
    ap (λ (t : Bool). brings n s d c false (gives (cond t constant (number (suc k))) (moved s.place b after_digit o))) r ∙ rw (e, p, q) (rw e refl)

-- the space before a number
abbrev pub spaced : Context → List ℕ
spaced start = []
spaced lead = []
spaced begins = []
spaced after_digit = blank ∷ []
spaced after_two = []
spaced after_one = []
spaced over = []

module _ (n a : ℕ) (z : State) (d : Drawing) (bytes : List ℕ) (k : ℕ) (post : List ℕ) where
  abbrev number_done : ℕ → Context → List Open → Trace
  number_done b m u = standing b after_digit (around_of m z.place.last u) (with_last (numbered z.table k) (counting (2 ^ (n - length u)) z))
      (drawing d.rows (diagram_of d.rows k ∷ d.stack))

  -- a number after what is no digit
  begin-number : (c : Scanned bytes a k post) (s : State) (o : List Open) → s.place.at ≡ a → is_start s.place.context ≡ false
      → Known s.table (level s.place) k
      → brings n s d c.d false (node_begins bytes s.place o c.d) ≡ after_number n s d k (a + length (decimal k)) o
  begin-number c s o i e h =
      let p : eqb c.d opener ≡ false = digit_not c.d opener c.digit (inl (omega arith)) in
      let q : number_at bytes s.place.at c.d ≡ read k (a + length (decimal k)) = ap (λ (j : ℕ). number_at bytes j c.d) i ∙ c.scan in
      rw (p, c.digit, q) (number-node n s d c.d (a + length (decimal k)) k o e h)

  no-colon : (c : Scanned bytes a k post) (t x : Bool) → ((t && eqb c.d colon) && x) ≡ false
  no-colon c true x = let p : eqb c.d colon ≡ false = digit_not c.d colon c.digit (inr (omega arith)) in rw p refl
  no-colon c false x = refl

  -- a number after a digit and a space
  space-number : Stops post → (o : List Open) → Known z.table (length (in_first ∷ o) + 1) k → drop a bytes ≡ blank ∷ (decimal k ++ post)
      → (b : ℕ) × (drop b bytes ≡ post) × (next_trace n bytes (standing a after_digit (in_first ∷ o) z d) ≡ number_done b after_digit (in_first ∷ o))
  space-number st o h e =
      let s = here a after_digit (in_first ∷ o) z in
      let c = scanned bytes (a + 1) k post st (drop-one a bytes blank (decimal k ++ post) e) in
      let l : get_elem? bytes (a + 1) ≡ some c.d = drop-lookup (a + 1) bytes c.d (c.ds ++ post) c.place in (
        a + 1 + length (decimal k),
        c.past,
        next-at n bytes s d blank (decimal k ++ post) e refl ∙ rw (l, c.digit, c.scan)
            (number-node n s d blank (a + 1 + length (decimal k)) k (second z.place.last (in_first ∷ o)) refl h),
      )

  pub number_step : Stops post → (m : Context) (u : List Open) → Starts m u → Known z.table (length u + 1) k → drop a bytes
      ≡ spaced m ++ (decimal k ++ post)
      → (b : ℕ) × (drop b bytes ≡ post) × (next_trace n bytes (standing a m u z d) ≡ number_done b m u)
  number_step st lead u at_lead h e =
      let c = scanned bytes a k post st e in
      let p : eqb c.d tilde ≡ false = digit_not c.d tilde c.digit (inr (omega arith)) in (
        a + length (decimal k),
        c.past,
        next-at n bytes (here a lead u z) d c.d (c.ds ++ post) c.place refl
            ∙ rw p (begin-number c (here a lead u z) u refl refl h),
      )
  number_step st begins u at_begins h e =
      let c = scanned bytes a k post st e in (
        a + length (decimal k),
        c.past,
        next-at n bytes (here a begins u z) d c.d (c.ds ++ post) c.place refl
            ∙ begin-number c (here a begins u z) u refl refl h,
      )
  number_step st after_digit (in_first ∷ o) on_digit h e = space-number st o h e
  number_step st after_two (in_first ∷ o) on_two h e =
      let c = scanned bytes a k post st e in
      let p : eqb c.d tilde ≡ false = digit_not c.d tilde c.digit (inr (omega arith)) in
      let q : eqb c.d closer ≡ false = digit_not c.d closer c.digit (inl (omega arith)) in
      let r : eqb c.d colon ≡ false = digit_not c.d colon c.digit (inr (omega arith)) in (
        a + length (decimal k),
        c.past,
        next-at n bytes (here a after_two (in_first ∷ o) z) d c.d (c.ds ++ post) c.place (no-colon c true _)
            ∙ rw (r, p, q) (begin-number c (here a after_two (in_first ∷ o) z) (second z.place.last (in_first ∷ o)) refl refl h),
      )
  number_step st after_one (in_first ∷ o) on_one h e =
      let c = scanned bytes a k post st e in
      let p : eqb c.d tilde ≡ false = digit_not c.d tilde c.digit (inr (omega arith)) in
      let q : eqb c.d closer ≡ false = digit_not c.d closer c.digit (inl (omega arith)) in (
        a + length (decimal k),
        c.past,
        next-at n bytes (here a after_one (in_first ∷ o) z) d c.d (c.ds ++ post) c.place refl
            ∙ rw (p, q) (begin-number c (here a after_one (in_first ∷ o) z) (second z.place.last (in_first ∷ o)) refl refl h),
      )
  number_step st start u x3 h e = elim x3 [ ]
  number_step st after_digit [] x7 h e = elim x7 [ ]
  number_step st after_digit (in_second _ _ ∷ o) x14 h e = elim x14 [ ]
  number_step st after_two [] x8 h e = elim x8 [ ]
  number_step st after_two (in_second _ _ ∷ o) x15 h e = elim x15 [ ]
  number_step st after_one [] x9 h e = elim x9 [ ]
  number_step st after_one (in_second _ _ ∷ o) x16 h e = elim x16 [ ]
  number_step st over u x7 h e = elim x7 [ ]

  -- `:` and a number
  abbrev pub stored_row : List Open → Node
  stored_row u = new_node (length u + 1) (child z.pair.first) (child z.pair.second) z.pair.complement (suc (stamp z.table k))

  store-number : (u : List Open) (c : Scanned bytes (a + 1) k post) → is_bad (here a after_two u z) k ≡ false
      → brings n (here a after_two u z) d colon false (after_colon bytes (here a after_two u z).place (some c.d))
      ≡ standing (a + 1 + length (decimal k)) after_digit u (with_last (entry k (suc (stamp z.table k))) (tabled (set z.table k (stored_row u)) z))
      (drawing (set d.rows k (top d.stack)) d.stack)
  unfolding after with_element draw
  store-number u c h = rw (c.digit, c.scan, h) refl

  pub store_step : Stops post → (u : List Open) → bars z.table z.pair.first ≡ false → bars z.table z.pair.second ≡ false
      → is_bad (here a after_two u z) k ≡ false → drop a bytes ≡ colon ∷ (decimal k ++ post)
      → (b : ℕ) × (drop b bytes ≡ post) × (next_trace n bytes (standing a after_two u z d)
      ≡ standing b after_digit u (with_last (entry k (suc (stamp z.table k))) (tabled (set z.table k (stored_row u)) z))
      (drawing (set d.rows k (top d.stack)) d.stack))
  store_step st u b₁ b₂ h e =
      let c = scanned bytes (a + 1) k post st (drop-one a bytes colon (decimal k ++ post) e) in
      let l : get_elem? bytes (a + 1) ≡ some c.d = drop-lookup (a + 1) bytes c.d (c.ds ++ post) c.place in (
        a + 1 + length (decimal k),
        c.past,
        next-at n bytes (here a after_two u z) d colon (decimal k ++ post) e (rw (b₁, b₂) refl)
            ∙ ap (λ (o : Option ℕ). brings n (here a after_two u z) d colon false (after_colon bytes (here a after_two u z).place o)) l
            ∙ store-number u c h,
      )

-- ---- The size --------------------------------------------------------------------------------

size-node : (n : ℕ) (bytes : List ℕ) (c a k : ℕ) → k ≤ table_limit → get_elem? bytes a ≡ some line_feed
    → brings n fresh (drawing [] []) c false (size_read bytes fresh.place (read k a))
    ≡ standing (a + 1) lead [] (state fresh.place k 0 false (replicate (suc k) no_node) fresh.pair) (drawing (replicate (suc k) missing) [])
unfolding after with_element draw
size-node n bytes c a k h e = let p : ltb table_limit k ≡ false = le-ltb table_limit k h in rw (e, p) refl

line-stops : (bs : List ℕ) → Stops (line_feed ∷ bs)
unfolding is_digit
line-stops bs = refl

pub size_step : (n : ℕ) (bytes : List ℕ) (k : ℕ) (bs : List ℕ) → k ≤ table_limit → bytes ≡ decimal k ++ (line_feed ∷ bs)
    → (b : ℕ) × (drop b bytes ≡ bs) × (next_trace n bytes first ≡ standing b lead []
    (state fresh.place k 0 false (replicate (suc k) no_node) fresh.pair) (drawing (replicate (suc k) missing) []))
size_step n bytes k bs h e =
    let c = scanned bytes 0 k (line_feed ∷ bs) (line-stops bs) e in
    let b = 0 + length (decimal k) in (
      b + 1,
      drop-one b bytes line_feed bs c.past,
      next-at n bytes fresh (drawing [] []) c.d (c.ds ++ (line_feed ∷ bs)) c.place refl
          ∙ rw (c.digit, c.scan) (size-node n bytes c.d b k h (drop-lookup b bytes line_feed bs c.past)),
    )
