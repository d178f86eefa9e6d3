-- The code's loop as a function, with fuel for its iterations, and reading on from a cursor. Where code stands as reading does, what the
-- function comes to is what the loop reaches. Assumes nothing.
use Rattle.std.specs.Prelude.{◌≡◌, Bool, true, false, ◌||◌, List, ℕ, zero, suc, ◌-◌, ◌<◌, ◌≤◌, ltb, length, replicate}
use Rattle.std.proofs.Math.Path.{refl, sym, ap}
use Rattle.std.proofs.Common.{◌∙◌, subst, inl, ⊎_elim, arith, lt-ltb, le-ltb, ltb-false}
use Rattle.std.proofs.Math.Bool.{cond}
use Rattle.std.proofs.lemmas.Bool.{false≢true}
use Rattle.theory_lists.specs.Lists.{decide-le}
use Rattle.theory_reading.specs.Limits.{option_limit, open_limit, table_limit, word_limit}
use Rattle.elements.specs.Abstraction.{inside_open}
use Rattle.elements.specs.declared.Cause.{Cause}
use Rattle.elements.specs.declared.Cause.TheVariants.{WrongByte}
use Rattle.cursors.specs.declared.Cursor.{Cursor}
use Rattle.elements.specs.declared.Opens.{Opens}
use Rattle.cursors.specs.declared.Run.{Run}
use Rattle.reader.specs.Advance.{IterationView, low_of, opens_to, Iterates}
use Rattle.reader.specs.Iterating.{Iterated, iteration_in, iteration-in, iteration-made}
use Rattle.reader.specs.OpenNodes.{ReadReached, ReadCursor, cursor_in}
use Rattle.cursors.specs.Cursors.{first_run, start_cursor}
use Rattle.reader.specs.Loop.{first_opens, Stands, stands-first, ReachedBy, Running, goes-here, halts-here, ahead-here}
use Rattle.reader.specs.Loop.{iteration-length, loop-past}
use Rattle.node_records.specs.declared.NodeRecord.{NodeRecord}

-- ---- The loop --------------------------------------------------------------------------------

-- what the loop reaches, and the lent table after it
pub record ReadTo : Type 0 where
  pub reached : ReadReached
  pub table : List NodeRecord

-- it halts at r, with a fault if f
abbrev pub halted_at : Run → Opens → ℕ → ℕ → Bool → Cause → ℕ → ReadReached
halted_at r o from deep f c b = record { run = r; opens = o; from = from; deep = deep; halted = true; faulty = f; cause = c; byte = b }

-- it is past its stop
abbrev pub passed_at : Run → Opens → ℕ → ℕ → ReadReached
passed_at r o from deep = record { run = r; opens = o; from = from; deep = deep; halted = false; faulty = false; cause = WrongByte; byte = 0 }

-- "Reads on while no more than `stop` words are covered", at most so many iterations
unfoldable pub read_on : ℕ → ℕ → List ℕ → ℕ → Run → Opens → ℕ → ℕ → List NodeRecord → ReadTo
unfolding iteration_in
read_on zero n bytes stop r o from deep t = record { reached = halted_at r o from deep false WrongByte 0; table = t }
read_on (suc f) n bytes stop r o from deep t =
    let x = iteration_in n bytes r o.depth (low_of o) t in
    cond (ltb stop r.covered) (record { reached = passed_at r o from deep; table = t })
    (cond x.iteration.went (read_on f n bytes stop x.iteration.run (opens_to o x.iteration.depth x.iteration.low) r.covered
    o.depth x.table)
    (record { reached = halted_at r o from deep x.iteration.faulty x.iteration.cause x.iteration.byte; table = x.table }))

-- every turn that goes on takes a byte, so there are no more iterations than bytes, but for the last
abbrev pub read_all : ℕ → List ℕ → ℕ → Run → Opens → List NodeRecord → ReadTo
read_all n bytes stop r o t = read_on (suc (length bytes)) n bytes stop r o 0 0 t

module _ (f n : ℕ) (bytes : List ℕ) (stop : ℕ) (r : Run) (o : Opens) (from deep : ℕ) (t : List NodeRecord) where
  -- past the stop it is done
  pub read_past : stop < r.covered → read_on (suc f) n bytes stop r o from deep t ≡ record { reached = passed_at r o from deep; table = t }
  unfolding read_on
  read_past h = rw (lt-ltb stop r.covered h) refl

  -- an iteration more, of the result y and the table u
  abbrev iterated : Iterated → ReadTo
  iterated x =
      cond x.iteration.went (read_on f n bytes stop x.iteration.run (opens_to o x.iteration.depth x.iteration.low) r.covered
      o.depth x.table)
      (record { reached = halted_at r o from deep x.iteration.faulty x.iteration.cause x.iteration.byte; table = x.table })

  read-iteration : r.covered ≤ stop → read_on (suc f) n bytes stop r o from deep t ≡ iterated (iteration_in n bytes r o.depth (low_of o) t)
  unfolding read_on
  read-iteration h = ap (λ (b : Bool). cond b (record { reached = passed_at r o from deep; table = t })
      (iterated (iteration_in n bytes r o.depth (low_of o) t))) (le-ltb stop r.covered h)

  module _ (y : IterationView) (u : List NodeRecord) (made : Iterates n bytes r o.depth (low_of o) t y u) (l : r.covered ≤ stop) where
    read-correct : read_on (suc f) n bytes stop r o from deep t ≡ iterated (record { iteration = y; table = u })
    read-correct = read-iteration l ∙ ap iterated (sym (iteration-in n bytes r o.depth (low_of o) t y u made))

    -- an iteration that goes on
    pub read_goes : y.went ≡ true → read_on (suc f) n bytes stop r o from deep t
        ≡ read_on f n bytes stop y.run (opens_to o y.depth y.low) r.covered o.depth u
    read_goes e =
        read-correct
        ∙ ap (λ (b : Bool). cond b (read_on f n bytes stop y.run (opens_to o y.depth y.low) r.covered o.depth u)
        (record { reached = halted_at r o from deep y.faulty y.cause y.byte; table = u })) e

    -- another halts
    pub read-halts : y.went ≡ false → read_on (suc f) n bytes stop r o from deep t
        ≡ record { reached = halted_at r o from deep y.faulty y.cause y.byte; table = u }
    read-halts e =
        read-correct
        ∙ ap (λ (b : Bool). cond b (read_on f n bytes stop y.run (opens_to o y.depth y.low) r.covered o.depth u)
        (record { reached = halted_at r o from deep y.faulty y.cause y.byte; table = u })) e

-- The lent table stays as long.
pub read_length : (f n : ℕ) (bytes : List ℕ) (stop : ℕ) (r : Run) (o : Opens) (from deep : ℕ) (t : List NodeRecord)
    → length (read_on f n bytes stop r o from deep t).table ≡ length t
unfolding read_on
read_length zero n bytes stop r o from deep t = refl
read_length (suc f) n bytes stop r o from deep t = ⊎_elim (λ k. on (λ a b c d e. read_length f n bytes stop a b c d e) k x.iteration.went refl)
    over (decide-le r.covered stop)
  where
    x : Iterated
    x = iteration_in n bytes r o.depth (low_of o) t

    made : Iterates n bytes r o.depth (low_of o) t x.iteration x.table
    made = iteration-made n bytes r o.depth (low_of o) t

    long : length x.table ≡ length t
    long = iteration-length n bytes r o.depth (low_of o) t x.iteration x.table made

    on : ((r : Run) (o : Opens) (from deep : ℕ) (t : List NodeRecord) → length (read_on f n bytes stop r o from deep t).table ≡ length t)
        → r.covered ≤ stop → (b : Bool) → x.iteration.went ≡ b → length (read_on (suc f) n bytes stop r o from deep t).table ≡ length t
    on again k true e = ap (λ (z : ReadTo). length z.table) (read_goes f n bytes stop r o from deep t x.iteration x.table made k e)
        ∙ again _ _ _ _ _ ∙ long
    on again k false e = ap (λ (z : ReadTo). length z.table) (read-halts f n bytes stop r o from deep t x.iteration x.table made k e) ∙ long

    over : stop < r.covered → length (read_on (suc f) n bytes stop r o from deep t).table ≡ length t
    over k = ap (λ (z : ReadTo). length z.table) (read_past f n bytes stop r o from deep t k)

-- ---- It is what the loop reaches -------------------------------------------------------------

abbrev Reaches : ℕ → List ℕ → ℕ → ReadTo → Type 0
Reaches n bytes stop z = ReachedBy n bytes stop z.reached z.table

-- with fuel for every byte that is left
read-running : (f n : ℕ) (bytes : List ℕ) → n ≤ option_limit → (stop : ℕ) (r : Run) (o : Opens) (from deep : ℕ) (t : List NodeRecord)
    → Running n bytes stop r o from deep t → length bytes - r.at < f
    → Reaches n bytes stop (read_on f n bytes stop r o from deep t)
read-running zero n bytes few stop r o from deep t h l = absurd (omega (arith, l))
read-running (suc f) n bytes few stop r o from deep t h l = ⊎_elim (on (λ a b c d e. read-running f n bytes few stop a b c d e)) over
    (decide-le r.covered stop)
  where
    Again : Type 0
    Again = (r : Run) (o : Opens) (from deep : ℕ) (t : List NodeRecord) → Running n bytes stop r o from deep t → length bytes - r.at < f
        → Reaches n bytes stop (read_on f n bytes stop r o from deep t)

    y : IterationView
    y = (iteration_in n bytes r o.depth (low_of o) t).iteration

    u : List NodeRecord
    u = (iteration_in n bytes r o.depth (low_of o) t).table

    made : Iterates n bytes r o.depth (low_of o) t y u
    made = iteration-made n bytes r o.depth (low_of o) t

    go : Again → r.covered ≤ stop → (b : Bool) → y.went ≡ b → Reaches n bytes stop (read_on (suc f) n bytes stop r o from deep t)
    go again k true e =
        subst (Reaches n bytes stop) (sym (read_goes f n bytes stop r o from deep t y u made k e))
        (again y.run (opens_to o y.depth y.low) r.covered o.depth u (goes-here n bytes few r o t h.stands y u made e stop k)
        (omega (arith, l, ahead-here n bytes few r o t h.stands y u made e)))
    go again k false e =
        let i = halts-here n bytes few r o t h.stands y u made e in
        subst (Reaches n bytes stop) (sym (read-halts f n bytes stop r o from deep t y u made k e))
        (subst (ReachedBy n bytes stop (halted_at r o from deep y.faulty y.cause y.byte)) (sym i.0)
        (record { stands = h.stands; ends = (k, i.1) }))

    on : Again → r.covered ≤ stop → Reaches n bytes stop (read_on (suc f) n bytes stop r o from deep t)
    on again k = go again k y.went refl

    over : stop < r.covered → Reaches n bytes stop (read_on (suc f) n bytes stop r o from deep t)
    over k = subst (Reaches n bytes stop) (sym (read_past f n bytes stop r o from deep t k)) (loop-past n bytes stop r o from deep t h k)

-- WHERE CODE STANDS as reading does, what the function comes to is what the loop reaches.
pub read-reaches : (n : ℕ) (bytes : List ℕ) → n ≤ option_limit → (stop : ℕ) (r : Run) (o : Opens) (t : List NodeRecord) → Stands n bytes r o t
    → r.covered ≤ stop
    → let z = read_all n bytes stop r o t in ReachedBy n bytes stop z.reached z.table
read-reaches n bytes few stop r o t h l = read-running (suc (length bytes)) n bytes few stop r o 0 0 t (record { stands = h; past = inl l })
    (omega arith)

-- ---- Reading on from a cursor ----------------------------------------------------------------

-- where reading begins
abbrev pub first_cursor : ReadCursor
first_cursor = record { run = first_run; opens = first_opens }

-- It is that beside open nodes that are in their first children.
pub cursor-first : cursor_in start_cursor (replicate open_limit inside_open) ≡ first_cursor
cursor-first = refl

-- more options, open nodes or words than any reading has
abbrev pub off_by : ℕ → ℕ → ℕ → Bool
off_by n d stop = ltb option_limit n || (ltb open_limit d || ltb word_limit stop)

-- nothing is read
abbrev pub resting_at : ReadCursor → ReadReached
resting_at c = halted_at c.run c.opens 0 0 false WrongByte 0

-- READING ON while no more than `stop` words are covered; past the limits nothing is read
unfoldable pub read_from : ℕ → List ℕ → ℕ → ReadCursor → List NodeRecord → ReadTo
unfolding read_on
read_from n bytes stop c t = cond (off_by n c.opens.depth stop) (record { reached = resting_at c; table = t })
    (read_all n bytes stop c.run c.opens t)

module _ (n : ℕ) (bytes : List ℕ) (stop : ℕ) (c : ReadCursor) (t : List NodeRecord) where
  abbrev by : Bool → ReadTo
  by b = cond b (record { reached = resting_at c; table = t }) (read_all n bytes stop c.run c.opens t)

  -- Within the limits it is the loop.
  pub read-on : off_by n c.opens.depth stop ≡ false → read_from n bytes stop c t ≡ read_all n bytes stop c.run c.opens t
  unfolding read_from
  read-on h = ap by h

-- a cursor that is not past the limits keeps to them
pub within : (n d stop : ℕ) → off_by n d stop ≡ false → (n ≤ option_limit) × ((d ≤ open_limit) × (stop ≤ word_limit))
within n d stop = go (ltb option_limit n) refl (ltb open_limit d) refl (ltb word_limit stop) refl
  where
    go : (p : Bool) → ltb option_limit n ≡ p → (q : Bool) → ltb open_limit d ≡ q → (r : Bool) → ltb word_limit stop ≡ r → (p || (q || r)) ≡ false
        → (n ≤ option_limit) × ((d ≤ open_limit) × (stop ≤ word_limit))
    go true e q f r g h = absurd (false≢true (sym h))
    go false e true f r g h = absurd (false≢true (sym h))
    go false e false f true g h = absurd (false≢true (sym h))
    go false e false f false g h = (ltb-false option_limit n e, (ltb-false open_limit d f, ltb-false word_limit stop g))

-- and one that keeps to them is not past them
pub not-off : (n d stop : ℕ) → n ≤ option_limit → d ≤ open_limit → stop ≤ word_limit → off_by n d stop ≡ false
not-off n d stop h k l = rw (le-ltb option_limit n h, le-ltb open_limit d k, le-ltb word_limit stop l) refl

-- The loop reads on from a cursor that stands where reading does.
pub read-within : (n : ℕ) (bytes : List ℕ) → n ≤ option_limit → (stop : ℕ) → stop ≤ word_limit → (c : ReadCursor) (t : List NodeRecord)
    → Stands n bytes c.run c.opens t
    → read_from n bytes stop c t ≡ read_all n bytes stop c.run c.opens t
read-within n bytes few stop most c t h = read-on n bytes stop c t (not-off n c.opens.depth stop few h.kept.deep most)

-- So for a call: y is what it reaches, u the table after it.
pub read-called : (n : ℕ) (bytes : List ℕ) → n ≤ option_limit → (stop : ℕ) → stop ≤ word_limit → (c : ReadCursor) (t : List NodeRecord)
    → Stands n bytes c.run c.opens t → c.run.covered ≤ stop
    → (y : ReadReached) (u : List NodeRecord) → record { reached = y; table = u } ≡ read_from n bytes stop c t → ReachedBy n bytes stop y u
read-called n bytes few stop most c t h l y u e =
    subst (Reaches n bytes stop) (sym (e ∙ read-within n bytes few stop most c t h)) (read-reaches n bytes few stop c.run c.opens t h l)

-- So for a call from the start.
pub read-begun : (n : ℕ) (bytes : List ℕ) → n ≤ option_limit → (stop : ℕ) → stop ≤ word_limit → (c : Cursor) (t : List NodeRecord) → table_limit ≤ length t
    → c ≡ start_cursor
    → (y : ReadReached) (u : List NodeRecord) → record { reached = y; table = u }
    ≡ read_from n bytes stop (cursor_in c (replicate open_limit inside_open)) t → ReachedBy n bytes stop y u
read-begun n bytes few stop most c t room ce y u e =
    read-called n bytes few stop most first_cursor t (stands-first n bytes t room) (omega arith) y u
    (e ∙ ap (λ (c : Cursor). read_from n bytes stop (cursor_in c (replicate open_limit inside_open)) t) ce)
