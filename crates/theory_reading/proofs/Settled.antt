-- A reading makes enough steps: one more changes nothing. And "the lowest fault place counts": a fault lies inside the bytes, and the bytes
-- before it are without fault. Assumes nothing.
use Rattle.std.specs.Prelude.{◌≡◌, refl, ◌⊎◌, Bool, true, false, cond, List, [], ◌∷◌, ℕ, zero, suc, ◌+◌, ◌<◌, ◌≤◌, ltb, eqb, length, take, drop}
use Rattle.std.proofs.Common.{sym, ap, ◌∙◌, subst, inl, inr, ⊎_elim, arith, length-take, take-append-drop}
use Rattle.std.proofs.Math.Option.{Option, none, some}
use Rattle.theory_lists.specs.Lists.{decide-le}
use Rattle.theory_lists.specs.Lookups.{lookup-inside}
use Rattle.theory_reading.specs.Limits.{table_limit}
use Rattle.theory_reading.specs.Nodes.{Node, node, is_kept}
use Rattle.theory_reading.specs.Causes.{Cause, place, keeps_output, not_storable, declared_size, too_deep, not_in_table, other_level, bad_number}
use Rattle.theory_reading.specs.Causes.{cause_row}
use Rattle.theory_reading.specs.Element.{Element, opening, number, constant, turn, closing, storing, end, Open, in_first, in_second, Place}
use Rattle.theory_reading.specs.Element.{Outcome, got, fault, ran_out, step}
use Rattle.theory_reading.specs.Reading.{State, Fault, Reading, goes, fails, fresh, level, is_start, found, closed, is_bad, with_element}
use Rattle.theory_reading.specs.Reading.{barred_colon, after, advance, next_by, next, onward, reading}
use Rattle.theory_reading.specs.Deciding.{Drawing, drawing, draw_unless, Trace, traced, next_trace, trace_on, trace}
use Rattle.theory_reading.specs.StepLaws.{digit_place}
use Rattle.theory_reading.proofs.StepLaws.{OfStream, AheadBy, step-ahead}
use Rattle.theory_reading.specs.Prefix.{byte_at}
use Rattle.theory_reading.proofs.Prefix.{chosen, advance-chosen, trace-past, trace_on-fixed, trace_on-add, fault-stands}

-- No fault is none.
pub never-some : {A : Type 0} (g : Fault) → none ≡ some g → A
never-some g e = let z : ◌≡◌ {A = ℕ} 0 1 = cc in absurd (omega arith)

-- What one step from s, drawn as d, can do: nothing; a fault at the place or behind it; or a place farther on. All inside the l bytes.
pub data Moved (l : ℕ) (s : State) (d : Drawing) : Reading → Drawing → Type 0 where
  rests : Moved l s d (goes s) d
  refuses : (c : Cause) (b : ℕ) (x : Drawing) → OfStream c → s.place.at ≤ b → b < l → Moved l s d (fails s c b) x
  farther : (s' : State) (x : Drawing) → s.place.at < s'.place.at → s'.place.at ≤ l → Moved l s d (goes s') x

module _ (l : ℕ) (s : State) (d : Drawing) where
  -- o: what the step of the place came to
  abbrev MovedBy : Outcome → Reading → Type 0
  MovedBy o r = Moved l s d r (draw_unless r.fault s o d)

  moved_cond : (o : Outcome) (t : Bool) (x y : Reading) → MovedBy o x → MovedBy o y → MovedBy o (cond t x y)
  moved_cond o true x y h k = h
  moved_cond o false x y h k = k

  closed-moved : (n : ℕ) (q : Place) → s.place.at < q.at → q.at ≤ l → (o : List Open) → MovedBy (got closing) (closed n s q o)
  closed-moved n q h k [] = farther _ _ h k
  closed-moved n q h k (in_first ∷ o) = moved_cond (got closing) (is_kept s.place.last) _ _ (farther _ _ h k)
      (refuses not_storable s.place.at _ (refl, refl) (omega arith) (omega arith))
  closed-moved n q h k (in_second a t ∷ o) = farther _ _ h k

  found-moved : (n i v : ℕ) (q : Place) → s.place.at < q.at → q.at ≤ l → s.place.at ≤ i → i < l → (x : Node)
      → MovedBy (got (number v)) (found n s q i v x)
  found-moved n i v q h k p j x =
      moved_cond (got (number v)) (eqb x.level 0) _ _ (refuses not_in_table i _ (refl, refl) p j)
      (moved_cond (got (number v)) (eqb x.level (level s.place)) _ _ (farther _ _ h k) (refuses other_level i _ (refl, refl) p j))

  with_element-moved : (n i : ℕ) → s.place.at ≤ i → (e : Element) (q : Place) → AheadBy s.place.at i l (got e) q.at
      → MovedBy (got e) (with_element n s i e q)
  unfolding with_element
  with_element-moved n i h opening q g = moved_cond (got opening) (ltb n (level s.place)) _ _
      (refuses too_deep s.place.at _ (refl, refl) (omega arith) (omega (arith, g.0, g.2))) (farther _ _ g.0 g.2)
  with_element-moved n i h (number v) q g =
      moved_cond (got (number v)) (is_start s.place.context) _ _
      (moved_cond (got (number v)) (ltb table_limit v) _ _ (refuses declared_size i _ (refl, refl) h (omega (arith, g.1, g.2)))
      (farther _ _ g.0 g.2))
      (found-moved n i v q g.0 g.2 h (omega (arith, g.1, g.2)) (node s.table v))
  with_element-moved n i h constant q g = farther _ _ g.0 g.2
  with_element-moved n i h turn q g = farther _ _ g.0 g.2
  with_element-moved n i h closing q g = closed-moved n q g.0 g.2 s.place.opens
  with_element-moved n i h (storing k) q g = moved_cond (got (storing k)) (is_bad s k) _ _
      (refuses bad_number (s.place.at + 1) _ (refl, refl) (omega arith) (omega (arith, g.1, g.2))) (farther _ _ g.0 g.2)
  with_element-moved n i h end q g = farther _ _ g.0 g.2

  after-moved : (n i : ℕ) → s.place.at ≤ i → (o : Outcome) (q : Place) → AheadBy s.place.at i l o q.at → MovedBy o (after n s i o q)
  unfolding after
  after-moved n i h (got e) q g = with_element-moved n i h e q g
  after-moved n i h (fault c b) q g = refuses c b _ g.2 g.0 g.1
  after-moved n i h ran_out q g = rests

  chosen-moved : (n b : ℕ) (t : Bool) → s.place.at < l → (o : Outcome) (q : Place)
      → AheadBy s.place.at (digit_place s.place.at b) l o q.at → MovedBy o (chosen n s b t o q)
  chosen-moved n b true h o q g = refuses not_storable s.place.at _ (refl, refl) (omega arith) h
  chosen-moved n b false h o q g = after-moved n (digit_place s.place.at b) (low (eqb b _)) o q g
    where
      low : (t : Bool) → s.place.at ≤ cond t (s.place.at + 1) s.place.at
      low true = omega arith
      low false = omega arith

pub advance-moved : (n : ℕ) (bytes : List ℕ) (s : State) (d : Drawing)
    → MovedBy (length bytes) s d (step s.place bytes).outcome (advance n bytes s)
advance-moved n bytes s d = ⊎_elim past inside (decide-le (length bytes) s.place.at)
  where
    past : length bytes ≤ s.place.at → MovedBy (length bytes) s d (step s.place bytes).outcome (advance n bytes s)
    past h = subst (λ (t : Trace). Moved (length bytes) s d t.reading t.drawing) (sym (trace-past n bytes s d h)) rests

    inside : s.place.at < length bytes → MovedBy (length bytes) s d (step s.place bytes).outcome (advance n bytes s)
    inside h = subst (MovedBy (length bytes) s d (step s.place bytes).outcome) (sym (advance-chosen n bytes s))
        (chosen-moved (length bytes) s d n (byte_at bytes s) (barred_colon s (byte_at bytes s)) h (step s.place bytes).outcome
        (step s.place bytes).place
        (step-ahead s.place bytes (byte_at bytes s) (lookup-inside bytes s.place.at 0 h)))

-- ---- Enough steps ----------------------------------------------------------------------------

-- r stands farther on than a, or has a fault
data Onto (a : ℕ) (r : Reading) : Type 0 where
  onto : a < r.state.place.at → Onto a r
  failed : (f : Fault) → r.fault ≡ some f → Onto a r

moved-onto : (l : ℕ) (s : State) (d : Drawing) (r : Reading) (x : Drawing) → Moved l s d r x
    → (traced r x ≡ traced (goes s) d) ⊎ Onto s.place.at r
moved-onto l s d r x rests = inl refl
moved-onto l s d r x (refuses c b y i h k) = inr (failed _ refl)
moved-onto l s d r x (farther s' y h k) = inr (onto h)

next-onto : (n : ℕ) (bytes : List ℕ) (t : Trace) → (next_trace n bytes t ≡ t) ⊎ Onto t.reading.state.place.at (next_trace n bytes t).reading
unfolding next_trace next
next-onto n bytes t = go t.reading.fault
  where
    go : (f : Option Fault) → (traced (next_by n bytes t.reading.state f)
        (draw_unless (next_by n bytes t.reading.state f).fault t.reading.state (step t.reading.state.place bytes).outcome t.drawing)
        ≡ traced (record { state = t.reading.state; fault = f }) t.drawing) ⊎ Onto t.reading.state.place.at
        (next_by n bytes t.reading.state f)
    go none = moved-onto (length bytes) t.reading.state t.drawing _ _ (advance-moved n bytes t.reading.state t.drawing)
    go (some f) = inl refl

-- after a fault a step changes nothing
pub trace-rests : (n : ℕ) (bytes : List ℕ) (t : Trace) (f : Fault) → t.reading.fault ≡ some f → next_trace n bytes t ≡ t
unfolding next_trace next
trace-rests n bytes t f e = go t.reading.fault e
  where
    go : (o : Option Fault) → o ≡ some f → traced (next_by n bytes t.reading.state o)
        (draw_unless (next_by n bytes t.reading.state o).fault t.reading.state (step t.reading.state.place bytes).outcome t.drawing)
        ≡ traced (record { state = t.reading.state; fault = o }) t.drawing
    go none h = never-some f h
    go (some g) h = refl

-- nor does one that leaves the reading as it was
pub trace-stays : (n : ℕ) (bytes : List ℕ) (t : Trace) → (next_trace n bytes t).reading ≡ t.reading → next_trace n bytes t ≡ t
trace-stays n bytes t e = go (next-onto n bytes t)
  where
    go : (next_trace n bytes t ≡ t) ⊎ Onto t.reading.state.place.at (next_trace n bytes t).reading → next_trace n bytes t ≡ t
    go (inl h) = h
    go (inr (onto h)) = absurd (omega (arith, h, ap (λ (r : Reading). r.state.place.at) e))
    go (inr (failed f h)) = trace-rests n bytes t f (sym (ap (λ (r : Reading). r.fault) e) ∙ h)

pub trace-ended : (n : ℕ) (bytes : List ℕ) (t : Trace) → length bytes ≤ t.reading.state.place.at → next_trace n bytes t ≡ t
unfolding next_trace next
trace-ended n bytes t h = go t.reading.fault
  where
    go : (f : Option Fault) → traced (next_by n bytes t.reading.state f)
        (draw_unless (next_by n bytes t.reading.state f).fault t.reading.state (step t.reading.state.place bytes).outcome t.drawing)
        ≡ traced (record { state = t.reading.state; fault = f }) t.drawing
    go none = trace-past n bytes t.reading.state t.drawing h
    go (some f) = refl

trace_on-far : (f n : ℕ) (bytes : List ℕ) (t : Trace) → (next_trace n bytes (trace_on f n bytes t) ≡ trace_on f n bytes t) ⊎
    (f + t.reading.state.place.at ≤ (trace_on f n bytes t).reading.state.place.at)
unfolding trace_on
trace_on-far zero n bytes t = inr (omega arith)
trace_on-far (suc f) n bytes t = go (trace_on-far f n bytes (next_trace n bytes t)) (next-onto n bytes t)
  where
    rest : (x : Trace) → next_trace n bytes x ≡ x → next_trace n bytes (trace_on f n bytes x) ≡ trace_on f n bytes x
    rest x e = let h = trace_on-fixed f n bytes x e in ap (next_trace n bytes) h ∙ e ∙ sym h

    go : (next_trace n bytes (trace_on f n bytes (next_trace n bytes t)) ≡ trace_on f n bytes (next_trace n bytes t)) ⊎
        (f + (next_trace n bytes t).reading.state.place.at ≤ (trace_on f n bytes (next_trace n bytes t)).reading.state.place.at)
        → (next_trace n bytes t ≡ t) ⊎ Onto t.reading.state.place.at (next_trace n bytes t).reading
        → (next_trace n bytes (trace_on f n bytes (next_trace n bytes t)) ≡ trace_on f n bytes (next_trace n bytes t)) ⊎
        (suc f + t.reading.state.place.at ≤ (trace_on f n bytes (next_trace n bytes t)).reading.state.place.at)
    go h (inl e) = inl (rest (next_trace n bytes t) (ap (next_trace n bytes) e))
    go (inl h) (inr m) = inl h
    go (inr h) (inr (onto k)) = inr (omega arith)
    go (inr h) (inr (failed g e)) = inl (rest (next_trace n bytes t) (trace-rests n bytes (next_trace n bytes t) g e))

-- ENOUGH STEPS: one more changes nothing.
pub settled : (n : ℕ) (bytes : List ℕ) (t : Trace) → let x = trace_on (suc (length bytes)) n bytes t in next_trace n bytes x ≡ x
settled n bytes t = ⊎_elim (λ h. h) (λ h. trace-ended n bytes (trace_on (suc (length bytes)) n bytes t) (omega (arith, h)))
    (trace_on-far (suc (length bytes)) n bytes t)

-- The whole trace goes on from any trace on the way.
pub trace-onward : (n : ℕ) (bytes : List ℕ) (k : ℕ) → trace n bytes ≡ trace_on (suc (length bytes)) n bytes
    (trace_on k n bytes (traced (goes fresh) (drawing [] [])))
unfolding trace
trace-onward n bytes k =
    let x = traced (goes fresh) (drawing [] []) in
    let f = suc (length bytes) in
    let c : f + k ≡ k + f = omega arith in
    sym (trace_on-fixed k n bytes (trace_on f n bytes x) (settled n bytes x))
    ∙ sym (trace_on-add f k n bytes x) ∙ ap (λ (j : ℕ). trace_on j n bytes x) c ∙ trace_on-add k f n bytes x

-- A trace on the way that one more step does not change is the whole trace.
pub trace-settled : (n : ℕ) (bytes : List ℕ) (k : ℕ) (t : Trace) → trace_on k n bytes (traced (goes fresh) (drawing [] [])) ≡ t → next_trace n bytes t
    ≡ t → trace n bytes ≡ t
trace-settled n bytes k t e h =
    let f = suc (length bytes) in
    trace-onward n bytes k ∙ ap (trace_on f n bytes) e ∙ trace_on-fixed f n bytes t h

-- ---- The lowest fault place ------------------------------------------------------------------

-- no fault, or one inside the l bytes, with a cause of streams
abbrev Inside : ℕ → Option Fault → Type 0
Inside l f = (g : Fault) → f ≡ some g → (g.byte < l) × OfStream g.cause

same_byte : (b : ℕ) (c : Cause) (g : Fault) → some (record { cause = c; byte = b }) ≡ some g → b ≡ g.byte
same_byte b c g e = cc

same-cause : (b : ℕ) (c : Cause) (g : Fault) → some (record { cause = c; byte = b }) ≡ some g → c ≡ g.cause
same-cause b c g e = cc

moved_inside : (l : ℕ) (s : State) (d : Drawing) (r : Reading) (x : Drawing) → Moved l s d r x → Inside l r.fault
moved_inside l s d r x rests = λ g e. never-some g e
moved_inside l s d r x (refuses c b y i h k) = λ g e. (omega (arith, same_byte b c g e), subst OfStream (same-cause b c g e) i)
moved_inside l s d r x (farther s' y h k) = λ g e. never-some g e

next-inside : (n : ℕ) (bytes : List ℕ) (s : State) (f : Option Fault) → Inside (length bytes) f → Inside (length bytes) (next_by n bytes s f).fault
next-inside n bytes s none i = moved_inside (length bytes) s (drawing [] []) _ _ (advance-moved n bytes s (drawing [] []))
next-inside n bytes s (some f) i = i

onward-inside : (f n : ℕ) (bytes : List ℕ) (r : Reading) → Inside (length bytes) r.fault → Inside (length bytes) (onward f n bytes r).fault
unfolding onward next
onward-inside zero n bytes r i = i
onward-inside (suc f) n bytes r i = onward-inside f n bytes (next n bytes r) (next-inside n bytes r.state r.fault i)

fault-known : (n : ℕ) (bytes : List ℕ) → Inside (length bytes) (reading n bytes).fault
unfolding reading
fault-known n bytes = onward-inside (suc (length bytes)) n bytes (goes fresh) (λ g h. never-some g h)

pub fault-inside : (n : ℕ) (bytes : List ℕ) (f : Fault) → (reading n bytes).fault ≡ some f → f.byte < length bytes
fault-inside n bytes f e = (fault-known n bytes f e).0

-- A fault of a stream has a cause that names a place,
pub fault-place : (n : ℕ) (bytes : List ℕ) (f : Fault) → (reading n bytes).fault ≡ some f → (cause_row f.cause).names ≡ place
fault-place n bytes f e = (fault-known n bytes f e).1.0

-- and keeps the output.
pub fault-leaves : (n : ℕ) (bytes : List ℕ) (f : Fault) → (reading n bytes).fault ≡ some f → (cause_row f.cause).leaves ≡ keeps_output
fault-leaves n bytes f e = (fault-known n bytes f e).1.1

same_some : (f g : Fault) → some f ≡ some g → f.byte ≡ g.byte
same_some f g e = cc

-- THE LOWEST PLACE: the bytes before a fault are without fault.
pub fault-lowest : (n : ℕ) (bytes : List ℕ) (f : Fault) → (reading n bytes).fault ≡ some f → (reading n (take f.byte bytes)).fault ≡ none
fault-lowest n bytes f e = go (reading n (take f.byte bytes)).fault refl
  where
    go : (o : Option Fault) → (reading n (take f.byte bytes)).fault ≡ o → (reading n (take f.byte bytes)).fault ≡ none
    go none h = h
    go (some g) h =
        let k : reading n bytes ≡ reading n (take f.byte bytes) = ap (reading n) (sym (take-append-drop f.byte bytes))
        ∙ fault-stands n (take f.byte bytes) (drop f.byte bytes) g h in
        let j : f.byte ≡ g.byte = same_some f g (sym e ∙ ap (λ (r : Reading). r.fault) k ∙ h) in
        absurd (omega (arith, j, fault-inside n (take f.byte bytes) g h, length-take f.byte bytes))
