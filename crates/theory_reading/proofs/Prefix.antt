-- THE PREFIX LAWS: reading a longer stream goes on from the reading of its beginning, with its drawing; a fault stands; and a reading makes
-- enough steps. Assumes nothing.
use Rattle.std.specs.Prelude.{◌≡◌, refl, ◌⊎◌, Bool, true, false, ◌&&◌, eqb}
use Rattle.std.proofs.Math.Path.{sym, ap}
use Rattle.std.proofs.Common.{◌∙◌, inl, inr, ⊎_elim, arith}
use mathlib.Core.List.{List, [], ◌++◌}
use Rattle.std.proofs.Math.Option.{Option, none, some}
use Prim.Native.Nat.{ℕ, zero, suc, ◌+◌, ◌<◌, ◌≤◌}
use Rattle.std.proofs.Math.ListN.{length, length-append, get_or-append, get_or-eq_default}
use Rattle.theory_lists.specs.Lists.{decide-le}
use Rattle.theory_lists.specs.Lookups.{lookup-past}
use Rattle.theory_reading.specs.Bytes.{colon}
use Rattle.theory_reading.specs.Causes.{not_storable}
use Rattle.theory_reading.specs.Element.{Place, Outcome, ran_out, Step, waits, step}
use Rattle.theory_reading.specs.Reading.{State, Fault, Reading, goes, fails, fresh, is_two, barred_colon, first_digit, after, advance, next_by}
use Rattle.theory_reading.specs.Reading.{next, onward, reading}
use Rattle.theory_reading.specs.Deciding.{Drawing, drawing, draw_unless, Trace, traced, next_trace, trace_on, trace}
use Rattle.theory_reading.proofs.StepLaws.{Still, step-more, step_past}
use Rattle.theory_reading.specs.Prefix.{byte_at}

-- ---- One step --------------------------------------------------------------------------------

-- a step of reading by what bars a storing, and by what the step of the place gives
abbrev pub chosen : ℕ → State → ℕ → Bool → Outcome → Place → Reading
chosen n s b t o q = elim t [ true ↦ fails s not_storable s.place.at | false ↦ after n s (first_digit s b) o q ]

pub advance-chosen : (n : ℕ) (bytes : List ℕ) (s : State) → advance n bytes s
    ≡ chosen n s (byte_at bytes s) (barred_colon s (byte_at bytes s)) (step s.place bytes).outcome (step s.place bytes).place
unfolding advance
advance-chosen n bytes s = refl

-- the same with the drawing
abbrev drawn : ℕ → State → Drawing → ℕ → Bool → Outcome → Place → Trace
drawn n s d b t o q = traced (chosen n s b t o q) (draw_unless (chosen n s b t o q).fault s o d)

abbrev drawn_at : ℕ → State → Drawing → ℕ → Step → Trace
drawn_at n s d b x = drawn n s d b (barred_colon s b) x.outcome x.place

abbrev trace_by : ℕ → List ℕ → State → Option Fault → Drawing → Trace
trace_by n bytes s f d = traced (next_by n bytes s f) (draw_unless (next_by n bytes s f).fault s (step s.place bytes).outcome d)

trace_by-drawn : (n : ℕ) (bytes : List ℕ) (s : State) (d : Drawing) → trace_by n bytes s none d ≡ drawn_at n s d (byte_at bytes s) (step s.place bytes)
unfolding advance
trace_by-drawn n bytes s d = refl

next_trace-by : (n : ℕ) (bytes : List ℕ) (t : Trace) → next_trace n bytes t ≡ trace_by n bytes t.reading.state t.reading.fault t.drawing
unfolding next_trace next
next_trace-by n bytes t = refl

no-colon : (m : Bool) (b : ℕ) (x : Bool) → b ≡ 0 → ((m && eqb b colon) && x) ≡ false
no-colon true b x e = rw e refl
no-colon false b x e = refl

-- at the end of the bytes a reading stays
drawn-waits : (n : ℕ) (s : State) (d : Drawing) (b : ℕ) (x : Step) → x.outcome ≡ ran_out → barred_colon s b ≡ false → drawn_at n s d b x
    ≡ traced (goes s) d
unfolding after
drawn-waits n s d b x e k = ap (λ (u : Bool). drawn n s d b u x.outcome x.place) k ∙ ap (λ (o : Outcome). drawn n s d b false o x.place) e

pub trace-past : (n : ℕ) (xs : List ℕ) (s : State) (d : Drawing) → length xs ≤ s.place.at → trace_by n xs s none d ≡ traced (goes s) d
trace-past n xs s d h =
    let x : step s.place xs ≡ waits s.place = step_past s.place xs (lookup-past xs s.place.at h) in
    trace_by-drawn n xs s d
    ∙ drawn-waits n s d (byte_at xs s) (step s.place xs) (ap (λ (y : Step). y.outcome) x)
    (no-colon (is_two s.place.context) (byte_at xs s) _ (get_or-eq_default xs 0 h))

-- with more bytes behind a step is the same, or the reading of xs stays where it is
still-drawn : (n : ℕ) (s : State) (d : Drawing) (b : ℕ) (x y : Step) (t : Bool) → Still x y
    → (drawn n s d b t x.outcome x.place ≡ traced (goes s) d) ⊎
    (drawn n s d b t y.outcome y.place ≡ drawn n s d b t x.outcome x.place)
unfolding after
still-drawn n s d b x y t (inr k) = inr (ap (λ (z : Step). drawn n s d b t z.outcome z.place) k)
still-drawn n s d b x y true (inl k) = inr refl
still-drawn n s d b x y false (inl k) = inl (ap (λ (o : Outcome). drawn n s d b false o x.place) k)

trace_by-more : (n : ℕ) (xs ys : List ℕ) (s : State) (f : Option Fault) (d : Drawing)
    → (trace_by n xs s f d ≡ traced (record { state = s; fault = f }) d) ⊎ (trace_by n (xs ++ ys) s f d ≡ trace_by n xs s f d)
trace_by-more n xs ys s (some f) d = inl refl
trace_by-more n xs ys s none d = ⊎_elim (λ h. inl (trace-past n xs s d h)) inside (decide-le (length xs) s.place.at)
  where
    inside : s.place.at < length xs → (trace_by n xs s none d ≡ traced (goes s) d) ⊎ (trace_by n (xs ++ ys) s none d ≡ trace_by n xs s none d)
    inside h =
        let b : byte_at (xs ++ ys) s ≡ byte_at xs s = get_or-append xs ys 0 s.place.at h in
        let y = step s.place (xs ++ ys) in
        ⊎_elim
        (λ k. inl (trace_by-drawn n xs s d ∙ k))
        (λ k. inr (trace_by-drawn n (xs ++ ys) s d ∙ ap (λ (c : ℕ). drawn_at n s d c y) b ∙ k ∙ sym (trace_by-drawn n xs s d)))
        (still-drawn n s d (byte_at xs s) (step s.place xs) y (barred_colon s (byte_at xs s)) (step-more s.place xs ys))

-- ONE STEP: the reading of xs stays where it is, or it goes on alike with more bytes behind.
pub next_trace-more : (n : ℕ) (xs ys : List ℕ) (t : Trace) → (next_trace n xs t ≡ t) ⊎ (next_trace n (xs ++ ys) t ≡ next_trace n xs t)
next_trace-more n xs ys t =
    ⊎_elim
    (λ k. inl (next_trace-by n xs t ∙ k))
    (λ k. inr (next_trace-by n (xs ++ ys) t ∙ k ∙ sym (next_trace-by n xs t)))
    (trace_by-more n xs ys t.reading.state t.reading.fault t.drawing)

-- ---- Many steps ------------------------------------------------------------------------------

pub trace_on-fixed : (f n : ℕ) (xs : List ℕ) (t : Trace) → next_trace n xs t ≡ t → trace_on f n xs t ≡ t
unfolding trace_on
trace_on-fixed zero n xs t e = refl
trace_on-fixed (suc f) n xs t e = ap (trace_on f n xs) e ∙ trace_on-fixed f n xs t e

pub trace_on-add : (f g n : ℕ) (xs : List ℕ) (t : Trace) → trace_on (f + g) n xs t ≡ trace_on g n xs (trace_on f n xs t)
unfolding trace_on
trace_on-add zero g n xs t = let e : zero + g ≡ g = omega arith in rw e refl
trace_on-add (suc f) g n xs t = let e : suc f + g ≡ suc (f + g) = omega arith in rw e (trace_on-add f g n xs (next_trace n xs t))

-- the last step on its own
pub trace_on-last : (f n : ℕ) (xs : List ℕ) (t : Trace) → trace_on (suc f) n xs t ≡ next_trace n xs (trace_on f n xs t)
unfolding trace_on
trace_on-last zero n xs t = refl
trace_on-last (suc f) n xs t = trace_on-last f n xs (next_trace n xs t)

trace_on-more : (f n : ℕ) (xs ys : List ℕ) (t : Trace) → (k : ℕ) × (trace_on f n (xs ++ ys) t ≡ trace_on k n (xs ++ ys) (trace_on f n xs t))
unfolding trace_on
trace_on-more zero n xs ys t = (0, refl)
trace_on-more (suc f) n xs ys t = ⊎_elim stays (goes_on_lem (trace_on-more f n xs ys (next_trace n xs t))) (next_trace-more n xs ys t)
  where
    stays : next_trace n xs t ≡ t → (k : ℕ) × (trace_on (suc f) n (xs ++ ys) t ≡ trace_on k n (xs ++ ys) (trace_on (suc f) n xs t))
    stays e = (suc f, ap (trace_on (suc f) n (xs ++ ys)) (sym (trace_on-fixed (suc f) n xs t e)))

    goes_on_lem : (k : ℕ) × (trace_on f n (xs ++ ys) (next_trace n xs t) ≡ trace_on k n (xs ++ ys) (trace_on f n xs (next_trace n xs t)))
        → next_trace n (xs ++ ys) t ≡ next_trace n xs t → (k : ℕ) × (trace_on (suc f) n (xs ++ ys) t ≡ trace_on k n (xs ++ ys) (trace_on (suc f) n xs t))
    goes_on_lem h e = (h.0, ap (trace_on f n (xs ++ ys)) e ∙ h.1)

-- the drawing steers nothing
trace_on-reading : (f n : ℕ) (bytes : List ℕ) (t : Trace) → (trace_on f n bytes t).reading ≡ onward f n bytes t.reading
unfolding trace_on onward next_trace
trace_on-reading zero n bytes t = refl
trace_on-reading (suc f) n bytes t = trace_on-reading f n bytes (next_trace n bytes t)

pub trace-reading : (n : ℕ) (bytes : List ℕ) → (trace n bytes).reading ≡ reading n bytes
unfolding trace reading
trace-reading n bytes = trace_on-reading (suc (length bytes)) n bytes (traced (goes fresh) (drawing [] []))

onward-fixed : (f n : ℕ) (xs : List ℕ) (r : Reading) → next n xs r ≡ r → onward f n xs r ≡ r
unfolding onward
onward-fixed zero n xs r e = refl
onward-fixed (suc f) n xs r e = ap (onward f n xs) e ∙ onward-fixed f n xs r e

-- a fault is the end
fault-rests : (n : ℕ) (bytes : List ℕ) (r : Reading) (f : Fault) → r.fault ≡ some f → next n bytes r ≡ r
unfolding next
fault-rests n bytes r f e = ap (next_by n bytes r.state) e ∙ sym (ap (λ (g : Option Fault). record { state = r.state; fault = g }) e)

module _ (n : ℕ) (xs ys : List ℕ) where
  -- Reading xs ++ ys goes on from the reading of xs.
  pub trace-continues : (k : ℕ) × (trace n (xs ++ ys) ≡ trace_on k n (xs ++ ys) (trace n xs))
  unfolding trace
  trace-continues =
      let t = traced (goes fresh) (drawing [] []) in
      let h = trace_on-more (suc (length xs)) n xs ys t in
      let e : suc (length (xs ++ ys)) ≡ suc (length xs) + length ys = omega (arith, length-append xs ys) in (
        h.0 + length ys,
        ap (λ (f : ℕ). trace_on f n (xs ++ ys) t) e
            ∙ trace_on-add (suc (length xs)) (length ys) n (xs ++ ys) t
            ∙ ap (trace_on (length ys) n (xs ++ ys)) h.1
            ∙ sym (trace_on-add h.0 (length ys) n (xs ++ ys) (trace n xs)),
      )

  reading-continues : (k : ℕ) × (reading n (xs ++ ys) ≡ onward k n (xs ++ ys) (reading n xs))
  reading-continues = (
    trace-continues.0,
    sym (trace-reading n (xs ++ ys)) ∙ ap (λ (t : Trace). t.reading) trace-continues.1
        ∙ trace_on-reading trace-continues.0 n (xs ++ ys) (trace n xs) ∙ ap (onward trace-continues.0 n (xs ++ ys)) (trace-reading n xs),
  )

  -- A FAULT STANDS: what is found in xs is found in xs ++ ys.
  pub fault-stands : (f : Fault) → (reading n xs).fault ≡ some f → reading n (xs ++ ys) ≡ reading n xs
  fault-stands f e = reading-continues.1 ∙ onward-fixed reading-continues.0 n (xs ++ ys) (reading n xs)
      (fault-rests n (xs ++ ys) (reading n xs) f e)

  -- What begins an accepted stream is accepted.
  pub accepted-before : (reading n (xs ++ ys)).fault ≡ none → (reading n xs).fault ≡ none
  accepted-before h = go (reading n xs).fault refl
    where
      go : (f : Option Fault) → (reading n xs).fault ≡ f → (reading n xs).fault ≡ none
      go none e = e
      go (some f) e = sym (ap (λ (r : Reading). r.fault) (fault-stands f e)) ∙ h
