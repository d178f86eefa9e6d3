-- CAUSE 7 IS AT THE FIRST BYTE THAT NO STREAM COULD HAVE (document 01, "Turned down": "Cause 7 is at the first byte that no stream of the shapes
-- above could have there, numbers and depth aside"): where a reading meets it, the bytes before begin a stream, and with that byte no more;
-- a reading that meets no cause has read the beginning of a stream, and the whole of one exactly if it is over. The same holds of the reader
-- that only steps. Assumes nothing.
use Rattle.std.specs.Prelude.{◌≡◌, refl, ◌↔◌, Bool, true, false, cond, List, [], ◌∷◌, ◌++◌, ltb, eqb, length, take, drop}
use Rattle.std.proofs.Common.{sym, ap, ◌∙◌, subst, append_assoc, append-nil, arith, length-append, take_at, drop_at}
use Rattle.std.proofs.Math.Option.{none, some}
use Prim.Native.Nat.{ℕ, zero, suc, ◌+◌, ◌≤◌, ◌<◌}
use Rattle.std.proofs.Math.ListN.{get_or}
use Rattle.theory_reading.specs.Limits.{table_limit}
use Rattle.theory_reading.specs.Nodes.{is_kept, node}
use Rattle.theory_reading.specs.Causes.{Cause, wrong_byte, declared_size, too_deep, not_in_table, other_level, not_storable, bad_number, cause_row}
use Rattle.theory_reading.specs.Element.{Element, opening, number, constant, turn, closing, storing, end, Open, in_first, in_second, Context}
use Rattle.theory_reading.specs.Element.{over, Place, begin, Outcome, got, fault, ran_out, Step, fails as faults, waits, step}
use Rattle.theory_reading.specs.Reading.{State, fresh, Fault, Reading, goes, fails, level, is_start, closed, is_bad, with_element, barred_colon}
use Rattle.theory_reading.specs.Reading.{first_digit, after, advance, next, onward, reading}
use Rattle.theory_reading.specs.Grammar.{IsStream, Viable}
use Rattle.theory_reading.specs.Residual.{◌⊆◌, After, Rest, Some, stream-rest, rest-stream}
use Rattle.theory_reading.proofs.StepRest.{Like, RestAt, Closes, Fits, takes, wrong, deep, stops, rests, step_fits}

-- ---- Places on the way -----------------------------------------------------------------------

-- b is the first byte that no stream could have there
abbrev pub FirstWrong : List ℕ → ℕ → Type 0
FirstWrong bytes b = (b < length bytes) × Viable (take b bytes) × (Viable (take (suc b) bytes) → ⊥)

-- A place that reading comes to: what may stand behind it is what completes the bytes before it to a stream. (With one exception: a number
-- other than `0` was read up to another byte, and with a digit behind it the bytes before would end in another number. So `exact` asks of zs
-- that it begins with a digit only if the bytes behind do.)
pub record Held (bytes : List ℕ) (a : ℕ) (m : Context) (o : List Open) : Type 0 where
  pub before : List ℕ
  pub behind : List ℕ
  pub splits : bytes ≡ before ++ behind
  pub counts : length before ≡ a
  pub sound : Rest m o ⊆ After before IsStream
  pub exact : (zs : List ℕ) → Like behind zs → IsStream (before ++ zs) → Rest m o zs

abbrev pub HeldAt : List ℕ → Place → Type 0
HeldAt bytes p = Held bytes p.at p.context p.opens

pub held-begin : (bytes : List ℕ) → HeldAt bytes begin
held-begin bytes = record {
  before = [];
  behind = bytes;
  splits = refl;
  counts = refl;
  sound = λ zs h. rest-stream h;
  exact = λ zs l h. stream-rest h;
}

held-drop : {bytes : List ℕ} (p : Place) → (h : HeldAt bytes p) → drop p.at bytes ≡ h.behind
held-drop p h = ap (drop p.at) h.splits ∙ drop_at h.before h.behind p.at h.counts

held-inside : {bytes : List ℕ} {a : ℕ} {m : Context} {o : List Open} → Held bytes a m o → a ≤ length bytes
held-inside h = omega (arith, ap length h.splits, length-append h.before h.behind, h.counts)

-- with the same bytes in front, both begin with a digit or none does
like-front : (w ys zs : List ℕ) → 0 < length w → Like (w ++ ys) (w ++ zs)
like-front [] ys zs h = absurd (omega arith)
like-front (c ∷ w) ys zs h = λ e. e

like-byte : (w ys zs : List ℕ) (c : ℕ) → Like (w ++ (c ∷ ys)) (w ++ (c ∷ zs))
like-byte [] ys zs c = λ e. e
like-byte (x ∷ w) ys zs c = λ e. e

-- ---- One step --------------------------------------------------------------------------------

-- What a step from such a place comes to.
pub data Comes (bytes : List ℕ) (p : Place) : Outcome → Place → Type 0 where
  comes_on : (e : Element) (q : Place) → p.at < q.at → Closes e p.opens → HeldAt bytes q → Comes bytes p (got e) q
  comes_wrong : (b : ℕ) → FirstWrong bytes b → Comes bytes p (fault wrong_byte b) p
  comes_deep : (b : ℕ) → Comes bytes p (fault too_deep b) p
  comes_out : Viable bytes → (IsStream bytes → p.context ≡ over) → (p.context ≡ over → IsStream bytes) → Comes bytes p ran_out p

module _ (bytes : List ℕ) (p : Place) (h : HeldAt bytes p) where
  held-takes : (w ys : List ℕ) (q : Place) → h.behind ≡ w ++ ys → q.at ≡ p.at + length w → 0 < length w
      → RestAt q ⊆ After w (RestAt p) → ((zs : List ℕ) → Like ys zs → RestAt p (w ++ zs) → RestAt q zs) → HeldAt bytes q
  held-takes w ys q e a n f g = record {
    before = h.before ++ w;
    behind = ys;
    splits = h.splits ∙ ap (λ (l : List ℕ). h.before ++ l) e ∙ sym (append_assoc h.before w ys);
    counts = omega (arith, length-append h.before w, h.counts);
    sound = λ zs k. rw (append_assoc h.before w zs) (h.sound (w ++ zs) (f zs k));
    exact = λ zs l k. g zs l (h.exact (w ++ zs) (subst (λ (x : List ℕ). Like x (w ++ zs)) (sym e) (like-front w ys zs n))
        (rw (append_assoc h.before w zs) at k));
  }

  held-wrong : (w ys : List ℕ) (c b : ℕ) → h.behind ≡ w ++ (c ∷ ys) → b ≡ p.at + length w
      → Some (After w (RestAt p)) → ((zs : List ℕ) → RestAt p (w ++ (c ∷ zs)) → ⊥) → FirstWrong bytes b
  held-wrong w ys c b e a s n =
      let x : bytes ≡ (h.before ++ w) ++ (c ∷ ys) = h.splits ∙ ap (λ (l : List ℕ). h.before ++ l) e ∙ sym (append_assoc h.before w (c ∷ ys)) in
      let y : bytes ≡ ((h.before ++ w) ++ (c ∷ [])) ++ ys = x ∙ sym (append_assoc (h.before ++ w) (c ∷ []) ys) in
      let i : length (h.before ++ w) ≡ b = omega (arith, length-append h.before w, h.counts) in
      let j : length ((h.before ++ w) ++ (c ∷ [])) ≡ suc b = omega (arith, length-append (h.before ++ w) (c ∷ [])) in
      let t : take b bytes ≡ h.before ++ w = ap (take b) x ∙ take_at (h.before ++ w) (c ∷ ys) b i in
      let u : take (suc b) bytes ≡ (h.before ++ w) ++ (c ∷ []) = ap (take (suc b)) y ∙ take_at ((h.before ++ w) ++ (c ∷ [])) ys (suc b) j in (
        omega (arith, ap length x, length-append (h.before ++ w) (c ∷ ys)),
        (s.0, rw t (rw (append_assoc h.before w s.0) (h.sound (w ++ s.0) s.1))),
        λ v. n v.0 (h.exact (w ++ (c ∷ v.0)) (subst (λ (l : List ℕ). Like l (w ++ (c ∷ v.0))) (sym e) (like-byte w ys v.0 c))
            (continued u v)),
      )
    where
      continued : take (suc b) bytes ≡ (h.before ++ w) ++ (c ∷ []) → (v : Viable (take (suc b) bytes)) → IsStream (h.before ++ (w ++ (c ∷ v.0)))
      continued u v =
          let g : take (suc b) bytes ++ v.0 ≡ h.before ++ (w ++ (c ∷ v.0)) = ap (λ (l : List ℕ). l ++ v.0) u ∙ simp append_assoc in
          subst IsStream g v.1

  held-viable : Some (After h.behind (RestAt p)) → Viable bytes
  held-viable s = (
    s.0,
    subst (λ (l : List ℕ). IsStream (l ++ s.0)) (sym h.splits)
        (rw (append_assoc h.before h.behind s.0) (h.sound (h.behind ++ s.0) s.1)),
  )

  held-over : p.context ≡ over → h.behind ≡ [] → IsStream bytes
  held-over e j =
      let g : h.before ++ [] ≡ bytes = ap (λ (l : List ℕ). h.before ++ l) (sym j) ∙ sym h.splits in
      subst IsStream g (h.sound [] (subst (λ (m : Context). Rest m p.opens []) (sym e) refl))

  held-step : {x : Outcome} {q : Place} → Fits p h.behind x q → Comes bytes p x q
  held-step (takes w ys e q j a n c f g) = comes_on e q (omega arith) c (held-takes w ys q j a n f g)
  held-step (wrong w ys c b e a s n) = comes_wrong b (held-wrong w ys c b e a s n)
  held-step (deep b) = comes_deep b
  held-step (stops n s k) = comes_out (held-viable s) (λ i. absurd (k (h.exact h.behind (λ d. d) (subst IsStream h.splits i))))
      (λ e. absurd (n e))
  held-step (rests e j) =
      let x : IsStream bytes = held-over e j in
      comes_out ([], subst IsStream (sym (append-nil bytes)) x) (λ i. e) (λ i. x)

-- A STEP from a place that reading comes to
pub step-comes : (bytes : List ℕ) (p : Place) → HeldAt bytes p → Comes bytes p (step p bytes).outcome (step p bytes).place
step-comes bytes p h = held-step bytes p h (step_fits bytes p h.behind (held-drop p h))

-- ---- The reading -----------------------------------------------------------------------------

other-cause : (c : Cause) → ((cause_row c).number ≡ 7 → ⊥) → c ≡ wrong_byte → ⊥
other-cause c n e = n (ap (λ (x : Cause). (cause_row x).number) e)

-- What one element more comes to, from a state whose place is on the way.
data Goes (bytes : List ℕ) (s : State) : Reading → Type 0 where
  goes_on : (r : State) → s.place.at < r.place.at → HeldAt bytes r.place → Goes bytes s (goes r)
  goes_wrong : (b : ℕ) → FirstWrong bytes b → Goes bytes s (fails s wrong_byte b)
  goes_not : (c : Cause) (b : ℕ) → (c ≡ wrong_byte → ⊥) → Goes bytes s (fails s c b)
  goes_out : Viable bytes → (IsStream bytes → s.place.context ≡ over) → (s.place.context ≡ over → IsStream bytes) → Goes bytes s (goes s)

goes-cond : (bytes : List ℕ) (s : State) (t : Bool) (x y : Reading) → Goes bytes s x → Goes bytes s y → Goes bytes s (cond t x y)
goes-cond bytes s true x y h k = h
goes-cond bytes s false x y h k = k

module _ (n : ℕ) (bytes : List ℕ) (s : State) where
  closed-goes : (q : Place) → s.place.at < q.at → HeldAt bytes q → (o : List Open) → (o ≡ [] → ⊥) → Goes bytes s (closed n s q o)
  closed-goes q a h [] m = absurd (m refl)
  closed-goes q a h (in_first ∷ o) m = goes-cond bytes s (is_kept s.place.last) _ _ (goes_on _ a h)
      (goes_not not_storable _ (other-cause not_storable (omega arith)))
  closed-goes q a h (in_second x t ∷ o) m = goes_on _ a h

  element-goes : (d : ℕ) (e : Element) (q : Place) → s.place.at < q.at → Closes e s.place.opens → HeldAt bytes q
      → Goes bytes s (with_element n s d e q)
  unfolding with_element
  element-goes d opening q a c h = goes-cond bytes s (ltb n (level s.place)) _ _ (goes_not too_deep _ (other-cause too_deep (omega arith)))
      (goes_on _ a h)
  element-goes d (number v) q a c h =
      goes-cond bytes s (is_start s.place.context) _ _
      (goes-cond bytes s (ltb table_limit v) _ _ (goes_not declared_size _ (other-cause declared_size (omega arith))) (goes_on _ a h))
      (goes-cond bytes s (eqb (node s.table v).level 0) _ _ (goes_not not_in_table _ (other-cause not_in_table (omega arith)))
      (goes-cond bytes s (eqb (node s.table v).level (level s.place)) _ _ (goes_on _ a h)
      (goes_not other_level _ (other-cause other_level (omega arith)))))
  element-goes d constant q a c h = goes_on _ a h
  element-goes d turn q a c h = goes_on _ a h
  element-goes d closing q a c h = closed-goes q a h s.place.opens c
  element-goes d (storing k) q a c h = goes-cond bytes s (is_bad s k) _ _ (goes_not bad_number _ (other-cause bad_number (omega arith))) (goes_on _ a h)
  element-goes d end q a c h = goes_on _ a h

  after-goes : (d : ℕ) (x : Outcome) (q : Place) → Comes bytes s.place x q → Goes bytes s (after n s d x q)
  unfolding after
  after-goes d x q (comes_on e r a c h) = element-goes d e r a c h
  after-goes d x q (comes_wrong b h) = goes_wrong b h
  after-goes d x q (comes_deep b) = goes_not too_deep b (other-cause too_deep (omega arith))
  after-goes d x q (comes_out v f g) = goes_out v f g

  advance-goes : HeldAt bytes s.place → Goes bytes s (advance n bytes s)
  unfolding advance
  advance-goes h = go (barred_colon s (get_or bytes s.place.at 0))
    where
      b : ℕ
      b = get_or bytes s.place.at 0

      x : Step
      x = step s.place bytes

      go : (t : Bool) → Goes bytes s (elim t as (λ _. Reading) [
        | true ↦ fails s not_storable s.place.at
        | false ↦ after n s (first_digit s b)
            x.outcome x.place
      ])
      go true = goes_not not_storable _ (other-cause not_storable (omega arith))
      go false = after-goes (first_digit s b) x.outcome x.place (step-comes bytes s.place h)

-- What a whole reading comes to.
data Ends (bytes : List ℕ) : Reading → Type 0 where
  ends_wrong : (s : State) (b : ℕ) → FirstWrong bytes b → Ends bytes (fails s wrong_byte b)
  ends_not : (s : State) (c : Cause) (b : ℕ) → (c ≡ wrong_byte → ⊥) → Ends bytes (fails s c b)
  ends_out : (s : State) → Viable bytes → (IsStream bytes → s.place.context ≡ over) → (s.place.context ≡ over → IsStream bytes)
      → Ends bytes (goes s)

-- a fault stays, and so does a state with no element behind it
fault-stays : (f n : ℕ) (bytes : List ℕ) (s : State) (c : Cause) (b : ℕ) → onward f n bytes (fails s c b) ≡ fails s c b
unfolding onward next
fault-stays zero n bytes s c b = refl
fault-stays (suc f) n bytes s c b = fault-stays f n bytes s c b

state-stays : (f n : ℕ) (bytes : List ℕ) (s : State) → advance n bytes s ≡ goes s → onward f n bytes (goes s) ≡ goes s
unfolding onward next
state-stays zero n bytes s e = refl
state-stays (suc f) n bytes s e = ap (onward f n bytes) e ∙ state-stays f n bytes s e

onward-goes : (f n : ℕ) (bytes : List ℕ) (s : State) (x : Reading) → Goes bytes s x → advance n bytes s ≡ x
    → length bytes < suc f + s.place.at
    → ((r : State) → HeldAt bytes r.place → length bytes < f + r.place.at → Ends bytes (onward f n bytes (goes r)))
    → Ends bytes (onward f n bytes x)
onward-goes f n bytes s x (goes_on r a h) e l ih = ih r h (omega arith)
onward-goes f n bytes s x (goes_wrong b h) e l ih = subst (Ends bytes) (sym (fault-stays f n bytes s wrong_byte b)) (ends_wrong s b h)
onward-goes f n bytes s x (goes_not c b h) e l ih = subst (Ends bytes) (sym (fault-stays f n bytes s c b)) (ends_not s c b h)
onward-goes f n bytes s x (goes_out v i j) e l ih = subst (Ends bytes) (sym (state-stays f n bytes s e)) (ends_out s v i j)

onward-ends : (f n : ℕ) (bytes : List ℕ) (s : State) → HeldAt bytes s.place → length bytes < f + s.place.at
    → Ends bytes (onward f n bytes (goes s))
unfolding onward next
onward-ends zero n bytes s h l = absurd (omega (arith, held-inside h))
onward-ends (suc f) n bytes s h l = onward-goes f n bytes s (advance n bytes s) (advance-goes n bytes s h) refl l (λ r. onward-ends f n bytes r)

reading-ends : (n : ℕ) (bytes : List ℕ) → Ends bytes (reading n bytes)
unfolding reading
reading-ends n bytes = onward-ends (suc (length bytes)) n bytes fresh (held-begin bytes) (omega arith)

-- ---- The theorems ----------------------------------------------------------------------------

some-none : {A : Type 0} {f : Fault} → some f ≡ none → A
some-none e = let z : ◌≡◌ {A = ℕ} 0 1 = cc in absurd (omega arith)

ends-viable : {bytes : List ℕ} {x : Reading} → Ends bytes x → x.fault ≡ none → Viable bytes
ends-viable (ends_wrong s b h) e = some-none e
ends-viable (ends_not s c b h) e = some-none e
ends-viable (ends_out s v f g) e = v

some_same : {f g : Fault} → some f ≡ some g → f ≡ g
some_same e = cc

ends-wrong : {bytes : List ℕ} {x : Reading} (b : ℕ) → Ends bytes x → x.fault ≡ some (record { cause = wrong_byte; byte = b }) → FirstWrong bytes b
ends-wrong {bytes} b (ends_wrong s a h) e = subst (FirstWrong bytes) (ap (λ (f : Fault). f.byte) (some_same e)) h
ends-wrong b (ends_not s c a h) e = absurd (h (ap (λ (f : Fault). f.cause) (some_same e)))
ends-wrong b (ends_out s v f g) e = some-none (sym e)

ends-complete : {bytes : List ℕ} {x : Reading} → Ends bytes x → x.fault ≡ none → x.state.place.context ≡ over → IsStream bytes
ends-complete (ends_wrong s b h) e o = some-none e
ends-complete (ends_not s c b h) e o = some-none e
ends-complete (ends_out s v f g) e o = g o

ends-over : {bytes : List ℕ} {x : Reading} → Ends bytes x → IsStream bytes → x.fault ≡ none → x.state.place.context ≡ over
ends-over (ends_wrong s b h) i e = some-none e
ends-over (ends_not s c b h) i e = some-none e
ends-over (ends_out s v f g) i e = f i

-- 1. Bytes that meet no cause begin a stream.
pub viable-so-far : (n : ℕ) (bytes : List ℕ) → (reading n bytes).fault ≡ none → Viable bytes
viable-so-far n bytes = ends-viable (reading-ends n bytes)

-- 2. Cause 7 is at the first byte that no stream could have there.
pub wrong_byte_lem : (n : ℕ) (bytes : List ℕ) (b : ℕ) → (reading n bytes).fault ≡ some (record { cause = wrong_byte; byte = b })
    → (b < length bytes) × Viable (take b bytes) × (Viable (take (suc b) bytes) → ⊥)
wrong_byte_lem n bytes b = ends-wrong b (reading-ends n bytes)

-- 3. Bytes that meet no cause and are over are a stream.
pub complete-stream : (n : ℕ) (bytes : List ℕ) → (reading n bytes).fault ≡ none → (reading n bytes).state.place.context ≡ over → IsStream bytes
complete-stream n bytes = ends-complete (reading-ends n bytes)

-- 4. A stream that meets no cause is over.
pub stream-complete : (n : ℕ) (bytes : List ℕ) → IsStream bytes → (reading n bytes).fault ≡ none → (reading n bytes).state.place.context ≡ over
stream-complete n bytes = ends-over (reading-ends n bytes)

-- ---- The reader that only steps --------------------------------------------------------------

-- At most f elements from a place on, and one step more: up to a fault or the end of the bytes
unfoldable pub stepping : ℕ → List ℕ → Place → Step
unfolding step
stepping zero bytes p = step p bytes
stepping (suc f) bytes p =
    let x = step p bytes in
    elim x.outcome [ got e ↦ stepping f bytes x.place | fault c b ↦ x | ran_out ↦ x ]

-- Every element takes a byte: so many steps are enough.
abbrev pub stepped : List ℕ → Step
stepped bytes = stepping (suc (length bytes)) bytes begin

-- What stepping to the end comes to: cause 7, cause 9, or the end of the bytes.
pub data Halts (bytes : List ℕ) : Step → Type 0 where
  halts_wrong : (b : ℕ) (p : Place) → FirstWrong bytes b → Halts bytes (faults p wrong_byte b)
  halts_deep : (b : ℕ) (p : Place) → Halts bytes (faults p too_deep b)
  halts_out : (p : Place) → Viable bytes → (IsStream bytes → p.context ≡ over) → (p.context ≡ over → IsStream bytes) → Halts bytes (waits p)

stepping-halts : (f : ℕ) (bytes : List ℕ) (p : Place) → HeldAt bytes p → length bytes < f + p.at → Halts bytes (stepping f bytes p)
unfolding stepping
stepping-halts zero bytes p h l = absurd (omega (arith, held-inside h))
stepping-halts (suc f) bytes p h l = go (step p bytes).outcome (step p bytes).place (step-comes bytes p h) (λ q. stepping-halts f bytes q)
  where
    go : (x : Outcome) (q : Place) → Comes bytes p x q
        → ((q : Place) → HeldAt bytes q → length bytes < f + q.at → Halts bytes (stepping f bytes q))
        → Halts bytes (elim x as (λ _. Step) [
          | got e ↦ stepping f bytes q
          | fault c b ↦ record { outcome = x; place = q }
          | ran_out ↦ record
              { outcome = x; place = q }
        ])
    go x q (comes_on e r a c k) ih = ih r k (omega arith)
    go x q (comes_wrong b k) ih = halts_wrong b p k
    go x q (comes_deep b) ih = halts_deep b p
    go x q (comes_out v i j) ih = halts_out p v i j

pub stepped-halts : (bytes : List ℕ) → Halts bytes (stepped bytes)
stepped-halts bytes = stepping-halts (suc (length bytes)) bytes begin (held-begin bytes) (omega arith)

out-fault : {A : Type 0} {c : Cause} {b : ℕ} → fault c b ≡ ran_out → A
out-fault e = let z : ◌≡◌ {A = ℕ} 0 1 = cc in absurd (omega arith)

halts-viable : {bytes : List ℕ} {x : Step} → Halts bytes x → x.outcome ≡ ran_out → Viable bytes
halts-viable (halts_wrong b p h) e = out-fault e
halts-viable (halts_deep b p) e = out-fault e
halts-viable (halts_out p v f g) e = v

halts-wrong : {bytes : List ℕ} {x : Step} (b : ℕ) → Halts bytes x → x.outcome ≡ fault wrong_byte b → FirstWrong bytes b
halts-wrong {bytes} b (halts_wrong a p h) e = let i : a ≡ b = cc in subst (FirstWrong bytes) i h
halts-wrong b (halts_deep a p) e = let z : ◌≡◌ {A = ℕ} 0 1 = cc in absurd (omega arith)
halts-wrong b (halts_out p v f g) e = out-fault (sym e)

halts-over : {bytes : List ℕ} {x : Step} → Halts bytes x → x.outcome ≡ ran_out → (x.place.context ≡ over) ↔ IsStream bytes
halts-over (halts_wrong b p h) e = out-fault e
halts-over (halts_deep b p) e = out-fault e
halts-over (halts_out p v f g) e = (g, f)

-- 5. The same of the reader that only steps: bytes that it comes to the end of begin a stream,
pub stepped-viable : (bytes : List ℕ) → (stepped bytes).outcome ≡ ran_out → Viable bytes
stepped-viable bytes = halts-viable (stepped-halts bytes)

-- and are one exactly if they are over;
pub stepped-over : (bytes : List ℕ) → (stepped bytes).outcome ≡ ran_out → ((stepped bytes).place.context ≡ over) ↔ IsStream bytes
stepped-over bytes = halts-over (stepped-halts bytes)

-- its cause 7 is at the first byte that no stream could have there.
pub stepped-wrong : (bytes : List ℕ) (b : ℕ) → (stepped bytes).outcome ≡ fault wrong_byte b
    → (b < length bytes) × Viable (take b bytes) × (Viable (take (suc b) bytes) → ⊥)
stepped-wrong bytes b = halts-wrong b (stepped-halts bytes)
