-- Laws of the step: more bytes behind change nothing but "the bytes ran out", and an element takes a byte at least. Assumes nothing.
use Rattle.std.specs.Prelude.{◌≡◌, refl, ◌⊎◌, Bool, true, false, cond, ◌&&◌, List, [], ◌∷◌, ◌++◌, ℕ, ◌+◌, ◌*◌, ◌-◌, ◌<◌, ◌≤◌, ltb, eqb, length, drop}
use Rattle.std.proofs.Common.{sym, ap, ◌∙◌, subst, inl, inr, ⊎_elim, true≢false, arith, drop_of_length-le, length-drop, ne_eqb}
use Rattle.std.proofs.Math.Option.{Option, none, some}
use Prim.{Unit, tt}
use Rattle.std.proofs.Math.ListN.{get_elem?}
use Rattle.std.proofs.lemmas.List.{drop-append-le}
use Rattle.theory_lists.specs.Lists.{decide-le}
use Rattle.theory_lists.specs.Lookups.{lookup-append, lookup-some}
use Rattle.theory_reading.specs.Limits.{open_limit}
use Rattle.theory_reading.specs.Bytes.{opener, closer, tilde, colon, dot, blank, line_feed, digit_zero, is_digit}
use Rattle.theory_reading.specs.Causes.{Cause, wrong_byte, too_deep, cause_row}
use Rattle.theory_reading.specs.Causes as C
use Rattle.theory_reading.specs.Element.{Element, opening, number, constant, turn, closing, storing, end, Open, in_first, in_second, Context}
use Rattle.theory_reading.specs.Element.{start, lead, begins, after_digit, after_two, after_one, over, Place, Scan, read, unread, digits_on}
use Rattle.theory_reading.specs.Element.{number_at, Outcome, got, fault, ran_out, Step, fails, waits, size_ends, size_read, number_read, storing_read}
use Rattle.theory_reading.specs.Element.{node_begins, after_space, after_colon, node_ended, step_by, step_on, step}
use Rattle.theory_reading.specs.StepLaws.{digit_place}

-- ---- More bytes behind -----------------------------------------------------------------------

-- a number is read alike with more bytes behind, or is not yet read
abbrev pub ScanStill : Scan → Scan → Type 0
ScanStill x y = (x ≡ unread) ⊎ (y ≡ x)

-- a step is the same with more bytes behind, or the bytes ran out
abbrev pub Still : Step → Step → Type 0
Still x y = (x.outcome ≡ ran_out) ⊎ (y ≡ x)

scan-elim : (t : Bool) {x y x' y' : Scan} → ScanStill x x' → ScanStill y y'
    → ScanStill (elim t as (λ _. Scan) [ true ↦ x | false ↦ y ]) (elim t as (λ _. Scan) [ true ↦ x' | false ↦ y' ])
scan-elim true h k = h
scan-elim false h k = k

still-cond : (t : Bool) {x y x' y' : Step} → Still x x' → Still y y' → Still (cond t x y) (cond t x' y')
still-cond true h k = h
still-cond false h k = k

digits_on-more : (bs ys : List ℕ) (v at : ℕ) → ScanStill (digits_on bs v at) (digits_on (bs ++ ys) v at)
unfolding digits_on
digits_on-more [] ys v at = inl refl
digits_on-more (b ∷ bs) ys v at = scan-elim (is_digit b) (digits_on-more bs ys (v * 10 + (b - digit_zero)) (at + 1)) (inr refl)

digits-past : (xs ys : List ℕ) (v at : ℕ) → ScanStill (digits_on (drop at xs) v at) (digits_on (drop at (xs ++ ys)) v at)
unfolding digits_on
digits-past xs ys v at = ⊎_elim
    (λ (h : at ≤ length xs). subst (λ (l : List ℕ). ScanStill (digits_on (drop at xs) v at) (digits_on l v at)) (sym (drop-append-le at xs ys h))
    (digits_on-more (drop at xs) ys v at))
    (λ (h : length xs < at). inl (ap (λ (l : List ℕ). digits_on l v at) (drop_of_length-le xs {i = at} (omega arith))))
    (decide-le at (length xs))

number_at-more : (xs ys : List ℕ) (at b : ℕ) → ScanStill (number_at xs at b) (number_at (xs ++ ys) at b)
unfolding number_at
number_at-more xs ys at b = scan-elim (eqb b digit_zero) (inr refl) (digits-past xs ys (b - digit_zero) (at + 1))

number_read-more : (p : Place) (o : List Open) (x y : Scan) → ScanStill x y → Still (number_read p o x) (number_read p o y)
number_read-more p o x y (inl e) = inl (ap (λ (z : Scan). (number_read p o z).outcome) e)
number_read-more p o x y (inr e) = inr (ap (number_read p o) e)

storing_read-more : (p : Place) (x y : Scan) → ScanStill x y → Still (storing_read p x) (storing_read p y)
storing_read-more p x y (inl e) = inl (ap (λ (z : Scan). (storing_read p z).outcome) e)
storing_read-more p x y (inr e) = inr (ap (storing_read p) e)

-- a step that looks at a byte
lookup-more : (f g : Option ℕ → Step) (xs ys : List ℕ) (i : ℕ) → (f none).outcome ≡ ran_out → ((b : ℕ) → Still (f (some b)) (g (some b)))
    → Still (f (get_elem? xs i)) (g (get_elem? (xs ++ ys) i))
lookup-more f g xs ys i e h = go (get_elem? xs i) (lookup-append xs ys i)
  where
    go : (o : Option ℕ) → (o ≡ none) ⊎ (get_elem? (xs ++ ys) i ≡ o) → Still (f o) (g (get_elem? (xs ++ ys) i))
    go none k = inl e
    go (some b) (inl k) = inl (ap (λ (o : Option ℕ). (f o).outcome) k ∙ e)
    go (some b) (inr k) = subst (λ (o : Option ℕ). Still (f (some b)) (g o)) (sym k) (h b)

size_read-more : (p : Place) (xs ys : List ℕ) (x y : Scan) → ScanStill x y → Still (size_read xs p x) (size_read (xs ++ ys) p y)
size_read-more p xs ys x y (inl e) = inl (ap (λ (z : Scan). (size_read xs p z).outcome) e)
size_read-more p xs ys x y (inr e) = subst (λ (z : Scan). Still (size_read xs p x) (size_read (xs ++ ys) p z)) (sym e) (go x)
  where
    go : (z : Scan) → Still (size_read xs p z) (size_read (xs ++ ys) p z)
    go (read v at) = lookup-more (size_ends p v at) (size_ends p v at) xs ys at refl (λ b. inr refl)
    go unread = inl refl

node_begins-more : (xs ys : List ℕ) (p : Place) (o : List Open) (b : ℕ) → Still (node_begins xs p o b) (node_begins (xs ++ ys) p o b)
node_begins-more xs ys p o b =
    still-cond (eqb b opener) (inr refl)
    (still-cond (is_digit b) (number_read-more p o _ _ (number_at-more xs ys p.at b)) (inr refl))

after_space-more : (xs ys : List ℕ) (p : Place) (o : List Open) → Still (after_space xs p o (get_elem? xs (p.at + 1)))
    (after_space (xs ++ ys) p o (get_elem? (xs ++ ys) (p.at + 1)))
after_space-more xs ys p o = lookup-more (after_space xs p o) (after_space (xs ++ ys) p o) xs ys (p.at + 1) refl
    (λ b. still-cond (is_digit b) (number_read-more p o _ _ (number_at-more xs ys (p.at + 1) b)) (inr refl))

after_colon-more : (xs ys : List ℕ) (p : Place) → Still (after_colon xs p (get_elem? xs (p.at + 1)))
    (after_colon (xs ++ ys) p (get_elem? (xs ++ ys) (p.at + 1)))
after_colon-more xs ys p = lookup-more (after_colon xs p) (after_colon (xs ++ ys) p) xs ys (p.at + 1) refl
    (λ b. still-cond (is_digit b) (storing_read-more p _ _ (number_at-more xs ys (p.at + 1) b)) (inr refl))

node_ended-more : (xs ys : List ℕ) (p : Place) (d : Bool) (b : ℕ) (o : List Open) → Still (node_ended xs p d b o) (node_ended (xs ++ ys) p d b o)
node_ended-more xs ys p d b [] = inr refl
node_ended-more xs ys p d b (in_first ∷ o) =
    still-cond (eqb b tilde) (inr refl)
    (still-cond (eqb b closer) (inr refl)
    (still-cond (d && eqb b blank) (after_space-more xs ys p (in_second p.last false ∷ o))
    (still-cond (d && is_digit b) (inr refl)
    (node_begins-more xs ys p (in_second p.last false ∷ o) b))))
node_ended-more xs ys p d b (in_second a t ∷ o) = inr refl

step_by-more : (xs ys : List ℕ) (p : Place) (b : ℕ) (m : Context) → Still (step_by xs p b m) (step_by (xs ++ ys) p b m)
step_by-more xs ys p b start = still-cond (is_digit b) (size_read-more p xs ys _ _ (number_at-more xs ys p.at b)) (inr refl)
step_by-more xs ys p b lead = still-cond (eqb b tilde) (inr refl) (node_begins-more xs ys p p.opens b)
step_by-more xs ys p b begins = node_begins-more xs ys p p.opens b
step_by-more xs ys p b after_digit = node_ended-more xs ys p true b p.opens
step_by-more xs ys p b after_two = still-cond (eqb b colon) (after_colon-more xs ys p) (node_ended-more xs ys p false b p.opens)
step_by-more xs ys p b after_one = node_ended-more xs ys p false b p.opens
step_by-more xs ys p b over = inr refl

-- A STEP WITH MORE BYTES is the same, unless the bytes ran out.
pub step-more : (p : Place) (xs ys : List ℕ) → Still (step p xs) (step p (xs ++ ys))
unfolding step
step-more p xs ys = lookup-more (step_on xs p) (step_on (xs ++ ys) p) xs ys p.at refl (λ b. step_by-more xs ys p b p.context)

-- past the end the bytes have run out
pub step_past : (p : Place) (xs : List ℕ) → get_elem? xs p.at ≡ none → step p xs ≡ waits p
unfolding step
step_past p xs e = ap (step_on xs p) e

-- ---- An element takes a byte at least --------------------------------------------------------

-- where a fault of this element would be: at its first byte, at the first digit d of a number, or at that of a number to store
abbrev pub token_at : Element → ℕ → ℕ → ℕ
token_at opening a d = a
token_at (number v) a d = d
token_at constant a d = a
token_at turn a d = a
token_at closing a d = a
token_at (storing k) a d = a + 1
token_at end a d = a

-- a cause of a fault in a stream: its refusal names a place, and keeps the output
abbrev pub OfStream : Cause → Type 0
OfStream c = ((cause_row c).names ≡ C.place) × ((cause_row c).leaves ≡ C.keeps_output)

-- the new place lies behind that and inside the l bytes; a fault lies at the old place or behind it, and inside
abbrev pub AheadBy : ℕ → ℕ → ℕ → Outcome → ℕ → Type 0
AheadBy a d l (got e) q = (a < q) × (token_at e a d < q) × (q ≤ l)
AheadBy a d l (fault c b) q = (a ≤ b) × (b < l) × OfStream c
AheadBy a d l ran_out q = Unit {0}

abbrev pub Ahead : ℕ → ℕ → ℕ → Step → Type 0
Ahead a d l x = AheadBy a d l x.outcome x.place.at

ahead-cond : (a d l : ℕ) (t : Bool) (x y : Step) → (t ≡ true → Ahead a d l x) → (t ≡ false → Ahead a d l y) → Ahead a d l (cond t x y)
ahead-cond a d l true x y h k = h refl
ahead-cond a d l false x y h k = k refl

-- a number that is read ends behind the place i and inside
abbrev Long : ℕ → ℕ → Scan → Type 0
Long i l (read v e) = (i ≤ e) × (e ≤ l)
Long i l unread = Unit {0}

long-elim : (i l : ℕ) (t : Bool) (x y : Scan) → Long i l x → Long i l y → Long i l (elim t as (λ _. Scan) [ true ↦ x | false ↦ y ])
long-elim i l true x y h k = h
long-elim i l false x y h k = k

digits_on-long : (bs : List ℕ) (v i at l : ℕ) → i ≤ at → at + length bs ≤ l → Long i l (digits_on bs v at)
unfolding digits_on
digits_on-long [] v i at l h k = tt
digits_on-long (b ∷ bs) v i at l h k = long-elim i l (is_digit b) _ _ (digits_on-long bs (v * 10 + (b - digit_zero)) i (at + 1) l (omega arith)
    (omega arith)) (h, omega arith)

number_at-long : (bytes : List ℕ) (at b : ℕ) → at < length bytes → Long (at + 1) (length bytes) (number_at bytes at b)
unfolding number_at
number_at-long bytes at b h = long-elim (at + 1) (length bytes) (eqb b digit_zero) _ _ (omega arith, omega arith)
    (digits_on-long (drop (at + 1) bytes) (b - digit_zero) (at + 1) (at + 1) (length bytes) (omega arith) (omega (arith, length-drop (at + 1) bytes)))

module _ (a d l : ℕ) (p : Place) where
  number_read-ahead : (o : List Open) (x : Scan) (i : ℕ) → a < i → d < i → Long i l x → Ahead a d l (number_read p o x)
  number_read-ahead o (read v e) i h k g = go (eqb v 0)
    where
      go : (t : Bool) → AheadBy a d l (got (cond t constant (number v))) e
      go true = (omega (arith, g.0), omega (arith, g.0), g.1)
      go false = (omega (arith, g.0), omega (arith, g.0), g.1)
  number_read-ahead o unread i h k g = tt

  storing_read-ahead : (x : Scan) (i : ℕ) → a + 1 < i → Long i l x → Ahead a d l (storing_read p x)
  storing_read-ahead (read v e) i h g = (omega (arith, g.0), omega (arith, g.0), g.1)
  storing_read-ahead unread i h g = tt

digit_place-low : (at b : ℕ) → digit_place at b ≤ at + 1
digit_place-low at b = go (eqb b blank)
  where
    go : (t : Bool) → cond t (at + 1) at ≤ at + 1
    go true = omega arith
    go false = omega arith

blank-no-digit : is_digit blank ≡ false
unfolding is_digit
blank-no-digit = refl

pub digit-not-blank : (b : ℕ) → is_digit b ≡ true → eqb b blank ≡ false
digit-not-blank b e = ne_eqb b blank (λ h. true≢false (sym e ∙ ap is_digit h ∙ blank-no-digit))

module _ (bytes : List ℕ) (p : Place) (b : ℕ) (inside : p.at < length bytes) where
  abbrev Far : Step → Type 0
  Far x = Ahead p.at (digit_place p.at b) (length bytes) x

  far-cond : (t : Bool) (x y : Step) → (t ≡ true → Far x) → (t ≡ false → Far y) → Far (cond t x y)
  far-cond = ahead-cond p.at (digit_place p.at b) (length bytes)

  far-fails : (c : Cause) (i : ℕ) → OfStream c → p.at ≤ i → i < length bytes → Far (fails p c i)
  far-fails c i e h k = (h, k, e)

  node_begins-ahead : (o : List Open) → Far (node_begins bytes p o b)
  node_begins-ahead o =
      far-cond (eqb b opener) _ _
      (λ e. far-cond (ltb (length o) open_limit) _ _ (λ _. (omega arith, omega arith, omega arith))
      (λ _. far-fails too_deep p.at (refl, refl) (omega arith) inside))
      (λ _. far-cond (is_digit b) _ _
      (λ e. let g : eqb b blank ≡ false = digit-not-blank b e in
      let k : digit_place p.at b < p.at + 1 = rw g (omega arith) in
      number_read-ahead p.at (digit_place p.at b) (length bytes) p o (number_at bytes p.at b) (p.at + 1) (omega arith) k
      (number_at-long bytes p.at b inside))
      (λ _. far-fails wrong_byte p.at (refl, refl) (omega arith) inside))

  after_space-ahead : (o : List Open) (x : Option ℕ) → get_elem? bytes (p.at + 1) ≡ x → Far (after_space bytes p o x)
  after_space-ahead o none h = tt
  after_space-ahead o (some c) h =
      let k : p.at + 1 < length bytes = lookup-some bytes (p.at + 1) c h in
      far-cond (is_digit c) _ _
      (λ _. number_read-ahead p.at (digit_place p.at b) (length bytes) p o (number_at bytes (p.at + 1) c) (p.at + 1 + 1) (omega arith)
      (omega (arith, digit_place-low p.at b)) (number_at-long bytes (p.at + 1) c k))
      (λ _. far-fails wrong_byte (p.at + 1) (refl, refl) (omega arith) k)

  after_colon-ahead : (x : Option ℕ) → get_elem? bytes (p.at + 1) ≡ x → Far (after_colon bytes p x)
  after_colon-ahead none h = tt
  after_colon-ahead (some c) h =
      let k : p.at + 1 < length bytes = lookup-some bytes (p.at + 1) c h in
      far-cond (is_digit c) _ _
      (λ _. storing_read-ahead p.at (digit_place p.at b) (length bytes) p (number_at bytes (p.at + 1) c) (p.at + 1 + 1) (omega arith)
      (number_at-long bytes (p.at + 1) c k))
      (λ _. far-fails wrong_byte (p.at + 1) (refl, refl) (omega arith) k)

  node_ended-ahead : (d : Bool) (o : List Open) → Far (node_ended bytes p d b o)
  node_ended-ahead d [] = far-cond (eqb b dot) _ _ (λ _. (omega arith, omega arith, omega arith))
      (λ _. far-fails wrong_byte p.at (refl, refl) (omega arith) inside)
  node_ended-ahead d (in_first ∷ o) =
      far-cond (eqb b tilde) _ _ (λ _. (omega arith, omega arith, omega arith))
      (λ _. far-cond (eqb b closer) _ _ (λ _. (omega arith, omega arith, omega arith))
      (λ _. far-cond (d && eqb b blank) _ _ (λ _. after_space-ahead (in_second p.last false ∷ o) (get_elem? bytes (p.at + 1)) refl)
      (λ _. far-cond (d && is_digit b) _ _ (λ _. far-fails wrong_byte p.at (refl, refl) (omega arith) inside)
      (λ _. node_begins-ahead (in_second p.last false ∷ o)))))
  node_ended-ahead d (in_second a t ∷ o) = far-cond (eqb b closer) _ _ (λ _. (omega arith, omega arith, omega arith))
      (λ _. far-fails wrong_byte p.at (refl, refl) (omega arith) inside)

  size-ahead : is_digit b ≡ true → (x : Scan) → Long (p.at + 1) (length bytes) x → Far (size_read bytes p x)
  size-ahead e unread g = tt
  size-ahead e (read v i) g = go (get_elem? bytes i) refl
    where
      low : digit_place p.at b < p.at + 1
      low = let k : eqb b blank ≡ false = digit-not-blank b e in rw k (omega arith)

      go : (x : Option ℕ) → get_elem? bytes i ≡ x → Far (size_ends p v i x)
      go none h = tt
      go (some c) h =
          let k : i < length bytes = lookup-some bytes i c h in
          far-cond (eqb c line_feed) _ _ (λ _. (omega (arith, g.0), omega (arith, g.0, low), omega arith))
          (λ _. far-fails wrong_byte i (refl, refl) (omega (arith, g.0)) k)

  step_by-ahead : (m : Context) → Far (step_by bytes p b m)
  step_by-ahead start = far-cond (is_digit b) _ _ (λ e. size-ahead e (number_at bytes p.at b) (number_at-long bytes p.at b inside))
      (λ _. far-fails wrong_byte p.at (refl, refl) (omega arith) inside)
  step_by-ahead lead = far-cond (eqb b tilde) _ _ (λ _. (omega arith, omega arith, omega arith)) (λ _. node_begins-ahead p.opens)
  step_by-ahead begins = node_begins-ahead p.opens
  step_by-ahead after_digit = node_ended-ahead true p.opens
  step_by-ahead after_two = far-cond (eqb b colon) _ _ (λ _. after_colon-ahead (get_elem? bytes (p.at + 1)) refl) (λ _. node_ended-ahead false p.opens)
  step_by-ahead after_one = node_ended-ahead false p.opens
  step_by-ahead over = far-fails wrong_byte p.at (refl, refl) (omega arith) inside

-- A STEP LEADS AHEAD: an element takes a byte at least, and ends inside the bytes; so does a fault.
pub step-ahead : (p : Place) (bytes : List ℕ) (b : ℕ) → get_elem? bytes p.at ≡ some b
    → Ahead p.at (digit_place p.at b) (length bytes) (step p bytes)
unfolding step
step-ahead p bytes b e = subst (λ (o : Option ℕ). Ahead p.at (digit_place p.at b) (length bytes) (step_on bytes p o)) (sym e)
    (step_by-ahead bytes p b (lookup-some bytes p.at b e) p.context)
