-- The table of kinds, and the bytes and numbers that a table of kinds tells: code is proved for any table, and this is the one of document 01, "The
-- stream". Assumes nothing.
use Rattle.std.specs.Prelude.{◌≡◌, ◌≢◌, Bool, true, false, cond, not, ◌&&◌, List, [], ◌∷◌, ℕ, zero, suc, ◌+◌, ◌*◌, ◌-◌, ◌<◌, ◌≤◌, ltb, eqb, get_or, drop}
use Rattle.std.proofs.Math.Path.{refl}
use Rattle.std.proofs.Common.{sym, ap, ap₂, ◌∙◌, ⊎_elim, arith, add-zero, eq-eqb, ne_eqb, lt-ltb, le-ltb, le-leb}
use Rattle.std.proofs.lemmas.Bool.{lt-leb}
use Rattle.theory_lists.specs.Lists.{differ, and_l, and_r, not-differ-true, decide_eq, decide-le}
use Rattle.theory_reading.specs.Bytes as B
use Rattle.theory_reading.specs.Bytes.{digit_zero, digit_nine, opener, closer, tilde, colon, blank, line_feed, dot, kind_of, is_digit_kind, is_digit}
use Rattle.theory_reading.specs.Element.{Scan, read, unread, digits_on, number_at}
use Rattle.kinds.specs.declared.Kind.{Kind}

-- the number of a kind; any number is one
abbrev pub kind_number : Kind → ℕ
kind_number k = k.number

-- the theory's kinds as code has them, the first numbers
abbrev pub kind_as : B.Kind → Kind
kind_as B.digit = record { number = 0 }
kind_as B.bracket = record { number = 1 }
kind_as B.mark = record { number = 2 }
kind_as B.space = record { number = 3 }
kind_as B.line_end = record { number = 4 }
kind_as B.point = record { number = 5 }
kind_as B.foreign = record { number = 6 }

abbrev pub is_kind : Kind → Kind → Bool
is_kind n k = eqb (kind_number k) (kind_number n)

-- the kinds of k bytes from b on
unfoldable pub kinds_from : ℕ → ℕ → List Kind
unfolding kind_of
kinds_from zero b = []
kinds_from (suc k) b = kind_as (kind_of b) ∷ kinds_from k (b + 1)

-- "A table of 256 entries gives each byte its kind."
abbrev pub kind_table : List Kind
kind_table = kinds_from 256 0

-- ---- What a table k of kinds tells -----------------------------------------------------------

-- the byte b is of the kind n; a number above 255 is no byte
unfoldable pub kind_in : List Kind → Kind → ℕ → Bool
kind_in k n b = is_kind n (cond (ltb b 256) (get_or k b (kind_as B.digit)) (kind_as B.foreign))

-- the kinds that tell their byte, and the digits
abbrev pub digit_in : List Kind → ℕ → Bool
digit_in k b = kind_in k (kind_as B.digit) b

abbrev pub blank_in : List Kind → ℕ → Bool
blank_in k b = kind_in k (kind_as B.space) b

abbrev pub line_feed_in : List Kind → ℕ → Bool
line_feed_in k b = kind_in k (kind_as B.line_end) b

abbrev pub dot_in : List Kind → ℕ → Bool
dot_in k b = kind_in k (kind_as B.point) b

-- brackets and marks, of which there are two each
abbrev pub opener_in : List Kind → ℕ → Bool
opener_in k b = kind_in k (kind_as B.bracket) b && eqb b opener

abbrev pub closer_in : List Kind → ℕ → Bool
closer_in k b = kind_in k (kind_as B.bracket) b && eqb b closer

abbrev pub tilde_in : List Kind → ℕ → Bool
tilde_in k b = kind_in k (kind_as B.mark) b && eqb b tilde

abbrev pub colon_in : List Kind → ℕ → Bool
colon_in k b = kind_in k (kind_as B.mark) b && eqb b colon

-- the digits of a number, as `digits_on` has them
unfoldable pub digits_by : List Kind → List ℕ → ℕ → ℕ → Scan
digits_by k [] v at = unread
digits_by k (b ∷ bs) v at = elim (digit_in k b) [ true ↦ digits_by k bs (v * 10 + (b - digit_zero)) (at + 1) | false ↦ read v at ]

-- the number whose first digit b stands at a place, as `number_at` has it
unfoldable pub number_by : List Kind → List ℕ → ℕ → ℕ → Scan
unfolding digits_by
number_by k bytes at b = elim (eqb b digit_zero) [ true ↦ read 0 (at + 1) | false ↦ digits_by k (drop (at + 1) bytes) (b - digit_zero) (at + 1) ]

-- ---- The table of kinds tells what is so -----------------------------------------------------

pub and-off : (t : Bool) → (t && false) ≡ false
and-off true = refl
and-off false = refl

kinds-at : (k b i : ℕ) → i < k → get_or (kinds_from k b) i (kind_as B.digit) ≡ kind_as (kind_of (b + i))
unfolding kinds_from
kinds-at zero b i h = absurd (omega arith)
kinds-at (suc k) b zero h = ap (λ (x : ℕ). kind_as (kind_of x)) (sym (add-zero b))
kinds-at (suc k) b (suc i) h =
    let e : b + 1 + i ≡ b + suc i = omega arith in
    kinds-at k (b + 1) i (omega arith) ∙ ap (λ (x : ℕ). kind_as (kind_of x)) e

zero-digit : (k : B.Kind) → is_kind (kind_as B.digit) (kind_as k) ≡ is_digit_kind k
zero-digit B.digit = refl
zero-digit B.bracket = refl
zero-digit B.mark = refl
zero-digit B.space = refl
zero-digit B.line_end = refl
zero-digit B.point = refl
zero-digit B.foreign = refl

-- a number above all bytes is foreign
foreign-above : (b : ℕ) → 256 ≤ b → kind_of b ≡ B.foreign
unfolding kind_of
foreign-above b h =
    rw (
      le-leb digit_zero b (omega (arith, h)),
      lt-leb b digit_nine (omega (arith, h)),
      ne_eqb b opener (λ e. omega (arith, h, e)),
      ne_eqb b closer (λ e. omega (arith, h, e)),
      ne_eqb b tilde (λ e. omega (arith, h, e)),
      ne_eqb b colon (λ e. omega (arith, h, e)),
      ne_eqb b blank (λ e. omega (arith, h, e)),
      ne_eqb b line_feed (λ e. omega (arith, h, e)),
      ne_eqb b dot (λ e. omega (arith, h, e)),
    ) refl

-- The table has the kind of each byte.
kind-in : (n : Kind) (b : ℕ) → kind_in kind_table n b ≡ is_kind n (kind_as (kind_of b))
unfolding kind_in
kind-in n b = ⊎_elim
    (λ (h : 256 ≤ b). rw (le-ltb b 256 h, foreign-above b h) refl)
    (λ (h : b < 256). let e : 0 + b ≡ b = omega arith in
    rw (lt-ltb b 256 h) (ap (is_kind n) (kinds-at 256 0 b h ∙ ap (λ (x : ℕ). kind_as (kind_of x)) e)))
    (decide-le 256 b)

-- A byte is a digit exactly if the table of kinds says so,
pub digit-in : (b : ℕ) → digit_in kind_table b ≡ is_digit b
unfolding is_digit
digit-in b = kind-in (kind_as B.digit) b ∙ zero-digit (kind_of b)

-- and so it is with the bytes that are alone of their kind, by a test that is computed over all bytes,
abbrev tells : Kind → ℕ → ℕ → Bool
tells n a b = not (differ (is_kind n (kind_as (kind_of b))) (eqb b a))

unfoldable alone : Kind → ℕ → ℕ → ℕ → Bool
unfolding kind_of
alone n a zero b = true
alone n a (suc k) b = tells n a b && alone n a k (b + 1)

alone_at : (n : Kind) (a k b i : ℕ) → alone n a k b ≡ true → i < k → is_kind n (kind_as (kind_of (b + i))) ≡ eqb (b + i) a
unfolding alone
alone_at n a zero b i t h = absurd (omega arith)
alone_at n a (suc k) b zero t h = rw (add-zero b) (not-differ-true _ _ (and_l (tells n a b) (alone n a k (b + 1)) t))
alone_at n a (suc k) b (suc i) t h =
    let e : b + 1 + i ≡ b + suc i = omega arith in
    rw e at (alone_at n a k (b + 1) i (and_r (tells n a b) (alone n a k (b + 1)) t) (omega arith))

module _ (b : ℕ) where
  alone-in : (n : Kind) (a : ℕ) → alone n a 256 0 ≡ true → is_kind n (kind_as B.foreign) ≡ false → a < 256 → kind_in kind_table n b ≡ eqb b a
  alone-in n a t l m = kind-in n b ∙ ⊎_elim
      (λ (h : 256 ≤ b). rw (foreign-above b h, l, ne_eqb b a (λ e. omega (arith, h, e))) refl)
      (λ (h : b < 256). let e : 0 + b ≡ b = omega arith in rw e at (alone_at n a 256 0 b t h))
      (decide-le 256 b)

  pub blank-in : blank_in kind_table b ≡ eqb b blank
  unfolding alone kind_of
  blank-in = alone-in (kind_as B.space) blank refl refl (omega arith)

  pub line-feed-in : line_feed_in kind_table b ≡ eqb b line_feed
  unfolding alone kind_of
  line-feed-in = alone-in (kind_as B.line_end) line_feed refl refl (omega arith)

  pub dot-in : dot_in kind_table b ≡ eqb b dot
  unfolding alone kind_of
  dot-in = alone-in (kind_as B.point) dot refl refl (omega arith)

  -- and with those of a kind that has two.
  one_in : (n : Kind) (a : ℕ) → kind_as (kind_of a) ≡ n → (kind_in kind_table n b && eqb b a) ≡ eqb b a
  one_in n a h = ⊎_elim
      (λ (e : b ≡ a). let k : kind_in kind_table n b ≡ true = kind-in n b ∙ eq-eqb _ _ (ap kind_number (ap (λ (x : ℕ). kind_as (kind_of x)) e ∙ h)) in rw k refl)
      (λ (e : b ≢ a). rw (ne_eqb b a e) (and-off (kind_in kind_table n b)))
      (decide_eq b a)

  pub opener-in : opener_in kind_table b ≡ eqb b opener
  unfolding kind_of
  opener-in = one_in (kind_as B.bracket) opener refl

  pub closer-in : closer_in kind_table b ≡ eqb b closer
  unfolding kind_of
  closer-in = one_in (kind_as B.bracket) closer refl

  pub tilde-in : tilde_in kind_table b ≡ eqb b tilde
  unfolding kind_of
  tilde-in = one_in (kind_as B.mark) tilde refl

  pub colon-in : colon_in kind_table b ≡ eqb b colon
  unfolding kind_of
  colon-in = one_in (kind_as B.mark) colon refl

digits-by : (bs : List ℕ) (v at : ℕ) → digits_by kind_table bs v at ≡ digits_on bs v at
unfolding digits_by digits_on
digits-by [] v at = refl
digits-by (b ∷ bs) v at =
    ap₂ (λ (t : Bool) (x : Scan). elim t as (λ _. Scan) [ true ↦ x | false ↦ read v at ]) (digit-in b)
    (digits-by bs (v * 10 + (b - digit_zero)) (at + 1))

-- And so it is with a number.
pub number_by_lem : (bytes : List ℕ) (at b : ℕ) → number_by kind_table bytes at b ≡ number_at bytes at b
unfolding number_by number_at
number_by_lem bytes at b = ap (λ (x : Scan). elim (eqb b digit_zero) as (λ _. Scan) [ true ↦ read 0 (at + 1) | false ↦ x ])
    (digits-by (drop (at + 1) bytes) (b - digit_zero) (at + 1))
