-- A number that is written in decimal is read back. Assumes nothing.
use Rattle.std.specs.Prelude.{◌≡◌, refl, ◌⊎◌, Bool, true, false, cond, ◌&&◌, ◌||◌, List, [], ◌∷◌, ◌++◌, ℕ, zero, suc, ◌+◌, ◌*◌, ◌-◌, ◌/◌, ◌%◌, ◌≤◌, ◌<◌, ltb, leb, eqb, length, get_or, drop}
use Rattle.std.proofs.Common.{sym, ap, ◌∙◌, ⊎_elim, arith, drop-drop, get_or-drop, ne_eqb, leb-true, le-leb, ltb-true, ltb-false}
use Rattle.std.proofs.lemmas.Bool.{false≢true}
use Rattle.std.proofs.Math.Option.{some}
use Prim.{Unit, tt}
use Rattle.std.proofs.Math.ListN.{get_elem?}
use Rattle.std.proofs.Math.Seq.{drop-append_seam}
use Rattle.theory_lists.specs.Lists.{and_l, and_r, and-true}
use Rattle.theory_reading.specs.Bytes.{digit, bracket, mark, space, line_end, point, foreign, opener, closer, tilde, colon, blank, line_feed, dot}
use Rattle.theory_reading.specs.Bytes.{digit_zero, digit_nine, is_digit_kind, is_digit}
use Rattle.theory_reading.specs.Element.{Scan, read, digits_on, number_at}
use Rattle.theory_writing.specs.Texts.{digits, decimal}
use Rattle.theory_writing.specs.Decimal.{value_from, decimal-value}

-- ---- Digits ----------------------------------------------------------------------------------

pub digit-true : (b : ℕ) → digit_zero ≤ b → b ≤ digit_nine → is_digit b ≡ true
unfolding is_digit
digit-true b h k = let e : (leb digit_zero b && leb b digit_nine) ≡ true = and-true (le-leb digit_zero b h) (le-leb b digit_nine k) in rw e refl

-- a byte outside the digits is none
no_digit_lem : (b : ℕ) (c : Bool) → is_digit_kind (cond (eqb b opener || eqb b closer) bracket
    (cond (eqb b tilde || eqb b colon) mark (cond (eqb b blank) space (cond (eqb b line_feed) line_end (cond (eqb b dot) point foreign))))) ≡ c → c
    ≡ true → ⊥
no_digit_lem b c e h = go (eqb b opener || eqb b closer) (eqb b tilde || eqb b colon) (eqb b blank) (eqb b line_feed) (eqb b dot) (e ∙ h)
  where
    go : (p q r s t : Bool) → is_digit_kind (cond p bracket (cond q mark (cond r space (cond s line_end (cond t point foreign))))) ≡ true → ⊥
    go true q r s t e = false≢true e
    go false true r s t e = false≢true e
    go false false true s t e = false≢true e
    go false false false true t e = false≢true e
    go false false false false true e = false≢true e
    go false false false false false e = false≢true e

pub digit-range : (b : ℕ) → is_digit b ≡ true → (digit_zero ≤ b) × (b ≤ digit_nine)
unfolding is_digit
digit-range b e = go (leb digit_zero b && leb b digit_nine) refl e
  where
    go : (t : Bool) → (leb digit_zero b && leb b digit_nine) ≡ t → is_digit_kind
        (cond t digit (cond (eqb b opener || eqb b closer) bracket (cond (eqb b tilde || eqb b colon) mark
        (cond (eqb b blank) space (cond (eqb b line_feed) line_end (cond (eqb b dot) point foreign)))))) ≡ true → (digit_zero ≤ b) × (b ≤ digit_nine)
    go true p q = (leb-true digit_zero b (and_l (leb digit_zero b) _ p), leb-true b digit_nine (and_r (leb digit_zero b) (leb b digit_nine) p))
    go false p q = absurd (no_digit_lem b true q refl)

pub digit_not : (d c : ℕ) → is_digit d ≡ true → (c < digit_zero) ⊎ (digit_nine < c) → eqb d c ≡ false
digit_not d c e h = let k = digit-range d e in ne_eqb d c (λ z. ⊎_elim (λ (l : c < digit_zero). omega (arith, z, k.0))
    (λ (l : digit_nine < c). omega (arith, z, k.1)) h)

-- ---- A number among the bytes ----------------------------------------------------------------

abbrev AllDigits : List ℕ → Type 0
AllDigits [] = Unit {0}
AllDigits (d ∷ ds) = (is_digit d ≡ true) × AllDigits ds

-- a byte that is no digit comes next
abbrev pub Stops : List ℕ → Type 0
Stops [] = ⊥
Stops (b ∷ bs) = is_digit b ≡ false

scan : (ds post : List ℕ) (v at : ℕ) → AllDigits ds → Stops post → digits_on (ds ++ post) v at ≡ read (value_from v ds) (at + length ds)
unfolding digits_on value_from
scan [] [] v at h s = absurd s
scan [] (b ∷ bs) v at h s =
    let e : at ≡ at + 0 = omega arith in
    ap (λ (t : Bool). elim t as (λ _. Scan) [ true ↦ digits_on bs (v * 10 + (b - digit_zero)) (at + 1) | false ↦ read v at ]) s ∙ ap (read v) e
scan (d ∷ ds) post v at h s =
    let e : at + 1 + length ds ≡ at + suc (length ds) = omega arith in
    ap (λ (t : Bool). elim t as (λ _. Scan) [ true ↦ digits_on (ds ++ post) (v * 10 + (d - digit_zero)) (at + 1) | false ↦ read v at ]) h.0
    ∙ scan ds post (v * 10 + (d - digit_zero)) (at + 1) h.1 s ∙ ap (read (value_from (v * 10 + (d - digit_zero)) ds)) e

-- a digit that is no zero leads, and digits follow
record Leads (l : List ℕ) : Type 0 where
  d : ℕ
  ds : List ℕ
  is : l ≡ d ∷ ds
  digit : is_digit d ≡ true
  nonzero : eqb d digit_zero ≡ false
  rest : AllDigits ds

digits-lead : (f x : ℕ) (acc : List ℕ) → x < f → 0 < x → AllDigits acc → Leads (digits f x acc)
unfolding digits
digits-lead zero x acc h k a = absurd (omega arith)
digits-lead (suc f) x acc h k a = go (ltb x 10) refl (λ l. digits-lead f (x / 10) ((digit_zero + x % 10) ∷ acc) (omega arith) (omega arith)
    (digit-true (digit_zero + x % 10) (omega arith) (omega arith), a))
  where
    go : (t : Bool) → ltb x 10 ≡ t → (10 ≤ x → Leads (digits f (x / 10) ((digit_zero + x % 10) ∷ acc)))
        → Leads (elim t as (λ _. List ℕ) [ true ↦ (digit_zero + x) ∷ acc | false ↦ digits f (x / 10) ((digit_zero + x % 10) ∷ acc) ])
    go true e ih = let l = ltb-true x 10 e in record {
      d = digit_zero + x;
      ds = acc;
      is = refl;
      digit = digit-true (digit_zero + x) (omega arith)
          (omega arith);
      nonzero = ne_eqb (digit_zero + x) digit_zero (λ z. omega arith);
      rest = a;
    }
    go false e ih = ih (ltb-false x 10 e)

-- ---- Places ----------------------------------------------------------------------------------

pub drop_past : (a : ℕ) (bytes xs ys : List ℕ) → drop a bytes ≡ xs ++ ys → drop (a + length xs) bytes ≡ ys
drop_past a bytes xs ys e = sym (drop-drop (length xs) a bytes) ∙ ap (drop (length xs)) e ∙ drop-append_seam xs ys

pub drop-one : (a : ℕ) (bytes : List ℕ) (b : ℕ) (bs : List ℕ) → drop a bytes ≡ b ∷ bs → drop (a + 1) bytes ≡ bs
drop-one a bytes b bs e = drop_past a bytes (b ∷ []) bs e

pub drop-byte : (a : ℕ) (bytes : List ℕ) (b : ℕ) (bs : List ℕ) → drop a bytes ≡ b ∷ bs → get_or bytes a 0 ≡ b
drop-byte a bytes b bs e =
    let i : a + 0 ≡ a = omega arith in
    ap (λ (j : ℕ). get_or bytes j 0) (sym i) ∙ sym (get_or-drop a bytes 0 0) ∙ ap (λ (l : List ℕ). get_or l 0 0) e

pub drop-lookup : (a : ℕ) (bytes : List ℕ) (b : ℕ) (bs : List ℕ) → drop a bytes ≡ b ∷ bs → get_elem? bytes a ≡ some b
drop-lookup zero [] b bs e = absurd (let z : ◌≡◌ {A = ℕ} 0 1 = cc in omega arith)
drop-lookup (suc a) [] b bs e = absurd (let z : ◌≡◌ {A = ℕ} 0 1 = cc in omega arith)
drop-lookup zero (x ∷ xs) b bs e = ap (λ (l : List ℕ). get_elem? l 0) e
drop-lookup (suc a) (x ∷ xs) b bs e = drop-lookup a xs b bs e

-- the number k, written at a place of the bytes before what is no digit
pub record Scanned (bytes : List ℕ) (a k : ℕ) (post : List ℕ) : Type 0 where
  pub d : ℕ
  pub ds : List ℕ
  pub place : drop a bytes ≡ d ∷ (ds ++ post)
  pub digit : is_digit d ≡ true
  pub scan : number_at bytes a d ≡ read k (a + length (decimal k))
  pub past : drop (a + length (decimal k)) bytes ≡ post

pub scanned : (bytes : List ℕ) (a k : ℕ) (post : List ℕ) → Stops post → drop a bytes ≡ decimal k ++ post → Scanned bytes a k post
unfolding decimal number_at value_from digits
scanned bytes a zero post s e = record {
  d = digit_zero;
  ds = [];
  place = e;
  digit = digit-true digit_zero (omega arith) (omega arith);
  scan = refl;
  past = drop_past a bytes (decimal zero) post e;
}
scanned bytes a (suc k) post s e = go (digits-lead (suc (suc k)) (suc k) [] (omega arith) (omega arith) tt)
  where
    go : Leads (decimal (suc k)) → Scanned bytes a (suc k) post
    go l =
        let f : drop a bytes ≡ l.d ∷ (l.ds ++ post) = e ∙ ap (λ (x : List ℕ). x ++ post) l.is in
        let z : l.d - digit_zero ≡ 0 * 10 + (l.d - digit_zero) = omega arith in
        let v : value_from (l.d - digit_zero) l.ds ≡ suc k = ap (λ (y : ℕ). value_from y l.ds) z ∙ ap (value_from 0) (sym l.is)
        ∙ decimal-value (suc k) in
        let n : a + 1 + length l.ds ≡ a + length (decimal (suc k)) = omega (arith, ap length l.is) in
        record {
          d = l.d;
          ds = l.ds;
          place = f;
          digit = l.digit;
          scan =
              ap (λ (t : Bool). elim t as (λ _. Scan) [ true ↦ read 0 (a + 1) | false ↦ digits_on (drop (a + 1) bytes) (l.d - digit_zero) (a + 1) ])
              l.nonzero
              ∙ ap (λ (x : List ℕ). digits_on x (l.d - digit_zero) (a + 1)) (drop-one a bytes l.d (l.ds ++ post) f)
              ∙ scan l.ds post (l.d - digit_zero) (a + 1) l.rest s
              ∙ ap (λ (y : ℕ). read y (a + 1 + length l.ds)) v
              ∙ ap (read (suc k)) n;
          past = drop_past a bytes (decimal (suc k)) post e;
        }
