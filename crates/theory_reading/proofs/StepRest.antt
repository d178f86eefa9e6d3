-- What a step does to what may stand behind its place (Residual): an element leaves what may stand behind it; before a wrong byte the stream
-- could be completed, with it no more; where the bytes run out, the stream could be completed. Assumes nothing.
use Rattle.std.specs.Prelude.{◌≡◌, refl, Bool, true, false, cond, ◌&&◌, List, [], ◌∷◌, ◌++◌, ℕ, suc, ◌+◌, ◌*◌, ◌-◌, ◌<◌, ltb, eqb, length, drop}
use Rattle.std.proofs.Common.{sym, ap, ◌∙◌, subst, append_assoc, append-nil, arith, eqb-true, length-append}
use Prim.{Unit, tt}
use Rattle.std.proofs.lemmas.Bool.{eqb-false}
use Rattle.std.proofs.Math.ListN.{get_elem?}
use Rattle.theory_lists.specs.Lists.{and_l, and_r, is_false}
use Rattle.theory_lists.specs.Splits.{clash, and-not, nil-cons, head-same, tail-same, drop_past, head_at, none-at}
use Rattle.theory_reading.specs.Limits.{open_limit}
use Rattle.theory_reading.specs.Bytes.{opener, closer, tilde, colon, dot, blank, line_feed, digit_zero, is_digit}
use Rattle.theory_reading.specs.Nodes.{Ref}
use Rattle.theory_reading.specs.Causes.{wrong_byte, too_deep}
use Rattle.theory_reading.specs.Element.{Element, opening, number, constant, turn, closing, storing, end, Open, in_first, in_second, Context}
use Rattle.theory_reading.specs.Element.{start, lead, begins, after_digit, after_two, after_one, over, Place, place, moved, Scan, read, unread}
use Rattle.theory_reading.specs.Element.{digits_on, number_at, Outcome, got, fault, ran_out, Step, gives, fails, waits, size_ends, size_read}
use Rattle.theory_reading.specs.Element.{number_read, storing_read, node_begins, after_space, after_colon, node_ended, step_by, step}
use Rattle.theory_reading.specs.Reading.{is_context}
use Rattle.theory_reading.specs.Grammar.{Digits, no_digit, a_digit, IsNumber, is_zero, is_other, begins_in_digit}
use Rattle.theory_reading.specs.Residual.{◌⊆◌, After, Byte, Number, numbered, Node, Stored, unstored, stored, Second, First, closes, turns}
use Rattle.theory_reading.specs.Residual.{joins, spaces, Tail, Lead, turned, unturned, Rest, byte-here, byte-head, byte-not, byte-tail}
use Rattle.theory_reading.specs.Residual.{byte-none, Nondigit, nondigit-begins, byte-nondigit, number-begins, number-head, number-none}
use Rattle.theory_reading.specs.Residual.{node-not, node-none, closer-not, tilde-not, blank-not, line_feed-not, node-number, number-node}
use Rattle.theory_reading.specs.Residual.{node_opens, opens-node, tail_none, tail-colon, tail-nondigit, Some, byte-some, number-some, tail-some}
use Rattle.theory_reading.specs.Residual.{rest_some}

-- ---- Numbers ---------------------------------------------------------------------------------

-- zs begins with a digit only if ys does
abbrev pub Like : List ℕ → List ℕ → Type 0
Like ys zs = begins_in_digit zs ≡ true → begins_in_digit ys ≡ true

-- the digits from a place e on: up to another byte, or to the end
data Run (bs : List ℕ) (e : ℕ) : Scan → Type 0 where
  ran : (ks ys : List ℕ) (v f : ℕ) → bs ≡ ks ++ ys → f ≡ e + length ks → Digits ks → Nondigit ys → Run bs e (read v f)
  runs : Digits bs → Run bs e unread

run_more : {b : ℕ} {bs : List ℕ} {e : ℕ} {x : Scan} → is_digit b ≡ true → Run bs (e + 1) x → Run (b ∷ bs) e x
run_more {b} d (ran ks ys v f p q h n) = ran (b ∷ ks) ys v f (ap (λ (r : List ℕ). b ∷ r) p) (omega arith) (a_digit b ks d h) n
run_more {b} {bs} d (runs h) = runs (a_digit b bs d h)

run-choice : (b v : ℕ) (bs : List ℕ) (e : ℕ) (x : Scan) → Run bs (e + 1) x → (t : Bool) → is_digit b ≡ t
    → Run (b ∷ bs) e (elim t as (λ _. Scan) [ true ↦ x | false ↦ read v e ])
run-choice b v bs e x r true d = run_more d r
run-choice b v bs e x r false d = ran [] (b ∷ bs) v e refl (omega arith) no_digit d

digits-run : (bs : List ℕ) (v e : ℕ) → Run bs e (digits_on bs v e)
unfolding digits_on
digits-run [] v e = runs no_digit
digits-run (b ∷ bs) v e = run-choice b v bs e _ (digits-run bs (v * 10 + (b - digit_zero)) (e + 1)) (is_digit b) refl

-- the digits up to another byte are the same however they are found
run-same : {cs ks : List ℕ} (t zs : List ℕ) → Digits cs → Digits ks → begins_in_digit t ≡ false → begins_in_digit zs ≡ false → cs ++ t ≡ ks ++ zs → t ≡ zs
run-same t zs no_digit no_digit n m e = e
run-same t zs no_digit (a_digit k ks d h) n m e = clash (ap begins_in_digit e ∙ d) n
run-same t zs (a_digit c cs d h) no_digit n m e = clash (sym (ap begins_in_digit e) ∙ d) m
run-same t zs (a_digit c cs d h) (a_digit k ks f j) n m e = run-same t zs h j n m (tail-same e)

-- k is the number that stands before ys, and before any zs like it
abbrev Sharp : List ℕ → List ℕ → Type 0
Sharp k ys = (zs j t : List ℕ) → Like ys zs → IsNumber j → Nondigit t → j ++ t ≡ k ++ zs → t ≡ zs

-- the number whose first digit b stands at a, with bs behind it
data Scanned (b : ℕ) (bs : List ℕ) (a : ℕ) : Scan → Type 0 where
  whole : (ks ys : List ℕ) (v e : ℕ) → bs ≡ ks ++ ys → e ≡ a + suc (length ks) → IsNumber (b ∷ ks) → Sharp (b ∷ ks) ys → Scanned b bs a (read v e)
  partial : IsNumber (b ∷ bs) → Scanned b bs a unread

sharp-zero : (b : ℕ) (ys : List ℕ) → b ≡ digit_zero → Sharp (b ∷ []) ys
sharp-zero b ys z zs j t l is_zero n e = tail-same e
sharp-zero b ys z zs j t l (is_other c cs d m h) n e = absurd (m (head-same e ∙ z))

like-false : (ys zs : List ℕ) → Like ys zs → begins_in_digit ys ≡ false → begins_in_digit zs ≡ false
like-false ys zs l n = is_false (begins_in_digit zs) (λ e. clash (l e) n)

sharp-other : {b : ℕ} {ks : List ℕ} (ys : List ℕ) → (b ≡ digit_zero → ⊥) → Digits ks → Nondigit ys → Sharp (b ∷ ks) ys
sharp-other ys z h n zs j t l is_zero m e = absurd (z (sym (head-same e)))
sharp-other ys z h n zs j t l (is_other c cs d p i) m e =
    run-same t zs i h (nondigit-begins t m) (like-false ys zs l (nondigit-begins ys n)) (tail-same e)

scan-run : {b : ℕ} {bs : List ℕ} {a : ℕ} {x : Scan} → is_digit b ≡ true → (b ≡ digit_zero → ⊥) → Run bs (a + 1) x → Scanned b bs a x
scan-run {b} d z (ran ks ys v f p q h n) = whole ks ys v f p (omega arith) (is_other b ks d z h) (sharp-other ys z h n)
scan-run {b} {bs} d z (runs h) = partial (is_other b bs d z h)

scan-choice : (b : ℕ) (bs : List ℕ) (a : ℕ) (x : Scan) → is_digit b ≡ true → Run bs (a + 1) x → (t : Bool) → eqb b digit_zero ≡ t
    → Scanned b bs a (elim t as (λ _. Scan) [ true ↦ read 0 (a + 1) | false ↦ x ])
scan-choice b bs a x d r true e =
    let z : b ≡ digit_zero = eqb-true b digit_zero e in
    whole [] bs 0 (a + 1) refl (omega arith) (subst (λ (c : ℕ). IsNumber (c ∷ [])) (sym z) is_zero) (sharp-zero b bs z)
scan-choice b bs a x d r false e = scan-run d (eqb-false b digit_zero e) r

scanned : (bytes : List ℕ) (a b : ℕ) (bs : List ℕ) → drop a bytes ≡ b ∷ bs → is_digit b ≡ true → Scanned b bs a (number_at bytes a b)
unfolding number_at
scanned bytes a b bs h d =
    let x = digits_on (drop (a + 1) bytes) (b - digit_zero) (a + 1) in
    let s : drop (a + 1) bytes ≡ bs = drop_past bytes (b ∷ []) bs a (a + 1) h refl in
    scan-choice b bs a x d (subst (λ (l : List ℕ). Run l (a + 1) x) s (digits-run (drop (a + 1) bytes) (b - digit_zero) (a + 1))) (eqb b digit_zero)
    refl

-- a number has digits alone
number_digits : {k : List ℕ} → IsNumber k → Digits k
number_digits is_zero = a_digit digit_zero [] (number-begins is_zero []) no_digit
number_digits (is_other b bs d n h) = a_digit b bs d h

digits-behind : (j t : List ℕ) → Digits (j ++ t) → Digits t
digits-behind [] t h = h
digits-behind (c ∷ cs) t h = digits-behind cs t (digits-tail h refl)
  where
    digits-tail : {xs : List ℕ} → Digits xs → xs ≡ c ∷ (cs ++ t) → Digits (cs ++ t)
    digits-tail no_digit e = nil-cons e
    digits-tail (a_digit b bs d h) e = subst Digits (tail-same e) h

digits-nondigit : {A : Type 0} (t : List ℕ) → Digits t → Nondigit t → A
digits-nondigit t no_digit n = absurd n
digits-nondigit t (a_digit b bs d h) n = clash d n

-- digits alone are no number with something else behind it
digits-cut : {A : Type 0} {k : List ℕ} (j t : List ℕ) → IsNumber k → Nondigit t → k ≡ j ++ t → A
digits-cut j t h n e = digits-nondigit t (digits-behind j t (subst Digits e (number_digits h))) n

-- ---- What is shown of a step -----------------------------------------------------------------

abbrev pub RestAt : Place → List ℕ → Type 0
RestAt p = Rest p.context p.opens

-- a closing closes an open node
abbrev pub Closes : Element → List Open → Type 0
Closes opening o = Unit {0}
Closes (number v) o = Unit {0}
Closes constant o = Unit {0}
Closes turn o = Unit {0}
Closes closing o = o ≡ [] → ⊥
Closes (storing k) o = Unit {0}
Closes end o = Unit {0}

-- The step from p, with the bytes xs behind p, comes to an outcome and a place:
--   takes: an element has the bytes w, and what completes the stream behind w is what completes it at the new place;
--   wrong: behind w stands c, and the stream could be completed behind w but not behind w and c;
--   stops: the bytes ran out, and what is behind p could be completed but is not complete;
--   rests: the stream is over.
pub data Fits (p : Place) (xs : List ℕ) : Outcome → Place → Type 0 where
  takes : (w ys : List ℕ) (e : Element) (q : Place) → xs ≡ w ++ ys → q.at ≡ p.at + length w → 0 < length w → Closes e p.opens
      → RestAt q ⊆ After w (RestAt p) → ((zs : List ℕ) → Like ys zs → RestAt p (w ++ zs) → RestAt q zs) → Fits p xs (got e) q
  wrong : (w ys : List ℕ) (c b : ℕ) → xs ≡ w ++ (c ∷ ys) → b ≡ p.at + length w
      → Some (After w (RestAt p)) → ((zs : List ℕ) → RestAt p (w ++ (c ∷ zs)) → ⊥) → Fits p xs (fault wrong_byte b) p
  deep : (b : ℕ) → Fits p xs (fault too_deep b) p
  stops : (p.context ≡ over → ⊥) → Some (After xs (RestAt p)) → (RestAt p xs → ⊥) → Fits p xs ran_out p
  rests : p.context ≡ over → xs ≡ [] → Fits p xs ran_out p

abbrev pub FitsStep : Place → List ℕ → Step → Type 0
FitsStep p xs s = Fits p xs s.outcome s.place

fits-cond : (p : Place) (xs : List ℕ) (t : Bool) (x y : Step)
    → (t ≡ true → FitsStep p xs x) → (t ≡ false → FitsStep p xs y) → FitsStep p xs (cond t x y)
fits-cond p xs true x y h k = h refl
fits-cond p xs false x y h k = k refl

-- the byte at the place is an element
one_byte : (p : Place) (b : ℕ) (bs : List ℕ) (e : Element) (q : Place) → q.at ≡ p.at + 1 → Closes e p.opens
    → RestAt q ⊆ After (b ∷ []) (RestAt p) → After (b ∷ []) (RestAt p) ⊆ RestAt q → Fits p (b ∷ bs) (got e) q
one_byte p b bs e q a c f g = takes (b ∷ []) bs e q refl a (omega arith) c f (λ zs l h. g zs h)

-- the byte at the place is wrong
wrong-here : (p : Place) (b : ℕ) (bs : List ℕ) → ((zs : List ℕ) → RestAt p (b ∷ zs) → ⊥) → FitsStep p (b ∷ bs) (fails p wrong_byte p.at)
wrong-here p b bs n = wrong [] bs b p.at refl (omega arith) (rest_some p.context p.opens) n

not-over : (m : Context) → is_context over m ≡ false → m ≡ over → ⊥
not-over m n e = clash (ap (is_context over) e) n

-- ---- Where a number is read ------------------------------------------------------------------

-- The number behind the bytes u begins with b; what completes the stream behind u is a number, and then what is behind a node inside o.
module _ (p : Place) (u : List ℕ) (o : List Open) (b : ℕ) (bs : List ℕ)
    (inn : After (b ∷ []) (Number (Tail o true)) ⊆ After (b ∷ []) (After u (RestAt p)))
    (out : After (b ∷ []) (After u (RestAt p)) ⊆ After (b ∷ []) (Number (Tail o true))) where
  number-exact : (ks ys zs : List ℕ) → Sharp (b ∷ ks) ys → Like ys zs → Number (Tail o true) (b ∷ (ks ++ zs)) → Tail o true zs
  number-exact ks ys zs s l (numbered j t e h k) = subst (Tail o true) (s zs j t l h (tail-nondigit o t k) (sym e)) k

  number-takes : (e : Element) (ks ys : List ℕ) (a f : ℕ) → a ≡ p.at + length u → bs ≡ ks ++ ys → f ≡ a + suc (length ks)
      → IsNumber (b ∷ ks) → Sharp (b ∷ ks) ys → Closes e p.opens → Fits p (u ++ (b ∷ bs)) (got e) (moved p f after_digit o)
  number-takes e ks ys a f i j g h s c =
      takes (u ++ (b ∷ ks)) ys e (moved p f after_digit o)
      (ap (λ (r : List ℕ). u ++ (b ∷ r)) j ∙ sym (append_assoc u (b ∷ ks) ys))
      (omega (arith, length-append u (b ∷ ks)))
      (omega (arith, length-append u (b ∷ ks)))
      c
      (λ zs k. rw (append_assoc u (b ∷ ks) zs) (inn (ks ++ zs) (numbered (b ∷ ks) zs refl h k)))
      (λ zs l k. number-exact ks ys zs s l (out (ks ++ zs) (rw (append_assoc u (b ∷ ks) zs) at k)))

  number-stops : (p.context ≡ over → ⊥) → IsNumber (b ∷ bs) → Fits p (u ++ (b ∷ bs)) ran_out p
  number-stops n h =
      let x = tail-some o true in
      stops n (x.0, rw (append_assoc u (b ∷ bs) x.0) (inn (bs ++ x.0) (numbered (b ∷ bs) x.0 refl h x.1)))
      (λ k. none-behind (out bs k))
    where
      none-behind : Number (Tail o true) (b ∷ bs) → ⊥
      none-behind (numbered j t e i k) = digits-cut j t h (tail-nondigit o t k) e

  number_fits : (a : ℕ) (x : Scan) → a ≡ p.at + length u → (p.context ≡ over → ⊥) → Scanned b bs a x → FitsStep p (u ++ (b ∷ bs)) (number_read p o x)
  number_fits a x i n (whole ks ys v e j g h s) = number-takes (cond (eqb v 0) constant (number v)) ks ys a e i j g h s (plain (eqb v 0))
    where
      plain : (t : Bool) → Closes (cond t constant (number v)) p.opens
      plain true = tt
      plain false = tt
  number_fits a x i n (partial h) = number-stops n h

storing-fits : (p : Place) (u : List ℕ) (b : ℕ) (bs : List ℕ)
    → After (b ∷ []) (Number (Tail p.opens true)) ⊆ After (b ∷ []) (After u (RestAt p))
    → After (b ∷ []) (After u (RestAt p)) ⊆ After (b ∷ []) (Number (Tail p.opens true))
    → (a : ℕ) (x : Scan) → a ≡ p.at + length u → (p.context ≡ over → ⊥) → Scanned b bs a x → FitsStep p (u ++ (b ∷ bs)) (storing_read p x)
storing-fits p u b bs inn out a x i n (whole ks ys v e j g h s) = number-takes p u p.opens b bs inn out (storing v) ks ys a e i j g h s tt
storing-fits p u b bs inn out a x i n (partial h) = number-stops p u p.opens b bs inn out n h

-- ---- Where a space or a `:` stands before the number -----------------------------------------

-- what completes the stream behind that byte b is a number, and then what is behind a node inside o
module _ (bytes : List ℕ) (p : Place) (n : p.context ≡ over → ⊥) (o : List Open) (b : ℕ)
    (inn : Number (Tail o true) ⊆ After (b ∷ []) (RestAt p))
    (out : After (b ∷ []) (RestAt p) ⊆ Number (Tail o true)) where
  behind-stops : Fits p (b ∷ []) ran_out p
  behind-stops = let x = number-some (tail-some o true) in stops n (x.0, inn x.0 x.1) (λ h. number-none (out [] h))

  behind-wrong : (c : ℕ) (cs : List ℕ) → is_digit c ≡ false → FitsStep p (b ∷ (c ∷ cs)) (fails p wrong_byte (p.at + 1))
  behind-wrong c cs d =
      let x = number-some (tail-some o true) in
      wrong (b ∷ []) cs c (p.at + 1) refl refl (x.0, inn x.0 x.1) (λ zs h. clash (number-head (out (c ∷ zs) h)) d)

  space-fits : (bs : List ℕ) → drop p.at bytes ≡ b ∷ bs → FitsStep p (b ∷ bs) (after_space bytes p o (get_elem? bytes (p.at + 1)))
  space-fits [] h = rw (none-at bytes (p.at + 1) (drop_past bytes (b ∷ []) [] p.at (p.at + 1) h refl)) behind-stops
  space-fits (c ∷ cs) h =
      let k : drop (p.at + 1) bytes ≡ c ∷ cs = drop_past bytes (b ∷ []) (c ∷ cs) p.at (p.at + 1) h refl in
      rw (head_at bytes (p.at + 1) c cs k)
      (fits-cond p (b ∷ (c ∷ cs)) (is_digit c) _ _
      (λ d. number_fits p (b ∷ []) o c cs (λ zs. inn (c ∷ zs)) (λ zs. out (c ∷ zs)) (p.at + 1) _ refl n (scanned bytes (p.at + 1) c cs k d))
      (λ d. behind-wrong c cs d))

colon-fits : (bytes : List ℕ) (p : Place) → (p.context ≡ over → ⊥) → (b : ℕ)
    → Number (Tail p.opens true) ⊆ After (b ∷ []) (RestAt p)
    → After (b ∷ []) (RestAt p) ⊆ Number (Tail p.opens true)
    → (bs : List ℕ) → drop p.at bytes ≡ b ∷ bs → FitsStep p (b ∷ bs) (after_colon bytes p (get_elem? bytes (p.at + 1)))
colon-fits bytes p n b inn out [] h =
    rw (none-at bytes (p.at + 1) (drop_past bytes (b ∷ []) [] p.at (p.at + 1) h refl))
    (behind-stops bytes p n p.opens b inn out)
colon-fits bytes p n b inn out (c ∷ cs) h =
    let k : drop (p.at + 1) bytes ≡ c ∷ cs = drop_past bytes (b ∷ []) (c ∷ cs) p.at (p.at + 1) h refl in
    rw (head_at bytes (p.at + 1) c cs k)
    (fits-cond p (b ∷ (c ∷ cs)) (is_digit c) _ _
    (λ d. storing-fits p (b ∷ []) c cs (λ zs. inn (c ∷ zs)) (λ zs. out (c ∷ zs)) (p.at + 1) _ refl n (scanned bytes (p.at + 1) c cs k d))
    (λ d. behind-wrong bytes p n p.opens b inn out c cs d))

-- ---- Where a node begins ---------------------------------------------------------------------

-- what completes the stream there is a node, and then what is behind a node inside o
node-fits : (bytes : List ℕ) (p : Place) → (p.context ≡ over → ⊥) → (o : List Open) (b : ℕ)
    → After (b ∷ []) (Node (Tail o)) ⊆ After (b ∷ []) (RestAt p)
    → After (b ∷ []) (RestAt p) ⊆ After (b ∷ []) (Node (Tail o))
    → (bs : List ℕ) → drop p.at bytes ≡ b ∷ bs → FitsStep p (b ∷ bs) (node_begins bytes p o b)
node-fits bytes p n o b inn out bs h =
    fits-cond p (b ∷ bs) (eqb b opener) _ _
    (λ e. fits-cond p (b ∷ bs) (ltb (length o) open_limit) _ _ (λ _. opened (eqb-true b opener e)) (λ _. deep p.at))
    (λ e. fits-cond p (b ∷ bs) (is_digit b) _ _
    (λ d. number_fits p [] o b bs (λ zs k. inn zs (number-node k)) (λ zs k. node-number d (out zs k)) p.at _ (omega arith) n
    (scanned bytes p.at b bs h d))
    (λ d. wrong-here p b bs (λ zs k. node-not (eqb-false b opener e) d (out zs k))))
  where
    opened : b ≡ opener → FitsStep p (b ∷ bs) (gives opening (moved p (p.at + 1) begins (in_first ∷ o)))
    opened e =
        one_byte p b bs opening (moved p (p.at + 1) begins (in_first ∷ o)) refl tt
        (λ zs k. inn zs (subst (λ (c : ℕ). Node (Tail o) (c ∷ zs)) (sym e) (opens-node k)))
        (λ zs k. node_opens (subst (λ (c : ℕ). Node (Tail o) (c ∷ zs)) e (out zs k)))

-- ---- Where a node has ended ------------------------------------------------------------------

cons-one : {b c : ℕ} {zs : List ℕ} → b ≡ c → zs ≡ [] → b ∷ zs ≡ c ∷ []
cons-one e h = cc

module _ {K : Bool → List ℕ → Type 0} {d : Bool} {b : ℕ} {zs : List ℕ} where
  -- what is behind a first child, by the byte that stands there
  first-turns : b ≡ tilde → First K d (b ∷ zs) → Node (λ _. Second K) zs
  first-turns e (closes h) = byte-not (omega arith) h
  first-turns e (turns h) = byte-tail h
  first-turns e (joins c h) = node-not (omega arith) (ap is_digit e ∙ tilde-not) h
  first-turns e (spaces c h) = byte-not (omega arith) h

  first-closes : b ≡ closer → First K d (b ∷ zs) → K false zs
  first-closes e (closes h) = byte-tail h
  first-closes e (turns h) = byte-not (omega arith) h
  first-closes e (joins c h) = node-not (omega arith) (ap is_digit e ∙ closer-not) h
  first-closes e (spaces c h) = byte-not (omega arith) h

  first-spaces : b ≡ blank → First K d (b ∷ zs) → Number (Second K) zs
  first-spaces e (closes h) = byte-not (omega arith) h
  first-spaces e (turns h) = byte-not (omega arith) h
  first-spaces e (joins c h) = node-not (omega arith) (ap is_digit e ∙ blank-not) h
  first-spaces e (spaces c h) = byte-tail h

  first-joins : (b ≡ tilde → ⊥) → (b ≡ closer → ⊥) → (d ≡ true → b ≡ blank → ⊥) → First K d (b ∷ zs) → Node (λ _. Second K) (b ∷ zs)
  first-joins t c s (closes h) = byte-not c h
  first-joins t c s (turns h) = byte-not t h
  first-joins t c s (joins f h) = h
  first-joins t c s (spaces f h) = byte-not (s f) h

  first-digit : (b ≡ tilde → ⊥) → (b ≡ closer → ⊥) → (d ≡ true → b ≡ blank → ⊥) → d ≡ true → is_digit b ≡ true → First K d (b ∷ zs) → ⊥
  first-digit t c s e i (closes h) = byte-not c h
  first-digit t c s e i (turns h) = byte-not t h
  first-digit t c s e i (joins f h) = clash i (f e)
  first-digit t c s e i (spaces f h) = byte-not (s f) h

-- what completes the stream there is what is behind a node inside o
ended-fits : (bytes : List ℕ) (p : Place) → (p.context ≡ over → ⊥) → (d : Bool) (b : ℕ) (bs : List ℕ) → drop p.at bytes ≡ b ∷ bs
    → (o : List Open) → p.opens ≡ o
    → After (b ∷ []) (Tail o d) ⊆ After (b ∷ []) (RestAt p)
    → After (b ∷ []) (RestAt p) ⊆ After (b ∷ []) (Tail o d)
    → FitsStep p (b ∷ bs) (node_ended bytes p d b o)
ended-fits bytes p n d b bs h [] q inn out =
    fits-cond p (b ∷ bs) (eqb b dot) _ _
    (λ e. one_byte p b bs end (moved p (p.at + 1) over []) refl tt (λ zs k. inn zs (cons-one (eqb-true b dot e) k)) (λ zs k. tail-same (out zs k)))
    (λ e. wrong-here p b bs (λ zs k. eqb-false b dot e (head-same (out zs k))))
ended-fits bytes p n d b bs h (in_second a t ∷ o) q inn out =
    fits-cond p (b ∷ bs) (eqb b closer) _ _
    (λ e. one_byte p b bs closing (moved p (p.at + 1) after_two o) refl (λ i. nil-cons (sym i ∙ q))
    (λ zs k. inn zs (byte-here (eqb-true b closer e) k)) (λ zs k. byte-tail (out zs k)))
    (λ e. wrong-here p b bs (λ zs k. byte-not (eqb-false b closer e) (out zs k)))
ended-fits bytes p n d b bs h (in_first ∷ o) q inn out =
    fits-cond p (b ∷ bs) (eqb b tilde) _ _
    (λ e. let i : b ≡ tilde = eqb-true b tilde e in
    one_byte p b bs turn (moved p (p.at + 1) begins (in_second p.last true ∷ o)) refl tt
    (λ zs k. inn zs (turns (byte-here i k))) (λ zs k. first-turns i (out zs k)))
    (λ t. fits-cond p (b ∷ bs) (eqb b closer) _ _
    (λ e. let i : b ≡ closer = eqb-true b closer e in
    one_byte p b bs closing (moved p (p.at + 1) after_one o) refl (λ i. nil-cons (sym i ∙ q))
    (λ zs k. inn zs (closes (byte-here i k))) (λ zs k. first-closes i (out zs k)))
    (λ c. fits-cond p (b ∷ bs) (d && eqb b blank) _ _
    (λ e. let i : b ≡ blank = eqb-true b blank (and_r d (eqb b blank) e) in
    space-fits bytes p n (in_second p.last false ∷ o) b
    (λ zs k. inn zs (spaces (and_l d (eqb b blank) e) (byte-here i k))) (λ zs k. first-spaces i (out zs k)) bs h)
    (λ s. let not-tilde : b ≡ tilde → ⊥ = eqb-false b tilde t in
    let not-closer : b ≡ closer → ⊥ = eqb-false b closer c in
    let not-blank : d ≡ true → b ≡ blank → ⊥ = λ i. eqb-false b blank (and-not d (eqb b blank) s i) in
    fits-cond p (b ∷ bs) (d && is_digit b) _ _
    (λ e. wrong-here p b bs (λ zs k. first-digit not-tilde not-closer not-blank (and_l d (is_digit b) e) (and_r d (is_digit b) e) (out zs k)))
    (λ e. node-fits bytes p n (in_second p.last false ∷ o) b
    (λ zs k. inn zs (joins (and-not d (is_digit b) e) k)) (λ zs k. first-joins not-tilde not-closer not-blank (out zs k)) bs h))))

-- ---- The size --------------------------------------------------------------------------------

-- the size that stands before a byte c
size-behind : (M : List ℕ → Type 0) (b c : ℕ) (ks cs zs : List ℕ) → Sharp (b ∷ ks) (c ∷ cs)
    → Number (Byte line_feed M) ((b ∷ ks) ++ (c ∷ zs)) → Byte line_feed M (c ∷ zs)
size-behind M b c ks cs zs s (numbered j t e h k) = subst (Byte line_feed M) (s (c ∷ zs) j t (λ i. i) h (byte-nondigit line_feed-not k) (sym e)) k

module _ (bytes : List ℕ) (a : ℕ) (o : List Open) (r : Ref) (b : ℕ) (bs : List ℕ) (at_b : drop a bytes ≡ b ∷ bs) where
  size-some : (ks : List ℕ) → IsNumber (b ∷ ks) → Some (λ zs. Rest start o (b ∷ (ks ++ zs)))
  size-some ks h = let x = byte-some line_feed (rest_some lead o) in (x.0, numbered (b ∷ ks) x.0 refl h x.1)

  size-stops : IsNumber (b ∷ bs) → FitsStep (place a start o r) (b ∷ bs) (waits (place a start o r))
  size-stops h = stops (not-over start refl) (size-some bs h) none-behind
    where
      none-behind : Number (Byte line_feed (Lead (Tail o))) (b ∷ bs) → ⊥
      none-behind (numbered j t e i k) = digits-cut j t h (byte-nondigit line_feed-not k) e

  size-ends : (ks ys : List ℕ) (v e : ℕ) → bs ≡ ks ++ ys → e ≡ a + suc (length ks) → IsNumber (b ∷ ks) → Sharp (b ∷ ks) ys
      → FitsStep (place a start o r) (b ∷ bs) (size_ends (place a start o r) v e (get_elem? bytes e))
  size-ends ks [] v e j g h s =
      rw (none-at bytes e (drop_past bytes (b ∷ ks) [] a e (at_b ∙ ap (λ (l : List ℕ). b ∷ l) j) g))
      (size-stops (subst (λ (l : List ℕ). IsNumber (b ∷ l)) (sym (j ∙ append-nil ks)) h))
  size-ends ks (c ∷ cs) v e j g h s =
      rw (head_at bytes e c cs (drop_past bytes (b ∷ ks) (c ∷ cs) a e (at_b ∙ ap (λ (l : List ℕ). b ∷ l) j) g))
      (fits-cond (place a start o r) (b ∷ bs) (eqb c line_feed) _ _
      (λ i. takes ((b ∷ ks) ++ (c ∷ [])) cs (number v) (place (e + 1) lead o r)
      (ap (λ (l : List ℕ). b ∷ l) j ∙ sym (append_assoc (b ∷ ks) (c ∷ []) cs))
      (omega (arith, length-append (b ∷ ks) (c ∷ [])))
      (omega arith)
      tt
      (λ zs k. numbered (b ∷ ks) (c ∷ zs) (append_assoc (b ∷ ks) (c ∷ []) zs) h (byte-here (eqb-true c line_feed i) k))
      (λ zs l k. byte-tail (size-behind (Lead (Tail o)) b c ks cs zs s (rw (append_assoc (b ∷ ks) (c ∷ []) zs) at k))))
      (λ i. wrong (b ∷ ks) cs c e (ap (λ (l : List ℕ). b ∷ l) j) g (size-some ks h)
      (λ zs k. eqb-false c line_feed i (byte-head (size-behind (Lead (Tail o)) b c ks cs zs s k)))))

  size_fits : (x : Scan) → Scanned b bs a x → FitsStep (place a start o r) (b ∷ bs) (size_read bytes (place a start o r) x)
  size_fits x (whole ks ys v e j g h s) = size-ends ks ys v e j g h s
  size_fits x (partial h) = size-stops h

-- ---- The step --------------------------------------------------------------------------------

stored-colon : (o : List Open) (zs : List ℕ) → Stored (Tail o) (colon ∷ zs) → Number (Tail o true) zs
stored-colon o zs (unstored h) = tail-colon o false zs h
stored-colon o zs (stored h) = byte-tail h

stored_other : (o : List Open) (b : ℕ) (zs : List ℕ) → (b ≡ colon → ⊥) → Stored (Tail o) (b ∷ zs) → Tail o false (b ∷ zs)
stored_other o b zs n (unstored h) = h
stored_other o b zs n (stored h) = byte-not n h

lead-tilde : (o : List Open) (b : ℕ) (zs : List ℕ) → b ≡ tilde → Lead (Tail o) (b ∷ zs) → Node (Tail o) zs
lead-tilde o b zs e (turned h) = byte-tail h
lead-tilde o b zs e (unturned h) = node-not (omega arith) (ap is_digit e ∙ tilde-not) h

lead-other : (o : List Open) (b : ℕ) (zs : List ℕ) → (b ≡ tilde → ⊥) → Lead (Tail o) (b ∷ zs) → Node (Tail o) (b ∷ zs)
lead-other o b zs n (turned h) = byte-not n h
lead-other o b zs n (unturned h) = h

-- with a byte b behind the place
by_fits : (bytes : List ℕ) (a : ℕ) (m : Context) (o : List Open) (r : Ref) (b : ℕ) (bs : List ℕ) → drop a bytes ≡ b ∷ bs
    → FitsStep (place a m o r) (b ∷ bs) (step_by bytes (place a m o r) b m)
by_fits bytes a start o r b bs h =
    fits-cond (place a start o r) (b ∷ bs) (is_digit b) _ _
    (λ d. size_fits bytes a o r b bs h _ (scanned bytes a b bs h d))
    (λ d. wrong-here (place a start o r) b bs (λ zs k. clash (number-head k) d))
by_fits bytes a lead o r b bs h =
    fits-cond (place a lead o r) (b ∷ bs) (eqb b tilde) _ _
    (λ e. let i : b ≡ tilde = eqb-true b tilde e in
    one_byte (place a lead o r) b bs turn (place (a + 1) begins o r) refl tt (λ zs k. turned (byte-here i k)) (λ zs k. lead-tilde o b zs i k))
    (λ e. node-fits bytes (place a lead o r) (not-over lead refl) o b (λ zs k. unturned k) (λ zs k. lead-other o b zs (eqb-false b tilde e) k) bs h)
by_fits bytes a begins o r b bs h = node-fits bytes (place a begins o r) (not-over begins refl) o b (λ zs k. k) (λ zs k. k) bs h
by_fits bytes a after_digit o r b bs h = ended-fits bytes (place a after_digit o r) (not-over after_digit refl) true b bs h o refl (λ zs k. k)
    (λ zs k. k)
by_fits bytes a after_two o r b bs h =
    fits-cond (place a after_two o r) (b ∷ bs) (eqb b colon) _ _
    (λ e. let i : b ≡ colon = eqb-true b colon e in
    colon-fits bytes (place a after_two o r) (not-over after_two refl) b
    (λ zs k. stored (byte-here i k))
    (λ zs k. stored-colon o zs (subst (λ (c : ℕ). Stored (Tail o) (c ∷ zs)) i k)) bs h)
    (λ e. ended-fits bytes (place a after_two o r) (not-over after_two refl) false b bs h o refl (λ zs k. unstored k)
    (λ zs k. stored_other o b zs (eqb-false b colon e) k))
by_fits bytes a after_one o r b bs h = ended-fits bytes (place a after_one o r) (not-over after_one refl) false b bs h o refl (λ zs k. k) (λ zs k. k)
by_fits bytes a over o r b bs h = wrong-here (place a over o r) b bs (λ zs k. nil-cons (sym k))

-- with no byte behind the place
none-fits : (a : ℕ) (m : Context) (o : List Open) (r : Ref) → Fits (place a m o r) [] ran_out (place a m o r)
none-fits a start o r = stops (not-over start refl) (rest_some start o) (λ k. number-none k)
none-fits a lead o r = stops (not-over lead refl) (rest_some lead o) lead-none
  where
    lead-none : Lead (Tail o) [] → ⊥
    lead-none (turned h) = byte-none h
    lead-none (unturned h) = node-none h
none-fits a begins o r = stops (not-over begins refl) (rest_some begins o) (λ k. node-none k)
none-fits a after_digit o r = stops (not-over after_digit refl) (rest_some after_digit o) (λ k. tail_none o true k)
none-fits a after_two o r = stops (not-over after_two refl) (rest_some after_two o) stored-none
  where
    stored-none : Stored (Tail o) [] → ⊥
    stored-none (unstored h) = tail_none o false h
    stored-none (stored h) = byte-none h
none-fits a after_one o r = stops (not-over after_one refl) (rest_some after_one o) (λ k. tail_none o false k)
none-fits a over o r = rests refl refl

-- EVERY STEP does to what may stand behind its place what `Fits` says. xs: the bytes behind the place
pub step_fits : (bytes : List ℕ) (p : Place) (xs : List ℕ) → drop p.at bytes ≡ xs → FitsStep p xs (step p bytes)
unfolding step
step_fits bytes p [] h = rw (none-at bytes p.at h) (none-fits p.at p.context p.opens p.last)
step_fits bytes p (b ∷ bs) h = rw (head_at bytes p.at b bs h) (by_fits bytes p.at p.context p.opens p.last b bs h)
