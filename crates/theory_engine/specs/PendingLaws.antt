-- Laws of Pending: what waits is the beginning of a lent row, a number has one digit more than its tenth, and text that goes out
-- leaves what Run says of an output. Assumes nothing.
use Rattle.std.specs.Prelude.{◌≡◌, refl, Bool, true, false, cond, List, [], ◌∷◌, ◌++◌, ℕ, zero, suc, ◌+◌, ◌-◌, ◌*◌, ◌/◌, ◌%◌, ◌≤◌, ◌<◌, ◌^◌, ltb, length, get_or, set, take, drop, replicate}
use Rattle.std.proofs.Common.{sym, ap, ◌∙◌, ⊎_elim, append-nil, arith, length-set, length-append, drop-cons, take-suc-set, lt-ltb, le-ltb}
use Rattle.std.proofs.Math.Seq.{append_snoc, set-append_seam, set_out}
use Rattle.std.proofs.lemmas.List.{take-set-le}
use Rattle.theory_lists.specs.Lists.{decide-le}
use Rattle.theory_reading.specs.Limits.{option_limit, table_limit, digit_limit}
use Rattle.theory_reading.specs.LimitLaws.{few-digits}
use Rattle.theory_reading.specs.Bytes.{opener, closer, digit_zero}
use Rattle.theory_writing.specs.Texts.{digits, decimal}
use Rattle.theory_writing.specs.Run.{written_bytes, output_after}
use Rattle.theory_writing.specs.Output.{written-length, written_all, full-written, full-output, output-length}
use Rattle.theory_writing.specs.Shape.{opens, closes}
use Rattle.theory_engine.specs.Pending.{Waiting, push_all, sent_to, written_to, level_room, end_room, waiting_limit}

-- ---- What waits ------------------------------------------------------------------------------

-- two texts, one after the other
pub push-append : (w : List ℕ) (m : ℕ) (x y : List ℕ)
    → push_all w m (x ++ y) ≡ (let p = push_all w m x in push_all p.bytes p.count y)
unfolding push_all
push-append w m [] y = refl
push-append w m (b ∷ x) y = push-append (set w m b) (cond (ltb m (length w)) (m + 1) m) x y

-- the row stays as long
pub push-length : (w : List ℕ) (m : ℕ) (x : List ℕ) → length (push_all w m x).bytes ≡ length w
unfolding push_all
push-length w m [] = refl
push-length w m (b ∷ x) = push-length (set w m b) (cond (ltb m (length w)) (m + 1) m) x ∙ length-set w m b

-- where there is room for a byte, it counts
push-one : (w : List ℕ) (m b : ℕ) (x : List ℕ) → m < length w → push_all w m (b ∷ x) ≡ push_all (set w m b) (m + 1) x
unfolding push_all
push-one w m b x h = ap (λ (t : Bool). push_all (set w m b) (cond t (m + 1) m) x) (lt-ltb m (length w) h)

-- all of a text that has room counts
pub push-count : (w : List ℕ) (m : ℕ) (x : List ℕ) → m + length x ≤ length w → (push_all w m x).count ≡ m + length x
unfolding push_all
push-count w m [] h = omega arith
push-count w m (b ∷ x) h =
    ap (λ (p : Waiting). p.count) (push-one w m b x (omega arith))
    ∙ push-count (set w m b) (m + 1) x (omega (arith, h, length-set w m b)) ∙ omega arith

-- what waits is then what waited, and the text
pub push-take : (w : List ℕ) (m : ℕ) (x : List ℕ) → m + length x ≤ length w
    → take (m + length x) (push_all w m x).bytes ≡ take m w ++ x
unfolding push_all
push-take w m [] h =
    let e : m + 0 ≡ m = omega arith in ap (λ (k : ℕ). take k w) e ∙ sym (append-nil (take m w))
push-take w m (b ∷ x) h =
    let e : m + suc (length x) ≡ m + 1 + length x = omega arith in
    let s : m + 1 ≡ suc m = omega arith in
    ap (λ (p : Waiting). take (m + suc (length x)) p.bytes) (push-one w m b x (omega arith))
    ∙ ap (λ (k : ℕ). take k (push_all (set w m b) (m + 1) x).bytes) e
    ∙ push-take (set w m b) (m + 1) x (omega (arith, h, length-set w m b))
    ∙ ap (λ (k : ℕ). take k (set w m b) ++ x) s
    ∙ ap (λ (l : List ℕ). l ++ x) (take-suc-set w m b (omega arith))
    ∙ append_snoc (take m w) b x

-- what waited before stays
pub push-keeps : (w : List ℕ) (m : ℕ) (x : List ℕ) (j : ℕ) → j ≤ m → take j (push_all w m x).bytes ≡ take j w
unfolding push_all
push-keeps w m [] j h = refl
push-keeps w m (b ∷ x) j h =
    push-keeps (set w m b) (cond (ltb m (length w)) (m + 1) m) x j (more (ltb m (length w))) ∙ take-set-le j w m b h
  where
    more : (t : Bool) → j ≤ cond t (m + 1) m
    more true = omega (arith, h)
    more false = h

-- ---- Numbers ---------------------------------------------------------------------------------

-- one digit, or one more after those of a tenth
abbrev one_or : ℕ → ℕ → List ℕ → Bool → List ℕ
unfolding digits
one_or d x rest t =
    elim t as (λ _. List ℕ) [ true ↦ (digit_zero + x) ∷ rest | false ↦ digits d (x / 10) ((digit_zero + x % 10) ∷ rest) ]

-- below ten
digits-small : (d x : ℕ) (rest : List ℕ) → x < 10 → digits (suc d) x rest ≡ (digit_zero + x) ∷ rest
unfolding digits
digits-small d x rest h = ap (one_or d x rest) (lt-ltb x 10 h)

-- from ten on
digits_more : (d x : ℕ) (rest : List ℕ) → 10 ≤ x → digits (suc d) x rest ≡ digits d (x / 10) ((digit_zero + x % 10) ∷ rest)
unfolding digits
digits_more d x rest h = ap (one_or d x rest) (le-ltb x 10 h)

-- the digits stand before what follows
digits-rest : (d x : ℕ) (rest : List ℕ) → digits d x rest ≡ digits d x [] ++ rest
unfolding digits
digits-rest zero x rest = refl
digits-rest (suc d) x rest =
    let c = digit_zero + x % 10 in
    ⊎_elim
    (λ (l : 10 ≤ x). digits_more d x rest l
    ∙ digits-rest d (x / 10) (c ∷ rest)
    ∙ sym (append_snoc (digits d (x / 10) []) c rest)
    ∙ ap (λ (y : List ℕ). y ++ rest) (sym (digits_more d x [] l ∙ digits-rest d (x / 10) (c ∷ []))))
    (λ (l : x < 10). digits-small d x rest l ∙ ap (λ (y : List ℕ). y ++ rest) (sym (digits-small d x [] l)))
    (decide-le 10 x)

-- any bound above the number gives the same digits
digits-bound : (d e x : ℕ) (rest : List ℕ) → x < d → x < e → digits d x rest ≡ digits e x rest
digits-bound zero e x rest h k = absurd (omega arith)
digits-bound (suc d) zero x rest h k = absurd (omega arith)
digits-bound (suc d) (suc e) x rest h k = ⊎_elim
    (λ (l : 10 ≤ x). digits_more d x rest l
    ∙ digits-bound d e (x / 10) ((digit_zero + x % 10) ∷ rest) (omega arith) (omega arith)
    ∙ sym (digits_more e x rest l))
    (λ (l : x < 10). digits-small d x rest l ∙ sym (digits-small e x rest l))
    (decide-le 10 x)

-- a number below ten is one digit
pub decimal-small : (k : ℕ) → k < 10 → decimal k ≡ (digit_zero + k) ∷ []
unfolding decimal
decimal-small k h = digits-small k k [] h

-- of another, the last digit stands after the digits of its tenth
pub decimal-more : (k : ℕ) → 10 ≤ k → decimal k ≡ decimal (k / 10) ++ ((digit_zero + k % 10) ∷ [])
unfolding decimal
decimal-more k h =
    let last = (digit_zero + k % 10) ∷ [] in
    digits_more k k [] h
    ∙ digits-rest k (k / 10) last
    ∙ ap (λ (l : List ℕ). l ++ last) (digits-bound k (suc (k / 10)) (k / 10) [] (omega arith) (omega arith))

-- one digit more than a tenth has, at most
decimal-next : (k n : ℕ) → length (decimal (k / 10)) ≤ n → length (decimal k) ≤ suc n
decimal-next k n h = ⊎_elim
    (λ (l : 10 ≤ k). omega
    (arith, ap length (decimal-more k l), length-append (decimal (k / 10)) ((digit_zero + k % 10) ∷ []), h))
    (λ (l : k < 10). omega (arith, ap length (decimal-small k l)))
    (decide-le 10 k)

-- below a power of ten
decimal-length : (d k : ℕ) → k < 10 ^ suc d → length (decimal k) ≤ suc d
decimal-length zero k h = omega (arith, ap length (decimal-small k (omega (arith, h))))
decimal-length (suc d) k h = decimal-next k (suc d) (decimal-length d (k / 10) (omega (arith, h)))

-- a number that a table may have
pub number-length : (k : ℕ) → k ≤ table_limit → length (decimal k) ≤ digit_limit
number-length k h = decimal-length (digit_limit - 1) k (omega (arith, h, few-digits))

-- what waits of n options, with the `~` before it, has room
pub waiting-room : (n : ℕ) → n ≤ option_limit → level_room * n + end_room + 1 ≤ waiting_limit
waiting-room n h = omega (arith, h)

-- ---- Brackets --------------------------------------------------------------------------------

-- the opening brackets, as Shape has them
pub replicate-opens : (j : ℕ) → replicate j opener ≡ opens j
replicate-opens zero = refl
replicate-opens (suc j) = ap (λ (l : List ℕ). opener ∷ l) (replicate-opens j)

-- the closing brackets
pub replicate-closes : (j : ℕ) → replicate j closer ≡ closes j
replicate-closes zero = refl
replicate-closes (suc j) = ap (λ (l : List ℕ). closer ∷ l) (replicate-closes j)

-- ---- What goes out ---------------------------------------------------------------------------

-- two texts, one after the other
pub sent-append : (out : List ℕ) (at : ℕ) (x y : List ℕ) → sent_to out at (x ++ y) ≡ sent_to (sent_to out at x) (at + length x) y
unfolding sent_to
sent-append out at [] y = let e : at ≡ at + 0 = omega arith in ap (λ (k : ℕ). sent_to out k y) e
sent-append out at (b ∷ x) y =
    let e : at + 1 + length x ≡ at + suc (length x) = omega arith in
    sent-append (set out at b) (at + 1) x y ∙ ap (λ (k : ℕ). sent_to (sent_to (set out at b) (at + 1) x) k y) e

-- one byte more
pub sent-set : (out : List ℕ) (at : ℕ) (x : List ℕ) (b : ℕ)
    → sent_to out at (x ++ (b ∷ [])) ≡ set (sent_to out at x) (at + length x) b
unfolding sent_to
sent-set out at x b = sent-append out at x (b ∷ [])

-- nothing goes past the end
pub sent-past : (out : List ℕ) (at : ℕ) (x : List ℕ) → length out ≤ at → sent_to out at x ≡ out
unfolding sent_to
sent-past out at [] h = refl
sent-past out at (b ∷ x) h = sent-past (set out at b) (at + 1) x (omega (arith, h, length-set out at b)) ∙ set_out out at b h

-- what there is no room for makes no difference
pub sent-take : (out : List ℕ) (at e : ℕ) (x : List ℕ) → length out - at ≤ e → sent_to out at x ≡ sent_to out at (take e x)
unfolding sent_to
sent-take out at zero x h = sent-past out at x (omega arith)
sent-take out at (suc e) [] h = refl
sent-take out at (suc e) (b ∷ x) h = sent-take (set out at b) (at + 1) e x (omega (arith, h, length-set out at b))

-- ---- The output after a longer text ----------------------------------------------------------

-- where there is room, the text and then what stood there
output-fits : (T o : List ℕ) → length T ≤ length o → output_after T o ≡ T ++ drop (length T) o
unfolding output_after
output-fits T o h = ap (λ (w : List ℕ). w ++ drop (length w) o) (written_all T o h)

-- one byte more
output-set : (T o : List ℕ) (b : ℕ) → length T < length o → set (output_after T o) (length T) b ≡ output_after (T ++ (b ∷ [])) o
output-set T o b h =
    let n : length (T ++ (b ∷ [])) ≡ suc (length T) = length-append T (b ∷ []) ∙ omega arith in
    let rest = drop (suc (length T)) o in
    ap (λ (l : List ℕ). set l (length T) b) (output-fits T o (omega arith))
    ∙ ap (λ (l : List ℕ). set (T ++ l) (length T) b) (drop-cons o (length T) 0 h)
    ∙ set-append_seam T (get_or o (length T) 0) rest b
    ∙ sym (append_snoc T b rest)
    ∙ ap (λ (k : ℕ). (T ++ (b ∷ [])) ++ drop k o) (sym n)
    ∙ sym (output-fits (T ++ (b ∷ [])) o (omega (arith, h, n)))

-- a full output stays
output-full : (T x o : List ℕ) → length o ≤ length T → output_after T o ≡ output_after (T ++ x) o
output-full T x o h =
    full-output T o h ∙ sym (full-written T (T ++ x) o (x, refl) h)
    ∙ sym (full-output (T ++ x) o (omega (arith, h, length-append T x)))

-- after a text, another goes out: the output is the one after both
pub sent-output : (T x o : List ℕ) → length T ≤ length o → sent_to (output_after T o) (length T) x ≡ output_after (T ++ x) o
unfolding sent_to
sent-output T [] o h = ap (λ (l : List ℕ). output_after l o) (sym (append-nil T))
sent-output T (b ∷ x) o h = ⊎_elim
    (λ (l : length o ≤ length T). sent-past (output_after T o) (length T) (b ∷ x) (omega (arith, l, output-length T o))
    ∙ output-full T (b ∷ x) o l)
    (λ (l : length T < length o). let n : length T + 1 ≡ length (T ++ (b ∷ [])) = omega (arith, length-append T (b ∷ [])) in
    ap (λ (u : List ℕ). sent_to u (length T + 1) x) (output-set T o b l)
    ∙ ap (λ (k : ℕ). sent_to (output_after (T ++ (b ∷ [])) o) k x) n
    ∙ sent-output (T ++ (b ∷ [])) x o (omega (arith, l, n))
    ∙ ap (λ (u : List ℕ). output_after u o) (append_snoc T b x))
    (decide-le (length o) (length T))

-- the bytes written are then those of both
pub sent-written : (T x o : List ℕ) → length T ≤ length o → written_to o (length T) (length x) ≡ length (written_bytes (T ++ x) o)
sent-written T x o h = omega (arith, h, written-length (T ++ x) o, length-append T x)

-- the same test tells that more was sent than the output holds
pub sent-full : (T x o : List ℕ) → length T ≤ length o
    → ltb (length o - length T) (length x) ≡ ltb (length o) (length (T ++ x))
sent-full T x o h = ⊎_elim
    (λ (l : length x ≤ length o - length T). le-ltb (length o - length T) (length x) l
    ∙ sym (le-ltb (length o) (length (T ++ x)) (omega (arith, h, l, length-append T x))))
    (λ (l : length o - length T < length x). lt-ltb (length o - length T) (length x) l
    ∙ sym (lt-ltb (length o) (length (T ++ x)) (omega (arith, h, l, length-append T x))))
    (decide-le (length x) (length o - length T))
