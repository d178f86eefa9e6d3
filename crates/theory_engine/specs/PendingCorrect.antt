-- How code makes what waits, sends it and compares the bytes of a truth table, one step at a time: each law takes what the calls before
-- it gave. Assumes nothing.
use Rattle.std.specs.Prelude.{◌≡◌, refl, ◌≢◌, Bool, true, false, cond, ◌&&◌, List, [], ◌∷◌, ◌++◌, ℕ, zero, suc, ◌+◌, ◌-◌, ◌*◌, ◌/◌, ◌%◌, ◌^◌, ◌≤◌, ◌<◌, min, eqb, ltb, length, get_or, set, take, replicate}
use Rattle.std.proofs.Common.{sym, ap, ap₂, ◌∙◌, arith, length-take, pow_mono, take-suc, length-take-le, lt-ltb, le-ltb, eq-eqb, ne_eqb}
use Rattle.std.proofs.Math.ListN.{get_or-eq_default}
use Rattle.std.proofs.lemmas.Nat.{shr_le}
use Rattle.std.proofs.Math.Seq.{set_out, take-nil}
use Rattle.theory_lists.specs.Powers.{shifted}
use Rattle.theory_reading.specs.Limits.{truth_table_most, truth_limit}
use Rattle.theory_reading.specs.LimitLaws.{few-options, truth-options}
use Rattle.theory_reading.specs.Bytes.{opener, closer, colon, blank, digit_zero}
use Rattle.theory_writing.specs.Texts.{decimal, storing}
use Rattle.theory_writing.specs.Calls.{truth_at}
use Rattle.theory_engine.specs.Pending.{Waiting, waiting, push_all, wait_in, close_in, sent_to}
use Rattle.theory_engine.specs.PendingLaws.{push-append, decimal-small, decimal-more, sent-set, sent-take}
use Rattle.theory_engine.specs.Engine.{Half, Sent, spaced, send_text, send_node, same_bytes, alike_bytes}

-- ---- What waits ------------------------------------------------------------------------------

-- a byte that has no room
pub push-full : (w : List ℕ) (m b : ℕ) → length w ≤ m → waiting w m ≡ push_all w m (b ∷ [])
unfolding push_all
push-full w m b h =
    sym (ap₂ (λ (l : List ℕ) (t : Bool). waiting l (cond t (m + 1) m)) (set_out w m b h) (le-ltb m (length w) h))

-- a byte that has
pub push-room : (w : List ℕ) (m b : ℕ) → m < length w → waiting (set w m b) (m + 1) ≡ push_all w m (b ∷ [])
unfolding push_all
push-room w m b h = sym (ap (λ (t : Bool). waiting (set w m b) (cond t (m + 1) m)) (lt-ltb m (length w) h))

-- a text, and then another
pub push-then : (w : List ℕ) (m : ℕ) (a c : List ℕ) {u v : List ℕ} {x y : ℕ}
    → waiting u x ≡ push_all w m a → waiting v y ≡ push_all u x c → waiting v y ≡ push_all w m (a ++ c)
push-then w m a c p q =
    q ∙ ap (λ (r : Waiting). push_all r.bytes r.count c) p ∙ sym (push-append w m a c)

-- no byte, or one and the others
pub many-none : (w : List ℕ) (m b j : ℕ) → j ≡ 0 → waiting w m ≡ push_all w m (replicate j b)
unfolding push_all
many-none w m b j e = ap (λ (i : ℕ). push_all w m (replicate i b)) (sym e)

pub many_more : (w : List ℕ) (m b j : ℕ) {u v : List ℕ} {x y : ℕ} → j ≢ 0
    → waiting u x ≡ push_all w m (b ∷ []) → waiting v y ≡ push_all u x (replicate (j - 1) b)
    → waiting v y ≡ push_all w m (replicate j b)
many_more w m b zero d p q = absurd (d refl)
many_more w m b (suc j) {u = u} {x = x} d p q =
    let e : suc j - 1 ≡ j = omega arith in
    push-then w m (b ∷ []) (replicate j b) p (q ∙ ap (λ (i : ℕ). push_all u x (replicate i b)) e)

-- a number of one digit, or the digits of its tenth and the last
pub number_small : (w : List ℕ) (m k : ℕ) {u : List ℕ} {x : ℕ} → k < 10
    → waiting u x ≡ push_all w m ((digit_zero + k) ∷ []) → waiting u x ≡ push_all w m (decimal k)
number_small w m k h p = p ∙ ap (push_all w m) (sym (decimal-small k h))

pub number_more : (w : List ℕ) (m k : ℕ) {u v : List ℕ} {x y : ℕ} → 10 ≤ k
    → waiting u x ≡ push_all w m (decimal (k / 10)) → waiting v y ≡ push_all u x ((digit_zero + k % 10) ∷ [])
    → waiting v y ≡ push_all w m (decimal k)
number_more w m k h p q =
    push-then w m (decimal (k / 10)) ((digit_zero + k % 10) ∷ []) p q ∙ ap (push_all w m) (sym (decimal-more k h))

-- no number, or `:` and the number
pub storing-none : (w : List ℕ) (m k : ℕ) → k ≡ 0 → waiting w m ≡ push_all w m (storing k)
unfolding push_all
storing-none w m k e = ap (λ (i : ℕ). push_all w m (storing i)) (sym e)

pub storing-some : (w : List ℕ) (m k : ℕ) {u v : List ℕ} {x y : ℕ} → k ≢ 0
    → waiting u x ≡ push_all w m (colon ∷ []) → waiting v y ≡ push_all u x (decimal k) → waiting v y ≡ push_all w m (storing k)
storing-some w m zero d p q = absurd (d refl)
storing-some w m (suc k) d p q = push-then w m (colon ∷ []) (decimal (suc k)) p q

-- after a part that wrote a node out, and after another
pub wait-wrote : (w : List ℕ) (m : ℕ) (wrote : Bool) (j k : ℕ) {u : List ℕ} {x : ℕ} → wrote ≡ true
    → waiting u x ≡ push_all w 0 (replicate j closer) → waiting u x ≡ wait_in w m wrote j k
unfolding wait_in
wait-wrote w m wrote j k e p = p ∙ ap (λ (t : Bool). wait_in w m t j k) (sym e)

pub wait-kept : (w : List ℕ) (m : ℕ) (wrote : Bool) (j k : ℕ) {t u v : List ℕ} {x y z : ℕ} → wrote ≡ false
    → waiting t x ≡ push_all w m (replicate j opener) → waiting u y ≡ push_all t x (decimal k)
    → waiting v z ≡ push_all u y (replicate j closer) → waiting v z ≡ wait_in w m wrote j k
unfolding wait_in
wait-kept w m wrote j k e p q r =
    push-then w m (replicate j opener ++ decimal k) (replicate j closer)
    (push-then w m (replicate j opener) (decimal k) p q) r
    ∙ ap (λ (i : Bool). wait_in w m i j k) (sym e)

-- a two-child node ends
pub close-correct : (w : List ℕ) (m : ℕ) (space wrote : Bool) (j k number : ℕ) {s t u v : List ℕ} {x y z r : ℕ}
    → waiting s x ≡ push_all w m (cond space (blank ∷ []) []) → waiting t y ≡ wait_in s x wrote j k
    → waiting u z ≡ push_all t y (closer ∷ []) → waiting v r ≡ push_all u z (storing number)
    → waiting v r ≡ close_in w m space wrote j k number
unfolding close_in
close-correct w m space wrote j k number {t = t} {y = y} a b c d =
    push-then t y (closer ∷ []) (storing number) c d
    ∙ ap (λ (p : Waiting). push_all p.bytes p.count (closer ∷ storing number)) b
    ∙ ap (λ (p : Waiting).
    let q = wait_in p.bytes p.count wrote j k in push_all q.bytes q.count (closer ∷ storing number)) a

-- ---- What goes out ---------------------------------------------------------------------------

-- nothing went out yet
pub send-none : (out w : List ℕ) (at : ℕ) → out ≡ sent_to out at (take 0 w)
unfolding sent_to
send-none out w at = refl

-- one byte more goes out
pub send-more : (out w : List ℕ) (at j : ℕ) {u : List ℕ} → j < length w → u ≡ sent_to out at (take j w)
    → set u (at + j) (get_or w j 0) ≡ sent_to out at (take (j + 1) w)
send-more out w at j h p =
    let b = get_or w j 0 in
    let n : at + j ≡ at + length (take j w) = ap (λ (i : ℕ). at + i) (sym (length-take-le j w (omega (arith, h)))) in
    let s : suc j ≡ j + 1 = omega arith in
    ap₂ (λ (l : List ℕ) (i : ℕ). set l i b) p n
    ∙ sym (sent-set out at (take j w) b)
    ∙ ap (sent_to out at) (sym (take-suc w j 0 h) ∙ ap (λ (i : ℕ). take i w) s)

-- taken of what was taken
take-taken : (e m : ℕ) (w : List ℕ) → take (min (min m (length w)) e) w ≡ take e (take m w)
take-taken e m [] = take-nil (min (min m 0) e) ∙ sym (take-nil e) ∙ ap (take e) (sym (take-nil m))
take-taken e zero (b ∷ w) =
    let z : min (min 0 (suc (length w))) e ≡ 0 = omega arith in
    ap (λ (i : ℕ). take i (b ∷ w)) z ∙ sym (take-nil e)
take-taken zero (suc m) (b ∷ w) =
    let z : min (min (suc m) (suc (length w))) 0 ≡ 0 = omega arith in ap (λ (i : ℕ). take i (b ∷ w)) z
take-taken (suc e) (suc m) (b ∷ w) =
    let z : min (min (suc m) (suc (length w))) (suc e) ≡ suc (min (min m (length w)) e) = omega arith in
    ap (λ (i : ℕ). take i (b ∷ w)) z ∙ ap (λ (l : List ℕ). b ∷ l) (take-taken e m w)

-- all that has room went out: c bytes of m are there, and the output has room for so many more
pub send-done : (out w : List ℕ) (at m : ℕ) {c room e : ℕ} (j : ℕ) {u : List ℕ}
    → c ≡ min m (length w) → room ≡ length out - at → e ≡ min c room → j ≤ e → e ≤ j → u ≡ sent_to out at (take j w)
    → record { written = at + e; full = ltb room c; output = u; waits = w } ≡ send_text out w at m
send-done out w at m {c} {room} {e} j {u} p q r h k s =
    let l = length-take m w in
    let x : at + e ≡ at + min (length (take m w)) (length out - at) = omega (arith, p, q, r, l) in
    let y : ltb room c ≡ ltb (length out - at) (length (take m w)) = ap₂ ltb q (p ∙ sym l) in
    let i : j ≡ min (min m (length w)) room = omega (arith, h, k, p, r) in
    let z : u ≡ sent_to out at (take m w) =
    s ∙ ap (λ (n : ℕ). sent_to out at (take n w)) i ∙ ap (sent_to out at) (take-taken room m w)
    ∙ sym (sent-take out at room (take m w) (omega (arith, q))) in
    rw (x, y, z) refl

-- a two-child node goes out: its end waits, and then all that waits is sent
pub send-closed : (m : ℕ) (v : Bool) (a b : Half) (k : ℕ) (out w : List ℕ) (at : ℕ) {space : Bool} {u : List ℕ} {x : ℕ} {r : Sent}
    → space ≡ spaced v a b → waiting u x ≡ close_in w m space b.wrote b.skipped b.number k → r ≡ send_text out u at x
    → r ≡ send_node m v a b k out w at
send-closed m v a b k out w at s p q =
    q ∙ ap (λ (t : Waiting). send_text out t.bytes at t.count)
    (p ∙ ap (λ (i : Bool). close_in w m i b.wrote b.skipped b.number k) s)

-- ---- The truth table -------------------------------------------------------------------------

-- past the end of the table
pub truth-past : (v : List ℕ) (at : ℕ) → length v ≤ at / 8 → false ≡ truth_at v at
truth-past v at h =
    let e : 0 / 2 ^ (at % 8) ≡ 0 = omega (arith, shr_le 0 (at % 8)) in
    sym (ap (λ (x : ℕ). eqb (x / 2 ^ (at % 8) % 2) 1) (get_or-eq_default v 0 h) ∙ ap (λ (x : ℕ). eqb (x % 2) 1) e)

-- the words of a part of a truth table, as code shifts to them: their bytes are few
pub few_bytes : (d : ℕ) → d ≤ truth_table_most → 1 * 2 ^ d % 18446744073709551616 / 8 ≤ truth_limit
few_bytes d h = let e : 2 ^ d ≤ truth_limit = pow_mono h in omega (arith, shifted d (omega (arith, h, truth-options, few-options)), e)

-- bytes from place q on, n of them: the first is another, or it is b
same-other : (v : List ℕ) (b q n : ℕ) → 0 < n → get_or v q 0 ≢ b → same_bytes v b q n ≡ false
unfolding same_bytes
same-other v b q zero h d = absurd (omega arith)
same-other v b q (suc n) h d = ap (λ (t : Bool). t && same_bytes v b (q + 1) n) (ne_eqb (get_or v q 0) b d)

same_more : (v : List ℕ) (b q n : ℕ) → 0 < n → get_or v q 0 ≡ b → same_bytes v b q n ≡ same_bytes v b (q + 1) (n - 1)
unfolding same_bytes
same_more v b q zero h e = absurd (omega arith)
same_more v b q (suc n) h e =
    let s : n ≡ suc n - 1 = omega arith in
    ap (λ (t : Bool). t && same_bytes v b (q + 1) n) (eq-eqb (get_or v q 0) b e) ∙ ap (same_bytes v b (q + 1)) s

-- of c bytes from p on the first j were b: the others tell
abbrev pub SameFrom : List ℕ → ℕ → ℕ → ℕ → ℕ → Type 0
SameFrom v b p c j = same_bytes v b p c ≡ same_bytes v b (p + j) (c - j)

pub same_start : (v : List ℕ) (b p c : ℕ) → SameFrom v b p c 0
same_start v b p c =
    let x : p ≡ p + 0 = omega arith in
    let y : c ≡ c - 0 = omega arith in
    ap₂ (same_bytes v b) x y

pub same_step : (v : List ℕ) (b p c j : ℕ) → SameFrom v b p c j → j < c → get_or v (p + j) 0 ≡ b → SameFrom v b p c (j + 1)
same_step v b p c j i h e =
    let x : p + j + 1 ≡ p + (j + 1) = omega arith in
    let y : c - j - 1 ≡ c - (j + 1) = omega arith in
    i ∙ same_more v b (p + j) (c - j) (omega (arith, h)) e ∙ ap₂ (same_bytes v b) x y

pub same_stop : (v : List ℕ) (b p c j : ℕ) → SameFrom v b p c j → j < c → get_or v (p + j) 0 ≢ b → false ≡ same_bytes v b p c
same_stop v b p c j i h d = sym (i ∙ same-other v b (p + j) (c - j) (omega (arith, h)) d)

pub same_end : (v : List ℕ) (b p c j : ℕ) → SameFrom v b p c j → c ≤ j → true ≡ same_bytes v b p c
unfolding same_bytes
same_end v b p c j i h = let z : c - j ≡ 0 = omega (arith, h) in sym (i ∙ ap (same_bytes v b (p + j)) z)

-- the byte at q is the one at p, or that turned about if u
abbrev pub alike_byte : List ℕ → Bool → ℕ → ℕ → Bool
alike_byte v u p q = cond u (eqb (get_or v q 0 + get_or v p 0) 255) (eqb (get_or v q 0) (get_or v p 0))

-- bytes from place q on and those from place p on, n of each: the first two are not alike, or they are
alike-other : (v : List ℕ) (u : Bool) (p q n : ℕ) → 0 < n → alike_byte v u p q ≡ false → alike_bytes v u p q n ≡ false
unfolding alike_bytes
alike-other v u p q zero h e = absurd (omega arith)
alike-other v u p q (suc n) h e = ap (λ (t : Bool). t && alike_bytes v u (p + 1) (q + 1) n) e

alike-more : (v : List ℕ) (u : Bool) (p q n : ℕ) → 0 < n → alike_byte v u p q ≡ true
    → alike_bytes v u p q n ≡ alike_bytes v u (p + 1) (q + 1) (n - 1)
unfolding alike_bytes
alike-more v u p q zero h e = absurd (omega arith)
alike-more v u p q (suc n) h e =
    let s : n ≡ suc n - 1 = omega arith in
    ap (λ (t : Bool). t && alike_bytes v u (p + 1) (q + 1) n) e ∙ ap (alike_bytes v u (p + 1) (q + 1)) s

-- of c bytes from q on and c from p on the first j were alike: the others tell
abbrev pub AlikeFrom : List ℕ → Bool → ℕ → ℕ → ℕ → ℕ → Type 0
AlikeFrom v u p q c j = alike_bytes v u p q c ≡ alike_bytes v u (p + j) (q + j) (c - j)

-- equal places and counts, the same answer
alike-places : (v : List ℕ) (u : Bool) {p p' q q' c c' : ℕ} → p ≡ p' → q ≡ q' → c ≡ c'
    → alike_bytes v u p q c ≡ alike_bytes v u p' q' c'
alike-places v u x y z = cc

pub alike-start : (v : List ℕ) (u : Bool) (p q c : ℕ) → AlikeFrom v u p q c 0
alike-start v u p q c = alike-places v u (omega arith) (omega arith) (omega arith)

pub alike-step : (v : List ℕ) (u : Bool) (p q c j : ℕ) → AlikeFrom v u p q c j → j < c → alike_byte v u (p + j) (q + j) ≡ true
    → AlikeFrom v u p q c (j + 1)
alike-step v u p q c j i h e =
    i ∙ alike-more v u (p + j) (q + j) (c - j) (omega (arith, h)) e
    ∙ alike-places v u (omega arith) (omega arith) (omega arith)

pub alike-stop : (v : List ℕ) (u : Bool) (p q c j : ℕ) → AlikeFrom v u p q c j → j < c → alike_byte v u (p + j) (q + j) ≡ false
    → false ≡ alike_bytes v u p q c
alike-stop v u p q c j i h e = sym (i ∙ alike-other v u (p + j) (q + j) (c - j) (omega (arith, h)) e)

pub alike_end : (v : List ℕ) (u : Bool) (p q c j : ℕ) → AlikeFrom v u p q c j → c ≤ j → true ≡ alike_bytes v u p q c
unfolding alike_bytes
alike_end v u p q c j i h = let z : c - j ≡ 0 = omega (arith, h) in sym (i ∙ ap (alike_bytes v u (p + j) (q + j)) z)
