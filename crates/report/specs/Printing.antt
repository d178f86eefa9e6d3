-- The report, text by text as code makes it, and that it has room. Assumes nothing.
use Rattle.std.specs.Prelude.{◌≡◌, ℕ, zero, suc, ◌+◌, ◌*◌, ◌/◌, ◌%◌, ◌^◌, ◌≤◌, ◌<◌, min, length, get_or}
use Rattle.std.proofs.Math.Path.{refl, ap, ap₂}
use Rattle.std.proofs.Common.{sym, ◌∙◌, ⊎_elim, arith, length-take, pow-add, take-suc, take_all}
use mathlib.Core.List.{List, [], ◌∷◌, ◌++◌}
use Rattle.std.proofs.Math.ListN.{take, length-append}
use Rattle.theory_lists.specs.Lists.{decide-le}
use Rattle.theory_lists.specs.Powers.{shifted}
use Rattle.theory_reading.specs.Limits.{option_limit}
use Rattle.theory_reading.specs.Bytes.{blank, line_feed, digit_zero, text}
use Rattle.theory_reading.specs.Causes.{cause_row, Refusal, Result, refused, done}
use Rattle.theory_writing.specs.Texts.{decimal}
use Rattle.theory_writing.specs.Run.{Ending, whole, input_ended, output_full, Answer}
use Rattle.theory_writing.specs.Join.{ending_name, line, report, bad_job}
use Rattle.theory_engine.specs.Pending.{Waiting, waiting, push_all}
use Rattle.theory_engine.specs.PendingLaws.{push-length, push-count, push-take, decimal-small, decimal-more}
use Rattle.theory_engine.specs.PendingCorrect.{push-then}

-- the last line has room in so many bytes
abbrev pub line_limit : ℕ
line_limit = 80

-- ---- A text byte by byte ---------------------------------------------------------------------

module _ (w : List ℕ) (m : ℕ) (s : List ℕ) where
  pub text-none : waiting w m ≡ push_all w m (take 0 s)
  unfolding push_all
  text-none = refl

  pub text-more : (j : ℕ) {u v : List ℕ} {x y : ℕ} → j < length s → waiting u x ≡ push_all w m (take j s)
      → waiting v y ≡ push_all u x (get_or s j 0 ∷ []) → waiting v y ≡ push_all w m (take (j + 1) s)
  text-more j h p q =
      let e : suc j ≡ j + 1 = omega arith in
      push-then w m (take j s) (get_or s j 0 ∷ []) p q
      ∙ ap (push_all w m) (sym (take-suc s j 0 h) ∙ ap (λ (i : ℕ). take i s) e)

  pub text-end : (j : ℕ) {u : List ℕ} {x : ℕ} → length s ≤ j → waiting u x ≡ push_all w m (take j s) → waiting u x ≡ push_all w m s
  text-end j h p = p ∙ ap (push_all w m) (take_all j s h)

-- a text that has room is there
pub text-there : (w : List ℕ) (s : List ℕ) {u : List ℕ} {x : ℕ} → waiting u x ≡ push_all w 0 s → length s ≤ length w
    → (take x u ≡ s) × (x ≡ length s) × (length u ≡ length w)
text-there w s {u} {x} p h =
    let k : 0 + length s ≤ length w = omega (arith, h) in
    let n : x ≡ 0 + length s = ap (λ (v : Waiting). v.count) p ∙ push-count w 0 s k in (
      ap₂ take n (ap (λ (v : Waiting). v.bytes) p) ∙ push-take w 0 s k,
      omega (arith, n),
      ap (λ (v : Waiting). length v.bytes) p
          ∙ push-length w 0 s,
    )

-- ---- How long numbers are --------------------------------------------------------------------

decimal-digits : (j k : ℕ) → k < 10 ^ (j + 1) → length (decimal k) ≤ j + 1
decimal-digits zero k h = omega (arith, ap length (decimal-small k h))
decimal-digits (suc j) k h =
    let n : suc j ≡ j + 1 = omega arith in
    let e : 10 ^ (suc j + 1) ≡ 10 ^ (j + 1) * 10 = pow-add 10 (suc j) 1 ∙ ap (λ (i : ℕ). 10 ^ i * 10) n in
    let ih = decimal-digits j (k / 10) (omega (arith, h, e)) in
    ⊎_elim
    (λ (l : 10 ≤ k). omega
    (arith, ap length (decimal-more k l), length-append (decimal (k / 10)) ((digit_zero + k % 10) ∷ []), ih))
    (λ (l : k < 10). omega (arith, ap length (decimal-small k l)))
    (decide-le 10 k)

-- 64 bits
pub decimal-within : (k : ℕ) → k < 18446744073709551616 → length (decimal k) ≤ 20
decimal-within k h = decimal-digits 19 k (omega (arith, h))

-- ---- The report ------------------------------------------------------------------------------

abbrev pub refused_text : Refusal → List ℕ
refused_text r = line (text "refused" ∷ decimal (cause_row r.cause).number ∷ decimal r.stream ∷ decimal r.byte ∷ [])

-- LF after the output, and its line
abbrev pub words_text : ℕ → Answer → List ℕ
words_text n a = line_feed ∷ line (text "words" ∷ decimal a.covered ∷ text "of" ∷ decimal (2 ^ n) ∷ text (ending_name a.ending) ∷ [])

-- THE REPORT, for more options than the limit as for the limit; and what it leaves of a lent row
unfoldable pub report_text : ℕ → Result Answer → List ℕ → List ℕ
report_text n a output = report (min n option_limit) a output

unfoldable pub report_in : ℕ → Result Answer → List ℕ → List ℕ → Waiting
report_in n a output w = push_all w 0 (report_text n a output)

-- of what was refused it is one line, as long as that
pub report-refused : (n : ℕ) (r : Refusal) (output w : List ℕ) → push_all w 0 (refused_text r) ≡ report_in n (refused r) output w
unfolding report_in report_text report
report-refused n r output w = refl

pub refused-room : (n : ℕ) (r : Refusal) (output : List ℕ) → length (refused_text r) ≤ line_limit
    → length (report_text n (refused r) output) ≤ length output + line_limit
unfolding report_text report
refused-room n r output h = omega (arith, h)

-- else the output as far as it was written, and a last line
take-least : (k : ℕ) (l : List ℕ) → take (min k (length l)) l ≡ take k l
take-least k l = ⊎_elim
    (λ (h : length l ≤ k).
    let e : min k (length l) ≡ length l = omega (arith, h) in
    ap (λ (i : ℕ). take i l) e ∙ take_all (length l) l (omega arith) ∙ sym (take_all k l h))
    (λ (h : k < length l). let e : min k (length l) ≡ k = omega (arith, h) in ap (λ (i : ℕ). take i l) e)
    (decide-le (length l) k)

module _ (n : ℕ) (a : Answer) (output : List ℕ) where
  abbrev part : List ℕ
  part = take (min a.written (length output)) output

  abbrev words : List ℕ
  words = words_text (min n option_limit) a

  text-parts : part ++ words ≡ report_text n (done a) output
  unfolding report_text report
  text-parts = ap (λ (l : List ℕ). l ++ words) (take-least a.written output)

  pub report-words : (w : List ℕ) {u v : List ℕ} {x y : ℕ} → waiting u x ≡ push_all w 0 part → waiting v y ≡ push_all u x words
      → waiting v y ≡ report_in n (done a) output w
  unfolding report_in
  report-words w p q = push-then w 0 part words p q ∙ ap (push_all w 0) text-parts

  pub words-room : length words ≤ line_limit → length (report_text n (done a) output) ≤ length output + line_limit
  words-room h =
      omega (arith, ap length (sym text-parts), length-append part words, length-take (min a.written (length output)) output, h)

-- ---- The last line ---------------------------------------------------------------------------

-- `refused` and three numbers: each text after those before it
module _ (r : Refusal) (k : ℕ) (e : k ≡ (cause_row r.cause).number) where
  abbrev refused_as : List ℕ → List ℕ
  refused_as x = line (text "refused" ∷ x ∷ decimal r.stream ∷ decimal r.byte ∷ [])

  line-length : length (decimal k) ≤ 20 → length (decimal r.stream) ≤ 20 → length (decimal r.byte) ≤ 20 → length (refused_as (decimal k)) ≤ line_limit
  unfolding line text
  line-length h i j = simp length-append (omega (arith, h, i, j))

  pub refused-length : length (decimal k) ≤ 20 → length (decimal r.stream) ≤ 20 → length (decimal r.byte) ≤ 20 → length (refused_text r) ≤ line_limit
  refused-length h i j =
      let f : length (refused_as (decimal k)) ≡ length (refused_text r) = ap (λ (x : ℕ). length (refused_as (decimal x))) e in
      omega (arith, f, line-length h i j)

  pub refused-put : (w : List ℕ) (m : ℕ) {a b c d f g o : List ℕ} {p q s t u v x : ℕ}
      → waiting a p ≡ push_all w m (text "refused ") → waiting b q ≡ push_all a p (decimal k) → waiting c s ≡ push_all b q (blank ∷ [])
      → waiting d t ≡ push_all c s (decimal r.stream) → waiting f u ≡ push_all d t (blank ∷ []) → waiting g v ≡ push_all f u (decimal r.byte)
      → waiting o x ≡ push_all g v (line_feed ∷ []) → waiting o x ≡ push_all w m (refused_text r)
  unfolding line text
  refused-put w m {a = a} {b = b} {c = c} {d = d} {f = f} {p = p} {q = q} {s = s} {t = t} {u = u} p1 p2 p3 p4 p5 p6 p7 =
      let q6 = push-then f u (decimal r.byte) (line_feed ∷ []) p6 p7 in
      let q5 = push-then d t (blank ∷ []) (decimal r.byte ++ (line_feed ∷ [])) p5 q6 in
      let q4 = push-then c s (decimal r.stream) (blank ∷ (decimal r.byte ++ (line_feed ∷ []))) p4 q5 in
      let rest = blank ∷ (decimal r.stream ++ (blank ∷ (decimal r.byte ++ (line_feed ∷ [])))) in
      let q3 = push-then b q (blank ∷ []) (decimal r.stream ++ (blank ∷ (decimal r.byte ++ (line_feed ∷ [])))) p3 q4 in
      let q2 = push-then a p (decimal k) rest p2 q3 in
      push-then w m (text "refused ") (decimal k ++ rest) p1 q2 ∙ ap (λ (x : ℕ). push_all w m (refused_as (decimal x))) e

-- a shift gives the count of words
pub all_words : (n : ℕ) → 1 * 2 ^ min n option_limit % 18446744073709551616 ≡ 2 ^ min n option_limit
all_words n = shifted (min n option_limit) (omega arith)

ending-length : (e : Ending) → length (text (ending_name e)) ≤ 11
unfolding text
ending-length whole = omega arith
ending-length input_ended = omega arith
ending-length output_full = omega arith

-- LF, covered words, all words and the ending
module _ (n : ℕ) (x : Answer) (k : ℕ) (e : k ≡ 2 ^ n) where
  abbrev words_as : ℕ → List ℕ
  words_as z = line_feed ∷ line (text "words" ∷ decimal x.covered ∷ text "of" ∷ decimal z ∷ text (ending_name x.ending) ∷ [])

  as-length : (y : List ℕ) → length (decimal x.covered) ≤ 20 → length (decimal k) ≤ 20 → length y ≤ 11
      → length (line_feed ∷ line (text "words" ∷ decimal x.covered ∷ text "of" ∷ decimal k ∷ y ∷ [])) ≤ line_limit
  unfolding line text
  as-length y h i j = simp length-append (omega (arith, h, i, j))

  pub words-length : length (decimal x.covered) ≤ 20 → length (decimal k) ≤ 20 → length (words_text n x) ≤ line_limit
  words-length h i =
      let f : length (words_as k) ≡ length (words_text n x) = ap (λ (z : ℕ). length (words_as z)) e in
      omega (arith, f, as-length (text (ending_name x.ending)) h i (ending-length x.ending))

  pub words-put : (w : List ℕ) (m : ℕ) {y a b c d f g o : List ℕ} {p q s t u v z : ℕ} → y ≡ text (ending_name x.ending)
      → waiting a p ≡ push_all w m (text "\nwords ") → waiting b q ≡ push_all a p (decimal x.covered) → waiting c s ≡ push_all b q (text " of ")
      → waiting d t ≡ push_all c s (decimal k) → waiting f u ≡ push_all d t (blank ∷ []) → waiting g v ≡ push_all f u y
      → waiting o z ≡ push_all g v (line_feed ∷ []) → waiting o z ≡ push_all w m (words_text n x)
  unfolding line text
  words-put w m {y = y} {a = a} {b = b} {c = c} {d = d} {f = f} {p = p} {q = q} {s = s} {t = t} {u = u} i p1 p2 p3 p4 p5 p6 p7 =
      let q6 = push-then f u y (line_feed ∷ []) p6 p7 in
      let q5 = push-then d t (blank ∷ []) (y ++ (line_feed ∷ [])) p5 q6 in
      let r4 = blank ∷ (y ++ (line_feed ∷ [])) in
      let q4 = push-then c s (decimal k) r4 p4 q5 in
      let q3 = push-then b q (text " of ") (decimal k ++ r4) p3 q4 in
      let r2 = text " of " ++ (decimal k ++ r4) in
      let q2 = push-then a p (decimal x.covered) r2 p2 q3 in
      push-then w m (text "\nwords ") (decimal x.covered ++ r2) p1 q2
      ∙ ap (λ (y : List ℕ). push_all w m (line_feed ∷ line (text "words" ∷ decimal x.covered ∷ text "of" ∷ decimal k ∷ y ∷ []))) i
      ∙ ap (λ (z : ℕ). push_all w m (words_as z)) e

pub bad-text : text "bad job\n" ≡ bad_job
unfolding text bad_job line
bad-text = refl
