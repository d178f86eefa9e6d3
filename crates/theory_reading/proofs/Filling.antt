-- Filling a truth table as it is read: a step that passes no word leaves it, and a step that passes a node puts the node's words into it, by a
-- walk over the records of the table as it stands then. Assumes nothing.
use Rattle.std.specs.Prelude.{◌≡◌, Bool, cond, ◌&&◌, ◌||◌, List, [], ◌∷◌, map, ltb, eqb, get_or, set, replicate}
use Rattle.std.proofs.Math.Path.{refl, sym, ap}
use Rattle.std.proofs.Common.{ap₂, ◌∙◌}
use Rattle.std.proofs.Math.Logic.{⊎_elim}
use Rattle.std.proofs.Math.Bool.{true, false}
use Prim.Native.Nat.{ℕ, zero, suc, ◌+◌, ◌-◌, ◌*◌, ◌/◌, ◌%◌, ◌<◌, ◌≤◌, ◌^◌}
use native.Mathlib.Omega.{arith}
use Rattle.std.proofs.Math.ListN.{length, get_or-append}
use Rattle.std.proofs.lemmas.List.{length-map}
use borrow.Author.Tests.{lt-ltb, le-ltb, eq-eqb, ne_eqb}
use Rattle.theory_lists.specs.Lists.{differ, decide_eq, decide-le}
use Rattle.theory_lists.specs.Maps.{map-append}
use Rattle.theory_reading.specs.Nodes.{child, Node, node}
use Rattle.theory_reading.specs.Reading.{level}
use Rattle.theory_reading.specs.Deciding.{options, Decision, undecided, decided, complemented, Trace, next_trace, trace_on, decision_of}
use Rattle.theory_reading.specs.Calls.{verdict_of, verdict, digit_of, words_from, bytes_from}
use Rattle.theory_reading.specs.Words.{options-low, options-high, complemented-twice}
use Rattle.theory_reading.specs.Covered.{parity}
use Rattle.theory_reading.proofs.Covered.{words-decide, words_count, GoodTrace, trace_words, Grown, grown-on, grown-count, good-most}
use Rattle.theory_reading.specs.TableWalk.{table_walk}
use Rattle.theory_reading.proofs.TableWalk.{table_walk-zero, table_walk-skip, table_walk-go, tied_on}
use Rattle.theory_reading.proofs.Passing.{start_trace, passed-decision, passed-size}

-- ---- The words of a node ---------------------------------------------------------------------

-- word w of a truth table becomes 1
abbrev pub with_word : List ℕ → ℕ → List ℕ
with_word bs w = set bs (w / 8) (get_or bs (w / 8) 0 + 2 ^ (w % 8))

-- the truth table with the words from w on of a node of level i, m options below it, that stands for the number c in the table t, complemented if b
unfoldable pub put_node : ℕ → List Node → ℕ → ℕ → Bool → ℕ → List ℕ → List ℕ
put_node zero t i c b w bs = cond (eqb c 0 && b) (with_word bs w) bs
put_node (suc m) t i c b w bs =
    cond (eqb c 0 || ltb i (node t c).level)
    (put_node m t (i + 1) c b (w + 2 ^ m) (put_node m t (i + 1) c b w bs))
    (put_node m t (i + 1) (node t c).second (differ (node t c).complement b) (w + 2 ^ m) (put_node m t (i + 1) (node t c).first b w bs))

module _ (m : ℕ) (t : List Node) (i c : ℕ) (b : Bool) (w : ℕ) (bs : List ℕ) where
  -- the terminal, complemented, with no option below it: one word
  pub put_word : m ≡ 0 → c ≡ 0 → b ≡ true → put_node m t i c b w bs ≡ with_word bs w
  unfolding put_node
  put_word h z y = rw (h, z, y) refl

  -- any other number with no option below it has no word
  pub put-off : m ≡ 0 → (c ≡ 0 → ⊥) → put_node m t i c b w bs ≡ bs
  unfolding put_node
  put-off h z = rw (h, ne_eqb c 0 z) refl

  -- the terminal: its halves are alike
  pub put-zero : (k : ℕ) → m ≡ suc k → c ≡ 0 → put_node m t i c b w bs ≡ put_node k t (i + 1) c b (w + 2 ^ k) (put_node k t (i + 1) c b w bs)
  unfolding put_node
  put-zero k h z = rw (h, eq-eqb c 0 z) refl

  -- a number of a deeper level: its halves are alike
  pub put-skip : (k : ℕ) → m ≡ suc k → (c ≡ 0 → ⊥) → i < (node t c).level → put_node m t i c b w bs
      ≡ put_node k t (i + 1) c b (w + 2 ^ k) (put_node k t (i + 1) c b w bs)
  unfolding put_node
  put-skip k h z l = rw (h, ne_eqb c 0 z, lt-ltb i (node t c).level l) refl

  -- a number of this level: the first child's words, then the second's
  pub put_go : (k : ℕ) → m ≡ suc k → (c ≡ 0 → ⊥) → (node t c).level ≤ i
      → put_node m t i c b w bs ≡ put_node k t (i + 1) (node t c).second (differ (node t c).complement b) (w + 2 ^ k)
      (put_node k t (i + 1) (node t c).first b w bs)
  unfolding put_node
  put_go k h z l = rw (h, ne_eqb c 0 z, le-ltb i (node t c).level l) refl

-- the terminal, not complemented, has no word that is 1
pub put-nothing : (m : ℕ) (t : List Node) (i w : ℕ) (bs : List ℕ) → put_node m t i 0 false w bs ≡ bs
unfolding put_node
put-nothing zero t i w bs = refl
put-nothing (suc m) t i w bs = put-nothing m t (i + 1) (w + 2 ^ m) (put_node m t (i + 1) 0 false w bs) ∙ put-nothing m t (i + 1) w bs

-- ---- A truth table as digits -----------------------------------------------------------------

-- k digits from word w on, "0 lowest", as `words_from` has them
pack_word : ℕ → (ℕ → ℕ) → ℕ → ℕ
pack_word zero f w = 0
pack_word (suc k) f w = f w + 2 * pack_word k f (w + 1)

-- k bytes from byte i on, as `bytes_from` has them
pack_bytes : ℕ → (ℕ → ℕ) → ℕ → List ℕ
pack_bytes zero f i = []
pack_bytes (suc k) f i = pack_word 8 f (8 * i) ∷ pack_bytes k f (i + 1)

-- the digit of word w
abbrev digit_at : ℕ → Trace → ℕ → ℕ
digit_at n t w = digit_of (verdict n t w)

-- digits of what was read
words-packed : (k n : ℕ) (t : Trace) (w : ℕ) → words_from k n t w ≡ pack_word k (digit_at n t) w
unfolding words_from pack_word
words-packed zero n t w = refl
words-packed (suc k) n t w = ap (λ (x : ℕ). digit_at n t w + 2 * x) (words-packed k n t (w + 1))

-- bytes of what was read
bytes_packed : (k n : ℕ) (t : Trace) (i : ℕ) → bytes_from k n t i ≡ pack_bytes k (digit_at n t) i
unfolding bytes_from pack_bytes
bytes_packed zero n t i = refl
bytes_packed (suc k) n t i = ap₂ ◌∷◌ (words-packed 8 n t (8 * i)) (bytes_packed k n t (i + 1))

-- the same digits, the same number
word_same : (k : ℕ) (f g : ℕ → ℕ) (w : ℕ) → ((v : ℕ) → w ≤ v → v < w + k → f v ≡ g v) → pack_word k f w ≡ pack_word k g w
unfolding pack_word
word_same zero f g w h = refl
word_same (suc k) f g w h = ap₂ (λ (x y : ℕ). x + 2 * y) (h w (omega arith) (omega arith))
    (word_same k f g (w + 1) (λ v l u. h v (omega arith) (omega arith)))

-- the same digits, the same bytes
bytes_same : (k : ℕ) (f g : ℕ → ℕ) (i : ℕ) → ((v : ℕ) → 8 * i ≤ v → v < 8 * (i + k) → f v ≡ g v) → pack_bytes k f i ≡ pack_bytes k g i
unfolding pack_bytes
bytes_same zero f g i h = refl
bytes_same (suc k) f g i h = ap₂ ◌∷◌ (word_same 8 f g (8 * i) (λ v l u. h v l (omega arith)))
    (bytes_same k f g (i + 1) (λ v l u. h v (omega arith) (omega arith)))

-- digits 0, bytes 0
bytes-zero : (k i : ℕ) → pack_bytes k (λ _. 0) i ≡ replicate k 0
unfolding pack_bytes pack_word
bytes-zero zero i = refl
bytes-zero (suc k) i = ap (λ (l : List ℕ). 0 ∷ l) (bytes-zero k (i + 1))

-- g is f but one more at w
record OneMore (f g : ℕ → ℕ) (w : ℕ) : Type 0 where
  here : g w ≡ f w + 1
  there : (v : ℕ) → (v ≡ w → ⊥) → f v ≡ g v

-- one more at digit j is 2^j more
word_more : (k : ℕ) (f g : ℕ → ℕ) (w j v : ℕ) → j < k → v ≡ w + j → OneMore f g v → pack_word k f w + 2 ^ j ≡ pack_word k g w
unfolding pack_word
word_more zero f g w j v h e o = absurd (omega arith)
word_more (suc k) f g w zero v h e o =
    let a : w ≡ v = omega arith in
    let p : g w ≡ f w + 1 = rw a o.here in
    let q = word_same k f g (w + 1) (λ u l m. o.there u (omega arith)) in
    omega (arith, p, q)
word_more (suc k) f g w (suc j) v h e o =
    let p = o.there w (omega arith) in
    let q = word_more k f g (w + 1) j v (omega arith) (omega arith) o in
    omega (arith, p, q)

-- one more at a word is 2^r more in its byte
bytes-more : (k : ℕ) (f g : ℕ → ℕ) (i j r v : ℕ) → j < k → r < 8 → v ≡ 8 * (i + j) + r → OneMore f g v
    → set (pack_bytes k f i) j (get_or (pack_bytes k f i) j 0 + 2 ^ r) ≡ pack_bytes k g i
unfolding pack_bytes
bytes-more zero f g i j r v h l e o = absurd (omega arith)
bytes-more (suc k) f g i zero r v h l e o = ap₂ ◌∷◌ (word_more 8 f g (8 * i) r v l (omega arith) o)
    (bytes_same k f g (i + 1) (λ u a b. o.there u (omega arith)))
bytes-more (suc k) f g i (suc j) r v h l e o = ap₂ ◌∷◌ (word_same 8 f g (8 * i) (λ u a b. o.there u (omega arith)))
    (bytes-more k f g (i + 1) j r v (omega arith) l (omega arith) o)

-- ---- A node's words are put where they belong ------------------------------------------------

-- the digit of a decision
abbrev digit : Decision → ℕ
digit d = digit_of (verdict_of d)

-- from f to g the 2^m words from w on, 0 before, are filled with what the walk decides, and no other word changes
record Put (m : ℕ) (walk : List Bool → Decision) (w : ℕ) (f g : ℕ → ℕ) : Type 0 where
  clear : (v : ℕ) → w ≤ v → v < w + 2 ^ m → f v ≡ 0
  low : (v : ℕ) → v < w → f v ≡ g v
  high : (v : ℕ) → w + 2 ^ m ≤ v → f v ≡ g v
  new : (j : ℕ) → j < 2 ^ m → g (w + j) ≡ digit (walk (options m j))

-- by a walk that decides alike
put-walk : (m : ℕ) (a b : List Bool → Decision) (w : ℕ) (f g : ℕ → ℕ) → Put m a w f g → ((os : List Bool) → a os ≡ b os) → Put m b w f g
put-walk m a b w f g p e = record { clear = p.clear; low = p.low; high = p.high; new = λ j l. p.new j l ∙ ap digit (e (options m j)) }

-- g below w, f from w on
abbrev between : (ℕ → ℕ) → (ℕ → ℕ) → ℕ → ℕ → ℕ
between f g w v = cond (ltb v w) (g v) (f v)

-- below w it is g
between-low : (f g : ℕ → ℕ) (w v : ℕ) → v < w → between f g w v ≡ g v
between-low f g w v h = rw (lt-ltb v w h) refl

-- from w on it is f
between-high : (f g : ℕ → ℕ) (w v : ℕ) → w ≤ v → between f g w v ≡ f v
between-high f g w v h = rw (le-ltb v w h) refl

module _ (m : ℕ) (walk : List Bool → Decision) (w : ℕ) (f g : ℕ → ℕ) (p : Put (suc m) walk w f g) where
  -- the words of the first half
  put_first : Put m (λ os. walk (false ∷ os)) w f (between f g (w + 2 ^ m))
  put_first = record {
    clear = λ v l u. p.clear v l (omega arith);
    low = λ v l. p.low v l ∙ sym (between-low f g (w + 2 ^ m) v (omega arith));
    high = λ v l. sym (between-high f g (w + 2 ^ m) v l);
    new = λ j l. between-low f g (w + 2 ^ m) (w + j) (omega arith) ∙ p.new j (omega arith)
        ∙ ap (λ (os : List Bool). digit (walk os)) (options-low m j l);
  }

  -- then those of the second
  put_second : Put m (λ os. walk (true ∷ os)) (w + 2 ^ m) (between f g (w + 2 ^ m)) g
  put_second = record {
    clear = λ v l u. between-high f g (w + 2 ^ m) v l ∙ p.clear v (omega arith) (omega arith);
    low = λ v l. between-low f g (w + 2 ^ m) v l;
    high = λ v l. between-high f g (w + 2 ^ m) v (omega arith) ∙ p.high v (omega arith);
    new = λ j l.
        let e : w + 2 ^ m + j ≡ w + (2 ^ m + j) = omega arith in
        let a : 2 ^ m + j - 2 ^ m ≡ j = omega arith in
        ap g e ∙ p.new (2 ^ m + j) (omega arith) ∙ ap (λ (os : List Bool). digit (walk os))
        (options-high m (2 ^ m + j) (omega arith) ∙ ap (λ (x : ℕ). true ∷ options m x) a);
  }

module _ (walk : List Bool → Decision) (w : ℕ) (f g : ℕ → ℕ) (p : Put zero walk w f g) where
  -- of one word: its digit
  put-here : g w ≡ digit (walk [])
  unfolding options
  put-here = let e : w + 0 ≡ w = omega arith in rw e at (p.new 0 (omega arith))

  -- the others stay
  put-there : (v : ℕ) → (v ≡ w → ⊥) → f v ≡ g v
  put-there v h = ⊎_elim (λ (l : w ≤ v). p.high v (omega (arith, h, l))) (λ (l : v < w). p.low v l) (decide-le w v)

  -- a no leaves the truth table
  put-no : (k : ℕ) → digit (walk []) ≡ 0 → pack_bytes k f 0 ≡ pack_bytes k g 0
  put-no k e = bytes_same k f g 0 (λ v _ _. ⊎_elim (λ (q : v ≡ w). rw q (p.clear w (omega arith) (omega arith) ∙ sym (put-here ∙ e))) (put-there v)
      (decide_eq v w))

  -- a yes puts the word
  put-yes : (k : ℕ) → w < 8 * k → digit (walk []) ≡ 1 → with_word (pack_bytes k f 0) w ≡ pack_bytes k g 0
  put-yes k h e = bytes-more k f g 0 (w / 8) (w % 8) w (omega arith) (omega arith) (omega arith)
      (record { here = omega (arith, put-here, e, p.clear w (omega arith) (omega arith)); there = put-there })

-- what the words of the number c of the table t decide
abbrev number_walk : List Node → ℕ → ℕ → Bool → List Bool → Decision
number_walk t i c b os = complemented b (table_walk t i c os)

module _ (t : List Node) (k : ℕ) where
  -- what putting a number of m options makes of a truth table
  abbrev Puts : ℕ → ℕ → ℕ → Bool → Type 0
  Puts m i c b = (w : ℕ) (f g : ℕ → ℕ) → w + 2 ^ m ≤ 8 * k → Put m (number_walk t i c b) w f g → put_node m t i c b w (pack_bytes k f 0)
      ≡ pack_bytes k g 0

  -- with no option
  puts_word : (i c : ℕ) (b : Bool) → Puts zero i c b
  unfolding table_walk
  puts_word i c b w f g h p = ⊎_elim (zero-case b p) (λ (z : c ≡ 0 → ⊥). put-off 0 t i c b w (pack_bytes k f 0) refl z
      ∙ put-no _ w f g p k (rw (ne_eqb c 0 z) refl)) (decide_eq c 0)
    where
      zero-case : (b : Bool) → Put zero (number_walk t i c b) w f g → c ≡ 0 → put_node zero t i c b w (pack_bytes k f 0) ≡ pack_bytes k g 0
      zero-case true p z = put_word 0 t i c true w (pack_bytes k f 0) refl z refl ∙ put-yes _ w f g p k (omega arith) (rw z refl)
      zero-case false p z = ap (λ (x : ℕ). put_node 0 t i x false w (pack_bytes k f 0)) z ∙ put-nothing 0 t i w (pack_bytes k f 0)
          ∙ put-no _ w f g p k (rw z refl)

  -- two halves, the first of the number c₁ and the second of the number c₂
  puts-two : (m i c c₁ c₂ : ℕ) (b b₁ b₂ : Bool) → Puts m (i + 1) c₁ b₁ → Puts m (i + 1) c₂ b₂
      → ((os : List Bool) → number_walk t i c b (false ∷ os) ≡ number_walk t (i + 1) c₁ b₁ os)
      → ((os : List Bool) → number_walk t i c b (true ∷ os) ≡ number_walk t (i + 1) c₂ b₂ os)
      → (w : ℕ) (f g : ℕ → ℕ) → w + 2 ^ suc m ≤ 8 * k → Put (suc m) (number_walk t i c b) w f g
      → put_node m t (i + 1) c₂ b₂ (w + 2 ^ m) (put_node m t (i + 1) c₁ b₁ w (pack_bytes k f 0)) ≡ pack_bytes k g 0
  puts-two m i c c₁ c₂ b b₁ b₂ x y e₁ e₂ w f g h p =
      let q = put_first m _ w f g p in
      let r = put_second m _ w f g p in
      ap (put_node m t (i + 1) c₂ b₂ (w + 2 ^ m)) (x w f (between f g (w + 2 ^ m)) (omega arith) (put-walk m _ _ w f _ q e₁))
      ∙ y (w + 2 ^ m) (between f g (w + 2 ^ m)) g (omega arith) (put-walk m _ _ (w + 2 ^ m) _ g r e₂)

  -- PUTTING A NUMBER fills its words with what they decide.
  puts : (m i c : ℕ) (b : Bool) → Puts m i c b
  puts zero i c b = puts_word i c b
  puts (suc m) i c b = go (λ d a. puts m (i + 1) d a)
    where
      go : ((d : ℕ) (a : Bool) → Puts m (i + 1) d a) → Puts (suc m) i c b
      go ih w f g h p = ⊎_elim zero-case (λ (z : c ≡ 0 → ⊥). ⊎_elim (here z) (deeper z) (decide-le (node t c).level i)) (decide_eq c 0)
        where
          zero-case : c ≡ 0 → put_node (suc m) t i c b w (pack_bytes k f 0) ≡ pack_bytes k g 0
          zero-case z =
              let e : (o : Bool) (os : List Bool) → number_walk t i c b (o ∷ os)
              ≡ number_walk t (i + 1) c b os = λ o os. rw z (ap (complemented b) (table_walk-zero t i (o ∷ os) ∙ sym (table_walk-zero t (i + 1) os)))
              in
              put-zero (suc m) t i c b w (pack_bytes k f 0) m refl z ∙ puts-two m i c c c b b b (ih c b) (ih c b) (e false) (e true) w f g h p

          deeper : (c ≡ 0 → ⊥) → i < (node t c).level → put_node (suc m) t i c b w (pack_bytes k f 0) ≡ pack_bytes k g 0
          deeper z l =
              let e : (o : Bool) (os : List Bool) → number_walk t i c b (o ∷ os)
              ≡ number_walk t (i + 1) c b os = λ o os. ap (complemented b) (table_walk-skip t i c o os z l) in
              put-skip (suc m) t i c b w (pack_bytes k f 0) m refl z l ∙ puts-two m i c c c b b b (ih c b) (ih c b) (e false) (e true) w f g h p

          here : (c ≡ 0 → ⊥) → (node t c).level ≤ i → put_node (suc m) t i c b w (pack_bytes k f 0) ≡ pack_bytes k g 0
          here z l =
              let x = node t c in
              put_go (suc m) t i c b w (pack_bytes k f 0) m refl z l
              ∙ puts-two m i c x.first x.second b b (differ x.complement b) (ih x.first b) (ih x.second (differ x.complement b))
              (λ os. ap (complemented b) (table_walk-go t i c false os z l))
              (λ os. ap (complemented b) (table_walk-go t i c true os z l) ∙ complemented-twice b x.complement (table_walk t (i + 1) x.second os))
              w f g h p

-- ---- Filling, step by step -------------------------------------------------------------------

-- from the covered count on the digits are 0
digit-past : (n : ℕ) (t : Trace) (w : ℕ) → t.reading.state.covered ≤ w → digit_at n t w ≡ 0
digit-past n t w h = rw (le-ltb w t.reading.state.covered h) refl

-- below it they are what is decided
digit-below : (n : ℕ) (t : Trace) (w : ℕ) → w < t.reading.state.covered → digit_at n t w ≡ digit (decision_of n t w)
digit-below n t w h = rw (lt-ltb w t.reading.state.covered h) refl

-- NOTHING IS FILLED before a word is passed.
pub filled_none : (k n : ℕ) (t : Trace) (i : ℕ) → t.reading.state.covered ≡ 0 → bytes_from k n t i ≡ replicate k 0
filled_none k n t i e = bytes_packed k n t i ∙ bytes_same k (digit_at n t) (λ _. 0) i (λ v _ _. digit-past n t v (omega (arith, e))) ∙ bytes-zero k i

-- the words of three options or more fill whole bytes
eighths : (n : ℕ) → 3 ≤ n → 8 * (2 ^ n / 8) ≡ 2 ^ n
eighths zero h = absurd (omega arith)
eighths (suc zero) h = absurd (omega arith)
eighths (suc (suc zero)) h = absurd (omega arith)
eighths (suc (suc (suc n))) h = omega arith

module _ (n : ℕ) (t t' : Trace) (g : GoodTrace n t) (h : Grown n t t') where
  -- a passed word keeps its decision
  same-decision : (w : ℕ) → w < t.reading.state.covered → decision_of n t w ≡ decision_of n t' w
  same-decision w k =
      let x = trace_words n t in
      let l : w < 2 ^ n = omega (arith, good-most n t g) in
      words-decide n t g w l
      ∙ sym (get_or-append (map decided x) (map decided h.new) undecided w
      (omega (arith, length-map x decided, words_count n t.reading.state t.drawing g)))
      ∙ ap (λ (y : List Decision). get_or y w undecided) (sym (ap (map decided) h.list ∙ map-append decided x h.new))
      ∙ sym (words-decide n t' h.good w l)

  -- and its digit
  same-digit : (w : ℕ) → w < t.reading.state.covered → digit_at n t w ≡ digit_at n t' w
  same-digit w k = digit-below n t w k ∙ ap digit (same-decision w k) ∙ sym (digit-below n t' w (omega (arith, grown-count n t t' g h)))

  -- STEPS THAT PASS NO WORD leave the truth table as it was.
  pub filled-same : (k : ℕ) → t'.reading.state.covered ≡ t.reading.state.covered → bytes_from k n t' 0 ≡ bytes_from k n t 0
  filled-same k e = sym (bytes_packed k n t 0 ∙ bytes_same k (digit_at n t) (digit_at n t') 0 (λ v _ _. same v) ∙ sym (bytes_packed k n t' 0))
    where
      same : (v : ℕ) → digit_at n t v ≡ digit_at n t' v
      same v = ⊎_elim
          (λ (l : t.reading.state.covered ≤ v). digit-past n t v l ∙ sym (digit-past n t' v (omega (arith, l, e))))
          (same-digit v)
          (decide-le t.reading.state.covered v)

module _ (f n : ℕ) (bytes : List ℕ) where
  -- what was read
  abbrev was : Trace
  was = trace_on f n bytes start_trace

  -- one step more
  abbrev now : Trace
  now = next_trace n bytes was

  -- it has read all that was read
  grown : Grown n was now
  unfolding trace_on
  grown = grown-on 1 n bytes was (tied_on f n bytes).good

  -- A STEP THAT PASSES A NODE puts its words into the truth table, and changes no other word.
  pub filled-passed :
      let t = trace_on f n bytes start_trace in
      let t' = next_trace n bytes t in
      t.reading.state.covered < t'.reading.state.covered → 3 ≤ n
      → bytes_from (2 ^ n / 8) n t' 0
      ≡ put_node (n - length t.reading.state.place.opens) t'.reading.state.table (level t.reading.state.place)
      (child t'.reading.state.place.last)
      (differ (parity t'.reading.state.place.opens) t'.reading.state.complement) t.reading.state.covered (bytes_from (2 ^ n / 8) n t 0)
  unfolding trace_on
  filled-passed h l =
      let s = was.reading.state in
      let r = now.reading.state in
      let m = n - length s.place.opens in
      let b = differ (parity r.place.opens) r.complement in
      let k = 2 ^ n / 8 in
      let z : r.covered ≡ s.covered + 2 ^ m = ⊎_elim (λ (j : r.covered ≡ s.covered). absurd (omega (arith, h, j)))
      (λ (j : r.covered ≡ s.covered + 2 ^ m). j) (passed-size f n bytes) in
      let p : Put m (number_walk r.table (level s.place) (child r.place.last) b) s.covered (digit_at n was) (digit_at n now) = record {
        clear = λ v a _. digit-past n was v a;
        low = same-digit n was now (tied_on f n bytes).good grown;
        high = λ v a. digit-past n was v (omega (arith, a)) ∙ sym (digit-past n now v (omega (arith, a, z)));
        new = λ j a.
            let e : s.covered + j - s.covered ≡ j = omega arith in
            digit-below n now (s.covered + j) (omega (arith, a, z))
            ∙ ap digit (passed-decision f 0 n bytes (s.covered + j) (omega arith) (omega (arith, a, z))
            ∙ ap (λ (x : ℕ). complemented b (table_walk r.table (level s.place) (child r.place.last) (options m x))) e);
      } in
      bytes_packed k n now 0
      ∙ sym (puts r.table k m (level s.place) (child r.place.last) b s.covered (digit_at n was) (digit_at n now)
      (omega (arith, eighths n l, z, good-most n now grown.good)) p)
      ∙ ap (put_node m r.table (level s.place) (child r.place.last) b s.covered) (sym (bytes_packed k n was 0))
