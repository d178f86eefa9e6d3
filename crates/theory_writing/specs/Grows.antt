-- The text of a run depends on the covered words alone, and with more words covered it begins with the text for fewer.
use Rattle.std.specs.Prelude.{◌≡◌, refl, ◌≢◌, Bool, true, false, List, [], ◌∷◌, ◌++◌, ℕ, zero, suc, ◌+◌, ◌≤◌, ◌<◌, ◌^◌, eqb}
use Rattle.std.proofs.Common.{sym, ap, ◌∙◌, subst, ⊎_elim, true≢false, append_assoc, arith, eq-eqb, ne_eqb}
use Rattle.std.proofs.Math.Path.{subst⁻¹}
use Rattle.std.proofs.lemmas.Bool.{false≢true}
use Rattle.std.proofs.Math.Option.{none, some}
use Rattle.theory_lists.specs.Lists.{decide_eq, decide-le}
use Rattle.theory_lists.specs.Prefixes.{Begins, begins-refl, begins-left, begins-append}
use Rattle.theory_reading.specs.Bytes.{opener, closer, dot}
use Rattle.theory_writing.specs.UniqueTable.{start}
use Rattle.theory_writing.specs.Rules.{Text, number, one, two, Part, Done, part}
use Rattle.theory_writing.specs.Texts.{tilde_if, between, storing, bytes}
use Rattle.theory_writing.specs.Run.{node_ends, last_covered, head, after, run_text}
use Rattle.theory_writing.specs.ConstantPart.{part-agree, part-complement}
use Rattle.theory_writing.specs.Steps.{start-sound}
use Rattle.theory_writing.specs.Release.{Begun, opened, in_two, beginning, partly, wholly, uncovered-none, beginning-last}
use Rattle.theory_writing.specs.Stable.{beginning-stable}

-- ---- Beginnings of a text --------------------------------------------------------------------

-- nothing, or a beginning of what the other has
abbrev pub Below : Begun → Begun → Type 0
Below none o = Unit {0}
Below (some x) none = ⊥
Below (some x) (some y) = Begins x y

opened-below : (x : List ℕ) (o p : Begun) → Below o p → Below (opened x o) (opened x p)
opened-below x none p h = tt
opened-below x (some u) none h = h
opened-below x (some u) (some v) h = begins-left (opener ∷ x) u v h

-- of a node: first child's text x and what stands between, second child's
in_two-below : (x d : List ℕ) (o p o' p' : Begun) → Below o o' → Below p p' → Below o (some x)
    → Below (in_two (x ++ d) o p) (in_two (x ++ d) o' p')
in_two-below x d o none o' none h k r = opened-below [] o o' h
in_two-below x d none none o' (some v) h k r = tt
in_two-below x d (some u) none o' (some v) h k r =
    begins-left (opener ∷ []) u ((x ++ d) ++ v) (begins-append u (x ++ d) v (begins-append u x d r))
in_two-below x d o (some u) o' none h k r = absurd k
in_two-below x d o (some u) o' (some v) h k r = opened-below (x ++ d) (some u) (some v) k

in_two-whole : (x d y e : List ℕ) (o p : Begun) → Below o (some x) → Below p (some y)
    → Below (in_two (x ++ d) o p) (some (opener ∷ (x ++ (d ++ (y ++ e)))))
in_two-whole x d y e none none h k = tt
in_two-whole x d y e (some u) none h k = begins-left (opener ∷ []) u (x ++ (d ++ (y ++ e))) (begins-append u x (d ++ (y ++ e)) h)
in_two-whole x d y e o (some v) h k =
    subst (λ (l : List ℕ). Begins (opener ∷ ((x ++ d) ++ v)) (opener ∷ l)) (append_assoc x d (y ++ e))
    (begins-left (opener ∷ (x ++ d)) v (y ++ e) (begins-append v y e k))

pub beginning-bytes : (c m at : ℕ) (x : Text) → Below (beginning c m at x) (some (bytes x))
unfolding beginning
beginning-bytes c m at (number k) = tt
beginning-bytes c zero at (one x) = tt
beginning-bytes c (suc m) at (one x) = go (beginning c m at x) (beginning-bytes c m at x)
  where
    go : (o : Begun) → Below o (some (bytes x)) → Below (opened [] o) (some (opener ∷ (bytes x ++ (closer ∷ []))))
    go none h = tt
    go (some u) h = begins-left (opener ∷ []) u (bytes x ++ (closer ∷ [])) (begins-append u (bytes x) (closer ∷ []) h)
beginning-bytes c zero at (two x t y k) = tt
beginning-bytes c (suc m) at (two x t y k) =
    ⊎_elim (λ (l : at + 2 ^ suc m ≤ c). subst⁻¹ (λ (o : Begun). Below o (some (bytes (two x t y k)))) (wholly c m at x t y k l)
    (begins-refl (bytes (two x t y k))))
    (λ (l : c < at + 2 ^ suc m). subst⁻¹ (λ (o : Begun). Below o (some (bytes (two x t y k)))) (partly c m at x t y k l)
    (in_two-whole (bytes x) (between t x y) (bytes y) (closer ∷ storing k) (beginning c m at x) (beginning c m (at + 2 ^ m) y)
    (beginning-bytes c m at x) (beginning-bytes c m (at + 2 ^ m) y)))
    (decide-le (at + 2 ^ suc m) c)

pub beginning-grows : (c c' m at : ℕ) (x : Text) → c ≤ c' → Below (beginning c m at x) (beginning c' m at x)
unfolding beginning
beginning-grows c c' m at (number k) h = tt
beginning-grows c c' zero at (one x) h = tt
beginning-grows c c' (suc m) at (one x) h =
    opened-below [] (beginning c m at x) (beginning c' m at x) (beginning-grows c c' m at x h)
beginning-grows c c' zero at (two x t y k) h = tt
beginning-grows c c' (suc m) at (two x t y k) h =
    ⊎_elim
    (λ (l : at + 2 ^ suc m ≤ c'). subst⁻¹ (λ (o : Begun). Below (beginning c (suc m) at (two x t y k)) o)
    (wholly c' m at x t y k l) (beginning-bytes c (suc m) at (two x t y k)))
    (λ (l : c' < at + 2 ^ suc m). subst⁻¹ (λ (o : Begun). Below (beginning c (suc m) at (two x t y k)) o)
    (partly c' m at x t y k l)
    (subst⁻¹ (λ (o : Begun). Below o (in_two (bytes x ++ between t x y) (beginning c' m at x) (beginning c' m (at + 2 ^ m) y)))
    (partly c m at x t y k (omega arith))
    (in_two-below (bytes x) (between t x y) (beginning c m at x) (beginning c m (at + 2 ^ m) y) (beginning c' m at x)
    (beginning c' m (at + 2 ^ m) y)
    (beginning-grows c c' m at x h) (beginning-grows c c' m (at + 2 ^ m) y h) (beginning-bytes c m at x))))
    (decide-le (at + 2 ^ suc m) c')

-- ---- Runs ------------------------------------------------------------------------------------

-- the whole stream of a part
unfoldable pub whole_text : ℕ → Part → List ℕ
whole_text size p = head size ++ (tilde_if p.complement ++ (bytes p.text ++ (dot ∷ [])))

pub run-whole : (n size c : ℕ) (f : ℕ → Bool) → c ≡ 2 ^ n → run_text n size c f ≡ whole_text size (part size n 1 0 f start).part
unfolding run_text whole_text
run-whole n size c f e = go (eqb c (2 ^ n)) (eq-eqb c (2 ^ n) e)
  where
    p : Part
    p = (part size n 1 0 f start).part

    go : (u : Bool) → u ≡ true
        → elim u as (λ _. List ℕ) [
          | true ↦ whole_text size p
          | false ↦ after (head size) p.complement
              (last_covered c (node_ends n 0 p.text))
        ] ≡ whole_text size p
    go true q = refl
    go false q = absurd (false≢true q)

pub run-cut : (n size c : ℕ) (f : ℕ → Bool) → c ≢ 2 ^ n →
    let p = (part size n 1 0 f start).part in run_text n size c f ≡ after (head size) p.complement (beginning c n 0 p.text)
unfolding run_text whole_text
run-cut n size c f e =
    go (eqb c (2 ^ n)) (ne_eqb c (2 ^ n) e) ∙ sym (ap (after (head size) p.complement) (beginning-last c n 0 p.text))
  where
    p : Part
    p = (part size n 1 0 f start).part

    go : (u : Bool) → u ≡ false
        → elim u as (λ _. List ℕ) [
          | true ↦ whole_text size p
          | false ↦ after (head size) p.complement
              (last_covered c (node_ends n 0 p.text))
        ]
        ≡ after (head size) p.complement (last_covered c (node_ends n 0 p.text))
    go true q = absurd (true≢false q)
    go false q = refl

-- "later words can't change that beginning"
pub run-stable : (n size c : ℕ) (f g : ℕ → Bool) → ((w : ℕ) → w < c → f w ≡ g w) → run_text n size c f ≡ run_text n size c g
run-stable n size c f g e =
    ⊎_elim
    (λ (l : c ≡ 2 ^ n). run-whole n size c f l
    ∙ ap (λ (d : Done). whole_text size d.part) (part-agree size n 1 0 f g start (λ w p q. e w (omega arith)))
    ∙ sym (run-whole n size c g l))
    (λ (l : c ≢ 2 ^ n). run-cut n size c f l
    ∙ ⊎_elim (λ (z : c ≤ 0). ap (after (head size) (part size n 1 0 f start).part.complement) (uncovered-none c n 0 _ z)
    ∙ sym (ap (after (head size) (part size n 1 0 g start).part.complement) (uncovered-none c n 0 _ z)))
    (λ (z : 0 < c). ap (λ (t : Bool). after (head size) t (beginning c n 0 (part size n 1 0 f start).part.text))
    (part-complement size n 1 0 f start ∙ e 0 z ∙ sym (part-complement size n 1 0 g start))
    ∙ ap (after (head size) (part size n 1 0 g start).part.complement)
    (beginning-stable size n 1 0 c f g start start-sound e)) (decide-le c 0)
    ∙ sym (run-cut n size c g l))
    (decide_eq c (2 ^ n))

after-below : (x : List ℕ) (t : Bool) (o p : Begun) → Below o p → Begins (after x t o) (after x t p)
after-below x t none none h = begins-refl x
after-below x t none (some v) h = (tilde_if t ++ v, refl)
after-below x t (some u) none h = absurd h
after-below x t (some u) (some v) h = begins-left x (tilde_if t ++ u) (tilde_if t ++ v) (begins-left (tilde_if t) u v h)

after-whole : (size : ℕ) (p : Part) (o : Begun) → Below o (some (bytes p.text))
    → Begins (after (head size) p.complement o) (whole_text size p)
unfolding whole_text
after-whole size p none h = (tilde_if p.complement ++ (bytes p.text ++ (dot ∷ [])), refl)
after-whole size p (some u) h =
    begins-left (head size) (tilde_if p.complement ++ u) _
    (begins-left (tilde_if p.complement) u _ (begins-append u (bytes p.text) (dot ∷ []) h))

-- more words covered: the same beginning
pub run-grows : (n size c c' : ℕ) (f : ℕ → Bool) → c ≤ c' → c' ≤ 2 ^ n → Begins (run_text n size c f) (run_text n size c' f)
run-grows n size c c' f h h' =
    let p = (part size n 1 0 f start).part in
    ⊎_elim
    (λ (l : c ≡ 2 ^ n). subst (λ (k : ℕ). Begins (run_text n size c f) (run_text n size k f)) (omega arith)
    (begins-refl (run_text n size c f)))
    (λ (l : c ≢ 2 ^ n). subst⁻¹ (λ (t : List ℕ). Begins t (run_text n size c' f)) (run-cut n size c f l)
    (⊎_elim (λ (k : c' ≡ 2 ^ n). subst⁻¹
    (λ (t : List ℕ). Begins (after (head size) p.complement (beginning c n 0 p.text)) t) (run-whole n size c' f k)
    (after-whole size p (beginning c n 0 p.text) (beginning-bytes c n 0 p.text)))
    (λ (k : c' ≢ 2 ^ n). subst⁻¹ (λ (t : List ℕ). Begins (after (head size) p.complement (beginning c n 0 p.text)) t)
    (run-cut n size c' f k)
    (after-below (head size) p.complement (beginning c n 0 p.text) (beginning c' n 0 p.text)
    (beginning-grows c c' n 0 p.text h)))
    (decide_eq c' (2 ^ n))))
    (decide_eq c (2 ^ n))
