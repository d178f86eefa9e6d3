-- Whole runs and cut runs by the walk that keeps no text.
use Rattle.std.specs.Prelude.{◌≡◌, refl, Bool, true, false, List, [], ◌∷◌, ◌++◌, ℕ, zero, suc, ◌+◌, ◌<◌, ◌^◌, ltb}
use Rattle.std.proofs.Common.{sym, ap, ◌∙◌, append_assoc, append-nil, arith, ltb-true, ltb-false}
use Rattle.std.proofs.Math.Option.{none, some}
use Rattle.theory_lists.specs.Lists.{differ}
use Rattle.theory_reading.specs.Bytes.{opener, dot}
use Rattle.theory_writing.specs.UniqueTable.{State, start}
use Rattle.theory_writing.specs.Rules.{Text, Done, edge, part}
use Rattle.theory_writing.specs.Texts.{tilde_if, between, bytes}
use Rattle.theory_writing.specs.Run.{head, after, run_text}
use Rattle.theory_writing.specs.ConstantPart.{part-complement}
use Rattle.theory_writing.specs.Storing.{Sound}
use Rattle.theory_writing.specs.Steps.{plain, first_half, second_half, part-good, start-sound}
use Rattle.theory_writing.specs.Release.{Begun, beginning, plain-none}
use Rattle.theory_writing.specs.Grows.{whole_text, run-whole, run-cut}
use Rattle.theory_writing.specs.Normal.{Normal, part-deep, start-normal}
use Rattle.theory_writing.specs.Shape.{part-shape}
use Rattle.theory_writing.specs.Flow.{flow, tail, flow-tail, sent, cut-early, cut-late, bracket-tilde}
use Rattle.theory_writing.specs.Online.{Went, waiting, online, went-waits, online-went}

-- a whole run: size and LF, what the walk sends after the leading `~`, what then waits, and the point
pub run-online : (n size : ℕ) (f : ℕ → Bool) →
    let p = tilde_if (f 0) in let w = online size n 1 0 p f start in
    run_text n size (2 ^ n) f ≡ head size ++ ((w.sent ++ waiting p 1 w) ++ (dot ∷ []))
unfolding whole_text
run-online n size f =
    let p = tilde_if (f 0) in let d = part size n 1 0 f start in
    run-whole n size (2 ^ n) f refl
    ∙ ap (λ (t : Bool). head size ++ (tilde_if t ++ (bytes d.part.text ++ (dot ∷ [])))) (part-complement size n 1 0 f start)
    ∙ ap (λ (l : List ℕ). head size ++ l) (sym (append_assoc p (bytes d.part.text) (dot ∷ [])))
    ∙ sym (ap (λ (w : Went). head size ++ ((w.sent ++ waiting p 1 w) ++ (dot ∷ [])))
    (online-went n size n 1 0 p f start start-sound (start-normal n) (omega arith) (omega arith))
    ∙ ap (λ (l : List ℕ). head size ++ ((flow p d.part.text ++ l) ++ (dot ∷ [])))
    (went-waits p 1 d (part-shape n size n 1 0 f start start-sound (start-normal n) (omega arith) (omega arith)))
    ∙ ap (λ (l : List ℕ). head size ++ (l ++ (dot ∷ []))) (flow-tail p d.part.text))

-- a cut run: the walk goes down to the first word not covered and stops there
unfoldable pub cut : ℕ → ℕ → ℕ → ℕ → ℕ → List ℕ → (ℕ → Bool) → State → List ℕ
unfolding online
cut c size zero i at p f s = []
cut c size (suc m) i at p f s = elim (ltb c (at + 2 ^ m)) [
  | true ↦ cut c size m (suc i) at (p ++ (opener ∷ [])) f s
  | false ↦ let a = online size m (suc i) at (p ++ (opener ∷ [])) f s in
      a.sent ++ cut c size m (suc i) (at + 2 ^ m)
      (waiting (p ++ (opener ∷ [])) (suc i) a ++ tilde_if (differ a.complement (f (at + 2 ^ m)))) f a.state
]

sent-tilde : (q : List ℕ) (t : Bool) (x y : Text) (c m at : ℕ)
    → sent (q ++ between t x y) (beginning c m at y) ≡ sent (q ++ tilde_if t) (beginning c m at y)
sent-tilde q t x y c m at = go (plain y) refl
  where
    go : (u : Bool) → plain y ≡ u → sent (q ++ between t x y) (beginning c m at y) ≡ sent (q ++ tilde_if t) (beginning c m at y)
    go true e = ap (sent (q ++ between t x y)) (plain-none c m at y e) ∙ sym (ap (sent (q ++ tilde_if t)) (plain-none c m at y e))
    go false e = ap (λ (l : List ℕ). sent (q ++ l) (beginning c m at y)) (bracket-tilde t x y e)

pub cut-sent : (n size m i at c : ℕ) (p : List ℕ) (f : ℕ → Bool) (s : State) → Sound s → Normal n s → 0 < i → i + m ≡ suc n
    → c < at + 2 ^ m
    → cut c size m i at p f s ≡ sent p (beginning c m at (part size m i at f s).part.text)
unfolding cut part beginning
cut-sent n size zero i at c p f s h nm r e l = refl
cut-sent n size (suc m) i at c p f s h nm r e l = go (ltb c (at + 2 ^ m)) refl
    (λ z. cut-sent n size m (suc i) at c (p ++ (opener ∷ [])) f s h nm (omega arith) (omega arith) z)
    (λ (q : List ℕ). cut-sent n size m (suc i) (at + 2 ^ m) c q f (first_half size m i at f s).state
    (part-good size m (suc i) at f s h).sound (part-deep n size m (suc i) at f s h nm (omega arith) (omega arith)).normal
    (omega arith) (omega arith) (omega arith))
  where
    a : Done
    a = first_half size m i at f s

    b : Done
    b = second_half size m i at f s

    p₁ : List ℕ
    p₁ = p ++ (opener ∷ [])

    rest : Went → List ℕ
    rest w =
        w.sent ++ cut c size m (suc i) (at + 2 ^ m) (waiting p₁ (suc i) w ++ tilde_if
        (differ w.complement (f (at + 2 ^ m)))) f w.state

    go : (u : Bool) → ltb c (at + 2 ^ m) ≡ u
        → (c < at + 2 ^ m → cut c size m (suc i) at p₁ f s ≡ sent p₁ (beginning c m at a.part.text))
        → ((q : List ℕ) → cut c size m (suc i) (at + 2 ^ m) q f a.state ≡ sent q (beginning c m (at + 2 ^ m) b.part.text))
        → elim u as (λ _. List ℕ) [ true ↦ cut c size m (suc i) at p₁ f s | false ↦ rest (online size m (suc i) at p₁ f s) ]
        ≡ sent p (beginning c (suc m) at (part size (suc m) i at f s).part.text)
    go true z early late =
        early (ltb-true c (at + 2 ^ m) z)
        ∙ sym (cut-early size m i at c p f s h l (let y = ltb-true c (at + 2 ^ m) z in omega (arith, y)))
    go false z early late =
        let t : Bool = edge a.part b.part in
        ap rest (online-went n size m (suc i) at p₁ f s h nm (omega arith) (omega arith))
        ∙ ap (λ (q : List ℕ). flow p₁ a.part.text ++ cut c size m (suc i) (at + 2 ^ m)
        (q ++ tilde_if (differ a.part.complement (f (at + 2 ^ m)))) f a.state) (went-waits p₁ (suc i) a
        (part-shape n size m (suc i) at f s h nm (omega arith) (omega arith)))
        ∙ ap (λ (v : Bool). flow p₁ a.part.text ++ cut c size m (suc i) (at + 2 ^ m)
        (tail p₁ a.part.text ++ tilde_if (differ a.part.complement v)) f a.state) (sym
        (part-complement size m (suc i) (at + 2 ^ m) f a.state))
        ∙ ap (λ (x : List ℕ). flow p₁ a.part.text ++ x) (late (tail p₁ a.part.text ++ tilde_if t)
        ∙ sym (sent-tilde (tail p₁ a.part.text) t a.part.text b.part.text c m (at + 2 ^ m)))
        ∙ sym (cut-late size m i at c p f s h l (ltb-false c (at + 2 ^ m) z))

-- a cut run: size and LF, and what the walk sends up to the first word not covered, after the leading `~`
pub run-cut-online : (n size c : ℕ) (f : ℕ → Bool) → c < 2 ^ n
    → run_text n size c f ≡ head size ++ cut c size n 1 0 (tilde_if (f 0)) f start
run-cut-online n size c f l =
    run-cut n size c f (λ z. omega (arith, z, l))
    ∙ ap (λ (t : Bool). after (head size) t (beginning c n 0 (part size n 1 0 f start).part.text))
    (part-complement size n 1 0 f start)
    ∙ go (beginning c n 0 (part size n 1 0 f start).part.text)
    ∙ ap (λ (x : List ℕ). head size ++ x) (sym
    (cut-sent n size n 1 0 c (tilde_if (f 0)) f start start-sound (start-normal n) (omega arith) (omega arith) (omega arith)))
  where
    go : (o : Begun) → after (head size) (f 0) o ≡ head size ++ sent (tilde_if (f 0)) o
    go none = sym (append-nil (head size))
    go (some y) = refl
