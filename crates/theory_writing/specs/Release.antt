-- What is released of a text with c words covered, by recursion over the text (document 01, "The written stream", the release of a cut
-- run): `beginning` gives the last covered node end of the definition.
use Rattle.std.specs.Prelude.{◌≡◌, refl, Bool, true, false, cond, List, [], ◌∷◌, ◌++◌, ℕ, zero, suc, ◌+◌, ◌≤◌, ◌<◌, ◌^◌, leb}
use Rattle.std.proofs.Common.{sym, ap, ◌∙◌, ⊎_elim, true≢false, arith, le-leb}
use Rattle.std.proofs.lemmas.Bool.{false≢true, lt-leb}
use Rattle.std.proofs.Math.Option.{Option, none, some}
use Rattle.theory_lists.specs.Lists.{decide-le, pow_pos}
use Rattle.theory_reading.specs.Bytes.{opener}
use Rattle.theory_writing.specs.Rules.{Text, number, one, two}
use Rattle.theory_writing.specs.Texts.{between, bytes}
use Rattle.theory_writing.specs.Run.{NodeEnd, behind, node_ends, or_else, last_covered}
use Rattle.theory_writing.specs.Steps.{plain}

-- ---- The beginning by recursion --------------------------------------------------------------

-- what is released of a text: nothing, or a beginning of it
abbrev pub Begun : Type 0
Begun = Option (List ℕ)

-- what is released, after a bracket and x
abbrev pub opened : List ℕ → Begun → Begun
opened x none = none
opened x (some y) = some (opener ∷ (x ++ y))

-- the second child's beginning if there is one, after the first child; else the first child's
abbrev pub in_two : List ℕ → Begun → Begun → Begun
in_two x p none = opened [] p
in_two x p (some y) = opened x (some y)

-- "the beginning that ends with the last two-child node written out (number included) whose words are all covered", of the text of a part
-- with m options left and first word at; c words are covered. (With no option left there is no bracket.)
unfoldable pub beginning : ℕ → ℕ → ℕ → Text → Begun
unfolding bytes
beginning c m at (number k) = none
beginning c zero at (one x) = none
beginning c (suc m) at (one x) = opened [] (beginning c m at x)
beginning c zero at (two x t y k) = none
beginning c (suc m) at (two x t y k) =
    elim (leb (at + 2 ^ suc m) c) [
      | true ↦ some (bytes (two x t y k))
      | false ↦ in_two (bytes x ++ between t x y) (beginning c m at x) (beginning c m (at + 2 ^ m) y)
    ]

-- ---- Texts with nothing to release -----------------------------------------------------------

-- no two-child node is written out
pub plain-none : (c m at : ℕ) (x : Text) → plain x ≡ true → beginning c m at x ≡ none
unfolding beginning
plain-none c m at (number k) e = refl
plain-none c zero at (one x) e = refl
plain-none c (suc m) at (one x) e = ap (opened []) (plain-none c m at x e)
plain-none c zero at (two x t y k) e = refl
plain-none c (suc m) at (two x t y k) e = absurd (false≢true e)

-- a node whose words are not all covered
pub partly : (c m at : ℕ) (x : Text) (t : Bool) (y : Text) (k : ℕ) → c < at + 2 ^ suc m
    → beginning c (suc m) at (two x t y k) ≡ in_two (bytes x ++ between t x y) (beginning c m at x) (beginning c m (at + 2 ^ m) y)
unfolding beginning
partly c m at x t y k h = go (leb (at + 2 ^ suc m) c) (lt-leb (at + 2 ^ suc m) c h)
  where
    go : (u : Bool) → u ≡ false
        → elim u as
        (λ _. Begun) [
          | true ↦ some (bytes (two x t y k))
          | false ↦ in_two (bytes x ++ between t x y) (beginning c m at x)
              (beginning c m (at + 2 ^ m) y)
        ]
        ≡ in_two (bytes x ++ between t x y) (beginning c m at x) (beginning c m (at + 2 ^ m) y)
    go true e = absurd (true≢false e)
    go false e = refl

-- a node whose words are all covered
pub wholly : (c m at : ℕ) (x : Text) (t : Bool) (y : Text) (k : ℕ) → at + 2 ^ suc m ≤ c
    → beginning c (suc m) at (two x t y k) ≡ some (bytes (two x t y k))
unfolding beginning
wholly c m at x t y k h = go (leb (at + 2 ^ suc m) c) (le-leb (at + 2 ^ suc m) c h)
  where
    go : (u : Bool) → u ≡ true
        → elim u as
        (λ _. Begun) [
          | true ↦ some (bytes (two x t y k))
          | false ↦ in_two (bytes x ++ between t x y) (beginning c m at x)
              (beginning c m (at + 2 ^ m) y)
        ]
        ≡ some (bytes (two x t y k))
    go true e = refl
    go false e = absurd (false≢true e)

-- no word is covered
pub uncovered-none : (c m at : ℕ) (x : Text) → c ≤ at → beginning c m at x ≡ none
unfolding beginning
uncovered-none c m at (number k) h = refl
uncovered-none c zero at (one x) h = refl
uncovered-none c (suc m) at (one x) h = ap (opened []) (uncovered-none c m at x h)
uncovered-none c zero at (two x t y k) h = refl
uncovered-none c (suc m) at (two x t y k) h =
    partly c m at x t y k (omega (arith, pow_pos (suc m)))
    ∙ ap (in_two (bytes x ++ between t x y) (beginning c m at x)) (uncovered-none c m (at + 2 ^ m) y (omega arith))
    ∙ ap (opened []) (uncovered-none c m at x h)

-- ---- The last covered node end -------------------------------------------------------------------

or_assoc : (a b d : Begun) → or_else (or_else a b) d ≡ or_else a (or_else b d)
or_assoc none b d = refl
or_assoc (some y) b d = refl

last-append : (c : ℕ) (xs ys : List NodeEnd) → last_covered c (xs ++ ys) ≡ or_else (last_covered c ys) (last_covered c xs)
unfolding last_covered
last-append c [] ys = or-none (last_covered c ys)
  where
    or-none : (o : Begun) → o ≡ or_else o none
    or-none none = refl
    or-none (some y) = refl
last-append c (x ∷ xs) ys =
    ap (λ (o : Begun). or_else o (cond (leb x.words c) (some x.up_to) none)) (last-append c xs ys)
    ∙ or_assoc (last_covered c ys) (last_covered c xs) _

-- what is released, after p
abbrev pub after_text : List ℕ → Begun → Begun
after_text p none = none
after_text p (some y) = some (p ++ y)

last-behind : (c : ℕ) (p : List ℕ) (es : List NodeEnd) → last_covered c (behind p es) ≡ after_text p (last_covered c es)
unfolding last_covered
last-behind c p [] = refl
last-behind c p (e ∷ es) =
    ap (λ (o : Begun). or_else o (cond (leb e.words c) (some (p ++ e.up_to)) none)) (last-behind c p es)
    ∙ go (last_covered c es) (leb e.words c)
  where
    go : (o : Begun) (t : Bool)
        → or_else (after_text p o) (cond t (some (p ++ e.up_to)) none) ≡ after_text p (or_else o (cond t (some e.up_to) none))
    go none true = refl
    go none false = refl
    go (some y) t = refl

opened_after : (p : List ℕ) (o : Begun) → opened p o ≡ after_text (opener ∷ p) o
opened_after p none = refl
opened_after p (some y) = refl

halves-last : (p : List ℕ) (a b : Begun) → in_two p a b ≡ or_else (after_text (opener ∷ p) b) (after_text (opener ∷ []) a)
halves-last p a none = opened_after [] a
halves-last p a (some y) = refl

-- the beginning is the last covered node end
pub beginning-last : (c m at : ℕ) (x : Text) → beginning c m at x ≡ last_covered c (node_ends m at x)
unfolding beginning node_ends last_covered
beginning-last c m at (number k) = refl
beginning-last c zero at (one x) = refl
beginning-last c (suc m) at (one x) =
    opened_after [] (beginning c m at x) ∙ ap (after_text (opener ∷ [])) (beginning-last c m at x)
    ∙ sym (last-behind c (opener ∷ []) (node_ends m at x))
beginning-last c zero at (two x t y k) = refl
beginning-last c (suc m) at (two x t y k) =
    ⊎_elim
    (λ (l : at + 2 ^ suc m ≤ c). wholly c m at x t y k l ∙ sym (all ∙ ap
    (λ (u : Bool). or_else (or_else (cond u (some (bytes (two x t y k))) none) (last_covered c lb)) (last_covered c la))
    (le-leb (at + 2 ^ suc m) c l)))
    (λ (l : c < at + 2 ^ suc m). partly c m at x t y k l
    ∙ halves-last (bytes x ++ between t x y) (beginning c m at x) (beginning c m (at + 2 ^ m) y)
    ∙ sym (ap (λ (o : Begun). or_else o (after_text (opener ∷ []) (beginning c m at x))) (last-behind c
    (opener ∷ (bytes x ++ between t x y)) (node_ends m (at + 2 ^ m) y) ∙ ap (after_text (opener ∷ (bytes x ++ between t x y)))
    (sym (beginning-last c m (at + 2 ^ m) y))))
    ∙ sym (ap (or_else (last_covered c lb))
    (last-behind c (opener ∷ []) (node_ends m at x) ∙ ap (after_text (opener ∷ [])) (sym (beginning-last c m at x))))
    ∙ sym (all ∙ ap
    (λ (u : Bool). or_else (or_else (cond u (some (bytes (two x t y k))) none) (last_covered c lb)) (last_covered c la))
    (lt-leb (at + 2 ^ suc m) c l)))
    (decide-le (at + 2 ^ suc m) c)
  where
    la : List NodeEnd
    la = behind (opener ∷ []) (node_ends m at x)

    lb : List NodeEnd
    lb = behind (opener ∷ (bytes x ++ between t x y)) (node_ends m (at + 2 ^ m) y)

    own : List NodeEnd
    own = record { up_to = bytes (two x t y k); words = at + 2 ^ suc m } ∷ []

    all : last_covered c (la ++ (lb ++ own)) ≡ or_else
        (or_else (cond (leb (at + 2 ^ suc m) c) (some (bytes (two x t y k))) none) (last_covered c lb)) (last_covered c la)
    all = last-append c la (lb ++ own) ∙ ap (λ (o : Begun). or_else o (last_covered c la)) (last-append c lb own)
