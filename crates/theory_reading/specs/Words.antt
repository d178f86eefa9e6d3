-- The decisions of a diagram as one list over all words, and that the walk agrees with it. Assumes nothing.
use Rattle.std.specs.Prelude.{◌≡◌, refl, Bool, true, false, cond, List, [], ◌∷◌, ◌++◌, map, ℕ, zero, suc, ◌+◌, ◌-◌, ◌<◌, ◌≤◌, ◌^◌, ltb, length, get_or, replicate}
use Rattle.std.proofs.Common.{sym, ap, ap₂, ◌∙◌, pow-suc, arith, length-append, get_or-append-add, ltb-true, ltb-false, lt-ltb, le-ltb}
use Prim.{Unit}
use Rattle.std.proofs.lemmas.List.{length-map, length-replicate, get_or-replicate}
use Rattle.std.proofs.Math.ListN.{get_or-append, get_or-map}
use Rattle.theory_lists.specs.Lists.{differ}
use Rattle.theory_lists.specs.Maps.{map-append, map_same, map-map, map-replicate, get_or-replicate-same}
use Rattle.theory_reading.specs.Deciding.{options, Decision, undecided, decided, complemented, Diagram, missing, leaf, branch, walk}

double : (m : ℕ) → 2 ^ suc m ≡ 2 ^ m + 2 ^ m
double m = omega (arith, pow-suc 2 m)

options-by : (m w : ℕ) (t : Bool) → ltb w (2 ^ m) ≡ t → options (suc m) w ≡ cond t (false ∷ options m w) (true ∷ options m (w - 2 ^ m))
unfolding options
options-by m w true e = ap (λ (u : Bool). elim u as (λ _. List Bool) [ true ↦ false ∷ options m w | false ↦ true ∷ options m (w - 2 ^ m) ]) e
options-by m w false e = ap (λ (u : Bool). elim u as (λ _. List Bool) [ true ↦ false ∷ options m w | false ↦ true ∷ options m (w - 2 ^ m) ]) e

-- an option is no where the word is below its weight
pub options-low : (m w : ℕ) → w < 2 ^ m → options (suc m) w ≡ false ∷ options m w
options-low m w h = options-by m w true (lt-ltb w (2 ^ m) h)

pub options-high : (m w : ℕ) → 2 ^ m ≤ w → options (suc m) w ≡ true ∷ options m (w - 2 ^ m)
options-high m w h = options-by m w false (le-ltb w (2 ^ m) h)

-- ---- The decisions as a list -----------------------------------------------------------------

-- the decisions of a diagram on the 2^m words of m options
unfoldable pub spread : Diagram → ℕ → List Decision
spread missing m = replicate (2 ^ m) undecided
spread leaf m = replicate (2 ^ m) (decided false)
spread (branch a t b) zero = undecided ∷ []
spread (branch a t b) (suc m) = spread a m ++ map (complemented t) (spread b m)

pub length-spread : (d : Diagram) (m : ℕ) → length (spread d m) ≡ 2 ^ m
unfolding spread
length-spread missing m = length-replicate (2 ^ m) undecided
length-spread leaf m = length-replicate (2 ^ m) (decided false)
length-spread (branch a t b) zero = refl
length-spread (branch a t b) (suc m) = length-append (spread a m) (map (complemented t) (spread b m))
    ∙ omega (arith, length-spread a m, length-map (spread b m) (complemented t), length-spread b m, double m)

-- THE WALK AND THE LIST AGREE, for every diagram.
pub walk-spread : (d : Diagram) (m w : ℕ) → w < 2 ^ m → walk d (options m w) ≡ get_or (spread d m) w undecided
unfolding walk spread options
walk-spread missing m w h = sym (get_or-replicate-same (2 ^ m) w undecided)
walk-spread leaf m w h = sym (get_or-replicate (2 ^ m) w (decided false) undecided h)
walk-spread (branch a t b) zero w h = let e : w ≡ 0 = omega (arith, h) in rw e refl
walk-spread (branch a t b) (suc m) w h = go (ltb w (2 ^ m)) refl (walk-spread a m w) (walk-spread b m (w - 2 ^ m))
  where
    go : (u : Bool) → ltb w (2 ^ m) ≡ u → (w < 2 ^ m → walk a (options m w) ≡ get_or (spread a m) w undecided)
        → (w - 2 ^ m < 2 ^ m → walk b (options m (w - 2 ^ m)) ≡ get_or (spread b m) (w - 2 ^ m) undecided) → walk (branch a t b) (options (suc m) w)
        ≡ get_or (spread (branch a t b) (suc m)) w undecided
    go true e f g =
        let j : w < 2 ^ m = ltb-true _ _ e in
        rw (options-low m w j) (f j ∙ sym (get_or-append (spread a m) (map (complemented t) (spread b m)) undecided w
        (omega (arith, length-spread a m))))
    go false e f g =
        let j : 2 ^ m ≤ w = ltb-false _ _ e in
        let i : w ≡ length (spread a m) + (w - 2 ^ m) = omega (arith, length-spread a m) in
        rw (options-high m w j) (ap (complemented t) (g (omega (arith, double m)))
        ∙ sym (get_or-map (complemented t) (spread b m) (w - 2 ^ m) undecided)
        ∙ sym (get_or-append-add (spread a m) (map (complemented t) (spread b m)) (w - 2 ^ m) undecided)
        ∙ ap (λ (x : ℕ). get_or (spread (branch a t b) (suc m)) x undecided) (sym i))

-- ---- Diagrams in which nothing is missing ----------------------------------------------------

-- nothing is missing in a diagram of m options
abbrev pub Full : Diagram → ℕ → Type 0
Full missing m = ⊥
Full leaf m = Unit {0}
Full (branch a t b) zero = ⊥
Full (branch a t b) (suc m) = Full a m × Full b m

-- the decisions of such a diagram, word by word
unfoldable pub bits : Diagram → ℕ → List Bool
bits missing m = []
bits leaf m = replicate (2 ^ m) false
bits (branch a t b) zero = []
bits (branch a t b) (suc m) = bits a m ++ map (differ t) (bits b m)

differ-decided : (t d : Bool) → complemented t (decided d) ≡ decided (differ t d)
differ-decided false d = refl
differ-decided true d = refl

pub differ-bits : (t : Bool) (xs : List Bool) → map (complemented t) (map decided xs) ≡ map decided (map (differ t) xs)
differ-bits t xs = map-map decided (complemented t) xs ∙ map_same (λ x. complemented t (decided x)) (λ x. decided (differ t x)) (differ-decided t) xs
    ∙ sym (map-map (differ t) decided xs)

pub complemented-twice : (p t : Bool) (x : Decision) → complemented p (complemented t x) ≡ complemented (differ t p) x
complemented-twice p t undecided = refl
complemented-twice false false (decided d) = refl
complemented-twice true false (decided d) = refl
complemented-twice false true (decided d) = refl
complemented-twice true true (decided true) = refl
complemented-twice true true (decided false) = refl

pub differ-swap : (p t x : Bool) → differ p (differ t x) ≡ differ (differ t p) x
differ-swap false false d = refl
differ-swap true false d = refl
differ-swap false true d = refl
differ-swap true true true = refl
differ-swap true true false = refl

pub full-spread : (d : Diagram) (m : ℕ) → Full d m → spread d m ≡ map decided (bits d m)
unfolding spread bits
full-spread missing m h = absurd h
full-spread leaf m h = sym (map-replicate decided (2 ^ m) false)
full-spread (branch a t b) zero h = absurd h
full-spread (branch a t b) (suc m) h =
    ap₂ ◌++◌ (full-spread a m h.0) (ap (map (complemented t)) (full-spread b m h.1) ∙ differ-bits t (bits b m))
    ∙ sym (map-append decided (bits a m) (map (differ t) (bits b m)))

pub length-bits : (d : Diagram) (m : ℕ) → Full d m → length (bits d m) ≡ 2 ^ m
length-bits d m h = sym (length-map (bits d m) decided) ∙ ap length (sym (full-spread d m h)) ∙ length-spread d m
