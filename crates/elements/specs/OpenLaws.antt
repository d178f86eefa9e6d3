-- The open nodes in an array, and the spots of the innermost and of the one after it. Assumes nothing.
use Rattle.std.specs.Prelude.{◌≡◌, refl, Bool, true, false, cond, List, [], ◌∷◌, ℕ, zero, suc, ◌-◌, ◌<◌, ◌≤◌, ltb, eqb, length, get_or, set}
use Rattle.std.proofs.Common.{sym, ap, ap₂, subst, arith, get_or-set_same, get_or-set_other, ltb-true, ltb-false, ne_eqb, le-ltb}
use Rattle.theory_reading.specs.Limits.{open_limit}
use Rattle.theory_reading.specs.Element as T
use Rattle.elements.specs.Abstraction.{open_of, inside_open, opens_of, last_open, low_at, high_at}
use Rattle.elements.specs.declared.Open.{Open}
use Rattle.elements.specs.Abstraction.{opens_of, inside_open, deep_of, last_open, low_at, high_at, spots_of}
use Rattle.elements.specs.declared.Spots.{Spots}

pub open-length : (ns : List Open) (d : ℕ) → length (opens_of ns d) ≡ d
unfolding opens_of
open-length ns zero = refl
open-length ns (suc d) = ap suc (open-length ns d)

pub open_none : (ns : List Open) → opens_of ns 0 ≡ []
unfolding opens_of
open_none ns = refl

-- an entry at or behind the depth does not count
pub opens-set : (ns : List Open) (i d : ℕ) (e : Open) → d ≤ i → opens_of (set ns i e) d ≡ opens_of ns d
unfolding opens_of
opens-set ns i zero e h = refl
opens-set ns i (suc d) e h = ap₂ (λ (x : Open) (l : List T.Open). open_of x ∷ l) (get_or-set_other ns i d e inside_open (λ q. omega arith))
    (opens-set ns i d e (omega arith))

pub opens-last : (ns : List Open) (d : ℕ) (e : Open) → d < length ns → opens_of (set ns d e) (suc d) ≡ open_of e ∷ opens_of ns d
unfolding opens_of
opens-last ns d e h = ap₂ (λ (x : Open) (l : List T.Open). open_of x ∷ l) (get_or-set_same ns d e inside_open h) (opens-set ns d d e (omega arith))

-- the innermost of d + 1 open nodes stands at place d
pub low-suc : (d : ℕ) → suc d ≤ open_limit → low_at (suc d) ≡ d
low-suc d h = rw (ne_eqb (suc d) 0 (λ z. omega arith)) (go (ltb (suc d) open_limit) refl)
  where
    go : (t : Bool) → ltb (suc d) open_limit ≡ t → cond t (suc d - 1) last_open ≡ d
    go true e = omega arith
    go false e = omega (arith, h, ltb-false (suc d) open_limit e)

pub set_back : (ns : List Open) (i : ℕ) → i < length ns → set ns i (get_or ns i inside_open) ≡ ns
set_back [] i h = refl
set_back (x ∷ ns) zero h = refl
set_back (x ∷ ns) (suc i) h = ap (λ (l : List Open). x ∷ l) (set_back ns i (omega arith))

-- No depth is above the limit.
pub deep-most : (d : ℕ) → deep_of d ≤ open_limit
deep-most d = go (ltb open_limit d) refl
  where
    go : (t : Bool) → ltb open_limit d ≡ t → cond t open_limit d ≤ open_limit
    go true e = omega arith
    go false e = omega (arith, ltb-false open_limit d e)

-- a depth up to it is itself
pub deep-self : (d : ℕ) → d ≤ open_limit → deep_of d ≡ d
deep-self d h = rw (le-ltb open_limit d h) refl

-- the spots of a depth above it are its own
pub low-deep : (d : ℕ) → low_at d ≡ low_at (deep_of d)
low-deep d = go (ltb open_limit d) refl
  where
    go : (t : Bool) → ltb open_limit d ≡ t → low_at d ≡ low_at (cond t open_limit d)
    go true e = let l : open_limit < d = ltb-true open_limit d e in rw (ne_eqb d 0 (λ z. omega (arith, l)), le-ltb d open_limit (omega (arith, l))) refl
    go false e = refl

pub high-deep : (d : ℕ) → high_at d ≡ high_at (deep_of d)
high-deep d = go (ltb open_limit d) refl
  where
    go : (t : Bool) → ltb open_limit d ≡ t → high_at d ≡ high_at (cond t open_limit d)
    go true e = let l : open_limit < d = ltb-true open_limit d e in rw (le-ltb d open_limit (omega (arith, l))) refl
    go false e = refl

-- Both spots are among the entries.
pub spots-low : (d : ℕ) (x : Spots) → x ≡ spots_of d → x.low < open_limit
spots-low d x e = subst (λ (y : Spots). y.low < open_limit) (sym e) (go (eqb d 0) (ltb d open_limit) refl)
  where
    go : (z t : Bool) → ltb d open_limit ≡ t → cond z last_open (cond t (d - 1) last_open) < open_limit
    go true t e = omega arith
    go false true e = let l : d < open_limit = ltb-true d open_limit e in omega (arith, l)
    go false false e = omega arith

pub spots-high : (d : ℕ) (x : Spots) → x ≡ spots_of d → x.high < open_limit
spots-high d x e = subst (λ (y : Spots). y.high < open_limit) (sym e) (go (ltb d open_limit) refl)
  where
    go : (t : Bool) → ltb d open_limit ≡ t → cond t d last_open < open_limit
    go true e = ltb-true d open_limit e
    go false e = omega arith
