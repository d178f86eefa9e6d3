-- Beginnings of lists of numbers. Assumes nothing.
use Rattle.std.specs.Prelude.{◌≡◌, refl, List, [], ◌∷◌, ◌++◌, ℕ, zero, suc, ◌≤◌, take, drop}
use Rattle.std.proofs.Common.{sym, ap, ◌∙◌, append_assoc, append-nil, arith, take-append-drop}

-- x begins y: y is x with something after it
abbrev pub Begins : List ℕ → List ℕ → Type 0
Begins x y = (z : List ℕ) × (y ≡ x ++ z)

pub begins-refl : (x : List ℕ) → Begins x x
begins-refl x = ([], sym (append-nil x))

pub begins-trans : (x y z : List ℕ) → Begins x y → Begins y z → Begins x z
begins-trans x y z p q = (p.0 ++ q.0, q.1 ∙ ap (λ (l : List ℕ). l ++ q.0) p.1 ∙ append_assoc x p.0 q.0)

pub begins-left : (w x y : List ℕ) → Begins x y → Begins (w ++ x) (w ++ y)
begins-left w x y p = (p.0, ap (λ (l : List ℕ). w ++ l) p.1 ∙ sym (append_assoc w x p.0))

pub begins-append : (x y z : List ℕ) → Begins x y → Begins x (y ++ z)
begins-append x y z p = begins-trans x y (y ++ z) p (z, refl)

pub begins-take : (a b : ℕ) (x y : List ℕ) → a ≤ b → Begins x y → Begins (take a x) (take b y)
begins-take zero b x y l p = (take b y, refl)
begins-take (suc a) zero x y l p = absurd (omega arith)
begins-take (suc a) (suc b) [] y l p = (take (suc b) y, refl)
begins-take (suc a) (suc b) (u ∷ x) y l p =
    let q = begins-take a b x (x ++ p.0) (omega arith) (p.0, refl) in
    (q.0, ap (take (suc b)) p.1 ∙ ap (λ (l : List ℕ). u ∷ l) q.1)

pub take_begins : (a : ℕ) (x : List ℕ) → Begins (take a x) x
take_begins a x = (drop a x, sym (take-append-drop a x))
