-- Words that one rule settles alone (document 02, R-3). Assumes nothing.
use Rattle.std.specs.Prelude.{◌≡◌, refl, Bool, true, false, not, List, [], ◌∷◌, ℕ, ◌≤◌, ◌<◌, ◌^◌, min}
use Rattle.std.proofs.Common.{sym, ap, ap₂, ◌∙◌, ⊎_elim, arith}
use Rattle.std.proofs.lemmas.Bool.{false≢true}
use Rattle.theory_lists.specs.Lists.{decide-le}
use Rattle.theory_reading.specs.Deciding.{Decision, undecided, decided, decision}
use Rattle.theory_reading.specs.Covered.{covered}
use Rattle.theory_reading.proofs.Covered.{covered-decided, covered-most, uncovered-undecided}
use Rattle.theory_writing.specs.Run.{operate}
use Rattle.theory_writing.proofs.Inputs.{never-decided}
use Rattle.claims.specs.Terms.{Value, Operated, Covers}
use Rattle.claims.specs.WrittenBytes.{decided-same}

-- ---- Values ----------------------------------------------------------------------------------

-- a value of a stream on a word that it decides is what it decides
value-decided : (n : ℕ) (x : List ℕ) (w : ℕ) (d : Bool) → decision n x w ≡ decided d → Value n x w d
value-decided n x w d e b f = decided-same (decision n x w) d b e f

-- on one that it does not, any
value-open : (n : ℕ) (x : List ℕ) (w : ℕ) (a : Bool) → decision n x w ≡ undecided → Value n x w a
value-open n x w a e d f = never-decided d (sym e ∙ f)

-- there is one
value-some : (n : ℕ) (x : List ℕ) (w : ℕ) → (a : Bool) × Value n x w a
value-some n x w = go (decision n x w) refl
  where
    go : (z : Decision) → decision n x w ≡ z → (a : Bool) × Value n x w a
    go undecided e = (false, value-open n x w false e)
    go (decided d) e = (d, value-decided n x w d e)

-- ---- Both streams ----------------------------------------------------------------------------

-- a word that both cover is settled
both-settled : (n op : ℕ) (x y : List ℕ) (w : ℕ) → w < covered n x → w < covered n y → (d : Bool) × Operated n op x y w d
both-settled n op x y w h k =
    let l : w < 2 ^ n = omega (arith, h, covered-most n x) in
    (_, λ a b p q. ap₂ (λ (a b : Bool). operate op (a ∷ b ∷ [])) (p _ (covered-decided n x w l h)) (q _ (covered-decided n y w l k)))

pub both-cover : (n op : ℕ) (x y : List ℕ) (k : ℕ) → Covers n op x y k → min (covered n x) (covered n y) ≤ k
both-cover n op x y k h = ⊎_elim (λ (l : min (covered n x) (covered n y) ≤ k). l)
    (λ (l : k < min (covered n x) (covered n y)).
    let s = both-settled n op x y k (omega (arith, l)) (omega (arith, l)) in
    absurd (h.unsettled (omega (arith, l, covered-most n x)) s.0 s.1))
    (decide-le (min (covered n x) (covered n y)) k)

-- ---- AND, the constants, NOT -----------------------------------------------------------------

and_no : (b : Bool) → (operate 8 (false ∷ b ∷ []) ≡ false) × (operate 8 (b ∷ false ∷ []) ≡ false)
unfolding operate
and_no true = (refl, refl)
and_no false = (refl, refl)

pub refused-settles : (n : ℕ) (x y : List ℕ) (w : ℕ) → decision n x w ≡ decided false → Operated n 8 x y w false × Operated n 8 y x w false
refused-settles n x y w e = (
  λ a b p q. ap (λ (a : Bool). operate 8 (a ∷ b ∷ [])) (p false e) ∙ (and_no b).0,
  λ a b p q. ap (λ (b : Bool). operate 8 (a ∷ b ∷ [])) (q false e) ∙ (and_no a).1,
)

pub zero-gives : (a b : Bool) → operate 0 (a ∷ b ∷ []) ≡ false
unfolding operate
zero-gives true true = refl
zero-gives true false = refl
zero-gives false true = refl
zero-gives false false = refl

pub fifteen-gives : (a b : Bool) → operate 15 (a ∷ b ∷ []) ≡ true
unfolding operate
fifteen-gives true true = refl
fifteen-gives true false = refl
fifteen-gives false true = refl
fifteen-gives false false = refl

-- an operator that gives d for all decisions
pub none-asked : (n op : ℕ) (x y : List ℕ) (d : Bool) → ((a b : Bool) → operate op (a ∷ b ∷ []) ≡ d) → Covers n op x y (2 ^ n)
none-asked n op x y d h =
    record { most = omega arith; settled = λ w l. (d, λ a b p q. h a b); unsettled = λ l. absurd (omega (arith, l)) }

not_gives : (a b : Bool) → operate 3 (a ∷ b ∷ []) ≡ not a
unfolding operate
not_gives true true = refl
not_gives true false = refl
not_gives false true = refl
not_gives false false = refl

pub second-ignored : (n : ℕ) (x y : List ℕ) → Covers n 3 x y (covered n x)
second-ignored n x y = record {
  most = covered-most n x;
  settled = λ w l. (_, λ a b p q. not_gives a b ∙ ap not (p _ (covered-decided n x w (omega (arith, l, covered-most n x)) l)));
  unsettled = λ l d o.
      let e = uncovered-undecided n x (covered n x) l (omega arith) in
      let b = value-some n y (covered n x) in
      let gives : (a : Bool) → not a ≡ d = λ a. sym (not_gives a b.0) ∙ o a b.0 (value-open n x (covered n x) a e) b.1 in
      false≢true (gives true ∙ sym (gives false));
}
