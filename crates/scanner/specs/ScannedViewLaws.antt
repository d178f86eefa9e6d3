-- Laws of a step by little as code has it: what an element comes to with the change as numbers, and the ways by the context. Assumes nothing.
use Rattle.std.specs.Prelude.{◌≡◌, refl, Bool, true, false, cond, ◌&&◌, List, ℕ, ◌+◌, ◌<◌, length, get_or}
use Rattle.std.proofs.Common.{ap, ◌∙◌, ◌⊎◌, inl, inr}
use Rattle.theory_reading.specs.Element as T
use Rattle.scanner.specs.ScannedToken as G
use Rattle.scanner.specs.Capped.{cap_scanned}
use Rattle.scanner.specs.ScannedTokenLaws.{scan-here}
use Rattle.kinds.specs.Kinds.{and-off, digit_in, number_by}
use Rattle.elements.specs.Abstraction.{context_of}
use Rattle.scanner.specs.TokenView.{is_after, plain, scanned_view, gave_by, numbered}
use Rattle.scanner.specs.declared.Token.TheVariants as S
use Rattle.elements.specs.declared.Context.{Context}
use Rattle.elements.specs.declared.Context.TheVariants.{Start, Lead, Begins, AfterDigit, AfterTwo, AfterOne, Over}
use Rattle.kinds.specs.declared.Kind.{Kind}

-- ---- What an element comes to ----------------------------------------------------------------

-- a number or the constant, of a second child or not
pub seen_value : (v at : ℕ) (m : Context) (d : ℕ) (two : Bool) → scanned_view (gave_by S.Number v at m d two false)
    ≡ plain d (G.gave (T.number v) at (context_of m) (numbered two))
seen_value v at m d true = refl
seen_value v at m d false = refl

pub seen-constant : (at : ℕ) (m : Context) (d : ℕ) (two : Bool) → scanned_view (gave_by S.Constant 0 at m d two false)
    ≡ plain d (G.gave T.constant at (context_of m) (numbered two))
seen-constant at m d true = refl
seen-constant at m d false = refl

-- a bracket
pub seen-push : (at : ℕ) (d : ℕ) (two : Bool) → scanned_view (gave_by S.Opening 0 at Begins (d + 1) two false)
    ≡ plain d (G.gave T.opening at T.begins (cond two G.second_push G.push))
seen-push at d true = refl
seen-push at d false = refl

-- ---- The ways by the context -----------------------------------------------------------------

pub and_left : (s t : Bool) → s ≡ false → (s && t) ≡ false
and_left s t e = rw e refl

pub and_right : (s t : Bool) → t ≡ false → (s && t) ≡ false
and_right s t e = rw e (and-off s)

-- The context says which way a step goes, at the byte b:
module _ (k : List Kind) (bytes : List ℕ) (at : ℕ) (top : G.Top) (d b : ℕ) where
  -- a scan comes to the step
  abbrev Steps : Context → G.ScannedToken → Type 0
  Steps m g = g ≡ G.scan_token_by k bytes at (context_of m) top d b

  pub steps-first : (m : Context) → m ≡ Start → Steps m
      (cond (digit_in k b) (G.scan_size k bytes at (context_of m) (number_by k bytes at b)) (G.wrong_at at (context_of m)))
  steps-first m e = rw e refl

  pub steps-node : (m : Context) → (m ≡ Lead) ⊎ (m ≡ Begins) → Steps m (G.scan_lead k bytes at (context_of m) d b)
  steps-node m (inl e) = rw e refl
  steps-node m (inr e) = rw e refl

  pub steps-ended : (m : Context) → (m ≡ AfterDigit) ⊎ ((m ≡ AfterTwo) ⊎ (m ≡ AfterOne))
      → Steps m (G.scan_ended k bytes at (context_of m) top d (is_after m) b)
  steps-ended m (inl e) = rw e refl
  steps-ended m (inr (inl e)) = rw e refl
  steps-ended m (inr (inr e)) = rw e refl

  pub steps-past : (m : Context) → m ≡ Over → Steps m (G.wrong_at at (context_of m))
  steps-past m e = rw e refl

-- and so does the scan of the byte at the place.
pub steps-here : (k : List Kind) (bytes : List ℕ) (at : ℕ) (m : Context) (top : G.Top) (d : ℕ) → at < length bytes → (g : G.ScannedToken)
    → Steps k bytes at top d (get_or bytes at 0) m g
    → plain d (cap_scanned g) ≡ plain d (cap_scanned (G.scan_token k bytes at (context_of m) top d))
steps-here k bytes at m top d l g e =
    ap (λ (x : G.ScannedToken). plain d (cap_scanned x)) e ∙ ap (plain d) (scan-here k bytes at (context_of m) top d l)
