-- The written bytes of any run, whole, cut or clipped: they are accepted when read, and decide the words that they cover, all of which the run
-- covers, as the run's function does. Assumes nothing.
use Rattle.std.specs.Prelude.{◌≡◌, refl, ◌≢◌, Bool, true, false, not, List, ℕ, zero, suc, ◌≤◌, ◌<◌, ◌^◌, eqb}
use Rattle.std.proofs.Common.{sym, ap, ◌∙◌, subst, ⊎_elim, true≢false, arith, eq-eqb, ne_eqb}
use Rattle.std.proofs.Math.Path.{subst⁻¹}
use Rattle.std.proofs.lemmas.Bool.{false≢true}
use Rattle.std.proofs.Math.Option.{none}
use Rattle.theory_lists.specs.Lists.{decide-le}
use Rattle.theory_lists.specs.Prefixes.{Begins, begins-trans}
use Rattle.theory_reading.specs.Limits.{option_limit, table_limit}
use Rattle.theory_reading.specs.Reading.{reading}
use Rattle.theory_reading.specs.Deciding.{Decision, decided, decision}
use Rattle.theory_reading.proofs.Prefix.{accepted-before}
use Rattle.theory_reading.specs.Covered.{covered}
use Rattle.theory_reading.proofs.Covered.{covered-decided, covered-most, decision-stands}
use Rattle.theory_writing.specs.Run.{run_text, written_bytes}
use Rattle.theory_writing.specs.Grows.{run-stable, run-grows}
use Rattle.theory_writing.specs.Output.{written-begins}
use Rattle.claims.specs.ReadBack.{read_back}

-- t is what a run over n options wrote that covers c words and decides them by f
pub record Written (n c : ℕ) (f : ℕ → Bool) (t : List ℕ) : Type 0 where
  pub accepted : (reading n t).fault ≡ none
  pub within : covered n t ≤ c
  pub decides : (w : ℕ) → w < covered n t → decision n t w ≡ decided (f w)

pub decided-same : (x : Decision) (a b : Bool) → x ≡ decided a → x ≡ decided b → a ≡ b
decided-same x a b p q = cc

-- f with one word turned about
abbrev flipped : ℕ → (ℕ → Bool) → ℕ → Bool
flipped w f v = elim (eqb v w) [ true ↦ not (f v) | false ↦ f v ]

flipped-at : (w : ℕ) (f : ℕ → Bool) → flipped w f w ≡ not (f w)
flipped-at w f = ap (λ (t : Bool). elim t as (λ _. Bool) [ true ↦ not (f w) | false ↦ f w ]) (eq-eqb w w refl)

flipped-off : (w : ℕ) (f : ℕ → Bool) (v : ℕ) → v ≢ w → f v ≡ flipped w f v
flipped-off w f v d = sym (ap (λ (t : Bool). elim t as (λ _. Bool) [ true ↦ not (f v) | false ↦ f v ]) (ne_eqb v w d))

not_same : (t : Bool) → t ≡ not t → ⊥
not_same true e = true≢false e
not_same false e = false≢true e

module _ (n size : ℕ) (f : ℕ → Bool) (small : n ≤ option_limit) (fit : size ≤ table_limit) (t : List ℕ) (b : Begins t (run_text n size (2 ^ n) f)) where
  -- a beginning of the whole text
  begin-accepted : (reading n t).fault ≡ none
  begin-accepted = accepted-before n t b.0 (subst (λ (l : List ℕ). (reading n l).fault ≡ none) b.1 (read_back n size f small fit).accepted)

  begin-decides : (w : ℕ) → w < 2 ^ n → (d : Bool) → decision n t w ≡ decided d → d ≡ f w
  begin-decides w h d e =
      decided-same (decision n (run_text n size (2 ^ n) f) w) d (f w)
      (subst⁻¹ (λ (l : List ℕ). decision n l w ≡ decided d) b.1 (decision-stands n t b.0 w d h e))
      ((read_back n size f small fit).decides w h)

module _ (n size c : ℕ) (f : ℕ → Bool) (out : List ℕ) (small : n ≤ option_limit) (fit : size ≤ table_limit) (h : c ≤ 2 ^ n) where
  abbrev text : List ℕ
  text = written_bytes (run_text n size c f) out

  -- the written bytes begin the whole text of every function that agrees with f on the covered words
  begun : (g : ℕ → Bool) → run_text n size c f ≡ run_text n size c g → Begins text (run_text n size (2 ^ n) g)
  begun g e = begins-trans text (run_text n size c f) (run_text n size (2 ^ n) g) (written-begins (run_text n size c f) out)
      (subst⁻¹ (λ (l : List ℕ). Begins l (run_text n size (2 ^ n) g)) e (run-grows n size c (2 ^ n) g h (omega arith)))

  as-f : (w : ℕ) → w < 2 ^ n → (d : Bool) → decision n text w ≡ decided d → d ≡ f w
  as-f w l d e = begin-decides n size f small fit text (begun f refl) w l d e

  -- a word past c is not decided: it would be decided both ways
  inside : (w : ℕ) → w < 2 ^ n → (d : Bool) → decision n text w ≡ decided d → w < c
  inside w l d e = ⊎_elim
      (λ (k : c ≤ w). absurd (not_same (f w) (sym (as-f w l d e)
      ∙ begin-decides n size (flipped w f) small fit text (begun (flipped w f)
      (run-stable n size c f (flipped w f) (λ v o. flipped-off w f v (λ z. omega (arith, z))))) w l d e ∙ flipped-at w f)))
      (λ (k : w < c). k) (decide-le c w)

  decided-inside : (w : ℕ) → w < covered n text → (w < c) × (decision n text w ≡ decided (f w))
  decided-inside w l =
      let k : w < 2 ^ n = omega (arith, l, covered-most n text) in
      let e = covered-decided n text w k l in
      (inside w k _ e, e ∙ ap decided (as-f w k _ e))

  -- THE WRITTEN BYTES OF A RUN
  pub run-written : Written n c f text
  run-written = record {
    accepted = begin-accepted n size f small fit text (begun f refl);
    within = go (covered n text) refl;
    decides = λ w l. (decided-inside w l).1;
  }
    where
      go : (k : ℕ) → covered n text ≡ k → k ≤ c
      go zero e = omega arith
      go (suc k) e = omega (arith, (decided-inside k (omega (arith, e))).0)
