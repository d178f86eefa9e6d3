-- Which way code that walks texts goes at a part, and at the end of a run. Assumes nothing.
use Rattle.std.specs.Prelude.{◌≡◌, Bool, true, false, cond, not, ◌||◌, ℕ, zero, suc, ◌<◌, ◌^◌, eqb}
use Rattle.std.proofs.Common.{sym, ap, ◌∙◌, true≢false, arith, eq-eqb, ne_eqb}
use Rattle.std.proofs.lemmas.Bool.{not-false}
use Rattle.theory_lists.specs.Lists.{or_r}
use Rattle.theory_engine.specs.Engine.{done_in}
use Rattle.theory_applying.specs.Operands.{Applied}
use Rattle.theory_applying.specs.Finishing.{sent_by, finish_in}

-- not all inputs at edges, or not all words covered: there is an option, and one of these is so
pub inside-option : (d : ℕ) (b : Bool) → (eqb d 0 || not b) ≡ false → 0 < d
inside-option zero b h = absurd (true≢false h)
inside-option (suc d) b h = omega arith

pub inside-text : (d : ℕ) (b : Bool) → (eqb d 0 || not b) ≡ false → b ≡ true
inside-text d b h = not-false b (or_r (eqb d 0) (not b) h)

-- after the walk; k: how many words there are
module _ {BlockReader : Type 0} (n c m k : ℕ) (a : Applied BlockReader) (words : k ≡ 2 ^ n) where
  pub finish-whole : c ≡ k → done_in m a.walked ≡ finish_in n c m a
  finish-whole e = ap (λ (b : Bool). cond b (done_in m a.walked) (sent_by a.walked)) (sym (eq-eqb c (2 ^ n) (e ∙ words)))

  pub finish-cut : (c ≡ k → ⊥) → sent_by a.walked ≡ finish_in n c m a
  finish-cut e =
      ap (λ (b : Bool). cond b (done_in m a.walked) (sent_by a.walked))
      (sym (ne_eqb c (2 ^ n) (λ h. e (h ∙ sym words))))
