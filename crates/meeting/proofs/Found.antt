-- Numbers that a node has, none for 0.
use Rattle.std.proofs.Common.{◌≡◌, ◌≢◌, refl, ℕ, Bool, true, false, cond, eqb, Some, None, eqb-true}
use Rattle.std.proofs.lemmas.Bool.{eqb-false}
use Rattle.writer_numbers.specs.Numbers.{number_of}

module _ (j : ℕ) where
  pub is-none : None ≡ number_of j → j ≡ 0
  is-none e = go (eqb j 0) refl e
    where
      go : (t : Bool) → eqb j 0 ≡ t → None ≡ cond t None (Some j) → j ≡ 0
      go true h e = eqb-true j 0 h
      go false h e = cc

  pub is-some : (k : ℕ) → Some k ≡ number_of j → (k ≡ j) × (j ≢ 0)
  is-some k e = go (eqb j 0) refl e
    where
      go : (t : Bool) → eqb j 0 ≡ t → Some k ≡ cond t None (Some j) → (k ≡ j) × (j ≢ 0)
      go true h e = cc
      go false h e = (cc, eqb-false j 0 h)
