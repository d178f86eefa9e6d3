-- Lent rows of records: the record of number k stands at place k - 1; 0 and numbers past the end have none.
-- Assumes nothing.
use Rattle.std.specs.Prelude.{◌≡◌, refl, cond, List, ◌++◌, ℕ, min, ◌-◌, eqb, get_or, set, length, drop, replicate}
use Rattle.std.proofs.Common.{ne_eqb}

module _ {A : Type 0} where
  -- the record of number k, z if it has none
  abbrev pub entry_at : A → List A → ℕ → A
  entry_at z t k = cond (eqb k 0) z (get_or t (k - 1) z)

  -- x is put there
  abbrev pub put_entry : List A → ℕ → A → List A
  put_entry t k x = cond (eqb k 0) t (set t (k - 1) x)

  -- the first m become z
  abbrev pub clear_to : A → List A → ℕ → List A
  clear_to z t m = replicate (min m (length t)) z ++ drop m t

  -- ---- One record ------------------------------------------------------------------------------

  pub entry_here : (z : A) (t : List A) (k : ℕ) → (k ≡ 0 → ⊥) → get_or t (k - 1) z ≡ entry_at z t k
  entry_here z t k h = rw (ne_eqb k 0 h) refl

  pub entry-put-none : (t : List A) (k : ℕ) (x : A) → k ≡ 0 → t ≡ put_entry t k x
  entry-put-none t k x e = rw e refl

  pub entry-put-here : (t : List A) (k : ℕ) (x : A) → (k ≡ 0 → ⊥) → set t (k - 1) x ≡ put_entry t k x
  entry-put-here t k x h = rw (ne_eqb k 0 h) refl
