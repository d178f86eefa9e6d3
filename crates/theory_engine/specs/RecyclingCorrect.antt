-- One law for each way through the functions of the records: what they answer there is what Recycling says. Assumes nothing.
use Rattle.std.specs.Prelude.{◌≡◌, ◌≢◌, Bool, true, false, List}
use Rattle.std.proofs.Math.Path.{refl, ap}
use Rattle.std.proofs.Common.{sym, ◌∙◌}
use Rattle.std.proofs.Math.Bool.{cond}
use Prim.Native.Nat.{ℕ, zero, suc, ◌+◌, ◌-◌, ◌≤◌, ◌<◌}
use native.Mathlib.Omega.{arith}
use borrow.Author.Tests.{eq-eqb, ne_eqb, lt-ltb, le-ltb}
use Rattle.theory_writing.specs.Links.{stops}
use Rattle.theory_engine.specs.Cells.{cell}
use Rattle.writer_records.specs.Fields.{parents_field, queue_field, bucket_field}
use Rattle.theory_engine.specs.Recycling.{Lane, lane, link_in, unlink_in, free_of, fits_at, search_in, fewer_in, more_in, orphan_in, orphans_in}
use Rattle.theory_engine.specs.Recycling.{release_in, adopt_in, place_in, store_in, next_in}
use Rattle.node_records.specs.declared.WriterRecord.{WriterRecord}

-- ---- The number to reuse ---------------------------------------------------------------------

module _ (t : List WriterRecord) (x a b : ℕ) where
  pub free-first : stops a b x ≡ true → x ≡ free_of t x a b
  unfolding free_of
  free-first e = rw e refl

  pub free-second : (y : ℕ) → stops a b x ≡ false → y ≡ cell t queue_field x → stops a b y ≡ true → y ≡ free_of t x a b
  unfolding free_of
  free-second y e p d =
      p ∙ ap (λ (u : Bool). cond u (cell t queue_field x) (cell t queue_field (cell t queue_field x))) (sym (ap (stops a b) (sym p) ∙ d))
      ∙ ap (λ (u : Bool). cond u x (cond (stops a b (cell t queue_field x)) (cell t queue_field x) (cell t queue_field (cell t queue_field x)))) (sym e)

  pub free-third : (y : ℕ) → stops a b x ≡ false → y ≡ cell t queue_field x → stops a b y ≡ false → cell t queue_field y ≡ free_of t x a b
  unfolding free_of
  free-third y e p d =
      ap (cell t queue_field) p
      ∙ ap (λ (u : Bool). cond u (cell t queue_field x) (cell t queue_field (cell t queue_field x))) (sym (ap (stops a b) (sym p) ∙ d))
      ∙ ap (λ (u : Bool). cond u x (cond (stops a b (cell t queue_field x)) (cell t queue_field x) (cell t queue_field (cell t queue_field x)))) (sym e)

-- the number for a new node
module _ (t : List WriterRecord) (z f size a b : ℕ) where
  pub next-fresh : z < size → z + 1 ≡ next_in t z f size a b
  unfolding next_in
  next-fresh h = rw (lt-ltb z size h) refl

  pub next-free : size ≤ z → free_of t f a b ≡ next_in t z f size a b
  unfolding next_in
  next-free h = rw (le-ltb z size h) refl

-- ---- Looking up ------------------------------------------------------------------------------

module _ (t : List WriterRecord) where
  pub search-none : (m k i a b c : ℕ) → m ≡ 0 → 0 ≡ search_in t m k i a b c
  unfolding search_in
  search-none zero k i a b c e = refl
  search-none (suc m) k i a b c e = absurd (omega arith)

  pub search-end : (m k i a b c : ℕ) → k ≡ 0 → 0 ≡ search_in t m k i a b c
  unfolding search_in
  search-end zero k i a b c e = refl
  search-end (suc m) k i a b c e = rw (eq-eqb k 0 e) refl

  pub search-hit : (m k i a b c : ℕ) → m ≢ 0 → k ≢ 0 → fits_at t k i a b c ≡ true → k ≡ search_in t m k i a b c
  unfolding search_in
  search-hit zero k i a b c d n e = absurd (d refl)
  search-hit (suc m) k i a b c d n e = rw (ne_eqb k 0 n, e) refl

  pub search-on : (m k i a b c : ℕ) → m ≢ 0 → k ≢ 0 → fits_at t k i a b c ≡ false
      → search_in t (m - 1) (cell t bucket_field k) i a b c ≡ search_in t m k i a b c
  unfolding search_in
  search-on zero k i a b c d n e = absurd (d refl)
  search-on (suc m) k i a b c d n e =
      let p : suc m - 1 ≡ m = omega arith in
      ap (λ (l : ℕ). search_in t l (cell t bucket_field k) i a b c) p
      ∙ ap (λ (u : Bool). cond u k (search_in t m (cell t bucket_field k) i a b c)) (sym e)
      ∙ ap (λ (u : Bool). cond u 0 (cond (fits_at t k i a b c) k (search_in t m (cell t bucket_field k) i a b c))) (sym (ne_eqb k 0 n))

-- ---- Children --------------------------------------------------------------------------------

module _ (t : List WriterRecord) (f l c : ℕ) where
  pub orphan-none : c ≡ 0 → lane t f l ≡ orphan_in t f l c
  unfolding orphan_in
  orphan-none e = rw (eq-eqb c 0 e) refl

  pub orphan-kept : c ≢ 0 → cell t parents_field c ≢ 0 → lane t f l ≡ orphan_in t f l c
  unfolding orphan_in
  orphan-kept d e = rw (ne_eqb c 0 d, ne_eqb (cell t parents_field c) 0 e) refl

  pub orphan-joins : c ≢ 0 → cell t parents_field c ≡ 0 → link_in t queue_field f l c ≡ orphan_in t f l c
  unfolding orphan_in
  orphan-joins d e = rw (ne_eqb c 0 d, eq-eqb (cell t parents_field c) 0 e) refl

  pub adopt-none : c ≡ 0 → lane (more_in t c) f l ≡ adopt_in t f l c
  unfolding adopt_in
  adopt-none e = rw (eq-eqb c 0 e) refl

  pub adopt-kept : c ≢ 0 → cell t parents_field c ≢ 0 → lane (more_in t c) f l ≡ adopt_in t f l c
  unfolding adopt_in
  adopt-kept d e = rw (ne_eqb c 0 d, ne_eqb (cell t parents_field c) 0 e) refl

  pub adopt-leaves : c ≢ 0 → cell t parents_field c ≡ 0 → unlink_in (more_in t c) queue_field f l c ≡ adopt_in t f l c
  unfolding adopt_in
  adopt-leaves d e = rw (ne_eqb c 0 d, eq-eqb (cell t parents_field c) 0 e) refl

-- the first of two children, and the second if it is another
module _ (t : List WriterRecord) (f l x y : ℕ) (e : Lane) (o : e ≡ orphan_in (fewer_in (fewer_in t x) y) f l x) where
  pub orphans-same : x ≡ y → e ≡ orphans_in t f l x y
  unfolding orphans_in
  orphans-same d = o ∙ ap (λ (u : Bool). cond u (orphan_in (fewer_in (fewer_in t x) y) f l x) (second (orphan_in (fewer_in (fewer_in t x) y) f l x)))
      (sym (eq-eqb x y d))
    where
      second : Lane → Lane
      second e = orphan_in e.table e.first e.last y

  pub orphans-other : x ≢ y → orphan_in e.table e.first e.last y ≡ orphans_in t f l x y
  unfolding orphans_in
  orphans-other d = ap second o ∙ ap (λ (u : Bool). cond u (orphan_in (fewer_in (fewer_in t x) y) f l x)
      (second (orphan_in (fewer_in (fewer_in t x) y) f l x)))
      (sym (ne_eqb x y d))
    where
      second : Lane → Lane
      second e = orphan_in e.table e.first e.last y

-- ---- Storing ---------------------------------------------------------------------------------

module _ (t : List WriterRecord) (z f l k i a b c : ℕ) where
  pub store-next : z < k → place_in t f l k i a b c ≡ store_in t z f l k i a b c
  unfolding store_in
  store-next h = rw (lt-ltb z k h) refl

  pub store-again : (e : Lane) → k ≤ z → e ≡ release_in t f l k → place_in e.table e.first e.last k i a b c ≡ store_in t z f l k i a b c
  unfolding store_in
  store-again e h p =
      ap (λ (e : Lane). place_in e.table e.first e.last k i a b c) p
      ∙ ap (λ (u : Bool). onward (cond u (lane t f l) (release_in t f l k))) (sym (le-ltb z k h))
    where
      onward : Lane → Lane
      onward e = place_in e.table e.first e.last k i a b c
