-- What the steps of a storing do to the cells of the records: which cells stay, what the counts of parents come to, and that the queue
-- moves as that of UniqueTable does. Assumes nothing.
use Rattle.std.specs.Prelude.{◌≡◌, ◌≢◌, ◌⊎◌, Bool, ◌&&◌, ◌||◌, List, [], ◌∷◌, ◌++◌, ℕ, zero, suc, ◌+◌, ◌-◌, ◌≤◌, ◌<◌, length}
use Rattle.std.proofs.Math.Path.{refl, ap, subst⁻¹}
use Rattle.std.proofs.Common.{sym, ◌∙◌, subst, inl, inr, ⊎_elim, true≢false}
use Rattle.std.proofs.Math.Bool.{true, false, not, cond}
use Rattle.std.proofs.lemmas.Bool.{false≢true}
use native.Mathlib.Omega.{arith}
use Rattle.std.proofs.Math.Dec.{eqb, eqb-suc-zero}
use borrow.Author.Tests.{eqb-true, eqb-false, lt-ltb}
use Rattle.theory_lists.specs.Lists.{or-false, bit, has}
use Rattle.theory_reading.specs.Limits.{table_limit}
use Rattle.theory_reading.specs.Nodes.{Node, has_parent}
use Rattle.theory_writing.specs.UniqueTable.{without, orphaned}
use Rattle.theory_writing.specs.Links.{Links, Holds, all-absent, without-absent, holds-unlinks, holds-links}
use Rattle.theory_engine.specs.Cells.{cell, put_cell, length-put, cell_same, cell-number, cell_other}
use Rattle.writer_records.specs.Fields.{parents_field, queue_field, bucket_field}
use Rattle.theory_engine.specs.Freed.{orphaned-among, orphaned-twice}
use Rattle.theory_engine.specs.Recycling.{Lane, lane, unlink_in, link_in, more_in, fewer_in, orphan_in, orphans_in, adopt_in}
use Rattle.writer_numbers.specs.Numbers.{one_more}
use Rattle.theory_engine.specs.Lanes.{column-same, links_of, links-same, links-unlink, links-link, unlink-length, unlink-other}
use Rattle.theory_engine.specs.Lanes.{link-length, link-other}
use Rattle.node_records.specs.declared.WriterRecord.{WriterRecord}

-- ---- Cells that stay -------------------------------------------------------------------------

-- Only cells a .. b - 1 of a number may be others in u than in t
pub record Stays (a b : ℕ) (t u : List WriterRecord) : Type 0 where
  pub long : length u ≡ length t
  pub cells : (i k : ℕ) → (i < a) ⊎ (b ≤ i) → cell u i k ≡ cell t i k

-- no step
stays_all : (a b : ℕ) (t : List WriterRecord) → Stays a b t t
stays_all a b t = record { long = refl; cells = λ i k h. refl }

-- one step, and another
pub stays_then : (a b : ℕ) (t u v : List WriterRecord) → Stays a b t u → Stays a b u v → Stays a b t v
stays_then a b t u v x y =
    record {
      long = y.long ∙ x.long;
      cells = λ i k h. y.cells i k h ∙ x.cells i k h;
    }

-- said of more cells
pub stays-wider : (a b c d : ℕ) (t u : List WriterRecord) → c ≤ a → b ≤ d → Stays a b t u → Stays c d t u
stays-wider a b c d t u p q x =
    record {
      long = x.long;
      cells = λ i k h. x.cells i k (⊎_elim (λ (l : i < c). inl (omega arith)) (λ (l : d ≤ i). inr (omega arith)) h);
    }

-- a cell that stays is none of the others
apart : (a b i j : ℕ) → (i < a) ⊎ (b ≤ i) → a ≤ j → j < b → i ≢ j
apart a b i j (inl l) p q e = omega arith
apart a b i j (inr l) p q e = omega arith

-- one cell is put
pub stays_put : (t : List WriterRecord) (j k v : ℕ) → Stays j (suc j) t (put_cell t j k v)
stays_put t j k v =
    record {
      long = length-put t j k v;
      cells = λ i q h. cell_other t j k v i q (apart j (suc j) i j h (omega arith) (omega arith));
    }

-- a number leaves the queue; a number joins it
pub stays-unlink : (t : List WriterRecord) (f l k : ℕ) → Stays queue_field bucket_field t (unlink_in t queue_field f l k).table
stays-unlink t f l k =
    record {
      long = unlink-length t queue_field f l k;
      cells = λ i q h. unlink-other t 6 f l k i q (apart 6 8 i 6 h (omega arith) (omega arith))
          (apart 6 8 i 7 h (omega arith) (omega arith));
    }

pub stays-link : (t : List WriterRecord) (f l k : ℕ) → Stays queue_field bucket_field t (link_in t queue_field f l k).table
stays-link t f l k =
    record {
      long = link-length t queue_field f l k;
      cells = λ i q h. link-other t 6 f l k i q (apart 6 8 i 6 h (omega arith) (omega arith))
          (apart 6 8 i 7 h (omega arith) (omega arith));
    }

-- a number gets a parent more; it loses one
stays-more : (t : List WriterRecord) (c : ℕ) → Stays parents_field queue_field t (more_in t c)
unfolding more_in
stays-more t c = stays_put t parents_field c (one_more (cell t parents_field c))

stays-fewer : (t : List WriterRecord) (c : ℕ) → Stays parents_field queue_field t (fewer_in t c)
unfolding fewer_in
stays-fewer t c = stays_put t parents_field c (cell t parents_field c - 1)

-- a number joins the queue if it has no parent
stays-orphan : (t : List WriterRecord) (f l c : ℕ) → Stays queue_field bucket_field t (orphan_in t f l c).table
unfolding orphan_in
stays-orphan t f l c = go (eqb c 0 || not (eqb (cell t parents_field c) 0))
  where
    go : (b : Bool) → Stays queue_field bucket_field t (cond b (lane t f l) (link_in t queue_field f l c)).table
    go true = stays_all queue_field bucket_field t
    go false = stays-link t f l c

-- ---- The queue -------------------------------------------------------------------------------

-- the queue in these records, with these ends, is q
abbrev pub Held : Lane → List ℕ → Type 0
Held e q = Holds table_limit (links_of e.table queue_field e.first e.last) q

-- so it is in other records that have the same cells 6 and 7
pub held_same : (t u : List WriterRecord) (f l : ℕ) (q : List ℕ) → length u ≡ length t
    → ((i k : ℕ) → 6 ≤ i → i < 8 → cell u i k ≡ cell t i k) → Held (lane t f l) q → Held (lane u f l) q
held_same t u f l q e c h =
    subst⁻¹ (λ (y : Links). Holds table_limit y q)
    (links-same t u 6 f l (column-same t u 6 e (λ k. c 6 k (omega arith) (omega arith)))
    (column-same t u 7 e (λ k. c 7 k (omega arith) (omega arith)))) h

-- a number leaves; a number joins
pub held-unlink : (t : List WriterRecord) (f l k : ℕ) (q : List ℕ) → has k q ≡ true → Held (lane t f l) q
    → Held (unlink_in t queue_field f l k) (without k q)
held-unlink t f l k q i h =
    subst⁻¹ (λ (y : Links). Holds table_limit y (without k q)) (links-unlink t queue_field f l k (omega arith))
    (holds-unlinks table_limit (links_of t queue_field f l) q k h i)

pub held_link : (t : List WriterRecord) (f l k : ℕ) (q : List ℕ) → has k q ≡ false → k ≢ 0 → k ≤ table_limit
    → Held (lane t f l) q → Held (link_in t queue_field f l k) (q ++ (k ∷ []))
held_link t f l k q i d b h =
    subst⁻¹ (λ (y : Links). Holds table_limit y (q ++ (k ∷ []))) (links-link t queue_field f l k (omega arith) d)
    (holds-links table_limit (links_of t queue_field f l) q k h i d b)

-- a child joins if it has no parent
held-orphan : (t : List WriterRecord) (f l c : ℕ) (q : List ℕ) (ns : List Node) → c ≤ table_limit → (0 < c → has c q ≡ false)
    → (0 < c → has_parent ns c ≡ not (eqb (cell t parents_field c) 0)) → Held (lane t f l) q → Held (orphan_in t f l c) (orphaned ns c q)
unfolding orphan_in orphaned
held-orphan t f l zero q ns b i p h = h
held-orphan t f l (suc c) q ns b i p h =
    go (eqb (suc c) 0) (eqb (cell t parents_field (suc c)) 0) (has_parent ns (suc c)) (eqb-suc-zero c) (p (omega arith))
  where
    go : (u m r : Bool) → u ≡ false → r ≡ not m
        → Held (cond (u || not m) (lane t f l) (link_in t queue_field f l (suc c)))
        (elim r [ true ↦ q | false ↦ without (suc c) q ++ (suc c ∷ []) ])
    go true m r d e = absurd (true≢false d)
    go false true true d e = absurd (true≢false e)
    go false true false d e =
        subst⁻¹ (λ (y : List ℕ). Held (link_in t queue_field f l (suc c)) (y ++ (suc c ∷ []))) (without-absent (suc c) q (i (omega arith)))
        (held_link t f l (suc c) q (i (omega arith)) (λ z. omega (arith, z)) b h)
    go false false true d e = h
    go false false false d e = absurd (false≢true e)

-- a child leaves if it had no parent
pub held-adopt : (t : List WriterRecord) (f l c : ℕ) (q : List ℕ) → (0 < c → has c q ≡ eqb (cell t parents_field c) 0)
    → Held (lane t f l) q → Held (adopt_in t f l c) (without c q)
unfolding adopt_in
held-adopt t f l c q p h = go (eqb c 0) (eqb (cell t parents_field c) 0) refl p
  where
    more : Held (lane (more_in t c) f l) q
    more =
        held_same t (more_in t c) f l q (stays-more t c).long (λ i k a b. (stays-more t c).cells i k (inr (omega arith))) h

    absent : has c q ≡ false → Held (lane (more_in t c) f l) (without c q)
    absent e = subst⁻¹ (λ (y : List ℕ). Held (lane (more_in t c) f l) y) (without-absent c q e) more

    go : (u m : Bool) → eqb c 0 ≡ u → (0 < c → has c q ≡ m)
        → Held (cond (u || not m) (lane (more_in t c) f l) (unlink_in (more_in t c) queue_field f l c)) (without c q)
    go true m d p =
        absent (subst⁻¹ (λ (j : ℕ). has j q ≡ false) (eqb-true c 0 d) (all-absent 0 q h.real))
    go false true d p =
        held-unlink (more_in t c) f l c q (p (omega (arith, eqb-false c 0 d))) more
    go false false d p = absent (p (omega (arith, eqb-false c 0 d)))

-- ---- A parent more or less -------------------------------------------------------------------

module _ (t : List WriterRecord) (c x : ℕ) (l : c ≤ length t) (r : 0 < x) where
  -- c gets one more
  more-count : cell t parents_field x < 4294967295 → cell (more_in t c) parents_field x ≡ cell t parents_field x + bit (eqb c x)
  unfolding more_in
  more-count b = go (eqb c x) refl
    where
      go : (u : Bool) → eqb c x ≡ u → cell (put_cell t parents_field c (one_more (cell t parents_field c))) parents_field x ≡ cell t parents_field x + bit u
      go true e =
          ap (λ (j : ℕ). cell (put_cell t parents_field j (one_more (cell t parents_field j))) parents_field x) (eqb-true c x e)
          ∙ cell_same t parents_field x (one_more (cell t parents_field x)) (omega arith) r (omega (arith, l, eqb-true c x e))
          ∙ ap (λ (s : Bool). cond s (cell t parents_field x + 1) (cell t parents_field x)) (lt-ltb (cell t parents_field x) 4294967295 b)
      go false e =
          cell-number t parents_field c (one_more (cell t parents_field c)) parents_field x (λ d. eqb-false c x e (sym d)) ∙ omega arith

  -- c loses one
  fewer-count : cell (fewer_in t c) parents_field x ≡ cell t parents_field x - bit (eqb c x)
  unfolding fewer_in
  fewer-count = go (eqb c x) refl
    where
      go : (u : Bool) → eqb c x ≡ u → cell (put_cell t parents_field c (cell t parents_field c - 1)) parents_field x ≡ cell t parents_field x - bit u
      go true e =
          ap (λ (j : ℕ). cell (put_cell t parents_field j (cell t parents_field j - 1)) parents_field x) (eqb-true c x e)
          ∙ cell_same t parents_field x (cell t parents_field x - 1) (omega arith) r (omega (arith, l, eqb-true c x e))
      go false e = cell-number t parents_field c (cell t parents_field c - 1) parents_field x (λ d. eqb-false c x e (sym d)) ∙ omega arith

-- ---- The old children ------------------------------------------------------------------------

module _ (t : List WriterRecord) (f l x y : ℕ) where
  -- both have lost a parent
  v : List WriterRecord
  v = fewer_in (fewer_in t x) y

  -- so only counts are others
  stays-both : Stays parents_field queue_field t v
  unfolding v
  stays-both = stays_then parents_field queue_field t (fewer_in t x) (fewer_in (fewer_in t x) y) (stays-fewer t x) (stays-fewer (fewer_in t x) y)

  -- the first has joined
  e : Lane
  e = orphan_in v f l x

  -- and the second, unless they are one: then only cells of the queue are others
  ends : Stays queue_field bucket_field v (orphans_in t f l x y).table
  unfolding orphans_in v e
  ends = go (eqb x y)
    where
      go : (b : Bool) → Stays queue_field bucket_field v (cond b e (orphan_in e.table e.first e.last y)).table
      go true = stays-orphan v f l x
      go false =
          stays_then queue_field bucket_field v e.table (orphan_in e.table e.first e.last y).table (stays-orphan v f l x)
          (stays-orphan e.table e.first e.last y)

  -- the cells that stay
  pub stays-orphans : Stays parents_field bucket_field t (orphans_in t f l x y).table
  stays-orphans =
      stays_then parents_field bucket_field t v (orphans_in t f l x y).table
      (stays-wider parents_field queue_field parents_field bucket_field t v (omega arith) (omega arith) stays-both)
      (stays-wider queue_field bucket_field parents_field bucket_field v (orphans_in t f l x y).table (omega arith) (omega arith) ends)

  -- the counts
  pub orphans-count : x ≤ length t → y ≤ length t → (c : ℕ) → 0 < c
      → cell (orphans_in t f l x y).table parents_field c ≡ cell t parents_field c - bit (eqb x c) - bit (eqb y c)
  unfolding v
  orphans-count p q c r = ends.cells 5 c (inl (omega arith)) ∙ both
    where
      both : cell v parents_field c ≡ cell t parents_field c - bit (eqb x c) - bit (eqb y c)
      both =
          fewer-count (fewer_in t x) y c (omega (arith, q, (stays-fewer t x).long)) r
          ∙ ap (λ (a : ℕ). a - bit (eqb y c)) (fewer-count t x c p r)

  -- the queue: ns is the table in which the counts of both children are true
  pub held-orphans : (q : List ℕ) (ns : List Node) → x ≤ table_limit → y ≤ table_limit
      → (0 < x → has x q ≡ false) → (0 < y → has y q ≡ false)
      → (0 < x → has_parent ns x ≡ not (eqb (cell (orphans_in t f l x y).table parents_field x) 0))
      → (0 < y → has_parent ns y ≡ not (eqb (cell (orphans_in t f l x y).table parents_field y) 0))
      → Held (lane t f l) q → Held (orphans_in t f l x y) (orphaned ns y (orphaned ns x q))
  unfolding orphans_in v e
  held-orphans q ns p r i j m n h = go (eqb x y) refl
    where
      first : Held e (orphaned ns x q)
      first =
          held-orphan v f l x q ns p i
          (λ a. m a ∙ ap (λ (b : ℕ). not (eqb b 0)) (ends.cells 5 x (inl (omega arith))))
          (held_same t v f l q stays-both.long (λ i k a b. stays-both.cells i k (inr (omega arith))) h)

      absent : eqb x y ≡ false → 0 < y → has y (orphaned ns x q) ≡ false
      absent d a =
          orphaned-among ns y x q a ∙ ap (λ (b : Bool). has y q || (b && not (has_parent ns y))) d ∙ or-false (j a) refl

      go : (b : Bool) → eqb x y ≡ b
          → Held (cond b e (orphan_in e.table e.first e.last y)) (orphaned ns y (orphaned ns x q))
      go true d =
          subst (λ (z : ℕ). Held e (orphaned ns z (orphaned ns x q))) (eqb-true x y d)
          (subst⁻¹ (λ (z : List ℕ). Held e z) (orphaned-twice ns x q) first)
      go false d =
          held-orphan e.table e.first e.last y (orphaned ns x q) ns r
          (absent d)
          (λ a. n a ∙ ap (λ (b : ℕ). not (eqb b 0))
          (ends.cells 5 y (inl (omega arith)) ∙ sym ((stays-orphan v f l x).cells 5 y (inl (omega arith)))))
          first

-- ---- The new children ------------------------------------------------------------------------

module _ (t : List WriterRecord) (f l c : ℕ) where
  -- after the count, only cells of the queue are others
  ends-adopt : Stays queue_field bucket_field (more_in t c) (adopt_in t f l c).table
  unfolding adopt_in
  ends-adopt = go (eqb c 0 || not (eqb (cell t parents_field c) 0))
    where
      go : (b : Bool) → Stays queue_field bucket_field (more_in t c) (cond b (lane (more_in t c) f l) (unlink_in (more_in t c) queue_field f l c)).table
      go true = stays_all queue_field bucket_field (more_in t c)
      go false = stays-unlink (more_in t c) f l c

  -- the cells that stay
  pub stays-adopt : Stays parents_field bucket_field t (adopt_in t f l c).table
  stays-adopt =
      stays_then parents_field bucket_field t (more_in t c) (adopt_in t f l c).table
      (stays-wider parents_field queue_field parents_field bucket_field t (more_in t c) (omega arith) (omega arith) (stays-more t c))
      (stays-wider queue_field bucket_field parents_field bucket_field (more_in t c) (adopt_in t f l c).table (omega arith) (omega arith) ends-adopt)

  -- the counts
  pub adopt-count : c ≤ length t → (x : ℕ) → 0 < x → cell t parents_field x < 4294967295
      → cell (adopt_in t f l c).table parents_field x ≡ cell t parents_field x + bit (eqb c x)
  adopt-count p x r b = ends-adopt.cells 5 x (inl (omega arith)) ∙ more-count t c x p r b
