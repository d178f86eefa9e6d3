-- The unique table in buckets: each number that is given out is linked in the bucket of its node, so looking a node up goes through one
-- bucket. Assumes nothing.
use Rattle.std.specs.Prelude.{◌≡◌, ◌≢◌, ◌⊎◌, Bool, true, false, not, cond, ◌&&◌, eqb, leb, length, get_or}
use Rattle.std.proofs.Math.Path.{refl, sym, subst, subst⁻¹}
use Rattle.std.proofs.Common.{ap, ap₂, ◌∙◌, inr, ⊎_elim, true≢false, mod-lt, arith, eqb-true, leb-true, eq-eqb, ne_eqb, le-leb}
use Rattle.std.proofs.Math.Logic.{inl}
use Rattle.std.proofs.lemmas.Bool.{false≢true, eqb-false, not-true}
use mathlib.Core.List.{List, [], ◌∷◌, ◌++◌}
use Prim.Native.Nat.{ℕ, zero, suc, ◌+◌, ◌%◌, ◌≤◌, ◌<◌}
use Rattle.theory_lists.specs.Lists.{and_l, and_r, and-true, or_left, or_right, is_false, decide_eq, All, has, has-append, has_last, all-has}
use Rattle.theory_reading.specs.Limits.{table_limit}
use Rattle.theory_reading.specs.LimitLaws.{some-record}
use Rattle.theory_writing.specs.UniqueTable.{without}
use Rattle.theory_writing.specs.Links.{Links, unlinked, linked, first_of, after, before, Chain, Holds, among-without-same, among-without, holds-head}
use Rattle.theory_writing.specs.Links.{holds-next, holds-none, holds-unlinks, holds-links}
use Rattle.theory_engine.specs.Cells.{cell, put_cell, length-put, cell_same, cell-number, cell_other}
use Rattle.writer_records.specs.Fields.{level_field, first_field, second_field, complement_field, bucket_field, head_field, tail_field}
use Rattle.theory_engine.specs.Recycling.{Lane, unlink_in, link_in, bucket_at, fits_at, search_in, find_in, ends_to, insert_in}
use Rattle.writer_numbers.specs.Hashing.{mix_of, bucket_of}
use Rattle.theory_engine.specs.Recycling.{remove_in}
use Rattle.theory_engine.specs.Lanes.{column, column-cell, column-length, column-same, links_of, links-same, links-unlink, links-link}
use Rattle.theory_engine.specs.Lanes.{unlink-length, unlink-other, unlink-next, unlink-prev, link-length, link-other}
use Rattle.theory_engine.specs.Lanes.{link-next, link-prev}
use Rattle.theory_engine.specs.BucketLinks.{has_all, has-before, distinct-length, holds_same, holds-prev, holds-last}
use Rattle.node_records.specs.declared.WriterRecord.{WriterRecord}

-- The numbers that are in a bucket: 1 .. z but for j (0: none is left out)
abbrev pub inserted : ℕ → ℕ → ℕ → Bool
inserted z j k = not (eqb k 0) && (leb k z && not (eqb k j))

-- the bucket of place h has, each once, exactly the shelved numbers whose nodes belong to it
pub record Bucket (t : List WriterRecord) (z j h : ℕ) : Type 0 where
  pub members : List ℕ
  pub held : Holds table_limit (links_of t bucket_field (cell t head_field h) (cell t tail_field h)) members
  pub belong : (k : ℕ) → has k members ≡ true → (inserted z j k ≡ true) × (bucket_at t k ≡ h)
  pub complete : (k : ℕ) → inserted z j k ≡ true → bucket_at t k ≡ h → has k members ≡ true

abbrev pub Buckets : List WriterRecord → ℕ → ℕ → Type 0
Buckets t z j = (h : ℕ) → 0 < h → h ≤ table_limit → Bucket t z j h

-- ---- The bucket of a node --------------------------------------------------------------------

-- it is the place of a record
pub bucket-range : (i a b c : ℕ) → (0 < bucket_of i a b c) × (bucket_of i a b c ≤ table_limit)
bucket-range i a b c =
    let x = mix_of i a b c in
    let low : x % 4294967296 < 4294967296 = mod-lt x (omega arith) in (omega arith, omega (arith, low, some-record))

-- ---- The numbers in a bucket -----------------------------------------------------------------

-- as facts on numbers, and back
pub inserted-in : (z j k : ℕ) → inserted z j k ≡ true → (k ≢ 0) × (k ≤ z) × (k ≢ j)
inserted-in z j k e =
    let r = and_r (not (eqb k 0)) (leb k z && not (eqb k j)) e in (
      eqb-false k 0 (not-true (eqb k 0) (and_l (not (eqb k 0)) (leb k z && not (eqb k j)) e)),
      leb-true k z (and_l (leb k z) (not (eqb k j)) r),
      eqb-false k j (not-true (eqb k j) (and_r (leb k z) (not (eqb k j)) r)),
    )

pub in-inserted : (z j k : ℕ) → k ≢ 0 → k ≤ z → k ≢ j → inserted z j k ≡ true
in-inserted z j k d l n = and-true (ap not (ne_eqb k 0 d)) (and-true (le-leb k z l) (ap not (ne_eqb k j n)))

-- ---- Buckets that stay -----------------------------------------------------------------------

-- a number with the same node has the same bucket
pub bucket-same : (t u : List WriterRecord) (k : ℕ) → ((i : ℕ) → i < 4 → cell u i k ≡ cell t i k) → bucket_at u k ≡ bucket_at t k
bucket-same t u k h =
    ap₂ (λ (i a : ℕ). bucket_of i a (cell u second_field k) (cell u complement_field k)) (h level_field (omega arith)) (h first_field (omega arith))
    ∙ ap₂ (λ (b c : ℕ). bucket_of (cell t level_field k) (cell t first_field k) b c) (h second_field (omega arith)) (h complement_field (omega arith))

-- a bucket stays if its ends, the links of its members and which numbers belong to it stay
bucket-kept : (t u : List WriterRecord) (z y i j h : ℕ) (b : Bucket t z i h) → length u ≡ length t
    → (cell u head_field h ≡ cell t head_field h) × (cell u tail_field h ≡ cell t tail_field h)
    → ((k : ℕ) → has k b.members ≡ true → (cell u bucket_field k ≡ cell t bucket_field k)
    × (cell u (bucket_field + 1) k ≡ cell t (bucket_field + 1) k))
    → ((k : ℕ) → inserted z i k ≡ true → bucket_at t k ≡ h → (inserted y j k ≡ true) × (bucket_at u k ≡ h))
    → ((k : ℕ) → inserted y j k ≡ true → bucket_at u k ≡ h → (inserted z i k ≡ true) × (bucket_at t k ≡ h))
    → Bucket u y j h
unfolding links_of
bucket-kept t u z y i j h b n e s f g = record {
  members = b.members;
  held =
      holds_same table_limit (links_of t bucket_field (cell t head_field h) (cell t tail_field h))
      (links_of u bucket_field (cell u head_field h) (cell u tail_field h)) b.members
      (long 8) (long 9) e.0 e.1 (λ k m. (place 8 k (s k m).0, place 9 k (s k m).1)) b.held;
  belong = λ k m. let w = b.belong k m in f k w.0 w.1;
  complete = λ k m r. let w = g k m r in b.complete k w.0 w.1;
}
  where
    long : (j : ℕ) → length (column j u) ≡ length (column j t)
    long j = column-length u j ∙ ap suc n ∙ sym (column-length t j)

    place : (j k : ℕ) → cell u j k ≡ cell t j k → get_or (column j u) k 0 ≡ get_or (column j t) k 0
    place j k e = column-cell u j k ∙ e ∙ sym (column-cell t j k)

-- if cells 8 .. 11 and the nodes of the numbers in buckets are the same
pub buckets-same : (t u : List WriterRecord) (z j : ℕ) → length u ≡ length t → ((i k : ℕ) → 8 ≤ i → cell u i k ≡ cell t i k)
    → ((i k : ℕ) → i < 4 → inserted z j k ≡ true → cell u i k ≡ cell t i k) → Buckets t z j → Buckets u z j
buckets-same t u z j n e s b h r l =
    bucket-kept t u z z j j h (b h r l) n (e 10 h (omega arith), e 11 h (omega arith))
    (λ k m. (e 8 k (omega arith), e 9 k (omega arith)))
    (λ k m w. (m, at k m ∙ w)) (λ k m w. (m, sym (at k m) ∙ w))
  where
    at : (k : ℕ) → inserted z j k ≡ true → bucket_at u k ≡ bucket_at t k
    at k m = bucket-same t u k (λ i c. s i k c m)

-- one number more is given out, in no bucket yet
pub buckets-next : (t : List WriterRecord) (z : ℕ) → Buckets t z 0 → Buckets t (suc z) (suc z)
buckets-next t z b h r l =
    bucket-kept t t z (suc z) 0 (suc z) h (b h r l) refl (refl, refl) (λ k m. (refl, refl))
    (λ k m w. let d = inserted-in z 0 k m in
    (in-inserted (suc z) (suc z) k d.0 (omega (arith, d.1)) (λ e. omega (arith, d.1, e)), w))
    (λ k m w. let d = inserted-in (suc z) (suc z) k m in (in-inserted z 0 k d.0 (omega (arith, d.1, d.2)) d.0, w))

-- no number is given out
pub buckets-none : (t : List WriterRecord) → table_limit ≤ length t → ((i k : ℕ) → cell t i k ≡ 0) → Buckets t 0 0
unfolding links_of
buckets-none t l e h r s = record {
  members = [];
  held =
      holds-none table_limit (links_of t bucket_field (cell t head_field h) (cell t tail_field h)) (omega (arith, l, column-length t bucket_field))
      (omega (arith, l, column-length t (bucket_field + 1))) (e 10 h) (e 11 h);
  belong = λ k m. absurd (false≢true m);
  complete = λ k m w. let d = inserted-in 0 0 k m in absurd (d.0 (omega (arith, d.1)));
}

-- ---- New ends --------------------------------------------------------------------------------

module _ (h : ℕ) (e : Lane) where
  -- each record has twelve cells, there are as many records
  ends-length : length (ends_to h e) ≡ length e.table
  ends-length = length-put (put_cell e.table head_field h e.first) tail_field h e.last ∙ length-put e.table head_field h e.first

  -- the other cells, the other numbers
  ends-other : (i q : ℕ) → i < 10 → cell (ends_to h e) i q ≡ cell e.table i q
  ends-other i q l =
      cell_other (put_cell e.table head_field h e.first) tail_field h e.last i q (λ s. omega (arith, l, s))
      ∙ cell_other e.table head_field h e.first i q (λ s. omega (arith, l, s))

  ends-number : (i q : ℕ) → q ≢ h → cell (ends_to h e) i q ≡ cell e.table i q
  ends-number i q d =
      cell-number (put_cell e.table head_field h e.first) tail_field h e.last i q d ∙ cell-number e.table head_field h e.first i q d

  -- the links with these ends
  ends-links : 0 < h → h ≤ length e.table
      → links_of (ends_to h e) bucket_field (cell (ends_to h e) head_field h) (cell (ends_to h e) tail_field h)
      ≡ links_of e.table bucket_field e.first e.last
  ends-links p l =
      let u = put_cell e.table head_field h e.first in
      let m : h ≤ length u = omega (arith, l, length-put e.table head_field h e.first) in
      ap₂ (links_of (ends_to h e) bucket_field)
      (cell_other u tail_field h e.last head_field h (λ s. omega (arith, s)) ∙ cell_same e.table head_field h e.first (omega arith) p l)
      (cell_same u tail_field h e.last (omega arith) p m)
      ∙ links-same e.table (ends_to h e) 8 e.first e.last (same 8 (omega arith)) (same 9 (omega arith))
    where
      same : (i : ℕ) → i < 10 → column i (ends_to h e) ≡ column i e.table
      same i l = column-same e.table (ends_to h e) i ends-length (λ q. ends-other i q l)

-- ---- What stays when a number leaves or joins its bucket -------------------------------------

module _ (t : List WriterRecord) (k : ℕ) where
  -- the first and the last of its bucket
  f : ℕ
  f = cell t head_field (bucket_at t k)

  l : ℕ
  l = cell t tail_field (bucket_at t k)

  -- each record has twelve cells, there are as many records
  pub remove-length : length (remove_in t k) ≡ length t
  unfolding remove_in f l
  remove-length = ends-length (bucket_at t k) (unlink_in t bucket_field f l k) ∙ unlink-length t bucket_field f l k

  -- the cells before those of buckets
  pub remove-other : (i q : ℕ) → i < 8 → cell (remove_in t k) i q ≡ cell t i q
  unfolding remove_in f l
  remove-other i q s =
      ends-other (bucket_at t k) (unlink_in t bucket_field f l k) i q (omega (arith, s))
      ∙ unlink-other t 8 f l k i q (λ e. omega (arith, s, e)) (λ e. omega (arith, s, e))

  -- the same when k joins
  pub insert-length : length (insert_in t k) ≡ length t
  unfolding insert_in f l
  insert-length = ends-length (bucket_at t k) (link_in t bucket_field f l k) ∙ link-length t bucket_field f l k

  pub insert-other : (i q : ℕ) → i < 8 → cell (insert_in t k) i q ≡ cell t i q
  unfolding insert_in f l
  insert-other i q s =
      ends-other (bucket_at t k) (link_in t bucket_field f l k) i q (omega (arith, s))
      ∙ link-other t 8 f l k i q (λ e. omega (arith, s, e)) (λ e. omega (arith, s, e))

  -- the links of all but the neighbours, the ends of other buckets
  remove-next : (q : ℕ) → q ≢ cell t (bucket_field + 1) k → cell (remove_in t k) bucket_field q ≡ cell t bucket_field q
  unfolding remove_in f l
  remove-next q d = ends-other (bucket_at t k) (unlink_in t bucket_field f l k) bucket_field q (omega arith) ∙ unlink-next t bucket_field f l k q d

  remove-prev : (q : ℕ) → q ≢ cell t bucket_field k → cell (remove_in t k) (bucket_field + 1) q ≡ cell t (bucket_field + 1) q
  unfolding remove_in f l
  remove-prev q d = ends-other (bucket_at t k) (unlink_in t bucket_field f l k) (bucket_field + 1) q (omega arith) ∙ unlink-prev t bucket_field f l k q d

  remove-ends : (i h : ℕ) → 10 ≤ i → h ≢ bucket_at t k → cell (remove_in t k) i h ≡ cell t i h
  unfolding remove_in f l
  remove-ends i h s d =
      ends-number (bucket_at t k) (unlink_in t bucket_field f l k) i h d
      ∙ unlink-other t 8 f l k i h (λ e. omega (arith, s, e)) (λ e. omega (arith, s, e))

  -- the links of all but k and the last, the ends of other buckets
  insert-next : (q : ℕ) → q ≢ k → q ≢ cell t tail_field (bucket_at t k) → cell (insert_in t k) bucket_field q ≡ cell t bucket_field q
  unfolding insert_in f l
  insert-next q c d = ends-other (bucket_at t k) (link_in t bucket_field f l k) bucket_field q (omega arith) ∙ link-next t bucket_field f l k q c d

  insert-prev : (q : ℕ) → q ≢ k → cell (insert_in t k) (bucket_field + 1) q ≡ cell t (bucket_field + 1) q
  unfolding insert_in f l
  insert-prev q c = ends-other (bucket_at t k) (link_in t bucket_field f l k) (bucket_field + 1) q (omega arith) ∙ link-prev t bucket_field f l k q c

  insert-ends : (i h : ℕ) → 10 ≤ i → h ≢ bucket_at t k → cell (insert_in t k) i h ≡ cell t i h
  unfolding insert_in f l
  insert-ends i h s d =
      ends-number (bucket_at t k) (link_in t bucket_field f l k) i h d
      ∙ link-other t 8 f l k i h (λ e. omega (arith, s, e)) (λ e. omega (arith, s, e))

-- ---- The links of a bucket -------------------------------------------------------------------

-- the bucket with place h
abbrev links_at : List WriterRecord → ℕ → Links
links_at t h = links_of t bucket_field (cell t head_field h) (cell t tail_field h)

-- k leaves, or joins
remove-links : (t : List WriterRecord) (k : ℕ) → table_limit ≤ length t
    → links_at (remove_in t k) (bucket_at t k) ≡ unlinked (links_at t (bucket_at t k)) k
unfolding remove_in
remove-links t k long =
    let h = bucket_at t k in
    let r = bucket-range (cell t level_field k) (cell t first_field k) (cell t second_field k) (cell t complement_field k) in
    ends-links h (unlink_in t bucket_field (cell t head_field h) (cell t tail_field h) k) r.0
    (omega (arith, r.1, long, unlink-length t bucket_field (cell t head_field h) (cell t tail_field h) k))
    ∙ links-unlink t bucket_field (cell t head_field h) (cell t tail_field h) k (omega arith)

insert-links : (t : List WriterRecord) (k : ℕ) → table_limit ≤ length t → k ≢ 0
    → links_at (insert_in t k) (bucket_at t k) ≡ linked (links_at t (bucket_at t k)) k
unfolding insert_in
insert-links t k long d =
    let h = bucket_at t k in
    let r = bucket-range (cell t level_field k) (cell t first_field k) (cell t second_field k) (cell t complement_field k) in
    ends-links h (link_in t bucket_field (cell t head_field h) (cell t tail_field h) k) r.0
    (omega (arith, r.1, long, link-length t bucket_field (cell t head_field h) (cell t tail_field h) k))
    ∙ links-link t bucket_field (cell t head_field h) (cell t tail_field h) k (omega arith) d

-- the neighbours of a member and the last are members or 0
module _ (t : List WriterRecord) (z j h : ℕ) (b : Bucket t z j h) where
  member-next : (k : ℕ) → has k b.members ≡ true → cell t bucket_field k ≢ 0 → has (cell t bucket_field k) b.members ≡ true
  unfolding links_of
  member-next k i d =
      subst (λ (x : ℕ). has x b.members ≡ true) (column-cell t bucket_field k)
      (holds-next table_limit (links_at t h) b.members k b.held i (λ e. d (sym (column-cell t bucket_field k) ∙ e)))

  member-prev : (k : ℕ) → has k b.members ≡ true → cell t (bucket_field + 1) k ≢ 0 → has (cell t (bucket_field + 1) k) b.members ≡ true
  unfolding links_of
  member-prev k i d =
      subst (λ (x : ℕ). has x b.members ≡ true) (column-cell t (bucket_field + 1) k)
      (holds-prev table_limit (links_at t h) b.members k b.held i (λ e. d (sym (column-cell t (bucket_field + 1) k) ∙ e)))

  member-last : cell t tail_field h ≢ 0 → has (cell t tail_field h) b.members ≡ true
  unfolding links_of
  member-last d = holds-last table_limit (links_at t h) b.members b.held d

  -- so a member of another bucket is none of them
  member_apart : (g : ℕ) → g ≢ h → (c : Bucket t z j g) (p x : ℕ) → (x ≢ 0 → has x b.members ≡ true) → has p c.members ≡ true
      → p ≢ x
  member_apart g d c p x m i e =
      let w = c.belong p i in
      d (sym w.1 ∙ ap (bucket_at t) e ∙ (b.belong x (m (λ s. (inserted-in z j p w.0).0 (e ∙ s)))).1)

-- ---- A number leaves or joins ----------------------------------------------------------------

-- k leaves its bucket: then it is the number left out
pub buckets-unlink : (t : List WriterRecord) (z k : ℕ) → table_limit ≤ length t → z ≤ table_limit → 0 < k → k ≤ z → Buckets t z 0
    → Buckets (remove_in t k) z k
buckets-unlink t z k long few p m bs g r s =
    ⊎_elim (λ (e : g ≡ h). subst⁻¹ (Bucket u z k) e here) (λ (d : g ≢ h). other d) (decide_eq g h)
  where
    h : ℕ
    h = bucket_at t k

    u : List WriterRecord
    u = remove_in t k

    at : (q : ℕ) → bucket_at u q ≡ bucket_at t q
    at q = bucket-same t u q (λ i l. remove-other t k i q (omega (arith, l)))

    own : Bucket t z 0 h
    own = let c = bucket-range (cell t level_field k) (cell t first_field k) (cell t second_field k) (cell t complement_field k) in bs h c.0 c.1

    in-own : has k own.members ≡ true
    in-own = own.complete k (in-inserted z 0 k (λ e. omega (arith, p, e)) m (λ e. omega (arith, p, e))) refl

    here : Bucket u z k h
    here = record {
      members = without k own.members;
      held =
          subst⁻¹ (λ (x : Links). Holds table_limit x (without k own.members)) (remove-links t k long)
          (holds-unlinks table_limit (links_at t h) own.members k own.held in-own);
      belong =
          λ q i. let d : q ≢ k =
          λ e. true≢false (sym i ∙ ap (λ (x : ℕ). has x (without k own.members)) e ∙ among-without-same k own.members) in
          let c = own.belong q (sym (among-without q k own.members d) ∙ i) in
          let v = inserted-in z 0 q c.0 in (in-inserted z k q v.0 v.1 d, at q ∙ c.1);
      complete =
          λ q i e. let v = inserted-in z k q i in
          among-without q k own.members v.2
          ∙ own.complete q (in-inserted z 0 q v.0 v.1 v.0) (sym (at q) ∙ e);
    }

    other : g ≢ h → Bucket u z k g
    other d =
        let c = bs g r s in
        bucket-kept t u z z 0 k g c (remove-length t k)
        (remove-ends t k 10 g (omega arith) d, remove-ends t k 11 g (omega arith) d)
        (λ q i. (
          remove-next t k q (member_apart t z 0 h own g d c q (cell t (bucket_field + 1) k) (member-prev t z 0 h own k in-own) i),
          remove-prev t k q (member_apart t z 0 h own g d c q (cell t bucket_field k) (member-next t z 0 h own k in-own) i),
        ))
        (λ q i e. let v = inserted-in z 0 q i in
        (in-inserted z k q v.0 v.1 (λ a. d (sym e ∙ ap (bucket_at t) a)), at q ∙ e))
        (λ q i e. let v = inserted-in z k q i in (in-inserted z 0 q v.0 v.1 v.0, sym (at q) ∙ e))

-- the number left out joins its bucket: then none is left out
pub buckets-link : (t : List WriterRecord) (z k : ℕ) → table_limit ≤ length t → z ≤ table_limit → 0 < k → k ≤ z → Buckets t z k
    → Buckets (insert_in t k) z 0
buckets-link t z k long few p m bs g r s =
    ⊎_elim (λ (e : g ≡ h). subst⁻¹ (Bucket u z 0) e here) (λ (d : g ≢ h). other d) (decide_eq g h)
  where
    h : ℕ
    h = bucket_at t k

    u : List WriterRecord
    u = insert_in t k

    at : (q : ℕ) → bucket_at u q ≡ bucket_at t q
    at q = bucket-same t u q (λ i l. insert-other t k i q (omega (arith, l)))

    real : k ≢ 0
    real e = omega (arith, p, e)

    own : Bucket t z k h
    own = let c = bucket-range (cell t level_field k) (cell t first_field k) (cell t second_field k) (cell t complement_field k) in bs h c.0 c.1

    -- no bucket has k
    out : (j : ℕ) (c : Bucket t z k j) (q : ℕ) → has q c.members ≡ true → q ≢ k
    out j c q i = (inserted-in z k q (c.belong q i).0).2

    out-own : has k own.members ≡ false
    out-own = is_false (has k own.members) (λ i. out h own k i refl)

    belongs : (q : ℕ) → (q ≡ k) ⊎ (q ≢ k) → has q (own.members ++ (k ∷ [])) ≡ true → (inserted z 0 q ≡ true) × (bucket_at u q ≡ h)
    belongs q (inl e) i =
        (in-inserted z 0 q (λ a. real (sym e ∙ a)) (omega (arith, e, m)) (λ a. real (sym e ∙ a)), at q ∙ ap (bucket_at t) e)
    belongs q (inr d) i =
        let c = own.belong q (has-before q k own.members d i) in
        let v = inserted-in z k q c.0 in (in-inserted z 0 q v.0 v.1 v.0, at q ∙ c.1)

    completes : (q : ℕ) → (q ≡ k) ⊎ (q ≢ k) → inserted z 0 q ≡ true → bucket_at u q ≡ h → has q (own.members ++ (k ∷ [])) ≡ true
    completes q (inl e) i c = subst⁻¹ (λ (x : ℕ). has x (own.members ++ (k ∷ [])) ≡ true) e (has_last k own.members)
    completes q (inr d) i c =
        let v = inserted-in z 0 q i in
        has-append q own.members (k ∷ []) (own.complete q (in-inserted z k q v.0 v.1 d) (sym (at q) ∙ c))

    here : Bucket u z 0 h
    here = record {
      members = own.members ++ (k ∷ []);
      held =
          subst⁻¹ (λ (x : Links). Holds table_limit x (own.members ++ (k ∷ []))) (insert-links t k long real)
          (holds-links table_limit (links_at t h) own.members k own.held out-own real (omega (arith, few, m)));
      belong = λ q. belongs q (decide_eq q k);
      complete = λ q. completes q (decide_eq q k);
    }

    other : g ≢ h → Bucket u z 0 g
    other d =
        let c = bs g r s in
        bucket-kept t u z z k 0 g c (insert-length t k)
        (insert-ends t k 10 g (omega arith) d, insert-ends t k 11 g (omega arith) d)
        (λ q i. (
          insert-next t k q (out g c q i) (member_apart t z k h own g d c q (cell t tail_field h) (member-last t z k h own) i),
          insert-prev t k q (out g c q i),
        ))
        (λ q i e. let v = inserted-in z k q i in (in-inserted z 0 q v.0 v.1 v.0, at q ∙ e))
        (λ q i e. let v = inserted-in z 0 q i in
        let a : bucket_at t q ≡ g = sym (at q) ∙ e in
        (in-inserted z k q v.0 v.1 (λ b. d (sym a ∙ ap (bucket_at t) b)), a))

-- ---- Looking up ------------------------------------------------------------------------------

-- a number fits if its cells are those
pub fits-cells : (t : List WriterRecord) (k i a b c : ℕ) → fits_at t k i a b c ≡ true
    → (cell t level_field k ≡ i) × (cell t first_field k ≡ a) × (cell t second_field k ≡ b) × (cell t complement_field k ≡ c)
fits-cells t k i a b c e =
    let e₁ = and_r (eqb (cell t level_field k) i) _ e in
    let e₂ = and_r (eqb (cell t first_field k) a) _ e₁ in (
      eqb-true (cell t level_field k) i (and_l (eqb (cell t level_field k) i) _ e),
      eqb-true (cell t first_field k) a (and_l (eqb (cell t first_field k) a) _ e₁),
      eqb-true (cell t second_field k) b (and_l (eqb (cell t second_field k) b) _ e₂),
      eqb-true (cell t complement_field k) c (and_r (eqb (cell t second_field k) b) _ e₂),
    )

pub cells_fit : (t : List WriterRecord) (k i a b c : ℕ) → cell t level_field k ≡ i → cell t first_field k ≡ a
    → cell t second_field k ≡ b → cell t complement_field k ≡ c
    → fits_at t k i a b c ≡ true
cells_fit t k i a b c e₀ e₁ e₂ e₃ =
    and-true (eq-eqb (cell t level_field k) i e₀)
    (and-true (eq-eqb (cell t first_field k) a e₁) (and-true (eq-eqb (cell t second_field k) b e₂) (eq-eqb (cell t complement_field k) c e₃)))

-- what the search in a list of numbers came to: none fits, or a member that fits
abbrev Searched : List WriterRecord → ℕ → ℕ → ℕ → ℕ → List ℕ → ℕ → Type 0
Searched t i a b c q r =
    ((r ≡ 0) × All (λ k. fits_at t k i a b c ≡ false) q) ⊎ ((has r q ≡ true) × (fits_at t r i a b c ≡ true))

module _ (t : List WriterRecord) (i a b c : ℕ) where
  -- the search from the first of a list that is linked in order
  search-all : (h m p : ℕ) (q : List ℕ) → All (λ x. x ≢ 0) q → Chain (after (links_at t h)) (before (links_at t h)) p q → length q ≤ m
      → Searched t i a b c q (search_in t m (first_of q) i a b c)
  unfolding search_in links_of
  search-all h zero p [] r s l = inl (refl, tt)
  search-all h zero p (x ∷ xs) r s l = absurd (omega arith)
  search-all h (suc m) p [] r s l = inl (refl, tt)
  search-all h (suc m) p (x ∷ xs) r s l =
      go (eqb x 0) (fits_at t x i a b c) (ne_eqb x 0 r.0) refl
      (subst⁻¹ (λ (k : ℕ). Searched t i a b c xs (search_in t m k i a b c)) (next x xs r.0 s.2)
      (search-all h m x xs r.1 s.2 (omega arith)))
    where
      next : (x : ℕ) (xs : List ℕ) → x ≢ 0 → Chain (after (links_at t h)) (before (links_at t h)) x xs → cell t bucket_field x ≡ first_of xs
      next zero xs d c = absurd (d refl)
      next (suc x) [] d c = sym (column-cell t bucket_field (suc x)) ∙ c.0
      next (suc x) (y ∷ ys) d c = sym (column-cell t bucket_field (suc x)) ∙ c.0

      go : (s f : Bool) → s ≡ false → fits_at t x i a b c ≡ f → Searched t i a b c xs (search_in t m (cell t bucket_field x) i a b c)
          → Searched t i a b c (x ∷ xs) (cond s 0 (cond f x (search_in t m (cell t bucket_field x) i a b c)))
      go true f e d w = absurd (true≢false e)
      go false true e d w = inr (or_left (eqb x x) (has x xs) (eq-eqb x x refl), d)
      go false false e d (inl w) = inl (w.0, (d, w.1))
      go false false e d (inr w) =
          let y = search_in t m (cell t bucket_field x) i a b c in inr (or_right (eqb x y) (has y xs) w.0, w.1)

  -- the bucket that is searched
  own : (z : ℕ) → Buckets t z 0 → Bucket t z 0 (bucket_of i a b c)
  own z bs = bs (bucket_of i a b c) (bucket-range i a b c).0 (bucket-range i a b c).1

  -- it is long enough for the whole bucket
  find-all : (z : ℕ) (bs : Buckets t z 0) → Searched t i a b c (own z bs).members (find_in t z i a b c)
  unfolding find_in links_of
  find-all z bs =
      let h = bucket_of i a b c in
      let q = (own z bs).members in
      let d = (own z bs).held in
      subst⁻¹ (λ (k : ℕ). Searched t i a b c q (search_in t z k i a b c)) (holds-head table_limit (links_at t h) q d)
      (search-all h z 0 q d.real d.chain (distinct-length z q d.once d.real
      (has_all (λ k. k ≤ z) q (λ k m. (inserted-in z 0 k ((own z bs).belong k m).0).1))))

-- what is found fits
pub found-fits : (t : List WriterRecord) (z i a b c : ℕ) → z ≤ table_limit → Buckets t z 0 → find_in t z i a b c ≢ 0 →
    let k = find_in t z i a b c in (0 < k) × (k ≤ z) × (fits_at t k i a b c ≡ true)
found-fits t z i a b c few bs d = go (find_in t z i a b c) d (find-all t i a b c z bs)
  where
    go : (k : ℕ) → k ≢ 0 → Searched t i a b c (own t i a b c z bs).members k → (0 < k) × (k ≤ z) × (fits_at t k i a b c ≡ true)
    go k d (inl w) = absurd (d w.0)
    go k d (inr w) =
        let v = inserted-in z 0 k ((own t i a b c z bs).belong k w.0).0 in (omega (arith, v.0), v.1, w.1)

-- if nothing is found, no number fits
pub missed-fits : (t : List WriterRecord) (z i a b c : ℕ) → z ≤ table_limit → Buckets t z 0 → find_in t z i a b c ≡ 0
    → (k : ℕ) → 0 < k → k ≤ z → fits_at t k i a b c ≡ false
missed-fits t z i a b c few bs e k p l = is_false (fits_at t k i a b c) (λ f. go f (find_in t z i a b c) e (find-all t i a b c z bs))
  where
    member : fits_at t k i a b c ≡ true → has k (own t i a b c z bs).members ≡ true
    member f =
        let v = fits-cells t k i a b c f in
        (own t i a b c z bs).complete k (in-inserted z 0 k (λ e. omega (arith, p, e)) l (λ e. omega (arith, p, e)))
        (ap₂ (λ (i a : ℕ). bucket_of i a (cell t second_field k) (cell t complement_field k)) v.0 v.1
        ∙ ap₂ (λ (b c : ℕ). bucket_of i a b c) v.2 v.3)

    go : fits_at t k i a b c ≡ true → (r : ℕ) → r ≡ 0 → Searched t i a b c (own t i a b c z bs).members r → ⊥
    go f r e (inl w) =
        true≢false (sym f ∙ all-has (λ k. fits_at t k i a b c ≡ false) k (own t i a b c z bs).members w.1 (member f))
    go f r e (inr w) = (inserted-in z 0 r ((own t i a b c z bs).belong r w.0).0).0 e
