-- Numbers linked in the cells of records are the links of Links: leaving, joining and the search for a free number do the same, and the
-- other cells stay. Assumes nothing.
use Rattle.std.specs.Prelude.{◌≡◌, refl, ◌≢◌, Bool, cond, List, [], ◌∷◌, map, ℕ, zero, suc, ◌+◌, ◌≤◌, ◌<◌, eqb, length, get_or, set}
use Rattle.std.proofs.Common.{sym, ap, ap₂, ◌∙◌, ⊎_elim, arith, get_or-set_same, get_or-set_other, ext_get_or, ne_eqb}
use Rattle.std.proofs.Math.Dec.{eqb-suc-zero}
use Rattle.theory_lists.specs.Lists.{decide-le}
use Rattle.std.proofs.lemmas.List.{length-map}
use Rattle.std.proofs.Math.ListN.{get_or-map}
use Rattle.std.proofs.Math.Seq.{set_out, map-set_same}
use Rattle.theory_writing.specs.Links.{Links, unlinked, linked, stops, free_in}
use Rattle.writer_records.specs.Fields.{fields_of, with_field, field-with, queue_field}
use Rattle.theory_engine.specs.Cells.{zero-at, cell, put_cell, length-put, cell-number, cell_other}
use Rattle.theory_engine.specs.Recycling.{unlink_in, link_in, free_of}
use Rattle.node_records.specs.Records.{no_writer_record}
use Rattle.node_records.specs.declared.WriterRecord.{WriterRecord}

-- ---- A column of cells -----------------------------------------------------------------------

-- cell j of each number, at the number's place
unfoldable pub column : ℕ → List WriterRecord → List ℕ
column j t = 0 ∷ map (λ (x : WriterRecord). get_or (fields_of x) j 0) t

pub column-cell : (t : List WriterRecord) (j k : ℕ) → get_or (column j t) k 0 ≡ cell t j k
unfolding column cell
column-cell t j zero = refl
column-cell t j (suc k) =
    ap (get_or (map (λ (x : WriterRecord). get_or (fields_of x) j 0) t) k) (sym (zero-at j))
    ∙ get_or-map (λ (x : WriterRecord). get_or (fields_of x) j 0) t k no_writer_record

pub column-length : (t : List WriterRecord) (j : ℕ) → length (column j t) ≡ suc (length t)
unfolding column
column-length t j = ap suc (length-map t (λ (x : WriterRecord). get_or (fields_of x) j 0))

-- the column of as many records with the same cells
pub column-same : (t u : List WriterRecord) (j : ℕ) → length u ≡ length t → ((k : ℕ) → cell u j k ≡ cell t j k) → column j u ≡ column j t
column-same t u j e h =
    ext_get_or 0 (column j u) (column j t) (column-length u j ∙ ap suc e ∙ sym (column-length t j))
    (λ k l. column-cell u j k ∙ h k ∙ sym (column-cell t j k))

map-set : (f : WriterRecord → ℕ) (t : List WriterRecord) (k : ℕ) (r : WriterRecord) → map f (set t k r) ≡ set (map f t) k (f r)
map-set f [] k r = refl
map-set f (a ∷ t) zero r = refl
map-set f (a ∷ t) (suc k) r = ap (λ (l : List ℕ). f a ∷ l) (map-set f t k r)

-- a cell that is put
pub column-put : (t : List WriterRecord) (j k v : ℕ) → j < 12
    → column j (put_cell t j k v) ≡ cond (eqb k 0) (column j t) (set (column j t) k v)
unfolding column put_cell
column-put t j zero v h = refl
column-put t j (suc k) v h =
    ap (λ (l : List ℕ). 0 ∷ l) (⊎_elim
    (λ (l : length t ≤ k). ap (map at) (set_out t k (with_field (get_or t k no_writer_record) j v) l)
    ∙ sym (set_out (map at t) k v (omega (arith, l, length-map t at))))
    (λ (l : k < length t). map-set at t k (with_field (get_or t k no_writer_record) j v)
    ∙ ap (set (map at t) k) (field-with (get_or t k no_writer_record) j v j ∙ get_or-set_same (fields_of (get_or t k no_writer_record)) j v 0 (omega arith)))
    (decide-le (length t) k))
    ∙ ap (λ (b : Bool). cond b (0 ∷ map at t) (0 ∷ set (map at t) k v)) (sym (eqb-suc-zero k))
  where
    at : WriterRecord → ℕ
    at x = get_or (fields_of x) j 0

-- and another column
pub column-other : (t : List WriterRecord) (j k v i : ℕ) → i ≢ j → column i (put_cell t j k v) ≡ column i t
unfolding column put_cell
column-other t j zero v i d = refl
column-other t j (suc k) v i d =
    ap (λ (l : List ℕ). 0 ∷ l) (map-set_same (λ (x : WriterRecord). get_or (fields_of x) i 0) t k (with_field (get_or t k no_writer_record) j v)
    no_writer_record (field-with (get_or t k no_writer_record) j v i ∙ get_or-set_other (fields_of (get_or t k no_writer_record)) j i v 0 d))

-- ---- The links in two columns ----------------------------------------------------------------

unfoldable pub links_of : List WriterRecord → ℕ → ℕ → ℕ → Links
unfolding column
links_of t j f l = record { next = column j t; prev = column (j + 1) t; head = f; tail = l }

-- those of records whose columns are the same
pub links-same : (t u : List WriterRecord) (j f l : ℕ) → column j u ≡ column j t → column (j + 1) u ≡ column (j + 1) t
    → links_of u j f l ≡ links_of t j f l
unfolding links_of
links-same t u j f l p q =
    ap₂ (λ (x y : List ℕ). record { next = x; prev = y; head = f; tail = l }) p q

pub links-unlink : (t : List WriterRecord) (j f l k : ℕ) → j + 1 < 12 →
    let e = unlink_in t j f l k in
    links_of e.table j e.first e.last ≡ unlinked (links_of t j f l) k
unfolding links_of unlink_in unlinked
links-unlink t j f l k h =
    let p = cell t (j + 1) k in
    let x = cell t j k in
    let u = put_cell t j p x in
    ap₂ (λ (a b : List ℕ). record { next = a; prev = b; head = cond (eqb p 0) x f; tail = cond (eqb x 0) p l })
    (column-other u (j + 1) x p j (λ e. omega (arith, e)) ∙ column-put t j p x (omega arith))
    (column-put u (j + 1) x p h
    ∙ ap (λ (c : List ℕ). cond (eqb x 0) c (set c x p)) (column-other t j p x (j + 1) (λ e. omega (arith, e))))
    ∙ ap₂ (λ (p x : ℕ). record {
      next = cond (eqb p 0) (column j t) (set (column j t) p x);
      prev = cond (eqb x 0) (column (j + 1) t) (set (column (j + 1) t) x p);
      head = cond (eqb p 0) x f;
      tail = cond (eqb x 0) p l;
    }) (sym (column-cell t (j + 1) k)) (sym (column-cell t j k))

pub links-link : (t : List WriterRecord) (j f l k : ℕ) → j + 1 < 12 → k ≢ 0 →
    let e = link_in t j f l k in
    links_of e.table j e.first e.last ≡ linked (links_of t j f l) k
unfolding links_of link_in linked
links-link t j f l k h d =
    let u = put_cell t j k 0 in
    let v = put_cell u j l k in
    ap₂ (λ (a b : List ℕ). record { next = a; prev = b; head = cond (eqb l 0) k f; tail = k })
    (column-other v (j + 1) k l j (λ e. omega (arith, e)) ∙ column-put u j l k (omega arith)
    ∙ ap (λ (c : List ℕ). cond (eqb l 0) c (set c l k)) (column-put t j k 0 (omega arith) ∙ real (column j t) (set (column j t) k 0)))
    (column-put v (j + 1) k l h
    ∙ real (column (j + 1) v) (set (column (j + 1) v) k l)
    ∙ ap (λ (c : List ℕ). set c k l) (column-other u j l k (j + 1) (λ e. omega (arith, e))
    ∙ column-other t j k 0 (j + 1) (λ e. omega (arith, e))))
  where
    real : (a b : List ℕ) → cond (eqb k 0) a b ≡ b
    real a b = ap (λ (t : Bool). cond t a b) (ne_eqb k 0 d)

pub links-free : (t : List WriterRecord) (f l a b : ℕ) → free_of t f a b ≡ free_in (links_of t queue_field f l) a b
unfolding links_of free_of free_in
links-free t f l a b =
    ap₂ (λ (y z : ℕ). cond (stops a b f) f (cond (stops a b y) y z)) (sym (column-cell t queue_field f))
    (sym (column-cell t queue_field (cell t queue_field f)) ∙ ap (λ (k : ℕ). get_or (column queue_field t) k 0) (sym (column-cell t queue_field f)))

-- ---- What stays ------------------------------------------------------------------------------

module _ (t : List WriterRecord) (j f l k : ℕ) where
  p : ℕ
  p = cell t (j + 1) k

  x : ℕ
  x = cell t j k

  pub unlink-length : length (unlink_in t j f l k).table ≡ length t
  unfolding unlink_in p x
  unlink-length = length-put (put_cell t j p x) (j + 1) x p ∙ length-put t j p x

  -- the other cells
  pub unlink-other : (i q : ℕ) → i ≢ j → i ≢ j + 1 → cell (unlink_in t j f l k).table i q ≡ cell t i q
  unfolding unlink_in p x
  unlink-other i q c d = cell_other (put_cell t j p x) (j + 1) x p i q d ∙ cell_other t j p x i q c

  -- the links of all but the neighbours
  pub unlink-next : (q : ℕ) → q ≢ cell t (j + 1) k → cell (unlink_in t j f l k).table j q ≡ cell t j q
  unfolding unlink_in p x
  unlink-next q d = cell_other (put_cell t j p x) (j + 1) x p j q (λ e. omega (arith, e)) ∙ cell-number t j p x j q d

  pub unlink-prev : (q : ℕ) → q ≢ cell t j k → cell (unlink_in t j f l k).table (j + 1) q ≡ cell t (j + 1) q
  unfolding unlink_in p x
  unlink-prev q d =
      cell-number (put_cell t j p x) (j + 1) x p (j + 1) q d ∙ cell_other t j p x (j + 1) q (λ e. omega (arith, e))

  u : List WriterRecord
  u = put_cell t j k 0

  pub link-length : length (link_in t j f l k).table ≡ length t
  unfolding link_in u
  link-length = length-put (put_cell u j l k) (j + 1) k l ∙ length-put u j l k ∙ length-put t j k 0

  pub link-other : (i q : ℕ) → i ≢ j → i ≢ j + 1 → cell (link_in t j f l k).table i q ≡ cell t i q
  unfolding link_in u
  link-other i q c d =
      cell_other (put_cell u j l k) (j + 1) k l i q d ∙ cell_other u j l k i q c ∙ cell_other t j k 0 i q c

  -- the links of all but k and the last
  pub link-next : (q : ℕ) → q ≢ k → q ≢ l → cell (link_in t j f l k).table j q ≡ cell t j q
  unfolding link_in u
  link-next q c d =
      cell_other (put_cell u j l k) (j + 1) k l j q (λ e. omega (arith, e)) ∙ cell-number u j l k j q d ∙ cell-number t j k 0 j q c

  pub link-prev : (q : ℕ) → q ≢ k → cell (link_in t j f l k).table (j + 1) q ≡ cell t (j + 1) q
  unfolding link_in u
  link-prev q c =
      cell-number (put_cell u j l k) (j + 1) k l (j + 1) q c ∙ cell_other u j l k (j + 1) q (λ e. omega (arith, e))
      ∙ cell-number t j k 0 (j + 1) q c
