-- The writer's records as the theory has them: of number k, whose record stands at place k - 1, the field with the number j. Assumes nothing.
use Rattle.std.specs.Prelude.{◌≡◌, refl, ◌≢◌, List, ℕ, zero, suc, ◌-◌, ◌≤◌, ◌<◌, length, get_or, set, replicate}
use Rattle.std.proofs.Common.{sym, ap, ◌∙◌, ⊎_elim, arith, length-set, get_or-set_same, get_or-set_other}
use Rattle.std.proofs.lemmas.List.{length-replicate, get_or-replicate}
use Rattle.std.proofs.Math.ListN.{get_or-eq_default}
use Rattle.std.proofs.Math.Seq.{set_out}
use Rattle.theory_lists.specs.Lists.{decide_eq, decide-le}
use Rattle.node_records.specs.Records.{no_writer_record}
use Rattle.record_tables.specs.Entries.{entry_at, put_entry, entry_here, entry-put-here}
use Rattle.node_records.specs.declared.WriterRecord.{WriterRecord}
use Rattle.writer_records.specs.Fields.{fields_of, with_field, field-with}

-- ---- Cells -----------------------------------------------------------------------------------

-- the field j of number k, 0 for the number 0
unfoldable pub cell : List WriterRecord → ℕ → ℕ → ℕ
cell t j zero = 0
cell t j (suc k) = get_or (fields_of (get_or t k no_writer_record)) j 0

-- v is put there; the number 0 has no record
unfoldable pub put_cell : List WriterRecord → ℕ → ℕ → ℕ → List WriterRecord
put_cell t j zero v = t
put_cell t j (suc k) v = set t k (with_field (get_or t k no_writer_record) j v)

-- ---- One cell --------------------------------------------------------------------------------

-- a field of zeros is 0
pub zero-at : (i : ℕ) → get_or (fields_of no_writer_record) i 0 ≡ 0
zero-at i =
    ⊎_elim (λ (l : 12 ≤ i). get_or-eq_default (replicate 12 0) 0 l) (λ (l : i < 12). get_or-replicate 12 i 0 0 l) (decide-le 12 i)

-- as code goes to it
pub cell_at : (t : List WriterRecord) (j k : ℕ) → get_or (fields_of (entry_at no_writer_record t k)) j 0 ≡ cell t j k
unfolding cell
cell_at t j zero = zero-at j
cell_at t j (suc k) =
    let e : suc k - 1 ≡ k = omega arith in
    ap (λ (x : WriterRecord). get_or (fields_of x) j 0) (sym (entry_here no_writer_record t (suc k) (λ z. omega (arith, z))))
    ∙ ap (λ (p : ℕ). get_or (fields_of (get_or t p no_writer_record)) j 0) e

pub put-at : (t : List WriterRecord) (j k v : ℕ) → put_entry t k (with_field (entry_at no_writer_record t k) j v) ≡ put_cell t j k v
unfolding put_cell
put-at t j zero v = refl
put-at t j (suc k) v =
    let e : suc k - 1 ≡ k = omega arith in
    sym (entry-put-here t (suc k) (with_field (entry_at no_writer_record t (suc k)) j v) (λ z. omega (arith, z)))
    ∙ ap (λ (x : WriterRecord). set t (suc k - 1) (with_field x j v)) (sym (entry_here no_writer_record t (suc k) (λ z. omega (arith, z))))
    ∙ ap (λ (p : ℕ). set t p (with_field (get_or t p no_writer_record) j v)) e

pub length-put : (t : List WriterRecord) (j k v : ℕ) → length (put_cell t j k v) ≡ length t
unfolding put_cell
length-put t j zero v = refl
length-put t j (suc k) v = length-set t k (with_field (get_or t k no_writer_record) j v)

-- the cell that was put
pub cell_same : (t : List WriterRecord) (j k v : ℕ) → j < 12 → 0 < k → k ≤ length t → cell (put_cell t j k v) j k ≡ v
unfolding cell put_cell
cell_same t j zero v a b l = absurd (omega arith)
cell_same t j (suc k) v a b l =
    ap (λ (x : WriterRecord). get_or (fields_of x) j 0) (get_or-set_same t k (with_field (get_or t k no_writer_record) j v) no_writer_record (omega arith))
    ∙ field-with (get_or t k no_writer_record) j v j
    ∙ get_or-set_same (fields_of (get_or t k no_writer_record)) j v 0 (omega arith)

-- another number's
pub cell-number : (t : List WriterRecord) (j k v i p : ℕ) → p ≢ k → cell (put_cell t j k v) i p ≡ cell t i p
unfolding cell put_cell
cell-number t j zero v i p d = refl
cell-number t j (suc k) v i zero d = refl
cell-number t j (suc k) v i (suc p) d =
    ap (λ (x : WriterRecord). get_or (fields_of x) i 0)
    (get_or-set_other t k p (with_field (get_or t k no_writer_record) j v) no_writer_record (λ e. d (ap suc e)))

-- another of the number's cells
cell-here : (t : List WriterRecord) (j k v i p : ℕ) → i ≢ j → p ≡ k → cell (put_cell t j k v) i p ≡ cell t i p
unfolding cell put_cell
cell-here t j zero v i zero d e = refl
cell-here t j (suc k) v i zero d e = refl
cell-here t j zero v i (suc p) d e = refl
cell-here t j (suc k) v i (suc p) d e =
    let x = with_field (get_or t k no_writer_record) j v in ⊎_elim
    (λ (l : length t ≤ k). ap (λ (u : List WriterRecord). get_or (fields_of (get_or u p no_writer_record)) i 0) (set_out t k x l))
    (λ (l : k < length t). let e' : p ≡ k = omega (arith, e) in
    ap (λ (q : ℕ). get_or (fields_of (get_or (set t k x) q no_writer_record)) i 0) e'
    ∙ ap (λ (r : WriterRecord). get_or (fields_of r) i 0) (get_or-set_same t k x no_writer_record l)
    ∙ field-with (get_or t k no_writer_record) j v i
    ∙ get_or-set_other (fields_of (get_or t k no_writer_record)) j i v 0 d
    ∙ ap (λ (q : ℕ). get_or (fields_of (get_or t q no_writer_record)) i 0) (sym e'))
    (decide-le (length t) k)

pub cell_other : (t : List WriterRecord) (j k v i p : ℕ) → i ≢ j → cell (put_cell t j k v) i p ≡ cell t i p
cell_other t j k v i p d =
    ⊎_elim (λ (e : p ≡ k). cell-here t j k v i p d e) (λ (n : p ≢ k). cell-number t j k v i p n) (decide_eq p k)

-- ---- Records of zeros ------------------------------------------------------------------------

-- each cell of all of them is 0
pub zero-cell : (c i k : ℕ) → cell (replicate c no_writer_record) i k ≡ 0
unfolding cell
zero-cell c i zero = refl
zero-cell c i (suc k) = ⊎_elim
    (λ (l : c ≤ k). ap (λ (x : WriterRecord). get_or (fields_of x) i 0) (get_or-eq_default (replicate c no_writer_record) no_writer_record
    (omega (arith, l, length-replicate c no_writer_record))) ∙ zero-at i)
    (λ (l : k < c). ap (λ (x : WriterRecord). get_or (fields_of x) i 0) (get_or-replicate c k no_writer_record no_writer_record l) ∙ zero-at i)
    (decide-le c k)
