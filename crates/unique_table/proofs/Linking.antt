-- What the calls that link and unlink a number come to, and the walk along a bucket.
use Rattle.std.specs.Prelude.{◌≡◌, refl, List, ℕ, ◌+◌, cond, eqb, get_or}
use Rattle.std.proofs.Common.{eq-eqb, ne_eqb}
use Rattle.node_records.specs.Records.{no_writer_record}
use Rattle.node_records.specs.declared.WriterRecord.{WriterRecord}
use Rattle.record_tables.specs.Entries.{entry_at, put_entry}
use Rattle.theory_engine.specs.RecordLaws.{got-field, put-field, put-fields, put_linked}
use Rattle.theory_engine.specs.Recycling.{lane, unlink_in, link_in}
use Rattle.writer_records.specs.Fields.{fields_of, with_field}

-- ---- A choice by whether a number is none

pub if-none : {A : Type 0} {p : ℕ} {a : A} (b : A) → p ≡ 0 → a ≡ cond (eqb p 0) a b
if-none {p = p} b e = rw (eq-eqb p 0 e) refl

pub if-some : {A : Type 0} {p : ℕ} {b : A} (a : A) → (p ≡ 0 → ⊥) → b ≡ cond (eqb p 0) a b
if-some {p = p} a n = rw (ne_eqb p 0 n) refl

-- ---- Linking

-- both neighbours of k, p before it and x after it, are got before either is put
pub unlinked : (t : List WriterRecord) (j f l k : ℕ) {u v : List WriterRecord} {r a b c d : WriterRecord} {p x g m : ℕ}
    → r ≡ entry_at no_writer_record t k → p ≡ get_or (fields_of r) (j + 1) 0 → x ≡ get_or (fields_of r) j 0
    → a ≡ entry_at no_writer_record t p → b ≡ with_field a j x → u ≡ put_entry t p b
    → c ≡ entry_at no_writer_record u x → d ≡ with_field c (j + 1) p → v ≡ put_entry u x d
    → g ≡ cond (eqb p 0) x f → m ≡ cond (eqb x 0) p l → lane v g m ≡ unlink_in t j f l k
unfolding unlink_in
unlinked t j f l k {u = u} {p = p} {x = x} got before after a b c d e h first last = rw (
  first,
  last,
  put-field u (j + 1) x p d e h,
  put-field t j p x a b c,
  got-field t j k got after,
  got-field t (j + 1) k got before,
) refl

-- k gets its two links, then the last number before it, l, its link to k
pub linked : (t : List WriterRecord) (j f l k : ℕ) {u v : List WriterRecord} {r a b c d : WriterRecord} {g : ℕ}
    → r ≡ entry_at no_writer_record t k → a ≡ with_field r j 0 → b ≡ with_field a (j + 1) l → u ≡ put_entry t k b
    → c ≡ entry_at no_writer_record u l → d ≡ with_field c j k → v ≡ put_entry u l d
    → g ≡ cond (eqb l 0) k f → lane v g k ≡ link_in t j f l k
unfolding link_in
linked t j f l k {u = u} got a b c d e h first = rw (
  first,
  put-field u j l k d e h,
  put-fields t j (j + 1) k 0 l got a b c,
  put_linked t j l k,
) refl
