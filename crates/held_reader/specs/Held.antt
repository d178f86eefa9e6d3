-- "A rule's bytes with how far they have been read, one element on at a time" (document 01, of the reader): the bytes that are lent, and the place,
-- which goes on by the step. Numbers above 2^32 - 1 read as 2^32 - 1. Assumes nothing.
use Rattle.std.specs.Prelude.{ℕ, List, drop}
use Rattle.std.specs.Borrow.{Bor}
use Rattle.theory_reading.specs.Element as T
use Rattle.scanner.specs.Capped.{cap_step}

-- A reader: the slice that is lent, and the place in it.
pub record ReaderView : Type 0 where
  pub bytes : Bor (List ℕ)
  pub place : T.Place

abbrev pub reader_at : Bor (List ℕ) → T.Place → ReaderView
reader_at b p = record { bytes = b; place = p }

-- What one element on comes to, and the reader after it.
pub record ReadView : Type 0 where
  pub outcome : T.Outcome
  pub reader : ReaderView

-- Before the first byte.
abbrev pub first_in : Bor (List ℕ) → ReaderView
first_in b = reader_at b T.begin

-- What a step comes to, over the same bytes.
abbrev pub read_by : Bor (List ℕ) → T.Step → ReadView
read_by b s = record { outcome = s.outcome; reader = reader_at b s.place }

-- ONE ELEMENT ON.
abbrev pub read_next : ReaderView → ReadView
read_next r = read_by r.bytes (cap_step (T.step r.place r.bytes.now))

-- The bytes from a place on: none, if it is past the end.
abbrev pub left_in : ℕ → List ℕ → List ℕ
left_in at bytes = drop at bytes

-- WHAT IS LEFT.
abbrev pub left_of : ReaderView → List ℕ
left_of r = left_in r.place.at r.bytes.now
