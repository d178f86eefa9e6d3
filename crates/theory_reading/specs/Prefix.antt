-- The byte at a place. Laws of longer streams: proofs/Prefix. Assumes nothing.
use Rattle.std.specs.Prelude.{get_or}
use mathlib.Core.List.{List}
use Prim.Native.Nat.{ℕ}
use Rattle.theory_reading.specs.Reading.{State}

abbrev pub byte_at : List ℕ → State → ℕ
byte_at bytes s = get_or bytes s.place.at 0
