-- Where a first digit stands. Its laws: proofs/StepLaws. Assumes nothing.
use Rattle.std.specs.Prelude.{cond, ℕ, ◌+◌, eqb}
use Rattle.theory_reading.specs.Bytes.{blank}

-- the place of a first digit
abbrev pub digit_place : ℕ → ℕ → ℕ
digit_place at b = cond (eqb b blank) (at + 1) at
