-- Numbers of the unique table, and one of 32 bits that grows. Definitions only. Assumes nothing.
use Rattle.std.specs.Prelude.{cond, ℕ, ◌+◌, eqb, ltb, Option, Some, None}

-- a number that a node has, none for 0
abbrev pub number_of : ℕ → Option ℕ
number_of k = cond (eqb k 0) None (Some k)

-- one more, as far as 32 bits go
abbrev pub one_more : ℕ → ℕ
one_more p = cond (ltb p 4294967295) (p + 1) p
