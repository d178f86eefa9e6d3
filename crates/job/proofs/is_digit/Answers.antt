-- The digits are the bytes from `0` to `9`.
use Rattle.std.proofs.Common.{ℕ, ◌<◌, ⊎_elim, ◌≡◌, Bool, true, false, sym, arith}
use Rattle.std.specs.Bool.{MatchBool}
use Rattle.std.specs.Char.{IsAsciiDigit, IsNotAsciiDigit}
use Rattle.theory_lists.specs.Lists.{is_false}
use Rattle.theory_reading.specs.Bytes.{is_digit}
use Rattle.claims.specs.Numerals.{digit-true, digit-range}
use Rattle.job.proofs.is_digit.Goals as goal

in_range : (b : ℕ) (r : Bool) → MatchBool r (IsAsciiDigit b) (IsNotAsciiDigit b) → r ≡ is_digit b
in_range b true h = sym (digit-true b h.0 h.1)
in_range b false h = sym (is_false (is_digit b) (λ e. let d = digit-range b e in ⊎_elim (λ (k : b < 48). omega (arith, d.0)) (λ (k : 57 < b). omega (arith, d.1)) h))

pub returns : goal.returns
returns c = in_range c.args.b c.is_ascii_digit.result c.is_ascii_digit.ensures.cases
