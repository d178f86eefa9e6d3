-- Bytes and their kinds (document 01, "The stream", the paragraph on elements), and texts as bytes. Assumes nothing.
use Rattle.std.specs.Prelude.{Bool, true, false, cond, ◌&&◌, ◌||◌, List, [], ◌∷◌, ℕ, zero, suc, leb, eqb}
use Prim.Native.Char.{code}
use Prim.Native.String.{String, len, char_at}

-- ---- The bytes of a stream -------------------------------------------------------------------

-- `(` and `)`
abbrev pub opener : ℕ
opener = 40

abbrev pub closer : ℕ
closer = 41

-- `~`
abbrev pub tilde : ℕ
tilde = 126

-- `:`
abbrev pub colon : ℕ
colon = 58

-- `.`
abbrev pub dot : ℕ
dot = 46

-- a space
abbrev pub blank : ℕ
blank = 32

-- LF
abbrev pub line_feed : ℕ
line_feed = 10

-- `0` and `9`
abbrev pub digit_zero : ℕ
digit_zero = 48

abbrev pub digit_nine : ℕ
digit_nine = 57

-- ---- Kinds -----------------------------------------------------------------------------------

-- "A table of 256 entries gives each byte its kind (digit, bracket, mark, space, line end, point, foreign)."
pub data Kind : Type 0 where
  digit bracket mark space line_end point foreign : Kind

unfoldable pub kind_of : ℕ → Kind
kind_of b =
    cond (leb digit_zero b && leb b digit_nine) digit
    (cond (eqb b opener || eqb b closer) bracket
    (cond (eqb b tilde || eqb b colon) mark
    (cond (eqb b blank) space
    (cond (eqb b line_feed) line_end
    (cond (eqb b dot) point foreign)))))

abbrev pub is_digit_kind : Kind → Bool
is_digit_kind digit = true
is_digit_kind bracket = false
is_digit_kind mark = false
is_digit_kind space = false
is_digit_kind line_end = false
is_digit_kind point = false
is_digit_kind foreign = false

unfoldable pub is_digit : ℕ → Bool
unfolding kind_of
is_digit b = is_digit_kind (kind_of b)

-- ---- Texts -----------------------------------------------------------------------------------

-- k characters of a text from place i on
unfoldable pub codes_from : ℕ → ℕ → String → List ℕ
codes_from zero i s = []
codes_from (suc k) i s = code (char_at s i) ∷ codes_from k (suc i) s

-- the bytes of a text of ASCII characters
unfoldable pub text : String → List ℕ
unfolding codes_from
text s = codes_from (len s) 0 s
