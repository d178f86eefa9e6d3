-- The bytes of a part's text (document 01, "The stream", the first two paragraphs). Assumes nothing.
use Rattle.std.specs.Prelude.{Bool, true, false, cond, ◌&&◌, List, [], ◌∷◌, ◌++◌, ℕ, zero, suc, ◌+◌, ◌/◌, ◌%◌, ltb}
use Rattle.theory_reading.specs.Bytes.{opener, closer, tilde, colon, blank, digit_zero}
use Rattle.theory_writing.specs.Rules.{Text, number, one, two}

-- ---- Numbers ---------------------------------------------------------------------------------

-- "Numbers here and in streams are decimal." The digits of x before what follows; d bounds their count.
unfoldable pub digits : ℕ → ℕ → List ℕ → List ℕ
digits zero x rest = rest
digits (suc d) x rest = elim (ltb x 10) [ true ↦ (digit_zero + x) ∷ rest | false ↦ digits d (x / 10) ((digit_zero + x % 10) ∷ rest) ]

-- "Numbers have no leading zero."
unfoldable pub decimal : ℕ → List ℕ
unfolding digits
decimal x = digits (suc x) x []

-- ---- Nodes -----------------------------------------------------------------------------------

-- "A's text ends in a digit": a number does, and a node that was given one
abbrev pub ends_in_digit : Text → Bool
ends_in_digit (number k) = true
ends_in_digit (one x) = false
ends_in_digit (two x t y zero) = false
ends_in_digit (two x t y (suc k)) = true

-- "and B's begins with one": a number does
abbrev pub begins_with_digit : Text → Bool
begins_with_digit (number k) = true
begins_with_digit (one x) = false
begins_with_digit (two x t y k) = false

-- `~` or nothing
abbrev pub tilde_if : Bool → List ℕ
tilde_if true = tilde ∷ []
tilde_if false = []

-- "In `(A B)`, not in `(A~B)`, one space stands after A exactly when A's text ends in a digit and B's begins with one"
abbrev pub between : Bool → Text → Text → List ℕ
between true x y = tilde ∷ []
between false x y = cond (ends_in_digit x && begins_with_digit y) (blank ∷ []) []

-- "optionally followed by `:` and a number, which stores it" (0: no number)
abbrev pub storing : ℕ → List ℕ
storing zero = []
storing (suc k) = colon ∷ decimal (suc k)

-- "A node is one of: `0` [...], a number [...], `(A)` [...], `(A B)` or `(A~B)`"
unfoldable pub bytes : Text → List ℕ
bytes (number k) = decimal k
bytes (one x) = opener ∷ (bytes x ++ (closer ∷ []))
bytes (two x t y k) = opener ∷ (bytes x ++ (between t x y ++ (bytes y ++ (closer ∷ storing k))))
