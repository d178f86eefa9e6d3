-- What a stream is, numbers and depth aside (document 01, "The stream", the first paragraphs): the four shapes of a node, the space rule.
-- Reading is defined without it (Element); `CauseSeven` shows that cause 7 is at the first byte that no stream could have. Assumes nothing.
use Rattle.std.specs.Prelude.{◌≡◌, Bool, true, false, cond, ◌&&◌, List, [], ◌∷◌, ◌++◌, ℕ}
use Rattle.theory_reading.specs.Bytes.{opener, closer, tilde, colon, dot, blank, line_feed, digit_zero, is_digit}

pub data Digits : List ℕ → Type 0 where
  no_digit : Digits []
  a_digit : (b : ℕ) (bs : List ℕ) → is_digit b ≡ true → Digits bs → Digits (b ∷ bs)

-- "Numbers have no leading zero."
pub data IsNumber : List ℕ → Type 0 where
  is_zero : IsNumber (digit_zero ∷ [])
  is_other : (b : ℕ) (bs : List ℕ) → is_digit b ≡ true → (b ≡ digit_zero → ⊥) → Digits bs → IsNumber (b ∷ bs)

-- "optionally followed by `:` and a number, which stores it"
pub data IsStoring : List ℕ → Type 0 where
  not_stored : IsStoring []
  is_stored : (k : List ℕ) → IsNumber k → IsStoring (colon ∷ k)

abbrev pub begins_in_digit : List ℕ → Bool
begins_in_digit [] = false
begins_in_digit (b ∷ bs) = is_digit b

unfoldable pub ends_in_digit : List ℕ → Bool
ends_in_digit [] = false
ends_in_digit (b ∷ []) = is_digit b
ends_in_digit (b ∷ c ∷ bs) = ends_in_digit (c ∷ bs)

-- "In `(A B)`, not in `(A~B)`, one space stands after A exactly when A's text ends in a digit and B's begins with one; no other space is allowed."
abbrev pub gap : List ℕ → List ℕ → List ℕ
gap a b = cond (ends_in_digit a && begins_in_digit b) (blank ∷ []) []

-- "A node is one of: `0`; a number; `(A)`; `(A B)` or `(A~B)`, optionally followed by `:` and a number."
pub data IsNode : List ℕ → Type 0 where
  is_number : (k : List ℕ) → IsNumber k → IsNode k
  is_one : (a : List ℕ) → IsNode a → IsNode (opener ∷ (a ++ (closer ∷ [])))
  is_two : (a b s : List ℕ) → IsNode a → IsNode b → IsStoring s → IsNode (opener ∷ (a ++ (gap a b ++ (b ++ (closer ∷ s)))))
  is_turned : (a b s : List ℕ) → IsNode a → IsNode b → IsStoring s → IsNode (opener ∷ (a ++ (tilde ∷ (b ++ (closer ∷ s)))))

abbrev pub leading_tilde : Bool → List ℕ
leading_tilde true = tilde ∷ []
leading_tilde false = []

-- "A stream is the table size, one LF, an optional `~`, one node, and `.` as last byte."
pub data IsStream : List ℕ → Type 0 where
  is_stream : (z : List ℕ) (t : Bool) (x : List ℕ) → IsNumber z → IsNode x → IsStream (z ++ (line_feed ∷ (leading_tilde t ++ (x ++ (dot ∷ [])))))

-- some stream begins with these bytes
abbrev pub Viable : List ℕ → Type 0
Viable xs = (ys : List ℕ) × IsStream (xs ++ ys)
