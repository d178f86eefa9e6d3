-- A reader goes over the stream of one node, by computation: a wrong definition fails here. Assumes nothing.
use Rattle.std.specs.Prelude.{◌≡◌, refl, List, ℕ, zero, suc}
use Prim.Native.String.{String}
use Rattle.std.specs.Borrow.{Bor}
use Rattle.theory_reading.specs.Bytes.{text, is_digit}
use Rattle.theory_reading.specs.Causes.{wrong_byte}
use Rattle.theory_reading.specs.Element.{Outcome, got, fault, ran_out, number, storing, step}
use Rattle.held_reader.specs.Held.{ReaderView, first_in, read_next, left_of}

abbrev lent : String → Bor (List ℕ)
unfolding text
lent s = record { ref_ptr = (0, 0); now = text s }

-- the reader some elements on
abbrev on : ℕ → ReaderView → ReaderView
unfolding step is_digit
on zero r = r
on (suc n) r = on n (read_next r).reader

abbrev reads : ℕ → String → Outcome
unfolding step text is_digit
reads n s = (read_next (on n (first_in (lent s)))).outcome

abbrev leaves : ℕ → String → List ℕ
unfolding step text is_digit
leaves n s = left_of (on n (first_in (lent s)))

first_read : reads 0 "1\n(0~0):1." ≡ got (number 1)
unfolding step text is_digit
first_read = refl

storing-read : reads 6 "1\n(0~0):1." ≡ got (storing 1)
unfolding step text is_digit
storing-read = refl

-- behind the storing the point is left
point-left : leaves 7 "1\n(0~0):1." ≡ text "."
unfolding step text is_digit
point-left = refl

-- a number at its end is not yet read, however often it is tried, and is left
number-waits : reads 2 "12" ≡ ran_out
unfolding step text is_digit
number-waits = refl

number-left : leaves 2 "12" ≡ text "12"
unfolding step text is_digit
number-left = refl

-- a space is read only before a digit, and the fault names the byte behind it
fault-read : reads 3 "1\n(0 x" ≡ fault wrong_byte 5
unfolding step text is_digit
fault-read = refl
