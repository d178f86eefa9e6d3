-- The example of document 01, "Program", and a refusal and a bad job, by computation. Assumes nothing.
use Rattle.std.specs.Prelude.{◌≡◌, refl}
use Rattle.theory_reading.specs.Bytes.{text}
use Rattle.theory_writing.specs.Join.{join}

example : join (text "3 OR 4\n4\n(0(0~0):1):2.\n4\n(((0~0):1)).\n") ≡ text "4\n(((0~0):1)(1~0):2):3.\nwords 8 of 8 whole\n"
unfolding join text
example = refl

-- P9 as the second stream
refusal : join (text "1 OR 4\n0\n0.\n1\n(1~0).") ≡ text "refused 10 2 3\n"
unfolding join text
refusal = refl

no-such-operator : join (text "1 or 4\n0\n0.\n0\n0.") ≡ text "bad job\n"
unfolding join text
no-such-operator = refl
