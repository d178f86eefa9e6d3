-- P1 to P12 of document 01, "Marked P", as one table that is proved by computation. Assumes nothing.
use Rattle.std.specs.Prelude.{◌≡◌, refl, Bool, false, ℕ, zero, suc, ◌+◌, ◌/◌, ◌%◌, ◌^◌, eqb, leb}
use Rattle.std.proofs.Math.Path.{subst⁻¹}
use Rattle.std.proofs.Common.{⊎_elim}
use mathlib.Core.List.Memᴰ
use mathlib.Core.List.{List, [], ◌∷◌, Memᴰ}
use Prim.{Unit, tt}
use Prim.Native.String.{String}
use Rattle.theory_reading.specs.Limits.{table_limit}
use Rattle.theory_reading.specs.Bytes.{text}
use Rattle.theory_reading.specs.Causes.{Cause, too_deep, not_in_table, not_storable, bad_number, Result, refused, done, refusal}
use Rattle.theory_reading.specs.Calls.{Checked, cut, check_answer}
use Rattle.theory_writing.specs.Run.{run_text}

-- ---- The rows --------------------------------------------------------------------------------

-- A function of n options is written with a table size as this stream; or a stream, read with n options, is checked with this answer.
pub data Case : Type 0 where
  writes : ℕ → ℕ → (ℕ → Bool) → String → Case
  checks : ℕ → String → Result Checked → Case

-- the options of a word that are set
unfoldable pub ones : ℕ → ℕ → ℕ
ones zero w = 0
ones (suc m) w = w % 2 + ones m (w / 2)

-- "two or more set"
abbrev pub two_set : ℕ → Bool
unfolding ones
two_set w = leb 2 (ones 3 w)

abbrev pub odd : ℕ → Bool
unfolding ones
odd w = eqb (ones 3 w % 2) 1

abbrev pub refused_at : Cause → ℕ → Result Checked
refused_at c b = refused (refusal c 1 b)

abbrev pub rows : List Case
unfolding ones
rows =
    writes 0 0 (λ w. false) "0\n0."  -- P1: n 0, always no, size 0
    ∷ writes 1 1 (λ w. eqb w 1) "1\n(0~0):1."  -- P2: n 1, the option
    ∷ writes 3 3 odd "3\n(((0~0):1~1):2~2):3."  -- P3: n 3, odd, size 3
    ∷ writes 3 4 two_set "4\n((0(0~0):1):2(1~0):3):4."  -- P4 to P7: n 3, two or more set, sizes 4, 2, 1, 0
    ∷ writes 3 2 two_set "2\n((0(0~0):1):2(1~0):2)."  -- both halves show 2, which changed hands between them
    ∷ writes 3 1 two_set "1\n((0(0~0):1)(1~0))."  -- the one number is the new node's own child
    ∷ writes 3 0 two_set "0\n((0(0~0))((0~0)~0))."
    ∷ checks 3 "4\n((0(0~0):1):2" (done (record { size = 4; covered = 4; extent = cut }))  -- P8: covers 4
    ∷ checks 1 "1\n(1~0)." (refused_at not_in_table 3)  -- P9: 10 at byte 3
    ∷ checks 2 "1\n((0~0):1 0):1." (refused_at bad_number 14)  -- P10: 13 at byte 14
    ∷ checks 2 "1\n((0~0)0):1." (refused_at not_storable 10)  -- P11: 12 at byte 10
    ∷ checks 1 "1\n((0~0):1)." (refused_at too_deep 3)  -- P12: 9 at byte 3
    ∷ []

-- What a row says, of the definitions of writing and of checking.
abbrev pub Holds : Case → Type 0
Holds (writes n size f s) = run_text n size (2 ^ n) f ≡ text s
Holds (checks n s r) = check_answer n (text s) table_limit ≡ r

-- ---- The proof -------------------------------------------------------------------------------

-- every row, by computing both sides
HoldsAll : List Case → Type 0
HoldsAll [] = Unit {0}
HoldsAll (r ∷ rs) = Holds r × HoldsAll rs

all_hold : HoldsAll rows
unfolding HoldsAll ones run_text check_answer text
all_hold = (refl, (refl, (refl, (refl, (refl, (refl, (refl, (refl, (refl, (refl, (refl, (refl, tt))))))))))))

each : (rs : List Case) → HoldsAll rs → (r : Case) → Memᴰ r rs → Holds r
unfolding HoldsAll
each [] h r m = absurd (Memᴰ.not-nil m)
each (q ∷ rs) h r m = ⊎_elim (λ (e : r ≡ q). subst⁻¹ Holds e h.0) (λ k. each rs h.1 r k) (Memᴰ.cases_cons m)

-- THE TABLE: what each row says holds.
pub the-table : (r : Case) → Memᴰ r rows → Holds r
unfolding ones
the-table = each rows all_hold
