-- Why a call is turned down (document 01, "Turned down"): the causes as one table, and what a refusal returns. Assumes nothing.
use Rattle.std.specs.Prelude.{Bool, true, false, List, [], ◌∷◌, ℕ, leb}

pub data Cause : Type 0 where
  option_count operator_code size_to_write work_table word_range truth_table : Cause
  wrong_byte declared_size too_deep not_in_table other_level not_storable bad_number : Cause

-- What a refusal names: the call, as stream 0 and byte 0, or a stream and a byte of it.
pub data Names : Type 0 where
  call place : Names

-- "Left as it was": all lent memory, or the output, where a truth table to be filled is one.
pub data Leaves : Type 0 where
  keeps_all keeps_output : Leaves

-- A row of the table: the paper's number; the rank (a lower rank is tested first, and counts first at one place); what the refusal names;
-- what it leaves as it was.
pub record CauseRow : Type 0 where
  pub number : ℕ
  pub rank : ℕ
  pub names : Names
  pub leaves : Leaves

abbrev pub cause_row_of : ℕ → ℕ → Names → Leaves → CauseRow
cause_row_of k r n l = record { number = k; rank = r; names = n; leaves = l }

-- "Turned down", the table
abbrev pub cause_row : Cause → CauseRow
cause_row option_count = cause_row_of 1 1 call keeps_all  -- n above 32; truth table n not 3 to 16
cause_row operator_code = cause_row_of 2 2 call keeps_all  -- operator above 15
cause_row size_to_write = cause_row_of 3 3 call keeps_all  -- size to write above the table limit
cause_row work_table = cause_row_of 4 4 call keeps_all  -- a work table of fewer records
cause_row word_range = cause_row_of 5 5 call keeps_all  -- word 2^n or more
cause_row truth_table = cause_row_of 6 6 call keeps_all  -- truth table not 2^n / 8 bytes
cause_row wrong_byte = cause_row_of 7 7 place keeps_output  -- byte not allowed there: that byte
cause_row declared_size = cause_row_of 8 8 place keeps_output  -- declared size above the table limit: first digit
cause_row too_deep = cause_row_of 9 9 place keeps_output  -- bracket deeper than n: bracket
cause_row not_in_table = cause_row_of 10 10 place keeps_output  -- number not in the table: first digit
cause_row other_level = cause_row_of 11 11 place keeps_output  -- number at another level: first digit
cause_row not_storable = cause_row_of 12 12 place keeps_output  -- storing barred by a child; `(A)` of a temporary A: its `:` or `)`
cause_row bad_number = cause_row_of 13 13 place keeps_output  -- number to store 0, above the size, a child of a stored node or its own child: first digit

-- "Returned": cause, stream, byte
pub record Refusal : Type 0 where
  pub cause : Cause
  pub stream : ℕ
  pub byte : ℕ

abbrev pub refusal : Cause → ℕ → ℕ → Refusal
refusal c s b = record { cause = c; stream = s; byte = b }

-- "A call that meets no cause is not refused."
pub data Result (A : Type 0) : Type 0 where
  refused : Refusal → Result A
  done : A → Result A

-- ---- The tests before any stream is read -----------------------------------------------------

-- A test, with the refusal that it gives if it is met.
pub record Test : Type 0 where
  pub gives : Refusal
  pub met : Bool

abbrev pub test : Refusal → Bool → Test
test f m = record { gives = f; met = m }

-- a refusal that names the call: "stream 0, byte 0"
abbrev pub at_call : Cause → Refusal
at_call c = refusal c 0 0

-- the order of the tests is that of their ranks, whatever the order in which a call lists them
abbrev pub ranked : Test → List Test → List Test
ranked t [] = t ∷ []
ranked t (u ∷ us) = elim (leb (cause_row t.gives.cause).rank (cause_row u.gives.cause).rank) [ true ↦ t ∷ u ∷ us | false ↦ u ∷ ranked t us ]

abbrev pub by_rank : List Test → List Test
by_rank [] = []
by_rank (t ∷ ts) = ranked t (by_rank ts)

-- the first test that is met, else the rest of the call
unfoldable pub first_met : {A : Type 0} → List Test → Result A → Result A
first_met [] x = x
first_met (t ∷ ts) x = elim t.met [ true ↦ refused t.gives | false ↦ first_met ts x ]

-- "Causes 1 to 6 are tested in that order where they apply"
unfoldable pub gate : {A : Type 0} → List Test → Result A → Result A
unfolding first_met
gate ts x = first_met (by_rank ts) x

-- ---- Lent memory afterwards ------------------------------------------------------------------

abbrev pub leaves_all : Leaves → Bool
leaves_all keeps_all = true
leaves_all keeps_output = false

unfoldable pub cleared : {R : Type 0} → R → List R → List R
cleared z [] = []
cleared z (r ∷ rs) = z ∷ cleared z rs

-- "Past cause 6 all work table records are zero on return." z: the record that is zero
unfoldable pub table_after : {A R : Type 0} → R → Result A → List R → List R
unfolding cleared
table_after z (refused r) t = elim (leaves_all (cause_row r.cause).leaves) [ true ↦ t | false ↦ cleared z t ]
table_after z (done a) t = cleared z t

-- A refused call leaves the output as it was; another writes `new`.
unfoldable pub unless_refused : {A : Type 0} → Result A → List ℕ → (A → List ℕ) → List ℕ
unless_refused (refused r) old new = old
unless_refused (done a) old new = new a
