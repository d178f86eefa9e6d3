-- A run: its inputs, its text, what a lent output gets of it, and the answer (document 01, "The written stream", from the operator on; the covered count
-- by document 02, R-3).
-- Assumes nothing.
use Rattle.std.specs.Prelude.{Bool, true, false, cond, List, [], ◌∷◌, ◌++◌, ℕ, zero, suc, ◌+◌, ◌*◌, ◌/◌, ◌%◌, ◌^◌, ltb, leb, eqb, length, take, drop}
use Rattle.std.proofs.Math.Option.{Option, none, some}
use Rattle.theory_lists.specs.Lists.{bit, differ}
use Rattle.theory_reading.specs.Bytes.{opener, dot, line_feed}
use Rattle.theory_reading.specs.Deciding.{Decision, undecided, decided}
use Rattle.theory_writing.specs.UniqueTable.{start}
use Rattle.theory_writing.specs.Rules.{Text, number, one, two, part}
use Rattle.theory_writing.specs.Texts.{decimal, tilde_if, bytes, between}

-- ---- The operator ----------------------------------------------------------------------------

-- "decisions a, b give binary digit 2a + b of it"; of more decisions the first likewise has the greatest weight
unfoldable pub digit_at : List Bool → ℕ
digit_at [] = 0
digit_at (d ∷ ds) = bit d * 2 ^ length ds + digit_at ds

-- "binary digit [...] of it, digit 0 lowest"
unfoldable pub operate : ℕ → List Bool → Bool
unfolding digit_at
operate op ds = eqb (op / 2 ^ digit_at ds % 2) 1

-- ---- The inputs ------------------------------------------------------------------------------

-- An input: yes, no or not covered, for each word
abbrev pub Input : Type 0
Input = ℕ → Decision

-- what the inputs decide at word w, in their order
abbrev pub decisions : List Input → ℕ → List Decision
decisions [] w = []
decisions (x ∷ xs) w = x w ∷ decisions xs w

-- one result for both values of what is not covered
abbrev pub agreed : Decision → Decision → Decision
agreed undecided y = undecided
agreed (decided a) undecided = undecided
agreed (decided a) (decided b) = cond (differ a b) undecided (decided a)

-- Document 02, R-3: "A word is settled when the operator gives one result for all values of what an input doesn't cover; that result is then what the
-- operator decides". Undecided: the word is not settled. (Each input has its own values where it is not covered.)
unfoldable pub outcome : (List Bool → Bool) → List Decision → Decision
outcome op [] = decided (op [])
outcome op (decided d ∷ ds) = outcome (λ vs. op (d ∷ vs)) ds
outcome op (undecided ∷ ds) = agreed (outcome (λ vs. op (false ∷ vs)) ds) (outcome (λ vs. op (true ∷ vs)) ds)

-- the operator taken word by word
abbrev pub joint : (List Bool → Bool) → List Input → ℕ → Decision
joint op inputs w = outcome op (decisions inputs w)

-- the least one of the k words from w on that is not decided, one past them if all are
unfoldable pub least_open : ℕ → Input → ℕ → ℕ
least_open zero f w = w
least_open (suc k) f w = elim (f w) [ undecided ↦ w | decided d ↦ least_open k f (w + 1) ]

-- "the covered count of a run is the least word that is not settled, or 2^n"
unfoldable pub run_covered : (List Bool → Bool) → ℕ → List Input → ℕ
unfolding least_open outcome
run_covered op n inputs = least_open (2 ^ n) (joint op inputs) 0

-- What is decided; on a word that is not, it counts as no: that choice is free, nothing that is written depends on it (`run-stable`).
abbrev pub or_no : Decision → Bool
or_no undecided = false
or_no (decided d) = d

-- ---- The release of a text -------------------------------------------------------------------

-- A two-child node written out: the text up to its end, number included, and one past its last word
pub record NodeEnd : Type 0 where
  pub up_to : List ℕ
  pub words : ℕ

-- the node ends of a text that stands after p
abbrev pub behind : List ℕ → List NodeEnd → List NodeEnd
behind p [] = []
behind p (e ∷ es) = record { up_to = p ++ e.up_to; words = e.words } ∷ behind p es

-- The two-child nodes of a part's text in the order in which they end; the part has m options left, and its words begin at `at`.
-- (With no option left there is no bracket.)
unfoldable pub node_ends : ℕ → ℕ → Text → List NodeEnd
unfolding bytes
node_ends m at (number k) = []
node_ends zero at (one x) = []
node_ends (suc m) at (one x) = behind (opener ∷ []) (node_ends m at x)
node_ends zero at (two x t y k) = []
node_ends (suc m) at (two x t y k) =
    behind (opener ∷ []) (node_ends m at x) ++ (behind (opener ∷ (bytes x ++ between t x y)) (node_ends m (at + 2 ^ m) y)
    ++ (record { up_to = bytes (two x t y k); words = at + 2 ^ suc m } ∷ []))

-- the later of two beginnings, if there is one
abbrev pub or_else : Option (List ℕ) → Option (List ℕ) → Option (List ℕ)
or_else none o = o
or_else (some y) o = some y

-- "the last two-child node written out (number included) whose words are all covered"
unfoldable pub last_covered : ℕ → List NodeEnd → Option (List ℕ)
last_covered c [] = none
last_covered c (e ∷ es) = or_else (last_covered c es) (cond (leb e.words c) (some e.up_to) none)

-- ---- The text of a run -----------------------------------------------------------------------

-- "the table size, one LF"
abbrev pub head : ℕ → List ℕ
head size = decimal size ++ (line_feed ∷ [])

-- what of the outermost node is released, after size and LF; "with none, size and LF"
abbrev pub after : List ℕ → Bool → Option (List ℕ) → List ℕ
after x t none = x
after x t (some y) = x ++ (tilde_if t ++ y)

-- The text of a run over n options that decides the words by f and covers c of them. "If it is 2^n the text is the whole stream. Otherwise
-- it is the beginning that ends with the last two-child node written out (number included) whose words are all covered [...]; with none,
-- size and LF."
unfoldable pub run_text : ℕ → ℕ → ℕ → (ℕ → Bool) → List ℕ
unfolding part decimal bytes node_ends last_covered
run_text n size c f =
    let p = (part size n 1 0 f start).part in
    elim (eqb c (2 ^ n)) [
      | true ↦ head size ++ (tilde_if p.complement ++ (bytes p.text ++ (dot ∷ [])))
      | false ↦ after (head size) p.complement (last_covered c (node_ends n 0 p.text))
    ]

-- the text of a run over inputs, for an operator
unfoldable pub run_of : (List Bool → Bool) → ℕ → ℕ → List Input → List ℕ
unfolding run_text run_covered
run_of op n size inputs = run_text n size (run_covered op n inputs) (λ w. or_no (joint op inputs w))

-- ---- The output and the answer ---------------------------------------------------------------

-- "If the output is shorter than the text, it gets the text's first bytes": of the text, what the lent output gets
unfoldable pub written_bytes : List ℕ → List ℕ → List ℕ
written_bytes text out = take (length out) text

-- "Bytes beyond those written keep their content."
unfoldable pub output_after : List ℕ → List ℕ → List ℕ
unfolding written_bytes
output_after text out = written_bytes text out ++ drop (length (written_bytes text out)) out

-- how a run ends
pub data Ending : Type 0 where
  whole input_ended output_full : Ending

-- "If the output is shorter than the text, [...] the ending is "output full"; else the ending is "whole" if the covered count is 2^n,
-- otherwise "input ended"."
abbrev pub ending_of : ℕ → ℕ → List ℕ → List ℕ → Ending
ending_of n c text out = cond (ltb (length out) (length text)) output_full (cond (eqb c (2 ^ n)) whole input_ended)

-- "The answer has bytes written, covered count, ending"
pub record Answer : Type 0 where
  pub written : ℕ
  pub covered : ℕ
  pub ending : Ending

-- the answer of a run with this text and covered count, for the output lent
unfoldable pub answer_of : ℕ → ℕ → List ℕ → List ℕ → Answer
unfolding written_bytes
answer_of n c text out =
    record { written = length (written_bytes text out); covered = c; ending = ending_of n c text out }
