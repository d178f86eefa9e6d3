-- WHAT ELSE IS PROVED of the definitions, beside the demands (Claims): the examples marked P, cause 7 and the grammar, longer streams, the next admitted
-- word, the queue, words that are not covered. Each statement stands under a line of plain words and is proved by a citation. Assumes nothing.
use Rattle.std.specs.Prelude.{◌≡◌, ◌↔◌, Bool, true, false, ℕ, suc, ◌≤◌, ◌<◌, ◌^◌, length, take}
use Rattle.std.proofs.Common.{ap, ◌∙◌}
use mathlib.Core.List.{List, ◌++◌, Memᴰ}
use Rattle.std.proofs.Math.Option.{none, some}
use Rattle.theory_lists.specs.Lists.{has, Distinct}
use Rattle.theory_lists.specs.Prefixes.{Begins}
use Rattle.theory_reading.specs.Causes.{wrong_byte}
use Rattle.theory_reading.specs.Grammar.{IsStream, Viable}
use Rattle.theory_reading.specs.Nodes.{has_parent}
use Rattle.theory_reading.specs.Element.{over, fault, ran_out}
use Rattle.theory_reading.specs.Reading.{Fault, Reading, reading}
use Rattle.theory_reading.specs.Deciding.{decided, decision}
use Rattle.theory_reading.specs.Calls.{NextWord}
use Rattle.theory_reading.proofs.Covered as C
use Rattle.theory_reading.specs.Covered.{covered}
use Rattle.theory_reading.proofs.Prefix as P
use Rattle.theory_reading.proofs.CauseSeven as G
use Rattle.theory_writing.specs.UniqueTable.{start}
use Rattle.theory_writing.specs.Rules.{part}
use Rattle.theory_writing.specs.Run.{run_text, written_bytes, output_after, output_full, answer_of}
use Rattle.theory_writing.specs.PaperCases as R
use Rattle.theory_writing.specs.PaperCases.{Case, rows, Holds}
use Rattle.theory_writing.specs.Queue as Q
use Rattle.theory_writing.specs.Grows as W
use Rattle.theory_writing.specs.Output as O
use Rattle.claims.specs.Terms.{NextIs, Lists}
use Rattle.claims.proofs.NextWords as N

-- ---- The examples marked P -------------------------------------------------------------------

-- Each row of the table P1 to P12 holds: what is written, and what checking answers.
pub paper-cases : (r : Case) → Memᴰ r rows → Holds r
paper-cases = R.the-table

-- ---- Cause 7 and the grammar -----------------------------------------------------------------

-- Cause 7 is at the first byte that no stream could have there: with it no stream begins so, without it some stream does.
pub cause-seven : (n : ℕ) (bytes : List ℕ) (b : ℕ) → (reading n bytes).fault ≡ some (record { cause = wrong_byte; byte = b })
    → (b < length bytes) × Viable (take b bytes) × (Viable (take (suc b) bytes) → ⊥)
cause-seven = G.wrong_byte_lem

-- Bytes without fault begin some stream.
pub no-fault : (n : ℕ) (bytes : List ℕ) → (reading n bytes).fault ≡ none → Viable bytes
no-fault = G.viable-so-far

-- Of bytes without fault, those that have come to the point are exactly the streams of the grammar.
pub complete-streams : (n : ℕ) (bytes : List ℕ) → (reading n bytes).fault ≡ none → ((reading n bytes).state.place.context ≡ over) ↔ IsStream bytes
complete-streams n bytes e = (G.complete-stream n bytes e, λ h. G.stream-complete n bytes h e)

-- The reader, which only steps, stops at the same byte: where it finds cause 7, and where the bytes run out.
pub reader-cause-seven : (bytes : List ℕ) (b : ℕ) → (G.stepped bytes).outcome ≡ fault wrong_byte b
    → (b < length bytes) × Viable (take b bytes) × (Viable (take (suc b) bytes) → ⊥)
reader-cause-seven = G.stepped-wrong

pub reader-no-fault : (bytes : List ℕ) → (G.stepped bytes).outcome ≡ ran_out → Viable bytes
    × (((G.stepped bytes).place.context ≡ over) ↔ IsStream bytes)
reader-no-fault bytes e = (G.stepped-viable bytes e, G.stepped-over bytes e)

-- ---- Longer streams --------------------------------------------------------------------------

-- Reading a longer stream goes on where the shorter one stopped: a fault stays, the covered count grows, a decided word stays decided.
pub longer-streams : (n : ℕ) (x u : List ℕ)
    → ((f : Fault) → (reading n x).fault ≡ some f → (reading n (x ++ u)).fault ≡ some f)
    × (covered n x ≤ covered n (x ++ u))
    × ((w : ℕ) (d : Bool) → w < 2 ^ n → decision n x w ≡ decided d → decision n (x ++ u) w ≡ decided d)
longer-streams n x u = (
  λ f e. ap (λ (r : Reading). r.fault) (P.fault-stands n x u f e)
      ∙ e,
  C.covered-grows n x u,
  λ w d. C.decision-stands n x u w d,
)

-- ---- The next admitted word ------------------------------------------------------------------

-- What is said of an answer holds of one answer alone.
pub one_answer : (n : ℕ) (x : List ℕ) (w : ℕ) (r r' : NextWord) → NextIs n x w r → NextIs n x w r' → r ≡ r'
one_answer = N.next_one

-- The listing of a longer stream begins with that of the shorter one.
pub longer-listings : {R : Type 0} (z : R) (n : ℕ) (x u vs vs' : List ℕ) → Lists z n x 0 vs → Lists z n (x ++ u) 0 vs' → Begins vs vs'
longer-listings z n x u = N.lists-begin z n x u 0

-- ---- Writing ---------------------------------------------------------------------------------

-- The queue has the stored nodes that are no stored node's child, each once, and no others.
pub queue-holds : (size n : ℕ) (f : ℕ → Bool)
    → let s = (part size n 1 0 f start).state in
    Distinct s.queue × ((q : ℕ) → (has q s.queue ≡ true) ↔ ((0 < q) × (q < length s.table) × (has_parent s.table q ≡ false)))
queue-holds = Q.queue-exact

-- Words that a run does not cover change nothing in its text: what the inputs decide there is free.
pub later-words : (n size c : ℕ) (f g : ℕ → Bool) → ((w : ℕ) → w < c → f w ≡ g w) → run_text n size c f ≡ run_text n size c g
later-words = W.run-stable

-- A walk may stop as soon as what it has released is longer than the output: what the output gets and the answer are settled.
pub stopping : (n size c c' : ℕ) (f g : ℕ → Bool) (out : List ℕ) → c ≤ c' → c' ≤ 2 ^ n
    → ((w : ℕ) → w < c → f w ≡ g w) → length out < length (run_text n size c f)
    → (output_after (run_text n size c' g) out ≡ written_bytes (run_text n size c f) out)
    × (answer_of n c' (run_text n size c' g) out ≡ record { written = length out; covered = c'; ending = output_full })
stopping = O.may-stop
