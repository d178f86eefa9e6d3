-- What ties the writer's engine to the walk of Online: what is known of a part, where the writer stands, what a part leads to.
-- Assumes nothing.
use Rattle.std.specs.Prelude.{◌≡◌, true, false, cond, List, ◌++◌, ℕ, ◌-◌, ◌≤◌, eqb, ltb, length, take}
use Rattle.theory_reading.specs.Nodes.{Ref, terminal, entry, temporary, child, node}
use Rattle.theory_writing.specs.UniqueTable.{State}
use Rattle.theory_writing.specs.Run.{output_after}
use Rattle.theory_writing.specs.Storing.{Sound}
use Rattle.theory_writing.specs.Normal.{Normal}
use Rattle.theory_writing.specs.Queue.{Queued}
use Rattle.theory_writing.specs.Online.{Went}
use Rattle.theory_engine.specs.Keeping.{Keeps}
use Rattle.theory_engine.specs.Engine.{Half, Progress, Walked}
use Rattle.node_records.specs.declared.WriterRecord.{WriterRecord}

-- what a half came to
abbrev pub ref_in : Half → Ref
ref_in h = cond h.temporary temporary (cond (eqb h.number 0) terminal (entry h.number h.stamp))

-- the levels that a part of level i skips
abbrev pub skipped_by : State → ℕ → Ref → ℕ
skipped_by s i terminal = 0
skipped_by s i (entry k g) = (node s.table k).level - i
skipped_by s i temporary = 0

-- h is what the walk x knows of its part of level i
pub record Came (i : ℕ) (h : Half) (x : Went) : Type 0 where
  pub ref : ref_in h ≡ x.ref
  pub number : h.number ≡ child x.ref
  pub skipped : h.skipped ≡ skipped_by x.state i x.ref
  pub complement : h.complement ≡ x.complement
  pub wrote : h.wrote ≡ x.wrote

-- The writer stands in the state s with the text T sent, all of which the output holds; o: what the output held before
pub record Stands (n size : ℕ) (o T : List ℕ) (t : List WriterRecord) (out : List ℕ) (progress : Progress) (s : State) : Type 0 where
  pub keeps : Keeps t progress.given progress.first progress.last s
  pub sound : Sound s
  pub normal : Normal n s
  pub queued : Queued s
  pub most : progress.given ≤ size
  pub written : progress.written ≡ length T
  pub holds : length T ≤ length o
  pub goes_on : progress.full ≡ false
  pub output : out ≡ output_after T o

-- where the writer is after a part of level i, p being the m bytes that waited before it, unless more was sent than the output holds
pub record After (n size i m : ℕ) (o T p : List ℕ) (r : Walked) (x : Went) : Type 0 where
  pub stands : Stands n size o (T ++ x.sent) r.table r.output r.progress x.state
  pub came : Came i r.half x
  pub waits : x.wrote ≡ false → take m r.waits ≡ p

-- The part of level i, for which the walk of Online knows x, leads to r; w: the bytes that waiting text is in
pub record Leads (n size i m : ℕ) (o T p w : List ℕ) (r : Walked) (x : Went) : Type 0 where
  pub output : r.output ≡ output_after (T ++ x.sent) o
  pub full : r.progress.full ≡ ltb (length o) (length (T ++ x.sent))
  pub all : r.progress.full ≡ true → r.progress.written ≡ length o
  pub room : length r.waits ≡ length w
  pub after : r.progress.full ≡ false → After n size i m o T p r x
