-- How code holds what both checks came to, and what a run sends. Assumes nothing.
use Rattle.std.specs.Prelude.{Bool, List, [], ◌∷◌, ℕ, replicate, Result, Ok, Err}
use Rattle.theory_reading.specs.Causes as C
use Rattle.theory_reading.specs.Limits.{open_limit}
use Rattle.theory_engine.specs.Pending.{waiting_limit}
use Rattle.theory_engine.specs.Engine.{Sent}
use Rattle.theory_applying.specs.Operands as T
use Rattle.theory_applying.specs.Memo.{cache_entries}
use Rattle.theory_combining.specs.BlockReaders.{BlockReader}
use Rattle.theory_combining.specs.CombineCorrect.{BothCovered, both_covered}
use Rattle.theory_combining.specs.Entering.{ignores_first, ignores_second, entered}
use Rattle.theory_combining.specs.Merged.{empty_records}
use Rattle.elements.specs.Abstraction.{inside_open}
use Rattle.elements.specs.declared.Open.{Open}
use Rattle.answers.specs.Answers.{refusal_of}
use Rattle.answers.specs.declared.Refusal.{Refusal}
use Rattle.blocks.specs.Blocks.{block_in}
use Rattle.blocks.specs.Load.{load_in}
use Rattle.blocks.specs.declared.Loaded.{Loaded}
use Rattle.covering.specs.declared.LoadedBoth.{LoadedBoth}
use Rattle.operands.specs.Abstraction.{begun_from}
use Rattle.applier.specs.declared.Task.{Task}
use Rattle.text_walk.specs.Abstraction.{stream_by}
use Rattle.combiner.specs.declared.Both.{Both}
use Rattle.node_records.specs.declared.NodeRecord.{NodeRecord}
use Rattle.node_records.specs.declared.WriterRecord.{WriterRecord}

-- both streams checked
abbrev pub both_of : Result Both Refusal → C.Result BothCovered
both_of (Err r) = C.refused (refusal_of r)
both_of (Ok b) = C.done (both_covered b.first b.second)

-- where open nodes are put, as it is at first
abbrev pub no_opens : List Open
no_opens = replicate open_limit inside_open

-- where an input enters: l: what loading came to, t: the table then, v: it is not asked
abbrev pub entered_by : Bool → ℕ → List ℕ → Loaded → List NodeRecord → T.Operand BlockReader
entered_by v n s l t = entered v s (block_in l.block no_opens) (load_in l t) (begun_from n s no_opens t)

-- what a run sends, with the tables t₁ and t₂ to read with and t to write with
abbrev pub run_by : Task → List ℕ → List ℕ → LoadedBoth → List NodeRecord → List NodeRecord → List WriterRecord → List ℕ → Sent
run_by k x y l t₁ t₂ t out =
    stream_by k (entered_by (ignores_first k.op) k.n x l.first.loaded t₁ ∷ entered_by (ignores_second k.op) k.n y l.second.loaded t₂ ∷ [])
    (empty_records cache_entries 9) t out (replicate waiting_limit 0)
