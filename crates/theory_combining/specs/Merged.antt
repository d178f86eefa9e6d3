-- What a run with an operation cache begins with: each input at the first block of its text, and rows of zeros. Assumes nothing.
use Rattle.std.specs.Prelude.{◌≡◌, false, List, [], ℕ, ◌≤◌, ◌<◌, length, get_or, replicate}
use Rattle.std.proofs.Common.{ap, ◌∙◌, ⊎_elim, arith}
use Rattle.std.proofs.Math.Option.{none}
use Rattle.std.proofs.lemmas.List.{length-replicate, get_or-replicate}
use Rattle.std.proofs.Math.ListN.{get_or-eq_default}
use Rattle.theory_lists.specs.Lists.{decide-le}
use Rattle.theory_lists.specs.Maps.{get_or-replicate-same}
use Rattle.theory_reading.specs.Limits.{option_limit, table_limit}
use Rattle.theory_reading.specs.Reading.{reading}
use Rattle.theory_applying.specs.Applying.{Source}
use Rattle.theory_applying.specs.OperandLaws.{Fed, settled}
use Rattle.theory_applying.specs.Seating.{Seated, settle-seated}
use Rattle.theory_combining.specs.BlockReaders.{deep_of, source_of, ended_of, next_reader, first_reader, begun_operand}
use Rattle.theory_combining.specs.BlockReaderLaws.{held_of, Reads, Ends, stream-laws, comes-first}
use Rattle.node_records.specs.declared.NodeRecord.{NodeRecord}

-- g rows of j zeros
abbrev pub empty_records : ℕ → ℕ → List (List ℕ)
empty_records g j = replicate g (replicate j 0)

-- each of their cells is 0
pub zero-record : (g j p k : ℕ) → get_or (get_or (empty_records g j) p []) k 0 ≡ 0
zero-record g j p k =
    let r : List ℕ = replicate j 0 in
    ⊎_elim
    (λ (l : g ≤ p). ap (λ (r : List ℕ). get_or r k 0)
    (get_or-eq_default (empty_records g j) [] (omega (arith, l, length-replicate g r))))
    (λ (l : p < g). ap (λ (r : List ℕ). get_or r k 0) (get_or-replicate g p r [] l) ∙ get_or-replicate-same j k 0)
    (decide-le g p)

-- an input that is read from its beginning is fed at the outermost node
pub begun-fed : (n : ℕ) → n ≤ option_limit → (s : List ℕ) (t : List NodeRecord) → (reading n s).fault ≡ none → table_limit ≤ length t
    → Fed deep_of source_of ended_of (next_reader n) n (Reads n) (Ends n) 1 n 0 (begun_operand n s t) (held_of n s)
begun-fed n few s t clean room =
    let none : Source = record { table = []; number = 0; complement = false } in
    settled deep_of source_of ended_of (next_reader n) n (Reads n) (Ends n) (stream-laws n few) 0 n (omega arith) 0 (first_reader n s t) none
    (held_of n s) (comes-first n few s t clean room) (λ _. omega arith)

-- an input that is read from its beginning sits at the outermost node, if it is at an edge
pub begun-seated : (n : ℕ) → n ≤ option_limit → (s : List ℕ) (t : List NodeRecord) → (reading n s).fault ≡ none → table_limit ≤ length t
    → Seated deep_of source_of ended_of (next_reader n) 1 (begun_operand n s t)
begun-seated n few s t clean room =
    let none : Source = record { table = []; number = 0; complement = false } in
    settle-seated deep_of source_of ended_of (next_reader n) n (Reads n) (Ends n) (stream-laws n few) 1 0 (first_reader n s t) none (held_of n s)
    (comes-first n few s t clean room)
