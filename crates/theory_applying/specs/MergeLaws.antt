-- The engine's stream of a run over inputs: what it leaves in the output is what the text of the run leaves there.
-- Assumes nothing.
use Rattle.std.specs.Prelude.{◌≡◌, Bool, true, false, cond, ◌||◌, List, [], ℕ, ◌+◌, ◌*◌, ◌≤◌, ◌<◌, ◌^◌, eqb, length, get_or}
use Rattle.std.proofs.Math.Path.{refl, subst⁻¹}
use Rattle.std.proofs.Common.{◌∙◌, subst, ⊎_elim, arith, eqb-true}
use Rattle.std.proofs.lemmas.Bool.{eqb-false}
use Rattle.theory_lists.specs.Lists.{decide-le}
use Rattle.theory_reading.specs.Limits.{option_limit, table_limit}
use Rattle.theory_writing.specs.UniqueTable.{start}
use Rattle.theory_writing.specs.Texts.{tilde_if}
use Rattle.theory_writing.specs.Run.{head, run_text}
use Rattle.theory_writing.specs.Steps.{start-sound}
use Rattle.theory_writing.specs.Normal.{start-normal}
use Rattle.theory_writing.specs.OnlineRuns.{cut}
use Rattle.theory_engine.specs.Cells.{cell}
use Rattle.theory_engine.specs.Pending.{Waiting, push_all, level_room, end_room, waiting_limit}
use Rattle.theory_engine.specs.PendingLaws.{waiting-room}
use Rattle.theory_engine.specs.Engine.{Sent, send_text, progress_after, done_in}
use Rattle.theory_engine.specs.Leading.{Stands}
use Rattle.theory_engine.specs.Meeting.{online-fits}
use Rattle.theory_engine.specs.Walking.{Ready, push-ready, tilde-length}
use Rattle.theory_engine.specs.Streaming.{Wrote, send-wrote, full-wrote, none-output, done-wrote, head-length, start-stands}
use Rattle.theory_applying.specs.Applying.{Source}
use Rattle.theory_applying.specs.ApplyLaws.{jointly}
use Rattle.theory_applying.specs.Operands.{Operand, Applied, readers_of}
use Rattle.theory_applying.specs.OperandLaws.{ReaderLaws, AllFed, all_start}
use Rattle.theory_applying.specs.Finishing.{sent_by, finish_in}
use Rattle.theory_applying.specs.FinishLaws.{lead, walk, text-whole, text-short, text-none, covered-fewer, text-begins, start-young, cutly-wrote}
use Rattle.theory_applying.specs.MemoLaws.{Memory, memory-none}
use Rattle.theory_applying.specs.Carrying.{carry_in}
use Rattle.theory_applying.specs.Seating.{reader_tables, AllSeated}
use Rattle.theory_applying.specs.CarryLaws.{carry-leads, carry-cut}
use Rattle.theory_applying.specs.Merging.{merge_nodes_in, merge_in}
use Rattle.node_records.specs.declared.WriterRecord.{WriterRecord}

-- ---- The whole stream ------------------------------------------------------------------------

-- law: as in OperandLaws
module _ {BlockReader : Type 0} (deep_of : BlockReader → ℕ) (source_of : BlockReader → Source) (ended_of : BlockReader → Bool)
    (next : BlockReader → BlockReader) (n c : ℕ)
    (Reads Ends : BlockReader → ℕ → (ℕ → Bool) → Type 0)
    (law : ReaderLaws deep_of source_of ended_of next n Reads Ends) where
  -- y: after the size and its LF, all of which the output holds
  module _ (hash : List ℕ → ℕ) (op : List Bool → Bool) (size : ℕ) (fs : List (Operand BlockReader)) (xs : List (ℕ → Bool)) (μ : List (List ℕ))
      (t : List WriterRecord) (out : List ℕ) (y : Sent) (small : n ≤ option_limit) (few : size ≤ table_limit)
      (stands : Stands n size out (head size) t y.output (progress_after y) start) (room : length y.waits ≡ waiting_limit)
      (e : c ≤ 2 ^ n) (some : 0 < c) (fed : AllFed deep_of source_of ended_of next n Reads Ends 1 n 0 fs xs)
      (seat : AllSeated deep_of source_of ended_of next 1 fs) (none : (p j : ℕ) → get_or (get_or μ p []) j 0 ≡ 0) where
    -- what the walk begins with
    abbrev p : List ℕ
    p = lead op n size c xs e

    abbrev m : Waiting
    m = push_all y.waits 0 p

    ready : Ready y.waits (0 + length p) p m
    ready = push-ready 0 y.waits [] p refl (omega (arith, tilde-length (jointly op xs 0), room))

    -- the walk
    abbrev r : Applied BlockReader
    r = (carry_in deep_of source_of ended_of next hash op c size n 1 0 m.count fs μ t y.output m.bytes (progress_after y)).applied

    -- the memo is empty
    mem : Memory n op (reader_tables deep_of source_of ended_of next (readers_of fs)) start μ
    mem = memory-none n op (reader_tables deep_of source_of ended_of next (readers_of fs)) start μ none

    -- the bytes for what waits suffice
    wide : m.count + level_room * n + end_room ≤ length m.bytes
    wide = omega (arith, ready.count, tilde-length (jointly op xs 0), ready.room, room, waiting-room n small)

    -- all words are covered
    whole-wrote : c ≡ 2 ^ n → Wrote out (run_text n size c (jointly op xs)) (done_in m.count r.walked)
    whole-wrote h =
        done-wrote n size m.count out (head size) p m.bytes (run_text n size c (jointly op xs)) r.walked (walk op n size c xs e) small
        (online-fits n size n 1 0 p (jointly op xs) start start-sound (start-normal n) (omega arith) (omega arith))
        (omega (arith, wide)) (text-whole op n size c xs e h)
        (carry-leads deep_of source_of ended_of next n c Reads Ends law hash op size n 1 0 0
        m.count out (head size) p m.bytes fs xs (jointly op xs) μ t y.output (progress_after y) start (omega arith) (omega arith)
        small few (omega arith) (omega (arith, h)) stands ready.text wide (start-young n small) fed seat (λ w l g k. refl) mem).wholly.leads

    -- not all are
    short-wrote : c < 2 ^ n → Wrote out (run_text n size c (jointly op xs)) (sent_by r.walked)
    short-wrote l =
        subst⁻¹ (λ (v : List ℕ). Wrote out v (sent_by r.walked)) (text-short op n size c xs e l)
        (cutly-wrote out (head size) (cut c size n 1 0 p (jointly op xs) start) r
        (carry-cut deep_of source_of ended_of next n c Reads Ends law hash op size n 1 0 0
        m.count out (head size) p m.bytes fs xs (jointly op xs) μ t y.output (progress_after y) start (omega arith) (omega arith)
        small few (omega arith) some (omega (arith, l)) stands ready.text wide
        (start-young n small) fed seat (λ w l g k. refl) mem))

    -- after the walk
    finish-wrote : Wrote out (run_text n size c (jointly op xs)) (finish_in n c m.count r)
    finish-wrote = go (eqb c (2 ^ n)) refl
      where
        go : (u : Bool) → eqb c (2 ^ n) ≡ u
            → Wrote out (run_text n size c (jointly op xs)) (cond u (done_in m.count r.walked) (sent_by r.walked))
        go true z = whole-wrote (eqb-true c (2 ^ n) z)
        go false z = short-wrote (covered-fewer op n size c xs e z)

    -- the inputs' turns are what they decide at the first word
    merge-nodes : Wrote out (run_text n size c (jointly op xs)) (merge_nodes_in deep_of source_of ended_of next hash op n c size fs μ t y)
    merge-nodes =
        subst (λ (ds : List Bool).
        let m = push_all y.waits 0 (tilde_if (op ds)) in
        Wrote out (run_text n size c (jointly op xs)) (finish_in n c m.count
        (carry_in deep_of source_of ended_of next hash op c size n 1 0 m.count fs μ t y.output m.bytes (progress_after y)).applied))
        (all_start deep_of source_of ended_of next n Reads Ends law 1 n 0 fs xs fed)
        finish-wrote

  -- the engine leaves in the output what the text of the run leaves there
  pub merge-wrote : (hash : List ℕ → ℕ) (op : List Bool → Bool) (size : ℕ) (fs : List (Operand BlockReader)) (xs : List (ℕ → Bool))
      (μ : List (List ℕ)) (t : List WriterRecord) (out w : List ℕ)
      → n ≤ option_limit → size ≤ table_limit → table_limit ≤ length t → ((i k : ℕ) → cell t i k ≡ 0) → length w ≡ waiting_limit
      → c ≤ 2 ^ n → ((p j : ℕ) → get_or (get_or μ p []) j 0 ≡ 0)
      → (0 < c → AllFed deep_of source_of ended_of next n Reads Ends 1 n 0 fs xs × AllSeated deep_of source_of ended_of next 1 fs)
      → Wrote out (run_text n size c (jointly op xs)) (merge_in deep_of source_of ended_of next hash op n c size fs μ t out w)
  unfolding merge_in
  merge-wrote hash op size fs xs μ t out w small few long zeros room e none fed = go y.full (eqb c 0) refl refl
    where
      a : Waiting
      a = push_all w 0 (head size)

      ready : Ready w (0 + length (head size)) (head size) a
      ready = push-ready 0 w [] (head size) refl (omega (arith, head-length size few, room))

      -- after the size and its LF
      y : Sent
      y = send_text out a.bytes 0 a.count

      sent : Wrote out (head size) y
      sent = send-wrote out [] (head size) out a.bytes 0 a.count (none-output out) refl (omega arith) ready.text

      go : (u v : Bool) → y.full ≡ u → eqb c 0 ≡ v
          → Wrote out (run_text n size c (jointly op xs)) (cond (u || v) y (merge_nodes_in deep_of source_of ended_of next hash op n c size fs μ t y))
      go true v f z = full-wrote out (head size) (run_text n size c (jointly op xs)) y (text-begins op n size c xs e) f sent
      go false true f z =
          subst⁻¹ (λ (l : List ℕ). Wrote out l y) (text-none op n size c xs e (eqb-true c 0 z)) sent
      go false false f z =
          let some : 0 < c = ⊎_elim (λ g. absurd (eqb-false c 0 z (omega (arith, g)))) (λ g. g) (decide-le c 0) in
          merge-nodes hash op size fs xs μ t out y small few (start-stands n size out t y long zeros sent f) (ready.room ∙ room) e
          some (fed some).0 (fed some).1 none
