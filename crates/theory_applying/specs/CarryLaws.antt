-- The walk over texts leads, part by part, to what the walk of Online knows of the words that the inputs' decisions make, and its memo
-- stays true; where the covered words end within a part, it sends what a cut run sends. Assumes nothing.
use Rattle.std.specs.Prelude.{◌≡◌, Bool, cond, ◌||◌, leb, length, take}
use Rattle.std.proofs.Math.Path.{refl, subst⁻¹}
use Rattle.std.proofs.Common.{sym, ap, ap₂, ◌∙◌, subst, ⊎_elim, true≢false, arith, leb-true, leb-false, ltb-false}
use Rattle.std.proofs.Math.Bool.{true, false}
use mathlib.Core.List.{List, [], ◌∷◌, ◌++◌, append-nil}
use Prim.Native.Nat.{ℕ, zero, suc, ◌+◌, ◌*◌, ◌≤◌, ◌<◌, ◌^◌}
use Rattle.std.proofs.Math.Dec.{ltb}
use Rattle.theory_lists.specs.Lists.{differ, or_l, or_r, decide-le, pow_pos}
use Rattle.theory_reading.specs.Bytes.{opener}
use Rattle.theory_reading.specs.Nodes.{Node, stamp}
use Rattle.theory_reading.specs.Limits.{option_limit, table_limit}
use Rattle.theory_writing.specs.UniqueTable.{State}
use Rattle.theory_writing.specs.Texts.{tilde_if}
use Rattle.theory_writing.specs.Online.{Went, waiting, online}
use Rattle.theory_writing.specs.OnlineRuns.{cut}
use Rattle.theory_engine.specs.Pending.{Waiting, push_all, level_room, end_room}
use Rattle.theory_engine.specs.Engine.{Progress, Walked, meet_in, second_in}
use Rattle.theory_engine.specs.Leading.{Stands, Leads}
use Rattle.theory_engine.specs.Walking.{online-stamp, Ready, part_in, push-ready, second-ready, halves-lead, first-at, second_at}
use Rattle.theory_applying.specs.Applying.{Source}
use Rattle.theory_applying.specs.ApplyLaws.{decisions_at, decisions_from, from_at}
use Rattle.theory_applying.specs.Operands.{Operand, Applied, any_text, readers_of, resume, halted, ended_at, went_on, edges_of, first_operands}
use Rattle.theory_applying.specs.Operands.{second_operands, first_values_of}
use Rattle.theory_applying.specs.OperandLaws.{ReaderLaws, AllFed, Operates, operates-first, operates-former, operates-latter}
use Rattle.theory_applying.specs.OperandLaws.{Wholly, Cutly, edges-show, edges-passed, cut-former, cut-latter, cut-none}
use Rattle.theory_applying.specs.OperandLaws.{cutly-halted, cutly-full, cutly-ended, cutly-after, or-other, all_first, all-second, all-passed}
use Rattle.theory_applying.specs.OperandLaws.{all_none, all_start}
use Rattle.theory_applying.specs.MemoLaws.{Memory, memory-step, memory-read}
use Rattle.theory_applying.specs.Noting.{online-met}
use Rattle.theory_applying.specs.Recalling.{recall_in}
use Rattle.theory_applying.specs.RecallLaws.{recall-leads}
use Rattle.theory_applying.specs.Carrying.{Carried, carried, recalled_on, carry_in}
use Rattle.theory_applying.specs.Seating.{reader_tables, tables-edges, readers-first, AllSeated, seated-sit, all-seated-first, all-seated-second}
use Rattle.theory_applying.specs.Seating.{all-last-second, all-ordered}
use Rattle.node_records.specs.declared.WriterRecord.{WriterRecord}

-- ---- What a part leads to --------------------------------------------------------------------

-- The part of level i that ends before word e, all covered, leads to r, and the memo is true then; x: what the walk of Online knows of it
pub record Carries {BlockReader : Type 0} (deep_of : BlockReader → ℕ) (source_of : BlockReader → Source) (ended_of : BlockReader → Bool)
    (next : BlockReader → BlockReader) (n : ℕ)
    (Reads Ends : BlockReader → ℕ → (ℕ → Bool) → Type 0) (op : List Bool → Bool) (size i m e : ℕ) (o T p w : List ℕ) (fs : List (Operand BlockReader))
    (xs : List (ℕ → Bool)) (r : Carried BlockReader) (x : Went) : Type 0 where
  pub wholly : Wholly deep_of source_of ended_of next n Reads Ends size i m e o T p w fs xs r.applied x
  pub memory : r.applied.walked.progress.full ≡ false
      → Memory n op (reader_tables deep_of source_of ended_of next r.applied.readers) x.state r.memo

module _ {BlockReader : Type 0} (deep_of : BlockReader → ℕ) (source_of : BlockReader → Source) (ended_of : BlockReader → Bool)
    (next : BlockReader → BlockReader) (n c : ℕ)
    (Reads Ends : BlockReader → ℕ → (ℕ → Bool) → Type 0)
    (law : ReaderLaws deep_of source_of ended_of next n Reads Ends) where
  -- the tables of the inputs' block readers
  abbrev tables : List BlockReader → List (List Node)
  tables τs = reader_tables deep_of source_of ended_of next τs

  -- ---- A part that is covered -----------------------------------------------------------------

  -- with d options left, the walk over the part of level i leads to what the walk of Online knows
  abbrev Wholes : (List ℕ → ℕ) → (List Bool → Bool) → ℕ → ℕ → ℕ → List ℕ → Type 0
  Wholes hash op size d i o =
      (k at m : ℕ) (T p w : List ℕ) (fs : List (Operand BlockReader)) (xs : List (ℕ → Bool)) (f : ℕ → Bool) (μ : List (List ℕ)) (t : List WriterRecord)
      (out : List ℕ) (progress : Progress) (s : State) → at ≡ k * 2 ^ d → at + 2 ^ d ≤ c → Stands n size o T t out progress s → take m w ≡ p
      → m + level_room * d + end_room ≤ length w → ((j : ℕ) → stamp s.table j + 2 ^ d ≤ 4294967296)
      → AllFed deep_of source_of ended_of next n Reads Ends i d at fs xs → AllSeated deep_of source_of ended_of next i fs → Operates op c d at xs f
      → Memory n op (tables (readers_of fs)) s μ
      → Carries deep_of source_of ended_of next n Reads Ends op size i m (at + 2 ^ d) o T p w fs xs
      (carry_in deep_of source_of ended_of next hash op c size d i at m fs μ t out w progress) (online size d i at p f s)

  -- all inputs at edges
  edges-lead : (hash : List ℕ → ℕ) (op : List Bool → Bool) (size d i : ℕ) (o : List ℕ) → 0 < i → i + d ≡ suc n → n ≤ option_limit
      → size ≤ table_limit
      → (at m : ℕ) (T p w : List ℕ) (fs : List (Operand BlockReader)) (xs : List (ℕ → Bool)) (f : ℕ → Bool) (μ : List (List ℕ)) (t : List WriterRecord)
      (out : List ℕ) (progress : Progress) (s : State) → any_text fs ≡ false → at + 2 ^ d ≤ c → Stands n size o T t out progress s
      → take m w ≡ p → m + level_room * d + end_room ≤ length w → ((j : ℕ) → stamp s.table j + 2 ^ d ≤ 4294967296)
      → AllFed deep_of source_of ended_of next n Reads Ends i d at fs xs → AllSeated deep_of source_of ended_of next i fs → Operates op c d at xs f
      → Memory n op (tables (readers_of fs)) s μ
      → Carries deep_of source_of ended_of next n Reads Ends op size i m (at + 2 ^ d) o T p w fs xs
      (recalled_on (recall_in hash op size d i m (edges_of deep_of source_of ended_of next fs) μ t out w progress) (readers_of fs)) (online size d i at p f s)
  edges-lead hash op size d i o real deep small few at m T p w fs xs f μ t out progress s none cov st here room young fed seat mk mem =
      let es = edges_of deep_of source_of ended_of next fs in
      let same = tables-edges deep_of source_of ended_of next fs in
      let r = recall-leads hash op n size d i at m o T p w es (decisions_from at xs) f μ t out progress s real deep small few st here room young
      (seated-sit deep_of source_of ended_of next i fs none seat) (edges-show deep_of source_of ended_of next n Reads Ends i d at fs xs none fed)
      (λ w l. mk (at + w) (omega arith) (omega (arith, l)) (omega (arith, l, cov)) ∙ ap op (from_at at xs w))
      (subst⁻¹ (λ (ts : List (List Node)). Memory n op ts s μ) same mem) in
      record {
        wholly =
            record {
              goes_on = refl;
              leads = r.leads;
              passed = λ g. edges-passed deep_of source_of ended_of next n Reads Ends i d at (at + 2 ^ d) fs xs none fed;
            };
        memory =
            λ g. subst (λ (ts : List (List Node)). Memory n op ts (online size d i at p f s).state
            (recall_in hash op size d i m es μ t out w progress).memo) same (r.memory g);
      }

  -- with d options left, the walk over the part of level i within which the covered words end sends what a cut run sends
  abbrev Cuts : (List ℕ → ℕ) → (List Bool → Bool) → ℕ → ℕ → ℕ → List ℕ → Type 0
  Cuts hash op size d i o =
      (k at m : ℕ) (T p w : List ℕ) (fs : List (Operand BlockReader)) (xs : List (ℕ → Bool)) (f : ℕ → Bool) (μ : List (List ℕ)) (t : List WriterRecord)
      (out : List ℕ) (progress : Progress) (s : State) → at ≡ k * 2 ^ d → at < c → c < at + 2 ^ d
      → Stands n size o T t out progress s → take m w ≡ p → m + level_room * d + end_room ≤ length w
      → ((j : ℕ) → stamp s.table j + 2 ^ d ≤ 4294967296) → AllFed deep_of source_of ended_of next n Reads Ends i d at fs xs
      → AllSeated deep_of source_of ended_of next i fs → Operates op c d at xs f → Memory n op (tables (readers_of fs)) s μ
      → Cutly o T (cut c size d i at p f s) (carry_in deep_of source_of ended_of next hash op c size d i at m fs μ t out w progress).applied

  -- ---- The halves of a part -------------------------------------------------------------------

  -- half: the walk over a covered half
  module _ (hash : List ℕ → ℕ) (op : List Bool → Bool) (size d i : ℕ) (o : List ℕ) (real : 0 < i) (deep : i + suc d ≡ suc n)
      (small : n ≤ option_limit) (few : size ≤ table_limit) (half : Wholes hash op size d (suc i) o) (k at m : ℕ) (T p w : List ℕ)
      (fs : List (Operand BlockReader)) (xs : List (ℕ → Bool)) (f : ℕ → Bool) (μ : List (List ℕ)) (t : List WriterRecord) (out : List ℕ)
      (progress : Progress)
      (s : State) (z : at ≡ k * 2 ^ suc d) (st : Stands n size o T t out progress s) (here : take m w ≡ p)
      (room : m + level_room * suc d + end_room ≤ length w) (young : (j : ℕ) → stamp s.table j + 2 ^ suc d ≤ 4294967296)
      (fed : AllFed deep_of source_of ended_of next n Reads Ends i (suc d) at fs xs) (seat : AllSeated deep_of source_of ended_of next i fs)
      (mk : Operates op c (suc d) at xs f) (mem : Memory n op (tables (readers_of fs)) s μ) where
    -- the next level
    up : i + 1 ≡ suc i
    up = omega arith

    -- what waits before the first half
    abbrev p₁ : List ℕ
    p₁ = p ++ (opener ∷ [])

    abbrev opened : Waiting
    opened = push_all w m (opener ∷ [])

    ready : Ready w (m + 1) p₁ opened
    ready = push-ready m w p (opener ∷ []) here (omega (arith, room))

    -- the first half, in the engine and in the walk
    abbrev ys : List (Operand BlockReader)
    ys = first_operands deep_of source_of ended_of next i fs

    abbrev a' : Carried BlockReader
    a' = carry_in deep_of source_of ended_of next hash op c size d (i + 1) at opened.count ys μ t out opened.bytes progress

    abbrev a : Applied BlockReader
    a = a'.applied

    abbrev x : Went
    x = online size d (suc i) at p₁ f s

    -- the inputs at the second half
    abbrev zs : List (Operand BlockReader)
    zs = second_operands deep_of source_of ended_of next i (resume fs a.readers)

    -- the edge between the halves
    abbrev complement : Bool
    complement = differ a.walked.half.complement (op (first_values_of deep_of source_of ended_of next zs))

    abbrev turn : Bool
    turn = differ x.complement (f (at + 2 ^ d))

    -- what waits before the second half
    abbrev p₂ : List ℕ
    p₂ = waiting p₁ (suc i) x ++ tilde_if turn

    abbrev mid : Bool → Waiting
    mid u = part_in opened.count (tilde_if u) a.walked

    -- the second half, at level j after the edge u
    abbrev second : Bool → ℕ → Carried BlockReader
    second u j =
        carry_in deep_of source_of ended_of next hash op c size d j (at + 2 ^ d) (mid u).count zs a'.memo a.walked.table a.walked.output
        (mid u).bytes a.walked.progress

    abbrev b' : Carried BlockReader
    b' = second complement (i + 1)

    abbrev b : Applied BlockReader
    b = b'.applied

    abbrev y : Went
    y = online size d (suc i) (at + 2 ^ d) p₂ f x.state

    -- both
    abbrev met : Walked
    met = second_in size i (mid complement).count complement a.walked.half b.walked

    -- the part, by what is asked after each half
    abbrev halves_met : Bool → Bool → Bool → Carried BlockReader
    halves_met h l r = cond h a' (cond l (carried (ended_at a) a'.memo) (cond r b' (carried (went_on met b.readers) b'.memo)))

    long : m + level_room + end_room ≤ length w
    long = omega (arith, room)

    -- where inputs stand at the first half
    fed₁ : AllFed deep_of source_of ended_of next n Reads Ends (i + 1) d at ys xs
    fed₁ = all_first deep_of source_of ended_of next n Reads Ends law i d deep at fs xs fed

    seat₁ : AllSeated deep_of source_of ended_of next (i + 1) ys
    seat₁ =
        all-seated-first deep_of source_of ended_of next n Reads Ends law
        i d real deep at fs xs fed seat

    mem₁ : Memory n op (tables (readers_of ys)) s μ
    mem₁ = subst⁻¹ (λ (τs : List BlockReader). Memory n op (tables τs) s μ) (readers-first deep_of source_of ended_of next i fs) mem

    -- what the first half leads to
    abbrev First : Type 0
    First = Carries deep_of source_of ended_of next n Reads Ends op size (suc i) opened.count (at + 2 ^ d) o T p₁ opened.bytes ys xs a' x

    first : at + 2 ^ d ≤ c → First
    first cov =
        subst⁻¹ (λ (j : ℕ). AllFed deep_of source_of ended_of next n Reads Ends j d at ys xs → AllSeated deep_of source_of ended_of next j ys
        → Carries deep_of source_of ended_of next n Reads Ends op size (suc i) opened.count (at + 2 ^ d) o T p₁ opened.bytes ys xs
        (carry_in deep_of source_of ended_of next hash op c size d j at opened.count ys μ t out opened.bytes progress) x) up
        (λ h q. half (k * 2) at opened.count T p₁ opened.bytes ys xs f μ t out progress s (first-at k d at z) cov st ready.text
        (omega (arith, ready.count, ready.room, room)) (λ j. omega (arith, young j)) h q (operates-former op c d at xs f mk) mem₁)
        fed₁ seat₁

    -- after it, where not more was sent than the output holds, and the next word is covered
    module _ (h : First) (g : a.walked.progress.full ≡ false) (goes : at + 2 ^ d < c) where
      -- where the inputs stand
      fed₂ : AllFed deep_of source_of ended_of next n Reads Ends (i + 1) d (at + 2 ^ d) zs xs
      fed₂ =
          all-second deep_of source_of ended_of next n Reads Ends law i d deep k at z fs xs
          a.readers fed (h.wholly.passed g)

      seat₂ : AllSeated deep_of source_of ended_of next (i + 1) zs
      seat₂ =
          all-seated-second deep_of source_of ended_of next n Reads Ends law i d real deep k at z fs xs a.readers fed (h.wholly.passed g) seat

      -- the memo, with the texts read on
      mem₂ : Memory n op (tables (readers_of zs)) x.state a'.memo
      mem₂ =
          memory-read n op (tables a.readers) (tables (readers_of zs)) x.state a'.memo
          (all-ordered deep_of source_of ended_of next n Reads Ends law i d real deep k at z fs xs a.readers fed (h.wholly.passed g) seat)
          (all-last-second deep_of source_of ended_of next n Reads Ends law i d real deep k at z fs xs a.readers fed (h.wholly.passed g) seat)
          (h.memory g)

      -- what waits
      before : Ready w (m + level_room) p₂ (mid turn)
      before =
          second-ready n size d i at m o T p w f s st.sound st.normal real deep small here long a.walked h.wholly.leads g

      -- the stamps
      young₂ : (j : ℕ) → stamp x.state.table j + 2 ^ d ≤ 4294967296
      young₂ j =
          omega (
            arith,
            young j,
            online-stamp n size d (suc i) at p₁ f s st.sound st.normal (omega arith) (omega (arith, deep)) j,
          )

      -- the edge
      same : complement ≡ turn
      same =
          ap₂ differ (h.wholly.leads.after g).came.complement
          (ap op (sym (all_start deep_of source_of ended_of next n Reads Ends law (i + 1) d
          (at + 2 ^ d) zs xs fed₂))
          ∙ sym (operates-first op c d (at + 2 ^ d) xs f goes (operates-latter op c d at xs f mk)))

    -- what the second half leads to if it is covered; u: the edge
    abbrev Second : Bool → Carried BlockReader → Type 0
    Second u r =
        Carries deep_of source_of ended_of next n Reads Ends op size (suc i) (mid u).count (at + 2 ^ d + 2 ^ d) o (T ++ x.sent) p₂ (mid u).bytes zs xs
        r y

    second-leads : First → a.walked.progress.full ≡ false → at + 2 ^ suc d ≤ c → Second complement b'
    second-leads h g cov =
        let goes : at + 2 ^ d < c = omega (arith, cov, pow_pos d) in
        let r = before h g goes in
        subst⁻¹ (λ (u : Bool). Second u (second u (i + 1))) (same h g goes)
        (subst⁻¹ (λ (j : ℕ). AllFed deep_of source_of ended_of next n Reads Ends j d (at + 2 ^ d) zs xs → AllSeated deep_of source_of ended_of next j zs
        → Second turn (second turn j)) up
        (λ q v. half (k * 2 + 1) (at + 2 ^ d) (mid turn).count (T ++ x.sent) p₂ (mid turn).bytes zs xs f a'.memo a.walked.table
        a.walked.output a.walked.progress x.state (second_at k d at z) (omega (arith, cov)) (h.wholly.leads.after g).stands
        r.text (omega (arith, r.count, r.room, room)) (young₂ h g goes) q v (operates-latter op c d at xs f mk) (mem₂ h g goes))
        (fed₂ h g goes) (seat₂ h g goes))

    -- what the part leads to if it is covered
    abbrev Whole : Carried BlockReader → Type 0
    Whole r = Carries deep_of source_of ended_of next n Reads Ends op size i m (at + 2 ^ suc d) o T p w fs xs r (online size (suc d) i at p f s)

    -- some input in its text
    halves-whole : at + 2 ^ suc d ≤ c → (h l r : Bool) → halted a ≡ h → leb c (at + 2 ^ d) ≡ l → halted b ≡ r
        → Whole (halves_met h l r)
    halves-whole cov h l r = go h l r
      where
        former : First
        former = first (omega (arith, cov))

        goes : at + 2 ^ d < c
        goes = omega (arith, cov, pow_pos d)

        both : Leads n size i m o T p w (cond a.walked.progress.full a.walked met) (online size (suc d) i at p f s)
        both =
            halves-lead n size d i at m o T p w f s st.sound st.normal real deep small here long few young a.walked
            b.walked complement former.wholly.leads (λ g. same former g goes) (λ g. (second-leads former g cov).wholly.leads)

        -- by whether more was sent in the first half than the output holds
        led : (u : Bool) → a.walked.progress.full ≡ u
            → Leads n size i m o T p w (cond u a.walked met) (online size (suc d) i at p f s)
        led u e =
            subst (λ (u : Bool). Leads n size i m o T p w (cond u a.walked met) (online size (suc d) i at p f s)) e both

        go : (h l r : Bool) → halted a ≡ h → leb c (at + 2 ^ d) ≡ l → halted b ≡ r → Whole (halves_met h l r)
        go true l r e₁ e₂ e₃ =
            let g = or-other a.ended a.walked.progress.full former.wholly.goes_on e₁ in
            record {
              wholly = record { goes_on = former.wholly.goes_on; leads = led true g; passed = λ e. absurd (true≢false (sym g ∙ e)) };
              memory = λ e. absurd (true≢false (sym g ∙ e));
            }
        go false true r e₁ e₂ e₃ = absurd (omega (arith, leb-true c (at + 2 ^ d) e₂, goes))
        go false false true e₁ e₂ e₃ =
            let g = or_r a.ended a.walked.progress.full e₁ in
            let q = (second-leads former g cov).wholly in
            let v = or-other b.ended b.walked.progress.full q.goes_on e₃ in
            record {
              wholly =
                  record {
                    goes_on = q.goes_on;
                    leads =
                        subst (λ (u : Bool). Leads n size i m o T p w (cond u b.walked
                        (meet_in size i (mid complement).count complement a.walked.half b.walked.half b.walked.table
                        b.walked.output b.walked.waits b.walked.progress)) (online size (suc d) i at p f s)) v (led false g);
                    passed = λ h. absurd (true≢false (sym v ∙ h));
                  };
              memory = λ h. absurd (true≢false (sym v ∙ h));
            }
        go false false false e₁ e₂ e₃ =
            let g = or_r a.ended a.walked.progress.full e₁ in
            let q = second-leads former g cov in
            let v = or_r b.ended b.walked.progress.full e₃ in
            record {
              wholly =
                  record {
                    goes_on = refl;
                    leads = led false g;
                    passed =
                        λ h. all-passed deep_of source_of ended_of next n Reads Ends law i d
                        deep k at z fs xs a.readers b.readers fed (former.wholly.passed g) (q.wholly.passed v);
                  };
              memory =
                  λ h. memory-step n op (tables b.readers) i y.state (online size (suc d) i at p f s).state b'.memo
                  (online-met n size d i at f s st.sound st.normal real p₁ p₂ p deep) (q.memory v);
            }

    -- the part, covered
    part-whole : at + 2 ^ suc d ≤ c → Whole (carry_in deep_of source_of ended_of next hash op c size (suc d) i at m fs μ t out w progress)
    unfolding carry_in
    part-whole cov = go (any_text fs || ltb c (at + 2 ^ suc d)) refl
      where
        go : (u : Bool) → (any_text fs || ltb c (at + 2 ^ suc d)) ≡ u
            → Whole (cond u (halves_met (halted a) (leb c (at + 2 ^ d)) (halted b))
            (recalled_on (recall_in hash op size (suc d) i m (edges_of deep_of source_of ended_of next fs) μ t out w progress) (readers_of fs)))
        go true e = halves-whole cov (halted a) (leb c (at + 2 ^ d)) (halted b) refl refl refl
        go false e =
            edges-lead hash op size (suc d) i o real deep small few at m T p w fs xs f μ t out progress s (or_l (any_text fs) _ e) cov st here room young
            fed seat mk mem

    -- what the part sends if the covered words end in it
    abbrev Cut : Carried BlockReader → Type 0
    Cut r = Cutly o T (cut c size (suc d) i at p f s) r.applied

    -- cut_half: the walk over a half in which they end
    module _ (cut_half : Cuts hash op size d (suc i) o) (start : at < c) (over : c < at + 2 ^ suc d) where
      -- they end in the first half
      first-cut : c < at + 2 ^ d → Cutly o T (cut c size d (suc i) at p₁ f s) a
      first-cut l =
          subst⁻¹ (λ (j : ℕ). AllFed deep_of source_of ended_of next n Reads Ends j d at ys xs → AllSeated deep_of source_of ended_of next j ys
          → Cutly o T (cut c size d (suc i) at p₁ f s)
          (carry_in deep_of source_of ended_of next hash op c size d j at opened.count ys μ t out opened.bytes progress).applied) up
          (λ h q. cut_half (k * 2) at opened.count T p₁ opened.bytes ys xs f μ t out progress s (first-at k d at z) start l
          st ready.text (omega (arith, ready.count, ready.room, room))
          (λ j. omega (arith, young j)) h q (operates-former op c d at xs f mk) mem₁) fed₁ seat₁

      -- in the second
      second-cut : First → a.walked.progress.full ≡ false → at + 2 ^ d < c
          → Cutly o (T ++ x.sent) (cut c size d (suc i) (at + 2 ^ d) p₂ f x.state) b
      second-cut h g goes =
          let r = before h g goes in
          subst⁻¹ (λ (u : Bool). Cutly o (T ++ x.sent) (cut c size d (suc i) (at + 2 ^ d) p₂ f x.state)
          (second u (i + 1)).applied) (same h g goes)
          (subst⁻¹ (λ (j : ℕ). AllFed deep_of source_of ended_of next n Reads Ends j d (at + 2 ^ d) zs xs → AllSeated deep_of source_of ended_of next j zs
          → Cutly o (T ++ x.sent) (cut c size d (suc i) (at + 2 ^ d) p₂ f x.state) (second turn j).applied) up
          (λ q v. cut_half (k * 2 + 1) (at + 2 ^ d) (mid turn).count (T ++ x.sent) p₂ (mid turn).bytes zs xs f a'.memo
          a.walked.table a.walked.output a.walked.progress x.state (second_at k d at z) goes (omega (arith, over))
          (h.wholly.leads.after g).stands r.text (omega (arith, r.count, r.room, room))
          (young₂ h g goes) q v (operates-latter op c d at xs f mk) (mem₂ h g goes)) (fed₂ h g goes) (seat₂ h g goes))

      -- the first half is covered
      latter-cut : First → at + 2 ^ d ≤ c → (h l r : Bool) → halted a ≡ h → leb c (at + 2 ^ d) ≡ l → halted b ≡ r
          → Cut (halves_met h l r)
      latter-cut former cov h l r e₁ e₂ e₃ =
          subst⁻¹ (λ (v : List ℕ). Cutly o T v (halves_met h l r).applied) (cut-latter c size d i at p f s cov) (go h l r e₁ e₂ e₃)
        where
          rest : List ℕ
          rest = cut c size d (suc i) (at + 2 ^ d) p₂ f x.state

          go : (h l r : Bool) → halted a ≡ h → leb c (at + 2 ^ d) ≡ l → halted b ≡ r
              → Cutly o T (x.sent ++ rest) (halves_met h l r).applied
          go true l r e₁ e₂ e₃ =
              cutly-full n size (suc i) opened.count o T p₁ opened.bytes (x.sent ++ rest) a x former.wholly.leads
              (or-other a.ended a.walked.progress.full former.wholly.goes_on e₁) (rest, refl)
          go false true r e₁ e₂ e₃ =
              subst⁻¹ (λ (v : List ℕ). Cutly o T v (ended_at a))
              (ap (λ (v : List ℕ). x.sent ++ v)
              (cut-none c size d (suc i) (at + 2 ^ d) p₂ f x.state (leb-true c (at + 2 ^ d) e₂)) ∙ append-nil x.sent)
              (cutly-ended n size (suc i) opened.count o T p₁ opened.bytes a x former.wholly.leads)
          go false false true e₁ e₂ e₃ =
              cutly-after o T x.sent rest b
              (second-cut former (or_r a.ended a.walked.progress.full e₁) (leb-false c (at + 2 ^ d) e₂))
          go false false false e₁ e₂ e₃ =
              let q = second-cut former (or_r a.ended a.walked.progress.full e₁) (leb-false c (at + 2 ^ d) e₂) in
              absurd (true≢false (sym (cutly-halted o (T ++ x.sent) rest b q) ∙ e₃))

      -- the part
      part_cut : Cut (carry_in deep_of source_of ended_of next hash op c size (suc d) i at m fs μ t out w progress)
      unfolding carry_in
      part_cut = go (any_text fs || ltb c (at + 2 ^ suc d)) refl
        where
          early : c < at + 2 ^ d → Cut (halves_met (halted a) (leb c (at + 2 ^ d)) (halted b))
          early l =
              let h = first-cut l in
              subst⁻¹ (λ (u : Bool). Cut (halves_met u (leb c (at + 2 ^ d)) (halted b)))
              (cutly-halted o T (cut c size d (suc i) at p₁ f s) a h)
              (subst⁻¹ (λ (v : List ℕ). Cutly o T v a) (cut-former c size d i at p f s l) h)

          late : at + 2 ^ d ≤ c → Cut (halves_met (halted a) (leb c (at + 2 ^ d)) (halted b))
          late l = latter-cut (first l) l (halted a) (leb c (at + 2 ^ d)) (halted b) refl refl refl

          go : (u : Bool) → (any_text fs || ltb c (at + 2 ^ suc d)) ≡ u
              → Cut (cond u (halves_met (halted a) (leb c (at + 2 ^ d)) (halted b))
              (recalled_on (recall_in hash op size (suc d) i m (edges_of deep_of source_of ended_of next fs) μ t out w progress) (readers_of fs)))
          go true e = ⊎_elim late early (decide-le (at + 2 ^ d) c)
          go false e =
              absurd (omega (arith, ltb-false c (at + 2 ^ suc d) (or_r (any_text fs) (ltb c (at + 2 ^ suc d)) e), over))

  -- ---- Each part that is covered --------------------------------------------------------------

  -- each part
  wholes : (hash : List ℕ → ℕ) (op : List Bool → Bool) (size d i : ℕ) (o : List ℕ) → 0 < i → i + d ≡ suc n → n ≤ option_limit
      → size ≤ table_limit → Wholes hash op size d i o
  unfolding carry_in
  wholes hash op size zero i o real deep small few = λ k at m T p w fs xs f μ t out progress s z cov st here room young fed seat mk mem.
      edges-lead hash op size 0 i o real deep small few at m T p w fs xs f μ t out progress s
      (all_none deep_of source_of ended_of next n Reads Ends law i at fs xs
      (omega (arith, deep)) fed) cov st here room young fed seat mk mem
  wholes hash op size (suc d) i o real deep small few =
      let half = wholes hash op size d (suc i) o (omega arith) (omega arith) small few in
      λ k at m T p w fs xs f μ t out progress s z cov st here room young fed seat mk mem.
      part-whole hash op size d i o real deep small few half k at m T p w fs xs f μ t out progress s z st here room young fed seat mk mem cov

  -- a part that is covered leads to what the walk of Online knows
  pub carry-leads : (hash : List ℕ → ℕ) (op : List Bool → Bool) (size d i at k m : ℕ) (o T p w : List ℕ) (fs : List (Operand BlockReader))
      (xs : List (ℕ → Bool)) (f : ℕ → Bool) (μ : List (List ℕ)) (t : List WriterRecord) (out : List ℕ) (progress : Progress) (s : State)
      → 0 < i → i + d ≡ suc n → n ≤ option_limit → size ≤ table_limit → at ≡ k * 2 ^ d → at + 2 ^ d ≤ c → Stands n size o T t out progress s
      → take m w ≡ p → m + level_room * d + end_room ≤ length w → ((j : ℕ) → stamp s.table j + 2 ^ d ≤ 4294967296)
      → AllFed deep_of source_of ended_of next n Reads Ends i d at fs xs → AllSeated deep_of source_of ended_of next i fs
      → ((w : ℕ) → at ≤ w → w < at + 2 ^ d → w < c → f w ≡ op (decisions_at xs w))
      → Memory n op (tables (readers_of fs)) s μ
      → Carries deep_of source_of ended_of next n Reads Ends op size i m (at + 2 ^ d) o T p w fs xs
      (carry_in deep_of source_of ended_of next hash op c size d i at m fs μ t out w progress) (online size d i at p f s)
  carry-leads hash op size d i at k m o T p w fs xs f μ t out progress s real deep small few =
      wholes hash op size d i o real deep small few k at m T p w fs xs f μ t out progress s

  -- ---- Each part within which the covered words end -------------------------------------------

  -- by the options left
  cuts : (hash : List ℕ → ℕ) (op : List Bool → Bool) (size d i : ℕ) (o : List ℕ) → 0 < i → i + d ≡ suc n → n ≤ option_limit
      → size ≤ table_limit → Cuts hash op size d i o
  cuts hash op size zero i o real deep small few =
      λ k at m T p w fs xs f μ t out progress s z start over st here room young fed seat mk mem. absurd (omega (arith, start, over))
  cuts hash op size (suc d) i o real deep small few =
      let half = wholes hash op size d (suc i) o (omega arith) (omega arith) small few in
      let cut_half = cuts hash op size d (suc i) o (omega arith) (omega arith) small few in
      λ k at m T p w fs xs f μ t out progress s z start over st here room young fed seat mk mem.
      part_cut hash op size d i o real deep small few half k at m T p w fs xs f μ t out progress s z st here room young fed seat mk mem cut_half
      start over

  -- a part within which the covered words end sends what a cut run sends
  pub carry-cut : (hash : List ℕ → ℕ) (op : List Bool → Bool) (size d i at k m : ℕ) (o T p w : List ℕ) (fs : List (Operand BlockReader))
      (xs : List (ℕ → Bool)) (f : ℕ → Bool) (μ : List (List ℕ)) (t : List WriterRecord) (out : List ℕ) (progress : Progress) (s : State)
      → 0 < i → i + d ≡ suc n → n ≤ option_limit → size ≤ table_limit → at ≡ k * 2 ^ d → at < c → c < at + 2 ^ d
      → Stands n size o T t out progress s → take m w ≡ p → m + level_room * d + end_room ≤ length w
      → ((j : ℕ) → stamp s.table j + 2 ^ d ≤ 4294967296) → AllFed deep_of source_of ended_of next n Reads Ends i d at fs xs
      → AllSeated deep_of source_of ended_of next i fs → ((w : ℕ) → at ≤ w → w < at + 2 ^ d → w < c → f w ≡ op (decisions_at xs w))
      → Memory n op (tables (readers_of fs)) s μ
      → Cutly o T (cut c size d i at p f s) (carry_in deep_of source_of ended_of next hash op c size d i at m fs μ t out w progress).applied
  carry-cut hash op size d i at k m o T p w fs xs f μ t out progress s real deep small few =
      cuts hash op size d i o real deep small few k at m T p w fs xs f μ t out progress s
