-- The walk over stored nodes leads, part by part, to what the walk of Online knows of the words that the inputs' decisions make, and its
-- memo stays true. Assumes nothing.
use Rattle.std.specs.Prelude.{◌≡◌, Bool, true, false, cond, not, ◌||◌, List, [], ◌∷◌, ◌++◌, ℕ, zero, suc, ◌+◌, ◌-◌, ◌*◌, ◌≤◌, ◌<◌, ◌^◌, eqb, length, take}
use Rattle.std.proofs.Math.Path.{refl, subst⁻¹}
use Rattle.std.proofs.Common.{sym, ap, ap₂, ◌∙◌, subst, true≢false, arith, eqb-true}
use Rattle.std.proofs.lemmas.Bool.{eqb-false, not-true}
use Rattle.theory_lists.specs.Lists.{differ, and_l, and_r, pow_pos}
use Rattle.theory_reading.specs.Bytes.{opener}
use Rattle.theory_reading.specs.Nodes.{terminal, entry, temporary, Node, stamp}
use Rattle.theory_reading.specs.Limits.{option_limit, table_limit}
use Rattle.theory_writing.specs.UniqueTable.{State}
use Rattle.theory_writing.specs.Texts.{tilde_if}
use Rattle.theory_writing.specs.ConstantPart.{part-complement, part-constant}
use Rattle.theory_writing.specs.Storing.{Sound}
use Rattle.theory_writing.specs.Normal.{Normal}
use Rattle.theory_writing.specs.Meaning.{Is}
use Rattle.theory_writing.specs.Flow.{flow}
use Rattle.theory_writing.specs.Online.{Went, waiting, online, went, online-went}
use Rattle.theory_engine.specs.Pending.{Waiting, push_all, level_room, end_room}
use Rattle.theory_engine.specs.Engine.{Half, Progress, Walked, constant_half, number_half, kept, meet_in, second_in}
use Rattle.theory_engine.specs.Leading.{skipped_by, Came, Stands, Leads}
use Rattle.theory_engine.specs.Again.{still-leads, online-means, repeat-leads}
use Rattle.theory_engine.specs.Walking.{online-stamp, Ready, part_in, push-ready, second-ready, halves-lead, constant-leads, block-leads}
use Rattle.theory_applying.specs.Applying.{Source, first_sources, second_sources, first_values, all_pass, fixed}
use Rattle.theory_applying.specs.ApplyLaws.{ShowsAll, decisions_from, all_first, all-second, pass-alike, differ_same, all-fixed, Makes}
use Rattle.theory_applying.specs.ApplyLaws.{first-correct, second-correct}
use Rattle.theory_applying.specs.Memo.{entry_for, look_up_in, told_half, remember_in}
use Rattle.theory_applying.specs.Sitting.{SitsAll, tables_of, all-sit-first, all-sit-second, tables-first, tables-second}
use Rattle.theory_applying.specs.MemoLaws.{is-constant, Memory, memory-step}
use Rattle.theory_applying.specs.Noting.{online-step, online-met, came-kept, memory-note, part-noted, told-leads}
use Rattle.theory_applying.specs.Recalling.{Recalled, unnoted, alike_part, noted_in, recall_in}
use Rattle.node_records.specs.declared.WriterRecord.{WriterRecord}

-- ---- A second half that is like the first ----------------------------------------------------

-- the constant c, whatever stamp is put beside it
block-again : (n size d i at m : ℕ) (o T p w : List ℕ) (f : ℕ → Bool) (t : List WriterRecord) (out : List ℕ) (progress : Progress)
    (s : State) (c : Bool) (g : ℕ) → 0 < i → i + d ≡ suc n → Stands n size o T t out progress s → take m w ≡ p
    → ((j : ℕ) → at ≤ j → j < at + 2 ^ d → f j ≡ c)
    → Leads n size i m o T p w (kept (number_half 0 g 0 c false) t out w progress) (online size d i at p f s)
unfolding flow
block-again n size d i at m o T p w f t out progress s c g r e st here h =
    subst⁻¹ (Leads n size i m o T p w (kept (number_half 0 g 0 c false) t out w progress))
    (online-went n size d i at p f s st.sound st.normal r e ∙ ap (went p) (part-constant size d i at f c s h))
    (still-leads n size i m o T p w t out progress s (number_half 0 g 0 c false) terminal c st here
    (record { ref = refl; number = refl; skipped = refl; complement = refl; wrote = refl }))

-- a half that is neither temporary nor a number is the constant
came-terminal : (i : ℕ) (h : Half) (x : Went) → Came i h x → h.temporary ≡ false → h.number ≡ 0 → x.ref ≡ terminal
came-terminal i h x c e z = go h.temporary h.number e z c.ref
  where
    go : (t : Bool) (k : ℕ) → t ≡ false → k ≡ 0 → cond t temporary (cond (eqb k 0) terminal (entry k h.stamp)) ≡ x.ref
        → x.ref ≡ terminal
    go true k e z r = absurd (true≢false e)
    go false k e z r =
        sym r ∙ ap (λ (k : ℕ). cond (eqb k 0) terminal (entry k h.stamp)) z

-- The first half, of level i, came to a number or a constant (h); the second begins at word `mid` and is alike. q: m bytes of w, which
-- wait then
alike-leads : (n size d i at mid m : ℕ) (o T p q w : List ℕ) (f : ℕ → Bool) (t : List WriterRecord) (out : List ℕ) (progress : Progress)
    (s : State) (h : Half) → Sound s → Normal n s → 0 < i → i + d ≡ suc n →
    let x = online size d i at p f s in
    Came i h x → h.temporary ≡ false → x.complement ≡ f mid → ((j : ℕ) → j < 2 ^ d → f (mid + j) ≡ f (at + j))
    → Stands n size o T t out progress x.state → take m w ≡ q
    → Leads n size i m o T q w (kept (number_half h.number h.stamp h.skipped (f mid) false) t out w progress)
    (online size d i mid q f x.state)
alike-leads n size d i at mid m o T p q w f t out progress s h sound normal real deep came kept_half first alike st here =
    go (eqb h.number 0) refl
  where
    x : Went
    x = online size d i at p f s

    Goal : ℕ → ℕ → Type 0
    Goal k j =
        Leads n size i m o T q w (kept (number_half k h.stamp j (f mid) false) t out w progress) (online size d i mid q f x.state)

    go : (u : Bool) → eqb h.number 0 ≡ u → Goal h.number h.skipped
    go false z =
        repeat-leads n size d i at mid m o T p q w f t out progress s h sound normal real deep came (eqb-false h.number 0 z)
        (subst⁻¹ (λ (u : Bool). (j : ℕ) → j < 2 ^ d → f (mid + j) ≡ differ u (f (at + j)))
        (ap (λ (b : Bool). differ b (f mid)) first ∙ differ_same (f mid)) alike) st here
    go true z =
        let k : h.number ≡ 0 = eqb-true h.number 0 z in
        let ref = came-terminal i h x came kept_half k in
        let is : Is x.state.table f d i 0 x.complement at =
        subst (λ (j : ℕ). Is x.state.table f d i j x.complement at) (sym came.number ∙ k)
        (online-means n size d i at p f s sound normal real deep (came-kept i h x came kept_half)) in
        subst⁻¹ (λ (k : ℕ). Goal k h.skipped) k (subst⁻¹ (Goal 0) (came.skipped ∙ ap (skipped_by x.state i) ref)
        (block-again n size d i mid m o T q w f t out progress x.state (f mid) h.stamp real deep st here
        (λ j l r.
        let e : mid + (j - mid) ≡ j = omega (arith, l) in
        ap f (sym e) ∙ alike (j - mid) (omega (arith, l, r))
        ∙ is-constant x.state.table f d i x.complement at is (at + (j - mid)) (omega arith) (omega (arith, l, r)) ∙ first)))

-- ---- What a part leads to --------------------------------------------------------------------

-- The part of level i, for which the walk of Online knows x, leads to r, and the memo is true then; ts: the inputs' tables
pub record Recalls (n : ℕ) (op : List Bool → Bool) (size i m : ℕ) (o T p w : List ℕ) (ts : List (List Node)) (r : Recalled) (x : Went)
    : Type 0 where
  pub leads : Leads n size i m o T p w r.walked x
  pub memory : r.walked.progress.full ≡ false → Memory n op ts x.state r.memo

-- with d options left
abbrev RecallsAll : (List ℕ → ℕ) → (List Bool → Bool) → ℕ → ℕ → ℕ → ℕ → List ℕ → Type 0
RecallsAll hash op n size d i o =
    (at m : ℕ) (T p w : List ℕ) (xs : List Source) (gs : List (ℕ → Bool)) (f : ℕ → Bool) (μ : List (List ℕ)) (t : List WriterRecord)
    (out : List ℕ) (progress : Progress) (s : State) → Stands n size o T t out progress s → take m w ≡ p → m + level_room * d + end_room ≤ length w
    → ((k : ℕ) → stamp s.table k + 2 ^ d ≤ 4294967296) → SitsAll i xs → ShowsAll xs d i gs → Makes op d at gs f
    → Memory n op (tables_of xs) s μ
    → Recalls n op size i m o T p w (tables_of xs) (recall_in hash op size d i m xs μ t out w progress) (online size d i at p f s)

-- the halves met only if not more was sent before than the output holds
second-goes : (size i m : ℕ) (v : Bool) (a : Half) (b : Walked) → (second_in size i m v a b).progress.full ≡ false → b.progress.full ≡ false
second-goes size i m v a b e = go b.progress.full refl e
  where
    go : (u : Bool) → b.progress.full ≡ u
        → (cond u b (meet_in size i m v a b.half b.table b.output b.waits b.progress)).progress.full ≡ false
        → b.progress.full ≡ false
    go true z e = e
    go false z e = z

-- ---- From the halves to the part -------------------------------------------------------------

module _ (hash : List ℕ → ℕ) (op : List Bool → Bool) (n size d i : ℕ) (o : List ℕ) (real : 0 < i) (deep : i + suc d ≡ suc n)
    (small : n ≤ option_limit) (few : size ≤ table_limit) (half : RecallsAll hash op n size d (suc i) o) (at m : ℕ) (T p w : List ℕ)
    (xs : List Source) (gs : List (ℕ → Bool)) (f : ℕ → Bool) (μ : List (List ℕ)) (t : List WriterRecord) (out : List ℕ) (progress : Progress)
    (s : State) (st : Stands n size o T t out progress s) (here : take m w ≡ p) (room : m + level_room * suc d + end_room ≤ length w)
    (young : (k : ℕ) → stamp s.table k + 2 ^ suc d ≤ 4294967296) (sit : SitsAll i xs) (sh : ShowsAll xs (suc d) i gs)
    (mk : Makes op (suc d) at gs f) (mem : Memory n op (tables_of xs) s μ) where
  -- the next level
  next : i + 1 ≡ suc i
  next = omega arith

  -- the inputs at the halves
  abbrev ys : List Source
  ys = first_sources i xs

  abbrev zs : List Source
  zs = second_sources i xs

  -- what they show there
  shown₁ : ShowsAll ys d (i + 1) gs
  shown₁ = all_first xs d i gs sh

  shown₂ : ShowsAll zs d (i + 1) (decisions_from (2 ^ d) gs)
  shown₂ = all-second xs d i gs sh

  -- the first half, in the engine and in the walk
  abbrev opened : Waiting
  opened = push_all w m (opener ∷ [])

  abbrev p₁ : List ℕ
  p₁ = p ++ (opener ∷ [])

  ready : Ready w (m + 1) p₁ opened
  ready = push-ready m w p (opener ∷ []) here (omega (arith, room))

  abbrev a : Recalled
  a = recall_in hash op size d (i + 1) opened.count ys μ t out opened.bytes progress

  abbrev x : Went
  x = online size d (suc i) at p₁ f s

  abbrev ts : List (List Node)
  ts = tables_of xs

  first : Recalls n op size (suc i) opened.count o T p₁ opened.bytes ts a x
  first =
      subst (λ (ts : List (List Node)). Recalls n op size (suc i) opened.count o T p₁ opened.bytes ts a x) (tables-first i xs)
      (subst⁻¹ (λ (j : ℕ). SitsAll j ys → ShowsAll ys d j gs → Recalls n op size (suc i) opened.count o T p₁ opened.bytes
      (tables_of ys) (recall_in hash op size d j opened.count ys μ t out opened.bytes progress) x) next
      (λ k h. half at opened.count T p₁ opened.bytes ys gs f μ t out progress s st ready.text
      (omega (arith, ready.count, ready.room, room)) (λ k. omega (arith, young k)) k h (λ w l. mk w (omega (arith, l)))
      (subst⁻¹ (λ (ts : List (List Node)). Memory n op ts s μ) (tables-first i xs) mem)) (all-sit-first i xs real sit) shown₁)

  -- the edge between the halves
  abbrev complement : Bool
  complement = differ a.walked.half.complement (op (first_values zs))

  abbrev turn : Bool
  turn = differ x.complement (f (at + 2 ^ d))

  -- what waits before the second half
  abbrev mid : Bool → Waiting
  mid u = part_in opened.count (tilde_if u) a.walked

  abbrev p₂ : List ℕ
  p₂ = waiting p₁ (suc i) x ++ tilde_if turn

  abbrev y : Went
  y = online size d (suc i) (at + 2 ^ d) p₂ f x.state

  -- the second half: walked, at level j after the edge u,
  abbrev b : Bool → ℕ → Recalled
  b u j =
      recall_in hash op size d j (mid u).count zs a.memo a.walked.table a.walked.output (mid u).bytes a.walked.progress

  -- or what the first came to
  abbrev rep : Bool → Recalled
  rep u =
      unnoted (kept (number_half a.walked.half.number a.walked.half.stamp a.walked.half.skipped (op (first_values zs)) false)
      a.walked.table a.walked.output (mid u).bytes a.walked.progress) a.memo

  abbrev latter : Recalled
  latter = cond (alike_part i xs a.walked.half) (rep complement) (b complement (i + 1))

  abbrev Second : Bool → Recalled → Type 0
  Second u r = Recalls n op size (suc i) (mid u).count o (T ++ x.sent) p₂ (mid u).bytes ts r y

  long : m + level_room + end_room ≤ length w
  long = omega (arith, room)

  -- its words
  made₂ : Makes op d (at + 2 ^ d) (decisions_from (2 ^ d) gs) f
  made₂ = second-correct op d at gs f mk

  -- what it begins with, and what the first does
  begins₂ : f (at + 2 ^ d) ≡ op (first_values zs)
  begins₂ = first-correct op d (i + 1) (at + 2 ^ d) zs (decisions_from (2 ^ d) gs) f shown₂ made₂

  begins₁ : x.complement ≡ f at
  begins₁ =
      ap (λ (y : Went). y.complement) (online-went n size d (suc i) at p₁ f s st.sound st.normal (omega arith)
      (omega (arith, deep))) ∙ part-complement size d (suc i) at f s

  -- after the first half, where not more was sent than the output holds
  module _ (g : a.walked.progress.full ≡ false) where
    -- what waits
    before : Ready w (m + level_room) p₂ (mid turn)
    before = second-ready n size d i at m o T p w f s st.sound st.normal real deep small here long a.walked first.leads g

    -- the edge
    same : complement ≡ turn
    same = ap₂ differ (first.leads.after g).came.complement (sym begins₂)

    -- the second half is walked
    walked : Second turn (b turn (i + 1))
    walked =
        subst (λ (ts : List (List Node)). Recalls n op size (suc i) (mid turn).count o (T ++ x.sent) p₂ (mid turn).bytes ts
        (b turn (i + 1)) y) (tables-second i xs)
        (subst⁻¹ (λ (j : ℕ). SitsAll j zs → ShowsAll zs d j (decisions_from (2 ^ d) gs)
        → Recalls n op size (suc i) (mid turn).count o (T ++ x.sent) p₂ (mid turn).bytes (tables_of zs) (b turn j) y) next
        (λ k h. half (at + 2 ^ d) (mid turn).count (T ++ x.sent) p₂ (mid turn).bytes zs (decisions_from (2 ^ d) gs) f a.memo
        a.walked.table a.walked.output a.walked.progress x.state (first.leads.after g).stands before.text
        (omega (arith, before.count, before.room, room))
        (λ j. omega (
          arith,
          young j,
          online-stamp n size d (suc i) at p₁ f s st.sound st.normal (omega arith) (omega (arith, deep)) j,
        )) k h made₂ (subst⁻¹ (λ (ts : List (List Node)). Memory n op ts x.state a.memo) (tables-second i xs) (first.memory g)))
        (all-sit-second i xs real sit) shown₂)

    -- it is like the first
    repeated : alike_part i xs a.walked.half ≡ true → Second turn (rep turn)
    repeated e =
        let h = a.walked.half in
        let alike = pass-alike op d i at xs gs f (and_r (not h.temporary) (all_pass i xs) e) sh mk in
        let z : at + 2 ^ d + 0 ≡ at + 2 ^ d = omega arith in
        let v : at + 0 ≡ at = omega arith in
        let stands = (first.leads.after g).stands in
        record {
          leads =
              subst (λ (c : Bool). Leads n size (suc i) (mid turn).count o (T ++ x.sent) p₂ (mid turn).bytes
              (kept (number_half h.number h.stamp h.skipped c false) a.walked.table a.walked.output (mid turn).bytes
              a.walked.progress) y) begins₂
              (alike-leads n size d (suc i) at (at + 2 ^ d) (mid turn).count o (T ++ x.sent) p₁ p₂ (mid turn).bytes f
              a.walked.table a.walked.output a.walked.progress s h st.sound st.normal (omega arith) (omega (arith, deep))
              (first.leads.after g).came (not-true h.temporary (and_l (not h.temporary) (all_pass i xs) e))
              (begins₁ ∙ ap f (sym v) ∙ sym (alike 0 (pow_pos d)) ∙ ap f z) alike stands before.text);
          memory = λ u. memory-step n op ts (suc i) x.state y.state a.memo
              (online-step n size d (suc i) (at + 2 ^ d) f x.state stands.sound stands.normal (omega arith) p₂
              (omega (arith, deep))) (first.memory g);
        }

    -- by either way
    second-by : (again : Bool) → alike_part i xs a.walked.half ≡ again → Second complement (cond again (rep complement) (b complement (i + 1)))
    second-by true e = subst⁻¹ (λ (u : Bool). Second u (rep u)) same (repeated e)
    second-by false e = subst⁻¹ (λ (u : Bool). Second u (b u (i + 1))) same walked

    second : Second complement latter
    second = second-by (alike_part i xs a.walked.half) refl

  -- the halves met
  abbrev joint : Walked
  joint = second_in size i (mid complement).count complement a.walked.half latter.walked

  -- the part
  abbrev whole : Went
  whole = online size (suc d) i at p f s

  both : Leads n size i m o T p w (cond a.walked.progress.full a.walked joint) whole
  both =
      halves-lead n size d i at m o T p w f s st.sound st.normal real deep small here long few young a.walked latter.walked
      complement first.leads same (λ g. (second g).leads)

  -- the memo is true when they met,
  met-memory : a.walked.progress.full ≡ false → joint.progress.full ≡ false → Memory n op ts whole.state latter.memo
  met-memory g h =
      memory-step n op ts i y.state whole.state latter.memo
      (online-met n size d i at f s st.sound st.normal real p₁ p₂ p deep)
      ((second g).memory (second-goes size i (mid complement).count complement a.walked.half latter.walked h))

  -- and when the part is noted
  noted-memory : a.walked.progress.full ≡ false → Leads n size i m o T p w joint whole → joint.progress.full ≡ false → (u v : Bool)
      → joint.progress.full ≡ u → all_pass i xs ≡ v → Memory n op ts whole.state
      (cond (u || v) latter.memo (remember_in hash latter.memo xs joint.half))
  noted-memory g l h true v e k = met-memory g h
  noted-memory g l h false true e k = met-memory g h
  noted-memory g l h false false e k =
      memory-note hash n op whole.state latter.memo xs joint.half
      (part-noted n op size (suc d) i at p xs gs f s joint.half st.sound st.normal real deep sit sh mk k (l.after h).came)
      (met-memory g h)

  -- by the halves
  by-halves : (u : Bool) → a.walked.progress.full ≡ u
      → Recalls n op size i m o T p w ts (cond u a (noted_in hash i xs joint latter.memo)) whole
  by-halves true e =
      record {
        leads = subst (λ (u : Bool). Leads n size i m o T p w (cond u a.walked joint) whole) e both;
        memory = λ h. absurd (true≢false (sym e ∙ h));
      }
  by-halves false e =
      let l = subst (λ (u : Bool). Leads n size i m o T p w (cond u a.walked joint) whole) e both in
      record { leads = l; memory = λ h. noted-memory e l h joint.progress.full (all_pass i xs) refl refl }

  -- nothing is noted
  still-memory : Memory n op ts whole.state μ
  still-memory =
      memory-step n op ts i s whole.state μ (online-step n size (suc d) i at f s st.sound st.normal real p deep) mem

  -- the memo tells it, or not
  by-memo : (u : Bool) → look_up_in hash μ xs t ≡ u
      → Recalls n op size i m o T p w ts (cond u (unnoted (kept (told_half (entry_for hash μ xs) i t) t out w progress) μ)
      (cond a.walked.progress.full a (noted_in hash i xs joint latter.memo))) whole
  by-memo true e =
      record {
        leads =
            told-leads n op size (suc d) i at m o T p w xs gs f t out progress s (entry_for hash μ xs) real deep st here sit sh mk
            (mem (hash _)) e;
        memory = λ h. still-memory;
      }
  by-memo false e = by-halves a.walked.progress.full refl

  -- op is fixed, or not
  by-constants : (u : Bool) → fixed op xs ≡ u
      → Recalls n op size i m o T p w ts (cond u (unnoted (kept (constant_half (op (first_values xs))) t out w progress) μ)
      (cond (look_up_in hash μ xs t) (unnoted (kept (told_half (entry_for hash μ xs) i t) t out w progress) μ)
      (cond a.walked.progress.full a (noted_in hash i xs joint latter.memo)))) whole
  by-constants true e =
      record {
        leads =
            block-leads n size (suc d) i at m o T p w f t out progress s (op (first_values xs)) real deep st here
            (λ j l k.
            let z : at + (j - at) ≡ j = omega (arith, l) in
            let h : j - at < 2 ^ suc d = omega (arith, l, k) in
            ap f (sym z) ∙ mk (j - at) h ∙ all-fixed op xs (suc d) i gs e sh (j - at) h);
        memory = λ h. still-memory;
      }
  by-constants false e = by-memo (look_up_in hash μ xs t) refl

  part-recalls : Recalls n op size i m o T p w ts (recall_in hash op size (suc d) i m xs μ t out w progress) whole
  unfolding recall_in
  part-recalls = by-constants (fixed op xs) refl

-- ---- Each part -------------------------------------------------------------------------------

recalls : (hash : List ℕ → ℕ) (op : List Bool → Bool) (n size d i : ℕ) (o : List ℕ) → 0 < i → i + d ≡ suc n → n ≤ option_limit
    → size ≤ table_limit → RecallsAll hash op n size d i o
unfolding recall_in online
recalls hash op n size zero i o real deep small few = λ at m T p w xs gs f μ t out progress s st here room young sit sh mk mem. record {
  leads =
      subst (λ (c : Bool). Leads n size i m o T p w (kept (constant_half c) t out w progress) (online size 0 i at p f s))
      (first-correct op 0 i at xs gs f sh mk) (constant-leads n size i m o T p w t out progress s (f at) st here);
  memory = λ h. mem;
}
recalls hash op n size (suc d) i o real deep small few =
    let half = recalls hash op n size d (suc i) o (omega arith) (omega arith) small few in
    λ at m T p w xs gs f μ t out progress s st here room young sit sh mk mem.
    part-recalls hash op n size d i o real deep small few half at m T p w xs gs f μ t out progress s st here room young sit sh mk mem

-- the walk over stored nodes leads to what the walk of Online knows, and its memo stays true
pub recall-leads : (hash : List ℕ → ℕ) (op : List Bool → Bool) (n size d i at m : ℕ) (o T p w : List ℕ) (xs : List Source)
    (gs : List (ℕ → Bool)) (f : ℕ → Bool) (μ : List (List ℕ)) (t : List WriterRecord) (out : List ℕ) (progress : Progress) (s : State)
    → 0 < i → i + d ≡ suc n → n ≤ option_limit → size ≤ table_limit → Stands n size o T t out progress s → take m w ≡ p
    → m + level_room * d + end_room ≤ length w → ((k : ℕ) → stamp s.table k + 2 ^ d ≤ 4294967296) → SitsAll i xs → ShowsAll xs d i gs
    → Makes op d at gs f → Memory n op (tables_of xs) s μ
    → Recalls n op size i m o T p w (tables_of xs) (recall_in hash op size d i m xs μ t out w progress) (online size d i at p f s)
recall-leads hash op n size d i at m o T p w xs gs f μ t out progress s real deep small few =
    recalls hash op n size d i o real deep small few at m T p w xs gs f μ t out progress s
