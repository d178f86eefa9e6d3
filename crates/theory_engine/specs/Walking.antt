-- The engine's walk leads, part by part, to what the walk of Online knows: two halves that lead there make a part that does, whether
-- the second is walked or repeats the first. Assumes nothing.
use Rattle.std.specs.Prelude.{◌≡◌, Bool, not, cond, eqb, length, take, drop}
use Rattle.std.proofs.Math.Path.{refl, subst⁻¹}
use Rattle.std.proofs.Common.{sym, ap, ap₂, ◌∙◌, subst, true≢false, mul_assoc, mul_comm, add-mul, one-mul, pow-suc, arith, length-append, take-append-drop, length-take-le, ltb-true, lt-ltb}
use Rattle.std.proofs.Math.Bool.{true, false}
use Rattle.std.proofs.lemmas.Bool.{false≢true, eqb-false, not-true}
use mathlib.Core.List.{List, [], ◌∷◌, ◌++◌, append_assoc, append-nil}
use Prim.Native.Nat.{ℕ, zero, suc, ◌+◌, ◌*◌, ◌≤◌, ◌<◌, ◌^◌}
use Rattle.std.proofs.Math.Seq.{take-append_seam}
use Rattle.theory_lists.specs.Lists.{differ, and_l, and_r}
use Rattle.theory_lists.specs.Prefixes.{Begins, begins-refl, begins-trans, begins-left, begins-append}
use Rattle.theory_reading.specs.Bytes.{opener, closer}
use Rattle.theory_reading.specs.Nodes.{Ref, terminal, entry, temporary, stamp}
use Rattle.theory_reading.specs.Limits.{option_limit, table_limit}
use Rattle.theory_writing.specs.UniqueTable.{State}
use Rattle.theory_writing.specs.Rules.{Done, both_terminal, same_entry, half_barred, found, new_number, by_rule, meet}
use Rattle.theory_writing.specs.Texts.{tilde_if, storing}
use Rattle.theory_writing.specs.Output.{full-written, full-output}
use Rattle.theory_writing.specs.Calls.{truth_at}
use Rattle.theory_writing.specs.ConstantPart.{part-constant}
use Rattle.theory_writing.specs.Storing.{Sound}
use Rattle.theory_writing.specs.Stamps.{part-stamp}
use Rattle.theory_writing.specs.Steps.{plain, Halves, both_terminal-plain, same_entry-plain, found_plain, first_half, second_half, part-good, part-halves}
use Rattle.theory_writing.specs.Normal.{Normal, part-deep}
use Rattle.theory_writing.specs.Flow.{flow, plain-flow, waits}
use Rattle.theory_writing.specs.Online.{Went, bare, waiting, gap_of, meet_by, online, went, online-went}
use Rattle.theory_engine.specs.Pending.{Waiting, push_all, wait_in, part_room, level_room, end_room}
use Rattle.theory_engine.specs.PendingLaws.{push-length, push-count, push-take}
use Rattle.theory_engine.specs.Engine.{Progress, Walked, constant_half, number_half, kept, meet_in, all_bytes, repeats, again_half, second_in, walk_in}
use Rattle.theory_engine.specs.Blocks.{block_no, block-yes, block-repeats}
use Rattle.theory_engine.specs.Leading.{Stands, After, Leads}
use Rattle.theory_engine.specs.Meeting.{WroteAs, Fits, Waited, wait-came, online-fits, meet-leads}
use Rattle.theory_engine.specs.Again.{still-leads, repeat-leads}
use Rattle.node_records.specs.declared.WriterRecord.{WriterRecord}

-- ---- What two halves send --------------------------------------------------------------------

module _ (i : ℕ) (q p₁ q₁ : List ℕ) (v : Bool) (A B : Done) (s₀ : State)
    (halves : Halves i s₀ A.state B.state A.part B.part) where
  abbrev wa : Went
  wa = went p₁ A

  abbrev wb : Went
  wb = went q₁ B

  abbrev s₂ : State
  s₂ = B.state

  -- nothing was sent by halves with no node written out
  none-sent : (plain A.part.text ≡ true) × (plain B.part.text ≡ true) → wa.sent ++ wb.sent ≡ []
  none-sent f = ap₂ (λ (l r : List ℕ). l ++ r) (plain-flow p₁ A.part.text f.0) (plain-flow q₁ B.part.text f.1)

  -- a two-child node sends what its halves sent, and more
  more-sent : (k : ℕ) → Begins (wa.sent ++ wb.sent)
      (wa.sent ++ (wb.sent ++ (waiting (q ++ gap_of i v wa wb) (suc i) wb ++ (closer ∷ storing k))))
  more-sent k =
      let r = waiting (q ++ gap_of i v wa wb) (suc i) wb ++ (closer ∷ storing k) in
      (r, sym (append_assoc wa.sent wb.sent r))

  -- by each rule, what the halves sent begins what the part sends
  by_rule-begins : (both same barred : Bool) (known new : ℕ) → both_terminal A.part B.part ≡ both
      → same_entry s₂ A.part B.part ≡ same → half_barred s₂ A.part B.part ≡ barred
      → found s₂ i A.part B.part ≡ known
      → Begins (wa.sent ++ wb.sent) (meet_by q i v wa wb (by_rule both same barred known new i (bare wa) (bare wb) s₂)).sent
  unfolding by_rule
  by_rule-begins true same barred known new e₁ e₂ e₃ e₄ =
      subst⁻¹ (λ (l : List ℕ). Begins l []) (none-sent (both_terminal-plain i s₀ A.state s₂ A.part B.part halves e₁))
      (begins-refl [])
  by_rule-begins false true barred known new e₁ e₂ e₃ e₄ =
      let f = same_entry-plain i s₀ A.state s₂ A.part B.part halves e₂ in
      subst⁻¹ (λ (l : List ℕ). Begins l wa.sent)
      (ap (λ (l : List ℕ). wa.sent ++ l) (plain-flow q₁ B.part.text f) ∙ append-nil wa.sent) (begins-refl wa.sent)
  by_rule-begins false false true known new e₁ e₂ e₃ e₄ = more-sent 0
  by_rule-begins false false false (suc k) new e₁ e₂ e₃ e₄ =
      subst⁻¹ (λ (l : List ℕ). Begins l []) (none-sent (found_plain i s₀ A.state s₂ A.part B.part halves k e₃ e₄))
      (begins-refl [])
  by_rule-begins false false false zero (suc k) e₁ e₂ e₃ e₄ = more-sent (suc k)
  by_rule-begins false false false zero zero e₁ e₂ e₃ e₄ = more-sent 0

  -- by the rule that is taken
  meet-begins : (size : ℕ) → Begins (wa.sent ++ wb.sent) (meet_by q i v wa wb (meet size i (bare wa) (bare wb) s₂)).sent
  unfolding meet
  meet-begins size =
      by_rule-begins (both_terminal A.part B.part) (same_entry s₂ A.part B.part) (half_barred s₂ A.part B.part)
      (found s₂ i A.part B.part) (new_number size s₂ A.part B.part) refl refl refl refl

-- what the halves of a part send begins what the part sends
online-begins : (n size d i at : ℕ) (p : List ℕ) (f : ℕ → Bool) (s : State) → Sound s → Normal n s → 0 < i → i + suc d ≡ suc n →
    let x = online size d (suc i) at (p ++ (opener ∷ [])) f s in
    let q = waiting (p ++ (opener ∷ [])) (suc i) x in
    let v = differ x.complement (f (at + 2 ^ d)) in
    let y = online size d (suc i) (at + 2 ^ d) (q ++ tilde_if v) f x.state in
    Begins (x.sent ++ y.sent) (online size (suc d) i at p f s).sent
unfolding online
online-begins n size d i at p f s h nm r e =
    let ga = part-good size d (suc i) at f s h in
    let da = part-deep n size d (suc i) at f s h nm (omega arith) (omega arith) in
    let x = went p₁ A in
    subst⁻¹ (λ (x : Went). Ahead x (online size d (suc i) mid (q₁ x) f x.state))
    (online-went n size d (suc i) at p₁ f s h nm (omega arith) (omega arith))
    (subst⁻¹ (Ahead x)
    (online-went n size d (suc i) mid (q₁ x) f A.state ga.sound da.normal (omega arith) (omega arith))
    (meet-begins i (waiting p₁ (suc i) x) p₁ (q₁ x) (differ x.complement (f mid)) A B s (part-halves size d i at f s h) size))
  where
    -- the first word of the second half
    mid : ℕ
    mid = at + 2 ^ d

    A : Done
    A = first_half size d i at f s

    B : Done
    B = second_half size d i at f s

    p₁ : List ℕ
    p₁ = p ++ (opener ∷ [])

    -- what waits before the second half
    q₁ : Went → List ℕ
    q₁ x = waiting p₁ (suc i) x ++ tilde_if (differ x.complement (f mid))

    -- the law, of any two halves
    Ahead : Went → Went → Type 0
    Ahead x y =
        Begins (x.sent ++ y.sent)
        (meet_by (waiting p₁ (suc i) x) i (differ x.complement (f mid)) x y (meet size i (bare x) (bare y) y.state)).sent

-- ---- What a part does to the stamps ----------------------------------------------------------

-- a part gives out each number fewer than 2 ^ d times
pub online-stamp : (n size d i at : ℕ) (p : List ℕ) (f : ℕ → Bool) (s : State) → Sound s → Normal n s → 0 < i → i + d ≡ suc n
    → (k : ℕ) → stamp (online size d i at p f s).state.table k < stamp s.table k + 2 ^ d
online-stamp n size d i at p f s h nm r e k =
    subst⁻¹ (λ (x : Went). stamp x.state.table k < stamp s.table k + 2 ^ d) (online-went n size d i at p f s h nm r e)
    (part-stamp size d i at f s h k)

-- ---- More was sent than the output holds -----------------------------------------------------

-- what leads there for a part leads there for all that the part's text begins
full-leads : (n size i j m k : ℕ) (o T U p q w u : List ℕ) (r : Walked) (x y : Went) → Begins (U ++ x.sent) (T ++ y.sent)
    → length u ≡ length w → r.progress.full ≡ true → Leads n size j k o U q u r x → Leads n size i m o T p w r y
full-leads n size i j m k o T U p q w u r x y b same f h =
    let over : length o < length (U ++ x.sent) = ltb-true (length o) (length (U ++ x.sent)) (sym h.full ∙ f) in
    let more : length o < length (T ++ y.sent) = omega (arith, over, ap length b.1, length-append (U ++ x.sent) b.0) in
    record {
      output =
          h.output ∙ full-output (U ++ x.sent) o (omega (arith, over))
          ∙ sym (full-written (U ++ x.sent) (T ++ y.sent) o b (omega (arith, over)))
          ∙ sym (full-output (T ++ y.sent) o (omega (arith, more)));
      full = f ∙ sym (lt-ltb (length o) (length (T ++ y.sent)) more);
      all = h.all;
      room = h.room ∙ same;
      after = λ g. absurd (true≢false (sym f ∙ g));
    }

-- the bytes that waiting text is in may be others, as many
room-leads : (n size i m : ℕ) (o T p w u : List ℕ) (r : Walked) (x : Went) → length u ≡ length w → Leads n size i m o T p u r x
    → Leads n size i m o T p w r x
room-leads n size i m o T p w u r x e h =
    record { output = h.output; full = h.full; all = h.all; room = h.room ∙ e; after = h.after }

-- ---- What waits ------------------------------------------------------------------------------

-- the text x waits in r, at most c bytes, in a row as long as w
pub record Ready (w : List ℕ) (c : ℕ) (x : List ℕ) (r : Waiting) : Type 0 where
  pub text : take r.count r.bytes ≡ x
  pub count : r.count ≤ c
  pub room : length r.bytes ≡ length w

-- what waits after a part r that came after m bytes, and then z
abbrev pub part_in : ℕ → List ℕ → Walked → Waiting
part_in m z r =
    let q = wait_in r.waits m r.half.wrote r.half.skipped r.half.number in push_all q.bytes q.count z

-- after p the text z is pushed
pub push-ready : (m : ℕ) (w p z : List ℕ) → take m w ≡ p → m + length z ≤ length w
    → Ready w (m + length z) (p ++ z) (push_all w m z)
push-ready m w p z e h =
    record {
      text =
          ap (λ (k : ℕ). take k (push_all w m z).bytes) (push-count w m z h) ∙ push-take w m z h
          ∙ ap (λ (l : List ℕ). l ++ z) e;
      count = omega (arith, push-count w m z h);
      room = push-length w m z;
    }

-- after a part there waits in the engine what waits in the walk, and then one byte at most
pub part-ready : (n size i m : ℕ) (o T p z : List ℕ) (r : Walked) (x : Went) → After n size i m o T p r x → Fits n i x → n ≤ option_limit
    → length z ≤ 1 → m + part_room + 1 ≤ length r.waits → Ready r.waits (m + part_room + 1) (waiting p i x ++ z) (part_in m z r)
part-ready n size i m o T p z r x h fits small one long =
    let e = push-ready q.count q.bytes (waiting p i x) z d.text
    (omega (arith, d.count, least x.wrote, one, d.room, long)) in
    record { text = e.text; count = omega (arith, e.count, d.count, least x.wrote, one); room = e.room ∙ d.room }
  where
    q : Waiting
    q = wait_in r.waits m r.half.wrote r.half.skipped r.half.number

    d : Waited r.waits m p i x q
    d =
        wait-came n i m r.waits p r.half x h.came fits small
        (omega (arith, h.stands.keeps.given, h.stands.keeps.few)) h.waits (omega (arith, long))

    least : (u : Bool) → cond u 0 m ≤ m
    least true = omega arith
    least false = omega arith

-- what waited before a part still waits after it, unless a node was written out
waits-begin : (p : List ℕ) (s : State) (i : ℕ) (r : Ref) (u : Bool) → WroteAs r u → u ≡ false → Begins p (waits p s i r (not u))
waits-begin p s i r true h e = absurd (true≢false e)
waits-begin p s i terminal false h e = (_, refl)
waits-begin p s i (entry k g) false h e = (_, refl)
waits-begin p s i temporary false h e = absurd (false≢true h)

-- the first bytes of a row, from more of them
take-begin : (c m : ℕ) (l p x : List ℕ) → take c l ≡ x → Begins p x → length p ≡ m → take m l ≡ p
take-begin c m l p x e b k =
    ap₂ take (sym k)
    (sym (take-append-drop c l) ∙ ap (λ (y : List ℕ). y ++ drop c l) (e ∙ b.1) ∙ append_assoc p b.0 (drop c l))
    ∙ take-append_seam p (b.0 ++ drop c l)

-- ---- From two halves -------------------------------------------------------------------------

-- `~` or nothing is one byte at most
pub tilde-length : (v : Bool) → length (tilde_if v) ≤ 1
tilde-length true = omega arith
tilde-length false = omega arith

module _ (n size d i at m : ℕ) (o T p w : List ℕ) (f : ℕ → Bool) (s : State) (sound : Sound s) (normal : Normal n s)
    (real : 0 < i) (deep : i + suc d ≡ suc n) (small : n ≤ option_limit) (here : take m w ≡ p) (room : m + level_room + end_room ≤ length w) where
  -- what waits before the first half
  abbrev p₁ : List ℕ
  p₁ = p ++ (opener ∷ [])

  abbrev opened : Waiting
  opened = push_all w m (opener ∷ [])

  -- the first half
  abbrev former : Went
  former = online size d (suc i) at p₁ f s

  -- the edge between the halves
  abbrev turn : Bool
  turn = differ former.complement (f (at + 2 ^ d))

  -- what waits before the second half
  abbrev p₂ : List ℕ
  p₂ = waiting p₁ (suc i) former ++ tilde_if turn

  -- the second half
  abbrev latter : Went
  latter = online size d (suc i) (at + 2 ^ d) p₂ f former.state

  -- the part
  abbrev whole : Went
  whole = online size (suc d) i at p f s

  -- the first half leads to a
  abbrev First : Walked → Type 0
  First a = Leads n size (suc i) opened.count o T p₁ opened.bytes a former

  -- then the second leads to b; v: the edge
  abbrev Second : Walked → Bool → Walked → Type 0
  Second a v b =
      let r = part_in opened.count (tilde_if v) a in Leads n size (suc i) r.count o (T ++ former.sent) p₂ r.bytes b latter

  -- what waits before the second half
  pub second-ready : (a : Walked) → First a → a.progress.full ≡ false
      → Ready w (m + level_room) p₂ (part_in opened.count (tilde_if turn) a)
  second-ready a h g =
      let c = push-ready m w p (opener ∷ []) here (omega (arith, room)) in
      let r = part-ready n size (suc i) opened.count o T p₁ (tilde_if turn) a former (h.after g)
      (online-fits n size d (suc i) at p₁ f s sound normal (omega arith) (omega (arith, deep))) small (tilde-length turn)
      (omega (arith, c.count, c.room, h.room, room)) in
      record {
        text = r.text;
        count = omega (arith, r.count, c.count);
        room = r.room ∙ h.room ∙ c.room;
      }

  -- what the halves sent begins what the part sends
  begins : Begins (former.sent ++ latter.sent) whole.sent
  begins = online-begins n size d i at p f s sound normal real deep

  -- more was sent by the first half than the output holds
  first-full : (a : Walked) → First a → a.progress.full ≡ true → Leads n size i m o T p w a whole
  first-full a h g =
      full-leads n size i (suc i) m opened.count o T T p p₁ w opened.bytes a former whole
      (begins-left T former.sent whole.sent
      (begins-trans former.sent (former.sent ++ latter.sent) whole.sent (latter.sent, refl) begins))
      (push-length w m (opener ∷ [])) g h

  -- by both halves
  second-full : (a b : Walked) → First a → a.progress.full ≡ false → Second a turn b → b.progress.full ≡ true
      → Leads n size i m o T p w b whole
  second-full a b h g k z =
      let r = part_in opened.count (tilde_if turn) a in
      full-leads n size i (suc i) m r.count o T (T ++ former.sent) p p₂ w r.bytes b latter whole
      (subst⁻¹ (λ (l : List ℕ). Begins l (T ++ whole.sent)) (append_assoc T former.sent latter.sent)
      (begins-left T (former.sent ++ latter.sent) whole.sent begins))
      (second-ready a h g).room z k

  module _ (few : size ≤ table_limit) (young : (k : ℕ) → stamp s.table k + 2 ^ suc d ≤ 4294967296) where
    -- the halves meet
    halves-meet : (a b : Walked) → First a → a.progress.full ≡ false → Second a turn b → b.progress.full ≡ false
        → Leads n size i m o T p w
        (meet_in size i (part_in opened.count (tilde_if turn) a).count turn a.half b.half b.table b.output b.waits
        b.progress) whole
    halves-meet a b h g k z =
        let r = part_in opened.count (tilde_if turn) a in
        let ready = second-ready a h g in
        let x = h.after g in
        let y = k.after z in
        let same = k.room ∙ ready.room in
        let fits = online-fits n size d (suc i) at p₁ f s sound normal (omega arith) (omega (arith, deep)) in
        room-leads n size i m o T p w b.waits
        (meet_in size i r.count turn a.half b.half b.table b.output b.waits b.progress) whole same
        (meet-leads n size d i at r.count m o T p b.waits f s b.table b.output b.progress a.half b.half
        sound normal real deep small few x.came y.came
        (subst (λ (l : List ℕ). Stands n size o l b.table b.output b.progress latter.state)
        (append_assoc T former.sent latter.sent) y.stands)
        (λ j. omega (
          arith,
          young j,
          online-stamp n size d (suc i) at p₁ f s sound normal (omega arith) (omega (arith, deep)) j,
          online-stamp n size d (suc i) (at + 2 ^ d) p₂ f former.state x.stands.sound x.stands.normal (omega arith)
              (omega (arith, deep)) j,
        ))
        (omega (arith, ready.count, same, room)) y.waits
        (λ ox oy. take-begin r.count m b.waits p p₂ (y.waits oy)
        (begins-append p (waiting p₁ (suc i) former) (tilde_if turn)
        (begins-trans p p₁ (waiting p₁ (suc i) former) (opener ∷ [], refl)
        (waits-begin p₁ former.state (suc i) former.ref former.wrote fits.wrote ox)))
        (ap length (sym here) ∙ length-take-le m w (omega (arith, room)))))

    -- what two halves lead to; v: the edge between them, as the engine has it
    pub halves-lead : (a b : Walked) (v : Bool) → First a → (a.progress.full ≡ false → v ≡ turn)
        → (a.progress.full ≡ false → Second a v b)
        → Leads n size i m o T p w
        (cond a.progress.full a (second_in size i (part_in opened.count (tilde_if v) a).count v a.half b)) whole
    halves-lead a b v h e k = go a.progress.full refl
      where
        -- after the first half
        met : (u : Bool) → b.progress.full ≡ u → a.progress.full ≡ false → Second a turn b
            → Leads n size i m o T p w (cond u b (meet_in size i (part_in opened.count (tilde_if turn) a).count turn a.half
            b.half b.table b.output b.waits b.progress)) whole
        met true z g y = second-full a b h g y z
        met false z g y = halves-meet a b h g y z

        go : (u : Bool) → a.progress.full ≡ u
            → Leads n size i m o T p w
            (cond u a (second_in size i (part_in opened.count (tilde_if v) a).count v a.half b)) whole
        go true g = first-full a h g
        go false g =
            subst⁻¹ (λ (v : Bool). Second a v b → Leads n size i m o T p w
            (second_in size i (part_in opened.count (tilde_if v) a).count v a.half b) whole) (e g)
            (met b.progress.full refl g) (k g)

-- ---- The walk over a truth table -------------------------------------------------------------

-- a part that is the constant c
pub constant-leads : (n size i m : ℕ) (o T p w : List ℕ) (t : List WriterRecord) (out : List ℕ) (progress : Progress) (s : State) (c : Bool)
    → Stands n size o T t out progress s → take m w ≡ p
    → Leads n size i m o T p w (kept (constant_half c) t out w progress)
    (record { ref = terminal; complement = c; wrote = false; state = s; sent = [] })
constant-leads n size i m o T p w t out progress s c st here =
    still-leads n size i m o T p w t out progress s (constant_half c) terminal c st here
    (record { ref = refl; number = refl; skipped = refl; complement = refl; wrote = refl })

-- a part whose words are all c
pub block-leads : (n size d i at m : ℕ) (o T p w : List ℕ) (f : ℕ → Bool) (t : List WriterRecord) (out : List ℕ) (progress : Progress)
    (s : State) (c : Bool) → 0 < i → i + d ≡ suc n → Stands n size o T t out progress s → take m w ≡ p
    → ((j : ℕ) → at ≤ j → j < at + 2 ^ d → f j ≡ c)
    → Leads n size i m o T p w (kept (constant_half c) t out w progress) (online size d i at p f s)
unfolding flow
block-leads n size d i at m o T p w f t out progress s c r e st here h =
    subst⁻¹ (Leads n size i m o T p w (kept (constant_half c) t out w progress))
    (online-went n size d i at p f s st.sound st.normal r e ∙ ap (went p) (part-constant size d i at f c s h))
    (constant-leads n size i m o T p w t out progress s c st here)

-- where the first half begins
pub first-at : (c d at : ℕ) → at ≡ c * 2 ^ suc d → at ≡ c * 2 * 2 ^ d
first-at c d at e = e ∙ ap (λ (k : ℕ). c * k) (pow-suc 2 d ∙ mul_comm (2 ^ d) 2) ∙ sym (mul_assoc c 2 (2 ^ d))

-- where the second begins
pub second_at : (c d at : ℕ) → at ≡ c * 2 ^ suc d → at + 2 ^ d ≡ (c * 2 + 1) * 2 ^ d
second_at c d at e =
    ap (λ (k : ℕ). k + 2 ^ d) (first-at c d at e)
    ∙ ap (λ (k : ℕ). c * 2 * 2 ^ d + k) (sym (one-mul (2 ^ d))) ∙ sym (add-mul (c * 2) 1 (2 ^ d))

-- with d options left, the walk over the part of level i that begins at word `at` leads to what the walk of Online knows
abbrev Walks : List ℕ → ℕ → ℕ → ℕ → ℕ → List ℕ → Type 0
Walks v n size d i o =
    (c at m : ℕ) (T p w : List ℕ) (t : List WriterRecord) (out : List ℕ) (progress : Progress) (s : State) → at ≡ c * 2 ^ d
    → Stands n size o T t out progress s → take m w ≡ p → m + level_room * d + end_room ≤ length w
    → ((k : ℕ) → stamp s.table k + 2 ^ d ≤ 4294967295)
    → Leads n size i m o T p w (walk_in v size d i at m t out w progress) (online size d i at p (truth_at v) s)

-- from the halves to the part
walk_step : (v : List ℕ) (n size d i : ℕ) (o : List ℕ) → 0 < i → i + suc d ≡ suc n → n ≤ option_limit → size ≤ table_limit
    → Walks v n size d (suc i) o → Walks v n size (suc d) i o
unfolding walk_in
walk_step v n size d i o real deep small few half c at m T p w t out progress s z st here room young =
    go (all_bytes v 0 (suc d) at) (all_bytes v 255 (suc d) at) refl refl
  where
    f : ℕ → Bool
    f = truth_at v

    next : i + 1 ≡ suc i
    next = omega arith

    -- the first half, in the engine and in the walk
    opened : Waiting
    opened = push_all w m (opener ∷ [])

    ready : Ready w (m + 1) (p ++ (opener ∷ [])) opened
    ready = push-ready m w p (opener ∷ []) here (omega (arith, room))

    a : Walked
    a = walk_in v size d (i + 1) at opened.count t out opened.bytes progress

    x : Went
    x = online size d (suc i) at (p ++ (opener ∷ [])) f s

    first : Leads n size (suc i) opened.count o T (p ++ (opener ∷ [])) opened.bytes a x
    first =
        subst⁻¹ (λ (j : ℕ). Leads n size (suc i) opened.count o T (p ++ (opener ∷ [])) opened.bytes
        (walk_in v size d j at opened.count t out opened.bytes progress) x) next
        (half (c * 2) at opened.count T (p ++ (opener ∷ [])) opened.bytes t out progress s (first-at c d at z) st ready.text
        (omega (arith, ready.count, ready.room, room)) (λ k. omega (arith, young k)))

    -- the edge between the halves
    complement : Bool
    complement = differ a.half.complement (f (at + 2 ^ d))

    turn : Bool
    turn = differ x.complement (f (at + 2 ^ d))

    -- the second half, likewise
    mid : Bool → Waiting
    mid u = part_in opened.count (tilde_if u) a

    -- in the engine: if it is walked, at level j, and if it repeats the first
    b : Bool → ℕ → Walked
    b u j = walk_in v size d j (at + 2 ^ d) (mid u).count a.table a.output (mid u).bytes a.progress

    rep : Bool → Walked
    rep u =
        kept (number_half a.half.number a.half.stamp a.half.skipped (f (at + 2 ^ d)) false) a.table a.output
        (mid u).bytes a.progress

    p₂ : List ℕ
    p₂ = waiting (p ++ (opener ∷ [])) (suc i) x ++ tilde_if turn

    y : Went
    y = online size d (suc i) (at + 2 ^ d) p₂ f x.state

    Second : Bool → Walked → Type 0
    Second u r = Leads n size (suc i) (mid u).count o (T ++ x.sent) p₂ (mid u).bytes r y

    long : m + level_room + end_room ≤ length w
    long = omega (arith, room)

    -- what waits before it
    before : a.progress.full ≡ false → Ready w (m + level_room) p₂ (mid turn)
    before g = second-ready n size d i at m o T p w f s st.sound st.normal real deep small here long a first g

    -- what it leads to if it is walked
    walked : a.progress.full ≡ false → Second turn (b turn (suc i))
    walked g =
        let r = before g in
        half (c * 2 + 1) (at + 2 ^ d) (mid turn).count (T ++ x.sent) p₂ (mid turn).bytes a.table a.output a.progress
        x.state (second_at c d at z) (first.after g).stands r.text (omega (arith, r.count, r.room, room))
        (λ k. omega (
          arith,
          young k,
          online-stamp n size d (suc i) at (p ++ (opener ∷ [])) f s st.sound st.normal (omega arith)
              (omega (arith, deep)) k,
        ))

    same : a.progress.full ≡ false → complement ≡ turn
    same g = ap (λ (u : Bool). differ u (f (at + 2 ^ d))) (first.after g).came.complement

    -- if it repeats the first
    repeated : a.progress.full ≡ false → again_half v complement d at (at + 2 ^ d) a.half ≡ true → Second turn (rep turn)
    repeated g e =
        let some = not (eqb a.half.number 0) in
        let words = repeats v complement d at (at + 2 ^ d) in
        repeat-leads n size d (suc i) at (at + 2 ^ d) (mid turn).count o (T ++ x.sent) (p ++ (opener ∷ [])) p₂ (mid turn).bytes f
        a.table a.output a.progress s a.half st.sound st.normal (omega arith) (omega (arith, deep))
        (first.after g).came (eqb-false a.half.number 0 (not-true (eqb a.half.number 0) (and_l some words e)))
        (subst (λ (u : Bool). (j : ℕ) → j < 2 ^ d → f (at + 2 ^ d + j) ≡ differ u (f (at + j))) (same g)
        (subst⁻¹ (λ (k : ℕ). repeats v complement d k (k + 2 ^ d) ≡ true → (j : ℕ) → j < 2 ^ d
        → f (k + 2 ^ d + j) ≡ differ complement (f (k + j))) (first-at c d at z)
        (block-repeats v complement d (c * 2)) (and_r some words e)))
        (first.after g).stands (before g).text

    -- by either way
    second : (again : Bool) → again_half v complement d at (at + 2 ^ d) a.half ≡ again → a.progress.full ≡ false
        → Second complement (cond again (rep complement) (b complement (i + 1)))
    second true e g = subst⁻¹ (λ (u : Bool). Second u (rep u)) (same g) (repeated g e)
    second false e g =
        subst⁻¹ (λ (j : ℕ). Second complement (b complement j)) next (subst⁻¹ (λ (u : Bool). Second u (b u (suc i))) (same g) (walked g))

    go : (zeros ones : Bool) → all_bytes v 0 (suc d) at ≡ zeros → all_bytes v 255 (suc d) at ≡ ones
        → Leads n size i m o T p w (cond zeros (kept (constant_half false) t out w progress)
        (cond ones (kept (constant_half true) t out w progress)
        (cond a.progress.full a (second_in size i (mid complement).count complement a.half
        (cond (again_half v complement d at (at + 2 ^ d) a.half) (rep complement) (b complement (i + 1)))))))
        (online size (suc d) i at p f s)
    go true ones e k =
        block-leads n size (suc d) i at m o T p w f t out progress s false real deep st here
        (subst⁻¹ (λ (k : ℕ). all_bytes v 0 (suc d) k ≡ true → (j : ℕ) → k ≤ j → j < k + 2 ^ suc d → f j ≡ false) z
        (block_no v (suc d) c) e)
    go false true e k =
        block-leads n size (suc d) i at m o T p w f t out progress s true real deep st here
        (subst⁻¹ (λ (k : ℕ). all_bytes v 255 (suc d) k ≡ true → (j : ℕ) → k ≤ j → j < k + 2 ^ suc d → f j ≡ true) z
        (block-yes v (suc d) c) k)
    go false false e k =
        halves-lead n size d i at m o T p w f s st.sound st.normal real deep small here long few
        (λ j. omega (arith, young j)) a
        (cond (again_half v complement d at (at + 2 ^ d) a.half) (rep complement) (b complement (i + 1))) complement first same
        (second (again_half v complement d at (at + 2 ^ d) a.half) refl)

-- each part
walks : (v : List ℕ) (n size d i : ℕ) (o : List ℕ) → 0 < i → i + d ≡ suc n → n ≤ option_limit → size ≤ table_limit → Walks v n size d i o
unfolding walk_in online
walks v n size zero i o real deep small few = λ c at m T p w t out progress s z st here room young.
    constant-leads n size i m o T p w t out progress s (truth_at v at) st here
walks v n size (suc d) i o real deep small few =
    walk_step v n size d i o real deep small few (walks v n size d (suc i) o (omega arith) (omega arith) small few)

-- the walk over a truth table leads to what the walk of Online knows
pub walk-leads : (v : List ℕ) (n size d i c m : ℕ) (o T p w : List ℕ) (t : List WriterRecord) (out : List ℕ) (progress : Progress) (s : State)
    → 0 < i → i + d ≡ suc n → n ≤ option_limit → size ≤ table_limit → Stands n size o T t out progress s → take m w ≡ p
    → m + level_room * d + end_room ≤ length w → ((k : ℕ) → stamp s.table k + 2 ^ d ≤ 4294967295)
    → Leads n size i m o T p w (walk_in v size d i (c * 2 ^ d) m t out w progress) (online size d i (c * 2 ^ d) p (truth_at v) s)
walk-leads v n size d i c m o T p w t out progress s real deep small few =
    walks v n size d i o real deep small few c (c * 2 ^ d) m T p w t out progress s refl
