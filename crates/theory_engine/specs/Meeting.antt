-- Two halves that meet in the engine lead to what the walk of Online knows of their part: the same rule is taken, the same text goes
-- out, the records keep the same state. Assumes nothing.
use Rattle.std.specs.Prelude.{◌≡◌, ◌≢◌, Bool, ◌&&◌, ◌||◌, eqb, replicate}
use Rattle.std.proofs.Math.Path.{refl, ap, ap₂, subst⁻¹}
use Rattle.std.proofs.Common.{sym, ◌∙◌, subst, true≢false}
use Rattle.std.proofs.Math.Bool.{true, false, not, cond}
use Rattle.std.proofs.lemmas.Bool.{false≢true}
use mathlib.Core.List.{List, [], ◌∷◌, ◌++◌, append_assoc, append-nil}
use Prim.Native.Nat.{ℕ, zero, suc, ◌+◌, ◌-◌, ◌≤◌, ◌<◌, ◌^◌}
use native.Mathlib.Omega.{arith}
use Rattle.std.proofs.Math.Dec.{ltb, eqb-suc-zero}
use Rattle.std.proofs.Math.ListN.{length, take, length-append}
use Rattle.std.proofs.lemmas.List.{length-replicate}
use borrow.Author.Tests.{eqb-true, eqb-false, ne_eqb, not-true, lt-ltb, ltb-true, ltb-false, le-ltb}
use Rattle.theory_lists.specs.Lists.{differ, and_l, and_r}
use Rattle.theory_reading.specs.Bytes.{opener, closer, blank}
use Rattle.theory_reading.specs.Nodes.{Ref, terminal, entry, temporary, is_kept, child, Node, node, stamp, bars}
use Rattle.theory_reading.specs.Limits.{option_limit, table_limit, digit_limit}
use Rattle.theory_reading.specs.LimitLaws.{few-options}
use Rattle.theory_writing.specs.UniqueTable.{State, stored}
use Rattle.theory_writing.specs.Rules.{Text, Done, edge, is_terminal, same_number, both_terminal, same_entry, half_barred, found, new_number, by_rule, meet}
use Rattle.theory_writing.specs.Rules.{part}
use Rattle.theory_writing.specs.Texts.{decimal, tilde_if, storing}
use Rattle.theory_writing.specs.Run.{output_after}
use Rattle.theory_writing.specs.Output.{output-length}
use Rattle.theory_writing.specs.ConstantPart.{part-complement}
use Rattle.theory_writing.specs.Storing.{Sound, Able, stored_same, stored-sound, next_small}
use Rattle.theory_writing.specs.Steps.{plain, Told, next-able, find-matches, Halves, both_terminal-plain, same_entry-plain, found_plain, a-known}
use Rattle.theory_writing.specs.Steps.{b-known, first_half, second_half, part-good, part-halves}
use Rattle.theory_writing.specs.Normal.{Normal, Depth, meet-deep, part-deep}
use Rattle.theory_writing.specs.Queue.{Queued, stored-queued}
use Rattle.theory_writing.specs.Shape.{Shape, part-shape}
use Rattle.theory_writing.specs.Flow.{plain-flow, waits}
use Rattle.theory_writing.specs.Online.{Went, digit_end, digit_begin, gap, bare, waiting, gap_of, meet_by, online, went, online-went}
use Rattle.theory_engine.specs.Cells.{cell}
use Rattle.writer_records.specs.Fields.{stamp_field}
use Rattle.theory_engine.specs.Recycling.{Lane, find_in, store_in, next_in}
use Rattle.writer_numbers.specs.Numbers.{one_more}
use Rattle.theory_engine.specs.Pending.{Waiting, push_all, part_text, wait_in, close_in, sent_to, part_room, end_room}
use Rattle.theory_engine.specs.PendingLaws.{push-length, push-count, push-take, push-keeps, number-length, replicate-opens, replicate-closes}
use Rattle.theory_engine.specs.PendingLaws.{sent-output, sent-full}
use Rattle.theory_engine.specs.Keeping.{Keeps, keeps-next}
use Rattle.theory_engine.specs.Finding.{keeps-find}
use Rattle.theory_engine.specs.Placing.{keeps-store}
use Rattle.theory_engine.specs.Engine.{Half, Progress, Walked, constant_half, number_half, temporary_half, is_constant, alike_constant, alike_number}
use Rattle.theory_engine.specs.Engine.{barred_half, spaced, write_node, kept, lane_of, write_temporary, give_in, known_in, meet_in}
use Rattle.theory_engine.specs.Leading.{skipped_by, Came, Stands, Leads}
use Rattle.node_records.specs.declared.WriterRecord.{WriterRecord}

-- ---- What waits after a part -----------------------------------------------------------------

-- a part that came to the constant wrote no node out, a temporary one did
abbrev pub WroteAs : Ref → Bool → Type 0
WroteAs terminal u = u ≡ false
WroteAs (entry k g) u = Unit {0}
WroteAs temporary u = u ≡ true

-- what holds of every part of level i, so that what waits of it is short
pub record Fits (n i : ℕ) (x : Went) : Type 0 where
  pub wrote : WroteAs x.ref x.wrote
  pub known : child x.ref < length x.state.table
  pub low : skipped_by x.state i x.ref ≤ n

-- r: what waits after the part x of level i, p being the m bytes of w that waited before it
pub record Waited (w : List ℕ) (m : ℕ) (p : List ℕ) (i : ℕ) (x : Went) (r : Waiting) : Type 0 where
  pub text : take r.count r.bytes ≡ waiting p i x
  pub count : r.count ≤ cond x.wrote 0 m + part_room
  pub room : length r.bytes ≡ length w
  pub keeps : x.wrote ≡ false → (j : ℕ) → j ≤ m → take j r.bytes ≡ take j w

-- the text that the engine pushes is the one that waits, by what a part came to
ref-waits : (p : List ℕ) (s : State) (i : ℕ) (r : Ref) (u : Bool) → WroteAs r u
    → cond u [] p ++ part_text u (skipped_by s i r) (child r) ≡ waits p s i r (not u)
ref-waits p s i terminal true e = absurd (true≢false e)
ref-waits p s i terminal false e = ap (λ (l : List ℕ). p ++ l) (append-nil (decimal 0))
ref-waits p s i (entry k g) true e = replicate-closes (skipped_by s i (entry k g))
ref-waits p s i (entry k g) false e =
    let j = skipped_by s i (entry k g) in
    ap (λ (l : List ℕ). p ++ l) (append_assoc (replicate j opener) (decimal k) (replicate j closer)
    ∙ ap₂ (λ (x y : List ℕ). x ++ (decimal k ++ y)) (replicate-opens j) (replicate-closes j))
ref-waits p s i temporary true e = refl
ref-waits p s i temporary false e = absurd (false≢true e)

-- the same of a half that is known
came-waits : (p : List ℕ) (i : ℕ) (h : Half) (x : Went) → Came i h x → WroteAs x.ref x.wrote
    → cond x.wrote [] p ++ part_text h.wrote h.skipped h.number ≡ waiting p i x
came-waits p i h x c s =
    ap (λ (u : Bool). cond x.wrote [] p ++ part_text u h.skipped h.number) c.wrote
    ∙ ap₂ (λ (j k : ℕ). cond x.wrote [] p ++ part_text x.wrote j k) c.skipped c.number
    ∙ ref-waits p x.state i x.ref x.wrote s

-- a number inside as many brackets as there are options, at most
text-length : (u : Bool) (j k : ℕ) → j ≤ option_limit → k ≤ table_limit → length (part_text u j k) ≤ part_room
text-length true j k h l = omega (arith, h, length-replicate j closer)
text-length false j k h l =
    omega (
      arith,
      h,
      length-append (replicate j opener ++ decimal k) (replicate j closer),
      length-append (replicate j opener) (decimal k),
      length-replicate j opener,
      length-replicate j closer,
      number-length k l,
    )

-- what waits after a part in the engine is what waits in the walk
pub wait-came : (n i m : ℕ) (w p : List ℕ) (h : Half) (x : Went) → Came i h x → Fits n i x → n ≤ option_limit
    → length x.state.table ≤ suc table_limit → (x.wrote ≡ false → take m w ≡ p) → m + part_room ≤ length w
    → Waited w m p i x (wait_in w m h.wrote h.skipped h.number)
unfolding wait_in
wait-came n i m w p h x c s l z e r = record {
  text = ap (λ (k : ℕ). take k (push_all w start all).bytes) (push-count w start all room)
      ∙ push-take w start all room ∙ ap (λ (l : List ℕ). l ++ all) (begin x.wrote c.wrote e)
      ∙ came-waits p i h x c s.wrote;
  count = omega (arith, push-count w start all room, short, ap (λ (u : Bool). cond u 0 m) c.wrote);
  room = push-length w start all;
  keeps = λ o j k. push-keeps w start all j (omega (arith, k, ap (λ (u : Bool). cond u 0 m) (c.wrote ∙ o)));
}
  where
    start : ℕ
    start = cond h.wrote 0 m

    all : List ℕ
    all = part_text h.wrote h.skipped h.number

    short : length all ≤ part_room
    short =
        text-length h.wrote h.skipped h.number (omega (arith, c.skipped, s.low, l))
        (omega (arith, c.number, s.known, z))

    least : (u : Bool) → cond u 0 m ≤ m
    least true = omega arith
    least false = omega arith

    room : start + length all ≤ length w
    room = omega (arith, short, least h.wrote, r)

    begin : (u : Bool) → h.wrote ≡ u → (u ≡ false → take m w ≡ p) → take start w ≡ cond u [] p
    begin true o e = ap (λ (u : Bool). take (cond u 0 m) w) o
    begin false o e = ap (λ (u : Bool). take (cond u 0 m) w) o ∙ e refl

-- the shape of its text tells whether a part wrote a node out
part-wrote : (s : State) (i : ℕ) (r : Ref) (x : Text) → Shape s i r x → WroteAs r (not (plain x))
part-wrote s i terminal x h = ap (λ (y : Text). not (plain y)) h
part-wrote s i (entry k g) x h = tt
part-wrote s i temporary x h = ap not h.1

-- the number of a part is in the table
part-known : (s₀ s : State) (r : Ref) (x : Text) → 0 < length s.table → Told s₀ s r x → child r < length s.table
part-known s₀ s terminal x h t = h
part-known s₀ s (entry k g) x h t = t.known
part-known s₀ s temporary x h t = h

-- no more levels are skipped than there are
part_low : (n i : ℕ) (s : State) (r : Ref) → Normal n s → skipped_by s i r ≤ n
part_low n i s terminal h = omega arith
part_low n i s (entry k g) h = omega (arith, h.low k)
part_low n i s temporary h = omega arith

-- what holds of every part holds of a part with its text
part-fits : (n size m i at : ℕ) (p : List ℕ) (f : ℕ → Bool) (s : State) → Sound s → Normal n s → 0 < i → i + m ≡ suc n
    → Fits n i (went p (part size m i at f s))
part-fits n size m i at p f s h nm r e =
    let d = part size m i at f s in
    let g = part-good size m i at f s h in
    record {
      wrote = part-wrote d.state i d.part.ref d.part.text (part-shape n size m i at f s h nm r e);
      known = part-known s d.state d.part.ref d.part.text g.sound.some-place g.told;
      low = part_low n i d.state d.part.ref (part-deep n size m i at f s h nm r e).normal;
    }

-- and of the walk's
pub online-fits : (n size m i at : ℕ) (p : List ℕ) (f : ℕ → Bool) (s : State) → Sound s → Normal n s → 0 < i → i + m ≡ suc n
    → Fits n i (online size m i at p f s)
online-fits n size m i at p f s h nm r e =
    subst⁻¹ (Fits n i) (online-went n size m i at p f s h nm r e) (part-fits n size m i at p f s h nm r e)

-- ---- The end of a two-child node -------------------------------------------------------------

-- a half that is not temporary
kept-came : (i : ℕ) (h : Half) (x : Went) → Came i h x → not h.temporary ≡ is_kept x.ref
kept-came i h x c = go h.temporary (eqb h.number 0) ∙ ap is_kept c.ref
  where
    go : (t e : Bool) → not t ≡ is_kept (cond t temporary (cond e terminal (entry h.number h.stamp)))
    go true e = refl
    go false true = refl
    go false false = refl

-- its text ends in a digit, by what it came to
ref-ends : (s : State) (i : ℕ) (r : Ref) → (is_kept r && eqb (skipped_by s i r) 0) ≡ digit_end s i r
ref-ends s i terminal = refl
ref-ends s i (entry k g) = refl
ref-ends s i temporary = refl

-- its text begins with a digit, by what it came to
ref-begins : (s : State) (i : ℕ) (r : Ref) (u : Bool) → WroteAs r u → (not u && eqb (skipped_by s i r) 0) ≡ digit_begin s i r u
ref-begins s i terminal true e = refl
ref-begins s i terminal false e = refl
ref-begins s i (entry k g) true e = refl
ref-begins s i (entry k g) false e = refl
ref-begins s i temporary true e = refl
ref-begins s i temporary false e = absurd (false≢true e)

-- a space is wanted where the walk has one
spaced-came : (i : ℕ) (v : Bool) (a b : Half) (x y : Went) → Came (suc i) a x → Came (suc i) b y → WroteAs y.ref y.wrote
    → spaced v a b ≡ (not v && (digit_end x.state (suc i) x.ref && digit_begin y.state (suc i) y.ref y.wrote))
spaced-came i v a b x y ca cb s =
    ap₂ (λ (c d : Bool). not v && (c && d))
    (ap₂ (λ (c : Bool) (j : ℕ). c && eqb j 0) (kept-came (suc i) a x ca) ca.skipped ∙ ref-ends x.state (suc i) x.ref)
    (ap₂ (λ (c : Bool) (j : ℕ). not c && eqb j 0) cb.wrote cb.skipped ∙ ref-begins y.state (suc i) y.ref y.wrote s)

-- after the `~` of what waits there is a space or nothing
gap-tilde : (q : List ℕ) (v c d : Bool) → (q ++ tilde_if v) ++ cond (not v && (c && d)) (blank ∷ []) [] ≡ q ++ gap v c d
gap-tilde q true c d = append-nil (q ++ tilde_if true)
gap-tilde q false c d = ap (λ (l : List ℕ). l ++ cond (c && d) (blank ∷ []) []) (append-nil q)

-- `:` and a number, at most
storing-length : (k : ℕ) → k ≤ table_limit → length (storing k) ≤ digit_limit + 1
storing-length zero h = omega arith
storing-length (suc k) h = omega (arith, number-length (suc k) h)

-- r: what waits at the end of a node is the text x, in the row w
record Closed (w x : List ℕ) (r : Waiting) : Type 0 where
  pub text : take r.count r.bytes ≡ x
  pub room : length r.bytes ≡ length w

-- what waits at the end of a node in the engine is what ends it in the walk
close-came : (n i m k : ℕ) (w q : List ℕ) (v : Bool) (a b : Half) (x y : Went) → Came (suc i) a x → Came (suc i) b y
    → Fits n (suc i) y → n ≤ option_limit → length y.state.table ≤ suc table_limit → k ≤ table_limit
    → (y.wrote ≡ false → take m w ≡ q ++ tilde_if v) → m + end_room ≤ length w
    → Closed w (waiting (q ++ gap_of i v x y) (suc i) y ++ (closer ∷ storing k))
    (close_in w m (spaced v a b) b.wrote b.skipped b.number k)
unfolding close_in
close-came n i m k w q v a b x y ca cb s l z h e r = record {
  text = ap (λ (j : ℕ). take j (push_all u.bytes u.count end).bytes) (push-count u.bytes u.count end room)
      ∙ push-take u.bytes u.count end room ∙ ap (λ (t : List ℕ). t ++ end) d.text;
  room = push-length u.bytes u.count end ∙ d.room ∙ push-length w m space;
}
  where
    space : List ℕ
    space = cond (spaced v a b) (blank ∷ []) []

    end : List ℕ
    end = closer ∷ storing k

    short : (t : Bool) → length {A = ℕ} (cond t (blank ∷ []) []) ≤ 1
    short true = omega arith
    short false = omega arith

    t : Waiting
    t = push_all w m space

    counts : t.count ≡ m + length space
    counts = push-count w m space (omega (arith, short (spaced v a b), r))

    stands : y.wrote ≡ false → take t.count t.bytes ≡ q ++ gap_of i v x y
    stands o =
        ap (λ (j : ℕ). take j t.bytes) counts ∙ push-take w m space (omega (arith, short (spaced v a b), r))
        ∙ ap₂ (λ (p : List ℕ) (c : Bool). p ++ cond c (blank ∷ []) []) (e o) (spaced-came i v a b x y ca cb s.wrote)
        ∙ gap-tilde q v (digit_end x.state (suc i) x.ref) (digit_begin y.state (suc i) y.ref y.wrote)

    u : Waiting
    u = wait_in t.bytes t.count b.wrote b.skipped b.number

    d : Waited t.bytes t.count (q ++ gap_of i v x y) (suc i) y u
    d =
        wait-came n (suc i) t.count t.bytes (q ++ gap_of i v x y) b y cb s l z stands
        (omega (arith, counts, short (spaced v a b), push-length w m space, r))

    few : (c : Bool) → cond c 0 t.count ≤ t.count
    few true = omega arith
    few false = omega arith

    room : u.count + length end ≤ length u.bytes
    room = omega (
      arith,
      d.count,
      few y.wrote,
      counts,
      short (spaced v a b),
      storing-length k h,
      d.room,
      push-length w m space,
      r,
    )

-- ---- What the rules ask ----------------------------------------------------------------------

-- a half that is the constant
constant-came : (i : ℕ) (h : Half) (x : Went) → Came i h x → is_constant h ≡ is_terminal x.ref
constant-came i h x c = go h.temporary (eqb h.number 0) ∙ ap is_terminal c.ref
  where
    go : (t e : Bool) → (e && not t) ≡ is_terminal (cond t temporary (cond e terminal (entry h.number h.stamp)))
    go true true = refl
    go true false = refl
    go false true = refl
    go false false = refl

-- the records have the stamp of the number that a half came to
abbrev Stamped : List WriterRecord → State → Half → Type 0
Stamped t s h = h.number ≢ 0 → cell t stamp_field h.number ≡ stamp s.table h.number

-- a half that bars its parent from storing
barred-came : (i : ℕ) (t : List WriterRecord) (s : State) (h : Half) (x : Went) → Came i h x → Stamped t s h
    → barred_half t h ≡ bars s.table x.ref
barred-came i t s h x c g = go h.temporary (eqb h.number 0) refl ∙ ap (bars s.table) c.ref
  where
    go : (u e : Bool) → eqb h.number 0 ≡ e
        → (u || (not e && not (eqb (cell t stamp_field h.number) h.stamp)))
        ≡ bars s.table (cond u temporary (cond e terminal (entry h.number h.stamp)))
    go true e z = refl
    go false true z = refl
    go false false z = ap (λ (j : ℕ). not (eqb j h.stamp)) (g (eqb-false h.number 0 z))

-- the tests of rule 2 in another order
shuffled : (c v d e : Bool) → (c && (not v && (not (not d) && not (not e)))) ≡ ((c && (d && e)) && not v)
shuffled false v d e = refl
shuffled true true true true = refl
shuffled true true true false = refl
shuffled true true false e = refl
shuffled true false true true = refl
shuffled true false true false = refl
shuffled true false false e = refl

-- two halves of the same number
alike-came : (i : ℕ) (t : List WriterRecord) (s : State) (v : Bool) (a b : Half) (x y : Went) → Came i a x → Came i b y
    → Stamped t s a → Stamped t s b → alike_number t v a b ≡ (same_number s x.ref y.ref && not v)
alike-came i t s v a b x y ca cb ga gb =
    go a.temporary (eqb a.number 0) b.temporary (eqb b.number 0) refl refl
    (ca.number ∙ ap child (sym ca.ref)) (cb.number ∙ ap child (sym cb.ref))
    ∙ ap₂ (λ (r u : Ref). same_number s r u && not v) ca.ref cb.ref
  where
    -- as ref_in has it
    ref : Half → Bool → Bool → Ref
    ref h u e = cond u temporary (cond e terminal (entry h.number h.stamp))

    stale : Half → Bool → Bool
    stale h e = not e && not (eqb (cell t stamp_field h.number) h.stamp)

    other : (c : Bool) → a.number ≢ 0 → b.number ≡ 0 → (eqb a.number b.number && c) ≡ false
    other c d z = ap (λ (e : Bool). e && c) (ne_eqb a.number b.number (λ e. d (e ∙ z)))

    go : (u e u' e' : Bool) → eqb a.number 0 ≡ e → eqb b.number 0 ≡ e' → a.number ≡ child (ref a u e)
        → b.number ≡ child (ref b u' e')
        → (not e && (eqb a.number b.number && (not v && (not (stale a e) && not (stale b e')))))
        ≡ (same_number s (ref a u e) (ref b u' e') && not v)
    go true false u' e' z z' k k' = absurd (eqb-false a.number 0 z k)
    go true true u' e' z z' k k' = refl
    go false true u' e' z z' k k' = refl
    go false false true e' z z' k k' = other _ (eqb-false a.number 0 z) k'
    go false false false true z z' k k' = other _ (eqb-false a.number 0 z) k'
    go false false false false z z' k k' =
        ap₂ (λ (j l : ℕ). eqb a.number b.number && (not v && (not (not (eqb j a.stamp)) && not (not
        (eqb l b.stamp))))) (ga (eqb-false a.number 0 z)) (gb (eqb-false b.number 0 z'))
        ∙ shuffled (eqb a.number b.number) v (eqb (stamp s.table a.number) a.stamp)
        (eqb (stamp s.table b.number) b.stamp)

-- ---- The rule that is taken ------------------------------------------------------------------

module _ (i m : ℕ) (v : Bool) (a b : Half) (t : List WriterRecord) (out w : List ℕ) (progress : Progress) where
  -- rule 5: storing the node with the number k
  abbrev placing : ℕ → Lane
  placing k = store_in t progress.given progress.first progress.last k i a.number b.number (cond v 1 0)

  -- as by_rule has it: by what the rules ask, in their order
  abbrev ruled : Bool → Bool → Bool → ℕ → ℕ → Walked
  ruled true same barred known new = kept (constant_half a.complement) t out w progress
  ruled false true barred known new =
      kept (number_half a.number a.stamp (one_more a.skipped) a.complement a.wrote) t out w progress
  ruled false false true known new = write_temporary m v a b t out w progress
  ruled false false false (suc k) new = kept (number_half (suc k) (cell t stamp_field (suc k)) 0 a.complement false) t out w progress
  ruled false false false zero (suc k) =
      write_node m v a b (suc k) (number_half (suc k) (cell (placing (suc k)).table stamp_field (suc k)) 0 a.complement true)
      (cond (ltb progress.given (suc k)) (suc k) progress.given) (placing (suc k)) out w progress
  ruled false false false zero zero = write_temporary m v a b t out w progress

  -- rule 5
  give-ruled : (k : ℕ) → give_in k i m v a b t out w progress ≡ ruled false false false zero k
  unfolding give_in
  give-ruled zero = refl
  give-ruled (suc k) =
      ap (λ (c : Bool). cond c (write_temporary m v a b t out w progress) (ruled false false false zero (suc k))) (eqb-suc-zero k)

  -- rules 4 and 5
  known-ruled : (size k : ℕ) → known_in k size i m v a b t out w progress
      ≡ ruled false false false k (next_in t progress.given progress.first size a.number b.number)
  unfolding known_in
  known-ruled size zero = give-ruled (next_in t progress.given progress.first size a.number b.number)
  known-ruled size (suc k) =
      ap (λ (c : Bool). cond c (give_in (next_in t progress.given progress.first size a.number b.number) i m v a b t out w progress)
      (ruled false false false (suc k) zero)) (eqb-suc-zero k)

  -- rules 1 to 5
  meet-ruled : (size : ℕ) → meet_in size i m v a b t out w progress
      ≡ ruled (alike_constant v a b) (alike_number t v a b) (barred_half t a || barred_half t b)
      (find_in t progress.given i a.number b.number (cond v 1 0))
      (next_in t progress.given progress.first size a.number b.number)
  unfolding meet_in
  meet-ruled size = go (alike_constant v a b) (alike_number t v a b) (barred_half t a || barred_half t b)
    where
      k : ℕ
      k = find_in t progress.given i a.number b.number (cond v 1 0)

      next : ℕ
      next = next_in t progress.given progress.first size a.number b.number

      go : (both same barred : Bool) → cond both (ruled true same barred k next)
          (cond same (ruled false true barred k next)
          (cond barred (ruled false false true k next) (known_in k size i m v a b t out w progress)))
          ≡ ruled both same barred k next
      go true same barred = refl
      go false true barred = refl
      go false false true = refl
      go false false false = known-ruled size k

  -- equal answers, the same rule
  ruled-same : {c₁ d₁ c₂ d₂ c₃ d₃ : Bool} {c₄ d₄ c₅ d₅ : ℕ} → c₁ ≡ d₁ → c₂ ≡ d₂ → c₃ ≡ d₃ → c₄ ≡ d₄ → c₅ ≡ d₅
      → ruled c₁ c₂ c₃ c₄ c₅ ≡ ruled d₁ d₂ d₃ d₄ d₅
  ruled-same e₁ e₂ e₃ e₄ e₅ = cc

-- ---- What goes out ---------------------------------------------------------------------------

module _ (n size i m₀ : ℕ) (o T p w : List ℕ) (x y : Went) (t : List WriterRecord) (out : List ℕ) (progress : Progress)
    (stands : Stands n size o (T ++ (x.sent ++ y.sent)) t out progress y.state) where
  -- nothing goes out, and the state stays
  still : (h : Half) (r : Ref) (c u : Bool) (z : List ℕ) → x.sent ++ y.sent ≡ z →
      let g : Went = record { ref = r; complement = c; wrote = u; state = y.state; sent = z } in
      Came i h g → (u ≡ false → take m₀ w ≡ p) → Leads n size i m₀ o T p w (kept h t out w progress) g
  still h r c u z e came before =
      let st = subst (λ (l : List ℕ). Stands n size o (T ++ l) t out progress y.state) e stands in
      record {
        output = st.output;
        full = st.goes_on ∙ sym (le-ltb (length o) (length (T ++ z)) st.holds);
        all = λ f. absurd (true≢false (sym f ∙ st.goes_on));
        room = refl;
        after = λ f. record { stands = st; came = came; waits = before };
      }

  module _ (m : ℕ) (q : List ℕ) (v : Bool) (a b : Half) (ca : Came (suc i) a x) (cb : Came (suc i) b y) (fits : Fits n (suc i) y)
      (small : n ≤ option_limit) (few : size ≤ table_limit) (room : m + end_room ≤ length w)
      (before : y.wrote ≡ false → take m w ≡ q ++ tilde_if v) where
    -- what a node sends at its end
    abbrev ending : ℕ → List ℕ
    ending k = waiting (q ++ gap_of i v x y) (suc i) y ++ (closer ∷ storing k)

    -- what was sent before
    abbrev T₁ : List ℕ
    T₁ = T ++ (x.sent ++ y.sent)

    -- what was sent after
    ends : (k : ℕ) → T₁ ++ ending k ≡ T ++ (x.sent ++ (y.sent ++ ending k))
    ends k =
        append_assoc T (x.sent ++ y.sent) (ending k)
        ∙ ap (λ (l : List ℕ). T ++ l) (append_assoc x.sent y.sent (ending k))

    -- the same in the engine
    abbrev pushed : ℕ → Waiting
    pushed k = close_in w m (spaced v a b) b.wrote b.skipped b.number k

    -- the two are one
    closed : (k : ℕ) → k ≤ size → Closed w (ending k) (pushed k)
    closed k l =
        close-came n i m k w q v a b x y ca cb fits small (omega (arith, stands.keeps.given, stands.keeps.few))
        (omega (arith, l, few)) before room

    -- the output stays as long
    out-length : length out ≡ length o
    out-length = ap length stands.output ∙ output-length T₁ o

    -- the node goes out, and the state is s
    goes : (k : ℕ) (h : Half) (z : ℕ) (e : Lane) (r : Ref) (c : Bool) (s : State) →
        let g : Went = record { ref = r; complement = c; wrote = true; state = s; sent = x.sent ++ (y.sent ++ ending k) } in
        k ≤ size → Keeps e.table z e.first e.last s → Sound s → Normal n s → Queued s → z ≤ size → Came i h g
        → Leads n size i m₀ o T p w (write_node m v a b k h z e out w progress) g
    unfolding write_node
    goes k h z e r c s l keeps sound normal queued most came =
        let d = closed k l in
        let at = progress.written in
        let sent = take (pushed k).count (pushed k).bytes in
        let output =
        ap (sent_to out at) d.text
        ∙ ap₂ (λ (u : List ℕ) (j : ℕ). sent_to u j (ending k)) stands.output stands.written
        ∙ sent-output T₁ (ending k) o stands.holds ∙ ap (λ (u : List ℕ). output_after u o) (ends k) in
        let long : length (T ++ (x.sent ++ (y.sent ++ ending k))) ≡ length T₁ + length sent =
        ap length (sym (ends k)) ∙ length-append T₁ (ending k) ∙ ap (λ (u : List ℕ). length T₁ + length u) (sym d.text) in
        record {
          output = output;
          full =
              ap₂ ltb (ap₂ (λ (j k : ℕ). j - k) out-length stands.written) (ap length d.text)
              ∙ sent-full T₁ (ending k) o stands.holds ∙ ap (λ (u : List ℕ). ltb (length o) (length u)) (ends k);
          all =
              λ f. omega (
                arith,
                ltb-true (length out - at) (length sent) f,
                out-length,
                stands.written,
                stands.holds,
              );
          room = d.room;
          after = λ f. let less = ltb-false (length out - at) (length sent) f in
              record {
                stands = record {
                  keeps = keeps;
                  sound = sound;
                  normal = normal;
                  queued = queued;
                  most = most;
                  written = omega (arith, less, out-length, stands.written, stands.holds, long);
                  holds = omega (arith, less, out-length, stands.written, stands.holds, long);
                  goes_on = f;
                  output = output;
                };
                came = came;
                waits = λ u. absurd (true≢false u);
              };
        }

-- ---- By each rule ----------------------------------------------------------------------------

-- the records have the stamp of a number that the table has
keeps-stamp : (t : List WriterRecord) (z f l : ℕ) (s : State) (h : Half) → Keeps t z f l s → h.number < length s.table
    → Stamped t s h
keeps-stamp t z f l s h keeps known d =
    (keeps.nodes h.number (omega (arith, d)) (omega (arith, known, keeps.given))).stamp

-- under rule 2 the first half is kept
same_kept : (s : State) (v w : Ref) → same_number s v w ≡ true → is_kept v ≡ true
same_kept s terminal w e = refl
same_kept s (entry k g) w e = refl
same_kept s temporary w e = e

-- and skips one level more
same-skipped : (i : ℕ) (s₀ s₁ s : State) (v w : Ref) (x : Text) → Told s₀ s₁ v x
    → ((k : ℕ) → stamp s.table k ≡ stamp s₁.table k → node s.table k ≡ node s₁.table k) → Depth (suc i) s₁ v
    → same_number s v w ≡ true → skipped_by s₁ (suc i) v + 1 ≡ skipped_by s i v
same-skipped i s₀ s₁ s terminal w x t st d e = absurd (false≢true e)
same-skipped i s₀ s₁ s temporary w x t st d e = absurd (false≢true e)
same-skipped i s₀ s₁ s (entry k g) terminal x t st d e = absurd (false≢true e)
same-skipped i s₀ s₁ s (entry k g) temporary x t st d e = absurd (false≢true e)
same-skipped i s₀ s₁ s (entry k g) (entry j u) x t st d e =
    let z = st k (eqb-true (stamp s.table k) g (and_l (eqb (stamp s.table k) g) _ (and_r (eqb k j) _ e)) ∙ sym t.now) in
    omega (arith, ap (λ (x : Node). x.level) z, d)

module _ (n size i m m₀ : ℕ) (o T p w q p₁ q₁ : List ℕ) (A B : Done) (s₀ : State) (t : List WriterRecord) (out : List ℕ) (progress : Progress)
    (a b : Half) (halves : Halves i s₀ A.state B.state A.part B.part) (deep : Depth (suc i) A.state A.part.ref)
    (fx : Fits n (suc i) (went p₁ A)) (fy : Fits n (suc i) (went q₁ B)) (real : 0 < i) (small : n ≤ option_limit) (few : size ≤ table_limit)
    (ca : Came (suc i) a (went p₁ A)) (cb : Came (suc i) b (went q₁ B))
    (stands : Stands n size o (T ++ ((went p₁ A).sent ++ (went q₁ B).sent)) t out progress B.state)
    (young : (k : ℕ) → stamp B.state.table k < 4294967295) (room : m + end_room ≤ length w)
    (second : (went q₁ B).wrote ≡ false → take m w ≡ q ++ tilde_if (edge A.part B.part))
    (first : (went p₁ A).wrote ≡ false → (went q₁ B).wrote ≡ false → take m₀ w ≡ p) where
  abbrev x : Went
  x = went p₁ A

  abbrev y : Went
  y = went q₁ B

  abbrev s : State
  s = B.state

  abbrev v : Bool
  v = edge A.part B.part

  abbrev ka : ℕ
  ka = child A.part.ref

  abbrev kb : ℕ
  kb = child B.part.ref

  -- nothing was sent by a half with no node written out
  none-sent : plain A.part.text ≡ true → plain B.part.text ≡ true → x.sent ++ y.sent ≡ []
  none-sent ea eb = ap₂ (λ (l r : List ℕ). l ++ r) (plain-flow p₁ A.part.text ea) (plain-flow q₁ B.part.text eb)

  -- rule 5: the number may be given out
  able : (k : ℕ) → new_number size s A.part B.part ≡ suc k → Able s (suc k) ka kb
  able k e =
      next-able size s ka kb k stands.sound
      (a-known i s₀ A.state s A.part B.part halves) (b-known i s₀ A.state s A.part B.part halves) e

  -- rule 5: it is no larger than the size
  new-small : (k : ℕ) → new_number size s A.part B.part ≡ suc k → suc k ≤ size
  new-small k e =
      next_small size s ka kb k stands.sound
      (omega (arith, stands.keeps.given, stands.most)) e

  -- the questions are those of the rules
  asked : ruled i m v a b t out w progress (alike_constant v a b) (alike_number t v a b) (barred_half t a || barred_half t b)
      (find_in t progress.given i a.number b.number (cond v 1 0))
      (next_in t progress.given progress.first size a.number b.number)
      ≡ ruled i m v a b t out w progress (both_terminal A.part B.part) (same_entry s A.part B.part)
      (half_barred s A.part B.part) (found s i A.part B.part) (new_number size s A.part B.part)
  asked =
      let ga = keeps-stamp t progress.given progress.first progress.last s a stands.keeps
      (omega (arith, ca.number, a-known i s₀ A.state s A.part B.part halves)) in
      let gb = keeps-stamp t progress.given progress.first progress.last s b stands.keeps
      (omega (arith, cb.number, b-known i s₀ A.state s A.part B.part halves)) in
      ruled-same i m v a b t out w progress
      (ap₂ (λ (c d : Bool). c && (d && not v)) (constant-came (suc i) a x ca) (constant-came (suc i) b y cb))
      (alike-came (suc i) t s v a b x y ca cb ga gb)
      (ap₂ (λ (c d : Bool). c || d) (barred-came (suc i) t s a x ca ga) (barred-came (suc i) t s b y cb gb))
      (ap₂ (λ (j k : ℕ). find_in t progress.given i j k (cond v 1 0)) ca.number cb.number
      ∙ keeps-find n t progress.given progress.first progress.last s i ka kb v stands.keeps
      stands.sound stands.normal real)
      (ap₂ (λ (j k : ℕ). next_in t progress.given progress.first size j k) ca.number cb.number
      ∙ keeps-next t progress.given progress.first progress.last s size ka kb stands.keeps)

  -- rule 5: the records keep the state after it
  new-keeps : (k : ℕ) → new_number size s A.part B.part ≡ suc k →
      let e = placing i m v a b t out w progress (suc k) in
      Keeps e.table (cond (ltb progress.given (suc k)) (suc k) progress.given) e.first e.last
      (stored s (suc k) i ka kb v)
  new-keeps k e =
      rw (ca.number, cb.number) (keeps-store t progress.given progress.first progress.last (suc k) i ka
      kb v s stands.keeps stands.sound stands.queued (able k e) (omega (arith, new-small k e, few))
      (young (suc k)))

  -- what is known after rule 2
  same-came : same_entry s A.part B.part ≡ true
      → Came i (number_half a.number a.stamp (one_more a.skipped) a.complement a.wrote)
      (record { ref = A.part.ref; complement = A.part.complement; wrote = x.wrote; state = s; sent = x.sent })
  same-came e =
      let same = and_l (same_number s A.part.ref B.part.ref) _ e in
      let held = not-true a.temporary (kept-came (suc i) a x ca ∙ same_kept s A.part.ref B.part.ref same) in
      let less : a.skipped < 4294967295 = omega (arith, ca.skipped, fx.low, small, few-options) in
      record {
        ref =
            ap (λ (u : Bool). cond u temporary (cond (eqb a.number 0) terminal (entry a.number a.stamp))) (sym held)
            ∙ ca.ref;
        number = ca.number;
        skipped =
            ap (λ (u : Bool). cond u (a.skipped + 1) a.skipped) (lt-ltb a.skipped 4294967295 less)
            ∙ ap (λ (j : ℕ). j + 1) ca.skipped
            ∙ same-skipped i s₀ A.state s A.part.ref B.part.ref A.part.text halves.told-a halves.step-b.same
            deep same;
        complement = ca.complement;
        wrote = ca.wrote;
      }

  -- what is known after rules 4 and 5: a number of level i and its stamp
  number-came : (k g g' : ℕ) (u : Bool) (s' : State) (z : List ℕ) → g ≡ g' → (node s'.table (suc k)).level ≡ i
      → Came i (number_half (suc k) g 0 a.complement u)
      (record { ref = entry (suc k) g'; complement = A.part.complement; wrote = u; state = s'; sent = z })
  number-came k g g' u s' z e l =
      record {
        ref = ap₂ (λ (c : Bool) (j : ℕ). cond c terminal (entry (suc k) j)) (eqb-suc-zero k) e;
        number = refl;
        skipped = omega (arith, l);
        complement = ca.complement;
        wrote = refl;
      }

  -- a node without a number goes out
  no_number : Leads n size i m₀ o T p w (write_temporary m v a b t out w progress)
      (record {
        ref = temporary;
        complement = A.part.complement;
        wrote = true;
        state = s;
        sent = x.sent ++ (y.sent ++ (waiting (q ++ gap_of i v x y) (suc i) y ++ (closer ∷ storing 0)));
      })
  no_number =
      goes n size i m₀ o T p w x y t out progress stands m q v a b ca cb fy small few room second 0 (temporary_half a.complement)
      progress.given (lane_of t progress) temporary A.part.complement s (omega arith) stands.keeps stands.sound stands.normal
      stands.queued stands.most
      (record { ref = refl; number = refl; skipped = refl; complement = ca.complement; wrote = refl })

  -- a node with a new number goes out
  new-number : (k : ℕ) → new_number size s A.part B.part ≡ suc k →
      let s' = stored s (suc k) i ka kb v in
      Normal n s' → Leads n size i m₀ o T p w (ruled i m v a b t out w progress false false false zero (suc k))
      (record {
        ref = entry (suc k) (suc (stamp s.table (suc k)));
        complement = A.part.complement;
        wrote = true;
        state = s';
        sent = x.sent ++ (y.sent ++ (waiting (q ++ gap_of i v x y) (suc i) y ++ (closer ∷ storing (suc k))));
      })
  new-number k e nm =
      let s' = stored s (suc k) i ka kb v in
      let lane = placing i m v a b t out w progress (suc k) in
      let z = cond (ltb progress.given (suc k)) (suc k) progress.given in
      let keeps = new-keeps k e in
      let here = stored_same s (suc k) i ka kb v stands.sound (able k e) in
      let g = (keeps.nodes (suc k) (omega arith) (given-most (ltb progress.given (suc k)) refl)).stamp in
      goes n size i m₀ o T p w x y t out progress stands m q v a b ca cb fy small few room second (suc k)
      (number_half (suc k) (cell lane.table stamp_field (suc k)) 0 a.complement true) z lane
      (entry (suc k) (suc (stamp s.table (suc k)))) A.part.complement s' (new-small k e) keeps
      (stored-sound s (suc k) i ka kb v stands.sound (able k e)) nm
      (stored-queued s (suc k) i ka kb v stands.sound (able k e) stands.queued)
      (given-small (ltb progress.given (suc k)) (new-small k e))
      (number-came k (cell lane.table stamp_field (suc k)) (suc (stamp s.table (suc k))) true s'
      (x.sent ++ (y.sent ++ (waiting (q ++ gap_of i v x y) (suc i) y ++ (closer ∷ storing (suc k)))))
      (g ∙ ap (λ (r : Node). r.stamp) here) (ap (λ (r : Node). r.level) here))
    where
      given-most : (u : Bool) → ltb progress.given (suc k) ≡ u → suc k ≤ cond u (suc k) progress.given
      given-most true c = omega arith
      given-most false c = ltb-false progress.given (suc k) c

      given-small : (u : Bool) → suc k ≤ size → cond u (suc k) progress.given ≤ size
      given-small true c = c
      given-small false c = stands.most

  -- by each rule the engine leads to what the walk knows
  by_rule-leads : (both same barred : Bool) (known new : ℕ) → both_terminal A.part B.part ≡ both
      → same_entry s A.part B.part ≡ same → half_barred s A.part B.part ≡ barred → found s i A.part B.part ≡ known
      → new_number size s A.part B.part ≡ new
      → Normal n (by_rule both same barred known new i A.part B.part s).state
      → Leads n size i m₀ o T p w (ruled i m v a b t out w progress both same barred known new)
      (meet_by q i v x y (by_rule both same barred known new i (bare x) (bare y) s))
  unfolding by_rule
  by_rule-leads true same barred known new e₁ e₂ e₃ e₄ e₅ nm =
      let f = both_terminal-plain i s₀ A.state s A.part B.part halves e₁ in
      still n size i m₀ o T p w x y t out progress stands (constant_half a.complement) terminal A.part.complement false []
      (none-sent f.0 f.1)
      (record { ref = refl; number = refl; skipped = refl; complement = ca.complement; wrote = refl })
      (λ u. first (ap not f.0) (ap not f.1))
  by_rule-leads false true barred known new e₁ e₂ e₃ e₄ e₅ nm =
      let f = same_entry-plain i s₀ A.state s A.part B.part halves e₂ in
      still n size i m₀ o T p w x y t out progress stands
      (number_half a.number a.stamp (one_more a.skipped) a.complement a.wrote) A.part.ref A.part.complement
      x.wrote x.sent
      (ap (λ (l : List ℕ). x.sent ++ l) (plain-flow q₁ B.part.text f) ∙ append-nil x.sent) (same-came e₂)
      (λ u. first u (ap not f))
  by_rule-leads false false true known new e₁ e₂ e₃ e₄ e₅ nm = no_number
  by_rule-leads false false false (suc k) new e₁ e₂ e₃ e₄ e₅ nm =
      let f = found_plain i s₀ A.state s A.part B.part halves k e₃ e₄ in
      let z = find-matches s i ka kb v k e₄ in
      let g = (stands.keeps.nodes (suc k) (omega arith) (omega (arith, z.known, stands.keeps.given))).stamp in
      still n size i m₀ o T p w x y t out progress stands (number_half (suc k) (cell t stamp_field (suc k)) 0 a.complement false)
      (entry (suc k) (stamp s.table (suc k))) A.part.complement false [] (none-sent f.0 f.1)
      (number-came k (cell t stamp_field (suc k)) (stamp s.table (suc k)) false s [] g z.level)
      (λ u. first (ap not f.0) (ap not f.1))
  by_rule-leads false false false zero (suc k) e₁ e₂ e₃ e₄ e₅ nm = new-number k e₅ nm
  by_rule-leads false false false zero zero e₁ e₂ e₃ e₄ e₅ nm = no_number

  -- by the rule that is taken
  meet-done : Normal n (meet size i A.part B.part s).state
      → Leads n size i m₀ o T p w (meet_in size i m v a b t out w progress)
      (meet_by q i v x y (meet size i (bare x) (bare y) s))
  unfolding meet
  meet-done nm =
      subst⁻¹ (λ (r : Walked). Leads n size i m₀ o T p w r (meet_by q i v x y (meet size i (bare x) (bare y) s)))
      (meet-ruled i m v a b t out w progress size ∙ asked)
      (by_rule-leads (both_terminal A.part B.part) (same_entry s A.part B.part) (half_barred s A.part B.part)
      (found s i A.part B.part) (new_number size s A.part B.part) refl refl refl refl refl nm)

-- ---- Every part ------------------------------------------------------------------------------

-- two halves that meet lead to what the walk knows of their part
pub meet-leads : (n size d i at m m₀ : ℕ) (o T p w : List ℕ) (f : ℕ → Bool) (s : State) (t : List WriterRecord) (out : List ℕ)
    (progress : Progress) (a b : Half) → Sound s → Normal n s → 0 < i → i + suc d ≡ suc n → n ≤ option_limit → size ≤ table_limit →
    let x = online size d (suc i) at (p ++ (opener ∷ [])) f s in
    let q = waiting (p ++ (opener ∷ [])) (suc i) x in
    let v = differ x.complement (f (at + 2 ^ d)) in
    let y = online size d (suc i) (at + 2 ^ d) (q ++ tilde_if v) f x.state in
    Came (suc i) a x → Came (suc i) b y → Stands n size o (T ++ (x.sent ++ y.sent)) t out progress y.state
    → ((k : ℕ) → stamp y.state.table k < 4294967295) → m + end_room ≤ length w
    → (y.wrote ≡ false → take m w ≡ q ++ tilde_if v) → (x.wrote ≡ false → y.wrote ≡ false → take m₀ w ≡ p)
    → Leads n size i m₀ o T p w (meet_in size i m v a b t out w progress) (online size (suc d) i at p f s)
unfolding online
meet-leads n size d i at m m₀ o T p w f s t out progress a b h nm r e small few =
    let ga = part-good size d (suc i) at f s h in
    let da = part-deep n size d (suc i) at f s h nm (omega arith) (omega arith) in
    let db = part-deep n size d (suc i) mid f A.state ga.sound da.normal (omega arith) (omega arith) in
    let halves = part-halves size d i at f s h in
    let x = went p₁ A in
    let c = B.part.complement in
    subst⁻¹ (λ (x : Went). Met (f mid) x (after (f mid) x)) (online-went n size d (suc i) at p₁ f s h nm (omega arith) (omega arith))
    (subst⁻¹ (Met (f mid) x)
    (online-went n size d (suc i) mid (q₁ (f mid) x) f A.state ga.sound da.normal (omega arith) (omega arith))
    (subst (λ (c : Bool). Met c x (went (q₁ c x) B)) (part-complement size d (suc i) mid f A.state)
    (λ ca cb stands young room second first. meet-done n size i m m₀ o T p w (waiting p₁ (suc i) x) p₁ (q₁ c x) A B s t out progress a b
    halves da.depth (part-fits n size d (suc i) at p₁ f s h nm (omega arith) (omega arith))
    (part-fits n size d (suc i) mid (q₁ c x) f A.state ga.sound da.normal (omega arith) (omega arith)) r small few
    ca cb stands young room second first
    (meet-deep n i s A.state B.state A.part B.part halves db.normal da.depth db.depth r (omega arith) size
    ).normal)))
  where
    -- the first word of the second half
    mid : ℕ
    mid = at + 2 ^ d

    A : Done
    A = first_half size d i at f s

    B : Done
    B = second_half size d i at f s

    p₁ : List ℕ
    p₁ = p ++ (opener ∷ [])

    -- what waits before the second half; c: its complement
    q₁ : Bool → Went → List ℕ
    q₁ c x = waiting p₁ (suc i) x ++ tilde_if (differ x.complement c)

    after : Bool → Went → Went
    after c x = online size d (suc i) mid (q₁ c x) f x.state

    -- the law, of any two halves
    Met : Bool → Went → Went → Type 0
    Met c x y =
        let v = differ x.complement c in
        Came (suc i) a x → Came (suc i) b y → Stands n size o (T ++ (x.sent ++ y.sent)) t out progress y.state
        → ((k : ℕ) → stamp y.state.table k < 4294967295) → m + end_room ≤ length w
        → (y.wrote ≡ false → take m w ≡ q₁ c x) → (x.wrote ≡ false → y.wrote ≡ false → take m₀ w ≡ p)
        → Leads n size i m₀ o T p w (meet_in size i m v a b t out w progress)
        (meet_by (waiting p₁ (suc i) x) i v x y (meet size i (bare x) (bare y) y.state))
