-- A part that a number of the table stands for is one step: the number again. So is a second half that repeats a first half which
-- came to a number. Assumes nothing.
use Rattle.std.specs.Prelude.{◌≡◌, refl, ◌≢◌, Bool, true, false, not, cond, List, [], ◌++◌, ℕ, zero, suc, ◌+◌, ◌-◌, ◌<◌, ◌^◌, eqb, length, take}
use Rattle.std.proofs.Common.{sym, ap, ap₂, ◌∙◌, subst, true≢false, append-nil, arith, eqb-true, le-ltb}
use Rattle.std.proofs.Math.Path.{subst⁻¹}
use Rattle.std.proofs.Math.Dec.{eqb-suc-zero}
use Rattle.theory_lists.specs.Lists.{differ}
use Rattle.theory_reading.specs.Nodes.{Ref, terminal, entry, temporary, is_kept, child, node, stamp}
use Rattle.theory_writing.specs.UniqueTable.{State}
use Rattle.theory_writing.specs.Rules.{Text, number, part}
use Rattle.theory_writing.specs.Storing.{Sound}
use Rattle.theory_writing.specs.Steps.{Told, plain, part-good}
use Rattle.theory_writing.specs.Normal.{Normal}
use Rattle.theory_writing.specs.Meaning.{Is, part-means}
use Rattle.theory_writing.specs.Rewalk.{wraps, again, walk-again, is-shift}
use Rattle.theory_writing.specs.Flow.{plain-flow, plain-wraps}
use Rattle.theory_writing.specs.Online.{Went, online, went, online-went}
use Rattle.theory_engine.specs.Engine.{Half, Progress, number_half, kept}
use Rattle.theory_engine.specs.Leading.{skipped_by, Came, Stands, Leads}
use Rattle.node_records.specs.declared.WriterRecord.{WriterRecord}

-- ---- A number again --------------------------------------------------------------------------

-- a part that sends nothing, writes no node out and leaves the state as it was
pub still-leads : (n size i m : ℕ) (o T p w : List ℕ) (t : List WriterRecord) (out : List ℕ) (progress : Progress) (s : State) (h : Half)
    (r : Ref) (c : Bool) →
    let x : Went = record { ref = r; complement = c; wrote = false; state = s; sent = [] } in
    Stands n size o T t out progress s → take m w ≡ p → Came i h x → Leads n size i m o T p w (kept h t out w progress) x
still-leads n size i m o T p w t out progress s h r c st here came =
    let stands = subst⁻¹ (λ (l : List ℕ). Stands n size o l t out progress s) (append-nil T) st in
    record {
      output = stands.output;
      full = stands.goes_on ∙ sym (le-ltb (length o) (length (T ++ [])) stands.holds);
      all = λ f. absurd (true≢false (sym f ∙ stands.goes_on));
      room = refl;
      after = λ f. record { stands = stands; came = came; waits = λ u. here };
    }

-- number k met again
abbrev met : State → ℕ → Bool → Went
met s k c = record { ref = entry k (stamp s.table k); complement = c; wrote = false; state = s; sent = [] }

-- is what the walk knows of it: its text has no node written out
again-went : (p : List ℕ) (s : State) (i k : ℕ) (c : Bool) → 0 < k → went p (again s i k c) ≡ met s k c
again-went p s i zero c r = absurd (omega arith)
again-went p s i (suc k) c r =
    let j = (node s.table (suc k)).level - i in
    let e : plain (wraps j (number (suc k))) ≡ true = plain-wraps j (number (suc k)) in
    ap₂ (λ (u : Bool) (l : List ℕ). record {
      ref = entry (suc k) (stamp s.table (suc k));
      complement = c;
      wrote = not u;
      state = s;
      sent = l;
    }) e (plain-flow p (wraps j (number (suc k))) e)

-- what the engine knows of it
again-came : (s : State) (i k : ℕ) (c : Bool) → 0 < k
    → Came i (number_half k (stamp s.table k) ((node s.table k).level - i) c false) (met s k c)
again-came s i zero c r = absurd (omega arith)
again-came s i (suc k) c r =
    let g = stamp s.table (suc k) in
    record {
      ref = ap (λ (u : Bool). cond u terminal (entry (suc k) g)) (eqb-suc-zero k);
      number = refl;
      skipped = refl;
      complement = refl;
      wrote = refl;
    }

-- a part of level i, d options left, that a number of the table stands for
pub number-leads : (n size d i at m : ℕ) (o T p w : List ℕ) (f : ℕ → Bool) (t : List WriterRecord) (out : List ℕ) (progress : Progress)
    (s : State) (k : ℕ) (c : Bool) → 0 < i → i + d ≡ suc n → Stands n size o T t out progress s → take m w ≡ p → 0 < k
    → Is s.table f d i k c at
    → Leads n size i m o T p w
    (kept (number_half k (stamp s.table k) ((node s.table k).level - i) c false) t out w progress) (online size d i at p f s)
number-leads n size d i at m o T p w f t out progress s k c real deep st here some is =
    subst⁻¹ (Leads n size i m o T p w
    (kept (number_half k (stamp s.table k) ((node s.table k).level - i) c false) t out w progress))
    (online-went n size d i at p f s st.sound st.normal real deep
    ∙ ap (went p) (walk-again n size d i k at f c s st.sound st.normal real is) ∙ again-went p s i k c some)
    (still-leads n size i m o T p w t out progress s
    (number_half k (stamp s.table k) ((node s.table k).level - i) c false) (entry k (stamp s.table k)) c st here
    (again-came s i k c some))

-- ---- What a part came to ---------------------------------------------------------------------

-- a part that is not temporary stands for its function
pub online-means : (n size d i at : ℕ) (p : List ℕ) (f : ℕ → Bool) (s : State) → Sound s → Normal n s → 0 < i → i + d ≡ suc n →
    let x = online size d i at p f s in
    is_kept x.ref ≡ true → Is x.state.table f d i (child x.ref) x.complement at
online-means n size d i at p f s h nm r e =
    subst⁻¹ (λ (x : Went). is_kept x.ref ≡ true → Is x.state.table f d i (child x.ref) x.complement at)
    (online-went n size d i at p f s h nm r e) (part-means n size d i at f s h nm r e)

-- the stamp of the number that a part came to is the one that the table has
abbrev pub Now : State → Ref → Type 0
Now s terminal = Unit {0}
Now s (entry k g) = stamp s.table k ≡ g
Now s temporary = Unit {0}

told-now : (s₀ s : State) (r : Ref) (x : Text) → Told s₀ s r x → Now s r
told-now s₀ s terminal x t = tt
told-now s₀ s (entry k g) x t = t.now
told-now s₀ s temporary x t = tt

pub online-now : (n size d i at : ℕ) (p : List ℕ) (f : ℕ → Bool) (s : State) → Sound s → Normal n s → 0 < i → i + d ≡ suc n →
    let x = online size d i at p f s in Now x.state x.ref
online-now n size d i at p f s h nm r e =
    let d' = part size d i at f s in
    subst⁻¹ (λ (x : Went). Now x.state x.ref) (online-went n size d i at p f s h nm r e)
    (told-now s d'.state d'.part.ref d'.part.text (part-good size d i at f s h).told)

-- a half with a number came to it
pub came-entry : (i : ℕ) (h : Half) (x : Went) → Came i h x → h.number ≢ 0 → x.ref ≡ entry h.number h.stamp
came-entry i h x c d = go h.temporary (eqb h.number 0) refl c.ref
  where
    go : (t e : Bool) → eqb h.number 0 ≡ e → cond t temporary (cond e terminal (entry h.number h.stamp)) ≡ x.ref
        → x.ref ≡ entry h.number h.stamp
    go true e z r = absurd (d (c.number ∙ ap child (sym r)))
    go false true z r = absurd (d (eqb-true h.number 0 z))
    go false false z r = sym r

-- ---- A second half that repeats the first ----------------------------------------------------

-- turned about by what differs
pub differ_back : (c b : Bool) → differ (differ c b) c ≡ b
differ_back true true = refl
differ_back true false = refl
differ_back false true = refl
differ_back false false = refl

-- The first half, of level i, came to a number (h); the second begins at word `mid` and repeats it. q: m bytes of w, which wait then
pub repeat-leads : (n size d i at mid m : ℕ) (o T p q w : List ℕ) (f : ℕ → Bool) (t : List WriterRecord) (out : List ℕ) (progress : Progress)
    (s : State) (h : Half) → Sound s → Normal n s → 0 < i → i + d ≡ suc n →
    let x = online size d i at p f s in
    Came i h x → h.number ≢ 0 → ((j : ℕ) → j < 2 ^ d → f (mid + j) ≡ differ (differ x.complement (f mid)) (f (at + j)))
    → Stands n size o T t out progress x.state → take m w ≡ q
    → Leads n size i m o T q w (kept (number_half h.number h.stamp h.skipped (f mid) false) t out w progress)
    (online size d i mid q f x.state)
repeat-leads n size d i at mid m o T p q w f t out progress s h sound normal real deep came some alike st here =
    subst (λ (g : ℕ). Goal g h.skipped) (subst (Now x.state) ref (online-now n size d i at p f s sound normal real deep))
    (subst⁻¹ (Goal (stamp x.state.table k)) (came.skipped ∙ ap (skipped_by x.state i) ref)
    (number-leads n size d i mid m o T q w f t out progress x.state k (f mid) real deep st here (omega (arith, some)) is))
  where
    x : Went
    x = online size d i at p f s

    k : ℕ
    k = h.number

    Goal : ℕ → ℕ → Type 0
    Goal g j = Leads n size i m o T q w (kept (number_half k g j (f mid) false) t out w progress) (online size d i mid q f x.state)

    ref : x.ref ≡ entry k h.stamp
    ref = came-entry i h x came some

    is : Is x.state.table f d i k (f mid) mid
    is =
        subst (λ (c : Bool). Is x.state.table f d i k c mid) (differ_back x.complement (f mid))
        (is-shift x.state.table f f d i k x.complement (differ x.complement (f mid)) at mid alike
        (subst⁻¹ (λ (j : ℕ). Is x.state.table f d i j x.complement at) came.number
        (online-means n size d i at p f s sound normal real deep (ap is_kept ref))))
