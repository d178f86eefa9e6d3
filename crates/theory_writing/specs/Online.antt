-- The walk that keeps no text: it sends bytes as it goes and knows of a part only what it came to, its complement, and whether a node
-- was written out.
use Rattle.std.specs.Prelude.{◌≡◌, Bool, not, cond, ◌&&◌, eqb}
use Rattle.std.proofs.Math.Path.{refl, ap}
use Rattle.std.proofs.Common.{sym, ap₂, ◌∙◌, true≢false, arith}
use Rattle.std.proofs.Math.Bool.{true, false}
use mathlib.Core.List.{List, [], ◌∷◌, ◌++◌}
use Prim.Native.Nat.{ℕ, zero, suc, ◌+◌, ◌-◌, ◌<◌, ◌^◌}
use Rattle.std.proofs.Math.Dec.{eqb-suc-zero}
use Rattle.theory_lists.specs.Lists.{differ, not-twice}
use Rattle.theory_reading.specs.Bytes.{opener, closer, tilde, blank}
use Rattle.theory_reading.specs.Nodes.{Ref, terminal, entry, temporary, node}
use Rattle.theory_writing.specs.UniqueTable.{State}
use Rattle.theory_writing.specs.Rules.{Text, number, one, two, Part, Done, edge, both_terminal, same_entry, half_barred, found, new_number, by_rule}
use Rattle.theory_writing.specs.Rules.{meet, part}
use Rattle.theory_writing.specs.Texts.{ends_in_digit, begins_with_digit, tilde_if, between, storing}
use Rattle.theory_writing.specs.ConstantPart.{part-complement}
use Rattle.theory_writing.specs.Storing.{Sound}
use Rattle.theory_writing.specs.Steps.{plain, Told, first_half, second_half, part-good}
use Rattle.theory_writing.specs.Normal.{Normal, part-deep}
use Rattle.theory_writing.specs.Rewalk.{wraps}
use Rattle.theory_writing.specs.Shape.{Core, Shape, part-shape}
use Rattle.theory_writing.specs.Flow.{flow, tail, flow-two, flow-tilde, waits, plain-wraps, tail-waits}

-- ---- The walk --------------------------------------------------------------------------------

-- what the walk knows of a part: what it came to, its complement, whether a node was written out, the state, and what went out
pub record Went : Type 0 where
  pub ref : Ref
  pub complement : Bool
  pub wrote : Bool
  pub state : State
  pub sent : List ℕ

-- its text ends in a digit; begins with one
abbrev pub digit_end : State → ℕ → Ref → Bool
digit_end s i terminal = true
digit_end s i (entry k g) = eqb ((node s.table k).level - i) 0
digit_end s i temporary = false

abbrev pub digit_begin : State → ℕ → Ref → Bool → Bool
digit_begin s i w true = false
digit_begin s i terminal false = true
digit_begin s i (entry k g) false = eqb ((node s.table k).level - i) 0
digit_begin s i temporary false = false

-- `~`, a space or nothing
abbrev pub gap : Bool → Bool → Bool → List ℕ
gap true a b = tilde ∷ []
gap false a b = cond (a && b) (blank ∷ []) []

-- for the rules: they ask nothing of a text
abbrev pub bare : Went → Part
bare a = record { ref = a.ref; complement = a.complement; text = number 0 }

-- by the rule that was taken: whether a node is written out, and what goes out; r waits before the closing bracket
abbrev pub wrote_by : Text → Bool → Bool
wrote_by (number k) a = false
wrote_by (one x) a = a
wrote_by (two x t y k) a = true

abbrev pub sent_by : Text → List ℕ → List ℕ → List ℕ → List ℕ
sent_by (number k) a b r = []
sent_by (one x) a b r = a
sent_by (two x t y k) a b r = a ++ (b ++ (r ++ (closer ∷ storing k)))

-- what waits after a part
abbrev pub waiting : List ℕ → ℕ → Went → List ℕ
waiting p i a = waits p a.state i a.ref (not a.wrote)

-- what stands between two halves; t is the edge between them
abbrev pub gap_of : ℕ → Bool → Went → Went → List ℕ
gap_of i t a b = gap t (digit_end a.state (suc i) a.ref) (digit_begin b.state (suc i) b.ref b.wrote)

-- two halves joined as the rules say, after q; t is the edge between them
abbrev pub meet_by : List ℕ → ℕ → Bool → Went → Went → Done → Went
meet_by q i t a b d =
    let r = waiting (q ++ gap_of i t a b) (suc i) b in
    record {
      ref = d.part.ref;
      complement = d.part.complement;
      wrote = wrote_by d.part.text a.wrote;
      state = d.state;
      sent = sent_by d.part.text a.sent b.sent r;
    }

unfoldable pub online : ℕ → ℕ → ℕ → ℕ → List ℕ → (ℕ → Bool) → State → Went
unfolding meet
online size zero i at p f s = record { ref = terminal; complement = f at; wrote = false; state = s; sent = [] }
online size (suc m) i at p f s =
    let a = online size m (suc i) at (p ++ (opener ∷ [])) f s in
    let q = waiting (p ++ (opener ∷ [])) (suc i) a in
    let t = differ a.complement (f (at + 2 ^ m)) in
    let b = online size m (suc i) (at + 2 ^ m) (q ++ tilde_if t) f a.state in
    meet_by q i t a b (meet size i (bare a) (bare b) b.state)

-- what of a part with its text the walk knows
abbrev pub went : List ℕ → Done → Went
went p d =
    record {
      ref = d.part.ref;
      complement = d.part.complement;
      wrote = not (plain d.part.text);
      state = d.state;
      sent = flow p d.part.text;
    }

-- ---- Digits at the ends ----------------------------------------------------------------------

real-digit : (k : ℕ) (x : Text) (t : Bool) (y : Text) (j : ℕ) → 0 < k → j ≡ k → ends_in_digit (two x t y j) ≡ true
real-digit k x t y zero r e = absurd (omega arith)
real-digit k x t y (suc j) r e = refl

ends-wraps : (j k : ℕ) (core : Text) → 0 < k → Core k core → ends_in_digit (wraps j core) ≡ eqb j 0
unfolding wraps
ends-wraps zero k (number i) r c = refl
ends-wraps zero k (one x) r c = absurd c
ends-wraps zero k (two x t y i) r c = real-digit k x t y i r c
ends-wraps (suc j) k core r c = sym (eqb-suc-zero j)

begins-wraps : (j k : ℕ) (core : Text) → Core k core → begins_with_digit (wraps j core) ≡ (plain core && eqb j 0)
unfolding wraps
begins-wraps zero k (number i) c = refl
begins-wraps zero k (one x) c = absurd c
begins-wraps zero k (two x t y i) c = refl
begins-wraps (suc j) k core c = sym (go (plain core) ∙ refl)
  where
    go : (u : Bool) → (u && eqb (suc j) 0) ≡ false
    go true = eqb-suc-zero j
    go false = refl

shape-ends : (s₀ s : State) (i : ℕ) (w : Ref) (x : Text) → Told s₀ s w x → Shape s i w x → digit_end s i w ≡ ends_in_digit x
shape-ends s₀ s i terminal x t h = sym (ap ends_in_digit h)
shape-ends s₀ s i (entry k g) x t h =
    sym (ap ends_in_digit h.shape ∙ ends-wraps ((node s.table k).level - i) k h.core t.real h.is-core)
shape-ends s₀ s i temporary (number k) t h = absurd (true≢false h.1)
shape-ends s₀ s i temporary (one x) t h = absurd h.0
shape-ends s₀ s i temporary (two x u y zero) t h = refl
shape-ends s₀ s i temporary (two x u y (suc k)) t h = absurd (let z = h.0 in omega (arith, z))

entry-begins : (s : State) (i k g : ℕ) (u : Bool)
    → digit_begin s i (entry k g) (not u) ≡ (u && eqb ((node s.table k).level - i) 0)
entry-begins s i k g true = refl
entry-begins s i k g false = refl

shape-begins : (s : State) (i : ℕ) (w : Ref) (x : Text) → Shape s i w x → digit_begin s i w (not (plain x)) ≡ begins_with_digit x
shape-begins s i terminal x h = ap (λ (y : Text). digit_begin s i terminal (not (plain y))) h ∙ sym (ap begins_with_digit h)
shape-begins s i (entry k g) x h =
    entry-begins s i k g (plain x)
    ∙ ap (λ (u : Bool). u && eqb ((node s.table k).level - i) 0)
    (ap plain h.shape ∙ plain-wraps ((node s.table k).level - i) h.core)
    ∙ sym (ap begins_with_digit h.shape ∙ begins-wraps ((node s.table k).level - i) k h.core h.is-core)
shape-begins s i temporary (number k) h = absurd (true≢false h.1)
shape-begins s i temporary (one x) h = absurd h.0
shape-begins s i temporary (two x u y k) h = refl

gap-between : (t : Bool) (x y : Text) (a b : Bool) → a ≡ ends_in_digit x → b ≡ begins_with_digit y → gap t a b ≡ between t x y
gap-between true x y a b p q = refl
gap-between false x y a b p q = ap₂ (λ (u v : Bool). cond (u && v) (blank ∷ []) []) p q

-- ---- The rules -------------------------------------------------------------------------------

module _ (size i : ℕ) (p : List ℕ) (a b : Done) (s₀ : State) (ta : Told s₀ a.state a.part.ref a.part.text)
    (sa : Shape a.state (suc i) a.part.ref a.part.text)
    (sb : Shape b.state (suc i) b.part.ref b.part.text) where
  abbrev p₁ : List ℕ
  p₁ = p ++ (opener ∷ [])

  abbrev t : Bool
  t = edge a.part b.part

  abbrev q : List ℕ
  q = tail p₁ a.part.text

  abbrev wa : Went
  wa = went p₁ a

  abbrev wb : Went
  wb = went (q ++ tilde_if t) b

  two-sent : (k : ℕ)
      → wa.sent ++ (wb.sent ++ (waiting (q ++ gap_of i t wa wb) (suc i) wb ++ (closer ∷ storing k))) ≡ flow p
      (two a.part.text t b.part.text k)
  two-sent k =
      let g = gap-between t a.part.text b.part.text (digit_end a.state (suc i) a.part.ref)
      (digit_begin b.state (suc i) b.part.ref (not (plain b.part.text)))
      (shape-ends s₀ a.state (suc i) a.part.ref a.part.text ta sa)
      (shape-begins b.state (suc i) b.part.ref b.part.text sb) in
      ap (λ (z : List ℕ). flow p₁ a.part.text ++ (flow (q ++ tilde_if t) b.part.text ++ (waits (q ++ z) b.state (suc i)
      b.part.ref (not (not (plain b.part.text))) ++ (closer ∷ storing k)))) g
      ∙ ap (λ (u : Bool). flow p₁ a.part.text ++ (flow (q ++ tilde_if t) b.part.text ++ (waits
      (q ++ between t a.part.text b.part.text) b.state (suc i)
      b.part.ref u ++ (closer ∷ storing k)))) (not-twice (plain b.part.text))
      ∙ ap (λ (z : List ℕ). flow p₁ a.part.text ++ (flow (q ++ tilde_if t) b.part.text ++ (z ++ (closer ∷ storing k))))
      (sym (tail-waits (q ++ between t a.part.text b.part.text) b.state (suc i) b.part.ref b.part.text sb))
      ∙ ap (λ (z : List ℕ). flow p₁ a.part.text ++ (z ++ (tail (q ++ between t a.part.text b.part.text)
      b.part.text ++ (closer ∷ storing k)))) (sym (flow-tilde q t a.part.text b.part.text))
      ∙ sym (flow-two p a.part.text t b.part.text k)

  by_rule-went : (both same barred : Bool) (known new : ℕ)
      → meet_by q i t wa wb (by_rule both same barred known new i (bare wa) (bare wb) b.state) ≡ went p
      (by_rule both same barred known new i a.part b.part b.state)
  unfolding by_rule flow
  by_rule-went true same barred known new = refl
  by_rule-went false true barred known new = refl
  by_rule-went false false true known new =
      ap (λ (z : List ℕ). record {
        ref = temporary;
        complement = a.part.complement;
        wrote = true;
        state = b.state;
        sent = z;
      }) (two-sent 0)
  by_rule-went false false false (suc k) new = refl
  by_rule-went false false false zero (suc k) =
      ap (λ (z : List ℕ). record {
        ref = (by_rule false false false zero (suc k) i a.part b.part b.state).part.ref;
        complement = a.part.complement;
        wrote = true;
        state = (by_rule false false false zero (suc k) i a.part b.part b.state).state;
        sent = z;
      }) (two-sent (suc k))
  by_rule-went false false false zero zero =
      ap (λ (z : List ℕ). record {
        ref = temporary;
        complement = a.part.complement;
        wrote = true;
        state = b.state;
        sent = z;
      }) (two-sent 0)

  pub meet-went : meet_by q i t wa wb (meet size i (bare wa) (bare wb) b.state) ≡ went p
      (meet size i a.part b.part b.state)
  unfolding meet
  meet-went =
      by_rule-went (both_terminal a.part b.part) (same_entry b.state a.part b.part)
      (half_barred b.state a.part b.part) (found b.state i a.part b.part)
      (new_number size b.state a.part b.part)

-- ---- Every part ------------------------------------------------------------------------------

-- what waits after a part
pub went-waits : (p : List ℕ) (i : ℕ) (d : Done) → Shape d.state i d.part.ref d.part.text
    → waiting p i (went p d) ≡ tail p d.part.text
went-waits p i d h =
    ap (waits p d.state i d.part.ref) (not-twice (plain d.part.text))
    ∙ sym (tail-waits p d.state i d.part.ref d.part.text h)

-- the walk that keeps no text sends what the text's walk sends
pub online-went : (n size m i at : ℕ) (p : List ℕ) (f : ℕ → Bool) (s : State) → Sound s → Normal n s → 0 < i → i + m ≡ suc n
    → online size m i at p f s ≡ went p (part size m i at f s)
unfolding online part flow
online-went n size zero i at p f s h nm r e = refl
online-went n size (suc m) i at p f s h nm r e =
    let ga = part-good size m (suc i) at f s h in
    let da = part-deep n size m (suc i) at f s h nm (omega arith) (omega arith) in
    let sa = part-shape n size m (suc i) at f s h nm (omega arith) (omega arith) in
    let sb = part-shape n size m (suc i) (at + 2 ^ m) f a.state ga.sound da.normal (omega arith) (omega arith) in
    let t : Bool = edge a.part b.part in
    let q : List ℕ = tail p₁ a.part.text in
    ap (λ (w : Went). onward (waiting p₁ (suc i) w) (differ w.complement (f (at + 2 ^ m))) w)
    (online-went n size m (suc i) at p₁ f s h nm (omega arith) (omega arith))
    ∙ ap₂ (λ (q : List ℕ) (t : Bool). onward q t (went p₁ a)) (went-waits p₁ (suc i) a sa)
    (ap (differ a.part.complement) (sym (part-complement size m (suc i) (at + 2 ^ m) f a.state)))
    ∙ ap (met q t (went p₁ a)) (online-went n size m (suc i) (at + 2 ^ m) (q ++ tilde_if t) f a.state ga.sound da.normal
    (omega arith) (omega arith))
    ∙ meet-went size i p a b s ga.told sa sb
  where
    a : Done
    a = first_half size m i at f s

    b : Done
    b = second_half size m i at f s

    p₁ : List ℕ
    p₁ = p ++ (opener ∷ [])

    met : List ℕ → Bool → Went → Went → Went
    met q t w u = meet_by q i t w u (meet size i (bare w) (bare u) u.state)

    onward : List ℕ → Bool → Went → Went
    onward q t w = met q t w (online size m (suc i) (at + 2 ^ m) (q ++ tilde_if t) f w.state)
