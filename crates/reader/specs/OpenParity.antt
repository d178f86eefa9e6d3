-- What the open nodes turn about, from iteration to iteration: the innermost alone changes, and one is opened or closed. Assumes nothing.
use Rattle.std.specs.Prelude.{◌≡◌, refl, Bool, true, false, cond, List, ◌∷◌, ℕ, zero, suc, ◌<◌, ◌≤◌, ltb, length, get_or, set}
use Rattle.std.proofs.Common.{sym, ap, ap₂, ◌∙◌, subst, ⊎_elim, arith, length-set, get_or-set_same, get_or-set_other, lt-ltb, le-ltb, ltb-false, ne_eqb}
use Rattle.std.proofs.lemmas.Bool.{false≢true}
use Rattle.theory_lists.specs.Lists.{differ, differ-twice, decide-le}
use Rattle.theory_reading.specs.Limits.{open_limit}
use Rattle.theory_reading.specs.Element as T
use Rattle.theory_reading.specs.Covered.{parity}
use Rattle.kinds.specs.Kinds.{kind_table}
use Rattle.elements.specs.Abstraction.{ref_of, open_of, context_of, inside_open, opens_of, deep_of, open_list, last_open, low_at, high_at}
use Rattle.elements.specs.OpenLaws.{opens-set, low-suc, deep-self}
use Rattle.elements.specs.declared.Open.{Open}
use Rattle.elements.specs.declared.Opens.{Opens}
use Rattle.scanner.specs.ScannedToken as G
use Rattle.scanner.specs.TokenView.{depth_by, side_of, NextTokenView}
use Rattle.cursors.specs.declared.Run.{Run}
use Rattle.node_records.specs.declared.NodeRecord.{NodeRecord}
use Rattle.reader.specs.Advance.{IterationView, went-by, taken_at, Iterates, past, barred, out, fault, took, low_of, nodes_to, opens_to}
use Rattle.reader.specs.RunOn.{complement_in, parity_to}

-- ---- One opened or closed --------------------------------------------------------------------

change-near : (c : G.Change) (d : ℕ) → (d ≤ suc (depth_by c d)) × (depth_by c d ≤ suc d)
change-near G.same d = (omega arith, omega arith)
change-near G.push d = (omega arith, omega arith)
change-near G.pop d = (omega arith, omega arith)
change-near G.second_push d = (omega arith, omega arith)
change-near (G.second t) d = (omega arith, omega arith)

-- An iteration that goes on opens a node, or closes one, or neither.
iteration-near : (n : ℕ) (bytes : List ℕ) (r : Run) (d : ℕ) (low : Open) (t : List NodeRecord) (y : IterationView) (u : List NodeRecord)
    → Iterates n bytes r d low t y u → y.went ≡ true → d ≤ open_limit → (d ≤ suc y.depth) × (y.depth ≤ suc d)
iteration-near n bytes r d low t y u (past h e k) w l = absurd (false≢true (sym (ap (λ (z : IterationView). z.went) e) ∙ w))
iteration-near n bytes r d low t y u (barred h e k) w l = absurd (false≢true (sym (ap (λ (z : IterationView). z.went) e) ∙ w))
iteration-near n bytes r d low t y u (out h x s i e k) w l = absurd (false≢true (sym (ap (λ (z : IterationView). z.went) e) ∙ w))
iteration-near n bytes r d low t y u (fault h x s c j i e k) w l = absurd (false≢true (sym (ap (λ (z : IterationView). z.went) e) ∙ w))
iteration-near n bytes r d low t y u (took m h x s a i e k) w l =
    let c = (G.scan_token kind_table bytes r.at (context_of r.context) (side_of (deep_of d) low) (deep_of d)).change in
    subst (λ (z : ℕ). (d ≤ suc z) × (z ≤ suc d))
    (sym (ap (λ (z : IterationView). z.depth) (e ∙ (went-by r d low (taken_at n bytes r d low t x a) x.depth x.low
    (sym (ap (λ (z : IterationView). z.went) e) ∙ w)).1) ∙ ap (λ (z : NextTokenView). z.depth) s ∙ ap (depth_by c) (deep-self d l))) (change-near c d)

-- ---- The innermost ---------------------------------------------------------------------------

parity-head : (e : Open) (l : List T.Open) → parity (open_of e ∷ l) ≡ differ (complement_in e) (parity l)
unfolding parity
parity-head e l = go e.second
  where
    go : (b : Bool) → parity (cond b (T.in_second (ref_of e.first) e.complement) T.in_first ∷ l) ≡ differ (cond b e.complement false) (parity l)
    go true = refl
    go false = refl

pub parity-none : (ns : List Open) → parity (opens_of ns 0) ≡ false
unfolding parity opens_of
parity-none ns = refl

pub parity-more : (ns : List Open) (d : ℕ) → parity (opens_of ns (suc d)) ≡ differ (complement_in (get_or ns d inside_open)) (parity (opens_of ns d))
unfolding opens_of
parity-more ns d = parity-head (get_or ns d inside_open) (opens_of ns d)

-- the entry after the innermost stands behind it
high-behind : (d : ℕ) → suc d ≤ open_limit → d ≤ high_at (suc d)
high-behind d h = go (ltb (suc d) open_limit) refl
  where
    go : (b : Bool) → ltb (suc d) open_limit ≡ b → d ≤ cond b (suc d) last_open
    go true e = omega arith
    go false e = omega (arith, h, ltb-false (suc d) open_limit e)

-- ---- An iteration ----------------------------------------------------------------------------

module _ (ns : List Open) (long : length ns ≡ open_limit) (e : Open) where
  -- with d + 1 open before
  module _ (d : ℕ) (h : suc d ≤ open_limit) where
    abbrev after : List Open
    after = set (set ns (high_at (suc d)) inside_open) d e

    abbrev low : Open
    low = get_or ns d inside_open

    below : opens_of after d ≡ opens_of ns d
    below = opens-set (set ns (high_at (suc d)) inside_open) d d e (omega arith) ∙ opens-set ns (high_at (suc d)) d inside_open (high-behind d h)

    room : d < length (set ns (high_at (suc d)) inside_open)
    room = omega (arith, length-set ns (high_at (suc d)) inside_open, long, h)

    -- the innermost is closed
    after-closed : parity (opens_of after d) ≡ differ (complement_in low) (parity (opens_of ns (suc d)))
    after-closed = ap parity below ∙ sym (ap (differ (complement_in low)) (parity-more ns d) ∙ differ-twice (complement_in low) (parity (opens_of ns d)))

    -- it stays
    after_same : parity (opens_of after (suc d)) ≡ differ (complement_in e) (differ (complement_in low) (parity (opens_of ns (suc d))))
    after_same =
        parity-more after d
        ∙ ap₂ (λ (o : Open) (b : Bool). differ (complement_in o) b)
        (get_or-set_same (set ns (high_at (suc d)) inside_open) d e inside_open room) after-closed

    -- another is opened
    after-opened : suc (suc d) ≤ open_limit → parity (opens_of after (suc (suc d))) ≡ parity (opens_of after (suc d))
    after-opened l =
        parity-more after (suc d)
        ∙ ap (λ (o : Open). differ (complement_in o) (parity (opens_of after (suc d))))
        (get_or-set_other (set ns (high_at (suc d)) inside_open) d (suc d) e inside_open (λ q. omega (arith, q))
        ∙ ap (λ (i : ℕ). get_or (set ns i inside_open) (suc d) inside_open) high
        ∙ get_or-set_same ns (suc d) inside_open inside_open (omega (arith, long, l)))
      where
        high : high_at (suc d) ≡ suc d
        high = rw (lt-ltb (suc d) open_limit l) refl

  -- with none open before one may be opened
  after_first_lem : parity (opens_of (nodes_to ns 0 e) 1) ≡ false
  after_first_lem =
      parity-more (nodes_to ns 0 e) 0
      ∙ ap₂ (λ (o : Open) (b : Bool). differ (complement_in o) b)
      (get_or-set_other (set ns 0 inside_open) last_open 0 e inside_open (λ q. omega (arith, q))
      ∙ get_or-set_same ns 0 inside_open inside_open (omega (arith, long))) (parity-none (nodes_to ns 0 e))

-- After an iteration y, of which one knows how deep it goes.
parity-step : (ns : List Open) → length ns ≡ open_limit → (y : IterationView) (d : ℕ) → d ≤ open_limit → y.depth ≤ open_limit
    → (d ≤ suc y.depth) × (y.depth ≤ suc d)
    → parity (opens_of (nodes_to ns d y.low) y.depth) ≡ parity_to (parity (opens_of ns d)) d (get_or ns (low_at d) inside_open) y
parity-step ns long y zero h k near = go y.depth near.1
  where
    go : (z : ℕ) → z ≤ 1 → parity (opens_of (nodes_to ns 0 y.low) z) ≡ false
    go zero l = parity-none (nodes_to ns 0 y.low)
    go (suc zero) l = after_first_lem ns long y.low
    go (suc (suc z)) l = absurd (omega (arith, l))
parity-step ns long y (suc d) h k near =
    subst (λ (i : ℕ). parity (opens_of (set (set ns (high_at (suc d)) inside_open) i y.low) y.depth)
    ≡ parity_to (parity (opens_of ns (suc d))) (suc d) (get_or ns i inside_open) y) (sym (low-suc d h))
    (⊎_elim staying closed (decide-le (suc d) y.depth))
  where
    Right : ℕ → Type 0
    Right z = parity (opens_of (after ns long y.low d h) z) ≡ parity_to (parity (opens_of ns (suc d))) (suc d) (get_or ns d inside_open) y

    inside : (suc d ≡ 0 → ⊥)
    inside q = omega (arith, q)

    closed : y.depth < suc d → Right y.depth
    closed l =
        let same : y.depth ≡ d = omega (arith, l, near.0) in
        subst Right (sym same) (after-closed ns long y.low d h ∙ rw (ne_eqb (suc d) 0 inside, lt-ltb y.depth (suc d) l) refl)

    here : suc d ≤ y.depth → Right (suc d)
    here l = after_same ns long y.low d h ∙ rw (ne_eqb (suc d) 0 inside, le-ltb y.depth (suc d) l) refl

    staying : suc d ≤ y.depth → Right y.depth
    staying l = ⊎_elim
        (λ (m : suc (suc d) ≤ y.depth). let same : y.depth ≡ suc (suc d) = omega (arith, m, near.1) in
        subst Right (sym same) (after-opened ns long y.low d h (omega (arith, m, k)) ∙ here l))
        (λ (m : y.depth < suc (suc d)). let same : y.depth ≡ suc d = omega (arith, m, l) in subst Right (sym same) (here l))
        (decide-le (suc (suc d)) y.depth)

-- AN ITERATION THAT GOES ON: what its open nodes turn about is what code has for them.
pub iteration-parity : (n : ℕ) (bytes : List ℕ) (r : Run) (o : Opens) (t : List NodeRecord) (y : IterationView) (u : List NodeRecord)
    → Iterates n bytes r o.depth (low_of o) t y u → y.went ≡ true → length o.nodes ≡ open_limit → o.depth ≤ open_limit → y.depth ≤ open_limit
    → parity (open_list (opens_to o y.depth y.low)) ≡ parity_to (parity (open_list o)) o.depth (low_of o) y
iteration-parity n bytes r o t y u made w long deep shallow =
    ap (λ (d : ℕ). parity (opens_of (nodes_to o.nodes o.depth y.low) d)) (deep-self y.depth shallow)
    ∙ parity-step o.nodes long y o.depth deep shallow (iteration-near n bytes r o.depth (low_of o) t y u made w deep)
    ∙ ap (λ (d : ℕ). parity_to (parity (opens_of o.nodes d)) o.depth (low_of o) y) (sym (deep-self o.depth deep))
