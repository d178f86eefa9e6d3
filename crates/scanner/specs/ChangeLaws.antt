-- A change of the open nodes touches the innermost entry and the one after it; where a node opens there is room. Assumes nothing.
use Rattle.std.specs.Prelude.{◌≡◌, Bool, true, false, cond, ◌&&◌, ltb, eqb, length, get_or, set}
use Rattle.std.proofs.Math.Path.{refl, sym, ap}
use Rattle.std.proofs.Common.{ap₂, ◌∙◌, subst, set-set, ltb-true, ltb-false, lt-ltb, ne_eqb}
use mathlib.Core.List.{List, ◌∷◌}
use Rattle.std.proofs.Math.Option.{Option, none, some}
use Prim.{Unit, tt}
use Prim.Native.Nat.{ℕ, zero, suc, ◌+◌, ◌-◌, ◌<◌, ◌≤◌}
use Rattle.std.proofs.Math.Numerals.{sub-one}
use native.Mathlib.Omega.{arith}
use Rattle.std.proofs.Math.ListN.{get_elem?, length-set}
use Rattle.std.proofs.Math.Seq.{get_or-set_same, get_or-set_other}
use Rattle.std.proofs.lemmas.List.{set_comm}
use Rattle.theory_reading.specs.Limits.{open_limit}
use Rattle.theory_reading.specs.Element as T
use Rattle.theory_reading.specs.Reading.{is_start}
use Rattle.kinds.specs.Kinds.{digit_in, blank_in, line_feed_in, dot_in, opener_in, closer_in, tilde_in, colon_in, number_by}
use Rattle.scanner.specs.ScannedToken.{Top, top_of, Change, same, push, pop, second_push, second, changed, ScannedToken, size_line, scan_size}
use Rattle.scanner.specs.ScannedToken.{scan_number, scan_storing, scan_node, scan_space, scan_colon, scan_end, scan_token_by, scan_token_on, scan_token}
use Rattle.scanner.specs.ScannedToken.{empty, inner, outer}
use Rattle.scanner.specs.Capped.{cap_outcome}
use Rattle.elements.specs.Abstraction.{ref_of, open_of, inside_open, begun_open, opens_of, last_open, low_at, high_at}
use Rattle.scanner.specs.TokenView.{side_of, depth_by, second_by}
use Rattle.scanner.specs.TokenView.{complement_by}
use Rattle.elements.specs.declared.Open.{Open}
use Rattle.elements.specs.declared.Ref.{Ref}
use Rattle.elements.specs.OpenLaws.{opens-set, opens-last, low-suc, set_back}
use Rattle.kinds.specs.declared.Kind.{Kind}

side-top : (e : Open) (l : List T.Open) → top_of (open_of e ∷ l) ≡ cond e.second outer inner
side-top e l = go e.second
  where
    go : (t : Bool) → top_of (cond t (T.in_second (ref_of e.first) e.complement) T.in_first ∷ l) ≡ cond t outer inner
    go true = refl
    go false = refl

-- the innermost open node, by its entry
pub open-top : (ns : List Open) (d : ℕ) → d ≤ open_limit → side_of d (get_or ns (low_at d) inside_open) ≡ top_of (opens_of ns d)
unfolding opens_of
open-top ns zero h = refl
open-top ns (suc d) h =
    ap (λ (i : ℕ). side_of (suc d) (get_or ns i inside_open)) (low-suc d h)
    ∙ rw (ne_eqb (suc d) 0 (λ z. omega arith)) (sym (side-top (get_or ns d inside_open) (opens_of ns d)))

-- a change that opens a node
abbrev pub Pushes : Change → Type 0
Pushes same = ⊥
Pushes push = Unit {0}
Pushes pop = ⊥
Pushes second_push = Unit {0}
Pushes (second t) = ⊥

module _ (ns : List Open) (long : length ns ≡ open_limit) (r : Ref) where
  -- the array after both stores, the one after the innermost first
  abbrev stored : ℕ → Open → List Open
  stored d low = set (set ns (high_at d) inside_open) (low_at d) low

  low-inside : (d : ℕ) → d ≤ open_limit → low_at d < length ns
  low-inside zero h = omega (arith, long)
  low-inside (suc d) h = subst (λ (i : ℕ). i < length ns) (sym (low-suc d h)) (omega (arith, long))

  -- what is stored behind the innermost does not count
  behind : (d k : ℕ) (x : Open) → d ≤ open_limit → k ≤ d → opens_of (stored d x) k ≡ opens_of (set ns (low_at d) x) k
  unfolding opens_of
  behind zero zero x h l = refl
  behind zero (suc k) x h l = absurd (omega (arith, l))
  behind (suc d) k x h l = go (ltb (suc d) open_limit) refl
    where
      low : low_at (suc d) ≡ d
      low = low-suc d h

      go : (t : Bool) → ltb (suc d) open_limit ≡ t → opens_of (set (set ns (cond t (suc d) last_open) inside_open) (low_at (suc d)) x) k
          ≡ opens_of (set ns (low_at (suc d)) x) k
      go true e = rw low (ap (λ (m : List Open). opens_of m k) (set_comm ns (suc d) d inside_open x (λ q. omega (arith, q)))
          ∙ opens-set (set ns d x) (suc d) k inside_open l)
      go false e =
          let i : d ≡ last_open = omega (arith, h, ltb-false (suc d) open_limit e) in
          rw (low, i) (ap (λ (m : List Open). opens_of m k) (set-set ns last_open inside_open x))

  -- a node opens, behind d others whose innermost entry becomes x
  pushed : (d : ℕ) (x : Open) → d < open_limit → opens_of (stored d x) (d + 1) ≡ T.in_first ∷ opens_of (set ns (low_at d) x) d
  unfolding opens_of
  pushed zero x h = rw (
    get_or-set_other (set ns 0 inside_open) last_open 0 x inside_open (λ q. omega arith),
    get_or-set_same ns 0 inside_open inside_open
        (omega (arith, long)),
  ) refl
  pushed (suc d) x h =
      let e : suc d + 1 ≡ suc (suc d) = omega arith in
      let hi : high_at (suc d) ≡ suc d = rw (lt-ltb (suc d) open_limit h) refl in
      let lo : low_at (suc d) ≡ d = low-suc d (omega arith) in
      ap₂ (λ (i j : ℕ). opens_of (set (set ns i inside_open) j x) (suc d + 1)) hi lo
      ∙ ap (λ (n : ℕ). opens_of (set (set ns (suc d) inside_open) d x) n) e
      ∙ ap₂ (λ (y : Open) (l : List T.Open). open_of y ∷ l)
      (get_or-set_other (set ns (suc d) inside_open) d (suc d) x inside_open (λ q. omega arith)
      ∙ get_or-set_same ns (suc d) inside_open inside_open (omega (arith, long)))
      (ap₂ (λ (y : Open) (l : List T.Open). open_of y ∷ l)
      (get_or-set_same (set ns (suc d) inside_open) d x inside_open (omega (arith, long, length-set ns (suc d) inside_open))
      ∙ sym (get_or-set_same ns d x inside_open (omega (arith, long))))
      (opens-set (set ns (suc d) inside_open) d d x (omega arith) ∙ opens-set ns (suc d) d inside_open (omega arith)
      ∙ sym (opens-set ns d d x (omega arith))))
      ∙ ap (λ (j : ℕ). T.in_first ∷ opens_of (set ns j x) (suc d)) (sym lo)

  -- the innermost entry becomes that of a node in its second child
  seconds : (d : ℕ) (t : Bool) → d ≤ open_limit → opens_of (set ns (low_at d) (begun_open r t)) d ≡ changed (second t) (ref_of r) (opens_of ns d)
  unfolding opens_of
  seconds zero t h = refl
  seconds (suc d) t h = ap (λ (i : ℕ). opens_of (set ns i (begun_open r t)) (suc d)) (low-suc d h)
      ∙ opens-last ns d (begun_open r t) (omega (arith, long))

  pops : (d : ℕ) → opens_of ns (d - 1) ≡ changed pop (ref_of r) (opens_of ns d)
  unfolding opens_of
  pops zero = refl
  pops (suc d) = rw sub-one refl

  abbrev entry : ℕ → Open
  entry i = get_or ns i inside_open

  -- the innermost entry stored again
  kept : (d k : ℕ) → d ≤ open_limit → k ≤ d → opens_of (stored d (entry (low_at d))) k ≡ opens_of ns k
  kept d k h l = behind d k (entry (low_at d)) h l ∙ ap (λ (m : List Open). opens_of m k) (set_back ns (low_at d) (low-inside d h))

  -- THE STORES make the change
  pub open-change : (c : Change) (d : ℕ) → d ≤ open_limit → (Pushes c → d < open_limit)
      → opens_of (stored d (cond (second_by c) (begun_open r (complement_by c)) (entry (low_at d)))) (depth_by c d) ≡ changed c (ref_of r) (opens_of ns d)
  open-change same d h k = kept d d h (omega arith)
  open-change push d h k = pushed d (entry (low_at d)) (k tt) ∙ ap (λ (l : List Open). T.in_first ∷ opens_of l d)
      (set_back ns (low_at d) (low-inside d h))
  open-change pop d h k = kept d (d - 1) h (omega arith) ∙ pops d
  open-change second_push d h k = pushed d (begun_open r false) (k tt) ∙ ap (λ (l : List T.Open). T.in_first ∷ l) (seconds d false h)
  open-change (second t) d h k = behind d d (begun_open r t) h (omega arith) ∙ seconds d t h

-- ---- A node opens only where there is room ---------------------------------------------------

abbrev Roomy : ℕ → ScannedToken → Type 0
Roomy depth g = Pushes g.change → depth < open_limit

module _ (k : List Kind) (depth : ℕ) where
  room-cond : (t : Bool) (x y : ScannedToken) → (t ≡ true → Roomy depth x) → (t ≡ false → Roomy depth y) → Roomy depth (cond t x y)
  room-cond true x y a b = a refl
  room-cond false x y a b = b refl

  room-number : (at : ℕ) (m : T.Context) (c : Change) (x : T.Scan) → (Pushes c → ⊥) → Roomy depth (scan_number at m c x)
  room-number at m c (T.read v e) h = λ p. absurd (h p)
  room-number at m c T.unread h = λ p. absurd p

  room-node : (bytes : List ℕ) (at : ℕ) (m : T.Context) (two : Bool) (b : ℕ) → Roomy depth (scan_node k bytes at m depth two b)
  room-node bytes at m two b =
      room-cond (opener_in k b) _ _
      (λ _. room-cond (ltb depth open_limit) _ _ (λ e _. ltb-true _ _ e) (λ _ p. absurd p))
      (λ _. room-cond (digit_in k b) _ _ (λ _. go two) (λ _ p. absurd p))
    where
      go : (t : Bool) → Roomy depth (scan_number at m (cond t (second false) same) (number_by k bytes at b))
      go true = room-number at m (second false) (number_by k bytes at b) (λ p. p)
      go false = room-number at m same (number_by k bytes at b) (λ p. p)

  room-space : (bytes : List ℕ) (at : ℕ) (m : T.Context) (x : Option ℕ) → Roomy depth (scan_space k bytes at m x)
  room-space bytes at m none = λ p. absurd p
  room-space bytes at m (some b) = room-cond (digit_in k b) _ _ (λ _. room-number at m (second false) (number_by k bytes (at + 1) b) (λ p. p))
      (λ _ p. absurd p)

  room-colon : (bytes : List ℕ) (at : ℕ) (m : T.Context) (x : Option ℕ) → Roomy depth (scan_colon k bytes at m x)
  room-colon bytes at m none = λ p. absurd p
  room-colon bytes at m (some b) = room-cond (digit_in k b) _ _ (λ _. go (number_by k bytes (at + 1) b)) (λ _ p. absurd p)
    where
      go : (x : T.Scan) → Roomy depth (scan_storing at m x)
      go (T.read v e) = λ p. absurd p
      go T.unread = λ p. absurd p

  room-end : (bytes : List ℕ) (at : ℕ) (m : T.Context) (top : Top) (d : Bool) (b : ℕ) → Roomy depth (scan_end k bytes at m top depth d b)
  room-end bytes at m empty d b = room-cond (dot_in k b) _ _ (λ _ p. absurd p) (λ _ p. absurd p)
  room-end bytes at m inner d b =
      room-cond (tilde_in k b) _ _ (λ _ p. absurd p)
      (λ _. room-cond (closer_in k b) _ _ (λ _ p. absurd p)
      (λ _. room-cond (d && blank_in k b) _ _ (λ _. room-space bytes at m (get_elem? bytes (at + 1)))
      (λ _. room-cond (d && digit_in k b) _ _ (λ _ p. absurd p)
      (λ _. room-node bytes at m true b))))
  room-end bytes at m outer d b = room-cond (closer_in k b) _ _ (λ _ p. absurd p) (λ _ p. absurd p)

  room-size : (bytes : List ℕ) (at : ℕ) (m : T.Context) (x : T.Scan) → Roomy depth (scan_size k bytes at m x)
  room-size bytes at m (T.read v e) = go (get_elem? bytes e)
    where
      go : (x : Option ℕ) → Roomy depth (size_line k at m v e x)
      go none = λ p. absurd p
      go (some b) = room-cond (line_feed_in k b) _ _ (λ _ p. absurd p) (λ _ p. absurd p)
  room-size bytes at m T.unread = λ p. absurd p

  room_by : (bytes : List ℕ) (at : ℕ) (m : T.Context) (top : Top) (b : ℕ) → Roomy depth (scan_token_by k bytes at m top depth b)
  room_by bytes at T.start top b = room-cond (digit_in k b) _ _ (λ _. room-size bytes at T.start (number_by k bytes at b)) (λ _ p. absurd p)
  room_by bytes at T.lead top b = room-cond (tilde_in k b) _ _ (λ _ p. absurd p) (λ _. room-node bytes at T.lead false b)
  room_by bytes at T.begins top b = room-node bytes at T.begins false b
  room_by bytes at T.after_digit top b = room-end bytes at T.after_digit top true b
  room_by bytes at T.after_two top b = room-cond (colon_in k b) _ _ (λ _. room-colon bytes at T.after_two (get_elem? bytes (at + 1)))
      (λ _. room-end bytes at T.after_two top false b)
  room_by bytes at T.after_one top b = room-end bytes at T.after_one top false b
  room_by bytes at T.over top b = λ p. absurd p

pub scan-room : (k : List Kind) (bytes : List ℕ) (at : ℕ) (m : T.Context) (top : Top) (depth : ℕ) → Pushes (scan_token k bytes at m top depth).change
    → depth < open_limit
unfolding scan_token
scan-room k bytes at m top depth = go (get_elem? bytes at)
  where
    go : (x : Option ℕ) → Roomy depth (scan_token_on k bytes at m top depth x)
    go none = λ p. absurd p
    go (some b) = room_by k depth bytes at m top b

-- ---- At the start stands a number, and after an element never the start ----------------------

-- the element e after the context m: at the start it is a number, and a node of two children is stored
abbrev pub Begun : T.Context → T.Element → Type 0
Begun m T.opening = is_start m ≡ false
Begun m (T.number v) = Unit {0}
Begun m T.constant = is_start m ≡ false
Begun m T.turn = is_start m ≡ false
Begun m T.closing = is_start m ≡ false
Begun m (T.storing k) = m ≡ T.after_two
Begun m T.end = is_start m ≡ false

-- m, k: the context before and after
abbrev pub Firm : T.Context → T.Outcome → T.Context → Type 0
Firm m (T.got e) k = (is_start k ≡ false) × Begun m e
Firm m (T.fault c b) k = Unit {0}
Firm m T.ran_out k = Unit {0}

module _ (k : List Kind) (m : T.Context) where
  abbrev FirmBy : ScannedToken → Type 0
  FirmBy g = Firm m g.outcome g.context

  firm-cond : (t : Bool) (x y : ScannedToken) → FirmBy x → FirmBy y → FirmBy (cond t x y)
  firm-cond true x y a b = a
  firm-cond false x y a b = b

  firm-size : (bytes : List ℕ) (at : ℕ) (x : T.Scan) → FirmBy (scan_size k bytes at m x)
  firm-size bytes at (T.read v e) = go (get_elem? bytes e)
    where
      go : (x : Option ℕ) → FirmBy (size_line k at m v e x)
      go none = tt
      go (some b) = firm-cond (line_feed_in k b) _ _ (refl, tt) tt
  firm-size bytes at T.unread = tt

  module _ (later : is_start m ≡ false) where
    firm-number : (at : ℕ) (c : Change) (x : T.Scan) → FirmBy (scan_number at m c x)
    firm-number at c (T.read v e) = (refl, go (eqb v 0))
      where
        go : (t : Bool) → Begun m (cond t T.constant (T.number v))
        go true = later
        go false = tt
    firm-number at c T.unread = tt

    firm-node : (bytes : List ℕ) (at depth : ℕ) (two : Bool) (b : ℕ) → FirmBy (scan_node k bytes at m depth two b)
    firm-node bytes at depth two b =
        firm-cond (opener_in k b) _ _
        (firm-cond (ltb depth open_limit) _ _ (refl, later) tt)
        (firm-cond (digit_in k b) _ _ (firm-number at _ (number_by k bytes at b)) tt)

    firm-space : (bytes : List ℕ) (at : ℕ) (x : Option ℕ) → FirmBy (scan_space k bytes at m x)
    firm-space bytes at none = tt
    firm-space bytes at (some b) = firm-cond (digit_in k b) _ _ (firm-number at (second false) (number_by k bytes (at + 1) b)) tt

    firm-end : (bytes : List ℕ) (at : ℕ) (top : Top) (depth : ℕ) (d : Bool) (b : ℕ) → FirmBy (scan_end k bytes at m top depth d b)
    firm-end bytes at empty depth d b = firm-cond (dot_in k b) _ _ (refl, later) tt
    firm-end bytes at inner depth d b =
        firm-cond (tilde_in k b) _ _ (refl, later)
        (firm-cond (closer_in k b) _ _ (refl, later)
        (firm-cond (d && blank_in k b) _ _ (firm-space bytes at (get_elem? bytes (at + 1)))
        (firm-cond (d && digit_in k b) _ _ tt
        (firm-node bytes at depth true b))))
    firm-end bytes at outer depth d b = firm-cond (closer_in k b) _ _ (refl, later) tt

firm-colon : (k : List Kind) (bytes : List ℕ) (at : ℕ) (x : Option ℕ) → FirmBy k T.after_two (scan_colon k bytes at T.after_two x)
firm-colon k bytes at none = tt
firm-colon k bytes at (some b) = firm-cond k T.after_two (digit_in k b) _ _ (go (number_by k bytes (at + 1) b)) tt
  where
    go : (x : T.Scan) → FirmBy k T.after_two (scan_storing at T.after_two x)
    go (T.read v e) = (refl, refl)
    go T.unread = tt

firm-by : (k : List Kind) (bytes : List ℕ) (at : ℕ) (m : T.Context) (top : Top) (depth b : ℕ) → FirmBy k m (scan_token_by k bytes at m top depth b)
firm-by k bytes at T.start top depth b = firm-cond k T.start (digit_in k b) _ _ (firm-size k T.start bytes at (number_by k bytes at b)) tt
firm-by k bytes at T.lead top depth b = firm-cond k T.lead (tilde_in k b) _ _ (refl, refl) (firm-node k T.lead refl bytes at depth false b)
firm-by k bytes at T.begins top depth b = firm-node k T.begins refl bytes at depth false b
firm-by k bytes at T.after_digit top depth b = firm-end k T.after_digit refl bytes at top depth true b
firm-by k bytes at T.after_two top depth b = firm-cond k T.after_two (colon_in k b) _ _ (firm-colon k bytes at (get_elem? bytes (at + 1)))
    (firm-end k T.after_two refl bytes at top depth false b)
firm-by k bytes at T.after_one top depth b = firm-end k T.after_one refl bytes at top depth false b
firm-by k bytes at T.over top depth b = tt

firm-capped : (m k : T.Context) (o : T.Outcome) → Firm m o k → Firm m (cap_outcome o) k
firm-capped m k (T.got T.opening) h = h
firm-capped m k (T.got (T.number v)) h = h
firm-capped m k (T.got T.constant) h = h
firm-capped m k (T.got T.turn) h = h
firm-capped m k (T.got T.closing) h = h
firm-capped m k (T.got (T.storing v)) h = h
firm-capped m k (T.got T.end) h = h
firm-capped m k (T.fault c b) h = h
firm-capped m k T.ran_out h = h

pub scan-firm : (k : List Kind) (bytes : List ℕ) (at : ℕ) (m : T.Context) (top : Top) (depth : ℕ)
    → Firm m (cap_outcome (scan_token k bytes at m top depth).outcome) (scan_token k bytes at m top depth).context
unfolding scan_token
scan-firm k bytes at m top depth = firm-capped m (scan_token k bytes at m top depth).context (scan_token k bytes at m top depth).outcome
    (go (get_elem? bytes at))
  where
    go : (x : Option ℕ) → FirmBy k m (scan_token_on k bytes at m top depth x)
    go none = tt
    go (some b) = firm-by k bytes at m top depth b
