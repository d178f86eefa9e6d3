-- Writing as the walk goes: after p, which waits before a part's text, flow goes out with the part and tail waits after it.
use Rattle.std.specs.Prelude.{◌≡◌, refl, Bool, true, false, cond, ◌&&◌, List, [], ◌∷◌, ◌++◌, ℕ, zero, suc, ◌+◌, ◌-◌, ◌≤◌, ◌<◌, ◌^◌}
use Rattle.std.proofs.Common.{sym, ◌∙◌, true≢false, append_assoc, append-nil, arith}
use Rattle.std.proofs.Math.Path.{ap}
use Rattle.std.proofs.lemmas.Bool.{false≢true}
use Rattle.std.proofs.Math.Option.{none, some}
use Rattle.theory_reading.specs.Bytes.{opener, closer, blank}
use Rattle.theory_reading.specs.Nodes.{Ref, terminal, entry, temporary, node}
use Rattle.theory_writing.specs.UniqueTable.{State}
use Rattle.theory_writing.specs.Rules.{Text, number, one, two, Part, edge, both_terminal, same_entry, half_barred, found, new_number, by_rule, meet}
use Rattle.theory_writing.specs.Rules.{part}
use Rattle.theory_writing.specs.Texts.{decimal, ends_in_digit, tilde_if, between, storing, bytes}
use Rattle.theory_writing.specs.Storing.{Sound}
use Rattle.theory_writing.specs.Steps.{plain, first_half, second_half, part-halves}
use Rattle.theory_writing.specs.Release.{Begun, opened, in_two, beginning, wholly, uncovered-none}
use Rattle.theory_writing.specs.Stable.{meet-begun}
use Rattle.theory_writing.specs.Rewalk.{wraps}
use Rattle.theory_writing.specs.Shape.{Core, Shape, opens, closes, closes-snoc}

-- ---- What goes out and what waits ------------------------------------------------------------

-- what goes out with a part whose text is x
unfoldable pub flow : List ℕ → Text → List ℕ
unfolding bytes
flow p (number k) = []
flow p (one x) = flow (p ++ (opener ∷ [])) x
flow p (two x t y k) = p ++ bytes (two x t y k)

-- what waits after it
unfoldable pub tail : List ℕ → Text → List ℕ
unfolding bytes
tail p (number k) = p ++ decimal k
tail p (one x) = tail (p ++ (opener ∷ [])) x ++ (closer ∷ [])
tail p (two x t y k) = []

-- nothing is lost
pub flow-tail : (p : List ℕ) (x : Text) → flow p x ++ tail p x ≡ p ++ bytes x
unfolding flow tail bytes
flow-tail p (number k) = refl
flow-tail p (one x) =
    sym (append_assoc (flow (p ++ (opener ∷ [])) x) (tail (p ++ (opener ∷ [])) x) (closer ∷ []))
    ∙ ap (λ (l : List ℕ). l ++ (closer ∷ [])) (flow-tail (p ++ (opener ∷ [])) x)
    ∙ append_assoc (p ++ (opener ∷ [])) (bytes x) (closer ∷ []) ∙ append_assoc p (opener ∷ []) (bytes x ++ (closer ∷ []))
flow-tail p (two x t y k) = append-nil (p ++ bytes (two x t y k))

-- a part with no node written out sends nothing
pub plain-flow : (p : List ℕ) (x : Text) → plain x ≡ true → flow p x ≡ []
unfolding flow
plain-flow p (number k) e = refl
plain-flow p (one x) e = plain-flow (p ++ (opener ∷ [])) x e
plain-flow p (two x t y k) e = absurd (false≢true e)

-- after a node written out only closing brackets wait
pub tail-closes : (p : List ℕ) (j : ℕ) (x : Text) (t : Bool) (y : Text) (k : ℕ) → tail p (wraps j (two x t y k)) ≡ closes j
unfolding tail wraps
tail-closes p zero x t y k = refl
tail-closes p (suc j) x t y k =
    ap (λ (l : List ℕ). l ++ (closer ∷ [])) (tail-closes (p ++ (opener ∷ [])) j x t y k) ∙ closes-snoc j

-- a two-child node: its first child, its second after what waits and the `~` or space between, then what waits, the bracket and the number
pub flow-two : (p : List ℕ) (x : Text) (t : Bool) (y : Text) (k : ℕ) →
    let q = p ++ (opener ∷ []) in
    let r = tail q x ++ between t x y in
    flow p (two x t y k) ≡ flow q x ++ (flow r y ++ (tail r y ++ (closer ∷ storing k)))
unfolding flow bytes
flow-two p x t y k =
    let q = p ++ (opener ∷ []) in
    let r = tail q x ++ between t x y in
    let e : List ℕ = closer ∷ storing k in
    sym (ap (λ (l : List ℕ). flow q x ++ l)
    (sym (append_assoc (flow r y) (tail r y) e) ∙ ap (λ (l : List ℕ). l ++ e) (flow-tail r y))
    ∙ sym (append_assoc (flow q x) (r ++ bytes y) e)
    ∙ ap (λ (l : List ℕ). l ++ e) (sym (append_assoc (flow q x) r (bytes y)) ∙ ap (λ (l : List ℕ). l ++ bytes y)
    (sym (append_assoc (flow q x) (tail q x) (between t x y)) ∙ ap (λ (l : List ℕ). l ++ between t x y) (flow-tail q x)))
    ∙ simp append_assoc)

-- ---- With c words covered --------------------------------------------------------------------

-- what goes out of a beginning
abbrev pub sent : List ℕ → Begun → List ℕ
sent p none = []
sent p (some y) = p ++ y

-- brackets no deeper than the options left
abbrev pub Fitting : ℕ → Text → Type 0
Fitting m (number k) = Unit {0}
Fitting zero (one x) = ⊥
Fitting (suc m) (one x) = Fitting m x
Fitting zero (two x t y k) = ⊥
Fitting (suc m) (two x t y k) = Fitting m x × Fitting m y

by_rule-fitting : (both same barred : Bool) (known new m i : ℕ) (a b : Part) (s : State) → Fitting m a.text
    → Fitting m b.text → Fitting (suc m) (by_rule both same barred known new i a b s).part.text
unfolding by_rule
by_rule-fitting true same barred known new m i a b s p q = tt
by_rule-fitting false true barred known new m i a b s p q = p
by_rule-fitting false false true known new m i a b s p q = (p, q)
by_rule-fitting false false false (suc k) new m i a b s p q = tt
by_rule-fitting false false false zero (suc k) m i a b s p q = (p, q)
by_rule-fitting false false false zero zero m i a b s p q = (p, q)

pub part-fitting : (size m i at : ℕ) (f : ℕ → Bool) (s : State) → Fitting m (part size m i at f s).part.text
unfolding part meet
part-fitting size zero i at f s = tt
part-fitting size (suc m) i at f s =
    let a = first_half size m i at f s in
    let b = second_half size m i at f s in
    by_rule-fitting (both_terminal a.part b.part) (same_entry b.state a.part b.part)
    (half_barred b.state a.part b.part) (found b.state i a.part b.part)
    (new_number size b.state a.part b.part) m i a.part b.part b.state
    (part-fitting size m (suc i) at f s) (part-fitting size m (suc i) (at + 2 ^ m) f a.state)

sent-opened : (p : List ℕ) (o : Begun) → sent p (opened [] o) ≡ sent (p ++ (opener ∷ [])) o
sent-opened p none = refl
sent-opened p (some y) = sym (append_assoc p (opener ∷ []) y)

-- of a block whose words are all covered there goes out its flow
pub sent-all : (c m at : ℕ) (p : List ℕ) (x : Text) → at + 2 ^ m ≤ c → Fitting m x → sent p (beginning c m at x) ≡ flow p x
unfolding beginning flow
sent-all c m at p (number k) h d = refl
sent-all c zero at p (one x) h d = absurd d
sent-all c (suc m) at p (one x) h d = sent-opened p (beginning c m at x) ∙ sent-all c m at (p ++ (opener ∷ [])) x (omega arith) d
sent-all c zero at p (two x t y k) h d = absurd d
sent-all c (suc m) at p (two x t y k) h d = ap (sent p) (wholly c m at x t y k h)

-- of a block not all covered: the first half's, then the second's after what waits (if the second half sends anything the first is covered)
pub sent-two : (c m at : ℕ) (p : List ℕ) (x : Text) (t : Bool) (y : Text) (o : Begun) → at + 2 ^ m ≤ c → Fitting m x →
    let q = p ++ (opener ∷ []) in
    sent p (in_two (bytes x ++ between t x y) (beginning c m at x) o) ≡ flow q x ++ sent (tail q x ++ between t x y) o
sent-two c m at p x t y none h d =
    sent-opened p (beginning c m at x) ∙ sent-all c m at (p ++ (opener ∷ [])) x h d
    ∙ sym (append-nil (flow (p ++ (opener ∷ [])) x))
sent-two c m at p x t y (some v) h d =
    let q = p ++ (opener ∷ []) in
    sym (sym (append_assoc (flow q x) (tail q x ++ between t x y) v)
    ∙ ap (λ (l : List ℕ). l ++ v)
    (sym (append_assoc (flow q x) (tail q x) (between t x y)) ∙ ap (λ (l : List ℕ). l ++ between t x y) (flow-tail q x))
    ∙ simp append_assoc)

pub sent-one : (p : List ℕ) (x : List ℕ) (o : Begun) → sent p (in_two x o none) ≡ sent (p ++ (opener ∷ [])) o
sent-one p x o = sent-opened p o

-- ---- A block of the walk that is not all covered ---------------------------------------------

module _ (size m i at c : ℕ) (p : List ℕ) (f : ℕ → Bool) (s : State) (h : Sound s) (l : c < at + 2 ^ suc m) where
  -- what a block sends, after p
  abbrev of_block : ℕ → ℕ → List ℕ → Part → List ℕ
  of_block k w q a = sent q (beginning c k w a.text)

  cut-halves : of_block (suc m) at p (part size (suc m) i at f s).part ≡
      (let a = (first_half size m i at f s).part in let b = (second_half size m i at f s).part in
      sent p (in_two (bytes a.text ++ between (edge a b) a.text b.text) (beginning c m at a.text)
      (beginning c m (at + 2 ^ m) b.text)))
  unfolding part
  cut-halves =
      ap (sent p) (meet-begun c m at i s (first_half size m i at f s).state (second_half size m i at f s).state
      (first_half size m i at f s).part (second_half size m i at f s).part (part-halves size m i at f s h) l size)

  -- the covered words end in the first half: only that is walked
  pub cut-early : c ≤ at + 2 ^ m
      → of_block (suc m) at p (part size (suc m) i at f s).part ≡ of_block m at (p ++ (opener ∷ []))
      (first_half size m i at f s).part
  cut-early e =
      let a = (first_half size m i at f s).part in let b = (second_half size m i at f s).part in
      cut-halves
      ∙ ap
      (λ (o : Begun). sent p (in_two (bytes a.text ++ between (edge a b) a.text b.text) (beginning c m at a.text) o))
      (uncovered-none c m (at + 2 ^ m) b.text e)
      ∙ sent-one p [] (beginning c m at a.text)

  -- they end in the second: the first half goes out as it does when all is covered
  pub cut-late : at + 2 ^ m ≤ c → of_block (suc m) at p (part size (suc m) i at f s).part ≡
      (let a = (first_half size m i at f s).part in let b = (second_half size m i at f s).part in let q = p ++ (opener ∷ []) in
      flow q a.text ++ of_block m (at + 2 ^ m) (tail q a.text ++ between (edge a b) a.text b.text) b)
  cut-late e =
      let a = (first_half size m i at f s).part in let b = (second_half size m i at f s).part in
      cut-halves
      ∙ sent-two c m at p a.text (edge a b) b.text (beginning c m (at + 2 ^ m) b.text) e
      (part-fitting size m (suc i) at f s)

-- ---- What waits, without the text ------------------------------------------------------------

-- What waits after a part is told by what it came to and whether a node was written out.

-- A second child that sends anything begins with a bracket: before it stands `~` or nothing.
pub bracket-tilde : (t : Bool) (x y : Text) → plain y ≡ false → between t x y ≡ tilde_if t
bracket-tilde true x y e = refl
bracket-tilde false x (number k) e = absurd (true≢false e)
bracket-tilde false x (one y) e = no-space (ends_in_digit x)
  where
    no-space : (b : Bool) → ◌≡◌ {A = List ℕ} (cond (b && false) (blank ∷ []) []) []
    no-space true = refl
    no-space false = refl
bracket-tilde false x (two y u z k) e = no-space (ends_in_digit x)
  where
    no-space : (b : Bool) → ◌≡◌ {A = List ℕ} (cond (b && false) (blank ∷ []) []) []
    no-space true = refl
    no-space false = refl

pub flow-tilde : (p : List ℕ) (t : Bool) (x y : Text) → flow (p ++ between t x y) y ≡ flow (p ++ tilde_if t) y
flow-tilde p t x y = go (plain y) refl
  where
    go : (u : Bool) → plain y ≡ u → flow (p ++ between t x y) y ≡ flow (p ++ tilde_if t) y
    go true e = plain-flow (p ++ between t x y) y e ∙ sym (plain-flow (p ++ tilde_if t) y e)
    go false e = ap (λ (l : List ℕ). flow (p ++ l) y) (bracket-tilde t x y e)

-- what waits after a part that was met by number
pub tail-number : (p : List ℕ) (j k : ℕ) → tail p (wraps j (number k)) ≡ p ++ (opens j ++ (decimal k ++ closes j))
unfolding tail wraps
tail-number p zero k = ap (λ (l : List ℕ). p ++ l) (sym (append-nil (decimal k)))
tail-number p (suc j) k =
    ap (λ (l : List ℕ). l ++ (closer ∷ [])) (tail-number (p ++ (opener ∷ [])) j k)
    ∙ append_assoc (p ++ (opener ∷ [])) (opens j ++ (decimal k ++ closes j)) (closer ∷ []) ∙ append_assoc p (opener ∷ []) _
    ∙ ap (λ (l : List ℕ). p ++ (opener ∷ l)) (append_assoc (opens j) (decimal k ++ closes j) (closer ∷ []) ∙ ap
    (λ (l : List ℕ). opens j ++ l)
    (append_assoc (decimal k) (closes j) (closer ∷ []) ∙ ap (λ (l : List ℕ). decimal k ++ l) (closes-snoc j)))

-- what waits, by what the part came to (w), whether a node was written out (not plain), and the state
abbrev pub waits : List ℕ → State → ℕ → Ref → Bool → List ℕ
waits p s i terminal u = p ++ decimal 0
waits p s i (entry k g) true = p ++ (opens ((node s.table k).level - i) ++ (decimal k ++ closes ((node s.table k).level - i)))
waits p s i (entry k g) false = closes ((node s.table k).level - i)
waits p s i temporary u = []

pub plain-wraps : (j : ℕ) (x : Text) → plain (wraps j x) ≡ plain x
unfolding wraps
plain-wraps zero x = refl
plain-wraps (suc j) x = plain-wraps j x

entry-waits : (p : List ℕ) (s : State) (i k g : ℕ) (x core : Text) → Core k core → x ≡ wraps ((node s.table k).level - i) core
    → tail p x ≡ waits p s i (entry k g) (plain x)
entry-waits p s i k g x (number j) c e =
    ap (tail p) e ∙ tail-number p ((node s.table k).level - i) j
    ∙ ap (λ (z : ℕ). p ++ (opens ((node s.table k).level - i) ++ (decimal z ++ closes ((node s.table k).level - i)))) c
    ∙ ap (waits p s i (entry k g)) (sym (ap plain e ∙ plain-wraps ((node s.table k).level - i) (number j)))
entry-waits p s i k g x (one y) c e = absurd c
entry-waits p s i k g x (two y t z j) c e =
    ap (tail p) e ∙ tail-closes p ((node s.table k).level - i) y t z j
    ∙ ap (waits p s i (entry k g)) (sym (ap plain e ∙ plain-wraps ((node s.table k).level - i) (two y t z j)))

pub tail-waits : (p : List ℕ) (s : State) (i : ℕ) (w : Ref) (x : Text) → Shape s i w x → tail p x ≡ waits p s i w (plain x)
unfolding tail
tail-waits p s i terminal x h = ap (tail p) h
tail-waits p s i (entry k g) x h = entry-waits p s i k g x h.core h.is-core h.shape
tail-waits p s i temporary (number k) h = absurd (true≢false h.1)
tail-waits p s i temporary (one x) h = absurd h.0
tail-waits p s i temporary (two x t y k) h = refl
