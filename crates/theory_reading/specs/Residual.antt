-- What may stand behind a place of a stream: for each context and open nodes the byte lists that complete the stream there, by the grammar
-- (Grammar), and how a byte more changes them. Assumes nothing.
use Rattle.std.specs.Prelude.{◌≡◌, refl, ◌⊎◌, Bool, true, false, cond, ◌&&◌, List, [], ◌∷◌, ◌++◌, ℕ}
use Rattle.std.proofs.Common.{sym, ap, ◌∙◌, subst, inl, inr, append_assoc, arith}
use Rattle.std.proofs.lemmas.Bool.{false≢true}
use Rattle.theory_lists.specs.Splits.{clash, nil-cons, head-same, tail-same}
use Rattle.theory_reading.specs.Bytes.{opener, closer, tilde, colon, dot, blank, line_feed, digit_zero, is_digit}
use Rattle.theory_reading.specs.Element.{Open, in_first, in_second, Context, start, lead, begins, after_digit, after_two, after_one, over}
use Rattle.theory_reading.specs.Grammar.{Digits, no_digit, a_digit, IsNumber, is_zero, is_other, IsStoring, not_stored, is_stored, begins_in_digit}
use Rattle.theory_reading.specs.Grammar.{ends_in_digit, gap, IsNode, is_number, is_one, is_two, is_turned, IsStream, is_stream}

-- ---- Languages -------------------------------------------------------------------------------

infix 4 ◌⊆◌
abbrev pub ◌⊆◌ : (List ℕ → Type 0) → (List ℕ → Type 0) → Type 0
L ⊆ M = (zs : List ℕ) → L zs → M zs

-- what completes w to L
abbrev pub After : List ℕ → (List ℕ → Type 0) → List ℕ → Type 0
After w L zs = L (w ++ zs)

-- a byte, then L
pub data Byte (c : ℕ) (L : List ℕ → Type 0) (xs : List ℕ) : Type 0 where
  byte : (ys : List ℕ) → xs ≡ c ∷ ys → L ys → Byte c L xs

-- a number, then L
pub data Number (L : List ℕ → Type 0) (xs : List ℕ) : Type 0 where
  numbered : (k ys : List ℕ) → xs ≡ k ++ ys → IsNumber k → L ys → Number L xs

-- a node, then K, which knows whether the node's text ends in a digit
pub data Node (K : Bool → List ℕ → Type 0) (xs : List ℕ) : Type 0 where
  node : (x ys : List ℕ) → xs ≡ x ++ ys → IsNode x → K (ends_in_digit x) ys → Node K xs

-- after the `)` of two children: a storing or not, then K
pub data Stored (K : Bool → List ℕ → Type 0) (xs : List ℕ) : Type 0 where
  unstored : K false xs → Stored K xs
  stored : Byte colon (Number (K true)) xs → Stored K xs

-- after the second child
abbrev pub Second : (Bool → List ℕ → Type 0) → List ℕ → Type 0
Second K = Byte closer (Stored K)

-- after the first child, whose text ends in a digit if d is true: the node closes; or the second child follows a `~`, or nothing, or a space
pub data First (K : Bool → List ℕ → Type 0) (d : Bool) (xs : List ℕ) : Type 0 where
  closes : Byte closer (K false) xs → First K d xs
  turns : Byte tilde (Node (λ _. Second K)) xs → First K d xs
  joins : (d ≡ true → begins_in_digit xs ≡ false) → Node (λ _. Second K) xs → First K d xs
  spaces : d ≡ true → Byte blank (Number (Second K)) xs → First K d xs

-- after a node inside the open nodes
abbrev pub Tail : List Open → Bool → List ℕ → Type 0
Tail [] = λ d xs. xs ≡ dot ∷ []
Tail (in_first ∷ o) = First (Tail o)
Tail (in_second a t ∷ o) = λ d. Second (Tail o)

-- before the outermost node
pub data Lead (K : Bool → List ℕ → Type 0) (xs : List ℕ) : Type 0 where
  turned : Byte tilde (Node K) xs → Lead K xs
  unturned : Node K xs → Lead K xs

-- WHAT COMPLETES A STREAM behind a context inside the open nodes
abbrev pub Rest : Context → List Open → List ℕ → Type 0
Rest start o = Number (Byte line_feed (Lead (Tail o)))
Rest lead o = Lead (Tail o)
Rest begins o = Node (Tail o)
Rest after_digit o = Tail o true
Rest after_two o = Stored (Tail o)
Rest after_one o = Tail o false
Rest over o = λ xs. xs ≡ []

-- ---- Bytes -----------------------------------------------------------------------------------

pub byte-here : {c b : ℕ} {L : List ℕ → Type 0} {zs : List ℕ} → b ≡ c → L zs → Byte c L (b ∷ zs)
byte-here {c} {b} {L} {zs} e h = byte zs (ap (λ (x : ℕ). x ∷ zs) e) h

pub byte-head : {c b : ℕ} {L : List ℕ → Type 0} {zs : List ℕ} → Byte c L (b ∷ zs) → b ≡ c
byte-head (byte ys e h) = head-same e

pub byte-not : {A : Type 0} {c b : ℕ} {L : List ℕ → Type 0} {zs : List ℕ} → (b ≡ c → ⊥) → Byte c L (b ∷ zs) → A
byte-not n h = absurd (n (byte-head h))

pub byte-tail : {c b : ℕ} {L : List ℕ → Type 0} {zs : List ℕ} → Byte c L (b ∷ zs) → L zs
byte-tail {L} (byte ys e h) = subst L (sym (tail-same e)) h

pub byte-none : {A : Type 0} {c : ℕ} {L : List ℕ → Type 0} → Byte c L [] → A
byte-none (byte ys e h) = nil-cons e

-- a byte list that begins, and not with a digit
abbrev pub Nondigit : List ℕ → Type 0
Nondigit [] = ⊥
Nondigit (c ∷ cs) = is_digit c ≡ false

pub nondigit-begins : (xs : List ℕ) → Nondigit xs → begins_in_digit xs ≡ false
nondigit-begins [] h = absurd h
nondigit-begins (c ∷ cs) h = h

pub byte-nondigit : {c : ℕ} {L : List ℕ → Type 0} {xs : List ℕ} → is_digit c ≡ false → Byte c L xs → Nondigit xs
byte-nondigit d (byte ys e h) = subst Nondigit (sym e) d

-- ---- Numbers ---------------------------------------------------------------------------------

zero-digit : is_digit digit_zero ≡ true
unfolding is_digit
zero-digit = refl

pub number-begins : {k : List ℕ} → IsNumber k → (zs : List ℕ) → begins_in_digit (k ++ zs) ≡ true
number-begins is_zero zs = zero-digit
number-begins (is_other b bs d n h) zs = d

digits-end : (b : ℕ) {bs : List ℕ} → is_digit b ≡ true → Digits bs → ends_in_digit (b ∷ bs) ≡ true
unfolding ends_in_digit
digits-end b d no_digit = d
digits-end b d (a_digit c cs e h) = digits-end c e h

pub number-ends : {k : List ℕ} → IsNumber k → ends_in_digit k ≡ true
unfolding ends_in_digit
number-ends is_zero = zero-digit
number-ends (is_other b bs d n h) = digits-end b d h

pub number-head : {b : ℕ} {L : List ℕ → Type 0} {zs : List ℕ} → Number L (b ∷ zs) → is_digit b ≡ true
number-head (numbered k ys e h l) = ap begins_in_digit e ∙ number-begins h ys

pub number-none : {A : Type 0} {L : List ℕ → Type 0} → Number L [] → A
number-none (numbered k ys e h l) = clash (ap begins_in_digit e ∙ number-begins h ys) refl

-- ---- Nodes -----------------------------------------------------------------------------------

pub opener-not : is_digit opener ≡ false
unfolding is_digit
opener-not = refl

pub closer-not : is_digit closer ≡ false
unfolding is_digit
closer-not = refl

pub tilde-not : is_digit tilde ≡ false
unfolding is_digit
tilde-not = refl

pub blank-not : is_digit blank ≡ false
unfolding is_digit
blank-not = refl

pub dot-not : is_digit dot ≡ false
unfolding is_digit
dot-not = refl

pub colon-not : is_digit colon ≡ false
unfolding is_digit
colon-not = refl

pub line_feed-not : is_digit line_feed ≡ false
unfolding is_digit
line_feed-not = refl

-- only the last bytes of a text tell whether it ends in a digit
ends-behind : (xs : List ℕ) (c : ℕ) (cs : List ℕ) → ends_in_digit (xs ++ (c ∷ cs)) ≡ ends_in_digit (c ∷ cs)
unfolding ends_in_digit
ends-behind [] c cs = refl
ends-behind (x ∷ []) c cs = refl
ends-behind (x ∷ y ∷ xs) c cs = ends-behind (y ∷ xs) c cs

-- a node begins with `(` or a digit
pub node-head : {K : Bool → List ℕ → Type 0} {b : ℕ} {zs : List ℕ} → Node K (b ∷ zs) → (b ≡ opener) ⊎ (is_digit b ≡ true)
node-head (node x ys e (is_number k h) l) = inr (ap begins_in_digit e ∙ number-begins h ys)
node-head (node x ys e (is_one a h) l) = inl (head-same e)
node-head (node x ys e (is_two a b s h j i) l) = inl (head-same e)
node-head (node x ys e (is_turned a b s h j i) l) = inl (head-same e)

pub node-not : {A : Type 0} {K : Bool → List ℕ → Type 0} {b : ℕ} {zs : List ℕ} → (b ≡ opener → ⊥) → is_digit b ≡ false → Node K (b ∷ zs) → A
node-not {A} {b} n d h = go (node-head h)
  where
    go : (b ≡ opener) ⊎ (is_digit b ≡ true) → A
    go (inl e) = absurd (n e)
    go (inr e) = clash e d

pub node-none : {A : Type 0} {K : Bool → List ℕ → Type 0} → Node K [] → A
node-none (node x ys e (is_number k h) l) = clash (ap begins_in_digit e ∙ number-begins h ys) refl
node-none (node x ys e (is_one a h) l) = nil-cons e
node-none (node x ys e (is_two a b s h j i) l) = nil-cons e
node-none (node x ys e (is_turned a b s h j i) l) = nil-cons e

-- where a digit stands, a node is a number
pub node-number : {K : Bool → List ℕ → Type 0} {b : ℕ} {zs : List ℕ} → is_digit b ≡ true → Node K (b ∷ zs) → Number (K true) (b ∷ zs)
node-number {K} d (node x ys e (is_number k h) l) = numbered k ys e h (subst (λ (t : Bool). K t ys) (number-ends h) l)
node-number d (node x ys e (is_one a h) l) = clash d (ap is_digit (head-same e) ∙ opener-not)
node-number d (node x ys e (is_two a b s h j i) l) = clash d (ap is_digit (head-same e) ∙ opener-not)
node-number d (node x ys e (is_turned a b s h j i) l) = clash d (ap is_digit (head-same e) ∙ opener-not)

pub number-node : {K : Bool → List ℕ → Type 0} {zs : List ℕ} → Number (K true) zs → Node K zs
number-node {K} (numbered k ys e h l) = node k ys e (is_number k h) (subst (λ (t : Bool). K t ys) (sym (number-ends h)) l)

-- ---- The children of a node ------------------------------------------------------------------

-- a storing ends in a digit if it is there
storing-ends : {k : List ℕ} → IsNumber k → ends_in_digit (closer ∷ colon ∷ k) ≡ true
storing-ends is_zero = ends-behind (closer ∷ colon ∷ []) digit_zero [] ∙ number-ends is_zero
storing-ends (is_other b bs d n h) = ends-behind (closer ∷ colon ∷ []) b bs ∙ number-ends (is_other b bs d n h)

closer-ends : ends_in_digit (closer ∷ []) ≡ false
unfolding ends_in_digit
closer-ends = closer-not

storing-stored : (K : Bool → List ℕ → Type 0) {s : List ℕ} (ys : List ℕ) → IsStoring s → K (ends_in_digit (closer ∷ s)) ys → Stored K (s ++ ys)
storing-stored K ys not_stored l = unstored (subst (λ (t : Bool). K t ys) closer-ends l)
storing-stored K ys (is_stored k h) l = stored (byte (k ++ ys) refl (numbered k ys refl h (subst (λ (t : Bool). K t ys) (storing-ends h) l)))

-- a storing and what is behind it
data Storing (K : Bool → List ℕ → Type 0) (xs : List ℕ) : Type 0 where
  storing : (s ys : List ℕ) → xs ≡ s ++ ys → IsStoring s → K (ends_in_digit (closer ∷ s)) ys → Storing K xs

stored-storing : (K : Bool → List ℕ → Type 0) {xs : List ℕ} → Stored K xs → Storing K xs
stored-storing K {xs} (unstored l) = storing [] xs refl not_stored (subst (λ (t : Bool). K t xs) (sym closer-ends) l)
stored-storing K (stored (byte zs e (numbered k ys j h l))) =
    storing (colon ∷ k) ys (e ∙ ap (λ (r : List ℕ). colon ∷ r) j) (is_stored k h) (subst (λ (t : Bool). K t ys) (sym (storing-ends h)) l)

one-ends : (a : List ℕ) → ends_in_digit (opener ∷ (a ++ (closer ∷ []))) ≡ false
one-ends a = ends-behind (opener ∷ a) closer [] ∙ closer-ends

two_ends : (a g b s : List ℕ) → ends_in_digit (opener ∷ (a ++ (g ++ (b ++ (closer ∷ s))))) ≡ ends_in_digit (closer ∷ s)
two_ends a g b s =
    let e : opener ∷ (a ++ (g ++ (b ++ (closer ∷ s)))) ≡ ((opener ∷ a) ++ g ++ b) ++ (closer ∷ s) = simp append_assoc in
    ap ends_in_digit e ∙ ends-behind ((opener ∷ a) ++ g ++ b) closer s

two-behind : (a g b s ys : List ℕ) → (a ++ (g ++ (b ++ (closer ∷ s)))) ++ ys ≡ a ++ (g ++ (b ++ (closer ∷ (s ++ ys))))
two-behind a g b s ys = simp append_assoc

number-digit : {k : List ℕ} → IsNumber k → begins_in_digit k ≡ true
number-digit is_zero = zero-digit
number-digit (is_other b bs d n h) = d

-- the second child with no `~` before it, and the space if it has to be there
gap-first : (K : Bool → List ℕ → Type 0) (d : Bool) {b : List ℕ} (zs : List ℕ) → IsNode b → Second K zs
    → First K d (cond (d && begins_in_digit b) (blank ∷ []) [] ++ (b ++ zs))
gap-first K false {b} zs h l = joins (λ e. absurd (false≢true e)) (node b zs refl h l)
gap-first K true zs (is_number k h) l = rw (number-digit h) (spaces refl (byte (k ++ zs) refl (numbered k zs refl h l)))
gap-first K true zs (is_one a h) l = rw opener-not (joins (λ _. opener-not) (node _ zs refl (is_one a h) l))
gap-first K true zs (is_two a b s h j i) l = rw opener-not (joins (λ _. opener-not) (node _ zs refl (is_two a b s h j i) l))
gap-first K true zs (is_turned a b s h j i) l = rw opener-not (joins (λ _. opener-not) (node _ zs refl (is_turned a b s h j i) l))

-- behind the `(` of a node its first child
pub node_opens : {K : Bool → List ℕ → Type 0} {zs : List ℕ} → Node K (opener ∷ zs) → Node (First K) zs
node_opens (node x ys e (is_number k h) l) = clash (ap begins_in_digit e ∙ number-begins h ys) opener-not
node_opens {K} (node x ys e (is_one a h) l) =
    node a (closer ∷ ys) (tail-same e ∙ append_assoc a (closer ∷ []) ys) h (closes (byte ys refl (subst (λ (t : Bool). K t ys) (one-ends a) l)))
node_opens {K} (node x ys e (is_two a b s h j i) l) =
    let k : K (ends_in_digit (closer ∷ s)) ys = subst (λ (t : Bool). K t ys) (two_ends a (gap a b) b s) l in
    node a (gap a b ++ (b ++ (closer ∷ (s ++ ys)))) (tail-same e ∙ two-behind a (gap a b) b s ys) h
    (gap-first K (ends_in_digit a) (closer ∷ (s ++ ys)) j (byte (s ++ ys) refl (storing-stored K ys i k)))
node_opens {K} (node x ys e (is_turned a b s h j i) l) =
    let k : K (ends_in_digit (closer ∷ s)) ys = subst (λ (t : Bool). K t ys) (two_ends a (tilde ∷ []) b s) l in
    node a (tilde ∷ (b ++ (closer ∷ (s ++ ys)))) (tail-same e ∙ two-behind a (tilde ∷ []) b s ys) h
    (turns (byte (b ++ (closer ∷ (s ++ ys))) refl (node b (closer ∷ (s ++ ys)) refl j (byte (s ++ ys) refl (storing-stored K ys i k)))))

two-node : (K : Bool → List ℕ → Type 0) {a b zs us vs : List ℕ} (g : List ℕ) → gap a b ≡ g → IsNode a → IsNode b
    → zs ≡ a ++ (g ++ (b ++ us)) → us ≡ closer ∷ vs → Storing K vs → Node K (opener ∷ zs)
two-node K {a} {b} {zs} {us} {vs} g q h j e f (storing s ys p i l) =
    let w : g ++ (b ++ us) ≡ gap a b ++ (b ++ (closer ∷ (s ++ ys))) = cc in
    node (opener ∷ (a ++ (gap a b ++ (b ++ (closer ∷ s))))) ys
    (ap (λ (r : List ℕ). opener ∷ r) (e ∙ ap (λ (r : List ℕ). a ++ r) w ∙ sym (two-behind a (gap a b) b s ys)))
    (is_two a b s h j i)
    (subst (λ (t : Bool). K t ys) (sym (two_ends a (gap a b) b s)) l)

turned-node : (K : Bool → List ℕ → Type 0) {a b zs us vs : List ℕ} → IsNode a → IsNode b
    → zs ≡ a ++ (tilde ∷ (b ++ us)) → us ≡ closer ∷ vs → Storing K vs → Node K (opener ∷ zs)
turned-node K {a} {b} {zs} {us} {vs} h j e f (storing s ys p i l) =
    let w : us ≡ closer ∷ (s ++ ys) = cc in
    node (opener ∷ (a ++ (tilde ∷ (b ++ (closer ∷ s))))) ys
    (ap (λ (r : List ℕ). opener ∷ r) (e ∙ ap (λ (r : List ℕ). a ++ (tilde ∷ (b ++ r))) w ∙ sym (two-behind a (tilde ∷ []) b s ys)))
    (is_turned a b s h j i)
    (subst (λ (t : Bool). K t ys) (sym (two_ends a (tilde ∷ []) b s)) l)

-- no space where the first child does not end in a digit, or the second does not begin with one
no_gap : (d t : Bool) → (d ≡ true → t ≡ false) → ◌≡◌ {A = List ℕ} (cond (d && t) (blank ∷ []) []) []
no_gap true t h = rw (h refl)
no_gap false t h = refl

node-begins : {b : List ℕ} (zs : List ℕ) → IsNode b → begins_in_digit (b ++ zs) ≡ begins_in_digit b
node-begins zs (is_number k h) = number-begins h zs ∙ sym (number-digit h)
node-begins zs (is_one a h) = refl
node-begins zs (is_two a b s h j i) = refl
node-begins zs (is_turned a b s h j i) = refl

-- and back
pub opens-node : {K : Bool → List ℕ → Type 0} {zs : List ℕ} → Node (First K) zs → Node K (opener ∷ zs)
opens-node {K} (node a ys e h (closes (byte us f l))) =
    node (opener ∷ (a ++ (closer ∷ []))) us
    (ap (λ (r : List ℕ). opener ∷ r) (e ∙ ap (λ (r : List ℕ). a ++ r) f ∙ sym (append_assoc a (closer ∷ []) us)))
    (is_one a h) (subst (λ (t : Bool). K t us) (sym (one-ends a)) l)
opens-node {K} (node a ys e h (turns (byte us f (node b vs q j (byte ws p l))))) =
    turned-node K h j (e ∙ ap (λ (r : List ℕ). a ++ r) (f ∙ ap (λ (r : List ℕ). tilde ∷ r) q)) p (stored-storing K l)
opens-node {K} (node a ys e h (joins c (node b vs q j (byte ws p l)))) =
    let g : gap a b ≡ [] = no_gap (ends_in_digit a) (begins_in_digit b) (λ d. sym (node-begins vs j) ∙ sym (ap begins_in_digit q) ∙ c d) in
    two-node K [] g h j (e ∙ ap (λ (r : List ℕ). a ++ r) q) p (stored-storing K l)
opens-node {K} (node a ys e h (spaces d (byte us f (numbered k vs q j (byte ws p l))))) =
    let g : gap a k ≡ blank ∷ [] = rw (d, number-digit j) in
    two-node K (blank ∷ []) g h (is_number k j) (e ∙ ap (λ (r : List ℕ). a ++ r) (f ∙ ap (λ (r : List ℕ). blank ∷ r) q)) p (stored-storing K l)

-- ---- What is behind a node -------------------------------------------------------------------

-- something is, and it does not begin with a `:`
pub tail_none : {A : Type 0} (o : List Open) (d : Bool) → Tail o d [] → A
tail_none [] d h = nil-cons h
tail_none (in_first ∷ o) d (closes h) = byte-none h
tail_none (in_first ∷ o) d (turns h) = byte-none h
tail_none (in_first ∷ o) d (joins c h) = node-none h
tail_none (in_first ∷ o) d (spaces c h) = byte-none h
tail_none (in_second a t ∷ o) d h = byte-none h

pub tail-colon : {A : Type 0} (o : List Open) (d : Bool) (zs : List ℕ) → Tail o d (colon ∷ zs) → A
tail-colon [] d zs h = let e : colon ≡ dot = head-same h in absurd (omega arith)
tail-colon (in_first ∷ o) d zs (closes h) = byte-not (omega arith) h
tail-colon (in_first ∷ o) d zs (turns h) = byte-not (omega arith) h
tail-colon (in_first ∷ o) d zs (joins c h) = node-not (omega arith) colon-not h
tail-colon (in_first ∷ o) d zs (spaces c h) = byte-not (omega arith) h
tail-colon (in_second a t ∷ o) d zs h = byte-not (omega arith) h

-- behind a digit no digit
pub tail-nondigit : (o : List Open) (zs : List ℕ) → Tail o true zs → Nondigit zs
tail-nondigit [] zs h = subst Nondigit (sym h) dot-not
tail-nondigit (in_first ∷ o) zs (closes h) = byte-nondigit closer-not h
tail-nondigit (in_first ∷ o) zs (turns h) = byte-nondigit tilde-not h
tail-nondigit (in_first ∷ o) zs (joins c h) = joined zs (c refl) h
  where
    joined : (zs : List ℕ) → begins_in_digit zs ≡ false → Node (λ _. Second (Tail o)) zs → Nondigit zs
    joined [] e h = node-none h
    joined (z ∷ zs) e h = e
tail-nondigit (in_first ∷ o) zs (spaces c h) = byte-nondigit blank-not h
tail-nondigit (in_second a t ∷ o) zs h = byte-nondigit closer-not h

-- EVERY PLACE can be completed.
abbrev pub Some : (List ℕ → Type 0) → Type 0
Some L = (xs : List ℕ) × L xs

pub byte-some : {L : List ℕ → Type 0} (c : ℕ) → Some L → Some (Byte c L)
byte-some c x = (c ∷ x.0, byte x.0 refl x.1)

pub number-some : {L : List ℕ → Type 0} → Some L → Some (Number L)
number-some x = (digit_zero ∷ x.0, numbered (digit_zero ∷ []) x.0 refl is_zero x.1)

pub tail-some : (o : List Open) (d : Bool) → Some (Tail o d)
tail-some [] d = (dot ∷ [], refl)
tail-some (in_first ∷ o) d = let x = byte-some closer (tail-some o false) in (x.0, closes x.1)
tail-some (in_second a t ∷ o) d = let x = tail-some o false in byte-some closer (x.0, unstored x.1)

node-some : (o : List Open) → Some (Node (Tail o))
node-some o = let x = number-some (tail-some o true) in (x.0, number-node x.1)

pub rest_some : (m : Context) (o : List Open) → Some (Rest m o)
rest_some start o = let x = node-some o in number-some (byte-some line_feed (x.0, unturned x.1))
rest_some lead o = let x = node-some o in (x.0, unturned x.1)
rest_some begins o = node-some o
rest_some after_digit o = tail-some o true
rest_some after_two o = let x = tail-some o false in (x.0, unstored x.1)
rest_some after_one o = tail-some o false
rest_some over o = ([], refl)

-- ---- The whole stream ------------------------------------------------------------------------

-- a stream is what completes the empty one
pub stream-rest : {xs : List ℕ} → IsStream xs → Rest start [] xs
stream-rest (is_stream z true x h j) = numbered z _ refl h (byte _ refl (turned (byte _ refl (node x (dot ∷ []) refl j refl))))
stream-rest (is_stream z false x h j) = numbered z _ refl h (byte _ refl (unturned (node x (dot ∷ []) refl j refl)))

pub rest-stream : {xs : List ℕ} → Rest start [] xs → IsStream xs
rest-stream {xs} (numbered z ys e h (byte us f (turned (byte vs g (node x ws q j p))))) =
    let v : z ++ (line_feed ∷ (tilde ∷ (x ++ (dot ∷ [])))) ≡ xs = cc in
    subst IsStream v (is_stream z true x h j)
rest-stream {xs} (numbered z ys e h (byte us f (unturned (node x ws q j p)))) =
    let v : z ++ (line_feed ∷ (x ++ (dot ∷ []))) ≡ xs = cc in
    subst IsStream v (is_stream z false x h j)
