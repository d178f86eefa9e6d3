-- One step of a place by little: the byte's place, what stands before it, the innermost open node and how many are open. What it comes to says how
-- the open nodes change, so that code changes one entry and copies none. It is defined for any table k of kinds, since code has one lent.
-- `step-scan`: with the table of kinds it is document 01's step. Numbers are capped, since code holds them in 32 bits. Assumes nothing.
use Rattle.std.specs.Prelude.{◌≡◌, refl, Bool, true, false, cond, ◌&&◌, List, [], ◌∷◌, ℕ, ◌+◌, ltb, eqb, length}
use Rattle.std.proofs.Common.{sym, ap, subst}
use Rattle.std.proofs.Math.Option.{Option, none, some}
use Rattle.std.proofs.Math.ListN.{get_elem?}
use Rattle.kinds.specs.Kinds.{kind_table, digit_in, blank_in, line_feed_in, dot_in, opener_in, closer_in, tilde_in, colon_in, number_by, digit-in}
use Rattle.kinds.specs.Kinds.{blank-in, line-feed-in, dot-in, opener-in, closer-in, tilde-in, colon-in, number_by_lem}
use Rattle.theory_reading.specs.Limits.{open_limit}
use Rattle.theory_reading.specs.Bytes.{opener, closer, tilde, colon, dot, blank, line_feed, is_digit}
use Rattle.theory_reading.specs.Nodes.{Ref}
use Rattle.theory_reading.specs.Causes.{Cause, wrong_byte, too_deep}
use Rattle.theory_reading.specs.Reading.{is_lead, is_two}
use Rattle.theory_reading.specs.Element.{Element, opening, number, constant, turn, closing, storing, end, Open, in_first, in_second, Context, start}
use Rattle.theory_reading.specs.Element.{lead, begins, after_digit, after_two, after_one, over, Place, place, moved, Scan, read, unread, number_at}
use Rattle.theory_reading.specs.Element.{Outcome, got, fault, ran_out, Step, gives, fails, size_ends, size_read, number_read, storing_read, node_begins}
use Rattle.theory_reading.specs.Element.{after_space, after_colon, node_ended, step_by, step_on, step}
use Rattle.kinds.specs.declared.Kind.{Kind}

-- ---- What a step comes to --------------------------------------------------------------------

-- the innermost open node: none is open; its first child is not done; it is
pub data Top : Type 0 where
  empty inner outer : Top

abbrev pub top_of : List Open → Top
top_of [] = empty
top_of (in_first ∷ o) = inner
top_of (in_second r t ∷ o) = outer

-- how the open nodes change: not; a node opens, or closes; the second child begins, after a `~` or not; it begins and opens a node
pub data Change : Type 0 where
  same push pop second_push : Change
  second : Bool → Change

abbrev pub seconded : Ref → Bool → List Open → List Open
seconded r t [] = []
seconded r t (x ∷ o) = in_second r t ∷ o

abbrev pub popped : List Open → List Open
popped [] = []
popped (x ∷ o) = o

abbrev pub changed : Change → Ref → List Open → List Open
changed same r o = o
changed push r o = in_first ∷ o
changed pop r o = popped o
changed second_push r o = in_first ∷ seconded r false o
changed (second t) r o = seconded r t o

pub record ScannedToken : Type 0 where
  pub outcome : Outcome
  pub at : ℕ
  pub context : Context
  pub change : Change

-- the step of a place that a scan comes to
abbrev pub applied : Place → ScannedToken → Step
applied p g = record { outcome = g.outcome; place = place g.at g.context (changed g.change p.last p.opens) p.last }

abbrev pub gave : Element → ℕ → Context → Change → ScannedToken
gave e at m c = record { outcome = got e; at = at; context = m; change = c }

abbrev pub failed : ℕ → Context → Cause → ℕ → ScannedToken
failed at m c b = record { outcome = fault c b; at = at; context = m; change = same }

abbrev pub waited : ℕ → Context → ScannedToken
waited at m = record { outcome = ran_out; at = at; context = m; change = same }

-- ---- The scan ------------------------------------------------------------------------------

abbrev pub size_line : List Kind → ℕ → Context → ℕ → ℕ → Option ℕ → ScannedToken
size_line k at m v e none = waited at m
size_line k at m v e (some b) = cond (line_feed_in k b) (gave (number v) (e + 1) lead same) (failed at m wrong_byte e)

abbrev pub scan_size : List Kind → List ℕ → ℕ → Context → Scan → ScannedToken
scan_size k bytes at m (read v e) = size_line k at m v e (get_elem? bytes e)
scan_size k bytes at m unread = waited at m

abbrev pub scan_number : ℕ → Context → Change → Scan → ScannedToken
scan_number at m c (read v e) = gave (cond (eqb v 0) constant (number v)) e after_digit c
scan_number at m c unread = waited at m

abbrev pub scan_storing : ℕ → Context → Scan → ScannedToken
scan_storing at m (read v e) = gave (storing v) e after_digit same
scan_storing at m unread = waited at m

-- two: the node that begins is a second child; depth: the nodes that are open; b: the byte at the place
abbrev pub scan_node : List Kind → List ℕ → ℕ → Context → ℕ → Bool → ℕ → ScannedToken
scan_node k bytes at m depth two b =
    cond (opener_in k b) (cond (ltb depth open_limit) (gave opening (at + 1) begins (cond two second_push push)) (failed at m too_deep at))
    (cond (digit_in k b) (scan_number at m (cond two (second false) same) (number_by k bytes at b))
    (failed at m wrong_byte at))

abbrev pub scan_space : List Kind → List ℕ → ℕ → Context → Option ℕ → ScannedToken
scan_space k bytes at m none = waited at m
scan_space k bytes at m (some b) = cond (digit_in k b) (scan_number at m (second false) (number_by k bytes (at + 1) b)) (failed at m wrong_byte (at + 1))

abbrev pub scan_colon : List Kind → List ℕ → ℕ → Context → Option ℕ → ScannedToken
scan_colon k bytes at m none = waited at m
scan_colon k bytes at m (some b) = cond (digit_in k b) (scan_storing at m (number_by k bytes (at + 1) b)) (failed at m wrong_byte (at + 1))

-- d: the node that has ended ends in a digit
abbrev pub scan_inner : List Kind → List ℕ → ℕ → Context → ℕ → Bool → ℕ → ScannedToken
scan_inner k bytes at m depth d b =
    cond (tilde_in k b) (gave turn (at + 1) begins (second true))
    (cond (closer_in k b) (gave closing (at + 1) after_one pop)
    (cond (d && blank_in k b) (scan_space k bytes at m (get_elem? bytes (at + 1)))
    (cond (d && digit_in k b) (failed at m wrong_byte at)
    (scan_node k bytes at m depth true b))))

abbrev pub scan_end : List Kind → List ℕ → ℕ → Context → Top → ℕ → Bool → ℕ → ScannedToken
scan_end k bytes at m empty depth d b = cond (dot_in k b) (gave end (at + 1) over same) (failed at m wrong_byte at)
scan_end k bytes at m inner depth d b = scan_inner k bytes at m depth d b
scan_end k bytes at m outer depth d b = cond (closer_in k b) (gave closing (at + 1) after_two pop) (failed at m wrong_byte at)

-- a byte that is not allowed at the place
abbrev pub wrong_at : ℕ → Context → ScannedToken
wrong_at at m = failed at m wrong_byte at

-- where a node begins that is no second child: after the size it may stand behind a `~`
abbrev pub scan_lead : List Kind → List ℕ → ℕ → Context → ℕ → ℕ → ScannedToken
scan_lead k bytes at m depth b = cond (is_lead m && tilde_in k b) (gave turn (at + 1) begins same) (scan_node k bytes at m depth false b)

-- where a node has ended: one of two children may be stored
abbrev pub scan_ended : List Kind → List ℕ → ℕ → Context → Top → ℕ → Bool → ℕ → ScannedToken
scan_ended k bytes at m top depth d b = cond (is_two m && colon_in k b) (scan_colon k bytes at m (get_elem? bytes (at + 1)))
    (scan_end k bytes at m top depth d b)

abbrev pub scan_token_by : List Kind → List ℕ → ℕ → Context → Top → ℕ → ℕ → ScannedToken
scan_token_by k bytes at start top depth b = cond (digit_in k b) (scan_size k bytes at start (number_by k bytes at b)) (failed at start wrong_byte at)
scan_token_by k bytes at lead top depth b = cond (tilde_in k b) (gave turn (at + 1) begins same) (scan_node k bytes at lead depth false b)
scan_token_by k bytes at begins top depth b = scan_node k bytes at begins depth false b
scan_token_by k bytes at after_digit top depth b = scan_end k bytes at after_digit top depth true b
scan_token_by k bytes at after_two top depth b = cond (colon_in k b) (scan_colon k bytes at after_two (get_elem? bytes (at + 1)))
    (scan_end k bytes at after_two top depth false b)
scan_token_by k bytes at after_one top depth b = scan_end k bytes at after_one top depth false b
scan_token_by k bytes at over top depth b = failed at over wrong_byte at

abbrev pub scan_token_on : List Kind → List ℕ → ℕ → Context → Top → ℕ → Option ℕ → ScannedToken
scan_token_on k bytes at m top depth none = waited at m
scan_token_on k bytes at m top depth (some b) = scan_token_by k bytes at m top depth b

unfoldable pub scan_token : List Kind → List ℕ → ℕ → Context → Top → ℕ → ScannedToken
scan_token k bytes at m top depth = scan_token_on k bytes at m top depth (get_elem? bytes at)

-- ---- It is the step --------------------------------------------------------------------------

module _ (p : Place) where
  -- a step and a scan go the same way
  abbrev Same : Step → ScannedToken → Type 0
  Same x g = x ≡ applied p g

  same_cond : (t : Bool) (x y : Step) (g h : ScannedToken) → Same x g → Same y h → Same (cond t x y) (cond t g h)
  same_cond true x y g h a b = a
  same_cond false x y g h a b = b

  -- by a test of the step and one of the scan that are the same
  same_test : (s t : Bool) (x y : Step) (g h : ScannedToken) → t ≡ s → Same x g → Same y h → Same (cond s x y) (cond t g h)
  same_test s t x y g h e a b = subst (λ (u : Bool). Same (cond s x y) (cond u g h)) (sym e) (same_cond s x y g h a b)

  same-digit : (b : ℕ) (x y : Step) (g h : ScannedToken) → Same x g → Same y h → Same (cond (is_digit b) x y) (cond (digit_in kind_table b) g h)
  same-digit b x y g h = same_test (is_digit b) (digit_in kind_table b) x y g h (digit-in b)

same_number_lem : (at : ℕ) (m : Context) (o : List Open) (r : Ref) (c : Change) (q : List Open) → q ≡ changed c r o → (x y : Scan) → y ≡ x
    → Same (place at m o r) (number_read (place at m o r) q x) (scan_number at m c y)
same_number_lem at m o r c q e x y f = subst (λ (z : Scan). Same (place at m o r) (number_read (place at m o r) q x) (scan_number at m c z)) (sym f) (go x)
  where
    go : (x : Scan) → Same (place at m o r) (number_read (place at m o r) q x) (scan_number at m c x)
    go (read v i) = ap (λ (u : List Open). gives (cond (eqb v 0) constant (number v)) (place i after_digit u r)) e
    go unread = refl

same-node : (bytes : List ℕ) (at : ℕ) (m : Context) (o : List Open) (r : Ref) (two : Bool) (q : List Open) (b : ℕ) → q
    ≡ changed (cond two (second false) same) r o → in_first ∷ q ≡ changed (cond two second_push push) r o → length q ≡ length o
    → Same (place at m o r) (node_begins bytes (place at m o r) q b) (scan_node kind_table bytes at m (length o) two b)
same-node bytes at m o r two q b e f l =
    let p = place at m o r in
    same_test p (eqb b opener) (opener_in kind_table b) _ _ _ _ (opener-in b)
    (subst (λ (k : ℕ). Same p (cond (ltb (length q) open_limit) (gives opening (moved p (at + 1) begins (in_first ∷ q))) (fails p too_deep at))
    (cond (ltb k open_limit) (gave opening (at + 1) begins (cond two second_push push)) (failed at m too_deep at))) l
    (same_cond p (ltb (length q) open_limit) _ _ _ _ (ap (λ (u : List Open). gives opening (place (at + 1) begins u r)) f) refl))
    (same-digit p b _ _ _ _ (same_number_lem at m o r (cond two (second false) same) q e (number_at bytes at b) (number_by kind_table bytes at b)
    (number_by_lem bytes at b)) refl)

same-space : (bytes : List ℕ) (at : ℕ) (m : Context) (o : List Open) (r : Ref) (x : Option ℕ)
    → Same (place at m (in_first ∷ o) r) (after_space bytes (place at m (in_first ∷ o) r) (in_second r false ∷ o) x) (scan_space kind_table bytes at m x)
same-space bytes at m o r none = refl
same-space bytes at m o r (some b) = same-digit (place at m (in_first ∷ o) r) b _ _ _ _
    (same_number_lem at m (in_first ∷ o) r (second false) (in_second r false ∷ o) refl (number_at bytes (at + 1) b) (number_by kind_table bytes (at + 1) b)
    (number_by_lem bytes (at + 1) b)) refl

same-colon : (bytes : List ℕ) (at : ℕ) (m : Context) (o : List Open) (r : Ref) (x : Option ℕ)
    → Same (place at m o r) (after_colon bytes (place at m o r) x) (scan_colon kind_table bytes at m x)
same-colon bytes at m o r none = refl
same-colon bytes at m o r (some b) = same-digit (place at m o r) b _ _ _ _
    (subst (λ (x : Scan). Same (place at m o r) (storing_read (place at m o r) (number_at bytes (at + 1) b)) (scan_storing at m x))
    (sym (number_by_lem bytes (at + 1) b)) (go (number_at bytes (at + 1) b))) refl
  where
    go : (x : Scan) → Same (place at m o r) (storing_read (place at m o r) x) (scan_storing at m x)
    go (read v i) = refl
    go unread = refl

same_ended : (bytes : List ℕ) (at : ℕ) (m : Context) (o : List Open) (r : Ref) (d : Bool) (b : ℕ)
    → Same (place at m o r) (node_ended bytes (place at m o r) d b o) (scan_end kind_table bytes at m (top_of o) (length o) d b)
same_ended bytes at m [] r d b = same_test (place at m [] r) (eqb b dot) (dot_in kind_table b) _ _ _ _ (dot-in b) refl refl
same_ended bytes at m (in_first ∷ o) r d b =
    let p = place at m (in_first ∷ o) r in
    same_test p (eqb b tilde) (tilde_in kind_table b) _ _ _ _ (tilde-in b) refl
    (same_test p (eqb b closer) (closer_in kind_table b) _ _ _ _ (closer-in b) refl
    (same_test p (d && eqb b blank) (d && blank_in kind_table b) _ _ _ _ (ap (λ (u : Bool). d && u) (blank-in b))
    (same-space bytes at m o r (get_elem? bytes (at + 1)))
    (same_test p (d && is_digit b) (d && digit_in kind_table b) _ _ _ _ (ap (λ (u : Bool). d && u) (digit-in b)) refl
    (same-node bytes at m (in_first ∷ o) r true (in_second r false ∷ o) b refl refl refl))))
same_ended bytes at m (in_second a t ∷ o) r d b = same_test (place at m (in_second a t ∷ o) r) (eqb b closer) (closer_in kind_table b) _ _ _ _
    (closer-in b) refl refl

same_size : (bytes : List ℕ) (at : ℕ) (m : Context) (o : List Open) (r : Ref) (x : Scan)
    → Same (place at m o r) (size_read bytes (place at m o r) x) (scan_size kind_table bytes at m x)
same_size bytes at m o r (read v e) = go (get_elem? bytes e)
  where
    go : (x : Option ℕ) → Same (place at m o r) (size_ends (place at m o r) v e x) (size_line kind_table at m v e x)
    go none = refl
    go (some b) = same_test (place at m o r) (eqb b line_feed) (line_feed_in kind_table b) _ _ _ _ (line-feed-in b) refl refl
same_size bytes at m o r unread = refl

same_by : (bytes : List ℕ) (at : ℕ) (m : Context) (o : List Open) (r : Ref) (b : ℕ)
    → Same (place at m o r) (step_by bytes (place at m o r) b m) (scan_token_by kind_table bytes at m (top_of o) (length o) b)
same_by bytes at start o r b = same-digit (place at start o r) b _ _ _ _
    (subst (λ (x : Scan). Same (place at start o r) (size_read bytes (place at start o r) (number_at bytes at b)) (scan_size kind_table bytes at start x))
    (sym (number_by_lem bytes at b)) (same_size bytes at start o r (number_at bytes at b))) refl
same_by bytes at lead o r b = same_test (place at lead o r) (eqb b tilde) (tilde_in kind_table b) _ _ _ _ (tilde-in b) refl
    (same-node bytes at lead o r false o b refl refl refl)
same_by bytes at begins o r b = same-node bytes at begins o r false o b refl refl refl
same_by bytes at after_digit o r b = same_ended bytes at after_digit o r true b
same_by bytes at after_two o r b = same_test (place at after_two o r) (eqb b colon) (colon_in kind_table b) _ _ _ _ (colon-in b)
    (same-colon bytes at after_two o r (get_elem? bytes (at + 1))) (same_ended bytes at after_two o r false b)
same_by bytes at after_one o r b = same_ended bytes at after_one o r false b
same_by bytes at over o r b = refl

-- THE GLANCE IS THE STEP, with the table of kinds
pub step-scan : (p : Place) (bytes : List ℕ) → step p bytes ≡ applied p
    (scan_token kind_table bytes p.at p.context (top_of p.opens) (length p.opens))
unfolding step scan_token
step-scan p bytes = go (get_elem? bytes p.at)
  where
    go : (x : Option ℕ) → step_on bytes p x ≡ applied p (scan_token_on kind_table bytes p.at p.context (top_of p.opens) (length p.opens) x)
    go none = refl
    go (some b) = same_by bytes p.at p.context p.opens p.last b
