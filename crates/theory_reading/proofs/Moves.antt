-- EVERY STEP IS A MOVE: all that one step of a reading and its drawing can do, with what is known then. Later proofs go by these cases.
-- Assumes nothing.
use Rattle.std.specs.Prelude.{◌≡◌, Bool, cond, ◌&&◌, ◌||◌, ℕ, suc, ◌+◌, ◌<◌, ◌≤◌, ltb, length, get_or, set, replicate}
use Rattle.std.proofs.Math.Path.{refl}
use Rattle.std.proofs.Common.{sym, ◌∙◌, subst, ⊎_elim, true≢false, ltb-false, eqb-true}
use Rattle.std.proofs.Math.Bool.{true, false}
use mathlib.Core.List.{List, [], ◌∷◌}
use Rattle.std.proofs.Math.Option.{Option, none, some}
use Rattle.std.proofs.Math.Dec.{eqb}
use Rattle.std.proofs.Math.ListN.{get_elem?}
use Rattle.std.proofs.lemmas.Bool.{eqb-false}
use Rattle.theory_lists.specs.Lists.{or_l, or_r, decide-le}
use Rattle.theory_lists.specs.Lookups.{lookup-inside}
use Rattle.theory_reading.specs.Limits.{open_limit, table_limit}
use Rattle.theory_reading.specs.Bytes.{opener, closer, tilde, colon, dot, blank, line_feed, is_digit}
use Rattle.theory_reading.specs.Nodes.{Ref, terminal, entry, temporary, is_kept, no_node, node, stamp, bars}
use Rattle.theory_reading.specs.Causes.{Cause, wrong_byte, declared_size, too_deep, not_in_table, other_level, not_storable, bad_number}
use Rattle.theory_reading.specs.Element.{Element, opening, number, constant, closing, storing, Open, in_first, in_second, Context, start, lead}
use Rattle.theory_reading.specs.Element.{begins, after_digit, after_two, after_one, over, Place, place, moved, Scan, read, unread, number_at}
use Rattle.theory_reading.specs.Element.{Outcome, got, Step, gives, fails as stops, waits, size_ends, size_read, number_read, storing_read}
use Rattle.theory_reading.specs.Element.{node_begins, after_space, after_colon, node_ended, step_by, step}
use Rattle.theory_reading.specs.Reading.{children, State, state, Reading, goes, fails, level, words_at, ending, passed, is_start, turned, is_bad}
use Rattle.theory_reading.specs.Reading.{stored, with_element, is_two, barred_colon, first_digit, after, advance}
use Rattle.theory_reading.specs.Deciding.{missing, leaf, branch, Drawing, drawing, top, below, draw, draw_unless, ended, Trace}
use Rattle.theory_reading.specs.Prefix.{byte_at}
use Rattle.theory_reading.proofs.Prefix.{chosen, advance-chosen, trace-past}

-- Where a node may begin, and the open nodes then: as the outermost or after a `(` or `~`; or as a second child with no `~`.
pub data Begins (s : State) : List Open → Type 0 where
  anew : ended s.place.context ≡ false → Begins s s.place.opens
  second : ended s.place.context ≡ true → (o : List Open) → s.place.opens ≡ in_first ∷ o → Begins s (in_second s.place.last false ∷ o)

-- s at another place
abbrev pub placed : State → Place → State
placed s q = state q s.size s.covered s.complement s.table s.pair

-- s is read and drawn as d. a: the place after the move
pub data Move (n : ℕ) (s : State) (d : Drawing) : Reading → Drawing → Type 0 where
  rests : Move n s d (goes s) d
  refuses : (c : Cause) (b : ℕ) → Move n s d (fails s c b) d
  sizes : (a v : ℕ) → s.place.context ≡ start → v ≤ table_limit
      → Move n s d (goes (state (moved s.place a lead s.place.opens) v s.covered s.complement (replicate (suc v) no_node) s.pair))
      (drawing (replicate (suc v) missing) d.stack)
  leads : (a : ℕ) → s.place.context ≡ lead → Move n s d (goes (turned s (moved s.place a begins s.place.opens))) d
  opens : (a : ℕ) (o : List Open) → Begins s o → level s.place ≤ n → Move n s d (goes (placed s (moved s.place a begins (in_first ∷ o)))) d
  constants : (a : ℕ) (o : List Open) → Begins s o → Move n s d (goes (passed n s (moved s.place a after_digit o) terminal))
      (drawing d.rows (leaf ∷ d.stack))
  numbers : (a v : ℕ) (o : List Open) → Begins s o → (v ≡ 0 → ⊥) → ((node s.table v).level ≡ 0 → ⊥) → (node s.table v).level ≡ level s.place
      → Move n s d (goes (passed n s (moved s.place a after_digit o) (entry v (stamp s.table v))))
      (drawing d.rows (get_or d.rows v missing ∷ d.stack))
  turns : (a : ℕ) (o : List Open) → ended s.place.context ≡ true → s.place.opens ≡ in_first ∷ o
      → Move n s d (goes (turned s (moved s.place a begins (in_second s.place.last true ∷ o)))) d
  closes_one : (a : ℕ) (o : List Open) → ended s.place.context ≡ true → s.place.opens ≡ in_first ∷ o → is_kept s.place.last ≡ true
      → Move n s d (goes (state (moved s.place a after_one o) s.size (s.covered + words_at n s.place) s.complement s.table s.pair))
      (drawing d.rows (branch (top d.stack) false (top d.stack) ∷ below d.stack))
  closes_two : (a : ℕ) (r : Ref) (t : Bool) (o : List Open) → ended s.place.context ≡ true → s.place.opens ≡ in_second r t ∷ o
      → Move n s d (goes (state (ending temporary (moved s.place a after_two o)) s.size s.covered s.complement s.table
      (children r t s.place.last))) (drawing d.rows (branch (top (below d.stack)) t (top d.stack) ∷ below (below d.stack)))
  stores : (a k : ℕ) → s.place.context ≡ after_two → bars s.table s.pair.first ≡ false → bars s.table s.pair.second ≡ false → is_bad s k
      ≡ false
      → Move n s d (goes (stored s (moved s.place a after_digit s.place.opens) k)) (drawing (set d.rows k (top d.stack)) d.stack)
  ends : (a : ℕ) → ended s.place.context ≡ true → s.place.opens ≡ [] → Move n s d (goes (placed s (moved s.place a over []))) d

-- s with another context and other open nodes
abbrev standing : Context → List Open → State → State
standing m u s = placed s (place s.place.at m u s.place.last)

-- i: the place of a first digit
module _ (n i : ℕ) (bytes : List ℕ) (d : Drawing) where
  -- what a step of the place brings is a move
  abbrev Moves : State → Step → Type 0
  Moves s x = Move n s d (after n s i x.outcome x.place) (draw_unless (after n s i x.outcome x.place).fault s x.outcome d)

  step-cond : (s : State) (t : Bool) (x y : Step) → (t ≡ true → Moves s x) → (t ≡ false → Moves s y) → Moves s (cond t x y)
  step-cond s true x y h k = h refl
  step-cond s false x y h k = k refl

  -- likewise where the element is known
  abbrev Makes : State → Element → Reading → Type 0
  Makes s e r = Move n s d r (draw_unless r.fault s (got e) d)

  read-cond : (s : State) (e : Element) (t : Bool) (x y : Reading) → (t ≡ true → Makes s e x) → (t ≡ false → Makes s e y) → Makes s e (cond t x y)
  read-cond s e true x y h k = h refl
  read-cond s e false x y h k = k refl

  on-stop : (s : State) (c : Cause) (b : ℕ) → Moves s (stops s.place c b)
  unfolding after
  on-stop s c b = refuses c b

  on-wait : (s : State) → Moves s (waits s.place)
  unfolding after
  on-wait s = rests

  on-number : (s : State) (o : List Open) → is_start s.place.context ≡ false → Begins s o → (x : Scan) → Moves s (number_read s.place o x)
  unfolding after with_element draw
  on-number s o e h (read v a) = go (eqb v 0) refl
    where
      go : (t : Bool) → eqb v 0 ≡ t → Moves s (gives (cond t constant (number v)) (moved s.place a after_digit o))
      go true z = constants a o h
      go false z =
          read-cond s (number v) (is_start s.place.context) _ _ (λ j. absurd (true≢false (sym j ∙ e)))
          (λ _. read-cond s (number v) (eqb (node s.table v).level 0) _ _ (λ j. refuses not_in_table i)
          (λ j. read-cond s (number v) (eqb (node s.table v).level (level s.place)) _ _
          (λ k. rw e (numbers a v o h (eqb-false _ _ z) (eqb-false _ _ j) (eqb-true _ _ k))) (λ k. refuses other_level i)))
  on-number s o e h unread = rests

  on-node : (s : State) (o : List Open) (b : ℕ) → is_start s.place.context ≡ false → Begins s o → Moves s (node_begins bytes s.place o b)
  unfolding after with_element draw
  on-node s o b e h =
      step-cond s (eqb b opener) _ _
      (λ _. step-cond s (ltb (length o) open_limit) _ _
      (λ _. read-cond s opening (ltb n (level s.place)) _ _ (λ _. refuses too_deep s.place.at)
      (λ j. opens (s.place.at + 1) o h (ltb-false _ _ j)))
      (λ _. on-stop s too_deep s.place.at))
      (λ _. step-cond s (is_digit b) _ _ (λ _. on-number s o e h (number_at bytes s.place.at b)) (λ _. on-stop s wrong_byte s.place.at))

  on-space : (s : State) (o : List Open) → is_start s.place.context ≡ false → Begins s o → (x : Option ℕ)
      → Moves s (after_space bytes s.place o x)
  on-space s o e h none = on-wait s
  on-space s o e h (some b) = step-cond s (is_digit b) _ _ (λ _. on-number s o e h (number_at bytes (s.place.at + 1) b))
      (λ _. on-stop s wrong_byte (s.place.at + 1))

  on-ended : (m : Context) (u : List Open) (s : State) → ended m ≡ true → is_start m ≡ false → (c : Bool) (b : ℕ)
      → Moves (standing m u s) (node_ended bytes (standing m u s).place c b u)
  unfolding after with_element draw
  on-ended m [] s e f c b = step-cond (standing m [] s) (eqb b dot) _ _ (λ _. ends (s.place.at + 1) e refl)
      (λ _. on-stop (standing m [] s) wrong_byte s.place.at)
  on-ended m (in_first ∷ u) s e f c b =
      let r = standing m (in_first ∷ u) s in
      let o = in_second s.place.last false ∷ u in
      step-cond r (eqb b tilde) _ _ (λ _. turns (s.place.at + 1) u e refl)
      (λ _. step-cond r (eqb b closer) _ _
      (λ _. read-cond r closing (is_kept s.place.last) _ _ (λ j. closes_one (s.place.at + 1) u e refl j)
      (λ _. refuses not_storable s.place.at))
      (λ _. step-cond r (c && eqb b blank) _ _ (λ _. on-space r o f (second e u refl) (get_elem? bytes (s.place.at + 1)))
      (λ _. step-cond r (c && is_digit b) _ _ (λ _. on-stop r wrong_byte s.place.at)
      (λ _. on-node r o b f (second e u refl)))))
  on-ended m (in_second a t ∷ u) s e f c b = step-cond (standing m (in_second a t ∷ u) s) (eqb b closer) _ _
      (λ _. closes_two (s.place.at + 1) a t u e refl) (λ _. on-stop (standing m (in_second a t ∷ u) s) wrong_byte s.place.at)

  on-size : (u : List Open) (s : State) (x : Scan) → Moves (standing start u s) (size_read bytes (standing start u s).place x)
  unfolding after with_element draw
  on-size u s (read v a) = go (get_elem? bytes a)
    where
      r : State
      r = standing start u s

      go : (x : Option ℕ) → Moves (standing start u s) (size_ends (standing start u s).place v a x)
      go none = rests
      go (some b) = step-cond r (eqb b line_feed) _ _
          (λ _. read-cond r (number v) (ltb table_limit v) _ _ (λ _. refuses declared_size i) (λ j. sizes (a + 1) v refl (ltb-false _ _ j)))
          (λ _. on-stop r wrong_byte a)
  on-size u s unread = rests

  on-colon : (u : List Open) (s : State) → bars s.table s.pair.first ≡ false → bars s.table s.pair.second ≡ false → (x : Option ℕ)
      → Moves (standing after_two u s) (after_colon bytes (standing after_two u s).place x)
  unfolding after with_element draw
  on-colon u s h k none = rests
  on-colon u s h k (some b) = step-cond (standing after_two u s) (is_digit b) _ _ (λ _. go (number_at bytes (s.place.at + 1) b))
      (λ _. on-stop (standing after_two u s) wrong_byte (s.place.at + 1))
    where
      go : (x : Scan) → Moves (standing after_two u s) (storing_read (standing after_two u s).place x)
      go (read v a) = read-cond (standing after_two u s) (storing v) (is_bad (standing after_two u s) v) _ _ (λ _. refuses bad_number (s.place.at + 1))
          (λ j. stores a v refl h k j)
      go unread = rests

  on_step : (m : Context) (u : List Open) (s : State) (b : ℕ) → (is_two m ≡ true → eqb b colon ≡ true → (bars s.table s.pair.first ≡ false)
      × (bars s.table s.pair.second ≡ false)) → Moves (standing m u s) (step_by bytes (standing m u s).place b m)
  unfolding after with_element draw
  on_step start u s b h = step-cond (standing start u s) (is_digit b) _ _ (λ _. on-size u s (number_at bytes s.place.at b))
      (λ _. on-stop (standing start u s) wrong_byte s.place.at)
  on_step lead u s b h = step-cond (standing lead u s) (eqb b tilde) _ _ (λ _. leads (s.place.at + 1) refl)
      (λ _. on-node (standing lead u s) u b refl (anew refl))
  on_step begins u s b h = on-node (standing begins u s) u b refl (anew refl)
  on_step after_digit u s b h = on-ended after_digit u s refl refl true b
  on_step after_two u s b h = step-cond (standing after_two u s) (eqb b colon) _ _
      (λ j. on-colon u s (h refl j).0 (h refl j).1 (get_elem? bytes (s.place.at + 1))) (λ _. on-ended after_two u s refl refl false b)
  on_step after_one u s b h = on-ended after_one u s refl refl false b
  on_step over u s b h = on-stop (standing over u s) wrong_byte s.place.at

-- where nothing bars the storing at a `:`
not-barred : (m c x y : Bool) → ((m && c) && (x || y)) ≡ false → m ≡ true → c ≡ true → (x ≡ false) × (y ≡ false)
not-barred m c x y e p q =
    let k : (x || y) ≡ false = rw (p, q) at e in
    (or_l x y k, or_r x y k)

-- a reading and what is drawn with it
abbrev Drawn : ℕ → State → Drawing → Outcome → Reading → Type 0
Drawn n s d o r = Move n s d r (draw_unless r.fault s o d)

by-step : (n : ℕ) (bytes : List ℕ) (s : State) (d : Drawing) (b : ℕ) → get_elem? bytes s.place.at ≡ some b → (t : Bool) → barred_colon s b ≡ t
    → Drawn n s d (step s.place bytes).outcome (chosen n s b t (step s.place bytes).outcome (step s.place bytes).place)
unfolding step
by-step n bytes s d b e true k = refuses not_storable s.place.at
by-step n bytes s d b e false k = rw e (on_step n (first_digit s b) bytes d s.place.context s.place.opens s b
    (not-barred (is_two s.place.context) (eqb b colon) _ _ k))

-- EVERY STEP IS A MOVE
pub advance-move : (n : ℕ) (bytes : List ℕ) (s : State) (d : Drawing) → Drawn n s d (step s.place bytes).outcome (advance n bytes s)
advance-move n bytes s d = ⊎_elim past inside (decide-le (length bytes) s.place.at)
  where
    past : length bytes ≤ s.place.at → Drawn n s d (step s.place bytes).outcome (advance n bytes s)
    past h = subst (λ (t : Trace). Move n s d t.reading t.drawing) (sym (trace-past n bytes s d h)) rests

    inside : s.place.at < length bytes → Drawn n s d (step s.place bytes).outcome (advance n bytes s)
    inside h = subst (Drawn n s d (step s.place bytes).outcome) (sym (advance-chosen n bytes s))
        (by-step n bytes s d (byte_at bytes s) (lookup-inside bytes s.place.at 0 h) (barred_colon s (byte_at bytes s)) refl)
