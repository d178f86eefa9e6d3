-- What inputs at edges of their tables show at a block and at its halves, and what an operator makes of it. Assumes nothing.
use Rattle.std.specs.Prelude.{◌≡◌, refl, Bool, true, false, cond, not, ◌&&◌, ◌||◌, ◌⊎◌, List, [], ◌∷◌, ℕ, zero, suc, ◌+◌, ◌-◌, ◌<◌, ◌^◌, eqb, ltb}
use Rattle.std.proofs.Common.{sym, ap, ap₂, ◌∙◌, subst, true≢false, inl, inr, ⊎_elim, arith, eqb-true, ltb-true, ltb-false}
use Rattle.std.proofs.lemmas.Bool.{eqb-false}
use Rattle.theory_lists.specs.Lists.{differ, and_l, and_r, or_l, or_r, pow_pos}
use Rattle.theory_reading.specs.Nodes.{node}
use Rattle.theory_reading.specs.Deciding.{options, Decision, undecided, decided, complemented}
use Rattle.theory_reading.specs.Words.{options-low, options-high, complemented-twice}
use Rattle.theory_reading.specs.TableWalk.{table_walk}
use Rattle.theory_reading.proofs.TableWalk.{table_walk-zero, table_walk-skip, table_walk-go}
use Rattle.theory_applying.specs.Applying.{Source, passes, first_source, second_source, first_sources, second_sources, first_values, all_pass, fixed}

-- ---- What an input shows ---------------------------------------------------------------------

-- what it decides under the options from level i on
abbrev pub source_walk : Source → ℕ → List Bool → Decision
source_walk x i os = complemented x.complement (table_walk x.table i x.number os)

-- the input shows, at a block of level i with m options, the decisions g
abbrev pub Shows : Source → ℕ → ℕ → (ℕ → Bool) → Type 0
Shows x m i g = (w : ℕ) → w < 2 ^ m → source_walk x i (options m w) ≡ decided (g w)

-- a decision is one
decided-same : (a b : Bool) → decided a ≡ decided b → a ≡ b
decided-same a b e = cc

-- the constant decides no, turned about or not
pub constant-walk : (x : Source) (i : ℕ) (os : List Bool) → x.number ≡ 0 → source_walk x i os ≡ decided x.complement
constant-walk x i os z =
    ap (λ (c : ℕ). complemented x.complement (table_walk x.table i c os)) z
    ∙ ap (complemented x.complement) (table_walk-zero x.table i os) ∙ no x.complement
  where
    no : (b : Bool) → complemented b (decided false) ≡ decided b
    no true = refl
    no false = refl

module _ (i : ℕ) (x : Source) where
  -- inside brackets, and at the constant, the option is passed over
  passed : (o : Bool) (os : List Bool) → passes i x ≡ true → source_walk x i (o ∷ os) ≡ source_walk x (i + 1) os
  passed o os e = go (eqb x.number 0) (ltb i (node x.table x.number).level) refl refl e
    where
      go : (z l : Bool) → eqb x.number 0 ≡ z → ltb i (node x.table x.number).level ≡ l → (z || l) ≡ true
          → source_walk x i (o ∷ os) ≡ source_walk x (i + 1) os
      go true l z h e =
          let c = eqb-true x.number 0 z in constant-walk x i (o ∷ os) c ∙ sym (constant-walk x (i + 1) os c)
      go false true z h e =
          ap (complemented x.complement)
          (table_walk-skip x.table i x.number o os (eqb-false x.number 0 z)
          (ltb-true i (node x.table x.number).level h))
      go false false z h e = absurd (true≢false (sym e))

  -- else it picks the child
  picked : (o : Bool) (os : List Bool) → passes i x ≡ false → table_walk x.table i x.number (o ∷ os)
      ≡ cond o (complemented (node x.table x.number).complement
      (table_walk x.table (i + 1) (node x.table x.number).second os))
      (table_walk x.table (i + 1) (node x.table x.number).first os)
  picked o os e =
      table_walk-go x.table i x.number o os (eqb-false x.number 0 (or_l (eqb x.number 0) _ e))
      (ltb-false i (node x.table x.number).level (or_r (eqb x.number 0) _ e))

  -- at no it goes on in the first half
  source_first : (os : List Bool) → source_walk x i (false ∷ os) ≡ source_walk (first_source i x) (i + 1) os
  source_first os = go (passes i x) refl
    where
      y : Source
      y = record { table = x.table; number = (node x.table x.number).first; complement = x.complement }

      go : (u : Bool) → passes i x ≡ u → source_walk x i (false ∷ os) ≡ source_walk (cond u x y) (i + 1) os
      go true e = passed false os e
      go false e = ap (complemented x.complement) (picked false os e)

  -- at yes in the second
  source-second : (os : List Bool) → source_walk x i (true ∷ os) ≡ source_walk (second_source i x) (i + 1) os
  source-second os = go (passes i x) refl
    where
      c : Bool
      c = (node x.table x.number).complement

      y : Source
      y = record { table = x.table; number = (node x.table x.number).second; complement = differ c x.complement }

      go : (u : Bool) → passes i x ≡ u → source_walk x i (true ∷ os) ≡ source_walk (cond u x y) (i + 1) os
      go true e = passed true os e
      go false e =
          ap (complemented x.complement) (picked true os e)
          ∙ complemented-twice x.complement c (table_walk x.table (i + 1) y.number os)

  -- no turn is met at the first half
  first-complement : (first_source i x).complement ≡ x.complement
  first-complement = go (passes i x)
    where
      y : Source
      y = record { table = x.table; number = (node x.table x.number).first; complement = x.complement }

      go : (u : Bool) → (cond u x y).complement ≡ x.complement
      go true = refl
      go false = refl

-- at the first half of a block an input shows what it shows at the first words of the block
pub shows_first : (x : Source) (m i : ℕ) (g : ℕ → Bool) → Shows x (suc m) i g → Shows (first_source i x) m (i + 1) g
shows_first x m i g h w l =
    sym (source_first i x (options m w)) ∙ ap (source_walk x i) (sym (options-low m w l)) ∙ h w (omega (arith, l))

-- at the second half, what it shows at the others
pub shows_second : (x : Source) (m i : ℕ) (g : ℕ → Bool) → Shows x (suc m) i g
    → Shows (second_source i x) m (i + 1) (λ w. g (2 ^ m + w))
shows_second x m i g h w l =
    let e : 2 ^ m + w - 2 ^ m ≡ w = omega arith in
    sym (source-second i x (options m w))
    ∙ ap (λ (k : ℕ). source_walk x i (true ∷ options m k)) (sym e)
    ∙ ap (source_walk x i) (sym (options-high m (2 ^ m + w) (omega arith))) ∙ h (2 ^ m + w) (omega (arith, l))

-- with no option left it is at the constant
shows-none : (x : Source) (i : ℕ) (g : ℕ → Bool) → Shows x 0 i g → x.number ≡ 0
unfolding table_walk options
shows-none x i g h = go (eqb x.number 0) refl (h 0 (omega arith))
  where
    go : (u : Bool) → eqb x.number 0 ≡ u → complemented x.complement (cond u (decided false) undecided) ≡ decided (g 0)
        → x.number ≡ 0
    go true z e = eqb-true x.number 0 z
    go false z e = cc

-- at the constant it shows the same at each word
shows-constant : (x : Source) (m i : ℕ) (g : ℕ → Bool) → x.number ≡ 0 → Shows x m i g → (w : ℕ) → w < 2 ^ m → g w ≡ x.complement
shows-constant x m i g z h w l = decided-same (g w) x.complement (sym (h w l) ∙ constant-walk x i (options m w) z)

-- at the first word it shows whether it is turned about
pub shows-start : (x : Source) (m i : ℕ) (g : ℕ → Bool) → Shows x m i g → g 0 ≡ x.complement
shows-start x zero i g h = shows-constant x 0 i g (shows-none x i g h) h 0 (omega arith)
shows-start x (suc m) i g h = shows-start (first_source i x) m (i + 1) g (shows_first x m i g h) ∙ first-complement i x

-- ---- What all inputs show --------------------------------------------------------------------

-- each input shows its decisions
abbrev pub ShowsAll : List Source → ℕ → ℕ → List (ℕ → Bool) → Type 0
ShowsAll [] m i [] = Unit {0}
ShowsAll [] m i (g ∷ gs) = ⊥
ShowsAll (x ∷ xs) m i [] = ⊥
ShowsAll (x ∷ xs) m i (g ∷ gs) = Shows x m i g × ShowsAll xs m i gs

-- the decisions at word w
abbrev pub decisions_at : List (ℕ → Bool) → ℕ → List Bool
decisions_at [] w = []
decisions_at (g ∷ gs) w = g w ∷ decisions_at gs w

-- what op makes of the decisions, word by word
abbrev pub jointly : (List Bool → Bool) → List (ℕ → Bool) → ℕ → Bool
jointly op gs w = op (decisions_at gs w)

-- the decisions from word k on
abbrev pub decisions_from : ℕ → List (ℕ → Bool) → List (ℕ → Bool)
decisions_from k [] = []
decisions_from k (g ∷ gs) = (λ w. g (k + w)) ∷ decisions_from k gs

-- at word w from word k on
pub from_at : (k : ℕ) (gs : List (ℕ → Bool)) (w : ℕ) → decisions_at gs (k + w) ≡ decisions_at (decisions_from k gs) w
from_at k [] w = refl
from_at k (g ∷ gs) w = ap (λ (l : List Bool). g (k + w) ∷ l) (from_at k gs w)

-- what they show at the first half
pub all_first : (xs : List Source) (m i : ℕ) (gs : List (ℕ → Bool)) → ShowsAll xs (suc m) i gs
    → ShowsAll (first_sources i xs) m (i + 1) gs
all_first [] m i [] h = tt
all_first [] m i (g ∷ gs) h = h
all_first (x ∷ xs) m i [] h = h
all_first (x ∷ xs) m i (g ∷ gs) h = (shows_first x m i g h.0, all_first xs m i gs h.1)

-- at the second half
pub all-second : (xs : List Source) (m i : ℕ) (gs : List (ℕ → Bool)) → ShowsAll xs (suc m) i gs
    → ShowsAll (second_sources i xs) m (i + 1) (decisions_from (2 ^ m) gs)
all-second [] m i [] h = tt
all-second [] m i (g ∷ gs) h = h
all-second (x ∷ xs) m i [] h = h
all-second (x ∷ xs) m i (g ∷ gs) h = (shows_second x m i g h.0, all-second xs m i gs h.1)

-- at the first word
all_start : (xs : List Source) (m i : ℕ) (gs : List (ℕ → Bool)) → ShowsAll xs m i gs → decisions_at gs 0 ≡ first_values xs
all_start [] m i [] h = refl
all_start [] m i (g ∷ gs) h = absurd h
all_start (x ∷ xs) m i [] h = absurd h
all_start (x ∷ xs) m i (g ∷ gs) h = ap₂ ◌∷◌ (shows-start x m i g h.0) (all_start xs m i gs h.1)

-- ---- A level that all pass over --------------------------------------------------------------

-- they stay as they are at both halves
pub pass-first : (i : ℕ) (xs : List Source) → all_pass i xs ≡ true → first_sources i xs ≡ xs
pass-first i [] e = refl
pass-first i (x ∷ xs) e =
    ap₂ ◌∷◌ (ap (λ (b : Bool). cond b x (record { table = x.table; number = (node x.table x.number).first; complement = x.complement }))
    (and_l (passes i x) (all_pass i xs) e)) (pass-first i xs (and_r (passes i x) (all_pass i xs) e))

pub pass-second : (i : ℕ) (xs : List Source) → all_pass i xs ≡ true → second_sources i xs ≡ xs
pass-second i [] e = refl
pass-second i (x ∷ xs) e =
    ap₂ ◌∷◌ (ap (λ (b : Bool). cond b x (record {
      table = x.table;
      number = (node x.table x.number).second;
      complement = differ (node x.table x.number).complement x.complement;
    })) (and_l (passes i x) (all_pass i xs) e)) (pass-second i xs (and_r (passes i x) (all_pass i xs) e))

-- nothing differs from itself
pub differ_same : (b : Bool) → differ b b ≡ false
differ_same true = refl
differ_same false = refl

-- inputs decide what they show
pub shows-once : (xs : List Source) (m i : ℕ) (gs hs : List (ℕ → Bool)) → ShowsAll xs m i gs → ShowsAll xs m i hs
    → (w : ℕ) → w < 2 ^ m → decisions_at gs w ≡ decisions_at hs w
shows-once [] m i [] [] h k w l = refl
shows-once [] m i [] (b ∷ hs) h k w l = absurd k
shows-once [] m i (a ∷ gs) hs h k w l = absurd h
shows-once (x ∷ xs) m i [] hs h k w l = absurd h
shows-once (x ∷ xs) m i (a ∷ gs) [] h k w l = absurd k
shows-once (x ∷ xs) m i (a ∷ gs) (b ∷ hs) h k w l =
    ap₂ ◌∷◌ (decided-same (a w) (b w) (sym (h.0 w l) ∙ k.0 w l)) (shows-once xs m i gs hs h.1 k.1 w l)

-- so the words of the second half are those of the first
pub pass-alike : (op : List Bool → Bool) (d i at : ℕ) (xs : List Source) (gs : List (ℕ → Bool)) (f : ℕ → Bool) → all_pass i xs ≡ true
    → ShowsAll xs (suc d) i gs → ((w : ℕ) → w < 2 ^ suc d → f (at + w) ≡ op (decisions_at gs w))
    → (j : ℕ) → j < 2 ^ d → f (at + 2 ^ d + j) ≡ f (at + j)
pass-alike op d i at xs gs f e sh mk j l =
    let z : at + 2 ^ d + j ≡ at + (2 ^ d + j) = omega arith in
    ap f z ∙ mk (2 ^ d + j) (omega (arith, l)) ∙ ap op (from_at (2 ^ d) gs j
    ∙ shows-once xs d (i + 1) (decisions_from (2 ^ d) gs) gs
    (subst (λ (ys : List Source). ShowsAll ys d (i + 1) (decisions_from (2 ^ d) gs)) (pass-second i xs e) (all-second xs d i gs sh))
    (subst (λ (ys : List Source). ShowsAll ys d (i + 1) gs) (pass-first i xs e) (all_first xs d i gs sh)) j l)
    ∙ sym (mk j (omega (arith, l)))

-- ---- What the constants fix ------------------------------------------------------------------

-- both decisions are alike
same-both : (a b : Bool) → not (differ a b) ≡ true → a ≡ b
same-both true true e = refl
same-both true false e = absurd (true≢false (sym e))
same-both false true e = absurd (true≢false (sym e))
same-both false false e = refl

-- a decision is one or the other
one_of : (d v : Bool) → (d ≡ v) ⊎ (d ≡ not v)
one_of true true = inl refl
one_of true false = inr refl
one_of false true = inr refl
one_of false false = inl refl

-- not both
not_same : (v : Bool) → v ≡ not v → ⊥
not_same true e = true≢false e
not_same false e = true≢false (sym e)

-- where the constants fix it, op comes to what it comes to at the first word
pub all-fixed : (op : List Bool → Bool) (xs : List Source) (m i : ℕ) (gs : List (ℕ → Bool)) → fixed op xs ≡ true → ShowsAll xs m i gs
    → (w : ℕ) → w < 2 ^ m → op (decisions_at gs w) ≡ op (first_values xs)
unfolding fixed
all-fixed op [] m i [] e h w l = refl
all-fixed op [] m i (g ∷ gs) e h w l = absurd h
all-fixed op (x ∷ xs) m i [] e h w l = absurd h
all-fixed op (x ∷ xs) m i (g ∷ gs) e h w l =
    let again : (v : Bool) → fixed (λ ds. op (v ∷ ds)) xs ≡ true → op (v ∷ decisions_at gs w) ≡ op (v ∷ first_values xs) =
    λ v k. all-fixed (λ ds. op (v ∷ ds)) xs m i gs k h.1 w l in
    ⊎_elim (plain again) (complement again) (one_of (g w) x.complement)
  where
    -- with the first input's decision v
    with : Bool → List Bool → Bool
    with v ds = op (v ∷ ds)

    -- what is asked of the first input
    rest : Bool
    rest = fixed (with (not x.complement)) xs && not (differ (op (x.complement ∷ first_values xs)) (op (not x.complement ∷ first_values xs)))

    Again : Type 0
    Again = (v : Bool) → fixed (with v) xs ≡ true → op (v ∷ decisions_at gs w) ≡ op (v ∷ first_values xs)

    plain : Again → g w ≡ x.complement → op (g w ∷ decisions_at gs w) ≡ op (x.complement ∷ first_values xs)
    plain again z =
        ap (λ (v : Bool). op (v ∷ decisions_at gs w)) z
        ∙ again x.complement (and_l (fixed (with x.complement) xs) (eqb x.number 0 || rest) e)

    other : (u : Bool) → eqb x.number 0 ≡ u → (u || rest) ≡ true → g w ≡ not x.complement → rest ≡ true
    other true z r o =
        absurd (not_same x.complement (sym (shows-constant x m i g (eqb-true x.number 0 z) h.0 w l) ∙ o))
    other false z r o = r

    complement : Again → g w ≡ not x.complement → op (g w ∷ decisions_at gs w) ≡ op (x.complement ∷ first_values xs)
    complement again z =
        let r = other (eqb x.number 0) refl (and_r (fixed (with x.complement) xs) (eqb x.number 0 || rest) e) z in
        let u = fixed (with (not x.complement)) xs in
        let v = not (differ (op (x.complement ∷ first_values xs)) (op (not x.complement ∷ first_values xs))) in
        ap (λ (v : Bool). op (v ∷ decisions_at gs w)) z
        ∙ again (not x.complement) (and_l u v r)
        ∙ sym (same-both (op (x.complement ∷ first_values xs)) (op (not x.complement ∷ first_values xs)) (and_r u v r))

-- ---- What an operator makes of them ----------------------------------------------------------

-- the words from `at` on, of d options, are what op makes of the decisions
abbrev pub Makes : (List Bool → Bool) → ℕ → ℕ → List (ℕ → Bool) → (ℕ → Bool) → Type 0
Makes op d at gs f = (w : ℕ) → w < 2 ^ d → f (at + w) ≡ op (decisions_at gs w)

-- the first of them, from where the inputs stand
pub first-correct : (op : List Bool → Bool) (d i at : ℕ) (xs : List Source) (gs : List (ℕ → Bool)) (f : ℕ → Bool) → ShowsAll xs d i gs
    → Makes op d at gs f → f at ≡ op (first_values xs)
first-correct op d i at xs gs f sh mk =
    let z : at + 0 ≡ at = omega arith in ap f (sym z) ∙ mk 0 (pow_pos d) ∙ ap op (all_start xs d i gs sh)

-- those of the second half
pub second-correct : (op : List Bool → Bool) (d at : ℕ) (gs : List (ℕ → Bool)) (f : ℕ → Bool) → Makes op (suc d) at gs f
    → Makes op d (at + 2 ^ d) (decisions_from (2 ^ d) gs) f
second-correct op d at gs f mk w l =
    let z : at + 2 ^ d + w ≡ at + (2 ^ d + w) = omega arith in
    ap f z ∙ mk (2 ^ d + w) (omega (arith, l)) ∙ ap op (from_at (2 ^ d) gs w)
