-- AT ONE PLACE THE LOWER RANK COUNTS (document 01, "Turned down": "in a stream the lowest fault place counts, and there the lower number"): when
-- a stream meets each cause at a byte, whatever else is wrong there; and that its fault is met, and none that is met at that byte has a lower
-- rank. Assumes nothing.
use Rattle.std.specs.Prelude.{◌≡◌, ◌≢◌, ◌⊎◌, Bool, true, false, cond, ◌&&◌, ℕ, zero, suc, ◌+◌, ◌<◌, ◌≤◌, min, ltb, eqb, length}
use Rattle.std.proofs.Math.Path.{refl, ap, subst}
use Rattle.std.proofs.Common.{sym, ◌∙◌, inl, inr, true≢false, arith}
use Rattle.std.proofs.Math.Logic.{⊎_elim}
use Rattle.std.proofs.lemmas.Bool.{false≢true}
use mathlib.Core.List.{List, [], ◌∷◌}
use Rattle.std.proofs.Math.Option.{Option, none, some}
use Rattle.std.proofs.Math.ListN.{get_elem?}
use borrow.Author.Tests.{ltb-true, ltb-false, eqb-true, eqb-false}
use Rattle.theory_lists.specs.Lists.{and_l, and_r, decide-le}
use Rattle.theory_lists.specs.Lookups.{lookup-inside}
use Rattle.theory_reading.specs.Limits.{open_limit, table_limit}
use Rattle.theory_reading.specs.Bytes.{opener, closer, tilde, colon, dot, blank, line_feed, is_digit}
use Rattle.theory_reading.specs.Nodes.{is_kept, node}
use Rattle.theory_reading.specs.Causes.{Cause, option_count, operator_code, size_to_write, work_table, word_range, truth_table, cause_row}
use Rattle.theory_reading.specs.Causes.{wrong_byte, declared_size, too_deep, not_in_table, other_level, not_storable, bad_number}
use Rattle.theory_reading.specs.Element.{Element, opening, number, constant, turn, closing, storing, end, Open, in_first, in_second}
use Rattle.theory_reading.specs.Element.{Context, start, lead, begins, after_digit, after_two, after_one, over, Place, Scan, read, unread}
use Rattle.theory_reading.specs.Element.{number_at}
use Rattle.theory_reading.specs.Element.{Outcome, got, fault, ran_out, Step, fails as stops, size_ends, size_read, number_read, storing_read}
use Rattle.theory_reading.specs.Element.{node_begins, after_space, after_colon, node_ended, step_by, step_on, step}
use Rattle.theory_reading.specs.Reading.{State, Fault, Reading, goes, fails, fresh, level, is_start, closed, is_bad, with_element, is_two}
use Rattle.theory_reading.specs.Reading.{barred_colon, first_digit, after, advance, next_by, next, onward, reading}
use Rattle.theory_reading.specs.Deciding.{drawing, Trace}
use Rattle.theory_reading.specs.StepLaws.{digit_place}
use Rattle.theory_reading.proofs.StepLaws.{digit-not-blank}
use Rattle.theory_reading.specs.Prefix.{byte_at}
use Rattle.theory_reading.proofs.Prefix.{chosen, advance-chosen, trace-past}
use Rattle.theory_reading.proofs.Settled.{never-some}
use Rattle.theory_reading.specs.FaultRank.{Reads, Meets, Counts}

-- ---- When a cause is met ---------------------------------------------------------------------

-- ---- The bytes that a step has seen ----------------------------------------------------------

opener-no-digit : is_digit opener ≡ false
unfolding is_digit
opener-no-digit = refl

same_byte : (b c : ℕ) → some b ≡ some c → b ≡ c
same_byte b c e = cc

-- outcomes that differ are told apart by a number
abbrev tag : Outcome → ℕ
tag (got opening) = 0
tag (got (number v)) = 1
tag (got constant) = 2
tag (got turn) = 3
tag (got closing) = 4
tag (got (storing k)) = 5
tag (got end) = 6
tag ran_out = 7
tag (fault c b) = 10 + (cause_row c).number

-- no bracket opens at byte i
abbrev Unopened : List ℕ → ℕ → Type 0
Unopened bytes i = get_elem? bytes i ≡ some opener → ⊥

digit-unopened : (bytes : List ℕ) (i c : ℕ) → get_elem? bytes i ≡ some c → is_digit c ≡ true → Unopened bytes i
digit-unopened bytes i c e d h = true≢false (sym d ∙ ap is_digit (same_byte c opener (sym e ∙ h)) ∙ opener-no-digit)

-- What a step from p says of brackets, b being the byte at p: one opens there, none opens where the element may be at fault, or there are too many.
abbrev Sees : List ℕ → Place → ℕ → Outcome → Type 0
Sees bytes p b (got opening) = b ≡ opener
Sees bytes p b (got (number v)) = Unopened bytes (digit_place p.at b)
Sees bytes p b (got constant) = Unit {0}
Sees bytes p b (got turn) = Unit {0}
Sees bytes p b (got closing) = Unopened bytes p.at
Sees bytes p b (got (storing k)) = Unopened bytes (p.at + 1)
Sees bytes p b (got end) = Unit {0}
Sees bytes p b (fault c i) = (c ≡ wrong_byte) ⊎ ((c ≡ too_deep) × (i ≡ p.at) × (b ≡ opener) × (open_limit ≤ length p.opens))
Sees bytes p b ran_out = Unit {0}

-- after the `:` of a storing no number is read but that to store, and a fault lies behind the `:`
abbrev SeesColon : Place → Outcome → Type 0
SeesColon p (got e) = tag (got e) ≡ 5
SeesColon p (fault c i) = i ≡ p.at + 1
SeesColon p ran_out = Unit {0}

module _ (bytes : List ℕ) (p : Place) (b : ℕ) (here : get_elem? bytes p.at ≡ some b) where
  abbrev SeesBy : Step → Type 0
  SeesBy x = Sees bytes p b x.outcome

  sees-cond : (t : Bool) (x y : Step) → (t ≡ true → SeesBy x) → (t ≡ false → SeesBy y) → SeesBy (cond t x y)
  sees-cond true x y h k = h refl
  sees-cond false x y h k = k refl

  number-sees : (o : List Open) (x : Scan) → Unopened bytes (digit_place p.at b) → SeesBy (number_read p o x)
  number-sees o (read v a) h = go (eqb v 0)
    where
      go : (t : Bool) → Sees bytes p b (got (cond t constant (number v)))
      go true = tt
      go false = h
  number-sees o unread h = tt

  digit-here : is_digit b ≡ true → Unopened bytes (digit_place p.at b)
  digit-here d = let g : eqb b blank ≡ false = digit-not-blank b d in rw g (digit-unopened bytes p.at b here d)

  node-sees : (o : List Open) → length o ≡ length p.opens → SeesBy (node_begins bytes p o b)
  node-sees o l =
      sees-cond (eqb b opener) _ _
      (λ e. sees-cond (ltb (length o) open_limit) _ _ (λ _. eqb-true _ _ e)
      (λ h. inr (refl, refl, eqb-true _ _ e, omega (arith, ltb-false (length o) open_limit h, l))))
      (λ _. sees-cond (is_digit b) _ _ (λ d. number-sees o (number_at bytes p.at b) (digit-here d)) (λ _. inl refl))

  space-sees : (o : List Open) → eqb b blank ≡ true → (x : Option ℕ) → get_elem? bytes (p.at + 1) ≡ x → SeesBy (after_space bytes p o x)
  space-sees o e none h = tt
  space-sees o e (some c) h =
      sees-cond (is_digit c) _ _ (λ d. number-sees o (number_at bytes (p.at + 1) c) (rw e (digit-unopened bytes (p.at + 1) c h d))) (λ _. inl refl)

  storing-sees : (x : Scan) → Unopened bytes (p.at + 1) → SeesBy (storing_read p x)
  storing-sees (read v a) h = h
  storing-sees unread h = tt

  colon-sees : (x : Option ℕ) → get_elem? bytes (p.at + 1) ≡ x → SeesBy (after_colon bytes p x)
  colon-sees none h = tt
  colon-sees (some c) h =
      sees-cond (is_digit c) _ _ (λ d. storing-sees (number_at bytes (p.at + 1) c) (digit-unopened bytes (p.at + 1) c h d)) (λ _. inl refl)

  closer-sees : eqb b closer ≡ true → Unopened bytes p.at
  closer-sees e h = let z : closer ≡ opener = sym (eqb-true _ _ e) ∙ same_byte b opener (sym here ∙ h) in omega (arith, z)

  ended-sees : (d : Bool) (o : List Open) → length o ≡ length p.opens → SeesBy (node_ended bytes p d b o)
  ended-sees d [] l = sees-cond (eqb b dot) _ _ (λ _. tt) (λ _. inl refl)
  ended-sees d (in_first ∷ o) l =
      sees-cond (eqb b tilde) _ _ (λ _. tt)
      (λ _. sees-cond (eqb b closer) _ _ closer-sees
      (λ _. sees-cond (d && eqb b blank) _ _ (λ e. space-sees _ (and_r d _ e) (get_elem? bytes (p.at + 1)) refl)
      (λ _. sees-cond (d && is_digit b) _ _ (λ _. inl refl)
      (λ _. node-sees (in_second p.last false ∷ o) l))))
  ended-sees d (in_second a t ∷ o) l = sees-cond (eqb b closer) _ _ closer-sees (λ _. inl refl)

  size-sees : is_digit b ≡ true → (x : Scan) → SeesBy (size_read bytes p x)
  size-sees d unread = tt
  size-sees d (read v i) = go (get_elem? bytes i)
    where
      go : (x : Option ℕ) → SeesBy (size_ends p v i x)
      go none = tt
      go (some c) = sees-cond (eqb c line_feed) _ _ (λ _. digit-here d) (λ _. inl refl)

  by-sees : (m : Context) → SeesBy (step_by bytes p b m)
  by-sees start = sees-cond (is_digit b) _ _ (λ d. size-sees d (number_at bytes p.at b)) (λ _. inl refl)
  by-sees lead = sees-cond (eqb b tilde) _ _ (λ _. tt) (λ _. node-sees p.opens refl)
  by-sees begins = node-sees p.opens refl
  by-sees after_digit = ended-sees true p.opens refl
  by-sees after_two = sees-cond (eqb b colon) _ _ (λ _. colon-sees (get_elem? bytes (p.at + 1)) refl) (λ _. ended-sees false p.opens refl)
  by-sees after_one = ended-sees false p.opens refl
  by-sees over = inl refl

  step-sees : SeesBy (step p bytes)
  unfolding step
  step-sees = subst (λ (o : Option ℕ). SeesBy (step_on bytes p o)) (sym here) (by-sees p.context)

  colon-storing : (x : Option ℕ) → SeesColon p (after_colon bytes p x).outcome
  colon-storing none = tt
  colon-storing (some c) = go (is_digit c) (number_at bytes (p.at + 1) c)
    where
      go : (t : Bool) (x : Scan) → SeesColon p (cond t (storing_read p x) (stops p wrong_byte (p.at + 1))).outcome
      go true (read v a) = refl
      go true unread = tt
      go false x = refl

  by-colon : (m : Context) → is_two m ≡ true → eqb b colon ≡ true → SeesColon p (step_by bytes p b m).outcome
  by-colon after_two t e = rw e (colon-storing (get_elem? bytes (p.at + 1)))
  by-colon start t e = absurd (false≢true t)
  by-colon lead t e = absurd (false≢true t)
  by-colon begins t e = absurd (false≢true t)
  by-colon after_digit t e = absurd (false≢true t)
  by-colon after_one t e = absurd (false≢true t)
  by-colon over t e = absurd (false≢true t)

  step-colon : is_two p.context ≡ true → eqb b colon ≡ true → SeesColon p (step p bytes).outcome
  unfolding step
  step-colon t e = subst (λ (o : Option ℕ). SeesColon p (step_on bytes p o).outcome) (sym here) (by-colon p.context t e)

-- ---- One element more ------------------------------------------------------------------------

-- the fault of a reading, if any, counts where it stands
abbrev Right : ℕ → List ℕ → Reading → Type 0
Right n bytes r = (g : Fault) → r.fault ≡ some g → Counts n bytes r.state g.byte g.cause

same-fault : (f g : Fault) → some f ≡ some g → f ≡ g
same-fault f g e = cc

same_number_lem : (v w : ℕ) → got (number v) ≡ got (number w) → v ≡ w
same_number_lem v w e = cc

module _ (n : ℕ) (bytes : List ℕ) (s : State) where
  right-goes : (r : State) → Right n bytes (goes r)
  right-goes r g e = never-some g e

  right-fails : (c : Cause) (b : ℕ) → Counts n bytes s b c → Right n bytes (fails s c b)
  right-fails c b h g e = subst (λ (f : Fault). Counts n bytes s f.byte f.cause) (same-fault _ g e) h

  right-cond : (t : Bool) (x y : Reading) → (t ≡ true → Right n bytes x) → (t ≡ false → Right n bytes y) → Right n bytes (cond t x y)
  right-cond true x y h k = h refl
  right-cond false x y h k = k refl

  -- the cause d is not met at b, or its rank is not below r
  abbrev Spares : ℕ → ℕ → Cause → Type 0
  Spares r b d = Meets n bytes s b d → r ≤ (cause_row d).rank

  -- so it is with all causes if with those of a stream
  spares : (r b : ℕ) → Spares r b wrong_byte → Spares r b declared_size → Spares r b too_deep → Spares r b not_in_table → Spares r b other_level
      → Spares r b not_storable → Spares r b bad_number → (d : Cause) → Spares r b d
  spares r b h₇ h₈ h₉ h₁₀ h₁₁ h₁₂ h₁₃ option_count = λ m. absurd m
  spares r b h₇ h₈ h₉ h₁₀ h₁₁ h₁₂ h₁₃ operator_code = λ m. absurd m
  spares r b h₇ h₈ h₉ h₁₀ h₁₁ h₁₂ h₁₃ size_to_write = λ m. absurd m
  spares r b h₇ h₈ h₉ h₁₀ h₁₁ h₁₂ h₁₃ work_table = λ m. absurd m
  spares r b h₇ h₈ h₉ h₁₀ h₁₁ h₁₂ h₁₃ word_range = λ m. absurd m
  spares r b h₇ h₈ h₉ h₁₀ h₁₁ h₁₂ h₁₃ truth_table = λ m. absurd m
  spares r b h₇ h₈ h₉ h₁₀ h₁₁ h₁₂ h₁₃ wrong_byte = h₇
  spares r b h₇ h₈ h₉ h₁₀ h₁₁ h₁₂ h₁₃ declared_size = h₈
  spares r b h₇ h₈ h₉ h₁₀ h₁₁ h₁₂ h₁₃ too_deep = h₉
  spares r b h₇ h₈ h₉ h₁₀ h₁₁ h₁₂ h₁₃ not_in_table = h₁₀
  spares r b h₇ h₈ h₉ h₁₀ h₁₁ h₁₂ h₁₃ other_level = h₁₁
  spares r b h₇ h₈ h₉ h₁₀ h₁₁ h₁₂ h₁₃ not_storable = h₁₂
  spares r b h₇ h₈ h₉ h₁₀ h₁₁ h₁₂ h₁₃ bad_number = h₁₃

  -- what the step comes to
  abbrev step_tag : ℕ
  step_tag = tag (step s.place bytes).outcome

  module _ (inside : s.place.at < length bytes) where
    abbrev b : ℕ
    b = byte_at bytes s

    here : get_elem? bytes s.place.at ≡ some b
    here = lookup-inside bytes s.place.at 0 inside

    -- ---- each fault counts where it is given

    wrong : (i : ℕ) → (step s.place bytes).outcome ≡ fault wrong_byte i → Counts n bytes s i wrong_byte
    wrong i w = record {
      met = w;
      lowest = spares _ _ (λ _. omega arith) (λ _. omega arith) (λ _. omega arith) (λ _. omega arith) (λ _. omega arith)
          (λ _. omega arith) (λ _. omega arith);
    }

    deep : (step_tag ≡ tag (fault wrong_byte 0) → ⊥) → (step_tag ≡ tag (got (number 0)) → ⊥) → b ≡ opener → min n open_limit < level s.place
        → Counts n bytes s s.place.at too_deep
    deep f g e l = record {
      met = (here ∙ ap some e, l, rw e refl);
      lowest = spares _ _ (λ m. absurd (f (ap tag m))) (λ m. absurd (g (ap tag m.1.0))) (λ _. omega arith) (λ _. omega arith) (λ _. omega arith)
          (λ _. omega arith) (λ _. omega arith);
    }

    module _ (v : ℕ) (w : Reads bytes s (number v)) (h : Unopened bytes (first_digit s b)) where
      large : is_start s.place.context ≡ true → table_limit < v → Counts n bytes s (first_digit s b) declared_size
      large t l = record {
        met = (v, (w, t, refl), l);
        lowest = spares _ _ (λ m. omega (arith, ap tag w, ap tag m)) (λ _. omega arith) (λ _. omega arith) (λ _. omega arith) (λ _. omega arith)
            (λ _. omega arith) (λ _. omega arith);
      }

      absent : is_start s.place.context ≡ false → (node s.table v).level ≡ 0 → Counts n bytes s (first_digit s b) not_in_table
      absent f z = record {
        met = (v, (w, f, refl), z);
        lowest = spares _ _ (λ m. omega (arith, ap tag w, ap tag m)) (λ m. absurd (true≢false (sym m.1.1 ∙ f))) (λ m. absurd (h m.0))
            (λ _. omega arith) (λ _. omega arith) (λ _. omega arith) (λ _. omega arith);
      }

      elsewhere : is_start s.place.context ≡ false → (node s.table v).level ≢ 0 → (node s.table v).level ≢ level s.place
          → Counts n bytes s (first_digit s b) other_level
      elsewhere f z d = record {
        met = (v, (w, f, refl), d);
        lowest = spares _ _ (λ m. omega (arith, ap tag w, ap tag m)) (λ m. absurd (true≢false (sym m.1.1 ∙ f))) (λ m. absurd (h m.0))
            (λ m. absurd (z (ap (λ (k : ℕ). (node s.table k).level) (same_number_lem v m.0 (sym w ∙ m.1.0)) ∙ m.2)))
            (λ _. omega arith) (λ _. omega arith) (λ _. omega arith);
      }

    -- at the `)` of an `(A)`
    single : Reads bytes s closing → Unopened bytes s.place.at → (o : List Open) → s.place.opens ≡ in_first ∷ o
        → is_kept s.place.last ≡ false → Counts n bytes s s.place.at not_storable
    single w h o e k = record {
      met = (inr (w, (o, e), k), refl);
      lowest = spares _ _ (λ m. omega (arith, ap tag w, ap tag m)) (λ m. omega (arith, ap tag w, ap tag m.1.0)) (λ m. absurd (h m.0))
          (λ m. omega (arith, ap tag w, ap tag m.1.0)) (λ m. omega (arith, ap tag w, ap tag m.1.0)) (λ _. omega arith) (λ _. omega arith);
    }

    -- at a `:`, behind which stands a number to store or nothing that is read
    barred : barred_colon s b ≡ true → Counts n bytes s s.place.at not_storable
    barred t =
        let m = and_l (is_two s.place.context && eqb b colon) _ t in
        let e = and_r (is_two s.place.context) (eqb b colon) m in
        let sees = step-colon bytes s.place b here (and_l (is_two s.place.context) _ m) e in
        let none : (v : ℕ) → Reads bytes s (number v) → ⊥ = λ v w. omega (arith, subst (SeesColon s.place) w sees) in
        let z : get_elem? bytes s.place.at ≡ some opener → ⊥ =
        λ h. omega (arith, eqb-true b colon e, same_byte b opener (sym here ∙ h)) in
        record {
          met = (inl t, refl);
          lowest = spares _ _ (λ w. omega (arith, subst (SeesColon s.place) w sees)) (λ w. absurd (none w.0 w.1.0))
              (λ w. absurd (z w.0)) (λ w. absurd (none w.0 w.1.0)) (λ w. absurd (none w.0 w.1.0)) (λ _. omega arith)
              (λ _. omega arith);
        }

    bad : (k : ℕ) → Reads bytes s (storing k) → Unopened bytes (s.place.at + 1) → is_bad s k ≡ true → Counts n bytes s (s.place.at + 1) bad_number
    bad k w h t = record {
      met = (k, w, t, refl);
      lowest = spares _ _ (λ m. omega (arith, ap tag w, ap tag m)) (λ m. omega (arith, ap tag w, ap tag m.1.0)) (λ m. absurd (h m.0))
          (λ m. omega (arith, ap tag w, ap tag m.1.0)) (λ m. omega (arith, ap tag w, ap tag m.1.0)) (λ m. omega (arith, m.1))
          (λ _. omega arith);
    }

    -- ---- and no other fault is given

    element-right : (e : Element) (q : Place) → Reads bytes s e → Sees bytes s.place b (got e)
        → Right n bytes (with_element n s (first_digit s b) e q)
    unfolding with_element
    element-right opening q w h =
        right-cond (ltb n (level s.place)) _ _
        (λ t. right-fails too_deep _ (deep (λ m. omega (arith, ap tag w, m)) (λ m. omega (arith, ap tag w, m)) h
        (omega (arith, ltb-true n (level s.place) t))))
        (λ _. right-goes _)
    element-right (number v) q w h =
        right-cond (is_start s.place.context) _ _
        (λ t. right-cond (ltb table_limit v) _ _ (λ l. right-fails declared_size _ (large v w h t (ltb-true _ _ l))) (λ _. right-goes _))
        (λ t. right-cond (eqb (node s.table v).level 0) _ _ (λ z. right-fails not_in_table _ (absent v w h t (eqb-true _ _ z)))
        (λ z. right-cond (eqb (node s.table v).level (level s.place)) _ _ (λ _. right-goes _)
        (λ d. right-fails other_level _ (elsewhere v w h t (eqb-false _ _ z) (eqb-false _ _ d)))))
    element-right constant q w h = right-goes _
    element-right turn q w h = right-goes _
    element-right closing q w h = go s.place.opens refl
      where
        go : (o : List Open) → s.place.opens ≡ o → Right n bytes (closed n s q o)
        go [] e = right-goes _
        go (in_first ∷ o) e =
            right-cond (is_kept s.place.last) _ _ (λ _. right-goes _) (λ k. right-fails not_storable _ (single w h o e k))
        go (in_second x t ∷ o) e = right-goes _
    element-right (storing k) q w h = right-cond (is_bad s k) _ _ (λ t. right-fails bad_number _ (bad k w h t)) (λ _. right-goes _)
    element-right end q w h = right-goes _

    after-right : (o : Outcome) (q : Place) → (step s.place bytes).outcome ≡ o → Sees bytes s.place b o
        → Right n bytes (after n s (first_digit s b) o q)
    unfolding after
    after-right (got e) q w h = element-right e q w h
    after-right (fault c i) q w h = ⊎_elim
        (λ e. subst (λ (d : Cause). Right n bytes (fails s d i)) (sym e) (right-fails wrong_byte i (wrong i (w ∙ ap (λ (d : Cause). fault d i) e))))
        (λ e. let z : step_tag ≡ tag (fault too_deep i) = ap tag (w ∙ ap (λ (d : Cause). fault d i) e.0) in
        subst (λ (d : Cause). Right n bytes (fails s d i)) (sym e.0) (subst (λ (j : ℕ). Right n bytes (fails s too_deep j)) (sym e.1)
        (right-fails too_deep _ (deep (λ m. omega (arith, z, m)) (λ m. omega (arith, z, m)) e.2 (omega (arith, e.3)))))) h
    after-right ran_out q w h = right-goes _

    chosen-right : (t : Bool) → barred_colon s b ≡ t → Right n bytes (chosen n s b t (step s.place bytes).outcome (step s.place bytes).place)
    chosen-right true t = right-fails not_storable _ (barred t)
    chosen-right false f = after-right _ _ refl (step-sees bytes s.place b here)

  advance-right : Right n bytes (advance n bytes s)
  advance-right = ⊎_elim past within (decide-le (length bytes) s.place.at)
    where
      past : length bytes ≤ s.place.at → Right n bytes (advance n bytes s)
      past h = subst (λ (t : Trace). Right n bytes t.reading) (sym (trace-past n bytes s (drawing [] []) h)) (right-goes s)

      within : s.place.at < length bytes → Right n bytes (advance n bytes s)
      within h = subst (Right n bytes) (sym (advance-chosen n bytes s)) (chosen-right h (barred_colon s (byte_at bytes s)) refl)

-- ---- The reading -----------------------------------------------------------------------------

next-right : (n : ℕ) (bytes : List ℕ) (s : State) (f : Option Fault) → Right n bytes (record { state = s; fault = f })
    → Right n bytes (next_by n bytes s f)
next-right n bytes s none h = advance-right n bytes s
next-right n bytes s (some f) h = h

onward-right : (f n : ℕ) (bytes : List ℕ) (r : Reading) → Right n bytes r → Right n bytes (onward f n bytes r)
unfolding onward next
onward-right zero n bytes r h = h
onward-right (suc f) n bytes r h = onward-right f n bytes (next n bytes r) (next-right n bytes r.state r.fault h)

-- THE LOWEST RANK: the fault of a stream is met at its byte, from where reading stands, and no cause that is met there has a lower rank.
pub fault-counts : (n : ℕ) (bytes : List ℕ) (f : Fault) → (reading n bytes).fault ≡ some f
    → Counts n bytes (reading n bytes).state f.byte f.cause
unfolding reading
fault-counts n bytes f e = onward-right (suc (length bytes)) n bytes (goes fresh) (λ g h. never-some g h) f e
