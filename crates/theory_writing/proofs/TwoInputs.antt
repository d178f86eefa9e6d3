-- The covered count of a run over two inputs, from where each of them ends: the least word from the shorter's end on that the longer decides so that the
-- result is open, or the longer's end. Assumes nothing.
use Rattle.std.specs.Prelude.{◌≡◌, refl, Bool, true, false, [], ◌∷◌, List, ℕ, ◌≤◌, ◌<◌, ◌^◌}
use Rattle.std.proofs.Common.{ap, ap₂, ◌∙◌, ⊎_elim, true≢false, arith}
use Rattle.std.proofs.lemmas.Bool.{false≢true}
use Rattle.theory_lists.specs.Lists.{differ, decide-le}
use Rattle.theory_reading.specs.Deciding.{Decision, undecided, decided}
use Rattle.theory_writing.specs.Run.{Input, agreed, outcome, run_covered}
use Rattle.theory_writing.proofs.Inputs.{DecidedAt, run_covered-is}

-- ---- The outcome on two decisions ------------------------------------------------------------

-- r: what the operator gives for two values
abbrev pub both : (Bool → Bool → Bool) → Decision → Decision → Decision
both r (decided a) (decided b) = decided (r a b)
both r (decided a) undecided = agreed (decided (r a false)) (decided (r a true))
both r undecided (decided b) = agreed (decided (r false b)) (decided (r true b))
both r undecided undecided =
    agreed (agreed (decided (r false false)) (decided (r false true))) (agreed (decided (r true false)) (decided (r true true)))

-- the results differ for the two values of the first, beside the value d of the second
abbrev pub opens : (Bool → Bool → Bool) → Bool → Bool
opens r d = differ (r false d) (r true d)

outcome-two : (op : List Bool → Bool) (x y : Decision) → outcome op (x ∷ y ∷ []) ≡ both (λ a b. op (a ∷ b ∷ [])) x y
unfolding outcome
outcome-two op (decided a) (decided b) = refl
outcome-two op (decided a) undecided = refl
outcome-two op undecided (decided b) = refl
outcome-two op undecided undecided = refl

agreed-cross : (p q r s : Bool) → agreed (agreed (decided p) (decided q)) (agreed (decided r) (decided s))
    ≡ agreed (agreed (decided p) (decided r)) (agreed (decided q) (decided s))
agreed-cross true true true true = refl
agreed-cross true true true false = refl
agreed-cross true true false true = refl
agreed-cross true true false false = refl
agreed-cross true false true true = refl
agreed-cross true false true false = refl
agreed-cross true false false true = refl
agreed-cross true false false false = refl
agreed-cross false true true true = refl
agreed-cross false true true false = refl
agreed-cross false true false true = refl
agreed-cross false true false false = refl
agreed-cross false false true true = refl
agreed-cross false false true false = refl
agreed-cross false false false true = refl
agreed-cross false false false false = refl

-- the two in the other order
both-turned : (r : Bool → Bool → Bool) (x y : Decision) → both r x y ≡ both (λ a b. r b a) y x
both-turned r (decided a) (decided b) = refl
both-turned r (decided a) undecided = refl
both-turned r undecided (decided b) = refl
both-turned r undecided undecided = agreed-cross (r false false) (r false true) (r true false) (r true true)

-- ---- A word that one of them does not cover --------------------------------------------------

agreed-one : (a b : Bool) → differ a b ≡ false → agreed (decided a) (decided b) ≡ decided a
agreed-one true true e = refl
agreed-one true false e = absurd (true≢false e)
agreed-one false true e = absurd (true≢false e)
agreed-one false false e = refl

agreed-none : (a b : Bool) → differ a b ≡ true → agreed (decided a) (decided b) ≡ undecided
agreed-none true true e = absurd (false≢true e)
agreed-none true false e = refl
agreed-none false true e = refl
agreed-none false false e = absurd (false≢true e)

-- neither is covered: the word is open, unless all results are one
agreed-four : (p q r s : Bool) → ((d : Bool) → p ≡ d → q ≡ d → r ≡ d → s ≡ d → ⊥)
    → agreed (agreed (decided p) (decided q)) (agreed (decided r) (decided s)) ≡ undecided
agreed-four true true true true h = absurd (h true refl refl refl refl)
agreed-four true true true false h = refl
agreed-four true true false true h = refl
agreed-four true true false false h = refl
agreed-four true false true true h = refl
agreed-four true false true false h = refl
agreed-four true false false true h = refl
agreed-four true false false false h = refl
agreed-four false true true true h = refl
agreed-four false true true false h = refl
agreed-four false true false true h = refl
agreed-four false true false false h = refl
agreed-four false false true true h = refl
agreed-four false false true false h = refl
agreed-four false false false true h = refl
agreed-four false false false false h = absurd (h false refl refl refl refl)

-- ---- The covered count -----------------------------------------------------------------------

-- an input that covers c words of n options
pub record Ends (n : ℕ) (f : Input) (c : ℕ) : Type 0 where
  pub most : c ≤ 2 ^ n
  pub before : (w : ℕ) → w < c → DecidedAt f w
  pub after : (w : ℕ) → c ≤ w → w < 2 ^ n → f w ≡ undecided

-- Of the words from `short` on below `long`, c is the least one that g decides so that the result is open; `long` if there is none.
pub record Reaches (r : Bool → Bool → Bool) (g : Input) (short long c : ℕ) : Type 0 where
  pub low : short ≤ c
  pub most : c ≤ long
  pub settled : (w : ℕ) → short ≤ w → w < c → (d : Bool) → g w ≡ decided d → opens r d ≡ false
  pub open-there : c < long → (d : Bool) → g c ≡ decided d → opens r d ≡ true

-- some results differ
abbrev pub Asks : (Bool → Bool → Bool) → Type 0
Asks r = (d : Bool) → ((a b : Bool) → r a b ≡ d) → ⊥

module _ (r : Bool → Bool → Bool) (n short long c : ℕ) (f g : Input) (p : Ends n f short) (q : Ends n g long) (h : Reaches r g short long c) where
  settled-below : (w : ℕ) → w < c → DecidedAt (λ w. both r (f w) (g w)) w
  settled-below w l = ⊎_elim alone covered (decide-le short w)
    where
      y : DecidedAt g w
      y = q.before w (omega (arith, l, h.most))

      alone : short ≤ w → DecidedAt (λ w. both r (f w) (g w)) w
      alone k = (
        r false y.0,
        ap₂ (both r) (p.after w k (omega (arith, l, h.most, q.most))) y.1
            ∙ agreed-one (r false y.0) (r true y.0) (h.settled w k l y.0 y.1),
      )

      covered : w < short → DecidedAt (λ w. both r (f w) (g w)) w
      covered k = let x = p.before w k in (r x.0 y.0, ap₂ (both r) x.1 y.1)

  open_at : short ≤ long → Asks r → c < 2 ^ n → both r (f c) (g c) ≡ undecided
  open_at le asks l = ⊎_elim ended inside (decide-le long c)
    where
      x : f c ≡ undecided
      x = p.after c h.low l

      ended : long ≤ c → both r (f c) (g c) ≡ undecided
      ended k = ap₂ (both r) x (q.after c k l) ∙ agreed-four (r false false) (r false true) (r true false) (r true true)
          (λ d e₁ e₂ e₃ e₄. asks d (all d e₁ e₂ e₃ e₄))
        where
          all : (d : Bool) → r false false ≡ d → r false true ≡ d → r true false ≡ d → r true true ≡ d → (a b : Bool) → r a b ≡ d
          all d e₁ e₂ e₃ e₄ false false = e₁
          all d e₁ e₂ e₃ e₄ false true = e₂
          all d e₁ e₂ e₃ e₄ true false = e₃
          all d e₁ e₂ e₃ e₄ true true = e₄

      inside : c < long → both r (f c) (g c) ≡ undecided
      inside k =
          let y = q.before c k in
          ap₂ (both r) x y.1 ∙ agreed-none (r false y.0) (r true y.0) (h.open-there k y.0 y.1)

-- f and g are the inputs of a run, in this order or in the other; r: what the operator gives for values of f and g
module _ (op : List Bool → Bool) (n short long c : ℕ) (f g : Input) (le : short ≤ long) (p : Ends n f short) (q : Ends n g long) where
  -- THE FIRST IS THE SHORTER
  pub covered-first : Reaches (λ a b. op (a ∷ b ∷ [])) g short long c → Asks (λ a b. op (a ∷ b ∷ [])) → run_covered op n (f ∷ g ∷ []) ≡ c
  covered-first h asks =
      let r : Bool → Bool → Bool = λ a b. op (a ∷ b ∷ []) in
      run_covered-is op n (f ∷ g ∷ []) c (omega (arith, h.most, q.most))
      (λ w l. let s = settled-below r n short long c f g p q h w l in (s.0, outcome-two op (f w) (g w) ∙ s.1))
      (λ l. outcome-two op (f c) (g c) ∙ open_at r n short long c f g p q h le asks l)

  -- THE SECOND IS THE SHORTER
  pub covered-second : Reaches (λ a b. op (b ∷ a ∷ [])) g short long c → Asks (λ a b. op (b ∷ a ∷ [])) → run_covered op n (g ∷ f ∷ []) ≡ c
  covered-second h asks =
      let r : Bool → Bool → Bool = λ a b. op (b ∷ a ∷ []) in
      let turn = both-turned (λ a b. op (a ∷ b ∷ [])) in
      run_covered-is op n (g ∷ f ∷ []) c (omega (arith, h.most, q.most))
      (λ w l. let s = settled-below r n short long c f g p q h w l in (s.0, outcome-two op (g w) (f w) ∙ turn (g w) (f w) ∙ s.1))
      (λ l. outcome-two op (g c) (f c) ∙ turn (g c) (f c) ∙ open_at r n short long c f g p q h le asks l)

-- NO RESULT DIFFERS: all words are covered
agreed-all : (d : Bool) → agreed (decided d) (decided d) ≡ decided d
agreed-all true = refl
agreed-all false = refl

both-all : (r : Bool → Bool → Bool) (d : Bool) → ((a b : Bool) → r a b ≡ d) → (x y : Decision) → both r x y ≡ decided d
both-all r d h (decided a) (decided b) = ap decided (h a b)
both-all r d h (decided a) undecided = ap₂ (λ (p q : Bool). agreed (decided p) (decided q)) (h a false) (h a true) ∙ agreed-all d
both-all r d h undecided (decided b) = ap₂ (λ (p q : Bool). agreed (decided p) (decided q)) (h false b) (h true b) ∙ agreed-all d
both-all r d h undecided undecided =
    ap₂ agreed (ap₂ (λ (p q : Bool). agreed (decided p) (decided q)) (h false false) (h false true) ∙ agreed-all d)
    (ap₂ (λ (p q : Bool). agreed (decided p) (decided q)) (h true false) (h true true) ∙ agreed-all d)
    ∙ agreed-all d

pub covered-all : (op : List Bool → Bool) (n : ℕ) (f g : Input) (d : Bool) → ((a b : Bool) → op (a ∷ b ∷ []) ≡ d) → run_covered op n (f ∷ g ∷ []) ≡ 2 ^ n
covered-all op n f g d h =
    run_covered-is op n (f ∷ g ∷ []) (2 ^ n) (omega arith)
    (λ w l. (d, outcome-two op (f w) (g w) ∙ both-all (λ a b. op (a ∷ b ∷ [])) d h (f w) (g w))) (λ l. absurd (omega (arith, l)))
