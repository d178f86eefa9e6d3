-- The inputs of a run: which words are settled, how many the run covers, and that lengthening the inputs only lengthens the written bytes.
use Rattle.std.specs.Prelude.{◌≡◌, refl, Bool, true, false, List, [], ◌∷◌, ℕ, zero, suc, ◌+◌, ◌≤◌, ◌<◌, ◌^◌, length}
use Rattle.std.proofs.Math.Path.{sym, ap, subst⁻¹}
use Rattle.std.proofs.Common.{◌∙◌, subst, ⊎_elim, arith}
use Prim.{tt}
use Rattle.theory_lists.specs.Lists.{decide-le}
use Rattle.theory_lists.specs.Prefixes.{Begins}
use Rattle.theory_reading.specs.Deciding.{Decision, undecided, decided}
use Rattle.theory_writing.specs.Run.{Input, decisions, agreed, outcome, joint, least_open, run_covered, or_no, run_of, written_bytes}
use Rattle.theory_writing.specs.Output.{runs-written}
use Rattle.theory_writing.specs.Inputs.{May, AllMay}

-- ---- Settled words ---------------------------------------------------------------------------

pub never-decided : {A : Type 0} (d : Bool) → undecided ≡ decided d → A
never-decided d e = let z : ◌≡◌ {A = ℕ} 0 1 = cc in absurd (omega arith)

pub decided-one : (a b : Bool) → decided a ≡ decided b → a ≡ b
decided-one a b e = cc

agreed-both : (x y : Decision) (d : Bool) → agreed x y ≡ decided d → (x ≡ decided d) × (y ≡ decided d)
agreed-both undecided y d e = never-decided d e
agreed-both (decided a) undecided d e = never-decided d e
agreed-both (decided true) (decided true) d e = (e, e)
agreed-both (decided true) (decided false) d e = never-decided d e
agreed-both (decided false) (decided true) d e = never-decided d e
agreed-both (decided false) (decided false) d e = (e, e)

agreed-same : (x y : Decision) (d : Bool) → x ≡ decided d → y ≡ decided d → agreed x y ≡ decided d
agreed-same x y d p q = subst⁻¹ (λ (x : Decision). agreed x y ≡ decided d) p (subst⁻¹ (λ (y : Decision). agreed (decided d) y ≡ decided d) q (go d))
  where
    go : (d : Bool) → agreed (decided d) (decided d) ≡ decided d
    go true = refl
    go false = refl

-- THE OUTCOME is what the operator gives for all values that the inputs may have,
pub outcome-any : (op : List Bool → Bool) (ds : List Decision) (d : Bool) → outcome op ds ≡ decided d → (vs : List Bool) → AllMay ds vs → op vs ≡ d
unfolding outcome
outcome-any op [] d e [] h = decided-one (op []) d e
outcome-any op [] d e (v ∷ vs) h = absurd h
outcome-any op (x ∷ ds) d e [] h = absurd h
outcome-any op (decided a ∷ ds) d e (v ∷ vs) h =
    subst⁻¹ (λ (v : Bool). op (v ∷ vs) ≡ d) h.0 (outcome-any (λ vs. op (a ∷ vs)) ds d e vs h.1)
outcome-any op (undecided ∷ ds) d e (v ∷ vs) h =
    by v (outcome-any (λ vs. op (false ∷ vs)) ds d both.0 vs h.1) (outcome-any (λ vs. op (true ∷ vs)) ds d both.1 vs h.1)
  where
    both : (outcome (λ vs. op (false ∷ vs)) ds ≡ decided d) × (outcome (λ vs. op (true ∷ vs)) ds ≡ decided d)
    both = agreed-both (outcome (λ vs. op (false ∷ vs)) ds) (outcome (λ vs. op (true ∷ vs)) ds) d e

    by : (v : Bool) → op (false ∷ vs) ≡ d → op (true ∷ vs) ≡ d → op (v ∷ vs) ≡ d
    by false p q = p
    by true p q = q

-- and there is one, if it gives one.
pub outcome-all : (op : List Bool → Bool) (ds : List Decision) (d : Bool) → ((vs : List Bool) → AllMay ds vs → op vs ≡ d) → outcome op ds ≡ decided d
unfolding outcome
outcome-all op [] d h = ap decided (h [] tt)
outcome-all op (decided a ∷ ds) d h = outcome-all (λ vs. op (a ∷ vs)) ds d (λ vs m. h (a ∷ vs) (refl, m))
outcome-all op (undecided ∷ ds) d h =
    agreed-same (outcome (λ vs. op (false ∷ vs)) ds) (outcome (λ vs. op (true ∷ vs)) ds) d
    (outcome-all (λ vs. op (false ∷ vs)) ds d (λ vs m. h (false ∷ vs) (tt, m)))
    (outcome-all (λ vs. op (true ∷ vs)) ds d (λ vs m. h (true ∷ vs) (tt, m)))

-- ---- The least word that is not decided ------------------------------------------------------

-- f decides the word w
abbrev pub DecidedAt : Input → ℕ → Type 0
DecidedAt f w = (d : Bool) × (f w ≡ decided d)

-- what the search among the k words from w on says of what it gives
pub record LeastOpen (k : ℕ) (f : Input) (w r : ℕ) : Type 0 where
  pub low : w ≤ r
  pub most : r ≤ w + k
  pub before : (v : ℕ) → w ≤ v → v < r → DecidedAt f v
  pub here : r < w + k → f r ≡ undecided

pub least-open : (k : ℕ) (f : Input) (w : ℕ) → LeastOpen k f w (least_open k f w)
unfolding least_open
least-open zero f w =
    record { low = omega arith; most = omega arith; before = λ v l h. absurd (omega (arith, l, h)); here = λ h. absurd (omega (arith, h)) }
least-open (suc k) f w = go (f w) refl (least-open k f (w + 1))
  where
    go : (x : Decision) → f w ≡ x → LeastOpen k f (w + 1) (least_open k f (w + 1))
        → LeastOpen (suc k) f w (elim x [ undecided ↦ w | decided d ↦ least_open k f (w + 1) ])
    go undecided e h =
        record { low = omega arith; most = omega arith; before = λ v l m. absurd (omega (arith, l, m)); here = λ _. e }
    go (decided d) e h = record {
      low = omega (arith, h.low);
      most = omega (arith, h.most);
      before = λ v l m. ⊎_elim (λ (q : v ≤ w). let z : w ≡ v = omega (arith, l, q) in (d, subst (λ (u : ℕ). f u ≡ decided d) z e))
          (λ (q : w < v). h.before v (omega (arith, q)) m) (decide-le v w);
      here = λ l. h.here (omega (arith, l));
    }

-- there is one such
pub least-one : (k : ℕ) (f : Input) (w r s : ℕ) → LeastOpen k f w r → LeastOpen k f w s → r ≤ s
least-one k f w r s p q = ⊎_elim (λ (l : r ≤ s). l)
    (λ (l : s < r). let h = p.before s q.low l in never-decided h.0 (sym (q.here (omega (arith, l, p.most))) ∙ h.1)) (decide-le r s)

-- ---- The covered count of a run --------------------------------------------------------------

module _ (op : List Bool → Bool) (n : ℕ) (xs : List Input) where
  run-least : LeastOpen (2 ^ n) (joint op xs) 0 (run_covered op n xs)
  unfolding run_covered
  run-least = least-open (2 ^ n) (joint op xs) 0

  pub run_covered-most : run_covered op n xs ≤ 2 ^ n
  run_covered-most = omega (arith, run-least.most)

  -- every word below it is settled,
  pub covered-settled : (w : ℕ) → w < run_covered op n xs → DecidedAt (joint op xs) w
  covered-settled w l = run-least.before w (omega arith) l

  -- and it is not, unless it is 2^n.
  pub covered-open : run_covered op n xs < 2 ^ n → joint op xs (run_covered op n xs) ≡ undecided
  covered-open l = run-least.here (omega (arith, l))

  -- THE COVERED COUNT, from what is said of it
  pub run_covered-is : (c : ℕ) → c ≤ 2 ^ n → ((w : ℕ) → w < c → DecidedAt (joint op xs) w) → (c < 2 ^ n → joint op xs c ≡ undecided)
      → run_covered op n xs ≡ c
  run_covered-is c l h o =
      let q : LeastOpen (2 ^ n) (joint op xs) 0 c = record {
        low = omega arith;
        most = omega (arith, l);
        before = λ v _ m. h v m;
        here = λ m. o (omega (arith, m));
      } in
      omega (
        arith,
        least-one (2 ^ n) (joint op xs) 0 (run_covered op n xs) c run-least q,
        least-one (2 ^ n) (joint op xs) 0 c (run_covered op n xs) q run-least,
      )

-- ---- Longer inputs ---------------------------------------------------------------------------

-- what x decides, y decides alike
abbrev pub More : Decision → Decision → Type 0
More x y = (d : Bool) → x ≡ decided d → y ≡ decided d

abbrev pub AllMore : List Decision → List Decision → Type 0
AllMore [] [] = Unit {0}
AllMore [] (y ∷ ys) = ⊥
AllMore (x ∷ xs) [] = ⊥
AllMore (x ∷ xs) (y ∷ ys) = More x y × AllMore xs ys

may_more : (x y : Decision) → More x y → (v : Bool) → May y v → May x v
may_more undecided y m v h = tt
may_more (decided a) y m v h = subst (λ (y : Decision). May y v) (m a refl) h

all-may-more : (xs ys : List Decision) → AllMore xs ys → (vs : List Bool) → AllMay ys vs → AllMay xs vs
all-may-more [] [] m vs h = h
all-may-more [] (y ∷ ys) m vs h = absurd m
all-may-more (x ∷ xs) [] m vs h = absurd m
all-may-more (x ∷ xs) (y ∷ ys) m [] h = h
all-may-more (x ∷ xs) (y ∷ ys) m (v ∷ vs) h = (may_more x y m.0 v h.0, all-may-more xs ys m.1 vs h.1)

-- what is settled stays so
pub outcome-more : (op : List Bool → Bool) (xs ys : List Decision) → AllMore xs ys → More (outcome op xs) (outcome op ys)
outcome-more op xs ys m d e = outcome-all op ys d (λ vs h. outcome-any op xs d e vs (all-may-more xs ys m vs h))

-- y decides the words that x decides, alike
abbrev pub Extends : ℕ → Input → Input → Type 0
Extends n x y = (w : ℕ) → w < 2 ^ n → More (x w) (y w)

abbrev pub Extend : ℕ → List Input → List Input → Type 0
Extend n [] [] = Unit {0}
Extend n [] (y ∷ ys) = ⊥
Extend n (x ∷ xs) [] = ⊥
Extend n (x ∷ xs) (y ∷ ys) = Extends n x y × Extend n xs ys

decisions-more : (n : ℕ) (xs ys : List Input) → Extend n xs ys → (w : ℕ) → w < 2 ^ n → AllMore (decisions xs w) (decisions ys w)
decisions-more n [] [] h w l = tt
decisions-more n [] (y ∷ ys) h w l = h
decisions-more n (x ∷ xs) [] h w l = h
decisions-more n (x ∷ xs) (y ∷ ys) h w l = (h.0 w l, decisions-more n xs ys h.1 w l)

module _ (op : List Bool → Bool) (n : ℕ) (xs ys : List Input) (h : Extend n xs ys) where
  joint-more : (w : ℕ) → w < 2 ^ n → More (joint op xs w) (joint op ys w)
  joint-more w l = outcome-more op (decisions xs w) (decisions ys w) (decisions-more n xs ys h w l)

  pub run_covered-grows : run_covered op n xs ≤ run_covered op n ys
  run_covered-grows = ⊎_elim (λ (l : run_covered op n xs ≤ run_covered op n ys). l)
      (λ (l : run_covered op n ys < run_covered op n xs).
      let p = run_covered-most op n xs in
      let s = covered-settled op n xs (run_covered op n ys) l in
      let k : run_covered op n ys < 2 ^ n = omega (arith, l, p) in
      never-decided s.0 (sym (covered-open op n ys k) ∙ joint-more (run_covered op n ys) k s.0 s.1))
      (decide-le (run_covered op n xs) (run_covered op n ys))

  -- the written bytes of a run over longer inputs, with an output no shorter, begin with those of the first run
  pub run_of-written : (size : ℕ) (out out' : List ℕ) → length out ≤ length out'
      → Begins (written_bytes (run_of op n size xs) out) (written_bytes (run_of op n size ys) out')
  unfolding run_of
  run_of-written size out out' l =
      runs-written n size (run_covered op n xs) (run_covered op n ys) (λ w. or_no (joint op xs w)) (λ w. or_no (joint op ys w)) out out' run_covered-grows
      (run_covered-most op n ys) l
      (λ w q.
      let s = covered-settled op n xs w q in
      ap or_no s.1 ∙ sym (ap or_no (joint-more w (omega (arith, q, run_covered-most op n xs)) s.0 s.1)))
