-- The next admitted word (document 02, R-1): which words lead to which answer, and what an answer says of the words from w on. Assumes nothing.
use Rattle.std.specs.Prelude.{◌≡◌, ◌≢◌, Bool, true, false, cond, ℕ, zero, suc, ◌+◌, ◌-◌, ◌<◌, ◌≤◌, ◌^◌, eqb}
use Rattle.std.proofs.Math.Path.{refl, subst⁻¹}
use Rattle.std.proofs.Common.{ap, ◌∙◌, subst, ⊎_elim, arith, eqb-true}
use Rattle.std.proofs.lemmas.Bool.{false≢true, eqb-false}
use Rattle.std.proofs.Math.Option.{Option, none, some}
use Rattle.theory_lists.specs.Lists.{decide_eq}
use Rattle.theory_reading.specs.Deciding.{Trace}
use Rattle.theory_reading.specs.Calls.{Verdict, is_no, is_yes, not_yet, verdict, is_admitted, least_admitted, NextWord, word, no_word, not_known}
use Rattle.theory_reading.specs.Calls.{unless_word, next_word}

-- ---- The least admitted one of k words -------------------------------------------------------

-- no word from w on, before v, is admitted
abbrev pub NoneAdmitted : ℕ → Trace → ℕ → ℕ → Type 0
NoneAdmitted n t w v = (u : ℕ) → w ≤ u → u < v → is_admitted (verdict n t u) ≡ false

module _ (k n : ℕ) (t : Trace) (w : ℕ) where
  -- the first word, if it is admitted
  least-here : is_admitted (verdict n t w) ≡ true → least_admitted (suc k) n t w ≡ some w
  unfolding least_admitted
  least-here e = rw (e, least_admitted) refl

  -- else that of the others
  least_on : is_admitted (verdict n t w) ≡ false → least_admitted (suc k) n t w ≡ least_admitted k n t (w + 1)
  unfolding least_admitted
  least_on e = rw (e, least_admitted) refl

-- v is admitted, and no word before it
least-word : (k n : ℕ) (t : Trace) (w v : ℕ) → w ≤ v → v < w + k → is_admitted (verdict n t v) ≡ true
    → NoneAdmitted n t w v → least_admitted k n t w ≡ some v
least-word zero n t w v l h e a = absurd (omega arith)
least-word (suc k) n t w v l h e a =
    ⊎_elim (λ (q : w ≡ v). least-here k n t w (rw q e) ∙ ap some q)
    (λ (q : w ≢ v). least_on k n t w (a w (omega arith) (omega (arith, q)))
    ∙ least-word k n t (w + 1) v (omega (arith, q)) (omega arith) e (λ u m s. a u (omega arith) s)) (decide_eq w v)

-- no word is admitted
least-none : (k n : ℕ) (t : Trace) (w : ℕ) → NoneAdmitted n t w (w + k) → least_admitted k n t w ≡ none
unfolding least_admitted
least-none zero n t w a = refl
least-none (suc k) n t w a = least_on k n t w (a w (omega arith) (omega arith)) ∙ least-none k n t (w + 1) (λ u m s. a u (omega arith) (omega arith))

-- ---- Which words lead to which answer --------------------------------------------------------

-- THE NEXT WORD is v, if v is admitted and no word from w on before it.
pub next_word_lem : (n : ℕ) (t : Trace) (w v : ℕ) → w ≤ v → v < t.reading.state.covered → verdict n t v ≡ is_yes
    → NoneAdmitted n t w v → next_word n t w ≡ word v
next_word_lem n t w v l h e a =
    let c = t.reading.state.covered in
    ap (λ (o : Option ℕ). unless_word o (eqb c (2 ^ n))) (least-word (c - w) n t w v l (omega arith) (ap is_admitted e) a)

-- THERE IS NONE, or none is known, if no covered word from w on is admitted.
pub next-none : (n : ℕ) (t : Trace) (w : ℕ) → NoneAdmitted n t w t.reading.state.covered
    → next_word n t w ≡ cond (eqb t.reading.state.covered (2 ^ n)) no_word not_known
next-none n t w a =
    let c = t.reading.state.covered in
    ap (λ (o : Option ℕ). unless_word o (eqb c (2 ^ n))) (least-none (c - w) n t w (λ u m s. a u m (omega arith)))

-- ---- What an answer says ---------------------------------------------------------------------

-- what the search among k words says
abbrev LeastSays : ℕ → ℕ → Trace → ℕ → Option ℕ → Type 0
LeastSays k n t w (some v) = (w ≤ v) × (v < w + k) × (is_admitted (verdict n t v) ≡ true) × NoneAdmitted n t w v
LeastSays k n t w none = NoneAdmitted n t w (w + k)

least-says : (k n : ℕ) (t : Trace) (w : ℕ) → LeastSays k n t w (least_admitted k n t w)
unfolding least_admitted
least-says zero n t w = λ u l h. absurd (omega arith)
least-says (suc k) n t w = go (is_admitted (verdict n t w)) refl (least-says k n t (w + 1))
  where
    -- the word w before the others is not admitted
    before : is_admitted (verdict n t w) ≡ false → (v : ℕ) → NoneAdmitted n t (w + 1) v → NoneAdmitted n t w v
    before e v a u l h = ⊎_elim (λ (q : w ≡ u). subst (λ (i : ℕ). is_admitted (verdict n t i) ≡ false) q e)
        (λ (q : w ≢ u). a u (omega (arith, q)) h) (decide_eq w u)

    on : is_admitted (verdict n t w) ≡ false → (o : Option ℕ) → LeastSays k n t (w + 1) o → LeastSays (suc k) n t w o
    on e none a = λ u l h. before e (w + 1 + k) a u l (omega arith)
    on e (some v) a = (omega (arith, a.0), omega (arith, a.1), a.2, before e v a.3)

    go : (b : Bool) → is_admitted (verdict n t w) ≡ b → LeastSays k n t (w + 1) (least_admitted k n t (w + 1))
        → LeastSays (suc k) n t w (least_admitted (suc k) n t w)
    go true e a = subst⁻¹ (LeastSays (suc k) n t w) (least-here k n t w e) (omega arith, omega arith, e, λ u l h. absurd (omega arith))
    go false e a = subst⁻¹ (LeastSays (suc k) n t w) (least_on k n t w e) (on e (least_admitted k n t (w + 1)) a)

pub admitted-yes : (v : Verdict) → is_admitted v ≡ true → v ≡ is_yes
admitted-yes is_no e = absurd (false≢true e)
admitted-yes is_yes e = refl
admitted-yes not_yet e = absurd (false≢true e)

-- What each answer for the words from w on says.
abbrev pub NextSays : ℕ → Trace → ℕ → NextWord → Type 0
NextSays n t w (word v) = (w ≤ v) × (v < t.reading.state.covered) × (verdict n t v ≡ is_yes) × NoneAdmitted n t w v
NextSays n t w no_word = (t.reading.state.covered ≡ 2 ^ n) × NoneAdmitted n t w t.reading.state.covered
NextSays n t w not_known = (t.reading.state.covered ≢ 2 ^ n) × NoneAdmitted n t w t.reading.state.covered

-- THE ANSWER SAYS SO.
pub next-says : (n : ℕ) (t : Trace) (w : ℕ) → NextSays n t w (next_word n t w)
next-says n t w = go (least_admitted (c - w) n t w) (least-says (c - w) n t w)
  where
    c : ℕ
    c = t.reading.state.covered

    all : (b : Bool) → eqb c (2 ^ n) ≡ b → NoneAdmitted n t w c → NextSays n t w (cond b no_word not_known)
    all true e a = (eqb-true c (2 ^ n) e, a)
    all false e a = (eqb-false c (2 ^ n) e, a)

    go : (o : Option ℕ) → LeastSays (c - w) n t w o → NextSays n t w (unless_word o (eqb c (2 ^ n)))
    go (some v) a = (a.0, omega (arith, a.0, a.1), admitted-yes (verdict n t v) a.2, a.3)
    go none a = all (eqb c (2 ^ n)) refl (λ u l h. a u l (omega arith))
