-- Finding the next admitted word, and listing by it: an answer says of the words what the terms say (`found`); there is one such answer (`next_one`),
-- and a longer stream leaves it unless it was "not known" (`lengthened`); so listing gives the admitted words that are covered. Assumes nothing.
use Rattle.std.specs.Prelude.{◌≡◌, refl, ◌≢◌, ◌⊎◌, ◌↔◌, Bool, true, false, List, [], ◌∷◌, ◌++◌, ℕ, zero, suc, ◌+◌, ◌≤◌, ◌<◌, ◌^◌, eqb}
use Rattle.std.proofs.Common.{sym, ap, ap₂, ◌∙◌, subst, inl, inr, ⊎_elim, true≢false, arith, eq-eqb}
use Rattle.std.proofs.Math.Path.{subst⁻¹}
use Rattle.std.proofs.Math.Option.{none}
use Prim.{tt}
use Rattle.std.proofs.Math.ListN.{length, replicate, length-replicate}
use Rattle.theory_lists.specs.Lists.{decide_eq, decide-le, All, all_map, has, all-has, or_left, or_right}
use Rattle.theory_lists.specs.Prefixes.{Begins}
use Rattle.theory_reading.specs.Limits.{option_limit, table_limit}
use Rattle.theory_reading.specs.Causes.{done}
use Rattle.theory_reading.specs.Reading.{reading}
use Rattle.theory_reading.specs.Deciding.{Decision, undecided, decided, decision, trace}
use Rattle.theory_reading.specs.Calls.{is_yes, verdict_of, verdict, is_admitted, Read, NextWord, word, no_word, not_known, next_word, find_next}
use Rattle.theory_reading.specs.Covered.{covered}
use Rattle.theory_reading.proofs.Covered.{trace-covered, covered-decided, covered-most, covered-grows, decision-stands}
use Rattle.theory_reading.proofs.CallLaws.{verdict-decision}
use Rattle.theory_reading.specs.NextWord.{NoneAdmitted, NextSays, next-says}
use Rattle.claims.specs.Terms.{DecidedNo, NextIs, Answers, Lists, RisingWords}
use Rattle.claims.proofs.Refused.{find-by}

-- ---- What an answer says ---------------------------------------------------------------------

yes_or_no : {A : Type 0} (d : Decision) → d ≡ decided true → d ≡ decided false → A
yes_or_no d e f = let z : true ≡ false = cc in absurd (true≢false z)

module _ (n : ℕ) (x : List ℕ) where
  -- a covered word that is not admitted is decided, and with no
  covered-no : (w : ℕ) → w < covered n x → is_admitted (verdict n (trace n x) w) ≡ false → decision n x w ≡ decided false
  covered-no w h e =
      let l : w < 2 ^ n = omega (arith, h, covered-most n x) in
      let d = covered-decided n x w l h in
      go _ d (sym (ap (λ (k : Decision). is_admitted (verdict_of k)) d) ∙ sym (ap is_admitted (verdict-decision n x w l)) ∙ e)
    where
      go : (b : Bool) → decision n x w ≡ decided b → is_admitted (verdict_of (decided b)) ≡ false → decision n x w ≡ decided false
      go true d f = absurd (true≢false f)
      go false d f = d

  -- a word that is admitted is decided with yes
  verdict-yes : (w : ℕ) → w < 2 ^ n → verdict n (trace n x) w ≡ is_yes → decision n x w ≡ decided true
  verdict-yes w h e = go (decision n x w) (sym (verdict-decision n x w h) ∙ e)
    where
      go : (d : Decision) → verdict_of d ≡ is_yes → d ≡ decided true
      go undecided f = let z : ◌≡◌ {A = ℕ} 0 1 = cc in absurd (omega arith)
      go (decided false) f = let z : ◌≡◌ {A = ℕ} 0 1 = cc in absurd (omega arith)
      go (decided true) f = refl

  -- no word from w on, below v, is admitted, and all of them are covered
  none-no : (w v : ℕ) → v ≤ covered n x → NoneAdmitted n (trace n x) w v → DecidedNo n x w v
  none-no w v h a u l k = covered-no u (omega (arith, h, k)) (a u l k)

  next-is : (w : ℕ) (r : NextWord) → NextSays n (trace n x) w r → NextIs n x w r
  next-is w (word v) s =
      let h : v < covered n x = omega (arith, s.1, trace-covered n x) in
      (s.0, h, verdict-yes v (omega (arith, h, covered-most n x)) s.2, none-no w v (omega (arith, h)) s.3)
  next-is w no_word s =
      let e : covered n x ≡ 2 ^ n = omega (arith, s.0, trace-covered n x) in
      (e, none-no w (2 ^ n) (omega (arith, e)) (λ u l h. s.1 u l (omega (arith, h, s.0))))
  next-is w not_known s = (
    omega (arith, s.0, trace-covered n x, covered-most n x),
    none-no w (covered n x) (omega arith) (λ u l h. s.1 u l (omega (arith, h, trace-covered n x))),
  )

  -- WHAT WAS FOUND
  pub found : {R : Type 0} (z : R) (w : ℕ) (t : List R) (r : NextWord) → (find_next z n x w t).answer ≡ done r → NextIs n x w r
  unfolding find_next
  found z w t r e = next-is w r (subst⁻¹ (NextSays n (trace n x) w) (((find-by n x w (length t)).unless r).0 e).1 (next-says n (trace n x) w))

-- ---- One answer ------------------------------------------------------------------------------

module _ (n : ℕ) (x : List ℕ) where
  -- a word decided with yes is none of those decided with no
  not-among : {A : Type 0} (w v u : ℕ) → DecidedNo n x w v → w ≤ u → u < v → decision n x u ≡ decided true → A
  not-among w v u a l h e = yes_or_no (decision n x u) e (a u l h)

  -- THERE IS ONE ANSWER.
  pub next_one : (w : ℕ) (r r' : NextWord) → NextIs n x w r → NextIs n x w r' → r ≡ r'
  next_one w (word v) (word v') p q =
      ⊎_elim (λ (l : v ≤ v'). ⊎_elim (λ (e : v ≡ v'). ap word e)
      (λ (d : v ≢ v'). not-among w v' v q.3 p.0 (omega (arith, l, d)) p.2) (decide_eq v v'))
      (λ (l : v' < v). not-among w v v' p.3 q.0 l q.2) (decide-le v v')
  next_one w (word v) no_word p q = not-among w (2 ^ n) v q.1 p.0 (omega (arith, p.1, q.0)) p.2
  next_one w (word v) not_known p q = not-among w (covered n x) v q.1 p.0 p.1 p.2
  next_one w no_word (word v) p q = not-among w (2 ^ n) v p.1 q.0 (omega (arith, q.1, p.0)) q.2
  next_one w no_word no_word p q = refl
  next_one w no_word not_known p q = absurd (omega (arith, p.0, q.0))
  next_one w not_known (word v) p q = not-among w (covered n x) v p.1 q.0 q.1 q.2
  next_one w not_known no_word p q = absurd (omega (arith, p.0, q.0))
  next_one w not_known not_known p q = refl

  -- A LONGER STREAM leaves what an answer says, unless it was "not known".
  next-stands : (u : List ℕ) (w : ℕ) (r : NextWord) → NextIs n x w r → (r ≡ not_known) ⊎ NextIs n (x ++ u) w r
  next-stands u w (word v) p =
      let most = covered-most n x in
      inr (
        p.0,
        omega (arith, p.1, covered-grows n x u),
        decision-stands n x u v true (omega (arith, p.1, most)) p.2,
        λ i l h. decision-stands n x u i false (omega (arith, h, p.1, most)) (p.3 i l h),
      )
  next-stands u w no_word p = inr (
    omega (arith, p.0, covered-grows n x u, covered-most n (x ++ u)),
    λ i l h. decision-stands n x u i false h (p.1 i l h),
  )
  next-stands u w not_known p = inl refl

pub lengthened : (n : ℕ) (x u : List ℕ) (w : ℕ) (r r' : NextWord) → NextIs n x w r → NextIs n (x ++ u) w r' → (r ≡ not_known) ⊎ (r' ≡ r)
lengthened n x u w r r' p q = ⊎_elim inl (λ s. inr (next_one n (x ++ u) w r' r q s)) (next-stands n x u w r p)

-- ---- Listing ---------------------------------------------------------------------------------

module _ {R : Type 0} (z : R) (n : ℕ) (x : List ℕ) where
  -- what a call that was made says
  answer-says : (w : ℕ) (r : NextWord) → Answers z n x w r → NextIs n x w r
  answer-says w r a = found n x z w a.table r (sym (ap (λ (c : Read NextWord R). c.answer) a.made) ∙ a.gives)

  -- the words listed stand from w on
  lists-from : (w : ℕ) (vs : List ℕ) → Lists z n x w vs → All (λ v. w ≤ v) vs
  lists-from w [] s = tt
  lists-from w (v ∷ vs) s =
      let l = (answer-says w (word v) s.0).0 in
      (l, all_map (λ u. v + 1 ≤ u) (λ u. w ≤ u) (λ u h. omega (arith, l, h)) vs (lists-from (v + 1) vs s.1))

  -- THEY RISE.
  pub lists-rise : (w : ℕ) (vs : List ℕ) → Lists z n x w vs → RisingWords vs
  lists-rise w [] s = tt
  lists-rise w (v ∷ vs) s =
      (all_map (λ u. v + 1 ≤ u) (λ u. v < u) (λ u h. omega (arith, h)) vs (lists-from (v + 1) vs s.1), lists-rise (v + 1) vs s.1)

  -- each is covered and admitted
  lists-admitted : (w : ℕ) (vs : List ℕ) → Lists z n x w vs → All (λ v. (v < covered n x) × (decision n x v ≡ decided true)) vs
  lists-admitted w [] s = tt
  lists-admitted w (v ∷ vs) s = let p = answer-says w (word v) s.0 in ((p.1, p.2), lists-admitted (v + 1) vs s.1)

  -- each covered admitted word from w on is among them
  lists-all : (w : ℕ) (vs : List ℕ) → Lists z n x w vs → (u : ℕ) → w ≤ u → u < covered n x → decision n x u ≡ decided true → has u vs ≡ true
  lists-all w [] s u l h e = ⊎_elim
      (λ (k : 2 ^ n ≤ w). absurd (omega (arith, k, l, h, covered-most n x)))
      (⊎_elim (λ a. not-among n x w (2 ^ n) u (answer-says w no_word a).1 l (omega (arith, h, covered-most n x)) e)
      (λ a. not-among n x w (covered n x) u (answer-says w not_known a).1 l h e)) s
  lists-all w (v ∷ vs) s u l h e =
      ⊎_elim (λ (k : v ≤ u). ⊎_elim (λ (q : v ≡ u). or_left (eqb v u) (has u vs) (eq-eqb v u q))
      (λ (q : v ≢ u). or_right (eqb v u) (has u vs) (lists-all (v + 1) vs s.1 u (omega (arith, k, q)) h e)) (decide_eq v u))
      (λ (k : u < v). not-among n x w v u (answer-says w (word v) s.0).3 l k e) (decide-le v u)

  -- LISTING FROM 0 gives the covered admitted words.
  pub lists-words : (vs : List ℕ) → Lists z n x 0 vs → (v : ℕ) → (has v vs ≡ true) ↔ ((v < covered n x) × (decision n x v ≡ decided true))
  lists-words vs s v = (
    all-has (λ v. (v < covered n x) × (decision n x v ≡ decided true)) v vs (lists-admitted 0 vs s),
    λ h. lists-all 0 vs s v (omega arith) h.0 h.1,
  )

  -- a call that meets no cause is answered
  answered : n ≤ option_limit → (reading n x).fault ≡ none → (w : ℕ) → w < 2 ^ n → Answers z n x w (next_word n (trace n x) w)
  unfolding find_next
  answered small e w h =
      let t = replicate table_limit z in
      let l : length t ≡ table_limit = length-replicate table_limit z in
      record {
        table = t;
        call = find_next z n x w t;
        made = refl;
        gives = ((find-by n x w (length t)).unless (next_word n (trace n x) w)).1
            (((λ k. omega (arith, k, small)), ((λ k. omega (arith, k, l)), ((λ k. omega (arith, k, h)), (e, tt)))), refl);
      }

  -- LISTING ENDS, if k words are left from w on.
  listed : n ≤ option_limit → (reading n x).fault ≡ none → (k w : ℕ) → 2 ^ n ≤ w + k → (vs : List ℕ) × Lists z n x w vs
  listed small e zero w h = ([], inl (omega (arith, h)))
  listed small e (suc k) w h = ⊎_elim (λ (l : 2 ^ n ≤ w). ([], inl l))
      (λ (l : w < 2 ^ n). go (next_word n (trace n x) w) (answered small e w l) (λ v j. listed small e k (v + 1) (omega (arith, h, j))))
      (decide-le (2 ^ n) w)
    where
      go : (r : NextWord) → Answers z n x w r → ((v : ℕ) → w ≤ v → (vs : List ℕ) × Lists z n x (v + 1) vs) → (vs : List ℕ) × Lists z n x w vs
      go (word v) a on = let s = on v (answer-says w (word v) a).0 in (v ∷ s.0, (a, s.1))
      go no_word a on = ([], inr (inl a))
      go not_known a on = ([], inr (inr a))

  pub lists-exist : n ≤ option_limit → (reading n x).fault ≡ none → (vs : List ℕ) × Lists z n x 0 vs
  lists-exist small e = listed small e (2 ^ n) 0 (omega arith)

-- ---- Listing a longer stream -----------------------------------------------------------------

same_word : (v v' : ℕ) → word v ≡ word v' → v' ≡ v
same_word v v' e = cc

word-no-word : {A : Type 0} (v : ℕ) → word v ≡ no_word → A
word-no-word v e = let i : ◌≡◌ {A = ℕ} 0 1 = cc in absurd (omega arith)

word-not-known : {A : Type 0} (v : ℕ) → word v ≡ not_known → A
word-not-known v e = let i : ◌≡◌ {A = ℕ} 0 1 = cc in absurd (omega arith)

module _ {R : Type 0} (z : R) (n : ℕ) (x u : List ℕ) where
  -- a word that was found stands
  word_stands : (w v : ℕ) (r : NextWord) → Answers z n x w (word v) → Answers z n (x ++ u) w r → word v ≡ r
  word_stands w v r a b = ⊎_elim (word-not-known v) (λ (e : r ≡ word v). sym e)
      (lengthened n x u w (word v) r (answer-says z n x w (word v) a) (answer-says z n (x ++ u) w r b))

  -- THE LISTING of a longer stream begins with that of the shorter one.
  pub lists-begin : (w : ℕ) (vs vs' : List ℕ) → Lists z n x w vs → Lists z n (x ++ u) w vs' → Begins vs vs'
  lists-begin w [] vs' s s' = (vs', refl)
  lists-begin w (v ∷ vs) [] s s' =
      let p = answer-says z n x w (word v) s.0 in
      ⊎_elim (λ (k : 2 ^ n ≤ w). absurd (omega (arith, k, p.0, p.1, covered-most n x)))
      (⊎_elim (λ a. word-no-word v (word_stands w v no_word s.0 a)) (λ a. word-not-known v (word_stands w v not_known s.0 a))) s'
  lists-begin w (v ∷ vs) (v' ∷ vs') s s' =
      let e = same_word v v' (word_stands w v (word v') s.0 s'.0) in
      let b = lists-begin (v + 1) vs vs' s.1 (subst (λ (i : ℕ). Lists z n (x ++ u) (i + 1) vs') e s'.1) in
      (b.0, ap₂ ◌∷◌ e b.1)
