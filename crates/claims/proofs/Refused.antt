-- Each call is turned down by the causes that apply to it, in the paper's order, and by nothing else. A test of a call's definition stands for a
-- line (`test-line`), a stream's fault for another (`fault-line`). Assumes nothing.
use Rattle.std.specs.Prelude.{◌≡◌, refl, ◌≢◌, ◌⊎◌, ◌↔◌, Bool, true, false, not, ◌&&◌, List, [], ◌∷◌, ℕ, suc, ◌-◌, ◌/◌, ◌≤◌, ◌<◌, ◌^◌, ltb, leb, length, get_or}
use Rattle.std.proofs.Common.{sym, ap, ◌∙◌, subst, inl, inr, ⊎_elim, true≢false, arith, ltb-true, ltb-false, leb-true, leb-false, eqb-true}
use Rattle.std.proofs.Math.Path.{subst⁻¹}
use Rattle.std.proofs.lemmas.Bool.{false≢true, eqb-false, not-true, not-false}
use Rattle.std.proofs.Math.Option.{Option, none, some}
use Prim.{tt}
use Rattle.theory_lists.specs.Lists.{decide_eq, decide-le}
use Rattle.theory_reading.specs.Limits.{option_limit, table_limit, truth_table_least, truth_table_most}
use Rattle.theory_reading.specs.Causes.{option_count, operator_code, size_to_write, work_table, word_range, truth_table}
use Rattle.theory_reading.specs.Causes.{cause_row, Refusal, refusal, Result, refused, done, Test, test, at_call, first_met, gate}
use Rattle.theory_reading.specs.Reading.{Fault, Reading, reading}
use Rattle.theory_reading.proofs.Settled.{never-some, fault-inside, fault-place, fault-leaves}
use Rattle.theory_reading.specs.Calls.{many_options, short_table, not_truth_table, wrong_length, unless_fault}
use Rattle.theory_reading.specs.Calls.{checked_of, check_answer, Verdict, verdict_of, verdict, decide_answer, decide, next_word, find_answer, fill_answer}
use Rattle.theory_reading.specs.Deciding.{decision, trace}
use Rattle.theory_reading.proofs.CallLaws.{decide-decision}
use Rattle.theory_reading.proofs.Prefix.{trace-reading}
use Rattle.theory_writing.specs.Run.{operate, Input, run_covered, answer_of}
use Rattle.theory_writing.specs.Calls.{large_size, write_text, write_answer, large_operator, unless_faults, combine_text, short_tables}
use Rattle.theory_writing.specs.Calls.{combine_answer}
use Rattle.claims.specs.Terms.{Line, meets, faults, Met, First, AllUnmet, Lowest, NamesCall, NamesPlace, TurnedDown}
use Rattle.claims.specs.Terms.{check_lines, decide_lines, find_lines, not_three_to_sixteen, fill_lines, write_lines, combine_lines}

-- ---- Answers ---------------------------------------------------------------------------------

clash : {A B : Type 0} (r : Refusal) (a : A) → refused r ≡ done a → B
clash r a e = let z : ◌≡◌ {A = ℕ} 0 1 = cc in absurd (omega arith)

same-done : {A : Type 0} (a b : A) → done a ≡ done b → a ≡ b
same-done a b e = cc

same-refused : {A : Type 0} (f g : Refusal) → ◌≡◌ {A = Result A} (refused f) (refused g) → f ≡ g
same-refused f g e = cc

same-fault : (g : Fault) (f : Refusal) (k : ℕ) → some g ≡ some (record { cause = f.cause; byte = f.byte }) → f.stream ≡ k
    → refusal g.cause k g.byte ≡ f
same-fault g f k e d = let h : g ≡ record { cause = f.cause; byte = f.byte } = cc in
    ap (λ (i : Fault). refusal i.cause k i.byte) h ∙ ap (λ (j : ℕ). refusal f.cause j f.byte) (sym d)

-- ---- Lines -----------------------------------------------------------------------------------

-- the answer a: the first line that is met says how it is refused; if none is met, it is v
pub record By {A : Type 0} (ls : List Line) (v : A) (a : Result A) : Type 0 where
  pub exactly : (f : Refusal) → (a ≡ refused f) ↔ First ls f
  pub unless : (r : A) → (a ≡ done r) ↔ (AllUnmet ls × (r ≡ v))

-- no line: not refused
by-none : {A : Type 0} (v : A) → By [] v (done v)
by-none v = record {
  exactly = λ f. (λ e. clash f v (sym e), λ h. absurd h);
  unless = λ r.
      (λ e. (tt, sym (same-done v r e)), λ h. ap done (sym h.1));
}

-- a test that is met if P
test-line : {A : Type 0} (P : Type 0) (t : Test) (ts : List Test) (ls : List Line) (v : A) (x : Result A) → (t.met ≡ true → P)
    → (t.met ≡ false → P → ⊥)
    → By ls v (first_met ts x) → By (meets t.gives P ∷ ls) v (first_met (t ∷ ts) x)
unfolding first_met
test-line {A} P t ts ls v x p q h = go t.met p q
  where
    answer : Bool → Result A
    answer m = elim m as (λ _. Result A) [ true ↦ refused t.gives | false ↦ first_met ts x ]

    go : (m : Bool) → (m ≡ true → P) → (m ≡ false → P → ⊥) → By (meets t.gives P ∷ ls) v (answer m)
    go true p q = record {
      exactly = λ f. (
        λ e. inl (p refl, sym (same-refused _ f e)),
        ⊎_elim (λ k. ap refused (sym k.1)) (λ k. absurd (k.0 (p refl))),
      );
      unless = λ r. (λ e. clash _ r e, λ k. absurd (k.0.0 (p refl)));
    }
    go false p q = record {
      exactly = λ f. (
        λ e. inr (q refl, (h.exactly f).0 e),
        ⊎_elim (λ k. absurd (q refl k.0)) (λ k. (h.exactly f).1 k.1),
      );
      unless = λ r. (λ e. let k = (h.unless r).0 e in ((q refl, k.0), k.1), λ k. (h.unless r).1 (k.0.1, k.1));
    }

-- the test stands for the line
abbrev Stands : Test → Line → Type 0
Stands t (meets g P) = (t.gives ≡ g) × (t.met ≡ true → P) × (t.met ≡ false → P → ⊥)
Stands t (faults n k x) = ⊥

-- the tests stand for the first lines, and the rest of the call for the rest
abbrev Opens : {A : Type 0} → List Test → List Line → A → Result A → Type 0
Opens [] ls v x = By ls v x
Opens (t ∷ ts) [] v x = ⊥
Opens (t ∷ ts) (l ∷ ls) v x = Stands t l × Opens ts ls v x

tests-lines : {A : Type 0} (ts : List Test) (ls : List Line) (v : A) (x : Result A) → Opens ts ls v x → By ls v (first_met ts x)
unfolding first_met
tests-lines [] ls v x h = h
tests-lines (t ∷ ts) [] v x h = absurd h
tests-lines (t ∷ ts) (meets g P ∷ ls) v x h =
    subst (λ (f : Refusal). By (meets f P ∷ ls) v (first_met (t ∷ ts) x)) h.0.0
    (test-line P t ts ls v x h.0.1 h.0.2 (tests-lines ts ls v x h.1))
tests-lines (t ∷ ts) (faults n k y ∷ ls) v x h = absurd h.0

-- the fault of a stream
fault-line : {A : Type 0} (n k : ℕ) (x : List ℕ) (ls : List Line) (v : A) (a : Result A) → By ls v a
    → By (faults n k x ∷ ls) v (unless_fault k (reading n x).fault a)
fault-line {A} n k x ls v a h = go (reading n x).fault refl
  where
    go : (o : Option Fault) → (reading n x).fault ≡ o → By (faults n k x ∷ ls) v (unless_fault k o a)
    go none e = record {
      exactly = λ f. (
        λ d. inr (e, (h.exactly f).0 d),
        ⊎_elim (λ m. never-some _ (sym e ∙ m.0)) (λ m. (h.exactly f).1 m.1),
      );
      unless = λ r. (λ d. let m = (h.unless r).0 d in ((e, m.0), m.1), λ m. (h.unless r).1 (m.0.1, m.1));
    }
    go (some g) e = record {
      exactly = λ f. (
        λ d. inl (subst (λ (i : Refusal). Met (faults n k x) i) (same-refused _ f d) (e, refl)),
        ⊎_elim (λ m. ap refused (same-fault g f k (sym e ∙ m.0) m.1)) (λ m. never-some g (sym m.0 ∙ e)),
      );
      unless = λ r. (λ d. clash _ r d, λ m. never-some g (sym m.0.0 ∙ e));
    }

-- ---- What a refusal names --------------------------------------------------------------------

-- a line for a call over the streams xs
abbrev Fits : List (List ℕ) → Line → Type 0
Fits xs (meets g P) = NamesCall g
Fits xs (faults n k x) = (0 < k) × (k ≤ length xs) × (get_or xs (k - 1) [] ≡ x)

abbrev AllFit : List (List ℕ) → List Line → Type 0
AllFit xs [] = Unit {0}
AllFit xs (l ∷ ls) = Fits xs l × AllFit xs ls

met-named : (xs : List (List ℕ)) (l : Line) → Fits xs l → (f : Refusal) → Met l f → NamesCall f ⊎ NamesPlace xs f
met-named xs (meets g P) h f m = inl (subst⁻¹ NamesCall m.1 h)
met-named xs (faults n k x) h f m =
    inr (
      fault-place n x _ m.0,
      fault-leaves n x _ m.0,
      omega (arith, m.1, h.0),
      omega (arith, m.1, h.1),
      subst⁻¹ (λ (j : ℕ). f.byte < length (get_or xs (j - 1) [])) m.1
          (subst⁻¹ (λ (y : List ℕ). f.byte < length y) h.2 (fault-inside n x _ m.0)),
    )

first-named : (xs : List (List ℕ)) (ls : List Line) → AllFit xs ls → (f : Refusal) → First ls f → NamesCall f ⊎ NamesPlace xs f
first-named xs [] h f m = absurd m
first-named xs (l ∷ ls) h f m = ⊎_elim (met-named xs l h.0 f) (λ k. first-named xs ls h.1 f k.1) m

-- ---- The order of the causes -----------------------------------------------------------------

abbrev OnlyFaults : List Line → Type 0
OnlyFaults [] = Unit {0}
OnlyFaults (meets g P ∷ ls) = ⊥
OnlyFaults (faults n k x ∷ ls) = OnlyFaults ls

-- the causes before the streams stand in rising rank, from r on
abbrev Rising : ℕ → List Line → Type 0
Rising r [] = Unit {0}
Rising r (meets g P ∷ ls) = (r ≤ (cause_row g.cause).rank) × Rising (cause_row g.cause).rank ls
Rising r (faults n k x ∷ ls) = OnlyFaults ls

faults-lowest : (r : ℕ) (ls : List Line) → OnlyFaults ls → Lowest r ls
faults-lowest r [] h = tt
faults-lowest r (meets g P ∷ ls) h = absurd h
faults-lowest r (faults n k x ∷ ls) h = faults-lowest r ls h

rising-lowest : (r s : ℕ) (ls : List Line) → r ≤ s → Rising s ls → Lowest r ls
rising-lowest r s [] l h = tt
rising-lowest r s (meets g P ∷ ls) l h = (λ _. omega (arith, l, h.0), rising-lowest r (cause_row g.cause).rank ls (omega (arith, l, h.0)) h.1)
rising-lowest r s (faults n k x ∷ ls) l h = faults-lowest r ls h

first-lowest : (r : ℕ) (ls : List Line) → Rising r ls → (f : Refusal) → First ls f → Lowest (cause_row f.cause).rank ls
first-lowest r [] h f m = absurd m
first-lowest r (meets g P ∷ ls) h f m = let s = (cause_row g.cause).rank in ⊎_elim
    (λ k. subst⁻¹ (λ (i : Refusal). Lowest (cause_row i.cause).rank (meets g P ∷ ls)) k.1
    (λ _. omega arith, rising-lowest s s ls (omega arith) h.1))
    (λ k. (λ p. absurd (k.0 p), first-lowest s ls h.1 f k.1)) m
first-lowest r (faults n k x ∷ ls) h f m = faults-lowest (cause_row f.cause).rank ls h

turned_down : {A : Type 0} (xs : List (List ℕ)) (ls : List Line) (v : A) (a : Result A) → AllFit xs ls → Rising 1 ls → By ls v a → TurnedDown xs ls a
turned_down xs ls v a h i b = record {
  exactly = b.exactly;
  unless = (λ k. ((b.unless k.0).0 k.1).0, λ k. (v, (b.unless v).1 (k, refl)));
  lowest = λ f e. first-lowest 1 ls i f ((b.exactly f).0 e);
  names = λ f e. first-named xs ls h f ((b.exactly f).0 e);
}

pub not-above : (k limit : ℕ) → (limit < k → ⊥) → k ≤ limit
not-above k limit h = ⊎_elim (λ (l : k ≤ limit). l) (λ (l : limit < k). absurd (h l)) (decide-le k limit)

pub not-apart : (k j : ℕ) → (k ≢ j → ⊥) → k ≡ j
not-apart k j h = ⊎_elim (λ (e : k ≡ j). e) (λ (d : k ≢ j). absurd (h d)) (decide_eq k j)

-- ---- The calls -------------------------------------------------------------------------------

above : (f : Refusal) (limit k : ℕ) → Stands (test f (ltb limit k)) (meets f (limit < k))
above f limit k = (refl, ltb-true limit k, λ e h. omega (arith, ltb-false limit k e, h))

from : (f : Refusal) (least k : ℕ) → Stands (test f (leb least k)) (meets f (least ≤ k))
from f least k = (refl, leb-true least k, λ e h. omega (arith, leb-false least k e, h))

not-three-to-sixteen : (n : ℕ) → Stands (not_truth_table n) (meets (at_call option_count) (not_three_to_sixteen n))
not-three-to-sixteen n = go (leb truth_table_least n) refl (leb n truth_table_most) refl
  where
    go : (p : Bool) → leb truth_table_least n ≡ p → (q : Bool) → leb n truth_table_most ≡ q
        → Stands (test (at_call option_count) (not (p && q))) (meets (at_call option_count) (not_three_to_sixteen n))
    go true a true b =
        let l = leb-true truth_table_least n a in
        let m = leb-true n truth_table_most b in
        (refl, λ e. absurd (false≢true e), λ e. ⊎_elim (λ h. omega (arith, l, h)) (λ h. omega (arith, m, h)))
    go true a false b = (refl, λ e. inr (leb-false n truth_table_most b), λ e. absurd (true≢false e))
    go false a q b = (refl, λ e. inl (leb-false truth_table_least n a), λ e. absurd (true≢false e))

wrong-length : (n : ℕ) (truths : List ℕ) → Stands (wrong_length n truths) (meets (at_call truth_table) (length truths ≢ 2 ^ n / 8))
wrong-length n truths = (refl, λ e. eqb-false _ _ (not-true _ e), λ e h. h (eqb-true _ _ (not-false _ e)))

-- a call over the stream x alone
one-stream : (n : ℕ) (x : List ℕ) → AllFit (x ∷ []) (faults n 1 x ∷ [])
one-stream n x = ((omega arith, omega arith, refl), tt)

pub check-by : (n : ℕ) (x : List ℕ) (records : ℕ) → By (check_lines n x records) (checked_of (reading n x).state) (check_answer n x records)
unfolding check_answer
check-by n x records = tests-lines (many_options n ∷ short_table records ∷ []) _ _ _
    (above (at_call option_count) option_limit n, (above (at_call work_table) records table_limit, fault-line n 1 x [] _ _ (by-none _)))

pub check-lines : (n : ℕ) (x : List ℕ) (records : ℕ) → TurnedDown (x ∷ []) (check_lines n x records) (check_answer n x records)
check-lines n x records = turned_down (x ∷ []) _ _ _ ((refl, refl, refl, refl), ((refl, refl, refl, refl), one-stream n x))
    (omega arith, (omega arith, tt)) (check-by n x records)

-- a call that answers v for a word w
word-by : {A : Type 0} (n : ℕ) (x : List ℕ) (w records : ℕ) (v : A) → By (decide_lines n x w records) v
    (gate (many_options n ∷ short_table records ∷ test (at_call word_range) (leb (2 ^ n) w) ∷ []) (unless_fault 1 (trace n x).reading.fault (done v)))
unfolding gate
word-by n x w records v =
    let f : (trace n x).reading.fault ≡ (reading n x).fault = ap (λ (r : Reading). r.fault) (trace-reading n x) in
    let rest = subst⁻¹ (λ (o : Option Fault). By (faults n 1 x ∷ []) v (unless_fault 1 o (done v))) f (fault-line n 1 x [] v (done v) (by-none v)) in
    tests-lines (many_options n ∷ short_table records ∷ test (at_call word_range) (leb (2 ^ n) w) ∷ []) _ v _
    (above (at_call option_count) option_limit n, (above (at_call work_table) records table_limit, (from (at_call word_range) (2 ^ n) w, rest)))

word-lines : {A : Type 0} (n : ℕ) (x : List ℕ) (w records : ℕ) (v : A) (a : Result A) → By (decide_lines n x w records) v a
    → TurnedDown (x ∷ []) (decide_lines n x w records) a
word-lines n x w records v a =
    turned_down (x ∷ []) _ v a ((refl, refl, refl, refl), ((refl, refl, refl, refl), ((refl, refl, refl, refl), one-stream n x)))
    (omega arith, (omega arith, (omega arith, tt)))

pub decide-lines : (n : ℕ) (x : List ℕ) (w records : ℕ) → TurnedDown (x ∷ []) (decide_lines n x w records) (decide_answer n x w records)
unfolding decide_answer
decide-lines n x w records = word-lines n x w records _ _ (word-by n x w records (verdict n (trace n x) w))

pub find-by : (n : ℕ) (x : List ℕ) (w records : ℕ) → By (find_lines n x w records) (next_word n (trace n x) w) (find_answer n x w records)
unfolding find_answer
find-by n x w records = word-by n x w records (next_word n (trace n x) w)

pub find-lines : (n : ℕ) (x : List ℕ) (w records : ℕ) → TurnedDown (x ∷ []) (find_lines n x w records) (find_answer n x w records)
find-lines n x w records = word-lines n x w records _ _ (find-by n x w records)

-- what deciding answers is what the stream decides
pub decide-decided : {R : Type 0} (z : R) (n : ℕ) (x : List ℕ) (w : ℕ) (t : List R) (r : Verdict) → (decide z n x w t).answer ≡ done r
    → r ≡ verdict_of (decision n x w)
unfolding decide
decide-decided z n x w t r e =
    let m = (decide-lines n x w (length t)).unless.0 (r, e) in
    let h = decide-decision z n x w t (not-above n option_limit m.0) (not-above table_limit (length t) m.1.0) (below m.1.1.0)
    m.1.1.1.0 in
    same-done r (verdict_of (decision n x w)) (sym e ∙ h)
  where
    below : (2 ^ n ≤ w → ⊥) → w < 2 ^ n
    below h = not-above (suc w) (2 ^ n) (λ l. h (omega (arith, l)))

pub fill-by : (n : ℕ) (x truths : List ℕ) (records : ℕ) → By (fill_lines n x truths records) (reading n x).state.covered
    (fill_answer n x truths records)
unfolding fill_answer
fill-by n x truths records = tests-lines (not_truth_table n ∷ short_table records ∷ wrong_length n truths ∷ []) _ _ _
    (not-three-to-sixteen n, (above (at_call work_table) records table_limit, (wrong-length n truths, fault-line n 1 x [] _ _ (by-none _))))

pub fill-lines : (n : ℕ) (x truths : List ℕ) (records : ℕ) → TurnedDown (x ∷ []) (fill_lines n x truths records) (fill_answer n x truths records)
fill-lines n x truths records =
    turned_down (x ∷ []) _ _ _ ((refl, refl, refl, refl), ((refl, refl, refl, refl), ((refl, refl, refl, refl), one-stream n x)))
    (omega arith, (omega arith, (omega arith, tt))) (fill-by n x truths records)

pub write-by : (n size : ℕ) (truths out : List ℕ) (records : ℕ)
    → By (write_lines n size truths records) (answer_of n (2 ^ n) (write_text n size truths) out) (write_answer n size truths out records)
unfolding write_answer
write-by n size truths out records = tests-lines (not_truth_table n ∷ large_size size ∷ short_table records ∷ wrong_length n truths ∷ []) _ _ _ (
  not-three-to-sixteen n,
  (
    above (at_call size_to_write) table_limit size,
    (above (at_call work_table) records table_limit, (wrong-length n truths, by-none _)),
  ),
)

pub write-lines : (n size : ℕ) (truths out : List ℕ) (records : ℕ) → TurnedDown [] (write_lines n size truths records)
    (write_answer n size truths out records)
write-lines n size truths out records =
    turned_down [] _ _ _ ((refl, refl, refl, refl), ((refl, refl, refl, refl), ((refl, refl, refl, refl), ((refl, refl, refl, refl), tt))))
    (omega arith, (omega arith, (omega arith, (omega arith, tt)))) (write-by n size truths out records)

-- the streams of a run, and what they are as its inputs
abbrev pub Streams : List ℕ → List ℕ → List (List ℕ)
Streams x y = x ∷ y ∷ []

abbrev pub inputs : ℕ → List ℕ → List ℕ → List Input
inputs n x y = decision n x ∷ decision n y ∷ []

pub combine-by : (n op size : ℕ) (x y out : List ℕ) (a b c : ℕ)
    → By (combine_lines n op size x y a b c) (answer_of n (run_covered (operate op) n (inputs n x y)) (combine_text n op size (Streams x y)) out)
    (combine_answer n op size (Streams x y) out (a ∷ b ∷ c ∷ []))
unfolding combine_answer unless_faults
combine-by n op size x y out a b c =
    let short : (k : ℕ) → Stands (short_table k) (meets (at_call work_table) (k < table_limit)) = λ k. above (at_call work_table) k table_limit in
    let v = answer_of n (run_covered (operate op) n (inputs n x y)) (combine_text n op size (Streams x y)) out in
    let rest = fault-line n 1 x (faults n 2 y ∷ []) v _ (fault-line n 2 y [] v (done v) (by-none v)) in
    tests-lines (many_options n ∷ large_operator 2 op ∷ large_size size ∷ short_tables (a ∷ b ∷ c ∷ [])) _ v _ (
      above (at_call option_count) option_limit n,
      (
        from (at_call operator_code) 16 op,
        (above (at_call size_to_write) table_limit size, (short a, (short b, (short c, rest)))),
      ),
    )

pub combine-lines : (n op size : ℕ) (x y out : List ℕ) (a b c : ℕ)
    → TurnedDown (x ∷ y ∷ []) (combine_lines n op size x y a b c) (combine_answer n op size (x ∷ y ∷ []) out (a ∷ b ∷ c ∷ []))
combine-lines n op size x y out a b c = turned_down (x ∷ y ∷ []) _ _ _ (
  (refl, refl, refl, refl),
  (
    (refl, refl, refl, refl),
    (
      (refl, refl, refl, refl),
      (
        (refl, refl, refl, refl),
        (
          (refl, refl, refl, refl),
          (
            (refl, refl, refl, refl),
            ((omega arith, omega arith, refl), ((omega arith, omega arith, refl), tt)),
          ),
        ),
      ),
    ),
  ),
)
    (omega arith, (omega arith, (omega arith, (omega arith, (omega arith, (omega arith, tt)))))) (combine-by n op size x y out a b c)
