-- Numbers above 2^32 - 1, read as 2^32 - 1, are taken alike: they are above every size and in no table. Assumes nothing.
use Rattle.std.specs.Prelude.{◌≡◌, Bool, true, false, List, ℕ, suc, ◌+◌, ◌<◌, ◌≤◌, length}
use Rattle.std.proofs.Math.Path.{refl, ap, ap₂}
use Rattle.std.proofs.Common.{sym, ◌∙◌, ⊎_elim, arith}
use Rattle.std.proofs.Math.Bool.{cond}
use Rattle.std.proofs.Math.ListN.{get_or-eq_default}
use borrow.Author.Tests.{lt-ltb, ne_eqb}
use Rattle.theory_lists.specs.Lists.{decide-le}
use Rattle.theory_reading.specs.Limits.{table_limit}
use Rattle.theory_reading.specs.LimitLaws.{few-numbers}
use Rattle.theory_reading.specs.Nodes.{no_node, node}
use Rattle.theory_reading.specs.Causes.{declared_size, not_in_table, bad_number}
use Rattle.theory_reading.specs.Element.{Element, opening, number, constant, turn, closing, storing, end, Place, Outcome, got, fault, ran_out, step}
use Rattle.theory_reading.specs.Reading.{State, Reading, goes, fails, is_start, sized, found, is_bad, stored, with_element, barred_colon, after, advance}
use Rattle.theory_reading.specs.Prefix.{byte_at}
use Rattle.theory_reading.proofs.Prefix.{chosen, advance-chosen}
use Rattle.scanner.specs.Capped.{number_most, cap, cap_element, cap_outcome}

-- a number that code holds is as it was
cap-self : (v : ℕ) → v ≤ number_most → cap v ≡ v
cap-self v h = omega arith

-- what is alike for all numbers above the limit is so for capped ones
by-cap : (f : ℕ → Reading) (x : Reading) → ((v : ℕ) → table_limit < v → f v ≡ x) → (v : ℕ) → f (cap v) ≡ f v
by-cap f x k v = ⊎_elim
    (λ h. ap f (cap-self v h))
    (λ h. k (cap v) (omega (arith, h, few-numbers)) ∙ sym (k v (omega (arith, h, few-numbers))))
    (decide-le v number_most)

-- A number above the limit is refused without the next token at its value, as a size, as a node and to store.
module _ (n : ℕ) (s : State) (d : ℕ) (q : Place) (small : s.size ≤ table_limit) (short : length s.table ≤ suc s.size) where
  beyond-sized : (v : ℕ) → table_limit < v → sized s q d v ≡ fails s declared_size d
  beyond-sized v h = rw (lt-ltb table_limit v h) refl

  beyond-found : (v : ℕ) → table_limit < v → found n s q d v (node s.table v) ≡ fails s not_in_table d
  beyond-found v h = ap (found n s q d v) (get_or-eq_default s.table no_node {n = v} (omega (arith, small, short, h)))

  beyond-number : (v : ℕ) → table_limit < v → with_element n s d (number v) q
      ≡ cond (is_start s.place.context) (fails s declared_size d) (fails s not_in_table d)
  unfolding with_element
  beyond-number v h = ap₂ (λ (x y : Reading). cond (is_start s.place.context) x y) (beyond-sized v h) (beyond-found v h)

  beyond-bad : (v : ℕ) → table_limit < v → is_bad s v ≡ true
  unfolding is_bad
  beyond-bad v h = rw (ne_eqb v 0 (λ e. omega (arith, e, h)), lt-ltb s.size v (omega (arith, small, h))) refl

  beyond-storing : (v : ℕ) → table_limit < v → with_element n s d (storing v) q ≡ fails s bad_number (s.place.at + 1)
  unfolding with_element
  beyond-storing v h = ap (λ (b : Bool). cond b (fails s bad_number (s.place.at + 1)) (goes (stored s q v))) (beyond-bad v h)

-- A CAPPED NUMBER is taken as the number is.
pub with-capped : (n : ℕ) (s : State) (d : ℕ) (e : Element) (q : Place) → s.size ≤ table_limit → length s.table ≤ suc s.size
    → with_element n s d (cap_element e) q ≡ with_element n s d e q
with-capped n s d opening q small short = refl
with-capped n s d (number v) q small short = by-cap (λ (w : ℕ). with_element n s d (number w) q) _ (beyond-number n s d q small short) v
with-capped n s d constant q small short = refl
with-capped n s d turn q small short = refl
with-capped n s d closing q small short = refl
with-capped n s d (storing v) q small short = by-cap (λ (w : ℕ). with_element n s d (storing w) q) _ (beyond-storing n s d q small short) v
with-capped n s d end q small short = refl

-- What a step brings is the same with its number capped.
pub after-capped : (n : ℕ) (s : State) (d : ℕ) (o : Outcome) (q : Place) → s.size ≤ table_limit → length s.table ≤ suc s.size
    → after n s d (cap_outcome o) q ≡ after n s d o q
unfolding after
after-capped n s d (got e) q small short = with-capped n s d e q small short
after-capped n s d (fault c b) q small short = refl
after-capped n s d ran_out q small short = refl

-- A STEP OF READING goes by the step of the place with its number capped, which is what code has.
pub advance-seen : (n : ℕ) (bytes : List ℕ) (s : State) → s.size ≤ table_limit → length s.table ≤ suc s.size
    → advance n bytes s ≡ chosen n s (byte_at bytes s) (barred_colon s (byte_at bytes s)) (cap_outcome (step s.place bytes).outcome)
    (step s.place bytes).place
advance-seen n bytes s small short = advance-chosen n bytes s ∙ go (barred_colon s (byte_at bytes s))
  where
    go : (t : Bool) → let x = step s.place bytes in chosen n s (byte_at bytes s) t x.outcome x.place
        ≡ chosen n s (byte_at bytes s) t (cap_outcome x.outcome) x.place
    go true = refl
    go false = sym (after-capped n s _ (step s.place bytes).outcome (step s.place bytes).place small short)
