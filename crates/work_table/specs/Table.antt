-- The lent table as code reads and writes it: the record of number k stands at place k - 1, and only the numbers up to the size count.
-- Assumes nothing.
use Rattle.std.specs.Prelude.{◌≡◌, refl, Bool, true, false, cond, ◌||◌, List, ℕ, ◌+◌, ◌-◌, ◌<◌, ◌≤◌, ltb, eqb, get_or, set}
use Rattle.std.proofs.Common.{ap, ◌∙◌, ⊎_elim, arith, ne_eqb, lt-ltb, le-ltb}
use Rattle.theory_lists.specs.Lists.{decide_eq}
use Rattle.node_records.specs.Records.{no_record}
use Rattle.node_records.specs.Words.{with_words}
use Rattle.record_tables.specs.Entries.{entry_at, put_entry}
use Rattle.node_records.specs.declared.NodeRecord.{NodeRecord}

-- the record of number k in a table of z numbers
abbrev pub get_in : List NodeRecord → ℕ → ℕ → NodeRecord
get_in t z k = cond (eqb k 0 || ltb z k) no_record (get_or t (k - 1) no_record)

-- one parent more or less
abbrev pub counted_to : ℕ → Bool → ℕ
counted_to p true = cond (ltb p 4294967295) (p + 1) p
counted_to p false = p - 1

abbrev pub counted_record : NodeRecord → Bool → NodeRecord
counted_record x more = record {
  level = x.level;
  first = x.first;
  second = x.second;
  complement = x.complement;
  stamp = x.stamp;
  parents = counted_to x.parents more;
  admits = x.admits;
  refuses = x.refuses;
}

-- likewise of the number k in a table of z numbers
abbrev pub count_at : List NodeRecord → ℕ → ℕ → Bool → List NodeRecord
count_at t z k more = cond (eqb k 0 || ltb z k) t (set t (k - 1) (counted_record (get_or t (k - 1) no_record) more))

-- the record x with what its children in a table of z numbers say of the words below
abbrev pub worded_in : List NodeRecord → ℕ → NodeRecord → NodeRecord
worded_in t z x = with_words x (get_in t z x.first) (get_in t z x.second)

-- the number k is given to x: the children of the record that had it lose a parent, those of x get one
unfoldable pub store_at : List NodeRecord → ℕ → ℕ → NodeRecord → List NodeRecord
store_at t z k x =
    let old = get_in t z k in
    count_at (count_at (count_at (count_at (put_entry t k (worded_in t z x)) z old.first false) z old.second false) z x.first true) z x.second true

-- ---- One record ------------------------------------------------------------------------------

module _ (t : List NodeRecord) where
  pub get_none : (z k : ℕ) → k ≡ 0 → no_record ≡ get_in t z k
  get_none z k e = rw e refl

  pub get-above : (z k : ℕ) → z < k → no_record ≡ get_in t z k
  get-above z k l = rw (ne_eqb k 0 (λ e. omega (arith, l, e)), lt-ltb z k l) refl

  pub get-here : (z k : ℕ) → (k ≡ 0 → ⊥) → k ≤ z → get_or t (k - 1) no_record ≡ get_in t z k
  get-here z k h l = rw (ne_eqb k 0 h, le-ltb z k l) refl

  -- as code goes to it
  pub get-entry : (z k : ℕ) → k ≤ z → entry_at no_record t k ≡ get_in t z k
  get-entry z k l = ⊎_elim (λ (e : k ≡ 0). rw e refl) (λ (h : k ≡ 0 → ⊥). rw (ne_eqb k 0 h, le-ltb z k l) refl) (decide_eq k 0)

-- what `store` does, call by call
pub store-correct : (t b c d e f : List NodeRecord) (z k : ℕ) (x old y : NodeRecord) → old ≡ get_in t z k → y ≡ worded_in t z x → b ≡ put_entry t k y
    → c ≡ count_at b z old.first false → d ≡ count_at c z old.second false
    → e ≡ count_at d z x.first true → f ≡ count_at e z x.second true → f ≡ store_at t z k x
unfolding store_at
store-correct t b c d e f z k x old y oe ye be ce de ee fe =
    fe
    ∙ ap (λ (l : List NodeRecord). count_at l z x.second true) (ee
    ∙ ap (λ (l : List NodeRecord). count_at l z x.first true) (de
    ∙ ap (λ (l : List NodeRecord). count_at l z old.second false) (ce
    ∙ ap (λ (l : List NodeRecord). count_at l z old.first false) (be ∙ ap (put_entry t k) ye))))
    ∙ ap (λ (o : NodeRecord). count_at (count_at (count_at (count_at (put_entry t k (worded_in t z x)) z o.first false) z o.second false) z x.first true) z
    x.second true) oe

pub count_none : (t : List NodeRecord) (z k : ℕ) (more : Bool) → k ≡ 0 → t ≡ count_at t z k more
count_none t z k more e = rw e refl

pub count-above : (t : List NodeRecord) (z k : ℕ) (more : Bool) → z < k → t ≡ count_at t z k more
count-above t z k more l = rw (ne_eqb k 0 (λ e. omega (arith, l, e)), lt-ltb z k l) refl

pub count-here : (t : List NodeRecord) (z k : ℕ) (more : Bool) → (k ≡ 0 → ⊥) → k ≤ z → set t (k - 1) (counted_record (get_or t (k - 1) no_record) more)
    ≡ count_at t z k more
count-here t z k more h l = rw (ne_eqb k 0 h, le-ltb z k l) refl
