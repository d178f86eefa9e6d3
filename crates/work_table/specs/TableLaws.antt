-- The lent table read as the theory's: its records up to the size, with the count of parents that code keeps. Assumes nothing.
use Rattle.std.specs.Prelude.{◌≡◌, refl, Bool, true, false, cond, not, ◌||◌, List, [], ◌∷◌, map, ℕ, zero, suc, ◌+◌, ◌-◌, min, ◌<◌, ◌≤◌, ltb, eqb, length, get_or, set, take, drop, replicate}
use Rattle.std.proofs.Common.{sym, ap, ◌∙◌, subst, ⊎_elim, arith, length-set, length-take, length-append, length-drop, take_at, get_or-take, get_or-set_same, get_or-set_other, ne_eqb, eq-eqb, lt-ltb}
use Rattle.std.proofs.lemmas.List.{length-map, length-replicate, get_or-replicate, set-get_or}
use Rattle.std.proofs.Math.ListN.{get_or-append, get_or-map, get_or-eq_default}
use Rattle.std.proofs.Math.Seq.{take-set-lt}
use Rattle.theory_lists.specs.Lists.{bit, decide_eq, decide-le}
use Rattle.theory_lists.specs.Maps.{map-replicate}
use Rattle.theory_reading.specs.Limits.{table_limit}
use Rattle.theory_reading.specs.LimitLaws.{few-parents}
use Rattle.theory_reading.specs.Nodes.{Node, new_node, no_node, node}
use Rattle.theory_reading.specs.ParentCounts.{edges, parents, parents-set, parents-most, parents-fresh, edges-parents}
use Rattle.node_records.specs.declared.NodeRecord.{NodeRecord}
use Rattle.node_records.specs.Records.{no_record}
use Rattle.node_records.specs.Words.{with_words}
use Rattle.record_tables.specs.Entries.{put_entry, clear_to, entry-put-none, entry-put-here}
use Rattle.work_table.specs.Table.{get_in, counted_to, counted_record, count_at, worded_in, store_at}
use Rattle.work_table.specs.Table.{get-above, get-here, count_none, count-above, count-here}

-- ---- The records as the theory's table -------------------------------------------------------

-- a row without the count of its parents
abbrev pub record_node : NodeRecord → Node
record_node x = new_node x.level x.first x.second (not (eqb x.complement 0)) x.stamp

-- the number for a yes or a no, read back
pub bit-back : (b : Bool) → not (eqb (cond b 1 0) 0) ≡ b
bit-back true = refl
bit-back false = refl

-- the theory's table of the first z records
abbrev pub table_of : List NodeRecord → ℕ → List Node
table_of t z = no_node ∷ map record_node (take z t)

-- Place 0 and a place for each number.
pub table-length : (t : List NodeRecord) (z : ℕ) → z ≤ length t → length (table_of t z) ≡ suc z
table-length t z h = ap suc (length-map (take z t) record_node ∙ length-take z t ∙ omega (arith, h))

-- Each number has the record that code reads, 0 and those above the size have none.
pub table-node : (t : List NodeRecord) (z k : ℕ) → node (table_of t z) k ≡ record_node (get_in t z k)
table-node t z zero = refl
table-node t z (suc k) = get_or-map record_node (take z t) k no_record ∙ ⊎_elim inside above (decide-le (suc k) z)
  where
    inside : suc k ≤ z → record_node (get_or (take z t) k no_record) ≡ record_node (get_in t z (suc k))
    inside h =
        let e : k ≡ suc k - 1 = omega arith in
        ap record_node (get_or-take z t k no_record h ∙ ap (λ (i : ℕ). get_or t i no_record) e) ∙ ap record_node (get-here t z (suc k) (λ i. omega (arith, i)) h)

    above : z < suc k → record_node (get_or (take z t) k no_record) ≡ record_node (get_in t z (suc k))
    above h =
        let s : length (take z t) ≤ k = omega (arith, length-take z t, h) in
        ap record_node (get_or-eq_default (take z t) no_record s) ∙ ap record_node (get-above t z (suc k) h)

-- ---- One record ------------------------------------------------------------------------------

get-same : (t u : List NodeRecord) (z k : ℕ) → ((k ≡ 0 → ⊥) → get_or t (k - 1) no_record ≡ get_or u (k - 1) no_record) → get_in t z k ≡ get_in u z k
get-same t u z k h = ⊎_elim (λ e. rw e refl) (λ n. ap (λ (a : NodeRecord). cond (eqb k 0 || ltb z k) no_record a) (h n)) (decide_eq k 0)

put-set : (t : List NodeRecord) (k : ℕ) (x : NodeRecord) → (k ≡ 0 → ⊥) → put_entry t k x ≡ set t (k - 1) x
put-set t k x h = sym (entry-put-here t k x h)

pub length-put : (t : List NodeRecord) (k : ℕ) (x : NodeRecord) → length (put_entry t k x) ≡ length t
length-put t k x = ⊎_elim (λ e. ap length (sym (entry-put-none t k x e))) (λ n. ap length (put-set t k x n) ∙ length-set t (k - 1) x)
    (decide_eq k 0)

pred-same : (k j : ℕ) → (k ≡ 0 → ⊥) → (j ≡ 0 → ⊥) → j - 1 ≡ k - 1 → k ≡ j
pred-same zero j n m e = absurd (n refl)
pred-same (suc k) zero n m e = absurd (m refl)
pred-same (suc k) (suc j) n m e = omega (arith, e)

-- the other numbers keep their records
pub get_other : (t : List NodeRecord) (z k j : ℕ) (x : NodeRecord) → (k ≡ j → ⊥) → get_in (put_entry t k x) z j ≡ get_in t z j
get_other t z k j x d = ⊎_elim none some (decide_eq k 0)
  where
    none : k ≡ 0 → get_in (put_entry t k x) z j ≡ get_in t z j
    none e = ap (λ (u : List NodeRecord). get_in u z j) (sym (entry-put-none t k x e))

    some : (k ≡ 0 → ⊥) → get_in (put_entry t k x) z j ≡ get_in t z j
    some n = get-same (put_entry t k x) t z j (λ m. ap (λ (u : List NodeRecord). get_or u (j - 1) no_record) (put-set t k x n)
        ∙ get_or-set_other t (k - 1) (j - 1) x no_record (λ e. d (pred-same k j n m e)))

-- the number has the record that was put
pub get-put : (t : List NodeRecord) (z k : ℕ) (x : NodeRecord) → z ≤ length t → (k ≡ 0 → ⊥) → k ≤ z → get_in (put_entry t k x) z k ≡ x
get-put t z k x r n h =
    let i : k - 1 < length t = omega (arith, r, n, h) in
    sym (get-here (put_entry t k x) z k n h)
    ∙ ap (λ (u : List NodeRecord). get_or u (k - 1) no_record) (put-set t k x n)
    ∙ get_or-set_same t (k - 1) x no_record i

map-set : (f : NodeRecord → Node) (l : List NodeRecord) (i : ℕ) (a : NodeRecord) → map f (set l i a) ≡ set (map f l) i (f a)
map-set f [] i a = refl
map-set f (b ∷ l) zero a = refl
map-set f (b ∷ l) (suc i) a = ap (λ (m : List Node). f b ∷ m) (map-set f l i a)

table-set : (t : List NodeRecord) (z k : ℕ) (a : NodeRecord) → (k ≡ 0 → ⊥) → k ≤ z → table_of (set t (k - 1) a) z ≡ set (table_of t z) k (record_node a)
table-set t z zero a n h = absurd (n refl)
table-set t z (suc k) a n h =
    let e : suc k - 1 ≡ k = omega arith in
    ap (λ (l : List Node). no_node ∷ l)
    (ap (λ (i : ℕ). map record_node (take z (set t i a))) e
    ∙ ap (map record_node) (take-set-lt z t k a h)
    ∙ map-set record_node (take z t) k a)

table-put : (t : List NodeRecord) (z k : ℕ) (x : NodeRecord) → (k ≡ 0 → ⊥) → k ≤ z → table_of (put_entry t k x) z ≡ set (table_of t z) k (record_node x)
table-put t z k x n h =
    ap (λ (u : List NodeRecord). table_of u z) (put-set t k x n)
    ∙ table-set t z k x n h

-- ---- One parent more or less -----------------------------------------------------------------

-- the ways of a count: no number of the table, or its record set
count-ways : {A : Type 0} (k z : ℕ) → (k ≡ 0 → A) → ((k ≡ 0 → ⊥) → z < k → A) → ((k ≡ 0 → ⊥) → k ≤ z → A) → A
count-ways k z none above here = ⊎_elim none (λ n. ⊎_elim (here n) (above n) (decide-le k z)) (decide_eq k 0)

-- the count of parents is not of the theory's table
table-count : (t : List NodeRecord) (z k : ℕ) (b : Bool) → table_of (count_at t z k b) z ≡ table_of t z
table-count t z k b = count-ways k z
    (λ e. ap (λ (u : List NodeRecord). table_of u z) (sym (count_none t z k b e)))
    (λ n l. ap (λ (u : List NodeRecord). table_of u z) (sym (count-above t z k b l)))
    (λ n l. ap (λ (u : List NodeRecord). table_of u z) (sym (count-here t z k b n l))
    ∙ table-set t z k (counted_record (get_or t (k - 1) no_record) b) n l
    ∙ ap (set (table_of t z) k) (sym (table-node t z k ∙ ap record_node (sym (get-here t z k n l))))
    ∙ set-get_or (table_of t z) k no_node)

length-count : (t : List NodeRecord) (z k : ℕ) (b : Bool) → length (count_at t z k b) ≡ length t
length-count t z k b = count-ways k z
    (λ e. ap length (sym (count_none t z k b e)))
    (λ n l. ap length (sym (count-above t z k b l)))
    (λ n l. ap length (sym (count-here t z k b n l)) ∙ length-set t (k - 1) (counted_record (get_or t (k - 1) no_record) b))

-- the number's own record
counted-record : (t : List NodeRecord) (z k : ℕ) (b : Bool) → z ≤ length t → (k ≡ 0 → ⊥) → k ≤ z → get_in (count_at t z k b) z k
    ≡ counted_record (get_in t z k) b
counted-record t z k b r n h =
    let i : k - 1 < length t = omega (arith, r, n, h) in
    sym (get-here (count_at t z k b) z k n h)
    ∙ ap (λ (u : List NodeRecord). get_or u (k - 1) no_record) (sym (count-here t z k b n h))
    ∙ get_or-set_same t (k - 1) (counted_record (get_or t (k - 1) no_record) b) no_record i
    ∙ ap (λ (x : NodeRecord). counted_record x b) (get-here t z k n h)

-- and its count
counted-here : (t : List NodeRecord) (z k : ℕ) (b : Bool) → z ≤ length t → (k ≡ 0 → ⊥) → k ≤ z → (get_in (count_at t z k b) z k).parents
    ≡ counted_to (get_in t z k).parents b
counted-here t z k b r n h = ap (λ (x : NodeRecord). x.parents) (counted-record t z k b r n h)

-- another number keeps its record
counted-other : (t : List NodeRecord) (z k j : ℕ) (b : Bool) → (k ≡ j → ⊥) → get_in (count_at t z k b) z j ≡ get_in t z j
counted-other t z k j b d = count-ways k z
    (λ e. ap (λ (u : List NodeRecord). get_in u z j) (sym (count_none t z k b e)))
    (λ n l. ap (λ (u : List NodeRecord). get_in u z j) (sym (count-above t z k b l)))
    (λ n l. ap (λ (u : List NodeRecord). get_in u z j) (sym (count-here t z k b n l))
    ∙ get-same (set t (k - 1) (counted_record (get_or t (k - 1) no_record) b)) t z j
    (λ m. get_or-set_other t (k - 1) (j - 1) (counted_record (get_or t (k - 1) no_record) b) no_record (λ e. d (pred-same k j n m e))))

-- how one parent more shows in the counts
count-more : (t : List NodeRecord) (z k j : ℕ) → z ≤ length t → (j ≡ 0 → ⊥) → j ≤ z → (get_in t z j).parents < 4294967295
    → (get_in (count_at t z k true) z j).parents ≡ (get_in t z j).parents + bit (eqb k j)
count-more t z k j r n h l = ⊎_elim here other (decide_eq k j)
  where
    here : k ≡ j → (get_in (count_at t z k true) z j).parents ≡ (get_in t z j).parents + bit (eqb k j)
    here e = rw (e, eq-eqb j j refl) (counted-here t z j true r n h ∙ rw (lt-ltb (get_in t z j).parents 4294967295 l) refl)

    other : (k ≡ j → ⊥) → (get_in (count_at t z k true) z j).parents ≡ (get_in t z j).parents + bit (eqb k j)
    other d = rw (ne_eqb k j d) (ap (λ (x : NodeRecord). x.parents) (counted-other t z k j true d) ∙ omega arith)

-- how one parent less shows in the counts
count_less : (t : List NodeRecord) (z k j : ℕ) → z ≤ length t → (j ≡ 0 → ⊥) → j ≤ z → bit (eqb k j) ≤ (get_in t z j).parents
    → (get_in t z j).parents ≡ (get_in (count_at t z k false) z j).parents + bit (eqb k j)
count_less t z k j r n h l = ⊎_elim here other (decide_eq k j)
  where
    here : k ≡ j → (get_in t z j).parents ≡ (get_in (count_at t z k false) z j).parents + bit (eqb k j)
    here e =
        let o : bit (eqb k j) ≡ 1 = ap bit (eq-eqb k j e) in
        let p : (get_in (count_at t z k false) z j).parents ≡ (get_in t z j).parents - 1 = rw e (counted-here t z j false r n h) in
        omega (arith, o, p, l)

    other : (k ≡ j → ⊥) → (get_in t z j).parents ≡ (get_in (count_at t z k false) z j).parents + bit (eqb k j)
    other d =
        let o : bit (eqb k j) ≡ 0 = ap bit (ne_eqb k j d) in
        let p : (get_in (count_at t z k false) z j).parents ≡ (get_in t z j).parents = ap (λ (x : NodeRecord). x.parents) (counted-other t z k j false d)
        in
        omega (arith, o, p)

-- ---- What records say of the words below -----------------------------------------------------

-- the record x says what the records a and b of its children say
abbrev pub Right : NodeRecord → NodeRecord → NodeRecord → Type 0
Right x a b = (x.admits ≡ (with_words x a b).admits) × (x.refuses ≡ (with_words x a b).refuses)

-- so does that of k, where f gives each number its record
abbrev pub RightAt : (ℕ → NodeRecord) → ℕ → Type 0
RightAt f k = Right (f k) (f (f k).first) (f (f k).second)

-- a record without its count of parents, which says nothing of words
abbrev bare : NodeRecord → NodeRecord
bare x = record {
  level = x.level;
  first = x.first;
  second = x.second;
  complement = x.complement;
  stamp = x.stamp;
  parents = 0;
  admits = x.admits;
  refuses = x.refuses;
}

right-bare : (f g : ℕ → NodeRecord) → ((i : ℕ) → bare (f i) ≡ bare (g i)) → (k : ℕ) → RightAt g k → RightAt f k
right-bare f g same k h =
    let own : Right (bare (f k)) (bare (g (f k).first)) (bare (g (f k).second)) =
    subst (λ (x : NodeRecord). Right x (bare (g x.first)) (bare (g x.second))) (sym (same k)) h in
    let first : Right (bare (f k)) (bare (f (f k).first)) (bare (g (f k).second)) =
    subst (λ (a : NodeRecord). Right (bare (f k)) a (bare (g (f k).second))) (sym (same (f k).first)) own in
    subst (λ (b : NodeRecord). Right (bare (f k)) (bare (f (f k).first)) b) (sym (same (f k).second)) first

-- a count changes nothing else
bare-count : (t : List NodeRecord) (z k j : ℕ) (b : Bool) → z ≤ length t → bare (get_in (count_at t z k b) z j) ≡ bare (get_in t z j)
bare-count t z k j b r = count-ways k z
    (λ e. ap (λ (u : List NodeRecord). bare (get_in u z j)) (sym (count_none t z k b e)))
    (λ n l. ap (λ (u : List NodeRecord). bare (get_in u z j)) (sym (count-above t z k b l)))
    (λ n l. ⊎_elim
    (λ (e : k ≡ j). subst (λ (i : ℕ). bare (get_in (count_at t z k b) z i) ≡ bare (get_in t z i)) e (ap bare (counted-record t z k b r n l)))
    (λ (d : k ≡ j → ⊥). ap bare (counted-other t z k j b d))
    (decide_eq k j))

-- the record that is put, with what its children say, is right, and the others stay so: none has k as its child
right-put : (t : List NodeRecord) (z k : ℕ) (x : NodeRecord) → z ≤ length t → (k ≡ 0 → ⊥) → k ≤ z → (x.first ≡ k → ⊥) → (x.second ≡ k → ⊥)
    → ((j : ℕ) → ((get_in t z j).first ≡ k → ⊥) × ((get_in t z j).second ≡ k → ⊥))
    → (j : ℕ) → ((k ≡ j → ⊥) → RightAt (get_in t z) j) → RightAt (get_in (put_entry t k (worded_in t z x)) z) j
right-put t z k x r n h p q alone j old = ⊎_elim here other (decide_eq k j)
  where
    -- the children of a record have theirs
    children : (w : NodeRecord) → (w.first ≡ k → ⊥) → (w.second ≡ k → ⊥) → Right w (get_in t z w.first) (get_in t z w.second)
        → Right w (get_in (put_entry t k (worded_in t z x)) z w.first) (get_in (put_entry t k (worded_in t z x)) z w.second)
    children w a b m =
        subst (λ (c : NodeRecord). Right w c (get_in (put_entry t k (worded_in t z x)) z w.second))
        (sym (get_other t z k w.first (worded_in t z x) (λ e. a (sym e))))
        (subst (Right w (get_in t z w.first)) (sym (get_other t z k w.second (worded_in t z x) (λ e. b (sym e)))) m)

    here : k ≡ j → RightAt (get_in (put_entry t k (worded_in t z x)) z) j
    here e = subst (RightAt (get_in (put_entry t k (worded_in t z x)) z)) e
        (subst (λ (w : NodeRecord). Right w (get_in (put_entry t k (worded_in t z x)) z w.first) (get_in (put_entry t k (worded_in t z x)) z w.second))
        (sym (get-put t z k (worded_in t z x) r n h)) (children (worded_in t z x) p q (refl, refl)))

    other : (k ≡ j → ⊥) → RightAt (get_in (put_entry t k (worded_in t z x)) z) j
    other d =
        subst (λ (w : NodeRecord). Right w (get_in (put_entry t k (worded_in t z x)) z w.first) (get_in (put_entry t k (worded_in t z x)) z w.second))
        (sym (get_other t z k j (worded_in t z x) d)) (children (get_in t z j) (alone j).0 (alone j).1 (old d))

-- ---- Storing ---------------------------------------------------------------------------------

-- A node's record says of the words below it what its children's say: what a search in the table needs.
abbrev pub Worded : List NodeRecord → ℕ → Type 0
Worded t z = (k : ℕ) → (k ≡ 0 → ⊥) → k ≤ z → ((get_in t z k).level ≡ 0 → ⊥) → RightAt (get_in t z) k

-- What code keeps true of the lent table: there is a record for each number, its count of parents is right, and a node's record says of the words below it
-- what its children's say.
pub record Held (t : List NodeRecord) (z : ℕ) : Type 0 where
  pub room : z ≤ length t
  pub counts : (k : ℕ) → (k ≡ 0 → ⊥) → k ≤ z → (get_in t z k).parents ≡ parents (table_of t z) k
  pub words : Worded t z

-- A storing keeps the length.
pub length-store : (t : List NodeRecord) (z k : ℕ) (x : NodeRecord) → length (store_at t z k x) ≡ length t
unfolding store_at
length-store t z k x =
    let t₀ = put_entry t k (worded_in t z x) in
    let t₁ = count_at t₀ z (get_in t z k).first false in
    let t₂ = count_at t₁ z (get_in t z k).second false in
    let t₃ = count_at t₂ z x.first true in
    length-count t₃ z x.second true ∙ length-count t₂ z x.first true ∙ length-count t₁ z (get_in t z k).second false
    ∙ length-count t₀ z (get_in t z k).first false ∙ length-put t k (worded_in t z x)

-- A storing sets the record of the number in the theory's table.
pub store-table : (t : List NodeRecord) (z k : ℕ) (x : NodeRecord) → (k ≡ 0 → ⊥) → k ≤ z → table_of (store_at t z k x) z
    ≡ set (table_of t z) k (record_node x)
unfolding store_at
store-table t z k x n h =
    let t₀ = put_entry t k (worded_in t z x) in
    let t₁ = count_at t₀ z (get_in t z k).first false in
    let t₂ = count_at t₁ z (get_in t z k).second false in
    let t₃ = count_at t₂ z x.first true in
    table-count t₃ z x.second true ∙ table-count t₂ z x.first true ∙ table-count t₁ z (get_in t z k).second false
    ∙ table-count t₀ z (get_in t z k).first false ∙ table-put t z k (worded_in t z x) n h

-- the counts after two parents less and two more
count-four : (t : List NodeRecord) (z a b c d j : ℕ) → z ≤ length t → (j ≡ 0 → ⊥) → j ≤ z
    → bit (eqb a j) + bit (eqb b j) ≤ (get_in t z j).parents → bit (eqb c j) + bit (eqb d j) ≤ 2 → (get_in t z j).parents + 2 < 4294967295
    → (get_in (count_at (count_at (count_at (count_at t z a false) z b false) z c true) z d true) z j).parents + (bit (eqb a j) + bit (eqb b j))
    ≡ (get_in t z j).parents + (bit (eqb c j) + bit (eqb d j))
count-four t z a b c d j r n h enough few most =
    let t₁ = count_at t z a false in
    let t₂ = count_at t₁ z b false in
    let t₃ = count_at t₂ z c true in
    let r₁ : z ≤ length t₁ = omega (arith, r, length-count t z a false) in
    let r₂ : z ≤ length t₂ = omega (arith, r₁, length-count t₁ z b false) in
    let r₃ : z ≤ length t₃ = omega (arith, r₂, length-count t₂ z c true) in
    let e₁ : (get_in t z j).parents ≡ (get_in t₁ z j).parents + bit (eqb a j) = count_less t z a j r n h (omega (arith, enough)) in
    let e₂ : (get_in t₁ z j).parents ≡ (get_in t₂ z j).parents + bit (eqb b j) = count_less t₁ z b j r₁ n h (omega (arith, enough, e₁)) in
    let e₃ : (get_in t₃ z j).parents ≡ (get_in t₂ z j).parents + bit (eqb c j) = count-more t₂ z c j r₂ n h (omega (arith, most, e₁, e₂)) in
    let e₄ : (get_in (count_at t₃ z d true) z j).parents ≡ (get_in t₃ z j).parents + bit (eqb d j) = count-more t₃ z d j r₃ n h
    (omega (arith, most, few, e₁, e₂, e₃)) in
    omega (arith, e₁, e₂, e₃, e₄)

edges_most : (j : ℕ) (y : Node) → edges j y ≤ 2
unfolding parents
edges_most j y = omega (arith, parents-most (y ∷ []) j)

-- a storing changes no record but the number's and, of others, the counts
bare-store : (t : List NodeRecord) (z k : ℕ) (x : NodeRecord) → z ≤ length t → (j : ℕ) → bare (get_in (store_at t z k x) z j)
    ≡ bare (get_in (put_entry t k (worded_in t z x)) z j)
unfolding store_at
bare-store t z k x r j =
    let t₀ = put_entry t k (worded_in t z x) in
    let t₁ = count_at t₀ z (get_in t z k).first false in
    let t₂ = count_at t₁ z (get_in t z k).second false in
    let t₃ = count_at t₂ z x.first true in
    let r₀ : z ≤ length t₀ = omega (arith, r, length-put t k (worded_in t z x)) in
    let r₁ : z ≤ length t₁ = omega (arith, r₀, length-count t₀ z (get_in t z k).first false) in
    let r₂ : z ≤ length t₂ = omega (arith, r₁, length-count t₁ z (get_in t z k).second false) in
    let r₃ : z ≤ length t₃ = omega (arith, r₂, length-count t₂ z x.first true) in
    bare-count t₃ z x.second j true r₃ ∙ bare-count t₂ z x.first j true r₂ ∙ bare-count t₁ z (get_in t z k).second j false r₁
    ∙ bare-count t₀ z (get_in t z k).first j false r₀

-- a number without parents is no record's child
no-child : (t : List NodeRecord) (z k : ℕ) → Held t z → (k ≡ 0 → ⊥) → k ≤ z → (get_in t z k).parents ≡ 0
    → (j : ℕ) → ((get_in t z j).first ≡ k → ⊥) × ((get_in t z j).second ≡ k → ⊥)
no-child t z k held n h none j =
    let e : edges k (record_node (get_in t z j)) ≡ 0 = omega (
      arith,
      ap (edges k) (table-node t z j),
      edges-parents (table_of t z) j k n,
      held.counts k n h,
      none,
    ) in
    (λ i. absurd (omega (arith, e, ap bit (eq-eqb (get_in t z j).first k i))), λ i. absurd (omega (arith, e, ap bit (eq-eqb (get_in t z j).second k i))))

-- A STORING KEEPS THEM TRUE, if the number has no parents, nor is its own child, and the new record starts with the count of the old one.
pub held-store : (t : List NodeRecord) (z k : ℕ) (x : NodeRecord) → Held t z → z ≤ table_limit → (k ≡ 0 → ⊥) → k ≤ z → x.parents ≡ (get_in t z k).parents
    → (get_in t z k).parents ≡ 0 → (x.first ≡ k → ⊥) → (x.second ≡ k → ⊥) → Held (store_at t z k x) z
unfolding store_at
held-store t z k x held small n h same none p q =
    record { room = omega (arith, held.room, length-store t z k x); counts = right; words = said }
  where
    put : (j : ℕ) → (j ≡ 0 → ⊥) → j ≤ z → (get_in (put_entry t k (worded_in t z x)) z j).parents ≡ parents (table_of t z) j
    put j m l = ⊎_elim here other (decide_eq k j) ∙ held.counts j m l
      where
        here : k ≡ j → (get_in (put_entry t k (worded_in t z x)) z j).parents ≡ (get_in t z j).parents
        here e = subst (λ (i : ℕ). (get_in (put_entry t k (worded_in t z x)) z i).parents ≡ (get_in t z i).parents) e
            (ap (λ (y : NodeRecord). y.parents) (get-put t z k (worded_in t z x) held.room n h) ∙ same)

        other : (k ≡ j → ⊥) → (get_in (put_entry t k (worded_in t z x)) z j).parents ≡ (get_in t z j).parents
        other d = ap (λ (y : NodeRecord). y.parents) (get_other t z k j (worded_in t z x) d)

    right : (j : ℕ) → (j ≡ 0 → ⊥) → j ≤ z → (get_in (store_at t z k x) z j).parents ≡ parents (table_of (store_at t z k x) z) j
    right j m l =
        let long : length (table_of t z) ≡ suc z = table-length t z held.room in
        let old : edges j (node (table_of t z) k) ≡ edges j (record_node (get_in t z k)) = ap (edges j) (table-node t z k) in
        let p : (get_in (put_entry t k (worded_in t z x)) z j).parents ≡ parents (table_of t z) j = put j m l in
        let most : (get_in (put_entry t k (worded_in t z x)) z j).parents + 2 < 4294967295 = omega
        (arith, p, parents-most (table_of t z) j, long, small, few-parents) in
        let enough : edges j (record_node (get_in t z k)) ≤ (get_in (put_entry t k (worded_in t z x)) z j).parents = omega
        (arith, p, old, edges-parents (table_of t z) k j m) in
        let moved : (get_in (store_at t z k x) z j).parents + edges j (record_node (get_in t z k))
        ≡ (get_in (put_entry t k (worded_in t z x)) z j).parents + edges j (record_node x)
        = count-four (put_entry t k (worded_in t z x)) z (get_in t z k).first (get_in t z k).second x.first x.second j
        (omega (arith, held.room, length-put t k (worded_in t z x)))
        m l enough (edges_most j (record_node x)) most in
        let sets : parents (set (table_of t z) k (record_node x)) j + edges j (node (table_of t z) k)
        ≡ parents (table_of t z) j + edges j (record_node x) = parents-set (table_of t z) k j (record_node x) (omega (arith, long, h)) in
        let e : (get_in (store_at t z k x) z j).parents ≡ parents (set (table_of t z) k (record_node x)) j = omega (arith, p, old, moved, sets) in
        e ∙ ap (λ (u : List Node). parents u j) (sym (store-table t z k x n h))

    said : (j : ℕ) → (j ≡ 0 → ⊥) → j ≤ z → ((get_in (store_at t z k x) z j).level ≡ 0 → ⊥) → RightAt (get_in (store_at t z k x) z) j
    said j m l real = right-bare (get_in (store_at t z k x) z) (get_in (put_entry t k (worded_in t z x)) z) (bare-store t z k x held.room) j
        (right-put t z k x held.room n h p q (no-child t z k held n h none) j (λ d. held.words j m l (λ e. real
        (ap (λ (y : NodeRecord). y.level) (bare-store t z k x held.room j ∙ ap bare (get_other t z k j (worded_in t z x) d)) ∙ e))))

-- ---- Clearing --------------------------------------------------------------------------------

-- Clearing keeps the length.
pub length-clear : (t : List NodeRecord) (m : ℕ) → length (clear_to no_record t m) ≡ length t
length-clear t m = length-append (replicate (min m (length t)) no_record) (drop m t)
    ∙ omega (arith, length-replicate (min m (length t)) no_record, length-drop m t)

clear_room : (t : List NodeRecord) (z : ℕ) → z ≤ length t → length (replicate (min z (length t)) no_record) ≡ z
clear_room t z h = length-replicate (min z (length t)) no_record ∙ omega (arith, h)

-- A cleared table is the theory's new one.
pub clear-table : (t : List NodeRecord) (z : ℕ) → z ≤ length t → table_of (clear_to no_record t z) z ≡ replicate (suc z) no_node
clear-table t z h =
    let e : min z (length t) ≡ z = omega (arith, h) in
    ap (λ (l : List Node). no_node ∷ l)
    (ap (map record_node) (take_at (replicate (min z (length t)) no_record) (drop z t) z (clear_room t z h))
    ∙ map-replicate record_node (min z (length t)) no_record
    ∙ ap (λ (k : ℕ). replicate k no_node) e)

-- In a cleared table they are true.
pub held-clear : (t : List NodeRecord) (z : ℕ) → z ≤ length t → Held (clear_to no_record t z) z
held-clear t z h = record {
  room = omega (arith, h, length-clear t z);
  counts = right;
  words = λ k n l real. absurd (real (ap (λ (x : NodeRecord). x.level) (none k n l)));
}
  where
    none : (k : ℕ) → (k ≡ 0 → ⊥) → k ≤ z → get_in (clear_to no_record t z) z k ≡ no_record
    none k n l =
        let i : k - 1 < length (replicate (min z (length t)) no_record) = omega (arith, clear_room t z h, n, l) in
        let j : k - 1 < min z (length t) = omega (arith, h, n, l) in
        sym (get-here (clear_to no_record t z) z k n l)
        ∙ get_or-append (replicate (min z (length t)) no_record) (drop z t) no_record (k - 1) i
        ∙ get_or-replicate (min z (length t)) (k - 1) no_record no_record j

    right : (k : ℕ) → (k ≡ 0 → ⊥) → k ≤ z → (get_in (clear_to no_record t z) z k).parents ≡ parents (table_of (clear_to no_record t z) z) k
    right k n l = ap (λ (x : NodeRecord). x.parents) (none k n l)
        ∙ sym (ap (λ (u : List Node). parents u k) (clear-table t z h) ∙ parents-fresh (suc z) k n)
