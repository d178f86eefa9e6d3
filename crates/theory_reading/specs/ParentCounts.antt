-- How many records have a number as a child: code keeps this count, and reads from it whether a number has a parent. Assumes nothing.
use Rattle.std.specs.Prelude.{◌≡◌, refl, Bool, true, false, not, ◌||◌, List, [], ◌∷◌, ◌++◌, ℕ, zero, suc, ◌+◌, ◌*◌, ◌<◌, ◌≤◌, eqb, length, set, replicate}
use Rattle.std.proofs.Common.{sym, ap, ◌∙◌, arith, eqb-true, ne_eqb}
use Rattle.std.proofs.lemmas.Bool.{not-false}
use Rattle.theory_lists.specs.Lists.{bit}
use Rattle.theory_reading.specs.Nodes.{Node, no_node, node, is_child, has_parent}

-- the edges from a record to k
abbrev pub edges : ℕ → Node → ℕ
edges k x = bit (eqb x.first k) + bit (eqb x.second k)

-- the edges to k from all records
unfoldable pub parents : List Node → ℕ → ℕ
parents [] k = 0
parents (x ∷ t) k = edges k x + parents t k

-- a digit is at most 1
pub bit-most : (a : Bool) → bit a ≤ 1
bit-most true = omega arith
bit-most false = omega arith

-- a test of a sum of tests
some-edge : (a b : Bool) (p : ℕ) → ((a || b) || not (eqb p 0)) ≡ not (eqb (bit a + bit b + p) 0)
some-edge true b p = sym (ap not (ne_eqb (1 + bit b + p) 0 (λ e. omega (arith, e))))
some-edge false true p = sym (ap not (ne_eqb (0 + 1 + p) 0 (λ e. omega (arith, e))))
some-edge false false p = let e : 0 + 0 + p ≡ p = omega arith in ap (λ (q : ℕ). not (eqb q 0)) (sym e)

-- A number has a parent where the count is not 0.
pub parents-none : (t : List Node) (k : ℕ) → has_parent t k ≡ not (eqb (parents t k) 0)
unfolding has_parent parents
parents-none [] k = refl
parents-none (x ∷ t) k = ap (λ (b : Bool). is_child k x || b) (parents-none t k) ∙ some-edge (eqb x.first k) (eqb x.second k) (parents t k)

-- So there is no edge to a number without a parent.
pub none-parents : (t : List Node) (k : ℕ) → has_parent t k ≡ false → parents t k ≡ 0
none-parents t k e = eqb-true (parents t k) 0 (not-false (eqb (parents t k) 0) (sym (parents-none t k) ∙ e))

-- A storing takes the edges of the old record away and adds those of the new one.
pub parents-set : (t : List Node) (j k : ℕ) (x : Node) → j < length t → parents (set t j x) k + edges k (node t j) ≡ parents t k + edges k x
unfolding parents
parents-set [] j k x h = absurd (omega arith)
parents-set (y ∷ t) zero k x h = omega arith
parents-set (y ∷ t) (suc j) k x h = omega (arith, parents-set t j k x (omega arith))

-- A record more adds its edges.
pub parents-add : (t : List Node) (k : ℕ) (x : Node) → parents (t ++ (x ∷ [])) k ≡ parents t k + edges k x
unfolding parents
parents-add [] k x = omega arith
parents-add (y ∷ t) k x = omega (arith, parents-add t k x)

-- A record has at most two edges to a number.
pub parents-most : (t : List Node) (k : ℕ) → parents t k ≤ 2 * length t
unfolding parents
parents-most [] k = omega arith
parents-most (x ∷ t) k = omega (arith, bit-most (eqb x.first k), bit-most (eqb x.second k), parents-most t k)

-- no record, no edge but to 0
pub edges_none : (k : ℕ) → (k ≡ 0 → ⊥) → edges k no_node ≡ 0
edges_none k z = let e : eqb 0 k ≡ false = ne_eqb 0 k (λ i. z (sym i)) in rw e refl

-- In a new table no number has a parent.
pub parents-fresh : (m k : ℕ) → (k ≡ 0 → ⊥) → parents (replicate m no_node) k ≡ 0
unfolding parents
parents-fresh zero k z = refl
parents-fresh (suc m) k z = omega (arith, edges_none k z, parents-fresh m k z)

-- The edges of one record are among those counted.
pub edges-parents : (t : List Node) (j k : ℕ) → (k ≡ 0 → ⊥) → edges k (node t j) ≤ parents t k
unfolding parents
edges-parents [] j k z = omega (arith, edges_none k z)
edges-parents (x ∷ t) zero k z = omega arith
edges-parents (x ∷ t) (suc j) k z = omega (arith, edges-parents t j k z)
