-- The reader's table agrees with the writer's, and decides what its numbers stand for. Assumes nothing.
use Rattle.std.specs.Prelude.{◌≡◌, refl, ◌≢◌, Bool, true, false, List, [], ◌∷◌, ℕ, zero, suc, ◌+◌, ◌-◌, ◌≤◌, ◌<◌, ◌^◌, length, set, replicate}
use Rattle.std.proofs.Common.{sym, ap, ◌∙◌, inl, inr, ⊎_elim, pow-suc, arith, length-set, get_or-set_same, get_or-set_other}
use Rattle.std.proofs.Math.Path.{subst⁻¹}
use Rattle.std.proofs.lemmas.List.{length-replicate}
use Rattle.theory_lists.specs.Lists.{differ, differ_comm, decide_eq, decide-le}
use Rattle.theory_lists.specs.Maps.{get_or-replicate-same}
use Rattle.theory_reading.specs.Nodes.{Node, no_node, node, is_child, has_parent}
use Rattle.theory_reading.specs.Deciding.{Decision, decided, complemented, Diagram, leaf, branch, walk, options}
use Rattle.theory_reading.specs.Words.{options-low, options-high, complemented-twice}
use Rattle.theory_reading.specs.TableWalk.{table_walk}
use Rattle.theory_reading.proofs.TableWalk.{table_walk-zero, table_walk-skip, table_walk-go, RowTied}
use Rattle.theory_writing.specs.UniqueTable.{start, placed}
use Rattle.theory_writing.specs.Storing.{Parentless, placed_same, placed-other}
use Rattle.theory_writing.specs.Queue.{has_parent-all}
use Rattle.theory_writing.specs.Meaning.{Is}

-- t: the reader's table, with a record for every number from the start; ns: the writer's, with one for each number given out
pub record Agrees (size : ℕ) (t ns : List Node) : Type 0 where
  pub long : length t ≡ suc size
  pub row : (k : ℕ) → node t k ≡ node ns k

start-row : (k : ℕ) → node start.table k ≡ no_node
start-row zero = refl
start-row (suc k) = refl

pub agrees_start : (size : ℕ) → Agrees size (replicate (suc size) no_node) start.table
agrees_start size = record { long = length-replicate (suc size) no_node; row = λ k. get_or-replicate-same (suc size) k no_node ∙ sym (start-row k) }

-- ---- A storing -------------------------------------------------------------------------------

pub agrees-stored : (size : ℕ) (t ns : List Node) (k : ℕ) (x y : Node) → Agrees size t ns → k ≤ size → k ≤ length ns → x ≡ y
    → Agrees size (set t k x) (placed ns k y)
agrees-stored size t ns k x y g l h e = record { long = length-set t k x ∙ g.long; row = λ p. ⊎_elim (at-k p) (off-k p) (decide_eq p k) }
  where
    at-k : (p : ℕ) → p ≡ k → node (set t k x) p ≡ node (placed ns k y) p
    at-k p z = subst⁻¹ (λ (j : ℕ). node (set t k x) j ≡ node (placed ns k y) j) z
        (get_or-set_same t k x no_node (omega (arith, g.long)) ∙ e ∙ sym (placed_same ns k y h))

    off-k : (p : ℕ) → p ≢ k → node (set t k x) p ≡ node (placed ns k y) p
    off-k p d = get_or-set_other t k p x no_node d ∙ g.row p ∙ sym (placed-other ns k y h p d)

-- ---- Parents ---------------------------------------------------------------------------------

pub parentless : (size : ℕ) (t ns : List Node) (k : ℕ) → Agrees size t ns → Parentless ns k → has_parent t k ≡ false
parentless size t ns k g h = has_parent-all t k (λ j. ap (is_child k) (g.row j) ∙ h j)

-- ---- What a number decides -------------------------------------------------------------------

-- the diagram d decides the words at .. at + 2 ^ m - 1 as f does, complemented if t
abbrev pub Decides : Diagram → (ℕ → Bool) → ℕ → Bool → ℕ → Type 0
Decides d f m t at = (w : ℕ) → w < 2 ^ m → complemented t (walk d (options m w)) ≡ decided (f (at + w))

complemented-no : (t : Bool) → complemented t (decided false) ≡ decided t
complemented-no true = refl
complemented-no false = refl

twice : (t u : Bool) (x : Decision) → complemented t (complemented u x) ≡ complemented (differ t u) x
twice t u x = complemented-twice t u x ∙ ap (λ (v : Bool). complemented v x) (differ_comm t u)

-- a walk by options, half by half
halved : (m at : ℕ) (f : ℕ → Bool) (t : Bool) (g : List Bool → Decision)
    → ((w : ℕ) → w < 2 ^ m → complemented t (g (false ∷ options m w)) ≡ decided (f (at + w)))
    → ((w : ℕ) → w < 2 ^ m → complemented t (g (true ∷ options m w)) ≡ decided (f (at + 2 ^ m + w)))
    → (w : ℕ) → w < 2 ^ suc m → complemented t (g (options (suc m) w)) ≡ decided (f (at + w))
halved m at f t g p q w h = ⊎_elim
    (λ (l : 2 ^ m ≤ w).
    let e : at + 2 ^ m + (w - 2 ^ m) ≡ at + w = omega arith in
    ap (λ (os : List Bool). complemented t (g os)) (options-high m w l) ∙ q (w - 2 ^ m) (omega (arith, pow-suc 2 m))
    ∙ ap (λ (v : ℕ). decided (f v)) e)
    (λ (l : w < 2 ^ m). ap (λ (os : List Bool). complemented t (g os)) (options-low m w l) ∙ p w l) (decide-le (2 ^ m) w)

pub decides-branch : (a b : Diagram) (u : Bool) (f : ℕ → Bool) (m : ℕ) (t : Bool) (at : ℕ) → Decides a f m t at
    → Decides b f m (differ t u) (at + 2 ^ m) → Decides (branch a u b) f (suc m) t at
unfolding walk
decides-branch a b u f m t at p q = halved m at f t (walk (branch a u b)) p (λ w l. twice t u (walk b (options m w)) ∙ q w l)

-- the records of the table decide what the number stands for
is_row : (size : ℕ) (tb ns : List Node) → Agrees size tb ns → (f : ℕ → Bool) (m i k : ℕ) (t : Bool) (at : ℕ) → Is ns f m i k t at
    → (w : ℕ) → w < 2 ^ m → complemented t (table_walk tb i k (options m w)) ≡ decided (f (at + w))
unfolding Is options
is_row size tb ns g f zero i k t at h = λ w l.
    let e : at ≡ at + w = omega arith in
    ap (λ (c : ℕ). complemented t (table_walk tb i c [])) h.0 ∙ ap (complemented t) (table_walk-zero tb i []) ∙ complemented-no t
    ∙ ap decided (sym h.1) ∙ ap (λ (v : ℕ). decided (f v)) e
is_row size tb ns g f (suc m) i k t at (inl h) =
    let s : i + 1 ≡ suc i = omega arith in
    halved m at f t (table_walk tb i k)
    (λ w l. ap (complemented t) (skip false (options m w) ∙ ap (λ (j : ℕ). table_walk tb j k (options m w)) s)
    ∙ is_row size tb ns g f m (suc i) k t at h.1 w l)
    (λ w l. ap (complemented t) (skip true (options m w) ∙ ap (λ (j : ℕ). table_walk tb j k (options m w)) s)
    ∙ is_row size tb ns g f m (suc i) k t (at + 2 ^ m) h.2 w l)
  where
    skip : (o : Bool) (os : List Bool) → table_walk tb i k (o ∷ os) ≡ table_walk tb (i + 1) k os
    skip o os = ⊎_elim
        (λ (z : k ≡ 0). ap (λ (c : ℕ). table_walk tb i c (o ∷ os)) z ∙ table_walk-zero tb i (o ∷ os)
        ∙ sym (ap (λ (c : ℕ). table_walk tb (i + 1) c os) z ∙ table_walk-zero tb (i + 1) os))
        (λ (d : k ≢ 0). table_walk-skip tb i k o os d (omega (arith, h.0 (omega arith), ap (λ (x : Node). x.level) (g.row k)))) (decide_eq k 0)
is_row size tb ns g f (suc m) i k t at (inr h) =
    let s : i + 1 ≡ suc i = omega arith in
    let r = g.row k in
    let y = node ns k in
    let z : (k ≡ 0 → ⊥) = λ z. omega (arith, z, h.0) in
    let low : (node tb k).level ≤ i = omega (arith, ap (λ (x : Node). x.level) r, h.1) in
    halved m at f t (table_walk tb i k)
    (λ w l. ap (complemented t) (table_walk-go tb i k false (options m w) z low
    ∙ ap (λ (x : Node). table_walk tb (i + 1) x.first (options m w)) r ∙ ap (λ (j : ℕ). table_walk tb j y.first (options m w)) s)
    ∙ is_row size tb ns g f m (suc i) y.first t at h.2 w l)
    (λ w l. ap (complemented t) (table_walk-go tb i k true (options m w) z low
    ∙ ap (λ (x : Node). complemented x.complement (table_walk tb (i + 1) x.second (options m w))) r
    ∙ ap (λ (j : ℕ). complemented y.complement (table_walk tb j y.second (options m w))) s)
    ∙ twice t y.complement (table_walk tb (suc i) y.second (options m w))
    ∙ is_row size tb ns g f m (suc i) y.second (differ t y.complement) (at + 2 ^ m) h.3 w l)

-- the terminal, and a number of this level
pub leaf-decides : (size : ℕ) (tb ns : List Node) → Agrees size tb ns → (f : ℕ → Bool) (m i : ℕ) (t : Bool) (at : ℕ) → Is ns f m i 0 t at
    → Decides leaf f m t at
unfolding walk
leaf-decides size tb ns g f m i t at h w l = ap (complemented t) (sym (table_walk-zero tb i (options m w))) ∙ is_row size tb ns g f m i 0 t at h w l

options-length : (m w : ℕ) → w < 2 ^ m → length (options m w) ≡ m
unfolding options
options-length zero w h = refl
options-length (suc m) w h = ⊎_elim
    (λ (l : 2 ^ m ≤ w). ap length (options-high m w l) ∙ ap suc (options-length m (w - 2 ^ m) (omega (arith, pow-suc 2 m))))
    (λ (l : w < 2 ^ m). ap length (options-low m w l) ∙ ap suc (options-length m w l)) (decide-le (2 ^ m) w)

pub row-decides : (n size : ℕ) (tb ns : List Node) → Agrees size tb ns → (k i : ℕ) (d : Diagram) → 0 < i → (node tb k).level ≡ i → RowTied n tb k d
    → (f : ℕ → Bool) (m : ℕ) (t : Bool) (at : ℕ) → i + m ≡ suc n → Is ns f m i k t at → Decides d f m t at
row-decides n size tb ns g k i d r e tied f m t at q h w l =
    ap (complemented t) (tied (λ z. omega (arith, z, e, r)) (options m w) (options-length m w l ∙ omega (arith, e, q))
    ∙ ap (λ (j : ℕ). table_walk tb j k (options m w)) e)
    ∙ is_row size tb ns g f m i k t at h w l
