-- A truth table as code writes it, against the theory's: bytes where a sum wraps, the children of a node, and lengths. Assumes nothing.
use Rattle.std.specs.Prelude.{◌≡◌, ℕ, zero, suc, ◌+◌, ◌-◌, ◌*◌, ◌/◌, ◌%◌, ◌^◌, ◌<◌, ◌≤◌, Bool, true, false, cond, ◌&&◌, ◌||◌, List, [], ◌∷◌, map, set, ◌==◌, ◌≢◌, nat_lt, slice_index, slice_set, refl}
use Rattle.std.proofs.Common.{sym, ap, ap₂, ◌∙◌, mod-eq_of_lt, arith}
use Rattle.std.proofs.Math.ListN.{get_or-map}
use Rattle.theory_lists.specs.Lists.{differ}
use Rattle.theory_reading.specs.Limits.{truth_table_most}
use Rattle.theory_reading.specs.Nodes.{Node, node}
use Rattle.theory_reading.specs.Deciding.{Trace}
use Rattle.theory_reading.specs.Calls.{Verdict, is_no, is_yes, not_yet, digit_of, verdict, words_from, bytes_from}
use Rattle.theory_reading.proofs.Filling.{with_word, put_node}
use Rattle.node_records.specs.declared.Edge.{Edge}
use Rattle.node_records.specs.declared.NodeRecord.{NodeRecord}
use Rattle.work_table.specs.Table.{get_in}
use Rattle.work_table.specs.TableLaws.{table_of, table-node}
use Rattle.theory_lists.specs.Powers.{few_words}
use Rattle.node_records.specs.Edges.{first_edge, second_edge}
use Rattle.filler.specs.Truths.{with_word_in, put_node_in}

-- ---- Bytes -----------------------------------------------------------------------------------

-- bytes of 8 bits
abbrev cut : List ℕ → List ℕ
cut bs = map (λ x. x % 256) bs

cut-set : (bs : List ℕ) (i x : ℕ) → cut (slice_set bs i x) ≡ slice_set (cut bs) i (x % 256)
cut-set [] i x = refl
cut-set (b ∷ bs) zero x = refl
cut-set (b ∷ bs) (suc i) x = ap (λ (l : List ℕ). b % 256 ∷ l) (cut-set bs i x)

sum-cut : (x y : ℕ) → (x % 256 + y) % 256 ≡ (x + y) % 256
sum-cut x y = omega arith

cut_word : (bs : List ℕ) (w : ℕ) → with_word_in (cut bs) w ≡ cut (with_word bs w)
cut_word bs w =
    ap (λ (x : ℕ). set (cut bs) (w / 8) ((x + 2 ^ (w % 8)) % 256)) (get_or-map (λ x. x % 256) bs (w / 8) 0)
    ∙ ap (set (cut bs) (w / 8)) (sum-cut (slice_index bs (w / 8)) (2 ^ (w % 8)))
    ∙ sym (cut-set bs (w / 8) (slice_index bs (w / 8) + 2 ^ (w % 8)))

-- either way
cut-cond : (t : Bool) (xs ys us vs : List ℕ) → xs ≡ cut us → ys ≡ cut vs → cond t xs ys ≡ cut (cond t us vs)
cut-cond true xs ys us vs p q = p
cut-cond false xs ys us vs p q = q

-- Of bytes of 8 bits code makes what the theory makes of bytes without a bound, cut to 8 bits.
pub put_in : (m : ℕ) (t : List Node) (i c : ℕ) (b : Bool) (w : ℕ) (bs : List ℕ) → put_node_in m t i c b w (map (λ x. x % 256) bs)
    ≡ map (λ x. x % 256) (put_node m t i c b w bs)
unfolding put_node_in put_node
put_in zero t i c b w bs = cut-cond (c == 0 && b) _ _ (with_word bs w) bs (cut_word bs w) refl
put_in (suc m) t i c b w bs =
    let two : (c₁ : ℕ) (b₁ : Bool) (c₂ : ℕ) (b₂ : Bool)
    → put_node_in m t (i + 1) c₂ b₂ (w + 2 ^ m) (put_node_in m t (i + 1) c₁ b₁ w (cut bs))
    ≡ cut (put_node m t (i + 1) c₂ b₂ (w + 2 ^ m) (put_node m t (i + 1) c₁ b₁ w bs))
    = λ c₁ b₁ c₂ b₂.
    ap (put_node_in m t (i + 1) c₂ b₂ (w + 2 ^ m)) (put_in m t (i + 1) c₁ b₁ w bs)
    ∙ put_in m t (i + 1) c₂ b₂ (w + 2 ^ m) (put_node m t (i + 1) c₁ b₁ w bs) in
    cut-cond (c == 0 || nat_lt i (node t c).level) _ _ _ _ (two c b c b) (two (node t c).first b (node t c).second (differ (node t c).complement b))

digit-most : (v : Verdict) → digit_of v ≤ 1
digit-most is_no = omega arith
digit-most is_yes = omega arith
digit-most not_yet = omega arith

words-below : (k n : ℕ) (t : Trace) (w : ℕ) → words_from k n t w < 2 ^ k
unfolding words_from
words-below zero n t w = omega arith
words-below (suc k) n t w = omega (arith, digit-most (verdict n t w), words-below k n t (w + 1))

-- The theory's bytes have 8 bits.
pub bytes_small : (k n : ℕ) (t : Trace) (i : ℕ) → map (λ x. x % 256) (bytes_from k n t i) ≡ bytes_from k n t i
unfolding bytes_from
bytes_small zero n t i = refl
bytes_small (suc k) n t i = ap₂ ◌∷◌ (mod-eq_of_lt (words-below 8 n t (8 * i))) (bytes_small k n t (i + 1))

-- So of the theory's bytes code makes what the theory makes of them.
pub put-truths : (m : ℕ) (t : List Node) (i c : ℕ) (b : Bool) (w k n : ℕ) (p q : Trace)
    → bytes_from k n q 0 ≡ put_node m t i c b w (bytes_from k n p 0) → put_node_in m t i c b w (bytes_from k n p 0) ≡ bytes_from k n q 0
put-truths m t i c b w k n p q e =
    ap (put_node_in m t i c b w) (sym (bytes_small k n p 0))
    ∙ put_in m t i c b w (bytes_from k n p 0)
    ∙ ap cut (sym e)
    ∙ bytes_small k n q 0

-- ---- The children of a node ------------------------------------------------------------------

-- With no option below it a node has one word.
pub put_one : (m : ℕ) (t : List Node) (i c : ℕ) (b : Bool) (w : ℕ) (bs cs : List ℕ) → m ≡ 0 → cs ≡ cond (c == 0 && b) (with_word_in bs w) bs → cs
    ≡ put_node_in m t i c b w bs
unfolding put_node_in
put_one m t i c b w bs cs h e = rw h e

-- the words of two nodes, one after the other
abbrev two_nodes : ℕ → List Node → ℕ → ℕ → List ℕ → Edge → Edge → List ℕ
two_nodes m t i w bs f g = put_node_in m t (i + 1) g.number g.complement (w + 2 ^ m) (put_node_in m t (i + 1) f.number f.complement w bs)

two-cond : (m : ℕ) (t : List Node) (i w : ℕ) (bs : List ℕ) (s : Bool) (e f g : Edge)
    → cond s (two_nodes m t i w bs e e) (two_nodes m t i w bs f g) ≡ two_nodes m t i w bs (cond s e f) (cond s e g)
two-cond m t i w bs true e f g = refl
two-cond m t i w bs false e f g = refl

-- Else it has the words of its first child, then those of its second.
pub put_both : (m : ℕ) (t : List NodeRecord) (z i : ℕ) (e : Edge) (w : ℕ) (bs : List ℕ)
    → put_node_in (suc m) (table_of t z) i e.number e.complement w bs
    ≡ (let x = get_in t z e.number in
    let f = first_edge x i e in
    let g = second_edge x i e in
    put_node_in m (table_of t z) (i + 1) g.number g.complement (w + 2 ^ m) (put_node_in m (table_of t z) (i + 1) f.number f.complement w bs))
unfolding put_node_in
put_both m t z i e w bs =
    let two = two_nodes m (table_of t z) i w bs in
    let first : Node → Edge = λ y. record { number = y.first; complement = e.complement } in
    let second : Node → Edge = λ y. record { number = y.second; complement = differ y.complement e.complement } in
    ap (λ (y : Node). cond (e.number == 0 || nat_lt i y.level) (two e e) (two (first y) (second y))) (table-node t z e.number)
    ∙ two-cond m (table_of t z) i w bs (e.number == 0 || nat_lt i (get_in t z e.number).level) e _ _

-- a node as `fill_node` puts it
pub put-correct : (m : ℕ) (t : List NodeRecord) (z i : ℕ) (x : NodeRecord) (e f g : Edge) (w h : ℕ) (bs cs ds : List ℕ) → m ≤ truth_table_most
    → (m ≢ 0)
    → x ≡ get_in t z e.number → f ≡ first_edge x i e → g ≡ second_edge x i e → h ≡ 1 * 2 ^ (m - 1) % 18446744073709551616
    → cs ≡ put_node_in (m - 1) (table_of t z) (i + 1) f.number f.complement w bs
    → ds ≡ put_node_in (m - 1) (table_of t z) (i + 1) g.number g.complement (w + h) cs
    → ds ≡ put_node_in m (table_of t z) i e.number e.complement w bs
put-correct zero t z i x e f g w h bs cs ds l n xe fe ge he ce de = absurd (n refl)
put-correct (suc m) t z i x e f g w h bs cs ds l n xe fe ge he ce de =
    let d : suc m - 1 ≡ m = omega arith in
    let first = ce ∙ ap (λ (k : ℕ). put_node_in k (table_of t z) (i + 1) f.number f.complement w bs) d in
    let second = de ∙ ap (λ (k : ℕ). put_node_in k (table_of t z) (i + 1) g.number g.complement (w + h) cs) d in
    second
    ∙ ap₂ (λ (a : ℕ) (l : List ℕ). put_node_in m (table_of t z) (i + 1) g.number g.complement (w + a) l)
    (he ∙ few_words (suc m) 1 (omega (arith, l)) ∙ ap (λ (k : ℕ). 2 ^ k) d) first
    ∙ ap₂ (two_nodes m (table_of t z) i w bs) (fe ∙ ap (λ (y : NodeRecord). first_edge y i e) xe) (ge ∙ ap (λ (y : NodeRecord). second_edge y i e) xe)
    ∙ sym (put_both m t z i e w bs)
