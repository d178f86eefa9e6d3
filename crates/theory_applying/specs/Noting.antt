-- A part that the memo tells is one step, and what a part came to may be noted. Assumes nothing.
use Rattle.std.specs.Prelude.{◌≡◌, refl, Bool, true, false, cond, not, ◌&&◌, ◌||◌, List, [], ◌∷◌, ℕ, zero, suc, ◌+◌, ◌-◌, ◌≤◌, ◌<◌, ◌^◌, eqb, set, drop, take}
use Rattle.std.proofs.Common.{sym, ap, ap₂, ◌∙◌, subst, ⊎_elim, true≢false, arith, eqb-true}
use Rattle.std.proofs.Math.Path.{subst⁻¹}
use Rattle.std.proofs.Math.ListN.{get_or-eq_default}
use Rattle.std.proofs.lemmas.Bool.{eqb-false, not-true}
use Rattle.theory_lists.specs.Lists.{bit, and_l, and_r, decide-le}
use Rattle.theory_lists.specs.Maps.{get_or-set-either}
use Rattle.theory_reading.specs.Nodes.{terminal, entry, temporary, is_kept, child, Node, no_node, node, stamp}
use Rattle.theory_writing.specs.UniqueTable.{State}
use Rattle.theory_writing.specs.Rules.{Part, edge, both_terminal, same_entry, half_barred, found, new_number, by_rule, meet, part}
use Rattle.theory_writing.specs.Storing.{Sound}
use Rattle.theory_writing.specs.Steps.{Step, step-refl, step-stored, next-able, Halves, a-known, b-known, first_half, second_half, part-good}
use Rattle.theory_writing.specs.Steps.{part-halves}
use Rattle.theory_writing.specs.Normal.{Normal, part-deep}
use Rattle.theory_writing.specs.Meaning.{Is}
use Rattle.theory_writing.specs.Online.{Went, online, online-went}
use Rattle.theory_engine.specs.Cells.{cell}
use Rattle.writer_records.specs.Fields.{level_field, stamp_field}
use Rattle.theory_engine.specs.Keeping.{Keeps}
use Rattle.theory_engine.specs.Engine.{Half, Progress, constant_half, number_half, kept}
use Rattle.theory_engine.specs.Leading.{Came, Stands, Leads}
use Rattle.theory_engine.specs.Again.{Now, number-leads, online-means, online-now, came-entry}
use Rattle.theory_engine.specs.Walking.{block-leads}
use Rattle.theory_applying.specs.Applying.{Source, all_pass}
use Rattle.theory_applying.specs.ApplyLaws.{ShowsAll, Makes}
use Rattle.theory_applying.specs.Memo.{key_of, same_key, is_empty, number_in, stamp_in, complement_in, is_young, tells, told_half, note_entry, remember_in}
use Rattle.theory_applying.specs.Sitting.{SitsAll, tables_of}
use Rattle.theory_applying.specs.MemoLaws.{is-deep, is-constant, Tells, part-tells, KeyPast, Entry, Memory, keyed}
use Rattle.node_records.specs.declared.WriterRecord.{WriterRecord}

-- ---- What a part does to the output's state --------------------------------------------------

-- from the halves' state on
by_rule-step : (size i : ℕ) (s₀ s₁ s : State) (a b : Part) → Halves i s₀ s₁ s a b → (both same barred : Bool) (known new : ℕ)
    → new_number size s a b ≡ new → Step i s (by_rule both same barred known new i a b s).state
unfolding by_rule
by_rule-step size i s₀ s₁ s a b h true same barred known new e = step-refl i s
by_rule-step size i s₀ s₁ s a b h false true barred known new e = step-refl i s
by_rule-step size i s₀ s₁ s a b h false false true known new e = step-refl i s
by_rule-step size i s₀ s₁ s a b h false false false (suc k) new e = step-refl i s
by_rule-step size i s₀ s₁ s a b h false false false zero (suc k) e =
    step-stored s (suc k) i (child a.ref) (child b.ref) (edge a b) h.sound
    (next-able size s (child a.ref) (child b.ref) k h.sound (a-known i s₀ s₁ s a b h) (b-known i s₀ s₁ s a b h) e)
by_rule-step size i s₀ s₁ s a b h false false false zero zero e = step-refl i s

-- when the halves of a part meet
part-met : (size m i at : ℕ) (f : ℕ → Bool) (s : State) → Sound s
    → Step i (second_half size m i at f s).state (part size (suc m) i at f s).state
unfolding part meet
part-met size m i at f s h =
    let a = first_half size m i at f s in
    let b = second_half size m i at f s in
    by_rule-step size i s a.state b.state a.part b.part (part-halves size m i at f s h)
    (both_terminal a.part b.part) (same_entry b.state a.part b.part) (half_barred b.state a.part b.part)
    (found b.state i a.part b.part) (new_number size b.state a.part b.part) refl

module _ (n size d i at : ℕ) (f : ℕ → Bool) (s : State) (sound : Sound s) (normal : Normal n s) (real : 0 < i) where
  -- all of a part
  pub online-step : (p : List ℕ) → i + d ≡ suc n → Step i s (online size d i at p f s).state
  online-step p deep =
      subst⁻¹ (λ (x : Went). Step i s x.state) (online-went n size d i at p f s sound normal real deep)
      (part-good size d i at f s sound).step

  -- after its halves; p, q, v: what waits before them and before it
  pub online-met : (p q v : List ℕ) → i + suc d ≡ suc n →
      let x = online size d (suc i) at p f s in
      Step i (online size d (suc i) (at + 2 ^ d) q f x.state).state (online size (suc d) i at v f s).state
  online-met p q v deep =
      let a = first_half size d i at f s in
      subst⁻¹ (λ (x : Went). Step i (online size d (suc i) (at + 2 ^ d) q f x.state).state (online size (suc d) i at v f s).state)
      (online-went n size d (suc i) at p f s sound normal (omega arith) (omega (arith, deep)))
      (subst⁻¹ (λ (x : Went). Step i x.state (online size (suc d) i at v f s).state)
      (online-went n size d (suc i) (at + 2 ^ d) q f a.state (part-good size d (suc i) at f s sound).sound
      (part-deep n size d (suc i) at f s sound normal (omega arith) (omega (arith, deep))).normal (omega arith) (omega (arith, deep)))
      (subst⁻¹ (λ (x : Went). Step i (second_half size d i at f s).state x.state)
      (online-went n size (suc d) i at v f s sound normal real deep) (part-met size d i at f s sound)))

-- ---- Noting ----------------------------------------------------------------------------------

-- one of two
bit-same : (a b : Bool) → bit a ≡ bit b → a ≡ b
bit-same true true e = refl
bit-same true false e = absurd (omega (arith, e))
bit-same false true e = absurd (omega (arith, e))
bit-same false false e = refl

bit-back : (c : Bool) → eqb (bit c + 1) 2 ≡ c
bit-back true = refl
bit-back false = refl

-- an edge is its three parts
source-same : (x y : Source) → x.table ≡ y.table → x.number ≡ y.number → x.complement ≡ y.complement → x ≡ y
source-same x y a b c =
    ap (λ (t : List Node). record { table = t; number = x.number; complement = x.complement }) a
    ∙ ap (λ (k : ℕ). record { table = y.table; number = k; complement = x.complement }) b
    ∙ ap (λ (u : Bool). record { table = y.table; number = y.number; complement = u }) c

-- the inputs that fit the key of others in the same tables are those
key-same : (xs ys : List Source) → tables_of ys ≡ tables_of xs → same_key (key_of xs) ys ≡ true → ys ≡ xs
key-same [] [] t e = refl
key-same [] (y ∷ ys) t e = cc
key-same (x ∷ xs) [] t e = cc
key-same (x ∷ xs) (y ∷ ys) t e =
    let k = keyed (key_of (x ∷ xs)) y ys e in
    let a : y.table ≡ x.table = cc in
    let b : tables_of ys ≡ tables_of xs = cc in
    ap₂ ◌∷◌ (source-same y x a (sym k.number) (sym (bit-same x.complement y.complement k.complement))) (key-same xs ys b k.rest)

-- its stamps are those in the tables
key-now : (xs : List Source) → KeyPast (key_of xs) (tables_of xs)
key-now [] = tt
key-now (x ∷ xs) = (omega arith, key-now xs)

-- what a part came to, told of its edges
note-entry : (n : ℕ) (op : List Bool → Bool) (s : State) (xs : List Source) (h : Half)
    → (0 < h.number → stamp s.table h.number ≡ h.stamp) → Tells n op s h.number h.complement xs
    → Entry n op (tables_of xs) s (note_entry xs h)
note-entry n op s xs h now told = record {
  past = λ l. omega (arith, now l);
  key-past = key-now xs;
  told = λ e ys t k.
      subst⁻¹ (λ (ys : List Source). Tells n op s h.number (eqb (bit h.complement + 1) 2) ys) (key-same xs ys t k)
      (subst⁻¹ (λ (c : Bool). Tells n op s h.number c xs) (bit-back h.complement) told);
}

-- a memo stays true
pub memory-note : (hash : List ℕ → ℕ) (n : ℕ) (op : List Bool → Bool) (s : State) (μ : List (List ℕ)) (xs : List Source) (h : Half)
    → (h.temporary ≡ false → (0 < h.number → stamp s.table h.number ≡ h.stamp) × Tells n op s h.number h.complement xs)
    → Memory n op (tables_of xs) s μ → Memory n op (tables_of xs) s (remember_in hash μ xs h)
unfolding remember_in
memory-note hash n op s μ xs h told mem = go h.temporary refl
  where
    row : List ℕ
    row = note_entry xs h

    go : (u : Bool) → h.temporary ≡ u → Memory n op (tables_of xs) s (cond u μ (set μ (hash (key_of xs)) row))
    go true e = mem
    go false e = λ p. get_or-set-either (λ (r : List ℕ). is_empty r ≡ false → Entry n op (tables_of xs) s r) μ (hash (key_of xs)) p row []
        (λ z. note-entry n op s xs h (told e).0 (told e).1) (mem p)

-- ---- What a part came to ---------------------------------------------------------------------

-- a half that is not temporary came to something kept
pub came-kept : (i : ℕ) (h : Half) (x : Went) → Came i h x → h.temporary ≡ false → is_kept x.ref ≡ true
came-kept i h x c e = go h.temporary (eqb h.number 0) e c.ref
  where
    go : (t z : Bool) → t ≡ false → cond t temporary (cond z terminal (entry h.number h.stamp)) ≡ x.ref
        → is_kept x.ref ≡ true
    go true z e r = absurd (true≢false e)
    go false true e r = ap is_kept (sym r)
    go false false e r = ap is_kept (sym r)

-- so a part of level i may be noted, if not all inputs pass over its level
pub part-noted : (n : ℕ) (op : List Bool → Bool) (size d i at : ℕ) (p : List ℕ) (xs : List Source) (gs : List (ℕ → Bool)) (f : ℕ → Bool)
    (s : State) (h : Half) → Sound s → Normal n s → 0 < i → i + d ≡ suc n → SitsAll i xs → ShowsAll xs d i gs → Makes op d at gs f
    → all_pass i xs ≡ false →
    let x = online size d i at p f s in
    Came i h x → h.temporary ≡ false
    → (0 < h.number → stamp x.state.table h.number ≡ h.stamp) × Tells n op x.state h.number h.complement xs
part-noted n op size d i at p xs gs f s h sound normal real deep sit sh mk some came e = (
  (λ l. subst (Now x.state) (came-entry i h x came (λ z. omega (arith, l, z))) (online-now n size d i at p f s sound normal real deep)),
  part-tells n op x.state h.number h.complement xs i d at gs f deep sit sh mk
      (subst⁻¹ (λ (k : ℕ). Is x.state.table f d i k h.complement at) came.number
      (subst⁻¹ (λ (c : Bool). Is x.state.table f d i (child x.ref) c at) came.complement
      (online-means n size d i at p f s sound normal real deep (came-kept i h x came e)))) some,
)
  where
    x : Went
    x = online size d i at p f s

-- ---- A part that is told ---------------------------------------------------------------------

-- the stamp of a number, as the records have it
keeps-stamp : (t : List WriterRecord) (z f l : ℕ) (s : State) → Keeps t z f l s → (k : ℕ) → 0 < k → cell t stamp_field k ≡ stamp s.table k
keeps-stamp t z f l s h k r = ⊎_elim
    (λ (g : k ≤ z). (h.nodes k r g).stamp)
    (λ (g : z < k). (h.fresh k g).0 ∙ sym (ap (λ (x : Node). x.stamp) (get_or-eq_default s.table no_node (omega (arith, g, h.given)))))
    (decide-le k z)

-- the level of a number that is stored
keeps-level : (t : List WriterRecord) (z f l : ℕ) (s : State) → Keeps t z f l s → (k : ℕ) → 0 < k → 0 < (node s.table k).level
    → cell t level_field k ≡ (node s.table k).level
keeps-level t z f l s h k r v = ⊎_elim
    (λ (g : k ≤ z). (h.nodes k r g).level)
    (λ (g : z < k).
    let e : node s.table k ≡ no_node = get_or-eq_default s.table no_node (omega (arith, g, h.given)) in
    absurd (omega (arith, v, ap (λ (x : Node). x.level) e)))
    (decide-le k z)

-- a part of level i, d options left, that a row of the memo tells
pub told-leads : (n : ℕ) (op : List Bool → Bool) (size d i at m : ℕ) (o T p w : List ℕ) (xs : List Source) (gs : List (ℕ → Bool))
    (f : ℕ → Bool) (t : List WriterRecord) (out : List ℕ) (progress : Progress) (s : State) (r : List ℕ) → 0 < i → i + d ≡ suc n
    → Stands n size o T t out progress s → take m w ≡ p → SitsAll i xs → ShowsAll xs d i gs → Makes op d at gs f
    → (is_empty r ≡ false → Entry n op (tables_of xs) s r) → tells r xs t ≡ true
    → Leads n size i m o T p w (kept (told_half r i t) t out w progress) (online size d i at p f s)
told-leads n op size d i at m o T p w xs gs f t out progress s r real deep st here sit sh mk row e = go (eqb k 0) refl young
  where
    k : ℕ
    k = number_in r

    c : Bool
    c = complement_in r

    there : Entry n op (tables_of xs) s r
    there = row (not-true (is_empty r) (and_l (not (is_empty r)) (same_key (drop 3 r) xs && is_young r t) e))

    fits : same_key (drop 3 r) xs ≡ true
    fits =
        and_l (same_key (drop 3 r) xs) (is_young r t)
        (and_r (not (is_empty r)) (same_key (drop 3 r) xs && is_young r t) e)

    young : (eqb k 0 || eqb (cell t stamp_field k) (stamp_in r)) ≡ true
    young =
        and_r (same_key (drop 3 r) xs) (is_young r t)
        (and_r (not (is_empty r)) (same_key (drop 3 r) xs && is_young r t) e)

    is : (0 < k → stamp s.table k ≡ stamp_in r) → Is s.table f d i k c at
    is now = there.told now xs refl fits i d at gs f real deep sit sh mk

    go : (u : Bool) → eqb k 0 ≡ u → (u || eqb (cell t stamp_field k) (stamp_in r)) ≡ true
        → Leads n size i m o T p w
        (kept (cond u (constant_half c) (number_half k (stamp_in r) (cell t level_field k - i) c false)) t out w progress) (online size d i at p f s)
    go true z y =
        let zero_is : k ≡ 0 = eqb-true k 0 z in
        block-leads n size d i at m o T p w f t out progress s c real deep st here
        (is-constant s.table f d i c at (subst (λ (j : ℕ). Is s.table f d i j c at) zero_is (is (λ l. absurd (omega (arith, l, zero_is))))))
    go false z y =
        let some : 0 < k = let q = eqb-false k 0 z in omega (arith, q) in
        let now : stamp s.table k ≡ stamp_in r =
        sym (keeps-stamp t progress.given progress.first progress.last s st.keeps k some)
        ∙ eqb-true (cell t stamp_field k) (stamp_in r) y in
        let h = is (λ l. now) in
        let v : 0 < (node s.table k).level = omega (arith, is-deep s.table f d i k c at h some, real) in
        let level = keeps-level t progress.given progress.first progress.last s st.keeps k some v in
        subst (λ (g : ℕ). Leads n size i m o T p w (kept (number_half k g (cell t level_field k - i) c false) t out w progress)
        (online size d i at p f s)) now
        (subst⁻¹ (λ (l : ℕ). Leads n size i m o T p w (kept (number_half k (stamp s.table k) (l - i) c false) t out w progress)
        (online size d i at p f s)) level (number-leads n size d i at m o T p w f t out progress s k c real deep st here some h))
