-- The covered count that code comes to is the run's: the least word that is not settled, or 2^n. Assumes nothing.
use Rattle.std.specs.Prelude.{◌≡◌, ◌⊎◌, Bool, true, false, cond, not, ◌&&◌, List, [], ◌∷◌, ℕ, ◌-◌, ◌<◌, ◌≤◌, ◌^◌, eqb, ltb, leb, length, Option, Some, None}
use Rattle.std.proofs.Math.Path.{refl, subst⁻¹}
use Rattle.std.proofs.Common.{sym, ap, ap₂, ◌∙◌, inl, inr, ⊎_elim, true≢false, arith, eqb-true, le-ltb, leb-true, leb-false}
use Rattle.std.proofs.lemmas.Bool.{eqb-false}
use Rattle.theory_lists.specs.Lists.{differ, and_l, and_r, decide-le}
use Rattle.theory_reading.specs.Limits.{option_limit, table_limit}
use Rattle.theory_reading.specs.Causes.{cleared}
use Rattle.theory_reading.specs.Deciding.{Decision, decided, decision}
use Rattle.theory_reading.specs.Covered.{covered}
use Rattle.theory_reading.proofs.Covered.{covered-most, covered-decided, uncovered-undecided}
use Rattle.theory_writing.specs.Run.{operate, run_covered}
use Rattle.theory_writing.proofs.Inputs.{decided-one}
use Rattle.theory_writing.proofs.TwoInputs.{opens, Ends, Reaches, Asks, covered-first, covered-second, covered-all}
use Rattle.theory_combining.specs.Entering.{ignores_first, ignores_second, first_alike, second_alike}
use Rattle.blocks.specs.Load.{LoadTo, load}
use Rattle.blocks.specs.LoadLaws.{load-length}
use Rattle.finder.specs.LeastDecided.{is_value, least_decided, least-below, least-hits}
use Rattle.finder.specs.TextSearch.{SearchTo, search_text, text-within, nodes-least}
use Rattle.operators.specs.Operators.{opens_first, opens_second}
use Rattle.covering.specs.Covering.{goes_later, covered_of, found_beside, BothTo, load_both}
use Rattle.covering.specs.Covering.{search_by, search_in, reach_by, reach_in, CoveredTo, covered_by, covered_in}
use Rattle.node_records.specs.Records.{no_record}
use Rattle.node_records.specs.declared.NodeRecord.{NodeRecord}

-- ---- A stream as an input --------------------------------------------------------------------

stream-ends : (n : ℕ) (s : List ℕ) → Ends n (decision n s) (covered n s)
stream-ends n s = record {
  most = covered-most n s;
  before = λ w l. (_, covered-decided n s w (omega (arith, l, covered-most n s)) l);
  after = λ w k l. uncovered-undecided n s w l k;
}

-- a decision that is not v is the other
other-value : (v d : Bool) → is_value v (decided d) ≡ false → d ≡ not v
other-value true true e = absurd (true≢false e)
other-value true false e = refl
other-value false true e = refl
other-value false false e = absurd (true≢false e)

-- THE SEARCH REACHES as far as it shall, if the result is open beside v alone; c: what it finds.
search-reaches : (r : Bool → Bool → Bool) (g : ℕ → Decision) (short long : ℕ) (v : Bool) → short ≤ long → opens r v ≡ true → opens r (not v) ≡ false
    → Reaches r g short long (least_decided (long - short) g v short)
search-reaches r g short long v le at_yes at_no =
    let b = least-below g v (long - short) short in
    let c = least_decided (long - short) g v short in
    record {
      low = b.0;
      most = omega (arith, b.1.0, le);
      settled = λ w k l d e. ap (opens r) (other-value v d (sym (ap (is_value v) e) ∙ b.1.1 w k l)) ∙ at_no;
      open-there = λ l d e.
          ap (opens r) (decided-one d v (sym e ∙ least-hits g v (long - short) short (omega (arith, l, le)))) ∙ at_yes;
    }

-- ---- The search in a stream that was loaded --------------------------------------------------

-- the word o is k, if there is one
abbrev Says : Option ℕ → ℕ → Type 0
Says o k = (i : ℕ) → o ≡ Some i → i ≡ k

some-same : {i k : ℕ} → Some k ≡ Some i → i ≡ k
some-same e = cc

none-some : {k : ℕ} → None ≡ Some k → ⊥
none-some e = cc

-- what becomes of a table: it stays, or it is clear, if it has not the outermost node
abbrev pub Left : LoadTo → List NodeRecord → Type 0
Left x u = (u ≡ x.table) ⊎ ((x.whole ≡ false) × (u ≡ cleared no_record x.table))

module _ (n : ℕ) (few : n ≤ option_limit) (s : List ℕ) (t : List NodeRecord) (room : table_limit ≤ length t) (x : LoadTo) (called : x ≡ load n s t) where
  long-table : table_limit ≤ length x.table
  long-table = omega (arith, room, ap (λ (x : LoadTo). length x.table) called, load-length n s t)

  -- f: what was found before, if it was sought
  module _ (f : Option ℕ) (w : ℕ) (l : w < covered n s) (v : Bool) where
    below : w < 2 ^ n
    below = omega (arith, l, covered-most n s)

    search-word : Says f (search_text n s w v t).word
        → (search_in n s x f w (covered n s) v).word ≡ least_decided (covered n s - w) (decision n s) v w
    search-word right = go f x.whole refl refl
      where
        go : (o : Option ℕ) (b : Bool) → f ≡ o → x.whole ≡ b
            → (search_by n s x w (covered n s) v o b).word ≡ least_decided (covered n s - w) (decision n s) v w
        go (Some k) b h e = right k h ∙ ap (λ (z : SearchTo). z.word) (text-within n s w v t few room below)
        go None true h e = nodes-least n s t x called e few w l v
        go None false h e = ap (λ (z : SearchTo). z.word) (text-within n s w v x.table few long-table below)

    search-left : Left x (search_in n s x f w (covered n s) v).table
    search-left = go f x.whole refl
      where
        go : (o : Option ℕ) (b : Bool) → x.whole ≡ b → Left x (search_by n s x w (covered n s) v o b).table
        go (Some k) b e = inl refl
        go None true e = inl refl
        go None false e = inr (e, ap (λ (z : SearchTo). z.table) (text-within n s w v x.table few long-table below))

  -- r: what the operator gives for values of the shorter input and of this one
  module _ (r : Bool → Bool → Bool) (short : ℕ) (le : short ≤ covered n s) (f : Option ℕ)
      (right : Says f (search_text n s short (opens r true) t).word) where
    abbrev at : Bool → Bool → Bool → SearchTo
    at = reach_by n s x f short (covered n s)

    -- what was sought
    sought : (v : Bool) → opens r true ≡ v → Says f (search_text n s short v t).word
    sought v e k h = right k h ∙ ap (λ (v : Bool). (search_text n s short v t).word) e

    not_same : eqb short (covered n s) ≡ false → short < covered n s
    not_same e = ⊎_elim (λ (k : covered n s ≤ short). absurd (eqb-false short (covered n s) e (omega (arith, k, le)))) (λ (k : short < covered n s). k)
        (decide-le (covered n s) short)

    at-reaches : (same at_no at_yes : Bool) → eqb short (covered n s) ≡ same → opens r false ≡ at_no → opens r true ≡ at_yes
        → Reaches r (decision n s) short (covered n s) (at same at_no at_yes).word
    at-reaches true at_no at_yes z p q =
        let e = eqb-true short (covered n s) z in
        record {
          low = le;
          most = omega arith;
          settled = λ w k l. absurd (omega (arith, k, l, e));
          open-there = λ l. absurd (omega (arith, l));
        }
    at-reaches false true true z p q = record {
      low = omega arith;
      most = le;
      settled = λ w k l. absurd (omega (arith, k, l));
      open-there = λ l d e. any d p q;
    }
      where
        any : (d : Bool) → opens r false ≡ true → opens r true ≡ true → opens r d ≡ true
        any false p q = p
        any true p q = q
    at-reaches false true false z p q =
        subst⁻¹ (Reaches r (decision n s) short (covered n s)) (search-word f short (not_same z) false (sought false q))
        (search-reaches r (decision n s) short (covered n s) false le p q)
    at-reaches false false true z p q =
        subst⁻¹ (Reaches r (decision n s) short (covered n s)) (search-word f short (not_same z) true (sought true q))
        (search-reaches r (decision n s) short (covered n s) true le q p)
    at-reaches false false false z p q = record {
      low = le;
      most = omega arith;
      settled = λ w k l d e. any d p q;
      open-there = λ l. absurd (omega (arith, l));
    }
      where
        any : (d : Bool) → opens r false ≡ false → opens r true ≡ false → opens r d ≡ false
        any false p q = p
        any true p q = q

    at_left : (same at_no at_yes : Bool) → eqb short (covered n s) ≡ same → Left x (at same at_no at_yes).table
    at_left true at_no at_yes z = inl refl
    at_left false true true z = inl refl
    at_left false true false z = search-left f short (not_same z) false
    at_left false false true z = search-left f short (not_same z) true
    at_left false false false z = inl refl

    pub reach-reaches : Reaches r (decision n s) short (covered n s) (reach_in n s x f short (covered n s) (opens r false) (opens r true)).word
    reach-reaches = at-reaches (eqb short (covered n s)) (opens r false) (opens r true) refl refl refl

    pub reach-left : Left x (reach_in n s x f short (covered n s) (opens r false) (opens r true)).table
    reach-left = at_left (eqb short (covered n s)) (opens r false) (opens r true) refl

-- ---- What the operator asks ------------------------------------------------------------------

same_not : (a b : Bool) → a ≡ b → not (differ a b) ≡ true
same_not a b e = ap (λ (a : Bool). not (differ a b)) e ∙ go b
  where
    go : (b : Bool) → not (differ b b) ≡ true
    go true = refl
    go false = refl

both_true : (a b : Bool) → a ≡ true → b ≡ true → (a && b) ≡ true
both_true a b p q = ap₂ ◌&&◌ p q

-- it asks, unless both inputs are ignored
asks : (op : ℕ) → (ignores_first op && ignores_second op) ≡ false → Asks (λ a b. operate op (a ∷ b ∷ []))
asks op e d h =
    let same : (a b a' b' : Bool) → operate op (a ∷ b ∷ []) ≡ operate op (a' ∷ b' ∷ []) = λ a b a' b'. h a b ∙ sym (h a' b') in
    true≢false (sym (both_true (ignores_first op) (ignores_second op)
    (both_true _ _ (same_not _ _ (same false false true false)) (same_not _ _ (same false true true true)))
    (both_true _ _ (same_not _ _ (same false false false true)) (same_not _ _ (same true false true true)))) ∙ e)

asks_turned : (r : Bool → Bool → Bool) → Asks r → Asks (λ a b. r b a)
asks_turned r h d k = h d (λ a b. k b a)

-- else it gives one result
ignored : (op : ℕ) → (ignores_first op && ignores_second op) ≡ true → (a b : Bool) → operate op (a ∷ b ∷ []) ≡ operate op (false ∷ false ∷ [])
ignored op e a b =
    sym (first_alike op (and_l (ignores_first op) (ignores_second op) e) a b)
    ∙ sym (second_alike op (and_r (ignores_first op) (ignores_second op) e) false b)

-- ---- The count -------------------------------------------------------------------------------

-- what was sought beside a stream that covers w words
beside-right : (n : ℕ) (s : List ℕ) (w c : ℕ) (noes yeses : Bool) (t : List NodeRecord) → w ≡ c
    → Says (found_beside n s w noes yeses t) (search_text n s c yeses t).word
beside-right n s w c noes yeses t e = go (differ noes yeses)
  where
    go : (b : Bool) → Says (cond b (Some (search_text n s w yeses t).word) None) (search_text n s c yeses t).word
    go true k h = some-same h ∙ ap (λ (w : ℕ). (search_text n s w yeses t).word) e
    go false k h = absurd (none-some h)

-- both streams loaded, with so many words covered
module _ (n op : ℕ) (few : n ≤ option_limit) (x y : List ℕ) (t₁ t₂ : List NodeRecord) (room₁ : table_limit ≤ length t₁) (room₂ : table_limit ≤ length t₂)
    (c₁ : covered_of (load n x t₁).answer ≡ covered n x) (c₂ : covered_of (load n y t₂).answer ≡ covered n y) where
  abbrev r : Bool → Bool → Bool
  r a b = operate op (a ∷ b ∷ [])

  abbrev Z : BothTo
  Z = load_both n op x y t₁ t₂

  right₁ : Says Z.found1 (search_text n x (covered n y) (opens_second op true) t₁).word
  right₁ = go (goes_later x y)
    where
      go : (b : Bool) → Says
          (cond b (found_beside n x (covered_of (load n y t₂).answer) (opens_second op false) (opens_second op true) t₁) None)
          (search_text n x (covered n y) (opens_second op true) t₁).word
      go true k h = beside-right n x (covered_of (load n y t₂).answer) (covered n y) (opens_second op false) (opens_second op true) t₁ c₂ k h
      go false k h = absurd (none-some h)

  right₂ : Says Z.found2 (search_text n y (covered n x) (opens_first op true) t₂).word
  right₂ = go (goes_later x y)
    where
      go : (b : Bool) → Says
          (cond b None (found_beside n y (covered_of (load n x t₁).answer) (opens_first op false) (opens_first op true) t₂))
          (search_text n y (covered n x) (opens_first op true) t₂).word
      go true k h = absurd (none-some h)
      go false k h = beside-right n y (covered_of (load n x t₁).answer) (covered n x) (opens_first op false) (opens_first op true) t₂ c₁ k h

  -- what a count says, and what is left of the tables
  pub record Counts (z : CoveredTo) : Type 0 where
    pub count : z.count ≡ run_covered (operate op) n (decision n x ∷ decision n y ∷ [])
    pub first : Left (load n x t₁) z.first
    pub second : Left (load n y t₂) z.second

  ways : (many neither before : Bool) → ltb option_limit n ≡ many → (ignores_first op && ignores_second op) ≡ neither
      → leb (covered n x) (covered n y) ≡ before → Counts (covered_by n op x y Z (covered n x) (covered n y) many neither before)
  ways true neither before e₁ e₂ e₃ = absurd (true≢false (sym e₁ ∙ le-ltb option_limit n few))
  ways false true before e₁ e₂ e₃ = record {
    count = sym (covered-all (operate op) n (decision n x) (decision n y) (operate op (false ∷ false ∷ [])) (ignored op e₂));
    first = inl refl;
    second = inl refl;
  }
  ways false false true e₁ e₂ e₃ =
      let k : covered n x ≤ covered n y = leb-true (covered n x) (covered n y) e₃ in
      record {
        count = sym (covered-first (operate op) n (covered n x) (covered n y) _ (decision n x) (decision n y) k (stream-ends n x) (stream-ends n y)
            (reach-reaches n few y t₂ room₂ (load n y t₂) refl r (covered n x) k Z.found2 right₂) (asks op e₂));
        first = inl refl;
        second = reach-left n few y t₂ room₂ (load n y t₂) refl r (covered n x) k Z.found2 right₂;
      }
  ways false false false e₁ e₂ e₃ =
      let k : covered n y ≤ covered n x = omega (arith, leb-false (covered n x) (covered n y) e₃) in
      record {
        count = sym (covered-second (operate op) n (covered n y) (covered n x) _ (decision n y) (decision n x) k (stream-ends n y) (stream-ends n x)
            (reach-reaches n few x t₁ room₁ (load n x t₁) refl (λ a b. r b a) (covered n y) k Z.found1 right₁) (asks_turned r (asks op e₂)));
        first = reach-left n few x t₁ room₁ (load n x t₁) refl (λ a b. r b a) (covered n y) k Z.found1 right₁;
        second = inl refl;
      }

  -- THE COUNT IS THE RUN'S.
  pub covered-counts : Counts (covered_in n op x y Z (covered n x) (covered n y))
  unfolding covered_in
  covered-counts =
      ways (ltb option_limit n) (ignores_first op && ignores_second op) (leb (covered n x) (covered n y)) refl refl refl
