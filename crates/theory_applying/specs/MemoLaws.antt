-- What is true of a memo: a row whose key fits inputs at edges of their tables, and whose number still has its stamp in the output's
-- table, tells what the operator makes of those edges, at whatever level they stand. So it stays while the output's table is added to,
-- while the inputs' tables are read on, and when a part is noted. Assumes nothing.
use Rattle.std.specs.Prelude.{◌≡◌, refl, Bool, true, false, ◌&&◌, eqb, get_or, drop}
use Rattle.std.proofs.Common.{sym, ap, ◌∙◌, subst, inr, ⊎_elim, eqb-true, eq-eqb}
use Rattle.std.proofs.Math.Path.{subst⁻¹}
use Rattle.std.proofs.Math.Logic.{inl}
use mathlib.Core.List.{List, [], ◌∷◌}
use Prim.Native.Nat.{ℕ, zero, suc, ◌+◌, ◌-◌, ◌≤◌, ◌<◌, ◌^◌}
use native.Mathlib.Omega.{arith}
use Rattle.std.proofs.lemmas.Bool.{eqb-false}
use Rattle.theory_lists.specs.Lists.{bit, and_l, and_r, and-true, decide-le}
use Rattle.theory_reading.specs.Nodes.{Node, node, stamp}
use Rattle.theory_reading.proofs.Lasting.{Lasts, Ordered}
use Rattle.theory_writing.specs.UniqueTable.{State}
use Rattle.theory_writing.specs.Steps.{Step}
use Rattle.theory_writing.specs.Meaning.{Is, is_carried}
use Rattle.theory_writing.specs.Rewalk.{is-shift}
use Rattle.theory_applying.specs.Applying.{Source, all_pass}
use Rattle.theory_applying.specs.ApplyLaws.{ShowsAll, decisions_from, all_first, all-second, pass-first, pass-second, shows-once, Makes}
use Rattle.theory_applying.specs.ApplyLaws.{second-correct}
use Rattle.theory_applying.specs.Memo.{same_key, is_empty, number_in, stamp_in, complement_in}
use Rattle.theory_applying.specs.Sitting.{SitsAll, tables_of, all-pass-deep, all-sit-higher, not-deeper, AllLast, in_tables, shows-since}
use Rattle.theory_applying.specs.Sitting.{sits-since}

-- ---- What a number stands for ----------------------------------------------------------------

-- its level is no higher than the part
pub is-deep : (ns : List Node) (f : ℕ → Bool) (m i k : ℕ) (t : Bool) (at : ℕ) → Is ns f m i k t at → 0 < k → i ≤ (node ns k).level
unfolding Is
is-deep ns f zero i k t at h r = absurd (omega (arith, r, h.0))
is-deep ns f (suc m) i k t at (inl h) r = omega (arith, h.0 r)
is-deep ns f (suc m) i k t at (inr h) r = omega (arith, h.1)

-- the constant is the same at each word
pub is-constant : (ns : List Node) (f : ℕ → Bool) (m i : ℕ) (t : Bool) (at : ℕ) → Is ns f m i 0 t at
    → (j : ℕ) → at ≤ j → j < at + 2 ^ m → f j ≡ t
unfolding Is
is-constant ns f zero i t at h j l r = let e : j ≡ at = omega (arith, l, r) in ap f e ∙ h.1
is-constant ns f (suc m) i t at (inl h) j l r = ⊎_elim
    (λ (g : at + 2 ^ m ≤ j). is-constant ns f m (suc i) t (at + 2 ^ m) h.2 j g (omega (arith, r)))
    (λ (g : j < at + 2 ^ m). is-constant ns f m (suc i) t at h.1 j l g) (decide-le (at + 2 ^ m) j)
is-constant ns f (suc m) i t at (inr h) j l r = absurd (omega (arith, h.0))

-- ---- What is told of edges -------------------------------------------------------------------

-- the number k, complemented if c, is what op makes of the edges xs, at each level at which they may stand
abbrev pub Tells : ℕ → (List Bool → Bool) → State → ℕ → Bool → List Source → Type 0
Tells n op s k c xs =
    (i d at : ℕ) (gs : List (ℕ → Bool)) (f : ℕ → Bool) → 0 < i → i + d ≡ suc n → SitsAll i xs → ShowsAll xs d i gs
    → Makes op d at gs f → Is s.table f d i k c at

-- by the levels e above the part at which it was found
module _ (n : ℕ) (op : List Bool → Bool) (s : State) (k : ℕ) (c : Bool) (xs : List Source) (i₀ d₀ at₀ : ℕ) (gs₀ : List (ℕ → Bool))
    (f₀ : ℕ → Bool) (deep₀ : i₀ + d₀ ≡ suc n) (sits : SitsAll i₀ xs) (shown : ShowsAll xs d₀ i₀ gs₀) (made : Makes op d₀ at₀ gs₀ f₀)
    (is : Is s.table f₀ d₀ i₀ k c at₀) where
  abbrev Above : ℕ → Type 0
  Above e =
      (i d at : ℕ) (gs : List (ℕ → Bool)) (f : ℕ → Bool) → i + e ≡ i₀ → i + d ≡ suc n → ShowsAll xs d i gs → Makes op d at gs f
      → Is s.table f d i k c at

  -- there
  told-there : (at : ℕ) (gs : List (ℕ → Bool)) (f : ℕ → Bool) → ShowsAll xs d₀ i₀ gs → Makes op d₀ at gs f
      → Is s.table f d₀ i₀ k c at
  told-there at gs f sh mk =
      is-shift s.table f₀ f d₀ i₀ k c false at₀ at
      (λ w l. mk w l ∙ ap op (shows-once xs d₀ i₀ gs gs₀ sh shown w l) ∙ sym (made w l)) is

  -- one level above: all inputs pass over it, and both halves are that number
  told-above : (e : ℕ) → Above e → (i d at : ℕ) (gs : List (ℕ → Bool)) (f : ℕ → Bool) → i + suc e ≡ i₀ → i + suc d ≡ suc n
      → ShowsAll xs (suc d) i gs → Makes op (suc d) at gs f → Is s.table f (suc d) i k c at
  unfolding Is
  told-above e ih i d at gs f z deep sh mk =
      let pass = all-pass-deep i xs (all-sit-higher (suc i) i₀ xs (omega (arith, z)) sits) in
      let up : i + 1 ≡ suc i = omega arith in
      inl (
        (λ r. omega (arith, is-deep s.table f₀ d₀ i₀ k c at₀ is r, z)),
        ih (suc i) d at gs f (omega (arith, z)) (omega (arith, deep))
            (subst (λ (j : ℕ). ShowsAll xs d j gs) up
            (subst (λ (ys : List Source). ShowsAll ys d (i + 1) gs) (pass-first i xs pass) (all_first xs d i gs sh)))
            (λ w l. mk w (omega (arith, l))),
        ih (suc i) d (at + 2 ^ d) (decisions_from (2 ^ d) gs) f (omega (arith, z)) (omega (arith, deep))
            (subst (λ (j : ℕ). ShowsAll xs d j (decisions_from (2 ^ d) gs)) up
            (subst (λ (ys : List Source). ShowsAll ys d (i + 1) (decisions_from (2 ^ d) gs)) (pass-second i xs pass)
            (all-second xs d i gs sh)))
            (second-correct op d at gs f mk),
      )

  above : (e : ℕ) → Above e
  above zero i d at gs f z deep sh mk =
      let p : i ≡ i₀ = omega (arith, z) in
      let q : d ≡ d₀ = omega (arith, z, deep, deep₀) in
      there i d p q sh mk
    where
      there : (i d : ℕ) → i ≡ i₀ → d ≡ d₀ → ShowsAll xs d i gs → Makes op d at gs f → Is s.table f d i k c at
      there i d p q =
          subst⁻¹ (λ (i : ℕ). ShowsAll xs d i gs → Makes op d at gs f → Is s.table f d i k c at) p
          (subst⁻¹ (λ (d : ℕ). ShowsAll xs d i₀ gs → Makes op d at gs f → Is s.table f d i₀ k c at) q (told-there at gs f))
  above (suc e) i zero at gs f z deep sh mk = absurd (omega (arith, z, deep, deep₀))
  above (suc e) i (suc d) at gs f z deep sh mk = told-above e (above e) i d at gs f z deep sh mk

  -- what a part came to is told of its edges, if not all inputs pass over its level
  pub part-tells : all_pass i₀ xs ≡ false → Tells n op s k c xs
  part-tells e i d at gs f real deep sit sh mk =
      let l = not-deeper i i₀ xs e sit in above (i₀ - i) i d at gs f (omega (arith, l)) deep sh mk

-- ---- Rows ------------------------------------------------------------------------------------

-- the stamps of a key are no greater than those in the tables
abbrev pub KeyPast : List ℕ → List (List Node) → Type 0
KeyPast r [] = Unit {0}
KeyPast r (t ∷ ts) = (get_or r 1 0 ≤ stamp t (get_or r 0 0)) × KeyPast (drop 3 r) ts

-- what is true of a row that is not empty; ts: the tables of the inputs, s: the output's state
pub record Entry (n : ℕ) (op : List Bool → Bool) (ts : List (List Node)) (s : State) (r : List ℕ) : Type 0 where
  pub past : 0 < number_in r → stamp_in r ≤ stamp s.table (number_in r)
  pub key-past : KeyPast (drop 3 r) ts
  pub told : (0 < number_in r → stamp s.table (number_in r) ≡ stamp_in r) → (ys : List Source) → tables_of ys ≡ ts
      → same_key (drop 3 r) ys ≡ true → Tells n op s (number_in r) (complement_in r) ys

-- of all rows of a memo
abbrev pub Memory : ℕ → (List Bool → Bool) → List (List Node) → State → List (List ℕ) → Type 0
Memory n op ts s μ = (p : ℕ) → is_empty (get_or μ p []) ≡ false → Entry n op ts s (get_or μ p [])

-- rows of zeros are empty
pub memory-none : (n : ℕ) (op : List Bool → Bool) (ts : List (List Node)) (s : State) (μ : List (List ℕ))
    → ((p j : ℕ) → get_or (get_or μ p []) j 0 ≡ 0) → Memory n op ts s μ
memory-none n op ts s μ z p e = absurd (eqb-false (get_or (get_or μ p []) 0 0) 0 e (z p 0))

-- ---- The output's table is added to ----------------------------------------------------------

entry-step : (n : ℕ) (op : List Bool → Bool) (ts : List (List Node)) (j : ℕ) (s s' : State) (r : List ℕ) → Step j s s'
    → Entry n op ts s r → Entry n op ts s' r
entry-step n op ts j s s' r st h = record {
  past = λ l. omega (arith, h.past l, st.more (number_in r));
  key-past = h.key-past;
  told = λ e ys t k i d at gs f real deep sit sh mk.
      let was : 0 < number_in r → stamp s.table (number_in r) ≡ stamp_in r = λ l. omega (arith, e l, h.past l, st.more (number_in r)) in
      is_carried j s s' st f d i (number_in r) (complement_in r) at (λ l. e l ∙ sym (was l))
      (h.told was ys t k i d at gs f real deep sit sh mk);
}

-- a memo stays true
pub memory-step : (n : ℕ) (op : List Bool → Bool) (ts : List (List Node)) (j : ℕ) (s s' : State) (μ : List (List ℕ)) → Step j s s'
    → Memory n op ts s μ → Memory n op ts s' μ
memory-step n op ts j s s' μ st h p e = entry-step n op ts j s s' (get_or μ p []) st (h p e)

-- ---- The inputs' tables are read on ----------------------------------------------------------

-- all are ordered
abbrev pub AllOrdered : List (List Node) → Type 0
AllOrdered [] = Unit {0}
AllOrdered (t ∷ ts) = Ordered t × AllOrdered ts

-- a key's stamps are then no greater
key-read : (r : List ℕ) (ts us : List (List Node)) → AllLast ts us → KeyPast r ts → KeyPast r us
key-read r [] [] l h = tt
key-read r [] (u ∷ us) l h = absurd l
key-read r (t ∷ ts) [] l h = absurd l
key-read r (t ∷ ts) (u ∷ us) l h =
    (omega (arith, h.0, l.0.more (get_or r 0 0)), key-read (drop 3 r) ts us l.1 h.1)

-- an input whose key fits now
module _ (r : List ℕ) (t : List Node) (x : Source) (l : Lasts t x.table) (past : get_or r 1 0 ≤ stamp t (get_or r 0 0))
    (number : get_or r 0 0 ≡ x.number) (now : get_or r 1 0 ≡ stamp x.table x.number) where
  -- had that stamp before
  stamp-since : stamp x.table x.number ≡ stamp t x.number
  stamp-since = omega (arith, past, ap (stamp t) number, now, l.more x.number)

  key-since : get_or r 1 0 ≡ stamp t x.number
  key-since = now ∙ stamp-since

-- by the parts of a key
pub record Keyed (r : List ℕ) (x : Source) (xs : List Source) : Type 0 where
  pub number : get_or r 0 0 ≡ x.number
  pub stamps : get_or r 1 0 ≡ stamp x.table x.number
  pub complement : get_or r 2 0 ≡ bit x.complement
  pub rest : same_key (drop 3 r) xs ≡ true

pub keyed : (r : List ℕ) (x : Source) (xs : List Source) → same_key r (x ∷ xs) ≡ true → Keyed r x xs
keyed r x xs e =
    let a = eqb (get_or r 0 0) x.number in
    let b = eqb (get_or r 1 0) (stamp x.table x.number) in
    let c = eqb (get_or r 2 0) (bit x.complement) in
    let k = same_key (drop 3 r) xs in
    record {
      number = eqb-true (get_or r 0 0) x.number (and_l a (b && (c && k)) e);
      stamps = eqb-true (get_or r 1 0) (stamp x.table x.number) (and_l b (c && k) (and_r a (b && (c && k)) e));
      complement = eqb-true (get_or r 2 0) (bit x.complement) (and_l c k (and_r b (c && k) (and_r a (b && (c && k)) e)));
      rest = and_r c k (and_r b (c && k) (and_r a (b && (c && k)) e));
    }

-- what fits a key now fitted it before, and showed and sat there as it does
pub record Since (r : List ℕ) (ts : List (List Node)) (ys : List Source) : Type 0 where
  pub tables : tables_of (in_tables ts ys) ≡ ts
  pub fits : same_key r (in_tables ts ys) ≡ true
  pub sits : (i : ℕ) → AllOrdered ts → SitsAll i ys → SitsAll i (in_tables ts ys)
  pub shows : (d i : ℕ) (gs : List (ℕ → Bool)) → ShowsAll ys d i gs → ShowsAll (in_tables ts ys) d i gs

since : (r : List ℕ) (ts : List (List Node)) (ys : List Source) → AllLast ts (tables_of ys) → KeyPast r ts → same_key r ys ≡ true
    → Since r ts ys
since r [] [] l h e = record { tables = refl; fits = refl; sits = λ i o s. tt; shows = λ d i gs s. s }
since r [] (y ∷ ys) l h e = absurd l
since r (t ∷ ts) [] l h e = absurd l
since r (t ∷ ts) (y ∷ ys) l h e =
    let k = keyed r y ys e in
    let rest = since (drop 3 r) ts ys l.1 h.1 k.rest in
    record {
      tables = ap (λ (us : List (List Node)). t ∷ us) rest.tables;
      fits = and-all (eq-both k.number) (eq-both (key-since r t y l.0 h.0 k.number k.stamps)) (eq-both k.complement)
          rest.fits;
      sits = λ i o s. (
        sits-since t y i l.0 (λ q. stamp-since r t y l.0 h.0 k.number k.stamps) o.0 s.0,
        rest.sits i o.1 s.1,
      );
      shows = show k.number k.stamps rest.shows;
    }
  where
    eq-both : {a b : ℕ} → a ≡ b → eqb a b ≡ true
    eq-both {a} {b} e = eq-eqb a b e

    and-all : {a b c d : Bool} → a ≡ true → b ≡ true → c ≡ true → d ≡ true → (a && (b && (c && d))) ≡ true
    and-all p q u v =
        and-true p (and-true q (and-true u v))

    show : get_or r 0 0 ≡ y.number → get_or r 1 0 ≡ stamp y.table y.number
        → ((d i : ℕ) (gs : List (ℕ → Bool)) → ShowsAll ys d i gs → ShowsAll (in_tables ts ys) d i gs)
        → (d i : ℕ) (gs : List (ℕ → Bool)) → ShowsAll (y ∷ ys) d i gs → ShowsAll (in_tables (t ∷ ts) (y ∷ ys)) d i gs
    show p q rest d i [] s = absurd s
    show p q rest d i (g ∷ gs) s =
        (shows-since t y d i g l.0 (λ z. stamp-since r t y l.0 h.0 p q) s.0, rest d i gs s.1)

entry_read : (n : ℕ) (op : List Bool → Bool) (ts us : List (List Node)) (s : State) (r : List ℕ) → AllOrdered ts → AllLast ts us
    → Entry n op ts s r → Entry n op us s r
entry_read n op ts us s r o l h = record {
  past = h.past;
  key-past = key-read (drop 3 r) ts us l h.key-past;
  told = λ e ys t k i d at gs f real deep sit sh mk.
      let q = since (drop 3 r) ts ys (subst⁻¹ (AllLast ts) t l) h.key-past k in
      h.told e (in_tables ts ys) q.tables q.fits i d at gs f real deep (q.sits i o sit) (q.shows d i gs sh) mk;
}

-- a memo stays true
pub memory-read : (n : ℕ) (op : List Bool → Bool) (ts us : List (List Node)) (s : State) (μ : List (List ℕ)) → AllOrdered ts
    → AllLast ts us → Memory n op ts s μ → Memory n op us s μ
memory-read n op ts us s μ o l h p e = entry_read n op ts us s (get_or μ p []) o l (h p e)
