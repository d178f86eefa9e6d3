-- The records of the nodes that are open at the end of a stream, as code makes them. With a law for each way through code. Assumes nothing.
use Rattle.std.specs.Prelude.{◌≡◌, refl, Bool, true, false, cond, not, ◌&&◌, List, [], ◌∷◌, ℕ, zero, suc, ◌+◌, ◌-◌, eqb, ltb, ◌<◌, ◌≤◌, length, get_or, take}
use Rattle.std.proofs.Common.{sym, ap₂, ◌∙◌, ⊎_elim, arith}
use Rattle.std.proofs.lemmas.List.{get_or-take, length-take}
use Rattle.std.specs.Bool.{MatchBool}
use Rattle.std.specs.List.{AllWithin, HoldsAt}
use Rattle.theory_lists.specs.Lists.{decide-le}
use Rattle.std.proofs.Math.Path.{ap}
use Rattle.theory_reading.specs.Nodes.{Node, child}
use Rattle.theory_reading.specs.Element as T
use Rattle.theory_reading.specs.Spine.{first_stays, firsts_stay, spine_number}
use Rattle.node_records.specs.Records.{no_record}
use Rattle.record_tables.specs.Entries.{entry_at, put_entry}
use Rattle.work_table.specs.Table.{get_in, worded_in}
use Rattle.work_table.specs.TableLaws.{table_of}
use Rattle.elements.specs.Abstraction.{open_of, inside_open, opens_of}
use Rattle.elements.specs.OpenLaws.{open_none, open-length}
use Rattle.reader.specs.Advance.{bars-record}
use Rattle.elements.specs.declared.Open.{Open}
use Rattle.elements.specs.declared.Ref.{Ref}
use Rattle.node_records.specs.declared.NodeRecord.{NodeRecord}

-- ---- Definitions -----------------------------------------------------------------------------

-- a is the terminal, or a number that was not given out again
abbrev pub stays_in : List NodeRecord → ℕ → Ref → Bool
stays_in t z a = eqb (get_in t z a.number).stamp a.stamp

-- the highest number up to z that has a node, or is not above f; 0 if there is none
abbrev pub highest_in : List NodeRecord → ℕ → ℕ → ℕ
highest_in t f zero = 0
highest_in t f (suc k) = cond (ltb f (suc k) && eqb (entry_at no_record t (suc k)).level 0) (highest_in t f k) (suc k)

-- a record of level i with the children f and e; c: whether the edge to the second is complemented
abbrev pub record_as : ℕ → ℕ → ℕ → ℕ → NodeRecord
record_as i f e c = record { level = i; first = f; second = e; complement = c; stamp = 1; parents = 0; admits = 0; refuses = 0 }

-- the record of an open node of level i; e: the number of its child that is being read, or is to be read
abbrev pub spine_record : T.Open → ℕ → ℕ → NodeRecord
spine_record T.in_first i e = record_as i e 0 0
spine_record (T.in_second r b) i e = record_as i (child r) e (cond b 1 0)

-- the number k is given to x, with what its children say of the words below
abbrev pub worded_at : List NodeRecord → ℕ → ℕ → NodeRecord → List NodeRecord
worded_at t z k x = put_entry t k (worded_in t z x)

-- the open nodes get records under the numbers from k on, the innermost first
abbrev pub spine_at : List NodeRecord → ℕ → List T.Open → ℕ → ℕ → List NodeRecord
spine_at t z [] k e = t
spine_at t z (x ∷ o) k e = spine_at (worded_at t z k (spine_record x (length o + 1) e)) z o (k + 1) k

-- ---- The first children ----------------------------------------------------------------------

not-twice : (b : Bool) → b ≡ not (not b)
not-twice true = refl
not-twice false = refl

pub first_ended : (t : List NodeRecord) (z : ℕ) (x : Open) (b : Bool) → x.second ≡ true → b ≡ stays_in t z x.first
    → b ≡ first_stays (table_of t z) (open_of x)
first_ended t z x b h e = rw h (e ∙ not-twice (stays_in t z x.first) ∙ ap not (sym (bars-record t z x.first)))

-- the innermost of d open nodes
module _ (o : List Open) where
  opens-suc : (d : ℕ) → opens_of o (suc d) ≡ open_of (get_or o d inside_open) ∷ opens_of o d
  unfolding opens_of
  opens-suc d = refl

  pub opens-inner : (d : ℕ) → (d ≡ 0 → ⊥) → opens_of o d ≡ open_of (get_or o (d - 1) inside_open) ∷ opens_of o (d - 1)
  opens-inner zero h = absurd (h refl)
  opens-inner (suc d) h =
      let e : d ≡ suc d - 1 = omega arith in
      opens-suc d ∙ ap (λ (i : ℕ). open_of (get_or o i inside_open) ∷ opens_of o i) e

  module _ (t : List Node) where
    -- the first children of all of them stay,
    firsts-all : (d : ℕ) → ((k : ℕ) → k < d → first_stays t (open_of (get_or o k inside_open)) ≡ true)
        → true ≡ firsts_stay t (opens_of o d)
    firsts-all zero h = sym (ap (firsts_stay t) (open_none o))
    firsts-all (suc d) h =
        ap₂ ◌&&◌ (sym (h d (omega arith))) (firsts-all d (λ k l. h k (omega (arith, l)))) ∙ ap (firsts_stay t) (sym (opens-suc d))

    -- or that of one does not.
    firsts-one : (d k : ℕ) → k < d → first_stays t (open_of (get_or o k inside_open)) ≡ false → false ≡ firsts_stay t (opens_of o d)
    firsts-one zero k l h = absurd (omega (arith, l))
    firsts-one (suc d) k l h = ⊎_elim
        (λ (m : d ≤ k). ap (λ (b : Bool). b && firsts_stay t (opens_of o d))
        (sym (ap (λ (i : ℕ). first_stays t (open_of (get_or o i inside_open))) (d≡k m) ∙ h)) ∙ ap (firsts_stay t) (sym (opens-suc d)))
        (λ (m : k < d). and-false (first_stays t (open_of (get_or o d inside_open))) ∙ ap₂ ◌&&◌ refl (firsts-one d k m h)
        ∙ ap (firsts_stay t) (sym (opens-suc d)))
        (decide-le d k)
      where
        d≡k : d ≤ k → d ≡ k
        d≡k m = omega (arith, m, l)

        and-false : (b : Bool) → false ≡ (b && false)
        and-false true = refl
        and-false false = refl

    -- b: whether those of the first d do
    pub firsts_by : (d : ℕ) → d ≤ length o → (b : Bool)
        → MatchBool b (AllWithin (λ (x : Open). first_stays t (open_of x) ≡ true) (take d o) 0 (length (take d o)))
        ((k : ℕ) × (k < length (take d o)) × HoldsAt (λ (x : Open). first_stays t (open_of x) ≡ false) (take d o) k)
        → b ≡ firsts_stay t (opens_of o d)
    firsts_by d l true h = firsts-all d (λ k m.
        ap (λ (x : Open). first_stays t (open_of x)) (sym (get_or-take d o k inside_open m))
        ∙ h k inside_open (omega arith) (omega (arith, m, l, length-take d o)))
    firsts_by d l false h =
        let m : h.0 < d = omega (arith, h.1, l, length-take d o) in
        firsts-one d h.0 m (ap (λ (x : Open). first_stays t (open_of x)) (sym (get_or-take d o h.0 inside_open m)) ∙ h.2 inside_open)

  -- ---- The records

  -- y: the record of the innermost of d; u: the table with it
  pub spine-step : (t : List NodeRecord) (z d k e : ℕ) → (d ≡ 0 → ⊥) → (y : NodeRecord) → y ≡ spine_record (open_of (get_or o (d - 1) inside_open)) d e
      → (u : List NodeRecord) → u ≡ worded_at t z k y
      → (spine_at u z (opens_of o (d - 1)) (k + 1) k ≡ spine_at t z (opens_of o d) k e)
      × (spine_number (opens_of o (d - 1)) (k + 1) k ≡ spine_number (opens_of o d) k e)
  spine-step t z d k e h y ye u ue =
      let l : d ≡ length (opens_of o (d - 1)) + 1 = omega (arith, h, open-length o (d - 1)) in
      let x = open_of (get_or o (d - 1) inside_open) in
      let q = opens-inner d h in (
        ap (λ (u : List NodeRecord). spine_at u z (opens_of o (d - 1)) (k + 1) k)
            (ue ∙ ap (worded_at t z k) (ye ∙ ap (λ (i : ℕ). spine_record x i e) l))
            ∙ ap (λ (l : List T.Open). spine_at t z l k e) (sym q),
        ap (λ (l : List T.Open). spine_number l k e) (sym q),
      )

  -- none is left
  pub spine-none : (t : List NodeRecord) (z d k e : ℕ) → d ≡ 0
      → (t ≡ spine_at t z (opens_of o d) k e) × (e ≡ spine_number (opens_of o d) k e)
  spine-none t z d k e h =
      let q : opens_of o d ≡ [] = ap (opens_of o) h ∙ open_none o in
      (sym (ap (λ (l : List T.Open). spine_at t z l k e) q), sym (ap (λ (l : List T.Open). spine_number l k e) q))
