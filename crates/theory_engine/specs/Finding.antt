-- Looking a node up in its bucket finds what the search through the whole table of UniqueTable finds: records that keep a normal state
-- have one number at most for a node. Assumes nothing.
use Rattle.std.specs.Prelude.{◌≡◌, refl, Bool, true, false, cond, List, ℕ, zero, suc, ◌≤◌, ◌<◌}
use Rattle.std.proofs.Common.{sym, ap, ◌∙◌, subst, true≢false, arith}
use Rattle.theory_reading.specs.Nodes.{node}
use Rattle.theory_writing.specs.UniqueTable.{State, find}
use Rattle.theory_writing.specs.Storing.{Sound}
use Rattle.theory_writing.specs.Steps.{find-matches}
use Rattle.theory_writing.specs.Normal.{Normal, find-hits}
use Rattle.theory_engine.specs.Recycling.{fits_at, find_in}
use Rattle.theory_engine.specs.Buckets.{fits-cells, cells_fit, found-fits, missed-fits}
use Rattle.theory_engine.specs.Keeping.{Keeps}
use Rattle.node_records.specs.declared.WriterRecord.{WriterRecord}

-- a complement as its cell has it
same-complement : (a b : Bool) → ◌≡◌ {A = ℕ} (cond a 1 0) (cond b 1 0) → a ≡ b
same-complement true true e = refl
same-complement true false e = absurd (omega (arith, e))
same-complement false true e = absurd (omega (arith, e))
same-complement false false e = refl

-- the number that code finds is the number of document 01
pub keeps-find : (n : ℕ) (t : List WriterRecord) (z f l : ℕ) (s : State) (i a b : ℕ) (u : Bool) → Keeps t z f l s → Sound s → Normal n s
    → 0 < i → find_in t z i a b (cond u 1 0) ≡ find s.table 0 i a b u
keeps-find n t z f l s i a b u ks so nm r = go (find_in t z i a b (cond u 1 0)) refl (find s.table 0 i a b u) refl
  where
    go : (k : ℕ) → find_in t z i a b (cond u 1 0) ≡ k → (j : ℕ) → find s.table 0 i a b u ≡ j → k ≡ j
    go zero e zero d = refl
    go zero e (suc j) d =
        let m = find-matches s i a b u j d in
        let o : suc j ≤ z = omega (arith, m.known, ks.given) in
        let x = ks.nodes (suc j) (omega arith) o in
        absurd (true≢false (sym (cells_fit t (suc j) i a b (cond u 1 0) (x.level ∙ m.level) (x.first ∙ m.first)
        (x.second ∙ m.second) (x.complement ∙ ap (λ (v : Bool). cond v 1 0) m.complement))
        ∙ missed-fits t z i a b (cond u 1 0) ks.few ks.buckets e (suc j) (omega arith) o))
    go (suc k) e j d =
        let w = found-fits t z i a b (cond u 1 0) ks.few ks.buckets (λ c. omega (arith, sym e ∙ c)) in
        hit (suc k) (subst (λ (k : ℕ). (0 < k) × (k ≤ z) × (fits_at t k i a b (cond u 1 0) ≡ true)) e w) ∙ d
      where
        hit : (k : ℕ) → (0 < k) × (k ≤ z) × (fits_at t k i a b (cond u 1 0) ≡ true) → k ≡ find s.table 0 i a b u
        hit k w =
            let x = ks.nodes k w.0 w.1 in
            let c = fits-cells t k i a b (cond u 1 0) w.2 in
            sym (find-hits n s i a b u so nm r k (sym x.level ∙ c.0) (sym x.first ∙ c.1) (sym x.second ∙ c.2)
            (same-complement (node s.table k).complement u (sym x.complement ∙ c.3)))
