-- How often a number can be given out: with m options left fewer than 2 ^ m times.
use Rattle.std.specs.Prelude.{◌≡◌, refl, ◌≢◌, Bool, true, false, ℕ, zero, suc, ◌+◌, ◌≤◌, ◌<◌, ◌^◌}
use Rattle.std.proofs.Common.{ap, ⊎_elim, arith}
use Rattle.theory_lists.specs.Lists.{decide_eq}
use Rattle.theory_reading.specs.Nodes.{child, Node, stamp}
use Rattle.theory_writing.specs.UniqueTable.{State, stored}
use Rattle.theory_writing.specs.Rules.{Part, edge, both_terminal, same_entry, half_barred, found, new_number, by_rule, meet, part}
use Rattle.theory_writing.specs.Storing.{Sound, Able, stored_same, stored_other}
use Rattle.theory_writing.specs.Steps.{next-able, Halves, a-known, b-known, first_half, second_half, part-good, part-halves}

stored-stamp : (s : State) (k i a b : ℕ) (t : Bool) → Sound s → Able s k a b → (p : ℕ)
    → stamp (stored s k i a b t).table p ≤ suc (stamp s.table p)
stored-stamp s k i a b t h able p = ⊎_elim
    (λ (e : p ≡ k). omega (
      arith,
      ap (λ (j : ℕ). stamp (stored s k i a b t).table j) e,
      ap (λ (x : Node). x.stamp) (stored_same s k i a b t h able),
      ap (stamp s.table) e,
    ))
    (λ (d : p ≢ k). omega (arith, ap (λ (x : Node). x.stamp) (stored_other s k i a b t h able p d))) (decide_eq p k)

by_rule-stamp : (size i : ℕ) (s₀ s₁ s : State) (a b : Part) → Halves i s₀ s₁ s a b → (both same barred : Bool) (known new : ℕ)
    → new_number size s a b ≡ new → (p : ℕ)
    → stamp (by_rule both same barred known new i a b s).state.table p ≤ suc (stamp s.table p)
unfolding by_rule
by_rule-stamp size i s₀ s₁ s a b h true same barred known new e p = omega arith
by_rule-stamp size i s₀ s₁ s a b h false true barred known new e p = omega arith
by_rule-stamp size i s₀ s₁ s a b h false false true known new e p = omega arith
by_rule-stamp size i s₀ s₁ s a b h false false false (suc k) new e p = omega arith
by_rule-stamp size i s₀ s₁ s a b h false false false zero (suc k) e p =
    stored-stamp s (suc k) i (child a.ref) (child b.ref) (edge a b) h.sound
    (next-able size s (child a.ref) (child b.ref) k h.sound (a-known i s₀ s₁ s a b h) (b-known i s₀ s₁ s a b h) e) p
by_rule-stamp size i s₀ s₁ s a b h false false false zero zero e p = omega arith

-- a part gives out each number fewer than 2 ^ m times
pub part-stamp : (size m i at : ℕ) (f : ℕ → Bool) (s : State) → Sound s → (p : ℕ)
    → stamp (part size m i at f s).state.table p < stamp s.table p + 2 ^ m
unfolding part meet
part-stamp size zero i at f s h p = omega arith
part-stamp size (suc m) i at f s h p =
    let a = first_half size m i at f s in
    let b = second_half size m i at f s in
    let x = part-stamp size m (suc i) at f s h p in
    let y = part-stamp size m (suc i) (at + 2 ^ m) f a.state (part-good size m (suc i) at f s h).sound p in
    let z = by_rule-stamp size i s a.state b.state a.part b.part (part-halves size m i at f s h)
    (both_terminal a.part b.part) (same_entry b.state a.part b.part) (half_barred b.state a.part b.part)
    (found b.state i a.part b.part) (new_number size b.state a.part b.part) refl p in
    omega (arith, x, y, z)
