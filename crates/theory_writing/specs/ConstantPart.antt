-- A part whose function is constant comes to the constant and leaves the state as it was; a part depends on its own words alone; its
-- complement is the decision at its first word.
use Rattle.std.specs.Prelude.{◌≡◌, refl, Bool, true, false, ℕ, zero, suc, ◌+◌, ◌≤◌, ◌<◌, ◌^◌}
use Rattle.std.proofs.Common.{ap, ◌∙◌, arith}
use Rattle.theory_lists.specs.Lists.{pow_pos}
use Rattle.theory_reading.specs.Nodes.{terminal}
use Rattle.theory_writing.specs.UniqueTable.{State}
use Rattle.theory_writing.specs.Rules.{number, Part, Done, both_terminal, same_entry, half_barred, found, new_number, by_rule, meet, part}

-- ---- The walk, step by step ------------------------------------------------------------------

-- two halves met
abbrev pub halves_met : ℕ → ℕ → Done → Done → Done
halves_met size i a b = meet size i a.part b.part b.state

-- one step of the walk, for halves that are known
pub part-suc : (size m i at : ℕ) (f : ℕ → Bool) (s : State) (a b : Done)
    → part size m (suc i) at f s ≡ a → part size m (suc i) (at + 2 ^ m) f a.state ≡ b
    → part size (suc m) i at f s ≡ halves_met size i a b
unfolding part
part-suc size m i at f s a b p q =
    ap (λ (d : Done). halves_met size i d (part size m (suc i) (at + 2 ^ m) f d.state)) p ∙ ap (halves_met size i a) q

-- ---- A constant part -------------------------------------------------------------------------

-- the constant v as a part, the state as it was
abbrev pub constant : Bool → State → Done
constant v s = record { part = record { ref = terminal; complement = v; text = number 0 }; state = s }

pub halves_met-constant : (size i : ℕ) (v : Bool) (s : State) → halves_met size i (constant v s) (constant v s) ≡ constant v s
unfolding meet
halves_met-constant size i true s = refl
halves_met-constant size i false s = refl

pub part-constant : (size m i at : ℕ) (f : ℕ → Bool) (v : Bool) (s : State)
    → ((w : ℕ) → at ≤ w → w < at + 2 ^ m → f w ≡ v) → part size m i at f s ≡ constant v s
unfolding part
part-constant size zero i at f v s h = ap (λ (t : Bool). constant t s) (h at (omega arith) (omega arith))
part-constant size (suc m) i at f v s h =
    part-suc size m i at f s (constant v s) (constant v s)
    (part-constant size m (suc i) at f v s (λ w p q. h w p (omega (arith, pow_pos m))))
    (part-constant size m (suc i) (at + 2 ^ m) f v s (λ w p q. h w (omega arith) (omega arith)))
    ∙ halves_met-constant size i v s

-- equal decisions on a block: equal parts
pub part-agree : (size m i at : ℕ) (f g : ℕ → Bool) (s : State)
    → ((w : ℕ) → at ≤ w → w < at + 2 ^ m → f w ≡ g w) → part size m i at f s ≡ part size m i at g s
unfolding part
part-agree size zero i at f g s h = ap (λ (t : Bool). constant t s) (h at (omega arith) (omega arith))
part-agree size (suc m) i at f g s h =
    part-suc size m i at f s (part size m (suc i) at g s) _
    (part-agree size m (suc i) at f g s (λ w p q. h w p (omega (arith, pow_pos m))))
    (part-agree size m (suc i) (at + 2 ^ m) f g (part size m (suc i) at g s).state (λ w p q. h w (omega arith) (omega arith)))

-- ---- The complement --------------------------------------------------------------------------

-- "no at its first word, with the turn passed upward": the complement of a part is the decision at its first word
by_rule-complement : (both same barred : Bool) (known new i : ℕ) (a b : Part) (s : State)
    → (by_rule both same barred known new i a b s).part.complement ≡ a.complement
unfolding by_rule
by_rule-complement true same barred known new i a b s = refl
by_rule-complement false true barred known new i a b s = refl
by_rule-complement false false true known new i a b s = refl
by_rule-complement false false false (suc k) new i a b s = refl
by_rule-complement false false false zero (suc k) i a b s = refl
by_rule-complement false false false zero zero i a b s = refl

pub meet-complement : (size i : ℕ) (a b : Part) (s : State) → (meet size i a b s).part.complement ≡ a.complement
unfolding meet
meet-complement size i a b s =
    by_rule-complement (both_terminal a b) (same_entry s a b) (half_barred s a b) (found s i a b) (new_number size s a b) i a b s

pub part-complement : (size m i at : ℕ) (f : ℕ → Bool) (s : State) → (part size m i at f s).part.complement ≡ f at
unfolding part
part-complement size zero i at f s = refl
part-complement size (suc m) i at f s =
    let a = part size m (suc i) at f s in
    let b = part size m (suc i) (at + 2 ^ m) f a.state in
    meet-complement size i a.part b.part b.state ∙ part-complement size m (suc i) at f s
