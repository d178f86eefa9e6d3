-- The innermost open node gets its record (`spine-step`), until none is left.
use Rattle.std.proofs.Common.{◌≡◌, ap₂, ◌∙◌, ℕ, ◌+◌, ◌-◌, arith}
use Rattle.theory_reading.specs.Spine.{spine_number}
use Rattle.elements.specs.Abstraction.{opens_of}
use Rattle.blocks.specs.Spine.{spine_at, spine-step, spine-none}
use Rattle.blocks.proofs.put_spine.Goals as goal

pub loop-j-preserved : goal.loop-j-preserved
loop-j-preserved c =
    let a = c.args in
    let l = c.loop-j in
    let ns = a.o.now in
    let s = spine-step a.o.now l.t a.z (a.d - l.j) (a.k + l.j) l.inner (λ e. omega (arith, e, c.loop-j-test.true)) c.spine_record.result
    c.spine_record.ensures c.put_worded.new.t c.put_worded.ensures in
    let i : a.d - (l.j + 1) ≡ a.d - l.j - 1 = omega arith in
    let k : a.k + (l.j + 1) ≡ a.k + l.j + 1 = omega arith in (
      ap₂ (λ (i k : ℕ). spine_at c.put_worded.new.t a.z (opens_of ns i) k (a.k + l.j)) i k ∙ s.0 ∙ l.invariant.0,
      ap₂ (λ (i k : ℕ). spine_number (opens_of ns i) k (a.k + l.j)) i k ∙ s.1 ∙ l.invariant.1,
    )

pub returns : goal.returns
returns c =
    let a = c.args in
    let l = c.loop-j in
    let s = spine-none a.o.now l.t a.z (a.d - l.j) (a.k + l.j) l.inner (omega (arith, c.loop-j-test.false)) in
    (s.0 ∙ l.invariant.0, s.1 ∙ l.invariant.1)
