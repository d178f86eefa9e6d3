-- One open node more counts if the place is in its second child.
use Rattle.std.proofs.Common.{◌≡◌, refl, sym, ap, ap₂, ◌∙◌, Bool, true, false, not, ℕ, ◌<◌, arith, add-one}
use Rattle.std.proofs.lemmas.List.{get_or-take, length-take}
use mathlib.Core.Bool.{beq}
use Rattle.theory_lists.specs.Lists.{differ}
use Rattle.theory_reading.specs.Covered.{parity}
use Rattle.elements.specs.Abstraction.{inside_open, opens_of}
use Rattle.elements.specs.OpenLaws.{deep-most}
use Rattle.reader.specs.RunOn.{complement_in}
use Rattle.reader.specs.OpenParity.{parity-none, parity-more}
use Rattle.blocks.proofs.parity_of.Goals as goal

differs : (p q : Bool) → not (beq p q) ≡ differ q p
differs true true = refl
differs true false = refl
differs false true = refl
differs false false = refl

pub loop-e-init : goal.loop-e-init
loop-e-init c = sym (parity-none c.args.o.now)

pub loop-e-preserved : goal.loop-e-preserved
loop-e-preserved c =
    let l = c.loop-e in
    let o = c.args.o.now in
    let m : l.e-index < c.deep_of.result = omega (arith, c.loop-e-test.true, length-take c.deep_of.result o) in
    differs l.p c.complements-p.result
    ∙ ap₂ differ (c.complements-p.ensures ∙ ap complement_in (get_or-take c.deep_of.result o l.e-index inside_open m)) l.invariant
    ∙ sym (parity-more o l.e-index)
    ∙ ap (λ (k : ℕ). parity (opens_of o k)) (sym (add-one l.e-index))

pub returns : goal.returns
returns c =
    let o = c.args.o.now in
    c.loop-e.invariant
    ∙ ap (λ (k : ℕ). parity (opens_of o k))
    (omega (arith, c.loop-e-test.false, c.loop-e.auto.e-index-end, length-take c.deep_of.result o, c.deep_of.ensures, deep-most c.args.d, c.told-o))
