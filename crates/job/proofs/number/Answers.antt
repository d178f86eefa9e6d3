-- No byte, too many or a leading zero give no number; then digit after digit.
use Rattle.std.proofs.Common.{◌≡◌, ◌∙◌, ◌-◌, ◌<◌, ◌≤◌, ◌⊎◌, ℕ, List, Bool, true, false, length, sym, get_or, arith, inl, inr, eqb, eq-eqb}
use Rattle.std.proofs.lemmas.Bool.{false≢true}
use Rattle.std.proofs.lemmas.Grind.{common_steps}
use Rattle.theory_reading.specs.Bytes.{is_digit}
use Rattle.claims.specs.Numerals.{digit-range}
use Rattle.theory_writing.specs.Join.{number_of, value_on}
use Rattle.job.specs.Fields.{number-none, number-long, number-zero, number-one, number-value, pow-next, value-digit, value-stop, value-end}
use Rattle.job.proofs.number.Goals.{then-is_empty-via-then-is_empty, then-is_empty-via-else-is_empty+then-l-gt4, then-is_empty-via-else-is_empty+else-l-gt4+then-l-eq48, then-l-gt1, else-l-gt1}
use Rattle.job.proofs.number.Goals as goal

-- what is left to read is the whole
one-or-more : (l : List ℕ) (v : Bool) → (length l ≡ 0 → ⊥) → length l ≤ 4 → v ≡ false
    → ((1 < length l) × (v ≡ eqb (get_or l 0 0) 48)) ⊎ (length l ≤ 1) → number_of l ≡ value_on 0 l
one-or-more l v d h e (inl w) = number-value l w.0 h (λ k. false≢true (sym e ∙ w.1 ∙ eq-eqb (get_or l 0 0) 48 k))
one-or-more l v d h e (inr w) = number-one l d w

pub returns-then-is_empty : goal.returns-then-is_empty
returns-then-is_empty c = elim c.then-is_empty.branch [
  | then-is_empty-via-then-is_empty w ↦ number-none c.args.l.now (grind (arith, common_steps))
  | then-is_empty-via-else-is_empty+then-l-gt4 w ↦ number-long c.args.l.now w.if-l-gt4.true
  | then-is_empty-via-else-is_empty+else-l-gt4+then-l-eq48 w ↦
      elim w.if-l-gt1.branch [
        | then-l-gt1 v ↦ number-zero c.args.l.now v.if-l-gt1.true (grind (arith, common_steps))
        | else-l-gt1 v ↦ absurd (grind (arith, common_steps))
      ]
]

pub returns-then-not-is_digit : goal.returns-then-not-is_digit
returns-then-not-is_digit c =
    let l = c.args.l.now in
    let whole : number_of l ≡ value_on 0 l = one-or-more l c.if-l-gt1.value (grind (arith, common_steps)) c.if-l-gt4.false c.if-l-eq48.false
    (elim c.if-l-gt1.branch [ then-l-gt1 w ↦ inl (w.if-l-gt1.true, w.value-is) | else-l-gt1 w ↦ inr w.if-l-gt1.false ]) in
    sym (whole ∙ c.loop-b.invariant.1 ∙ value-stop l c.loop-b.v c.loop-b.b-index c.loop-b-test.true (sym c.is_digit.ensures ∙ c.if-not-is_digit.true))

pub overflow_sub-b : goal.overflow_sub-b
overflow_sub-b c = (digit-range _ (sym c.is_digit.ensures ∙ c.if-not-is_digit.false)).0

pub loop-b-preserved : goal.loop-b-preserved
loop-b-preserved c =
    let l = c.args.l.now in
    let g : is_digit (get_or l c.loop-b.b-index 0) ≡ true = sym c.is_digit.ensures ∙ c.if-not-is_digit.false in
    let d = digit-range _ g in
    let i = c.loop-b.b-index in
    let e : c.from.result ≡ get_or l i 0 - 48 = c.from.ensures in
    rw e (
      pow-next c.loop-b.v (get_or l i 0 - 48) i c.loop-b.invariant.0 (omega (arith, d.1)),
      c.loop-b.invariant.1 ∙ value-digit l c.loop-b.v i c.loop-b-test.true g,
    )

pub returns : goal.returns
returns c =
    let l = c.args.l.now in
    let whole : number_of l ≡ value_on 0 l = one-or-more l c.if-l-gt1.value (grind (arith, common_steps)) c.if-l-gt4.false c.if-l-eq48.false
    (elim c.if-l-gt1.branch [ then-l-gt1 w ↦ inl (w.if-l-gt1.true, w.value-is) | else-l-gt1 w ↦ inr w.if-l-gt1.false ]) in
    sym (whole ∙ c.loop-b.invariant.1 ∙ value-end l c.loop-b.v c.loop-b.b-index c.loop-b-test.false)
