-- What is passed and what is left come to the whole number: by the byte at the place, and by the digits.
use Rattle.std.proofs.Common.{◌≡◌, ◌+◌, ◌*◌, ◌-◌, ◌≤◌, ℕ, true, false, drop, get_or, sym, ap, ◌∙◌, arith}
use Rattle.kinds.specs.Kinds.{digit_in}
use Rattle.scanner.specs.Capped.{cap, capped_on, on-digit, on-stop, on-end, at_zero, at-digits, at-past}
use Rattle.scanner.proofs.number_at.Goals as goal

pub returns-then-s-at : goal.returns-then-s-at
returns-then-s-at c = at-past c.args.k.now c.args.s.now c.args.at c.if-s-at.true

pub returns-then-b-eq-DIGIT_ZERO : goal.returns-then-b-eq-DIGIT_ZERO
returns-then-b-eq-DIGIT_ZERO c = at_zero c.args.k.now c.args.s.now c.args.at c.if-b-eq-DIGIT_ZERO.true

pub loop-next-init : goal.loop-next-init
loop-next-init c =
    let v : c.digit-value.result ≡ get_or c.args.s.now c.args.at 0 - 48 = c.digit-value.ensures.0 in
    let m : c.digit-value.result ≤ 255 = c.digit-value.ensures.1 in
    record {
      fits = omega arith;
      whole = ap (λ (y : ℕ). capped_on c.args.k.now (drop (c.args.at + 1) c.args.s.now) y (c.args.at + 1)) v
          ∙ at-digits c.args.k.now c.args.s.now c.args.at c.if-b-eq-DIGIT_ZERO.false (omega arith);
    }

pub returns-then-not-is_kind : goal.returns-then-not-is_kind
returns-then-not-is_kind c =
    let d : digit_in c.args.k.now (get_or c.args.s.now c.loop-next.next 0) ≡ false = sym c.if-not-is_kind.ensures in
    sym (on-stop c.args.k.now c.args.s.now c.loop-next.next c.loop-next.value (omega arith) d) ∙ c.loop-next.invariant.whole

pub loop-next-preserved : goal.loop-next-preserved
loop-next-preserved c =
    let s = c.args.s.now in
    let d : digit_in c.args.k.now (get_or s c.loop-next.next 0) ≡ true = sym c.if-not-is_kind.ensures in
    let e : c.more-value.result ≡ cap (c.loop-next.value * 10 + (get_or s c.loop-next.next 0 - 48)) = c.more-value.ensures in
    record {
      fits = omega arith;
      whole = ap (λ (y : ℕ). capped_on c.args.k.now (drop (c.loop-next.next + 1) s) y (c.loop-next.next + 1)) e
          ∙ sym (on-digit c.args.k.now s c.loop-next.next c.loop-next.value (omega arith) d) ∙ c.loop-next.invariant.whole;
    }

pub returns : goal.returns
returns c = sym (on-end c.args.k.now c.args.s.now c.loop-next.next c.loop-next.value (omega arith)) ∙ c.loop-next.invariant.whole
