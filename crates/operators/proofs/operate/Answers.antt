-- The results of each case are the digits of its number; the last case has the one number below 16 that no other has.
use Rattle.std.proofs.Common.{◌≡◌, ◌∙◌, ◌%◌, arith}
use Rattle.operators.specs.Operators.{by_digits}
use Rattle.operators.proofs.operate.Goals as goal

pub returns-in-0 : goal.returns-in-0
returns-in-0 c = c.result.ensures ∙ by_digits 0 c.args.op c.args.a c.args.b c.in-0.is

pub returns-in-1 : goal.returns-in-1
returns-in-1 c = c.result-in-1.ensures ∙ by_digits 1 c.args.op c.args.a c.args.b c.in-1.is

pub returns-in-2 : goal.returns-in-2
returns-in-2 c = c.result-in-2.ensures ∙ by_digits 2 c.args.op c.args.a c.args.b c.in-2.is

pub returns-in-3 : goal.returns-in-3
returns-in-3 c = c.result-in-3.ensures ∙ by_digits 3 c.args.op c.args.a c.args.b c.in-3.is

pub returns-in-4 : goal.returns-in-4
returns-in-4 c = c.result-in-4.ensures ∙ by_digits 4 c.args.op c.args.a c.args.b c.in-4.is

pub returns-in-5 : goal.returns-in-5
returns-in-5 c = c.result-in-5.ensures ∙ by_digits 5 c.args.op c.args.a c.args.b c.in-5.is

pub returns-in-6 : goal.returns-in-6
returns-in-6 c = c.result-in-6.ensures ∙ by_digits 6 c.args.op c.args.a c.args.b c.in-6.is

pub returns-in-7 : goal.returns-in-7
returns-in-7 c = c.result-in-7.ensures ∙ by_digits 7 c.args.op c.args.a c.args.b c.in-7.is

pub returns-in-8 : goal.returns-in-8
returns-in-8 c = c.result-in-8.ensures ∙ by_digits 8 c.args.op c.args.a c.args.b c.in-8.is

pub returns-in-9 : goal.returns-in-9
returns-in-9 c = c.result-in-9.ensures ∙ by_digits 9 c.args.op c.args.a c.args.b c.in-9.is

pub returns-in-10 : goal.returns-in-10
returns-in-10 c = c.result-in-10.ensures ∙ by_digits 10 c.args.op c.args.a c.args.b c.in-10.is

pub returns-in-11 : goal.returns-in-11
returns-in-11 c = c.result-in-11.ensures ∙ by_digits 11 c.args.op c.args.a c.args.b c.in-11.is

pub returns-in-12 : goal.returns-in-12
returns-in-12 c = c.result-in-12.ensures ∙ by_digits 12 c.args.op c.args.a c.args.b c.in-12.is

pub returns-in-13 : goal.returns-in-13
returns-in-13 c = c.result-in-13.ensures ∙ by_digits 13 c.args.op c.args.a c.args.b c.in-13.is

pub returns-in-14 : goal.returns-in-14
returns-in-14 c = c.result-in-14.ensures ∙ by_digits 14 c.args.op c.args.a c.args.b c.in-14.is

pub returns-in-15-to-4294967295 : goal.returns-in-15-to-4294967295
returns-in-15-to-4294967295 c =
    let k : c.args.op % 16 ≡ 15 = omega (arith, c.in-15-to-4294967295) in c.result-in-15-to-4294967295.ensures ∙ by_digits 15 c.args.op c.args.a c.args.b k
