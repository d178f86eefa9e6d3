-- All first children stay, or one does not.
use Rattle.std.proofs.Common.{◌≡◌, rules, arith, true, false, take}
use borrow.Author.Tests.{tests}
use Rattle.std.proofs.lemmas.Iterator.{YieldsList-from_slice, cases_from_all}
use Rattle.theory_reading.specs.Spine.{first_stays}
use Rattle.work_table.specs.TableLaws.{table_of}
use Rattle.elements.specs.Abstraction.{open_of}
use Rattle.elements.specs.declared.Open.{Open}
use Rattle.blocks.specs.Spine.{firsts_by}
use Rattle.blocks.proofs.firsts_stay.Goals as goal

pub returns : goal.returns
returns c =
    let a = c.args in
    let t = table_of a.t.now a.z in
    firsts_by a.o.now t a.d (omega (arith, c.requires, c.told-o)) c.all.result
    (cases_from_all _ _ _ (λ (x : Open). first_stays t (open_of x) ≡ true) (λ (x : Open). first_stays t (open_of x) ≡ false)
    c.all.ensures.ran (YieldsList-from_slice (take a.d a.o.now) cc) (λ x q k. search (rules, tests)) (λ x q k. search (rules, tests)))
