-- What each way of an iteration comes to is a case of `Iterates`.
use Rattle.std.proofs.Common.{◌≡◌, List, refl, sym, ap, ◌∙◌, subst, Result, Ok, Err, Option, get_or}
use Rattle.std.proofs.lemmas.Result.{err_from_is_err_and}
use Rattle.theory_reading.specs.StepLaws.{digit_place}
use Rattle.kinds.specs.declared.Kind.{Kind}
use Rattle.elements.specs.Abstraction.{context_of}
use Rattle.elements.specs.declared.Fault.{Fault}
use Rattle.scanner.specs.TokenView.{next_token}
use Rattle.reader.specs.declared.Iteration.{Iteration}
use Rattle.reader.specs.Advance.{barred_by, Iterates, iteration_view}
use Rattle.reader.specs.Iteration.{iterates-none, iterates-took}
use Rattle.reader.proofs.iterate.Goals as goal

pub returns-in_err-e : goal.returns-in_err-e
returns-in_err-e c =
    let a = c.args in
    let x = c.next_token-x.result in
    let byte : c.in-Some.field-0.now ≡ get_or a.s.now a.r.at 0 = c.in-Some.ensures.lookup.3.1 0 in
    let seen = c.next_token-x.ensures ∙ ap (λ (k : List Kind). next_token k a.s.now a.r.at (context_of a.r.context) a.r.last a.d a.low) c.kinds.ensures in
    let h = err_from_is_err_and c.from_residual.result c.from_residual.ensures.1 in
    subst (λ (y : Result Iteration (Option Fault)). Iterates a.n a.s.now a.r a.d a.low a.t.now (iteration_view a.r a.d a.low y) a.t.now)
    (sym (h.1 ∙ ap Err h.2))
    (iterates-none a.n a.s.now a.r a.d a.low a.t.now (sym (c.if-barred.ensures ∙ ap (barred_by a.t.now a.r) byte)) x seen
    c.in_err-e.field-0.0 c.in_err-e.ensures)

pub returns-in_err-y : goal.returns-in_err-y
returns-in_err-y c =
    let a = c.args in
    let x = c.next_token-x.result in
    let byte : c.in-Some.field-0.now ≡ get_or a.s.now a.r.at 0 = c.in-Some.ensures.lookup.3.1 0 in
    let seen = c.next_token-x.ensures ∙ ap (λ (k : List Kind). next_token k a.s.now a.r.at (context_of a.r.context) a.r.last a.d a.low) c.kinds.ensures in
    let h = err_from_is_err_and c.from_residual-in_err-y.result c.from_residual-in_err-y.ensures.1 in
    subst (λ (y : Result Iteration (Option Fault)). Iterates a.n a.s.now a.r a.d a.low a.t.now (iteration_view a.r a.d a.low y) a.t.now)
    (sym (h.1 ∙ ap Err h.2))
    (iterates-took a.n a.s.now a.r a.d a.low a.t.now c.in-Some.ensures.lookup.3.0 (sym (c.if-barred.ensures ∙ ap (barred_by a.t.now a.r) byte)) x seen
    c.in_ok-e.e c.in_ok-e.ensures c.digit_place.result (c.digit_place.ensures ∙ ap (digit_place a.r.at) byte) c.get-row.result c.get-row.ensures
    (Err c.in_err-y.field-0.0) c.in_err-y.ensures a.t.now refl)

pub returns : goal.returns
returns c =
    let a = c.args in
    let x = c.next_token-x.result in
    let byte : c.in-Some.field-0.now ≡ get_or a.s.now a.r.at 0 = c.in-Some.ensures.lookup.3.1 0 in
    let seen = c.next_token-x.ensures ∙ ap (λ (k : List Kind). next_token k a.s.now a.r.at (context_of a.r.context) a.r.last a.d a.low) c.kinds.ensures in
    iterates-took a.n a.s.now a.r a.d a.low a.t.now c.in-Some.ensures.lookup.3.0 (sym (c.if-barred.ensures ∙ ap (barred_by a.t.now a.r) byte)) x seen
    c.in_ok-e.e c.in_ok-e.ensures c.digit_place.result (c.digit_place.ensures ∙ ap (digit_place a.r.at) byte) c.get-row.result c.get-row.ensures
    (Ok c.in_ok-y.y) c.in_ok-y.ensures c.update_table.new.t c.update_table.ensures
