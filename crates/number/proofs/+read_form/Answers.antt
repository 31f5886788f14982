-- The proof of the cycle of calls {read_form}. The measure is `left`, the bytes that the number may still have.
use Prim.Native.Nat.{◌+◌, ◌-◌, ◌^◌, ◌≤◌, ◌<◌}
use native.Mathlib.Omega.{arith}
use mathlib.Core.Path.{◌≡◌, ap, ◌∙◌}
use borrow.Author.Rules.{rules}
use Rattle.number.specs.Numbers.{current_width, form, told_form}
use Rattle.std.proofs.Common.{Err, drop}
use Rattle.refusals.proofs.LineLaws.{ends_with}
use Rattle.number.proofs.FormSteps.{form_none, form-ends, form_one, form_flawed}
use Rattle.number.proofs.FormSteps.{form_not_shortest, form_grown, form_bounds}
use Rattle.number.proofs.+read_form.Goals as goal

pub returns-then-left-eq0 : goal.returns-then-left-eq0
returns-then-left-eq0 t c = form_none _ _ c.if-left-eq0.true

pub returns-then-s-at : goal.returns-then-s-at
returns-then-s-at t c = form-ends _ _ _ c.if-left-eq0.false c.if-s-at.true

pub returns-then-group-lt128 : goal.returns-then-group-lt128
returns-then-group-lt128 t c = search (rules, form_one)

pub returns-in_err-above : goal.returns-in_err-above
returns-in_err-above t c =
    let flawed : told_form (Err c.in_err-above.field-0.0) ≡ form c.args.left (drop c.args.at c.args.s.now) =
    form_flawed c.args.left c.args.at c.args.s.now c.from-group.result c.if-left-eq0.false (omega arith)
    c.from-group.ensures c.if-group-lt128.false _ c.in_err-above.ensures in
    ap told_form (ends_with _ _ c.from_residual.ensures) ∙ flawed

pub returns-then-above-eq0 : goal.returns-then-above-eq0
returns-then-above-eq0 t c = search (rules, form_not_shortest)

pub overflow_mul-result : goal.overflow_mul-result
overflow_mul-result t c =
    let rest =
    form_bounds (current_width.longest - 1) (c.args.left - 1) (c.args.at + 1) c.args.s.now c.type_inv.s
    (omega arith) _ _ c.in_ok-above.ensures in
    let small : c.in_ok-above.above.value < 128 ^ (current_width.longest - 1) = rest.small in
    omega (arith, small)

pub overflow_add-result : goal.overflow_add-result
overflow_add-result t c =
    let rest =
    form_bounds (current_width.longest - 1) (c.args.left - 1) (c.args.at + 1) c.args.s.now c.type_inv.s
    (omega arith) _ _ c.in_ok-above.ensures in
    let small : c.in_ok-above.above.value < 128 ^ (current_width.longest - 1) = rest.small in
    omega (arith, small)

pub overflow_add-result-2 : goal.overflow_add-result-2
overflow_add-result-2 t c =
    let rest =
    form_bounds (current_width.longest - 1) (c.args.left - 1) (c.args.at + 1) c.args.s.now c.type_inv.s
    (omega arith) _ _ c.in_ok-above.ensures in
    let few : c.in_ok-above.above.bytes ≤ current_width.longest - 1 = rest.few in
    omega (arith, few)

pub returns : goal.returns
returns t c = search (rules, form_grown)
