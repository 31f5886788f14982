-- `read_number` answers the form that `read_form` finds, as the rule book does.
use Prim.Native.Nat.{◌+◌, ◌≤◌}
use native.Mathlib.Omega.{arith}
use lib.ListN.{length}
use Rattle.number.specs.Numbers.{current_width}
use Rattle.number.proofs.FormSteps.{form_bounds}
use Rattle.number.proofs.NumberLaws.{number_got, number_over, number-ends, number_bad}
use Rattle.number.proofs.read_number.Goals as goal

pub returns-then-value-gt-LARGEST : goal.returns-then-value-gt-LARGEST
returns-then-value-gt-LARGEST c = number_over current_width _ _ _ _ c.in-Ok.ensures (omega arith)

pub overflow_add-result : goal.overflow_add-result
overflow_add-result c =
    let within : c.args.at + c.in-Ok.field-0.bytes ≤ length c.args.s.now =
    (form_bounds current_width.longest current_width.longest c.args.at c.args.s.now c.type_inv.s (omega arith) _ _
    c.in-Ok.ensures).within in
    omega (arith, within)

pub returns-else-value-gt-LARGEST : goal.returns-else-value-gt-LARGEST
returns-else-value-gt-LARGEST c = number_got current_width _ _ _ _ c.in-Ok.ensures (omega arith)

pub returns-in-Err-Cut : goal.returns-in-Err-Cut
returns-in-Err-Cut c = number-ends current_width _ _ (rw c.in-Err-Cut.field-0-is at c.in-Err-Cut.ensures)

pub returns-in-Err-NoNumber : goal.returns-in-Err-NoNumber
returns-in-Err-NoNumber c = number_bad current_width _ _ (rw c.in-Err-NoNumber.field-0-is at c.in-Err-NoNumber.ensures)
