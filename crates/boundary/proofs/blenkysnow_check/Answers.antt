-- `boundary::blenkysnow_check` meets its contract: by the answer of `blenkysnow::check_table`. Assumes nothing.
use Rattle.std.proofs.Common.{◌∙◌, refl, ap, Err, arith}
use Rattle.boundary.specs.Said.{checked_0, checked_2, checked_3, checked_4, state_in}
use Rattle.boundary.proofs.blenkysnow_check.Goals as goal

pub overflow_cast-broken : goal.overflow_cast-broken
overflow_cast-broken c =
    let h = state_in (ap Err c.in-Err-States.field-0-is) c.in-Err-States.ensures.named in
    omega (arith, c.type_inv.table 8)

pub returns-in-Ok : goal.returns-in-Ok
returns-in-Ok c = checked_0 c.in-Ok.ensures.result_value refl

pub returns-in-Err-Layout : goal.returns-in-Err-Layout
returns-in-Err-Layout c = checked_2 c.in-Err-Layout.ensures.result_value (ap Err c.in-Err-Layout.field-0-is)

pub returns-in-Err-Grammar : goal.returns-in-Err-Grammar
returns-in-Err-Grammar c = checked_3 c.in-Err-Grammar.ensures.result_value (ap Err c.in-Err-Grammar.field-0-is)

pub returns-in-Err-States : goal.returns-in-Err-States
returns-in-Err-States c =
    let r = c.in-Err-States.ensures in
    rw (c.from.ensures ∙ c.number.ensures.is) (checked_4 r.result_value (ap Err c.in-Err-States.field-0-is) r.named)
