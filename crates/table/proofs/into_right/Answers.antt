-- `table::into_right` meets its contract, by whether there is a transition. Assumes nothing.
use native.Mathlib.Omega.{arith}
use Rattle.table.specs.Codes.{into_told}
use Rattle.table.proofs.into_right.Goals as goal

pub returns-in-Some : goal.returns-in-Some
returns-in-Some c =
    let u = c.in-Some.ensures in
    let m = c.args.state.now.lies.laid.head.states.1 in
    into_told u.0 (λ q. let a = u.0 in let b = u.1 in omega arith) (rw (c.state.ensures.states, c.state.ensures.number) at c.entered.ensures)
