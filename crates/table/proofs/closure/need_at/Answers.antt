-- `table::closure::need_at` meets its contract: no nonterminal after the dot, or FIRST of what follows it. Assumes nothing.
use Rattle.table.specs.Needs.{need_none, need_some}
use Rattle.table.proofs.closure.need_at.Goals as goal

pub returns-in_err-m : goal.returns-in_err-m
returns-in_err-m c = rw c.from_residual.ensures (need_none c.in_err-m.ensures)

pub returns : goal.returns
returns c =
    let r = c.in_ok-m.ensures in
    rw c.from.ensures (need_some c.args.state.now.lies c.args.i c.requires r.1 c.first_of-need.result c.prod.ensures.0 c.dot.ensures.0 c.ahead.ensures c.first_of-need.ensures)
