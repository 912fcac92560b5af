-- `table::closure::met` meets its contract: the two sets are looked up. Assumes nothing.
use mathlib.Core.Path.{◌∙◌}
use native.Mathlib.Omega.{arith}
use Rattle.table.specs.Needs.{met_lent}
use Rattle.table.proofs.closure.met.Goals as goal

pub returns : goal.returns
returns c =
    let l = c.left.ensures in
    met_lent c.args.needs.now c.args.zeros.now c.requires.needs c.requires.zeros (c.from-m.ensures ∙ l.0) (let x = c.from-m.ensures in let y = l.1 in omega arith)
    (let x = c.requires.q_bound in let y = c.args.state.now.lies.laid.head.productions.1 in omega arith) c.within.ensures
