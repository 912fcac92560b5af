-- `states::items::State::after` meets its contract: what the grammar holds of the item's production is the sheet's. Assumes nothing.
use native.Mathlib.Omega.{arith}
use Rattle.states.specs.Items.{reads_open, reads_shut}
use Rattle.states.proofs.items.State.after.Goals as goal

pub returns-then-d-len : goal.returns-then-d-len
returns-then-d-len c =
    reads_open c.prod-p.ensures.0 c.dot-d.ensures.0 c.len.ensures.0 (omega arith) c.symbol.ensures.0

pub returns-else-d-len : goal.returns-else-d-len
returns-else-d-len c =
    reads_shut _ _ _ (let a = c.dot-d.ensures.1 in omega arith) c.prod-p.ensures.0 c.dot-d.ensures.0 c.len.ensures.0 (omega arith)
