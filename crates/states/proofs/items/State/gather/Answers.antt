-- `states::items::State::gather` meets its contract: the set holds what the items passed gave. Assumes nothing.
use Rattle.states.specs.Gathering.{gathers_none, gathers_more}
use borrow.Author.Rules.{rules}
use Rattle.states.proofs.items.State.gather.Goals as goal

pub loop-i-init : goal.loop-i-init
loop-i-init g c = (search rules, gathers_none)

pub loop-i-preserved : goal.loop-i-preserved
loop-i-preserved g c = (search rules, gathers_more c.set_of.result c.loop-i.invariant.1 c.set_of.ensures c.join-set.ensures)
