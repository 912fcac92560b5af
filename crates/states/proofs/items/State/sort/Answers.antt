-- `states::items::State::sort` meets its contract: the array holds what the items passed put in. Assumes nothing.
use borrow.Author.Rules.{rules}
use Rattle.states.specs.Gathering.{sorts_still, sorts_more}
use Rattle.states.proofs.items.State.sort.Goals as goal
use Rattle.states.proofs.items.State.sort.Goals.{in-Some, in_default}

pub loop-i-preserved : goal.loop-i-preserved
loop-i-preserved g c = (
  search rules,
  elim c.match-put.branch [
    | in-Some w ↦ rw w.sets-is (sorts_more w.in-Some.ensures (c.requires.inside _ _ (search rules) w.in-Some.ensures) w.join.ensures c.loop-i.invariant.1)
    | in_default w ↦ rw w.sets-is (sorts_still w.in_default.ensures c.loop-i.invariant.1)
  ],
)
