-- `states::items::State::sort` meets its contract: the array holds what the items passed put in. Assumes nothing.
use Prim.Native.Nat.{◌≤◌}
use Rattle.states.specs.Gathering.{Sorts}
use Rattle.states.proofs.items.State.sort.Given as goal

abbrev pub invariant-loop-i : goal.invariant-loop-i
invariant-loop-i g l = (l.i ≤ l.self.n) × Sorts (goal.F-post g l.put) g.row.W l.i l.sets
