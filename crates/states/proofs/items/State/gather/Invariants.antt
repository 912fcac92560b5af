-- `states::items::State::gather` meets its contract: the set holds what the items passed gave. Assumes nothing.
use Prim.Native.Nat.{◌≤◌}
use Rattle.states.specs.Gathering.{Gathers}
use Rattle.states.proofs.items.State.gather.Given as goal

abbrev pub invariant-loop-i : goal.invariant-loop-i
invariant-loop-i g l = (l.i ≤ l.self.n) × Gathers (goal.F-post g l.set_of) l.i l.set.bits
