-- `states::items::starts_of` meets its contract: each turn goes on to the next state and stores its place. Assumes nothing.
use Prim.Native.Nat.{◌-◌}
use Rattle.states.proofs.Loops.{Passed}
use Rattle.states.proofs.items.starts_of.Given as goal

abbrev pub invariant-loop-s : goal.invariant-loop-s
invariant-loop-s l = Passed l.t l.n l.starts l.at l.s

abbrev pub decreases-loop-s : goal.decreases-loop-s
decreases-loop-s l = l.n - l.s
