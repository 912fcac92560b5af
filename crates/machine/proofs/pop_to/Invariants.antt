-- `machine::pop_to` meets its contract: each turn goes back over one piece. Assumes nothing.
use Prim.Native.Nat.{◌-◌, ◌≤◌}
use Rattle.definitions.specs.Reading.{Stack}
use Rattle.machine.specs.Room.{Holds}
use Rattle.machine.specs.Back.{Backing}
use Rattle.machine.proofs.pop_to.Given as goal

abbrev pub invariant-loop : goal.invariant-loop
invariant-loop l = (l.pos ≤ l.n) × ((σ : Stack) → Holds l.room l.n σ → Backing l.room l.d σ (l.d - l.counter) l.pos)
