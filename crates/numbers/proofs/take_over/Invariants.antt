-- `numbers::take_over` meets its contract. The loop's invariant: `Frame` of the room's words, and `Backing` of what the records from e on keep. Assumes nothing.
use mathlib.Core.Path.{◌≡◌}
use Prim.Native.Nat.{◌≤◌}
use Rattle.definitions.specs.Tree.{Row, size, NRow, erase}
use Rattle.numbers.specs.Given.{Given}
use Rattle.numbers.specs.Copies.{Frame}
use Rattle.numbers.specs.Back.{Backing}
use Rattle.numbers.proofs.take_over.Given as goal

abbrev pub invariant-loop-e : goal.invariant-loop-e
invariant-loop-e l = (l.e ≤ l.n) × Frame l.initial.room l.room l.e × ((r : NRow) (f : Row) → Given l.old.row.now l.initial.room l.n r f → l.old.nodes ≡ size (erase r) → Backing l.n r f l.room l.e)

abbrev pub decreases-loop-e : goal.decreases-loop-e
decreases-loop-e l = l.e
