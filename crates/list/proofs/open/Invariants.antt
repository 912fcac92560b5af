-- `list::open` meets its contract: the children are passed from the last back. Assumes nothing.
use mathlib.Core.List.{List}
use Prim.Native.Nat.{ℕ, ◌≤◌}
use Rattle.definitions.specs.Tree.{Row}
use Rattle.list.specs.Opening.{Opens, Opening, Elsewhere}
use Rattle.list.proofs.open.Given as goal

abbrev pub invariant-loop-pos : goal.invariant-loop-pos
invariant-loop-pos l =
    (l.start ≤ l.pos) × (l.pos ≤ l.v) × Elsewhere l.initial.room l.room × ((t put : List ℕ) (g : Row) → Opens t l.old put l.initial.room l.v l.m g → Opening t l.old put l.room l.start l.pos l.k g)

abbrev pub decreases-loop-pos : goal.decreases-loop-pos
decreases-loop-pos l = l.pos
