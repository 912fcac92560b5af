-- `table::first_broken`: what each loop has passed keeps the conditions.
use Prim.Native.Nat.{ℕ, ◌≤◌, ◌<◌}
use Rattle.states.specs.Items.{Condition4At}
use Rattle.states.specs.View.{sheet_of}
use Rattle.table.specs.Codes.{ItemKept, StateKept}
use Rattle.table.proofs.first_broken.Given as goal

abbrev pub invariant-loop-a : goal.invariant-loop-a
invariant-loop-a l = (l.a ≤ l.a-end) × ((k : ℕ) → k < l.a → Condition4At (sheet_of l.states) l.s l.i k)

abbrev pub invariant-loop-i : goal.invariant-loop-i
invariant-loop-i l = (l.i ≤ l.i-end) × ((k : ℕ) → k < l.i → ItemKept (sheet_of l.states) l.s k)

abbrev pub invariant-loop-s : goal.invariant-loop-s
invariant-loop-s l = (l.s ≤ l.s-end) × ((k : ℕ) → k < l.s → StateKept (sheet_of l.states) k)

abbrev pub invariant-search : goal.invariant-search
invariant-search l = Unit {0}

abbrev pub decreases-search : goal.decreases-search
decreases-search l = 0
