-- `table::moves_kept` meets its contract: every transition passed keeps conditions 5 and 6. Assumes nothing.
use Prim.Native.Nat.{ℕ, ◌+◌, ◌≤◌, ◌<◌}
use Rattle.states.specs.View.{sheet}
use Rattle.states.specs.Weak.{WeakAction, WeakGoto}
use Rattle.table.specs.Codes.{Into}
use Rattle.table.proofs.moves_kept.Given as goal

abbrev pub invariant-loop-a : goal.invariant-loop-a
invariant-loop-a l = (l.a ≤ l.a-end) × ((k : ℕ) → k < l.a → WeakAction (sheet l.state) l.state.s k × Into (sheet l.state) l.state.s k)

abbrev pub invariant-loop-m : goal.invariant-loop-m
invariant-loop-m l = (l.m ≤ l.m-end) × ((k : ℕ) → k < l.m → WeakGoto (sheet l.state) l.state.s k × Into (sheet l.state) l.state.s (128 + k))
