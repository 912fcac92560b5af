-- The test so far is that of the words passed.
use Prim.Native.Nat.{ℕ, ◌+◌, ◌*◌, ◌<◌}
use Rattle.definitions.specs.Sheet.{word, actions_at, IsAction}
use Rattle.theory.specs.Check.Says.{Says}
use Rattle.layout.proofs.actions_right.Given as goal

abbrev pub invariant-loop-k : goal.invariant-loop-k
invariant-loop-k l = Says l.ok ((j : ℕ) → j < l.k → IsAction l.t (word l.t (actions_at l.t + 2 * j)))
