-- The test so far is that of the bytes passed.
use Prim.Native.Nat.{ℕ, ◌+◌, ◌<◌}
use Rattle.definitions.specs.Sheet.{byte, gotos_at, IsGoto}
use Rattle.theory.specs.Check.Says.{Says}
use Rattle.layout.proofs.gotos_right.Given as goal

abbrev pub invariant-loop-k : goal.invariant-loop-k
invariant-loop-k l = Says l.ok ((j : ℕ) → j < l.k → IsGoto l.t (byte l.t (gotos_at l.t + j)))
