-- `edits::push_codes` meets its contract. The loop's invariant: the codes from j on are on the list. Assumes nothing.
use Prim.Native.Nat.{◌≤◌}
use Rattle.edits.specs.Pushing.{Pushes}
use Rattle.edits.proofs.push_codes.Given as goal

abbrev pub invariant-loop-j : goal.invariant-loop-j
invariant-loop-j l = (l.lo ≤ l.j) × (l.j ≤ l.hi) × Pushes l.initial.room l.room l.m l.j l.hi l.k
