-- `numbers::write` meets its contract. The loop's invariant: after j turns the first j records stand in the tree, and `at` is the next number. Assumes nothing.
use mathlib.Core.Path.{◌≡◌}
use Prim.Native.Nat.{◌+◌, ◌≤◌}
use lib.ListN.{length}
use Rattle.numbers.specs.Records.{front}
use Rattle.numbers.specs.Write.{news, sofar}
use Rattle.numbers.proofs.write.Given as goal

abbrev pub invariant-loop-j : goal.invariant-loop-j
invariant-loop-j l = (length l.tree ≡ length l.initial.tree) × (6146 ≤ length l.tree) × (l.at ≡ l.next + news (front l.room) l.j) × (l.tree ≡ sofar l.next (front l.room) l.initial.tree l.j)
