-- `reading::write` meets its contract: after j turns the first j records stand in the tree. Assumes nothing.
use Rattle.std.proofs.Common.{◌≡◌}
use Rattle.reading.specs.Write.{sofar}
use Rattle.reading.proofs.write.Given as goal

abbrev pub invariant-loop-j : goal.invariant-loop-j
invariant-loop-j l = l.tree ≡ sofar l.first l.room l.initial.tree l.j
