-- `runs::spots` meets its contract. The loop's invariant is `Walking`: the words before the next record are told. Assumes nothing.
use Prim.Native.Nat.{◌-◌}
use Rattle.numbers.specs.Runs.{Walking}
use Rattle.numbers.proofs.runs.spots.Given as goal

abbrev pub invariant-loop-r : goal.invariant-loop-r
invariant-loop-r l = Walking l.old.row.now l.initial.room l.old.nodes l.n l.room l.r

abbrev pub decreases-loop-r : goal.decreases-loop-r
decreases-loop-r l = l.n - l.r.at
