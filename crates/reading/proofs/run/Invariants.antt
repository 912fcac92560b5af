-- `reading::run` meets its contract: in each turn the reading from there on comes to what the whole comes to. Assumes nothing.
use Rattle.std.proofs.Common.{◌-◌}
use Rattle.reading.specs.Turns.{Running}
use Rattle.reading.proofs.run.Given as goal

abbrev pub invariant-loop-i : goal.invariant-loop-i
invariant-loop-i l = Running l.t l.codes l.initial.room l.room l.n l.i

abbrev pub decreases-loop-i : goal.decreases-loop-i
decreases-loop-i l = 2048 - l.n
