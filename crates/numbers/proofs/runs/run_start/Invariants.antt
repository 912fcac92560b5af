-- `runs::run_start` meets its contract. The loop's invariant: the records from e on are of the run. Assumes nothing.
use Rattle.numbers.specs.Records.{front}
use Rattle.numbers.specs.Runs.{Met-all}
use Rattle.numbers.proofs.runs.run_start.Given as goal

abbrev pub invariant-loop-i : goal.invariant-loop-i
invariant-loop-i l = Met-all l.old.row.now (front l.room) l.old.nodes l.w l.i l.j
