-- `numbers::copy` meets its contract. The loop's invariant is `Copies`: the records before i have their numbers. Assumes nothing.
use Rattle.numbers.specs.Copies.{Copies}
use Rattle.numbers.proofs.copy.Given as goal

abbrev pub invariant-loop-i : goal.invariant-loop-i
invariant-loop-i l = Copies l.old l.initial.room l.a l.i l.w l.room
