-- The bytes before i stand in their places.
use Rattle.std.proofs.Common.{◌≡◌, take}
use Rattle.lines.proofs.spread.Given as goal

abbrev pub invariant-loop-i : goal.invariant-loop-i
invariant-loop-i l = take l.i l.codes ≡ take l.i l.bytes
