-- The parts are of 256 words at most.
use Rattle.std.proofs.Common.{◌≡◌}
use Rattle.judge.proofs.input.read_row.Given as goal

abbrev pub invariant-loop-part : goal.invariant-loop-part
invariant-loop-part l = (goal.iterator-loop-part).can_next l.part-iterator × (goal.iterator-loop-part).is_finite l.part-iterator × (l.part-iterator.size ≡ 256)
