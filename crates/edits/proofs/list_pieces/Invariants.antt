-- `edits::list_pieces` meets its contract. The loop's invariant is `Going`, of every case of which it held at first, and that only the list is
-- written. The measure is the records left. Assumes nothing.
use Rattle.list.specs.Opening.{Elsewhere}
use Rattle.edits.specs.Going.{Case, Going}
use Rattle.edits.proofs.list_pieces.Given as goal

abbrev pub invariant-loop-pos : goal.invariant-loop-pos
invariant-loop-pos l = Elsewhere l.initial.room l.room × ((C : Case l.old) → Going C l.initial.room l.n l.m → Going C l.room l.pos l.k)

abbrev pub decreases-loop-pos : goal.decreases-loop-pos
decreases-loop-pos l = l.pos
