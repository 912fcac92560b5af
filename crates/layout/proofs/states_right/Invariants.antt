-- The walk has come to state s, and all was right.
use Rattle.layout.proofs.Laws.{Walked}
use Rattle.layout.proofs.states_right.Given as goal

abbrev pub invariant-loop-s : goal.invariant-loop-s
invariant-loop-s l = Walked l.t l.s l.at l.passed
