-- `first::firsts` meets its contract: the sets hold only what is in FIRST, and what is missing from them falls. Assumes nothing.
use Rattle.grammar.specs.First.{missing, Sound}
use Rattle.grammar.proofs.first.firsts.Given as goal

abbrev pub invariant-loop-rounds : goal.invariant-loop-rounds
invariant-loop-rounds l = Sound l.grammar.sheet.now l.sets

abbrev pub decreases-loop-rounds : goal.decreases-loop-rounds
decreases-loop-rounds l = missing l.sets
