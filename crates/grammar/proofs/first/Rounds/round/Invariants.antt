-- `first::Rounds::round` meets its contract: the productions before p have been looked at in turn. Assumes nothing.
use Rattle.grammar.specs.First.{Turn}
use Rattle.grammar.proofs.first.Rounds.round.Given as goal

abbrev pub invariant-loop-p : goal.invariant-loop-p
invariant-loop-p l = Turn l.self.grammar.now.sheet.now 0 l.p l.initial.sets l.sets l.more
