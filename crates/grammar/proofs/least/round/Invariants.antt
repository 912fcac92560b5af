-- `least::round` meets its contract: the productions before p have been looked at in turn. Assumes nothing.
use Rattle.grammar.specs.Least.{Round}
use Rattle.grammar.proofs.least.round.Given as goal

abbrev pub invariant-loop-p : goal.invariant-loop-p
invariant-loop-p l = Round l.grammar.sheet.now l.tokens 0 l.p l.initial.next.bits l.next.bits
