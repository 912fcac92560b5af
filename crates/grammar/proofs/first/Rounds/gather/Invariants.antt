-- `first::Rounds::gather` meets its contract: the symbols from place d up to the next have been seen. Assumes nothing.
use Rattle.std.proofs.Common.{◌+◌}
use Rattle.grammar.specs.Gathered.{Seen}
use Rattle.grammar.proofs.first.Rounds.gather.Given as goal

abbrev pub invariant-loop-x : goal.invariant-loop-x
invariant-loop-x l = Seen l.self.grammar.now.sheet.now l.sets l.p l.d (l.d + l.x-index) l.r.bits
