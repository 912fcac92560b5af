-- `least::least` meets its contract: every bit is witnessed, and a larger set is a larger number. Assumes nothing.
use Rattle.std.proofs.Common.{◌-◌, ◌^◌}
use Rattle.grammar.specs.Least.{Sound}
use Rattle.grammar.proofs.least.least.Given as goal

abbrev pub invariant-loop-next : goal.invariant-loop-next
invariant-loop-next l = Sound l.grammar.sheet.now l.tokens l.set.bits

abbrev pub decreases-loop-next : goal.decreases-loop-next
decreases-loop-next l = 2 ^ 64 - l.set.bits
