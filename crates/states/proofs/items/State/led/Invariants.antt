-- `states::items::State::led` meets its contract: a round that adds nothing leaves the set that condition 7 goes by; a set that grew is a
-- larger number, below 2 ^ 64. Assumes nothing.
use Prim.Native.Nat.{◌^◌, ◌-◌}
use Rattle.states.specs.Chains.{Sound}
use Rattle.states.proofs.items.State.led.Given as goal

abbrev pub invariant-loop-more : goal.invariant-loop-more
invariant-loop-more l = Sound l.self.states.now.firsts.now.grammar.now.sheet.now l.self.s l.set.bits

abbrev pub decreases-loop-more : goal.decreases-loop-more
decreases-loop-more l = 2 ^ 64 - l.set.bits
