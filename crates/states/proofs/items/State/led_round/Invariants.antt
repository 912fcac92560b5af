-- `states::items::State::led_round` meets its contract: a turn adds what its item opens. Assumes nothing.
use Prim.Native.Nat.{◌≤◌}
use Rattle.states.specs.Chains.{Round}
use Rattle.states.proofs.items.State.led_round.Given as goal

abbrev pub invariant-loop-i : goal.invariant-loop-i
invariant-loop-i l = (l.i ≤ l.self.n) × Round l.self.states.now.firsts.now.grammar.now.sheet.now l.self.s l.initial.more.bits l.i l.more.bits
