-- `states::items::State::find` meets its contract: items rise, so the half that is left out has no item (p,d). Assumes nothing.
use Prim.Native.Nat.{◌-◌}
use Rattle.states.proofs.Loops.{Halves}
use Rattle.states.proofs.items.State.find.Given as goal

abbrev pub invariant-loop-lo : goal.invariant-loop-lo
invariant-loop-lo l = Halves l.self.states.now.firsts.now.grammar.now.sheet.now l.self.s l.self.n l.want l.lo l.hi

abbrev pub decreases-loop-lo : goal.decreases-loop-lo
decreases-loop-lo l = l.hi - l.lo
