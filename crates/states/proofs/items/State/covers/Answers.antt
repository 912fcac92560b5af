-- `states::items::State::covers` meets its contract: (p,d) stands at one item at most, so the set that is found tells. Assumes nothing.
use mathlib.Core.Path.{subst}
use Prim.Native.Nat.{ℕ}
use Rattle.theory.specs.Check.Says.{Says}
use Rattle.terminals.specs.Members.{Within}
use Rattle.states.specs.Items.{covers_at, covers_none}
use Rattle.states.proofs.items.State.covers.Goals as goal

pub returns-in-Some : goal.returns-in-Some
returns-in-Some c =
    let a = c.args.self.now in
    let k = c.in-Some.ensures in
    covers_at a.states.now.firsts.now.grammar.now.sheet.now a.lies.laid a.s a.lies.state _ _ _ _ k.0 k.1
    (subst (λ (x : ℕ). Says c.within.result (Within c.args.set.bits x)) c.ahead.ensures c.within.ensures)

pub returns-in-None : goal.returns-in-None
returns-in-None c =
    let a = c.args.self.now in
    covers_none a.states.now.firsts.now.grammar.now.sheet.now a.lies.laid a.s a.lies.state _ _ _ c.requires.2 c.in-None.ensures
