-- `states::items::State::ahead_right` meets its contract: condition 4 at an item that is complete and holds a. Assumes nothing.
use mathlib.Core.Path.{subst}
use Prim.Native.Nat.{ℕ}
use Rattle.definitions.specs.States.{Holds}
use Rattle.sheet.specs.Within.{action_within}
use Rattle.states.specs.Items.{four_asks}
use Rattle.states.proofs.items.State.ahead_right.Goals as goal

pub action-requires : goal.action-requires
action-requires c =
    let a = c.args.self.now in
    action_within a.states.now.firsts.now.grammar.now.sheet.now a.lies.laid a.s c.args.a a.lies.state c.requires.1

pub returns : goal.returns
returns c =
    let a = c.args.self.now in
    four_asks a.states.now.firsts.now.grammar.now.sheet.now a.s c.args.i c.args.a c.prod.ensures.0 c.action.ensures.0 c.asked.ensures
    (subst (λ (x : ℕ). Holds x c.args.a) c.ahead.ensures (c.holds.ensures.to c.if-not-holds.false))
    (c.complete.ensures.to c.if-not-complete.false)
