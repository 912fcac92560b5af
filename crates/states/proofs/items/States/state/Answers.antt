-- `states::items::States::state` meets its contract: what is stored of a state is its place. Assumes nothing.
use native.Mathlib.Omega.{arith}
use Rattle.sheet.specs.Within.{state_within}
use Rattle.states.proofs.items.States.state.Goals as goal

pub count-n-requires : goal.count-n-requires
count-n-requires c =
    let g = c.args.self.now in
    omega (arith, state_within _ g.firsts.now.grammar.now.laid c.args.s c.requires, g.places c.args.s (let h = c.requires in omega arith))
