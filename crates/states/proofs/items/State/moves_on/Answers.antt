-- `states::items::State::moves_on` meets its contract: condition 3 at a complete item, at one that leads nowhere, at any other. Assumes nothing.
use Rattle.std.proofs.Common.{arith}
use Rattle.states.specs.Items.{three_stuck, three_goes}
use Rattle.states.proofs.items.State.moves_on.Goals as goal

pub returns-in_default-target : goal.returns-in_default-target
returns-in_default-target c =
    three_stuck c.args.self.now.lies c.args.i c.requires c.in-Some.ensures c.in_default-target.ensures

pub returns : goal.returns
returns c =
    let u = c.in-Some-target.ensures in
    three_goes c.args.self.now.lies c.args.i c.requires c.in-Some.ensures (λ e. let v = u.1 in let m = c.args.self.now.lies.laid.head.states.1 in omega (arith, e)) u.0 c.prod.ensures.0 c.dot.ensures.0 c.ahead.ensures
    (rw (c.state-next.ensures.states, c.state-next.ensures.number) at c.covers.ensures)
