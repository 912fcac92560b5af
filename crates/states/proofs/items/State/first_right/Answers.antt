-- `states::items::State::first_right` meets its contract: condition 1 is what it says of every item, and that (0,0) is in state 0. Assumes nothing.
use mathlib.Core.Bool.{Bool}
use mathlib.Core.Path.{subst⁻¹}
use Rattle.theory.specs.Check.Says.{Says, says_no, refused}
use Rattle.states.specs.First.{Condition1At, all_first}
use Rattle.states.proofs.items.State.first_right.Goals as goal

pub returns-else-firsts_right : goal.returns-else-firsts_right
returns-else-firsts_right c =
    let a = c.args.self.now in
    let t = a.states.now.firsts.now.grammar.now.sheet.now in
    subst⁻¹ (λ (b : Bool). Says b (Condition1At t a.s)) c.if-firsts_right.false
    (says_no (λ f. refused c.firsts_right.ensures c.if-firsts_right.false (all_first t a.s f)))
