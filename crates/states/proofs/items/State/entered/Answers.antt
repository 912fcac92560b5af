-- `states::items::State::entered` meets its contract: condition 6 is what it says of every item. Assumes nothing.
use borrow.Author.Rules.{rules}
use Rattle.definitions.specs.Sheet.{count}
use Rattle.theory.specs.Check.Says.{says_as}
use Rattle.states.specs.All.{says_from_all}
use Rattle.states.specs.Dots.{Entered, entered_all, all_entered}
use Rattle.states.proofs.items.State.entered.Goals as goal

pub returns : goal.returns
returns c =
    let a = c.args.self.now in
    let t = a.states.now.firsts.now.grammar.now.sheet.now in
    let m = a.lies.many in
    says_as (says_from_all _ _ _ (count t a.s) (Entered t c.args.s c.args.x a.s) c.all.ensures.ran (cc) (λ x b q k. (search rules, search rules))) entered_all all_entered
