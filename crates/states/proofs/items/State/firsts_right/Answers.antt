-- `states::items::State::firsts_right` meets its contract: each item is asked. Assumes nothing.
use borrow.Author.Rules.{rules}
use Rattle.definitions.specs.Sheet.{count}
use Rattle.states.specs.All.{says_from_all}
use Rattle.states.specs.First.{FirstFits}
use Rattle.states.proofs.items.State.firsts_right.Goals as goal

pub returns : goal.returns
returns c =
    let a = c.args.self.now in
    let t = a.states.now.firsts.now.grammar.now.sheet.now in
    let m = a.lies.many in
    says_from_all _ _ _ (count t a.s) (FirstFits t a.s) c.all.ensures.ran (cc) (λ x b q k. (search rules, search rules))
