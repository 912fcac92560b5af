-- `states::items::State::chains_right` meets its contract: condition 7 holds where every item is ready. Assumes nothing.
use borrow.Author.Rules.{rules}
use Rattle.definitions.specs.Sheet.{count}
use Rattle.theory.specs.Check.Says.{says_as}
use Rattle.states.specs.All.{says_from_all}
use Rattle.states.specs.Chains.{Ready, ready_all, all_ready}
use Rattle.states.proofs.items.State.chains_right.Goals as goal

pub returns : goal.returns
returns c =
    let a = c.args.self.now in
    let t = a.states.now.firsts.now.grammar.now.sheet.now in
    let m = a.lies.many in
    says_as (says_from_all _ _ _ (count t a.s) (Ready t a.s c.led-set.result.bits) c.all.ensures.ran (cc) (λ x b q k. (search rules, search rules)))
    (ready_all c.led-set.ensures) (all_ready c.led-set.ensures)
